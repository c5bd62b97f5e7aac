use Rattle.std.proofs.Common.{◌≤◌, length, option_map, option_to_list, refl, rules}
use Rattle.rb_script_types.specs.declared.observation.Observation.TheVariants.{SetSeen}
use Rattle.rb_import_check.specs.declared.sets.SeenSet.{SeenSet}
use Rattle.rb_import.proofs.Lists.{nothing_at}
use Rattle.rb_import.proofs.chains.push_set.Goals as goal

pub returns-in-None : goal.returns-in-None
returns-in-None c =
    let sets = c.args.chain.now.sets.sets.items in
    let past : length sets ≤ c.args.number = search rules in
    nothing_at (λ o. option_to_list (option_map (λ (s : SeenSet). SetSeen c.args.place s.set) o)) sets c.args.number c.args.events.now.items refl past
