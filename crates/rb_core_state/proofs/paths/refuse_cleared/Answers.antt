use Rattle.std.proofs.Common.{sym, ap, ◌∙◌}
use Rattle.std.specs.Option.{option_map, option_and_then}
use Rattle.rb_scan.specs.Path.{Path}
use Rattle.rb_scan.specs.Owed.{packet_at}
use Rattle.rb_core_model.specs.Standing.{view_of_path, cleared_refusal}
use Rattle.rb_core_state.proofs.paths.refuse_cleared.Goals as goal

pub returns : goal.returns
returns g c = λ books. c.refuse_cleared.ensures ∙ ap (λ o. option_and_then (λ (v : Path). cleared_refusal (packet_at v c.args.sequence)) (option_map (view_of_path books) o)) (sym c.path_in.ensures)
