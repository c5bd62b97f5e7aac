use Rattle.std.proofs.Common.{◌≡◌, None, map, refl, subst}
use Rattle.rb_want.specs.Adding.{no_outcome, told_of}
use Rattle.rb_want.specs.Needs.{IsCaseOf, tracking_at}
use Rattle.rb_want.proofs.Seeking.{outcome_none}
use Rattle.rb_want.proofs.Zipped.{none_needed}
use Rattle.rb_want.proofs.asking.add_client.Goals as goal

-- one of its folders isn't there
pub returns-in-None-clause-outcome : goal.returns-in-None-clause-outcome
returns-in-None-clause-outcome c =
    let setup = c.args.setup.now in
    let folders = c.args.folders.now in
    let told = told_of c.args.wanted.now in
    let there = map (λ a. a.folder.now) c.args.chains.now in
    let none : tracking_at setup folders.clients.items there (c.args.place, c.args.client.now) ≡ None =
    subst (IsCaseOf setup folders.clients.items there (c.args.place, c.args.client.now)) c.in-None.is c.in_ok-case.ensures in (
      no_outcome,
      none_needed setup folders (c.args.place, c.args.client.now)
          (subst (λ l. tracking_at setup folders.clients.items l (c.args.place, c.args.client.now) ≡ None) c.requires none),
      outcome_none c.args.wanted.now.folders.now told told refl refl refl,
    )
