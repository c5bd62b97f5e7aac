use Rattle.std.proofs.Common.{rules, sym}
use Rattle.std.proofs.lemmas.Bool.{true≢false}
use Rattle.rb_import_check.specs.Sets.{IsPlaceOf}
use Rattle.rb_import_merge.proofs.Naming.{gains_one, not_seen}
use Rattle.rb_import_merge.proofs.sets.add_place.Goals as goal

pub returns-in_ok-push : goal.returns-in_ok-push
returns-in_ok-push c =
    gains_one (IsPlaceOf c.args.sets.now.sets.items c.args.hash.now) c.args.places.now.items _ c.in-Some.place (search rules) c.in-Some.ensures.place c.in-Some.ensures.only

pub returns-in_default : goal.returns-in_default
returns-in_default c = not_seen c.args.sets.now.sets.items c.args.hash.now c.args.places.now.items (λ w. true≢false (sym (c.in_default.ensures.found.1 w)))
