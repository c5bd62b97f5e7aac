use Rattle.std.proofs.Common.{◌≡◌, ◌≤◌, Some, length, arith, sym, ◌∙◌}
use Rattle.std.specs.Prelude.{slice_get}
use Rattle.std.proofs.lemmas.Bool.{true≢false}
use Rattle.std.proofs.lemmas.Grind.{common_steps}
use Rattle.std.proofs.lemmas.Option.{slice_get_past, slice_get-get_or}
use Rattle.std.proofs.lemmas.Slice.Eq.{bytes_eq-Decides}
use Rattle.rb_import_check.proofs.SetsLemmas.{only_set, unseen_none, unseen_past, unseen_other}
use Rattle.rb_import_check.proofs.sets.SeenSets.with_hash.Goals as goal

pub returns-in_default-clause-found : goal.returns-in_default-clause-found
returns-in_default-clause-found c =
    (λ e. absurd (true≢false (sym e)), λ seen. absurd (unseen_none _ c.args.self.now.places _ c.args.self.now.indexed (sym c.get.ensures.value ∙ sym c.copied.ensures ∙ c.in_default.is) seen))

pub returns-in_default-get-clause-found : goal.returns-in_default-get-clause-found
returns-in_default-get-clause-found c =
    let past : length c.args.self.now.sets.items ≤ c.in-Some.place = grind (arith, common_steps) in (
      λ e. absurd (true≢false (sym e)),
      λ seen. absurd (unseen_past _ c.args.self.now.places _ c.in-Some.place c.args.self.now.indexed (sym c.get.ensures.value ∙ sym c.copied.ensures ∙ c.in-Some.is) (slice_get_past _ _ past) seen),
    )

pub returns-then-eq-clause-only : goal.returns-then-eq-clause-only
returns-then-eq-clause-only c =
    let at : slice_get c.args.self.now.sets.items c.in-Some.place ≡ Some c.in-Some-get.seen.now = grind (arith, common_steps, slice_get-get_or) in
    only_set _ c.args.self.now.places _ c.in-Some.place _ c.args.self.now.indexed (sym c.get.ensures.value ∙ sym c.copied.ensures ∙ c.in-Some.is) at

pub returns-else-eq-clause-found : goal.returns-else-eq-clause-found
returns-else-eq-clause-found c =
    let at : slice_get c.args.self.now.sets.items c.in-Some.place ≡ Some c.in-Some-get.seen.now = grind (arith, common_steps, slice_get-get_or) in (
      λ e. absurd (true≢false (sym e)),
      λ seen. absurd (unseen_other _ c.args.self.now.places _ c.in-Some.place c.in-Some-get.seen.now c.args.self.now.indexed (sym c.get.ensures.value ∙ sym c.copied.ensures ∙ c.in-Some.is) at
          (λ same. true≢false (sym ((bytes_eq-Decides _ _).1 (c.hash.ensures ∙ same)) ∙ sym c.eq.ensures ∙ c.if-eq.false)) seen),
    )
