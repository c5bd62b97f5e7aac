use Rattle.std.proofs.Common.{◌≡◌, ℕ, ◌==◌, true, Option, Some, ap, sym, refl, ◌∙◌, inl, inr, arith}
use Rattle.std.specs.Option.{option_map_or}
use Rattle.std.proofs.lemmas.Bool.{cases_lt, ltb-true, lt-ltb, eq-eqb, ne_eqb, true≢false}
use Rattle.rb_explain.specs.Wanted.{has_turn}
use Rattle.rb_explain.specs.declared.wanted.Wanted.{Wanted}
use Rattle.rb_explain.proofs.wanted.Wanted.ends_before.Goals as goal

wants_one : (w : Wanted) (turn later : ℕ) → w.turn ≡ Some turn → has_turn w later ≡ (turn == later)
wants_one w turn later is = ap (λ (o : Option ℕ). option_map_or (λ (n : ℕ). n == later) o true) is

pub returns-in-Some : goal.returns-in-Some
returns-in-Some c =
    let w = c.args.self.now in
    let turn = c.in-Some.turn in
    let number = c.args.number in (
      λ lt later le. wants_one w turn later c.in-Some.is ∙ ne_eqb turn later (λ same. let below = ltb-true turn number lt in omega (arith, below, le, same)),
      λ none. elim (cases_lt turn number) [
        | inl lt ↦ lt-ltb turn number lt
        | inr past ↦ absurd (true≢false (sym (eq-eqb turn turn refl) ∙ sym (wants_one w turn turn c.in-Some.is) ∙ none turn past))
      ],
    )
