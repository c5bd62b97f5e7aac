-- What takes an open batch.
use Rattle.std.proofs.Common.{◌≡◌, ℕ, zero, suc, ◌+◌, ◌<◌, ◌≤◌, List, [], ◌∷◌, ◌++◌, Option, Some, None, length, refl, sym, ap, ◌∙◌, append_assoc, append-nil, arith}
use Rattle.std.specs.List.{fold, range_with_len, AllByRecursion}
use Rattle.std.specs.Option.{option_map, option_to_list}
use Rattle.std.proofs.lemmas.Option.{none-some, same_Some}
use Rattle.rb_core_model.specs.Standing.{OpenBatch, Standing, batch_open}
use Rattle.rb_script_types.specs.declared.script.Settlement.{Settlement}
use Rattle.rb_super_turn.specs.Turns.{settlement_report, taking, after_taking, taking_reports}

-- it is of the client that was asked for
pub taker : (s : Standing) (client : ℕ) (x : Settlement) → taking s client ≡ Some x → x.client ≡ client
taker s client x e = go (batch_open s client) e
  where
    go : (o : Option OpenBatch) → option_map (λ (b : OpenBatch). record { client = client; batch = b.number; done = length b.transactions }) o ≡ Some x → x.client ≡ client
    go None none = absurd (none-some x none)
    go (Some b) some = ap (λ (y : Settlement). y.client) (sym (same_Some _ x some))

-- numbers in a row are below its end
pub row_below : (count first end : ℕ) → first + count ≤ end → AllByRecursion (λ n. n < end) (range_with_len first count)
row_below zero first end le = tt
row_below (suc count) first end le = (omega arith, row_below count (first + 1) end (omega arith))

-- a row with one number more
pub row_push : (count first : ℕ) → range_with_len first (count + 1) ≡ range_with_len first count ++ (first + count) ∷ []
row_push zero first = (let same : first ≡ first + 0 = omega arith in ap (λ n. n ∷ []) same)
row_push (suc count) first =
    let same : (first + 1) + count ≡ first + suc count = omega arith in
    let next : suc count + 1 ≡ suc (count + 1) = omega arith in
    ap (range_with_len first) next ∙ ap (λ ns. first ∷ ns) (row_push count (first + 1) ∙ ap (λ n. range_with_len (first + 1) count ++ n ∷ []) same)

-- the reports of takings, with one client more
pub takings_push : (clients : List ℕ) (client : ℕ) (s : Standing)
    → taking_reports s (clients ++ client ∷ []) ≡ taking_reports s clients ++ option_to_list (option_map (settlement_report (fold after_taking s clients)) (taking (fold after_taking s clients) client))
takings_push [] client s = append-nil (option_to_list (option_map (settlement_report s) (taking s client)))
takings_push (n ∷ ns) client s =
    let here = option_to_list (option_map (settlement_report s) (taking s n)) in
    let u = fold after_taking (after_taking s n) ns in
    ap (λ rs. here ++ rs) (takings_push ns client (after_taking s n)) ∙ sym (append_assoc here (taking_reports (after_taking s n) ns) (option_to_list (option_map (settlement_report u) (taking u client))))
