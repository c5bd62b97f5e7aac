-- The parts of a path round its last mark, and loops over pages.
use Rattle.std.proofs.Common.{append-nil, ◌≡◌, ◌≢◌, ℕ, suc, ◌+◌, ◌<◌, ◌==◌, Bool, true, false, List, [], ◌∷◌, ◌++◌, length, take, drop, get_or, Option, Some, None, option_map, MatchOption, Bor, refl, sym, ap, subst, ◌∙◌, arith, eq-eqb}
use Rattle.std.specs.Str.{NoCharPasses}
use Rattle.std.specs.Str.Pattern.{HasCharAt, RFindsChar, SplitsAroundMatch}
use Rattle.std.proofs.lemmas.Bool.{eqb-true, false_from_ne_true}
use Rattle.std.specs.Prelude.{count_by}
use Rattle.std.specs.List.{cons_option, filter_map}
use Rattle.std.proofs.lemmas.List.{take-append-drop, take_more}
use Rattle.std.proofs.lemmas.List.Elements.{filter_map-append}
use Rattle.std.proofs.lemmas.List.Sums.{count_by_more_no, count_by_more_yes}
use Rattle.std.proofs.lemmas.Str.Pattern.{NoCharPasses-char, drop_at_char}
use Rattle.rb_import_check.specs.declared.saved.Saved.{Saved}
use Rattle.rb_import_notices.specs.Pages.{at_last, page_named}

module _ (c : ℕ) (small : c < 128) where
  none_there : (bs : List ℕ) → ((i : ℕ) → i < length bs → get_or bs i 0 ≢ c) → at_last c bs ≡ None
  none_there [] h = refl
  none_there (b ∷ bs) h =
      let other : (b == c) ≡ false = false_from_ne_true _ (λ e. h 0 (omega arith) (eqb-true b c e)) in
      rw (none_there bs (λ i k. h (suc i) (omega arith)), other) refl

  last_there : (front back : List ℕ) → at_last c back ≡ None → at_last c (front ++ c ∷ back) ≡ Some (front, back)
  last_there [] back none = rw (none, eq-eqb c c refl) refl
  last_there (b ∷ front) back none = rw (last_there front back none) refl

  mark_none : (text : List ℕ) → NoCharPasses (λ d. d == c) text → at_last c text ≡ None
  mark_none text h = none_there text (λ i k. NoCharPasses-char c text i h small k)

  mark_some : (text : List ℕ) (i j : ℕ) → HasCharAt c text i j → NoCharPasses (λ d. d == c) (drop j text) → at_last c text ≡ Some (take i text, drop j text)
  mark_some text i j at none =
      subst (λ t. at_last c t ≡ Some (take i text, drop j text)) (ap (λ rest. take i text ++ rest) (sym (drop_at_char c text i j at small)) ∙ take-append-drop i text)
      (last_there (take i text) (drop j text) (mark_none (drop j text) none))

  -- the parts round the last mark, as `rsplit_once` gives them
  pub mark_split : (text : List ℕ) (r : Option (Bor (List ℕ) × Bor (List ℕ)))
      → MatchOption r (RFindsChar c text None) (λ x. SplitsAroundMatch (RFindsChar c) text x.0.now x.1.now)
      → option_map (λ p. (p.0.now, p.1.now)) r ≡ at_last c text
  mark_split text None h = sym (mark_none text h)
  mark_split text (Some x) h = rw (h.3, h.4) (sym (mark_some text h.0 h.1 h.2.1 h.2.0))

-- ---- loops

pub one_more : {X : Type 0} (p : X → Bool) (xs : List X) (i : ℕ) (x : X) → i < length xs → x ≡ get_or xs i x → p x ≡ true → count_by p (take (i + 1) xs) ≡ count_by p (take i xs) + 1
one_more p xs i x small is passes = count_by_more_yes p xs i x small (subst (λ y. p y ≡ true) is passes)

pub as_many : {X : Type 0} (p : X → Bool) (xs : List X) (i : ℕ) (x : X) → i < length xs → x ≡ get_or xs i x → p x ≡ false → count_by p (take (i + 1) xs) ≡ count_by p (take i xs)
as_many p xs i x small is fails = count_by_more_no p xs i x small (subst (λ y. p y ≡ false) is fails)

pub ruleset counting = (one_more, as_many)

pub page_more : (pages : List ℕ) (page : ℕ) (saved : List Saved) (i : ℕ) (s : Saved) → i < length saved → s ≡ get_or saved i s → pages ≡ filter_map page_named (take i saved)
    → Some page ≡ page_named s → pages ++ page ∷ [] ≡ filter_map page_named (take (i + 1) saved)
page_more pages page saved i s small is was here =
    let more : filter_map page_named (take (i + 1) saved) ≡ filter_map page_named (take i saved) ++ cons_option (page_named s) [] =
    ap (filter_map page_named) (take_more saved i s small ∙ ap (λ y. take i saved ++ y ∷ []) (sym is)) ∙ filter_map-append page_named (take i saved) (s ∷ []) in
    ap (λ l. l ++ page ∷ []) was ∙ sym (more ∙ ap (λ o. filter_map page_named (take i saved) ++ cons_option o []) (sym here))

pub page_none : (pages : List ℕ) (saved : List Saved) (i : ℕ) (s : Saved) → i < length saved → s ≡ get_or saved i s → pages ≡ filter_map page_named (take i saved)
    → None ≡ page_named s → pages ≡ filter_map page_named (take (i + 1) saved)
page_none pages saved i s small is was none =
    let more : filter_map page_named (take (i + 1) saved) ≡ filter_map page_named (take i saved) ++ cons_option (page_named s) [] =
    ap (filter_map page_named) (take_more saved i s small ∙ ap (λ y. take i saved ++ y ∷ []) (sym is)) ∙ filter_map-append page_named (take i saved) (s ∷ []) in
    was ∙ sym (more ∙ ap (λ o. filter_map page_named (take i saved) ++ cons_option o []) (sym none) ∙ append-nil (filter_map page_named (take i saved)))

pub ruleset gathering = (page_more, page_none)
