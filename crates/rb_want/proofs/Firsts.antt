-- The first of what elements give.
use Rattle.std.proofs.Common.{◌≡◌, ℕ, ◌+◌, ◌<◌, List, [], ◌∷◌, ◌++◌, append-nil, length, get_or, take, drop, ap, sym, ◌∙◌}
use Rattle.std.specs.Prelude.{Option, Some, None, slice_get}
use Rattle.std.specs.List.{cons_option, filter_map}
use Rattle.std.proofs.lemmas.List.{drop_more, take_more, take-append-drop}
use Rattle.std.proofs.lemmas.List.Elements.{filter_map-append}
use Rattle.rb_script_types.specs.declared.goal.Goal.{Goal}
use Rattle.rb_script_types.specs.declared.script.Asked.{Asked}
use Rattle.rb_want.specs.Needs.{goal_at, goal_if}

module _ {X Y : Type 0} (give : X → Option Y) where
  nothing_more : (xs : List X) (i : ℕ) (x : X) → i < length xs → x ≡ get_or xs i x → give x ≡ None → filter_map give (take i xs) ≡ []
      → filter_map give (take (i + 1) xs) ≡ []
  nothing_more xs i x small is none before =
      ap (filter_map give) (take_more xs i x small ∙ ap (λ y. take i xs ++ y ∷ []) (sym is)) ∙ filter_map-append give (take i xs) (x ∷ [])
      ∙ ap (λ o. filter_map give (take i xs) ++ cons_option o []) none ∙ append-nil (filter_map give (take i xs)) ∙ before

  first_at : (xs : List X) (i : ℕ) (x : X) (y : Y) → i < length xs → x ≡ get_or xs i x → filter_map give (take i xs) ≡ [] → give x ≡ Some y
      → slice_get (filter_map give xs) 0 ≡ Some y
  first_at xs i x y small is none here =
      let rest : drop i xs ≡ x ∷ drop (i + 1) xs = drop_more xs i x small ∙ ap (λ z. z ∷ drop (i + 1) xs) (sym is) in
      let whole : filter_map give xs ≡ filter_map give (take i xs) ++ filter_map give (drop i xs) =
      ap (filter_map give) (sym (take-append-drop i xs)) ∙ filter_map-append give (take i xs) (drop i xs) in
      let behind : filter_map give (drop i xs) ≡ y ∷ filter_map give (drop (i + 1) xs) =
      ap (filter_map give) rest ∙ ap (λ o. cons_option o (filter_map give (drop (i + 1) xs))) here in
      ap (λ l. slice_get l 0) (whole ∙ ap (λ l. l ++ filter_map give (drop i xs)) none ∙ behind)

pub goal_none : (place : ℕ) (goals : List Asked) (i : ℕ) (a : Asked) → i < length goals → a ≡ get_or goals i a → goal_if place a ≡ None
    → filter_map (goal_if place) (take i goals) ≡ [] → filter_map (goal_if place) (take (i + 1) goals) ≡ []
goal_none place goals i a small is none before = nothing_more (goal_if place) goals i a small is none before

pub goal_first : (place : ℕ) (goals : List Asked) (i : ℕ) (a : Asked) (g : Goal) → i < length goals → a ≡ get_or goals i a
    → filter_map (goal_if place) (take i goals) ≡ [] → goal_if place a ≡ Some g → goal_at place goals ≡ Some g
unfolding goal_at
goal_first place goals i a g small is none here = first_at (goal_if place) goals i a g small is none here

pub goal_missing : (place : ℕ) (goals : List Asked) → filter_map (goal_if place) goals ≡ [] → goal_at place goals ≡ None
unfolding goal_at
goal_missing place goals none = ap (λ l. slice_get l 0) none

pub ruleset firsts = (goal_none, goal_first, goal_missing)
