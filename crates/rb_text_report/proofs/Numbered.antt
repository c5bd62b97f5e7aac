-- The next element's text, and the texts after it.
use Rattle.std.proofs.Common.{◌≡◌, ℕ, ◌+◌, ◌<◌, List, [], ◌∷◌, ◌++◌, length, take, drop, get_or, map, sym, ap, ◌∙◌}
use Rattle.std.specs.List.{flat_map}
use Rattle.std.proofs.lemmas.List.{drop_more, take_more, append-nil, map-append}
use Rattle.std.proofs.lemmas.Grind.{flat_map-append}
use Rattle.rb_text_report.specs.Report.{numbered_lines}

-- what is left from a place on, by the number and the element that a loop has
pub numbered_more : {X Y : Type 0} (lines : ℕ → Y → List ℕ) (view : X → Y) (xs : List X) (i n : ℕ) (x : X) → i < length xs → n ≡ i + 1 → x ≡ get_or xs i x
    → numbered_lines lines (i + 1) (map view (drop i xs)) ≡ lines n (view x) ++ numbered_lines lines (i + 1 + 1) (map view (drop (i + 1) xs))
numbered_more lines view xs i n x lt number at =
    rw number (
    rw (drop_more xs i x lt) (ap (λ y. lines (i + 1) (view y) ++ numbered_lines lines (i + 1 + 1) (map view (drop (i + 1) xs))) (sym at)))

-- the texts of the elements so far, and the next one's
pub flat_map_more : {X Y : Type 0} (lines : Y → List ℕ) (view : X → Y) (xs : List X) (i : ℕ) (x : X) → i < length xs → x ≡ get_or xs i x
    → flat_map lines (map view (take (i + 1) xs)) ≡ flat_map lines (map view (take i xs)) ++ lines (view x)
flat_map_more lines view xs i x lt at =
    ap (λ ys. flat_map lines (map view ys)) (take_more xs i x lt)
    ∙ ap (flat_map lines) (map-append view (take i xs) (get_or xs i x ∷ []))
    ∙ flat_map-append lines (map view (take i xs)) (view (get_or xs i x) ∷ [])
    ∙ ap (λ ys. flat_map lines (map view (take i xs)) ++ ys) (append-nil (lines (view (get_or xs i x))) ∙ ap (λ y. lines (view y)) (sym at))
