-- The commands of turns, one turn after the other.
use Rattle.std.proofs.Common.{◌≡◌, ℕ, ◌+◌, ◌<◌, List, ◌∷◌, ◌++◌, append_assoc, ap, drop, get_or, length, map, subst, sym, ◌∙◌, Option}
use Rattle.std.specs.Global.{Global}
use Rattle.std.proofs.lemmas.List.{drop_more}
use Rattle.rb_super_turn.specs.Views.{turn_report_view}
use Rattle.rb_super_turn.specs.declared.report.TurnReport.{TurnReport}
use Rattle.rb_text_export.specs.Commands.{turns_text, wanted_text}
use Rattle.rb_text_export.specs.Windows.{InForce, Setting, in_turn}

-- those of the next turn are there, and those of the others are left
pub next_turn : (s : Setting) (wanted : Option ℕ) (turns : List (TurnReport Global)) (place : ℕ) (t : TurnReport Global) (before now : InForce) (made more all : List ℕ)
    → place < length turns → t ≡ get_or turns place t → now ≡ in_turn s place (turn_report_view t) before
    → more ≡ made ++ wanted_text s.config wanted place now (turn_report_view t)
    → made ++ turns_text s wanted place before (map turn_report_view (drop place turns)) ≡ all
    → more ++ turns_text s wanted (place + 1) now (map turn_report_view (drop (place + 1) turns)) ≡ all
next_turn s wanted turns place t before now made more all lt is force added left =
    let at : drop place turns ≡ t ∷ drop (place + 1) turns = drop_more turns place t lt ∙ ap (λ z. z ∷ drop (place + 1) turns) (sym is) in
    let here : made ++ turns_text s wanted place before (map turn_report_view (t ∷ drop (place + 1) turns)) ≡ all =
    subst (λ ts. made ++ turns_text s wanted place before (map turn_report_view ts) ≡ all) at left in
    rw added (rw force (
    append_assoc made (wanted_text s.config wanted place (in_turn s place (turn_report_view t) before) (turn_report_view t))
    (turns_text s wanted (place + 1) (in_turn s place (turn_report_view t) before) (map turn_report_view (drop (place + 1) turns)))
    ∙ here
    ))
