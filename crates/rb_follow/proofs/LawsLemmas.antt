-- Reports of beginnings, and answers as reports.
use Rattle.std.proofs.Common.{◌≡◌, ℕ, zero, suc, ◌+◌, Bool, true, false, List, [], ◌∷◌, ◌++◌, map, take, Option, Some, None, refl, ap, subst, ◌∙◌, if◌then◌else◌}
use Rattle.std.specs.Option.{option_map, option_map_or}
use Rattle.std.specs.declared.alloc.Global.{Global}
use Rattle.rb_base.specs.Window.{Span}
use Rattle.rb_plan_types.specs.Laws.{AnswersAreOne}
use Rattle.rb_core_model.specs.Forgetting.{floor, floors_of, rest, rest_at_floors, has_many_to_forget}
use Rattle.rb_core_model.specs.Standing.{Standing, opening_standing}
use Rattle.rb_super.specs.Forgetful.{forgotten, floors_if}
use Rattle.rb_super.specs.Forgetting.{ForgettingByFloorsIsUnseen}
use Rattle.rb_script_types.specs.Config.{Config}
use Rattle.rb_script_types.specs.Script.{Turn as SeenTurn}
use Rattle.rb_script_types.specs.declared.version.Version.{Version}
use Rattle.rb_script_types.specs.declared.version.Version.TheVariants.{One, Two, Three, Four}
use Rattle.rb_script_read.specs.Turns.{Reading}
use Rattle.rb_super_turn.specs.AsEvents.{turn_as_events}
use Rattle.rb_super_turn.proofs.OneReport.{CutsAreOne, one_turn}
use Rattle.rb_super_turn.specs.Report.{TurnReport, Report}
use Rattle.rb_super_turn.specs.Script.{Turn}
use Rattle.rb_super_turn.specs.Turns.{IsTurnReport, AreTurnReports, after_turn}
use Rattle.rb_text_report.specs.Report.{turn_text, numbered_lines}
use Rattle.rb_follow.specs.Tidying.{least_to_go, forgets, raised}
use Rattle.rb_follow.specs.Reports.{AreReportsIn}
use Rattle.rb_follow.specs.Answers.{reports_in}
use Rattle.rb_follow.specs.Followers.{Following, planned, refused, most_events, emptied, tidied, after_report}
use Rattle.rb_follow.specs.Laws.{BeginningsAreReported, AnswersAreReports, IsForgetful, ForgettingChangesNoAnswer, AnswersAreLines}

beginnings : (s : Standing) (ts : List Turn) (rs : Report) (count : ℕ) → AreTurnReports s ts rs → AreTurnReports s (take count ts) (take count rs)
beginnings s ts rs zero h = tt
beginnings s [] [] (suc n) h = tt
beginnings s [] (r ∷ rs) (suc n) h = absurd h
beginnings s (t ∷ ts) [] (suc n) h = absurd h
beginnings s (t ∷ ts) (r ∷ rs) (suc n) h = (h.0, beginnings (after_turn s t r) ts rs n h.1)

pub beginnings_reported : BeginningsAreReported
beginnings_reported script report count h = beginnings (opening_standing script.config) script.turns report count h

-- ---- answers as reports

left_at : (s : Standing) (w : Option Span) → option_map_or (λ w. rest (floor w s) s) w s ≡ forgotten (option_map (λ w. floor w s) w) s
left_at s None = refl
left_at s (Some w) = refl

-- what is left after a turn
abbrev left_after : Standing → Standing
left_after s = forgotten (floors_if (has_many_to_forget least_to_go) s) s

left_by : (b : Bool) (s : Standing) → (if b then rest_at_floors s else s) ≡ forgotten (if b then option_map (λ w. floor w s) s.window else None) s
left_by false s = refl
left_by true s = left_at s s.window

tidied_by : (b : Bool) (f t : Following) → (if b then t else f).standing ≡ (if b then t.standing else f.standing)
tidied_by false f t = refl
tidied_by true f t = refl

same_by : (b : Bool) (f t : Following) → t.config ≡ f.config → (if b then t else f).config ≡ f.config
same_by false f t e = refl
same_by true f t e = e

-- a follower that is tidied: its standing, where its version forgets and where it doesn't
keeps_config : (f : Following) → (tidied f).config ≡ f.config
keeps_config f = same_by (forgets f.config.version f.standing) f (emptied f) refl

same_turns : (b : Bool) (f t : Following) → t.turns ≡ f.turns → (if b then t else f).turns ≡ f.turns
same_turns false f t e = refl
same_turns true f t e = e

keeps_turns : (f : Following) → (tidied f).turns ≡ f.turns
keeps_turns f = same_turns (forgets f.config.version f.standing) f (emptied f) refl

abbrev stands : (v : Version) → Standing → Standing
stands One s = s
stands Two s = s
stands Three s = left_after s
stands Four s = left_after s

stands_by : (v : Version) (s : Standing) → (if forgets v s then rest_at_floors s else s) ≡ stands v s
stands_by One s = refl
stands_by Two s = refl
stands_by Three s = left_by (has_many_to_forget least_to_go s) s
stands_by Four s = left_by (has_many_to_forget least_to_go s) s

left_standing : (f : Following) → (tidied f).standing ≡ stands f.config.version f.standing
left_standing f = tidied_by (forgets f.config.version f.standing) f (emptied f)
    ∙ stands_by f.config.version f.standing

none_in : (v : Version) (s : Standing) → AreReportsIn v s [] []
none_in One s = tt
none_in Two s = tt
none_in Three s = tt
none_in Four s = tt

one_more : (v : Version) (s : Standing) (t : Turn) (ts : List Turn) (r : TurnReport) (rs : Report) → IsTurnReport s t r
    → AreReportsIn v (stands v (after_turn s t r)) ts rs → AreReportsIn v s (t ∷ ts) (r ∷ rs)
one_more One s t ts r rs is more = (is, more)
one_more Two s t ts r rs is more = (is, more)
one_more Three s t ts r rs is more = (is, more)
one_more Four s t ts r rs is more = (is, more)

more_from : (f : Following) (ts : List Turn) (rs : Report) → AreReportsIn (tidied f).config.version (tidied f).standing ts rs
    → AreReportsIn f.config.version (stands f.config.version f.standing) ts rs
more_from f ts rs h =
    subst (λ (s : Standing). AreReportsIn f.config.version s ts rs) (left_standing f)
    (subst (λ (c : Config). AreReportsIn c.version (tidied f).standing ts rs) (keeps_config f) h)

-- the follower before it is tidied
abbrev untidied : Following → SeenTurn Global × Reading → TurnReport → Following
untidied f x r = record f {
  turns = f.turns + 1;
  reading = x.1;
  events = f.events + most_events f.config x.0;
  standing = after_turn f.standing (turn_as_events x.0) r;
}

pub answers_reports : AnswersAreReports
answers_reports f [] [] [] g h = none_in f.config.version f.standing
answers_reports f [] [] (t ∷ ts) g h = absurd h
answers_reports f [] (a ∷ rest) ts g h = absurd h
answers_reports f (d ∷ ds) [] ts g h = absurd h
answers_reports f (d ∷ ds) (planned number r ∷ rest) [] g h = absurd h
answers_reports f (d ∷ ds) (planned number r ∷ rest) (t ∷ ts) g h =
    one_more f.config.version f.standing (turn_as_events t) (map turn_as_events ts) r (reports_in rest) h.3
    (more_from (untidied f (t, h.0) r) (map turn_as_events ts) (reports_in rest) (answers_reports (after_report f (t, h.0) r) ds rest ts g h.4))
answers_reports f (d ∷ ds) (refused fault ∷ rest) ts g h = answers_reports f ds rest ts g h.1

-- ---- what is forgotten changes no answer

module _ (one : AnswersAreOne) (cuts : CutsAreOne) where
  one_forgetful : (s : Standing) (ts : List Turn) (rs qs : Report) → AreReportsIn Three s ts rs → AreReportsIn Three s ts qs → rs ≡ qs
  one_forgetful s [] [] [] a b = refl
  one_forgetful s [] [] (q ∷ qs) a b = absurd b
  one_forgetful s [] (r ∷ rs) qs a b = absurd a
  one_forgetful s (t ∷ ts) [] qs a b = absurd a
  one_forgetful s (t ∷ ts) (r ∷ rs) [] a b = absurd b
  one_forgetful s (t ∷ ts) (r ∷ rs) (q ∷ qs) a b =
      let here = one_turn one cuts s t r q a.0 b.0 in
      let more = one_forgetful (left_after (after_turn s t q)) ts rs qs
      (subst (λ (x : TurnReport). AreReportsIn Three (left_after (after_turn s t x)) ts rs) here a.1) b.1 in
      λ i. here i ∷ more i

  -- versions that forget report alike
  one_by : (version : Version) → IsForgetful version → (s : Standing) (ts : List Turn) (rs qs : Report) → AreReportsIn version s ts rs → AreReportsIn Three s ts qs → rs ≡ qs
  one_by One forgets s ts rs qs a b = absurd forgets
  one_by Two forgets s ts rs qs a b = absurd forgets
  one_by Three forgets s ts rs qs a b = one_forgetful s ts rs qs a b
  one_by Four forgets s ts rs qs a b = one_forgetful s ts rs qs a b

  pub changes_no_answer : ForgettingByFloorsIsUnseen → ForgettingChangesNoAnswer
  changes_no_answer unseen version script reports free does is are spared forgetful =
      let opening = opening_standing script.config in
      one_by version does opening script.turns reports free forgetful (unseen (has_many_to_forget least_to_go) script free is spared are)

-- ---- answers as lines

pub answers_lines : AnswersAreLines
answers_lines version chains paths f [] [] [] g h = refl
answers_lines version chains paths f [] [] (t ∷ ts) g h = absurd h
answers_lines version chains paths f [] (a ∷ rest) ts g h = absurd h
answers_lines version chains paths f (d ∷ ds) [] ts g h = absurd h
answers_lines version chains paths f (d ∷ ds) (planned number r ∷ rest) [] g h = absurd h
answers_lines version chains paths f (d ∷ ds) (planned number r ∷ rest) (t ∷ ts) g h =
    rw h.2
    (ap (λ text. turn_text version chains paths (f.turns + 1) r ++ text)
    (answers_lines version chains paths (after_report f (t, h.0) r) ds rest ts g h.4 ∙ ap (λ n. numbered_lines (turn_text version chains paths) (n + 1) (reports_in rest)) (keeps_turns (untidied f (t, h.0) r))))
answers_lines version chains paths f (d ∷ ds) (refused fault ∷ rest) ts g h = answers_lines version chains paths f ds rest ts g h.1
