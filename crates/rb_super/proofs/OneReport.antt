-- A script has at most one report.
use Rattle.std.proofs.Common.{◌≡◌, List, [], ◌∷◌, refl, subst}
use Rattle.rb_plan_types.specs.Laws.{AnswersAreOne}
use Rattle.rb_core_model.specs.Standing.{Standing, opening_standing}
use Rattle.rb_super_turn.specs.Report.{TurnReport, Report}
use Rattle.rb_super_turn.specs.Script.{Turn}
use Rattle.rb_super_turn.specs.Turns.{AreTurnReports, after_turn}
use Rattle.rb_super.specs.Laws.{ReportIsOne}
use Rattle.rb_super_turn.proofs.OneReport.{CutsAreOne, one_turn}

module _ (one : AnswersAreOne) (cuts : CutsAreOne) where
  one_run : (s : Standing) (ts : List Turn) (r q : Report) → AreTurnReports s ts r → AreTurnReports s ts q → r ≡ q
  one_run s [] [] [] a b = refl
  one_run s [] [] (q ∷ qs) a b = absurd b
  one_run s [] (r ∷ rs) qs a b = absurd a
  one_run s (t ∷ ts) [] qs a b = absurd a
  one_run s (t ∷ ts) (r ∷ rs) [] a b = absurd b
  one_run s (t ∷ ts) (r ∷ rs) (q ∷ qs) a b =
      let here = one_turn one cuts s t r q a.0 b.0 in
      let rest = one_run (after_turn s t q) ts rs qs (subst (λ (x : TurnReport). AreTurnReports (after_turn s t x) ts rs) here a.1) b.1 in
      λ i. here i ∷ rest i

  pub one_report : ReportIsOne
  one_report = λ script r q a b. one_run (opening_standing script.config) script.turns r q a b
