use Rattle.std.proofs.Common.{◌∙◌, ap, subst}
use Rattle.std.specs.Prelude.{IfOk}
use Rattle.rayon.specs.Lists.{iter_slice, min_len_base}
use Rattle.rayon.proofs.ListFacts.{IfOk-then}
use Rattle.ibcplan_folders.specs.Folders.{AreAnswersOf, IsAnswerOf}
use Rattle.ibcplan_folders.proofs.Grouped.{collected, unwrapped}
use Rattle.ibcplan_folders.proofs.reading.answers_in.Goals as goal

pub returns : goal.returns
returns g c =
    let f = c.map.result.f in
    let files = ap (λ it. iter_slice (min_len_base it)) c.map.ensures.base ∙ ap iter_slice c.with_min_len.ensures.base ∙ c.par_iter.ensures in
    rw c.unwrap_or.ensures (unwrapped c.collect-read.result _ _ (IfOk-then c.collect-read.result _ _ c.collect-read.ensures (λ v h.
    let chain = h.1 in
    subst (λ f. IfOk v (λ saved. AreAnswersOf f.1.now c.args.files.now saved.items)) c.map.ensures.f
    (collected (IsAnswerOf f.1.now) chain.0 c.args.files.now h.0 v (chain.1 ∙ files) chain.2 h.2))))
