use Rattle.std.proofs.Common.{◌+◌, sym, subst, take}
use Rattle.std.specs.List.{AllZip, enumerate_from}
use Rattle.std.proofs.lemmas.Result.{err_from_is_err_and}
use Rattle.rb_messages.specs.Sources.{Tells, TellsAt}
use Rattle.rb_messages.proofs.Memory.{untaken_for_memory}
use Rattle.rb_messages.proofs.Zipped.{placed_more}
use Rattle.rb_messages.proofs.source.seen_chains.Goals as goal

pub returns-in_err-push-in-Ok-clause-refused : goal.returns-in_err-push-in-Ok-clause-refused
returns-in_err-push-in-Ok-clause-refused c =
    let p = err_from_is_err_and c.from_residual.result c.from_residual.ensures.1 in
    untaken_for_memory c.from_residual.result p.0 c.args.chains.now c.args.answers.now c.loop-place.place p.1 p.2 c.loop-place-test.true

pub loop-place-preserved : goal.loop-place-preserved
loop-place-preserved c =
    let answers = c.args.answers.now in
    let place = c.loop-place.place in
    let tells = TellsAt c.args.chains.now in
    let told = subst (λ items. Tells c.id_of.result.now items c.in-Ok.one) c.as_slice.ensures.value c.in-Ok.ensures.told in
    let one = subst (λ id. Tells id c.index-answers-place.result.items c.in-Ok.one) c.id_of.ensures told in
    let more = placed_more tells answers place c.index-answers-place.result c.loop-place.seen.items c.in-Ok.one c.loop-place-test.true
    c.index-answers-place.is one c.loop-place.invariant in
    subst (AllZip tells (take (place + 1) (enumerate_from 0 answers))) (sym c.in_ok-push-in-Ok.ensures.items) more
