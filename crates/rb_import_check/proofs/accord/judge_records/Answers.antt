use Rattle.std.proofs.Common.{◌≡◌, ◌<◌, All, length, get_or, rules, subst}
use Rattle.std.proofs.lemmas.List.{take_all}
use Rattle.std.proofs.lemmas.List.Elements.{All-more}
use Rattle.rb_import_check.specs.Accord.{AgreesWith, NamesDifference}
use Rattle.rb_import_check.proofs.Accords.{names_difference}
use Rattle.rb_import_check.proofs.accord.judge_records.Goals as goal

pub loop-record-preserved : goal.loop-record-preserved
loop-record-preserved c =
    let small : c.loop-record.record-index < length c.args.stored.now = search rules in
    let is : c.record-item.result ≡ get_or c.args.stored.now c.loop-record.record-index c.record-item.result = search rules in
    let agrees = AgreesWith c.args.chain.now.commits.items in
    All-more agrees c.args.stored.now c.loop-record.record-index c.record-item.result small c.loop-record.invariant (subst agrees is c.in_ok-judge_record.ensures.accord)

pub returns-in_err-judge_record-clause-named : goal.returns-in_err-judge_record-clause-named
returns-in_err-judge_record-clause-named c =
    let small : c.loop-record.record-index < length c.args.stored.now = search rules in
    let is : c.record-item.result ≡ get_or c.args.stored.now c.loop-record.record-index c.record-item.result = search rules in
    let e = c.in_err-judge_record.field-0.0 in
    let named : NamesDifference c.args.chain.now.commits.items c.args.stored.now e =
    names_difference c.args.chain.now.commits.items c.args.stored.now c.loop-record.record-index c.record-item.result e small is c.in_err-judge_record.ensures.named in
    search rules

pub returns-clause-accord : goal.returns-clause-accord
returns-clause-accord c = subst (All (AgreesWith c.args.chain.now.commits.items)) (take_all c.loop-record.record-index c.args.stored.now (search rules)) c.loop-record.invariant
