use Rattle.std.proofs.Common.{◌<◌, sym, subst, arith}
use Rattle.std.proofs.lemmas.Result.{IfOk-weaker}
use Rattle.rb_script_types.specs.Script.{script_view}
use Rattle.rb_plan_types.specs.Answer.{labels_of, claim_of}
use Rattle.rb_super_turn.specs.Phases.{standing_in}
use Rattle.rb_super_turn.specs.AsEvents.{as_events}
use Rattle.rb_super.proofs.OwnAnswers.{own_answer}
use Rattle.rb_super.proofs.judging.judge.Goals as goal

pub verdict_on-requires-clause-client : goal.verdict_on-requires-clause-client
verdict_on-requires-clause-client g c = λ ks _. subst (λ n. c.args.client < n) (sym c.in_ok-relayer.ensures.clients) c.requires.client

pub verdict_on-requires-clause-room : goal.verdict_on-requires-clause-room
verdict_on-requires-clause-room g c = λ ks _.
    let room = c.in_ok-relayer.ensures.room in
    let clients = c.in_ok-relayer.ensures.clients in
    let lt = c.requires.client in
    omega arith

pub returns-clause-judged : goal.returns-clause-judged
returns-clause-judged g c =
    IfOk-weaker c.verdict_on.result _ _ (λ verdict judged. record { standing = standing_in c.in_ok-relayer.relayer; phase = c.in_ok-relayer.ensures.phase; judged = judged }) c.verdict_on.ensures.judged

pub returns-clause-right : goal.returns-clause-right
returns-clause-right g c = λ yes. record { standing = standing_in c.in_ok-relayer.relayer; phase = c.in_ok-relayer.ensures.phase; right = c.verdict_on.ensures.right yes }

pub returns-clause-accepts : goal.returns-clause-accepts
returns-clause-accepts g c =
    own_answer c.answers_are_one.ensures (record { least = c.least_cut_is_one.ensures; division = c.cut_apart_is_division.ensures; apart = c.cut_apart_is_one.ensures }) (as_events (script_view c.args.script)) c.args.turn c.args.client (labels_of c.args.answer.now) (claim_of c.args.answer.now)
    (standing_in c.in_ok-relayer.relayer) _ c.in_ok-relayer.ensures.phase c.verdict_on.ensures.accepts
