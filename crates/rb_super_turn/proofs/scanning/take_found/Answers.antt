use Rattle.std.proofs.Common.{◌≡◌, true, sym, ◌∙◌, subst, rules}
use Rattle.rb_core.specs.Core.{state_in}
use Rattle.rb_core_model.specs.Machine.{is_scanned}
use Rattle.rb_base.specs.declared.gate.Part.{Part}
use Rattle.rb_super_turn.proofs.Steps.{from_ok, keeps_offered, scanned_offered}
use Rattle.rb_super_turn.proofs.scanning.take_found.Goals as goal

pub returns-in_ok-reply-in-Some-clause-scanned : goal.returns-in_ok-reply-in-Some-clause-scanned
returns-in_ok-reply-in-Some-clause-scanned g c = λ yes.
    subst (λ (p : Part). is_scanned (state_in c.offer.new.relayer) c.args.path p ≡ true) c.in-Some.ensures
    (scanned_offered c.in_ok-reply-in-Some.reply c.args.relayer.now c.offer.new.relayer c.args.path c.in-Some.scan c.requires.path c.in_ok-reply-in-Some.ensures.accepted
    c.in_ok-reply-in-Some.ensures.state (sym c.is_some.ensures ∙ from_ok c.is_some.result true yes))

pub returns-in_ok-reply-in-Some-clause-others : goal.returns-in_ok-reply-in-Some-clause-others
returns-in_ok-reply-in-Some-clause-others g c =
    keeps_offered c.in_ok-reply-in-Some.reply c.args.relayer.now c.offer.new.relayer c.args.path c.in-Some.scan c.requires.path c.in_ok-reply-in-Some.ensures.accepted
    c.in_ok-reply-in-Some.ensures.refused c.in_ok-reply-in-Some.ensures.state
