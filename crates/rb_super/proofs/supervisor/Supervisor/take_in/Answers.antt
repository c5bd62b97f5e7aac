use Rattle.std.proofs.Common.{◌≡◌, ◌∷◌, [], None, IfOk, IfErr, ap, ◌∙◌, subst}
use Rattle.std.specs.Result.{OnOk, OnErr}
use Rattle.rb_core.specs.Core.{Core, state_in, refusal_in}
use Rattle.rb_core_model.specs.Machine.{reply_of}
use Rattle.rb_core_model.specs.Refused.{IsRefusal}
use Rattle.rb_core_model.specs.Replied.{reply_view}
use Rattle.rb_core_model.specs.Seen.{event_view}
use Rattle.rb_core_model.specs.Snapshot.{followed_by}
use Rattle.rb_super.proofs.supervisor.Supervisor.take_in.Goals as goal

pub returns-clause-config : goal.returns-clause-config
returns-clause-config g c = c.take_in.ensures.config ∙ ap (λ (k : Core). k.config) c.self.view_is

pub returns-clause-appended : goal.returns-clause-appended
returns-clause-appended g c =
    subst (λ (k : Core). OnOk c.take_in.result (c.take_in.new.self.log ≡ followed_by k.log (event_view c.args.event ∷ []))) c.self.view_is c.take_in.ensures.appended

pub returns-clause-unchanged : goal.returns-clause-unchanged
returns-clause-unchanged g c = subst (λ (k : Core). OnErr c.take_in.result (c.take_in.new.self.log ≡ k.log)) c.self.view_is c.take_in.ensures.unchanged

pub returns-clause-accepted : goal.returns-clause-accepted
returns-clause-accepted g c = subst (λ (k : Core). OnOk c.take_in.result (refusal_in k (event_view c.args.event) ≡ None)) c.self.view_is c.take_in.ensures.accepted

pub returns-clause-refused : goal.returns-clause-refused
returns-clause-refused g c =
    subst (λ (k : Core). IfErr c.take_in.result (λ e. IsRefusal e (refusal_in k (event_view c.args.event)))) c.self.view_is c.take_in.ensures.refused

pub returns-clause-reply : goal.returns-clause-reply
returns-clause-reply g c =
    subst (λ (k : Core). IfOk c.take_in.result (λ reply. reply_view reply ≡ reply_of (state_in k) (event_view c.args.event))) c.self.view_is c.take_in.ensures.reply
