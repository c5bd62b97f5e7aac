use Rattle.std.proofs.Common.{rules, ◌≡◌, ◌++◌, ◌∷◌, [], IfErr, sym, ap, ◌∙◌, subst}
use Rattle.rb_script_types.specs.Config.{config_view}
use Rattle.rb_core.specs.Follower.{Follower, entry_refusal, follows}
use Rattle.std.specs.Arc.{arc_value}
use Rattle.std.specs.Option.{option_map}
use Rattle.rb_core.specs.State.{start_of, state_view}
use Rattle.rb_core_model.specs.Invariant.{HasInvariant}
use Rattle.rb_core_model.specs.Machine.{State}
use Rattle.rb_core_model.specs.Refused.{IsRefusal}
use Rattle.rb_core.proofs.Unjudged.{followed_kept, only_memory}
use Rattle.rb_core.proofs.follower.Follower.follow.Goals as goal

pub invariant_of-self-2 : goal.invariant_of-self-2
invariant_of-self-2 g c = subst HasInvariant (sym c.in_ok-follow_told.ensures.followed) (followed_kept (state_view c.self.inside.state) c.args.told.now c.self.invariant)

pub returns-clause-followed : goal.returns-clause-followed
returns-clause-followed g c =
    let entries : c.push_reserved.new.self.items ≡ c.self.inside.log.items ++ c.args.told.now.entry ∷ [] = search rules in
    (λ i. record { past = record { config = config_view c.self.inside.config; start = start_of (option_map arc_value c.self.inside.begun); entries = entries i }; state = c.in_ok-follow_told.ensures.followed i })
    ∙ ap (λ (f : Follower). follows f c.args.told.now) c.self.view_is

pub returns-in_err-follow_told-clause-refused : goal.returns-in_err-follow_told-clause-refused
returns-in_err-follow_told-clause-refused g c =
    let here : IfErr c.from_residual-in_err-follow_told.result (λ e. IsRefusal e (entry_refusal (state_view c.self.inside.state) c.args.told.now.entry)) = search rules in
    subst (λ (s : State). IfErr c.from_residual-in_err-follow_told.result (λ e. IsRefusal e (entry_refusal s c.args.told.now.entry)))
    (ap (λ (f : Follower). f.state) c.self.view_is) here

pub returns-in_err-follow_told-clause-accepted : goal.returns-in_err-follow_told-clause-accepted
returns-in_err-follow_told-clause-accepted g c = λ event none is.
    only_memory c.from_residual-in_err-follow_told.result c.args.self.now.state c.args.told.now event (returns-in_err-follow_told-clause-refused g c) none is
