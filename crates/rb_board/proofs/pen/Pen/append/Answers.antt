use Rattle.std.proofs.Common.{◌≡◌, rules, sym, ◌∙◌, subst}
use Rattle.left_right.specs.Sides.{view}
use Rattle.rb_core.specs.Follower.{IsOfLog, log_in}
use Rattle.rb_core_model.specs.Machine.{refusal_of, state_of}
use Rattle.rb_board.specs.Rule.{followed_on, knowledge_of, pending}
use Rattle.rb_core_model.proofs.Steps.{replies}
use Rattle.rb_board.proofs.Boarding.{appends}
use Rattle.rb_board.proofs.pen.Pen.append.Goals as goal

pub invariant_of-self-2 : goal.invariant_of-self-2
invariant_of-self-2 g c =
    let old = c.self.inside.writer in
    let new = c.keep.new.writer in
    let i = c.self.invariant in
    let desk : new.desk ≡ old.desk = search rules in
    let log : c.judge.new.self.log ≡ c.self.inside.head.log = search rules in
    let config : c.judge.new.self.config ≡ c.self.inside.head.config = search rules in
    let after : c.settle.new.self.config ≡ c.self.inside.head.config = search rules in
    let grown = appends old.desk.shown.value.follower c.self.inside.head.config c.self.inside.head.log c.settle.new.self.log (pending old) (pending new)
    c.in_ok-told.told c.in_ok-ready.ready.event i.config_same i.leads i.knows
    ((λ j. refusal_of (state_of (sym config j) (sym log j)) c.in_ok-ready.ready.event) ∙ c.in_ok-ready.ensures.ready.accepted)
    (search rules) (search rules) (search rules) in
    record {
      all = (λ j. view (desk j).place) ∙ i.all ∙ (λ j. knowledge_of (sym desk j).shown.value);
      config_same = (λ j. (desk j).shown.value.follower.past.config) ∙ i.config_same ∙ sym after;
      published = subst (λ d. IsOfLog d.shown.value.follower) (sym desk) i.published;
      leads = grown.0 ∙ (λ j. log_in (followed_on (sym desk j).shown.value.follower (pending new)).past);
      knows = (λ j. (followed_on (desk j).shown.value.follower (pending new)).state) ∙ grown.1 ∙ (λ j. state_of (sym after j) c.settle.new.self.log);
    }

pub returns-clause-reply : goal.returns-clause-reply
returns-clause-reply g c =
    replies _ c.judge.new.self.config c.args.self.now.config c.judge.new.self.log c.args.self.now.log c.in_ok-ready.ready.event _
    c.settle.ensures.reply (search rules) (search rules) (search rules)
