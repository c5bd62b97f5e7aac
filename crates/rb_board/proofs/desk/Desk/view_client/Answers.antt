use Rattle.std.proofs.Common.{◌≡◌, ◌∙◌, sym, subst}
use Rattle.std.specs.Prelude.{Some, IfOk, IfErr}
use Rattle.rb_core_model.specs.Machine.{client_view, client_view_refusal}
use Rattle.left_right.specs.Sides.{view}
use Rattle.rb_core.specs.Follower.{Past, IsOfLog, log_in, state_after}
use Rattle.rb_board.specs.Rule.{known_of}
use Rattle.rb_board.specs.declared.replica.Replica.{Replica}
use Rattle.rb_board.specs.Unseen.{IsUnseen}
use Rattle.rb_board.proofs.Boarding.{looked, known_then, unlooked}
use Rattle.rb_board.proofs.desk.Desk.view_client.Goals as goal

pub returns-in_default-clause-begins : goal.returns-in_default-clause-begins
returns-in_default-clause-begins g c =
    unlooked (known_of c.self.inside.reader) (known_of c.enter.new.home) c.self.inside.told c.args.self.now (sym c.self.view_is) c.in_default.ensures.closed.1

pub returns-clause-config : goal.returns-clause-config
returns-clause-config g c =
    (looked (known_of c.self.inside.reader) (view c.in-Some.reading.place) (view c.leave.result.place) c.in-Some.reading.part.value c.self.inside.told c.args.self.now
    (sym c.self.view_is) c.self.invariant.1 c.in-Some.ensures.seen c.leave.ensures.1).0

pub returns-clause-begins : goal.returns-clause-begins
returns-clause-begins g c =
    (looked (known_of c.self.inside.reader) (view c.in-Some.reading.place) (view c.leave.result.place) c.in-Some.reading.part.value c.self.inside.told c.args.self.now
    (sym c.self.view_is) c.self.invariant.1 c.in-Some.ensures.seen c.leave.ensures.1).1

pub returns-clause-view : goal.returns-clause-view
returns-clause-view g c =
    known_then (λ (f : Past). IfOk c.client_of-view.result (λ job. client_view (state_after f) c.args.client ≡ Some job))
    (view c.leave.result.place) c.in-Some.reading.part.value c.get.result.now (c.leave.ensures.1 ∙ c.in-Some.ensures.seen.1) c.get.ensures c.client_of-view.ensures.view

pub returns-clause-refused : goal.returns-clause-refused
returns-clause-refused g c =
    known_then (λ (f : Past). IfErr c.client_of-view.result (λ e. IsUnseen e (record { config = f.config; seen = log_in f; told = c.self.inside.told }) (client_view_refusal (state_after f) c.args.client)))
    (view c.leave.result.place) c.in-Some.reading.part.value c.get.result.now (c.leave.ensures.1 ∙ c.in-Some.ensures.seen.1) c.get.ensures c.client_of-view.ensures.refused

pub client_of-view-requires : goal.client_of-view-requires
client_of-view-requires g c = subst (λ (h : Replica _). IsOfLog h.follower) (sym c.get.ensures) c.in-Some.ensures.seen.2
