use Rattle.std.proofs.Common.{◌≡◌, ◌++◌, ◌∷◌, [], None, IfOk, sym, ap, ◌∙◌, subst}
use Rattle.std.specs.Result.{OnOk, OnErr}
use Rattle.rb_core.specs.Core.{Core, state_in, refusal_in}
use Rattle.rb_core_model.specs.Machine.{reply_of}
use Rattle.rb_core_model.specs.Replied.{reply_view}
use Rattle.rb_core_model.specs.Seen.{event_view}
use Rattle.rb_super_turn.specs.Tables.{chain_of}
use Rattle.rb_super_turn.proofs.Kept.{tables_as_were, tables_same}
use Rattle.rb_super_turn.proofs.relayer.Relayer.take_accepted.Goals as goal

pub take_accepted-requires : goal.take_accepted-requires
take_accepted-requires g c = record { accepted = subst (λ (k : Core). refusal_in k (event_view c.args.event) ≡ None) (sym c.self.view_is) c.requires.accepted }

pub invariant_of-self : goal.invariant_of-self
invariant_of-self g c =
    tables_same (g.M.Machine.seen_as c.self.inside.machine) (g.M.Machine.seen_as c.take_accepted.new.self) c.self.inside.tables.items c.take_accepted.ensures.config c.in_err-reply.ensures.unchanged c.self.invariant

pub invariant_of-self-2 : goal.invariant_of-self-2
invariant_of-self-2 g c =
    let core = g.M.Machine.seen_as c.self.inside.machine in
    let e = event_view c.args.event in
    let accepted = subst (λ (k : Core). refusal_in k e ≡ None) (sym c.self.view_is) c.requires.accepted in
    let none = subst (λ (k : Core). chain_of k.config e ≡ None) (sym c.self.view_is) c.requires.no_addition in
    tables_as_were core (g.M.Machine.seen_as c.take_accepted.new.self) e c.take_accepted.ensures.config c.in_ok-reply.ensures.appended accepted c.self.inside.tables.items none c.self.invariant
