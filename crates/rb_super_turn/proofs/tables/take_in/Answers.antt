use Rattle.std.proofs.Common.{◌≡◌, ◌<◌, None, Some, length, sym, ap, ◌∙◌, subst, arith, rules}
use Rattle.rb_core_model.specs.Config.{IsSetUp}
use Rattle.rb_core_model.specs.Event.{Event}
use Rattle.rb_core_model.specs.Seen.{event_view}
use Rattle.rb_core_model.specs.Standing.{book_at}
use Rattle.rb_script_types.specs.Config.{Config}
use Rattle.rb_super_turn.specs.Phases.{standing_in}
use Rattle.rb_super_turn.specs.Tables.{chain_of, with_addition, IsTableOf}
use Rattle.rb_super_turn.proofs.Kept.{chain_there, table_at, tables_as_were, tables_grown, tables_same}
use Rattle.rb_super_turn.proofs.tables.take_in.Goals as goal

pub returns-in_err-reply-clause-tables : goal.returns-in_err-reply-clause-tables
returns-in_err-reply-clause-tables g c = tables_same (g.M.Machine.seen_as c.args.machine.now) (g.M.Machine.seen_as c.take_from.new.self) c.args.tables.now.items (search rules) (search rules) c.requires

pub returns-in-None-clause-tables : goal.returns-in-None-clause-tables
returns-in-None-clause-tables g c =
    let core = g.M.Machine.seen_as c.args.machine.now in
    let e = event_view c.args.event in
    let found = rw c.in-None.is at c.in_ok-addition.ensures in
    let none : chain_of core.config e ≡ None = ap (λ (k : Config). chain_of k e) (sym (c.config.ensures.value ∙ c.core.ensures.config)) ∙ found in
    tables_as_were core (g.M.Machine.seen_as c.take_from.new.self) e (search rules) (search rules) (search rules) c.args.tables.now.items none c.requires

pub index_mut-requires : goal.index_mut-requires
index_mut-requires g c =
    let core = g.M.Machine.seen_as c.args.machine.now in
    let e = event_view c.args.event in
    let found = rw c.in-Some.is at c.in_ok-addition.ensures in
    let some : chain_of core.config e ≡ Some c.in-Some.chain = ap (λ (k : Config). chain_of k e) (sym (c.config.ensures.value ∙ c.core.ensures.config)) ∙ found.0 in
    let there = chain_there core e c.in-Some.chain (subst IsSetUp c.core.ensures.config c.config.ensures.set_up) (search rules) some in
    let places = c.requires.places in
    omega arith

pub returns-in-Some-clause-tables : goal.returns-in-Some-clause-tables
returns-in-Some-clause-tables g c =
    let core = g.M.Machine.seen_as c.args.machine.now in
    let e = event_view c.args.event in
    let tables = c.args.tables.now.items in
    let chain = c.in-Some.chain in
    let found = rw c.in-Some.is at c.in_ok-addition.ensures in
    let some : chain_of core.config e ≡ Some chain = ap (λ (k : Config). chain_of k e) (sym (c.config.ensures.value ∙ c.core.ensures.config)) ∙ found.0 in
    let there = chain_there core e chain (subst IsSetUp c.core.ensures.config c.config.ensures.set_up) (search rules) some in
    let places = c.requires.places in
    let lt : chain < length tables = omega arith in
    let book = book_at (standing_in core).books chain in
    let of = c.keep_up.ensures book (table_at core tables chain c.index_mut.result.now lt c.index_mut.ensures.value c.requires) in
    tables_grown core (g.M.Machine.seen_as c.take_from.new.self) e (search rules) (search rules) (search rules) tables chain c.keep_up.new.place (subst IsSetUp c.core.ensures.config c.config.ensures.set_up) some
    (subst (λ (x : Event). IsTableOf (with_addition x book) c.keep_up.new.place) found.1 of) c.requires
