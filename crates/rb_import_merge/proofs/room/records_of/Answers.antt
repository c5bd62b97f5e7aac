use Rattle.std.proofs.Common.{ℕ, Vec, rules, sym, subst}
use Rattle.std.specs.Global.{Global}
use Rattle.rb_import_setup.specs.declared.setup.ClientSetup.{ClientSetup}
use Rattle.rb_import_check.specs.declared.client.Stored.{Stored}
use Rattle.rb_import_merge.specs.Room.{AreKeptOf}
use Rattle.rb_import_merge.proofs.Rooms.{AtEachBefore, at_all, at_none, at_one_more}
use Rattle.rb_import_merge.proofs.room.records_of.Goals as goal

pub loop-number-init : goal.loop-number-init
loop-number-init c =
    let Holds : ℕ → ClientSetup → Vec Stored Global → Type 0 = λ number x kept. AreKeptOf c.args.chains.now c.args.clients.now c.args.books.now number x kept.items in
    subst (AtEachBefore 0 Holds c.args.setup.now.clients.items) (sym c.new-records.ensures.items) (at_none Holds c.args.setup.now.clients.items)

pub loop-number-preserved : goal.loop-number-preserved
loop-number-preserved c =
    let Holds : ℕ → ClientSetup → Vec Stored Global → Type 0 = λ number x kept. AreKeptOf c.args.chains.now c.args.clients.now c.args.books.now number x kept.items in
    at_one_more Holds c.args.setup.now.clients.items c.loop-number.number c.client-item.result c.in_ok-kept.kept c.loop-number.records.items c.push.new.self.items
    (search rules) (search rules) c.in_ok-kept.ensures c.in_ok-push.ensures.items c.loop-number.invariant

pub returns : goal.returns
returns c =
    at_all (λ (number : ℕ) (x : ClientSetup) (kept : Vec Stored Global). AreKeptOf c.args.chains.now c.args.clients.now c.args.books.now number x kept.items) c.args.setup.now.clients.items c.loop-number.number c.loop-number.records.items (search rules) c.loop-number.invariant
