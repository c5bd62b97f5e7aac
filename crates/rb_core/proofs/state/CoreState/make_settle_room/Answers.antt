use Rattle.rb_core.specs.declared.state.CoreState.{CoreState}
use Rattle.rb_core.proofs.Within.{room_kept}
use Rattle.rb_core.proofs.state.CoreState.make_settle_room.Goals as goal

pub returns-clause-kept : goal.returns-clause-kept
returns-clause-kept g c =
    let new : CoreState g.row.A.Denot = record {
      window = c.args.self.now.window;
      books = c.args.self.now.books;
      clients = c.make_settle_room.new.clients;
      paths = c.args.self.now.paths;
      plans = c.args.self.now.plans;
      scans = c.args.self.now.scans;
      front = c.args.self.now.front;
    } in
    room_kept c.args.self.now new c.make_settle_room.ensures.same (λ i h. h) c.make_settle_room.ensures.kept c.make_settle_room.ensures.settle (λ i h. h)
