use Rattle.std.proofs.Common.{rules, ◌≡◌, true, subst, sym}
use Rattle.std.specs.Prelude.{All, is_ok}
use Rattle.rb_want_requests.specs.Requests.{AreDistinct, AreFew, is_new}
use Rattle.rb_want_requests.proofs.Distinct.{distinct, few, unanswered}
use Rattle.rb_want_requests.proofs.wanted.NextRequests.ask.Goals as goal

-- the request is one more, or they stay as they were
pub invariant_of-self : goal.invariant_of-self
invariant_of-self c =
    let requests = c.args.self.now.requests.items in
    let request = c.args.request.now in
    let folders = c.args.self.now.folders.now in
    record {
      few = subst AreFew (sym c.push.ensures.items) (few (is_ok c.push.result) requests request c.args.self.now.few (search rules));
      distinct = subst AreDistinct (sym c.push.ensures.items) (distinct (is_ok c.push.result) requests request (search rules) (search rules));
      unanswered = subst (All (λ r. is_new folders r ≡ true)) (sym c.push.ensures.items)
          (unanswered (is_ok c.push.result) (λ r. is_new folders r ≡ true) requests request (search rules) (search rules));
      told_once = c.args.self.now.told_once;
    }
