use Rattle.std.proofs.Common.{◌∙◌, ap, rules}
use Rattle.std.specs.Borrow.{Bor}
use Rattle.rb_want_requests.specs.declared.content.Folders.{Folders}
use Rattle.std.proofs.lemmas.List.{get_or_default}
use Rattle.rb_want.specs.Needs.{node_request, tracking_of}
use Rattle.rb_want.proofs.Adding.{query_step}
use Rattle.rb_want.proofs.client.ClientCase.add_queries.Goals as goal

-- one more query is added
pub loop-query-preserved : goal.loop-query-preserved
loop-query-preserved c =
    let now = c.loop-query.wanted in
    let old = c.args.wanted.now in
    record {
      requests = query_step old.folders.now now.folders.now old.requests.items now.requests.items _ (node_request (tracking_of c.args.self.now))
          c.args.asked.now c.loop-query.query-index _ c.loop-query-test.true (search (rules, get_or_default))
          (ap (λ (b : Bor Folders). b.now) c.loop-query.invariant.folders) c.loop-query.invariant.requests c.in_ok-ask_node.ensures.requests;
      folders = c.ask_node.ensures.folders ∙ c.loop-query.invariant.folders;
      reasons = c.ask_node.ensures.reasons ∙ c.loop-query.invariant.reasons;
      ends = c.ask_node.ensures.ends ∙ c.loop-query.invariant.ends;
      path_ends = c.ask_node.ensures.path_ends ∙ c.loop-query.invariant.path_ends;
    }
