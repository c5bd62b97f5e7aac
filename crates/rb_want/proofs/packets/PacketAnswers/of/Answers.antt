use Rattle.std.proofs.Common.{◌≡◌, ◌∙◌, ap, subst}
use Rattle.std.specs.List.{flat_map}
use Rattle.rb_want_requests.specs.PacketPaths.{pending_in}
use Rattle.rb_want.specs.Packets.{AreOf, acknowledged_of, have_parts, parts_of, unreceived_of}
use Rattle.rb_want.proofs.packets.PacketAnswers.of.Goals as goal

pub invariant_of-result-clause-committed : goal.invariant_of-result-clause-committed
invariant_of-result-clause-committed c = c.in_ok-pending.ensures ∙ ap pending_in c.as_slice-contents.ensures.value

-- the sequences that the answers tell of, rising
pub invariant_of-result-clause-not_received : goal.invariant_of-result-clause-not_received
invariant_of-result-clause-not_received c =
    subst (λ l. AreOf l c.sorted.result.items) (c.in_ok-unreceived_in.ensures ∙ ap (flat_map unreceived_of) c.as_slice-contents.ensures.value) c.sorted.ensures

pub invariant_of-result-clause-written : goal.invariant_of-result-clause-written
invariant_of-result-clause-written c =
    subst (λ l. AreOf l c.sorted-2.result.items) (c.in_ok-acknowledged_in.ensures ∙ ap (flat_map acknowledged_of) c.as_slice-contents.ensures.value) c.sorted-2.ensures

-- the parts are those of the pending packets
pub invariant_of-result-clause-answered : goal.invariant_of-result-clause-answered
invariant_of-result-clause-answered c =
    let there = c.args.folder.now.contents.items in
    let same : c.as_slice-contents.result.now ≡ there = c.as_slice-contents.ensures.value in
    let parts : c.parts_of.result ≡ parts_of (pending_in there) =
    c.parts_of.ensures ∙ ap parts_of (c.as_slice.ensures.value ∙ c.in_ok-pending.ensures ∙ ap pending_in same) in
    c.are_complete-is_complete.ensures ∙ ap (λ n. have_parts n c.as_slice-contents.result.now) parts ∙ ap (have_parts (parts_of (pending_in there))) same
