use Rattle.std.proofs.Common.{◌≡◌, ◌==◌, ℕ, List, Option, ap, subst, ◌∙◌}
use Rattle.std.specs.Prelude.{OnOk}
use Rattle.std.proofs.lemmas.Bool.{eqb-true, false_from_ne_true}
use Rattle.rb_script_types.specs.Channels.{end_text}
use Rattle.rb_want.specs.Adding.{with_needed}
use Rattle.rb_want.specs.Packets.{written_block}
use Rattle.rb_want.specs.Paths.{block_needs}
use Rattle.rb_want.proofs.path.PathCase.add_written_time.Goals as goal

-- the block is that of the packet of the source's end
pub returns-clause-requests : goal.returns-clause-requests
returns-clause-requests c =
    let p = c.args.self.now in
    let text : c.as_str.result.now ≡ end_text p.source.end = c.as_str.ensures.value ∙ c.in_ok-source.ensures in
    let block : c.written_block-block.result ≡ written_block (end_text p.source.end) c.args.sequence p.answers.folder.now.contents.items =
    c.written_block-block.ensures ∙ ap (λ t. written_block t c.args.sequence c.as_slice-contents.result.now) text
    ∙ ap (λ there. written_block (end_text p.source.end) c.args.sequence there) c.as_slice-contents.ensures.value in
    rw (false_from_ne_true (p.waits.acknowledge == 0) (λ e. c.if-self-eq0.false (eqb-true p.waits.acknowledge 0 e)))
    (subst (λ (o : Option ℕ). OnOk c.ask_block.result (c.ask_block.new.wanted.requests.items
    ≡ with_needed c.args.wanted.now.folders.now c.args.wanted.now.requests.items (block_needs p.destination o))) block c.ask_block.ensures.requests)
