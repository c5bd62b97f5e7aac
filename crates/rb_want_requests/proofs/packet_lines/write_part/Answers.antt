use Rattle.std.proofs.Common.{rules, []}
use Rattle.std.proofs.Output.{has_written_append, has_written_of_eq, writes_in_calls_nil}
use Rattle.rb_want_requests.proofs.Parts.{all_written, file_begins, file_ends, finished_on, passed_on, whole, written_on}
use Rattle.rb_want_requests.proofs.packet_lines.write_part.Goals.{then-before-gt0, else-before-gt0+then-left-gt0+in_ok-write_sequence, else-before-gt0+else-left-gt0}
use Rattle.rb_want_requests.proofs.packet_lines.write_part.Goals as goal

pub loop-content-init : goal.loop-content-init
loop-content-init g c = (
  search rules,
  λ plain. (
    [],
    record { wrote = writes_in_calls_nil _ _; plain = plain },
    whole _ _ _ _ _ _ _ _ c.from.ensures c.from-2.ensures c.from-3.ensures c.saturating_sub-before.ensures,
  ),
)

pub loop-sequence-init : goal.loop-sequence-init
loop-sequence-init g c = (
  search rules,
  λ plain. let so_far = c.loop-content.invariant.1 plain in (
    so_far.0,
    so_far.1,
    file_begins _ _ _ _ _ _ _ _ _ _ c.loop-content-test.true c.committed_in-sequence-items.ensures c.content-item.is so_far.2,
  ),
)

pub loop-sequence-preserved : goal.loop-sequence-preserved
loop-sequence-preserved g c = (
  elim c.if-before-gt0.branch [
    | then-before-gt0 w ↦ rw w.separator-is (search rules)
    | else-before-gt0+then-left-gt0+in_ok-write_sequence w ↦ rw w.separator-is (search rules)
    | else-before-gt0+else-left-gt0 w ↦ rw w.separator-is (search rules)
  ],
  λ plain. let so_far = c.loop-sequence.invariant.1 plain in
      elim c.if-before-gt0.branch [
        | then-before-gt0 w ↦ rw (w.f-is, w.before-is, w.left-is, w.separator-is) (
          so_far.0,
          so_far.1,
          passed_on _ _ _ _ _ _ _ _ 0 _ _ c.loop-sequence-test.true w.if-before-gt0.true so_far.2,
        )
        | else-before-gt0+then-left-gt0+in_ok-write_sequence w ↦ rw (w.f-is, w.before-is, w.left-is, w.separator-is) (
          _,
          has_written_append _ _ _ _ _ _ so_far.1 (w.write_sequence.ensures so_far.1.plain (search rules)),
          written_on _ _ _ _ _ _ _ _ 0 _ _ c.loop-sequence-test.true w.if-before-gt0.false w.if-left-gt0.true so_far.2,
        )
        | else-before-gt0+else-left-gt0 w ↦ rw (w.f-is, w.before-is, w.left-is, w.separator-is) (
          so_far.0,
          so_far.1,
          finished_on _ _ _ _ _ _ _ _ 0 _ _ c.loop-sequence-test.true w.if-before-gt0.false w.if-left-gt0.false so_far.2,
        )
      ],
)

pub loop-content-preserved : goal.loop-content-preserved
loop-content-preserved g c = (
  search rules,
  λ plain. let so_far = c.loop-sequence.invariant.1 plain in (so_far.0, so_far.1, file_ends _ _ _ _ _ _ _ _ _ _ c.loop-sequence-test.false so_far.2),
)

pub returns : goal.returns
returns g c = λ plain ok.
    let so_far = c.loop-content.invariant.1 plain in
    has_written_of_eq _ _ _ _ _ (all_written _ _ _ _ _ _ _ _ c.loop-content-test.false so_far.2) so_far.1
