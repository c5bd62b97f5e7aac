use Rattle.std.proofs.Common.{◌≡◌, ◌++◌, flat_map}
use Rattle.std.specs.List.{range_with_len}
use Rattle.rb_import_notices.specs.Whole.{notices_at}
use Rattle.rb_import_notices.proofs.notice.NoticeSources.add_kind.Given as goal

-- the notices on the subjects at the places so far
abbrev pub invariant-loop-place : goal.invariant-loop-place
invariant-loop-place l =
    l.list.items ≡ l.initial.list.items ++ flat_map (notices_at l.self.setup.now l.self.answers.now l.self.seen.now l.kind) (range_with_len 0 l.place)
