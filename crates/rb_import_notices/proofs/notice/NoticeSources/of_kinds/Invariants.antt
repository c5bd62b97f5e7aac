use Rattle.std.proofs.Common.{◌≡◌, ◌++◌, drop}
use Rattle.rb_import_notices.specs.Whole.{notices_of_kinds}
use Rattle.rb_import_notices.proofs.notice.NoticeSources.of_kinds.Given as goal

-- the notices so far, and those of the kinds that are left
abbrev pub invariant-loop-subject : goal.invariant-loop-subject
invariant-loop-subject l =
    l.list.items ++ notices_of_kinds l.self.setup.now l.self.answers.now l.self.seen.now (drop l.subject-index l.kinds)
    ≡ notices_of_kinds l.self.setup.now l.self.answers.now l.self.seen.now l.kinds
