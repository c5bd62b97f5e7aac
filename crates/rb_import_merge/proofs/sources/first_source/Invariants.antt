use Rattle.std.proofs.Common.{◌≡◌, drop}
use Rattle.rb_import_merge.specs.Sources.{first_source}
use Rattle.rb_import_merge.proofs.sources.first_source.Given as goal

-- the first one is in the answers that are left
abbrev pub invariant-loop-saved : goal.invariant-loop-saved
invariant-loop-saved l = first_source (drop l.saved-index l.answers) ≡ first_source l.answers
