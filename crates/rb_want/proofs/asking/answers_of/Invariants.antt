use Rattle.std.specs.Prelude.{◌≡◌, map, take}
use Rattle.rb_want.proofs.asking.answers_of.Given as goal

-- the answers so far are of the folders so far
abbrev pub invariant-loop-folder : goal.invariant-loop-folder
invariant-loop-folder l = map (λ a. a.folder.now) l.answers.items ≡ take l.folder-index l.folder-items
