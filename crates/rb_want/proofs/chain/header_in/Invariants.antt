use Rattle.std.specs.Prelude.{◌≡◌, false, take}
use Rattle.std.specs.List.{list_any}
use Rattle.rb_want_requests.specs.Answered.{is_commit_of}
use Rattle.rb_want.proofs.chain.header_in.Given as goal

-- none of the answers so far has the header
abbrev pub invariant-loop-content : goal.invariant-loop-content
invariant-loop-content l = list_any (is_commit_of l.height) (take l.content-index l.contents) ≡ false
