use Rattle.std.proofs.Common.{◌≡◌, map, take}
use Rattle.std.specs.List.{filter_map}
use Rattle.rb_want.specs.Clients.{page_in}
use Rattle.rb_want.proofs.chain.all_pages.Given as goal

-- the pages so far are those of the contents so far
abbrev pub invariant-loop-content : goal.invariant-loop-content
invariant-loop-content l = map (λ p. p.now) l.pages.items ≡ filter_map page_in (take l.content-index l.contents)
