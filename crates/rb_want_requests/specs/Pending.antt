-- Which packets of a path are pending, as a file of its folder tells (ICS 4: packet commitments).
use Rattle.std.specs.Prelude.{ℕ, List, []}
use Rattle.rb_want_requests.specs.declared.content.Content.{Content}
use Rattle.rb_want_requests.specs.declared.content.Content.TheVariants as contents

-- the sequences of the packets to which the source holds a commitment
abbrev pub committed_in : Content → List ℕ
committed_in (contents.Commitments number page) = page.sequences.items
committed_in _ = []
