use Rattle.std.proofs.Common.{codes, string_bytes, sym, ◌∙◌}
use Rattle.std.proofs.lemmas.Slice.Eq.{bytes_eq-Decides}
use Rattle.rb_script_read.proofs.plain.after_header.Goals as goal

pub returns-then-eq-clause-header : goal.returns-then-eq-clause-header
returns-then-eq-clause-header c =
    let named = (bytes_eq-Decides (string_bytes c.in_ok-key.key) (codes "turn")).0 (rw c.as_str.ensures.value at (sym c.eq.ensures ∙ c.if-eq.true)) in
    rw named at c.in_ok-key.ensures.header
