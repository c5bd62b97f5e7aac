use Rattle.std.proofs.Common.{ap, sym, ◌∙◌, arith, ◌<◌}
use Rattle.std.proofs.Output.{has_written_of_eq}
use Rattle.std.specs.Prelude.{encode_utf8}
use Rattle.rb_want_requests.proofs.Encoding.{other_byte, plain_byte}
use Rattle.rb_want_requests.proofs.packet_lines.write_encoded_byte.Goals as goal

pub returns-then-is_plain : goal.returns-then-is_plain
returns-then-is_plain g c = λ plain ok.
    has_written_of_eq _ _ _ _ _ (ap encode_utf8 c.from.ensures ∙ plain_byte c.args.byte (sym c.is_plain.ensures ∙ c.if-is_plain.true)) (c.write_char.ensures.writes plain ok)

pub returns-else-is_plain : goal.returns-else-is_plain
returns-else-is_plain g c = λ plain ok.
    let written = rw (c.laid_out.ensures, c.in_radix.ensures) at c.write.ensures.writes in
    let small : c.args.byte < 256 = omega arith in
    has_written_of_eq _ _ _ _ _ (other_byte c.args.byte small (sym c.is_plain.ensures ∙ c.if-is_plain.false)) (written plain ok)
