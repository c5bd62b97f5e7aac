use Rattle.rb_base.proofs.Ascii.{identifier-is_text}
use Rattle.rb_base.proofs.identifier.Identifier.as_str.Goals as goal

pub unwrap-requires : goal.unwrap-requires
unwrap-requires c = identifier-is_text _ _ _ _ c.as_bytes.ensures.form (rw c.as_bytes.ensures.text at c.from_utf8.ensures.cases)
