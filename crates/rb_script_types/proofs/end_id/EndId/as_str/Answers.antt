use Rattle.rb_script_types.proofs.Ends.{end_id-is_text}
use Rattle.rb_script_types.proofs.end_id.EndId.as_str.Goals as goal

pub unwrap-requires : goal.unwrap-requires
unwrap-requires c = end_id-is_text _ _ _ _ c.as_bytes.ensures.form (rw c.as_bytes.ensures.text at c.from_utf8.ensures.cases)
