use Rattle.std.proofs.Common.{◌++◌, codes, false, string_bytes, append_assoc, ◌∙◌}
use Rattle.rb_script_text.specs.Json.{more_text, name_text, string_text}
use Rattle.rb_script_text.proofs.Added.{closed_ok}
use Rattle.rb_messages.specs.SignedTexts.{absent_json, unsigned_members}
use Rattle.rb_messages.proofs.commit.push_absent.Goals as goal

pub returns : goal.returns
unfolding absent_json
returns c =
    let flag = string_text (codes "BLOCK_ID_FLAG_ABSENT") in
    closed_ok c.push_str-2.result (string_bytes c.args.text.now) (string_bytes c.push_str.new.self) (string_bytes c.push_text.new.text)
    (string_bytes c.push_unsigned.new.text) (string_bytes c.push_str-2.new.self) (name_text false (codes "block_id_flag") ++ flag) (more_text unsigned_members)
    c.push_str-2.ensures.bytes c.in_ok-push_unsigned.ensures
    (c.in_ok-push_text.ensures ∙ append_assoc (string_bytes c.push_str.new.self) (name_text false (codes "block_id_flag")) flag) c.in_ok-push_str.ensures.bytes
