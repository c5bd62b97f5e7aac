use Rattle.std.proofs.Common.{string_bytes, refl}
use Rattle.rb_messages.specs.SignedTexts.{state_hashes}
use Rattle.rb_messages.proofs.Members.{members_ok}
use Rattle.rb_messages.proofs.header.push_state_hashes.Goals as goal

pub returns : goal.returns
unfolding state_hashes
returns c =
    members_ok c.push_last_hashes.result (string_bytes c.args.text.now) (string_bytes c.push_bytes.new.text) (string_bytes c.push_bytes-2.new.text)
    (string_bytes c.push_last_hashes.new.text) _ _ _ _ c.push_last_hashes.ensures c.in_ok-push_bytes-2.ensures c.in_ok-push_bytes.ensures
    (rw (c.as_slice.ensures.value, c.as_slice-2.ensures.value) refl)
