use Rattle.std.proofs.Common.{string_bytes, refl}
use Rattle.rb_messages.specs.SignedTexts.{set_hashes}
use Rattle.rb_messages.proofs.Members.{members_ok}
use Rattle.rb_messages.proofs.header.push_set_hashes.Goals as goal

pub returns : goal.returns
unfolding set_hashes
returns c =
    members_ok c.push_state_hashes.result (string_bytes c.args.text.now) (string_bytes c.push_bytes.new.text) (string_bytes c.push_bytes-2.new.text)
    (string_bytes c.push_state_hashes.new.text) _ _ _ _ c.push_state_hashes.ensures c.in_ok-push_bytes-2.ensures c.in_ok-push_bytes.ensures refl
