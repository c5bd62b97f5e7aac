use Rattle.std.proofs.Common.{string_bytes, refl}
use Rattle.rb_messages.specs.MessageTexts.{height_json}
use Rattle.rb_messages.proofs.Members.{pair_ok}
use Rattle.rb_messages.proofs.client_message.push_height.Goals as goal

pub returns : goal.returns
unfolding height_json
returns c =
    pair_ok c.push_str-2.result (string_bytes c.args.text.now) (string_bytes c.push_str.new.self) (string_bytes c.push_quoted.new.text)
    (string_bytes c.push_quoted-2.new.text) (string_bytes c.push_str-2.new.self) _ _ _ c.push_str-2.ensures.bytes c.in_ok-push_quoted-2.ensures
    c.in_ok-push_quoted.ensures c.in_ok-push_str.ensures.bytes refl
