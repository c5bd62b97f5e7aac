use Rattle.std.proofs.Common.{codes, string_bytes, ◌++◌, ap, ◌∙◌}
use Rattle.std.proofs.lemmas.Result.{on_ok_weaker}
use Rattle.rb_import_setup.specs.HermesSetups.{text_line}
use Rattle.rb_import_setup.proofs.SetupsLemmas.{added4}
use Rattle.rb_import_setup.proofs.hermes_setup.push_identity.Goals as goal

pub returns : goal.returns
returns c =
    let client = c.args.client.now in
    let with_id = string_bytes c.push_text.new.text in
    let with_host = string_bytes c.push_text-2.new.text in
    on_ok_weaker c.push_text-3.result
    (λ last. added4 (string_bytes c.args.text.now) (string_bytes c.push_str.new.self) with_id with_host (string_bytes c.push_text-3.new.text)
    (codes "[[client]]\n") (text_line (codes "id") c.args.id.now) (text_line (codes "host") client.host) (text_line (codes "of") client.chain)
    c.in_ok-push_str.ensures.bytes c.in_ok-push_text.ensures
    (c.in_ok-push_text-2.ensures ∙ ap (λ host. with_id ++ text_line (codes "host") host) c.as_str.ensures.text)
    (last ∙ ap (λ chain. with_host ++ text_line (codes "of") chain) c.as_str-2.ensures.text))
    c.push_text-3.ensures
