use Rattle.std.proofs.Common.{◌≡◌, ◌<◌, ◌++◌, List, ℕ, length, string_bytes, ap, refl, ◌∙◌, arith}
use Rattle.toml.specs.View.{table_view}
use Rattle.rb_script_toml.specs.declared.fault.FaultName.TheVariants.{NotToml, InputTooBig}
use Rattle.rb_script_toml.specs.Documents.{max_bytes}
use Rattle.rb_journal.specs.Parts.{closing, IsWhole}
use Rattle.rb_journal.proofs.Refusals.{joined, no_end, no_part, other_end}
use Rattle.rb_journal.proofs.entry.part_of.Goals.{in_default-via-in-Some+else-end-len, in_default-via-in_default}
use Rattle.rb_journal.proofs.entry.part_of.Goals as goal

pub returns-then-len-gt-MAX_BYTES-clause-refused : goal.returns-then-len-gt-MAX_BYTES-clause-refused
returns-then-len-gt-MAX_BYTES-clause-refused c =
    let text : List ℕ = string_bytes c.in_ok-text.text in
    let part : List ℕ = string_bytes c.push_str-3.new.self in
    let one : string_bytes c.push_str.new.self ≡ string_bytes c.new-part.result ++ c.args.before.now = c.in_ok-push_str.ensures.bytes in
    let two : string_bytes c.push_str-2.new.self ≡ string_bytes c.push_str.new.self ++ text = c.in_ok-push_str-2.ensures.bytes ∙ ap (λ l. string_bytes c.push_str.new.self ++ l) c.as_str.ensures.value in
    let three : part ≡ string_bytes c.push_str-2.new.self ++ string_bytes c.in_ok-end.end = c.in_ok-push_str-3.ensures.bytes ∙ ap (λ l. string_bytes c.push_str-2.new.self ++ l) c.as_str-2.ensures.value in
    let is : part ≡ c.args.before.now ++ (text ++ closing c.args.digests (c.args.before.now ++ text)) =
    joined c.args.digests c.args.before.now text (string_bytes c.new-part.result) (string_bytes c.push_str.new.self) (string_bytes c.push_str-2.new.self) c.as_bytes.result.now (string_bytes c.in_ok-end.end) part
    c.new-part.ensures.bytes one two c.as_bytes.ensures.value c.in_ok-end.ensures three in
    let long : max_bytes < length part = omega arith in
    no_part c.args.digests c.args.before.now text part (table_view c.args.table.now) c.fault_at.result InputTooBig c.in_ok-text.ensures.written is long c.fault_at.ensures

pub returns-clause-refused : goal.returns-clause-refused
returns-clause-refused c =
    let text : List ℕ = string_bytes c.in_ok-text.text in
    let part : List ℕ = string_bytes c.push_str-3.new.self in
    let one : string_bytes c.push_str.new.self ≡ string_bytes c.new-part.result ++ c.args.before.now = c.in_ok-push_str.ensures.bytes in
    let two : string_bytes c.push_str-2.new.self ≡ string_bytes c.push_str.new.self ++ text = c.in_ok-push_str-2.ensures.bytes ∙ ap (λ l. string_bytes c.push_str.new.self ++ l) c.as_str.ensures.value in
    let three : part ≡ string_bytes c.push_str-2.new.self ++ string_bytes c.in_ok-end.end = c.in_ok-push_str-3.ensures.bytes ∙ ap (λ l. string_bytes c.push_str-2.new.self ++ l) c.as_str-2.ensures.value in
    let is : part ≡ c.args.before.now ++ (text ++ closing c.args.digests (c.args.before.now ++ text)) =
    joined c.args.digests c.args.before.now text (string_bytes c.new-part.result) (string_bytes c.push_str.new.self) (string_bytes c.push_str-2.new.self) c.as_bytes.result.now (string_bytes c.in_ok-end.end) part
    c.new-part.ensures.bytes one two c.as_bytes.ensures.value c.in_ok-end.ensures three in
    let broken : IsWhole part → ⊥ =
    elim c.in_default.branch [
      | in_default-via-in-Some+else-end-len w ↦ other_end part c.as_bytes-2.result.now c.part_end.result w.in-Some.end (length part) c.as_bytes-2.ensures.value c.part_end.ensures w.in-Some.is refl (λ same. w.if-end-len.false (omega (arith, same)))
      | in_default-via-in_default w ↦ no_end part c.as_bytes-2.result.now c.part_end.result c.as_bytes-2.ensures.value c.part_end.ensures w.in_default.is
    ] in
    no_part c.args.digests c.args.before.now text part (table_view c.args.table.now) c.fault_at-in_default.result NotToml c.in_ok-text.ensures.written is broken c.fault_at-in_default.ensures
