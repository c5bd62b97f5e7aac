use Rattle.std.specs.Prelude.{string_bytes}
use Rattle.rb_import.specs.Scripts.{IsFitting}
use Rattle.ibcplan_folders.specs.Files.{IsScriptOf, signatures_of}
use Rattle.ibcplan_folders.proofs.Wholes.{in_part, of_rest, of_seen, part_of, whole_script}
use Rattle.ibcplan_folders.proofs.importing.composed.Goals as goal

pub returns-in-Ok-clause-whole : goal.returns-in-Ok-clause-whole
returns-in-Ok-clause-whole c =
    whole_script c.args.fleet c.rounds.fleet c.rounds.left_out c.imported_text.result c.in-Ok.composed.text c.rounds.invariant.whole c.in-Ok.ensures.opening
    c.imported_text.ensures.script c.imported_text.ensures.status

pub returns-in-Ok-clause-in_part : goal.returns-in-Ok-clause-in_part
returns-in-Ok-clause-in_part c =
    in_part c.args.left_out c.rounds.left_out c.imported_text.result (λ t. t.status) c.rounds.invariant.in_part c.imported_text.ensures.status

pub returns-in-Ok-clause-script : goal.returns-in-Ok-clause-script
returns-in-Ok-clause-script c =
    let votes = signatures_of c.args.import in
    let left = c.rounds.fleet in
    let text = c.in-Ok.composed.text in
    let of_left : IsScriptOf left votes (string_bytes text) =
    of_seen left c.signatures_of-signatures.result votes (λ seen. IsFitting left.setup left.answers seen (string_bytes text)) c.signatures_of-signatures.ensures c.in-Ok.ensures.script in
    of_rest c.args.fleet left c.rounds.left_out c.imported_text.result (λ t. t.status) (λ rest t. IsScriptOf rest votes (string_bytes t.script)) c.rounds.invariant.whole
    (part_of c.imported_text.result (λ t. t.script) text (λ x. IsScriptOf left votes (string_bytes x)) of_left c.imported_text.ensures.script) c.imported_text.ensures.status
