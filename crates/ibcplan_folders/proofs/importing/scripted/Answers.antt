use Rattle.std.proofs.Common.{sym, ◌∙◌}
use Rattle.std.specs.Prelude.{◌≡◌, Ok}
use Rattle.std.proofs.lemmas.Bool.{true≢false}
use Rattle.rb_script_types.specs.Script.{IsReadScript, script_view}
use Rattle.rb_script_read.specs.Work.{little}
use Rattle.rb_import.specs.Scripts as made
use Rattle.ibcplan_folders.specs.Files.{IsMadeOf, signatures_of}
use Rattle.ibcplan_folders.specs.Leavings.{IsLeft}
use Rattle.ibcplan_folders.proofs.Leaving.{left_after}
use Rattle.ibcplan_folders.proofs.Wholes.{in_part, of_rest, of_seen, part_of}
use Rattle.ibcplan_folders.proofs.importing.scripted.Goals as goal

pub returns-in-Ok-clause-in_part : goal.returns-in-Ok-clause-in_part
returns-in-Ok-clause-in_part c =
    in_part c.args.left_out c.rounds.left_out c.made_script.result (λ m. m.status) c.rounds.invariant.in_part c.made_script.ensures.status

pub returns-in-Ok-clause-script : goal.returns-in-Ok-clause-script
returns-in-Ok-clause-script c =
    let votes = signatures_of c.args.import in
    let left = c.rounds.fleet in
    let script = c.in-Ok.made.script in
    let of_left : IsMadeOf left votes script =
    of_seen left c.signatures_of-signatures.result votes (λ seen. made.IsMadeOf left.setup left.answers seen script) c.signatures_of-signatures.ensures c.in-Ok.ensures.script in
    of_rest c.args.fleet left c.rounds.left_out c.made_script.result (λ m. m.status) (λ rest m. IsLeft c.args.fleet rest × IsMadeOf rest votes m.script) c.rounds.invariant.whole
    (part_of c.made_script.result (λ m. m.script) script (λ s. IsLeft c.args.fleet left × IsMadeOf left votes s) (c.rounds.invariant.left, of_left) c.made_script.ensures.script) c.made_script.ensures.status

pub returns-in-Ok-clause-form : goal.returns-in-Ok-clause-form
returns-in-Ok-clause-form c =
    part_of c.made_script.result (λ m. m.script) c.in-Ok.made.script (λ s. IsReadScript (script_view s)) c.in-Ok.ensures.form c.made_script.ensures.script

pub returns-in-Ok-clause-little : goal.returns-in-Ok-clause-little
returns-in-Ok-clause-little c =
    part_of c.made_script.result (λ m. m.script) c.in-Ok.made.script (λ s. little (script_view s).config (script_view s).turns ≡ Ok tt) c.in-Ok.ensures.little c.made_script.ensures.script

pub rounds-preserved : goal.rounds-preserved
rounds-preserved c =
    let some = c.in_ok-fleet.ensures.told in
    record {
      whole = λ none. absurd (true≢false (sym some ∙ none));
      left = left_after c.args.fleet c.rounds.fleet c.in_ok-fleet.fleet c.rounds.invariant.left c.in_ok-fleet.ensures.left;
      in_part = λ before. some;
    }
