use Rattle.std.proofs.Common.{List, map, take, subst, sym}
use Rattle.std.specs.Prelude.{String, Vec, string_bytes}
use Rattle.std.specs.Global.{Global}
use Rattle.std.specs.List.{AllZip}
use Rattle.std.proofs.lemmas.List.{take_all}
use Rattle.rayon.proofs.ListFacts.{IfOk-then}
use Rattle.rb_import_check.specs.declared.saved.Saved.{Saved}
use Rattle.ibcplan_folders.specs.Folders.{AreAnswersBehind, IsAnswerIn, IsFileIn, OfKnown}
use Rattle.ibcplan_folders.specs.declared.reading.FileBytes.{FileBytes}
use Rattle.ibcplan_folders.proofs.Grouped.{IsHalfDone, all_taken, begun, begun_anew, of_ok, one_read}
use Rattle.ibcplan_folders.proofs.importing.read_files.Goals as goal
use Rattle.ibcplan_folders.proofs.importing.read_files.Goals.{then-not-fits+in_ok-answers, else-not-fits}

pub loop-name-init : goal.loop-name-init
loop-name-init g c =
    begun c.args.reading c.args.folder.now (g.F.AnswerFolders.known c.args.files.now) c.new-answers.result.items c.new-group.result.items c.new-answers.ensures.items c.new-group.ensures.items

pub loop-name-preserved : goal.loop-name-preserved
loop-name-preserved g c =
    let known = g.F.AnswerFolders.known c.args.files.now in
    let how = c.args.reading in
    let folder = c.args.folder.now in
    let before = map string_bytes (take c.loop-name.name-index c.args.names.now) in
    let answers = c.if-not-fits.answers.items in
    let group = c.if-not-fits.group.items in
    let file = c.in_ok-file.file in
    let one : OfKnown known (IsFileIn folder file c.as_str.result.now) =
    of_ok c.read_file-read.result file (λ (f : FileBytes). OfKnown known (IsFileIn folder f c.as_str.result.now)) c.in_ok-file.was c.read_file-read.ensures in
    let more = λ (half : OfKnown known (IsHalfDone how folder before answers group)). one_read how folder known c.args.names.now c.loop-name.name-index c.name-item.result c.as_str.result.now answers group
    c.add.new.items.items file c.loop-name-test.true c.name-item.is c.as_str.ensures.value c.in_ok-add.ensures one half in
    elim c.if-not-fits.branch [
      | then-not-fits+in_ok-answers w ↦
          let all = all_taken how folder known before c.loop-name.answers.items w.in_ok-answers.answers.items c.loop-name.group.items w.as_slice.result.now w.as_slice.ensures.value c.requires
          w.in_ok-answers.ensures c.loop-name.invariant in
          let anew = begun_anew how folder known before w.in_ok-answers.answers.items w.new-group-then-not-fits.result.items w.new-group-then-not-fits.ensures.items all in
          more (subst (λ (v : Vec Saved Global). OfKnown known (IsHalfDone how folder before v.items group)) (sym w.answers-is)
          (subst (λ (v : Vec FileBytes Global). OfKnown known (IsHalfDone how folder before w.in_ok-answers.answers.items v.items)) (sym w.group-is) anew))
      | else-not-fits w ↦
          more (subst (λ (v : Vec Saved Global). OfKnown known (IsHalfDone how folder before v.items group)) (sym w.answers-is)
          (subst (λ (v : Vec FileBytes Global). OfKnown known (IsHalfDone how folder before c.loop-name.answers.items v.items)) (sym w.group-is) c.loop-name.invariant))
    ]

pub returns : goal.returns
returns g c =
    let known = g.F.AnswerFolders.known c.args.files.now in
    let how = c.args.reading in
    let folder = c.args.folder.now in
    let names = c.args.names.now in
    let group = c.loop-name.group.items in
    let half : OfKnown known (IsHalfDone how folder (map string_bytes names) c.loop-name.answers.items group) =
    subst (λ (l : List (String Global)). OfKnown known (IsHalfDone how folder (map string_bytes l) c.loop-name.answers.items group)) (take_all c.loop-name.name-index names c.loop-name-test.false) c.loop-name.invariant in
    IfOk-then c.with_answers-2.result (λ saved. AreAnswersBehind how c.as_slice-2.result.now c.loop-name.answers.items saved.items)
    (λ saved. OfKnown known (λ files. AllZip (IsAnswerIn how.votes how.since folder files) (map string_bytes names) saved.items)) c.with_answers-2.ensures
    (λ saved behind. all_taken how folder known (map string_bytes names) c.loop-name.answers.items saved.items group c.as_slice-2.result.now c.as_slice-2.ensures.value c.requires behind half)
