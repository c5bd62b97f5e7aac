use Rattle.std.proofs.Common.{◌≡◌, refl}
use Rattle.std.specs.Prelude.{Some}
use Rattle.ibcplan_folders.specs.Folders.{content}
use Rattle.ibcplan_folders.proofs.Grouped.{with_known}
use Rattle.ibcplan_folders.proofs.importing.read_file.Goals as goal

pub returns-in-Ok : goal.returns-in-Ok
returns-in-Ok g c =
    let name = c.args.name.now in
    with_known (g.F.AnswerFolders.known c.args.files.now) (name ≡ name) (λ files. content c.args.folder.now name files ≡ Some c.in-Ok.bytes.items) refl c.in-Ok.ensures
