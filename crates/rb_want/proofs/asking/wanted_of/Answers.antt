use Rattle.std.proofs.Common.{◌∙◌, List, [], ap}
use Rattle.std.specs.Borrow.{Bor}
use Rattle.std.specs.List.{enumerate_from, flat_map}
use Rattle.rb_import_setup.specs.declared.setup.PathSetup.{PathSetup}
use Rattle.rb_want_requests.specs.declared.content.Folders.{Folders}
use Rattle.rb_want.specs.Adding.{told_of, with_path_ends}
use Rattle.rb_want.specs.Paths.{ends_at}
use Rattle.rb_want.proofs.Zipped.{all_asked, told_nothing}
use Rattle.rb_want.proofs.asking.wanted_of.Goals as goal

-- what the clients need, and behind it what the paths need
pub returns-clause-asked : goal.returns-clause-asked
returns-clause-asked c =
    let mid = c.add_clients.new.wanted in
    let new = c.add_paths.new.wanted in
    all_asked c.args.setup.now c.args.folders.now c.nothing-wanted.result.folders.now mid.folders.now c.as_slice-clients.result.now c.as_slice-2.result.now
    (told_of c.nothing-wanted.result) (told_of mid) (told_of new) c.as_slice-clients.ensures.value c.as_slice-2.ensures.value c.nothing-wanted.ensures.folders
    (ap (λ (b : Bor Folders). b.now) c.in_ok-add_clients.ensures.folders)
    (told_nothing (told_of c.nothing-wanted.result) c.nothing-wanted.ensures.requests c.nothing-wanted.ensures.reasons c.nothing-wanted.ensures.ends)
    c.in_ok-add_clients.ensures.outcomes c.in_ok-add_paths.ensures.requests (ap (λ v. v.items) c.in_ok-add_paths.ensures.reasons)
    (ap (λ v. v.items) c.in_ok-add_paths.ensures.ends)

-- why no more is asked for paths
pub returns-clause-path_ends : goal.returns-clause-path_ends
returns-clause-path_ends c =
    let why = ends_at c.args.setup.now.chains.items c.args.folders.now.paths.items in
    c.in_ok-add_paths.ensures.path_ends
    ∙ ap (λ es. with_path_ends es (flat_map why (enumerate_from 0 c.as_slice-2.result.now)))
    (ap (λ v. v.items) c.in_ok-add_clients.ensures.path_ends ∙ c.nothing-wanted.ensures.path_ends)
    ∙ ap (λ (l : List PathSetup). with_path_ends [] (flat_map why (enumerate_from 0 l))) c.as_slice-2.ensures.value
