-- What is asked for a setup, why, and why no more is.
use Rattle.std.specs.Prelude.{◌≡◌, List, [], ◌++◌, fold}
use Rattle.std.specs.List.{AllZip, enumerate_from, flat_map}
use Rattle.rb_import_setup.specs.declared.setup.ImportSetup.{ImportSetup}
use Rattle.rb_want_requests.specs.declared.content.Folders.{Folders}
use Rattle.rb_want_requests.specs.declared.reason.PathEnd.{PathEnd}
use Rattle.rb_want_requests.specs.declared.reason.SearchReason.{SearchReason}
use Rattle.rb_want_requests.specs.declared.request.Request.{Request}
use Rattle.rb_want.specs.Adding.{Outcome, Told, nothing_told, with_needed, with_outcome, with_path_ends}
use Rattle.rb_want.specs.Needs.{IsOutcomeAt}
use Rattle.rb_want.specs.Paths.{ends_at, needs_at}

-- what each path needs, in their order
abbrev pub path_needs_of : ImportSetup → Folders → List Request
path_needs_of setup folders = flat_map (needs_at setup.chains.items folders.paths.items) (enumerate_from 0 setup.paths.items)

-- what clients with these outcomes need, in their order, and behind that what each path needs
abbrev pub needed_of : ImportSetup → Folders → List Outcome → List Request
needed_of setup folders outcomes = flat_map (λ o. o.needed) outcomes ++ path_needs_of setup folders

-- why clients' requests are asked for: of each for which one more is
abbrev pub reasons_of : Folders → List Outcome → List SearchReason
reasons_of folders outcomes = (fold (with_outcome folders) nothing_told outcomes).reasons

-- The requests are those that the clients and paths need, in this order: each once, none that is answered or was refused, and no more than 30. Beside
-- them stand why the clients' are asked for, and why no more is asked for clients.
abbrev pub AreAsked : ImportSetup → Folders → Told → Type 0
AreAsked setup folders told =
    (outcomes : List Outcome) × AllZip (IsOutcomeAt setup folders) (enumerate_from 0 setup.clients.items) outcomes
    × (told.requests ≡ with_needed folders [] (needed_of setup folders outcomes))
    × (told.reasons ≡ reasons_of folders outcomes)
    × (told.ends ≡ flat_map (λ o. o.ends) outcomes)

-- why no more is asked for paths, of a path and a gateway once
abbrev pub path_ends_of : ImportSetup → Folders → List PathEnd
path_ends_of setup folders = with_path_ends [] (flat_map (ends_at setup.chains.items folders.paths.items) (enumerate_from 0 setup.paths.items))
