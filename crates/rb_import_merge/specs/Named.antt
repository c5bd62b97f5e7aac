-- What an error on a path's answers names: the files, and the sequence of a packet or the total of a search.
use Rattle.std.specs.Prelude.{◌≡◌, ◌≢◌, ⊤, List, None, false, Any, filter, string_bytes}
use Rattle.rb_import_setup.specs.declared.setup.PathSetup.{PathSetup}
use Rattle.rb_import_check.specs.declared.error.CheckErrorName.{CheckErrorName}
use Rattle.rb_import_check.specs.declared.error.ImportError.{ImportError}
use Rattle.rb_import_check.specs.declared.error.ImportError.TheVariants as errors
use Rattle.rb_import_check.specs.declared.saved.Saved.{Saved}
use Rattle.rb_import_check.specs.Errors.{IsAt, IsBetween, IsIn, IsOfNoHeight}
use Rattle.rb_import_merge.specs.Packets.{FiledEvent, counterparty, events_of, filed_events_of, is_on_packets, is_wanted}
use Rattle.rb_import_merge.specs.Refusals.{TellOtherwise}
use Rattle.rb_import_merge.specs.Totals.{FiledPage, filed_pages_of, is_whole, pages_of}

-- the events that are wanted of a path, each with its file
abbrev pub filed_wanted_of : PathSetup → List Saved → List FiledEvent
filed_wanted_of setup saved = filter (λ (f : FiledEvent). is_wanted setup (counterparty setup (events_of saved)) saved f.0) (filed_events_of saved)

-- it names a page of a search whose transactions aren't all there: the search's total and the page's file
abbrev pub NamesPage : List Saved → ImportError → Type 0
NamesPage saved e = Any (λ (f : FiledPage). (is_whole f.0.total (pages_of saved) ≡ false) × IsAt f.0.total e × IsIn f.1 e) (filed_pages_of saved)

-- it is between the files of a wanted event and of an event from another source, and names the sequence of the second
abbrev pub NamesTwoSources : PathSetup → List Saved → ImportError → Type 0
NamesTwoSources setup saved e =
    Any
    (λ (f : FiledEvent). Any (λ (g : FiledEvent). (string_bytes f.0.source ≢ string_bytes g.0.source) × IsAt g.0.sequence e × IsBetween f.1 g.1 e) (filed_events_of saved))
    (filed_wanted_of setup saved)

-- it is between the files of two wanted events that tell of one sending and aren't equal, and names their sequence
abbrev pub NamesTwoSendings : PathSetup → List Saved → ImportError → Type 0
NamesTwoSendings setup saved e =
    Any
    (λ (f : FiledEvent). Any (λ (g : FiledEvent). TellOtherwise f.0 g.0 × IsAt f.0.sequence e × IsBetween f.1 g.1 e) (filed_wanted_of setup saved))
    (filed_wanted_of setup saved)

-- it names no file and no number
abbrev pub NamesNone : ImportError → Type 0
NamesNone (errors.CheckError p) = (p.number ≡ None) × (p.file ≡ None) × (p.other ≡ None)
NamesNone errors.NoMemory = ⊤

-- what an error names, by its name
abbrev pub NamesByName : CheckErrorName → PathSetup → List Saved → ImportError → Type 0
NamesByName CheckErrorName.WrongFolder setup saved e = Any (λ (s : Saved). (is_on_packets s.answer ≡ false) × IsIn (string_bytes s.file) e × IsOfNoHeight e) saved
NamesByName CheckErrorName.MissingTransactions setup saved e = NamesPage saved e
NamesByName CheckErrorName.TwoChannels setup saved e = NamesTwoSources setup saved e
NamesByName CheckErrorName.TwoAnswers setup saved e = NamesTwoSendings setup saved e
NamesByName _ setup saved e = NamesNone e

-- the error names what contradicts in a path's answers; memory may run out at any
abbrev pub NamesOfPath : PathSetup → List Saved → ImportError → Type 0
NamesOfPath setup saved (errors.CheckError p) = NamesByName p.name setup saved (errors.CheckError p)
NamesOfPath setup saved errors.NoMemory = ⊤
