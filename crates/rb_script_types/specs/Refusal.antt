-- why something is refused: numbers and names (own choice)
use Rattle.std.specs.Prelude.{ℕ, List, Option, Some, None, codes}
use Rattle.rb_book.specs.declared.error.BookError.{BookError}
use Rattle.rb_book.specs.declared.error.BookError.TheVariants as book
use Rattle.rb_script_types.specs.declared.refusal.Refusal.{Refusal}
use Rattle.rb_script_types.specs.declared.refusal.Refusal.TheVariants.{UnknownSet, WrongVerdictCount, BadVote, Conflict, TimeOrder, Full, HashClash, UnknownObject, Stale, Busy, Repeat, OutOfOrder, WindowBack, NotOwed, LogFull}

abbrev pub number_of : Refusal → ℕ
number_of UnknownSet = 401
number_of WrongVerdictCount = 402
number_of (BadVote index) = 403
number_of (Conflict height) = 404
number_of (TimeOrder height) = 405
number_of Full = 406
number_of HashClash = 407
number_of UnknownObject = 801
number_of (Stale front) = 802
number_of Busy = 803
number_of Repeat = 804
number_of OutOfOrder = 805
number_of WindowBack = 806
number_of NotOwed = 807
number_of LogFull = 808

abbrev pub name_of : Refusal → List ℕ
name_of UnknownSet = codes "UnknownSet"
name_of WrongVerdictCount = codes "WrongVerdictCount"
name_of (BadVote index) = codes "BadVote"
name_of (Conflict height) = codes "Conflict"
name_of (TimeOrder height) = codes "TimeOrder"
name_of Full = codes "Full"
name_of HashClash = codes "HashClash"
name_of UnknownObject = codes "UnknownObject"
name_of (Stale front) = codes "Stale"
name_of Busy = codes "Busy"
name_of Repeat = codes "Repeat"
name_of OutOfOrder = codes "OutOfOrder"
name_of WindowBack = codes "WindowBack"
name_of NotOwed = codes "NotOwed"
name_of LogFull = codes "LogFull"

-- what a book's refusal is; want of memory is none
abbrev pub of_book : BookError → Option Refusal
of_book book.UnknownSet = Some UnknownSet
of_book book.WrongVerdictCount = Some WrongVerdictCount
of_book (book.BadVote index) = Some (BadVote index)
of_book (book.Conflict height) = Some (Conflict height)
of_book (book.TimeOrder height) = Some (TimeOrder height)
of_book book.Full = Some Full
of_book book.HashClash = Some HashClash
of_book book.NoMemory = None
