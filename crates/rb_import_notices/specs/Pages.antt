-- Pages of a client's consensus states that are lost. `want` names the files of the pages consensus_states-1.json, consensus_states-2.json, ..: each by
-- one more than the number of the pages that are there when it is asked for.
use Rattle.std.specs.Prelude.{◌-◌, ◌==◌, ◌&&◌, ℕ, Bool, true, false, not, List, [], ◌∷◌, Option, Some, None, codes, count_by, eqb, filter_map, find, if◌then◌else◌, max, nat_lt, option_map, string_bytes}
use Rattle.std.specs.List.{ends_with, list_any, range_with_len, reduce}
use Rattle.std.specs.Str.{bytes_eq}
use Rattle.rb_import_json.specs.Values.{number_of}
use Rattle.rb_import_answers.specs.declared.answer.NodeAnswer.{NodeAnswer}
use Rattle.rb_import_answers.specs.declared.answer.NodeAnswer.TheVariants as answers
use Rattle.rb_import_check.specs.declared.saved.Saved.{Saved}
use Rattle.rb_import_check.specs.declared.saved.SavedAnswers.{SavedAnswers}
use Rattle.rb_import_merge.specs.Seen.{answers_at}
use Rattle.rb_import_notices.specs.declared.notice.Notice.{Notice}
use Rattle.rb_import_notices.specs.declared.notice.Notice.TheVariants.{MissingStates}

abbrev pub after_byte : ℕ → ℕ → List ℕ → Option (List ℕ × List ℕ) → Option (List ℕ × List ℕ)
after_byte mark b rest (Some p) = Some (b ∷ p.0, p.1)
after_byte mark b rest None = if b == mark then Some ([], rest) else None

-- what stands before the last such mark, and after it
abbrev pub at_last : ℕ → List ℕ → Option (List ℕ × List ℕ)
at_last mark [] = None
at_last mark (b ∷ bs) = after_byte mark b bs (at_last mark bs)

abbrev pub stem_in : Option (List ℕ × List ℕ) → Option (List ℕ)
stem_in (Some p) = if bytes_eq p.1 (codes "json") then Some p.0 else None
stem_in None = None

-- a path without its ending .json
abbrev pub stem_of : List ℕ → Option (List ℕ)
stem_of file = stem_in (at_last 46 file)

-- a text ends with this name
unfoldable pub is_of_states : List ℕ → Bool
is_of_states front = ends_with eqb front (codes "consensus_states")

abbrev pub number_in : Option (List ℕ × List ℕ) → Option ℕ
number_in (Some p) = if is_of_states p.0 then number_of p.1 else None
number_in None = None

abbrev pub page_in : Option (List ℕ) → Option ℕ
page_in (Some stem) = number_in (at_last 45 stem)
page_in None = None

-- the number of a page by the path of its file: FOLDER/consensus_states-NUMBER.json
unfoldable pub page_of : List ℕ → Option ℕ
page_of file = page_in (stem_of file)

-- the number of the page that a file is named by
unfoldable pub page_named : Saved → Option ℕ
page_named s = page_of (string_bytes s.file)

-- the numbers of the pages that files are named by
unfoldable pub pages_of : List Saved → List ℕ
pages_of saved = filter_map page_named saved

abbrev pub is_states : NodeAnswer → Bool
is_states (answers.Commit header) = false
is_states (answers.Validators page) = false
is_states (answers.ClientState state) = false
is_states (answers.ConsensusStates page) = true
is_states (answers.Transactions page) = false
is_states (answers.Pending p) = false
is_states (answers.Verdicts v) = false
is_states (answers.Other query) = false

-- whether an answer is a page of consensus states
unfoldable pub is_page : Saved → Bool
is_page s = is_states s.answer

-- how many pages of consensus states there are
unfoldable pub count_pages : List Saved → ℕ
count_pages saved = count_by is_page saved

unfoldable pub is_there : List ℕ → ℕ → Bool
is_there pages page = list_any (λ other. other == page) pages

-- whether a later page is among these, whose number is above this count
unfoldable pub is_later_there : List ℕ → ℕ → ℕ → Bool
is_later_there pages count page = list_any (λ later. nat_lt page later && nat_lt count later) pages

-- whether a page isn't among these, and a later one is, whose number is above this count
unfoldable pub is_lacking : List ℕ → ℕ → ℕ → Bool
is_lacking pages count page = not (is_there pages page) && is_later_there pages count page

abbrev pub pages_below : Option ℕ → List ℕ
pages_below (Some highest) = range_with_len 1 (highest - 1)
pages_below None = []

-- the first page that is lacking; it is below the highest one
abbrev pub first_lacking : List ℕ → ℕ → Option ℕ
first_lacking pages count = find (is_lacking pages count) (pages_below (reduce max pages))

-- the first page that isn't among the answers, while a later one is, whose number is above that of the pages that are there
abbrev pub lost_page : List Saved → Option ℕ
lost_page saved = first_lacking (pages_of saved) (count_pages saved)

-- a client of which a page is lost, and the first one
abbrev pub missing_states : SavedAnswers → ℕ → Option Notice
missing_states answers client = option_map (MissingStates client) (lost_page (answers_at answers.clients.items client))
