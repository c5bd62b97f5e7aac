-- Whether the pages of searches for transactions are all there (CometBFT, `/tx_search`: each page tells how many transactions the search finds).
use Rattle.std.specs.Prelude.{◌≡◌, ℕ, ◌-◌, ◌%◌, ◌^◌, ◌==◌, min, Bool, false, if◌then◌else◌, List, [], ◌∷◌, Any, map, sum_by}
use Rattle.std.specs.List.{flat_map}
use Rattle.rb_import_answers.specs.declared.answer.NodeAnswer.{NodeAnswer}
use Rattle.rb_import_answers.specs.declared.answer.NodeAnswer.TheVariants as answers
use Rattle.rb_import_answers.specs.declared.packets.PacketPage.{PacketPage}
use Rattle.rb_import_check.specs.declared.error.CheckErrorName.{CheckErrorName}
use Rattle.rb_import_check.specs.declared.error.ImportError.{ImportError}
use Rattle.rb_import_check.specs.declared.error.ImportError.TheVariants as errors
use Rattle.rb_import_check.specs.declared.saved.Saved.{Saved}
use Rattle.rb_import_check.specs.Errors.{IsAt, IsIn}
use Rattle.rb_import_check.specs.Named.{with_files}
use Rattle.rb_import_merge.specs.declared.packets.Page.{Page}

abbrev pub pages_in : NodeAnswer → List PacketPage
pages_in (answers.Commit header) = []
pages_in (answers.Validators page) = []
pages_in (answers.ClientState state) = []
pages_in (answers.ConsensusStates page) = []
pages_in (answers.Transactions page) = page ∷ []
pages_in (answers.Pending p) = []
pages_in (answers.Verdicts v) = []
pages_in (answers.Other query) = []

-- the pages of transactions that a path's answers have, in their order
abbrev pub pages_of : List Saved → List PacketPage
pages_of saved = flat_map (λ (s : Saved). pages_in s.answer) saved

-- a page, and the name of its file
abbrev pub FiledPage : Type 0
FiledPage = PacketPage × List ℕ

-- the pages of transactions that a path's answers have, each with its file
abbrev pub filed_pages_of : List Saved → List FiledPage
filed_pages_of saved = with_files pages_in saved

abbrev pub filed_page : Page → FiledPage
filed_page p = (p.page.now, p.file.now)

-- how many transactions a page has, if it is of a search with this total
abbrev pub count_in : ℕ → PacketPage → ℕ
count_in total p = if p.total == total then p.count else 0

-- how many the pages of searches with this total have, counted up to 2^64 - 1
abbrev pub count_with : ℕ → List PacketPage → ℕ
count_with total pages = min (sum_by (count_in total) pages) (2 ^ 64 - 1)

-- whether the pages with this total are those of whole searches: none has a transaction where the total is 0, else they have those of one search,
-- or of several ones
abbrev pub is_whole : ℕ → List PacketPage → Bool
is_whole total pages = if total == 0 then count_with total pages == 0 else count_with total pages % total == 0

-- the problem is that transactions are missing: the total of one of the pages, and its file
abbrev pub IsCutShort : List Page → ImportError → Type 0
IsCutShort pages (errors.CheckError p) =
    (p.name ≡ CheckErrorName.MissingTransactions)
    × Any
    (λ (q : Page). (is_whole q.page.now.total (map (λ (r : Page). r.page.now) pages) ≡ false) × IsAt q.page.now.total (errors.CheckError p) × IsIn q.file.now (errors.CheckError p))
    pages
IsCutShort pages errors.NoMemory = ⊥
