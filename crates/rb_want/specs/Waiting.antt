-- What the judgement of a step waits for: the header and the sets of validators that aren't there.
use Rattle.std.specs.Prelude.{◌≡◌, ◌≢◌, ◌⊎◌, ℕ, ◌+◌, ◌^◌, nat_le, nat_lt, Bool, false, ◌&&◌, if◌then◌else◌, List, [], ◌∷◌, ◌++◌, All}
use Rattle.std.specs.List.{list_any}
use Rattle.rb_book.specs.Header.{Record}
use Rattle.rb_import_answers.specs.declared.commit.SignedHeader.{SignedHeader}
use Rattle.rb_want_requests.specs.Answered.{is_commit_of}
use Rattle.rb_want_requests.specs.declared.request.Query.{Query}
use Rattle.rb_want_requests.specs.declared.request.Query.TheVariants as queries
use Rattle.rb_want.specs.Clients.{IsHeaderAt, IsSetThere, next_page}
use Rattle.rb_want.specs.Steps.{IsRecordAt}
use Rattle.rb_want.specs.declared.judged.Steps.{Steps}

-- (own: heights are from 1 and below 2^63)
abbrev pub is_height : ℕ → Bool
is_height n = nat_le 1 n && nat_lt n (2 ^ 63)

-- the next page of the validators of a height, unless all are there
unfoldable pub page_asked : Steps → ℕ → List Query
page_asked s height = if is_height height then next_page height s.chain.now.folder.now.contents.items else []

-- a set of this hash is there
abbrev pub HasSet : Steps → List ℕ → Type 0
HasSet s hash = IsSetThere s.chain.now.folder.now.contents.items hash

-- a set of this hash is there, or the next page of the validators of the height is asked for
abbrev pub WaitsForSet : Steps → List ℕ → ℕ → List Query → Type 0
WaitsForSet s hash height asked =
    (HasSet s hash × (asked ≡ []))
    ⊎ ((¬ HasSet s hash) × (asked ≡ page_asked s height))

-- neither has the client stored a record at the height, nor is its header there
abbrev pub HasNoRecord : Steps → ℕ → Type 0
HasNoRecord s height =
    All (λ r. r.now.height ≢ height) s.records.now × (list_any (is_commit_of height) s.chain.now.folder.now.contents.items ≡ false)

-- for the set that the trusted record names, which is that of the height after it
abbrev pub WaitsForNext : Steps → ℕ → List Query → Type 0
WaitsForNext s trusted asked =
    ((r : Record) × IsRecordAt s trusted r × WaitsForSet s r.next (trusted + 1) asked) ⊎ (HasNoRecord s trusted × (asked ≡ []))

-- for the header of the height and its set
abbrev pub WaitsForHeader : Steps → ℕ → List Query → Type 0
WaitsForHeader s height asked =
    ((h : SignedHeader) × IsHeaderAt s.chain.now.folder.now.contents.items height h × WaitsForSet s h.set height asked)
    ⊎ ((list_any (is_commit_of height) s.chain.now.folder.now.contents.items ≡ false)
    × (asked ≡ queries.Commit height ∷ page_asked s height))

-- the queries that the judgement of a step waits for
abbrev pub WaitsFor : Steps → ℕ → ℕ → List Query → Type 0
WaitsFor s trusted height asked =
    (next : List Query) × (own : List Query) × WaitsForNext s trusted next × WaitsForHeader s height own × (asked ≡ next ++ own)
