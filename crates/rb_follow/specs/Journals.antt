-- What a journal has stored, beside what a writer took.
use Rattle.std.specs.Prelude.{◌≡◌, ℕ, List, [], ◌∷◌, ◌++◌, Option, Some, IfSome}
use Rattle.rb_follow.specs.Documents.{Document, document, cut}
use Rattle.rb_follow.specs.Followers.{Answer, planned, refused}

-- where it is known what was there, these are there behind it
abbrev pub StoresAll : Option (List (List ℕ)) → Option (List (List ℕ)) → List (List ℕ) → Type 0
StoresAll old new more = IfSome old (λ before. new ≡ Some (before ++ more))

-- one more is there
abbrev pub Stores : Option (List (List ℕ)) → Option (List (List ℕ)) → List ℕ → Type 0
Stores old new d = StoresAll old new (d ∷ [])

-- the bytes of a document that is all there
abbrev pub whole_of : Document → List (List ℕ)
whole_of (document d) = d ∷ []
whole_of cut = []

-- the documents that were answered by a report
abbrev pub accepted : List Document → List Answer → List (List ℕ)
accepted [] answers = []
accepted (d ∷ ds) [] = []
accepted (d ∷ ds) (planned number r ∷ rest) = whole_of d ++ accepted ds rest
accepted (d ∷ ds) (refused fault ∷ rest) = accepted ds rest

-- what a writer took and what a journal has stored, where they are known
pub record Outs : Type 0 where
  pub taken : Option (List ℕ)
  pub stored : Option (List (List ℕ))

abbrev pub outs : Option (List ℕ) → Option (List (List ℕ)) → Outs
outs taken stored = record { taken = taken; stored = stored }
