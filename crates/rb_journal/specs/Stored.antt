-- What a journal has stored behind its first part.
use Rattle.std.specs.Prelude.{◌≡◌, ℕ, Bool, List, length, All}
use Rattle.std.specs.List.{AllZip}
use Rattle.rb_script_toml.specs.declared.fault.RunError.{RunError}
use Rattle.rb_journal.specs.Parts.{HasParts}
use Rattle.rb_journal.specs.Entries.{IsEntry, IsTooMuch, Restores}

-- these texts read, one by one, as the documents that the whole parts were made of, and so many bytes stand behind the parts
pub record Holds (digests : Bool) (turns : List ℕ) (texts : List (List ℕ)) (cut : ℕ) : Type 0 where
  pub parts : List (List ℕ)
  pub rest : List ℕ
  pub has : HasParts turns parts rest
  pub restore : AllZip (Restores digests) parts texts
  pub left : cut ≡ length rest

-- the part of a document
abbrev pub IsMade : Bool → List ℕ → Type 0
IsMade digests part = (bytes : List ℕ) × IsEntry digests bytes part

-- a part is none of a document, or the text of one is too much; or memory ran out
abbrev pub IsUnread : Bool → List ℕ → RunError → Type 0
IsUnread digests turns error =
    (parts : List (List ℕ)) (rest : List ℕ) → HasParts turns parts rest → All (IsMade digests) parts → IsTooMuch error
