-- The answers of ibc-go's gateway that tell which packets of a channel are pending (ICS 4: packet commitments, receipts and acknowledgements;
-- ibc-go's `packet_commitments`, `unreceived_packets` and `packet_acknowledgements`).
use Rattle.std.specs.Prelude.{ℕ, List, [], ◌∷◌, ◌++◌, Bool, ◌||◌, if◌then◌else◌, Option, option_and_then, option_map, string_bytes, Result, Ok}
use Rattle.serde_json.specs.Data.{Data, Items, no_items, item}
use Rattle.serde_json.specs.Find.{as_str}
use Rattle.rb_import_json.specs.declared.error.FieldError.{FieldError}
use Rattle.rb_import_json.specs.declared.error.FieldErrorName.TheVariants.{BadNumber}
use Rattle.rb_import_json.specs.declared.field_path.Key.{Key}
use Rattle.rb_import_json.specs.declared.field_path.Segment.{Segment}
use Rattle.rb_import_json.specs.FieldErrors.{◌>>=◌, or_flaw}
use Rattle.rb_import_json.specs.Fields.{Object, each, flaw_at, has, items}
use Rattle.rb_import_json.specs.Values.{number_of}
use Rattle.rb_import_answers.specs.declared.pending.SequencePage.{SequencePage}
use Rattle.rb_import_answers.specs.declared.pending.Pending.{Pending as CodePending}
use Rattle.rb_import_answers.specs.declared.pending.Pending.TheVariants as answers
use Rattle.rb_import_answers.specs.Clients.{is_last, next_key}
use Rattle.rb_import_answers.specs.Numbers.{sequence_number, sequence_of}

-- the sequences of a page, whether no page follows, and the key of the next page as the gateway wrote it
pub record Page : Type 0 where
  pub sequences : List ℕ
  pub is_last : Bool
  pub next_key : Option (List ℕ)

abbrev pub page_view : SequencePage → Page
page_view p = record { sequences = p.sequences.items; is_last = p.is_last; next_key = option_map string_bytes p.next_key }

-- those that were sent and are neither acknowledged nor timed out
unfoldable pub committed : Object → Result Page FieldError
committed answer = do
  last ← is_last answer
  entries ← items Key.Commitments answer
  all ← each (sequence_number Key.Sequence) Segment.Commitments [] entries
  Ok (record { sequences = all; is_last = last; next_key = next_key answer })

-- those of which the acknowledgement was written
unfoldable pub acknowledged : Object → Result (List ℕ) FieldError
acknowledged answer = items Key.Acknowledgements answer >>= λ ds. each (sequence_number Key.Sequence) Segment.Acknowledgements [] ds

-- a sequence that a text holds
abbrev pub sequence_in : Data → Option ℕ
sequence_in d = option_and_then sequence_of (option_and_then number_of (as_str d))

-- a sequence that a text of an array holds
unfoldable pub sequence : Object → Data → Result ℕ FieldError
sequence answer d = or_flaw (flaw_at answer Key.Sequences BadNumber) (sequence_in d)

-- the sequences of an array, after those before them
abbrev pub sequences_from : Object → List ℕ → Items → Result (List ℕ) FieldError
sequences_from answer before no_items = Ok before
sequences_from answer before (item d ds) = sequence answer d >>= λ n. sequences_from answer (before ++ n ∷ []) ds

-- those that weren't received
unfoldable pub sequences : Object → Result (List ℕ) FieldError
sequences answer = items Key.Sequences answer >>= λ ds. sequences_from answer [] ds

pub data Pending : Type 0 where
  commitments : Page → Pending
  unreceived : List ℕ → Pending
  acknowledgements : List ℕ → Pending

abbrev pub pending_view : CodePending → Pending
pending_view (answers.Commitments page) = commitments (page_view page)
pending_view (answers.Unreceived numbers) = unreceived numbers.items
pending_view (answers.Acknowledgements numbers) = acknowledgements numbers.items

-- whether an answer tells of pending packets
abbrev pub is_pending : Object → Bool
is_pending answer = has Key.Commitments answer || has Key.Acknowledgements answer || has Key.Sequences answer

-- what it tells of them, known by its members
unfoldable pub pending : Object → Result Pending FieldError
pending answer =
    if has Key.Commitments answer then (committed answer >>= λ p. Ok (commitments p))
    else if has Key.Acknowledgements answer then (acknowledged answer >>= λ ns. Ok (acknowledgements ns))
    else (sequences answer >>= λ ns. Ok (unreceived ns))
