-- Which of a path's packets are pending, where answers tell of it (ICS 4: a packet's commitment is deleted once the packet is acknowledged or has
-- timed out).
use Rattle.std.specs.Prelude.{ℕ, ◌==◌, nat_le, nat_lt, Bool, true, false, not, ◌&&◌, ◌||◌, if◌then◌else◌, List, [], ◌∷◌, Option, Some, None}
use Rattle.std.specs.List.{list_any}
use Rattle.rb_import_answers.specs.declared.answer.NodeAnswer.{NodeAnswer}
use Rattle.rb_import_answers.specs.declared.answer.NodeAnswer.TheVariants as answers
use Rattle.rb_import_answers.specs.declared.pending.Pending.{Pending}
use Rattle.rb_import_answers.specs.declared.pending.Pending.TheVariants as states
use Rattle.rb_import_answers.specs.declared.packets.PacketKind.{PacketKind}
use Rattle.rb_import_setup.specs.declared.setup.PathSetup.{PathSetup}
use Rattle.rb_import_check.specs.declared.saved.Saved.{Saved}

-- the pending packets that an answer tells of: none if it doesn't
abbrev pub pending_in : NodeAnswer → Option Pending
pending_in (answers.Commit header) = None
pending_in (answers.Validators page) = None
pending_in (answers.ClientState state) = None
pending_in (answers.ConsensusStates page) = None
pending_in (answers.Transactions page) = None
pending_in (answers.Pending p) = Some p
pending_in (answers.Verdicts v) = None
pending_in (answers.Other query) = None

abbrev pub if_told : (Pending → Bool) → Option Pending → Bool
if_told test (Some p) = test p
if_told test None = false

abbrev pub told_in : (Pending → List ℕ) → Option Pending → List ℕ
told_in get (Some p) = get p
told_in get None = []

abbrev pub committed : Pending → List ℕ
committed (states.Commitments page) = page.sequences.items
committed (states.Unreceived sequences) = []
committed (states.Acknowledgements sequences) = []

-- the sequences of the packets to which the source holds a commitment, as an answer tells
abbrev pub committed_in : NodeAnswer → List ℕ
committed_in a = told_in committed (pending_in a)

abbrev pub is_commitments : Pending → Bool
is_commitments (states.Commitments page) = true
is_commitments (states.Unreceived sequences) = false
is_commitments (states.Acknowledgements sequences) = false

-- whether an answer tells of commitments
abbrev pub tells_commitments : NodeAnswer → Bool
tells_commitments a = if_told is_commitments (pending_in a)

abbrev pub tell_commitments : List Saved → Bool
tell_commitments saved = list_any (λ (s : Saved). tells_commitments s.answer) saved

abbrev pub is_last : Pending → Bool
is_last (states.Commitments page) = page.is_last
is_last (states.Unreceived sequences) = false
is_last (states.Acknowledgements sequences) = false

-- whether an answer is the last page of commitments
abbrev pub is_last_in : NodeAnswer → Bool
is_last_in a = if_told is_last (pending_in a)

-- whether one of the answers is the last page of commitments
abbrev pub has_last_page : List Saved → Bool
has_last_page saved = list_any (λ (s : Saved). is_last_in s.answer) saved

-- whether answers tell of commitments, and the last page of them isn't there
abbrev pub lack_last_page : List Saved → Bool
lack_last_page saved = tell_commitments saved && not (has_last_page saved)

-- whether one of the answers tells of a commitment to the packet of this sequence
abbrev pub has_commitment : List Saved → ℕ → Bool
has_commitment saved sequence = list_any (λ (s : Saved). list_any (λ n. n == sequence) (committed_in s.answer)) saved

-- whether a packet of this sequence may be pending: one of the answers tells of its commitment, or none tells of commitments
abbrev pub is_pending : List Saved → ℕ → Bool
is_pending saved sequence = not (tell_commitments saved) || has_commitment saved sequence

abbrev pub unreceived : Pending → List ℕ
unreceived (states.Commitments page) = []
unreceived (states.Unreceived sequences) = sequences.items
unreceived (states.Acknowledgements sequences) = []

-- the sequences of the packets that weren't received, as an answer tells
abbrev pub unreceived_in : NodeAnswer → List ℕ
unreceived_in a = told_in unreceived (pending_in a)

abbrev pub is_of_unreceived : Pending → Bool
is_of_unreceived (states.Commitments page) = false
is_of_unreceived (states.Unreceived sequences) = true
is_of_unreceived (states.Acknowledgements sequences) = false

-- whether an answer tells which packets weren't received
abbrev pub tells_unreceived : NodeAnswer → Bool
tells_unreceived a = if_told is_of_unreceived (pending_in a)

abbrev pub tell_unreceived : List Saved → Bool
tell_unreceived saved = list_any (λ (s : Saved). tells_unreceived s.answer) saved

-- whether one of the answers tells that the packet of this sequence wasn't received
abbrev pub lacks_receipt : List Saved → ℕ → Bool
lacks_receipt saved sequence = list_any (λ (s : Saved). list_any (λ n. n == sequence) (unreceived_in s.answer)) saved

-- whether a packet of this sequence may not have been received: one of the answers says so, or none tells which packets weren't
abbrev pub is_unreceived : List Saved → ℕ → Bool
is_unreceived saved sequence = not (tell_unreceived saved) || lacks_receipt saved sequence

-- whether answers on pending packets tell of which packets this was done: a packet with a commitment was sent and isn't cleared
abbrev pub tells_done : PacketKind → Pending → Bool
tells_done PacketKind.Sent (states.Commitments page) = true
tells_done PacketKind.Cleared (states.Commitments page) = true
tells_done PacketKind.Received (states.Unreceived sequences) = true
tells_done PacketKind.AckWritten (states.Acknowledgements sequences) = true
tells_done kind other = false

-- ---- the first sequence

abbrev lesser : Option ℕ → ℕ → ℕ
lesser (Some least) n = if nat_le least n then least else n
lesser None n = n

-- the lesser of one that was met and a sequence, if that isn't below a first one
abbrev pub with_sequence : ℕ → Option ℕ → ℕ → Option ℕ
with_sequence first met n = if nat_lt n first then met else Some (lesser met n)

abbrev pub least_in : ℕ → Option ℕ → List ℕ → Option ℕ
least_in first met [] = met
least_in first met (n ∷ ns) = least_in first (with_sequence first met n) ns

-- the least of one that was met and the sequences of the commitments that the answers tell of, none of which is below a first one
abbrev pub least_of : ℕ → Option ℕ → List Saved → Option ℕ
least_of first met [] = met
least_of first met (s ∷ saved) = least_of first (least_in first met (committed_in s.answer)) saved

abbrev or_this : Option ℕ → ℕ → ℕ
or_this (Some least) n = least
or_this None n = n

-- the sequence below which all packets of the path are finished and cleared: the least with a commitment from the setup's first one on, if
-- answers tell of one, else the setup's first one
abbrev pub first_of : PathSetup → List Saved → ℕ
first_of setup saved = or_this (least_of setup.config.first None saved) setup.config.first
