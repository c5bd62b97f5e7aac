-- What an event tells of: an object, by its place in the script, and what of it (own choice).
use Rattle.std.specs.Prelude.{◌≡◌, Bool, true, false, List, [], map, Option, Some, None}
use Rattle.rb_core_model.specs.Event.{Event, SetSeen, HeaderSeen, StoredSeen, Sent, Received, AckWritten, Cleared, Closed}
use Rattle.rb_explain.specs.declared.refused.Subject.{Subject}
use Rattle.rb_explain.specs.declared.refused.Subject.TheVariants as subject

-- what was seen of a chain, a client or a path; none of the other events, which no script has
abbrev pub subject_of : Event → Option Subject
subject_of (SetSeen chain set) = Some (subject.Set chain)
subject_of (HeaderSeen chain header) = Some (subject.Header chain header.height)
subject_of (StoredSeen client height r) = Some (subject.Stored client height)
subject_of (Sent path sequence block timeout_height timeout_time) = Some (subject.Sent path sequence)
subject_of (Received path sequence block) = Some (subject.Received path sequence)
subject_of (AckWritten path sequence block) = Some (subject.AckWritten path sequence)
subject_of (Cleared path sequence) = Some (subject.Cleared path sequence)
subject_of (Closed path) = Some (subject.Closed path)
subject_of _ = None

-- what each event tells of, in their order; nothing where that isn't wanted
abbrev pub AreSubjects : Bool → List Event → List Subject → Type 0
AreSubjects true events subjects = map (λ (s : Subject). Some s) subjects ≡ map subject_of events
AreSubjects false events subjects = subjects ≡ []
