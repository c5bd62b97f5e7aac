-- What following an input promises.
use Rattle.std.specs.Prelude.{◌≡◌, ℕ, ◌+◌, Bool, false, List, [], ◌∷◌, ◌++◌, map, All, Ok, Err}
use Rattle.std.specs.List.{flat_map}
use Rattle.std.specs.Io.KnownBytes.{Appends}
use Rattle.std.specs.declared.alloc.Global.{Global}
use Rattle.rb_base.specs.Sink.{AppendsBeginning}
use Rattle.rb_core_model.specs.Standing.{opening_standing}
use Rattle.rb_script_types.specs.Config.{Config}
use Rattle.rb_script_types.specs.Script.{Script, Turn}
use Rattle.rb_script_config.specs.Paths.{path_ids}
use Rattle.rb_script_read.specs.Turns.{Reading}
use Rattle.rb_super_turn.specs.AsEvents.{turn_as_events, as_events}
use Rattle.rb_super_turn.specs.Script.{IsTurn, IsScript}
use Rattle.rb_super_turn.specs.Turns.{IsTurnReport}
use Rattle.rb_text_report.specs.Written.{IsWriteError}
use Rattle.rb_follow.specs.declared.error.FollowError.{FollowError}
use Rattle.rb_follow.specs.declared.error.FollowError.TheVariants.{Run, Input, Journal}
use Rattle.rb_follow.specs.Setups.{setup_of}
use Rattle.rb_follow.specs.Documents.{Gathered, Document, documents_from, left_from, documents}
use Rattle.rb_follow.specs.Followers.{Following, Answer, planned, refused, begun_with, turn_in, after_report}
use Rattle.rb_follow.specs.Reports.{AreReportsIn}
use Rattle.rb_follow.specs.Journals.{Outs, StoresAll, accepted}
use Rattle.rb_follow.specs.declared.told.Form.{Form}
use Rattle.rb_follow.specs.Answers.{answer_text, reports_in, head_text, end_text}

-- one answer for each document, in their order, the turns that were taken, and the follower then; a fault leaves all as it was
abbrev pub AreAnswers : Following → List Document → List Answer → List (Turn Global) → Following → Type 0
AreAnswers f [] [] [] g = f ≡ g
AreAnswers f [] [] (t ∷ ts) g = ⊥
AreAnswers f [] (a ∷ rest) ts g = ⊥
AreAnswers f (d ∷ ds) [] ts g = ⊥
AreAnswers f (d ∷ ds) (planned number r ∷ rest) [] g = ⊥
AreAnswers f (d ∷ ds) (planned number r ∷ rest) (t ∷ ts) g =
    (reading : Reading) × (turn_in f d ≡ Ok (t, reading)) × (number ≡ f.turns + 1) × IsTurnReport f.standing (turn_as_events t) r
    × AreAnswers (after_report f (t, reading) r) ds rest ts g
AreAnswers f (d ∷ ds) (refused fault ∷ rest) ts g = (turn_in f d ≡ Err fault) × AreAnswers f ds rest ts g

-- documents were answered, and the follower is this then; the turns that were taken keep what every turn of a script keeps
pub record Answered (f : Following) (documents : List Document) (g : Following) : Type 0 where
  pub answers : List Answer
  pub turns : List (Turn Global)
  pub answered : AreAnswers f documents answers turns g
  pub right : All (IsTurn f.config) (map turn_as_events turns)

-- the text of answers
abbrev pub answers_text : Form → Config → List Answer → List ℕ
answers_text form c answers = flat_map (answer_text form c.version c.chains (path_ids c.paths)) answers

-- documents were answered, the journal has stored those that were accepted, and the writer took the answers
pub record Told (form : Form) (f : Following) (documents : List Document) (old new : Outs) (g : Following) : Type 0 where
  pub all : Answered f documents g
  pub stored : StoresAll old.stored new.stored (accepted documents all.answers)
  pub written : Appends old.taken new.taken (answers_text form f.config all.answers)

-- the first of the documents were answered, the journal has stored those that were accepted, and the writer took a beginning of the answers
pub record BeginsTelling (form : Form) (f : Following) (documents : List Document) (old new : Outs) : Type 0 where
  pub first : List Document
  pub later : List Document
  pub are_first : documents ≡ first ++ later
  pub last : Following
  pub all : Answered f first last
  pub stored : StoresAll old.stored new.stored (accepted first all.answers)
  pub begun : AppendsBeginning old.taken new.taken (answers_text form f.config all.answers)

-- a piece of an input was gone through up to this rest: the documents that ended were told, and what is read of the next goes on with
-- the rest and what comes behind the piece
pub record ToldPiece (form : Form) (f : Following) (old_read : Gathered) (piece : List ℕ) (new_read : Gathered) (rest : List ℕ) (old new : Outs)
    (g : Following) : Type 0 where
  pub documents : List Document
  pub ended : (more : List ℕ) → documents_from old_read (piece ++ more) ≡ documents ++ documents_from new_read (rest ++ more)
  pub left : (more : List ℕ) → left_from old_read (piece ++ more) ≡ left_from new_read (rest ++ more)
  pub told : Told form f documents old new g

-- why an input was not followed to its end: the device exactly where the writer has failed, want of memory, the input itself, or the journal
abbrev pub IsFollowError : FollowError → Bool → Type 0
IsFollowError (Run e) has_failed = IsWriteError e has_failed
IsFollowError (Input e) has_failed = has_failed ≡ false
IsFollowError (Journal e) has_failed = has_failed ≡ false

-- ---- a whole input

-- what is written of the answers to an input that ended
abbrev pub followed_text : Form → Config → List Answer → List ℕ
followed_text form c answers = head_text form c.version ++ (answers_text form c answers ++ end_text form)

-- the script that consists of a setup and the turns that were taken
abbrev pub script_with : Config → List (Turn Global) → Script Global
script_with c turns = record { config = c; turns = turns }

-- answers to documents, whose reports are the report of the script of the setup and the turns that were taken: for each client and turn
-- the least list of updates, with the exact labelling, and the least cut of its messages; from version 3 on each report is of what is left then
pub record IsFollowed (setup : List ℕ) (documents : List Document) (config : Config) (answers : List Answer) : Type 0 where
  pub read : setup_of setup ≡ Ok config
  pub turns : List (Turn Global)
  pub last : Following
  pub answered : AreAnswers (begun_with config) documents answers turns last
  pub kept : IsScript (as_events (script_with config turns))
  pub reported : AreReportsIn config.version (opening_standing config) (map turn_as_events turns) (reports_in answers)

-- the writer took the text of answers to all documents of an input, where its bytes are known before and after, and the journal has stored
-- those that were accepted
pub record Follows (form : Form) (setup input : List ℕ) (old new : Outs) : Type 0 where
  pub config : Config
  pub answers : List Answer
  pub followed : IsFollowed setup (documents input) config answers
  pub stored : StoresAll old.stored new.stored (accepted (documents input) answers)
  pub written : Appends old.taken new.taken (followed_text form config answers)

-- the writer took a beginning of the text of answers to the first documents of an input, and the journal has stored those of them that were
-- accepted: no turn is answered that it doesn't have
pub record BeginsFollowing (form : Form) (setup input : List ℕ) (old new : Outs) : Type 0 where
  pub config : Config
  pub first : List Document
  pub later : List Document
  pub are_first : documents input ≡ first ++ later
  pub answers : List Answer
  pub followed : IsFollowed setup first config answers
  pub stored : StoresAll old.stored new.stored (accepted first answers)
  pub begun : AppendsBeginning old.taken new.taken (followed_text form config answers)

-- ---- a run that goes on

-- The same of a run that goes on from a state of this setup: each answer is that of a follower that goes on from it.
pub record GoesOn (form : Form) (setup input : List ℕ) (old new : Outs) : Type 0 where
  pub start : Following
  pub read : setup_of setup ≡ Ok start.config
  pub last : Following
  pub all : Answered start (documents input) last
  pub stored : StoresAll old.stored new.stored (accepted (documents input) all.answers)
  pub written : Appends old.taken new.taken (followed_text form start.config all.answers)

-- The same where it ends before: the writer took a beginning of such answers to the first documents, and the journal has stored those of them
-- that were accepted.
pub record BeginsGoingOn (form : Form) (setup input : List ℕ) (old new : Outs) : Type 0 where
  pub start : Following
  pub read : setup_of setup ≡ Ok start.config
  pub first : List Document
  pub later : List Document
  pub are_first : documents input ≡ first ++ later
  pub last : Following
  pub all : Answered start first last
  pub stored : StoresAll old.stored new.stored (accepted first all.answers)
  pub begun : AppendsBeginning old.taken new.taken (followed_text form start.config all.answers)
