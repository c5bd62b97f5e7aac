-- What the program tells and ends with where it fails.
use Rattle.std.specs.Prelude.{◌≡◌, ◌⊎◌, ℕ, Bool, true, false, Option, Some, None}
use Rattle.rb_script_toml.specs.Faults.{Fault, fault_view}
use Rattle.rb_script_toml.specs.declared.fault.RunError.{RunError}
use Rattle.rb_script_toml.specs.declared.fault.RunError.TheVariants as errors
use Rattle.ibcplan_cli.specs.declared.error.ProgramError.{ProgramError}
use Rattle.ibcplan_cli.specs.declared.error.ProgramError.TheVariants.{Refused, RefusedAnswers, NoSuchTurn, NoSuchClient, WrongFile, BadClient, NoJournal, DamagedJournal, JournalFails, Unreadable, UnreadableAnswers, Unmade, Unwritten, NoMemory}

-- 1: a file's content was refused; 2: the script hasn't the turn or the client that was asked for, a setup stands for a script or a script for a setup, a configuration makes no setup for a client, or a file can't be the journal, or is damaged; 4: want of memory, or a file or an output that fails
abbrev pub failure_status : ProgramError → ℕ
failure_status (Refused fault flaw) = 1
failure_status (RefusedAnswers problem) = 1
failure_status (NoSuchTurn turn turns) = 2
failure_status (NoSuchClient client file) = 2
failure_status (WrongFile file reason) = 2
failure_status (BadClient client reason) = 2
failure_status (NoJournal file reason) = 2
failure_status (DamagedJournal file place) = 2
failure_status (JournalFails file error advice) = 4
failure_status (Unreadable file error advice) = 4
failure_status (UnreadableAnswers file error) = 4
failure_status (Unmade file error) = 4
failure_status (Unwritten error) = 4
failure_status NoMemory = 4

-- it is one of these
abbrev pub IsFailureStatus : ℕ → Type 0
IsFailureStatus status = (status ≡ 1) ⊎ (status ≡ 2) ⊎ (status ≡ 4)

-- the fault of a script, a setup or a certificate that a failure tells, if it tells one
abbrev pub told_fault : ProgramError → Option Fault
told_fault (Refused fault flaw) = Some (fault_view fault)
told_fault (RefusedAnswers problem) = None
told_fault (NoSuchTurn turn turns) = None
told_fault (NoSuchClient client file) = None
told_fault (WrongFile file reason) = None
told_fault (BadClient client reason) = None
told_fault (NoJournal file reason) = None
told_fault (DamagedJournal file place) = None
told_fault (JournalFails file error advice) = None
told_fault (Unreadable file error advice) = None
told_fault (UnreadableAnswers file error) = None
told_fault (Unmade file error) = None
told_fault (Unwritten error) = None
told_fault NoMemory = None

-- whether a failure tells that the output fails
abbrev pub is_unwritten : ProgramError → Bool
is_unwritten (Refused fault flaw) = false
is_unwritten (RefusedAnswers problem) = false
is_unwritten (NoSuchTurn turn turns) = false
is_unwritten (NoSuchClient client file) = false
is_unwritten (WrongFile file reason) = false
is_unwritten (BadClient client reason) = false
is_unwritten (NoJournal file reason) = false
is_unwritten (DamagedJournal file place) = false
is_unwritten (JournalFails file error advice) = false
is_unwritten (Unreadable file error advice) = false
is_unwritten (UnreadableAnswers file error) = false
is_unwritten (Unmade file error) = false
is_unwritten (Unwritten error) = true
is_unwritten NoMemory = false

-- the fault of an error, if it is one
abbrev pub error_fault : RunError → Option Fault
error_fault (errors.Fault f) = Some (fault_view f)
error_fault errors.NoMemory = None
error_fault errors.Device = None

-- whether an error is that of a writer
abbrev pub is_device : RunError → Bool
is_device (errors.Fault f) = false
is_device errors.NoMemory = false
is_device errors.Device = true
