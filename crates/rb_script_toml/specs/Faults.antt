-- Faults of a text: their numbers, names and lines; and reading as steps, of which the first that fails is answered.
use Rattle.std.specs.Prelude.{◌≡◌, ℕ, Bool, true, false, List, ◌++◌, Result, Ok, Err, codes, string_bytes}
use Rattle.std.specs.Fmt.{decimal}
use Rattle.rb_script_toml.specs.declared.fault.FaultName.{FaultName}
use Rattle.rb_script_toml.specs.declared.fault.FaultName.TheVariants.{NotToml, MissingKey, UnknownKey, WrongType, BadVersion, OutOfRange, BadIdentifier, DuplicateIdentifier, UnknownIdentifier, BadHex, BadTime, BadVotes, BadKind, BadOrder, SameChain, WrongClient, TooManyObjects, TooManyEvents, UnknownSetName, DuplicateSetName, TwoGoals, BadSet, BadWindow, BadLimit, BadFee, NoSuchTurn, BadAnswer, NoGoal, LabelOrder, InputTooBig, BadTrust, TooMuchToPlan, Forgotten, TooManyTables}
use Rattle.rb_script_toml.specs.declared.fault.Fault.{Fault as CodeFault}
use Rattle.rb_script_toml.specs.declared.fault.RunError.{RunError}
use Rattle.rb_script_toml.specs.declared.fault.RunError.TheVariants as errors

abbrev pub number_of : FaultName → ℕ
number_of NotToml = 1001
number_of MissingKey = 1002
number_of UnknownKey = 1003
number_of WrongType = 1004
number_of BadVersion = 1005
number_of OutOfRange = 1006
number_of BadIdentifier = 1007
number_of DuplicateIdentifier = 1008
number_of UnknownIdentifier = 1009
number_of BadHex = 1010
number_of BadTime = 1011
number_of BadVotes = 1012
number_of BadKind = 1013
number_of BadOrder = 1014
number_of SameChain = 1015
number_of WrongClient = 1016
number_of TooManyObjects = 1017
number_of TooManyEvents = 1018
number_of UnknownSetName = 1019
number_of DuplicateSetName = 1020
number_of TwoGoals = 1021
number_of BadSet = 1022
number_of BadWindow = 1023
number_of BadLimit = 1024
number_of BadFee = 1025
number_of NoSuchTurn = 1026
number_of BadAnswer = 1027
number_of NoGoal = 1028
number_of LabelOrder = 1029
number_of InputTooBig = 1030
number_of BadTrust = 1031
number_of TooMuchToPlan = 1032
number_of Forgotten = 1033
number_of TooManyTables = 1034

abbrev pub name_of : FaultName → List ℕ
name_of NotToml = codes "NotToml"
name_of MissingKey = codes "MissingKey"
name_of UnknownKey = codes "UnknownKey"
name_of WrongType = codes "WrongType"
name_of BadVersion = codes "BadVersion"
name_of OutOfRange = codes "OutOfRange"
name_of BadIdentifier = codes "BadIdentifier"
name_of DuplicateIdentifier = codes "DuplicateIdentifier"
name_of UnknownIdentifier = codes "UnknownIdentifier"
name_of BadHex = codes "BadHex"
name_of BadTime = codes "BadTime"
name_of BadVotes = codes "BadVotes"
name_of BadKind = codes "BadKind"
name_of BadOrder = codes "BadOrder"
name_of SameChain = codes "SameChain"
name_of WrongClient = codes "WrongClient"
name_of TooManyObjects = codes "TooManyObjects"
name_of TooManyEvents = codes "TooManyEvents"
name_of UnknownSetName = codes "UnknownSetName"
name_of DuplicateSetName = codes "DuplicateSetName"
name_of TwoGoals = codes "TwoGoals"
name_of BadSet = codes "BadSet"
name_of BadWindow = codes "BadWindow"
name_of BadLimit = codes "BadLimit"
name_of BadFee = codes "BadFee"
name_of NoSuchTurn = codes "NoSuchTurn"
name_of BadAnswer = codes "BadAnswer"
name_of NoGoal = codes "NoGoal"
name_of LabelOrder = codes "LabelOrder"
name_of InputTooBig = codes "InputTooBig"
name_of BadTrust = codes "BadTrust"
name_of TooMuchToPlan = codes "TooMuchToPlan"
name_of Forgotten = codes "Forgotten"
name_of TooManyTables = codes "TooManyTables"

-- a fault, and the path of what is wrong
pub record Fault : Type 0 where
  pub name : FaultName
  pub path : List ℕ

abbrev pub fault_view : CodeFault → Fault
fault_view f = record { name = f.name; path = string_bytes f.path }

-- how a fault is told
abbrev pub fault_line : Fault → List ℕ
fault_line f = codes "fault " ++ decimal (number_of f.name) ++ codes " " ++ name_of f.name ++ codes " at " ++ f.path

-- what a program ends with
abbrev pub status_of : RunError → ℕ
status_of (errors.Fault f) = 1
status_of errors.NoMemory = 4
status_of errors.Device = 4

-- ---- reading as steps

infixl 10 ◌>>=◌
abbrev pub ◌>>=◌ : {A B : Type 0} → Result A Fault → (A → Result B Fault) → Result B Fault
(Ok x) >>= f = f x
(Err e) >>= f = Err e

abbrev pub fault : {A : Type 0} → FaultName → List ℕ → Result A Fault
fault name path = Err (record { name = name; path = path })

-- the fault where the test fails
abbrev pub check : Bool → FaultName → List ℕ → Result (Unit {0}) Fault
check true name path = Ok tt
check false name path = fault name path

-- ---- what a function returned, beside what reading gives

-- the error is the fault that reading gives, unless memory ran out
abbrev pub Fails : {Y : Type 0} → RunError → Result Y Fault → Type 0
Fails errors.NoMemory read = Unit {0}
Fails errors.Device read = ⊥
Fails (errors.Fault f) read = read ≡ Err (fault_view f)

-- the result, seen by view, is what reading gives, unless memory ran out
abbrev pub Gives : {X Y : Type 0} → (X → Y) → Result X RunError → Result Y Fault → Type 0
Gives view (Ok x) read = read ≡ Ok (view x)
Gives view (Err e) read = Fails e read

-- the error is this fault, unless memory ran out
abbrev pub IsFault : RunError → FaultName → List ℕ → Type 0
IsFault errors.NoMemory name path = Unit {0}
IsFault errors.Device name path = ⊥
IsFault (errors.Fault f) name path = fault_view f ≡ record { name = name; path = path }
