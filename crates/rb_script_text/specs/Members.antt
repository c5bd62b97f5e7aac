-- Words and members of JSON that reports and explanations have in common (own choice).
use Rattle.std.specs.Prelude.{ℕ, List, [], ◌∷◌, codes, Option, Some, None}
use Rattle.rb_scan.specs.declared.message.Kind.{Kind}
use Rattle.rb_scan.specs.declared.message.Kind.TheVariants.{Receive, Acknowledge, Timeout}
use Rattle.rb_script_types.specs.Refusal.{number_of, name_of}
use Rattle.rb_script_types.specs.declared.goal.Goal.{Goal}
use Rattle.rb_script_types.specs.declared.goal.Goal.TheVariants.{Exactly, AtLeast}
use Rattle.rb_script_types.specs.declared.refusal.Refusal.{Refusal}
use Rattle.rb_script_types.specs.declared.version.Version.{Version}
use Rattle.rb_script_types.specs.declared.version.Version.TheVariants.{One, Two, Three, Four}
use Rattle.rb_script_text.specs.Json.{Json, number, string, object, ◌is◌}
use Rattle.rb_script_text.specs.Moments.{moment_text}

abbrev pub Member : Type 0
Member = List ℕ × Json

abbrev pub kind_name : Kind → List ℕ
kind_name Receive = codes "recv"
kind_name Acknowledge = codes "ack"
kind_name Timeout = codes "timeout"

-- the number of the format of a version's JSON: versions 1 and 2 have one
abbrev pub format_of : Version → ℕ
format_of One = 1
format_of Two = 1
format_of Three = 3
format_of Four = 4

-- why something was refused
abbrev pub refusal_members : Refusal → List Member
refusal_members refusal = codes "number" is number (number_of refusal) ∷ codes "name" is string (name_of refusal) ∷ []

abbrev pub goal_json : Goal → Json
goal_json (AtLeast height) = object (codes "at_least" is number height ∷ [])
goal_json (Exactly height) = object (codes "exactly" is number height ∷ [])

-- when a client has a goal next, from version 3 on
abbrev pub next_members : Version → Option ℕ → List Member
next_members One next = []
next_members Two next = []
next_members Three None = []
next_members Three (Some moment) = codes "next" is string (moment_text moment) ∷ []
next_members Four None = []
next_members Four (Some moment) = codes "next" is string (moment_text moment) ∷ []
