-- How the refusals of a relayer are ordered. Their numbers and names stand in rb_script_types.
use Rattle.std.specs.Prelude.{Bool, Option, Some, if◌then◌else◌}
use Rattle.rb_script_types.specs.declared.refusal.Refusal.{Refusal}

-- the refusal where it applies, else what comes next
abbrev pub refused_if : Bool → Refusal → Option Refusal → Option Refusal
refused_if applies refusal next = if applies then Some refusal else next
