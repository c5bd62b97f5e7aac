-- (internal) The names that the events of a turn know, as they lie in memory.
use Rattle.rb_script_read.specs.declared.turn_names.TurnNames.{TurnNames}
use Rattle.rb_script_read.specs.Names.{Names, names_of, with_namings}

-- those of the turns before, and then those that the turn gave
abbrev pub names_now : TurnNames → Names
names_now t = with_namings (names_of t.earlier.now) t.namings.items
