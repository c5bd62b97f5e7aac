use Rattle.std.specs.Prelude.{codes, flat_map, take, ◌++◌}
use Rattle.std.specs.Fmt.{HasWritten, IsPlainFormatter}
use Rattle.rb_want_requests.specs.Lines.{key_character}
use Rattle.rb_want_requests.proofs.lines.write_key.Given as goal

-- the characters so far are written
abbrev pub invariant-loop-character : goal.invariant-loop-character
invariant-loop-character g l =
    IsPlainFormatter l.fn.f
    → HasWritten g.W.Write.write_str_gives l.fn.f (codes "&pagination.key=" ++ flat_map key_character (take l.character-index l.character-items)) l.f
