-- The bytes of a text that take memory when it is parsed: those that may open a table or an array, and those of keys. Where strings and comments begin and end is TOML's (1.1: Comment, String).
use Rattle.std.specs.Prelude.{ℕ, ◌+◌, Bool, false, ◌&&◌, ◌||◌, ◌==◌, nat_lt, if◌then◌else◌, List, [], ◌∷◌}
use Rattle.toml_parser.specs.Lexical.{line_feed, quote, hash, apostrophe, dot, equals, left_bracket, backslash, left_brace}
use Rattle.rb_script_toml.specs.declared.marks.Place.{Place}
use Rattle.rb_script_toml.specs.declared.marks.Place.TheVariants.{Outside, Comment, Opened, Doubled, Line, LineEscape, Lines, LinesEscape, Closed}

-- outside, a comment or a string may begin
abbrev pub after_outside : ℕ → Place
after_outside b = if b == hash then Comment else if b == quote || b == apostrophe then Opened b else Outside

-- a string of one line ends at its quote; in a basic one, a backslash takes the next byte along
abbrev pub after_line : ℕ → ℕ → Place
after_line q b = if b == q then Outside else if b == backslash && q == quote then LineEscape else Line q

-- a string of many lines ends at three quotes in a row
abbrev pub after_lines : ℕ → ℕ → ℕ → Place
after_lines q n b =
    if b == q then (if nat_lt n 2 then Lines q (n + 1) else Closed q)
    else if b == backslash && q == quote then LinesEscape else Lines q 0

-- Where a text stands behind a byte. One or two quotes right behind the three that end a string are still the string's.
abbrev pub after : Place → ℕ → Place
after Outside b = after_outside b
after Comment b = if b == line_feed then Outside else Comment
after (Opened q) b = if b == q then Doubled q else after_line q b
after (Doubled q) b = if b == q then Lines q 0 else after_outside b
after (Line q) b = after_line q b
after LineEscape b = Line quote
after (Lines q n) b = after_lines q n b
after LinesEscape b = Lines quote 0
after (Closed q) b = if b == q then Closed q else after_outside b

-- outside, each `{` and `[` opens a table or an array, and a point may be one of a key
abbrev pub may_open : ℕ → Bool
may_open b = b == left_brace || b == left_bracket || b == dot

-- eight keys take as much memory as a table
abbrev pub counted : Place → ℕ → ℕ
counted Outside b = if may_open b then 8 else if b == equals then 1 else 0
counted p b = 0

unfoldable pub marks_from : Place → List ℕ → ℕ
marks_from p [] = 0
marks_from p (b ∷ text) = counted (after p b) b + marks_from (after p b) text

-- the marks of a text: eight for each byte outside strings and comments that may open a table or an array, one for each equals sign
abbrev pub marks : List ℕ → ℕ
marks text = marks_from Outside text
