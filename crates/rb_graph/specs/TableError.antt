-- Why rows make no table: numbers, names, and when each comes.
use Rattle.std.specs.Prelude.{ℕ, ◌<◌, List, Option, Some, None, codes}
use Rattle.rb_graph.specs.Frame.{FrameRow, IsFirstTwice, IsFirstMissing}
use Rattle.rb_graph.specs.declared.error.TableError.{TableError}
use Rattle.rb_graph.specs.declared.error.TableError.TheVariants.{RowMissing, RowTwice, NoMemory}

abbrev pub number_of : TableError → Option ℕ
number_of (RowMissing n) = Some 551
number_of (RowTwice n) = Some 552
number_of NoMemory = None

abbrev pub name_of : TableError → List ℕ
name_of (RowMissing n) = codes "RowMissing"
name_of (RowTwice n) = codes "RowTwice"
name_of NoMemory = codes "NoMemory"

-- why these are not so many rows, each once: 552 comes before 551, each with the least such number; want of memory may stand
-- in place of either (own choice)
abbrev pub Explains : ℕ → List FrameRow → TableError → Type 0
Explains total rows (RowMissing n) = IsFirstMissing total rows n
Explains total rows (RowTwice n) = (n < total) × IsFirstTwice rows n
Explains total rows NoMemory = Unit {0}
