use Rattle.std.proofs.Common.{Result, Ok, Err}
use Rattle.std.specs.Result.{OnOk}
use Rattle.ibcplan.proofs.journal.FileJournal.append.Goals as goal

when_ok : {T E : Type 0} (r : Result T E) (P : Type 0) → P → OnOk r P
when_ok (Ok u) P p = p
when_ok (Err e) P p = tt

pub returns-in-Ok-clause-added : goal.returns-in-Ok-clause-added
returns-in-Ok-clause-added g c =
    when_ok c.sync_data.result _ (c.in-Ok.entry.items, (rw c.as_slice.ensures.value at c.in_ok-write_all-in-Ok.ensures.bytes), c.in-Ok.ensures.written)
