use Rattle.std.proofs.Common.{◌∙◌, string_bytes, ap, sym}
use Rattle.toml.specs.View.{members_view}
use Rattle.rb_script_read.specs.Front.{values_of}
use Rattle.rb_script_read.proofs.FrontLemmas.{missing, insert-values}
use Rattle.rb_script_read.proofs.front.put.Goals as goal

pub returns-clause-absent : goal.returns-clause-absent
returns-clause-absent c =
    missing (string_bytes c.args.key) c.args.table.now.entries (rw c.in_ok-insert.ensures.old at (sym c.is_some.ensures ∙ c.if-is_some.false))

pub returns-clause-written : goal.returns-clause-written
returns-clause-written c =
    ap (λ es. values_of (members_view es)) c.in_ok-insert.ensures.entries ∙ insert-values c.args.table.now.entries c.args.key c.args.value
