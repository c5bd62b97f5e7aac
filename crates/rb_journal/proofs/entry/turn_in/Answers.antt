use Rattle.std.proofs.Common.{◌≡◌, Some, None, sym, ap, ◌∙◌, rules, arith}
use Rattle.toml.specs.Data.{get_member, as_array}
use Rattle.toml.specs.View.{view, table_view, array_view, items_view}
use Rattle.rb_journal.specs.Entries.{turn_key, count_of, only_table}
use Rattle.rb_journal.proofs.Entries.{turn-missing, turn-other, turn-array, turn-many, count_of-view}
use Rattle.rb_journal.proofs.entry.turn_in.Goals as goal

pub returns-then-len-ne1 : goal.returns-then-len-ne1
returns-then-len-ne1 c =
    let same = count_of-view c.args.script.now.entries in
    sym (turn-many (table_view c.args.script.now) (λ e. omega arith))

pub returns-in_err-value : goal.returns-in_err-value
returns-in_err-value c =
    let one : count_of (table_view c.args.script.now) ≡ 1 = count_of-view c.args.script.now.entries ∙ (omega arith) in
    let missing : get_member turn_key (table_view c.args.script.now) ≡ None = search rules in
    let none : c.from_residual.result ≡ None = search rules in
    rw none (sym (turn-missing (table_view c.args.script.now) one missing))

pub returns-in_err-turns : goal.returns-in_err-turns
returns-in_err-turns c =
    let one : count_of (table_view c.args.script.now) ≡ 1 = count_of-view c.args.script.now.entries ∙ (omega arith) in
    let there : get_member turn_key (table_view c.args.script.now) ≡ Some (view c.in_ok-value.value.now) = search rules in
    let other : as_array (view c.in_ok-value.value.now) ≡ None = search rules in
    let none : c.from_residual-in_err-turns.result ≡ None = search rules in
    rw none (sym (turn-other (table_view c.args.script.now) (view c.in_ok-value.value.now) one there other))

pub returns : goal.returns
returns c =
    let one : count_of (table_view c.args.script.now) ≡ 1 = count_of-view c.args.script.now.entries ∙ (omega arith) in
    let there : get_member turn_key (table_view c.args.script.now) ≡ Some (view c.in_ok-value.value.now) = search rules in
    let turns : as_array (view c.in_ok-value.value.now) ≡ Some (array_view c.in_ok-turns.turns.now) = search rules in
    c.only_table.ensures ∙ ap (λ vs. only_table (items_view vs)) c.as_slice.ensures.value
    ∙ sym (turn-array (table_view c.args.script.now) (view c.in_ok-value.value.now) (array_view c.in_ok-turns.turns.now) one there turns)
