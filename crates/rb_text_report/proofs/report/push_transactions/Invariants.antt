use Rattle.std.proofs.Common.{◌≡◌, ◌+◌, ◌++◌, drop, string_bytes}
use Rattle.rb_text_report.specs.Report.{numbered_lines, transaction_line}
use Rattle.rb_text_report.proofs.report.push_transactions.Given as goal

-- what was written and the transactions that are left
abbrev pub invariant-loop-transaction : goal.invariant-loop-transaction
invariant-loop-transaction l = record {
  number : l.number ≡ l.transaction-index;
  text : string_bytes l.text ++ numbered_lines transaction_line (l.transaction-index + 1) (drop l.transaction-index l.transactions)
      ≡ string_bytes l.fn.text ++ numbered_lines transaction_line 1 l.transactions;
}
