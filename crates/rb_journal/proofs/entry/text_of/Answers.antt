use Rattle.std.proofs.Common.{◌≤◌, length, string_bytes, arith, rules}
use Rattle.std.proofs.lemmas.Str.{IsUtf8-string_bytes}
use Rattle.std.proofs.lemmas.Bool.Decides.{nat_tests}
use Rattle.toml.specs.Data.{members_depth}
use Rattle.rb_journal.specs.Entries.{max_depth}
use Rattle.toml.specs.View.{table_view}
use Rattle.rb_script_toml.specs.Documents.{max_bytes, max_marks}
use Rattle.rb_script_toml.specs.Marks.{marks}
use Rattle.rb_script_toml.proofs.Documents.{document-parsed}
use Rattle.rb_journal.proofs.entry.text_of.Goals as goal

pub returns-clause-read : goal.returns-clause-read
returns-clause-read c =
    let small : length (string_bytes c.in-Ok.text) ≤ max_bytes = omega arith in
    let few : marks (string_bytes c.in-Ok.text) ≤ max_marks = search rules in
    let deep : members_depth (table_view c.args.table.now) ≤ max_depth = grind (arith, nat_tests) in
    document-parsed (string_bytes c.in-Ok.text) (table_view c.args.table.now) small few (IsUtf8-string_bytes c.in-Ok.text) (c.in-Ok.ensures.reads_back deep)
