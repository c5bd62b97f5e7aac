use Rattle.std.proofs.Common.{codes, rules}
use Rattle.rb_script_toml.specs.declared.fault.FaultName.TheVariants.{NotToml}
use Rattle.rb_script_toml.proofs.Steps.{fails-at}
use Rattle.rb_script_toml.proofs.Documents.{document-parsed, document-refused}
use Rattle.rb_script_toml.proofs.document.read_table.Goals as goal

pub returns-in-Ok : goal.returns-in-Ok
returns-in-Ok c = record { read = document-parsed _ _ c.if-bytes-gt-MAX_BYTES.false (search rules) c.in-Ok.ensures.ok.0 c.in-Ok.ensures.ok.1 }

pub returns-else-is_memory : goal.returns-else-is_memory
returns-else-is_memory c =
    let none = c.in-Err.ensures.refused (λ m. search rules) in
    record {
      read = rw (document-refused _ c.if-bytes-gt-MAX_BYTES.false (search rules) none) (fails-at _ c.not_toml.result NotToml (codes "-") c.not_toml.ensures);
    }
