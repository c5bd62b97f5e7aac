use Rattle.rb_import_answers.proofs.HeaderVarints.{varint_is}
use Rattle.rb_import_answers.proofs.header_laws.varint.Goals as goal

pub returns : goal.returns
returns c = varint_is
