use Rattle.std.proofs.Common.{arith, refl, rules}
use Rattle.rb_import_answers.proofs.HeaderVarints.{varint-last, written}
use Rattle.rb_import_answers.proofs.header_encoding.push_varint.Goals as goal

pub loop-rest-preserved : goal.loop-rest-preserved
loop-rest-preserved c =
    written c.loop-rest.out.items c.push.new.self.items _ _ c.loop-rest.rest _ (search rules) refl
    (omega arith) c.loop-rest-test.true c.loop-rest.invariant

pub returns : goal.returns
returns c = rw (c.in_ok-push-2.ensures.items, ← varint-last c.loop-rest.rest (omega arith)) c.loop-rest.invariant
