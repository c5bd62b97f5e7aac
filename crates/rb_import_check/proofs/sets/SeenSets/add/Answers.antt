use Rattle.std.proofs.Common.{◌≡◌, Some, length, arith, subst, sym, ◌∙◌}
use Rattle.std.specs.BTreeMap.{Updates}
use Rattle.std.specs.Cmp.Lexicographic.{slice_cmp}
use Rattle.std.specs.Ordering.{nat_cmp}
use Rattle.std.proofs.lemmas.Bool.{true≢false}
use Rattle.std.proofs.lemmas.Grind.{common_steps}
use Rattle.rb_import_check.specs.Sets.{AreIndexed, WasSeen}
use Rattle.rb_import_check.proofs.SetsLemmas.{stays_indexed}
use Rattle.rb_import_check.proofs.sets.SeenSets.add.Goals as goal

pub invariant_of-self-2 : goal.invariant_of-self-2
invariant_of-self-2 c =
    let place : c.len.result ≡ length c.args.self.now.sets.items = grind (arith, common_steps) in
    record {
      indexed = subst (λ xs. AreIndexed xs c.insert.new.self) (sym c.push.ensures.items)
          (stays_indexed c.args.self.now.sets.items c.args.self.now.places c.insert.new.self c.args.seen c.len.result _ c.args.self.now.indexed
          (λ seen. true≢false (sym (c.with_hash.ensures.found.1 (subst (λ h. WasSeen c.args.self.now.sets.items h) (sym c.hash.ensures) seen)) ∙ sym c.is_some.ensures ∙ c.if-is_some.false)) place
          (subst (λ h. Updates (slice_cmp nat_cmp) c.args.self.now.places c.insert.new.self h (Some c.len.result)) c.hash.ensures c.in_ok-insert.ensures.updates));
    }
