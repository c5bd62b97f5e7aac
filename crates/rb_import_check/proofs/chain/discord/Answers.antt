use Rattle.std.proofs.Common.{◌≡◌, ◌<◌, length, get_or, arith, ap, sym, ◌∙◌}
use Rattle.std.proofs.lemmas.Bool.{true≢false}
use Rattle.rb_import_check.specs.Chains.{IsAbsentOrOf}
use Rattle.rb_import_check.proofs.Zips.{not_zipped_item, zipped_item}
use Rattle.rb_import_check.proofs.chain.discord.Goals as goal

pub loop-place-preserved : goal.loop-place-preserved
loop-place-preserved c =
    let place = c.loop-place.place in
    let there : place < length c.args.set.now = omega (arith, ap length c.members-member-items.ensures.members) in
    let here : place < length c.args.signatures.now = omega (arith, c.size.ensures.value) in
    let is : c.member-item.result ≡ get_or c.args.set.now place c.member-item.result = c.member-item.is ∙ ap (λ l. get_or l place c.member-item.result) c.members-member-items.ensures.members in
    zipped_item IsAbsentOrOf c.args.signatures.now c.args.set.now place _ c.member-item.result here there is c.loop-place.invariant (c.is_signer.ensures.0 c.if-not-is_signer.false)

pub returns-then-not-is_signer-clause-discord : goal.returns-then-not-is_signer-clause-discord
returns-then-not-is_signer-clause-discord c =
    let place = c.loop-place.place in
    let there : place < length c.args.set.now = omega (arith, ap length c.members-member-items.ensures.members) in
    let here : place < length c.args.signatures.now = omega (arith, c.size.ensures.value) in
    let is : c.member-item.result ≡ get_or c.args.set.now place c.member-item.result = c.member-item.is ∙ ap (λ l. get_or l place c.member-item.result) c.members-member-items.ensures.members in (
      c.if-signatures-size.false ∙ c.size.ensures.value,
      not_zipped_item IsAbsentOrOf c.args.signatures.now c.args.set.now place _ c.member-item.result here there is
          (λ holds. true≢false (sym (c.is_signer.ensures.1 holds) ∙ c.if-not-is_signer.true)),
    )
