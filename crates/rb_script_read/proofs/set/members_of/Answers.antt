use Rattle.std.proofs.Common.{◌++◌, ◌∷◌, [], Ok, get_or, map, take, sym, ap, ◌∙◌}
use Rattle.std.proofs.lemmas.List.{take_all}
use Rattle.rb_valset.specs.declared.key.PublicKey.TheVariants.{Ed25519}
use Rattle.rb_script_toml.specs.Fields.{field_view}
use Rattle.rb_script_toml.specs.declared.fault.FaultName.TheVariants.{BadSet}
use Rattle.rb_script_read.specs.declared.set.GivenValidator.{GivenValidator}
use Rattle.rb_script_read.specs.Sets.{member_of, all_powers}
use Rattle.rb_script_toml.proofs.Steps.{fails-at}
use Rattle.rb_script_read.proofs.SetsLemmas.{with_powers-fails, with_powers-holds, read-more, powers-more}
use Rattle.rb_script_read.proofs.set.members_of.Goals as goal

pub returns-in-Err : goal.returns-in-Err
returns-in-Err c =
    let path = (field_view c.args.field.now).path in
    rw (with_powers-fails path c.args.given.now c.loop-validator.validator-index _ c.loop-validator-test.true c.in-Err.ensures)
    (fails-at _ c.fault.result BadSet path c.fault.ensures)

pub loop-validator-preserved : goal.loop-validator-preserved
loop-validator-preserved c =
    let vs = c.args.given.now in
    let i = c.loop-validator.validator-index in
    let d : GivenValidator = record { key = Ed25519 []; power = 0 } in
    let more = read-more vs i d c.loop-validator-test.true in
    record {
      same = c.in_ok-push-in-Ok.ensures.items ∙ ap (λ ms. ms ++ c.in-Ok.member ∷ []) c.loop-validator.invariant.same
          ∙ ap (λ m. map member_of (take i vs) ++ m ∷ []) c.in-Ok.ensures.1 ∙ sym more;
      powers = ap all_powers more ∙ powers-more (map member_of (take i vs)) (member_of (get_or vs i d)) c.loop-validator.invariant.powers c.in-Ok.ensures.0;
    }

pub returns : goal.returns
returns c =
    let all = take_all c.loop-validator.validator-index c.args.given.now c.loop-validator-test.false in
    let same = c.loop-validator.invariant.same ∙ ap (map member_of) all in
    let powers = sym (ap (λ vs. all_powers (map member_of vs)) all) ∙ c.loop-validator.invariant.powers in
    with_powers-holds (field_view c.args.field.now).path (map member_of c.args.given.now) powers ∙ sym (ap Ok same)
