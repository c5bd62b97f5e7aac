use Rattle.std.proofs.Common.{◌≡◌, ℕ, ◌+◌, List, ◌++◌, drop, map, string_bytes, subst, sym, take}
use Rattle.std.specs.List.{AllZip, Contains, enumerate_from}
use Rattle.std.proofs.lemmas.List.Elements.{Contains-get_or}
use Rattle.std.proofs.lemmas.Result.{err_from_is_err_and}
use Rattle.rb_messages.specs.Messages.{IsFileOf}
use Rattle.rb_messages.specs.Names.{file_name}
use Rattle.rb_messages.specs.declared.message.MessageFile.{MessageFile}
use Rattle.rb_messages.specs.declared.update.PlannedUpdate.{PlannedUpdate}
use Rattle.rb_messages.proofs.Memory.{refused_for_memory}
use Rattle.rb_messages.proofs.Zipped.{named_next, zipped_more}
use Rattle.rb_messages.proofs.message.message_files.Goals as goal

pub returns-in_err-push-in-Ok-clause-refused : goal.returns-in_err-push-in-Ok-clause-refused
returns-in_err-push-in-Ok-clause-refused c =
    let us = c.args.updates.now in
    let u = c.index-updates-place.result in
    let there : Contains us u = subst (Contains us) (sym c.index-updates-place.is) (Contains-get_or us c.loop-place.place u c.loop-place-test.true) in
    let p = err_from_is_err_and c.from_residual.result c.from_residual.ensures.1 in
    refused_for_memory c.from_residual.result p.0 c.args.chains.now c.args.seen.now us u p.1 p.2 there

pub loop-place-preserved : goal.loop-place-preserved
loop-place-preserved c =
    let us = c.args.updates.now in
    let u = c.index-updates-place.result in
    let zipped = zipped_more (IsFileOf c.args.chains.now c.args.seen.now) us c.loop-place.place u c.loop-place.files.items c.in-Ok.file
    c.loop-place-test.true c.index-updates-place.is c.in-Ok.ensures.message c.loop-place.invariant.1 in
    let name : MessageFile → List ℕ = λ f. string_bytes f.name in
    let wanted : ℕ × PlannedUpdate → List ℕ = λ p. file_name p.0 p.1 in
    let named = named_next name wanted us c.loop-place.place u c.loop-place.files.items c.in-Ok.file (map wanted (enumerate_from 0 us))
    c.loop-place-test.true c.index-updates-place.is c.in-Ok.ensures.name c.loop-place.invariant.0 in (
      subst (λ files. map name files ++ map wanted (enumerate_from (c.loop-place.place + 1) (drop (c.loop-place.place + 1) us)) ≡ map wanted (enumerate_from 0 us))
          (sym c.in_ok-push-in-Ok.ensures.items) named,
      subst (AllZip (IsFileOf c.args.chains.now c.args.seen.now) (take (c.loop-place.place + 1) us)) (sym c.in_ok-push-in-Ok.ensures.items) zipped,
    )
