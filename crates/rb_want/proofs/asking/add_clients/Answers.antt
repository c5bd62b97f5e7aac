use Rattle.std.proofs.Common.{◌∙◌, [], ap, refl}
use Rattle.std.specs.Borrow.{Bor}
use Rattle.rb_want_requests.specs.declared.content.Folders.{Folders}
use Rattle.rb_want.specs.Adding.{told_of}
use Rattle.rb_want.specs.Needs.{IsOutcomeAt}
use Rattle.rb_want.proofs.Zipped.{client_step, clients_all}
use Rattle.rb_want.proofs.asking.add_clients.Goals as goal

-- nothing is added yet
pub loop-place-init : goal.loop-place-init
loop-place-init c = (([], tt, refl), refl, refl)

-- the outcome for one more client is added
pub loop-place-preserved : goal.loop-place-preserved
loop-place-preserved c =
    let now = c.loop-place.wanted in
    let old = c.args.wanted.now in (
      client_step (IsOutcomeAt c.args.setup.now c.args.folders.now) old.folders.now now.folders.now (told_of old) (told_of now) (told_of c.add_client.new.wanted)
          c.args.clients.now c.loop-place.place c.index-clients-place.result c.loop-place-test.true c.index-clients-place.is
          (ap (λ (b : Bor Folders). b.now) c.loop-place.invariant.1) c.loop-place.invariant.0 c.in_ok-add_client.ensures.outcome,
      c.add_client.ensures.folders ∙ c.loop-place.invariant.1,
      c.add_client.ensures.path_ends ∙ c.loop-place.invariant.2,
    )

-- all clients were gone through
pub returns-clause-outcomes : goal.returns-clause-outcomes
returns-clause-outcomes c =
    clients_all (IsOutcomeAt c.args.setup.now c.args.folders.now) c.args.wanted.now.folders.now (told_of c.args.wanted.now) (told_of c.loop-place.wanted)
    c.args.clients.now c.loop-place.place c.loop-place-test.false c.loop-place.invariant.0
