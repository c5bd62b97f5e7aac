use Rattle.std.proofs.Common.{ℕ, List, sym, subst}
use Rattle.rb_import_check.specs.declared.chain.Commit.{Commit}
use Rattle.rb_import_check.specs.declared.saved.Saved.{Saved}
use Rattle.rb_import_check.specs.declared.sets.SeenSet.{SeenSet}
use Rattle.rb_import_check.specs.Chains.{HaveSets}
use Rattle.rb_import_merge.specs.Seen.{AreHeadersOf}
use Rattle.rb_import_merge.proofs.Watched.{surplus_is}
use Rattle.rb_import_merge.proofs.seen.fitting_chain.Goals as goal

pub returns-clause-seen : goal.returns-clause-seen
returns-clause-seen c =
    let full = c.in_ok-chain.chain in
    let fitting = c.in_ok-fitting.fitting in
    let saved : List Saved = c.args.saved.now in
    let Are : List SeenSet → List Commit → List Commit → Type 0 = λ sets bare unsigned. AreHeadersOf c.args.id.now c.args.signatures saved sets full.commits.items bare unsigned in
    let of_full : Are full.sets.sets.items full.bare.items full.unsigned.items = (
      c.in_ok-chain.ensures.headers,
      c.in_ok-chain.ensures.files,
      c.in_ok-chain.ensures.verdicts,
      c.in_ok-chain.ensures.rising,
      c.in_ok-chain.ensures.chain,
      c.in_ok-chain.ensures.blocks,
      c.in_ok-chain.ensures.sets,
      c.in_ok-chain.ensures.validators,
      c.in_ok-chain.ensures.signed,
      c.in_ok-chain.ensures.bare,
      c.in_ok-chain.ensures.unsigned,
      c.in_ok-chain.ensures.left_out,
    ) in
    let of_fitting : Are fitting.sets.sets.items fitting.bare.items fitting.unsigned.items =
    subst (λ l. Are l fitting.bare.items fitting.unsigned.items) (sym c.in_ok-fitting.ensures.sets)
    (subst (λ l. Are full.sets.sets.items l fitting.unsigned.items) (sym c.in_ok-fitting.ensures.bare) (subst (λ l. Are full.sets.sets.items full.bare.items l) (sym c.in_ok-fitting.ensures.unsigned) of_full)) in
    ((full.commits.items, of_fitting, c.in_ok-fitting.ensures.fits), subst (HaveSets saved) (sym c.in_ok-fitting.ensures.sets) c.in_ok-chain.ensures.all_sets, c.in_ok-chain.ensures.answers, c.in_ok-chain.ensures.judged)

pub returns-clause-surplus : goal.returns-clause-surplus
returns-clause-surplus c =
    let full = c.in_ok-chain.chain in
    surplus_is c.args.saved.now full.commits.items c.in_ok-fitting.fitting full.bare.items full.unsigned.items c.surplus_of-surplus.result c.in_ok-chain.ensures.headers c.in_ok-fitting.ensures.bare c.in_ok-fitting.ensures.unsigned c.surplus_of-surplus.ensures
