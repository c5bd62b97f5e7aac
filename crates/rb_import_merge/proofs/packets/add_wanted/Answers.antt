use Rattle.std.proofs.Common.{◌≡◌, ◌++◌, ◌∷◌, [], None, List, sym, subst, ap, ◌∙◌}
use Rattle.std.specs.Prelude.{Any, option_map, slice_get}
use Rattle.std.proofs.lemmas.Result.{err_from_is_err_and}
use Rattle.rb_import_check.specs.declared.error.CheckErrorName.{CheckErrorName}
use Rattle.rb_import_check.specs.Errors.{IsTold}
use Rattle.rb_import_merge.specs.declared.packets.SeenPacket.{SeenPacket}
use Rattle.rb_import_merge.specs.Packets.{AreFromOne}
use Rattle.rb_import_merge.specs.Refusals.{IsFromOther}
use Rattle.rb_import_merge.proofs.Refusing.{from_one_more, other_first}
use Rattle.rb_import_merge.proofs.packets.add_wanted.Goals.{then-branch+in_ok-push, else-branch}
use Rattle.rb_import_merge.proofs.packets.add_wanted.Goals as goal

pub returns-in_err-is_wanted-clause-other : goal.returns-in_err-is_wanted-clause-other
returns-in_err-is_wanted-clause-other c =
    let e = c.in_err-is_wanted.field-0.0 in
    let first : option_map (λ b. b.now) c.first.result ≡ slice_get c.args.wanted.now.items 0 = c.first.ensures.value ∙ ap (λ (l : List SeenPacket). slice_get l 0) c.deref.ensures.value in
    let other : IsTold CheckErrorName.TwoChannels ((c.args.setup.now.source_channel ≡ None) × Any (λ (p : SeenPacket). IsFromOther e p c.args.seen) c.args.wanted.now.items) e =
    other_first c.args.setup.now c.first.result c.args.wanted.now.items c.args.seen e first c.in_err-is_wanted.ensures.other in
    let p = err_from_is_err_and c.from_residual.result c.from_residual.ensures.1 in
    rw (p.1, p.2) other

pub returns-clause-source : goal.returns-clause-source
returns-clause-source c = λ none one.
    let first : option_map (λ b. b.now) c.first.result ≡ slice_get c.args.wanted.now.items 0 = c.first.ensures.value ∙ ap (λ (l : List SeenPacket). slice_get l 0) c.deref.ensures.value in
    elim c.if-branch.branch [
      | then-branch+in_ok-push w ↦
          let items : c.if-branch.wanted.items ≡ c.args.wanted.now.items ++ c.args.seen ∷ [] = ap (λ v. v.items) w.wanted-is ∙ w.in_ok-push.ensures.items in
          subst AreFromOne (sym items) (from_one_more c.first.result c.args.wanted.now.items c.args.seen first (c.in_ok-is_wanted.ensures.source none) one)
      | else-branch w ↦ subst AreFromOne (sym (ap (λ v. v.items) w.wanted-is)) one
    ]
