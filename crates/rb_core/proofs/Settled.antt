-- A settlement that is accepted is that of the open batch.
use Rattle.std.proofs.Common.{◌≡◌, ℕ, Bool, true, false, cond, eqb, leb, ◌&&◌, Option, Some, None, refl, sym, ap, ◌∙◌}
use Rattle.std.specs.Option.{option_and_then}
use Rattle.std.proofs.lemmas.Option.{none-some}
use Rattle.rb_script_types.specs.declared.refusal.Refusal.TheVariants.{Repeat, OutOfOrder}
use Rattle.rb_core_model.specs.Standing.{OpenBatch, ClientState, open_batch, settled_refusal, settled_refusal_of}
use Rattle.rb_core_model.proofs.Options.{passes}

pub settled_batch : (o : Option ClientState) (number done : ℕ) (b : OpenBatch) → option_and_then (λ (c : ClientState). settled_refusal c number done) o ≡ None
    → option_and_then (λ (c : ClientState). c.batch) o ≡ Some b → option_and_then (λ (c : ClientState). open_batch c number) o ≡ Some b
settled_batch None number done b accepted is = absurd (none-some b is)
settled_batch (Some c) number done b accepted is = found ∙ go (eqb b.number number) (ap (settled_refusal_of c number done) (sym found) ∙ accepted)
  where
    found : open_batch c number ≡ cond (eqb b.number number) (Some b) None
    found = ap (option_and_then (λ (x : OpenBatch). cond (eqb x.number number) (Some x) None)) is

    go : (t : Bool) → settled_refusal_of c number done (cond t (Some b) None) ≡ None → cond t (Some b) None ≡ Some b
    go true e = refl
    go false e = absurd (none-some OutOfOrder (sym (passes (leb 1 number && leb number c.batches) Repeat (Some OutOfOrder) e).1))
