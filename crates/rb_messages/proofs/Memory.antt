-- Refusals for want of memory.
use Rattle.std.proofs.Common.{◌≡◌, ℕ, ◌<◌, List, [], Result, Err, length, sym, subst, Vec, slice_get, slice_index_or, Option, Some, None, MatchOption}
use Rattle.std.specs.List.{Contains}
use Rattle.std.specs.Result.{IfErr}
use Rattle.std.specs.Global.{Global}
use Rattle.rb_import_check.specs.declared.chain.SeenChain.{SeenChain}
use Rattle.rb_import_check.specs.declared.saved.Saved.{Saved}
use Rattle.rb_messages.specs.Sources.{AreRefused, IsRefusedAmong, IsRefusedFor}
use Rattle.rb_messages.specs.declared.error.MessageError.{MessageError}
use Rattle.rb_messages.specs.declared.error.MessageError.TheVariants.{NoMemory}
use Rattle.rb_messages.specs.declared.update.PlannedUpdate.{PlannedUpdate}

may_be : (id : List ℕ) (o : Option SeenChain) (u : PlannedUpdate) → MatchOption o (Unit {0}) (λ s. IsRefusedFor id s u NoMemory)
may_be id None u = tt
may_be id (Some s) u = tt

pub refused_for_memory : {T : Type 0} (r : Result T MessageError) (e : MessageError) (chains : List (List ℕ)) (seen : List SeenChain)
    (updates : List PlannedUpdate) (u : PlannedUpdate) → r ≡ Err e → e ≡ NoMemory → Contains updates u → IfErr r (IsRefusedAmong chains seen updates)
refused_for_memory r e chains seen updates u is memory there =
    subst (λ r. IfErr r (IsRefusedAmong chains seen updates)) (sym is) (subst (IsRefusedAmong chains seen updates) (sym memory)
    (u, there, may_be (slice_index_or chains u.chain []) (slice_get seen u.chain) u))

pub untaken_for_memory : {T : Type 0} (r : Result T MessageError) (e : MessageError) (chains : List (List ℕ)) (answers : List (Vec Saved Global)) (place : ℕ)
    → r ≡ Err e → e ≡ NoMemory → place < length answers → IfErr r (AreRefused chains answers)
untaken_for_memory r e chains answers place is memory lt =
    subst (λ r. IfErr r (AreRefused chains answers)) (sym is) (subst (AreRefused chains answers) (sym memory) (place, lt, tt))
