-- Whether a set is written, as a test.
use Rattle.std.proofs.Common.{◌≡◌, ℕ, List, Bool, Option, Some, None, sym}
use Rattle.std.specs.Prelude.{Any, IsSomeAnd, slice_get}
use Rattle.std.specs.Bool.{Decides}
use Rattle.std.specs.List.{list_any}
use Rattle.std.proofs.lemmas.Bool.{true≢false}
use Rattle.std.proofs.lemmas.Bool.Decides.{same_from_decides}
use Rattle.std.proofs.lemmas.List.Folds.{Any-from_list_any, list_any-from_Any}
use Rattle.std.proofs.lemmas.Slice.Eq.{bytes_eq-Decides}
use Rattle.rb_valset.specs.ValidatorSet.{set_hash}
use Rattle.rb_import_check.specs.declared.chain.SeenChain.{SeenChain}
use Rattle.rb_import_check.specs.declared.sets.SeenSet.{SeenSet}
use Rattle.rb_import_check.specs.Sets.{IsPlaceOf}
use Rattle.rb_import_merge.specs.declared.kept.KeptSets.{KeptSets}
use Rattle.rb_import_merge.specs.declared.seen.SeenSetup.{SeenSetup}
use Rattle.rb_import_merge.specs.Seen.{IsKeptSet, IsWrittenOf, is_of_hash, is_written}

pub decides_any : {X : Type 0} (p : X → Bool) (P : X → Type 0) → ((x : X) → Decides (p x) (P x)) → (xs : List X)
    → Decides (list_any p xs) (Any P xs)
decides_any p P each xs = (
  (λ e. let found = Any-from_list_any p xs e in (found.0, found.1, found.2, found.3, (each found.1).0 found.4)),
  (λ found. list_any-from_Any p xs (found.0, found.1, found.2, found.3, (each found.1).1 found.4)),
)

decides_hash : (hash : List ℕ) (o : Option SeenSet) → Decides (is_of_hash hash o) (IsSomeAnd o (λ (s : SeenSet). set_hash s.set ≡ hash))
decides_hash hash (Some s) = bytes_eq-Decides (set_hash s.set) hash
decides_hash hash None = ((λ e. absurd (true≢false (sym e))), λ w. absurd w)

decides_written : (chain : Option SeenChain) (kept : Option KeptSets) (hash : List ℕ)
    → Decides (is_written chain kept hash) (IsSomeAnd chain (λ (c : SeenChain). IsSomeAnd kept (IsKeptSet c hash)))
decides_written (Some c) (Some k) hash =
    decides_any (λ i. is_of_hash hash (slice_get c.sets.sets.items i)) (IsPlaceOf c.sets.sets.items hash)
    (λ i. decides_hash hash (slice_get c.sets.sets.items i)) k.places.items
decides_written (Some c) None hash = ((λ e. absurd (true≢false (sym e))), λ w. absurd w)
decides_written None kept hash = ((λ e. absurd (true≢false (sym e))), λ w. absurd w)

pub is_written-is : (r : Bool) (seen : SeenSetup) (place : ℕ) (hash : List ℕ) → Decides r (IsWrittenOf seen.chains.items seen.sets.items place hash)
    → r ≡ is_written (slice_get seen.chains.items place) (slice_get seen.sets.items place) hash
is_written-is r seen place hash decides =
    same_from_decides r (is_written (slice_get seen.chains.items place) (slice_get seen.sets.items place) hash) decides
    (decides_written (slice_get seen.chains.items place) (slice_get seen.sets.items place) hash)
