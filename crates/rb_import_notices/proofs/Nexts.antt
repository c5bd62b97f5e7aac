-- Whether a set was seen, as a test.
use Rattle.std.proofs.Common.{◌≡◌, ℕ, List, Bool, Option, Some, None, sym}
use Rattle.std.specs.Prelude.{Any, IsSomeAnd, slice_get}
use Rattle.std.specs.Bool.{Decides}
use Rattle.std.specs.List.{list_any}
use Rattle.std.specs.Str.{bytes_eq}
use Rattle.std.proofs.lemmas.Bool.{true≢false}
use Rattle.std.proofs.lemmas.Bool.Decides.{same_from_decides}
use Rattle.std.proofs.lemmas.List.Folds.{Any-from_list_any, list_any-from_Any}
use Rattle.std.proofs.lemmas.Slice.Eq.{bytes_eq-Decides}
use Rattle.rb_valset.specs.ValidatorSet.{set_hash}
use Rattle.rb_import_check.specs.declared.chain.SeenChain.{SeenChain}
use Rattle.rb_import_check.specs.declared.sets.SeenSet.{SeenSet}
use Rattle.rb_import_check.specs.Sets.{WasSeen}
use Rattle.rb_import_merge.specs.declared.seen.SeenSetup.{SeenSetup}
use Rattle.rb_import_merge.specs.Seen.{WasSeenOf}
use Rattle.rb_import_notices.specs.Missing.{was_seen}

decides_any : {X : Type 0} (p : X → Bool) (P : X → Type 0) → ((x : X) → Decides (p x) (P x)) → (xs : List X)
    → Decides (list_any p xs) (Any P xs)
decides_any p P each xs = (
  (λ e. let found = Any-from_list_any p xs e in (found.0, found.1, found.2, found.3, (each found.1).0 found.4)),
  (λ found. list_any-from_Any p xs (found.0, found.1, found.2, found.3, (each found.1).1 found.4)),
)

decides_seen : (chain : Option SeenChain) (hash : List ℕ) → Decides (was_seen chain hash) (IsSomeAnd chain (λ (c : SeenChain). WasSeen c.sets.sets.items hash))
decides_seen (Some c) hash =
    decides_any (λ (s : SeenSet). bytes_eq (set_hash s.set) hash) (λ (s : SeenSet). set_hash s.set ≡ hash) (λ s. bytes_eq-Decides (set_hash s.set) hash) c.sets.sets.items
decides_seen None hash = ((λ e. absurd (true≢false (sym e))), λ w. absurd w)

pub was_seen-is : (r : Bool) (seen : SeenSetup) (place : ℕ) (hash : List ℕ) → Decides r (WasSeenOf seen.chains.items place hash) → r ≡ was_seen (slice_get seen.chains.items place) hash
was_seen-is r seen place hash decides =
    same_from_decides r (was_seen (slice_get seen.chains.items place) hash) decides (decides_seen (slice_get seen.chains.items place) hash)
