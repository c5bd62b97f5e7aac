-- The sets that are there are those of an import.
use Rattle.std.proofs.Common.{◌≡◌, ℕ, List, subst}
use Rattle.std.proofs.Math.Logic.{∥∥₁_elim, ∥∥₁_prop}
use Rattle.rb_import_check.specs.Chains as chains
use Rattle.rb_import_check.specs.Chains.{HaveSets}
use Rattle.rb_import_check.specs.Sets.{WasSeen}
use Rattle.rb_import_check.specs.declared.saved.Saved.{Saved}
use Rattle.rb_import_check.specs.declared.sets.SeenSet.{SeenSet}
use Rattle.rb_want_requests.specs.declared.content.Content.{Content}
use Rattle.rb_want.specs.Clients.{MakeSet, pages_at}
use Rattle.rb_want.specs.Laws.{SetsThereAreImported, TellSamePages}

-- the set of the pages of a height
at : (there : List Content) (saved : List Saved) (sets : List SeenSet) (hash : List ℕ) (height : ℕ)
    → TellSamePages there saved → HaveSets saved sets → MakeSet (pages_at height there) hash → WasSeen sets hash
unfolding HaveSets MakeSet
at there saved sets hash height same have makes =
    let made = subst (λ pages. MakeSet pages hash) (same height) makes in
    subst (WasSeen sets) made.2 (have.1 height made.0)

pub imported : SetsThereAreImported
imported there saved sets hash same have set =
    ∥∥₁_elim set ∥∥₁_prop (λ one. ∣ at there saved sets hash one.0 same have one.1 ∣₁)
