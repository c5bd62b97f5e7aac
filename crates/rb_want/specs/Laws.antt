-- Laws of what is asked.
use Rattle.std.specs.Prelude.{◌≡◌, ℕ, List, [], All, Contains}
use Rattle.rb_import_check.specs.Chains as imported
use Rattle.rb_import_check.specs.Chains.{HaveSets}
use Rattle.rb_import_check.specs.Sets.{WasSeen}
use Rattle.rb_import_check.specs.declared.saved.Saved.{Saved}
use Rattle.rb_import_check.specs.declared.sets.SeenSet.{SeenSet}
use Rattle.rb_want_requests.specs.declared.content.Content.{Content}
use Rattle.rb_want_requests.specs.declared.content.Folders.{Folders}
use Rattle.rb_want_requests.specs.declared.request.Request.{Request}
use Rattle.rb_want.specs.Adding.{EachIsAsked, with_needed}
use Rattle.rb_want.specs.Clients.{IsSetThere, pages_at}

-- each request that is needed, and neither answered nor refused, is asked for, where fewer than 30 go to its address
abbrev pub NeedsAreAsked : Type 0
NeedsAreAsked = (folders : Folders) → (needed : List Request) → EachIsAsked folders needed (with_needed folders [] needed)

-- each request that is asked for is needed
abbrev pub NoneIsIdle : Type 0
NoneIsIdle = (folders : Folders) → (needed : List Request) → All (λ r. Contains needed r) (with_needed folders [] needed)

-- a chain's files tell `want` and an import of the same pages of validators, at each height
abbrev pub TellSamePages : List Content → List Saved → Type 0
TellSamePages there saved = (height : ℕ) → pages_at height there ≡ imported.pages_at saved height

-- a set for which no page is asked, since it is there by its hash, is among the sets of an import of the same pages, whatever height they were answered for
abbrev pub SetsThereAreImported : Type 0
SetsThereAreImported = (there : List Content) (saved : List Saved) (sets : List SeenSet) (hash : List ℕ)
    → TellSamePages there saved → HaveSets saved sets → IsSetThere there hash → ∥ WasSeen sets hash ∥₁
