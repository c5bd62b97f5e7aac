-- (internal) How a header stands to the sets that were seen, and the headers that were parted by that.
use Rattle.std.specs.Prelude.{◌≡◌, ◌++◌, ◌∷◌, [], List}
use Rattle.rb_import_check.specs.declared.chain.Commit.{Commit}
use Rattle.rb_import_check.specs.declared.parts.Parts.{Parts}
use Rattle.rb_import_check.specs.declared.parts.Standing.{Standing}
use Rattle.rb_import_check.specs.declared.sets.SeenSet.{SeenSet}
use Rattle.rb_import_check.specs.declared.signed.Signatures.{Signatures}
use Rattle.rb_import_check.specs.Chains.{IsBare}
use Rattle.rb_import_check.specs.Sets.{WasSeen}
use Rattle.rb_import_check.specs.Signed.{IsSigned}

-- the header stands so to these sets
abbrev pub Stands : Signatures → List SeenSet → Commit → Standing → Type 0
Stands signatures sets c Standing.Signed = IsSigned signatures sets c
Stands signatures sets c Standing.Bare = IsBare sets c
Stands signatures sets c Standing.Unsigned = WasSeen sets c.header.now.set × (¬ IsSigned signatures sets c)

-- a header that stands so came to those before
abbrev pub Takes : Standing → Commit → Parts → Parts → Type 0
Takes Standing.Signed c before after =
    (after.commits.items ≡ before.commits.items ++ c ∷ []) × (after.bare.items ≡ before.bare.items) × (after.unsigned.items ≡ before.unsigned.items)
Takes Standing.Bare c before after =
    (after.commits.items ≡ before.commits.items) × (after.bare.items ≡ before.bare.items ++ c ∷ []) × (after.unsigned.items ≡ before.unsigned.items)
Takes Standing.Unsigned c before after =
    (after.commits.items ≡ before.commits.items) × (after.bare.items ≡ before.bare.items) × (after.unsigned.items ≡ before.unsigned.items ++ c ∷ [])
