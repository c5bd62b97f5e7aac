use Rattle.std.proofs.Common.{◌≡◌, ◌≤◌, All, length, take}
use Rattle.std.specs.Prelude.{Contains, IfSome, IsSomeAnd}
use Rattle.std.specs.List.{flat_map}
use Rattle.rb_import_check.specs.declared.chain.Page.{Page}
use Rattle.rb_import_check.proofs.chain.members_of.Given as goal

-- the members so far are the validators of the pages so far, which tell the total of the last one of them, and that isn't passed
abbrev pub invariant-loop-page : goal.invariant-loop-page
invariant-loop-page l = record {
  members : l.members.items ≡ flat_map (λ (p : Page). p.page.now.validators.items) (take l.page-index l.pages);
  total : All (λ (p : Page). IsSomeAnd l.before (λ (last : Page). p.page.now.total ≡ last.page.now.total)) (take l.page-index l.pages);
  before : IfSome l.before (Contains l.pages);
  few : IfSome l.before (λ (last : Page). length l.members.items ≤ last.page.now.total);
}
