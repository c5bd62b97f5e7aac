use Rattle.std.proofs.Common.{◌≡◌, map, take, All}
use Rattle.rb_explain.specs.Client.{IsExpiry}
use Rattle.rb_explain.specs.declared.client.StoredHeight.{StoredHeight}
use Rattle.rb_explain.proofs.client.stored_heights.Given as goal

abbrev pub invariant-loop-height : goal.invariant-loop-height
invariant-loop-height g l = record {
  heights : map (λ (s : StoredHeight). s.height) l.stored.items ≡ take l.height-index l.heights;
  expiries : All (IsExpiry l.view) l.stored.items;
}
