use Rattle.std.proofs.Common.{rules}
use Rattle.std.proofs.lemmas.Fn.{dedup_same}
use Rattle.rb_import_merge.specs.Packets.{are_of_one}
use Rattle.rb_import_merge.proofs.lowest.firsts_of.Goals as goal

pub returns : goal.returns
returns c = dedup_same _ are_of_one _ (λ x y b f' x' y' k. search rules) _ _ c.dedup_by_key.ensures.filtered
