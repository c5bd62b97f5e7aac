use Rattle.std.proofs.Common.{rules}
use Rattle.std.proofs.lemmas.Fn.{dedup_same}
use Rattle.rb_import_merge.specs.LeftOut.{of_one_sequence}
use Rattle.rb_import_merge.proofs.left_out.firsts_of.Goals as goal

pub returns : goal.returns
returns c = dedup_same _ of_one_sequence _ (λ x y b f' x' y' k. search rules) _ _ c.dedup_by_key.ensures.filtered
