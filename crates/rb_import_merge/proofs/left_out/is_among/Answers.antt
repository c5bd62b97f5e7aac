use Rattle.std.proofs.Common.{◌∙◌, rules}
use Rattle.std.proofs.lemmas.List.Sorted.{answers_always}
use Rattle.rb_import_merge.specs.LeftOut.{sequence_of}
use Rattle.rb_import_merge.proofs.Rising.{is_found}
use Rattle.rb_import_merge.proofs.left_out.is_among.Goals as goal

pub returns : goal.returns
returns c =
    λ up. c.is_ok.ensures.value ∙ is_found sequence_of c.args.left_out.now c.args.sequence c.binary_search_by_key.result up c.binary_search_by_key.ensures.bound
    (c.binary_search_by_key.ensures.position sequence_of (answers_always _ _ _ (λ f a r q h. search rules)))
