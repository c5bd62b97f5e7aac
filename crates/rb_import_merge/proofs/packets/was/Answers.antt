use Rattle.std.proofs.Common.{rules, ◌∙◌}
use Rattle.std.proofs.lemmas.List.Sorted.{answers_always}
use Rattle.rb_import_merge.proofs.Searching.{key, searched}
use Rattle.rb_import_merge.proofs.packets.was.Goals as goal

pub returns : goal.returns
returns c =
    λ order. c.is_ok.ensures.value ∙ searched c.args.kind c.place_of.result c.args.sequence c.args.packets.now c.binary_search_by_key.result c.place_of.ensures c.binary_search_by_key.ensures.bound
    (c.binary_search_by_key.ensures.position key (answers_always _ _ _ (λ f a r q h. search rules))) order
