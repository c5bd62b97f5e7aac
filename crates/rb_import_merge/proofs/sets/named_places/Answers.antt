use Rattle.std.proofs.Common.{subst}
use Rattle.std.specs.Prelude.{Any}
use Rattle.rb_import_merge.specs.Sets.{Gains, IsNextOfRecord, NamesSet}
use Rattle.rb_import_merge.proofs.Naming.{gains_both}
use Rattle.rb_import_merge.proofs.sets.named_places.Goals as goal

pub returns : goal.returns
returns c =
    let sets = c.args.chain.now.sets.sets.items in
    gains_both (λ p. Any (NamesSet sets p) c.args.chain.now.commits.items) (IsNextOfRecord c.args.setup.now c.args.records.now c.args.place sets) _ _ _
    (subst (λ l. Gains (λ p. Any (NamesSet sets p) c.args.chain.now.commits.items) l c.add_of_headers.new.places.items) c.new-places.ensures.items c.in_ok-add_of_headers.ensures) c.in_ok-add_of_clients.ensures
