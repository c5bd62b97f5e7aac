use Rattle.std.proofs.Common.{◌==◌, ◌++◌, [], sym, ap, ◌∙◌, if◌then◌else◌}
use Rattle.std.specs.List.{flat_map}
use Rattle.rb_core_model.specs.Forgetting.{needs_here, needs_there}
use Rattle.rb_core_model.specs.Standing.{book_at}
use Rattle.rb_core_state.specs.Floors.{lowered}
use Rattle.rb_core_state.specs.Room.{books_of}
use Rattle.rb_core_state.proofs.Lowest.{lowered-append}
use Rattle.rb_core_state.proofs.floors.lower_by_path.Goals as goal

pub returns : goal.returns
returns g c =
    let p = c.args.path.now.path in
    let chain = c.args.chain in
    let here = if p.config.source == chain then flat_map (needs_here p.config.order) p.packets else [] in
    let there = if p.config.destination == chain then flat_map (needs_there (book_at (books_of c.args.books.now) chain) p.config.order) p.packets else [] in
    c.lower_on_destination.ensures
    ∙ (λ i. lowered (c.lower_on_source-lowest.ensures i) (if (c.config-config.ensures i).destination == chain then flat_map (needs_there (c.book_in.ensures i) p.config.order) p.packets else []))
    ∙ (λ i. lowered (lowered c.args.lowest (if (c.config-config.ensures i).source == chain then flat_map (needs_here p.config.order) p.packets else [])) there)
    ∙ sym (lowered-append c.args.lowest here there)
    ∙ ap (λ b. lowered c.args.lowest (if b then [] else (here ++ there))) (sym c.if-is_closed.false ∙ c.is_closed.ensures)
