use Rattle.std.proofs.Common.{take, ap, ◌∙◌, arith}
use Rattle.std.proofs.lemmas.List.{take_at, length-take}
use Rattle.rb_core_state.proofs.Places.{found}
use Rattle.rb_super.proofs.judging.turns_to.Goals as goal

pub returns-clause-before : goal.returns-clause-before
returns-clause-before g c =
    let items = c.args.turns.items in
    c.truncate.ensures.items ∙ ap (take c.args.place) (c.remove-this.ensures.by_index.2)
    ∙ take_at (take c.args.place items) _ c.args.place (omega (arith, length-take c.args.place items, c.requires))

pub returns-clause-there : goal.returns-clause-there
returns-clause-there g c = found c.args.turns.items c.args.place c.remove-this.result c.requires c.remove-this.ensures.value
