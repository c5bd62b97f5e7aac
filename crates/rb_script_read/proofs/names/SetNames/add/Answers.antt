use Rattle.std.proofs.Common.{◌≡◌, ◌<◌, Result, Ok, Err, OnErr, Some, ap, sym, ◌∙◌, arith, length, slice_get}
use Rattle.std.proofs.lemmas.Option.{slice_get-get_or}
use Rattle.rb_script_read.specs.Names.{names_in, with_name}
use Rattle.rb_script_read.proofs.NamesLemmas.{names_in-insert, names_in-kept}
use Rattle.rb_script_read.proofs.names.SetNames.add.Goals as goal

on_err : {T E P : Type 0} (r : Result T E) → P → OnErr r P
on_err (Ok x) h = tt
on_err (Err e) h = h

-- a name that finds no room is not added
pub returns-in_err-insert-clause-unchanged : goal.returns-in_err-insert-clause-unchanged
returns-in_err-insert-clause-unchanged c =
    let maps = c.grow_past.new.self.chains.items in
    let map = c.index_mut-names.result.now in
    let within : c.args.chain < length maps = omega (arith, c.in_ok-grow_past.ensures.grown, c.grow_past.new.self.chains.ok.0) in
    let here : slice_get maps c.args.chain ≡ Some map =
    slice_get-get_or maps c.args.chain map within ∙ ap Some (sym c.index_mut-names.ensures.value) in
    on_err c.from_residual-in_err-insert.result
    (names_in-kept maps c.args.chain map c.insert.new.self here within c.in_err-insert.ensures.err ∙ c.grow_past.ensures.same)

pub returns-clause-added : goal.returns-clause-added
returns-clause-added c =
    let maps = c.grow_past.new.self.chains.items in
    let map = c.index_mut-names.result.now in
    let within : c.args.chain < length maps = omega (arith, c.in_ok-grow_past.ensures.grown, c.grow_past.new.self.chains.ok.0) in
    let here : slice_get maps c.args.chain ≡ Some map =
    slice_get-get_or maps c.args.chain map within ∙ ap Some (sym c.index_mut-names.ensures.value) in
    names_in-insert maps c.args.chain map c.insert.new.self c.in_ok-key.key c.args.hash here within c.in_ok-insert.ensures.updates
    ∙ ap (λ name. with_name c.args.chain name c.args.hash (names_in maps)) c.in_ok-key.ensures.ok
    ∙ ap (with_name c.args.chain c.args.name.now c.args.hash) c.in_ok-grow_past.ensures.same
