use Rattle.std.proofs.Common.{sym, ap, ◌∙◌, None}
use Rattle.std.specs.Option.{option_map, option_and_then}
use Rattle.rb_scan.specs.Path.{Path}
use Rattle.rb_script_types.specs.declared.refusal.Refusal.TheVariants.{Repeat}
use Rattle.rb_core_model.specs.Refusal.{refused_if}
use Rattle.rb_core_model.specs.Standing.{view_of_path}
use Rattle.rb_core_state.proofs.paths.refuse_closed.Goals as goal

pub returns : goal.returns
returns g c = λ books. c.refuse_closed.ensures ∙ ap (λ o. option_and_then (λ (v : Path). refused_if v.closed Repeat None) (option_map (view_of_path books) o)) (sym c.path_in.ensures)
