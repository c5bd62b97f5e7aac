use Rattle.std.proofs.Common.{◌≡◌, IfOk, sym, ap, subst}
use Rattle.std.specs.Option.{option_map_or}
use Rattle.rb_core_model.specs.Forgetting.{floor, rest, rest_at_floors}
use Rattle.rb_core.specs.State.{standing_view}
use Rattle.rb_core.proofs.copies.left.Goals as goal

pub returns-in-Some : goal.returns-in-Some
returns-in-Some g c =
    let s = standing_view c.args.state in
    let is : rest (floor c.in-Some.window s) s ≡ rest_at_floors s = ap (λ o. option_map_or (λ w. rest (floor w s) s) o s) (sym c.in-Some.is) in
    subst (λ t. IfOk c.left_in.result (λ left. standing_view left ≡ t)) is c.left_in.ensures
