use Rattle.std.proofs.Common.{◌≡◌, Some, None, ap, sym, ◌∙◌}
use Rattle.std.specs.Prelude.{option_map}
use Rattle.rb_import_merge.specs.Packets.{events_of, first_dest}
use Rattle.rb_import_merge.proofs.Sendings.{nothing_sent, sent_to_one, sent_to_several}
use Rattle.rb_import_merge.proofs.counterparties.several_counterparties.Goals as goal

pub returns-in_err-taken : goal.returns-in_err-taken
returns-in_err-taken c =
    let none : first_dest c.args.setup.now None (events_of c.args.answers.now) ≡ None = sym c.first_dest.ensures ∙ ap (option_map (λ d. d.now)) c.in_err-taken.was in
    rw c.from_residual.ensures (nothing_sent c.args.setup.now (events_of c.args.answers.now) none)

pub returns-in_err-other : goal.returns-in_err-other
returns-in_err-other c =
    let none : first_dest c.args.setup.now (Some c.in_ok-taken.taken.now) (events_of c.args.answers.now) ≡ None = sym c.first_dest-2.ensures ∙ ap (option_map (λ d. d.now)) c.in_err-other.was in
    rw c.from_residual-in_err-other.ensures (sent_to_one c.args.setup.now (events_of c.args.answers.now) c.in_ok-taken.taken.now none)

pub returns : goal.returns
returns c =
    sent_to_several c.args.setup.now (events_of c.args.answers.now) (record { taken = c.in_ok-taken.taken; other = c.in_ok-other.other }) (sym c.if-is_some.ensures)
    (sym c.first_dest.ensures ∙ ap (option_map (λ d. d.now)) c.in_ok-taken.was) (sym c.first_dest-2.ensures ∙ ap (option_map (λ d. d.now)) c.in_ok-other.was)
