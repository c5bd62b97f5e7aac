use Rattle.std.proofs.Common.{◌≡◌, ◌∙◌, ◌<◌, ℕ, List, All, get_or, length, rules, sym, subst}
use Rattle.std.proofs.lemmas.List.Elements.{All-nil}
use Rattle.rb_import_merge.specs.declared.left_out.LeftOutPacket.{LeftOutPacket}
use Rattle.rb_import_merge.specs.declared.packets.SeenPacket.{SeenPacket}
use Rattle.rb_import_merge.specs.LeftOut.{IsLeftOutFor}
use Rattle.rb_import_merge.proofs.Leaving.{EventHas, entries_all, entries_have, entries_kept, events_more, no_events, of_an_event}
use Rattle.rb_import_merge.proofs.Searching.{at_end}
use Rattle.rb_import_merge.proofs.left_out.PathEvents.of_events.Goals as goal

pub loop-seen-init : goal.loop-seen-init
loop-seen-init c =
    let it = c.args.self.now in
    record {
      reasons = subst (All (IsLeftOutFor it.setup.now it.answers.now)) (sym c.new-lacking.ensures.items) (All-nil (IsLeftOutFor it.setup.now it.answers.now));
      all = no_events it.setup.now it.answers.now it.events.now c.new-lacking.result.items;
    }

pub loop-seen-preserved : goal.loop-seen-preserved
loop-seen-preserved c =
    let it = c.args.self.now in
    let p : SeenPacket = c.seen-item.result in
    let i : ℕ = c.loop-seen.seen-index in
    let before : List LeftOutPacket = c.loop-seen.lacking.items in
    let small : i < length it.events.now = search rules in
    let is : p ≡ get_or it.events.now i p = search rules in
    record {
      reasons =
          entries_all (IsLeftOutFor it.setup.now it.answers.now) p.event.now.sequence c.shown_by-lack.result p.file before _ c.in_ok-add_lacking.ensures
          (λ l e. of_an_event it.setup.now it.answers.now it.events.now i p l c.requires.those c.requires.files small is (sym c.shown_by-lack.ensures ∙ e)) c.loop-seen.invariant.reasons;
      all =
          events_more it.setup.now it.answers.now it.events.now i p before _ small is (λ n. entries_kept n p.event.now.sequence c.shown_by-lack.result p.file before _ c.in_ok-add_lacking.ensures)
          c.loop-seen.invariant.all (λ shown. entries_have p.event.now.sequence c.shown_by-lack.result p.file before _ c.in_ok-add_lacking.ensures (λ none. shown (sym c.shown_by-lack.ensures ∙ none)));
    }

pub returns-clause-all : goal.returns-clause-all
returns-clause-all c =
    let it = c.args.self.now in
    at_end (EventHas it.setup.now it.answers.now c.loop-seen.lacking.items) it.events.now c.loop-seen.seen-index (search rules) c.loop-seen.invariant.all
