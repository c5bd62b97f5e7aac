use Rattle.std.proofs.Common.{◌<◌, ◌+◌, IfSome, sym, ap, ◌∙◌, subst}
use Rattle.std.specs.Option.{option_map, option_and_then}
use Rattle.rb_core_state.specs.Room.{ClientWithRoom}
use Rattle.rb_core_model.specs.Begun.{max_begun}
use Rattle.rb_core_model.specs.Limits.{max_events}
use Rattle.rb_core_model.specs.Standing.{OpenBatch, ClientState, batch_opened, after_answer}
use Rattle.rb_core_state.proofs.Places.{found_seen, seen_changed}
use Rattle.rb_core_state.proofs.clients.open.Goals as goal

pub open-requires : goal.open-requires
open-requires g c =
    subst (λ o. IfSome o (λ (k : ClientState). k.batches < max_begun + max_events)) (found_seen (λ (h : ClientWithRoom). h.client) c.args.clients.now.items c.args.client c.index_mut.result.now c.requires.within c.index_mut.ensures.value) c.requires.few

pub returns-clause-clients : goal.returns-clause-clients
returns-clause-clients g c =
    seen_changed (λ (h : ClientWithRoom). h.client) (after_answer c.args.answer) c.args.clients.now.items c.args.client c.index_mut.result.now c.open.new.self c.requires.within c.index_mut.ensures.value c.open.ensures.client

pub returns-clause-number : goal.returns-clause-number
returns-clause-number g c =
    c.open.ensures.number
    ∙ ap (λ o. option_map (λ (b : OpenBatch). b.number) (option_and_then (λ (k : ClientState). batch_opened k c.args.answer) o)) (sym (found_seen (λ (h : ClientWithRoom). h.client) c.args.clients.now.items c.args.client c.index_mut.result.now c.requires.within c.index_mut.ensures.value))
