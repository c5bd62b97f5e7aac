use Rattle.std.proofs.Common.{◌≡◌, ℕ, nat_le, length, replicate, sym, ap, ◌∙◌, arith}
use Rattle.std.specs.List.{list_all}
use Rattle.rb_core_model.specs.Begun.{max_begun}
use Rattle.rb_core_model.specs.Machine.{no_scans}
use Rattle.rb_core_state.specs.Room.{ClientWithRoom}
use Rattle.rb_core.proofs.Anew.{few_all}
use Rattle.rb_core.proofs.copies.anew.Goals as goal

pub returns-clause-state : goal.returns-clause-state
returns-clause-state g c =
    let config = c.args.config.now in
    let clients : c.len.result ≡ length config.clients.items = omega (arith, c.len.ensures, config.clients.ok.0) in
    let paths : c.len-2.result ≡ length config.paths.items = omega (arith, c.len-2.ensures, config.paths.ok.0) in
    λ i. record {
      standing = c.in_ok-state.ensures i;
      plans = (c.in_ok-state-2.ensures ∙ ap (λ (n : ℕ). replicate n 0) clients) i;
      scans = (c.in_ok-state-3.ensures ∙ ap (λ (n : ℕ). replicate n no_scans) paths) i;
      front = 0;
    }

pub returns-clause-few : goal.returns-clause-few
returns-clause-few g c =
    few_all c.in_ok-state.state.clients.items
    (sym (c.are_few.ensures ∙ ap (list_all (λ (h : ClientWithRoom). nat_le h.client.batches max_begun)) c.as_slice.ensures.value) ∙ c.if-not-are_few.false)
