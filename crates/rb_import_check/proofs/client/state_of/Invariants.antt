use Rattle.std.proofs.Common.{◌≡◌, take}
use Rattle.std.specs.Prelude.{IfSome, option_map, option_to_list}
use Rattle.rb_import_check.specs.Clients.{IsOnChain, client_states_of}
use Rattle.rb_import_check.specs.Named.{filed_client_states_of}
use Rattle.rb_import_check.proofs.client.state_of.Given as goal

-- what was found is the state that the answers so far tell of, and its file
abbrev pub invariant-loop-saved : goal.invariant-loop-saved
invariant-loop-saved l = record {
  states : option_to_list (option_map (λ p. p.1.now) l.found) ≡ client_states_of (take l.saved-index l.answers);
  chain : IfSome l.found (λ p. IsOnChain l.tracked p.1.now);
  files : option_to_list (option_map (λ p. (p.1.now, p.0.now)) l.found) ≡ filed_client_states_of (take l.saved-index l.answers);
}
