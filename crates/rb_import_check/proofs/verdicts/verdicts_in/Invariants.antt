use Rattle.std.proofs.Common.{◌≡◌, take}
use Rattle.std.specs.Prelude.{IfSome, option_map, option_to_list}
use Rattle.rb_import_check.specs.Named.{filed_verdicts_of}
use Rattle.rb_import_check.specs.Verdicts.{verdicts_of}
use Rattle.rb_import_check.proofs.verdicts.verdicts_in.Given as goal

-- what was found is what the answers so far hold, on this chain, and its file
abbrev pub invariant-loop-saved : goal.invariant-loop-saved
invariant-loop-saved l = record {
  verdicts : option_to_list (option_map (λ p. p.1.now) l.found) ≡ verdicts_of (take l.saved-index l.answers);
  chain : IfSome l.found (λ p. p.1.now.chain ≡ l.id);
  files : option_to_list (option_map (λ p. (p.1.now, p.0.now)) l.found) ≡ filed_verdicts_of (take l.saved-index l.answers);
}
