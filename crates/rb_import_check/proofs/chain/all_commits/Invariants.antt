use Rattle.std.proofs.Common.{◌≡◌, All, map, take}
use Rattle.std.specs.Prelude.{option_map, option_to_list}
use Rattle.rb_import_check.specs.Chains.{IsJudgedBy, filed, filed_of, headers_of}
use Rattle.rb_import_check.specs.Refusals.{AreOfChain}
use Rattle.rb_import_check.specs.declared.chain.Commit.{Commit}
use Rattle.rb_import_check.proofs.chain.all_commits.Given as goal

-- the answers so far are a chain's, and the commits so far have the headers of the answers so far, are of their files, and have their verdicts
abbrev pub invariant-loop-saved : goal.invariant-loop-saved
invariant-loop-saved l = record {
  answers : AreOfChain (take l.saved-index l.answers);
  headers : map (λ (c : Commit). c.header.now) l.commits.items ≡ headers_of (take l.saved-index l.answers);
  files : map filed l.commits.items ≡ filed_of (take l.saved-index l.answers);
  verdicts : All (IsJudgedBy (option_to_list (option_map (λ v. v.now) l.index.verdicts))) l.commits.items;
}
