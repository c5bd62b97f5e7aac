use Rattle.std.proofs.Common.{◌≡◌, map, take}
use Rattle.rb_merkle.specs.TreeHash.{leaf_hash}
use Rattle.rb_valset.specs.Validator.{leaf_of}
use Rattle.rb_valset.proofs.hash.leaf_hashes.Given as goal

abbrev pub invariant-loop-member : goal.invariant-loop-member
invariant-loop-member g l = l.hashes.items ≡ map leaf_hash (map leaf_of (take l.member-index l.members))
