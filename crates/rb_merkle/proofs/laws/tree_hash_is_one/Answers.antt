use Rattle.rb_merkle.proofs.One.{one_tree_hash}
use Rattle.rb_merkle.proofs.laws.tree_hash_is_one.Goals as goal

pub returns : goal.returns
returns c = one_tree_hash
