use Rattle.std.proofs.Common.{◌≡◌, rules}
use Rattle.std.proofs.lemmas.Bool.Decides.{Decides-at}
use Rattle.rb_scan.specs.Same.{same_path, same_path-Decides}
use Rattle.rb_scan.proofs.path.PathViewPartialEq.eq.Goals as goal

pub returns-then-same_packets-clause-equal : goal.returns-then-same_packets-clause-equal
returns-then-same_packets-clause-equal g c =
    let value : c.same_records.result ≡ same_path c.args.self.now c.args.other.now = search rules in
    Decides-at _ _ value (same_path-Decides c.args.self.now c.args.other.now)

pub returns-else-same_packets-clause-equal : goal.returns-else-same_packets-clause-equal
returns-else-same_packets-clause-equal g c =
    let value : c.if-same_terms.value ≡ same_path c.args.self.now c.args.other.now = search rules in
    Decides-at _ _ value (same_path-Decides c.args.self.now c.args.other.now)
