use Rattle.std.proofs.Common.{◌≡◌, length, rules, arith}
use Rattle.rb_cert.proofs.Marks.{marked_insert}
use Rattle.rb_cert.proofs.voters.VoterMarks.insert.Goals as goal

pub returns : goal.returns
returns c m =
    let size : length c.args.self.now.words ≡ 1024 = search rules in
    marked_insert c.args.self.now.words c.args.mark m (omega (arith, size, c.requires))
