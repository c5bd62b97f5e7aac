use Rattle.std.proofs.Common.{◌≤◌, ◌∙◌, sym, ap, arith, length}
use Rattle.std.specs.List.{sum_by}
use Rattle.std.specs.Option.{option_copied}
use Rattle.std.proofs.lemmas.List.Sorted.{IsPermutation-refl}
use Rattle.rb_votes.specs.Votes.{fewest_by, sent_votes}
use Rattle.rb_votes.proofs.Fewest.{alone_own}
use Rattle.rb_step.specs.Carried.{voters_of}
use Rattle.rb_step.proofs.carried.needed_count.Goals as goal

pub returns-then-lacking-eq0 : goal.returns-then-lacking-eq0
returns-then-lacking-eq0 g c =
    let voters = voters_of (option_copied c.args.next) c.args.header.now c.args.own.now in
    let needed = c.needed_of-needed.result in
    let decides : needed.trusted ≤ sum_by (λ v. v.trusted) (fewest_by (λ v. v.own) needed.own voters) =
    omega (arith, c.first_votes-count.ensures.lacking, c.if-lacking-eq0.true) in
    c.first_votes-count.ensures.count ∙ sym (alone_own needed voters decides) ∙ ap (λ n. length (sent_votes n voters)) c.needed_of-needed.ensures

pub returns : goal.returns
returns g c =
    let list = c.put_voters.new.voters.list in
    c.sent_count.ensures.count list c.put_voters.ensures.places (IsPermutation-refl list)
    ∙ ap (λ vs. length (sent_votes c.needed_of-needed.result vs)) c.put_voters.ensures.voters
    ∙ ap (λ n. length (sent_votes n (voters_of (option_copied c.args.next) c.args.header.now c.args.own.now))) c.needed_of-needed.ensures
