use Rattle.std.proofs.Common.{not, refl}
use Rattle.std.specs.List.{filter}
use Rattle.std.proofs.lemmas.List.Sorted.{IsPermutation-filter_both}
use Rattle.rb_votes.proofs.laws.filter_is_part.Goals as goal

pub returns : goal.returns
returns c = λ test voters.
    (filter (λ v. not (test v)) voters, IsPermutation-filter_both test (λ v. not (test v)) (λ v. refl) voters)
