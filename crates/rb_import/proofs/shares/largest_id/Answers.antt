use Rattle.std.proofs.Common.{◌≡◌, ◌∙◌, ap, map}
use Rattle.rb_import.specs.Shares.{shares_of, shown}
use Rattle.rb_import.proofs.Sizing.{largest_is, named_by, no_largest}
use Rattle.rb_import.proofs.shares.largest_id.Goals as goal

pub returns-in-Some-clause-largest : goal.returns-in-Some-clause-largest
returns-in-Some-clause-largest c =
    let are : map shown c.as_slice.result.now ≡ shares_of c.args.setup.now c.args.seen.now = ap (map shown) c.as_slice.ensures.value ∙ c.in_ok-shares.ensures in
    largest_is c.args.setup.now c.args.seen.now c.as_slice.result.now c.in-Some.share.now are c.in-Some.ensures.there c.in-Some.ensures.most

pub returns-in-Some-clause-named : goal.returns-in-Some-clause-named
returns-in-Some-clause-named c =
    let are : map shown c.as_slice.result.now ≡ shares_of c.args.setup.now c.args.seen.now = ap (map shown) c.as_slice.ensures.value ∙ c.in_ok-shares.ensures in
    named_by c.args.setup.now c.args.seen.now c.as_slice.result.now c.in-Some.share.now are c.in-Some.ensures.there

pub returns-clause-largest : goal.returns-clause-largest
returns-clause-largest c =
    let are : map shown c.as_slice.result.now ≡ shares_of c.args.setup.now c.args.seen.now = ap (map shown) c.as_slice.ensures.value ∙ c.in_ok-shares.ensures in
    no_largest c.args.setup.now c.args.seen.now c.as_slice.result.now are c.in-None.ensures.none
