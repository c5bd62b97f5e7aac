use Rattle.std.proofs.Common.{◌≡◌, ◌<◌, ℕ, List, ◌++◌, length, ap, sym, ◌∙◌, arith, lit<}
use Rattle.std.proofs.lemmas.Bool.Decides.{nat_tests}
use Rattle.std.proofs.lemmas.Str.Pattern.{strip_prefix_char}
use Rattle.rb_want_requests.proofs.HostNames.{alone, apart, no_dot, under}
use Rattle.rb_want_requests.proofs.lines.own_id.Goals as goal

pub returns-in_default : goal.returns-in_default
returns-in_default c = apart c.args.host.now c.args.id.now c.in_default.ensures.cases

pub returns-in-Some-strip_prefix : goal.returns-in-Some-strip_prefix
returns-in-Some-strip_prefix c =
    let begun = c.in-Some.ensures.cases in
    let whole : c.args.id.now ≡ c.args.host.now ++ c.in-Some.rest.now = begun.1.1 ∙ ap (λ (xs : List ℕ). c.args.host.now ++ xs) (sym begun.2) in
    let dot = strip_prefix_char 46 c.in-Some.rest.now c.strip_prefix-2.result c.strip_prefix-2.ensures.cases (lit< tt) in
    let more : 0 < length c.in-Some-strip_prefix.own.now = grind (arith, nat_tests, c.is_empty.ensures, c.if-not-is_empty.true) in
    under c.args.host.now c.args.id.now c.in-Some.rest.now c.in-Some-strip_prefix.own.now whole (rw c.in-Some-strip_prefix.is at dot) more

pub returns-in_default-strip_prefix : goal.returns-in_default-strip_prefix
returns-in_default-strip_prefix c =
    let begun = c.in-Some.ensures.cases in
    let whole : c.args.id.now ≡ c.args.host.now ++ c.in-Some.rest.now = begun.1.1 ∙ ap (λ (xs : List ℕ). c.args.host.now ++ xs) (sym begun.2) in
    let dot = strip_prefix_char 46 c.in-Some.rest.now c.strip_prefix-2.result c.strip_prefix-2.ensures.cases (lit< tt) in
    let none : length c.in-Some-strip_prefix.own.now ≡ 0 = grind (arith, nat_tests, c.is_empty.ensures, c.if-not-is_empty.false) in
    alone c.args.host.now c.args.id.now c.in-Some.rest.now c.in-Some-strip_prefix.own.now whole (rw c.in-Some-strip_prefix.is at dot) none

pub returns-in_default-strip_prefix-2 : goal.returns-in_default-strip_prefix-2
returns-in_default-strip_prefix-2 c =
    let begun = c.in-Some.ensures.cases in
    let whole : c.args.id.now ≡ c.args.host.now ++ c.in-Some.rest.now = begun.1.1 ∙ ap (λ (xs : List ℕ). c.args.host.now ++ xs) (sym begun.2) in
    let dot = strip_prefix_char 46 c.in-Some.rest.now c.strip_prefix-2.result c.strip_prefix-2.ensures.cases (lit< tt) in
    no_dot c.args.host.now c.args.id.now c.in-Some.rest.now whole (rw c.in_default-strip_prefix.is at dot)
