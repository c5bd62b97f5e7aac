use Rattle.std.proofs.Common.{◌==◌, ◌&&◌, ◌∙◌, Bool, ap}
use Rattle.std.specs.Str.{bytes_eq}
use Rattle.rb_plan_client.specs.Same.{same_carried, same_refresh_to, same_fees, same_limits}
use Rattle.rb_plan_client.proofs.Ids.{with_padded}
use Rattle.rb_plan_client.proofs.Refreshes.{is_equal, is_equally_carried, are_equal_ties, same_refresh, same_votes, equal_ties}
use Rattle.rb_plan_client.proofs.job.same_config.Goals as goal

pub returns : goal.returns
returns c =
    let a = c.args.config.now in
    let b = c.args.other.now in
    let options : Bool → Bool → Bool = λ votes ties.
    (a.options.period == b.options.period) && ((a.options.drift == b.options.drift)
    && (((a.options.trust.numerator == b.options.trust.numerator) && (a.options.trust.denominator == b.options.trust.denominator)) && (votes && ties))) in
    let others : Bool → Bool → Bool → Bool = λ votes ties equal.
    (a.host == b.host) && ((a.tracks == b.tracks) && (options votes ties && ((a.refresh == b.refresh)
    && (equal && (same_fees a.fees b.fees && (same_fees a.gas b.gas && same_limits a.limits b.limits)))))) in
    let votes = is_equally_carried a.options.votes b.options.votes in
    let ties = are_equal_ties a.options.ties b.options.ties in
    c.eq.ensures ∙ with_padded a.id b.id (others votes ties (is_equal a.refresh_to b.refresh_to))
    ∙ ap (λ equal. bytes_eq a.id b.id && others votes ties equal) (same_refresh a.refresh_to b.refresh_to)
    ∙ ap (λ (same : Bool). bytes_eq a.id b.id && others same ties (same_refresh_to a.refresh_to b.refresh_to)) (same_votes a.options.votes b.options.votes)
    ∙ ap (λ (same : Bool). bytes_eq a.id b.id && others (same_carried a.options.votes b.options.votes) same (same_refresh_to a.refresh_to b.refresh_to)) (equal_ties a.options.ties b.options.ties)
