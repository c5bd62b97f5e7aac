use Rattle.std.proofs.Common.{◌≡◌, ◌∙◌, ◌<◌, ap, arith, length, get_or, rules, None, Some, slice_get}
use Rattle.std.proofs.lemmas.Bool.{iff_false}
use Rattle.std.proofs.lemmas.Option.{slice_get-get_or}
use Rattle.rb_base.specs.Options.{ClientOptions}
use Rattle.rb_book.specs.Book.{Book}
use Rattle.rb_plan_types.specs.Labelling.{label_of}
use Rattle.rb_step.specs.Carried.{least_votes}
use Rattle.rb_step.specs.LightClient.{IsOrderly}
use Rattle.rb_step.specs.View.{client_of}
use Rattle.rb_cert.specs.declared.trusted.Trusted.{Trusted}
use Rattle.rb_cert.specs.Refused.{AreRefused}
use Rattle.rb_cert.specs.Trusted.{IsLookedUp}
use Rattle.rb_cert.specs.Voters.{AreVoterMarks}
use Rattle.rb_cert.proofs.LookedUp.{too_high, leads_lower}
use Rattle.rb_cert.proofs.Rising.{element_of, past_end, before_more}
use Rattle.rb_cert.proofs.Walks.{IsLowFrom, low_of_not_too_high, low_of_not_lower, steps_into_first, steps_into_low}
use Rattle.rb_cert.proofs.labels.check_steps_from.Goals as goal
use Rattle.rb_cert.proofs.labels.check_steps_from.Goals.{else-lt-via-then-lt+else-is_too_high, else-lt-via-else-lt}

abbrev nothing : Trusted
nothing = record { cost = None; next = None }

pub is_too_high-requires-clause-trusted : goal.is_too_high-requires-clause-trusted
is_too_high-requires-clause-trusted g c =
    let v = c.args.view.now in
    let i = c.loop-place.place in
    let same : c.records-known-items.result.now ≡ v.book.records = c.records-known-items.ensures.value ∙ ap (λ (b : Book). b.records) c.book.ensures.value in
    let at : slice_get v.book.records i ≡ Some c.known-item.result = element_of _ _ _ _ same c.loop-place-test.true c.known-item.is in
    let size : length c.args.trusted.now ≡ 4096 = search rules in
    let within : i < length c.args.trusted.now = omega (arith, size, ap length same, c.loop-place-test.true, c.book.ensures.view.book.few_records, c.book.ensures.view.book.limit.1) in
    (label_of c.args.labelling.now, c.requires.trusted i c.known-item.result (get_or c.args.trusted.now i nothing) at (slice_get-get_or c.args.trusted.now i nothing within))

pub is_too_high-requires-clause-least : goal.is_too_high-requires-clause-least
is_too_high-requires-clause-least g c =
    c.least_votes-least.ensures.value ∙ ap (λ (o : ClientOptions). least_votes o c.args.header.now c.args.own.now) c.options.ensures

pub returns-then-is_too_high-clause-err : goal.returns-then-is_too_high-clause-err
returns-then-is_too_high-clause-err g c =
    let v = c.args.view.now in
    let label = label_of c.args.labelling.now in
    let i = c.loop-place.place in
    let k = c.known-item.result in
    let h = c.args.header.now.height in
    let same : c.records-known-items.result.now ≡ v.book.records = c.records-known-items.ensures.value ∙ ap (λ (b : Book). b.records) c.book.ensures.value in
    let at : slice_get v.book.records i ≡ Some k = element_of _ _ _ _ same c.loop-place-test.true c.known-item.is in
    let size : length c.args.trusted.now ≡ 4096 = search rules in
    let within : i < length c.args.trusted.now = omega (arith, size, ap length same, c.loop-place-test.true, c.book.ensures.view.book.few_records, c.book.ensures.view.book.limit.1) in
    let looked : IsLookedUp v label k (get_or c.args.trusted.now i nothing) = c.requires.trusted i k (get_or c.args.trusted.now i nothing) at (slice_get-get_or c.args.trusted.now i nothing within) in
    let own_label : c.get-label.result ≡ label h = rw c.height-height.ensures at c.get-label.ensures.label in
    let high = c.is_too_high.ensures.value.0 c.if-is_too_high.true in
    rw (c.height-trusted.ensures, c.height-height.ensures)
    (steps_into_first v c.book.ensures.view label h i k at
    (too_high v label (c.views_are_orderly.ensures v c.book.ensures.view) k (get_or c.args.trusted.now i nothing) looked h c.get-label.result own_label high.0 high.1) c.loop-place.invariant.low)

pub loop-place-preserved : goal.loop-place-preserved
loop-place-preserved g c =
    let v = c.args.view.now in
    let label = label_of c.args.labelling.now in
    let i = c.loop-place.place in
    let k = c.known-item.result in
    let h = c.args.header.now.height in
    let same : c.records-known-items.result.now ≡ v.book.records = c.records-known-items.ensures.value ∙ ap (λ (b : Book). b.records) c.book.ensures.value in
    let at : slice_get v.book.records i ≡ Some k = element_of _ _ _ _ same c.loop-place-test.true c.known-item.is in
    let size : length c.args.trusted.now ≡ 4096 = search rules in
    let within : i < length c.args.trusted.now = omega (arith, size, ap length same, c.loop-place-test.true, c.book.ensures.view.book.few_records, c.book.ensures.view.book.limit.1) in
    let looked : IsLookedUp v label k (get_or c.args.trusted.now i nothing) = c.requires.trusted i k (get_or c.args.trusted.now i nothing) at (slice_get-get_or c.args.trusted.now i nothing within) in
    let own_label : c.get-label.result ≡ label h = rw c.height-height.ensures at c.get-label.ensures.label in
    let orderly : IsOrderly (client_of v) = c.views_are_orderly.ensures v c.book.ensures.view in
    let low : IsLowFrom v label h k = elim c.else-lt.branch [
      | else-lt-via-then-lt+else-is_too_high w ↦ low_of_not_too_high (client_of v) label k.height h (λ high.
          iff_false w.is_too_high.ensures.value w.if-is_too_high.false (leads_lower v label orderly k (get_or c.args.trusted.now i nothing) looked h c.get-label.result own_label high))
      | else-lt-via-else-lt w ↦ low_of_not_lower v c.book.ensures.view label orderly h k.height (search rules)
    ] in
    let refused : AreRefused c.else-lt.refused.places.words v h = elim c.else-lt.branch [
      | else-lt-via-then-lt+else-is_too_high w ↦ rw w.refused-is w.is_too_high.ensures.refused
      | else-lt-via-else-lt w ↦ rw w.refused-is c.loop-place.invariant.refused
    ] in
    let voters : AreVoterMarks c.else-lt.refused.voters.words c.args.own.now c.args.header.now = elim c.else-lt.branch [
      | else-lt-via-then-lt+else-is_too_high w ↦ rw (w.refused-is, w.is_too_high.ensures.voters) c.loop-place.invariant.voters
      | else-lt-via-else-lt w ↦ rw w.refused-is c.loop-place.invariant.voters
    ] in record {
      low = before_more (IsLowFrom v label h) v.book.records i k at low c.loop-place.invariant.low;
      refused = refused;
      voters = voters;
    }

pub returns-clause-ok : goal.returns-clause-ok
returns-clause-ok g c =
    let v = c.args.view.now in
    let same : c.records-known-items.result.now ≡ v.book.records = c.records-known-items.ensures.value ∙ ap (λ (b : Book). b.records) c.book.ensures.value in
    steps_into_low v c.book.ensures.view (label_of c.args.labelling.now) c.args.header.now.height c.loop-place.place (past_end _ _ _ same c.loop-place-test.false) c.loop-place.invariant.low
