-- Whether packets were sent to several destinations, and whether they came from other sources, as tests.
use Rattle.std.proofs.Common.{◌≡◌, ◌≢◌, ◌&&◌, Bool, true, false, List, Option, Some, None, refl, sym, ap, ◌∙◌}
use Rattle.std.specs.Prelude.{MatchOption, is_some, not, string_bytes}
use Rattle.std.specs.List.{list_any}
use Rattle.std.specs.Str.{bytes_eq}
use Rattle.std.proofs.lemmas.Bool.{and_parts, false_from_ne_true, true≢false}
use Rattle.std.proofs.lemmas.List.Folds.{Any-from_list_any, list_any-from_Any}
use Rattle.std.proofs.lemmas.Slice.Eq.{bytes_eq-Decides}
use Rattle.rb_import_answers.specs.declared.packets.PacketEvent.{PacketEvent}
use Rattle.rb_import_setup.specs.declared.setup.PathSetup.{PathSetup}
use Rattle.rb_import_merge.specs.declared.counterparties.Counterparties.{Counterparties}
use Rattle.rb_import_merge.specs.Counterparties.{AreCounterparties, HasSeveral}
use Rattle.rb_import_merge.specs.Packets.{is_sending}
use Rattle.rb_import_notices.specs.Counterparties.{has_several, is_sent_elsewhere}

both : (a b : Bool) → a ≡ true → b ≡ true → (a && b) ≡ true
both a b x y = rw (x, y) refl

no_one : {A : Type 0} (o : Option A) → not (is_some o) ≡ true → o ≡ None
no_one None e = refl
no_one (Some x) e = absurd (true≢false (sym e))

not_false : (b : Bool) → not b ≡ true → b ≢ true
not_false true e h = true≢false (sym e)
not_false false e h = true≢false (sym h)

goes : PathSetup → List PacketEvent → PacketEvent → Bool
goes path events one = is_sending path one && list_any (is_sent_elsewhere path one) events

from_test : (path : PathSetup) (events : List PacketEvent) → has_several path events ≡ true → HasSeveral path events
unfolding goes
from_test path events e =
    let parts = and_parts (not (is_some path.counterparty)) (list_any (goes path events) events) e in
    let one = Any-from_list_any (goes path events) events parts.1 in
    let first = and_parts (is_sending path one.1) (list_any (is_sent_elsewhere path one.1) events) one.4 in
    let other = Any-from_list_any (is_sent_elsewhere path one.1) events first.1 in
    let second = and_parts (is_sending path other.1) (not (bytes_eq (string_bytes one.1.dest) (string_bytes other.1.dest))) other.4 in
    let apart : string_bytes one.1.dest ≢ string_bytes other.1.dest = λ same. not_false _ second.1 ((bytes_eq-Decides (string_bytes one.1.dest) (string_bytes other.1.dest)).1 same) in (
      no_one path.counterparty parts.0,
      (
        string_bytes one.1.dest,
        string_bytes other.1.dest,
        apart,
        (one.0, one.1, one.2, one.3, (first.0, refl)),
        (other.0, other.1, other.2, other.3, (second.0, refl)),
      ),
    )

to_test : (path : PathSetup) (events : List PacketEvent) → HasSeveral path events → has_several path events ≡ true
unfolding goes
to_test path events (open_end, (dest, away, apart, (i, one, small, is, (sending, to)), (j, other, low, its, (sent, elsewhere)))) =
    let differ : bytes_eq (string_bytes one.dest) (string_bytes other.dest) ≡ false = false_from_ne_true _ (λ e. apart (sym to ∙ (bytes_eq-Decides (string_bytes one.dest) (string_bytes other.dest)).0 e ∙ elsewhere)) in
    let second : is_sent_elsewhere path one other ≡ true = both _ _ sent (ap not differ) in
    let first : goes path events one ≡ true = both _ _ sending (list_any-from_Any (is_sent_elsewhere path one) events (j, other, low, its, second)) in
    both _ _ (ap (λ o. not (is_some o)) open_end) (list_any-from_Any (goes path events) events (i, one, small, is, first))

pub several-is : (path : PathSetup) (events : List PacketEvent) (o : Option Counterparties) → MatchOption o (¬ HasSeveral path events) (λ c. HasSeveral path events × AreCounterparties path events c)
    → is_some o ≡ has_several path events
several-is path events None none = sym (false_from_ne_true _ (λ e. none (from_test path events e)))
several-is path events (Some c) (several, are) = sym (to_test path events several)
