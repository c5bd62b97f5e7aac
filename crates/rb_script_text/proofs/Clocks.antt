-- What a clock in UTC shows at a moment, and its text.
use Rattle.std.proofs.Common.{◌≡◌, ℕ, ◌+◌, ◌*◌, ◌/◌, ◌%◌, ◌<◌, ◌≤◌, ◌++◌, refl, sym, ◌∙◌, append_assoc, arith, pos, nat_le, true}
use Rattle.std.proofs.lemmas.Bool.Decides.{nat_tests}
use Rattle.std.specs.Prelude.{codes}
use Rattle.jiff_core.specs.declared.civil.date.Date.{Date}
use Rattle.jiff_core.specs.declared.civil.time.Time.{Time}
use Rattle.jiff_core.specs.declared.civil.datetime.DateTime.{DateTime}
use Rattle.jiff_core.specs.declared.timestamp.Timestamp.{Timestamp}
use Rattle.jiff_core.specs.Date.{epoch_day}
use Rattle.jiff_core.specs.Time.{time_nanos}
use Rattle.jiff_core.specs.Timestamp.{IsTimestampNanos}
use Rattle.jiff_core.proofs.SignedLemmas.{signed_arith}
use Rattle.jiff.specs.Words.{civil_nanos, iso_datetime_text}
use Rattle.jiff.proofs.Family.{civil_nanos-parts, same_datetime, parse_timestamp-text}
use Rattle.rb_base.specs.Amount.{IsMoment}
use Rattle.rb_script_text.specs.Moments.{date_of, instant_text, last_moment, moment_text, IsShown, MomentsAreRead}
use Rattle.rb_script_text.proofs.Gregorian.{date_of-civil, date_of-day}

abbrev date_at : (days : ℕ) → days ≤ 2932896 → Date
date_at days few =
    let civil = date_of-civil days few in
    record {
      year = pos (date_of days).year;
      month = (date_of days).month;
      day = (date_of days).day;
      year_in = civil.0;
      month_in = civil.1;
      day_in = civil.2;
    }

abbrev time_at : (seconds nanoseconds : ℕ) → seconds < 86400 → nanoseconds < 1000000000 → Time
time_at seconds nanoseconds in_day in_second = record {
  hour = seconds / 3600;
  minute = seconds % 3600 / 60;
  second = seconds % 60;
  subsec_nanosecond = nanoseconds;
  hour_in = omega arith;
  minute_in = omega arith;
  second_in = omega arith;
  subsec_in = in_second;
}

abbrev clock_at : (n : ℕ) → IsShown n → DateTime
clock_at n small = record {
  date = date_at (n / 1000000000 / 86400) (omega arith);
  time = time_at (n / 1000000000 % 86400) (n % 1000000000) (omega arith) (omega arith);
}

clock_at-nanos : (n : ℕ) (small : IsShown n) → civil_nanos (clock_at n small) ≡ pos n
clock_at-nanos n small =
    let clock = clock_at n small in
    let day : epoch_day clock.date ≡ pos (n / 1000000000 / 86400) = date_of-day (n / 1000000000 / 86400) (omega arith) in
    let time : time_nanos clock.time ≡ n / 1000000000 % 86400 * 1000000000 + n % 1000000000 = omega arith in
    omega (arith, signed_arith, civil_nanos-parts clock)

clock_at-text : (n : ℕ) (small : IsShown n) → iso_datetime_text (clock_at n small) ++ codes "Z" ≡ moment_text n
unfolding moment_text
clock_at-text n small = simp append_assoc refl

pub moment-shown : (n : ℕ) → IsMoment n → IsShown n
moment-shown n small = omega arith

-- what a clock shows has the moment's text
pub clock_text-is : (clock : DateTime) (n : ℕ) → IsShown n → civil_nanos clock ≡ pos n → iso_datetime_text clock ++ codes "Z" ≡ moment_text n
clock_text-is clock n small e =
    let same = same_datetime clock (clock_at n small) (e ∙ sym (clock_at-nanos n small)) in
    rw same (clock_at-text n small)

-- and that of the moment or of its nanoseconds
pub instant_text-is : (clock : DateTime) (n : ℕ) → IsShown n → civil_nanos clock ≡ pos n → iso_datetime_text clock ++ codes "Z" ≡ instant_text n
instant_text-is clock n shown e =
    let within : nat_le n last_moment ≡ true = grind (arith, nat_tests) in
    rw within (clock_text-is clock n shown e)

pub moments_are_read : MomentsAreRead
moments_are_read n small =
    let in_range : IsTimestampNanos (pos n) = (omega (arith, signed_arith), omega (arith, signed_arith)) in
    let instant : Timestamp = record { nanosecond = pos n; in_range = in_range } in
    let shown = moment-shown n small in
    rw (← clock_at-text n shown) (parse_timestamp-text (clock_at n shown) instant (clock_at-nanos n shown))
