-- The dates of days: the Gregorian calendar, as the library that reads moments has it.
use Rattle.std.proofs.Common.{◌≡◌, ℕ, suc, ◌+◌, ◌-◌, ◌/◌, ◌%◌, ◌<◌, ◌≤◌, inl, inr, true, false, nat_lt, ap, arith, pos}
use Rattle.std.proofs.lemmas.Bool.{cases_lt}
use Rattle.std.proofs.lemmas.Bool.Decides.{nat_tests}
use Rattle.jiff_core.specs.Calendar.{IsCivilDate, day_count, days_from_civil}
use Rattle.jiff_core.specs.March.{march_days}
use Rattle.jiff_core.proofs.CalendarLemmas.{days_from_civil-day_count}
use Rattle.jiff_core.proofs.MarchLemmas.{leap_day, march_days-suc, day_count-late, day_count-early, month_and_day, day_in_month, day_in_early_month}
use Rattle.jiff_core.proofs.SignedLemmas.{signed_arith}
use Rattle.rb_script_text.specs.Moments.{Date, march_year, day_of_year, month_scale, date_by, date_from_march, date_of}

-- the year that begins in March, and how many of its days are over
march_year-days : (days : ℕ) → march_days (march_year days) + day_of_year days ≡ days
march_year-days days = omega arith

march_year-within : (days : ℕ) → days < march_days (march_year days + 1)
march_year-within days = omega arith

day_of_year-bound : (days : ℕ) → day_of_year days < 366
day_of_year-bound days = omega arith

march_year-bound : (days : ℕ) → days ≤ 3652364 → march_year days ≤ 9999
march_year-bound days few = omega arith

-- the last of these days is the last of December
march_year-early : (days : ℕ) → days ≤ 3652364 → 12 < month_scale days / 153 → march_year days ≤ 9998
march_year-early days few early = omega arith

march_days-shift : (year : ℕ) → march_days (year + 10000) ≡ march_days year + 3652425
march_days-shift year = omega arith

-- the calendar has the date, and it is so many days after the first of March of the year 0
record IsDateOf (days : ℕ) (date : Date) : Type 0 where
  civil : IsCivilDate (pos date.year) date.month date.day
  count : day_count (pos date.year) date.month date.day ≡ days + 3652485

-- the day is one of a leap year's, where it is the last of 366
within_year : (days : ℕ) → day_of_year days < 365 + leap_day (pos (march_year days + 1))
within_year days =
    let same = ap (λ (n : ℕ). leap_day (pos n)) (let e : march_year days + 1 ≡ suc (march_year days) = omega arith in e) in
    let next = ap (λ (n : ℕ). march_days n) (let e : march_year days + 1 ≡ suc (march_year days) = omega arith in e) in
    omega (arith, same, next, march_year-days days, march_year-within days, march_days-suc (march_year days))

-- from March on
date-late : (days : ℕ) → days ≤ 3652364 → month_scale days / 153 ≤ 12
    → IsDateOf days (record { year = march_year days; month = month_scale days / 153; day = month_scale days % 153 / 5 + 1 })
date-late days few late =
    let year = march_year days in
    let month = month_scale days / 153 in
    let day = month_scale days % 153 / 5 + 1 in
    let short = day_of_year-bound days in
    let low : 3 ≤ month = omega arith in
    let count = day_count-late (pos year) (year + 10000) month day (omega (arith, signed_arith)) low late (omega arith) in
    record {
      civil = (omega (arith, signed_arith, march_year-bound days few), (omega arith, late), (omega arith, day_in_month (pos year) (day_of_year days) late));
      count = omega (arith, march_days-shift year, march_year-days days, month_and_day (day_of_year days) short);
    }

-- before March
date-early : (days : ℕ) → days ≤ 3652364 → 12 < month_scale days / 153
    → IsDateOf days (record { year = march_year days + 1; month = month_scale days / 153 - 12; day = month_scale days % 153 / 5 + 1 })
date-early days few early =
    let year = march_year days in
    let month = month_scale days / 153 in
    let day = month_scale days % 153 / 5 + 1 in
    let short = day_of_year-bound days in
    let high : month ≤ 14 = omega arith in
    let back : month - 12 + 12 ≡ month = omega arith in
    let count = day_count-early (pos (year + 1)) (year + 10000) (month - 12) day (omega (arith, signed_arith)) (omega arith) (omega arith) (omega arith) in
    record {
      civil = (
        omega (arith, signed_arith, march_year-early days few early),
        (omega arith, omega arith),
        (omega arith, day_in_early_month (pos (year + 1)) (day_of_year days) early (within_year days)),
      );
      count = omega (arith, rw back at count, march_days-shift year, march_year-days days, month_and_day (day_of_year days) short);
    }

date_by-late : (year month day : ℕ) → month ≤ 12 → date_by year month day ≡ record { year = year; month = month; day = day }
date_by-late year month day h = let t : nat_lt 12 month ≡ false = grind (arith, nat_tests) in rw t

date_by-early : (year month day : ℕ) → 12 < month → date_by year month day ≡ record { year = year + 1; month = month - 12; day = day }
date_by-early year month day h = let t : nat_lt 12 month ≡ true = grind (arith, nat_tests) in rw t

date_from_march-is : (days : ℕ) → days ≤ 3652364 → IsDateOf days (date_from_march days)
date_from_march-is days few =
    elim (cases_lt 12 (month_scale days / 153)) [
      | inl early ↦ rw (date_by-early (march_year days) (month_scale days / 153) (month_scale days % 153 / 5 + 1) early) (date-early days few early)
      | inr late ↦ rw (date_by-late (march_year days) (month_scale days / 153) (month_scale days % 153 / 5 + 1) late) (date-late days few late)
    ]

-- the date of a day that a moment lies in
pub date_of-civil : (days : ℕ) → days ≤ 2932896 → IsCivilDate (pos (date_of days).year) (date_of days).month (date_of days).day
date_of-civil days few = (date_from_march-is (days + 719468) (omega arith)).civil

pub date_of-day : (days : ℕ) → days ≤ 2932896 → days_from_civil (pos (date_of days).year) (date_of days).month (date_of days).day ≡ pos days
date_of-day days few =
    let is = date_from_march-is (days + 719468) (omega arith) in
    let date = date_of days in
    omega (arith, signed_arith, is.count, days_from_civil-day_count (pos date.year) date.month date.day)
