-- Moments as texts: RFC 3339, in UTC, with as many digits of a second as are needed.
use Rattle.std.specs.Prelude.{◌≡◌, ℕ, ◌+◌, ◌-◌, ◌*◌, ◌/◌, ◌%◌, ◌≤◌, nat_le, nat_lt, List, ◌++◌, codes, if◌then◌else◌, None, Ok, pos}
use Rattle.std.specs.Fmt.{decimal}
use Rattle.jiff.specs.Words.{parse_timestamp}
use Rattle.jiff_fmt.specs.Text.{pad2, pad4, fraction_part}
use Rattle.rb_base.specs.Amount.{IsMoment}

-- ---- the date of a day in the Gregorian calendar (ISO 8601). Years are counted from March to February, so that a leap day is the last day of its year,
-- and days from the first of March of the year 0, which is 719,468 days before 1970-01-01. Four centuries have 146,097 days, and four years 1,461.

abbrev pub century : ℕ → ℕ
century days = (4 * days + 3) / 146097

-- four times the days since the century began, and three
abbrev pub in_century : ℕ → ℕ
in_century days = (4 * days + 3) % 146097 / 4 * 4 + 3

abbrev pub march_year : ℕ → ℕ
march_year days = 100 * century days + in_century days / 1461

abbrev pub day_of_year : ℕ → ℕ
day_of_year days = in_century days % 1461 / 4

-- months are counted from March, which is 3, to February, which is 14: five of them have 153 days
abbrev pub month_scale : ℕ → ℕ
month_scale days = 5 * day_of_year days + 461

pub record Date : Type 0 where
  pub year : ℕ
  pub month : ℕ
  pub day : ℕ

abbrev pub date_by : ℕ → ℕ → ℕ → Date
date_by year month day =
    if nat_lt 12 month then record { year = year + 1; month = month - 12; day = day } else record { year = year; month = month; day = day }

abbrev pub date_from_march : ℕ → Date
date_from_march days = date_by (march_year days) (month_scale days / 153) (month_scale days % 153 / 5 + 1)

-- the date of a day, counted from 1970-01-01 on
abbrev pub date_of : ℕ → Date
date_of days = date_from_march (days + 719468)

-- ---- texts

abbrev pub date_text : Date → List ℕ
date_text date = pad4 date.year ++ codes "-" ++ pad2 date.month ++ codes "-" ++ pad2 date.day

-- the time of a day, by its seconds
abbrev pub clock_text : ℕ → List ℕ
clock_text seconds = pad2 (seconds / 3600) ++ codes ":" ++ pad2 (seconds % 3600 / 60) ++ codes ":" ++ pad2 (seconds % 60)

-- the moment so many nanoseconds after 1970-01-01T00:00:00Z
unfoldable pub moment_text : ℕ → List ℕ
moment_text n =
    let seconds = n / 1000000000 in
    date_text (date_of (seconds / 86400)) ++ codes "T" ++ clock_text (seconds % 86400) ++ fraction_part None (n % 1000000000) ++ codes "Z"

-- RFC 3339 writes years by four digits: the last second that is in the year 9999 by each offset from UTC, of which the least is -25:59:59
-- (9999-12-30T22:00:00.999999999Z)
abbrev pub last_moment : ℕ
last_moment = 253402207200999999999

abbrev pub IsShown : ℕ → Type 0
IsShown n = n ≤ last_moment

-- the moment so many nanoseconds after 1970-01-01T00:00:00Z, or the nanoseconds alone where that is later
abbrev pub instant_text : ℕ → List ℕ
instant_text n = if nat_le n last_moment then moment_text n else decimal n ++ codes " ns"

-- a moment's text is read as that moment
abbrev pub MomentsAreRead : Type 0
MomentsAreRead = (n : ℕ) → IsMoment n → parse_timestamp (moment_text n) ≡ Ok (pos n)
