-- The moment as the greeting has it: a date in UTC as RFC 2822 writes it.
use Rattle.std.specs.Prelude.{ℕ, zero, suc, ◌+◌, ◌-◌, ◌/◌, ◌%◌, nat_le, List, ◌++◌, codes, if◌then◌else◌}
use Rattle.httpdate.specs.Calendar.{days_of_years, days_of_months, weekday}
use Rattle.httpdate.specs.Text.{day_name, month_name, two_digits, four_digits}

-- how many of the spans that end at these days, the first n of them, lie whole behind that many days
unfoldable pub whole : (ℕ → ℕ) → ℕ → ℕ → ℕ
whole ends days zero = 0
whole ends days (suc n) = whole ends days n + (if nat_le (ends (suc n)) days then 1 else 0)

-- the years from 1970 up to 9999 that lie behind that many days
abbrev pub whole_years : ℕ → ℕ
whole_years days = whole days_of_years days 8030

-- the months of a year that lie behind that many days of it
abbrev pub whole_months : ℕ → ℕ → ℕ
whole_months year days = whole (days_of_months year) days 12

-- `09 Sep 2001`, of a year and the days of it that have passed
unfoldable pub date_in_year : ℕ → ℕ → List ℕ
date_in_year year days =
    two_digits (days - days_of_months year (whole_months year days) + 1) ++ codes " " ++ month_name (whole_months year days + 1) ++ codes " " ++ four_digits year

-- `09 Sep 2001`, of the days since 1970
unfoldable pub date_of : ℕ → List ℕ
date_of days = date_in_year (1970 + whole_years days) (days - days_of_years (whole_years days))

-- `01:46:40`, of the seconds of a day
abbrev pub clock_of : ℕ → List ℕ
clock_of seconds = two_digits (seconds / 3600) ++ codes ":" ++ two_digits (seconds % 3600 / 60) ++ codes ":" ++ two_digits (seconds % 60)

-- `Sun, 09 Sep 2001 01:46:40 +0000`, of the seconds since 1970
unfoldable pub moment_text : ℕ → List ℕ
moment_text now = day_name (weekday (now / 86400)) ++ codes ", " ++ date_of (now / 86400) ++ codes " " ++ clock_of (now % 86400) ++ codes " +0000"
