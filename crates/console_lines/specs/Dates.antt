-- A moment as a date and time.
use Rattle.std.specs.Prelude.{ℕ, zero, suc, ◌+◌, ◌-◌, ◌/◌, ◌%◌, nat_lt, if◌then◌else◌, pos}
use Rattle.std.specs.Prelude.{List, ◌++◌, codes}
use Rattle.jiff_core.specs.Calendar.{days_in_month, days_in_year}
use Rattle.jiff_fmt.specs.Text.{pad2, pad4}

-- The year, and the place of the day in its year, for a day that is counted from the first day of
-- `year` on, beginning with 0. At most this many years are passed.
unfoldable pub in_year : ℕ → (year day : ℕ) → ℕ × ℕ
in_year zero year day = (year, day)
in_year (suc years) year day =
    if nat_lt day (days_in_year (pos year))
    then (year, day)
    else in_year years (suc year) (day - days_in_year (pos year))

-- In the same way the month, and the place of the day in its month.
unfoldable pub in_month : ℕ → (year month day : ℕ) → ℕ × ℕ
in_month zero year month day = (month, day)
in_month (suc months) year month day =
    if nat_lt day (days_in_month (pos year) month)
    then (month, day)
    else in_month months year (suc month) (day - days_in_month (pos year) month)

-- A month and a day of it, counted from 1, as in `-02-29`.
abbrev pub day_text : ℕ × ℕ → List ℕ
day_text day = codes "-" ++ (pad2 day.0 ++ (codes "-" ++ pad2 (day.1 + 1)))

-- The date of a day, given by its year and its place in the year, as in `2024-02-29`.
abbrev pub date_text : ℕ × ℕ → List ℕ
date_text day = pad4 day.0 ++ day_text (in_month 12 day.0 1 day.1)

-- Seconds since midnight as a time in UTC, as in `T02:00:00Z`.
abbrev pub time_text : ℕ → List ℕ
time_text seconds =
    codes "T" ++ (pad2 (seconds / 3600) ++ (codes ":" ++ (pad2 (seconds / 60 % 60)
    ++ (codes ":" ++ (pad2 (seconds % 60) ++ codes "Z")))))

-- A moment as its date and time in UTC, as in `2024-02-29T02:00:00Z`.
unfoldable pub moment_text : ℕ → List ℕ
moment_text moment =
    date_text (in_year 9999 1970 (moment / 86_400)) ++ time_text (moment % 86_400)
