-- Years and months are passed one by one, as the calendar counts days.
use Rattle.std.specs.Prelude.{◌≡◌, ◌<◌, ◌≤◌, ◌+◌, ◌-◌, ℕ, zero, suc, nat_lt, true, false, pos}
use Rattle.std.specs.Prelude.{◌<ℤ◌, ◌+ℤ◌, neg_ℤ, ◌≤ℤ◌}
use Rattle.std.proofs.Common.{arith, subst, ◌∙◌}
use Rattle.std.proofs.lemmas.Bool.Decides.{nat_tests}
use Rattle.jiff_core.proofs.SignedLemmas.{signed_arith}
use Rattle.jiff_core.proofs.CalendarLemmas.{day_count-day, day_count-day_of_year}
use Rattle.jiff_core.proofs.CalendarLemmas.{day_count-later_year, day_count-lt_month}
use Rattle.jiff_core.proofs.CalendarLemmas.{day_count-next_month, day_count-next_year}
use Rattle.jiff_core.proofs.CalendarLemmas.{day_of_year_bound, days_in_month_bounds}
use Rattle.jiff_core.specs.Calendar.{IsCivilDate, day_count, day_of_year, days_in_month}
use Rattle.jiff_core.specs.Calendar.{days_in_year}
use Rattle.console_lines.specs.Dates.{in_month, in_year}

year_here : (years first day : ℕ) → day < days_in_year (pos first)
    → in_year (suc years) first day ≡ (first, day)
unfolding in_year
year_here years first day less =
    let test : nat_lt day (days_in_year (pos first)) ≡ true = grind (arith, nat_tests, less) in
    rw test

year_later : (years first day : ℕ) → days_in_year (pos first) ≤ day
    → in_year (suc years) first day
    ≡ in_year years (suc first) (day - days_in_year (pos first))
unfolding in_year
year_later years first day past =
    let test : nat_lt day (days_in_year (pos first)) ≡ false = grind (arith, nat_tests, past) in
    rw test

-- A date this many days after the first day of a year is found in its own year.
pub year_found : (k years first day y m d : ℕ) → k < years → y ≡ k + first
    → IsCivilDate (pos y) m d
    → day_count (pos y) m d ≡ day_count (pos first) 1 1 + day
    → in_year years first day ≡ (y, day_of_year (pos y) m d - 1)
year_found k zero first day y m d few e h c = absurd (omega (arith, few))
year_found zero (suc years) first day y m d few e h c =
    let same : first ≡ y = omega (arith, e) in
    let there = subst (λ x. day_count (pos y) m d ≡ day_count (pos x) 1 1 + day) same c in
    let place : day ≡ day_of_year (pos y) m d - 1 =
    omega (arith, there, day_count-day_of_year (pos y) m d h.2.0) in
    let less : day_of_year (pos y) m d - 1 < days_in_year (pos y) =
    omega (arith, h.2.0, day_of_year_bound (pos y) m d h) in
    rw (same, place) (year_here years y (day_of_year (pos y) m d - 1) less)
year_found (suc k) (suc years) first day y m d few e h c =
    let less : pos first <ℤ pos y = omega (arith, signed_arith, e) in
    let low : neg_ℤ (pos 10000) ≤ℤ pos first = omega (arith, signed_arith) in
    let next : pos (suc first) ≡ pos first +ℤ pos 1 = omega (arith, signed_arith) in
    let one = day_count-next_year (pos first) (pos (suc first)) low next in
    let past : days_in_year (pos first) ≤ day =
    omega (
      arith,
      c,
      day_count-later_year (pos first) (pos y) low less,
      day_count-day_of_year (pos y) m d h.2.0,
      h.2.0,
    ) in
    let left = day - days_in_year (pos first) in
    let there : day_count (pos y) m d ≡ day_count (pos (suc first)) 1 1 + left =
    omega (arith, c, one, past) in
    year_later years first day past
    ∙ year_found k years (suc first) left y m d (omega (arith, few)) (omega (arith, e)) h there

month_here : (months y first day : ℕ) → day < days_in_month (pos y) first
    → in_month (suc months) y first day ≡ (first, day)
unfolding in_month
month_here months y first day less =
    let test : nat_lt day (days_in_month (pos y) first) ≡ true =
    grind (arith, nat_tests, less) in
    rw test

month_later : (months y first day : ℕ) → days_in_month (pos y) first ≤ day
    → in_month (suc months) y first day
    ≡ in_month months y (suc first) (day - days_in_month (pos y) first)
unfolding in_month
month_later months y first day past =
    let test : nat_lt day (days_in_month (pos y) first) ≡ false =
    grind (arith, nat_tests, past) in
    rw test

-- In the same way it is found in its own month.
pub month_found : (k months first day y m d : ℕ) → k < months → m ≡ k + first → 1 ≤ first
    → IsCivilDate (pos y) m d
    → day_count (pos y) m d ≡ day_count (pos y) first 1 + day
    → in_month months y first day ≡ (m, d - 1)
month_found k zero first day y m d few e low h c = absurd (omega (arith, few))
month_found zero (suc months) first day y m d few e low h c =
    let same : first ≡ m = omega (arith, e) in
    let there = subst (λ x. day_count (pos y) m d ≡ day_count (pos y) x 1 + day) same c in
    let place : day ≡ d - 1 =
    omega (arith, there, day_count-day (pos y) m d 1 h.2.0 (omega arith)) in
    let less : d - 1 < days_in_month (pos y) m = omega (arith, h.2.0, h.2.1) in
    rw (same, place) (month_here months y m (d - 1) less)
month_found (suc k) (suc months) first day y m d few e low h c =
    let long = days_in_month (pos y) first in
    let most : 1 ≤ long = omega (arith, (days_in_month_bounds (pos y) first).1) in
    let its : IsCivilDate (pos y) first long =
    (h.0, (low, omega (arith, e, h.1.1)), (most, omega arith)) in
    let less = day_count-lt_month (pos y) first long m d its h.2.0 (omega (arith, e)) in
    let last = day_count-day (pos y) first long 1 most (omega arith) in
    let past : long ≤ day = omega (arith, c, less, last) in
    let one : day_count (pos y) (suc first) 1 ≡ day_count (pos y) first 1 + long =
    let next : suc first ≡ first + 1 = omega arith in
    rw next (day_count-next_month (pos y) first low) in
    let there : day_count (pos y) m d ≡ day_count (pos y) (suc first) 1 + (day - long) =
    omega (arith, c, one, past) in
    month_later months y first day past
    ∙ month_found k months (suc first) (day - long) y m d (omega (arith, few)) (omega (arith, e))
    (omega arith) h there
