-- The text that jiff prints for an instant is the text of its moment.
use Rattle.std.specs.Prelude.{◌≡◌, ◌<◌, ◌≤◌, ◌+◌, ◌-◌, ◌*◌, ◌/◌, ◌%◌, ℕ, ℤ, pos, negsuc, false}
use Rattle.std.specs.Prelude.{◌*ℤ◌, ◌≤ℤ◌, ◌++◌, List, [], None, codes, length}
use Rattle.std.proofs.Common.{arith, ap, append_assoc, refl, sym, ◌∙◌, ◌∷◌}
use Rattle.std.proofs.lemmas.Int.{by_lt_z}
use Rattle.jiff_core.proofs.SignedLemmas.{signed_arith}
use Rattle.jiff_core.proofs.CalendarLemmas.{day_count-day_of_year, day_count-epoch}
use Rattle.jiff_core.proofs.CalendarLemmas.{day_count-lt_year, days_from_civil-day_count}
use Rattle.jiff_core.specs.Calendar.{IsCivilDate, day_count, day_of_year}
use Rattle.jiff_core.specs.DateTime.{civil_nanos}
use Rattle.jiff_core.specs.declared.timestamp.Timestamp.{Timestamp}
use Rattle.jiff_fmt.specs.Printer.{IsTimestampText, options}
use Rattle.jiff_fmt.specs.Text.{date_text as shown_date, pad2, time_text as shown_time, year_text}
use Rattle.jiff_fmt.specs.Text.{zulu_text}
use Rattle.jiff_fmt.specs.declared.temporal.printer.DateTimePrinter.{DateTimePrinter}
use Rattle.console_lines.proofs.DateLemmas.{month_found, year_found}
use Rattle.console_lines.specs.Dates.{date_text, in_year, moment_text, time_text}

-- A day since 1970 is of no year before it.
since_1970 : (y : ℤ) (m d day : ℕ) → IsCivilDate y m d → day_count y m d ≡ 4_371_953 + day
    → pos 1970 ≤ℤ y
since_1970 y m d day h c = by_lt_z y (pos 1970)
    (λ less. absurd (omega (
      arith,
      c,
      day_count-epoch,
      day_count-lt_year y m d (pos 1970) 1 1 h (omega arith) less,
    )))
    (λ past. past)

-- A date has the text of its day, counted from 1970 on.
date_is : (y : ℤ) (m d day : ℕ) → IsCivilDate y m d → day_count y m d ≡ 4_371_953 + day
    → date_text (in_year 9999 1970 day)
    ≡ year_text y ++ 45 ∷ [] ++ pad2 m ++ 45 ∷ [] ++ pad2 d
date_is (negsuc n) m d day h c =
    absurd (omega (arith, signed_arith, since_1970 (negsuc n) m d day h c))
date_is (pos y) m d day h c =
    let low : 1970 ≤ y = omega (arith, signed_arith, since_1970 (pos y) m d day h c) in
    let few : y - 1970 < 9999 = omega (arith, signed_arith, h.0.1) in
    let sum : y ≡ (y - 1970) + 1970 = omega (arith, low) in
    let year = year_found (y - 1970) 9999 1970 day y m d few sum h
    (omega (arith, c, day_count-epoch)) in
    let place = day_of_year (pos y) m d - 1 in
    let there : day_count (pos y) m d ≡ day_count (pos y) 1 1 + place =
    omega (arith, h.2.0, day_count-day_of_year (pos y) m d h.2.0) in
    let month = month_found (m - 1) 12 1 place y m d (omega (arith, h.1.0, h.1.1))
    (omega (arith, h.1.0)) (omega arith) h there in
    let back : d - 1 + 1 ≡ d = omega (arith, h.2.0) in
    rw (year, month, back)

-- A clock that shows these hours, minutes and seconds.
time_is : (h m s : ℕ) → h < 24 → m < 60 → s < 60
    → time_text (h * 3600 + m * 60 + s)
    ≡ codes "T" ++ (pad2 h ++ (codes ":" ++ (pad2 m ++ (codes ":" ++ (pad2 s ++ codes "Z")))))
time_is h m s hours minutes seconds =
    let a : (h * 3600 + m * 60 + s) / 3600 ≡ h = omega (arith, minutes, seconds) in
    let b : (h * 3600 + m * 60 + s) / 60 % 60 ≡ m = omega (arith, minutes, seconds) in
    let c : (h * 3600 + m * 60 + s) % 60 ≡ s = omega (arith, seconds) in
    rw (a, b, c)

-- An instant in whole seconds is printed as the text of its moment.
pub printed_is : (p : DateTimePrinter) (t : Timestamp) (moment : ℕ) (text : List ℕ)
    → options p ≡ (false, 84, None) → t.nanosecond ≡ pos moment *ℤ pos 1_000_000_000
    → IsTimestampText p t text → text ≡ moment_text moment
unfolding civil_nanos moment_text
printed_is p t moment text o e is =
    let dt = is.0 in
    let date = dt.date in
    let time = dt.time in
    let lower : p.lowercase ≡ false = ap (λ x. x.0) o in
    let separator : p.separator ≡ 84 = ap (λ x. x.1) o in
    let precision : p.precision ≡ None = ap (λ x. x.2) o in
    let seconds = time.hour * 3600 + time.minute * 60 + time.second in
    let count = days_from_civil-day_count date.year date.month date.day in
    let whole : time.subsec_nanosecond ≡ 0 =
    omega (
      arith,
      signed_arith,
      is.1,
      e,
      count,
      time.hour_in,
      time.minute_in,
      time.second_in,
      time.subsec_in,
    ) in
    let day : day_count date.year date.month date.day ≡ 4_371_953 + moment / 86_400 =
    omega (
      arith,
      signed_arith,
      is.1,
      e,
      count,
      time.hour_in,
      time.minute_in,
      time.second_in,
      time.subsec_in,
    ) in
    let left : moment % 86_400 ≡ seconds =
    omega (
      arith,
      signed_arith,
      is.1,
      e,
      count,
      time.hour_in,
      time.minute_in,
      time.second_in,
      time.subsec_in,
    ) in
    let civil : IsCivilDate date.year date.month date.day =
    (date.year_in, date.month_in, date.day_in) in
    let tail = 84 ∷ shown_time None time in
    let shape : text ≡ shown_date date ++ (tail ++ zulu_text false) =
    rw (is.2, lower, separator, precision)
    (append_assoc (shown_date date) tail (zulu_text false)) in
    let clock : tail ++ zulu_text false ≡ time_text (moment % 86_400) =
    rw (whole, left) (sym (
    time_is time.hour time.minute time.second time.hour_in time.minute_in time.second_in)) in
    shape
    ∙ ap (λ x. shown_date date ++ x) clock
    ∙ ap (λ x. x ++ time_text (moment % 86_400))
    (sym (date_is date.year date.month date.day (moment / 86_400) civil day))

pub moment_long : (moment : ℕ) → length (moment_text moment) ≡ 20
unfolding moment_text
moment_long moment = refl
