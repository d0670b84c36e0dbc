-- The date of a moment is the one of its text.
use Rattle.std.proofs.Common.{◌≡◌, ℕ, zero, suc, ◌+◌, ◌-◌, ◌*◌, ◌/◌, ◌%◌, ◌<◌, ◌≤◌, min, leb, List, [], ◌++◌, length, take, codes, refl, sym, ap, ◌∙◌, inl, inr, arith, append_assoc}
use Rattle.std.proofs.lemmas.Bool.{cases_Bool, cases_lt, leb-true, leb-false}
use Rattle.std.proofs.lemmas.List.{length-append, length-take}
use Rattle.std.proofs.Math.Seq.{take-append_seam}
use Rattle.httpdate.specs.Calendar.{days_of_years, days_of_months, days_from_civil, IsCivilDate}
use Rattle.httpdate.specs.Date.{unix_secs, date_text}
use Rattle.httpdate.specs.Text.{time_of_day, day_name, month_name, two_digits, four_digits}
use Rattle.httpdate.specs.declared.date.HttpDate.{HttpDate}
use Rattle.httpdate.proofs.CalendarLemmas.{days_from_civil_year, days_from_civil_month}
use Rattle.session_auth.specs.Moment.{whole, whole_years, whole_months, date_in_year, date_of, moment_text}

counted_early : (ends : ℕ → ℕ) (days t n : ℕ) → ((k : ℕ) → t ≤ k → days < ends (suc k)) → ends (suc n) ≤ days → n < t
counted_early ends days t n behind past = elim (cases_lt n t) [ inl early ↦ early | inr late ↦ absurd (omega (arith, behind n late)) ]

passed_late : (ends : ℕ → ℕ) (days t n : ℕ) → ((k : ℕ) → k < t → ends (suc k) ≤ days) → days < ends (suc n) → t ≤ n
passed_late ends days t n before ahead = elim (cases_lt n t) [ inl early ↦ absurd (omega (arith, before n early)) | inr late ↦ late ]

-- the spans that end behind the days don't count, those that end before do
whole_is : (ends : ℕ → ℕ) (days t n : ℕ) → ((k : ℕ) → k < t → ends (suc k) ≤ days) → ((k : ℕ) → t ≤ k → days < ends (suc k)) → whole ends days n ≡ min t n
unfolding whole
whole_is ends days t zero before behind = omega arith
whole_is ends days t (suc n) before behind =
    let so_far = whole_is ends days t n before behind in
    elim (cases_Bool (leb (ends (suc n)) days)) as (λ _. whole ends days (suc n) ≡ min t (suc n)) [
      | inl e ↦ rw e (let in_past = leb-true _ _ e in let early = counted_early ends days t n behind in_past in omega arith)
      | inr e ↦ rw e (let ahead = leb-false _ _ e in let late = passed_late ends days t n before ahead in omega arith)
    ]

years_rise : (n k : ℕ) → days_of_years n ≤ days_of_years (n + k)
unfolding days_of_years
years_rise n zero = let same : n + 0 ≡ n = omega arith in rw same (omega arith)
years_rise n (suc k) = let before = years_rise n k in let next : n + suc k ≡ suc (n + k) = omega arith in rw next (omega arith)

months_rise : (y n k : ℕ) → days_of_months y n ≤ days_of_months y (n + k)
unfolding days_of_months
months_rise y n zero = let same : n + 0 ≡ n = omega arith in rw same (omega arith)
months_rise y n (suc k) = let before = months_rise y n k in let next : n + suc k ≡ suc (n + k) = omega arith in rw next (omega arith)

year_before : (y m d k : ℕ) → k < y - 1970 → days_of_years (suc k) ≤ days_from_civil y m d
year_before y m d k h =
    let up = years_rise (suc k) (y - 1970 - suc k) in
    let same : suc k + (y - 1970 - suc k) ≡ y - 1970 = omega arith in
    omega (arith, rw same at up)

year_behind : (y m d k : ℕ) → IsCivilDate y m d → y - 1970 ≤ k → days_from_civil y m d < days_of_years (suc k)
unfolding days_of_months
year_behind y m d k is h =
    let up = days_from_civil_year y m d (1970 + suc k) 1 1 is (omega arith) in
    let same : 1970 + suc k - 1970 ≡ suc k = omega arith in
    omega (arith, rw same at up)

years_are : (y m d : ℕ) → IsCivilDate y m d → whole_years (days_from_civil y m d) ≡ y - 1970
years_are y m d is = omega (arith, whole_is days_of_years (days_from_civil y m d) (y - 1970) 8030 (year_before y m d) (λ k h. year_behind y m d k is h))

month_before : (y m d k : ℕ) → k < m - 1 → days_of_months y (suc k) ≤ days_of_months y (m - 1) + (d - 1)
month_before y m d k h =
    let up = months_rise y (suc k) (m - 1 - suc k) in
    let same : suc k + (m - 1 - suc k) ≡ m - 1 = omega arith in
    omega (arith, rw same at up)

month_behind : (y m d k : ℕ) → IsCivilDate y m d → m - 1 ≤ k → days_of_months y (m - 1) + (d - 1) < days_of_months y (suc k)
month_behind y m d k is h =
    let up = days_from_civil_month y m d (suc (suc k)) 1 is (omega arith) in
    let same : suc (suc k) - 1 ≡ suc k = omega arith in
    omega (arith, rw same at up)

months_are : (y m d : ℕ) → IsCivilDate y m d → whole_months y (days_of_months y (m - 1) + (d - 1)) ≡ m - 1
months_are y m d is = omega (arith, whole_is (days_of_months y) (days_of_months y (m - 1) + (d - 1)) (m - 1) 12 (month_before y m d) (λ k h. month_behind y m d k is h), is.1)

day_in_year : (y m d : ℕ) → IsCivilDate y m d → date_in_year y (days_of_months y (m - 1) + (d - 1)) ≡ two_digits d ++ codes " " ++ month_name m ++ codes " " ++ four_digits y
unfolding date_in_year
day_in_year y m d is =
    let months = months_are y m d is in
    let day : days_of_months y (m - 1) + (d - 1) - days_of_months y (m - 1) + 1 ≡ d = omega (arith, is.2) in
    let month : m - 1 + 1 ≡ m = omega (arith, is.1) in
    rw (months, day, month) refl

date_is : (y m d : ℕ) → IsCivilDate y m d → date_of (days_from_civil y m d) ≡ two_digits d ++ codes " " ++ month_name m ++ codes " " ++ four_digits y
unfolding date_of
date_is y m d is =
    let years = years_are y m d is in
    let year : 1970 + (y - 1970) ≡ y = omega (arith, is.0) in
    let rest : days_from_civil y m d - days_of_years (y - 1970) ≡ days_of_months y (m - 1) + (d - 1) = omega arith in
    rw (years, year, rest) (day_in_year y m d is)

record Clock (days hour minute second now : ℕ) : Type 0 where
  day : now / 86400 ≡ days
  left : now % 86400 ≡ hour * 3600 + minute * 60 + second
  hours : (hour * 3600 + minute * 60 + second) / 3600 ≡ hour
  minutes : (hour * 3600 + minute * 60 + second) % 3600 / 60 ≡ minute
  seconds : (hour * 3600 + minute * 60 + second) % 60 ≡ second

clock_is : (days hour minute second now : ℕ) → hour < 24 → minute < 60 → second < 60 → days * 86400 + hour * 3600 + minute * 60 + second ≡ now → Clock days hour minute second now
clock_is days hour minute second now h m s e = record { day = omega arith; left = omega arith; hours = omega arith; minutes = omega arith; seconds = omega arith }

-- the text of a date before its zone
abbrev unzoned : HttpDate → List ℕ
unzoned d =
    day_name d.parts.wday ++ codes ", " ++ (two_digits d.parts.day ++ codes " " ++ month_name d.parts.mon ++ codes " " ++ four_digits d.parts.year) ++ codes " " ++ time_of_day d.parts

zoned : (d : HttpDate) → date_text d ≡ unzoned d ++ codes " GMT"
zoned d = simp append_assoc

moment_is : (d : HttpDate) (now : ℕ) → unix_secs d ≡ now → moment_text now ≡ unzoned d ++ codes " +0000"
unfolding moment_text
moment_is d now e =
    let p = d.parts in
    let at : Clock (days_from_civil p.year p.mon p.day) p.hour p.min p.sec now = clock_is _ p.hour p.min p.sec now d.time.0 d.time.1 d.time.2 e in
    let weekday_is = sym d.right_day in
    let date = date_is p.year p.mon p.day d.civil in
    rw (at.day, at.left, at.hours, at.minutes, at.seconds, weekday_is, date) (simp append_assoc)

pub front_is : (d : HttpDate) (now : ℕ) → unix_secs d ≡ now → length (date_text d) ≡ 29 → take 25 (date_text d) ++ codes " +0000" ≡ moment_text now
front_is d now e long =
    let all = zoned d in
    let front : 25 ≡ length (unzoned d) = omega (arith, length-append (unzoned d) (codes " GMT"), ap length all) in
    let cut : take 25 (date_text d) ≡ unzoned d = rw (all, front) (take-append_seam (unzoned d) (codes " GMT")) in
    rw cut (sym (moment_is d now e))

-- what was written of a date is the moment's text
pub written_is : (d : HttpDate) (now : ℕ) (bytes front empty first all : List ℕ) → unix_secs d ≡ now → length (date_text d) ≡ 29 → bytes ≡ date_text d → front ≡ take 25 bytes → empty ≡ [] → first ≡ empty ++ front → all ≡ first ++ codes " +0000" → (all ≡ moment_text now) × (length all ≤ 32)
written_is d now bytes front empty first all e long is cut none begun ended =
    let most : first ≡ take 25 (date_text d) = begun ∙ (ap (λ (x : List ℕ). x ++ front) none ∙ (cut ∙ ap (take 25) is)) in
    let whole_text : all ≡ moment_text now = ended ∙ (ap (λ (x : List ℕ). x ++ codes " +0000") most ∙ front_is d now e long) in
    (whole_text, omega (arith, ap length ended, ap length most, length-append first (codes " +0000"), length-take 25 (date_text d)))
