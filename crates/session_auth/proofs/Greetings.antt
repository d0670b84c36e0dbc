-- The greeting is short.
use Rattle.std.proofs.Common.{◌≡◌, ℕ, ◌+◌, ◌-◌, ◌/◌, ◌≤◌, true, false, List, [], ◌∷◌, ◌++◌, codes, get_or, zero, suc, length, take, ap, inl, inr, arith, length-append}
use Rattle.std.specs.Prelude.{◌==◌, nat_lt, if◌then◌else◌}
use Rattle.std.specs.List.{flat_map}
use Rattle.std.proofs.lemmas.Bool.{cases_Bool}
use Rattle.std.proofs.lemmas.List.{length-take}
use Rattle.std.proofs.lemmas.List.Concat.{flat_map-append}
use Rattle.ftn_addr.specs.Address.{Address}
use Rattle.binkp_args.specs.Command.{CommandText, Nul, Adr}
use Rattle.cram_md5.specs.Offer.{offer_spelling}
use Rattle.mail_conf.specs.Conf.{ConfText}
use Rattle.httpdate.specs.Calendar.{days_of_years, weekday}
use Rattle.httpdate.specs.Text.{day_name, month_name}
use Rattle.session_auth.specs.Greeting.{announced, greeting, offer_line, setting_line, time_line, version}
use Rattle.session_auth.specs.Moment.{whole_months, whole_years, date_in_year, date_of, moment_text}
use Rattle.session_auth.specs.Says.{command_bytes, said_bytes}
use Rattle.session_auth.specs.Sides.{Side, Answers, Calls}
use Rattle.session_auth.proofs.Shorts.{announced_short, offer_length}

one_short : (command : CommandText) (most : ℕ) → length (command_bytes command) ≤ most → length (said_bytes (command ∷ [])) ≤ most
one_short command most short = omega (arith, short, length-append (command_bytes command) [])

lines_short : (a b : List CommandText) (m n : ℕ) → length (said_bytes a) ≤ m → length (said_bytes b) ≤ n → length (said_bytes (a ++ b)) ≤ m + n
lines_short a b m n first second = omega (arith, first, second, ap length (flat_map-append command_bytes a b), length-append (said_bytes a) (said_bytes b))

offer_line_short : (side : Side) (challenge : List ℕ) → length challenge ≡ 16 → length (said_bytes (offer_line side challenge)) ≤ 1100
offer_line_short Answers challenge long = one_short (Nul (codes "OPT " ++ offer_spelling challenge)) 1100 (omega (arith, offer_length challenge long, length-append (codes "OPT ") (offer_spelling challenge)))
offer_line_short (Calls called) challenge long = omega arith

setting_line_short : (word text : List ℕ) → length word ≤ 4 → length (said_bytes (setting_line word text)) ≤ 1100
setting_line_short word text short =
    elim (cases_Bool (length text == 0)) as (λ _. length (said_bytes (setting_line word text)) ≤ 1100) [
      | inl e ↦ rw e (omega arith)
      | inr e ↦ rw e (one_short (Nul (word ++ take 1024 text)) 1100 (omega (arith, length-append word (take 1024 text), length-take 1024 text)))
    ]

-- each of these words has three letters at the most
abbrev AreThree : List (List ℕ) → Type 0
AreThree [] = Unit {0}
AreThree (word ∷ words) = (length word ≤ 3) × AreThree words

three_at : (words : List (List ℕ)) (i : ℕ) → AreThree words → length (get_or words i []) ≤ 3
three_at [] i are = omega arith
three_at (word ∷ words) zero are = are.0
three_at (word ∷ words) (suc i) are = three_at words i are.1

day_short : (day : ℕ) → length (day_name day) ≤ 3
day_short day = let three : 3 ≤ 3 = omega arith in three_at (codes "Mon" ∷ codes "Tue" ∷ codes "Wed" ∷ codes "Thu" ∷ codes "Fri" ∷ codes "Sat" ∷ codes "Sun" ∷ []) (day - 1) (three, (three, (three, (three, (three, (three, (three, tt)))))))

month_short : (month : ℕ) → length (month_name month) ≤ 3
month_short month = let three : 3 ≤ 3 = omega arith in three_at (codes "Jan" ∷ codes "Feb" ∷ codes "Mar" ∷ codes "Apr" ∷ codes "May" ∷ codes "Jun" ∷ codes "Jul" ∷ codes "Aug" ∷ codes "Sep" ∷ codes "Oct" ∷ codes "Nov" ∷ codes "Dec" ∷ []) (month - 1) (three, (three, (three, (three, (three, (three, (three, (three, (three, (three, (three, (three, tt))))))))))))

year_date_short : (year days : ℕ) → length (date_in_year year days) ≤ 20
unfolding date_in_year
year_date_short year days = let month = month_short (whole_months year days + 1) in simp length-append (omega arith)

date_short : (days : ℕ) → length (date_of days) ≤ 20
unfolding date_of
date_short days = year_date_short (1970 + whole_years days) (days - days_of_years (whole_years days))

moment_short : (now : ℕ) → length (moment_text now) ≤ 1000
unfolding moment_text
moment_short now =
    let day = day_short (weekday (now / 86400)) in
    let date = date_short (now / 86400) in
    simp length-append (omega arith)

time_line_short : (now : ℕ) → length (said_bytes (time_line now)) ≤ 1100
time_line_short now =
    elim (cases_Bool (nat_lt 250000000000 now)) as (λ _. length (said_bytes (time_line now)) ≤ 1100) [
      | inl e ↦ rw e (omega arith)
      | inr e ↦ rw e (one_short (Nul (codes "TIME " ++ moment_text now)) 1100 (omega (arith, moment_short now, length-append (codes "TIME ") (moment_text now))))
    ]

last_lines_short : (addresses : List Address) → length (said_bytes (version ∷ Adr (announced addresses) ∷ [])) ≤ 33100
last_lines_short addresses = omega (arith, announced_short addresses, length-append (command_bytes version) (said_bytes (Adr (announced addresses) ∷ [])), length-append (command_bytes (Adr (announced addresses))) [])

pub greeting_short : (side : Side) (conf : ConfText) (challenge : List ℕ) (now : ℕ) → length challenge ≡ 16 → length (said_bytes (greeting side conf challenge now)) ≤ 40000
greeting_short side conf challenge now long =
    let sys = lines_short (offer_line side challenge) (setting_line (codes "SYS ") conf.sysname) 1100 1100 (offer_line_short side challenge long) (setting_line_short (codes "SYS ") conf.sysname (omega arith)) in
    let zyz = lines_short _ (setting_line (codes "ZYZ ") conf.sysop) _ 1100 sys (setting_line_short (codes "ZYZ ") conf.sysop (omega arith)) in
    let loc = lines_short _ (setting_line (codes "LOC ") conf.location) _ 1100 zyz (setting_line_short (codes "LOC ") conf.location (omega arith)) in
    let ndl = lines_short _ (setting_line (codes "NDL ") conf.nodeinfo) _ 1100 loc (setting_line_short (codes "NDL ") conf.nodeinfo (omega arith)) in
    let time = lines_short _ (time_line now) _ 1100 ndl (time_line_short now) in
    let all = lines_short _ (version ∷ Adr (announced conf.addresses) ∷ []) _ 33100 time (last_lines_short conf.addresses) in
    omega arith
