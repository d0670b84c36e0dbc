-- A canonical text is read in one way, whatever the home.
use Rattle.std.proofs.Common.{◌≡◌, ℕ, ◌+◌, ◌*◌, ◌-◌, ◌<◌, ◌^◌, true, not, eqb, List, [], ◌∷◌, map, Option, Result, Ok, Err, refl, sym, ap, ◌∙◌, inl, inr, arith, rules}
use Rattle.std.specs.Prelude.{IfOk}
use Rattle.std.specs.Char.{is_ascii_digit, to_ascii_lowercase}
use Rattle.std.specs.Fmt.{decimal}
use Rattle.std.specs.List.{list_all, fold}
use Rattle.std.proofs.lemmas.Bool.{cases_Bool, true≢false, eqb-true, and_parts, and_from}
use Rattle.std.proofs.lemmas.Fmt.{digits_decimal}
use Rattle.std.proofs.lemmas.Str.Parse.{IsNumeralModel, numerals_by_fold}
use Rattle.ftn_addr.proofs.AddressText.{lacks, pieces_spelled}
use Rattle.ftn_addr.proofs.ReadLimits.{reading-limits}
use Rattle.ftn_addr.specs.Address.{Address, address}
use Rattle.ftn_addr.specs.Digits.{number_of}
use Rattle.ftn_addr.specs.Limits.{IsAddress}
use Rattle.ftn_addr.specs.Parts.{Pieces}
use Rattle.ftn_addr.specs.Reading.{reading, reading_of}
use Rattle.ftn_addr.specs.Writing.{canonical, point_text}
use Rattle.ftn_addr.specs.declared.addr.Addr.{Addr}
use Rattle.ledger_rec.specs.Limits.{HasShortNumbers}
use Rattle.ledger_rec.specs.declared.fault.RecFault.{RecFault}

-- digits as the definitions have them
own : IsNumeralModel (λ ds. list_all is_ascii_digit ds ≡ true) number_of
own = numerals_by_fold _ (search rules) (λ n ds. fold (λ number digit. number * 10 + (digit - 48)) n ds) (search rules)

are_digits : (n : ℕ) → n < 2 ^ 16 → list_all is_ascii_digit (decimal n) ≡ true
are_digits n small = digits_decimal own n (omega arith)

-- digits have no `@`
digits_lack : (bytes : List ℕ) → list_all is_ascii_digit bytes ≡ true → lacks 64 bytes ≡ true
digits_lack [] h = refl
digits_lack (x ∷ bytes) h =
    let parts = and_parts (is_ascii_digit x) (list_all is_ascii_digit bytes) h in
    let head : not (eqb x 64) ≡ true = elim (cases_Bool (eqb x 64)) as (λ _. not (eqb x 64) ≡ true) [ inl e ↦ absurd (true≢false (sym parts.0 ∙ ap is_ascii_digit (eqb-true x 64 e))) | inr e ↦ rw e refl ] in
    and_from _ _ head (digits_lack bytes parts.1)

point_lacks : (point : ℕ) → point < 2 ^ 16 → lacks 64 (point_text point) ≡ true
point_lacks point small =
    elim (cases_Bool (eqb point 0)) as (λ _. lacks 64 (point_text point) ≡ true) [
      | inl none ↦ rw none refl
      | inr some ↦ rw some (digits_lack (decimal point) (are_digits point small))
    ]

-- some address within the limits
some_home : Address
some_home = record { zone = 0; net = 0; node = 0; point = 0; domain = 97 ∷ [] }

some_home_is : IsAddress some_home
unfolding some_home
some_home_is = record { zone = omega arith; net = omega arith; node = omega arith; point = omega arith; domain = refl; lower_case = refl }

whatever_home : (a home other : Address) → HasShortNumbers a → reading (canonical a) home ≡ reading (canonical a) other
whatever_home a home other short =
    let pieces = pieces_spelled (decimal a.zone) (decimal a.net) (decimal a.node) (point_text a.point) (map to_ascii_lowercase a.domain) (are_digits a.zone short.zone) (are_digits a.net short.net) (are_digits a.node short.node) (point_lacks a.point short.point) in
    ap (λ (o : Option Pieces). reading_of o home) pieces ∙ sym (ap (λ (o : Option Pieces). reading_of o other) pieces)

canonical_limits : (text : List ℕ) (home a : Address) → HasShortNumbers a → text ≡ canonical a → reading text home ≡ Ok a → IsAddress a
canonical_limits text home a short is read =
    reading-limits (canonical a) some_home a some_home_is (whatever_home a some_home home short ∙ ap (λ (t : List ℕ). reading t home) (sym is) ∙ read)

pub limits_of : (text : List ℕ) (home : Address) (told : Addr) (result : Result Addr RecFault) → reading text home ≡ Ok (address told) → IfOk result (λ a. a ≡ told) → IfOk result (λ a. text ≡ canonical (address a)) → IfOk result (λ a. HasShortNumbers (address a)) → IfOk result (λ a. IsAddress (address a))
limits_of text home told (Ok a) read same is short = canonical_limits text home (address a) short is (read ∙ ap (λ (b : Addr). Ok (address b)) (sym same))
limits_of text home told (Err fault) read same is short = tt
