-- The canonical text of an address is read as that address.
use Rattle.std.proofs.Common.{◌≡◌, ℕ, ◌+◌, ◌≤◌, Bool, true, false, not, eqb, List, [], ◌∷◌, ◌++◌, length, drop, map, Some, None, Ok, refl, sym, ap, ◌∙◌, inl, inr, ◌*◌, ◌-◌, ltb, arith, rules}
use Rattle.std.specs.Prelude.{position}
use Rattle.std.specs.Char.{is_ascii_digit, to_ascii_lowercase}
use Rattle.std.specs.Fmt.{decimal}
use Rattle.std.specs.List.{list_all, prefix_len, fold}
use Rattle.std.proofs.lemmas.Bool.{lt-ltb, le-ltb, cases_Bool, true≢false, eqb-true, and_parts, and_from}
use Rattle.std.proofs.lemmas.Fmt.{digits_decimal, digits_value-decimal, decimal_nonempty}
use Rattle.std.proofs.lemmas.Grind.{common_steps}
use Rattle.std.proofs.lemmas.List.{take_at, drop_at, append_assoc, length_push, length-append, append-nil}
use Rattle.std.proofs.lemmas.List.Folds.{list_all-append}
use Rattle.std.proofs.lemmas.Str.Parse.{IsNumeralModel, numerals_by_fold}
use Rattle.ftn_addr.specs.Address.{Address}
use Rattle.ftn_addr.specs.Digits.{number_of}
use Rattle.ftn_addr.specs.Parts.{cut, pieces_from, pieces_of}
use Rattle.ftn_addr.specs.Domain.{is_domain}
use Rattle.ftn_addr.specs.Reading.{number_at, domain_at, reading}
use Rattle.ftn_addr.specs.Limits.{IsAddress}
use Rattle.ftn_addr.specs.Writing.{canonical, point_text}

-- no byte is the separator
abbrev pub lacks : ℕ → List ℕ → Bool
lacks separator bytes = list_all (λ byte. not (eqb byte separator)) bytes

-- where the text is cut
first_at : (separator : ℕ) (front back : List ℕ) → lacks separator front ≡ true → prefix_len (λ byte. not (eqb byte separator)) (front ++ separator ∷ back) ≡ length front
first_at separator [] back h = grind (arith, common_steps)
first_at separator (x ∷ front) back h =
    let parts = and_parts (not (eqb x separator)) (lacks separator front) h in
    let rest : prefix_len (λ byte. not (eqb byte separator)) (front ++ separator ∷ back) ≡ length front = first_at separator front back parts.1 in
    rw (parts.0, rest) (omega arith)

first_past : (separator : ℕ) (bytes : List ℕ) → lacks separator bytes ≡ true → prefix_len (λ byte. not (eqb byte separator)) bytes ≡ length bytes
first_past separator [] h = refl
first_past separator (x ∷ bytes) h =
    let parts = and_parts (not (eqb x separator)) (lacks separator bytes) h in
    rw (parts.0, first_past separator bytes parts.1) (omega arith)

found_at : (separator : ℕ) (front back : List ℕ) → lacks separator front ≡ true → position (λ byte. eqb byte separator) (front ++ separator ∷ back) ≡ Some (length front)
found_at separator front back h =
    let first : prefix_len (λ byte. not (eqb byte separator)) (front ++ separator ∷ back) ≡ length front = first_at separator front back h in
    let within : ltb (length front) (length (front ++ separator ∷ back)) ≡ true = lt-ltb _ _ (omega (arith, length-append front (separator ∷ back))) in
    rw (first, within) refl

missing : (separator : ℕ) (bytes : List ℕ) → lacks separator bytes ≡ true → position (λ byte. eqb byte separator) bytes ≡ None
missing separator bytes h =
    let past : prefix_len (λ byte. not (eqb byte separator)) bytes ≡ length bytes = first_past separator bytes h in
    let without : ltb (length bytes) (length bytes) ≡ false = le-ltb _ _ (omega arith) in
    rw (past, without) refl

drop_past : (front back : List ℕ) (x : ℕ) → drop (length front + 1) (front ++ x ∷ back) ≡ back
drop_past front back x = ap (drop (length front + 1)) (sym (append_assoc front (x ∷ []) back)) ∙ drop_at (front ++ x ∷ []) back (length front + 1) (length_push front x)

pub cut_found : (separator place : ℕ) (front back : List ℕ) → lacks separator front ≡ true → cut separator (record { place = place; bytes = front ++ separator ∷ back }) ≡ (record { place = place; bytes = front }, Some (record { place = place + length front + 1; bytes = back }))
unfolding cut
cut_found separator place front back h =
    let found = found_at separator front back h in
    let before = take_at front (separator ∷ back) (length front) refl in
    let behind = drop_past front back separator in
    rw (found, before, behind) refl

pub cut_missing : (separator place : ℕ) (bytes : List ℕ) → lacks separator bytes ≡ true → cut separator (record { place = place; bytes = bytes }) ≡ (record { place = place; bytes = bytes }, None)
unfolding cut
cut_missing separator place bytes h = rw (missing separator bytes h) refl

-- digits as the definitions of this crate have them
own : IsNumeralModel (λ ds. list_all is_ascii_digit ds ≡ true) number_of
own = numerals_by_fold _ (search rules) (λ n ds. fold (λ number digit. number * 10 + (digit - 48)) n ds) (search rules)

-- bytes of one kind have no separator of another
all_lack : (p : ℕ → Bool) (separator : ℕ) (bytes : List ℕ) → p separator ≡ false → list_all p bytes ≡ true → lacks separator bytes ≡ true
all_lack p separator [] other h = refl
all_lack p separator (x ∷ bytes) other h =
    let parts = and_parts (p x) (list_all p bytes) h in
    let head : not (eqb x separator) ≡ true = elim (cases_Bool (eqb x separator)) as (λ _. not (eqb x separator) ≡ true) [ inl e ↦ absurd (true≢false (sym parts.0 ∙ ap p (eqb-true x separator e) ∙ other)) | inr e ↦ rw e refl ] in
    and_from _ _ head (all_lack p separator bytes other parts.1)

are_digits : (n : ℕ) → n ≤ 32767 → list_all is_ascii_digit (decimal n) ≡ true
are_digits n small = digits_decimal own n (omega arith)

number_decimal : (place n : ℕ) → n ≤ 32767 → number_at (record { place = place; bytes = decimal n }) ≡ Ok n
unfolding number_at
number_decimal place n small =
    let digits = are_digits n small in
    let some = lt-ltb 0 (length (decimal n)) (decimal_nonempty n (omega arith)) in
    let value : number_of (decimal n) ≡ n = digits_value-decimal own n (omega arith) in
    let within : ltb 32767 n ≡ false = le-ltb 32767 n small in
    rw (some, digits, value, within) refl

domain_lower : (place : ℕ) (d : List ℕ) → is_domain d ≡ true → map to_ascii_lowercase d ≡ d → domain_at (record { place = place; bytes = d }) ≡ Ok d
unfolding domain_at
domain_lower place d good lower = rw (good, lower) refl

-- the parts of a text that is spelled by its parts
pub pieces_spelled : (zone net node point domain : List ℕ) → list_all is_ascii_digit zone ≡ true → list_all is_ascii_digit net ≡ true → list_all is_ascii_digit node ≡ true → lacks 64 point ≡ true → pieces_of (zone ++ 58 ∷ net ++ 47 ∷ node ++ point ++ 64 ∷ domain)
    ≡ Some (pieces_from (record { place = 0; bytes = zone }, Some (record { place = 0 + length zone + 1; bytes = net })) (cut 46 (record { place = 0 + length (zone ++ 58 ∷ net) + 1; bytes = node ++ point })) (Some (record { place = 0 + length (zone ++ 58 ∷ net ++ 47 ∷ node ++ point) + 1; bytes = domain })))
pieces_spelled zone net node point domain zone_digits net_digits node_digits point_lacks =
    let left_at : lacks 64 (zone ++ 58 ∷ net) ≡ true = rw list_all-append (and_from _ _ (all_lack is_ascii_digit 64 zone refl zone_digits) (all_lack is_ascii_digit 64 net refl net_digits)) in
    let halves_at : lacks 64 (zone ++ 58 ∷ net ++ 47 ∷ node) ≡ true = rw list_all-append (and_from _ _ left_at (all_lack is_ascii_digit 64 node refl node_digits)) in
    let front_at : lacks 64 (zone ++ 58 ∷ net ++ 47 ∷ node ++ point) ≡ true = rw list_all-append (and_from _ _ halves_at point_lacks) in
    let left_slash : lacks 47 (zone ++ 58 ∷ net) ≡ true = rw list_all-append (and_from _ _ (all_lack is_ascii_digit 47 zone refl zone_digits) (all_lack is_ascii_digit 47 net refl net_digits)) in
    let at = cut_found 64 0 (zone ++ 58 ∷ net ++ 47 ∷ node ++ point) domain front_at in
    let slash = cut_found 47 0 (zone ++ 58 ∷ net) (node ++ point) left_slash in
    let colon = cut_found 58 0 zone net (all_lack is_ascii_digit 58 zone refl zone_digits) in
    let regrouped = append_assoc (zone ++ 58 ∷ net) (47 ∷ node) point in
    rw (at, regrouped, slash, colon) refl

-- numbers and a domain in lower case, without a point
without_point : (zone net node : ℕ) (domain : List ℕ) (home : Address) → zone ≤ 32767 → net ≤ 32767 → node ≤ 32767 → is_domain domain ≡ true → map to_ascii_lowercase domain ≡ domain → reading (decimal zone ++ 58 ∷ decimal net ++ 47 ∷ decimal node ++ [] ++ 64 ∷ domain) home
    ≡ Ok (record { zone = zone; net = net; node = node; point = 0; domain = domain })
without_point zone net node domain home zone_small net_small node_small good lower =
    let node_digits = are_digits node node_small in
    let pieces = pieces_spelled (decimal zone) (decimal net) (decimal node) [] domain (are_digits zone zone_small) (are_digits net net_small) node_digits refl in
    let dot = cut_missing 46 (0 + length (decimal zone ++ 58 ∷ decimal net) + 1) (decimal node ++ []) (rw append-nil (all_lack is_ascii_digit 46 (decimal node) refl node_digits)) in
    rw (pieces, dot) (rw append-nil (rw (number_decimal 0 zone zone_small, number_decimal _ net net_small, number_decimal _ node node_small, domain_lower _ domain good lower) refl))

with_point : (zone net node point : ℕ) (domain : List ℕ) (home : Address) → zone ≤ 32767 → net ≤ 32767 → node ≤ 32767 → point ≤ 32767 → is_domain domain ≡ true → map to_ascii_lowercase domain ≡ domain → reading (decimal zone ++ 58 ∷ decimal net ++ 47 ∷ decimal node ++ 46 ∷ decimal point ++ 64 ∷ domain) home
    ≡ Ok (record { zone = zone; net = net; node = node; point = point; domain = domain })
with_point zone net node point domain home zone_small net_small node_small point_small good lower =
    let node_digits = are_digits node node_small in
    let pieces = pieces_spelled (decimal zone) (decimal net) (decimal node) (46 ∷ decimal point) domain (are_digits zone zone_small) (are_digits net net_small) node_digits (all_lack is_ascii_digit 64 (decimal point) refl (are_digits point point_small)) in
    let dot = cut_found 46 (0 + length (decimal zone ++ 58 ∷ decimal net) + 1) (decimal node) (decimal point) (all_lack is_ascii_digit 46 (decimal node) refl node_digits) in
    rw (pieces, dot) (rw (number_decimal 0 zone zone_small, number_decimal _ net net_small, number_decimal _ node node_small, number_decimal _ point point_small, domain_lower _ domain good lower) refl)

pub reading-canonical : (a home : Address) → IsAddress a → reading (canonical a) home ≡ Ok a
reading-canonical a home is =
    rw is.lower_case (elim (cases_Bool (eqb a.point 0)) as (λ _. reading (decimal a.zone ++ 58 ∷ decimal a.net ++ 47 ∷ decimal a.node ++ point_text a.point ++ 64 ∷ a.domain) home ≡ Ok a) [
      | inl none ↦ rw none (without_point a.zone a.net a.node a.domain home is.zone is.net is.node is.domain is.lower_case ∙ ap (λ (point : ℕ). Ok (record { zone = a.zone; net = a.net; node = a.node; point = point; domain = a.domain })) (sym (eqb-true a.point 0 none)))
      | inr some ↦ rw some (with_point a.zone a.net a.node a.point a.domain home is.zone is.net is.node is.point is.domain is.lower_case)
    ])
