-- The names of own files are names.
use Rattle.std.proofs.Common.{◌≡◌, ◌≤◌, inl, inr, ℕ, zero, suc, ◌<◌, ◌+◌, ◌/◌, ◌%◌, ◌^◌, List, [], ◌∷◌, ◌++◌, length, Bool, true, false, refl, ◌∙◌, ap, arith, get_or}
use Rattle.std.specs.Prelude.{nat_lt, nat_le, codes, ◌&&◌, if◌then◌else◌}
use Rattle.std.specs.List.{list_all}
use Rattle.std.proofs.lemmas.Bool.{cases_lt}
use Rattle.std.proofs.lemmas.Bool.Decides.{nat_tests}
use Rattle.disk_model.specs.Name.{is_name, is_name_byte}
use Rattle.node_model.proofs.Lists.{and_both}
use Rattle.node_store.specs.Names.{hex_digit, hex_of, eight_digits, four_digits, in_name, out_name, flow_ending, netmail_ending, take_ending, mark_ending, place_digits, HasPlace, take_name, mark_name}
use Rattle.node_model.specs.declared.words.Flavour.{Flavour}
use Rattle.node_model.specs.declared.words.Flavour.TheVariants.{Immediate, Crash, Direct, Normal, Hold}
use Rattle.node_store.specs.declared.names.MarkKind.{MarkKind}
use Rattle.node_store.specs.declared.names.MarkKind.TheVariants.{Busy, Call}
use Rattle.node_store.specs.declared.names.TakeKind.{TakeKind}
use Rattle.node_store.specs.declared.names.TakeKind.TheVariants.{Flow, Netmail, Request}
use Rattle.ftn_addr.specs.Address.{Address}
use Rattle.node_store.proofs.HexDigits.{all-append, shorter}

digit_byte : (d : ℕ) → d < 16 → is_name_byte (hex_digit d) ≡ true
digit_byte d lt = elim (cases_lt d 10) [
  | inl low ↦ let e : nat_lt d 10 ≡ true = grind (arith, nat_tests) in ap (λ (b : Bool). is_name_byte (if b then 48 + d else 87 + d)) e ∙ digit d low
  | inr high ↦ let e : nat_lt d 10 ≡ false = grind (arith, nat_tests) in ap (λ (b : Bool). is_name_byte (if b then 48 + d else 87 + d)) e ∙ letter d high lt
]
  where
    digit : (d : ℕ) → d < 10 → is_name_byte (48 + d) ≡ true
    digit d low =
        let a : nat_le 48 (48 + d) ≡ true = grind (arith, nat_tests) in
        let b : nat_le (48 + d) 57 ≡ true = grind (arith, nat_tests) in
        let c : nat_le 97 (48 + d) ≡ false = grind (arith, nat_tests) in
        rw (a, b, c) refl

    letter : (d : ℕ) → 10 ≤ d → d < 16 → is_name_byte (87 + d) ≡ true
    letter d high lt =
        let a : nat_le 97 (87 + d) ≡ true = grind (arith, nat_tests) in
        let b : nat_le (87 + d) 122 ≡ true = grind (arith, nat_tests) in
        rw (a, b) refl

-- all these bytes may stand in a name
abbrev pub AreNamed : List ℕ → Type 0
AreNamed bytes = list_all is_name_byte bytes ≡ true

pub named-append : (xs ys : List ℕ) → AreNamed xs → AreNamed ys → AreNamed (xs ++ ys)
named-append xs ys a b = all-append is_name_byte xs ys a b

pub named-hex : (k n : ℕ) → n < 16 ^ suc k → AreNamed (hex_of k n)
named-hex zero n lt = and_both (is_name_byte (hex_digit n)) true (digit_byte n lt) refl
named-hex (suc k) n lt =
    named-append (hex_of k (n / 16)) (hex_digit (n % 16) ∷ []) (named-hex k (n / 16) (shorter k n lt)) (and_both (is_name_byte (hex_digit (n % 16))) true (digit_byte (n % 16) (omega arith)) refl)

pub is_in_name : (n : ℕ) → n < 2 ^ 32 → is_name (in_name n) ≡ true
unfolding in_name eight_digits
is_in_name n lt = named-hex 7 n lt

pub is_out_name : (n : ℕ) → n < 2 ^ 32 → is_name (out_name n) ≡ true
unfolding out_name eight_digits
is_out_name n lt = named-hex 7 n lt

named_four : (n : ℕ) → n < 2 ^ 16 → AreNamed (four_digits n)
unfolding four_digits
named_four n lt = named-hex 3 n lt

named_place : (a : Address) → HasPlace a → AreNamed (place_digits a)
unfolding place_digits
named_place a h =
    named-append (four_digits a.zone ++ four_digits a.net ++ four_digits a.node) (four_digits a.point)
    (named-append (four_digits a.zone ++ four_digits a.net) (four_digits a.node)
    (named-append (four_digits a.zone) (four_digits a.net) (named_four a.zone h.zone) (named_four a.net h.net)) (named_four a.node h.node)) (named_four a.point h.point)

-- endings have four bytes, and may stand in a name
record IsEnding (e : List ℕ) : Type 0 where
  four : length e ≡ 4
  named : AreNamed e

flow_is : (f : Flavour) → IsEnding (flow_ending f)
flow_is Immediate = record { four = refl; named = refl }
flow_is Crash = record { four = refl; named = refl }
flow_is Direct = record { four = refl; named = refl }
flow_is Normal = record { four = refl; named = refl }
flow_is Hold = record { four = refl; named = refl }

netmail_is : (f : Flavour) → IsEnding (netmail_ending f)
netmail_is Immediate = record { four = refl; named = refl }
netmail_is Crash = record { four = refl; named = refl }
netmail_is Direct = record { four = refl; named = refl }
netmail_is Normal = record { four = refl; named = refl }
netmail_is Hold = record { four = refl; named = refl }

take_is : (kind : TakeKind) → IsEnding (take_ending kind)
take_is (Flow f) = flow_is f
take_is (Netmail f) = netmail_is f
take_is Request = record { four = refl; named = refl }

mark_is : (kind : MarkKind) → IsEnding (mark_ending kind)
mark_is Busy = record { four = refl; named = refl }
mark_is Call = record { four = refl; named = refl }

-- four bytes, one by one
four_items : (e : List ℕ) → length e ≡ 4 → get_or e 0 0 ∷ get_or e 1 0 ∷ get_or e 2 0 ∷ get_or e 3 0 ∷ [] ≡ e
four_items [] is = absurd (omega (arith, is))
four_items (a ∷ []) is = absurd (omega (arith, is))
four_items (a ∷ b ∷ []) is = absurd (omega (arith, is))
four_items (a ∷ b ∷ c ∷ []) is = absurd (omega (arith, is))
four_items (a ∷ b ∷ c ∷ d ∷ []) is = refl
four_items (a ∷ b ∷ c ∷ d ∷ e ∷ es) is = absurd (omega (arith, is))

pub take_items : (kind : TakeKind) → get_or (take_ending kind) 0 0 ∷ get_or (take_ending kind) 1 0 ∷ get_or (take_ending kind) 2 0 ∷ get_or (take_ending kind) 3 0 ∷ [] ≡ take_ending kind
take_items kind = four_items (take_ending kind) (take_is kind).four

pub mark_items : (kind : MarkKind) → get_or (mark_ending kind) 0 0 ∷ get_or (mark_ending kind) 1 0 ∷ get_or (mark_ending kind) 2 0 ∷ get_or (mark_ending kind) 3 0 ∷ [] ≡ mark_ending kind
mark_items kind = four_items (mark_ending kind) (mark_is kind).four

-- bytes of a name, where there are not too many
named_is : (xs : List ℕ) → 1 ≤ length xs → length xs ≤ 64 → AreNamed xs → is_name xs ≡ true
named_is xs some most named =
    and_both (nat_le 1 (length xs) && nat_le (length xs) 64) (list_all is_name_byte xs) (and_both (nat_le 1 (length xs)) (nat_le (length xs) 64) (let e : nat_le 1 (length xs) ≡ true = grind (arith, nat_tests) in e) (let e : nat_le (length xs) 64 ≡ true = grind (arith, nat_tests) in e)) named

pub is_take_name : (n : ℕ) (a : Address) (kind : TakeKind) → n < 2 ^ 32 → HasPlace a → is_name (take_name n a kind) ≡ true
unfolding take_name eight_digits place_digits four_digits
is_take_name n a kind lt h =
    named_is (take_name n a kind) (omega (arith, (take_is kind).four)) (omega (arith, (take_is kind).four))
    (named-append (codes "t" ++ eight_digits n ++ codes "-" ++ place_digits a) (take_ending kind)
    (named-append (codes "t" ++ eight_digits n ++ codes "-") (place_digits a) (named-append (codes "t" ++ eight_digits n) (codes "-") (named-hex 7 n lt) refl) (named_place a h)) (take_is kind).named)

pub is_mark_name : (a : Address) (kind : MarkKind) → HasPlace a → is_name (mark_name a kind) ≡ true
unfolding mark_name place_digits four_digits
is_mark_name a kind h =
    named_is (mark_name a kind) (omega (arith, (mark_is kind).four)) (omega (arith, (mark_is kind).four))
    (named-append (codes "m" ++ place_digits a) (mark_ending kind) (named_place a h) (mark_is kind).named)
