-- The names of own files differ, and are read as they are made.
use Rattle.std.proofs.Common.{◌≡◌, ◌≢◌, ℕ, ◌<◌, ◌≤◌, ◌==◌, ◌^◌, List, [], ◌∷◌, ◌++◌, take, drop, Bool, true, false, Some, None, refl, ◌∙◌, ap, arith, get_or}
use Rattle.std.proofs.lemmas.Bool.Decides.{Decides-eqb}
use Rattle.std.specs.Prelude.{codes, if◌then◌else◌}
use Rattle.std.specs.List.{list_all}
use Rattle.ftn_addr.specs.Address.{Address}
use Rattle.ledger_file.specs.Ledger.{ledger_name, new_name}
use Rattle.node_model.specs.declared.words.Flavour.{Flavour}
use Rattle.node_model.specs.declared.words.Flavour.TheVariants.{Immediate, Crash, Direct, Normal, Hold}
use Rattle.node_model.proofs.Lists.{and_both}
use Rattle.node_store.specs.declared.names.TakeKind.{TakeKind}
use Rattle.node_store.specs.declared.names.TakeKind.TheVariants.{Flow, Netmail, Request}
use Rattle.node_store.specs.Names.{from_one, is_hex, hex_value, eight_digits, four_digits, in_name, out_name, flow_ending, netmail_ending, place_digits, HasPlace, take_name, is_take_ending, take_number}
use Rattle.node_store.proofs.HexDigits.{one_eight, one_number, all-append, all_hex, eight_read}

pub one_in_name : (n m : ℕ) → in_name n ≡ in_name m → n ≡ m
unfolding in_name
one_in_name n m is = one_eight n m (ap (λ (l : List ℕ). drop 3 l) is)

pub one_out_name : (n m : ℕ) → out_name n ≡ out_name m → n ≡ m
unfolding out_name
one_out_name n m is = one_eight n m (ap (λ (l : List ℕ). drop 4 l) is)

pub one_take_name : (n m : ℕ) (a b : Address) (j k : TakeKind) → take_name n a j ≡ take_name m b k → n ≡ m
unfolding take_name eight_digits place_digits four_digits
one_take_name n m a b j k is = one_number 7 n m (ap (λ (l : List ℕ). take 8 (drop 1 l)) is)

pub in_not_out : (n m : ℕ) → in_name n ≢ out_name m
unfolding in_name out_name
in_not_out n m is = let e : 105 ≡ 111 = ap (λ (l : List ℕ). get_or l 0 0) is in omega (arith, e)

pub in_not_ledger : (n : ℕ) → in_name n ≢ ledger_name
unfolding in_name
in_not_ledger n is = let e : 105 ≡ 108 = ap (λ (l : List ℕ). get_or l 0 0) is in omega (arith, e)

pub out_not_ledger : (n : ℕ) → out_name n ≢ ledger_name
unfolding out_name
out_not_ledger n is = let e : 111 ≡ 108 = ap (λ (l : List ℕ). get_or l 0 0) is in omega (arith, e)

pub in_not_new : (n : ℕ) → in_name n ≢ new_name
unfolding in_name
in_not_new n is = let e : 105 ≡ 108 = ap (λ (l : List ℕ). get_or l 0 0) is in omega (arith, e)

pub out_not_new : (n : ℕ) → out_name n ≢ new_name
unfolding out_name
out_not_new n is = let e : 111 ≡ 108 = ap (λ (l : List ℕ). get_or l 0 0) is in omega (arith, e)

-- takes

pub hex_place : (a : Address) → HasPlace a → list_all is_hex (place_digits a) ≡ true
unfolding place_digits four_digits
hex_place a h =
    all-append is_hex (four_digits a.zone ++ four_digits a.net ++ four_digits a.node) (four_digits a.point)
    (all-append is_hex (four_digits a.zone ++ four_digits a.net) (four_digits a.node)
    (all-append is_hex (four_digits a.zone) (four_digits a.net) (all_hex 3 a.zone h.zone) (all_hex 3 a.net h.net)) (all_hex 3 a.node h.node)) (all_hex 3 a.point h.point)

-- a name with this ending
abbrev with_ending : ℕ → Address → List ℕ → List ℕ
with_ending n a e = codes "t" ++ eight_digits n ++ codes "-" ++ place_digits a ++ e

not_zero : (n : ℕ) → 1 ≤ n → (n == 0) ≡ false
not_zero n some = go (n == 0) refl
  where
    go : (b : Bool) → (n == 0) ≡ b → (n == 0) ≡ false
    go true is = absurd (omega (arith, some, (Decides-eqb n 0).0 is))
    go false is = is

read_with : (n : ℕ) (a : Address) (x y z w : ℕ) → 1 ≤ n → n < 2 ^ 32 → HasPlace a → is_take_ending (x ∷ y ∷ z ∷ w ∷ []) ≡ true → take_number (with_ending n a (x ∷ y ∷ z ∷ w ∷ [])) ≡ Some n
unfolding take_number eight_digits place_digits four_digits
read_with n a x y z w some lt h ends =
    ap (λ (b : Bool). if b then from_one (hex_value (eight_digits n)) else None) (and_both (list_all is_hex (place_digits a)) (is_take_ending (x ∷ y ∷ z ∷ w ∷ [])) (hex_place a h) ends)
    ∙ ap from_one (eight_read n lt) ∙ ap (λ (b : Bool). if b then None else Some n) (not_zero n some)

flow_read : (n : ℕ) (a : Address) (f : Flavour) → 1 ≤ n → n < 2 ^ 32 → HasPlace a → take_number (with_ending n a (flow_ending f)) ≡ Some n
flow_read n a Immediate some lt h = read_with n a 46 105 108 111 some lt h refl
flow_read n a Crash some lt h = read_with n a 46 99 108 111 some lt h refl
flow_read n a Direct some lt h = read_with n a 46 100 108 111 some lt h refl
flow_read n a Normal some lt h = read_with n a 46 102 108 111 some lt h refl
flow_read n a Hold some lt h = read_with n a 46 104 108 111 some lt h refl

netmail_read : (n : ℕ) (a : Address) (f : Flavour) → 1 ≤ n → n < 2 ^ 32 → HasPlace a → take_number (with_ending n a (netmail_ending f)) ≡ Some n
netmail_read n a Immediate some lt h = read_with n a 46 105 117 116 some lt h refl
netmail_read n a Crash some lt h = read_with n a 46 99 117 116 some lt h refl
netmail_read n a Direct some lt h = read_with n a 46 100 117 116 some lt h refl
netmail_read n a Normal some lt h = read_with n a 46 111 117 116 some lt h refl
netmail_read n a Hold some lt h = read_with n a 46 104 117 116 some lt h refl

pub take_read : (n : ℕ) (a : Address) (kind : TakeKind) → 1 ≤ n → n < 2 ^ 32 → HasPlace a → take_number (take_name n a kind) ≡ Some n
unfolding take_name
take_read n a (Flow f) some lt h = flow_read n a f some lt h
take_read n a (Netmail f) some lt h = netmail_read n a f some lt h
take_read n a Request some lt h = read_with n a 46 114 101 113 some lt h refl
