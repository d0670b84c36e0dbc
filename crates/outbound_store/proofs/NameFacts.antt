-- What the own name of a take spells.
use Rattle.std.proofs.Common.{◌≡◌, ◌≢◌, ℕ, ◌+◌, ◌*◌, ◌<◌, ◌^◌, ◌==◌, Bool, true, false, List, [], ◌∷◌, take, drop, Option, Some, None, refl, sym, ◌∙◌, ap, append-nil}
use Rattle.std.specs.Prelude.{if◌then◌else◌}
use Rattle.std.specs.Str.{bytes_eq}
use Rattle.std.proofs.lemmas.Bool.Decides.{Decides-eqb}
use Rattle.ftn_addr.specs.Address.{Address}
use Rattle.node_model.specs.declared.words.Flavour.TheVariants.{Immediate, Crash, Direct, Normal, Hold}
use Rattle.node_model.specs.Lists.{first_that}
use Rattle.node_model.proofs.Lists.{none_some, off, some_inj}
use Rattle.node_store.specs.declared.names.TakeKind.{TakeKind}
use Rattle.node_store.specs.Names.{HasPlace, digit_value, eight_digits, four_digits, from_one, hex_of, hex_value, is_hex, is_take_form, place_digits, take_ending, take_name, take_number, value_from}
use Rattle.node_store.proofs.HexDigits.{read_digits}
use Rattle.bso_outbound.specs.declared.kind.Kind.{Kind}
use Rattle.bso_outbound.specs.declared.kind.Kind.TheVariants as K
use Rattle.bso_outbound.specs.Kinds.{ending}
use Rattle.outbound_model.specs.OwnNames.{IsFor, kind_of, kinds, number_of, value_behind}
use Rattle.outbound_take.specs.Calls.{IsTakeFor}

-- digits that are read have their value
same_value : (v : ℕ) (bytes : List ℕ) (n : ℕ) → value_from v bytes ≡ Some n → value_behind v bytes ≡ n
same_value v [] n is = some_inj is
same_value v (b ∷ bytes) n is = go (is_hex b) (λ h. same_value (v * 16 + digit_value b) bytes n h) is
  where
    go : (t : Bool) → (value_from (v * 16 + digit_value b) bytes ≡ Some n → value_behind (v * 16 + digit_value b) bytes ≡ n) → (if t then value_from (v * 16 + digit_value b) bytes else None) ≡ Some n → value_behind (v * 16 + digit_value b) bytes ≡ n
    go true rest h = rest h
    go false rest h = none_some h

from_some : (o : Option ℕ) (n : ℕ) → from_one o ≡ Some n → (o ≡ Some n) × (n ≢ 0)
from_some None n is = none_some is
from_some (Some m) n is = go (m == 0) refl is
  where
    go : (b : Bool) → (m == 0) ≡ b → (if b then None else Some m) ≡ Some n → (Some m ≡ Some n) × (n ≢ 0)
    go true zero_is h = none_some h
    go false other h = (h, λ none. off (sym ((Decides-eqb m 0).1 (some_inj h ∙ none)) ∙ other))

-- the number of a take's name
pub number_read : (own : List ℕ) (n : ℕ) → take_number own ≡ Some n → (number_of own ≡ n) × (n ≢ 0)
unfolding take_number number_of
number_read own n is = go (is_take_form own) is
  where
    go : (b : Bool) → (if b then from_one (hex_value (take 8 (drop 1 own))) else None) ≡ Some n → (value_behind 0 (take 8 (drop 1 own)) ≡ n) × (n ≢ 0)
    go true h =
        let some = from_some (hex_value (take 8 (drop 1 own))) n h in
        (same_value 0 (take 8 (drop 1 own)) n some.0, some.1)
    go false h = none_some h

eight_value : (n : ℕ) → n < 2 ^ 32 → value_behind 0 (hex_of 7 n) ≡ n
eight_value n lt = same_value 0 (hex_of 7 n) n (ap (value_from 0) (sym (append-nil (hex_of 7 n))) ∙ read_digits 7 n [] lt)

four_value : (n : ℕ) → n < 2 ^ 16 → value_behind 0 (hex_of 3 n) ≡ n
four_value n lt = same_value 0 (hex_of 3 n) n (ap (value_from 0) (sym (append-nil (hex_of 3 n))) ∙ read_digits 3 n [] lt)

pub own_number : (n : ℕ) (a : Address) (k : TakeKind) → n < 2 ^ 32 → number_of (take_name n a k) ≡ n
unfolding number_of take_name eight_digits place_digits four_digits
own_number n a k lt = eight_value n lt

own_for : (n : ℕ) (a : Address) (k : TakeKind) → HasPlace a → IsFor a (take_name n a k)
unfolding IsFor take_name eight_digits place_digits four_digits
own_for n a k place = (four_value a.zone place.zone, four_value a.net place.net, four_value a.node place.node, four_value a.point place.point)

kind_found : (kind : Kind) → first_that (λ k. bytes_eq (ending kind) (ending k)) kinds ≡ Some kind
kind_found (K.Flow Immediate) = refl
kind_found (K.Flow Crash) = refl
kind_found (K.Flow Direct) = refl
kind_found (K.Flow Normal) = refl
kind_found (K.Flow Hold) = refl
kind_found (K.Mail Immediate) = refl
kind_found (K.Mail Crash) = refl
kind_found (K.Mail Direct) = refl
kind_found (K.Mail Normal) = refl
kind_found (K.Mail Hold) = refl
kind_found K.Request = refl

own_kind : (n : ℕ) (a : Address) (k : TakeKind) (kind : Kind) → take_ending k ≡ ending kind → kind_of (take_name n a k) ≡ Some kind
unfolding kind_of take_name eight_digits place_digits four_digits
own_kind n a k kind ends = ap (λ (end : List ℕ). first_that (λ k. bytes_eq end (ending k)) kinds) ends ∙ kind_found kind

pub own_named : (n : ℕ) (a : Address) (k : TakeKind) (kind : Kind) → take_ending k ≡ ending kind → HasPlace a → IsTakeFor a kind (take_name n a k)
own_named n a k kind ends place = record { addressed = own_for n a k place; named = own_kind n a k kind ends }
