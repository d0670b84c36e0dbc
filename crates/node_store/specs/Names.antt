-- The names of a store's own files (own).
use Rattle.std.specs.Prelude.{◌≡◌, ◌≢◌, ℕ, zero, suc, ◌+◌, ◌-◌, ◌*◌, ◌/◌, ◌%◌, ◌^◌, ◌<◌, Bool, ◌&&◌, ◌||◌, ◌==◌, nat_lt, nat_le, nat_eq, List, [], ◌∷◌, ◌++◌, length, take, drop, codes, Option, Some, None, if◌then◌else◌}
use Rattle.std.specs.Cmp.Lexicographic.{pointwise}
use Rattle.std.specs.List.{list_all}
use Rattle.ftn_addr.specs.Address.{Address}
use Rattle.node_model.specs.declared.words.Flavour.{Flavour}
use Rattle.node_model.specs.declared.words.Flavour.TheVariants.{Immediate, Crash, Direct, Normal, Hold}
use Rattle.node_model.specs.Lists.{Each}
use Rattle.node_store.specs.declared.names.MarkKind.{MarkKind}
use Rattle.node_store.specs.declared.names.MarkKind.TheVariants.{Busy, Call}
use Rattle.node_store.specs.declared.names.TakeKind.{TakeKind}
use Rattle.node_store.specs.declared.names.TakeKind.TheVariants.{Flow, Netmail, Request}

-- these bytes are those
abbrev pub is_one : List ℕ → List ℕ → Bool
is_one bytes others = pointwise nat_eq bytes others

-- Digits.

-- a hexadecimal digit, in lower case
abbrev pub hex_digit : ℕ → ℕ
hex_digit n = if nat_lt n 10 then 48 + n else 87 + n

-- a number's digits: the last k, and before them what is left as one more, which isn't cut
abbrev pub hex_of : ℕ → ℕ → List ℕ
hex_of zero n = hex_digit n ∷ []
hex_of (suc k) n = hex_of k (n / 16) ++ hex_digit (n % 16) ∷ []

-- eight digits
unfoldable pub eight_digits : ℕ → List ℕ
eight_digits n = hex_of 7 n

-- four digits
unfoldable pub four_digits : ℕ → List ℕ
four_digits n = hex_of 3 n

abbrev pub is_hex : ℕ → Bool
is_hex byte = (nat_le 48 byte && nat_le byte 57) || (nat_le 97 byte && nat_le byte 102)

-- the value of a digit
abbrev pub digit_value : ℕ → ℕ
digit_value byte = if nat_le byte 57 then byte - 48 else byte - 87

-- the value of digits, behind digits of that value
abbrev pub value_from : ℕ → List ℕ → Option ℕ
value_from value [] = Some value
value_from value (byte ∷ bytes) = if is_hex byte then value_from (value * 16 + digit_value byte) bytes else None

-- the value of hexadecimal digits in lower case, if all are such
abbrev pub hex_value : List ℕ → Option ℕ
hex_value bytes = value_from 0 bytes

-- Names.

-- the file of a queued file: `out.` and eight digits
unfoldable pub out_name : ℕ → List ℕ
out_name number = codes "out." ++ eight_digits number

-- the file of a part or of a received file: `in.` and eight digits
unfoldable pub in_name : ℕ → List ℕ
in_name number = codes "in." ++ eight_digits number

-- the ending of an outbound file (FTS-5005)
abbrev pub flow_ending : Flavour → List ℕ
flow_ending Immediate = codes ".ilo"
flow_ending Crash = codes ".clo"
flow_ending Direct = codes ".dlo"
flow_ending Normal = codes ".flo"
flow_ending Hold = codes ".hlo"

abbrev pub netmail_ending : Flavour → List ℕ
netmail_ending Immediate = codes ".iut"
netmail_ending Crash = codes ".cut"
netmail_ending Direct = codes ".dut"
netmail_ending Normal = codes ".out"
netmail_ending Hold = codes ".hut"

abbrev pub take_ending : TakeKind → List ℕ
take_ending (Flow flavour) = flow_ending flavour
take_ending (Netmail flavour) = netmail_ending flavour
take_ending Request = codes ".req"

abbrev pub mark_ending : MarkKind → List ℕ
mark_ending Busy = codes ".bsy"
mark_ending Call = codes ".csy"

-- zone, net, node and point, four digits each
unfoldable pub place_digits : Address → List ℕ
place_digits a = four_digits a.zone ++ four_digits a.net ++ four_digits a.node ++ four_digits a.point

-- numbers of two bytes, as an address has them
pub record HasPlace (a : Address) : Type 0 where
  pub zone : a.zone < 2 ^ 16
  pub net : a.net < 2 ^ 16
  pub node : a.node < 2 ^ 16
  pub point : a.point < 2 ^ 16

-- an outbound file that was taken: `t`, eight digits of the take, `-`, for whom, and its ending
unfoldable pub take_name : ℕ → Address → TakeKind → List ℕ
take_name take a kind = codes "t" ++ eight_digits take ++ codes "-" ++ place_digits a ++ take_ending kind

-- the note of a mark that may stand in the outbound: `m`, of whom, and its ending
unfoldable pub mark_name : Address → MarkKind → List ℕ
mark_name a kind = codes "m" ++ place_digits a ++ mark_ending kind

-- the endings of outbound files
abbrev pub is_take_ending : List ℕ → Bool
is_take_ending ending =
    is_one ending (codes ".ilo") || is_one ending (codes ".clo") || is_one ending (codes ".dlo") || is_one ending (codes ".flo") || is_one ending (codes ".hlo")
    || is_one ending (codes ".iut") || is_one ending (codes ".cut") || is_one ending (codes ".dut") || is_one ending (codes ".out") || is_one ending (codes ".hut")
    || is_one ending (codes ".req")

-- `t`, eight bytes, `-`, sixteen digits, and such an ending
abbrev pub is_take_form : List ℕ → Bool
is_take_form name =
    length name == 30 && (is_one (take 1 name) (codes "t") && (is_one (take 1 (drop 9 name)) (codes "-") && (list_all is_hex (take 16 (drop 10 name)) && is_take_ending (take 4 (drop 26 name)))))

-- takes are numbered from 1 on
abbrev pub from_one : Option ℕ → Option ℕ
from_one None = None
from_one (Some number) = if number == 0 then None else Some number

-- the number of the take whose name this is, if it is a take's
unfoldable pub take_number : List ℕ → Option ℕ
take_number name = if is_take_form name then from_one (hex_value (take 8 (drop 1 name))) else None

-- the endings of marks
abbrev pub is_mark_ending : List ℕ → Bool
is_mark_ending ending = is_one ending (codes ".bsy") || is_one ending (codes ".csy")

-- whether it is the name of a mark's note: `m`, sixteen digits, and the ending of a mark
unfoldable pub is_note : List ℕ → Bool
is_note name =
    length name == 21 && (is_one (take 1 name) (codes "m") && (list_all is_hex (take 16 (drop 1 name)) && is_mark_ending (take 4 (drop 17 name))))

-- The number that a name has, if it is the name of any number of four bytes.
abbrev pub NumberOf : (ℕ → List ℕ) → Option ℕ → List ℕ → Type 0
NumberOf named (Some number) name = name ≡ named number
NumberOf named None name = (number : ℕ) → number < 2 ^ 32 → name ≢ named number

-- no two of these names are the same
abbrev pub AreDistinct : List (List ℕ) → Type 0
AreDistinct [] = Unit {0}
AreDistinct (name ∷ names) = Each (λ (other : List ℕ). other ≢ name) names × AreDistinct names
