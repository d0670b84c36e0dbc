-- The own name of a take: `t`, eight hexadecimal digits of its number, `-`, zone, net, node and point in four digits each, and
-- how its outbound name ends (own).
use Rattle.std.specs.Prelude.{◌≡◌, ℕ, ◌+◌, ◌-◌, ◌*◌, nat_le, List, [], ◌∷◌, take, drop, Option, if◌then◌else◌}
use Rattle.std.specs.Str.{bytes_eq}
use Rattle.ftn_addr.specs.Address.{Address}
use Rattle.bso_outbound.specs.declared.kind.Kind.{Kind}
use Rattle.bso_outbound.specs.declared.kind.Kind.TheVariants.{Flow, Mail, Request}
use Rattle.bso_outbound.specs.Kinds.{ending}
use Rattle.node_model.specs.declared.words.Flavour.TheVariants.{Immediate, Crash, Direct, Normal, Hold}
use Rattle.node_model.specs.Lists.{first_that}

-- the value of a digit
abbrev pub digit_value : ℕ → ℕ
digit_value byte = if nat_le byte 57 then byte - 48 else byte - 87

-- the value of digits, behind digits of that value
abbrev pub value_behind : ℕ → List ℕ → ℕ
value_behind value [] = value
value_behind value (byte ∷ bytes) = value_behind (value * 16 + digit_value byte) bytes

-- the number that a section of a name spells: so many digits behind so many bytes
abbrev pub spelled : (at count : ℕ) → List ℕ → ℕ
spelled at count name = value_behind 0 (take count (drop at name))

-- the number of a take
unfoldable pub number_of : List ℕ → ℕ
number_of own = spelled 1 8 own

-- a take is for that address, of which its name spells all but the domain
unfoldable pub IsFor : Address → List ℕ → Type 0
IsFor a own = (spelled 10 4 own ≡ a.zone) × (spelled 14 4 own ≡ a.net) × (spelled 18 4 own ≡ a.node) × (spelled 22 4 own ≡ a.point)

abbrev pub kinds : List Kind
kinds =
    Flow Immediate ∷ Flow Crash ∷ Flow Direct ∷ Flow Normal ∷ Flow Hold
    ∷ Mail Immediate ∷ Mail Crash ∷ Mail Direct ∷ Mail Normal ∷ Mail Hold ∷ Request ∷ []

-- what a take was in the outbound
unfoldable pub kind_of : List ℕ → Option Kind
kind_of own = first_that (λ kind. bytes_eq (drop 26 own) (ending kind)) kinds
