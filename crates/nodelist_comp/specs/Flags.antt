-- The flags of a node that say where it answers binkp (FTS-5001).
use Rattle.std.specs.Prelude.{ℕ, ◌+◌, ◌==◌, ◌&&◌, nat_lt, nat_eq, List, [], ◌∷◌, length, take, drop, position, codes, Option, Some, None, is_some, unwrap_or, if◌then◌else◌}
use Rattle.std.specs.Cmp.Lexicographic.{pointwise}
use Rattle.std.specs.List.{starts_with}
use Rattle.ftn_addr.specs.Digits.{saturated_number}

-- what stands behind the front
abbrev pub after : List ℕ → List ℕ → Option (List ℕ)
after front text = if pointwise nat_eq (take (length front) text) front then Some (drop (length front) text) else None

abbrev pub or_later : Option (List ℕ) → Option (List ℕ) → Option (List ℕ)
or_later (Some value) later = Some value
or_later None later = later

-- `IBN`, or `IBN:` and a value
abbrev pub ibn_value : List ℕ → Option (List ℕ)
ibn_value flag = if pointwise nat_eq flag (codes "IBN") then Some [] else after (codes "IBN:") flag

-- the first `IBN` counts
abbrev pub first_ibn : List (List ℕ) → Option (List ℕ)
first_ibn [] = None
first_ibn (flag ∷ flags) = or_later (ibn_value flag) (first_ibn flags)

-- the value of the first `INA:`, or nothing
abbrev pub first_ina : List (List ℕ) → List ℕ
first_ina [] = []
first_ina (flag ∷ flags) = unwrap_or (after (codes "INA:") flag) (first_ina flags)

-- a number from 1 to 65535, or else that of binkp (own)
abbrev pub port_or : Option ℕ → ℕ
port_or None = 24554
port_or (Some port) = if nat_lt 0 port && nat_lt port 65536 then port else 24554

unfoldable pub port_of : List ℕ → ℕ
port_of text = port_or (saturated_number text)

abbrev pub port_at : List ℕ → Option ℕ → ℕ
port_at text None = 24554
port_at text (Some end) = port_of (drop (end + 1) text)

-- the port behind the first `:`
unfoldable pub port_behind : List ℕ → ℕ
port_behind text = port_at text (position (λ b. b == 58) text)

abbrev pub bracketed_at : List ℕ → Option ℕ → List ℕ × ℕ
bracketed_at value None = (value, 24554)
bracketed_at value (Some end) = (take (end + 1) value, port_behind (drop (end + 1) value))

-- a host up to and with its `]`
unfoldable pub bracketed_host : List ℕ → List ℕ × ℕ
bracketed_host value = bracketed_at value (position (λ b. b == 93) value)

abbrev pub plain_at : List ℕ → Option ℕ → List ℕ × ℕ
plain_at value None = (value, 24554)
plain_at value (Some end) = (take end value, port_of (drop (end + 1) value))

-- a host up to the first `:`
unfoldable pub plain_host : List ℕ → List ℕ × ℕ
plain_host value = plain_at value (position (λ b. b == 58) value)

-- digits are a port, and all else is a host that a port may follow
unfoldable pub host_and_port : List ℕ → List ℕ × ℕ
host_and_port value =
    if is_some (saturated_number value) then ([], port_of value)
    else if starts_with nat_eq value (codes "[") then bracketed_host value
    else plain_host value

-- without a host in `IBN` it is that of `INA:`
abbrev pub host_or : List (List ℕ) → List ℕ × ℕ → List ℕ × ℕ
host_or flags found = (if length found.0 == 0 then first_ina flags else found.0, found.1)

abbrev pub endpoint_at : List (List ℕ) → Option (List ℕ) → List ℕ × ℕ
endpoint_at flags None = ([], 24554)
endpoint_at flags (Some value) = host_or flags (host_and_port value)

-- where a node with these flags answers binkp; the host is empty where it doesn't
unfoldable pub endpoint : List (List ℕ) → List ℕ × ℕ
endpoint flags = endpoint_at flags (first_ibn flags)
