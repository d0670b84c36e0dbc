-- What contracts see of an `Addr`.
use Rattle.std.specs.Prelude.{ℕ, Bool, ◌==◌, ◌&&◌, nat_eq, List}
use Rattle.std.specs.Cmp.Lexicographic.{pointwise}
use Rattle.ftn_addr.specs.declared.addr.Addr.{Addr}

-- an address without where its domain lies in memory
pub record Address : Type 0 where
  pub zone : ℕ
  pub net : ℕ
  pub node : ℕ
  pub point : ℕ
  pub domain : List ℕ

abbrev pub address : Addr → Address
address a = record { zone = a.zone; net = a.net; node = a.node; point = a.point; domain = a.domain.list }

-- two addresses agree in every field
abbrev pub same_address : Address → Address → Bool
same_address a b =
    a.zone == b.zone && (a.net == b.net && (a.node == b.node && (a.point == b.point && pointwise nat_eq a.domain b.domain)))
