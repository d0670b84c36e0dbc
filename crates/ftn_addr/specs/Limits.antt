-- What an address and a key may be.
use Rattle.std.specs.Prelude.{◌≡◌, ◌<◌, ◌≤◌, IsTrue, length, map}
use Rattle.std.specs.Char.{to_ascii_lowercase}
use Rattle.ftn_addr.specs.Address.{Address}
use Rattle.ftn_addr.specs.Domain.{is_domain}
use Rattle.ftn_addr.specs.Key.{Key}
use Rattle.ftn_addr.specs.declared.limits.TheConstants.{MAX_ADDRESS_NUMBER, MAX_NAME}

-- numbers of at most 32767, and a domain in lower case
pub record IsAddress (a : Address) : Type 0 where
  pub zone : a.zone ≤ MAX_ADDRESS_NUMBER
  pub net : a.net ≤ MAX_ADDRESS_NUMBER
  pub node : a.node ≤ MAX_ADDRESS_NUMBER
  pub point : a.point ≤ MAX_ADDRESS_NUMBER
  pub domain : IsTrue (is_domain a.domain)
  pub lower_case : map to_ascii_lowercase a.domain ≡ a.domain

-- a name of 1 to 200 bytes
pub record IsKey (k : Key) : Type 0 where
  pub some : 0 < length k.name
  pub short : length k.name ≤ MAX_NAME
