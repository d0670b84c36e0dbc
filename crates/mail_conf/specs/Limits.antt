-- What settings that were read keep to (own).
use Rattle.std.specs.Prelude.{◌≡◌, ℕ, ◌<◌, ◌≤◌, List, length, Ok}
use Rattle.std.specs.List.{All}
use Rattle.ftn_addr.specs.Limits.{IsAddress}
use Rattle.mail_conf.specs.Conf.{ConfText, conf_of}
use Rattle.mail_conf.specs.Host.{NodeText}

-- one own address at least, each address within the limits, also those of other nodes, and the numbers within theirs: bytes of a
-- data frame, bytes of a session's files and sessions at a time
pub record KeepsLimits (c : ConfText) : Type 0 where
  pub some : 0 < length c.addresses
  pub addresses : All IsAddress c.addresses
  pub nodes : All (λ (node : NodeText). IsAddress node.addr) c.nodes
  pub block_some : 0 < c.block
  pub block_fits : c.block ≤ 32767
  pub limit_some : 0 < c.session_limit
  pub limit_fits : c.session_limit ≤ 17592186044416
  pub servers_some : 0 < c.max_servers
  pub servers_fit : c.max_servers ≤ 100

-- so it is with the settings of each text
abbrev pub EachKeepsLimits : Type 0
EachKeepsLimits = (text : List ℕ) (c : ConfText) → conf_of text ≡ Ok c → KeepsLimits c
