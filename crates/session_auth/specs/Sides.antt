-- The two sides of a session (FTS-1026).
use Rattle.ftn_addr.specs.Address.{Address, address}
use Rattle.session_auth.specs.declared.side.Side.{Side as SideCode}
use Rattle.session_auth.specs.declared.side.Side.TheVariants as S

-- the peer called, or this side called the node of that address
pub data Side : Type 0 where
  Answers : Side
  Calls : (called : Address) → Side

abbrev pub side_of : SideCode → Side
side_of S.Answers = Answers
side_of (S.Calls called) = Calls (address called)
