-- What a command that holds one session asks for (own).
use Rattle.std.specs.Prelude.{◌≡◌, ℕ, List, Ok}
use Rattle.ftn_addr.specs.Address.{Address}
use Rattle.ftn_addr.specs.Reading.{reading}
use Rattle.command_words.specs.Forms as W
use Rattle.command_words.specs.Forms.{Command}
use Rattle.session_auth.specs.Sides.{Side, Answers, Calls}

-- `answer`, and `call` with one word behind
abbrev pub HoldsOne : Command → Type 0
HoldsOne W.Answer = Unit {0}
HoldsOne (W.Call text) = Unit {0}
HoldsOne command = ⊥

-- a text spells the address of a node in the home's domain
pub record Spells (home : Address) (text : List ℕ) (peer : Address) : Type 0 where
  pub read : reading text home ≡ Ok peer
  pub domain : peer.domain ≡ home.domain

-- what a command asks for at a node with that home: at which side of a line
pub data AsksFor (command : Command) (home : Address) (side : Side) : Type 0 where
  to_answer : side ≡ Answers → command ≡ W.Answer → AsksFor command home side
  to_call : (text : List ℕ) (peer : Address) → side ≡ Calls peer → command ≡ W.Call text → Spells home text peer → AsksFor command home side
