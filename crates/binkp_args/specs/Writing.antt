-- How a command is written (FTS-1026).
use Rattle.std.specs.Prelude.{ℕ, List, [], ◌∷◌, map}
use Rattle.std.specs.Fmt.{decimal}
use Rattle.ftn_addr.specs.Frames.{FrameText, Command}
use Rattle.ftn_addr.specs.Key.{Key}
use Rattle.ftn_addr.specs.Writing.{canonical}
use Rattle.binkp_args.specs.Command.{CommandText, Nul, Adr, Pwd, File, Accept, Eob, Got, Error, Bsy, Get, Skip, Other}
use Rattle.binkp_args.specs.Escape.{escaped}
use Rattle.binkp_args.specs.Words.{spaced}

abbrev pub number_of : CommandText → ℕ
number_of (Nul text) = 0
number_of (Adr addresses) = 1
number_of (Pwd text) = 2
number_of (File key offset) = 3
number_of (Accept text) = 4
number_of Eob = 5
number_of (Got key) = 6
number_of (Error text) = 7
number_of (Bsy text) = 8
number_of (Get key offset) = 9
number_of (Skip key) = 10
number_of (Other number) = number

-- name, size and time
abbrev pub key_text : Key → List ℕ
key_text key = spaced (escaped key.name ∷ decimal key.size ∷ decimal key.time ∷ [])

-- name, size, time and offset
abbrev pub place_text : Key → ℕ → List ℕ
place_text key offset = spaced (escaped key.name ∷ decimal key.size ∷ decimal key.time ∷ decimal offset ∷ [])

abbrev pub argument_of : CommandText → List ℕ
argument_of (Nul text) = text
argument_of (Adr addresses) = spaced (map canonical addresses)
argument_of (Pwd text) = text
argument_of (File key offset) = place_text key offset
argument_of (Accept text) = text
argument_of Eob = []
argument_of (Got key) = key_text key
argument_of (Error text) = text
argument_of (Bsy text) = text
argument_of (Get key offset) = place_text key offset
argument_of (Skip key) = key_text key
argument_of (Other number) = []

-- the one frame that a command is sent as
abbrev pub frame_text_of : CommandText → FrameText
frame_text_of command = Command (number_of command) (argument_of command)

-- a command that there is something to say of: not one of an unknown number, and no M_ADR without an address
abbrev pub IsKnown : CommandText → Type 0
IsKnown (Adr []) = ⊥
IsKnown (Other number) = ⊥
IsKnown command = Unit {0}
