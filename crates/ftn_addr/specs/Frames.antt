-- Frames and how bytes spell them (FTS-1026).
use Rattle.std.specs.Prelude.{ℕ, ◌+◌, ◌<◌, ◌≤◌, ◌/◌, ◌%◌, Bool, true, false, List, [], ◌∷◌, ◌++◌, length, Option, Some, None, if◌then◌else◌}
use Rattle.ftn_addr.specs.declared.limits.TheConstants.{MAX_FRAME_DATA}

-- a frame without where it lies in memory
pub data FrameText : Type 0 where
  Command : (number : ℕ) (args : List ℕ) → FrameText
  Data : (bytes : List ℕ) → FrameText

-- whether a frame is a command's, and its data
pub record Block : Type 0 where
  pub command : Bool
  pub body : List ℕ

-- Two bytes, high byte first: the top bit is 1 for a command, and the low 15 bits are the data's length.
abbrev pub header : Bool → ℕ → List ℕ
header command len = ((if command then 128 else 0) + len / 256) ∷ len % 256 ∷ []

-- the header, then the data
abbrev pub spelling : Block → List ℕ
spelling block = header block.command (length block.body) ++ block.body

-- An empty block stands for nothing (own). The first data byte of a command is its number.
abbrev pub frame_of : Bool → List ℕ → Option FrameText
frame_of command [] = None
frame_of true (number ∷ args) = Some (Command number args)
frame_of false (byte ∷ bytes) = Some (Data (byte ∷ bytes))

-- the one block that a frame is sent as
abbrev pub block_of : FrameText → Block
block_of (Command number args) = record { command = true; body = number ∷ args }
block_of (Data bytes) = record { command = false; body = bytes }

-- the bytes that a frame is sent as
abbrev pub frame_bytes : FrameText → List ℕ
frame_bytes frame = spelling (block_of frame)

-- a frame of some data, whose length fits its header
abbrev pub CanSend : FrameText → Type 0
CanSend (Command number args) = length args < MAX_FRAME_DATA
CanSend (Data bytes) = (0 < length bytes) × (length bytes ≤ MAX_FRAME_DATA)
