-- The limits of what is read, and of what can be written so that it is read again.
use Rattle.std.specs.Prelude.{◌≡◌, ℕ, ◌<◌, ◌≤◌, ◌^◌, false, List, length}
use Rattle.std.specs.List.{All}
use Rattle.ftn_addr.specs.Address.{Address}
use Rattle.ftn_addr.specs.Key.{Key}
use Rattle.ftn_addr.specs.Limits.{IsAddress, IsKey}
use Rattle.ftn_addr.specs.declared.limits.TheConstants.{MAX_FRAME_DATA, MAX_SIZE}
use Rattle.binkp_args.specs.Command.{CommandText, Nul, Adr, Pwd, File, Accept, Eob, Got, Error, Bsy, Get, Skip, Other}
use Rattle.binkp_args.specs.Words.{ends_in_zero}

-- a name of 1 to 200 bytes, a size that is taken, and a time of 63 bits
pub record IsFile (k : Key) : Type 0 where
  pub key : IsKey k
  pub size : k.size ≤ MAX_SIZE
  pub time : k.time < 2 ^ 63

-- a file, and a place in it
pub record IsPlace (k : Key) (offset : ℕ) : Type 0 where
  pub file : IsFile k
  pub inside : offset ≤ k.size

-- one address at least, each within the limits
pub record AreAddresses (addresses : List Address) : Type 0 where
  pub some : 0 < length addresses
  pub each : All IsAddress addresses

-- the file of a command that has one
abbrev pub HasFile : CommandText → Type 0
HasFile (File key offset) = IsPlace key offset
HasFile (Got key) = IsFile key
HasFile (Get key offset) = IsPlace key offset
HasFile (Skip key) = IsFile key
HasFile command = Unit {0}

-- the addresses of an M_ADR
abbrev pub HasAddresses : CommandText → Type 0
HasAddresses (Adr addresses) = AreAddresses addresses
HasAddresses command = Unit {0}

abbrev pub AreBytes : List ℕ → Type 0
AreBytes list = All (λ byte. byte < 256) list

-- A command that is read as it is written: within the limits, with no text that ends in byte 0.
abbrev pub IsReadable : CommandText → Type 0
IsReadable (Nul text) = ends_in_zero text ≡ false
IsReadable (Adr addresses) = AreAddresses addresses
IsReadable (Pwd text) = ends_in_zero text ≡ false
IsReadable (File key offset) = IsPlace key offset × AreBytes key.name
IsReadable (Accept text) = ends_in_zero text ≡ false
IsReadable Eob = Unit {0}
IsReadable (Got key) = IsFile key × AreBytes key.name
IsReadable (Error text) = ends_in_zero text ≡ false
IsReadable (Bsy text) = ends_in_zero text ≡ false
IsReadable (Get key offset) = IsPlace key offset × AreBytes key.name
IsReadable (Skip key) = IsFile key × AreBytes key.name
IsReadable (Other number) = ⊥

-- at most 500 addresses, each within the limits
pub record AreFew (addresses : List Address) : Type 0 where
  pub few : length addresses ≤ 500
  pub each : All IsAddress addresses

-- A command whose argument fits a frame, for what it is made of.
abbrev pub IsShort : CommandText → Type 0
IsShort (Nul text) = length text < MAX_FRAME_DATA
IsShort (Adr addresses) = AreFew addresses
IsShort (Pwd text) = length text < MAX_FRAME_DATA
IsShort (File key offset) = IsKey key
IsShort (Accept text) = length text < MAX_FRAME_DATA
IsShort Eob = Unit {0}
IsShort (Got key) = IsKey key
IsShort (Error text) = length text < MAX_FRAME_DATA
IsShort (Bsy text) = length text < MAX_FRAME_DATA
IsShort (Get key offset) = IsKey key
IsShort (Skip key) = IsKey key
IsShort (Other number) = Unit {0}
