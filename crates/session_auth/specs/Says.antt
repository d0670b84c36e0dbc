-- What is said: one frame a command (FTS-1026).
use Rattle.std.specs.Prelude.{ℕ, List}
use Rattle.std.specs.List.{flat_map}
use Rattle.ftn_addr.specs.Frames.{frame_bytes}
use Rattle.binkp_args.specs.Command.{CommandText}
use Rattle.binkp_args.specs.Writing.{frame_text_of}

abbrev pub command_bytes : CommandText → List ℕ
command_bytes command = frame_bytes (frame_text_of command)

abbrev pub said_bytes : List CommandText → List ℕ
said_bytes said = flat_map command_bytes said
