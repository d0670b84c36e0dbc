-- How a session ends, without where its parts lie in memory.
use Rattle.std.specs.Prelude.{ℕ, List}
use Rattle.session_core.specs.declared.ending.Cause.{Cause}
use Rattle.session_core.specs.declared.ending.End.{End as EndCode}
use Rattle.session_core.specs.declared.ending.End.TheVariants as V

pub data End : Type 0 where
  Finished : End
  PeerError : (text : List ℕ) → End
  PeerBusy : End
  BadPassword : (wanted given : List ℕ) → End
  Broke : (cause : Cause) (frame : ℕ) → End
  Dropped : End
  LineFault : End
  DiskFault : (count : ℕ) → End
  LedgerFull : End
  Quiet : End
  Endless : End
  TurnedAway : End
  NoMemory : End

abbrev pub end_text : EndCode → End
end_text V.Finished = Finished
end_text (V.PeerError text) = PeerError text.list
end_text V.PeerBusy = PeerBusy
end_text (V.BadPassword wanted given) = BadPassword wanted.list given.list
end_text (V.Broke cause frame) = Broke cause frame
end_text V.Dropped = Dropped
end_text V.LineFault = LineFault
end_text (V.DiskFault count) = DiskFault count
end_text V.LedgerFull = LedgerFull
end_text V.Quiet = Quiet
end_text V.Endless = Endless
end_text V.TurnedAway = TurnedAway
end_text V.NoMemory = NoMemory
