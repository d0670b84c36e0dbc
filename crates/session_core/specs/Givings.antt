-- What became of an own turn.
use Rattle.session_core.specs.declared.ending.Gave.{Gave as GaveCode}
use Rattle.session_core.specs.declared.ending.Gave.TheVariants as V
use Rattle.session_core.specs.Ends.{End, end_text}

pub data Gave : Type 0 where
  Sent : Gave
  Waits : Gave
  Ended : (end : End) → Gave

abbrev pub gave_text : GaveCode → Gave
gave_text V.Sent = Sent
gave_text V.Waits = Waits
gave_text (V.Ended end) = Ended (end_text end)
