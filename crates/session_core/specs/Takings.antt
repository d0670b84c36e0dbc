-- What became of a frame.
use Rattle.session_core.specs.declared.ending.Took.{Took as TookCode}
use Rattle.session_core.specs.declared.ending.Took.TheVariants as V
use Rattle.session_core.specs.Ends.{End, end_text}

pub data Took : Type 0 where
  More : Took
  Ended : (end : End) → Took

abbrev pub took_text : TookCode → Took
took_text V.More = More
took_text (V.Ended end) = Ended (end_text end)
