-- What contracts see of a `Frame`.
use Rattle.std.specs.Prelude.{◌≡◌, List, ◌++◌, map}
use Rattle.ftn_addr.specs.Frames.{FrameText, Command, Data}
use Rattle.binkp_frame.specs.declared.frame.Frame.{Frame}
use Rattle.binkp_frame.specs.declared.frame.Frame.TheVariants as code

abbrev pub frame_text : Frame → FrameText
frame_text (code.Command number args) = Command number args.list
frame_text (code.Data bytes) = Data bytes.list

abbrev pub frame_texts : List Frame → List FrameText
frame_texts frames = map frame_text frames

-- new is old with more behind it
abbrev pub Extends : List Frame → List Frame → Type 0
Extends old new = (more : List Frame) × (new ≡ old ++ more)
