-- Frames and commands, and the login's rows.
use Rattle.std.proofs.Common.{◌≡◌, ℕ, Option, Result, Ok, Bool, List, [], ◌∷◌, arith, sym, ap, subst}
use Rattle.std.proofs.lemmas.List.Elements.{All-head}
use Rattle.ftn_addr.specs.Address.{Address}
use Rattle.ftn_addr.specs.Frames.{FrameText, Command as CommandFrame, Data as DataFrame}
use Rattle.ftn_addr.specs.Limits.{IsAddress}
use Rattle.binkp_args.specs.Command.{CommandText, command_of}
use Rattle.binkp_args.specs.Limits.{AreAddresses}
use Rattle.binkp_args.specs.declared.fault.ArgFault.{ArgFault}
use Rattle.node_model.specs.Calls.{Event}
use Rattle.node_model.specs.Images.{Stand}
use Rattle.session_auth.specs.declared.auth.Auth.{Auth}
use Rattle.session_core.specs.declared.stage.Stage.{Stage as CodeStage}
use Rattle.session_core.specs.declared.stage.Stage.TheVariants as K
use Rattle.session_core.specs.Takings.{Took}
use Rattle.session_core.specs.Stages.{Setting, Stage, Login, Tally, Told, home_of, nothing_yet}
use Rattle.session_core.specs.Sessions.{CommandRow, DataRow, ReadRow, Reply, Row}
use Rattle.session_core.specs.Replies.{MadeRow, stage_with, tally_at}

-- the home is within the limits of an address
pub home_within : (own : List Address) → AreAddresses own → IsAddress (home_of own)
home_within [] are = absurd (omega (arith, are.some))
home_within (home ∷ others) are = All-head IsAddress home others are.each

-- an argument that was read
pub read_row : (s : Setting) (n : ℕ) (stage stage' : Stage) (read : Result CommandText ArgFault) (command : CommandText) (alone : Bool) (old new : Stand) (was now : Told) (out out' : List ℕ) (took : Took) → read ≡ Ok command → MadeRow (CommandRow s n stage command) alone old new was now stage' out out' took → MadeRow (ReadRow s n stage read) alone old new was now stage' out out' took
read_row s n stage stage' read command alone old new was now out out' took e m = subst (λ (x : Result CommandText ArgFault). MadeRow (ReadRow s n stage x) alone old new was now stage' out out' took) (sym e) m

-- the same row, by what a stage was seen to be
abbrev pub telling : Option Login → Tally → Told
telling login tally = record { login = login; tally = tally }

pub command_at : (s : Setting) (n : ℕ) (auth : Auth) (seen here : CodeStage) (command : CommandText) (alone : Bool) (old new : Stand) (login : Option Login) (now : Told) (stage : Stage) (out out' : List ℕ) (took : Took) → seen ≡ here → MadeRow (CommandRow s n (stage_with auth seen) command) alone old new (telling login (tally_at seen)) now stage out out' took → MadeRow (CommandRow s n (stage_with auth here) command) alone old new (telling login (tally_at here)) now stage out out' took
command_at s n auth seen here command alone old new login now stage out out' took e m = subst (λ (x : CodeStage). MadeRow (CommandRow s n (stage_with auth x) command) alone old new (telling login (tally_at x)) now stage out out' took) e m

-- nothing is counted at the login
pub early_told : (stage : CodeStage) (login : Option Login) → stage ≡ K.LogsIn → telling login (tally_at stage) ≡ telling login nothing_yet
early_told stage login e = ap (λ (x : CodeStage). telling login (tally_at x)) e

-- the same, by what was told before
pub made_from : (P : List Event → Reply → Type 0) (alone : Bool) (old new : Stand) (seen was now : Told) (stage : Stage) (out out' : List ℕ) (took : Took) → seen ≡ was → MadeRow P alone old new seen now stage out out' took → MadeRow P alone old new was now stage out out' took
made_from P alone old new seen was now stage out out' took e m = subst (λ (x : Told). MadeRow P alone old new x now stage out out' took) e m

-- The row of a frame is that of what it has, and its number is told.

pub command_frame : (s : Setting) (n n' : ℕ) (here : Stage) (frame : FrameText) (number : ℕ) (args : List ℕ) (alone : Bool) (old new : Stand) (was now : Told) (stage : Stage) (out out' : List ℕ) (took : Took) → frame ≡ CommandFrame number args → n' ≡ n → MadeRow (ReadRow s n here (command_of s.home number args)) alone old new was now stage out out' took → MadeRow (Row s n' here frame) alone old new was now stage out out' took
command_frame s n n' here frame number args alone old new was now stage out out' took f e m = subst (λ (x : FrameText). MadeRow (Row s n' here x) alone old new was now stage out out' took) (sym f) (subst (λ (x : ℕ). MadeRow (ReadRow s x here (command_of s.home number args)) alone old new was now stage out out' took) (sym e) m)

pub data_frame : (s : Setting) (n n' : ℕ) (here : Stage) (frame : FrameText) (bytes : List ℕ) (alone : Bool) (old new : Stand) (was now : Told) (stage : Stage) (out out' : List ℕ) (took : Took) → frame ≡ DataFrame bytes → n' ≡ n → MadeRow (DataRow n here bytes) alone old new was now stage out out' took → MadeRow (Row s n' here frame) alone old new was now stage out out' took
data_frame s n n' here frame bytes alone old new was now stage out out' took f e m = subst (λ (x : FrameText). MadeRow (Row s n' here x) alone old new was now stage out out' took) (sym f) (subst (λ (x : ℕ). MadeRow (DataRow x here bytes) alone old new was now stage out out' took) (sym e) m)
