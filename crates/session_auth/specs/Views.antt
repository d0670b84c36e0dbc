-- A login of the code, without where it lies in memory, and how it keeps to the definitions.
use Rattle.std.specs.Prelude.{◌≡◌, ℕ, List, map, ◌++◌, Result, Ok, Err}
use Rattle.ftn_addr.specs.Address.{address}
use Rattle.ftn_addr.specs.declared.refusals.NoMemory.{NoMemory}
use Rattle.cram_md5.specs.Offer.{Absent}
use Rattle.cram_md5.specs.Views.{offered}
use Rattle.mail_conf.specs.Conf.{ConfText}
use Rattle.session_auth.specs.declared.auth.Auth.{Auth}
use Rattle.session_auth.specs.declared.side.Side.{Side as SideCode}
use Rattle.session_auth.specs.declared.stage.Stage.{Stage as StageCode}
use Rattle.session_auth.specs.declared.stage.Stage.TheVariants as S
use Rattle.session_auth.specs.declared.steps.AuthStep.{AuthStep}
use Rattle.session_auth.specs.declared.steps.AuthStep.TheVariants as A
use Rattle.session_auth.specs.Login.{Terms, Stage, Awaits_address, Awaits_password, Awaits_word, Step, More, In, Bad_password, Peer_error, Peer_busy, Broke, Reply}
use Rattle.session_auth.specs.Says.{said_bytes}
use Rattle.session_auth.specs.Sides.{side_of}

abbrev pub stage_of : StageCode → Stage
stage_of (S.AwaitsAddress offer) = Awaits_address (offered offer)
stage_of (S.AwaitsPassword peers) = Awaits_password (map address peers.addresses.items)
stage_of (S.AwaitsWord peers secure) = Awaits_word (map address peers.addresses.items) secure

abbrev pub stage_in : Auth → Stage
stage_in auth = stage_of auth.stage

abbrev pub terms_of : Auth → ConfText → Terms
terms_of auth conf = record { side = side_of auth.side; challenge = auth.challenge; conf = conf }

-- a step, with the stage of a login that goes on
abbrev pub step_of : Auth → AuthStep → Step
step_of auth A.More = More (stage_of auth.stage)
step_of auth (A.In login) = In (map address login.peers.items) login.secure
step_of auth (A.BadPassword wanted given) = Bad_password wanted.list given.list
step_of auth (A.PeerError text) = Peer_error text.list
step_of auth A.PeerBusy = Peer_busy
step_of auth (A.Broke fault) = Broke fault

-- all of a reply was said, and became of the command what it says
pub record Replies (reply : Reply) (old new : List ℕ) (auth : Auth) (step : AuthStep) : Type 0 where
  pub said_is : new ≡ old ++ said_bytes reply.said
  pub step_is : step_of auth step ≡ reply.step

-- or, for want of memory, nothing was said
abbrev pub Takes : Reply → List ℕ → List ℕ → Auth → Result AuthStep NoMemory → Type 0
Takes reply old new auth (Ok step) = Replies reply old new auth step
Takes reply old new auth (Err fault) = new ≡ old

-- a login that was begun: before the peer's addresses, with no offer
pub record Begins (side : SideCode) (challenge : List ℕ) (auth : Auth) : Type 0 where
  pub side_is : side_of auth.side ≡ side_of side
  pub challenge_is : auth.challenge ≡ challenge
  pub stage_is : stage_of auth.stage ≡ Awaits_address Absent

-- what a login goes by stays
pub record Keeps (old new : Auth) : Type 0 where
  pub side_is : side_of new.side ≡ side_of old.side
  pub challenge_is : new.challenge ≡ old.challenge
