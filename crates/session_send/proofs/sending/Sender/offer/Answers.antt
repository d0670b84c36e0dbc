use Rattle.std.proofs.Common.{Some, refl, ap, inl, inr}
use Rattle.ftn_addr.specs.Key.{key_of}
use Rattle.node_model.specs.Desks.{DeskPart}
use Rattle.node_model.specs.Talk.{Sending}
use Rattle.session_send.proofs.Stepping.{offered, none_offered, offer_refused}
use Rattle.session_send.proofs.sending.Sender.offer.Goals as goal

pub say_file-said-requires : goal.say_file-said-requires
say_file-said-requires g c =
    let went = rw c.in-Ok-File.field-0-is at c.in-Ok-File.ensures in
    went.limits (record { number = c.in-Ok-File.number; key = key_of c.in-Ok-File.key }) (ap (λ (p : DeskPart). p.claim) went.part)

pub from_place-requires-clause-limits : goal.from_place-requires-clause-limits
from_place-requires-clause-limits g c =
    let went = rw c.in-Ok-File.field-0-is at c.in-Ok-File.ensures in
    went.limits (record { number = c.in-Ok-File.number; key = key_of c.in-Ok-File.key }) (ap (λ (p : DeskPart). p.claim) went.part)

pub returns-in-Ok-clause-row : goal.returns-in-Ok-clause-row
returns-in-Ok-clause-row g c =
    let went = rw c.in-Ok-File.field-0-is at c.in-Ok-File.ensures in
    offered _ c.in-Ok-File.number (key_of c.in-Ok-File.key) _ _ _ _ _ _ _ (ap (λ (x : Sending). Some x) c.from_place.ensures) went.made (inl (refl, c.in-Ok.ensures.ok))

pub returns-in-Err-said-clause-row : goal.returns-in-Err-said-clause-row
returns-in-Err-said-clause-row g c =
    let went = rw c.in-Ok-File.field-0-is at c.in-Ok-File.ensures in
    offered _ c.in-Ok-File.number (key_of c.in-Ok-File.key) _ _ _ _ _ _ _ (ap (λ (x : Sending). Some x) c.from_place.ensures) went.made (inr (refl, c.in-Err-said.ensures.err))

pub returns-in-Ok-Nothing-clause-row : goal.returns-in-Ok-Nothing-clause-row
returns-in-Ok-Nothing-clause-row g c =
    let went = rw c.in-Ok-Nothing.field-0-is at c.in-Ok-Nothing.ensures in
    none_offered _ _ _ _ _ _ c.requires.idle went.made

pub returns-in-Err-clause-row : goal.returns-in-Err-clause-row
returns-in-Err-clause-row g c = offer_refused _ _ c.in-Err.fault _ _ _ _ c.requires.idle c.in-Err.ensures.made
