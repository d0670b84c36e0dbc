-- Each part holds after every run.
use Rattle.world_pair.specs.World.{Place}
use Rattle.world_pair.specs.Law.{AfterEveryRun}
use Rattle.world_pair.specs.Invariant.{Carries}
use Rattle.world_pair.specs.Offers.{Accounts}
use Rattle.world_pair.specs.Parts.{EntriesAreFiles, ReceiptsAreWhole, AcknowledgementsStand, PartsAreFronts, DataGoesOn, SettledStand, OffersAreAccounted, EventsKeep}
use Rattle.world_pair.proofs.Events.{event_keeps}
use Rattle.world_pair.proofs.Runs.{run_keeps}
use Rattle.world_pair.proofs.AccountEvents.{own_accounts, peer_accounts}
use Rattle.world_pair.proofs.Complete.{run_accounts}

-- a part that follows from what is carried and accounted for
each_way : (P : Place → Place → Type 0) → ((X Y : Place) → Carries X Y → Accounts X → P X Y) → AfterEveryRun P
each_way P part n w v begins reached agree back =
    let h = run_keeps n w v begins reached agree back in
    let a = run_accounts n w v begins reached agree back in
    (part v.x v.y h.out a.0, part v.y v.x h.back a.1)

pub entries_are_files : AfterEveryRun EntriesAreFiles
entries_are_files = each_way EntriesAreFiles (λ X Y h a. record { entries = h.outbound; files = a.queued })

pub receipts_are_whole : AfterEveryRun ReceiptsAreWhole
receipts_are_whole = each_way ReceiptsAreWhole (λ X Y h a. h.inbound.items)

pub acknowledgements_stand : AfterEveryRun AcknowledgementsStand
acknowledgements_stand = each_way AcknowledgementsStand (λ X Y h a. λ line. (h.lines line).gots)

pub parts_are_fronts : AfterEveryRun PartsAreFronts
parts_are_fronts = each_way PartsAreFronts (λ X Y h a. record { marks = h.inbound.marks; held = h.inbound.each_hold; apart = h.inbound.apart })

pub data_goes_on : AfterEveryRun DataGoesOn
data_goes_on = each_way DataGoesOn (λ X Y h a. record { files = λ line. (h.lines line).flow; held = λ line. (h.lines line).taken })

pub settled_stand : AfterEveryRun SettledStand
settled_stand = each_way SettledStand (λ X Y h a. h.settled)

pub offers_are_accounted : AfterEveryRun OffersAreAccounted
offers_are_accounted = each_way OffersAreAccounted (λ X Y h a. record { peers = h.peers; claims = λ line. (h.lines line).claims; ended = λ line. (h.lines line).ended; offers = a.offers })

pub events_keep : EventsKeep
events_keep me peer me' peer' event agree back h =
    record {
      invariant = event_keeps me peer me' peer' event agree back h.invariant;
      accounts = own_accounts me peer me' peer' event h.invariant h.accounts;
      accounts_there = peer_accounts me peer me' peer' event h.accounts_there;
    }
