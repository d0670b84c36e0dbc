use Rattle.std.proofs.Common.{◌-◌, ℕ, length, min, take, refl, sym, ◌∙◌, ap, subst}
use Rattle.node_model.specs.Calls.{Read_call, Refused, Read, Disk}
use Rattle.node_model.specs.StoreWords.{size_of_entry}
use Rattle.node_model.specs.Stores.{IsLive}
use Rattle.hub_core.specs.Hubs.{HubState, hub_state}
use Rattle.hub_core.specs.HubCalls.{Does}
use Rattle.hub_core.specs.Indices.{ClaimsOf}
use Rattle.hub_core.proofs.Claiming.{counted_finds}
use Rattle.node_model.specs.declared.store.StoreFault.{StoreFault}
use Rattle.node_model.specs.declared.store.StoreFault.TheVariants as D
use Rattle.hub_core.specs.Sending.{ReadFailed, ReadRefused}
use Rattle.hub_core.proofs.ReadSteps.{read_does, read_broken, read_failed, claimed_number, live_now, size_now}
use Rattle.hub_core.specs.Holders.{HoldsOf}
use Rattle.hub_core.proofs.HoldSteps.{counted_holds}
use Rattle.hub_core.proofs.hub.Hub.read_now.Goals as goal

pub read_entry-requires-clause-live : goal.read_entry-requires-clause-live
read_entry-requires-clause-live g c =
    let v = g.S.Store.stand c.args.self.now.store in
    let h = hub_state c.args.self.now.seats in
    subst (λ (n : ℕ). IsLive n v.state) (sym (claimed_number h c.args.seat c.requires.claimed c.in-Some.number c.in-Some.ensures))
    (live_now v h c.args.seat c.requires.claimed c.requires.turn)

pub returns-in-Ok-clause-does : goal.returns-in-Ok-clause-does
returns-in-Ok-clause-does g c =
    let v = g.S.Store.stand c.args.self.now.store in
    let w = g.S.Store.stand c.read_entry.new.store in
    let h = hub_state c.args.self.now.seats in
    read_does v w h c.args.seat c.requires.claimed c.in-Some.number c.args.at (length c.args.out.now) (take c.in-Ok.count c.read_entry.new.out) c.requires.turn
    (claimed_number h c.args.seat c.requires.claimed c.in-Some.number c.in-Some.ensures)
    c.in-Ok.ensures.ok c.read_entry.ensures.leaves c.read_entry.ensures.settled

pub returns-in-Ok-clause-length : goal.returns-in-Ok-clause-length
returns-in-Ok-clause-length g c =
    let v = g.S.Store.stand c.args.self.now.store in
    let h = hub_state c.args.self.now.seats in
    c.in-Ok.ensures.length
    ∙ ap (λ (n : ℕ). min (length c.args.out.now) (n - c.args.at)) (ap (λ (n : ℕ). size_of_entry n v.state.stock.state.queue) (claimed_number h c.args.seat c.requires.claimed c.in-Some.number c.in-Some.ensures) ∙ size_now v h c.args.seat c.requires.claimed c.requires.turn)

pub returns-in-Err-Read-clause-does : goal.returns-in-Err-Read-clause-does
returns-in-Err-Read-clause-does g c =
    let v = g.S.Store.stand c.args.self.now.store in
    let w = g.S.Store.stand c.read_entry.new.store in
    let h = hub_state c.args.self.now.seats in
    let call = Read_call c.args.at (length c.args.out.now) in
    let failed : ReadFailed v.state w.state = subst (λ (f : StoreFault). ReadRefused f v.state w.state) c.in-Err-Read.field-0-is c.in-Err-Read.ensures.err in
    subst (λ (n : ℕ). Does v h c.args.seat call (Refused (Read n)) w (hub_state c.count_read.new.self)) (sym c.faults.ensures)
    (subst (λ (k : HubState). Does v h c.args.seat call (Refused (Read w.state.counts.faults)) w k) (sym c.count_read.ensures)
    (read_failed v w h c.args.seat c.args.at (length c.args.out.now) c.requires.turn failed c.read_entry.ensures.leaves c.read_entry.ensures.settled))

pub returns-in-Err-Disk-clause-does : goal.returns-in-Err-Disk-clause-does
returns-in-Err-Disk-clause-does g c =
    let v = g.S.Store.stand c.args.self.now.store in
    let w = g.S.Store.stand c.read_entry.new.store in
    let h = hub_state c.args.self.now.seats in
    let call = Read_call c.args.at (length c.args.out.now) in
    let broke : ReadRefused D.Disk v.state w.state = subst (λ (f : StoreFault). ReadRefused f v.state w.state) c.in-Err-Disk.field-0-is c.in-Err-Disk.ensures.err in
    subst (λ (n : ℕ). Does v h c.args.seat call (Refused (Disk n)) w h) (sym c.faults-in-Err-Disk.ensures)
    (read_broken v w h c.args.seat c.args.at (length c.args.out.now) c.requires.turn broke c.read_entry.ensures.leaves)

pub invariant_of-self-in-Err-Read : goal.invariant_of-self-in-Err-Read
invariant_of-self-in-Err-Read g c =
    let h = hub_state c.args.self.now.seats in
    record { claimed = subst (λ (k : HubState). ClaimsOf c.args.self.now.claims k.chairs) (sym c.count_read.ensures) (counted_finds c.args.self.now.claims h c.args.seat _ c.args.self.now.claimed refl); held = subst (λ (k : HubState). HoldsOf c.args.self.now.holds k.chairs) (sym c.count_read.ensures) (counted_holds c.args.self.now.holds h c.args.seat _ c.args.self.now.held refl) }
