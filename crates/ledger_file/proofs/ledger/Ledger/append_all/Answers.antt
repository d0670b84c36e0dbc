use Rattle.std.proofs.Common.{rules, arith, ◌≡◌, ◌+◌, ◌≤◌, length, ap, true, false, length-append}
use Rattle.std.proofs.lemmas.List.{length-map}
use Rattle.ftn_addr.specs.Content.{Content}
use Rattle.ledger_file.specs.Text.{lists, records}
use Rattle.ledger_file.specs.declared.fault.AppendFault.TheVariants.{Disk}
use Rattle.ledger_file.proofs.CountLemmas.{of_errs, has_room, places_left}
use Rattle.ledger_file.proofs.RecordLemmas.{length-records}
use Rattle.ledger_file.proofs.ledger.Ledger.append_all.Goals as goal

pub returns-in_err-make_room-clause-reserved : goal.returns-in_err-make_room-clause-reserved
returns-in_err-make_room-clause-reserved g c =
    let sized = length-records (lists c.args.payloads.now) c.requires.sizes in
    let counted = length-map c.args.payloads.now (λ (b : Content). b.list) in
    let view : c.self.inside.reserved ≡ c.args.self.now.reserved = search rules in
    of_errs c.from_residual.result (λ fault. length c.args.payloads.now ≤ c.args.self.now.reserved → fault ≡ Disk) (λ fault few.
    let never : false ≡ true = c.in_err-make_room.ensures.within (omega (arith, sized, counted, c.bytes_of.ensures, view, c.self.invariant.0)) (omega (arith, view, c.self.invariant.1)) in
    absurd (cc never))

pub invariant_of-self-2 : goal.invariant_of-self-2
invariant_of-self-2 g c =
    let sized = length-records (lists c.args.payloads.now) c.requires.sizes in
    let counted = length-map c.args.payloads.now (λ (b : Content). b.list) in
    let kept = c.in_ok-keep_behind.ensures.kept in
    let reserved : c.self.inside.reserved ≡ c.args.self.now.reserved = search rules in
    let payloads : c.self.inside.records.payloads ≡ c.args.self.now.payloads = search rules in
    let few = has_room (length c.args.self.now.payloads) c.args.self.now.reserved (length c.args.payloads.now) c.if-is_full_for.ensures.1 in
    let added : length c.push_all.new.self.payloads ≡ length c.self.inside.records.payloads + length c.args.payloads.now = omega (arith, ap length c.push_all.ensures.added, ap length c.in_ok-make_room.ensures.same, length-append c.make_room.new.self.payloads (lists c.args.payloads.now), counted) in
    places_left (length c.self.inside.records.payloads) c.self.inside.reserved (length c.args.payloads.now) c.keep_behind.new.reserved c.self.inside.records.spare c.self.inside.records.slots
    c.keep_behind.new.held.spare c.keep_behind.new.held.slots (length (records (lists c.args.payloads.now))) (length c.keep_behind.new.held.payloads)
    c.self.invariant.0 c.self.invariant.1 (omega (arith, few, reserved, ap length payloads)) (omega (arith, sized, counted))
    (omega (arith, ap (λ h. h.spare) kept, c.push_all.ensures.spare, c.in_ok-make_room.ensures.spare))
    (omega (arith, ap (λ h. h.slots) kept, c.push_all.ensures.slots, c.in_ok-make_room.ensures.slots))
    (omega (arith, c.in_ok-keep_behind.ensures.places, added, c.count-count.ensures))
    (omega (arith, ap (λ h. length h.payloads) kept, added))
