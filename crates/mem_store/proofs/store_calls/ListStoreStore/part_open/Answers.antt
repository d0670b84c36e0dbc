use Rattle.std.proofs.Common.{◌≡◌, ◌+◌, length, ◌∙◌, ap, subst, arith}
use Rattle.std.proofs.lemmas.List.{length_push}
use Rattle.ftn_addr.specs.Address.{address}
use Rattle.ftn_addr.specs.Key.{key_of}
use Rattle.node_model.specs.declared.store.StoreFault.TheVariants.{Full}
use Rattle.node_model.specs.Stores.{StoreKept, Part_open, Refuses}
use Rattle.mem_store.specs.ListStates.{ListState, found_full, stand_of}
use Rattle.mem_store.specs.contracts.list_store.ListStore.{the_view}
use Rattle.mem_store.proofs.Kept.{from_called}
use Rattle.mem_store.proofs.Opening.{opens_again, opens_new, opens_full, order_again, order_open, file_at, no_file_at, part_at}
use Rattle.mem_store.proofs.store_calls.ListStoreStore.part_open.Goals as goal

pub invariant_of-self : goal.invariant_of-self
invariant_of-self c =
    let s = the_view c.self.inside in
    let at = file_at s (address c.args.from.now) (key_of c.args.key.now) c.in-Some.place c.as_slice.result.now _ c.self.invariant.0 c.as_slice.ensures.value c.place_of_file.ensures c.in-Some.is in
    let items = c.open_again.ensures.items (part_at s.parts c.in-Some.place) at.0.is in
    let same : length c.open_again.new.parts.items ≡ length s.parts = omega (arith, c.open_again.ensures.len, c.open_again.new.parts.ok.0, c.self.inside.parts.ok.0) in
    (rw items (order_again s c.in-Some.place (part_at s.parts c.in-Some.place) at.0), rw same c.self.invariant.1)

pub returns-in-Some-clause-kept : goal.returns-in-Some-clause-kept
returns-in-Some-clause-kept c =
    let s = the_view c.self.inside in
    let at = file_at s (address c.args.from.now) (key_of c.args.key.now) c.in-Some.place c.as_slice.result.now _ c.self.invariant.0 c.as_slice.ensures.value c.place_of_file.ensures c.in-Some.is in
    let x = part_at s.parts c.in-Some.place in
    let items = c.open_again.ensures.items x at.0.is in
    let answer = c.open_again.ensures.at x at.0.is in
    rw (items, answer) (from_called _ _ _ _ _ (c.self.view_is ∙ c.in_ok-count_call.ensures.ok) (opens_again s (address c.args.from.now) (key_of c.args.key.now) c.in-Some.place x at.0 at.1 (c.open_again.ensures.within x at.0.is) (omega (arith, c.self.ranges))))

pub returns-then-self-clause-kept : goal.returns-then-self-clause-kept
returns-then-self-clause-kept c =
    let s = the_view c.self.inside in
    let none = no_file_at s (address c.args.from.now) (key_of c.args.key.now) c.as_slice.result.now _ c.as_slice.ensures.value c.place_of_file.ensures c.in_default.is in
    rw (c.find_full.ensures.full, c.find_full.ensures.after) (subst (λ (z : ListState). StoreKept (stand_of c.args.self.now) (Part_open (address c.args.from.now) (key_of c.args.key.now)) (Refuses Full) (stand_of (found_full z))) c.self.view_is (from_called _ _ _ _ _ (c.self.view_is ∙ c.in_ok-count_call.ensures.ok) (opens_full s (address c.args.from.now) (key_of c.args.key.now) c.self.invariant.0 none c.if-self.true)))

pub invariant_of-self-2 : goal.invariant_of-self-2
invariant_of-self-2 c =
    let s = the_view c.self.inside in
    let none = no_file_at s (address c.args.from.now) (key_of c.args.key.now) c.as_slice.result.now _ c.as_slice.ensures.value c.place_of_file.ensures c.in_default.is in
    let long : length c.add.new.list.items ≡ length s.parts + 1 = ap length c.in_ok-add.ensures.ok ∙ length_push s.parts c.in_ok-part.part in (
      rw (c.make_room.ensures.items, c.in_ok-add.ensures.ok) (order_open s (address c.args.from.now) (key_of c.args.key.now) c.in_ok-part.part c.self.invariant.0 c.in_ok-part.ensures none),
      record {
        receipts = omega (arith, long, c.in_ok-make_room.ensures.ok, c.len.ensures, c.self.inside.parts.ok.0);
        records = c.self.invariant.1.records;
        places_left = c.self.invariant.1.places_left;
      },
    )

pub returns-clause-kept : goal.returns-clause-kept
returns-clause-kept c =
    let s = the_view c.self.inside in
    let none = no_file_at s (address c.args.from.now) (key_of c.args.key.now) c.as_slice.result.now _ c.as_slice.ensures.value c.place_of_file.ensures c.in_default.is in
    rw (c.make_room.ensures.items, c.in_ok-add.ensures.ok) (from_called _ _ _ _ _ (c.self.view_is ∙ c.in_ok-count_call.ensures.ok) (opens_new s (address c.args.from.now) (key_of c.args.key.now) c.in_ok-part.part c.self.invariant.0 c.in_ok-part.ensures none (omega (arith, c.self.ranges, c.if-self.false))))
