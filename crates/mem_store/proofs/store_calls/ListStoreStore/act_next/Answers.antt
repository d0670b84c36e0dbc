use Rattle.std.proofs.Common.{◌≡◌, ◌≤◌, ◌<◌, ◌+◌, List, true, ◌++◌, length, ◌∙◌, ap, subst, arith}
use Rattle.ftn_addr.specs.Address.{address}
use Rattle.node_model.specs.declared.words.TheConstants.{MOST_RECORDS}
use Rattle.node_model.specs.Items.{Entry}
use Rattle.node_model.specs.Lists.{Member}
use Rattle.node_model.specs.Node.{Logged, Acted_record}
use Rattle.node_model.specs.Outside.{source_acted}
use Rattle.node_model.specs.Rows.{by}
use Rattle.node_model.specs.SendRows.{NextActed, waits_for_action}
use Rattle.mem_store.specs.contracts.list_store.ListStore.{the_view}
use Rattle.mem_store.specs.ListStates.{ListState}
use Rattle.mem_store.specs.Outsiders.{outside_of}
use Rattle.mem_store.proofs.Kept.{from_called}
use Rattle.mem_store.proofs.OutsideCalls.{acts, acts_none, acts_full, entry_there, order_acted}
use Rattle.mem_store.proofs.Outsiding.{same_there}
use Rattle.mem_store.proofs.Reading.{entry_at}
use Rattle.mem_store.proofs.store_calls.ListStoreStore.act_next.Goals as goal

pub returns-in_default-clause-kept : goal.returns-in_default-clause-kept
returns-in_default-clause-kept c =
    let mid = c.count_call.new.self in
    let queue : c.as_slice.result.now ≡ mid.queue = c.as_slice.ensures.value ∙ ap (λ (s : ListState). s.queue) c.self.view_is in
    from_called _ _ _ _ _ c.in_ok-count_call.ensures.ok (acts_none mid (address c.args.dest.now) (subst (λ (es : List Entry). (e : Entry) → Member e es → e.dest ≡ address c.args.dest.now → waits_for_action e ≡ true → ⊥) queue c.in_default.ensures))

pub returns-then-held-from-clause-kept : goal.returns-then-held-from-clause-kept
returns-then-held-from-clause-kept c =
    let mid = c.count_call.new.self in
    let queue : c.as_slice.result.now ≡ mid.queue = c.as_slice.ensures.value ∙ ap (λ (s : ListState). s.queue) c.self.view_is in
    let next : NextActed (address c.args.dest.now) c.in-Some.number mid.queue = subst (λ (es : List Entry). NextActed (address c.args.dest.now) c.in-Some.number es) queue c.in-Some.ensures in
    let s = the_view c.self.inside in
    let over' : MOST_RECORDS < length s.log + s.reserved + 1 = omega (arith, c.if-held-from.true, c.len.ensures, c.from.ensures, c.from-2.ensures, c.self.inside.log.ok.0) in
    let over : MOST_RECORDS < length mid.log + mid.reserved + 1 = subst (λ (z : ListState). MOST_RECORDS < length z.log + z.reserved + 1) c.self.view_is over' in
    rw (c.find_full.ensures.full, c.find_full.ensures.after) (from_called _ _ _ _ _ c.in_ok-count_call.ensures.ok (acts_full mid (address c.args.dest.now) c.in-Some.number next over))

pub place_of_entry-place-requires : goal.place_of_entry-place-requires
place_of_entry-place-requires c =
    let s = the_view c.self.inside in
    rw c.as_slice-2.ensures.value (entry_there s (address c.args.dest.now) c.in-Some.number (subst (λ (es : List Entry). NextActed (address c.args.dest.now) c.in-Some.number es) c.as_slice.ensures.value c.in-Some.ensures))

pub invariant_of-self-2 : goal.invariant_of-self-2
invariant_of-self-2 c =
    let s = the_view c.self.inside in
    let at = entry_at s c.in-Some.number c.place_of_entry-place.result c.index_mut.result.now c.as_slice-2.result.now c.self.invariant.0 c.as_slice-2.ensures.value c.place_of_entry-place.ensures.first c.place_of_entry-place.ensures.within c.index_mut.ensures.value in (
      order_acted s c.in-Some.number _ c.index_mut.result.now c.act.new.self at c.act.ensures,
      record {
        receipts = c.self.invariant.1.receipts;
        records = omega (arith, c.append.ensures.len, c.append.ensures.capacity, c.in_ok-make_room-2.ensures.ok);
        places_left = c.self.invariant.1.places_left;
      },
    )

pub returns-clause-kept : goal.returns-clause-kept
returns-clause-kept c =
    let s = the_view c.self.inside in
    let x = c.index_mut.result.now in
    let at = entry_at s c.in-Some.number c.place_of_entry-place.result x c.as_slice-2.result.now c.self.invariant.0 c.as_slice-2.ensures.value c.place_of_entry-place.ensures.first c.place_of_entry-place.ensures.within c.index_mut.ensures.value in
    let next : NextActed (address c.args.dest.now) c.in-Some.number s.queue = subst (λ (es : List Entry). NextActed (address c.args.dest.now) c.in-Some.number es) c.as_slice.ensures.value c.in-Some.ensures in
    let same : c.index-2.result.now ≡ x = same_there s.queue c.place_of_entry-place.result c.index-2.result.now x at.within c.index-2.ensures c.index_mut.ensures.value in
    let out : outside_of c.act_on_source.new.files.items ≡ source_acted x c.in_ok-empty.empty.file.time (outside_of s.outside) = c.act_on_source.ensures ∙ (λ j. source_acted (same j) c.in_ok-empty.empty.file.time (outside_of (c.make_room.ensures.items j))) in
    let log : c.append.new.log.items ≡ s.log ++ by s.seat (Acted_record c.in-Some.number) = c.append.ensures.items ∙ ap (λ (l : List Logged). l ++ by s.seat (Acted_record c.in-Some.number)) c.make_room-2.ensures.items in
    let room : length s.log + s.reserved + 1 ≤ MOST_RECORDS = omega (arith, c.if-held-from.false, c.len.ensures, c.from.ensures, c.from-2.ensures, c.self.inside.log.ok.0) in
    rw log (from_called _ _ _ _ _ (c.self.view_is ∙ c.in_ok-count_call.ensures.ok) (acts s (address c.args.dest.now) c.in-Some.number c.place_of_entry-place.result x c.act.new.self c.act_on_source.new.files.items c.in_ok-empty.empty.file.time at c.act.ensures out next room))
