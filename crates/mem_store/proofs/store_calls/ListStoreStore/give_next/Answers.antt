use Rattle.std.proofs.Common.{◌≡◌, List, true, ◌∙◌, ap, subst}
use Rattle.ftn_addr.specs.Content.{Content}
use Rattle.node_model.specs.Items.{Receipt}
use Rattle.node_model.specs.Lists.{Member}
use Rattle.node_model.specs.Outside.{BothInUse, inbound_for}
use Rattle.node_model.specs.SendRows.{NextGiven, may_go}
use Rattle.mem_store.specs.contracts.list_store.ListStore.{the_view}
use Rattle.mem_store.specs.ListStates.{ListState}
use Rattle.mem_store.specs.Outsiders.{Placed, IsPlanned, outside_of, with_file}
use Rattle.mem_store.proofs.Kept.{from_called}
use Rattle.mem_store.proofs.OutsideCalls.{gives, gives_none, holds, receipt_there, order_given, chosen_list}
use Rattle.mem_store.proofs.Outsiding.{same_there}
use Rattle.mem_store.proofs.Reading.{receipt_at}
use Rattle.mem_store.proofs.store_calls.ListStoreStore.give_next.Goals as goal

pub returns-in_default-clause-kept : goal.returns-in_default-clause-kept
returns-in_default-clause-kept c =
    let mid = c.count_call.new.self in
    let inbox : c.as_slice.result.now ≡ mid.inbox = c.as_slice.ensures.value ∙ ap (λ (s : ListState). s.inbox) c.self.view_is in
    from_called _ _ _ _ _ c.in_ok-count_call.ensures.ok (gives_none mid c.args.inbound.now.list c.args.nonsecure.now.list (subst (λ (rs : List Receipt). (r : Receipt) → Member r rs → may_go r ≡ true → ⊥) inbox c.in_default.ensures))

pub place_of_receipt-place-requires : goal.place_of_receipt-place-requires
place_of_receipt-place-requires c =
    let s = the_view c.self.inside in
    rw c.as_slice-2.ensures.value (receipt_there s c.in-Some.number (subst (λ (rs : List Receipt). NextGiven c.in-Some.number s.last_given rs) c.as_slice.ensures.value c.in-Some.ensures))

pub returns-in_default-plan-clause-kept : goal.returns-in_default-plan-clause-kept
returns-in_default-plan-clause-kept c =
    let s = the_view c.self.inside in
    let place = c.place_of_receipt-place.result in
    let x = c.index-2.result.now in
    let folder = c.folder-folder.result.now.list in
    let at = receipt_at s c.in-Some.number place x c.as_slice-2.result.now c.self.invariant.0 c.as_slice-2.ensures.value c.place_of_receipt-place.ensures.first c.place_of_receipt-place.ensures.within c.index-2.ensures in
    let next : NextGiven c.in-Some.number s.last_given s.inbox = subst (λ (rs : List Receipt). NextGiven c.in-Some.number s.last_given rs) c.as_slice.ensures.value c.in-Some.ensures in
    let first : c.index.result.now ≡ x = same_there s.inbox place c.index.result.now x at.within c.index.ensures c.index-2.ensures in
    let goes : folder ≡ inbound_for x.secure c.args.inbound.now.list c.args.nonsecure.now.list = ap (λ (b : Content). b.list) c.folder-folder.ensures ∙ (chosen_list c.index.result.now.secure c.args.inbound.now c.args.nonsecure.now ∙ ap (λ (r : Receipt). inbound_for r.secure c.args.inbound.now.list c.args.nonsecure.now.list) first) in
    let told = rw c.in_default-plan.is at c.in_ok-plan.ensures in
    let both : BothInUse folder x.number x.key.name (outside_of s.outside) = subst (λ (fs : List Placed). BothInUse folder x.number x.key.name (outside_of fs)) c.as_slice-3.ensures.value told in
    from_called _ _ _ _ _ (c.self.view_is ∙ c.in_ok-count_call.ensures.ok) (holds s c.args.inbound.now.list c.args.nonsecure.now.list c.in-Some.number place x folder at goes both next)

pub invariant_of-self-2 : goal.invariant_of-self-2
invariant_of-self-2 c =
    let s = the_view c.self.inside in
    let at = receipt_at s c.in-Some.number c.place_of_receipt-place.result c.index_mut.result.now c.as_slice-2.result.now c.self.invariant.0 c.as_slice-2.ensures.value c.place_of_receipt-place.ensures.first c.place_of_receipt-place.ensures.within c.index_mut.ensures.value in (
      order_given s c.in-Some.number _ c.index_mut.result.now c.give.new.self at c.give.ensures,
      record {
        receipts = c.self.invariant.1.receipts;
        records = c.self.invariant.1.records;
        places_left = c.self.invariant.1.places_left;
      },
    )

pub returns-clause-kept : goal.returns-clause-kept
returns-clause-kept c =
    let s = the_view c.self.inside in
    let place = c.place_of_receipt-place.result in
    let x = c.index_mut.result.now in
    let folder = c.folder-folder.result.now.list in
    let file = c.in-Some-plan.plan.file in
    let gift = c.in-Some-plan.plan.gift in
    let at = receipt_at s c.in-Some.number place x c.as_slice-2.result.now c.self.invariant.0 c.as_slice-2.ensures.value c.place_of_receipt-place.ensures.first c.place_of_receipt-place.ensures.within c.index_mut.ensures.value in
    let next : NextGiven c.in-Some.number s.last_given s.inbox = subst (λ (rs : List Receipt). NextGiven c.in-Some.number s.last_given rs) c.as_slice.ensures.value c.in-Some.ensures in
    let first : c.index.result.now ≡ x = same_there s.inbox place c.index.result.now x at.within c.index.ensures c.index_mut.ensures.value in
    let second : c.index-2.result.now ≡ x = same_there s.inbox place c.index-2.result.now x at.within c.index-2.ensures c.index_mut.ensures.value in
    let goes : folder ≡ inbound_for x.secure c.args.inbound.now.list c.args.nonsecure.now.list = ap (λ (b : Content). b.list) c.folder-folder.ensures ∙ (chosen_list c.index.result.now.secure c.args.inbound.now c.args.nonsecure.now ∙ ap (λ (r : Receipt). inbound_for r.secure c.args.inbound.now.list c.args.nonsecure.now.list) first) in
    let told = rw c.in-Some-plan.is at c.in_ok-plan.ensures in
    let planned : IsPlanned x folder (outside_of s.outside) file gift = subst (λ (r : Receipt). IsPlanned r folder (outside_of s.outside) file gift) second (subst (λ (fs : List Placed). IsPlanned c.index-2.result.now folder (outside_of fs) file gift) c.as_slice-3.ensures.value told) in
    let outside : c.put_file.new.files.items ≡ with_file file s.outside = c.put_file.ensures ∙ ap (with_file file) c.make_room.ensures.items in
    rw (c.in_ok-add.ensures.ok, outside) (from_called _ _ _ _ _ (c.self.view_is ∙ c.in_ok-count_call.ensures.ok) (gives s c.args.inbound.now.list c.args.nonsecure.now.list c.in-Some.number place x c.give.new.self folder file gift at c.give.ensures goes planned next))
