use Rattle.std.proofs.Common.{◌≡◌, List, [], ◌∷◌, ◌++◌, ◌∙◌, ap, arith}
use Rattle.ftn_addr.specs.Address.{address}
use Rattle.ftn_addr.specs.Key.{key_of}
use Rattle.node_model.specs.Items.{Refusal}
use Rattle.node_model.specs.Node.{Record, Refused_record}
use Rattle.node_model.specs.Rows.{by}
use Rattle.mem_store.specs.contracts.list_store.ListStore.{the_view}
use Rattle.mem_store.proofs.Kept.{from_called}
use Rattle.mem_store.proofs.PartCalls.{refuses_file, order_refuse}
use Rattle.mem_store.proofs.store_calls.ListStoreStore.refuse.Goals as goal

pub invariant_of-self-2 : goal.invariant_of-self-2
invariant_of-self-2 c =
    let s = the_view c.self.inside in (
      rw c.close_file.ensures.items (order_refuse s (address c.args.from.now) (key_of c.args.key.now) c.self.invariant.0),
      record {
        receipts = omega (arith, c.self.invariant.1.receipts, c.close_file.ensures.len, c.close_file.new.parts.ok.0, c.self.inside.parts.ok.0);
        records = omega (arith, c.self.invariant.1.records, c.append.ensures.len, c.append.ensures.capacity);
        places_left = omega (arith, c.self.invariant.1.places_left);
      },
    )

pub returns-clause-kept : goal.returns-clause-kept
returns-clause-kept c =
    let s = the_view c.self.inside in
    let log : c.append.new.log.items ≡ s.log ++ by s.seat (Refused_record (address c.args.from.now) (key_of c.args.key.now) c.args.session c.args.reason) = c.append.ensures.items ∙ ap (λ (r : Record). s.log ++ by s.seat r) c.in_ok-record.ensures in
    let refusals : c.put.new.list.items ≡ s.refused ++ c.in_ok-file.file ∷ [] = c.put.ensures.items ∙ ap (λ (l : List Refusal). l ++ c.in_ok-file.file ∷ []) c.make_room.ensures.items in
    rw (log, refusals, c.close_file.ensures.items) (from_called _ _ _ _ _ (c.self.view_is ∙ c.in_ok-count_call.ensures.ok) (refuses_file s (address c.args.from.now) (key_of c.args.key.now) c.args.session c.args.reason c.in_ok-file.file c.self.invariant.0 c.in_ok-file.ensures))
