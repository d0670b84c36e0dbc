use Rattle.std.proofs.Common.{◌≡◌, List, Bool, map, sym, ◌∙◌, ap, arith}
use Rattle.std.specs.Prelude.{find, option_map}
use Rattle.ftn_addr.specs.Address.{Address, address}
use Rattle.ftn_addr.specs.Files.{is_same}
use Rattle.ftn_addr.specs.Key.{Key, key_of}
use Rattle.ledger_rec.specs.Fold.{new_entry}
use Rattle.ledger_rec.specs.Items.{Entry}
use Rattle.ledger_rec.specs.Record.{NewFileText, new_file}
use Rattle.ledger_rec.specs.declared.record.NewFileRec.{NewFileRec}
use Rattle.node_store.specs.Planned.{queued_in}
use Rattle.node_store.proofs.Known.{find_here, find_next, find_end}
use Rattle.node_store.proofs.PlanLemmas.{find_mapped, mapped_twice}
use Rattle.node_store.proofs.planning.number_fresh.Goals as goal

abbrev of : Address → Key → NewFileRec → Bool
of dest key x = is_same dest key (address x.dest) (key_of x.key)

seen : (dest : Address) (key : Key) (items : List NewFileRec) → option_map (λ (x : NewFileRec). x.number) (find (of dest key) items) ≡ option_map (λ (e : Entry). e.number) (queued_in dest key (map new_entry (map new_file items)))
seen dest key items = let p = of dest key in sym (ap (option_map (λ (e : Entry). e.number)) (find_mapped (λ (e : Entry). is_same dest key e.dest e.key) new_entry (map new_file items) ∙ ap (option_map new_entry) (find_mapped (λ (f : NewFileText). is_same dest key f.dest f.key) new_file items)) ∙ mapped_twice (λ (e : Entry). e.number) new_entry (option_map new_file (find p items)) ∙ mapped_twice (λ (f : NewFileText). f.number) new_file (find p items))

pub returns-then-is_of : goal.returns-then-is_of
returns-then-is_of c =
    let p = of (address c.args.file.now.dest) (key_of c.args.file.now.key) in
    let here = find_here p c.args.fresh.now c.loop-item.item-index c.item-item.result c.loop-item-test.true c.item-item.is (sym c.is_of.ensures ∙ c.if-is_of.true) in
    ap (option_map (λ (x : NewFileRec). x.number)) (sym here ∙ c.loop-item.invariant) ∙ seen (address c.args.file.now.dest) (key_of c.args.file.now.key) c.args.fresh.now

pub loop-item-preserved : goal.loop-item-preserved
loop-item-preserved c =
    let p = of (address c.args.file.now.dest) (key_of c.args.file.now.key) in
    find_next p c.args.fresh.now c.loop-item.item-index c.item-item.result c.loop-item-test.true c.item-item.is (sym c.is_of.ensures ∙ c.if-is_of.false) ∙ c.loop-item.invariant

pub returns : goal.returns
returns c =
    let p = of (address c.args.file.now.dest) (key_of c.args.file.now.key) in
    ap (option_map (λ (x : NewFileRec). x.number)) (sym (find_end p c.args.fresh.now c.loop-item.item-index (omega arith)) ∙ c.loop-item.invariant) ∙ seen (address c.args.file.now.dest) (key_of c.args.file.now.key) c.args.fresh.now
