use Rattle.std.proofs.Common.{◌≡◌, ◌+◌, ℕ, List, [], ◌∷◌, ◌++◌, map, take, sym, ◌∙◌, ap, subst}
use Rattle.std.proofs.lemmas.List.{take_more}
use Rattle.disk_model.specs.Changes.{Stands, SameAt}
use Rattle.disk_model.proofs.MomentLemmas.{same_now}
use Rattle.ledger_rec.specs.Record.{NewFileText, new_file}
use Rattle.ledger_rec.specs.declared.record.NewFileRec.{NewFileRec}
use Rattle.node_store.specs.Names.{out_name}
use Rattle.node_store.specs.Planned.{AllSynced}
use Rattle.node_store.specs.Recording.{IsSynced}
use Rattle.node_store.proofs.Listed.{all_last}
use Rattle.node_store.proofs.Mirrors.{map-append}
use Rattle.node_store.proofs.PlanLemmas.{all_at}
use Rattle.node_store.proofs.Syncing.{all_mapped, one_more}
use Rattle.node_store.proofs.recording.sync_all.Goals as goal

pub sync-requires : goal.sync-requires
sync-requires g c = λ w read.
    let x = c.file-item.result in
    subst (λ (k : List ℕ). Stands k 0 w) (sym c.out_file.ensures)
    (all_at (λ (f : NewFileRec). Stands (out_name f.number) 0 w) c.args.files.now c.loop-file.file-index x
    (all_mapped (λ (f : NewFileText). Stands (out_name f.number) 0 w) new_file c.args.files.now (c.requires.stand w (c.loop-file.invariant.1 w read))) c.loop-file-test.true c.file-item.is)

pub loop-file-preserved : goal.loop-file-preserved
loop-file-preserved g c =
    let files = c.args.files.now in
    let i = c.loop-file.file-index in
    let x = c.file-item.result in
    let inv = c.loop-file.invariant in
    let old = g.D.Disk.files c.args.disk.now in
    let more : take (i + 1) files ≡ take i files ++ x ∷ [] = take_more files i x c.loop-file-test.true ∙ ap (λ (y : NewFileRec). take i files ++ y ∷ []) (sym c.file-item.is) in
    let mapped : map new_file (take (i + 1) files) ≡ map new_file (take i files) ++ new_file x ∷ [] = ap (map new_file) more ∙ map-append new_file (take i files) (x ∷ []) in (
      one_more g.D.Disk.moment g.D.Disk.images c.args.disk.now c.loop-file.disk c.sync.new.self inv.0 c.sync.ensures.stop,
      λ w read. inv.1 w (c.sync.ensures.read w read),
      c.in_ok-sync.ensures.cause.calm ∙ inv.2,
      λ w image.
          let s = c.in_ok-sync.ensures.durable w image in
          let here : IsSynced old (out_name x.number) w = (s.0, inv.1 s.0 s.1, subst (λ (k : List ℕ). SameAt k s.0 w) c.out_file.ensures s.2) in
          subst (λ (l : List NewFileText). AllSynced old l w) (sym mapped)
          (all_last (λ (f : NewFileText). IsSynced old (out_name f.number) w) (map new_file (take i files)) (new_file x) (inv.3 w (same_now g.D.Disk.moment g.D.Disk.images c.loop-file.disk c.sync.new.self c.sync.ensures.stop w image)) here),
    )
