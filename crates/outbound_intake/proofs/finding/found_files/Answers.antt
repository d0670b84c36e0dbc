use Rattle.std.proofs.Common.{◌∙◌, ⊎_elim, [], List, ℕ, map, refl, sym, subst, take}
use Rattle.std.proofs.lemmas.List.{take_all}
use Rattle.std.proofs.lemmas.List.Sorted.{IsPermutation-sym}
use Rattle.ftn_addr.specs.Address.{address}
use Rattle.ftn_addr.specs.declared.byte_list.Bytes.{Bytes}
use Rattle.node_model.specs.Lists.{Member}
use Rattle.outbound_take.proofs.RuledLemmas.{ruled_none, ruled_on}
use Rattle.outbound_intake.specs.declared.words.Found.{Found}
use Rattle.outbound_intake.specs.Files.{AreFor, FindsFor, FoldersFor, IsInOne, StandsSo, files_of}
use Rattle.outbound_intake.proofs.AskLemmas.{asks_calm, asks_none, asks_on, asks_told}
use Rattle.outbound_intake.proofs.FileLemmas.{files_there, finds_folders, finds_nothing, taken_more, there_at}
use Rattle.outbound_intake.proofs.finding.found_files.Goals as goal

pub loop-folder-init : goal.loop-folder-init
loop-folder-init g c = record {
  ruled = ruled_none _ _ _ refl;
  asks = asks_none _ _ (asks_calm _ _ _ c.in-Ok.ensures.asks tt) (c.in-Ok.ensures.asks.memory tt).broken;
  finds = λ s tells named. subst (λ (fs : List Found). FindsFor c.args.outbound.now.base.now.list c.args.outbound.now.zone c.args.outbound.now.home.now.domain.list (address c.args.dest.now) (StandsSo s.outside (IsInOne [])) [] (files_of fs)) (sym c.new-found.ensures.items)
      (finds_nothing c.args.outbound.now.base.now.list c.args.outbound.now.zone c.args.outbound.now.home.now.domain.list (address c.args.dest.now) (StandsSo s.outside (IsInOne [])) [] (λ path of. of.0.1));
  only = subst (λ (fs : List Found). AreFor c.args.outbound.now.base.now.list c.args.outbound.now.zone c.args.outbound.now.home.now.domain.list (address c.args.dest.now) (files_of fs)) (sym c.new-found.ensures.items) (λ file none. absurd none);
}

pub add_files-requires-clause-whole : goal.add_files-requires-clause-whole
add_files-requires-clause-whole g c = (c.loop-folder.invariant.asks.memory tt).broken

pub returns-in-Err-add_files-clause-asks : goal.returns-in-Err-add_files-clause-asks
returns-in-Err-add_files-clause-asks g c = asks_on _ _ _ _ _ c.in-Ok.ensures.asks tt (asks_on _ _ _ _ _ c.loop-folder.invariant.asks tt c.in-Err-add_files.ensures.asks)

pub loop-folder-preserved : goal.loop-folder-preserved
loop-folder-preserved g c = record {
  ruled = ruled_on _ _ _ _ c.loop-folder.invariant.ruled c.in-Ok-add_files.ensures.ruled;
  asks = asks_on _ _ _ _ _ c.loop-folder.invariant.asks tt c.in-Ok-add_files.ensures.asks;
  finds = λ s tells named.
      let items = c.deref-folder-items.result.now in
      let there : Member c.folder-item.result.list (map (λ folder. folder.list) items) = there_at (λ (b : Bytes). b.list) items c.loop-folder.folder-index c.folder-item.result c.loop-folder-test.true c.folder-item.is in
      subst (λ (l : List (List ℕ)). FindsFor c.args.outbound.now.base.now.list c.args.outbound.now.zone c.args.outbound.now.home.now.domain.list (address c.args.dest.now) (StandsSo s.outside (IsInOne l)) [] (files_of c.add_files.new.found.items)) (sym (taken_more (λ (b : Bytes). b.list) items c.loop-folder.folder-index c.folder-item.result c.loop-folder-test.true c.folder-item.is))
      (finds_folders c.args.outbound.now.base.now.list c.args.outbound.now.zone c.args.outbound.now.home.now.domain.list (address c.args.dest.now) s.outside (map (λ folder. folder.list) (take c.loop-folder.folder-index items)) c.folder-item.result.list [] (files_of c.loop-folder.found.items) (files_of c.add_files.new.found.items)
      (c.loop-folder.invariant.finds s tells named) (c.in-Ok-add_files.ensures.finds s (asks_told _ _ _ c.loop-folder.invariant.asks tt ∙ tells) (named c.folder-item.result.list there)));
  only = λ file there. ⊎_elim (λ (before : Member file (files_of c.loop-folder.found.items)). c.loop-folder.invariant.only file before) (λ named. named) (c.in-Ok-add_files.ensures.only file there);
}

pub returns-in-Ok-put_in_order-clause-asks : goal.returns-in-Ok-put_in_order-clause-asks
returns-in-Ok-put_in_order-clause-asks g c = asks_on _ _ _ _ _ c.in-Ok.ensures.asks tt c.loop-folder.invariant.asks

pub returns-in-Ok-put_in_order-clause-all : goal.returns-in-Ok-put_in_order-clause-all
returns-in-Ok-put_in_order-clause-all g c = λ s tells path kind f file stands.
    let items = c.deref-folder-items.result.now in
    let folders = subst (λ (l : List Bytes). FoldersFor c.args.outbound.now.base.now.list c.args.outbound.now.zone c.args.outbound.now.home.now.domain.list (address c.args.dest.now) s.outside (map (λ folder. folder.list) l)) (sym c.deref-folder-items.ensures.value) (c.in-Ok.ensures.folders s tells) in
    let finds = subst (λ (l : List Bytes). FindsFor c.args.outbound.now.base.now.list c.args.outbound.now.zone c.args.outbound.now.home.now.domain.list (address c.args.dest.now) (StandsSo s.outside (IsInOne (map (λ folder. folder.list) l))) [] (files_of c.loop-folder.found.items)) (take_all c.loop-folder.folder-index items c.loop-folder-test.false)
    (c.loop-folder.invariant.finds s (asks_told _ _ _ c.in-Ok.ensures.asks tt ∙ tells) folders.named) in
    files_there _ _ (path, kind) c.in-Ok-put_in_order.ensures.same (finds.all path kind (folders.all path kind f file stands, (file, stands)) f.names)

pub returns-in-Ok-put_in_order-clause-only : goal.returns-in-Ok-put_in_order-clause-only
returns-in-Ok-put_in_order-clause-only g c = λ file there. c.loop-folder.invariant.only file (files_there _ _ file (IsPermutation-sym _ _ c.in-Ok-put_in_order.ensures.same) there)

pub returns-clause-asks : goal.returns-clause-asks
returns-clause-asks g c = asks_on _ _ _ _ _ c.in-Ok.ensures.asks tt c.loop-folder.invariant.asks

pub returns-in-Err-add_files-clause-ruled : goal.returns-in-Err-add_files-clause-ruled
returns-in-Err-add_files-clause-ruled g c = ruled_on _ _ _ _ c.in-Ok.ensures.ruled (ruled_on _ _ _ _ c.loop-folder.invariant.ruled c.in-Err-add_files.ensures.ruled)

pub returns-in-Ok-put_in_order-clause-ruled : goal.returns-in-Ok-put_in_order-clause-ruled
returns-in-Ok-put_in_order-clause-ruled g c = ruled_on _ _ _ _ c.in-Ok.ensures.ruled c.loop-folder.invariant.ruled

pub returns-clause-ruled : goal.returns-clause-ruled
returns-clause-ruled g c = ruled_on _ _ _ _ c.in-Ok.ensures.ruled c.loop-folder.invariant.ruled
