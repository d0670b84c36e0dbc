use Rattle.std.proofs.Common.{[], ◌∙◌, List, ℕ, ap, map, rules, sym, subst, take}
use Rattle.std.proofs.lemmas.List.{map-append}
use Rattle.ftn_addr.specs.declared.byte_list.Bytes.{Bytes}
use Rattle.outbound_intake.specs.Files.{AddsFolders, NamesSo}
use Rattle.outbound_intake.proofs.FileLemmas.{taken_more}
use Rattle.outbound_intake.proofs.FolderLemmas.{folders_more, folders_pass}
use Rattle.bso_outbound.proofs.Texts.{other_word_is, same_word_is}
use Rattle.outbound_intake.proofs.folders.named_among.Goals as goal

pub loop-name-preserved-then-not-is_same_word : goal.loop-name-preserved-then-not-is_same_word
loop-name-preserved-then-not-is_same_word c =
    subst (λ (l : List (List ℕ)). AddsFolders c.args.above.now.list (NamesSo c.args.whole.now.list) l [] (map (λ folder. folder.list) c.loop-name.folders.items)) (sym (taken_more (λ name. name.list) c.args.names.now c.loop-name.name-index c.name-item.result c.loop-name-test.true c.name-item.is))
    (folders_pass c.args.above.now.list (NamesSo c.args.whole.now.list) (map (λ name. name.list) (take c.loop-name.name-index c.args.names.now)) c.name-item.result.list [] (map (λ folder. folder.list) c.loop-name.folders.items) (other_word_is _ _ (search rules)) c.loop-name.invariant)

pub loop-name-preserved : goal.loop-name-preserved
loop-name-preserved c =
    subst (λ (l : List (List ℕ)). AddsFolders c.args.above.now.list (NamesSo c.args.whole.now.list) l [] (map (λ folder. folder.list) c.push.new.self.items)) (sym (taken_more (λ name. name.list) c.args.names.now c.loop-name.name-index c.name-item.result c.loop-name-test.true c.name-item.is))
    (folders_more c.args.above.now.list (NamesSo c.args.whole.now.list) (map (λ name. name.list) (take c.loop-name.name-index c.args.names.now)) c.name-item.result.list c.in_ok-path_in.field-0.list [] (map (λ folder. folder.list) c.loop-name.folders.items) (map (λ folder. folder.list) c.push.new.self.items) (same_word_is _ _ (search rules)) (search rules)
    (ap (map (λ folder. folder.list)) c.in_ok-push.ensures.items ∙ map-append (λ (b : Bytes). b.list) c.loop-name.folders.items _) c.loop-name.invariant)
