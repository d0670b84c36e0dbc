use Rattle.std.proofs.Common.{rules, ◌≡◌, inr, ℕ, List, Some, length, sym, ◌∙◌, ap}
use Rattle.std.specs.Prelude.{option_map}
use Rattle.nodelist_files.specs.Files.{index_name}
use Rattle.nodelist_files.proofs.IndexBytes.{has_fault, has_nodes, too_long}
use Rattle.nodelist_files.proofs.Whole.{still_read}
use Rattle.nodelist_files.proofs.index_file.read_index.Goals as goal

pub returns-then-len-gt-MOST_BYTES-clause-answer : goal.returns-then-len-gt-MOST_BYTES-clause-answer
returns-then-len-gt-MOST_BYTES-clause-answer g c = λ w read.
    let told = sym c.in-Some.is ∙ c.in_ok-len.ensures.told w read ∙ ap (λ (n : List ℕ). option_map length (w.own n)) c.index_file-name.ensures in
    inr (too_long (w.own index_name) c.in-Some.len told c.if-len-gt-MOST_BYTES.true)

pub returns-in-Ok-clause-answer : goal.returns-in-Ok-clause-answer
returns-in-Ok-clause-answer g c = λ w read.
    let same : c.deref.result.now ≡ c.in_ok-bytes.bytes.items = search rules in
    let there = ap w.own (sym c.index_file-name.ensures) ∙ c.in_ok-bytes.ensures.bytes w (still_read g.D.Disk.tells g.D.Disk.content g.D.Disk.files g.met.D.Disk.reads g.met.D.Disk.told c.args.disk.now c.stat.new.self c.stat.ensures.read w read) ∙ ap Some (sym same) in
    has_nodes (w.own index_name) c.deref.result.now there c.in-Ok.index c.in-Ok.ensures

pub returns-clause-answer : goal.returns-clause-answer
returns-clause-answer g c = λ w read.
    let same : c.deref.result.now ≡ c.in_ok-bytes.bytes.items = search rules in
    let there = ap w.own (sym c.index_file-name.ensures) ∙ c.in_ok-bytes.ensures.bytes w (still_read g.D.Disk.tells g.D.Disk.content g.D.Disk.files g.met.D.Disk.reads g.met.D.Disk.told c.args.disk.now c.stat.new.self c.stat.ensures.read w read) ∙ ap Some (sym same) in
    has_fault (w.own index_name) c.deref.result.now there c.in-Err.fault c.in-Err.ensures
