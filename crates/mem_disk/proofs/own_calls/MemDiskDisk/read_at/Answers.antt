use Rattle.std.proofs.Common.{◌≡◌, ℕ, ◌+◌, ◌≤◌, List, length, take, drop, Some, refl, sym, ◌∙◌, subst}
use Rattle.std.specs.Prelude.{IfSome}
use Rattle.mem_disk.specs.Holding.{Holding, shown, under}
use Rattle.mem_disk.proofs.PlayLemmas.{told_by}
use Rattle.mem_disk.proofs.OwnLemmas.{read_of}
use Rattle.mem_disk.proofs.own_calls.MemDiskDisk.read_at.Goals as goal

pub returns-clause-told : goal.returns-clause-told
returns-clause-told c =
    let old = c.args.self.now in
    let name = c.args.name.now in
    let fits = c.requires (shown old.held) refl in
    told_by old (λ w. (b : List ℕ) → w.own name ≡ Some b → c.read.new.out ≡ take (length c.args.out.now) (drop c.args.at b))
    (λ b is.
    let same : fits.0 ≡ b = cc (sym fits.1 ∙ is) in
    let told = subst (λ (h : Holding). IfSome (under name h.own) (λ f. c.args.at + length c.args.out.now ≤ length f.written → c.read.new.out ≡ take (length c.args.out.now) (drop c.args.at f.written))) c.in_ok-pass.ensures.held c.read.ensures in
    read_of (under name old.held.own) c.args.at (length c.args.out.now) c.read.new.out told b is (subst (λ (l : List ℕ). c.args.at + length c.args.out.now ≤ length l) same fits.2))
