-- Files that were looked through are those that the fold speaks of, and what a stop leaves is what is read.
use Rattle.std.proofs.Common.{◌≡◌, ℕ, List, [], ◌∷◌, Option, Some, None, true, refl, sym, ◌∙◌, subst}
use Rattle.std.specs.List.{AllByRecursion}
use Rattle.disk_model.specs.World.{World}
use Rattle.disk_model.specs.Changes.{Every, SameAt}
use Rattle.disk_model.specs.Moments.{Now}
use Rattle.ledger_file.specs.Ledger.{LedgerIs}
use Rattle.ledger_rec.specs.Fold.{State}
use Rattle.ledger_rec.specs.Items.{Entry, Receipt, PartMark}
use Rattle.ledger_rec.specs.Payloads.{fold_of}
use Rattle.node_model.specs.Lists.{Member}
use Rattle.node_store.specs.Keeping.{IsUntouched, Beside, IsKeptEntry, IsKeptMark, IsKeptReceipt, IsKeptState, HasBadEntry, HasBadMark, HasBadReceipt}
use Rattle.node_store.specs.Names.{in_name, out_name}
use Rattle.node_store.specs.Tending.{HasSameFront, IsNear, IsTended, Mirrors}
use Rattle.node_store.specs.Worlds.{HasLength, HasFront, HasNoOther, HasFiles, IsBadFile, Of_entry, Of_mark, Of_receipt}
use Rattle.node_store.proofs.Alike.{all_by}
use Rattle.node_store.proofs.Untouched.{untouched-now, beside-later}

kept_files : (s : State) (f : World) → IsKeptState s f f → HasFiles s f
kept_files s f k = record {
  live = all_by (λ (e : Entry). IsKeptEntry e f f) (λ (e : Entry). e.live ≡ true → HasLength (out_name e.number) e.key.size f) (λ e kept live. (kept live).0) s.queue k.queue;
  marked = all_by (λ (m : PartMark). IsKeptMark m f f) (λ (m : PartMark). HasFront (in_name m.number) m.len f) (λ m kept. kept.0) s.marks k.marks;
  received = all_by (λ (r : Receipt). IsKeptReceipt r f f) (λ (r : Receipt). HasNoOther (in_name r.number) r.key.size f) (λ r kept. kept.0) s.inbox k.inbox;
}

same_receipt : (r : Receipt) (f c : World) → IsKeptReceipt r f c → (f.own (in_name r.number) ≡ None → c.own (in_name r.number) ≡ None) → SameAt (in_name r.number) f c
same_receipt r f c kept absent = go (f.own (in_name r.number)) refl
  where
    go : (o : Option (List ℕ)) → f.own (in_name r.number) ≡ o → c.own (in_name r.number) ≡ f.own (in_name r.number)
    go None is = absent is ∙ sym is
    go (Some b) is = kept.1 b is

same_receipts : (rs : List Receipt) (f c : World) → AllByRecursion (λ (r : Receipt). IsKeptReceipt r f c) rs → AllByRecursion (λ (r : Receipt). f.own (in_name r.number) ≡ None → c.own (in_name r.number) ≡ None) rs
    → AllByRecursion (λ (r : Receipt). SameAt (in_name r.number) f c) rs
same_receipts [] f c kept absent = tt
same_receipts (r ∷ rs) f c kept absent = (same_receipt r f c kept.0 absent.0, same_receipts rs f c kept.1 absent.1)

kept_mirrors : (s : State) (f c : World) → IsKeptState s f c → IsNear s f c → Mirrors s f c
kept_mirrors s f c k near = record {
  live = all_by (λ (e : Entry). IsKeptEntry e f c) (λ (e : Entry). e.live ≡ true → SameAt (out_name e.number) f c) (λ e kept live. (kept live).1) s.queue k.queue;
  received = same_receipts s.inbox f c k.inbox near.absent;
  marked = all_by (λ (m : PartMark). IsKeptMark m f c) (λ (m : PartMark). HasSameFront (in_name m.number) m.len f c) (λ m kept b is long. (b, kept.1 ∙ is, refl)) s.marks k.marks;
  takes = near.takes;
  outside = near.outside;
  gifts = near.gifts;
}

pub tended_kept : {D : Type 0} (files : D → World → Type 0) (moment : D → ℕ) (images : D → ℕ → World → Type 0) (as_read : (d : D) (w : World) → files d w → Now moment images d w) (payloads : List (List ℕ)) (s : State) (old new : D)
    → fold_of payloads ≡ Some s → Every (Now moment images old) (LedgerIs payloads) → Beside files moment images (IsNear s) old → IsUntouched files moment images old new → Beside files moment images (IsKeptState s) new → IsTended files moment images payloads s new
tended_kept files moment images as_read payloads s old new folds ledger near u kept = record {
  folds = folds;
  ledger = λ c now. ledger c (untouched-now files moment images old new u c now);
  fits = λ f read. kept_files s f (kept.both f f read (as_read new f read));
  same = record { both = λ f c read now. kept_mirrors s f c (kept.both f c read now) ((beside-later files moment images (IsNear s) old new u near).both f c read now) };
}

-- a file that doesn't fit is bad

pub bad_entry : (read : World → Type 0) (s : State) (es : List Entry) (name : List ℕ) → es ≡ s.queue → HasBadEntry read es name → Every read (λ f. IsBadFile s f name)
bad_entry read s es name same h f is = Of_entry h.e (subst (Member h.e) same h.there) h.live h.named (h.bad f is)

pub bad_marked : (read : World → Type 0) (s : State) (ms : List PartMark) (name : List ℕ) → ms ≡ s.marks → HasBadMark read ms name → Every read (λ f. IsBadFile s f name)
bad_marked read s ms name same h f is = Of_mark h.m (subst (Member h.m) same h.there) h.named (h.bad f is)

pub bad_received : (read : World → Type 0) (s : State) (rs : List Receipt) (name : List ℕ) → rs ≡ s.inbox → HasBadReceipt read rs name → Every read (λ f. IsBadFile s f name)
bad_received read s rs name same h f is = Of_receipt h.r (subst (Member h.r) same h.there) h.named (h.bad f is)
