-- Giving a received file: what is known before the call of the disk, and what each answer leaves.
use Rattle.std.proofs.Common.{◌≡◌, ◌≢◌, inl, inr, ℕ, ◌==◌, ◌<◌, ◌^◌, List, [], length, map, Option, Some, None, Bool, true, false, not, ◌&&◌, ◌||◌, refl, sym, ◌∙◌, ap, subst, arith}
use Rattle.std.specs.Prelude.{find, option_map, IsSome, if◌then◌else◌}
use Rattle.disk_model.specs.World as W
use Rattle.disk_model.specs.World.{World}
use Rattle.disk_model.specs.Changes.{Every, Stands, Gives}
use Rattle.disk_model.specs.Folders.{path_in, IsInUse}
use Rattle.ledger_rec.specs.Fold.{is_among}
use Rattle.ledger_rec.specs.Items.{Receipt, receipt}
use Rattle.ledger_rec.specs.declared.items.InboxItem.{InboxItem}
use Rattle.ledger_rec.specs.Order.{IsApartFrom}
use Rattle.node_model.specs.Items as N
use Rattle.node_model.specs.Lists.{Member}
use Rattle.node_model.specs.Outside as Out
use Rattle.node_model.specs.Outside.{OutFile, BothInUse, GivenAs, Plainly, By_number, inbound_for, plain_name, numbered_name}
use Rattle.node_model.specs.SendRows.{NextGiven, is_request}
use Rattle.node_model.specs.StoreStates.{Shelf, PartFile}
use Rattle.node_model.proofs.Lists.{some_inj, none_some, off, and_true, Each-member}
use Rattle.node_store.specs.Contents.{Contents, receipt_by}
use Rattle.node_store.specs.Gifts.{IsTaken, IsFirstFree}
use Rattle.node_store.specs.Names.{in_name}
use Rattle.node_store.specs.Stored.{Part, Memory, front_of, told_in, sizes_in, stored_in, IsPart, IsKept, IsSound}
use Rattle.node_store.specs.Worlds.{bytes_of, or_else, gift_of, is_absent, contents_in, out_file_of, outside_in, HasLength, HasNoOther, HasFiles}
use Rattle.node_store.proofs.Alike.{all_by}
use Rattle.node_store.proofs.Found.{seen_from, seen_there, views_agree, only_one, is_found, found_is}
use Rattle.node_store.proofs.GiftTold.{IsApart}
use Rattle.node_store.proofs.GiftWorld.{GaveAway, gave_away}
use Rattle.node_store.proofs.GivenFiles.{and_false, flags_listed}
use Rattle.node_store.proofs.Numbered.{numbered_fold, orderly_fold}
use Rattle.node_store.proofs.TellAlike.{front_whole}

-- A path is in use outside, as the disk and as the store say it.

pub to_disk : (path : List ℕ) (w : World) → Out.IsInUse path (outside_in w) → IsInUse path w.outside
to_disk path w u = go (w.outside u.at) refl u.stands
  where
    go : (o : Option W.OutFile) → w.outside u.at ≡ o → option_map out_file_of o ≡ Some u.file → IsInUse path w.outside
    go None is none = none_some none
    go (Some f) is some = record { at = u.at; file = f; stands = is; under = u.under }

pub to_store : (path : List ℕ) (w : World) → IsInUse path w.outside → Out.IsInUse path (outside_in w)
to_store path w u = record { at = u.at; file = out_file_of u.file; stands = ap (option_map out_file_of) u.stands; under = u.under }

not_true : (b : Bool) → not b ≡ true → b ≡ false
not_true true e = off (sym e)
not_true false e = refl

-- what such a call is given: the next receipt, and that as it lies in the fold
pub record IsNext {D : Type 0} (tells : Bool) (content : D → World) (files : D → World → Type 0) (moment : D → ℕ) (images : D → ℕ → World → Type 0) (old : D) (m : Memory) (n : ℕ) (r : Receipt) : Type 0 where
  pub sound : IsSound tells content moment images old m
  pub whole : m.broken ≡ None
  pub as_read : (d : D) (w : World) → files d w → images d (moment d) w
  pub reads : (d : D) (w : World) → files d w → (tells ≡ true) × (w ≡ content d)
  pub told : tells ≡ true → (d : D) → files d (content d)
  pub next : NextGiven n m.last_given (map (receipt_by (sizes_in tells (content old) m.given)) m.books.folding.state.inbox)
  pub small : n < 2 ^ 32
  pub there : Member r m.books.folding.state.inbox
  pub numbered : r.number ≡ n

module _ {D : Type 0} (tells : Bool) (content : D → World) (files : D → World → Type 0) (moment : D → ℕ) (images : D → ℕ → World → Type 0) (old : D) (m : Memory) (n : ℕ) (r : Receipt)
    (p : IsNext tells content files moment images old m n r) where
  pub files_there : tells ≡ true → HasFiles m.books.folding.state (content old)
  files_there t = (p.sound.kept p.whole (content old) (p.as_read old (content old) (p.told t old))).files t

  -- the receipt that is told is that of the fold
  pub next_is : p.next.receipt ≡ receipt_by (sizes_in tells (content old) m.given) r
  next_is =
      let x = seen_from (receipt_by (sizes_in tells (content old) m.given)) p.next.receipt m.books.folding.state.inbox p.next.there in
      let number : x.0.number ≡ r.number = sym (ap (λ (y : N.ReceiptOf ℕ). y.number) x.2) ∙ p.next.is ∙ sym p.numbered in
      let numbered = numbered_fold m.books.payloads m.books.folding.state p.sound.memory.books.folds in
      x.2 ∙ ap (receipt_by (sizes_in tells (content old) m.given)) (only_one (λ (y : Receipt). y.number) x.0 r m.books.folding.state.inbox numbered.inbox x.1 p.there number)

  pub ungiven : is_among n m.given ≡ false
  ungiven =
      let may = and_true (not p.next.receipt.given) (not (is_request p.next.receipt.key) || p.next.receipt.answered) p.next.may in
      let flag = sym (ap (λ (y : N.ReceiptOf ℕ). y.given) next_is) ∙ not_true p.next.receipt.given may.0 in
      let listed = flags_listed tells (content old) m.given (λ t. (p.sound.bodies p.whole t).given) in
      ap (λ (k : ℕ). is_among k m.given) (sym p.numbered) ∙ sym (ap (λ (f : ℕ → Bool). f r.number) listed) ∙ flag

  pub apart : IsApart n m
  apart = record {
    parts = all_by (IsPart m.books.folding) (λ (x : Part). x.number ≢ n) (λ x part same. Each-member (λ (y : Receipt). y.number ≢ x.number) r m.books.folding.state.inbox part.received p.there (p.numbered ∙ sym same)) m.parts p.sound.memory.parts;
    marks = subst (λ (k : ℕ). IsApartFrom k m.books.folding.state.marks) p.numbered
        (Each-member (λ (y : Receipt). IsApartFrom y.number m.books.folding.state.marks) r m.books.folding.state.inbox (orderly_fold m.books.payloads m.books.folding.state p.sound.memory.books.folds).free p.there);
    ungiven = ungiven;
  }

  -- what a kept world has of the receipt is what is told
  same_bytes : (w : World) → IsKept tells (content old) m w → tells ≡ true
      → (is_absent (w.own (in_name n)) ≡ false) × (or_else (w.own (in_name n)) (gift_of (in_name n) r.key.size w.gifts) ≡ Some (front_of r.key.size (bytes_of ((content old).own (in_name n)))))
  same_bytes w kept t =
      let views = ap (λ (d : Shelf). d.state.inbox) (kept.same t) in
      let agree = views_agree (receipt_by (contents_in w)) (receipt_by (told_in (content old) m.given)) r m.books.folding.state.inbox views p.there in
      let listed : is_among r.number m.given ≡ false = ap (λ (k : ℕ). is_among k m.given) p.numbered ∙ ungiven in
      subst (λ (k : ℕ). (is_absent (w.own (in_name k)) ≡ false) × (or_else (w.own (in_name k)) (gift_of (in_name k) r.key.size w.gifts) ≡ Some (front_of r.key.size (bytes_of ((content old).own (in_name k)))))) p.numbered (
        ap (λ (y : N.Receipt). y.given) agree ∙ ap (λ (b : Bool). is_absent ((content old).own (in_name r.number)) && b) listed ∙ and_false (is_absent ((content old).own (in_name r.number))),
        ap (λ (y : N.Receipt). y.bytes) agree
            ∙ ap (λ (b : Bool). if b then or_else ((content old).own (in_name r.number)) (gift_of (in_name r.number) r.key.size (content old).gifts) else Some (front_of r.key.size (bytes_of ((content old).own (in_name r.number))))) listed,
      )

  -- the file of the receipt stands
  pub body : tells ≡ true → HasLength (in_name n) r.key.size (content old)
  body t =
      let kept = p.sound.kept p.whole (content old) (p.as_read old (content old) (p.told t old)) in
      let other = subst (λ (k : ℕ). HasNoOther (in_name k) r.key.size (content old)) p.numbered (Each-member (λ (x : Receipt). HasNoOther (in_name x.number) x.key.size (content old)) r m.books.folding.state.inbox (kept.files t).received p.there) in
      go ((content old).own (in_name n)) refl (same_bytes (content old) kept t).0 other
    where
      go : (o : Option (List ℕ)) → (content old).own (in_name n) ≡ o → is_absent o ≡ false → HasNoOther (in_name n) r.key.size (content old) → HasLength (in_name n) r.key.size (content old)
      go None is absent other = off absent
      go (Some b) is absent other = (b, is, other b is)

  pub stands_next : Every (files old) (Stands (in_name n) 0)
  stands_next w read =
      let is = p.reads old w read in
      let b = body is.0 in
      (b.0, ap (λ (v : World). v.own (in_name n)) is.1 ∙ b.1, omega arith)

  -- its bytes, of a disk that tells
  pub record HasBytes : Type 0 where
    pub bytes : List ℕ
    pub own : tells ≡ true → (content old).own (in_name n) ≡ Some bytes
    pub long : tells ≡ true → length bytes ≡ r.key.size

  pub has_bytes : HasBytes
  has_bytes = go tells refl
    where
      go : (b : Bool) → tells ≡ b → HasBytes
      go true t = let b = body t in record { bytes = b.0; own = λ _. b.1; long = λ _. b.2 }
      go false f = record { bytes = []; own = λ t. off (sym t ∙ f); long = λ t. off (sym t ∙ f) }

  -- what is given of a kept world is what is told
  pub gave_kept : (folder name : List ℕ) (time : ℕ) (d c : World) → IsKept tells (content old) m d → tells ≡ true → Gives (in_name n) folder name (path_in folder name) time d c → GaveAway n folder name time has_bytes.bytes d c
  gave_kept folder name time d c kept t g =
      let same : Some g.bytes ≡ Some (front_of r.key.size (bytes_of ((content old).own (in_name n)))) =
      sym (ap (λ (o : Option (List ℕ)). or_else o (gift_of (in_name n) r.key.size d.gifts)) g.was) ∙ (same_bytes d kept t).1 in
      let told : front_of r.key.size (bytes_of ((content old).own (in_name n))) ≡ has_bytes.bytes =
      ap (λ (o : Option (List ℕ)). front_of r.key.size (bytes_of o)) (has_bytes.own t) ∙ front_whole r.key.size has_bytes.bytes (has_bytes.long t) in
      subst (λ (b : List ℕ). GaveAway n folder name time b d c) (some_inj same ∙ told) (gave_away n folder name time d c g)

  -- its file, as it is told
  pub part_file : (t : tells ≡ true) → PartFile p.next.receipt.number has_bytes.bytes (stored_in (content old) m)
  part_file t = record {
    receipt = receipt_by (told_in (content old) m.given) r;
    there = seen_there (receipt_by (told_in (content old) m.given)) r m.books.folding.state.inbox p.there;
    numbered = p.numbered ∙ sym p.next.is;
    some =
        ap (λ (b : Bool). if b then or_else ((content old).own (in_name r.number)) (gift_of (in_name r.number) r.key.size (content old).gifts) else Some (front_of r.key.size (bytes_of ((content old).own (in_name r.number)))))
        (ap (λ (k : ℕ). is_among k m.given) p.numbered ∙ ungiven)
        ∙ ap (λ (k : ℕ). Some (front_of r.key.size (bytes_of ((content old).own (in_name k))))) p.numbered
        ∙ ap (λ (o : Option (List ℕ)). Some (front_of r.key.size (bytes_of o))) (has_bytes.own t)
        ∙ ap Some (front_whole r.key.size has_bytes.bytes (has_bytes.long t));
  }

  -- the name under which it is given
  pub given_as : (folder name : List ℕ) → tells ≡ true → Every (files old) (IsFirstFree folder (plain_name r.key.name) (numbered_name n r.key.name) name) → GivenAs folder p.next.receipt.number p.next.receipt.key.name (outside_in (content old)) name
  given_as folder name t free =
      subst (λ (y : N.ReceiptOf ℕ). GivenAs folder y.number y.key.name (outside_in (content old)) name) (sym next_is)
      (subst (λ (k : ℕ). GivenAs folder k r.key.name (outside_in (content old)) name) (sym p.numbered) (go (free (content old) (p.told t old))))
    where
      go : IsFirstFree folder (plain_name r.key.name) (numbered_name n r.key.name) name (content old) → GivenAs folder n r.key.name (outside_in (content old)) name
      go (inl h) = Plainly h.0 (λ used. h.1 (to_disk (path_in folder (plain_name r.key.name)) (content old) used))
      go (inr h) = By_number h.0 (to_store (path_in folder (plain_name r.key.name)) (content old) h.1) (λ used. h.2 (to_disk (path_in folder (numbered_name n r.key.name)) (content old) used))

  -- both its names are in use
  pub both_used : (folder : List ℕ) → Every (files old) (λ w. IsTaken folder (plain_name r.key.name) w × IsTaken folder (numbered_name n r.key.name) w) → tells ≡ true → BothInUse folder n p.next.receipt.key.name (outside_in (content old))
  both_used folder used t =
      let u = used (content old) (p.told t old) in
      subst (λ (y : N.ReceiptOf ℕ). BothInUse folder n y.key.name (outside_in (content old))) (sym next_is)
      (record { plain = to_store (path_in folder (plain_name r.key.name)) (content old) u.0; numbered = to_store (path_in folder (numbered_name n r.key.name)) (content old) u.1 })

-- the next receipt is found, and lies in the fold as it is found
pub next_found : (cs : Contents ℕ) (n last : ℕ) (items : List InboxItem) (inbox : List Receipt) → map receipt items ≡ inbox → NextGiven n last (map (receipt_by cs) inbox) → IsSome (find (λ (x : InboxItem). x.receipt == n) items)
next_found cs n last items inbox same next =
    let x = seen_from (receipt_by cs) next.receipt inbox next.there in
    let y = seen_from receipt x.0 items (subst (Member x.0) (sym same) x.1) in
    let f = is_found (λ (z : InboxItem). z.receipt) n y.0 items y.1 (sym (ap (λ (z : Receipt). z.number) y.2) ∙ sym (ap (λ (z : N.ReceiptOf ℕ). z.number) x.2) ∙ next.is) in
    subst IsSome (sym f.1) refl

pub found_there : (n : ℕ) (item : InboxItem) (items : List InboxItem) (inbox : List Receipt) → map receipt items ≡ inbox → find (λ (x : InboxItem). x.receipt == n) items ≡ Some item → Member (receipt item) inbox × (item.receipt ≡ n)
found_there n item items inbox same found =
    let f = found_is (λ (z : InboxItem). z.receipt) n item items found in
    (subst (Member (receipt item)) same (seen_there receipt item items f.0), f.1)
