-- What is received stays so in a round of giving.
use Rattle.std.proofs.Common.{◌≡◌, ◌⊎◌, ◌∙◌, ℕ, ◌≤◌, ◌<◌, arith, false, List, [], ◌∷◌, map, Option, Some, None, refl, sym, ap, subst, inl, inr, ⊎_elim, Result, Ok, Err}
use Rattle.std.proofs.lemmas.Bool.{cases_lt}
use Rattle.std.proofs.lemmas.List.{append-nil}
use Rattle.std.specs.Result.{IsErr, IsErrAnd}
use Rattle.ftn_addr.specs.Address.{Address}
use Rattle.ftn_addr.specs.Counts.{CountGrew, Increased}
use Rattle.ftn_addr.specs.Files.{is_same}
use Rattle.ftn_addr.specs.Key.{Key}
use Rattle.ftn_addr.proofs.CountsGrow.{count_grew-refl, count_grew-increased, count_grew-then, then-increased}
use Rattle.node_model.specs.Durable.{Durable, given_receipt, with_given}
use Rattle.node_model.specs.Items.{Receipt}
use Rattle.node_model.specs.Lists.{Each}
use Rattle.node_model.specs.Receipts.{HasOnce, InboxStays, OnceEach}
use Rattle.node_model.specs.Stores.{Shelf, Stored, StoreState, StoreStand, StoreCall, StoreKept, StoreDoes, StoreMade, StorePasses, Before_it, Source_first, After_it, StoreAnswer, Gave_so, Refuses, IfTold, IsShelf, TellsOn, OpensShelf, Give_next, Gift, given, shelf_of, PartsStay}
use Rattle.node_model.specs.Calls.{Counts, Logs}
use Rattle.node_model.specs.declared.store.Gave.{Gave}
use Rattle.node_model.specs.declared.store.Gave.TheVariants.{Given, Held, Nothing}
use Rattle.node_model.specs.declared.store.StoreFault.{StoreFault}
use Rattle.node_model.specs.declared.store.StoreFault.TheVariants.{Disk, Read, Full, NoMemory}
use Rattle.node_model.proofs.Changes.{given_flags}
use Rattle.node_model.proofs.ReceiptsStay.{stays_same, stays_on}
use Rattle.inbound_files.specs.Giving.{DealsWithOne, Deals_with, None_yet, One_more, GivesFiles, All_dealt_with, None_left, One_refused, StillHas, KeepsReceived}

-- One state after another.

pub still_same : (d e : Durable) → e ≡ d → StillHas d e
still_same d e is = record { stays = stays_same d e is; once = λ before. subst HasOnce (sym is) before }

pub still_then : (a b c : Durable) → StillHas a b → StillHas b c → StillHas a c
still_then a b c x y = record { stays = stays_on a b c x.stays y.stays; once = λ before. y.once (x.once before) }

-- A receipt that is given.

inbox_given : (number : ℕ) (rs : List Receipt) → InboxStays rs (map (given_receipt number) rs)
inbox_given number [] = tt
inbox_given number (r ∷ rs) = (given_flags number r, inbox_given number rs)

-- each later one differs from that sender and key
abbrev Differ : Address → Key → List Receipt → Type 0
Differ from key rs = Each (λ (later : Receipt). is_same from key later.from later.key ≡ false) rs

differ_given : (number : ℕ) (from : Address) (key : Key) (rs : List Receipt) → Differ from key rs → Differ from key (map (given_receipt number) rs)
differ_given number from key [] each = tt
differ_given number from key (r ∷ rs) each =
    let f = given_flags number r in
    (subst (λ (k : Key). is_same from key (given_receipt number r).from k ≡ false) (sym f.key_is) (subst (λ (a : Address). is_same from key a r.key ≡ false) (sym f.from_is) each.0), differ_given number from key rs each.1)

once_given : (number : ℕ) (rs : List Receipt) → OnceEach rs → OnceEach (map (given_receipt number) rs)
once_given number [] once = tt
once_given number (r ∷ rs) once =
    let f = given_flags number r in
    (subst (λ (k : Key). Differ (given_receipt number r).from k (map (given_receipt number) rs)) (sym f.key_is) (subst (λ (a : Address). Differ a r.key (map (given_receipt number) rs)) (sym f.from_is) (differ_given number r.from r.key rs once.0)), once_given number rs once.1)

still_given : (number : ℕ) (d : Durable) → StillHas d (with_given number d)
still_given number d = record {
  stays = record { received = inbox_given number d.inbox; refused = ([], sym (append-nil d.refused)) };
  once = λ before. once_given number d.inbox before;
}

-- What a store tells.

-- it goes on to tell what it told, with all receipts and refusals
abbrev StillTells : Option Stored → Option Stored → Type 0
StillTells = TellsOn (λ a b. StillHas a.stock.state b.stock.state)

tells_same : (c : Option Stored) → StillTells c c
tells_same None = tt
tells_same (Some a) = still_same a.stock.state a.stock.state refl

tells_then : (a b c : Option Stored) → StillTells a b → StillTells b c → StillTells a c
tells_then None None None x y = tt
tells_then None None (Some c) x y = absurd y
tells_then None (Some b) c x y = absurd x
tells_then (Some a) None c x y = absurd x
tells_then (Some a) (Some b) None x y = absurd y
tells_then (Some a) (Some b) (Some c) x y = still_then a.stock.state b.stock.state c.stock.state x y

tells_given : (number : ℕ) (c : Option Stored) (gift : Gift) (time : ℕ) (s : StoreState) → StillTells c (given gift time (record s { content = c })).content
tells_given number None gift time s = tt
tells_given number (Some a) gift time s = still_given gift.receipt a.stock.state

-- One call.

does_still : (inbound nonsecure : List ℕ) (old new : StoreState) (answer : StoreAnswer) → StoreDoes old (Give_next inbound nonsecure) answer new → StillTells old.content new.content
does_still inbound nonsecure old new (Gave_so (Given number)) does =
    subst (λ (x : StoreState). StillTells old.content x.content) (sym does.after) (tells_given number old.content does.gift does.time old)
does_still inbound nonsecure old new (Gave_so (Held number)) does = subst (λ (x : StoreState). StillTells old.content x.content) (sym does.after) (tells_same old.content)
does_still inbound nonsecure old new (Gave_so Nothing) does = subst (λ (x : StoreState). StillTells old.content x.content) (sym does.1) (tells_same old.content)
does_still inbound nonsecure old new answer does = absurd does

does_counts : (inbound nonsecure : List ℕ) (old new : StoreState) (answer : StoreAnswer) → StoreDoes old (Give_next inbound nonsecure) answer new → new.counts ≡ old.counts
does_counts inbound nonsecure old new (Gave_so (Given number)) does = ap (λ (x : StoreState). x.counts) does.after
does_counts inbound nonsecure old new (Gave_so (Held number)) does = ap (λ (x : StoreState). x.counts) does.after
does_counts inbound nonsecure old new (Gave_so Nothing) does = ap (λ (x : StoreState). x.counts) does.1
does_counts inbound nonsecure old new answer does = absurd does

-- what is left has what was told
abbrev StillIn : Option Stored → Shelf → Type 0
StillIn c d = IfTold c (λ a. StillHas a.stock.state d.state)

shelf_still : (c e : Option Stored) (d : Shelf) → StillTells c e → IsShelf e d → StillIn c d
shelf_still None e d tells is = tt
shelf_still (Some a) None d tells is = absurd tells
shelf_still (Some a) (Some b) d tells is = subst (λ (x : Shelf). StillHas a.stock.state x.state) (sym is) tells

passes_still : (inbound nonsecure : List ℕ) (old : StoreState) (d : Shelf) → StorePasses old (Give_next inbound nonsecure) d → StillIn old.content d
passes_still inbound nonsecure old d (Before_it is) = shelf_still old.content old.content d (tells_same old.content) is
passes_still inbound nonsecure old d (Source_first first) = absurd first
passes_still inbound nonsecure old d (After_it answer new does is) = shelf_still old.content new.content d (does_still inbound nonsecure old new answer does) is

made_still : (inbound nonsecure : List ℕ) (old new : StoreState) (answer : StoreAnswer) → StoreMade old (Give_next inbound nonsecure) answer new → StillTells old.content new.content
made_still inbound nonsecure old new (Refuses Disk) broke = go old.content new.content refl broke.content
  where
    go : (c e : Option Stored) → old.content ≡ c → TellsOn (λ a b. StorePasses old (Give_next inbound nonsecure) (shelf_of b) × Logs old.seat a.log b.log × PartsStay (Give_next inbound nonsecure) old.stock a.stock b.stock) c e → StillTells c e
    go None None is tells = tt
    go None (Some b) is tells = absurd tells
    go (Some a) None is tells = absurd tells
    go (Some a) (Some b) is tells = subst (λ (c : Option Stored). StillIn c (shelf_of b)) is (passes_still inbound nonsecure old (shelf_of b) tells.0)
made_still inbound nonsecure old new (Refuses Read) made = absurd made.0
made_still inbound nonsecure old new (Refuses Full) made = absurd made.0
made_still inbound nonsecure old new (Refuses NoMemory) made = subst (λ (x : StoreState). StillTells old.content x.content) (sym made.1) (tells_same old.content)
made_still inbound nonsecure old new answer does = does_still inbound nonsecure old new answer does

-- the count of faults stays, or rose
made_faults : (inbound nonsecure : List ℕ) (old new : StoreState) (answer : StoreAnswer) → StoreMade old (Give_next inbound nonsecure) answer new → CountGrew old.counts.faults new.counts.faults
made_faults inbound nonsecure old new (Refuses Disk) broke = count_grew-increased old.counts.faults new.counts.faults broke.rose
made_faults inbound nonsecure old new (Refuses Read) made = absurd made.0
made_faults inbound nonsecure old new (Refuses Full) made = absurd made.0
made_faults inbound nonsecure old new (Refuses NoMemory) made = subst (λ (x : StoreState). CountGrew old.counts.faults x.counts.faults) (sym made.1) (count_grew-refl old.counts.faults)
made_faults inbound nonsecure old new answer does = subst (λ (x : Counts). CountGrew old.counts.faults x.faults) (sym (does_counts inbound nonsecure old new answer does)) (count_grew-refl old.counts.faults)

-- where the call wasn't refused, the store isn't broken after it
pub still_whole : (inbound nonsecure : List ℕ) (old new : StoreState) (gave : Gave) → StoreMade old (Give_next inbound nonsecure) (Gave_so gave) new → old.counts.broken ≡ None → new.counts.broken ≡ None
still_whole inbound nonsecure old new gave does whole = ap (λ (x : Counts). x.broken) (does_counts inbound nonsecure old new (Gave_so gave) does) ∙ whole

opens_still : (old : StoreState) (call : StoreCall) (a : Stored) (e : Option Shelf) → old.content ≡ Some a → ((d : Shelf) → StorePasses old call d → StillIn old.content d) → OpensShelf (StorePasses old call) e → OpensShelf (λ s. StillHas a.stock.state s.state) e
opens_still old call a None is still passes = absurd passes
opens_still old call a (Some d) is still passes = subst (λ (c : Option Stored). StillIn c d) is (still d passes)

pub one_keeps : (inbound nonsecure : List ℕ) (old new : StoreStand) (answer : StoreAnswer) → StoreKept old (Give_next inbound nonsecure) answer new → KeepsReceived old new
one_keeps inbound nonsecure old new answer kept = record {
  told = made_still inbound nonsecure old.state new.state answer kept.made;
  later = kept.later;
  before = kept.before;
  since = go old.state.content refl;
  faults = made_faults inbound nonsecure old.state new.state answer kept.made;
}
  where
    go : (c : Option Stored) → old.state.content ≡ c → IfTold c (λ a. (k : ℕ) (e : Option Shelf) → old.moment < k → k ≤ new.moment → new.images k e → OpensShelf (λ s. StillHas a.stock.state s.state) e)
    go None is = tt
    go (Some a) is = λ k e after until image. opens_still old.state (Give_next inbound nonsecure) a e is (passes_still inbound nonsecure old.state) (kept.since k e after until image)

-- One call behind others.

pub none_keeps : (old : StoreStand) → KeepsReceived old old
none_keeps old = record {
  told = tells_same old.state.content;
  later = omega arith;
  before = λ k e until image. image;
  since = go old.state.content;
  faults = count_grew-refl old.state.counts.faults;
}
  where
    go : (c : Option Stored) → IfTold c (λ a. (k : ℕ) (e : Option Shelf) → old.moment < k → k ≤ old.moment → old.images k e → OpensShelf (λ s. StillHas a.stock.state s.state) e)
    go None = tt
    go (Some a) = λ k e after until image. absurd (omega (arith, after, until))

then_opens : (a b : Durable) (e : Option Shelf) → StillHas a b → OpensShelf (λ s. StillHas b s.state) e → OpensShelf (λ s. StillHas a s.state) e
then_opens a b None still opens = absurd opens
then_opens a b (Some s) still opens = still_then a b s.state still opens

pub keeps_then : (old mid new : StoreStand) → KeepsReceived old mid → KeepsReceived mid new → KeepsReceived old new
keeps_then old mid new first second = record {
  told = tells_then old.state.content mid.state.content new.state.content first.told second.told;
  later = omega (arith, first.later, second.later);
  before = λ k e until image. first.before k e until (second.before k e (omega (arith, until, first.later)) image);
  since = go old.state.content mid.state.content first.told first.since second.since;
  faults = count_grew-then old.state.counts.faults mid.state.counts.faults new.state.counts.faults first.faults second.faults;
}
  where
    go : (c e : Option Stored) → StillTells c e
        → IfTold c (λ a. (k : ℕ) (e : Option Shelf) → old.moment < k → k ≤ mid.moment → mid.images k e → OpensShelf (λ s. StillHas a.stock.state s.state) e)
        → IfTold e (λ b. (k : ℕ) (e : Option Shelf) → mid.moment < k → k ≤ new.moment → new.images k e → OpensShelf (λ s. StillHas b.stock.state s.state) e)
        → IfTold c (λ a. (k : ℕ) (e : Option Shelf) → old.moment < k → k ≤ new.moment → new.images k e → OpensShelf (λ s. StillHas a.stock.state s.state) e)
    go None e tells f s = tt
    go (Some a) None tells f s = absurd tells
    go (Some a) (Some b) tells f s = λ k e after until image.
        ⊎_elim
        (λ (past : mid.moment < k). then_opens a.stock.state b.stock.state e tells (s k e past until image))
        (λ (within : k ≤ mid.moment). f k e after within (second.before k e within image))
        (cases_lt mid.moment k)

-- Given or held.
pub dealt : (gave : Gave) → ((x : ℕ) × (gave ≡ Given x)) ⊎ ((x : ℕ) × (gave ≡ Held x)) → DealsWithOne gave
dealt (Given x) is = tt
dealt (Held x) is = tt
dealt Nothing (inl is) = absurd (let clash : Nothing ≡ Given is.0 = is.1 in cc)
dealt Nothing (inr is) = absurd (let clash : Nothing ≡ Held is.0 = is.1 in cc)

-- An answer that is that fault.
pub refused_so : (result : Result (Unit {0}) StoreFault) (fault : StoreFault) → IsErr result → IsErrAnd result (λ e. e ≡ fault) → result ≡ Err fault
refused_so (Ok done) fault is err = absurd err
refused_so (Err e) fault is err = ap (λ (x : StoreFault). Err x) err

-- A round.

module _ {S : Type 0} (stand : S → StoreStand) (inbound nonsecure : List ℕ) where
  deals_keep : (old : S) (n : ℕ) (new : S) → Deals_with stand inbound nonsecure old n new → KeepsReceived (stand old) (stand new)
  deals_keep old n new None_yet = none_keeps (stand old)
  deals_keep old n new (One_more {n = m} {mid} before gave is kept) = keeps_then (stand old) (stand mid) (stand new) (deals_keep old m mid before) (one_keeps inbound nonsecure (stand mid) (stand new) (Gave_so gave) kept)

  pub round_keeps : (files : ℕ) (old : S) (result : Result (Unit {0}) StoreFault) (new : S) → GivesFiles stand inbound nonsecure files old result new → KeepsReceived (stand old) (stand new)
  round_keeps files old result new (All_dealt_with dealt_with) = deals_keep old files new dealt_with
  round_keeps files old result new (None_left {n} {mid} dealt_with within kept) = keeps_then (stand old) (stand mid) (stand new) (deals_keep old n mid dealt_with) (one_keeps inbound nonsecure (stand mid) (stand new) (Gave_so Nothing) kept)
  round_keeps files old result new (One_refused {n} {mid} dealt_with within fault kept) = keeps_then (stand old) (stand mid) (stand new) (deals_keep old n mid dealt_with) (one_keeps inbound nonsecure (stand mid) (stand new) (Refuses fault) kept)

  -- at Disk the count of faults rose
  pub round_failed : (files : ℕ) (old new : S) → GivesFiles stand inbound nonsecure files old (Err Disk) new → Increased (stand old).state.counts.faults (stand new).state.counts.faults
  round_failed files old new (One_refused {n} {mid} dealt_with within fault kept) = then-increased (stand old).state.counts.faults (stand mid).state.counts.faults (stand new).state.counts.faults (deals_keep old n mid dealt_with).faults kept.made.rose
