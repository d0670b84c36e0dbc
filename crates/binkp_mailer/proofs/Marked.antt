-- A store of which takes and outside files alone changed, as at a mark: what is received stays so, and it fits a hub as before.
use Rattle.std.proofs.Common.{◌≡◌, ◌∙◌, ℕ, ◌≤◌, ◌<◌, arith, Option, Some, None, Result, Ok, Err, option_map, refl, sym, ap, subst}
use Rattle.ftn_addr.specs.Counts.{CountGrew, Increased}
use Rattle.ftn_addr.proofs.CountsGrow.{count_grew-increased, count_grew-refl}
use Rattle.node_model.specs.Node.{Settings}
use Rattle.node_model.specs.StoreStates.{Shelf, Stored, StoreState, StoreStand, IfTold}
use Rattle.node_model.specs.Stores.{IsShelf, OpensShelf, TellsOn}
use Rattle.node_model.specs.declared.store.StoreFault.{StoreFault}
use Rattle.node_model.specs.declared.store.StoreFault.TheVariants.{Disk, Read, Full, NoMemory}
use Rattle.node_store.specs.Taking.{Around, MadeOf, Takes, TookSo, around, made_so, stored_around, with_around}
use Rattle.command_base.specs.Statuses.{Status, DiskFault}
use Rattle.binkp_mailer.specs.Inbound.{status_behind}
use Rattle.inbound_files.specs.Giving.{StillHas, KeepsReceived}
use Rattle.inbound_files.proofs.Kept.{still_same}
use Rattle.hub_core.specs.Hubs.{Fitted}
use Rattle.hub_core.specs.Opening.{no_seats, IsWhole}
use Rattle.hub_core.proofs.Closing.{no_sitting, not_some}

-- It fits a hub without seats.

pub around_fitted : (f : Around → Around) (s : StoreState) (settings : Settings) → Fitted s (no_seats settings) → Fitted (with_around f s) (no_seats settings)
around_fitted f s settings fit = record {
  keeps = stored_around (f (around fit.keeps)) fit.keeps;
  tells = go s.content fit.tells;
  fits = record {
    stock = fit.fits.stock;
    sittings = λ n x at. not_some _ x (no_sitting settings n) at;
    parts = fit.fits.parts;
    sound = fit.fits.sound;
  };
}
  where
    go : (c : Option Stored) → IfTold c (λ b. b ≡ fit.keeps) → IfTold (option_map (λ (a : Stored). stored_around (f (around a)) a) c) (λ b. b ≡ stored_around (f (around fit.keeps)) fit.keeps)
    go None is = tt
    go (Some a) is = ap (λ (x : Stored). stored_around (f (around x)) x) is

pub made_whole : {T : Type 0} (does : T → Around → Around) (answer : T) (old new : StoreStand) → Takes does (Ok answer) old new → old.state.counts.broken ≡ None
    → ((settings : Settings) → IsWhole old (no_seats settings)) → (settings : Settings) → IsWhole new (no_seats settings)
made_whole does answer old new takes whole fits settings = record {
  fitted = λ unbroken. subst (λ (s : StoreState). Fitted s (no_seats settings)) (sym takes.made) (around_fitted (does answer) old.state settings ((fits settings).fitted whole));
  settled = λ unbroken. takes.now unbroken;
}

-- it isn't broken where it wasn't
pub made_unbroken : {T : Type 0} (does : T → Around → Around) (answer : T) (old new : StoreStand) → Takes does (Ok answer) old new → old.state.counts.broken ≡ None → new.state.counts.broken ≡ None
made_unbroken does answer old new takes whole = ap (λ (s : StoreState). s.counts.broken) takes.made ∙ whole

-- What is received stays so.

abbrev StillTells : Option Stored → Option Stored → Type 0
StillTells = TellsOn (λ a b. StillHas a.stock.state b.stock.state)

tells_around : (f : Around → Around) (c : Option Stored) → StillTells c (option_map (λ (a : Stored). stored_around (f (around a)) a) c)
tells_around f None = tt
tells_around f (Some a) = still_same a.stock.state a.stock.state refl

took_tells : {T : Type 0} (does : T → Around → Around) (r : Result T StoreFault) (a b : StoreState) → TookSo does r a b → StillTells a.content b.content
took_tells does (Ok x) a b made = subst (λ (s : StoreState). StillTells a.content s.content) (sym made) (tells_around (does x) a.content)
took_tells does (Err Disk) a b made = subst (λ (s : StoreState). StillTells a.content s.content) (sym made.same) (tells_around (made_so does made.made) a.content)
took_tells does (Err Read) a b made = absurd made
took_tells does (Err Full) a b made = absurd made
took_tells does (Err NoMemory) a b made = absurd made

took_faults : {T : Type 0} (does : T → Around → Around) (r : Result T StoreFault) (a b : StoreState) → TookSo does r a b → CountGrew a.counts.faults b.counts.faults
took_faults does (Ok x) a b made = subst (λ (s : StoreState). CountGrew a.counts.faults s.counts.faults) (sym made) (count_grew-refl a.counts.faults)
took_faults does (Err Disk) a b made = count_grew-increased a.counts.faults b.counts.faults made.rose
took_faults does (Err Read) a b made = absurd made
took_faults does (Err Full) a b made = absurd made
took_faults does (Err NoMemory) a b made = absurd made

-- where such a call was refused the count of faults rose
pub took_failed : {T : Type 0} (does : T → Around → Around) (fault : StoreFault) (a b : StoreState) → TookSo {T = T} does (Err fault) a b → Increased a.counts.faults b.counts.faults
took_failed does Disk a b made = made.rose
took_failed does Read a b made = absurd made
took_failed does Full a b made = absurd made
took_failed does NoMemory a b made = absurd made

-- behind it the store is broken, and the status is the disk's
pub took_broken : {T : Type 0} (does : T → Around → Around) (fault : StoreFault) (a b : StoreState) → TookSo {T = T} does (Err fault) a b → b.counts.broken ≡ Some b.counts.faults
took_broken does Disk a b made = ap (λ (s : StoreState). s.counts.broken) made.same
took_broken does Read a b made = absurd made
took_broken does Full a b made = absurd made
took_broken does NoMemory a b made = absurd made

pub took_status : (does : Unit {0} → Around → Around) (fault : StoreFault) (a b : StoreState) (was : Status) (faults : ℕ) → TookSo {T = Unit {0}} does (Err fault) a b → DiskFault faults ≡ status_behind (Err fault) was faults
took_status does Disk a b was faults made = refl
took_status does Read a b was faults made = absurd made
took_status does Full a b was faults made = absurd made
took_status does NoMemory a b was faults made = absurd made

shelf_still : (f : Around → Around) (a : Stored) (c : Option Stored) (d : Shelf) → c ≡ Some a → IsShelf (option_map (λ (x : Stored). stored_around (f (around x)) x) c) d → StillHas a.stock.state d.state
shelf_still f a None d is shelf = absurd shelf
shelf_still f a (Some b) d is shelf =
    let same : b ≡ a = cc in
    still_same a.stock.state d.state (ap (λ (x : Shelf). x.state) shelf ∙ ap (λ (x : Stored). x.stock.state) same)

pub takes_keep : {T : Type 0} (does : T → Around → Around) (r : Result T StoreFault) (old new : StoreStand) → Takes does r old new → KeepsReceived old new
takes_keep {T} does r old new takes = record {
  told = took_tells does r old.state new.state takes.made;
  later = takes.grew.later;
  before = takes.grew.before;
  since = go old.state.content refl;
  faults = took_faults does r old.state new.state takes.made;
}
  where
    opens : (a : Stored) (e : Option Shelf) → old.state.content ≡ Some a → OpensShelf (λ shelf. (made : Option T) × MadeOf r made × IsShelf (with_around (made_so does made) old.state).content shelf) e → OpensShelf (λ s. StillHas a.stock.state s.state) e
    opens a None is o = absurd o
    opens a (Some d) is o = shelf_still (made_so does o.0) a old.state.content d is o.2

    go : (c : Option Stored) → old.state.content ≡ c → IfTold c (λ a. (k : ℕ) (e : Option Shelf) → old.moment < k → k ≤ new.moment → new.images k e → OpensShelf (λ s. StillHas a.stock.state s.state) e)
    go None is = tt
    go (Some a) is = λ k e after until image. opens a e is (takes.since k e (omega (arith, after)) until image)
