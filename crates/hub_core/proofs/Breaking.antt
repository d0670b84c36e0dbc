-- The disk failed in a call of a hub: its node breaks.
use Rattle.std.proofs.Common.{◌≡◌, ◌≢◌, ℕ, ◌==◌, Bool, false, Option, Some, None, length, option_map, refl, sym, ◌∙◌, ap, subst, inr}
use Rattle.ftn_addr.specs.Counts.{Increased}
use Rattle.node_model.specs.Items.{MarkOf}
use Rattle.node_model.specs.Lists.{Member}
use Rattle.node_model.specs.Node.{Seat}
use Rattle.node_model.specs.Calls.{Call, Refused, Disk, IsSkip, KnownStep, Breaks, Passes, Logs, Counts, unheld_in}
use Rattle.node_model.specs.Stocks.{Stock, part_in}
use Rattle.node_model.specs.Stores.{Shelf, Stored, StoreState, IfTold, TellsOn, shelf_of}
use Rattle.hub_core.specs.Hubs.{Taking, Sitting, Chair, HubState, HubFits, Fitted, chair_in, sitting_at, session_over, seat_over, node_with, knows_over, hub_stand, IsSettled}
use Rattle.hub_core.specs.HubCalls.{ShelfPasses}
use Rattle.hub_core.specs.Steps.{Broke, Stays, part_under}
use Rattle.hub_core.proofs.Finding.{found}
use Rattle.hub_core.proofs.Nodes.{seat_same, session_same}
use Rattle.hub_core.proofs.Ends.{unheld_sitting}
use Rattle.hub_core.specs.HubLaws.{seat_of, session_of}

-- the hub is the same but for what its seat holds
pub record SameBut (seat : ℕ) (h g : HubState) : Type 0 where
  pub seats : length g.chairs ≡ length h.chairs
  pub others : (k : ℕ) → k ≢ seat → chair_in g.chairs k ≡ chair_in h.chairs k
  pub own : option_map unheld_sitting (sitting_at g seat) ≡ option_map unheld_sitting (sitting_at h seat)
  pub busy : (chair_in g.chairs seat).busy ≡ (chair_in h.chairs seat).busy
  pub reads : (chair_in g.chairs seat).reads ≡ (chair_in h.chairs seat).reads
  pub settings : g.settings ≡ h.settings
  pub begun : g.begun ≡ h.begun

pub same_but : (h : HubState) (seat : ℕ) → SameBut seat h h
same_but h seat = record { seats = refl; others = λ k apart. refl; own = refl; busy = refl; reads = refl; settings = refl; begun = refl }

-- what other seats hold isn't lost
abbrev pub OthersApart : (MarkOf ℕ → Bool) → HubState → ℕ → Type 0
OthersApart loses h seat = (k : ℕ) (x : Sitting) (t : Taking) → k ≢ seat → sitting_at h k ≡ Some x → x.hold ≡ Some t → loses (part_under x.first t) ≡ false

pub others_told : (a b : Stored) (s : StoreState) (h : HubState) (seat : ℕ) (loses : MarkOf ℕ → Bool) → HubFits a s h → OthersApart loses h seat → ((p : MarkOf ℕ) → Stays loses s p → part_in p.number b.stock.parts ≡ part_in p.number a.stock.parts) → (k : ℕ) (x : Sitting) → k ≢ seat → sitting_at h k ≡ Some x → session_over b.stock x ≡ session_over a.stock x
others_told a b s h seat loses f away stay k x apart at =
    session_same a.stock b.stock x (λ t held. stay (part_under x.first t) (there t held, away k x t apart at held))
  where
    there : (t : Taking) → x.hold ≡ Some t → Member (part_under x.first t) s.stock.parts
    there t held = (found (λ (p : MarkOf ℕ). p.number == t.part) s.stock.parts (part_under x.first t) (held_open t held)).there
      where
        held_open : (t : Taking) → x.hold ≡ Some t → part_in t.part s.stock.parts ≡ Some (part_under x.first t)
        held_open t held = (subst (λ (o : Option Taking). Rattle.hub_core.specs.Hubs.IfHeld s x.first o) held (f.sittings k x at).hold).part

unheld_is : (old new : Stock) (o : Option Sitting) → unheld_in (option_map (session_over new) o) ≡ option_map (session_over old) (option_map unheld_sitting o)
unheld_is old new None = refl
unheld_is old new (Some x) = refl

pub broken_step : (a b : Stored) (s t : StoreState) (h g : HubState) (seat : ℕ) (call : Call) → s.counts.broken ≡ None → Increased s.counts.faults t.counts.faults → t.counts ≡ record s.counts { faults = t.counts.faults; broken = Some t.counts.faults } → Passes seat (node_with a s h) call b.stock.state → Logs seat a.log b.log → ((k : ℕ) (x : Sitting) → k ≢ seat → sitting_at h k ≡ Some x → session_over b.stock x ≡ session_over a.stock x) → SameBut seat h g → Breaks seat (node_with a s h) call t.counts.faults (node_with b t g)
broken_step a b s t h g seat call whole rose counts passes log others same = record {
  unbroken = whole;
  rose = rose;
  passes = passes;
  broken = ap (λ (c : Counts). c.broken) counts;
  faults = refl;
  fulls = ap (λ (c : Counts). c.fulls) counts;
  log = log;
  others = λ k apart. seat_of b.stock g.chairs k ∙ (ap (seat_over b.stock) (same.others k apart) ∙ (seat_same a.stock b.stock (chair_in h.chairs k) (λ x at. others k x apart at) ∙ sym (seat_of a.stock h.chairs k)));
  own = ap unheld_in (session_of b t g seat) ∙ (unheld_is a.stock b.stock (sitting_at g seat) ∙ (ap (option_map (session_over a.stock)) same.own ∙ (sym (unheld_is a.stock a.stock (sitting_at h seat)) ∙ ap unheld_in (sym (session_of a s h seat)))));
  busy = ap (λ (x : Seat). x.busy) (seat_of b.stock g.chairs seat) ∙ (same.busy ∙ ap (λ (x : Seat). x.busy) (sym (seat_of a.stock h.chairs seat)));
  reads = ap (λ (x : Seat). x.reads) (seat_of b.stock g.chairs seat) ∙ (same.reads ∙ ap (λ (x : Seat). x.reads) (sym (seat_of a.stock h.chairs seat)));
  settings = same.settings;
  begun = same.begun;
}

pub broken_known : (P : Shelf → Type 0) (loses : MarkOf ℕ → Bool) (s t : StoreState) (h g : HubState) (seat : ℕ) (call : Call) → s.counts.broken ≡ None → s.seat ≡ seat → Fitted s h → Broke P loses s t → OthersApart loses h seat → ((d : Shelf) → P d → ShelfPasses s.content s h seat call d) → (IsSkip call → ⊥) → SameBut seat h g → KnownStep seat (knows_over s.content s h seat) call (Refused (Disk t.counts.faults)) (knows_over t.content t g seat)
broken_known P loses s t h g seat call whole at f b away passes works same = go s.content t.content f.tells b.content passes
  where
    go : (c e : Option Stored) → IfTold c (λ z. z ≡ f.keeps) → TellsOn (λ a b. P (shelf_of b) × Logs s.seat a.log b.log × ((p : MarkOf ℕ) → Stays loses s p → part_in p.number b.stock.parts ≡ part_in p.number a.stock.parts)) c e → ((d : Shelf) → P d → ShelfPasses c s h seat call d) → KnownStep seat (knows_over c s h seat) call (Refused (Disk t.counts.faults)) (knows_over e t g seat)
    go None None told on p = (same.busy, same.reads)
    go None (Some b) told on p = absurd on
    go (Some a) None told on p = absurd on
    go (Some a) (Some z) told on p =
        let fits : HubFits a s h = subst (λ (k : Stored). HubFits k s h) (sym told) f.fits in
        let log : Logs seat a.log z.log = subst (λ (k : ℕ). Logs k a.log z.log) at on.1 in
        (works, inr (broken_step a z s t h g seat call whole b.rose b.counts (p (shelf_of z) on.0) log (others_told a z s h seat loses fits away on.2) same))
