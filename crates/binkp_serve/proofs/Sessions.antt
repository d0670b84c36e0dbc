-- What a session that is held leaves: what was received stays so, and its seat is free.
use Rattle.std.proofs.Common.{◌≡◌, ℕ, ◌≤◌, ◌<◌, true, false, List, Option, Some, None, option_map, refl, sym, ◌∙◌, ap, subst}
use Rattle.ftn_addr.specs.Counts.{CountGrew}
use Rattle.binkp_link.specs.Lines.{LineState}
use Rattle.hub_core.specs.Hubs.{Fitted, HubState, chair_in, hub_stand, knows_over, node_with, seat_part, sitting_at, sitting_part, Sitting, state_of}
use Rattle.inbound_files.specs.Giving.{StillHas}
use Rattle.node_model.specs.Calls.{Knows, Tells, counts_of}
use Rattle.node_model.specs.Desks.{DeskPart}
use Rattle.node_model.specs.Durable.{Durable}
use Rattle.node_model.specs.Images.{OpensTo, last_of}
use Rattle.node_model.specs.Lives.{KnownLives, KnownPast}
use Rattle.node_model.specs.Receipts.{HasOnce, SettledStays}
use Rattle.node_model.specs.Sound.{Sound}
use Rattle.node_model.specs.StoreStates.{IfTold, Shelf, Stored, StoreState, StoreStand}
use Rattle.node_model.specs.Stores.{OpensShelf}
use Rattle.node_model.proofs.Lives.{life_once, life_past_once, life_past_stays, life_stays}
use Rattle.node_model.proofs.Rans.{last-rises}
use Rattle.session_core.specs.Stages.{Setting}
use Rattle.session_run.specs.Laws.{IsSession}
use Rattle.session_run.specs.Reports.{ReportText}
use Rattle.session_run.proofs.RanPast.{ran_past, whole_lives}
use Rattle.binkp_serve.specs.Rests.{StaysReceived, StillTold}
use Rattle.binkp_serve.proofs.Staying.{Since, later_then}

-- where no session is open at it, a seat has nothing
closed_sitting : (o : Option Sitting) → (sitting_part o).open_now ≡ false → sitting_part o ≡ record { open_now = false; claim = None; held = None }
closed_sitting None closed = refl
closed_sitting (Some x) closed = absurd (let clash : true ≡ false = closed in cc)

pub closed_part : (h : HubState) (seat : ℕ) → (seat_part h seat).open_now ≡ false → seat_part h seat ≡ record { open_now = false; claim = None; held = None }
closed_part h seat closed = closed_sitting (sitting_at h seat) closed

-- a seat tells the counts of its store
pub told_counts : (s : StoreState) (h : HubState) (seat : ℕ) → counts_of (knows_over s.content s h seat) ≡ s.counts
told_counts s h seat = go s.content
  where
    go : (c : Option Stored) → counts_of (knows_over c s h seat) ≡ s.counts
    go None = refl
    go (Some a) = refl

-- what a store tells that fits a hub is sound there
sound_at : (s : StoreState) (h : HubState) (a : Stored) → Fitted s h → s.content ≡ Some a → Sound (node_with a s h)
sound_at s h a f is =
    let same : a ≡ f.keeps = subst (λ (c : Option Stored). IfTold c (λ b. b ≡ f.keeps)) is f.tells in
    subst (λ (b : Stored). Sound (node_with b s h)) (sym same) f.fits.sound

lives_still : (s t : StoreState) (h g : HubState) (seat seat' : ℕ) → Fitted s h → KnownLives (knows_over s.content s h seat) (knows_over t.content t g seat') → StillTold s.content t.content
lives_still s t h g seat seat' f = go s.content t.content refl
  where
    go : (c e : Option Stored) → s.content ≡ c → KnownLives (knows_over c s h seat) (knows_over e t g seat') → StillTold c e
    go None e is l = tt
    go (Some a) None is l = absurd l
    go (Some a) (Some b) is l = record {
      stays = life_stays (node_with a s h) l.0 (node_with b t g) l.1;
      once = λ before. life_once (node_with a s h) l.0 (node_with b t g) l.1 (sound_at s h a f is);
    }

shelf_opens : (P : Durable → Type 0) (e : Option Shelf) → OpensTo P (option_map state_of e) → OpensShelf (λ s. P s.state) e
shelf_opens P None opens = absurd opens
shelf_opens P (Some s) opens = opens

past_still : (s : StoreState) (h : HubState) (seat : ℕ) (a : Stored) (d : Durable) → Fitted s h → s.content ≡ Some a → KnownPast (knows_over (Some a) s h seat) d → StillHas a.stock.state d
past_still s h seat a d f is past = record {
  stays = life_past_stays (node_with a s h) past.0 past.1 past.2 d past.3;
  once = λ before. life_past_once (node_with a s h) past.0 past.1 past.2 d past.3 (sound_at s h a f is);
}

opens_so : (P Q : Durable → Type 0) → ((d : Durable) → P d → Q d) → (e : Option Shelf) → OpensShelf (λ s. P s.state) e → OpensShelf (λ s. Q s.state) e
opens_so P Q f None opens = absurd opens
opens_so P Q f (Some s) opens = f s.state opens

pub session_stays : (setting : Setting) (line line' : LineState) (report : ReportText) (s t : StoreStand) (h g : HubState) (seat seat' : ℕ) → Fitted s.state h → IsSession true setting line (hub_stand s h seat) report line' (hub_stand t g seat') → StaysReceived s t
session_stays setting line line' report s t h g seat seat' f x = record {
  told = lives_still s.state t.state h g seat seat' f (whole_lives true setting line (hub_stand s h seat).state report line' (hub_stand t g seat').state x.whole);
  later = later_then s.moment (last_of s.moment x.ran.times) t.moment (last-rises s.moment x.whole.last.events x.ran.times x.ran.rising) x.ran.ends;
  before = λ k e within image. x.ran.before k (option_map state_of e) within (e, image, refl);
  since = since s.state.content refl;
  faults = subst (λ (n : ℕ). CountGrew n t.state.counts.faults) (ap (λ (c : _). c.faults) (told_counts s.state h seat))
      (subst (λ (n : ℕ). CountGrew (counts_of (hub_stand s h seat).state.knows).faults n) (ap (λ (c : _). c.faults) (told_counts t.state g seat'))
      (subst (λ (k : Knows). CountGrew (counts_of (hub_stand s h seat).state.knows).faults (counts_of k).faults) (sym x.whole.desk_is.drift) x.whole.facts.counts.faults));
}
  where
    past : (k : ℕ) (e : Option Shelf) → s.moment < k → k ≤ t.moment → t.images k e → OpensShelf (λ d. KnownPast (hub_stand s h seat).state.knows d.state) e
    past k e after until image = shelf_opens (KnownPast (hub_stand s h seat).state.knows) e (ran_past true (hub_stand s h seat) x.whole.last.events (hub_stand t g seat') x.ran k (option_map state_of e) after until (e, image, refl))

    since : (c : Option Stored) → s.state.content ≡ c → IfTold c (Since s t)
    since None is = tt
    since (Some a) is = λ k e after until image.
        opens_so (KnownPast (hub_stand s h seat).state.knows) (StillHas a.stock.state)
        (λ d p. past_still s.state h seat a d f is (subst (λ (c : Option Stored). KnownPast (knows_over c s.state h seat) d) is p)) e
        (past k e after until image)
