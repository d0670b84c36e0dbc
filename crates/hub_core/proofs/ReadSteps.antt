-- Reading: bytes of the claimed entry are read, or the read fails, which its seat counts.
use Rattle.std.proofs.Common.{◌≡◌, ◌≢◌, ◌⊎◌, ℕ, suc, ◌<◌, true, false, ◌==◌, List, [], ◌∷◌, Option, Some, None, map, length, option_map, slice_index_or, take, drop, refl, sym, ◌∙◌, ap, subst, inl, inr}
use Rattle.std.specs.Vec.{with_item}
use Rattle.ftn_addr.specs.Counts.{next_count}
use Rattle.ftn_addr.specs.Key.{Key}
use Rattle.node_model.specs.declared.store.StoreFault.TheVariants as D
use Rattle.node_model.specs.Items.{Live, Entry, EntryOf}
use Rattle.node_model.specs.Lists.{Member, Each}
use Rattle.node_model.specs.Durable.{body_map, entry_map}
use Rattle.node_model.specs.Desks.{Claim, HasClaim, size_in}
use Rattle.node_model.specs.Node.{Seat, put_seat, claim_in}
use Rattle.node_model.specs.SendRows.{ReadRow}
use Rattle.node_model.specs.Calls.{Read_call, Came, Refused, Disk, Read, NodeStep, KnownStep, Counts, one_read_more}
use Rattle.node_model.specs.Sound.{FitsKey, ClaimOk}
use Rattle.node_model.specs.Stocks.{Sizes}
use Rattle.node_model.specs.StoreWords.{KeyOf}
use Rattle.node_model.specs.StoreWords as W
use Rattle.node_model.specs.Stores.{Stored, StoreState, StoreStand, IfTold, IsLive, Source}
use Rattle.node_model.proofs.Lists.{Each-member, off}
use Rattle.node_model.proofs.Distinct.{find_none}
use Rattle.node_model.proofs.StepSound.{step_sound}
use Rattle.hub_core.specs.declared.places.Place.{Place}
use Rattle.hub_core.specs.declared.places.Seats.{Seats}
use Rattle.hub_core.specs.Hubs.{Sitting, Chair, HubState, HubFits, Fitted, IfClaimed, chair_of, chair_in, put_chair, hub_state, sitting_at, session_over, seat_over, node_with, knows_over, sitting_part, seat_part}
use Rattle.hub_core.specs.HubCalls.{HasTurn, Does}
use Rattle.hub_core.specs.HubLaws.{seat_of}
use Rattle.hub_core.specs.Sending.{ReadsBytes, ReadFailed, ReadRefused, read_once_more, claimed_at, number_of}
use Rattle.hub_core.specs.Steps.{Leaves, StaysSettled, OneOf, loses_none}
use Rattle.hub_core.proofs.BeginSteps.{one_passes}
use Rattle.hub_core.proofs.Breaking.{same_but}
use Rattle.hub_core.proofs.Candidates.{one_entry, entry_told}
use Rattle.hub_core.proofs.Chairs.{chair_in-map}
use Rattle.hub_core.proofs.Ends.{same_content}
use Rattle.hub_core.proofs.Finding.{member_map, found}
use Rattle.hub_core.proofs.Keeping.{leaves_as}
use Rattle.hub_core.proofs.Marking.{sitting_stays}
use Rattle.hub_core.proofs.Nodes.{put_is_set, map_put, session_is, chair_at, chair_apart}
use Rattle.hub_core.proofs.OpenParts.{same_number, number_same}
use Rattle.hub_core.proofs.Stepping.{Stepped}
use Rattle.hub_core.proofs.Owning.{own_same, own_chair}
use Rattle.hub_core.proofs.Turning.{fitted_now, made_does, broken_does}
use Rattle.node_model.proofs.Lists.{decide_line}

-- The count.

length_map : (ps : List Place) → length (map chair_of ps) ≡ length ps
length_map [] = refl
length_map (p ∷ ps) = ap suc (length_map ps)

pub seats_reading : (s : Seats) (seat : ℕ) (p : Place) (n : ℕ) → seat < length (map chair_of s.places.items) → p ≡ slice_index_or s.places.items seat p → n ≡ next_count p.reads → hub_state (record s { places = with_item s.places seat (record { busy = p.busy; reads = n; session = p.session }) }) ≡ read_once_more seat (hub_state s)
seats_reading s seat p n given is count =
    let below : seat < length s.places.items = subst (λ (n : ℕ). seat < n) (length_map s.places.items) given in
    let p' : Place = record { busy = p.busy; reads = n; session = p.session } in
    let own : chair_in (map chair_of s.places.items) seat ≡ chair_of p = chair_in-map s.places.items seat p below ∙ ap chair_of (sym is) in
    ap (λ (cs : List Chair). record (hub_state s) { chairs = cs }) (put_is_set s.places.items seat p' below ∙ (ap (λ (k : ℕ). put_chair seat (record (chair_of p) { reads = k }) (map chair_of s.places.items)) count ∙ ap (λ (c : Chair). put_chair seat (record c { reads = next_count c.reads }) (map chair_of s.places.items)) (sym own)))

reads_sits : (h : HubState) (seat : ℕ) (k : ℕ) → sitting_at (read_once_more seat h) k ≡ sitting_at h k
reads_sits h seat k = go (decide_line k seat)
  where
    c : Chair
    c = record (chair_in h.chairs seat) { reads = next_count (chair_in h.chairs seat).reads }

    go : (k ≡ seat) ⊎ (k ≢ seat) → sitting_at (read_once_more seat h) k ≡ sitting_at h k
    go (inl here) = ap (sitting_at (read_once_more seat h)) here ∙ (ap (λ (x : Chair). x.sitting) (chair_at seat c h.chairs) ∙ sym (ap (sitting_at h) here))
    go (inr apart) = ap (λ (x : Chair). x.sitting) (chair_apart seat c h.chairs k apart)

-- The claimed entry.

-- the session of a part with a claim
pub record ClaimSits (h : HubState) (seat : ℕ) (c : Claim) : Type 0 where
  pub sitting : Sitting
  pub sits : sitting_at h seat ≡ Some sitting
  pub claimed : sitting.claim ≡ Some c

pub claim_sits : (h : HubState) (seat : ℕ) (p : HasClaim (seat_part h seat)) → ClaimSits h seat p.claim
claim_sits h seat p = go (sitting_at h seat) refl p.is
  where
    go : (o : Option Sitting) → sitting_at h seat ≡ o → (sitting_part o).claim ≡ Some p.claim → ClaimSits h seat p.claim
    go None at e = absurd (cc)
    go (Some x) at e = record { sitting = x; sits = at; claimed = e }

pub part_claims : (h : HubState) (seat : ℕ) (x : Sitting) → sitting_at h seat ≡ Some x → (seat_part h seat).claim ≡ x.claim
part_claims h seat x sits = ap (λ (o : Option Sitting). (sitting_part o).claim) sits

-- it is live in the node, with its key
pub record ClaimTold (a : Stored) (c : Claim) : Type 0 where
  pub entry : Entry
  pub there : Member entry a.stock.state.queue
  pub numbered : entry.number ≡ c.number
  pub keyed : entry.key ≡ c.key
  pub bytes : List ℕ
  pub live : entry.body ≡ Live bytes
  pub long : length bytes ≡ c.key.size

fits_live : (e : Entry) (bytes : List ℕ) → e.body ≡ Live bytes → FitsKey e.key e.body → length bytes ≡ e.key.size
fits_live e bytes live fits = subst (FitsKey e.key) live fits

pub claim_told : (a : Stored) (s : StoreState) (h : HubState) (seat : ℕ) (x : Sitting) (c : Claim) → HubFits a s h → sitting_at h seat ≡ Some x → x.claim ≡ Some c → ClaimTold a c
claim_told a s h seat x c f sits claimed =
    let ok : ClaimOk a.stock.state.queue (session_over a.stock x) c.number = f.sound.claims.each seat c.number (session_over a.stock x) (session_is a s h seat x sits) (ap (option_map (λ (c : Claim). c.number)) claimed) in
    let k : KeyOf c.number c.key s.stock.state.queue = subst (IfClaimed s.stock.state.queue) claimed (f.sittings seat x sits).claim in
    let told = entry_told a s k.0 f.stock k.1 in
    let same : ok.entry ≡ told.0 = one_entry a s h ok.entry told.0 f ok.there told.1 (ok.numbered ∙ (sym k.2 ∙ ap (λ (e : EntryOf ℕ). e.number) told.2)) in
    let keyed : ok.entry.key ≡ c.key = ap (λ (e : Entry). e.key) same ∙ (ap (λ (e : EntryOf ℕ). e.key) (sym told.2) ∙ k.3) in
    record {
      entry = ok.entry;
      there = ok.there;
      numbered = ok.numbered;
      keyed = keyed;
      bytes = ok.bytes;
      live = ok.live;
      long = fits_live ok.entry ok.bytes ok.live (Each-member (λ (e : Entry). FitsKey e.key e.body) ok.entry a.stock.state.queue f.sound.queue.sizes ok.there) ∙ ap (λ (q : Key). q.size) keyed;
    }

pub live_claim : (a : Stored) (s : StoreState) (h : HubState) (seat : ℕ) (x : Sitting) (c : Claim) → HubFits a s h → sitting_at h seat ≡ Some x → x.claim ≡ Some c → IsLive c.number s
live_claim a s h seat x c f sits claimed =
    let t = claim_told a s h seat x c f sits claimed in
    record {
      entry = entry_map length t.entry;
      there = subst (λ (q : Sizes). Member (entry_map length t.entry) q.state.queue) (sym f.stock) (member_map (entry_map length) a.stock.state.queue t.entry t.there);
      numbered = t.numbered;
      live = ap (body_map length) t.live ∙ ap Live (t.long ∙ ap (λ (q : Key). q.size) (sym t.keyed));
    }

-- the size that is known by its number is that of its key
pub claim_size : (a : Stored) (s : StoreState) (h : HubState) (seat : ℕ) (x : Sitting) (c : Claim) → HubFits a s h → sitting_at h seat ≡ Some x → x.claim ≡ Some c → W.size_of_entry c.number s.stock.state.queue ≡ c.key.size
claim_size a s h seat x c f sits claimed = go (Rattle.node_model.specs.Lists.first_that (λ (e : EntryOf ℕ). e.number == c.number) queue) refl
  where
    queue : List (EntryOf ℕ)
    queue = s.stock.state.queue

    t : ClaimTold a c
    t = claim_told a s h seat x c f sits claimed

    there : Member (entry_map length t.entry) queue
    there = subst (λ (q : Sizes). Member (entry_map length t.entry) q.state.queue) (sym f.stock) (member_map (entry_map length) a.stock.state.queue t.entry t.there)

    find_some : (e : EntryOf ℕ) → Member e queue → (e.number == c.number) ≡ true → Rattle.node_model.specs.Lists.first_that (λ (e : EntryOf ℕ). e.number == c.number) queue ≡ None → ⊥
    find_some e m passes none =
        off (sym passes ∙ Each-member (λ (e : EntryOf ℕ). (e.number == c.number) ≡ false) e queue (find_none (λ (e : EntryOf ℕ). e.number == c.number) queue none) m)

    go : (o : Option (EntryOf ℕ)) → Rattle.node_model.specs.Lists.first_that (λ (e : EntryOf ℕ). e.number == c.number) queue ≡ o → W.size_in o ≡ c.key.size
    go None none = absurd (find_some (entry_map length t.entry) there (number_same t.entry.number c.number t.numbered) none)
    go (Some e) some =
        let w = found (λ (e : EntryOf ℕ). e.number == c.number) queue e some in
        let told = entry_told a s e f.stock w.there in
        let number : e.number ≡ c.number = same_number e.number c.number w.passes in
        let same : told.0 ≡ t.entry = one_entry a s h told.0 t.entry f told.1 t.there (ap (λ (e : EntryOf ℕ). e.number) (sym told.2) ∙ (number ∙ sym t.numbered)) in
        ap (λ (e : EntryOf ℕ). e.key.size) told.2 ∙ (ap (λ (e : Entry). e.key.size) same ∙ ap (λ (q : Key). q.size) t.keyed)

-- The bytes are those of the claimed entry.

read_row : (a : Stored) (s : StoreState) (h : HubState) (seat : ℕ) (x : Sitting) (c : Claim) (at room : ℕ) (bytes content : List ℕ) → sitting_at h seat ≡ Some x → x.claim ≡ Some c → Source c.number content a → bytes ≡ take room (drop at content) → ReadRow seat at room bytes (node_with a s h) (node_with a s h)
read_row a s h seat x c at room bytes content sits claimed source is = record {
  entry = source.entry;
  content = content;
  claimed = ap claim_in (session_is a s h seat x sits) ∙ (ap (option_map (λ (c : Claim). c.number)) claimed ∙ ap Some (sym source.numbered));
  queued = source.there;
  live = source.live;
  section = is;
  after = refl;
}

same_fitted : (v w : StoreStand) (h : HubState) → w.state ≡ v.state → Fitted v.state h → Fitted w.state h
same_fitted v w h after f = subst (λ (t : StoreState). Fitted t h) (sym after) f

pub read_does : (v w : StoreStand) (h : HubState) (seat : ℕ) (p : HasClaim (seat_part h seat)) (number at room : ℕ) (bytes : List ℕ) → HasTurn v h seat → number ≡ p.claim.number → ReadsBytes number at room bytes v.state w.state → Leaves (OneOf (v.state.content ∷ [])) v w → StaysSettled v w → Does v h seat (Read_call at room) (Came bytes) w h
read_does v w h seat p number at room bytes b is r l settled =
    let f = fitted_now v h seat b in
    let cs = claim_sits h seat p in
    let counts : w.state.counts ≡ v.state.counts = ap (λ (t : StoreState). t.counts) r.1 in
    let now = settled (b.ready.settled b.whole) (ap (λ (c : Counts). c.broken) counts ∙ b.whole) in
    record {
      caused = (inl b.whole, counts);
      step = subst (λ (t : StoreState). KnownStep seat (knows_over v.state.content v.state h seat) (Read_call at room) (Came bytes) (knows_over t.content t h seat)) (sym r.1) (go cs.sitting cs.sits cs.claimed v.state.content (subst (λ (n : ℕ). IfTold v.state.content (λ s. (content : List ℕ) × Source n content s × (bytes ≡ take room (drop at content)))) is r.0));
      leaves = leaves_as _ _ v w (one_passes v h seat (Read_call at room)) l;
      settled = λ settles whole. now;
      part = refl;
      ready = record { given = b.ready.given; fitted = λ whole. same_fitted v w h r.1 f; settled = λ whole. now };
      own = own_same seat h w (ap (λ (t : StoreState). t.seat) r.1 ∙ b.seat_is);
    }
  where
    go : (x : Sitting) → sitting_at h seat ≡ Some x → x.claim ≡ Some p.claim → (c : Option Stored) → IfTold c (λ s. (content : List ℕ) × Source p.claim.number content s × (bytes ≡ take room (drop at content))) → KnownStep seat (knows_over c v.state h seat) (Read_call at room) (Came bytes) (knows_over c v.state h seat)
    go x sits claimed None told = (refl, refl)
    go x sits claimed (Some a) told =
        (inl b.whole, read_row a v.state h seat x p.claim at room bytes told.0 sits claimed told.1 told.2)

pub read_broken : (v w : StoreStand) (h : HubState) (seat at room : ℕ) → HasTurn v h seat → ReadRefused D.Disk v.state w.state → Leaves (OneOf (v.state.content ∷ [])) v w → Does v h seat (Read_call at room) (Refused (Disk w.state.counts.faults)) w h
read_broken v w h seat at room b r l =
    broken_does (OneOf (v.state.content ∷ [])) loses_none v w h h seat (Read_call at room) b r (λ k y t apart at held. refl) (one_passes v h seat (Read_call at room)) (λ skips. skips) (same_but h seat) l refl b.ready.given

-- A read that fails.

failed_node : (a : Stored) (s : StoreState) (h : HubState) (seat n : ℕ) → node_with a (record s { counts = record s.counts { faults = n } }) (read_once_more seat h) ≡ record (one_read_more seat (node_with a s h)) { faults = n }
failed_node a s h seat n =
    ap (λ (xs : List Seat). record (node_with a s h) { seats = xs; faults = n }) (map_put a.stock seat (record (chair_in h.chairs seat) { reads = next_count (chair_in h.chairs seat).reads }) h.chairs ∙ ap (λ (x : Seat). put_seat seat (record x { reads = next_count x.reads }) (map (seat_over a.stock) h.chairs)) (sym (seat_of a.stock h.chairs seat)))

pub read_failed : (v w : StoreStand) (h : HubState) (seat at room : ℕ) → HasTurn v h seat → ReadFailed v.state w.state → Leaves (OneOf (v.state.content ∷ [])) v w → StaysSettled v w → Does v h seat (Read_call at room) (Refused (Read w.state.counts.faults)) w (read_once_more seat h)
read_failed v w h seat at room b r l settled =
    let f = fitted_now v h seat b in
    let fits = f.fits in
    let n = w.state.counts.faults in
    let s = v.state in
    let t : StoreState = record s { counts = record s.counts { faults = n } } in
    let g = read_once_more seat h in
    let c : Chair = record (chair_in h.chairs seat) { reads = next_count (chair_in h.chairs seat).reads } in
    let step : NodeStep seat (node_with f.keeps s h) (Read_call at room) (Refused (Read n)) (node_with f.keeps t g) = (tt, b.whole, r.rose, failed_node f.keeps s h seat n) in
    let counts : w.state.counts ≡ t.counts = ap (λ (q : StoreState). q.counts) r.after in
    let stepped : Stepped seat (Read_call at room) (Refused (Read n)) s h f.keeps t g = record {
      change = λ a. a;
      content = same_content s.content;
      step = step;
      fits = record { stock = fits.stock; sittings = λ k x at. sitting_stays s t x refl refl (fits.sittings k x (sym (reads_sits h seat k) ∙ at)); parts = fits.parts; sound = step_sound seat (node_with f.keeps s h) (Read_call at room) (Refused (Read n)) (node_with f.keeps t g) step (λ unbroken. fits.sound) b.whole };
      counts = (ap (λ (x : Chair). x.busy) (chair_at seat c h.chairs), ap (λ (x : Chair). x.reads) (chair_at seat c h.chairs));
    } in
    made_does v w h g seat (Read_call at room) (Refused (Read n)) b (tt, b.whole, r.rose, counts)
    (subst (λ (q : StoreState). Stepped seat (Read_call at room) (Refused (Read n)) s h f.keeps q g) (sym r.after) stepped)
    (leaves_as _ _ v w (one_passes v h seat (Read_call at room)) l)
    (settled (b.ready.settled b.whole) (ap (λ (c : Counts). c.broken) counts ∙ b.whole))
    (ap sitting_part (reads_sits h seat seat)) (own_chair seat c h w h.begun b.ready.given (ap (λ (t : StoreState). t.seat) r.after ∙ b.seat_is))

-- the number that the code finds
pub claimed_number : (h : HubState) (seat : ℕ) (p : HasClaim (seat_part h seat)) (number : ℕ) → Some number ≡ claimed_at h seat → number ≡ p.claim.number
claimed_number h seat p number is = go (claim_sits h seat p)
  where
    go : ClaimSits h seat p.claim → number ≡ p.claim.number
    go cs =
        let e : Some number ≡ Some p.claim.number = is ∙ (ap Rattle.hub_core.specs.Sending.sitting_number cs.sits ∙ ap (option_map number_of) cs.claimed) in
        cc

-- what the code's calls need
pub live_now : (v : StoreStand) (h : HubState) (seat : ℕ) (p : HasClaim (seat_part h seat)) → HasTurn v h seat → IsLive p.claim.number v.state
live_now v h seat p b = let f = fitted_now v h seat b in go f.keeps f.fits (claim_sits h seat p)
  where
    go : (a : Stored) → HubFits a v.state h → ClaimSits h seat p.claim → IsLive p.claim.number v.state
    go a fits cs = live_claim a v.state h seat cs.sitting p.claim fits cs.sits cs.claimed

pub size_now : (v : StoreStand) (h : HubState) (seat : ℕ) (p : HasClaim (seat_part h seat)) → HasTurn v h seat → W.size_of_entry p.claim.number v.state.stock.state.queue ≡ size_in (seat_part h seat).claim
size_now v h seat p b = let f = fitted_now v h seat b in go f.keeps f.fits (claim_sits h seat p)
  where
    go : (a : Stored) → HubFits a v.state h → ClaimSits h seat p.claim → W.size_of_entry p.claim.number v.state.stock.state.queue ≡ size_in (seat_part h seat).claim
    go a fits cs = claim_size a v.state h seat cs.sitting p.claim fits cs.sits cs.claimed ∙ sym (ap size_in p.is)
