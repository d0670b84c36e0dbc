-- What a session offered: each entry is claimed now, done, or noted as skipped; and nothing is claimed where no file is
-- under way.
use Rattle.std.proofs.Common.{◌≡◌, ◌⊎◌, ℕ, Bool, true, false, ◌==◌, if◌then◌else◌, List, ◌∷◌, Option, Some, None, refl, sym, ap, ◌∙◌, subst, inl, inr, ⊎_elim}
use Rattle.std.proofs.lemmas.Bool.Decides.{Decides-eqb}
use Rattle.ftn_addr.specs.Address.{Address}
use Rattle.ftn_addr.specs.Key.{Key}
use Rattle.node_model.specs.Lists.{Member, Each}
use Rattle.node_model.specs.Items.{Entry, Done}
use Rattle.node_model.specs.Durable.{Durable, done_entry, all_done}
use Rattle.node_model.specs.Node.{Session, Node, session_at, claim_in}
use Rattle.node_model.specs.Talk.{Message, Sending}
use Rattle.world_pair.specs.Course.{Course}
use Rattle.node_model.proofs.Lists.{off, none_some, some_inj, Each-weaker}
use Rattle.node_model.proofs.Moves.{offer-moved, got-moved, skip-moved}
use Rattle.world_pair.proofs.Seen.{OwnTurn, Sends, Offers, Ends, Goes, Waits, Take, Take_file, Take_more, Take_whole, Drop_data, Take_got, Pass_got, Take_skip, Pass_skip, Take_get, Pass_get, Take_end}
use Rattle.world_pair.proofs.Outbound.{done_stays, done-number}
use Rattle.world_pair.specs.Invariant.{EntryIs}
use Rattle.world_pair.specs.Offers.{skipped_in, IsDone, Accounted, OffersHold}
use Rattle.world_pair.proofs.Quiet.{Quiet, quiet_same, quiet_file, quiet_more, quiet_whole}

-- what is done stays done
abbrev pub DoneStays : List Entry → List Entry → Type 0
DoneStays queue queue' = (number : ℕ) → IsDone queue number → IsDone queue' number

pub done_done : (done : ℕ) (queue : List Entry) → DoneStays queue (all_done done queue)
done_done done queue number (e, there, n, body) = (done_entry done e, done_stays done queue e there, done-number done e ∙ n, go (e.number == done))
  where
    go : (b : Bool) → (if b then record e { body = Done } else e).body ≡ Done
    go true = refl
    go false = body

-- a row that changes neither claim nor what was skipped
quiet_offers : (n m : Node) (seat : ℕ) (t u : Course) → Quiet n m seat → (u.now.sending ≡ None → t.now.sending ≡ None) → (u.met_skip ≡ false → t.met_skip ≡ false) → u.numbers ≡ t.numbers → OffersHold n.state.queue (session_at n seat) t → OffersHold m.state.queue (session_at m seat) u
quiet_offers n m seat t u q sending skip numbers o =
    record {
      unclaimed = λ none. q.claim ∙ o.unclaimed (sending none);
      unskipped = λ no_skip. q.skipped ∙ o.unskipped (skip no_skip);
      each = subst (Each (Accounted m.state.queue (session_at m seat))) (sym numbers) (Each-weaker (Accounted n.state.queue (session_at n seat)) (Accounted m.state.queue (session_at m seat)) (λ k a. ⊎_elim (λ (c : claim_in (session_at n seat) ≡ Some k). inl (q.claim ∙ c)) (λ (r : IsDone n.state.queue k ⊎ Member k (skipped_in (session_at n seat))). inr (⊎_elim (λ (d : IsDone n.state.queue k). inl (subst (λ l. IsDone l k) (sym q.queue) d)) (λ (w : Member k (skipped_in (session_at n seat))). inr (subst (Member k) (sym q.skipped) w)) r)) a) t.numbers o.each);
    }

same_sending : (t u : Course) → u ≡ t → u.now.sending ≡ None → t.now.sending ≡ None
same_sending t u e none = ap (λ (x : Course). x.now.sending) (sym e) ∙ none

never_none : (u : Course) (s : Sending) {A : Type 0} → u.now.sending ≡ Some s → u.now.sending ≡ None → A
never_none u s e none = none_some (sym none ∙ e)

pub turn_offers : (seat : ℕ) (n : Node) (t : Course) (m : Node) (u : Course) (sent : List Message) → OwnTurn seat n t m u sent → OffersHold n.state.queue (session_at n seat) t → OffersHold m.state.queue (session_at m seat) u
turn_offers seat n t m u sent (Waits same_node same_talk nothing) o = quiet_offers n m seat t u (quiet_same n m seat same_node) (same_sending t u same_talk) (λ no_skip. ap (λ (x : Course). x.met_skip) (sym same_talk) ∙ no_skip) (ap (λ (x : Course). x.numbers) same_talk) o
turn_offers seat n t m u sent (Goes s new under number key place same_node change nothing) o = quiet_offers n m seat t u (quiet_same n m seat same_node) (λ none. never_none u new (ap (λ (x : Course). x.now.sending) change) none) (λ no_skip. ap (λ (x : Course). x.met_skip) (sym change) ∙ no_skip) (ap (λ (x : Course). x.numbers) change) o
turn_offers seat n t m u sent (Ends none_under_way open_still row change says_end) o = quiet_offers n m seat t u (quiet_same n m seat row.after) (λ _. none_under_way) (λ no_skip. ap (λ (x : Course). x.met_skip) (sym change) ∙ no_skip) (ap (λ (x : Course). x.numbers) change) o
turn_offers seat n t m u sent (Sends s bytes under unfinished room row change says_data) o = quiet_offers n m seat t u (quiet_same n m seat row.after) (λ none. never_none u _ (ap (λ (x : Course). x.now.sending) change) none) (λ no_skip. ap (λ (x : Course). x.met_skip) (sym change) ∙ no_skip) (ap (λ (x : Course). x.numbers) change) o
turn_offers seat n t m u sent (Offers e none_under_way open_still row change says_file) o =
    let moved = offer-moved n m seat e row in
    let claim : claim_in (session_at m seat) ≡ Some e.number = ap claim_in moved.here in
    let skipped : skipped_in (session_at m seat) ≡ skipped_in (session_at n seat) = ap skipped_in moved.here ∙ ap skipped_in (sym row.has) in
    let queue : m.state.queue ≡ n.state.queue = ap (λ (x : Durable). x.queue) moved.state_is in
    record {
      unclaimed = λ none. never_none u _ (ap (λ (x : Course). x.now.sending) change) none;
      unskipped = λ no_skip. skipped ∙ o.unskipped (ap (λ (x : Course). x.met_skip) (sym change) ∙ no_skip);
      each = subst (Each (Accounted m.state.queue (session_at m seat))) (ap (λ (x : Course). x.numbers) (sym change))
          (inl claim, Each-weaker (Accounted n.state.queue (session_at n seat)) (Accounted m.state.queue (session_at m seat)) (λ k a. ⊎_elim (λ (c : claim_in (session_at n seat) ≡ Some k). none_some (sym (o.unclaimed none_under_way) ∙ c)) (λ (r : IsDone n.state.queue k ⊎ Member k (skipped_in (session_at n seat))). inr (⊎_elim (λ (d : IsDone n.state.queue k). inl (subst (λ l. IsDone l k) (sym queue) d)) (λ (w : Member k (skipped_in (session_at n seat))). inr (subst (Member k) (sym skipped) w)) r)) a) t.numbers o.each);
    }

-- the entry that becomes done
now_done : (queue : List Entry) (dests : List Address) (number : ℕ) (key : Key) → EntryIs queue dests number key → IsDone (all_done number queue) number
now_done queue dests number key is = (done_entry number is.entry, done_stays number queue is.entry is.there, done-number number is.entry ∙ is.numbered, go (is.entry.number == number) refl)
  where
    go : (b : Bool) → (is.entry.number == number) ≡ b → (if b then record (is.entry) { body = Done } else is.entry).body ≡ Done
    go true e = refl
    go false e = absurd (let yes : (is.entry.number == number) ≡ true = (Decides-eqb is.entry.number number).1 is.numbered in cc)

pub take_offers : (dests : List Address) (seat : ℕ) (n : Node) (t : Course) (m : Node) (u : Course) (sent : List Message) (w : Message) → Take seat n t m u sent w → ((g : Sending) → t.now.sending ≡ Some g → (claim_in (session_at n seat) ≡ Some g.number) × EntryIs n.state.queue dests g.number g.key) → OffersHold n.state.queue (session_at n seat) t → OffersHold m.state.queue (session_at m seat) u
take_offers dests seat n t m u sent w (Take_file {key = key} {offset = offset} answer _ row reply same) claims o = quiet_offers n m seat t u (quiet_file n m seat key offset answer row) (same_sending t u same) (λ no_skip. ap (λ (x : Course). x.met_skip) (sym same) ∙ no_skip) (ap (λ (x : Course). x.numbers) same) o
take_offers dests seat n t m u sent w (Take_more {bytes = bytes} _ row none same) claims o = quiet_offers n m seat t u (quiet_more n m seat bytes row) (same_sending t u same) (λ no_skip. ap (λ (x : Course). x.met_skip) (sym same) ∙ no_skip) (ap (λ (x : Course). x.numbers) same) o
take_offers dests seat n t m u sent w (Take_whole {bytes = bytes} _ row got same) claims o = quiet_offers n m seat t u (quiet_whole n m seat bytes row) (same_sending t u same) (λ no_skip. ap (λ (x : Course). x.met_skip) (sym same) ∙ no_skip) (ap (λ (x : Course). x.numbers) same) o
take_offers dests seat n t m u sent w (Drop_data idle node none same) claims o = quiet_offers n m seat t u (quiet_same n m seat node) (same_sending t u same) (λ no_skip. ap (λ (x : Course). x.met_skip) (sym same) ∙ no_skip) (ap (λ (x : Course). x.numbers) same) o
take_offers dests seat n t m u sent w (Pass_got other node none same) claims o = quiet_offers n m seat t u (quiet_same n m seat node) (same_sending t u same) (λ no_skip. ap (λ (x : Course). x.met_skip) (sym same) ∙ no_skip) (ap (λ (x : Course). x.numbers) same) o
take_offers dests seat n t m u sent w (Pass_get other node none same) claims o = quiet_offers n m seat t u (quiet_same n m seat node) (same_sending t u same) (λ no_skip. ap (λ (x : Course). x.met_skip) (sym same) ∙ no_skip) (ap (λ (x : Course). x.numbers) same) o
take_offers dests seat n t m u sent w (Pass_skip other node none change) claims o = quiet_offers n m seat t u (quiet_same n m seat node) (λ e. ap (λ (x : Course). x.now.sending) (sym change) ∙ e) (λ no_skip. off (ap (λ (x : Course). x.met_skip) (sym change) ∙ no_skip)) (ap (λ (x : Course). x.numbers) change) o
take_offers dests seat n t m u sent w (Take_end node none change) claims o = quiet_offers n m seat t u (quiet_same n m seat node) (λ e. ap (λ (x : Course). x.now.sending) (sym change) ∙ e) (λ no_skip. ap (λ (x : Course). x.met_skip) (sym change) ∙ no_skip) (ap (λ (x : Course). x.numbers) change) o
take_offers dests seat n t m u sent w (Take_get s under same fits node says_file change) claims o = quiet_offers n m seat t u (quiet_same n m seat node) (λ e. never_none u _ (ap (λ (x : Course). x.now.sending) change) e) (λ no_skip. ap (λ (x : Course). x.met_skip) (sym change) ∙ no_skip) (ap (λ (x : Course). x.numbers) change) o
take_offers dests seat n t m u sent w (Take_got s under same row none change) claims o =
    let moved = got-moved n m seat s.number row in
    let c = claims s under in
    let queue : m.state.queue ≡ all_done s.number n.state.queue = ap (λ (x : Durable). x.queue) moved.state_is in
    let skipped : skipped_in (session_at m seat) ≡ skipped_in (session_at n seat) = ap skipped_in moved.here ∙ ap skipped_in (sym row.has) in
    record {
      unclaimed = λ _. ap claim_in moved.here;
      unskipped = λ no_skip. skipped ∙ o.unskipped (ap (λ (x : Course). x.met_skip) (sym change) ∙ no_skip);
      each = subst (Each (Accounted m.state.queue (session_at m seat))) (ap (λ (x : Course). x.numbers) (sym change))
          (Each-weaker (Accounted n.state.queue (session_at n seat)) (Accounted m.state.queue (session_at m seat)) (λ k a. inr (⊎_elim
          (λ (h : claim_in (session_at n seat) ≡ Some k). inl (subst (λ (z : List Entry × ℕ). IsDone z.0 z.1) (λ i. (sym queue i, some_inj (sym c.0 ∙ h) i)) (now_done n.state.queue dests s.number s.key c.1)))
          (λ (r : IsDone n.state.queue k ⊎ Member k (skipped_in (session_at n seat))). ⊎_elim (λ (d : IsDone n.state.queue k). inl (subst (λ l. IsDone l k) (sym queue) (done_done s.number n.state.queue k d))) (λ (h : Member k (skipped_in (session_at n seat))). inr (subst (Member k) (sym skipped) h)) r)
          a)) t.numbers o.each);
    }
take_offers dests seat n t m u sent w (Take_skip s under same row none change) claims o =
    let moved = skip-moved n m seat s.number row in
    let c = claims s under in
    let queue : m.state.queue ≡ n.state.queue = ap (λ (x : Durable). x.queue) moved.state_is in
    let skipped : skipped_in (session_at m seat) ≡ s.number ∷ skipped_in (session_at n seat) = ap skipped_in moved.here ∙ ap (λ (x : Option Session). s.number ∷ skipped_in x) (sym row.has) in
    record {
      unclaimed = λ _. ap claim_in moved.here;
      unskipped = λ no_skip. off (ap (λ (x : Course). x.met_skip) (sym change) ∙ no_skip);
      each = subst (Each (Accounted m.state.queue (session_at m seat))) (ap (λ (x : Course). x.numbers) (sym change))
          (Each-weaker (Accounted n.state.queue (session_at n seat)) (Accounted m.state.queue (session_at m seat)) (λ k a. inr (⊎_elim
          (λ (h : claim_in (session_at n seat) ≡ Some k). inr (subst (Member k) (sym skipped) (inl (sym (some_inj (sym c.0 ∙ h))))))
          (λ (r : IsDone n.state.queue k ⊎ Member k (skipped_in (session_at n seat))). ⊎_elim (λ (d : IsDone n.state.queue k). inl (subst (λ l. IsDone l k) (sym queue) d)) (λ (h : Member k (skipped_in (session_at n seat))). inr (subst (Member k) (sym skipped) (inr h))) r)
          a)) t.numbers o.each);
    }
