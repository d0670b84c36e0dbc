-- What holds from one node, as the sender of files, to the other, as their receiver.
use Rattle.std.proofs.Common.{◌≡◌, ◌≢◌, ℕ, true, List, [], ◌∷◌, Option, Some, None, refl, sym, ap, ◌∙◌, subst, ⊎_elim}
use Rattle.ftn_addr.specs.Key.{Key}
use Rattle.node_model.specs.Lists.{Each, updated}
use Rattle.node_model.specs.Items.{Entry}
use Rattle.node_model.specs.Durable.{is_known}
use Rattle.node_model.specs.Node.{Hold, Session, Node, session_at, hold_in}
use Rattle.node_model.specs.Rows.{refuses}
use Rattle.world_pair.specs.World.{LineEnd, Place, addresses, at_line}
use Rattle.node_model.proofs.Lists.{updated_at, updated_apart, decide_line, none_some}
use Rattle.world_pair.proofs.Line.{line_later}
use Rattle.world_pair.specs.Invariant.{Carries, EntryIs, InboxHolds, LineHolds, PeersAre, QueueHolds, SettledStands, session_of, sits_at, unless_broken, working_hold, working_session, working_session_of}

pub works_so : (n : Node) (k : ℕ) → n.broken ≡ None → working_session n k ≡ session_at n k
works_so n k e = ap (λ (b : Option ℕ). unless_broken b (session_at n k)) e

pub works_apart : (n m : Node) (k : ℕ) → m.broken ≡ n.broken → session_at m k ≡ session_at n k → working_session m k ≡ working_session n k
works_apart n m k b e = λ i. unless_broken (b i) (e i)

-- what is told of a hold stands in the session
pub hold_stands : (b : Option ℕ) (s : Option Session) (h : Hold) → hold_in (unless_broken b s) ≡ Some h → hold_in s ≡ Some h
hold_stands None s h e = e
hold_stands (Some count) s h e = none_some e

-- an end sits at that seat, and no other end does
pub record Alone (ends : ℕ → LineEnd) (line seat : ℕ) : Type 0 where
  pub here : (ends line).seat ≡ Some seat
  pub others : (k : ℕ) → k ≢ line → (ends k).seat ≢ Some seat

-- the session of another end stays
pub sits_apart : (n m : Node) (seat : ℕ) (o : Option ℕ) → ((k : ℕ) → k ≢ seat → session_at m k ≡ session_at n k) → o ≢ Some seat → sits_at m o ≡ sits_at n o
sits_apart n m seat None apart other = refl
sits_apart n m seat (Some k) apart other = apart k (λ same. other (ap Some same))

pub sits_here : (n : Node) (seat : ℕ) (o : Option ℕ) → o ≡ Some seat → sits_at n o ≡ session_at n seat
sits_here n seat o e = ap (sits_at n) e

-- a line, with the sender's session at its seat
pub sender_line : (X Y : Place) (line seat : ℕ) → Alone X.ends line seat → Carries X Y → LineHolds X.queued (addresses Y) X.first X.node.state.queue Y.node.state (X.ends line) (session_at X.node seat) (Y.ends line) (working_session_of Y.node (Y.ends line))
sender_line X Y line seat sits half =
    subst (λ s. LineHolds X.queued (addresses Y) X.first X.node.state.queue Y.node.state (X.ends line) s (Y.ends line) (working_session_of Y.node (Y.ends line))) (sits_here X.node seat (X.ends line).seat sits.here) (half.lines line)

-- a line, with the receiver's session at its seat
pub receiver_line : (X Y : Place) (line seat : ℕ) → Alone Y.ends line seat → Carries X Y → LineHolds X.queued (addresses Y) X.first X.node.state.queue Y.node.state (X.ends line) (session_of X.node (X.ends line)) (Y.ends line) (working_session Y.node seat)
receiver_line X Y line seat sits half =
    subst (λ s. LineHolds X.queued (addresses Y) X.first X.node.state.queue Y.node.state (X.ends line) (session_of X.node (X.ends line)) (Y.ends line) (unless_broken Y.node.broken s)) (sits_here Y.node seat (Y.ends line).seat sits.here) (half.lines line)

-- a claim on every line, where one line changes
pub on_lines : (L : LineEnd → Option Session → LineEnd → Option Session → Type 0) (line : ℕ) (a a' c c' : ℕ → LineEnd) (b b' d d' : ℕ → Option Session) → L (a' line) (b' line) (c' line) (d' line) → ((k : ℕ) → k ≢ line → (a' k ≡ a k) × (b' k ≡ b k) × (c' k ≡ c k) × (d' k ≡ d k)) → ((k : ℕ) → L (a k) (b k) (c k) (d k)) → (k : ℕ) → L (a' k) (b' k) (c' k) (d' k)
on_lines L line a a' c c' b b' d d' here frame old k =
    ⊎_elim
    (λ (same : k ≡ line). subst (λ j. L (a' j) (b' j) (c' j) (d' j)) (sym same) here)
    (λ (other : k ≢ line).
    let f = frame k other in
    subst (λ (q : LineEnd × Option Session × LineEnd × Option Session). L q.0 q.1 q.2 q.3) (λ i. (sym f.0 i, sym f.1 i, sym f.2 i, sym f.3 i)) (old k))
    (decide_line k line)

-- the sessions of the other ends, where one seat changes and one end
others_sit : (n m : Node) (ends ends' : ℕ → LineEnd) (line seat : ℕ) → ((k : ℕ) → k ≢ line → (ends k).seat ≢ Some seat) → ((k : ℕ) → k ≢ line → ends' k ≡ ends k) → ((k : ℕ) → k ≢ seat → session_at m k ≡ session_at n k) → (k : ℕ) → k ≢ line → session_of m (ends' k) ≡ session_of n (ends k)
others_sit n m ends ends' line seat others same apart k other = ap (session_of m) (same k other) ∙ sits_apart n m seat (ends k).seat apart (others k other)

-- a step of the sender
pub sender_moves : (X Y : Place) (line seat : ℕ) (m : Node) (e : LineEnd) (ends : ℕ → LineEnd)
    → ((k : ℕ) → k ≢ line → (X.ends k).seat ≢ Some seat)
    → ((k : ℕ) → k ≢ line → ends k ≡ Y.ends k)
    → ((k : ℕ) → k ≢ seat → session_at m k ≡ session_at X.node k)
    → QueueHolds X.queued m.state.queue
    → ((s : Session) → session_at m seat ≡ Some s → PeersAre Y.first Y.others s)
    → ((number : ℕ) (key : Key) → EntryIs X.node.state.queue (addresses Y) number key → EntryIs m.state.queue (addresses Y) number key)
    → Each (SettledStands (addresses Y) X.first Y.node.state) m.state.queue
    → LineHolds X.queued (addresses Y) X.first m.state.queue Y.node.state e (session_of m e) (ends line) (working_session_of Y.node (ends line))
    → Carries X Y → Carries (at_line line e m X) (record Y { ends = ends })
sender_moves X Y line seat m e ends others ends_apart apart outbound peers entries settled here half =
    record {
      outbound = outbound;
      peers = λ k s has. ⊎_elim (λ (same : k ≡ seat). peers s (ap (session_at m) (sym same) ∙ has)) (λ (other : k ≢ seat). half.peers k s (sym (apart k other) ∙ has)) (decide_line k seat);
      inbound = half.inbound;
      settled = settled;
      lines = on_lines (LineHolds X.queued (addresses Y) X.first m.state.queue Y.node.state) line X.ends (updated X.ends line e) Y.ends ends (λ k. session_of X.node (X.ends k)) (λ k. session_of m (updated X.ends line e k)) (λ k. working_session_of Y.node (Y.ends k)) (λ k. working_session_of Y.node (ends k))
          (subst (λ x. LineHolds X.queued (addresses Y) X.first m.state.queue Y.node.state x (session_of m x) (ends line) (working_session_of Y.node (ends line))) (sym (updated_at X.ends line e)) here)
          (λ k other. (updated_apart X.ends line e k other, others_sit X.node m X.ends (updated X.ends line e) line seat others (updated_apart X.ends line e) apart k other, ends_apart k other, ap (working_session_of Y.node) (ends_apart k other)))
          (λ k. line_later X.queued (addresses Y) X.first X.node.state.queue m.state.queue Y.node.state Y.node.state (X.ends k) (session_of X.node (X.ends k)) (Y.ends k) (working_session_of Y.node (Y.ends k)) entries (λ key known. known) (half.lines k));
    }

-- a step of the receiver
pub receiver_moves : (X Y : Place) (line seat : ℕ) (m : Node) (f : LineEnd) (ends : ℕ → LineEnd)
    → ((k : ℕ) → k ≢ line → (Y.ends k).seat ≢ Some seat)
    → ((k : ℕ) → k ≢ line → ends k ≡ X.ends k)
    → m.broken ≡ Y.node.broken
    → ((k : ℕ) → k ≢ seat → session_at m k ≡ session_at Y.node k)
    → InboxHolds X.queued (addresses Y) X.first (refuses m.settings) m.state (working_hold m)
    → ((key : Key) → is_known X.first key Y.node.state ≡ true → is_known X.first key m.state ≡ true)
    → LineHolds X.queued (addresses Y) X.first X.node.state.queue m.state (ends line) (session_of X.node (ends line)) f (working_session_of m f)
    → Carries X Y → Carries (record X { ends = ends }) (at_line line f m Y)
receiver_moves X Y line seat m f ends others ends_apart broken apart inbound known here half =
    record {
      outbound = half.outbound;
      peers = half.peers;
      inbound = inbound;
      settled = settled X.node.state.queue half.settled;
      lines = on_lines (LineHolds X.queued (addresses Y) X.first X.node.state.queue m.state) line X.ends ends Y.ends (updated Y.ends line f) (λ k. session_of X.node (X.ends k)) (λ k. session_of X.node (ends k)) (λ k. working_session_of Y.node (Y.ends k)) (λ k. working_session_of m (updated Y.ends line f k))
          (subst (λ x. LineHolds X.queued (addresses Y) X.first X.node.state.queue m.state (ends line) (session_of X.node (ends line)) x (working_session_of m x)) (sym (updated_at Y.ends line f)) here)
          (λ k other. (ends_apart k other, ap (session_of X.node) (ends_apart k other), updated_apart Y.ends line f k other, λ i. unless_broken (broken i) (others_sit Y.node m Y.ends (updated Y.ends line f) line seat others (updated_apart Y.ends line f) apart k other i)))
          (λ k. line_later X.queued (addresses Y) X.first X.node.state.queue X.node.state.queue Y.node.state m.state (X.ends k) (session_of X.node (X.ends k)) (Y.ends k) (working_session_of Y.node (Y.ends k)) (λ number key is. is) known (half.lines k));
    }
  where
    settled : (queue : List Entry) → Each (SettledStands (addresses Y) X.first Y.node.state) queue → Each (SettledStands (addresses Y) X.first m.state) queue
    settled [] h = tt
    settled (e ∷ es) h = ((λ done. let a = h.0 done in (a.0, known e.key a.1)), settled es h.1)

-- the same, of an end that keeps its seat
pub sender_stays : (X Y : Place) (line seat : ℕ) → Alone X.ends line seat → (m : Node) (e : LineEnd) (ends : ℕ → LineEnd)
    → e.seat ≡ (X.ends line).seat
    → ((k : ℕ) → k ≢ line → ends k ≡ Y.ends k)
    → ((k : ℕ) → k ≢ seat → session_at m k ≡ session_at X.node k)
    → QueueHolds X.queued m.state.queue
    → ((s : Session) → session_at m seat ≡ Some s → PeersAre Y.first Y.others s)
    → ((number : ℕ) (key : Key) → EntryIs X.node.state.queue (addresses Y) number key → EntryIs m.state.queue (addresses Y) number key)
    → Each (SettledStands (addresses Y) X.first Y.node.state) m.state.queue
    → LineHolds X.queued (addresses Y) X.first m.state.queue Y.node.state e (session_at m seat) (ends line) (working_session_of Y.node (ends line))
    → Carries X Y → Carries (at_line line e m X) (record Y { ends = ends })
sender_stays X Y line seat sits m e ends still ends_apart apart outbound peers entries settled here half =
    sender_moves X Y line seat m e ends sits.others ends_apart apart outbound peers entries settled (subst (λ s. LineHolds X.queued (addresses Y) X.first m.state.queue Y.node.state e s (ends line) (working_session_of Y.node (ends line))) (sym (sits_here m seat e.seat (still ∙ sits.here))) here) half

pub receiver_stays : (X Y : Place) (line seat : ℕ) → Alone Y.ends line seat → (m : Node) (f : LineEnd) (ends : ℕ → LineEnd)
    → f.seat ≡ (Y.ends line).seat
    → ((k : ℕ) → k ≢ line → ends k ≡ X.ends k)
    → m.broken ≡ Y.node.broken
    → ((k : ℕ) → k ≢ seat → session_at m k ≡ session_at Y.node k)
    → InboxHolds X.queued (addresses Y) X.first (refuses m.settings) m.state (working_hold m)
    → ((key : Key) → is_known X.first key Y.node.state ≡ true → is_known X.first key m.state ≡ true)
    → LineHolds X.queued (addresses Y) X.first X.node.state.queue m.state (ends line) (session_of X.node (ends line)) f (working_session m seat)
    → Carries X Y → Carries (record X { ends = ends }) (at_line line f m Y)
receiver_stays X Y line seat sits m f ends still ends_apart broken apart inbound known here half =
    receiver_moves X Y line seat m f ends sits.others ends_apart broken apart inbound known (subst (λ s. LineHolds X.queued (addresses Y) X.first X.node.state.queue m.state (ends line) (session_of X.node (ends line)) f (unless_broken m.broken s)) (sym (sits_here m seat f.seat (still ∙ sits.here))) here) half
