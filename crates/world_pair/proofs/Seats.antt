-- Ends and seats: each end that sits has an open session, and no two sit at one seat.
use Rattle.std.proofs.Common.{◌≡◌, ◌≢◌, ◌⊎◌, ℕ, List, Some, None, sym, ap, ◌∙◌, subst, inl, inr, ⊎_elim}
use Rattle.ftn_addr.specs.Key.{Key}
use Rattle.node_model.specs.declared.words.Role.{Role}
use Rattle.node_model.specs.Lists.{updated}
use Rattle.node_model.specs.Durable.{Durable}
use Rattle.node_model.specs.Node.{Session, Node, session_at}
use Rattle.node_model.specs.Rows.{FileAnswer, Have, Refuse, Elsewhere, Go, Whole, From, Late, released, unheld, LeaveRow}
use Rattle.node_model.specs.Talk.{Message}
use Rattle.world_pair.specs.Course.{Course}
use Rattle.world_pair.specs.World.{LineEnd, opened, gone}
use Rattle.node_model.proofs.Lists.{updated_at, updated_apart, decide_line, none_some, some_inj}
use Rattle.node_model.proofs.Moves.{Moved, moved, offer-moved, got-moved, skip-moved, released-moved, more-moved, whole-moved, leave-moved}
use Rattle.world_pair.proofs.Seen.{Answered, OwnTurn, Sends, Offers, Ends, Goes, Waits, Take, Take_file, Take_more, Take_whole, Drop_data, Take_got, Pass_got, Take_skip, Pass_skip, Take_get, Pass_get, Take_end}
use Rattle.world_pair.proofs.Half.{Alone}
use Rattle.world_pair.specs.Invariant.{Occupied, Seated}

pub alone : (n : Node) (ends : ℕ → LineEnd) (line seat : ℕ) → (ends line).seat ≡ Some seat → Seated n ends → Alone ends line seat
alone n ends line seat here s = record { here = here; others = λ k other e. other (s.apart k line seat e here) }

-- no end sits at a seat without a session
pub nobody : (n : Node) (ends : ℕ → LineEnd) (seat : ℕ) → session_at n seat ≡ None → Seated n ends → (k : ℕ) → (ends k).seat ≢ Some seat
nobody n ends seat free s k e = let o = s.open_there k seat e in none_some (sym free ∙ o.1)

-- fewer ends sit, and sessions stay open
pub seated_fewer : (n m : Node) (ends ends' : ℕ → LineEnd) → ((k seat : ℕ) → (ends' k).seat ≡ Some seat → (ends k).seat ≡ Some seat) → ((k seat : ℕ) → (ends' k).seat ≡ Some seat → Occupied n seat → Occupied m seat) → Seated n ends → Seated m ends'
seated_fewer n m ends ends' fewer stay s =
    record { open_there = λ k seat e. stay k seat e (s.open_there k seat (fewer k seat e)); apart = λ j k seat a b. s.apart j k seat (fewer j seat a) (fewer k seat b) }

-- the seat of an end among those of which one changed
pub seat_updated : (ends : ℕ → LineEnd) (line : ℕ) (e : LineEnd) (k seat : ℕ) → (updated ends line e k).seat ≡ Some seat → ((k ≡ line) × (e.seat ≡ Some seat)) ⊎ ((k ≢ line) × ((ends k).seat ≡ Some seat))
seat_updated ends line e k seat has = ⊎_elim
    (λ (same : k ≡ line). inl (same, ap (λ (x : LineEnd). x.seat) (sym (updated_at ends line e)) ∙ (ap (λ j. (updated ends line e j).seat) (sym same) ∙ has)))
    (λ (other : k ≢ line). inr (other, ap (λ (x : LineEnd). x.seat) (sym (updated_apart ends line e k other)) ∙ has))
    (decide_line k line)

-- one end changes and keeps its seat
pub same_seats : (ends : ℕ → LineEnd) (line : ℕ) (e : LineEnd) → e.seat ≡ (ends line).seat → (k seat : ℕ) → (updated ends line e k).seat ≡ Some seat → (ends k).seat ≡ Some seat
same_seats ends line e still k seat has = ⊎_elim
    (λ (c : (k ≡ line) × (e.seat ≡ Some seat)). ap (λ j. (ends j).seat) c.0 ∙ (sym still ∙ c.1))
    (λ (c : (k ≢ line) × ((ends k).seat ≡ Some seat)). c.1)
    (seat_updated ends line e k seat has)

pub seated_end : (n : Node) (ends : ℕ → LineEnd) (line : ℕ) (e : LineEnd) → e.seat ≡ (ends line).seat → Seated n ends → Seated n (updated ends line e)
seated_end n ends line e still s = seated_fewer n n ends (updated ends line e) (same_seats ends line e still) (λ _ _ _ o. o) s

-- a row of that seat
pub seated_row : (n m : Node) (ends : ℕ → LineEnd) (line seat : ℕ) (e : LineEnd) → e.seat ≡ (ends line).seat → ((k : ℕ) → k ≢ seat → session_at m k ≡ session_at n k) → (Occupied n seat → Occupied m seat) → Seated n ends → Seated m (updated ends line e)
seated_row n m ends line seat e still apart stays s =
    seated_fewer n m ends (updated ends line e) (same_seats ends line e still)
    (λ k other _ o. ⊎_elim (λ (same : other ≡ seat). subst (Occupied m) (sym same) (stays (subst (Occupied n) same o))) (λ (differs : other ≢ seat). (o.0, apart other differs ∙ o.1)) (decide_line other seat))
    s

pub seated_opens : (n m : Node) (ends : ℕ → LineEnd) (line seat : ℕ) (role : Role) (t : Session) (d : Durable) → session_at n seat ≡ None → Moved n m seat (Some t) d → Seated n ends → Seated m (updated ends line (opened seat role (ends line)))
seated_opens n m ends line seat role t d free moved s =
    record {
      open_there = λ k other e. ⊎_elim
          (λ (c : (k ≡ line) × (Some seat ≡ Some other)). subst (Occupied m) (some_inj c.1) (t, moved.here))
          (λ (c : (k ≢ line) × ((ends k).seat ≡ Some other)). let o = s.open_there k other c.1 in (o.0, moved.apart other (λ same. nobody n ends seat free s k (c.1 ∙ ap Some same)) ∙ o.1))
          (seat_updated ends line now k other e);
      apart = λ j k other a b. two j k other (seat_updated ends line now j other a) (seat_updated ends line now k other b);
    }
  where
    now : LineEnd
    now = opened seat role (ends line)

    two : (j k other : ℕ) → ((j ≡ line) × (now.seat ≡ Some other)) ⊎ ((j ≢ line) × ((ends j).seat ≡ Some other)) → ((k ≡ line) × (now.seat ≡ Some other)) ⊎ ((k ≢ line) × ((ends k).seat ≡ Some other)) → j ≡ k
    two j k other (inl a) (inl b) = a.0 ∙ sym b.0
    two j k other (inl a) (inr b) = absurd (nobody n ends seat free s k (b.1 ∙ sym a.1))
    two j k other (inr a) (inl b) = absurd (nobody n ends seat free s j (a.1 ∙ sym b.1))
    two j k other (inr a) (inr b) = s.apart j k other a.1 b.1

pub seated_leaves : (n m : Node) (ends : ℕ → LineEnd) (line seat : ℕ) → (ends line).seat ≡ Some seat → ((k : ℕ) → k ≢ seat → session_at m k ≡ session_at n k) → Seated n ends → Seated m (updated ends line (gone (ends line)))
seated_leaves n m ends line seat here apart s =
    seated_fewer n m ends (updated ends line (gone (ends line)))
    (λ k other e. ⊎_elim (λ (c : (k ≡ line) × (None ≡ Some other)). none_some c.1) (λ (c : (k ≢ line) × ((ends k).seat ≡ Some other)). c.1) (seat_updated ends line (gone (ends line)) k other e))
    (λ k other e o. ⊎_elim (λ (c : (k ≡ line) × (None ≡ Some other)). none_some c.1) (λ (c : (k ≢ line) × ((ends k).seat ≡ Some other)). (o.0, apart other (λ same. c.0 (s.apart k line other c.1 (here ∙ ap Some (sym same)))) ∙ o.1)) (seat_updated ends line (gone (ends line)) k other e))
    s

-- rows keep the session open

same_open : (n m : Node) (seat : ℕ) → m ≡ n → Occupied n seat → Occupied m seat
same_open n m seat e o = subst (λ x. Occupied x seat) (sym e) o

pub row_stays : (n m : Node) (seat : ℕ) (t : Session) (d : Durable) → Moved n m seat (Some t) d → Occupied n seat → Occupied m seat
row_stays n m seat t d moved o = (t, moved.here)

pub turn_stays : (seat : ℕ) (n : Node) (t : Course) (m : Node) (u : Course) (sent : List Message) → OwnTurn seat n t m u sent → (Occupied n seat → Occupied m seat) × ((k : ℕ) → k ≢ seat → session_at m k ≡ session_at n k)
turn_stays seat n t m u sent (Waits same_node _ _) = (same_open n m seat same_node, λ k _. ap (λ (x : Node). session_at x k) same_node)
turn_stays seat n t m u sent (Goes _ _ _ _ _ _ same_node _ _) = (same_open n m seat same_node, λ k _. ap (λ (x : Node). session_at x k) same_node)
turn_stays seat n t m u sent (Ends _ _ row _ _) = (same_open n m seat row.after, λ k _. ap (λ (x : Node). session_at x k) row.after)
turn_stays seat n t m u sent (Sends _ _ _ _ _ row _ _) = (same_open n m seat row.after, λ k _. ap (λ (x : Node). session_at x k) row.after)
turn_stays seat n t m u sent (Offers e _ _ row _ _) = let v = offer-moved n m seat e row in (row_stays n m seat _ _ v, v.apart)

answered_stays : (n m : Node) (seat : ℕ) (s : Session) (key : Key) (offset : ℕ) (answer : FileAnswer) → session_at n seat ≡ Some s → Answered seat s key offset answer n m → Occupied m seat × ((k : ℕ) → k ≢ seat → session_at m k ≡ session_at n k)
answered_stays n m seat s key offset Have has a = ((s, ap (λ (x : Node). session_at x seat) a.1 ∙ has), λ k _. ap (λ (x : Node). session_at x k) a.1)
answered_stays n m seat s key offset Refuse has a = ((s, ap (λ (x : Node). session_at x seat) a.1 ∙ has), λ k _. ap (λ (x : Node). session_at x k) a.1)
answered_stays n m seat s key offset Elsewhere has a = ((s, ap (λ (x : Node). session_at x seat) a.1 ∙ has), λ k _. ap (λ (x : Node). session_at x k) a.1)
answered_stays n m seat s key offset Late has a = ((s, ap (λ (x : Node). session_at x seat) a.1 ∙ has), λ k _. ap (λ (x : Node). session_at x k) a.1)
answered_stays n m seat s key offset Whole has a = ((s, ap (λ (x : Node). session_at x seat) a.1.2 ∙ has), λ k _. ap (λ (x : Node). session_at x k) a.1.2)
answered_stays n m seat s key offset Go has a =
    let v = moved n m seat _ n.state (ap (λ (x : Node). x.state) a.1.2) (ap (λ (x : Node). x.settings) a.1.2) (ap (λ (x : Node). x.broken) a.1.2) (ap (λ (x : Node). x.seats) a.1.2) in
    ((_, v.here), v.apart)
answered_stays n m seat s key offset (From place) has a =
    let v = moved n m seat _ n.state (ap (λ (x : Node). x.state) a.1.2) (ap (λ (x : Node). x.settings) a.1.2) (ap (λ (x : Node). x.broken) a.1.2) (ap (λ (x : Node). x.seats) a.1.2) in
    ((_, v.here), v.apart)

pub take_stays : (seat : ℕ) (n : Node) (t : Course) (m : Node) (u : Course) (sent : List Message) (w : Message) → Take seat n t m u sent w → (Occupied n seat → Occupied m seat) × ((k : ℕ) → k ≢ seat → session_at m k ≡ session_at n k)
take_stays seat n t m u sent w (Take_file {key = key} {offset = offset} answer _ row reply same) =
    let v = released-moved n seat row.session in
    let a = answered_stays (released seat row.session n) m seat (unheld row.session) key offset answer v.here (row.applies, row.made) in
    (λ _. a.0, λ k other. a.1 k other ∙ v.apart k other)
take_stays seat n t m u sent w (Take_more {bytes = bytes} _ row none same) = let v = more-moved n m seat bytes row in (row_stays n m seat _ _ v, v.apart)
take_stays seat n t m u sent w (Take_whole {bytes = bytes} _ row got same) = let v = whole-moved n m seat bytes row in (row_stays n m seat _ _ v, v.apart)
take_stays seat n t m u sent w (Drop_data idle node none same) = (same_open n m seat node, λ k _. ap (λ (x : Node). session_at x k) node)
take_stays seat n t m u sent w (Take_got s under same row none change) = let v = got-moved n m seat s.number row in (row_stays n m seat _ _ v, v.apart)
take_stays seat n t m u sent w (Pass_got other node none same) = (same_open n m seat node, λ k _. ap (λ (x : Node). session_at x k) node)
take_stays seat n t m u sent w (Take_skip s under same row none change) = let v = skip-moved n m seat s.number row in (row_stays n m seat _ _ v, v.apart)
take_stays seat n t m u sent w (Pass_skip other node none change) = (same_open n m seat node, λ k _. ap (λ (x : Node). session_at x k) node)
take_stays seat n t m u sent w (Take_get s under same fits node says_file change) = (same_open n m seat node, λ k _. ap (λ (x : Node). session_at x k) node)
take_stays seat n t m u sent w (Pass_get other node none same) = (same_open n m seat node, λ k _. ap (λ (x : Node). session_at x k) node)
take_stays seat n t m u sent w (Take_end node none change) = (same_open n m seat node, λ k _. ap (λ (x : Node). session_at x k) node)

pub leave_apart : (n m : Node) (seat : ℕ) → LeaveRow seat n m → (k : ℕ) → k ≢ seat → session_at m k ≡ session_at n k
leave_apart n m seat (inl row) k other = (leave-moved n m seat row).apart k other
leave_apart n m seat (inr row) k other = ap (λ (x : Node). session_at x k) row.1
