-- What a place accounts for is kept by every event.
use Rattle.std.proofs.Common.{◌≡◌, ◌≢◌, ◌⊎◌, ℕ, true, false, List, [], ◌∷◌, ◌++◌, Option, Some, None, map, refl, sym, ap, ◌∙◌, subst, inl, inr, ⊎_elim}
use Rattle.ftn_addr.specs.Address.{Address}
use Rattle.ftn_addr.specs.Files.{is_same}
use Rattle.ftn_addr.specs.Key.{Key}
use Rattle.node_model.specs.Lists.{Member, updated}
use Rattle.node_model.specs.Items.{Entry, Done}
use Rattle.node_model.specs.Node.{Session, Node, session_at, claim_in}
use Rattle.node_model.specs.SendRows.{NewFile, Slot, Enqueued, No_more, Stands, Fresh, is_queued, live_entry}
use Rattle.node_model.proofs.Lists.{updated_at, updated_apart, decide_line, none_some, Each-weaker, or_cases, or_true, or_true_right, some_passes-last, is_same_true, is_same_at}
use Rattle.world_pair.specs.Course.{Course}
use Rattle.world_pair.specs.World.{GivenFile, given_file, LineEnd}
use Rattle.world_pair.specs.Nodes.{QueueStays}
use Rattle.world_pair.specs.Invariant.{sits_at, session_of}
use Rattle.world_pair.specs.Offers.{skipped_in, IsDone, Accounted, OffersHold, EachOffers, EachQueued}
use Rattle.world_pair.proofs.QueueStays.{still_queued, enqueued_stays}
use Rattle.world_pair.proofs.Half.{sits_apart}

-- Entries.

-- what is settled stays so
done_stays_on : (queue queue' : List Entry) → QueueStays queue queue' → (number : ℕ) → IsDone queue number → IsDone queue' number
done_stays_on queue queue' stays number (e, there, numbered, body) =
    let f = still_queued queue queue' e stays there in
    (f.0, f.1, f.2.number ∙ numbered, ⊎_elim (λ (same : f.0.body ≡ e.body). same ∙ body) (λ (done : f.0.body ≡ Done). done) f.2.body)

-- what is queued stays so
queued_stays : (dest : Address) (key : Key) (queue queue' : List Entry) → QueueStays queue queue' → is_queued dest key queue ≡ true → is_queued dest key queue' ≡ true
queued_stays dest key [] queue' stays is = none_true is
  where
    none_true : false ≡ true → is_queued dest key queue' ≡ true
    none_true e = absurd (cc)
queued_stays dest key (e ∷ es) [] stays is = absurd stays
queued_stays dest key (e ∷ es) (f ∷ fs) stays is = ⊎_elim
    (λ (here : is_same dest key e.dest e.key ≡ true). let same = is_same_true dest key e.dest e.key here in or_true (is_same dest key f.dest f.key) _ (is_same_at dest key f.dest f.key (same.0 ∙ sym stays.0.dest) (same.1 ∙ sym stays.0.key)))
    (λ (later : is_queued dest key es ≡ true). or_true_right (is_same dest key f.dest f.key) _ (queued_stays dest key es fs stays.1 later))
    (or_cases (is_same dest key e.dest e.key) (is_queued dest key es) is)

pub each_queued_stays : (files : List GivenFile) (queue queue' : List Entry) → QueueStays queue queue' → EachQueued files queue → EachQueued files queue'
each_queued_stays files queue queue' stays each =
    Each-weaker (λ (f : GivenFile). is_queued f.dest f.key queue ≡ true) (λ (f : GivenFile). is_queued f.dest f.key queue' ≡ true) (λ f is. queued_stays f.dest f.key queue queue' stays is) files each

-- the files that are queued have entries then
pub enqueued_all : (files : List NewFile) (slots : List Slot) (old new : List Entry) → Enqueued files slots old new → EachQueued (map given_file files) new
enqueued_all files slots old new No_more = tt
enqueued_all files slots old new (Stands {f = f} {files = fs} {slots = ss} {old = o} {new = w} e there again rest) =
    let same = is_same_true f.dest f.key e.dest e.key again in
    let here = still_queued o w e (enqueued_stays fs ss o w rest) there in
    (member_queued f.dest f.key w here.0 here.1 (is_same_at f.dest f.key here.0.dest here.0.key (same.0 ∙ sym here.2.dest) (same.1 ∙ sym here.2.key)), enqueued_all fs ss o w rest)
  where
    member_queued : (dest : Address) (key : Key) (queue : List Entry) (e : Entry) → Member e queue → is_same dest key e.dest e.key ≡ true → is_queued dest key queue ≡ true
    member_queued dest key [] e there same = absurd there
    member_queued dest key (x ∷ xs) e (inl is) same = or_true (is_same dest key x.dest x.key) _ (subst (λ (y : Entry). is_same dest key y.dest y.key ≡ true) is same)
    member_queued dest key (x ∷ xs) e (inr there) same = or_true_right (is_same dest key x.dest x.key) _ (member_queued dest key xs e there same)
enqueued_all files slots old new (Fresh {f = f} {files = fs} {slots = ss} {old = o} {new = w} number fresh above rest) =
    (queued_stays f.dest f.key (o ++ live_entry number f ∷ []) w (enqueued_stays fs ss (o ++ live_entry number f ∷ []) w rest) (some_passes-last (λ (e : Entry). is_same f.dest f.key e.dest e.key) o (live_entry number f) (is_same_at f.dest f.key f.dest f.key refl refl)), enqueued_all fs ss (o ++ live_entry number f ∷ []) w rest)

-- Sessions.

-- the session of a seat is another with the same claim and the same skips
offers_move : (queue queue' : List Entry) (s s' : Option Session) (c : Course) → QueueStays queue queue' → claim_in s' ≡ claim_in s → skipped_in s' ≡ skipped_in s → OffersHold queue s c → OffersHold queue' s' c
offers_move queue queue' s s' c stays claim skips o =
    record {
      unclaimed = λ none. claim ∙ o.unclaimed none;
      each = Each-weaker (Accounted queue s) (Accounted queue' s') (λ number a. ⊎_elim
          (λ (claimed : claim_in s ≡ Some number). inl (claim ∙ claimed))
          (λ (rest : IsDone queue number ⊎ Member number (skipped_in s)). inr (⊎_elim (λ (done : IsDone queue number). inl (done_stays_on queue queue' stays number done)) (λ (skip : Member number (skipped_in s)). inr (subst (Member number) (sym skips) skip)) rest))
          a) c.numbers o.each;
      unskipped = λ no_skip. skips ∙ o.unskipped no_skip;
    }

offers_same : (queue queue' : List Entry) (s s' : Option Session) (c : Course) → QueueStays queue queue' → s' ≡ s → OffersHold queue s c → OffersHold queue' s' c
offers_same queue queue' s s' c stays same o = offers_move queue queue' s s' c stays (ap claim_in same) (ap skipped_in same) o

-- the ends stay, and so do claims and skips
pub all_move : (n m : Node) (ends : ℕ → LineEnd) → QueueStays n.state.queue m.state.queue → ((k : ℕ) → claim_in (session_at m k) ≡ claim_in (session_at n k)) → ((k : ℕ) → skipped_in (session_at m k) ≡ skipped_in (session_at n k)) → EachOffers n ends → EachOffers m ends
all_move n m ends stays claims skips each line c talks =
    offers_move n.state.queue m.state.queue (session_of n (ends line)) (session_of m (ends line)) c stays (at (λ s. claim_in s) claims (ends line).seat) (at_skips (ends line).seat) (each line c talks)
  where
    at : (f : Option Session → Option ℕ) → ((k : ℕ) → f (session_at m k) ≡ f (session_at n k)) → (o : Option ℕ) → f (sits_at m o) ≡ f (sits_at n o)
    at f same None = refl
    at f same (Some k) = same k

    at_skips : (o : Option ℕ) → skipped_in (sits_at m o) ≡ skipped_in (sits_at n o)
    at_skips None = refl
    at_skips (Some k) = skips k

-- one end changes, and with it the session of its seat
pub one_moves : (n m : Node) (ends : ℕ → LineEnd) (line seat : ℕ) (e : LineEnd)
    → ((k : ℕ) → k ≢ line → (ends k).seat ≢ Some seat) → ((k : ℕ) → k ≢ seat → session_at m k ≡ session_at n k) → QueueStays n.state.queue m.state.queue
    → ((c : Course) → e.course ≡ Some c → OffersHold m.state.queue (session_of m e) c) → EachOffers n ends → EachOffers m (updated ends line e)
one_moves n m ends line seat e others apart stays here each k c talks = ⊎_elim
    (λ (same : k ≡ line).
    let is : updated ends line e k ≡ e = ap (updated ends line e) same ∙ updated_at ends line e in
    subst (λ (x : LineEnd). OffersHold m.state.queue (session_of m x) c) (sym is) (here c (ap (λ (x : LineEnd). x.course) (sym is) ∙ talks)))
    (λ (other : k ≢ line).
    let is : updated ends line e k ≡ ends k = updated_apart ends line e k other in
    subst (λ (x : LineEnd). OffersHold m.state.queue (session_of m x) c) (sym is)
    (offers_same n.state.queue m.state.queue (session_of n (ends k)) (session_of m (ends k)) c stays (sits_apart n m seat (ends k).seat apart (others k other)) (each k c (ap (λ (x : LineEnd). x.course) (sym is) ∙ talks))))
    (decide_line k line)

-- the node stays, and of the ends their courses and seats
pub ends_alike : (n : Node) (ends ends' : ℕ → LineEnd) → ((k : ℕ) → ((ends' k).course ≡ (ends k).course) × ((ends' k).seat ≡ (ends k).seat)) → EachOffers n ends → EachOffers n ends'
ends_alike n ends ends' alike each k c talks =
    subst (λ (o : Option ℕ). OffersHold n.state.queue (sits_at n o) c) (sym (alike k).1) (each k c (sym (alike k).0 ∙ talks))

pub end_alike : (n : Node) (ends : ℕ → LineEnd) (line : ℕ) (e : LineEnd) → e.course ≡ (ends line).course → e.seat ≡ (ends line).seat → EachOffers n ends → EachOffers n (updated ends line e)
end_alike n ends line e course seat each = ends_alike n ends (updated ends line e) alike each
  where
    alike : (k : ℕ) → ((updated ends line e k).course ≡ (ends k).course) × ((updated ends line e k).seat ≡ (ends k).seat)
    alike k = ⊎_elim
        (λ (same : k ≡ line). let is = ap (updated ends line e) same ∙ updated_at ends line e in (ap (λ (x : LineEnd). x.course) is ∙ (course ∙ ap (λ j. (ends j).course) (sym same)), ap (λ (x : LineEnd). x.seat) is ∙ (seat ∙ ap (λ j. (ends j).seat) (sym same))))
        (λ (other : k ≢ line). (ap (λ (x : LineEnd). x.course) (updated_apart ends line e k other), ap (λ (x : LineEnd). x.seat) (updated_apart ends line e k other)))
        (decide_line k line)

pub silent : {A : Type 0} (c : Course) → None ≡ Some c → A
silent c e = none_some e
