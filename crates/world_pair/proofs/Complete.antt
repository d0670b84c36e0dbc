-- Where a batch ends nothing is left to offer, and what could have been offered stands at the other node from then on.
use Rattle.std.proofs.Common.{◌≡◌, ◌≢◌, ℕ, zero, suc, true, false, List, [], ◌∷◌, ◌++◌, Some, refl, sym, ap, ◌∙◌, subst, inl, ⊎_elim}
use Rattle.std.proofs.lemmas.List.{append_assoc}
use Rattle.ftn_addr.specs.Address.{Address}
use Rattle.ftn_addr.specs.Files.{is_same}
use Rattle.ftn_addr.specs.Key.{Key}
use Rattle.node_model.specs.Lists.{Member, some_passes}
use Rattle.node_model.specs.Items.{Body, Live, Done, Entry, Receipt, Refusal}
use Rattle.node_model.specs.Durable.{Durable, is_received, is_refused, is_known}
use Rattle.node_model.specs.Node.{Session, Node, Opening, peers, session_at, claim_in}
use Rattle.node_model.specs.Talk.{Message, File, Data, End}
use Rattle.node_model.specs.Receipts.{InboxStays, SettledStays}
use Rattle.node_model.proofs.Lists.{none_some, some_inj, off, or_true, or_true_right, or_cases, some_passes-append, is_same_true, is_same_at, Each-member, decide_line}
use Rattle.world_pair.specs.Course.{Course, TurnMade}
use Rattle.world_pair.specs.World.{Place, addresses, new_place, Turns, World, Step, At_x, At_y, Reaches, Begins}
use Rattle.world_pair.specs.Law.{KeysAgree}
use Rattle.world_pair.specs.Invariant.{SettledStands, Invariant}
use Rattle.world_pair.specs.Offers.{skipped_in, OffersHold, Accounts, NothingLeft, BatchEnds, AllStands, CompletenessLaw}
use Rattle.world_pair.proofs.Seen.{OwnTurn, Sends, Offers, Ends, Goes, Waits}
use Rattle.world_pair.proofs.Inverts.{own_turn}
use Rattle.world_pair.proofs.Half.{sits_here}
use Rattle.world_pair.proofs.Later.{append_none, Later, later, agree_before}
use Rattle.world_pair.proofs.Runs.{run_keeps}
use Rattle.world_pair.proofs.NodeLives.{run_lives, keeps}
use Rattle.world_pair.proofs.AccountEvents.{own_accounts, peer_accounts}

-- Where a batch ends.

end_in_one : {A : Type 0} (m : Message) (sent : List Message) → sent ≡ m ∷ [] → (End ≡ m → A) → Member End sent → A
end_in_one m sent is differs there = ⊎_elim differs (λ none. absurd none) (subst (Member End) is there)

end_in_none : {A : Type 0} (sent : List Message) → sent ≡ [] → Member End sent → A
end_in_none sent is there = absurd (subst (Member End) is there)

pub nothing_left : (seat : ℕ) (old : Node) (was : Course) (new : Node) (course : Course) (sent : List Message) → TurnMade seat old was new course sent → Member End sent → NothingLeft seat old
nothing_left seat old was new course sent turn there = go (own_turn seat old was new course sent turn)
  where
    go : OwnTurn seat old was new course sent → NothingLeft seat old
    go (Sends s bytes under small room row change says) = end_in_one (Data bytes) sent says (λ e. absurd (cc)) there
    go (Offers e none own row change says) = end_in_one (File e.key 0) sent says (λ e. absurd (cc)) there
    go (Ends none own row change says) = record { session = row.session; has = row.has; free = row.free; none = row.none }
    go (Goes s new_sending under number key place node change says) = end_in_none sent says there
    go (Waits node change says) = end_in_none sent says there

-- Along a run.

begins_accounts : (first : Address) (others : List Address) (o : Opening) → Accounts (new_place first others o)
begins_accounts first others o = record { queued = tt; offers = λ line c talks. none_some talks }

pub run_accounts : (n : ℕ) (w v : World) → Begins w → Reaches n w v → KeysAgree v.x v.y → KeysAgree v.y v.x → Accounts v.x × Accounts v.y
run_accounts zero w v begins same agree back =
    (subst Accounts (ap (λ (u : World). u.x) (sym same)) (subst Accounts (sym begins.at_x) (begins_accounts w.x.first w.x.others begins.x_opening)), subst Accounts (ap (λ (u : World). u.y) (sym same)) (subst Accounts (sym begins.at_y) (begins_accounts w.y.first w.y.others begins.y_opening)))
run_accounts (suc n) w v begins (mid, before, step) agree back = go step (run_accounts n w mid begins before)
  where
    go : Step mid v → (KeysAgree mid.x mid.y → KeysAgree mid.y mid.x → Accounts mid.x × Accounts mid.y) → Accounts v.x × Accounts v.y
    go (At_x e) accounts =
        let l = later mid.x mid.y v.x v.y e in
        let one = agree_before mid.x v.x mid.y v.y l.0 l.1 agree in
        let other = agree_before mid.y v.y mid.x v.x l.1 l.0 back in
        let acc = accounts one other in
        (own_accounts mid.x mid.y v.x v.y e (run_keeps n w mid begins before one other) acc.0, peer_accounts mid.x mid.y v.x v.y e acc.1)
    go (At_y e) accounts =
        let l = later mid.y mid.x v.y v.x e in
        let one = agree_before mid.x v.x mid.y v.y l.1 l.0 agree in
        let other = agree_before mid.y v.y mid.x v.x l.0 l.1 back in
        let acc = accounts one other in
        let h = run_keeps n w mid begins before one other in
        (peer_accounts mid.y mid.x v.y v.x e acc.0, own_accounts mid.y mid.x v.y v.x e (record { out = h.back; back = h.out; sits = h.sits_there; sits_there = h.sits }) acc.1)

later_same : (p q : Place) → q ≡ p → Later p q
later_same p q same = record { first = ap (λ (x : Place). x.first) same; others = ap (λ (x : Place). x.others) same; more = []; queued = ap (λ (x : Place). x.queued) same ∙ append_none p.queued }

later_then : (p q r : Place) → Later p q → Later q r → Later p r
later_then p q r a b = record { first = b.first ∙ a.first; others = b.others ∙ a.others; more = a.more ++ b.more; queued = b.queued ∙ (ap (λ l. l ++ b.more) a.queued ∙ append_assoc p.queued a.more b.more) }

step_later : (w v : World) → Step w v → Later w.x v.x × Later w.y v.y
step_later w v (At_x e) = later w.x w.y v.x v.y e
step_later w v (At_y e) = let l = later w.y w.x v.y v.x e in (l.1, l.0)

run_later : (n : ℕ) (w v : World) → Reaches n w v → Later w.x v.x × Later w.y v.y
run_later zero w v same = (later_same w.x v.x (ap (λ (u : World). u.x) same), later_same w.y v.y (ap (λ (u : World). u.y) same))
run_later (suc n) w v (mid, before, step) =
    let a = run_later n w mid before in
    let b = step_later mid v step in
    (later_then w.x mid.x v.x a.0 b.0, later_then w.y mid.y v.y a.1 b.1)

-- What stands at a node stands there from then on.

received_stays : (from : Address) (key : Key) (rs qs : List Receipt) → InboxStays rs qs → some_passes (λ (r : Receipt). is_same from key r.from r.key) rs ≡ true → some_passes (λ (r : Receipt). is_same from key r.from r.key) qs ≡ true
received_stays from key [] qs stays is = off (sym is)
received_stays from key (r ∷ rs) [] stays is = absurd stays
received_stays from key (r ∷ rs) (q ∷ qs) stays is = ⊎_elim
    (λ (here : is_same from key r.from r.key ≡ true). let same = is_same_true from key r.from r.key here in or_true (is_same from key q.from q.key) _ (is_same_at from key q.from q.key (same.0 ∙ sym stays.0.from_is) (same.1 ∙ sym stays.0.key_is)))
    (λ (further : some_passes (λ (x : Receipt). is_same from key x.from x.key) rs ≡ true). or_true_right (is_same from key q.from q.key) _ (received_stays from key rs qs stays.1 further))
    (or_cases (is_same from key r.from r.key) _ is)

pub known_stays : (from : Address) (key : Key) (d e : Durable) → SettledStays d e → is_known from key d ≡ true → is_known from key e ≡ true
known_stays from key d e stays is = ⊎_elim
    (λ (received : is_received from key d ≡ true). or_true (is_received from key e) _ (received_stays from key d.inbox e.inbox stays.received received))
    (λ (refused : is_refused from key d ≡ true). or_true_right (is_received from key e) (is_refused from key e) (subst (λ (rs : List Refusal). some_passes (λ (r : Refusal). is_same from key r.from r.key) rs ≡ true) (sym stays.refused.1) (some_passes-append (λ (r : Refusal). is_same from key r.from r.key) d.refused stays.refused.0 refused)))
    (or_cases (is_received from key d) (is_refused from key d) is)

-- All that could have been offered is settled where the batch ends.
all_settled : (me peer me' peer' : Place) (line : ℕ) → BatchEnds line me peer me' peer' → Invariant me peer → Accounts me
    → (seat : ℕ) (s : Session) (c : Course) (e : Entry) → (me.ends line).seat ≡ Some seat → session_at me.node seat ≡ Some s → (me.ends line).course ≡ Some c → c.met_skip ≡ false
    → Member e me.node.state.queue → Member e.dest (peers s) → ((k : ℕ) → k ≢ seat → claim_in (session_at me.node k) ≢ Some e.number) → is_known me.first e.key peer.node.state ≡ true
all_settled me peer me' peer' line batch inv acc seat s c e sits has talks no_skip there for_peer others = go e.body refl
  where
    left : NothingLeft seat me.node
    left = subst (λ k. NothingLeft k me.node) (some_inj (sym batch.sits ∙ sits)) (nothing_left batch.seat me.node batch.was batch.node batch.course (End ∷ []) batch.turn (inl refl))

    mine : left.session ≡ s
    mine = some_inj (sym left.has ∙ has)

    offers : OffersHold me.node.state.queue (session_at me.node seat) c
    offers = subst (λ x. OffersHold me.node.state.queue x c) (sits_here me.node seat (me.ends line).seat sits) (acc.offers line c talks)

    no_claim : (k : ℕ) → claim_in (session_at me.node k) ≢ Some e.number
    no_claim k = ⊎_elim
        (λ (same : k ≡ seat). λ is. none_some (sym left.free ∙ (sym (ap claim_in left.has) ∙ (ap (λ j. claim_in (session_at me.node j)) (sym same) ∙ is))))
        (λ (apart : k ≢ seat). others k apart)
        (decide_line k seat)

    go : (b : Body) → e.body ≡ b → is_known me.first e.key peer.node.state ≡ true
    go Done is = (Each-member (SettledStands (addresses peer) me.first peer.node.state) e me.node.state.queue inv.out.settled there is).1
    go (Live bytes) is = absurd (left.none e (record {
      queued = there;
      bytes = bytes;
      live = is;
      for_peer = subst (λ (x : Session). Member e.dest (peers x)) (sym mine) for_peer;
      unclaimed = no_claim;
      unskipped = λ skip. subst (Member e.number) (ap (λ (x : Session). x.skipped) mine ∙ (sym (ap skipped_in has) ∙ offers.unskipped no_skip)) skip;
    }))

pub completeness : CompletenessLaw
completeness n m line w u u' v begins to_batch from_batch agree back =
    (λ batch. at_x batch, λ batch. at_y batch)
  where
    at_x : BatchEnds line u.x u.y u'.x u'.y → AllStands line u.x v.x v.y
    at_x batch seat s c e sits has talks no_skip there for_peer others =
        let event : Step u u' = At_x (Turns line batch.seat batch.node batch.was batch.course (End ∷ []) batch.sits batch.talks batch.turn batch.after batch.peer_stays) in
        let l = step_later u u' event in
        let r = run_later m u' v from_batch in
        let lx = later_then u.x u'.x v.x l.0 r.0 in
        let ly = later_then u.y u'.y v.y l.1 r.1 in
        let one = agree_before u.x v.x u.y v.y lx ly agree in
        let other = agree_before u.y v.y u.x v.x ly lx back in
        let known = all_settled u.x u.y u'.x u'.y line batch (run_keeps n w u begins to_batch one other) (run_accounts n w u begins to_batch one other).0 seat s c e sits has talks no_skip there for_peer others in
        let stays = (keeps u'.y.node v.y.node (run_lives m u' v from_batch).1).settled in
        subst (λ a. is_known a e.key v.y.node.state ≡ true) (sym lx.first) (known_stays u.x.first e.key u'.y.node.state v.y.node.state stays (subst (λ (p : Place). is_known u.x.first e.key p.node.state ≡ true) (sym batch.peer_stays) known))

    at_y : BatchEnds line u.y u.x u'.y u'.x → AllStands line u.y v.y v.x
    at_y batch seat s c e sits has talks no_skip there for_peer others =
        let event : Step u u' = At_y (Turns line batch.seat batch.node batch.was batch.course (End ∷ []) batch.sits batch.talks batch.turn batch.after batch.peer_stays) in
        let l = step_later u u' event in
        let r = run_later m u' v from_batch in
        let lx = later_then u.x u'.x v.x l.0 r.0 in
        let ly = later_then u.y u'.y v.y l.1 r.1 in
        let one = agree_before u.x v.x u.y v.y lx ly agree in
        let other = agree_before u.y v.y u.x v.x ly lx back in
        let h = run_keeps n w u begins to_batch one other in
        let known = all_settled u.y u.x u'.y u'.x line batch (record { out = h.back; back = h.out; sits = h.sits_there; sits_there = h.sits }) (run_accounts n w u begins to_batch one other).1 seat s c e sits has talks no_skip there for_peer others in
        let stays = (keeps u'.x.node v.x.node (run_lives m u' v from_batch).0).settled in
        subst (λ a. is_known a e.key v.x.node.state ≡ true) (sym ly.first) (known_stays u.y.first e.key u'.x.node.state v.x.node.state stays (subst (λ (p : Place). is_known u.y.first e.key p.node.state ≡ true) (sym batch.peer_stays) known))
