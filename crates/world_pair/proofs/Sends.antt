-- The events of a node, as the sender of files.
use Rattle.std.proofs.Common.{◌≡◌, ◌≢◌, ℕ, zero, suc, ◌+◌, Bool, true, false, List, [], ◌∷◌, Option, Some, None, length, take, drop, refl, sym, ap, ◌∙◌, subst, inl, inr}
use Rattle.ftn_addr.specs.Address.{Address}
use Rattle.ftn_addr.specs.Key.{Key}
use Rattle.node_model.specs.Lists.{Member, Each, updated}
use Rattle.node_model.specs.Items.{Entry}
use Rattle.node_model.specs.Durable.{Durable, is_known, all_done}
use Rattle.node_model.specs.Node.{Session, peers, Node, session_at, claim_in}
use Rattle.node_model.specs.Rows.{FileAnswer, Have, Refuse, Elsewhere, Go, Whole, From, Late}
use Rattle.world_pair.specs.Course.{Course}
use Rattle.world_pair.proofs.Seen.{OwnTurn, Sends, Offers, Ends, Goes, Waits, Take, Take_file, Take_more, Take_whole, Drop_data, Take_got, Pass_got, Take_skip, Pass_skip, Take_get, Pass_get, Take_end, Reply}
use Rattle.node_model.specs.Talk.{Sending, under_way}
use Rattle.node_model.specs.Talk.{Message, File, Data, Got, Get, Skip, End}
use Rattle.world_pair.specs.World.{GivenFile, LineEnd, Place, addresses, at_line, with_end, with_outbox, says}
use Rattle.node_model.proofs.Lists.{updated_at, updated_apart, none_some, some_inj, off, Each-weaker, Each-member}
use Rattle.world_pair.proofs.Outbound.{outbound_done, entry_done, settled_done}
use Rattle.node_model.proofs.Moves.{offer-moved, got-moved, skip-moved}
use Rattle.world_pair.proofs.Line.{line_later, line_says, line_receives}
use Rattle.world_pair.proofs.Half.{Alone, sender_line, sender_stays}
use Rattle.world_pair.specs.Flow.{At, Flow, GoesOn, HasFile, Idle, Mode, Section}
use Rattle.world_pair.specs.Invariant.{Carries, EntryIs, GotStands, LineHolds, OnItsWay, PeersAre, QueueHolds, SettledStands, given_as, working_session_of}
use Rattle.world_pair.proofs.Quiet.{Quiet, quiet_same, quiet_but_claim, quiet_file, quiet_more, quiet_whole}

peers_kept : (first : Address) (others : List Address) (s was : Session) → s.first ≡ was.first → s.others ≡ was.others → PeersAre first others was → PeersAre first others s
peers_kept first others s was a b ok = record { first_is = a ∙ ok.first_is; others_are = subst (Each (λ x. Member x others)) (sym b) ok.others_are }

pub sender_quiet : (X Y : Place) (line seat : ℕ) (sits : Alone X.ends line seat) (m : Node) (e : LineEnd) (ends : ℕ → LineEnd) → e.seat ≡ (X.ends line).seat → ((k : ℕ) → k ≢ line → ends k ≡ Y.ends k) → Quiet X.node m seat → LineHolds X.queued (addresses Y) X.first X.node.state.queue Y.node.state e (session_at m seat) (ends line) (working_session_of Y.node (ends line)) → Carries X Y → Carries (at_line line e m X) (record Y { ends = ends })
sender_quiet X Y line seat sits m e ends still ends_apart q here half =
    sender_stays X Y line seat sits m e ends still ends_apart q.apart
    (subst (QueueHolds X.queued) (sym q.queue) half.outbound)
    (λ s has. let w = q.peers s has in peers_kept Y.first Y.others s w.0 w.2 w.3 (half.peers seat w.0 w.1))
    (λ number key is. subst (λ l. EntryIs l (addresses Y) number key) (sym q.queue) is)
    (subst (Each (SettledStands (addresses Y) X.first Y.node.state)) (sym q.queue) half.settled)
    (subst (λ z. LineHolds X.queued (addresses Y) X.first z Y.node.state e (session_at m seat) (ends line) (working_session_of Y.node (ends line))) (sym q.queue) here)
    half

-- no data and no file among these
abbrev pub IsMute : List Message → Type 0
IsMute [] = Unit {0}
IsMute (File k o ∷ ms) = ⊥
IsMute (Data b ∷ ms) = ⊥
IsMute (Got k ∷ ms) = IsMute ms
IsMute (Get k o ∷ ms) = IsMute ms
IsMute (Skip k ∷ ms) = IsMute ms
IsMute (End ∷ ms) = IsMute ms

mute_flow : (files : List GivenFile) (dests : List Address) (fin : Mode → Type 0) (m : Mode) (sent : List Message) → IsMute sent → fin m → Flow files dests fin m sent
mute_flow files dests fin m [] mute h = h
mute_flow files dests fin m (File k o ∷ ms) mute h = absurd mute
mute_flow files dests fin m (Data b ∷ ms) mute h = absurd mute
mute_flow files dests fin m (Got k ∷ ms) mute h = mute_flow files dests fin m ms mute h
mute_flow files dests fin m (Get k o ∷ ms) mute h = mute_flow files dests fin m ms mute h
mute_flow files dests fin m (Skip k ∷ ms) mute h = mute_flow files dests fin m ms mute h
mute_flow files dests fin m (End ∷ ms) mute h = mute_flow files dests fin m ms mute h

pub goes_same : (dropped : Bool) (t u : Course) (m : Mode) → u.now.sending ≡ t.now.sending → GoesOn dropped (Some t) m → GoesOn dropped (Some u) m
goes_same dropped t u Idle same h = tt
goes_same dropped t u (At k o) same h = λ d v g a b. h d t g refl (sym same ∙ (ap (λ (x : Course). x.now.sending) (some_inj a) ∙ b))

-- an end says nothing of files, and sends the same file on
pub line_mute : (files : List GivenFile) (dests : List Address) (from : Address) (queue : List Entry) (kept : Durable) (e : LineEnd) (s s' : Option Session) (f : LineEnd) (r : Option Session) (t u : Course) (sent : List Message)
    → e.course ≡ Some t → u.now.sending ≡ t.now.sending → (u.now.own_end ≡ true → u.now.sending ≡ None) → (u.met_skip ≡ false → (t.met_skip ≡ false) × (u.offered ≡ t.offered)) → claim_in s' ≡ claim_in s → IsMute sent
    → LineHolds files dests from queue kept e s f r → LineHolds files dests from queue kept (says e (Some u) sent) s' f r
line_mute files dests from queue kept e s s' f r t u sent talks sending ended offered claim mute l =
    line_says files dests from queue kept e s s' f r u sent
    (λ g a. let c = l.claims t g talks (sym sending ∙ a) in (claim ∙ c.0, c.1))
    ended
    (λ no_skip. let o = offered no_skip in subst (λ (q : Option Sending × List Key). Each (OnItsWay q.0 from kept) q.1) (λ i. (sym sending i, sym o.1 i)) (l.offered t talks o.0))
    (λ _ m goes. mute_flow files dests (GoesOn e.dropped (Some u)) m sent mute (goes_same e.dropped t u m sending (subst (λ x. GoesOn e.dropped x m) talks goes)))
    l

-- the file of an entry
pub has_file : (files : List GivenFile) (dests : List Address) (queue : List Entry) (number : ℕ) (key : Key) → QueueHolds files queue → EntryIs queue dests number key → HasFile files dests key
has_file files dests queue number key o is =
    let l = o.listed is.entry is.there in
    let k = is.each is.entry is.there is.numbered in
    record { bytes = l.0; queued = record { file = given_as is.entry l.0; queued = l.1; dest = k.1; key_is = k.0; bytes_are = refl } }

-- a session's peers are addresses of the other node
peer_is : (Y : Place) (s : Session) (a : Address) → PeersAre Y.first Y.others s → Member a (peers s) → Member a (addresses Y)
peer_is Y s a ok (inl e) = inl (e ∙ ok.first_is)
peer_is Y s a ok (inr m) = inr (Each-member (λ x. Member x Y.others) a s.others ok.others_are m)

-- as many as were taken
take_of_taken : (n : ℕ) (xs : List ℕ) → take (length (take n xs)) xs ≡ take n xs
take_of_taken zero xs = refl
take_of_taken (suc n) [] = refl
take_of_taken (suc n) (x ∷ xs) = ap (λ l. x ∷ l) (take_of_taken n xs)

-- an own turn

pub turn_sends : (X Y : Place) (line seat : ℕ) (sits : Alone X.ends line seat) (m : Node) (t u : Course) (sent : List Message) → (X.ends line).course ≡ Some t → OwnTurn seat X.node t m u sent → Carries X Y → Carries (at_line line (says (X.ends line) (Some u) sent) m X) Y
turn_sends X Y line seat sits m t u sent talks (Waits same_node same_talk nothing) half =
    let l = sender_line X Y line seat sits half in
    let q = quiet_same X.node m seat same_node in
    subst (λ x. Carries (at_line line (says (X.ends line) (Some u) x) m X) Y) (sym nothing)
    (sender_quiet X Y line seat sits m (says (X.ends line) (Some u) []) Y.ends refl (λ k _. refl) q
    (line_mute X.queued (addresses Y) X.first X.node.state.queue Y.node.state (X.ends line) (session_at X.node seat) (session_at m seat) (Y.ends line) (working_session_of Y.node (Y.ends line)) t u [] talks (ap (λ (x : Course). x.now.sending) same_talk) (λ own. ap (λ (x : Course). x.now.sending) same_talk ∙ l.ended t talks (ap (λ (x : Course). x.now.own_end) (sym same_talk) ∙ own)) (λ no_skip. (ap (λ (x : Course). x.met_skip) (sym same_talk) ∙ no_skip, ap (λ (x : Course). x.offered) same_talk)) q.claim tt l)
    half)
turn_sends X Y line seat sits m t u sent talks (Goes s new under_way_now number key place same_node change nothing) half =
    let l = sender_line X Y line seat sits half in
    let q = quiet_same X.node m seat same_node in
    let c = l.claims t s talks under_way_now in
    let now : u.now.sending ≡ Some new = ap (λ (x : Course). x.now.sending) change in
    subst (λ x. Carries (at_line line (says (X.ends line) (Some u) x) m X) Y) (sym nothing)
    (sender_quiet X Y line seat sits m (says (X.ends line) (Some u) []) Y.ends refl (λ k _. refl) q
    (line_says X.queued (addresses Y) X.first X.node.state.queue Y.node.state (X.ends line) (session_at X.node seat) (session_at m seat) (Y.ends line) (working_session_of Y.node (Y.ends line)) u []
    (λ g a. let e : new ≡ g = some_inj (sym now ∙ a) in subst (λ (x : Sending). (claim_in (session_at m seat) ≡ Some x.number) × EntryIs X.node.state.queue (addresses Y) x.number x.key) e (q.claim ∙ (c.0 ∙ ap Some (sym number)), subst (λ (z : ℕ × Key). EntryIs X.node.state.queue (addresses Y) z.0 z.1) (λ i. (sym number i, sym key i)) c.1))
    (λ own. none_some (sym (l.ended t talks (ap (λ (x : Course). x.now.own_end) (sym change) ∙ own)) ∙ under_way_now))
    (λ no_skip. subst (λ (x : Course). Each (OnItsWay x.now.sending X.first Y.node.state) x.offered) (sym change) (Each-weaker (OnItsWay t.now.sending X.first Y.node.state) (OnItsWay (Some new) X.first Y.node.state) (moves_on t s new under_way_now key) t.offered (l.offered t talks (ap (λ (x : Course). x.met_skip) (sym change) ∙ no_skip))))
    (λ kept m h. goes m h kept now)
    l)
    half)
  where
    moves_on : (t : Course) (s new : Sending) → t.now.sending ≡ Some s → new.key ≡ s.key → (k : Key) → OnItsWay t.now.sending X.first Y.node.state k → OnItsWay (Some new) X.first Y.node.state k
    moves_on t s new under same k (inl w) = inl (new, refl, same ∙ (ap (λ (x : Sending). x.key) (some_inj (sym under ∙ w.1)) ∙ w.2))
    moves_on t s new under same k (inr known) = inr known

    goes : (m : Mode) → GoesOn (X.ends line).dropped (X.ends line).course m → (X.ends line).dropped ≡ false → u.now.sending ≡ Some new → GoesOn (X.ends line).dropped (Some u) m
    goes Idle h kept now = tt
    goes (At k o) h kept now =
        let is = h kept t s talks under_way_now in
        λ _ v g a b. let e : new ≡ g = some_inj (sym now ∙ (ap (λ (x : Course). x.now.sending) (some_inj a) ∙ b)) in (ap (λ (x : Sending). x.key) (sym e) ∙ (key ∙ is.0), ap (λ (x : Sending). x.place) (sym e) ∙ (place ∙ is.1))
turn_sends X Y line seat sits m t u sent talks (Ends none_under_way open_still row change says_end) half =
    let l = sender_line X Y line seat sits half in
    let q = quiet_same X.node m seat row.after in
    let sending : u.now.sending ≡ t.now.sending = ap (λ (x : Course). x.now.sending) change in
    subst (λ x. Carries (at_line line (says (X.ends line) (Some u) x) m X) Y) (sym says_end)
    (sender_quiet X Y line seat sits m (says (X.ends line) (Some u) (End ∷ [])) Y.ends refl (λ k _. refl) q
    (line_mute X.queued (addresses Y) X.first X.node.state.queue Y.node.state (X.ends line) (session_at X.node seat) (session_at m seat) (Y.ends line) (working_session_of Y.node (Y.ends line)) t u (End ∷ []) talks sending (λ _. sending ∙ none_under_way) (λ no_skip. (ap (λ (x : Course). x.met_skip) (sym change) ∙ no_skip, ap (λ (x : Course). x.offered) change)) q.claim tt l)
    half)
turn_sends X Y line seat sits m t u sent talks (Sends s bytes under_way unfinished room row change says_data) half =
    let l = sender_line X Y line seat sits half in
    let q = quiet_same X.node m seat row.after in
    let c = l.claims t s talks under_way in
    let same : row.entry.number ≡ s.number = some_inj (sym row.claimed ∙ c.0) in
    let is = c.1.each row.entry row.queued same in
    let new : Sending = record s { place = s.place + length bytes } in
    let now : u.now.sending ≡ Some new = ap (λ (x : Course). x.now.sending) change in
    let section : Section X.queued (addresses Y) s.key s.place bytes = record { bytes = row.content; queued = record { file = given_as row.entry row.content; queued = half.outbound.live row.entry row.content row.queued row.live; dest = is.1; key_is = is.0; bytes_are = refl }; is = subst (λ b. take (length b) (drop s.place row.content) ≡ b) (sym row.section) (take_of_taken room (drop s.place row.content)) } in
    subst (λ x. Carries (at_line line (says (X.ends line) (Some u) x) m X) Y) (sym says_data)
    (sender_quiet X Y line seat sits m (says (X.ends line) (Some u) (Data bytes ∷ [])) Y.ends refl (λ k _. refl) q
    (line_says X.queued (addresses Y) X.first X.node.state.queue Y.node.state (X.ends line) (session_at X.node seat) (session_at m seat) (Y.ends line) (working_session_of Y.node (Y.ends line)) u (Data bytes ∷ [])
    (λ g a. let e : new ≡ g = some_inj (sym now ∙ a) in subst (λ (x : Sending). (claim_in (session_at m seat) ≡ Some x.number) × EntryIs X.node.state.queue (addresses Y) x.number x.key) e (q.claim ∙ c.0, c.1))
    (λ own. none_some (sym (l.ended t talks (ap (λ (x : Course). x.now.own_end) (sym change) ∙ own)) ∙ under_way))
    (λ no_skip. subst (λ (x : Course). Each (OnItsWay x.now.sending X.first Y.node.state) x.offered) (sym change) (Each-weaker (OnItsWay t.now.sending X.first Y.node.state) (OnItsWay (Some new) X.first Y.node.state) (moves_on t s new Y under_way refl) t.offered (l.offered t talks (ap (λ (x : Course). x.met_skip) (sym change) ∙ no_skip))))
    (goes X Y line t u s new bytes talks under_way now refl refl section)
    l)
    half)
  where
    moves_on : (t : Course) (s new : Sending) (Y : Place) → t.now.sending ≡ Some s → new.key ≡ s.key → (key : Key) → OnItsWay t.now.sending X.first Y.node.state key → OnItsWay (Some new) X.first Y.node.state key
    moves_on t s new Y under same key (inl w) = inl (new, refl, same ∙ (ap (λ (x : Sending). x.key) (some_inj (sym under ∙ w.1)) ∙ w.2))
    moves_on t s new Y under same key (inr known) = inr known

    goes : (X Y : Place) (line : ℕ) (t u : Course) (s new : Sending) (bytes : List ℕ) → (X.ends line).course ≡ Some t → t.now.sending ≡ Some s → u.now.sending ≡ Some new → new.key ≡ s.key → new.place ≡ s.place + length bytes → Section X.queued (addresses Y) s.key s.place bytes → (X.ends line).dropped ≡ false → (m : Mode) → GoesOn (X.ends line).dropped (X.ends line).course m → Flow X.queued (addresses Y) (GoesOn (X.ends line).dropped (Some u)) m (Data bytes ∷ [])
    goes X Y line t u s new bytes talks under now key place section kept Idle h = tt
    goes X Y line t u s new bytes talks under now key place section kept (At k o) h =
        let is = h kept t s talks under in (
          subst (λ (q : Key × ℕ). Section X.queued (addresses Y) q.0 q.1 bytes) (λ i. (is.0 i, is.1 i)) section,
          λ _ v g a b.
              let e : new ≡ g = some_inj (sym now ∙ (ap (λ (x : Course). x.now.sending) (some_inj a) ∙ b)) in
              (ap (λ (x : Sending). x.key) (sym e) ∙ (key ∙ is.0), ap (λ (x : Sending). x.place) (sym e) ∙ (place ∙ ap (λ n. n + length bytes) is.1)),
        )
turn_sends X Y line seat sits m t u sent talks (Offers e none_under_way open_still row change says_file) half =
    let l = sender_line X Y line seat sits half in
    let moved = offer-moved X.node m seat e row in
    let q = quiet_but_claim X.node m seat row.session _ _ row.has moved refl refl refl in
    let peer = half.peers seat row.session row.has in
    let new : Sending = under_way e.number e.key 0 in
    let now : u.now.sending ≡ Some new = ap (λ (x : Course). x.now.sending) change in
    let dest : Member e.dest (addresses Y) = peer_is Y row.session e.dest peer row.candidate.for_peer in
    let is : EntryIs X.node.state.queue (addresses Y) e.number e.key = record { entry = e; there = row.candidate.queued; numbered = refl; each = λ f m n. let h = half.outbound.numbers f e m row.candidate.queued n in (h.0, subst (λ a. Member a (addresses Y)) (sym h.1) dest) } in
    subst (λ x. Carries (at_line line (says (X.ends line) (Some u) x) m X) Y) (sym says_file)
    (sender_stays X Y line seat sits m (says (X.ends line) (Some u) (File e.key 0 ∷ [])) Y.ends refl (λ k _. refl) moved.apart
    (subst (QueueHolds X.queued) (sym q.0) half.outbound)
    (λ s has. let w = q.1 s has in peers_kept Y.first Y.others s w.0 w.2 w.3 (half.peers seat w.0 w.1))
    (λ number key h. subst (λ l. EntryIs l (addresses Y) number key) (sym q.0) h)
    (subst (Each (SettledStands (addresses Y) X.first Y.node.state)) (sym q.0) half.settled)
    (subst (λ v. LineHolds X.queued (addresses Y) X.first v Y.node.state (says (X.ends line) (Some u) (File e.key 0 ∷ [])) (session_at m seat) (Y.ends line) (working_session_of Y.node (Y.ends line))) (sym q.0)
    (line_says X.queued (addresses Y) X.first X.node.state.queue Y.node.state (X.ends line) (session_at X.node seat) (session_at m seat) (Y.ends line) (working_session_of Y.node (Y.ends line)) u (File e.key 0 ∷ [])
    (λ g a. let same : new ≡ g = some_inj (sym now ∙ a) in subst (λ (x : Sending). (claim_in (session_at m seat) ≡ Some x.number) × EntryIs X.node.state.queue (addresses Y) x.number x.key) same (ap claim_in moved.here, is))
    (λ own. off (sym own ∙ (ap (λ (x : Course). x.now.own_end) change ∙ open_still)))
    (λ no_skip. subst (λ (x : Course). Each (OnItsWay x.now.sending X.first Y.node.state) x.offered) (sym change) (inl (new, refl, refl), Each-weaker (OnItsWay t.now.sending X.first Y.node.state) (OnItsWay (Some new) X.first Y.node.state) (stands t new none_under_way) t.offered (l.offered t talks (ap (λ (x : Course). x.met_skip) (sym change) ∙ no_skip))))
    (λ _ m _. (has_file X.queued (addresses Y) X.node.state.queue e.number e.key half.outbound is, λ _ v g a b. let same : new ≡ g = some_inj (sym now ∙ (ap (λ (x : Course). x.now.sending) (some_inj a) ∙ b)) in (ap (λ (x : Sending). x.key) (sym same), ap (λ (x : Sending). x.place) (sym same))))
    l))
    half)
  where
    stands : (t : Course) (new : Sending) → t.now.sending ≡ None → (key : Key) → OnItsWay t.now.sending X.first Y.node.state key → OnItsWay (Some new) X.first Y.node.state key
    stands t new none key (inl w) = none_some (sym none ∙ w.1)
    stands t new none key (inr known) = inr known

-- a message that an end takes

reply_mute : (answer : FileAnswer) (key : Key) (sent : List Message) → Reply answer key sent → IsMute sent
reply_mute Have key sent r = subst IsMute (sym r) tt
reply_mute Refuse key sent r = subst IsMute (sym r) tt
reply_mute Whole key sent r = subst IsMute (sym r) tt
reply_mute Elsewhere key sent r = subst IsMute (sym r) tt
reply_mute (From place) key sent r = subst IsMute (sym r) tt
reply_mute Go key sent r = subst IsMute (sym r) tt
reply_mute Late key sent r = absurd r

-- a take that the own sending doesn't see
pub take_quiet : (X Y : Place) (line seat : ℕ) (sits : Alone X.ends line seat) (m : Node) (t u : Course) (sent rest : List Message) (message : Message)
    → (X.ends line).course ≡ Some t → (Y.ends line).outbox ≡ message ∷ rest → Quiet X.node m seat
    → u.now.sending ≡ t.now.sending → u.now.own_end ≡ t.now.own_end → (u.met_skip ≡ false → (t.met_skip ≡ false) × (u.offered ≡ t.offered)) → IsMute sent
    → Carries X Y → Carries (at_line line (says (X.ends line) (Some u) sent) m X) (with_end line (with_outbox rest (Y.ends line)) Y)
take_quiet X Y line seat sits m t u sent rest message talks front q sending own offered mute half =
    let l = sender_line X Y line seat sits half in
    let f : LineEnd = with_outbox rest (Y.ends line) in
    let gots : Each (GotStands X.first Y.node.state) rest = (subst (Each (GotStands X.first Y.node.state)) front l.gots).1 in
    let l' = line_receives X.queued (addresses Y) X.first X.node.state.queue Y.node.state (X.ends line) (session_at X.node seat) (Y.ends line) f (working_session_of Y.node (Y.ends line)) (working_session_of Y.node (Y.ends line)) (X.ends line).outbox gots l.flow l.taken l in
    let e : LineEnd = says (X.ends line) (Some u) sent in
    sender_quiet X Y line seat sits m e (updated Y.ends line f) refl (updated_apart Y.ends line f) q
    (subst (λ x. LineHolds X.queued (addresses Y) X.first X.node.state.queue Y.node.state e (session_at m seat) x (working_session_of Y.node x)) (sym (updated_at Y.ends line f))
    (line_mute X.queued (addresses Y) X.first X.node.state.queue Y.node.state (X.ends line) (session_at X.node seat) (session_at m seat) f (working_session_of Y.node (Y.ends line)) t u sent talks sending (λ o. sending ∙ l.ended t talks (sym own ∙ o)) offered q.claim mute l'))
    half

-- the file under way is no more
line_finished : (files : List GivenFile) (dests : List Address) (from : Address) (queue : List Entry) (kept : Durable) (e : LineEnd) (s s' : Option Session) (f : LineEnd) (r : Option Session) (t u : Course)
    → e.course ≡ Some t → u.now.sending ≡ None → (u.met_skip ≡ false → Each (OnItsWay None from kept) u.offered)
    → LineHolds files dests from queue kept e s f r → LineHolds files dests from queue kept (says e (Some u) []) s' f r
line_finished files dests from queue kept e s s' f r t u talks none offered l =
    line_says files dests from queue kept e s s' f r u [] (λ g a. none_some (sym none ∙ a)) (λ _. none) (λ no_skip. subst (λ x. Each (OnItsWay x from kept) u.offered) (sym none) (offered no_skip)) (λ _ m _. goes m) l
  where
    goes : (m : Mode) → GoesOn e.dropped (Some u) m
    goes Idle = tt
    goes (At k o) = λ _ v g a b. none_some (sym none ∙ (ap (λ (x : Course). x.now.sending) (some_inj a) ∙ b))

same_talk : (X Y : Place) (line seat : ℕ) (sits : Alone X.ends line seat) (m : Node) (t u : Course) (sent rest : List Message) (message : Message) → (X.ends line).course ≡ Some t → (Y.ends line).outbox ≡ message ∷ rest → Quiet X.node m seat → u ≡ t → IsMute sent → Carries X Y → Carries (at_line line (says (X.ends line) (Some u) sent) m X) (with_end line (with_outbox rest (Y.ends line)) Y)
same_talk X Y line seat sits m t u sent rest message talks front q same mute half =
    take_quiet X Y line seat sits m t u sent rest message talks front q (ap (λ (x : Course). x.now.sending) same) (ap (λ (x : Course). x.now.own_end) same) (λ no_skip. (ap (λ (x : Course). x.met_skip) (sym same) ∙ no_skip, ap (λ (x : Course). x.offered) same)) mute half

mute_nothing : (sent : List Message) → sent ≡ [] → IsMute sent
mute_nothing sent e = subst IsMute (sym e) tt

pub take_sends : (X Y : Place) (line seat : ℕ) (sits : Alone X.ends line seat) (m : Node) (t u : Course) (sent rest : List Message) (message : Message) → (X.ends line).course ≡ Some t → (Y.ends line).outbox ≡ message ∷ rest → Take seat X.node t m u sent message → Carries X Y → Carries (at_line line (says (X.ends line) (Some u) sent) m X) (with_end line (with_outbox rest (Y.ends line)) Y)
take_sends X Y line seat sits m t u sent rest message talks front (Take_file {key = key} {offset = offset} answer _ row reply same) half = same_talk X Y line seat sits m t u sent rest (File key offset) talks front (quiet_file X.node m seat key offset answer row) same (reply_mute answer key sent reply) half
take_sends X Y line seat sits m t u sent rest message talks front (Take_more {bytes = bytes} _ row none same) half = same_talk X Y line seat sits m t u sent rest (Data bytes) talks front (quiet_more X.node m seat bytes row) same (mute_nothing sent none) half
take_sends X Y line seat sits m t u sent rest message talks front (Take_whole {bytes = bytes} _ row got same) half = same_talk X Y line seat sits m t u sent rest (Data bytes) talks front (quiet_whole X.node m seat bytes row) same (subst IsMute (sym got) tt) half
take_sends X Y line seat sits m t u sent rest message talks front (Drop_data {bytes = bytes} idle node none same) half = same_talk X Y line seat sits m t u sent rest (Data bytes) talks front (quiet_same X.node m seat node) same (mute_nothing sent none) half
take_sends X Y line seat sits m t u sent rest message talks front (Pass_got {key = key} other node none same) half = same_talk X Y line seat sits m t u sent rest (Got key) talks front (quiet_same X.node m seat node) same (mute_nothing sent none) half
take_sends X Y line seat sits m t u sent rest message talks front (Pass_get {key = key} {offset = offset} other node none same) half = same_talk X Y line seat sits m t u sent rest (Get key offset) talks front (quiet_same X.node m seat node) same (mute_nothing sent none) half
take_sends X Y line seat sits m t u sent rest message talks front (Pass_skip {key = key} other node none change) half =
    take_quiet X Y line seat sits m t u sent rest (Skip key) talks front (quiet_same X.node m seat node) (ap (λ (x : Course). x.now.sending) change) (ap (λ (x : Course). x.now.own_end) change) (λ no_skip. off (ap (λ (x : Course). x.met_skip) (sym change) ∙ no_skip)) (mute_nothing sent none) half
take_sends X Y line seat sits m t u sent rest message talks front (Take_end node none change) half =
    take_quiet X Y line seat sits m t u sent rest End talks front (quiet_same X.node m seat node) (ap (λ (x : Course). x.now.sending) change) (ap (λ (x : Course). x.now.own_end) change) (λ no_skip. (ap (λ (x : Course). x.met_skip) (sym change) ∙ no_skip, ap (λ (x : Course). x.offered) change)) (mute_nothing sent none) half
take_sends X Y line seat sits m t u sent rest message talks front (Take_got {key = key} s under same row none change) half =
    let l = sender_line X Y line seat sits half in
    let moved = got-moved X.node m seat s.number row in
    let queue : m.state.queue ≡ all_done s.number X.node.state.queue = ap (λ (x : Durable). x.queue) moved.state_is in
    let gots : GotStands X.first Y.node.state (Got key) × Each (GotStands X.first Y.node.state) rest = subst (Each (GotStands X.first Y.node.state)) front l.gots in
    let c = l.claims t s talks under in
    let entries : (number : ℕ) (k : Key) → EntryIs X.node.state.queue (addresses Y) number k → EntryIs m.state.queue (addresses Y) number k = λ number k h. subst (λ q. EntryIs q (addresses Y) number k) (sym queue) (entry_done X.node.state.queue (addresses Y) s.number number k h) in
    let f : LineEnd = with_outbox rest (Y.ends line) in
    let l' = line_receives X.queued (addresses Y) X.first X.node.state.queue Y.node.state (X.ends line) (session_at X.node seat) (Y.ends line) f (working_session_of Y.node (Y.ends line)) (working_session_of Y.node (Y.ends line)) (X.ends line).outbox gots.1 l.flow l.taken l in
    let e : LineEnd = says (X.ends line) (Some u) [] in
    let finished = line_finished X.queued (addresses Y) X.first X.node.state.queue Y.node.state (X.ends line) (session_at X.node seat) (session_at m seat) f (working_session_of Y.node (Y.ends line)) t u talks (ap (λ (x : Course). x.now.sending) change) (λ no_skip. subst (Each (OnItsWay None X.first Y.node.state)) (ap (λ (x : Course). x.offered) (sym change)) (Each-weaker (OnItsWay t.now.sending X.first Y.node.state) (OnItsWay None X.first Y.node.state) (settles t s key under same gots.0) t.offered (l.offered t talks (ap (λ (x : Course). x.met_skip) (sym change) ∙ no_skip)))) l' in
    subst (λ x. Carries (at_line line (says (X.ends line) (Some u) x) m X) (with_end line f Y)) (sym none)
    (sender_stays X Y line seat sits m e (updated Y.ends line f) refl (updated_apart Y.ends line f) moved.apart
    (subst (QueueHolds X.queued) (sym queue) (outbound_done X.queued X.node.state.queue s.number half.outbound))
    (λ v has. let is = some_inj (sym has ∙ moved.here) in peers_kept Y.first Y.others v row.session (ap (λ (x : Session). x.first) is) (ap (λ (x : Session). x.others) is) (half.peers seat row.session row.has))
    entries
    (subst (Each (SettledStands (addresses Y) X.first Y.node.state)) (sym queue) (settled_done (addresses Y) X.first Y.node.state X.node.state.queue s.number (λ v there n. let is = c.1.each v there n in (is.1, subst (λ k. is_known X.first k Y.node.state ≡ true) (sym (is.0 ∙ same)) gots.0)) half.settled))
    (subst (λ x. LineHolds X.queued (addresses Y) X.first m.state.queue Y.node.state e (session_at m seat) x (working_session_of Y.node x)) (sym (updated_at Y.ends line f))
    (line_later X.queued (addresses Y) X.first X.node.state.queue m.state.queue Y.node.state Y.node.state e (session_at m seat) f (working_session_of Y.node (Y.ends line)) entries (λ _ known. known) finished))
    half)
  where
    settles : (t : Course) (s : Sending) (key : Key) → t.now.sending ≡ Some s → s.key ≡ key → is_known X.first key Y.node.state ≡ true → (k : Key) → OnItsWay t.now.sending X.first Y.node.state k → OnItsWay None X.first Y.node.state k
    settles t s key under same known k (inl w) = inr (subst (λ x. is_known X.first x Y.node.state ≡ true) (sym same ∙ (ap (λ (x : Sending). x.key) (some_inj (sym under ∙ w.1)) ∙ w.2)) known)
    settles t s key under same known k (inr there) = inr there
take_sends X Y line seat sits m t u sent rest message talks front (Take_skip {key = key} s under same row none change) half =
    let l = sender_line X Y line seat sits half in
    let moved = skip-moved X.node m seat s.number row in
    let q = quiet_but_claim X.node m seat row.session _ _ row.has moved refl refl refl in
    let gots : Each (GotStands X.first Y.node.state) rest = (subst (Each (GotStands X.first Y.node.state)) front l.gots).1 in
    let f : LineEnd = with_outbox rest (Y.ends line) in
    let l' = line_receives X.queued (addresses Y) X.first X.node.state.queue Y.node.state (X.ends line) (session_at X.node seat) (Y.ends line) f (working_session_of Y.node (Y.ends line)) (working_session_of Y.node (Y.ends line)) (X.ends line).outbox gots l.flow l.taken l in
    let e : LineEnd = says (X.ends line) (Some u) [] in
    let finished = line_finished X.queued (addresses Y) X.first X.node.state.queue Y.node.state (X.ends line) (session_at X.node seat) (session_at m seat) f (working_session_of Y.node (Y.ends line)) t u talks (ap (λ (x : Course). x.now.sending) change) (λ no_skip. off (ap (λ (x : Course). x.met_skip) (sym change) ∙ no_skip)) l' in
    subst (λ x. Carries (at_line line (says (X.ends line) (Some u) x) m X) (with_end line f Y)) (sym none)
    (sender_stays X Y line seat sits m e (updated Y.ends line f) refl (updated_apart Y.ends line f) moved.apart
    (subst (QueueHolds X.queued) (sym q.0) half.outbound)
    (λ v has. let w = q.1 v has in peers_kept Y.first Y.others v w.0 w.2 w.3 (half.peers seat w.0 w.1))
    (λ number k h. subst (λ x. EntryIs x (addresses Y) number k) (sym q.0) h)
    (subst (Each (SettledStands (addresses Y) X.first Y.node.state)) (sym q.0) half.settled)
    (subst (λ (x : List Entry × LineEnd). LineHolds X.queued (addresses Y) X.first x.0 Y.node.state e (session_at m seat) x.1 (working_session_of Y.node x.1)) (λ i. (sym q.0 i, sym (updated_at Y.ends line f) i)) finished)
    half)
take_sends X Y line seat sits m t u sent rest message talks front (Take_get {key = key} {offset = offset} s under same fits node says_file change) half =
    let l = sender_line X Y line seat sits half in
    let q = quiet_same X.node m seat node in
    let c = l.claims t s talks under in
    let new : Sending = under_way s.number s.key offset in
    let now : u.now.sending ≡ Some new = ap (λ (x : Course). x.now.sending) change in
    let gots : Each (GotStands X.first Y.node.state) rest = (subst (Each (GotStands X.first Y.node.state)) front l.gots).1 in
    let f : LineEnd = with_outbox rest (Y.ends line) in
    let l' = line_receives X.queued (addresses Y) X.first X.node.state.queue Y.node.state (X.ends line) (session_at X.node seat) (Y.ends line) f (working_session_of Y.node (Y.ends line)) (working_session_of Y.node (Y.ends line)) (X.ends line).outbox gots l.flow l.taken l in
    let e : LineEnd = says (X.ends line) (Some u) (File key offset ∷ []) in
    let spoken = line_says X.queued (addresses Y) X.first X.node.state.queue Y.node.state (X.ends line) (session_at X.node seat) (session_at m seat) f (working_session_of Y.node (Y.ends line)) u (File key offset ∷ [])
    (λ g a. let is : new ≡ g = some_inj (sym now ∙ a) in subst (λ (x : Sending). (claim_in (session_at m seat) ≡ Some x.number) × EntryIs X.node.state.queue (addresses Y) x.number x.key) is (q.claim ∙ c.0, c.1))
    (λ own. none_some (sym (l.ended t talks (ap (λ (x : Course). x.now.own_end) (sym change) ∙ own)) ∙ under))
    (λ no_skip. subst (λ (x : Course). Each (OnItsWay x.now.sending X.first Y.node.state) x.offered) (sym change) (Each-weaker (OnItsWay t.now.sending X.first Y.node.state) (OnItsWay (Some new) X.first Y.node.state) (goes_on t s new under refl) t.offered (l.offered t talks (ap (λ (x : Course). x.met_skip) (sym change) ∙ no_skip))))
    (λ _ m _. (subst (HasFile X.queued (addresses Y)) same (has_file X.queued (addresses Y) X.node.state.queue s.number s.key half.outbound c.1), λ _ v g a b. let is : new ≡ g = some_inj (sym now ∙ (ap (λ (x : Course). x.now.sending) (some_inj a) ∙ b)) in (ap (λ (x : Sending). x.key) (sym is) ∙ same, ap (λ (x : Sending). x.place) (sym is))))
    l' in
    subst (λ x. Carries (at_line line (says (X.ends line) (Some u) x) m X) (with_end line f Y)) (sym says_file)
    (sender_quiet X Y line seat sits m e (updated Y.ends line f) refl (updated_apart Y.ends line f) q
    (subst (λ x. LineHolds X.queued (addresses Y) X.first X.node.state.queue Y.node.state e (session_at m seat) x (working_session_of Y.node x)) (sym (updated_at Y.ends line f)) spoken)
    half)
  where
    goes_on : (t : Course) (s new : Sending) → t.now.sending ≡ Some s → new.key ≡ s.key → (k : Key) → OnItsWay t.now.sending X.first Y.node.state k → OnItsWay (Some new) X.first Y.node.state k
    goes_on t s new under same k (inl w) = inl (new, refl, same ∙ (ap (λ (x : Sending). x.key) (some_inj (sym under ∙ w.1)) ∙ w.2))
    goes_on t s new under same k (inr known) = inr known
