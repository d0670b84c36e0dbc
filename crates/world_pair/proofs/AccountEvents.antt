-- Each event keeps what its place accounts for, and what the other does.
use Rattle.std.proofs.Common.{◌≡◌, ◌≢◌, ℕ, true, ◌∷◌, Option, Some, None, map, refl, sym, ap, ◌∙◌, subst, inl, inr, ⊎_elim}
use Rattle.node_model.specs.Lists.{updated}
use Rattle.node_model.specs.Node.{Session, Node, session_at, claim_in}
use Rattle.node_model.specs.SendRows.{is_queued}
use Rattle.node_model.specs.Durable.{Durable}
use Rattle.node_model.specs.Calls.{Call, Answer, Queue_call, Knock_call, Open_call, Offer_call, Read_call, Got_call, Skip_call, File_call, Data_call, Act_call, Give_call, Queued, Made, Leave_call, Settled, unheld_in}
use Rattle.node_model.proofs.Lists.{none_some, updated_at, updated_apart, decide_line, some_inj, Each-append}
use Rattle.node_model.proofs.Moves.{open-moved}
use Rattle.world_pair.specs.Course.{Course}
use Rattle.world_pair.specs.World.{GivenFile, given_file, LineEnd, Place, addresses, opened, says, hushed, gone, with_outbox, cut, finish_after, with_end, Occurs, Queues, Opens, Turns, Takes, Turns_last, Takes_last, Takes_breaking, Leaves, Leaves_broken, Acts, Gives, Idles, Breaks, Breaks_behind, given_by, Drops, Stops, Stops_at_mark, Stops_after_take}
use Rattle.world_pair.specs.Nodes.{QueueStays}
use Rattle.world_pair.specs.Invariant.{session_of, Invariant}
use Rattle.world_pair.specs.Offers.{skipped_in, OffersHold, EachOffers, EachQueued, Accounts}
use Rattle.world_pair.proofs.QueueStays.{life_queue}
use Rattle.world_pair.proofs.NodeLives.{own_life}
use Rattle.world_pair.proofs.Apart.{step_apart, makes_apart}
use Rattle.world_pair.proofs.Half.{sits_here, sender_line}
use Rattle.world_pair.proofs.Seats.{alone, nobody}
use Rattle.world_pair.proofs.Inverts.{own_turn, take_of}
use Rattle.world_pair.proofs.Offers.{turn_offers, take_offers}
use Rattle.world_pair.proofs.Broken.{BreaksTo, claims_kept}
use Rattle.world_pair.proofs.Faults.{breaks_to}
use Rattle.world_pair.proofs.Accounts.{each_queued_stays, enqueued_all, all_move, one_moves, end_alike, silent}

-- a call that breaks the store leaves what sessions skipped
skips_unheld : (o : Option Session) → skipped_in (unheld_in o) ≡ skipped_in o
skips_unheld None = refl
skips_unheld (Some s) = refl

skips_kept : (seat : ℕ) (n m : Node) → BreaksTo seat n m.state m → (k : ℕ) → skipped_in (session_at m k) ≡ skipped_in (session_at n k)
skips_kept seat n m b k = ⊎_elim
    (λ (same : k ≡ seat). ap (λ j. skipped_in (session_at m j)) same ∙ (sym (skips_unheld (session_at m seat)) ∙ (ap skipped_in b.own ∙ (skips_unheld (session_at n seat) ∙ ap (λ j. skipped_in (session_at n j)) (sym same)))))
    (λ (other : k ≢ seat). ap skipped_in (b.others k other))
    (decide_line k seat)

-- an end that says nothing more
end_silent : (n : Node) (ends : ℕ → LineEnd) (line : ℕ) (e : LineEnd) → e.course ≡ None → EachOffers n ends → EachOffers n (updated ends line e)
end_silent n ends line e none each k c talks = ⊎_elim
    (λ (same : k ≡ line). silent c (sym none ∙ (ap (λ (x : LineEnd). x.course) (sym (ap (updated ends line e) same ∙ updated_at ends line e)) ∙ talks)))
    (λ (other : k ≢ line). let is = updated_apart ends line e k other in subst (λ (x : LineEnd). OffersHold n.state.queue (session_of n x) c) (sym is) (each k c (ap (λ (x : LineEnd). x.course) (sym is) ∙ talks)))
    (decide_line k line)

-- a place after an event, with the files that it had
at_place : (me me' p : Place) → me' ≡ p → QueueStays me.node.state.queue me'.node.state.queue → (QueueStays me.node.state.queue p.node.state.queue → Accounts p) → Accounts me'
at_place me me' p same stays then = subst Accounts (sym same) (then (subst (λ (x : Place). QueueStays me.node.state.queue x.node.state.queue) same stays))

same_files : (me : Place) (n : Node) (ends : ℕ → LineEnd) → Accounts me → QueueStays me.node.state.queue n.state.queue → EachOffers n ends → Accounts (record me { node = n; ends = ends })
same_files me n ends acc stays offers = record { queued = each_queued_stays me.queued me.node.state.queue n.state.queue stays acc.queued; offers = offers }

-- sessions that are as they were
same_sessions : (n m : Node) (ends : ℕ → LineEnd) → QueueStays n.state.queue m.state.queue → ((k : ℕ) → session_at m k ≡ session_at n k) → EachOffers n ends → EachOffers m ends
same_sessions n m ends stays same each = all_move n m ends stays (λ k. ap claim_in (same k)) (λ k. ap skipped_in (same k)) each

-- what a call was given to queue has entries behind it
given_queued : (seat : ℕ) (n : Node) (call : Call) (answer : Answer) (m : Node) → Made seat n call answer m → EachQueued (given_by call) m.state.queue
given_queued seat n (Queue_call files taken answered) (Queued slots) m row = subst (EachQueued (map given_file files)) (ap (λ (x : Node). x.state.queue) (sym row.after)) (enqueued_all files slots n.state.queue row.queue row.queued)
given_queued seat n (Knock_call role) answer m row = tt
given_queued seat n (Open_call role peers secure moment) answer m row = tt
given_queued seat n Offer_call answer m row = tt
given_queued seat n (Read_call place room) answer m row = tt
given_queued seat n (Got_call number) answer m row = tt
given_queued seat n (Skip_call number) answer m row = tt
given_queued seat n (File_call key offset) answer m row = tt
given_queued seat n (Data_call bytes) answer m row = tt
given_queued seat n Leave_call answer m row = tt
given_queued seat n (Act_call dest) answer m row = tt
given_queued seat n Give_call answer m row = tt
given_queued seat n call answer m row = absurd row

own : (me peer me' peer' : Place) → Occurs me peer me' peer' → QueueStays me.node.state.queue me'.node.state.queue → Invariant me peer → Accounts me → Accounts me'
own me peer me' peer' (Queues seat files taken answered slots n step a b) stays inv acc = at_place me me' _ a stays (λ s. record {
  queued = Each-append (λ (f : GivenFile). is_queued f.dest f.key n.state.queue ≡ true) me.queued (map given_file files) (each_queued_stays me.queued me.node.state.queue n.state.queue s acc.queued) (subst (EachQueued (map given_file files)) (ap (λ (x : Node). x.state.queue) (sym step.1.after)) (enqueued_all files slots me.node.state.queue step.1.queue step.1.queued));
  offers = same_sessions me.node n me.ends s (λ k. ap (λ (x : Node). session_at x k) step.1.after) acc.offers;
})
own me peer me' peer' (Opens line seat number n role theirs secure moment unused_here to_peer step a b) stays inv acc =
    let opens = step.1.1 in
    let moved = open-moved me.node n seat role (peer.first ∷ theirs) secure moment opens in
    at_place me me' _ a stays (λ s. same_files me n (updated me.ends line (opened seat role (me.ends line))) acc s
    (one_moves me.node n me.ends line seat (opened seat role (me.ends line)) (λ k _. nobody me.node me.ends seat opens.none_yet inv.sits k) moved.apart s
    (λ c talks. subst (OffersHold n.state.queue (session_at n seat)) (some_inj talks) (record { unclaimed = λ _. ap claim_in moved.here; each = tt; unskipped = λ _. ap skipped_in moved.here }))
    acc.offers))
own me peer me' peer' (Turns line seat n was course sent here talks made a b) stays inv acc =
    let at = alone me.node me.ends line seat here inv.sits in
    let before : OffersHold me.node.state.queue (session_at me.node seat) was = subst (λ x. OffersHold me.node.state.queue x was) (sits_here me.node seat (me.ends line).seat here) (acc.offers line was talks) in
    let after = turn_offers seat me.node was n course sent (own_turn seat me.node was n course sent made) before in
    at_place me me' _ a stays (λ s. same_files me n (updated me.ends line (says (me.ends line) (Some course) sent)) acc s
    (one_moves me.node n me.ends line seat (says (me.ends line) (Some course) sent) at.others (makes_apart seat me.node made.events n made.chain) s
    (λ c is. subst (λ (x : Course). OffersHold n.state.queue (session_of n (me.ends line)) x) (some_inj is) (subst (λ x. OffersHold n.state.queue x course) (sym (sits_here n seat (me.ends line).seat here)) after))
    acc.offers))
own me peer me' peer' (Takes line seat n was course sent rest w here talks front made a b) stays inv acc =
    let at = alone me.node me.ends line seat here inv.sits in
    let before : OffersHold me.node.state.queue (session_at me.node seat) was = subst (λ x. OffersHold me.node.state.queue x was) (sits_here me.node seat (me.ends line).seat here) (acc.offers line was talks) in
    let l = sender_line me peer line seat at inv.out in
    let after = take_offers (addresses peer) seat me.node was n course sent w (take_of seat me.node was n course sent w made) (λ g under. l.claims was g talks under) before in
    at_place me me' _ a stays (λ s. same_files me n (updated me.ends line (says (me.ends line) (Some course) sent)) acc s
    (one_moves me.node n me.ends line seat (says (me.ends line) (Some course) sent) at.others (makes_apart seat me.node made.events n made.chain) s
    (λ c is. subst (λ (x : Course). OffersHold n.state.queue (session_of n (me.ends line)) x) (some_inj is) (subst (λ x. OffersHold n.state.queue x course) (sym (sits_here n seat (me.ends line).seat here)) after))
    acc.offers))
own me peer me' peer' (Turns_last line seat n was here talks last a b) stays inv acc =
    let at = alone me.node me.ends line seat here inv.sits in
    let e : LineEnd = hushed (finish_after last.verdict.outcome was (me.ends line).finish) (me.ends line) in
    at_place me me' _ a stays (λ s. same_files me n (updated me.ends line e) acc s (one_moves me.node n me.ends line seat e at.others (makes_apart seat me.node last.events n last.chain) s (λ c none. silent c none) acc.offers))
own me peer me' peer' (Takes_last line seat n was rest w here talks front last a b) stays inv acc =
    let at = alone me.node me.ends line seat here inv.sits in
    let e : LineEnd = hushed (me.ends line).finish (me.ends line) in
    at_place me me' _ a stays (λ s. same_files me n (updated me.ends line e) acc s (one_moves me.node n me.ends line seat e at.others (makes_apart seat me.node last.events n last.chain) s (λ c none. silent c none) acc.offers))
own me peer me' peer' (Takes_breaking line seat n was rest w here talks front last a b) stays inv acc =
    let at = alone me.node me.ends line seat here inv.sits in
    let e : LineEnd = hushed (me.ends line).finish (me.ends line) in
    at_place me me' _ a stays (λ s. same_files me n (updated me.ends line e) acc s (one_moves me.node n me.ends line seat e at.others (makes_apart seat me.node last.events n last.chain) s (λ c none. silent c none) acc.offers))
own me peer me' peer' (Leaves line seat n here step a b) stays inv acc =
    let at = alone me.node me.ends line seat here inv.sits in
    let e : LineEnd = gone (me.ends line) in
    at_place me me' _ a stays (λ s. same_files me n (updated me.ends line e) acc s (one_moves me.node n me.ends line seat e at.others (λ k apart. step_apart seat me.node Leave_call Settled n k apart step) s (λ c none. silent c none) acc.offers))
own me peer me' peer' (Leaves_broken line count broken a b) stays inv acc =
    at_place me me' _ a stays (λ s. same_files me me.node (updated me.ends line (gone (me.ends line))) acc s (end_silent me.node me.ends line (gone (me.ends line)) refl acc.offers))
own me peer me' peer' (Acts seat number dest n step a b) stays inv acc =
    at_place me me' _ a stays (λ s. same_files me n me.ends acc s (same_sessions me.node n me.ends s (λ k. ap (λ (x : Node). session_at x k) step.1.after) acc.offers))
own me peer me' peer' (Gives seat number n step a b) stays inv acc =
    at_place me me' _ a stays (λ s. same_files me n me.ends acc s (same_sessions me.node n me.ends s (λ k. ap (λ (x : Node). session_at x k) step.1.after) acc.offers))
own me peer me' peer' (Idles seat call answer n step still a b) stays inv acc =
    at_place me me' _ a stays (λ s. same_files me n me.ends acc s (same_sessions me.node n me.ends s still.sessions acc.offers))
own me peer me' peer' (Breaks seat call count n (works, inl r) states a b) stays inv acc =
    at_place me me' _ a stays (λ s. same_files me n me.ends acc s (same_sessions me.node n me.ends s (λ k. ap (λ (x : Node). session_at x k) r.1) acc.offers))
own me peer me' peer' (Breaks seat call count n (works, inr breaks) states a b) stays inv acc =
    let to = breaks_to seat me.node call count n n.state breaks refl in
    at_place me me' _ a stays (λ s. same_files me n me.ends acc s (all_move me.node n me.ends s (claims_kept seat me.node n.state n to) (skips_kept seat me.node n to) acc.offers))
own me peer me' peer' (Breaks_behind seat call answer count made n alone_call unbroken row (works, inl r) state a b) stays inv acc = none_some (sym unbroken ∙ r.0)
own me peer me' peer' (Breaks_behind seat call answer count made n alone_call unbroken row (works, inr breaks) state a b) stays inv acc =
    let to = breaks_to seat me.node call count n n.state breaks refl in
    at_place me me' _ a stays (λ s. record {
      queued = Each-append (λ (f : GivenFile). is_queued f.dest f.key n.state.queue ≡ true) me.queued (given_by call) (each_queued_stays me.queued me.node.state.queue n.state.queue s acc.queued) (subst (λ (d : Durable). EachQueued (given_by call) d.queue) (sym state) (given_queued seat me.node call answer made row));
      offers = all_move me.node n me.ends s (claims_kept seat me.node n.state n to) (skips_kept seat me.node n to) acc.offers;
    })
own me peer me' peer' (Drops line mine theirs a b) stays inv acc =
    at_place me me' _ a stays (λ s. same_files me me.node (updated me.ends line (cut mine (me.ends line))) acc s (end_alike me.node me.ends line (cut mine (me.ends line)) refl refl acc.offers))
own me peer me' peer' (Stops o fits a b) stays inv acc =
    at_place me me' _ a stays (λ s. record { queued = each_queued_stays me.queued me.node.state.queue _ s acc.queued; offers = λ line c none. silent c none })
own me peer me' peer' (Stops_at_mark seat o unbroken fits a b) stays inv acc =
    at_place me me' _ a stays (λ s. record { queued = each_queued_stays me.queued me.node.state.queue _ s acc.queued; offers = λ line c none. silent c none })
own me peer me' peer' (Stops_after_take o line seat n was course sent rest w here talks front made fits a b) stays inv acc =
    at_place me me' _ a stays (λ s. record { queued = each_queued_stays me.queued me.node.state.queue _ s acc.queued; offers = λ line c none. silent c none })

-- the event's own place
pub own_accounts : (me peer me' peer' : Place) → Occurs me peer me' peer' → Invariant me peer → Accounts me → Accounts me'
own_accounts me peer me' peer' event inv acc =
    let life = own_life me peer me' peer' event in
    own me peer me' peer' event (life_queue me.node life.0 me'.node life.1) inv acc

same_place : (p q : Place) → q ≡ p → Accounts p → Accounts q
same_place p q same acc = subst Accounts (sym same) acc

other_end : (p q : Place) (line : ℕ) (e : LineEnd) → q ≡ with_end line e p → e.course ≡ (p.ends line).course → e.seat ≡ (p.ends line).seat → Accounts p → Accounts q
other_end p q line e same course seat acc = subst Accounts (sym same) (record { queued = acc.queued; offers = end_alike p.node p.ends line e course seat acc.offers })

-- the other place
pub peer_accounts : (me peer me' peer' : Place) → Occurs me peer me' peer' → Accounts peer → Accounts peer'
peer_accounts me peer me' peer' (Queues seat files taken answered slots n step a b) acc = same_place peer peer' b acc
peer_accounts me peer me' peer' (Opens line seat number n role theirs secure moment c d step a b) acc = same_place peer peer' b acc
peer_accounts me peer me' peer' (Turns line seat n t u sent c d made a b) acc = same_place peer peer' b acc
peer_accounts me peer me' peer' (Takes line seat n t u sent rest w c d e made a b) acc = other_end peer peer' line (with_outbox rest (peer.ends line)) b refl refl acc
peer_accounts me peer me' peer' (Turns_last line seat n t c d made a b) acc = same_place peer peer' b acc
peer_accounts me peer me' peer' (Takes_last line seat n t rest w c d e made a b) acc = other_end peer peer' line (with_outbox rest (peer.ends line)) b refl refl acc
peer_accounts me peer me' peer' (Takes_breaking line seat n t rest w c d e made a b) acc = other_end peer peer' line (with_outbox rest (peer.ends line)) b refl refl acc
peer_accounts me peer me' peer' (Leaves line seat n c step a b) acc = same_place peer peer' b acc
peer_accounts me peer me' peer' (Leaves_broken line count c a b) acc = same_place peer peer' b acc
peer_accounts me peer me' peer' (Acts seat number dest n step a b) acc = same_place peer peer' b acc
peer_accounts me peer me' peer' (Gives seat number n step a b) acc = same_place peer peer' b acc
peer_accounts me peer me' peer' (Idles seat call answer n step still a b) acc = same_place peer peer' b acc
peer_accounts me peer me' peer' (Breaks seat call count n step states a b) acc = same_place peer peer' b acc
peer_accounts me peer me' peer' (Breaks_behind seat call answer count made n c d e step g a b) acc = same_place peer peer' b acc
peer_accounts me peer me' peer' (Drops line mine theirs a b) acc = other_end peer peer' line (cut theirs (peer.ends line)) b refl refl acc
peer_accounts me peer me' peer' (Stops o fits a b) acc = same_place peer peer' b acc
peer_accounts me peer me' peer' (Stops_at_mark seat o unbroken fits a b) acc = same_place peer peer' b acc
peer_accounts me peer me' peer' (Stops_after_take o line seat n t u sent rest w c d e made fits a b) acc = other_end peer peer' line (with_outbox rest (peer.ends line)) b refl refl acc
