-- What the laws see of a row, from the row itself.
use Rattle.std.proofs.Common.{◌≡◌, ℕ, Bool, false, List, [], ◌∷◌, Option, Some, None, refl, sym, ap, ◌∙◌, subst}
use Rattle.ftn_addr.specs.Key.{Key}
use Rattle.node_model.specs.Node.{Hold, Session, Node, session_at, hold_in, takes}
use Rattle.node_model.specs.Rows.{FileAnswer, Have, Refuse, Elsewhere, Go, Whole, From, Late, DataWhole}
use Rattle.node_model.specs.SendRows.{OfferNothing}
use Rattle.node_model.proofs.Lists.{some_inj, none_some}
use Rattle.node_model.specs.Calls.{Fault, Call, Offer_call, Read_call, Got_call, Skip_call, File_call, Data_call, Answer, Offered, Nothing, Came, Settled, Filed, More, Whole_now, Refused, Event, one, NodeStep}
use Rattle.node_model.specs.Talk.{Message, File, Data, Got, Get, Skip, End, Talk, Part, part_of, part_at, RowEnd, Refused_by, Verdict, on, waits, ends, fills, under_way, AfterFile, FileTaken, AfterData, DataTaken, Nothing_held, Drops, Exceeds, Fits, AfterSettling, GotTaken, Settles, Passes_got, SkipTaken, Skips, Passes_skip, GetTaken, Resends, Passes_get, SendVerdict, Sending, Sent, Filled, Waiting, Empty, Fails, AfterRead, AfterOffer, SendRow, Reads, Fills, Awaits, Asks, AfterSend, Says, Fills_out, Awaits_answer, Says_end, Waits_for_end, Ends_by, TurnRow, Finishes, Rests, Gives}
use Rattle.world_pair.specs.Course.{Course, Makes, course_after, StaysOpen, TakeMade, TurnMade}
use Rattle.world_pair.proofs.Seen.{surely, Reply, OwnTurn, Sends, Offers, Ends, Goes, Waits, Take, Take_file, Take_more, Take_whole, Drop_data, Take_got, Pass_got, Take_skip, Pass_skip, Take_get, Pass_get, Take_end}

-- chains of a node

pub no_call : (seat : ℕ) (n m : Node) → Makes seat n [] m → m ≡ n
no_call seat n m e = e

pub one_call : (seat : ℕ) (n m : Node) (call : Call) (answer : Answer) → Makes seat n (one call answer) m → NodeStep seat n call answer m
one_call seat n m call answer (mid, made, end) = subst (NodeStep seat n call answer) (sym end) made

-- the chain of these events, from the chain of those they are
along : (seat : ℕ) (n m : Node) (es es' : List Event) → es ≡ es' → Makes seat n es m → Makes seat n es' m
along seat n m es es' e c = subst (λ (l : List Event). Makes seat n l m) e c

-- a row that ends the session does not keep it open
not_open : {A : Type 0} (v : Verdict) (t : Talk) (end : RowEnd) → v ≡ ends t end → StaysOpen v.outcome → A
not_open v t end e o = absurd (subst (λ (w : Verdict). StaysOpen w.outcome) e o)

said_is : (sent : List Message) (v w : Verdict) → sent ≡ v.said → v ≡ w → sent ≡ w.said
said_is sent v w a b = a ∙ ap (λ (x : Verdict). x.said) b

after_is : (t u : Course) (es es' : List Event) (skip : Bool) (v w : Verdict) → u ≡ course_after t es skip v.after → es ≡ es' → v ≡ w → u ≡ course_after t es' skip w.after
after_is t u es es' skip v w a b c = a ∙ (λ i. course_after t (b i) skip ((c i).after))

-- files

file_reply : (x : FileAnswer) (t : Talk) (key : Key) (sent : List Message) (v : Verdict) → AfterFile t key (Filed x) v → StaysOpen v.outcome → sent ≡ v.said → Reply x key sent
file_reply Have t key sent v b o e = said_is sent v _ e b
file_reply Refuse t key sent v b o e = said_is sent v _ e b
file_reply Whole t key sent v b o e = said_is sent v _ e b
file_reply Elsewhere t key sent v b o e = said_is sent v _ e b
file_reply (From place) t key sent v b o e = said_is sent v _ e b
file_reply Go t key sent v b o e = said_is sent v _ e b
file_reply Late t key sent v b o e = not_open v t _ b o

file_keeps : (x : FileAnswer) (t : Talk) (key : Key) (v : Verdict) → AfterFile t key (Filed x) v → v.after ≡ t
file_keeps Have t key v b = ap (λ (w : Verdict). w.after) b
file_keeps Refuse t key v b = ap (λ (w : Verdict). w.after) b
file_keeps Whole t key v b = ap (λ (w : Verdict). w.after) b
file_keeps Elsewhere t key v b = ap (λ (w : Verdict). w.after) b
file_keeps (From place) t key v b = ap (λ (w : Verdict). w.after) b
file_keeps Go t key v b = ap (λ (w : Verdict). w.after) b
file_keeps Late t key v b = ap (λ (w : Verdict). w.after) b

take_file : (seat : ℕ) (n : Node) (t : Course) (m : Node) (u : Course) (sent : List Message) (key : Key) (offset : ℕ) → (d : TakeMade seat n t m u sent (File key offset)) → (r : FileTaken t.now key offset d.events d.verdict) → Take seat n t m u sent (File key offset)
take_file seat n t m u sent key offset d r = go r.answer r.asks (one_call seat n m (File_call key offset) r.answer (along seat n m _ _ r.asks d.chain)) r.then
  where
    go : (answer : Answer) → d.events ≡ one (File_call key offset) answer → NodeStep seat n (File_call key offset) answer m → AfterFile t.now key answer d.verdict → Take seat n t m u sent (File key offset)
    go (Filed x) asks step then = Take_file x (surely step.0) step.1 (file_reply x t.now key sent d.verdict then d.open_still d.said) (d.after ∙ (λ i. course_after t (asks i) t.met_skip (file_keeps x t.now key d.verdict then i)))
    go (Refused fault) asks step then = not_open d.verdict t.now (Refused_by fault) then d.open_still
    go answer asks step then = absurd then

-- data

held_key : (n : Node) (seat : ℕ) (p : Part) (s : Session) (g : Hold) → part_at n seat ≡ Some p → session_at n seat ≡ Some s → s.hold ≡ Some g → p.key ≡ g.key
held_key n seat p s g a b c =
    let is : Some p ≡ part_of (Some g) = sym a ∙ ap part_of (ap hold_in b ∙ c) in
    ap (λ (x : Part). x.key) (some_inj is)

none_taken : (o : Option Hold) → part_of o ≡ None → takes o ≡ false
none_taken None e = refl
none_taken (Some h) e = none_some (sym e)

drops_data : (o : Option Hold) (p : Part) → part_of o ≡ Some p → p.taking ≡ false → takes o ≡ false
drops_data None p e idle = refl
drops_data (Some h) p e idle = ap (λ (x : Part). x.taking) (some_inj e) ∙ idle

take_data : (seat : ℕ) (n : Node) (t : Course) (m : Node) (u : Course) (sent : List Message) (bytes : List ℕ) → (d : TakeMade seat n t m u sent (Data bytes)) → DataTaken (part_at n seat) t.now bytes d.events d.verdict → Take seat n t m u sent (Data bytes)
take_data seat n t m u sent bytes d (Nothing_held nothing none is) = Drop_data (none_taken (hold_in (session_at n seat)) nothing) (no_call seat n m (along seat n m _ _ none d.chain)) (said_is sent d.verdict _ d.said is) (after_is t u _ _ _ d.verdict _ d.after none is)
take_data seat n t m u sent bytes d (Drops p has idle none is) = Drop_data (drops_data (hold_in (session_at n seat)) p has idle) (no_call seat n m (along seat n m _ _ none d.chain)) (said_is sent d.verdict _ d.said is) (after_is t u _ _ _ d.verdict _ d.after none is)
take_data seat n t m u sent bytes d (Exceeds h has taking much none is) = not_open d.verdict t.now _ is d.open_still
take_data seat n t m u sent bytes d (Fits h has taking fits answer asks then) = go answer asks (one_call seat n m (Data_call bytes) answer (along seat n m _ _ asks d.chain)) then
  where
    go : (answer : Answer) → d.events ≡ one (Data_call bytes) answer → NodeStep seat n (Data_call bytes) answer m → AfterData t.now h.key answer d.verdict → Take seat n t m u sent (Data bytes)
    go More asks step then = Take_more (surely step.0) step.1 (said_is sent d.verdict _ d.said then) (after_is t u _ _ _ d.verdict _ d.after asks then)
    go Whole_now asks step then =
        let row : DataWhole seat bytes n m = step.1 in
        Take_whole (surely step.0) row (said_is sent d.verdict _ d.said then ∙ ap (λ (k : Key). Got k ∷ []) (held_key n seat h row.session row.hold has row.has row.holds)) (after_is t u _ _ _ d.verdict _ d.after asks then)
    go (Refused fault) asks step then = not_open d.verdict t.now (Refused_by fault) then d.open_still
    go answer asks step then = absurd then

-- what the peer settles, and what it asks for again

take_got : (seat : ℕ) (n : Node) (t : Course) (m : Node) (u : Course) (sent : List Message) (key : Key) → (d : TakeMade seat n t m u sent (Got key)) → GotTaken t.now key d.events d.verdict → Take seat n t m u sent (Got key)
take_got seat n t m u sent key d (Passes_got other none is) = Pass_got other (no_call seat n m (along seat n m _ _ none d.chain)) (said_is sent d.verdict _ d.said is) (after_is t u _ _ _ d.verdict _ d.after none is)
take_got seat n t m u sent key d (Settles s under same answer asks then) = go answer asks (one_call seat n m (Got_call s.number) answer (along seat n m _ _ asks d.chain)) then
  where
    go : (answer : Answer) → d.events ≡ one (Got_call s.number) answer → NodeStep seat n (Got_call s.number) answer m → AfterSettling t.now answer d.verdict → Take seat n t m u sent (Got key)
    go Settled asks step then = Take_got s under same step.1 (said_is sent d.verdict _ d.said then) (after_is t u _ _ _ d.verdict _ d.after asks then)
    go (Refused fault) asks step then = not_open d.verdict t.now (Refused_by fault) then d.open_still
    go answer asks step then = absurd then

take_skip : (seat : ℕ) (n : Node) (t : Course) (m : Node) (u : Course) (sent : List Message) (key : Key) → (d : TakeMade seat n t m u sent (Skip key)) → SkipTaken t.now key d.events d.verdict → Take seat n t m u sent (Skip key)
take_skip seat n t m u sent key d (Passes_skip other none is) = Pass_skip other (no_call seat n m (along seat n m _ _ none d.chain)) (said_is sent d.verdict _ d.said is) (after_is t u _ _ _ d.verdict _ d.after none is)
take_skip seat n t m u sent key d (Skips s under same answer asks then) = go answer asks (one_call seat n m (Skip_call s.number) answer (along seat n m _ _ asks d.chain)) then
  where
    go : (answer : Answer) → d.events ≡ one (Skip_call s.number) answer → NodeStep seat n (Skip_call s.number) answer m → AfterSettling t.now answer d.verdict → Take seat n t m u sent (Skip key)
    go Settled asks step then = Take_skip s under same step.1 (said_is sent d.verdict _ d.said then) (after_is t u _ _ _ d.verdict _ d.after asks then)
    go (Refused fault) asks step then = not_open d.verdict t.now (Refused_by fault) then d.open_still
    go answer asks step then = absurd then

take_get : (seat : ℕ) (n : Node) (t : Course) (m : Node) (u : Course) (sent : List Message) (key : Key) (offset : ℕ) → (d : TakeMade seat n t m u sent (Get key offset)) → GetTaken t.now key offset d.events d.verdict → Take seat n t m u sent (Get key offset)
take_get seat n t m u sent key offset d (Passes_get other none is) = Pass_get other (no_call seat n m (along seat n m _ _ none d.chain)) (said_is sent d.verdict _ d.said is) (after_is t u _ _ _ d.verdict _ d.after none is)
take_get seat n t m u sent key offset d (Resends s under same fits none is) = Take_get s under same fits (no_call seat n m (along seat n m _ _ none d.chain)) (said_is sent d.verdict _ d.said is) (after_is t u _ _ _ d.verdict _ d.after none is)

pub take_of : (seat : ℕ) (n : Node) (t : Course) (m : Node) (u : Course) (sent : List Message) (message : Message) → TakeMade seat n t m u sent message → Take seat n t m u sent message
take_of seat n t m u sent (File key offset) d = take_file seat n t m u sent key offset d d.row
take_of seat n t m u sent (Data bytes) d = take_data seat n t m u sent bytes d d.row
take_of seat n t m u sent (Got key) d = take_got seat n t m u sent key d d.row
take_of seat n t m u sent (Get key offset) d = take_get seat n t m u sent key offset d d.row
take_of seat n t m u sent (Skip key) d = take_skip seat n t m u sent key d d.row
take_of seat n t m u sent End d = Take_end (no_call seat n m (along seat n m _ _ d.row.0 d.chain)) (said_is sent d.verdict _ d.said d.row.1) (after_is t u _ _ _ d.verdict _ d.after d.row.0 d.row.1)

-- the own turn

-- what the sender says, where that is known
after_sent : (t : Talk) (v : Verdict) (message : Message) (sending : Sending) → AfterSend t v (Sent message sending) → v ≡ on (record t { sending = Some sending }) (message ∷ [])
after_sent t v message sending (Says is) = is

after_filled : (t : Talk) (v : Verdict) (sending : Sending) → AfterSend t v (Filled sending) → v ≡ fills (record t { sending = Some sending })
after_filled t v sending (Fills_out is) = is

after_waiting : (t : Talk) (v : Verdict) → AfterSend t v Waiting → v ≡ waits t
after_waiting t v (Awaits_answer is) = is

after_failing : (t : Talk) (v : Verdict) (fault : Fault) → AfterSend t v (Fails fault) → v ≡ ends t (Refused_by fault)
after_failing t v fault (Ends_by is) = is

after_as : (t : Talk) (w w' : SendVerdict) (v : Verdict) → w ≡ w' → AfterSend t v w → AfterSend t v w'
after_as t w w' v e a = subst (AfterSend t v) e a

gives : (seat : ℕ) (n : Node) (t : Course) (m : Node) (u : Course) (sent : List Message) → (d : TurnMade seat n t m u sent) → t.now.own_end ≡ false → (w : SendVerdict) → SendRow d.block t.now.sending d.events w → AfterSend t.now d.verdict w → OwnTurn seat n t m u sent
gives seat n t m u sent d own w (Fills s under bare none is) after =
    let then = after_filled t.now d.verdict _ (after_as t.now w _ d.verdict is after) in
    Goes s (record s { bare = false }) under refl refl refl (no_call seat n m (along seat n m _ _ none d.chain)) (after_is t u _ _ _ d.verdict _ d.after none then) (said_is sent d.verdict _ d.said then)
gives seat n t m u sent d own w (Awaits s under bare sent_all none is) after =
    let then = after_waiting t.now d.verdict (after_as t.now w _ d.verdict is after) in
    Waits (no_call seat n m (along seat n m _ _ none d.chain)) (after_is t u _ _ _ d.verdict _ d.after none then) (said_is sent d.verdict _ d.said then)
gives seat n t m u sent d own w (Reads s under small answer asks read) after = go answer asks (one_call seat n m (Read_call s.place d.block) answer (along seat n m _ _ asks d.chain)) read
  where
    go : (answer : Answer) → d.events ≡ one (Read_call s.place d.block) answer → NodeStep seat n (Read_call s.place d.block) answer m → AfterRead d.block s answer w → OwnTurn seat n t m u sent
    go (Came bytes) asks step (long, is) =
        let then = after_sent t.now d.verdict _ _ (after_as t.now w _ d.verdict is after) in
        Sends s bytes under small d.block step.1 (after_is t u _ _ _ d.verdict _ d.after asks then) (said_is sent d.verdict _ d.said then)
    go (Refused fault) asks step is = not_open d.verdict _ (Refused_by fault) (after_failing t.now d.verdict fault (after_as t.now w _ d.verdict is after)) d.open_still
    go answer asks step then = absurd then
gives seat n t m u sent d own w (Asks none answer asks offered) after = go answer asks (one_call seat n m Offer_call answer (along seat n m _ _ asks d.chain)) offered
  where
    empty : OfferNothing seat n m → d.events ≡ one Offer_call Nothing → AfterSend t.now d.verdict Empty → OwnTurn seat n t m u sent
    empty row asks (Says_end may then) = Ends none own row (after_is t u _ _ _ d.verdict _ d.after asks then) (said_is sent d.verdict _ d.said then)
    empty row asks (Waits_for_end may then) = Waits row.after (after_is t u _ _ _ d.verdict _ d.after asks then) (said_is sent d.verdict _ d.said then)

    go : (answer : Answer) → d.events ≡ one Offer_call answer → NodeStep seat n Offer_call answer m → AfterOffer answer w → OwnTurn seat n t m u sent
    go (Offered number key) asks (unbroken, (e, numbered, keyed, row)) is =
        let then = after_sent t.now d.verdict _ _ (after_as t.now w _ d.verdict is after) in
        Offers e none own row
        (after_is t u _ _ _ d.verdict _ d.after asks then ∙ (λ i. record t { now = record (t.now) { sending = Some (under_way (sym numbered i) (sym keyed i) 0) }; offered = sym keyed i ∷ t.offered; numbers = sym numbered i ∷ t.numbers }))
        (said_is sent d.verdict _ d.said then ∙ ap (λ (k : Key). File k 0 ∷ []) (sym keyed))
    go Nothing asks step is = empty step.1 asks (after_as t.now w _ d.verdict is after)
    go (Refused fault) asks step is = not_open d.verdict _ (Refused_by fault) (after_failing t.now d.verdict fault (after_as t.now w _ d.verdict is after)) d.open_still
    go answer asks step then = absurd then

pub own_turn : (seat : ℕ) (n : Node) (t : Course) (m : Node) (u : Course) (sent : List Message) → TurnMade seat n t m u sent → OwnTurn seat n t m u sent
own_turn seat n t m u sent d = go d.row
  where
    go : TurnRow d.block (part_at n seat) t.now d.events d.verdict → OwnTurn seat n t m u sent
    go (Finishes done none is) = not_open d.verdict t.now _ is d.open_still
    go (Rests open_still own none is) = Waits (no_call seat n m (along seat n m _ _ none d.chain)) (after_is t u _ _ _ d.verdict _ d.after none is) (said_is sent d.verdict _ d.said is)
    go (Gives own w row after) = gives seat n t m u sent d own w row after
