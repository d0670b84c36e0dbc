-- What holds of a line, from the end that sends files to the end that receives them.
use Rattle.std.proofs.Common.{◌≡◌, ℕ, zero, suc, Bool, true, false, List, [], ◌∷◌, ◌++◌, Option, Some, None, length, take, sym, ap, ◌∙◌, subst, inl, inr, ⊎_elim}
use Rattle.ftn_addr.specs.Address.{Address}
use Rattle.ftn_addr.specs.Key.{Key}
use Rattle.node_model.specs.Lists.{Each}
use Rattle.node_model.specs.Items.{Entry}
use Rattle.node_model.specs.Durable.{Durable, is_known}
use Rattle.node_model.specs.Node.{Hold, Session, claim_in, hold_in, taking_in}
use Rattle.world_pair.specs.Course.{Course}
use Rattle.node_model.specs.Talk.{Sending}
use Rattle.node_model.specs.Talk.{Message, File, Data, Got, Get, Skip, End}
use Rattle.world_pair.specs.World.{GivenFile, LineEnd, Finish, with_sent, says, cut}
use Rattle.node_model.proofs.Lists.{Each-append, Each-weaker, some_inj, none_some, off}
use Rattle.world_pair.proofs.Flow.{goes_lost, goes_silent, flow_says, flow_weaker, flow_cut, flow_grows}
use Rattle.world_pair.specs.Flow.{At, Flow, GoesOn, Idle, Mode}
use Rattle.world_pair.specs.Invariant.{EntryIs, FinishStood, GotStands, LineHolds, OnItsWay, while_talking}

pub heard : (o : Option Course) (r : Option Session) (T : Hold → Type 0) → ((h : Hold) → taking_in r ≡ true → hold_in r ≡ Some h → T h) → (h : Hold) → taking_in (while_talking o r) ≡ true → hold_in (while_talking o r) ≡ Some h → T h
heard None r T f h a b = off (sym a)
heard (Some t) r T f h a b = f h a b

-- an end that talks
pub talking : (o : Option Course) (t : Course) (r : Option Session) → o ≡ Some t → r ≡ while_talking o r
talking o t r e = sym (ap (λ (x : Option Course). while_talking x r) e)

got_later : (from : Address) (kept kept' : Durable) → ((key : Key) → is_known from key kept ≡ true → is_known from key kept' ≡ true) → (m : Message) → GotStands from kept m → GotStands from kept' m
got_later from kept kept' more (Got key) h = more key h
got_later from kept kept' more (File key offset) h = tt
got_later from kept kept' more (Data bytes) h = tt
got_later from kept kept' more (Get key offset) h = tt
got_later from kept kept' more (Skip key) h = tt
got_later from kept kept' more End h = tt

finish_later : (from : Address) (kept kept' : Durable) → ((key : Key) → is_known from key kept ≡ true → is_known from key kept' ≡ true) → (o : Option Finish) → FinishStood from kept o → FinishStood from kept' o
finish_later from kept kept' more None h = tt
finish_later from kept kept' more (Some f) h = λ m. Each-weaker _ _ more f.offered (h m)

-- entries may be queued or done meanwhile, and more is settled there
pub line_later : (files : List GivenFile) (dests : List Address) (from : Address) (queue queue' : List Entry) (kept kept' : Durable) (e : LineEnd) (s : Option Session) (f : LineEnd) (r : Option Session) → ((number : ℕ) (key : Key) → EntryIs queue dests number key → EntryIs queue' dests number key) → ((key : Key) → is_known from key kept ≡ true → is_known from key kept' ≡ true) → LineHolds files dests from queue kept e s f r → LineHolds files dests from queue' kept' e s f r
line_later files dests from queue queue' kept kept' e s f r entries more l =
    record {
      claims = λ t g a b. let c = l.claims t g a b in (c.0, entries g.number g.key c.1);
      ended = l.ended;
      offered = λ t a m. Each-weaker (OnItsWay t.now.sending from kept) (OnItsWay t.now.sending from kept') (λ key o. ⊎_elim (λ under_way. inl under_way) (λ known. inr (more key known)) o) t.offered (l.offered t a m);
      finished = finish_later from kept kept' more e.finish l.finished;
      gots = Each-weaker (GotStands from kept) (GotStands from kept') (got_later from kept kept' more) f.outbox l.gots;
      flow = l.flow;
      taken = l.taken;
    }

pub line_grows : (files extra : List GivenFile) (dests : List Address) (from : Address) (queue : List Entry) (kept : Durable) (e : LineEnd) (s : Option Session) (f : LineEnd) (r : Option Session) → LineHolds files dests from queue kept e s f r → LineHolds (files ++ extra) dests from queue kept e s f r
line_grows files extra dests from queue kept e s f r l =
    record {
      claims = l.claims;
      ended = l.ended;
      offered = l.offered;
      finished = l.finished;
      gots = l.gots;
      flow = flow_grows files extra dests (GoesOn e.dropped e.course) Idle e.outbox l.flow;
      taken = λ h a b. flow_grows files extra dests (GoesOn e.dropped e.course) (At h.key (length h.bytes)) e.outbox (l.taken h a b);
    }

-- the sending end says something more, in a new state of its session
pub line_says : (files : List GivenFile) (dests : List Address) (from : Address) (queue : List Entry) (kept : Durable) (e : LineEnd) (s s' : Option Session) (f : LineEnd) (r : Option Session) (u : Course) (sent : List Message)
    → ((g : Sending) → u.now.sending ≡ Some g → (claim_in s' ≡ Some g.number) × EntryIs queue dests g.number g.key)
    → (u.now.own_end ≡ true → u.now.sending ≡ None)
    → (u.met_skip ≡ false → Each (OnItsWay u.now.sending from kept) u.offered)
    → (e.dropped ≡ false → (m : Mode) → GoesOn e.dropped e.course m → Flow files dests (GoesOn e.dropped (Some u)) m sent)
    → LineHolds files dests from queue kept e s f r → LineHolds files dests from queue kept (says e (Some u) sent) s' f r
line_says files dests from queue kept e s s' f r u sent claims ended offered next l =
    record {
      claims = λ t g a b. claims g (ap (λ (x : Course). x.now.sending) (some_inj a) ∙ b);
      ended = λ t a b. ap (λ (x : Course). x.now.sending) (sym (some_inj a)) ∙ ended (ap (λ (x : Course). x.now.own_end) (some_inj a) ∙ b);
      offered = λ t a b. subst (λ (x : Course). Each (OnItsWay x.now.sending from kept) x.offered) (some_inj a) (offered (ap (λ (x : Course). x.met_skip) (some_inj a) ∙ b));
      finished = l.finished;
      gots = l.gots;
      flow = flow_says files dests e.dropped e.course (Some u) e.outbox sent next Idle l.flow;
      taken = λ h a b. flow_says files dests e.dropped e.course (Some u) e.outbox sent next (At h.key (length h.bytes)) (l.taken h a b);
    }

-- the sending end has no session any more
pub line_gone : (files : List GivenFile) (dests : List Address) (from : Address) (queue : List Entry) (kept : Durable) (e : LineEnd) (s s' : Option Session) (f : LineEnd) (r : Option Session) (finish : Option Finish) (seat : Option ℕ) → FinishStood from kept finish → LineHolds files dests from queue kept e s f r → LineHolds files dests from queue kept (record e { seat = seat; course = None; finish = finish }) s' f r
line_gone files dests from queue kept e s s' f r finish seat ok l =
    record {
      claims = λ t g a. none_some a;
      ended = λ t a. none_some a;
      offered = λ t a. none_some a;
      finished = ok;
      gots = l.gots;
      flow = flow_weaker files dests (GoesOn e.dropped e.course) (GoesOn e.dropped None) (λ m _. goes_silent e.dropped m) Idle e.outbox l.flow;
      taken = λ h a b. flow_weaker files dests (GoesOn e.dropped e.course) (GoesOn e.dropped None) (λ m _. goes_silent e.dropped m) (At h.key (length h.bytes)) e.outbox (l.taken h a b);
    }

-- the sending end's list is cut
pub line_cut : (files : List GivenFile) (dests : List Address) (from : Address) (queue : List Entry) (kept : Durable) (e : LineEnd) (s : Option Session) (f : LineEnd) (r : Option Session) (n : ℕ) → LineHolds files dests from queue kept e s f r → LineHolds files dests from queue kept (cut n e) s f r
line_cut files dests from queue kept e s f r n l =
    record {
      claims = l.claims;
      ended = l.ended;
      offered = l.offered;
      finished = l.finished;
      gots = l.gots;
      flow = flow_cut files dests (GoesOn e.dropped e.course) (GoesOn true e.course) (goes_lost e.course) n Idle e.outbox l.flow;
      taken = λ h a b. flow_cut files dests (GoesOn e.dropped e.course) (GoesOn true e.course) (goes_lost e.course) n (At h.key (length h.bytes)) e.outbox (l.taken h a b);
    }

-- the other side of the line: the receiving end's list, its session, and what is left of the sending end's list
pub line_receives : (files : List GivenFile) (dests : List Address) (from : Address) (queue : List Entry) (kept : Durable) (e : LineEnd) (s : Option Session) (f f' : LineEnd) (r r' : Option Session) (rest : List Message)
    → Each (GotStands from kept) f'.outbox
    → Flow files dests (GoesOn e.dropped e.course) Idle rest
    → ((h : Hold) → taking_in (while_talking f'.course r') ≡ true → hold_in (while_talking f'.course r') ≡ Some h → Flow files dests (GoesOn e.dropped e.course) (At h.key (length h.bytes)) rest)
    → LineHolds files dests from queue kept e s f r → LineHolds files dests from queue kept (record e { outbox = rest }) s f' r'
line_receives files dests from queue kept e s f f' r r' rest gots flow taken l =
    record { claims = l.claims; ended = l.ended; offered = l.offered; finished = l.finished; gots = gots; flow = flow; taken = taken }

pub gots_say : (from : Address) (kept : Durable) (dropped : Bool) (box sent : List Message) → Each (GotStands from kept) box → Each (GotStands from kept) sent → Each (GotStands from kept) (with_sent dropped box sent)
gots_say from kept true box sent a b = a
gots_say from kept false box sent a b = Each-append (GotStands from kept) box sent a b

pub gots_cut : (from : Address) (kept : Durable) (n : ℕ) (box : List Message) → Each (GotStands from kept) box → Each (GotStands from kept) (take n box)
gots_cut from kept zero box a = tt
gots_cut from kept (suc n) [] a = tt
gots_cut from kept (suc n) (m ∷ box) a = (a.0, gots_cut from kept n box a.1)
