-- Events made of a node's step, for runs that are worked out.
use Rattle.std.proofs.Common.{◌≡◌, ℕ, ◌+◌, ◌-◌, min, ◌<◌, ◌≤◌, true, false, ◌||◌, List, [], ◌∷◌, Option, Some, None, length, refl, lit<}
use Rattle.ftn_addr.specs.Key.{Key}
use Rattle.node_model.specs.Node.{Node}
use Rattle.node_model.specs.Rows.{FileAnswer}
use Rattle.node_model.specs.Calls.{Offer_call, Read_call, Got_call, Skip_call, File_call, Data_call, Offered, Nothing, Came, Settled, Filed, More, Whole_now, one, NodeStep}
use Rattle.node_model.specs.Talk.{Message, File, Data, Got, Get, Skip, End, Sending, under_way, Part, part_at, is_finished, calls, on, ends, Ends, Finished, AfterFile, Fits, Settles, Skips, Resends, Reads, Asks, Finishes, Gives, Says, Says_end, Sent, Empty}
use Rattle.world_pair.specs.Course.{Course}
use Rattle.world_pair.specs.World.{Place, says, hushed, finish_after, with_outbox, at_line, with_end, Occurs, Turns, Takes, Turns_last}

-- an end says something and goes on
abbrev pub said : ℕ → Course → List Message → Node → Place → Place
said line course sent n p = at_line line (says (p.ends line) (Some course) sent) n p

-- what an end sent was taken, but for the rest
abbrev pub heard : ℕ → List Message → Place → Place
heard line rest p = with_end line (with_outbox rest (p.ends line)) p

-- a session at an end knows this
pub record At (line seat : ℕ) (was : Course) (me : Place) : Type 0 where
  pub sits : (me.ends line).seat ≡ Some seat
  pub knows : (me.ends line).course ≡ Some was

abbrev pub sending_now : Course → Option Sending → Course
sending_now was s = record was { now = record (was.now) { sending = s } }

abbrev pub offering : Course → ℕ → Key → Course
offering was number key =
    record { now = record (was.now) { sending = Some (under_way number key 0) }; offered = key ∷ was.offered; numbers = number ∷ was.numbers; met_skip = was.met_skip }

abbrev pub own_ended : Course → Course
own_ended was = record was { now = record (was.now) { own_end = true } }

abbrev pub peer_ended : Course → Course
peer_ended was = record was { now = record (was.now) { peer_end = true } }

abbrev pub met_skip_now : Course → Course
met_skip_now was = record was { now = record (was.now) { sending = None }; met_skip = true }

-- Own turns.

pub offers_file : (me peer : Place) (line seat number : ℕ) (key : Key) (n : Node) (was : Course) → At line seat was me → was.now.own_end ≡ false → was.now.sending ≡ None → NodeStep seat me.node Offer_call (Offered number key) n → Occurs me peer (said line (offering was number key) (File key 0 ∷ []) n me) peer
offers_file me peer line seat number key n was at own idle step = Turns line seat n was (offering was number key) (File key 0 ∷ []) at.sits at.knows (record {
  block = 4096;
  some = lit< tt;
  events = one Offer_call (Offered number key);
  verdict = on (offering was number key).now (File key 0 ∷ []);
  row = Gives own (Sent (File key 0) (under_way number key 0)) (Asks idle (Offered number key) refl refl) (Says refl);
  chain = (n, step, refl);
  open_still = tt;
  said = refl;
  after = refl;
}) refl refl

pub sends_data : (me peer : Place) (line seat block : ℕ) (s : Sending) (bytes : List ℕ) (n : Node) (was : Course) → At line seat was me → was.now.own_end ≡ false → was.now.sending ≡ Some s → 0 < block → s.place < s.key.size → length bytes ≡ min block (s.key.size - s.place) → NodeStep seat me.node (Read_call s.place block) (Came bytes) n
    → Occurs me peer (said line (sending_now was (Some (record s { place = s.place + length bytes }))) (Data bytes ∷ []) n me) peer
sends_data me peer line seat block s bytes n was at own under some small long step = Turns line seat n was (sending_now was (Some (record s { place = s.place + length bytes }))) (Data bytes ∷ []) at.sits at.knows (record {
  block = block;
  some = some;
  events = one (Read_call s.place block) (Came bytes);
  verdict = on (sending_now was (Some (record s { place = s.place + length bytes }))).now (Data bytes ∷ []);
  row = Gives own (Sent (Data bytes) (record s { place = s.place + length bytes })) (Reads s under small (Came bytes) refl (long, refl)) (Says refl);
  chain = (n, step, refl);
  open_still = tt;
  said = refl;
  after = refl;
}) refl refl

pub ends_batch : (me peer : Place) (line seat : ℕ) (n : Node) (was : Course) → At line seat was me → was.now.own_end ≡ false → was.now.sending ≡ None → (calls was.now.role || was.now.peer_end) ≡ true → NodeStep seat me.node Offer_call Nothing n → Occurs me peer (said line (own_ended was) (End ∷ []) n me) peer
ends_batch me peer line seat n was at own idle may step = Turns line seat n was (own_ended was) (End ∷ []) at.sits at.knows (record {
  block = 4096;
  some = lit< tt;
  events = one Offer_call Nothing;
  verdict = on (own_ended was).now (End ∷ []);
  row = Gives own Empty (Asks idle Nothing refl refl) (Says_end may refl);
  chain = (n, step, refl);
  open_still = tt;
  said = refl;
  after = refl;
}) refl refl

pub finishes : (me peer : Place) (line seat : ℕ) (was : Course) → At line seat was me → is_finished was.now (part_at me.node seat) ≡ true → Occurs me peer (at_line line (hushed (finish_after (Ends Finished) was (me.ends line).finish) (me.ends line)) me.node me) peer
finishes me peer line seat was at done = Turns_last line seat me.node was at.sits at.knows (record { block = 4096; some = lit< tt; events = []; verdict = ends was.now Finished; row = Finishes done refl refl; chain = refl; breaks_none = tt }) refl refl

-- Messages taken.

pub takes_file : (me peer : Place) (line seat : ℕ) (key : Key) (offset : ℕ) (answer : FileAnswer) (reply rest : List Message) (n : Node) (was : Course) → At line seat was me → (peer.ends line).outbox ≡ File key offset ∷ rest → AfterFile was.now key (Filed answer) (on was.now reply) → NodeStep seat me.node (File_call key offset) (Filed answer) n
    → Occurs me peer (said line was reply n me) (heard line rest peer)
takes_file me peer line seat key offset answer reply rest n was at front then step = Takes line seat n was was reply rest (File key offset) at.sits at.knows front (record {
  events = one (File_call key offset) (Filed answer);
  verdict = on was.now reply;
  row = record { answer = Filed answer; asks = refl; then = then };
  chain = (n, step, refl);
  open_still = tt;
  said = refl;
  after = refl;
}) refl refl

pub takes_more : (me peer : Place) (line seat : ℕ) (bytes : List ℕ) (rest : List Message) (part : Part) (n : Node) (was : Course) → At line seat was me → (peer.ends line).outbox ≡ Data bytes ∷ rest → part_at me.node seat ≡ Some part → part.taking ≡ true → length bytes ≤ part.left → NodeStep seat me.node (Data_call bytes) More n
    → Occurs me peer (said line was [] n me) (heard line rest peer)
takes_more me peer line seat bytes rest part n was at front has taking fits step = Takes line seat n was was [] rest (Data bytes) at.sits at.knows front (record {
  events = one (Data_call bytes) More;
  verdict = on was.now [];
  row = Fits part has taking fits More refl refl;
  chain = (n, step, refl);
  open_still = tt;
  said = refl;
  after = refl;
}) refl refl

pub takes_whole : (me peer : Place) (line seat : ℕ) (bytes : List ℕ) (rest : List Message) (part : Part) (n : Node) (was : Course) → At line seat was me → (peer.ends line).outbox ≡ Data bytes ∷ rest → part_at me.node seat ≡ Some part → part.taking ≡ true → length bytes ≤ part.left → NodeStep seat me.node (Data_call bytes) Whole_now n
    → Occurs me peer (said line was (Got part.key ∷ []) n me) (heard line rest peer)
takes_whole me peer line seat bytes rest part n was at front has taking fits step = Takes line seat n was was (Got part.key ∷ []) rest (Data bytes) at.sits at.knows front (record {
  events = one (Data_call bytes) Whole_now;
  verdict = on was.now (Got part.key ∷ []);
  row = Fits part has taking fits Whole_now refl refl;
  chain = (n, step, refl);
  open_still = tt;
  said = refl;
  after = refl;
}) refl refl

pub takes_got : (me peer : Place) (line seat : ℕ) (s : Sending) (rest : List Message) (n : Node) (was : Course) → At line seat was me → (peer.ends line).outbox ≡ Got s.key ∷ rest → was.now.sending ≡ Some s → NodeStep seat me.node (Got_call s.number) Settled n
    → Occurs me peer (said line (sending_now was None) [] n me) (heard line rest peer)
takes_got me peer line seat s rest n was at front under step = Takes line seat n was (sending_now was None) [] rest (Got s.key) at.sits at.knows front (record {
  events = one (Got_call s.number) Settled;
  verdict = on (sending_now was None).now [];
  row = Settles s under refl Settled refl refl;
  chain = (n, step, refl);
  open_still = tt;
  said = refl;
  after = refl;
}) refl refl

pub takes_skip : (me peer : Place) (line seat : ℕ) (s : Sending) (rest : List Message) (n : Node) (was : Course) → At line seat was me → (peer.ends line).outbox ≡ Skip s.key ∷ rest → was.now.sending ≡ Some s → NodeStep seat me.node (Skip_call s.number) Settled n
    → Occurs me peer (said line (met_skip_now was) [] n me) (heard line rest peer)
takes_skip me peer line seat s rest n was at front under step = Takes line seat n was (met_skip_now was) [] rest (Skip s.key) at.sits at.knows front (record {
  events = one (Skip_call s.number) Settled;
  verdict = on (met_skip_now was).now [];
  row = Skips s under refl Settled refl refl;
  chain = (n, step, refl);
  open_still = tt;
  said = refl;
  after = refl;
}) refl refl

pub takes_get : (me peer : Place) (line seat : ℕ) (s : Sending) (offset : ℕ) (rest : List Message) (was : Course) → At line seat was me → (peer.ends line).outbox ≡ Get s.key offset ∷ rest → was.now.sending ≡ Some s → offset ≤ s.key.size
    → Occurs me peer (said line (sending_now was (Some (under_way s.number s.key offset))) (File s.key offset ∷ []) me.node me) (heard line rest peer)
takes_get me peer line seat s offset rest was at front under fits = Takes line seat me.node was (sending_now was (Some (under_way s.number s.key offset))) (File s.key offset ∷ []) rest (Get s.key offset) at.sits at.knows front (record {
  events = [];
  verdict = on (sending_now was (Some (under_way s.number s.key offset))).now (File s.key offset ∷ []);
  row = Resends s under refl fits refl refl;
  chain = refl;
  open_still = tt;
  said = refl;
  after = refl;
}) refl refl

pub takes_end : (me peer : Place) (line seat : ℕ) (rest : List Message) (was : Course) → At line seat was me → (peer.ends line).outbox ≡ End ∷ rest → Occurs me peer (said line (peer_ended was) [] me.node me) (heard line rest peer)
takes_end me peer line seat rest was at front = Takes line seat me.node was (peer_ended was) [] rest End at.sits at.knows front (record { events = []; verdict = on (peer_ended was).now []; row = (refl, refl); chain = refl; open_still = tt; said = refl; after = refl }) refl refl
