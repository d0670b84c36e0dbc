-- The rows as the laws see them: each with the node's row that it makes.
use Rattle.std.proofs.Common.{inl, inr}
use Rattle.std.specs.Prelude.{◌≡◌, ◌⊎◌, ℕ, true, false, ◌+◌, ◌≤◌, ◌<◌, List, [], ◌∷◌, Some, None, length}
use Rattle.ftn_addr.specs.Key.{Key}
use Rattle.node_model.specs.Items.{Entry}
use Rattle.node_model.specs.Node.{Session, Node, session_at, taking_in}
use Rattle.node_model.specs.Talk.{Sending, under_way}
use Rattle.node_model.specs.Talk.{Message, File, Data, Got, Get, Skip, End, IsOther}
use Rattle.node_model.specs.Rows.{FileAnswer, Have, Refuse, Elsewhere, Go, Whole, From, Late, Applies, FileMade, FileRow, DataMore, DataWhole}
use Rattle.node_model.specs.SendRows.{GotRow, SkipRow, ReadRow, OfferFile, OfferNothing}
use Rattle.world_pair.specs.Course.{Course}

-- the work of a call that isn't a skip wants a store that isn't broken
pub surely : {P : Type 0} → P ⊎ ⊥ → P
surely (inl p) = p
surely (inr impossible) = absurd impossible

-- an answer to a file applies, and makes its change
abbrev pub Answered : ℕ → Session → Key → ℕ → FileAnswer → Node → Node → Type 0
Answered seat s key offset answer n m = Applies seat s key offset answer n × FileMade seat s key answer n m

-- the reply to a file
abbrev pub Reply : FileAnswer → Key → List Message → Type 0
Reply Have key sent = sent ≡ Got key ∷ []
Reply Refuse key sent = sent ≡ Got key ∷ []
Reply Whole key sent = sent ≡ Got key ∷ []
Reply Elsewhere key sent = sent ≡ Skip key ∷ []
Reply (From place) key sent = sent ≡ Get key place ∷ []
Reply Go key sent = sent ≡ []
Reply Late key sent = ⊥  -- the session ends

-- the own turn of a seat, but for the finish
pub data OwnTurn (seat : ℕ) (n : Node) (t : Course) (m : Node) (u : Course) (sent : List Message) : Type 0 where
  Sends : (s : Sending) (bytes : List ℕ) → t.now.sending ≡ Some s → s.place < s.key.size → (room : ℕ) → ReadRow seat s.place room bytes n m → u ≡ record t { now = record (t.now) { sending = Some (record s { place = s.place + length bytes }) } } → sent ≡ Data bytes ∷ [] → OwnTurn seat n t m u sent
  Offers : (e : Entry) → t.now.sending ≡ None → t.now.own_end ≡ false → OfferFile seat e n m → u ≡ record t { now = record (t.now) { sending = Some (under_way e.number e.key 0) }; offered = e.key ∷ t.offered; numbers = e.number ∷ t.numbers } → sent ≡ File e.key 0 ∷ [] → OwnTurn seat n t m u sent
  Ends : t.now.sending ≡ None → t.now.own_end ≡ false → OfferNothing seat n m → u ≡ record t { now = record (t.now) { own_end = true } } → sent ≡ End ∷ [] → OwnTurn seat n t m u sent
  Goes : (s s' : Sending) → t.now.sending ≡ Some s → s'.number ≡ s.number → s'.key ≡ s.key → s'.place ≡ s.place → m ≡ n → u ≡ record t { now = record (t.now) { sending = Some s' } } → sent ≡ [] → OwnTurn seat n t m u sent
  Waits : m ≡ n → u ≡ t → sent ≡ [] → OwnTurn seat n t m u sent

-- an end takes a message
pub data Take (seat : ℕ) (n : Node) (t : Course) (m : Node) (u : Course) (sent : List Message) : Message → Type 0 where
  Take_file : {key : Key} {offset : ℕ} (answer : FileAnswer) → n.broken ≡ None → FileRow seat key offset answer n m → Reply answer key sent → u ≡ t → Take seat n t m u sent (File key offset)
  Take_more : {bytes : List ℕ} → n.broken ≡ None → DataMore seat bytes n m → sent ≡ [] → u ≡ t → Take seat n t m u sent (Data bytes)
  Take_whole : {bytes : List ℕ} → n.broken ≡ None → (row : DataWhole seat bytes n m) → sent ≡ Got row.hold.key ∷ [] → u ≡ t → Take seat n t m u sent (Data bytes)
  Drop_data : {bytes : List ℕ} → taking_in (session_at n seat) ≡ false → m ≡ n → sent ≡ [] → u ≡ t → Take seat n t m u sent (Data bytes)
  Take_got : {key : Key} (s : Sending) → t.now.sending ≡ Some s → s.key ≡ key → GotRow seat s.number n m → sent ≡ [] → u ≡ record t { now = record (t.now) { sending = None } } → Take seat n t m u sent (Got key)
  Pass_got : {key : Key} → IsOther key t.now.sending → m ≡ n → sent ≡ [] → u ≡ t → Take seat n t m u sent (Got key)
  Take_skip : {key : Key} (s : Sending) → t.now.sending ≡ Some s → s.key ≡ key → SkipRow seat s.number n m → sent ≡ [] → u ≡ record t { now = record (t.now) { sending = None }; met_skip = true } → Take seat n t m u sent (Skip key)
  Pass_skip : {key : Key} → IsOther key t.now.sending → m ≡ n → sent ≡ [] → u ≡ record t { met_skip = true } → Take seat n t m u sent (Skip key)
  Take_get : {key : Key} {offset : ℕ} (s : Sending) → t.now.sending ≡ Some s → s.key ≡ key → offset ≤ key.size → m ≡ n → sent ≡ File key offset ∷ [] → u ≡ record t { now = record (t.now) { sending = Some (under_way s.number s.key offset) } } → Take seat n t m u sent (Get key offset)
  Pass_get : {key : Key} {offset : ℕ} → IsOther key t.now.sending → m ≡ n → sent ≡ [] → u ≡ t → Take seat n t m u sent (Get key offset)
  Take_end : m ≡ n → sent ≡ [] → u ≡ record t { now = record (t.now) { peer_end = true } } → Take seat n t m u sent End
