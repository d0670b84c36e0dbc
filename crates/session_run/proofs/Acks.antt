-- A call that an M_GOT acknowledges leaves the file received or refused, or found it so.
use Rattle.std.proofs.Common.{◌≡◌, ◌∙◌, ℕ, Bool, true, false, List, [], ◌∷◌, ◌++◌, Option, Some, refl, sym, ap, subst, inl, inr, append_assoc}
use Rattle.std.specs.Prelude.{◌||◌}
use Rattle.std.proofs.lemmas.List.{append-nil}
use Rattle.ftn_addr.specs.Files.{is_same}
use Rattle.ftn_addr.specs.Key.{Key}
use Rattle.node_model.specs.Items.{Receipt, Refusal}
use Rattle.node_model.specs.Lists.{some_passes}
use Rattle.node_model.specs.Durable.{Durable, is_known, marked, with_receipt, with_refusal}
use Rattle.node_model.specs.Node.{Session, Node, session_at, hold_in}
use Rattle.node_model.specs.Rows.{FileAnswer, Have, Refuse, Elsewhere, Go, Whole, From, Late, FileRow, released, unheld, receipt_of}
use Rattle.node_model.specs.Calls.{Call, File_call, Data_call, Fault, Answer, Filed, Whole_now, Refused, Event, one, Made, NodeStep, Knows, Tells, Counts_alone, KnownStep, DeskState, Turned, asked_of, OwnRow, Made_row, Missing, CallsBeside, Turns}
use Rattle.node_model.proofs.Lists.{is_same_refl}
use Rattle.node_model.proofs.Moves.{whole-moved, released-moved}
use Rattle.session_run.specs.Acknowledged.{HasFile, Acknowledged}
use Rattle.session_run.proofs.HeldKeys.{key_held, key_at, HoldsKey, HoldsKnown, drift_key, beside_key, before_takes}

-- the call with its answer owes an M_GOT of that file, where that one is held
abbrev pub Acks : Option Key → Key → Call → Answer → Type 0
Acks held key (File_call k offset) (Filed Have) = k ≡ key
Acks held key (File_call k offset) (Filed Refuse) = k ≡ key
Acks held key (File_call k offset) (Filed Whole) = k ≡ key
Acks held key (Data_call bytes) Whole_now = held ≡ Some key
Acks held key call answer = ⊥

-- the last of a list passes
last_passes : {A : Type 0} (p : A → Bool) (xs : List A) (x : A) → p x ≡ true → some_passes p (xs ++ x ∷ []) ≡ true
last_passes p [] x e = rw e refl
last_passes p (y ∷ xs) x e = or_true (p y) (some_passes p (xs ++ x ∷ [])) (last_passes p xs x e)
  where
    or_true : (a b : Bool) → b ≡ true → (a || b) ≡ true
    or_true true b e = refl
    or_true false b e = e

or_left : (a b : Bool) → a ≡ true → (a || b) ≡ true
or_left true b e = refl
or_left false b e = absurd (let clash : false ≡ true = e in cc)

or_right : (a b : Bool) → b ≡ true → (a || b) ≡ true
or_right true b e = refl
or_right false b e = e

known_receipt : (r : Receipt) (d : Durable) → is_known r.from r.key (with_receipt r d) ≡ true
known_receipt r d = or_left _ _ (last_passes (λ (x : Receipt). is_same r.from r.key x.from x.key) d.inbox r (is_same_refl r.from r.key))

known_refusal : (r : Refusal) (d : Durable) → is_known r.from r.key (with_refusal r d) ≡ true
known_refusal r d = or_right _ _ (last_passes (λ (x : Refusal). is_same r.from r.key x.from x.key) d.refused r (is_same_refl r.from r.key))

file_has : (seat : ℕ) (k : Key) (offset : ℕ) (held : Option Key) (key : Key) (answer : FileAnswer) (old new : Node) → FileRow seat k offset answer old new → Acks held key (File_call k offset) (Filed answer) → HasFile seat (Tells new) key
file_has seat k offset held key Have old new r same =
    let s = unheld r.session in
    (s, ap (λ (n : Node). session_at n seat) r.made ∙ (released-moved old seat r.session).here, ap (λ (n : Node). is_known s.first key n.state) r.made ∙ ap (λ (x : Key). is_known s.first x (released seat r.session old).state) (sym same) ∙ r.applies)
file_has seat k offset held key Refuse old new r same =
    let s = unheld r.session in
    (s, ap (λ (n : Node). session_at n seat) r.made ∙ (released-moved old seat r.session).here, ap (λ (n : Node). is_known s.first key n.state) r.made ∙ ap (λ (x : Key). is_known s.first x (with_refusal (record { from = s.first; key = k }) (released seat r.session old).state)) (sym same) ∙ known_refusal (record { from = s.first; key = k }) (released seat r.session old).state)
file_has seat k offset held key Whole old new r same =
    let s = unheld r.session in
    let d = (released seat r.session old).state in
    let receipt : Receipt = receipt_of r.made.0 s k (marked s.first k d) in
    (s, ap (λ (n : Node). session_at n seat) r.made.2 ∙ (released-moved old seat r.session).here, ap (λ (n : Node). is_known s.first key n.state) r.made.2 ∙ ap (λ (x : Key). is_known s.first x (with_receipt receipt d)) (sym same) ∙ known_receipt receipt d)
file_has seat k offset held key Elsewhere old new r same = absurd same
file_has seat k offset held key Go old new r same = absurd same
file_has seat k offset held key (From place) old new r same = absurd same
file_has seat k offset held key Late old new r same = absurd same

made_has : (seat : ℕ) (old : Node) (call : Call) (answer : Answer) (new : Node) (held : Option Key) (key : Key) → Made seat old call answer new → key_at seat old ≡ held → Acks held key call answer → HasFile seat (Tells new) key
made_has seat old (File_call k offset) (Filed answer) new held key r e a = file_has seat k offset held key answer old new r a
made_has seat old (Data_call bytes) Whole_now new held key r e a =
    let at : key_at seat old ≡ Some r.hold.key = ap (λ (x : Option Session). key_held (hold_in x)) r.has ∙ ap key_held r.holds in
    let some : Some r.hold.key ≡ Some key = sym at ∙ e ∙ a in
    let same : r.hold.key ≡ key = cc in
    let moves = whole-moved old new seat bytes r in
    let receipt : Receipt = receipt_of r.hold.number r.session r.hold.key (r.hold.bytes ++ bytes) in
    (unheld r.session, moves.here, ap (λ (d : Durable). is_known r.session.first key d) moves.state_is ∙ ap (λ (x : Key). is_known r.session.first x (with_receipt receipt old.state)) (sym same) ∙ known_receipt receipt old.state)
made_has seat old call answer new held key r e a = absurd a

step_has : (seat : ℕ) (old : Node) (call : Call) (answer : Answer) (new : Node) (held : Option Key) (key : Key) → NodeStep seat old call answer new → HoldsKey seat old held → Acks held key call answer → HasFile seat (Tells new) key
step_has seat old (File_call k offset) (Filed answer) new held key (inl whole, made) h a = made_has seat old (File_call k offset) (Filed answer) new held key made (h whole) a
step_has seat old (File_call k offset) (Filed answer) new held key (inr skips, made) h a = absurd skips
step_has seat old (Data_call bytes) Whole_now new held key (inl whole, made) h a = made_has seat old (Data_call bytes) Whole_now new held key made (h whole) a
step_has seat old (Data_call bytes) Whole_now new held key (inr skips, made) h a = absurd skips
step_has seat old call answer new held key s h a = absurd a

known_has : (seat : ℕ) (old : Knows) (call : Call) (answer : Answer) (new : Knows) (held : Option Key) (key : Key) → KnownStep seat old call answer new → HoldsKnown seat old held → Acks held key call answer → HasFile seat new key
known_has seat (Tells old) call answer (Tells new) held key s h a = step_has seat old call answer new held key s h a
known_has seat (Counts_alone old) call answer (Counts_alone new) held key s h a = tt
known_has seat (Tells old) call answer (Counts_alone new) held key s h a = absurd s
known_has seat (Counts_alone old) call answer (Tells new) held key s h a = absurd s

-- what is refused isn't acknowledged
refused_acks : (held : Option Key) (key : Key) (call : Call) (fault : Fault) → Acks held key call (Refused fault) → ⊥
refused_acks held key (File_call k offset) fault a = a
refused_acks held key (Data_call bytes) fault a = a
refused_acks held key call fault a = a

own_has : (seat : ℕ) (before : List Event) (old : Knows) (asked : Event) (new : Knows) (held : Option Key) (key : Key) → OwnRow seat before old asked new → HoldsKnown seat old held → Acks held key asked.call asked.answer → HasFile seat new key
own_has seat before old asked new held key (Made_row made caused step) h a = known_has seat old asked.call asked.answer new held key step h a
own_has seat before old asked new held key (Missing fault refused is same) h a =
    absurd (refused_acks held key asked.call fault (subst (λ (x : Answer). Acks held key asked.call x) is a))

turn_has : (alone : Bool) (a b : DeskState) (e : Turned) (held : Option Key) (key : Key) (c : CallsBeside alone a e b) → HoldsKnown a.seat a.knows held → Acks held key e.asked.call e.asked.answer → HasFile a.seat c.rows.answers key
turn_has alone a b e held key c h acks =
    let r = c.rows in
    own_has a.seat e.before r.asks e.asked r.answers held key r.own (beside_key a.seat c.mid e.before r.asks held (before_takes e.asked.call e.before e.after r.beside) r.before (drift_key alone a.seat a.knows c.mid held c.drift h)) acks

-- the one call of a row acknowledges, behind earlier calls
pub acknowledged : (alone : Bool) (desk a b : DeskState) (old es : List Turned) (held : Option Key) (key : Key) (call : Call) (answer : Answer) → Turns alone desk old a → Turns alone a es b → asked_of es ≡ one call answer → HoldsKnown a.seat a.knows held → Acks held key call answer → Acknowledged alone desk (old ++ es) key
acknowledged alone desk a b old [] held key call answer before c is h acks = absurd (let clash : [] ≡ one call answer = is in cc)
acknowledged alone desk a b old (e ∷ []) held key call answer before (mid, made, same) is h acks =
    let first : e.asked ≡ record { call = call; answer = answer } = cc in
    let owed : Acks held key e.asked.call e.asked.answer = subst (λ (x : Event). Acks held key x.call x.answer) (sym first) acks in
    record { earlier = old; turn = e; later = []; is = sym (append-nil (old ++ e ∷ [])); asks = a; chain = before; answers = mid; call = made; has = turn_has alone a mid e held key made h owed }
acknowledged alone desk a b old (e ∷ f ∷ es) held key call answer before c is h acks = absurd (let clash : e.asked ∷ (f.asked ∷ asked_of es) ≡ one call answer = is in cc)

-- further calls take no acknowledgement away
pub acknowledged_on : (alone : Bool) (desk : DeskState) (es more : List Turned) (key : Key) → Acknowledged alone desk es key → Acknowledged alone desk (es ++ more) key
acknowledged_on alone desk es more key a =
    record { earlier = a.earlier; turn = a.turn; later = a.later ++ more; is = ap (λ (x : List Turned). x ++ more) a.is ∙ append_assoc (a.earlier ++ a.turn ∷ []) a.later more; asks = a.asks; chain = a.chain; answers = a.answers; call = a.call; has = a.has }
