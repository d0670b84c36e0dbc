-- The next step, made.
use Rattle.std.proofs.Common.{◌≡◌, ◌∙◌, ◌++◌, ◌+◌, ◌-◌, ◌<◌, ◌≤◌, min, take, ℕ, Bool, true, false, List, [], ◌∷◌, length, Option, Some, None, Result, Ok, Err, refl, sym, ap, subst, inl, inr, arith}
use Rattle.std.proofs.lemmas.List.{length-take-le}
use Rattle.ftn_addr.specs.Key.{Key}
use Rattle.node_model.specs.Calls.{Call, Offer_call, Read_call, Answer, Offered, Nothing, Came, Refused, one, turned}
use Rattle.node_model.specs.Desks.{Claim, size_in, fault_of}
use Rattle.node_model.specs.Images.{Stand, Kept}
use Rattle.node_model.specs.Talk.{Sending, File, Data, under_way, SendVerdict, Sent, Filled, Waiting, Empty, Fails, SendRow, Reads, Fills, Awaits, Asks}
use Rattle.node_model.specs.declared.desk.DeskFault.{DeskFault}
use Rattle.node_model.specs.declared.desk.DeskFault.TheVariants as D
use Rattle.node_model.proofs.Rans.{ran_none, ran_one}
use Rattle.session_send.specs.Senders.{claim_of, offer_bytes, empty_frame, IsDue, Says, Follows, Steps}
use Rattle.session_send.specs.declared.sending.SendStep.{SendStep}
use Rattle.session_send.specs.declared.sending.SendStep.TheVariants as S

-- a row with one call
made_one : (block : ℕ) (was now : Option Sending) (call : Call) (x : Answer) (w : SendVerdict) (alone : Bool) (old new : Stand) (out out' : List ℕ) (result : Result SendStep DeskFault) → SendRow block was (one call x) w → Kept alone old call x new → Follows w was now out out' result → Steps block was alone old new now out out' result
made_one block was now call x w alone old new out out' result row kept follows =
    inl (record { events = turned call x kept.rows_before kept.rows_after ∷ []; verdict = w; row = row; ran = ran_one alone old call x new kept; follows = follows })

-- a row with none
made_none : (block : ℕ) (was now : Option Sending) (w : SendVerdict) (alone : Bool) (st : Stand) (out out' : List ℕ) (result : Result SendStep DeskFault) → SendRow block was [] w → Follows w was now out out' result → Steps block was alone st st now out out' result
made_none block was now w alone st out out' result row follows =
    inl (record { events = []; verdict = w; row = row; ran = ran_none alone st; follows = follows })

-- a file is offered, and its M_FILE is said or finds no memory
pub offered : (block number : ℕ) (key : Key) (now : Option Sending) (alone : Bool) (old new : Stand) (out out' : List ℕ) (result : Result SendStep DeskFault) → now ≡ Some (under_way number key 0) → Kept alone old Offer_call (Offered number key) new → Says (File key 0) out out' result → Steps block None alone old new now out out' result
offered block number key now alone old new out out' result is kept says =
    made_one block None now Offer_call (Offered number key) (Sent (File key 0) (under_way number key 0)) alone old new out out' result (Asks refl (Offered number key) refl refl) kept (is, says)

pub none_offered : (block : ℕ) (now : Option Sending) (alone : Bool) (old new : Stand) (out : List ℕ) → now ≡ None → Kept alone old Offer_call Nothing new → Steps block None alone old new now out out (Ok S.Empty)
none_offered block now alone old new out idle kept =
    made_one block None now Offer_call Nothing Empty alone old new out out (Ok S.Empty) (Asks refl Nothing refl refl) kept (idle, (refl, refl))

pub offer_refused : (block : ℕ) (now : Option Sending) (fault : DeskFault) (alone : Bool) (old new : Stand) (out : List ℕ) → now ≡ None → Kept alone old Offer_call (Refused (fault_of fault)) new → Steps block None alone old new now out out (Err fault)
offer_refused block now fault alone old new out idle kept =
    made_one block None now Offer_call (Refused (fault_of fault)) (Fails (fault_of fault)) alone old new out out (Err fault) (Asks refl (Refused (fault_of fault)) refl refl) kept (idle, (refl, refl))

-- Data.

pub claimed_size : (s : Sending) (claim : Option Claim) → claim ≡ claim_of (Some s) → size_in claim ≡ s.key.size
claimed_size s claim c = ap size_in c

-- what is read lies within the file
pub within : (s : Sending) (claim : Option Claim) (count room : ℕ) → claim ≡ claim_of (Some s) → count ≡ min room (size_in claim - s.place) → s.place ≤ s.key.size → s.place + count ≤ s.key.size
within s claim count room c many inside = let size : size_in claim ≡ s.key.size = claimed_size s claim c in omega (arith, size, many, inside)

-- a frame of data goes out, read into a buffer that was as long as a block
pub sent_section : (block count room : ℕ) (s : Sending) (claim : Option Claim) (buffer : List ℕ) (alone : Bool) (old new : Stand) (out mid out' : List ℕ) → s.place < s.key.size → claim ≡ claim_of (Some s) → room ≡ block → length buffer ≡ room → count ≡ min room (size_in claim - s.place) → Kept alone old (Read_call s.place room) (Came (take count buffer)) new → out' ≡ mid ++ offer_bytes (Data (take count buffer)) → mid ≡ out → Steps block (Some s) alone old new (Some (record s { place = s.place + count })) out out' (Ok S.Sent)
sent_section block count room s claim buffer alone old new out mid out' left c whole same many kept grew stays =
    let k : Kept alone old (Read_call s.place block) (Came (take count buffer)) new = subst (λ (n : ℕ). Kept alone old (Read_call s.place n) (Came (take count buffer)) new) whole kept in
    let size : size_in claim ≡ s.key.size = claimed_size s claim c in
    let fits : count ≤ length buffer = omega (arith, many, same) in
    let long : length (take count buffer) ≡ count = length-take-le count buffer fits in
    let row : length (take count buffer) ≡ min block (s.key.size - s.place) = long ∙ (many ∙ ap (λ (n : ℕ). min n (size_in claim - s.place)) whole ∙ ap (λ (n : ℕ). min block (n - s.place)) size) in
    made_one block (Some s) (Some (record s { place = s.place + count })) (Read_call s.place block) (Came (take count buffer)) (Sent (Data (take count buffer)) (record s { place = s.place + length (take count buffer) })) alone old new out out' (Ok S.Sent) (Reads s refl left (Came (take count buffer)) refl (row, refl)) k (ap (λ (n : ℕ). Some (record s { place = s.place + n })) (sym long), (refl, grew ∙ ap (λ (x : List ℕ). x ++ offer_bytes (Data (take count buffer))) stays))

pub read_refused : (block room : ℕ) (s : Sending) (fault : DeskFault) (alone : Bool) (old new : Stand) (out out' : List ℕ) → s.place < s.key.size → room ≡ block → Kept alone old (Read_call s.place room) (Refused (fault_of fault)) new → out' ≡ out → Steps block (Some s) alone old new (Some s) out out' (Err fault)
read_refused block room s fault alone old new out out' left whole kept stays =
    let k : Kept alone old (Read_call s.place block) (Refused (fault_of fault)) new = subst (λ (n : ℕ). Kept alone old (Read_call s.place n) (Refused (fault_of fault)) new) whole kept in
    made_one block (Some s) (Some s) (Read_call s.place block) (Refused (fault_of fault)) (Fails (fault_of fault)) alone old new out out' (Err fault) (Reads s refl left (Refused (fault_of fault)) refl refl) k (refl, (refl, stays))

-- no memory for what is due
pub gave_up : (block : ℕ) (s : Sending) (alone : Bool) (st : Stand) (out out' : List ℕ) → IsDue (Some s) → out' ≡ out → Steps block (Some s) alone st st (Some s) out out' (Err D.NoMemory)
gave_up block s alone st out out' due stays = inr (record { due = due; ran = ran_none alone st; same = refl; out_is = stays; is = refl })

-- Behind the last byte.

pub filled : (block : ℕ) (s : Sending) (alone : Bool) (st : Stand) (out out' : List ℕ) → s.bare ≡ true → out' ≡ out ++ empty_frame → Steps block (Some s) alone st st (Some (record s { bare = false })) out out' (Ok S.Sent)
filled block s alone st out out' bare grew =
    made_none block (Some s) (Some (record s { bare = false })) (Filled (record s { bare = false })) alone st out out' (Ok S.Sent) (Fills s refl bare refl refl) (refl, (refl, grew))

pub awaits : (block : ℕ) (s : Sending) (alone : Bool) (st : Stand) (out : List ℕ) → s.bare ≡ false → s.key.size ≤ s.place → Steps block (Some s) alone st st (Some s) out out (Ok S.Waiting)
awaits block s alone st out bare whole =
    made_none block (Some s) (Some s) Waiting alone st out out (Ok S.Waiting) (Awaits s refl bare whole refl refl) (refl, (refl, refl))
