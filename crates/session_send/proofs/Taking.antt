-- The peer's commands, taken.
use Rattle.std.proofs.Common.{◌≡◌, ◌≢◌, ◌∙◌, ◌++◌, ◌≤◌, ℕ, Bool, true, false, List, [], ◌∷◌, Option, Some, None, Result, Ok, Err, OnOk, OnErr, refl, sym, ap, subst, inl, inr, arith, ◌+◌, ◌-◌, ◌^◌, min}
use Rattle.std.proofs.lemmas.List.{append-nil}
use Rattle.ftn_addr.specs.Key.{Key, same_key}
use Rattle.node_model.specs.Calls.{Call, Got_call, Skip_call, Answer, Settled, Refused, Event, one, turned}
use Rattle.node_model.specs.Desks.{Claim, number_in, fault_of}
use Rattle.node_model.specs.Images.{Stand, Kept}
use Rattle.node_model.specs.Talk.{Sending, Talk, Verdict, File, Refused_by, on, ends, under_way, IsOther, GotTaken, Settles, SkipTaken, Skips, GetTaken, Resends, Passes_get}
use Rattle.node_model.specs.declared.desk.DeskFault.{DeskFault}
use Rattle.node_model.specs.declared.desk.DeskFault.TheVariants as D
use Rattle.node_model.proofs.Rans.{ran_none, ran_one}
use Rattle.node_model.proofs.SameFiles.{and_both, bytes-refl, number-refl}
use Rattle.session_send.specs.Senders.{SendCounts, counts_after, claim_of, offer_bytes, IsUnderWay, Takes, TakesPlain, WritesTaken}

-- a row with one call
took_one : (P : List Event → Verdict → Type 0) (t : Talk) (call : Call) (x : Answer) (v : Verdict) (alone : Bool) (old new : Stand) (now : Option Sending) (counts counts' : SendCounts) (out out' : List ℕ) (result : Result (Unit {0}) DeskFault) → P (one call x) v → Kept alone old call x new → OnOk result (v.after ≡ record t { sending = now }) → OnErr result (now ≡ t.sending) → counts' ≡ counts_after counts call x → WritesTaken out out' v result → Takes P alone old new t now counts counts' out out' result
took_one P t call x v alone old new now counts counts' out out' result row kept after same counted writes =
    record { events = turned call x kept.rows_before kept.rows_after ∷ []; verdict = v; row = row; ran = ran_one alone old call x new kept; after = after; kept = same; counted = counted; writes = writes }

-- a command is passed over
pub passed : (P : List Event → Verdict → Type 0) (t : Talk) (alone : Bool) (s : Stand) (now : Option Sending) (counts : SendCounts) (out : List ℕ) → t.sending ≡ now → P [] (on t []) → Takes P alone s s t now counts counts out out (Ok tt)
passed P t alone s now counts out same row =
    record { events = []; verdict = on t []; row = row; ran = ran_none alone s; after = ap (λ (x : Option Sending). record t { sending = x }) same; kept = tt; counted = refl; writes = inl (refl, sym (append-nil out)) }

-- a command that is no answer
pub passed_over : (t : Talk) (alone : Bool) (s : Stand) (now : Option Sending) (counts : SendCounts) (out : List ℕ) → t.sending ≡ now → Takes (λ es v. (es ≡ []) × (v ≡ on t [])) alone s s t now counts counts out out (Ok tt)
passed_over t alone s now counts out same = passed (λ es v. (es ≡ []) × (v ≡ on t [])) t alone s now counts out same (refl, refl)

claimed_number : (key : Key) (claim : Option Claim) (was : Option Sending) → (under : IsUnderWay key was) → claim ≡ claim_of was → number_in claim ≡ under.file.number
claimed_number key claim was under c = ap number_in (c ∙ ap claim_of under.is)

pub settled : (t : Talk) (key : Key) (claim : Option Claim) (was : Option Sending) (alone : Bool) (old new : Stand) (counts counts' : SendCounts) (out : List ℕ) → counts' ≡ record counts { sent = min (counts.sent + 1) (2 ^ 32 - 1) } → t.sending ≡ was → IsUnderWay key was → claim ≡ claim_of was → Kept alone old (Got_call (number_in claim)) Settled new → Takes (GotTaken t key) alone old new t None counts counts' out out (Ok tt)
settled t key claim was alone old new counts counts' out counted same under c kept =
    let k : Kept alone old (Got_call under.file.number) Settled new = subst (λ (n : ℕ). Kept alone old (Got_call n) Settled new) (claimed_number key claim was under c) kept in
    took_one (GotTaken t key) t (Got_call under.file.number) Settled (on (record t { sending = None }) []) alone old new None _ _ out out (Ok tt) (Settles under.file (same ∙ under.is) under.keyed Settled refl refl) k refl tt counted (inl (refl, sym (append-nil out)))

pub settling_refused : (t : Talk) (key : Key) (claim : Option Claim) (was : Option Sending) (fault : DeskFault) (alone : Bool) (old new : Stand) (counts : SendCounts) (out : List ℕ) → t.sending ≡ was → IsUnderWay key was → claim ≡ claim_of was → Kept alone old (Got_call (number_in claim)) (Refused (fault_of fault)) new → Takes (GotTaken t key) alone old new t was counts counts out out (Err fault)
settling_refused t key claim was fault alone old new counts out same under c kept =
    let k : Kept alone old (Got_call under.file.number) (Refused (fault_of fault)) new = subst (λ (n : ℕ). Kept alone old (Got_call n) (Refused (fault_of fault)) new) (claimed_number key claim was under c) kept in
    took_one (GotTaken t key) t (Got_call under.file.number) (Refused (fault_of fault)) (ends t (Refused_by (fault_of fault))) alone old new was _ _ out out (Err fault) (Settles under.file (same ∙ under.is) under.keyed (Refused (fault_of fault)) refl refl) k tt (sym same) refl (inl (refl, sym (append-nil out)))

pub put_off : (t : Talk) (key : Key) (claim : Option Claim) (was : Option Sending) (alone : Bool) (old new : Stand) (counts counts' : SendCounts) (out : List ℕ) → counts' ≡ record counts { skipped = min (counts.skipped + 1) (2 ^ 32 - 1) } → t.sending ≡ was → IsUnderWay key was → claim ≡ claim_of was → Kept alone old (Skip_call (number_in claim)) Settled new → Takes (SkipTaken t key) alone old new t None counts counts' out out (Ok tt)
put_off t key claim was alone old new counts counts' out counted same under c kept =
    let k : Kept alone old (Skip_call under.file.number) Settled new = subst (λ (n : ℕ). Kept alone old (Skip_call n) Settled new) (claimed_number key claim was under c) kept in
    took_one (SkipTaken t key) t (Skip_call under.file.number) Settled (on (record t { sending = None }) []) alone old new None _ _ out out (Ok tt) (Skips under.file (same ∙ under.is) under.keyed Settled refl refl) k refl tt counted (inl (refl, sym (append-nil out)))

-- the file under way goes on from another place
pub sent_again : (t : Talk) (s : Sending) (key : Key) (place : ℕ) (was now : Option Sending) (out out' : List ℕ) → t.sending ≡ was → was ≡ Some s → s.key ≡ key → place ≤ key.size → now ≡ Some (under_way s.number s.key place) → out' ≡ out ++ offer_bytes (File key place) → TakesPlain (GetTaken t key place) t now out out' (Ok tt)
sent_again t s key place was now out out' same is keyed inside goes grew =
    record {
      verdict = on (record t { sending = Some (under_way s.number s.key place) }) (File key place ∷ []);
      row = Resends s (same ∙ is) keyed inside refl refl;
      after = ap (λ (x : Option Sending). record t { sending = x }) (sym goes);
      kept = tt;
      writes = inl (refl, grew ∙ ap (λ (x : List ℕ). out ++ x) (sym (append-nil (offer_bytes (File key place)))));
    }

-- the M_FILE finds no memory
pub not_sent_again : (t : Talk) (s : Sending) (key : Key) (place : ℕ) (was now : Option Sending) (out out' : List ℕ) → t.sending ≡ was → was ≡ Some s → s.key ≡ key → place ≤ key.size → now ≡ was → out' ≡ out → TakesPlain (GetTaken t key place) t now out out' (Err D.NoMemory)
not_sent_again t s key place was now out out' same is keyed inside still stays =
    record {
      verdict = on (record t { sending = Some (under_way s.number s.key place) }) (File key place ∷ []);
      row = Resends s (same ∙ is) keyed inside refl refl;
      after = tt;
      kept = still ∙ sym same;
      writes = inr (refl, omega arith, stays);
    }

same_key-refl : (k : Key) → same_key k k ≡ true
same_key-refl k = and_both _ _ (bytes-refl k.name) (and_both _ _ (number-refl k.size) (number-refl k.time))

true_false : true ≡ false → ⊥
true_false e = cc

-- keys that don't agree are two
pub other_key : (a b : Key) → same_key a b ≡ false → a ≢ b
other_key a b apart e = true_false (sym (same_key-refl a) ∙ ap (λ (k : Key). same_key a k) e ∙ apart)

-- the M_GET of another file is passed over
pub get_passed : (t : Talk) (key : Key) (place : ℕ) (was : Option Sending) (out : List ℕ) → t.sending ≡ was → IsOther key was → TakesPlain (GetTaken t key place) t was out out (Ok tt)
get_passed t key place was out same other =
    record { verdict = on t []; row = Passes_get (subst (λ (x : Option Sending). IsOther key x) (sym same) other) refl refl; after = ap (λ (x : Option Sending). record t { sending = x }) same; kept = tt; writes = inl (refl, sym (append-nil out)) }

-- a row that asks the desk for nothing is one that it stood still for
pub took_plain : (P : List Event → Verdict → Type 0) (alone : Bool) (s : Stand) (t : Talk) (now : Option Sending) (counts counts' : SendCounts) (out out' : List ℕ) (result : Result (Unit {0}) DeskFault) → counts' ≡ counts → TakesPlain P t now out out' result → Takes P alone s s t now counts counts' out out' result
took_plain P alone s t now counts counts' out out' result same took =
    record { events = []; verdict = took.verdict; row = took.row; ran = ran_none alone s; after = took.after; kept = took.kept; counted = same; writes = took.writes }
