-- What is received or refused stays so, whatever is called, and in every state that a stop may leave.
use Rattle.std.proofs.Common.{◌≡◌, ℕ, zero, suc, Bool, true, false, List, [], ◌∷◌, ◌++◌, map, ◌∙◌, refl, sym, ap, subst, inl, inr}
use Rattle.std.proofs.lemmas.List.{append-nil, append_assoc}
use Rattle.node_model.specs.Items.{Receipt, Refusal}
use Rattle.node_model.specs.Durable.{Durable}
use Rattle.node_model.specs.Node.{Node}
use Rattle.node_model.specs.Calls.{Call, Answer, Refused, Passes, NodeStep, OtherSteps, KnownStep, Drifts, Knows, Tells, Counts_alone}
use Rattle.node_model.specs.Images.{OthersPass, DriftPasses, KnownPasses}
use Rattle.node_model.specs.Receipts.{SameReceipt, InboxStays, RefusedStays, SettledStays, KnownStays, StaysIn}
use Rattle.node_model.proofs.Changes.{Change, Still, Flags, Receives, Refuses, made_change, passes_change, refused_change}

-- Inboxes.

same_receipt : (r : Receipt) → SameReceipt r r
same_receipt r = record { number = refl; from_is = refl; key_is = refl; bytes = refl; secure = refl }

same_then : (r q p : Receipt) → SameReceipt r q → SameReceipt q p → SameReceipt r p
same_then r q p a b =
    record { number = b.number ∙ a.number; from_is = b.from_is ∙ a.from_is; key_is = b.key_is ∙ a.key_is; bytes = b.bytes ∙ a.bytes; secure = b.secure ∙ a.secure }

inbox_self : (rs : List Receipt) → InboxStays rs rs
inbox_self [] = tt
inbox_self (r ∷ rs) = (same_receipt r, inbox_self rs)

inbox_flags : (f : Receipt → Receipt) → ((r : Receipt) → SameReceipt r (f r)) → (rs : List Receipt) → InboxStays rs (map f rs)
inbox_flags f flags [] = tt
inbox_flags f flags (r ∷ rs) = (flags r, inbox_flags f flags rs)

inbox_push : (rs : List Receipt) (last : Receipt) → InboxStays rs (rs ++ last ∷ [])
inbox_push [] last = tt
inbox_push (r ∷ rs) last = (same_receipt r, inbox_push rs last)

inbox_then : (rs qs ps : List Receipt) → InboxStays rs qs → InboxStays qs ps → InboxStays rs ps
inbox_then [] qs ps a b = tt
inbox_then (r ∷ rs) [] ps a b = absurd a
inbox_then (r ∷ rs) (q ∷ qs) [] a b = absurd b
inbox_then (r ∷ rs) (q ∷ qs) (p ∷ ps) a b = (same_then r q p a.0 b.0, inbox_then rs qs ps a.1 b.1)

refused_then : (rs qs ps : List Refusal) → RefusedStays rs qs → RefusedStays qs ps → RefusedStays rs ps
refused_then rs qs ps (more, a) (further, b) = (more ++ further, b ∙ (ap (λ xs. xs ++ further) a ∙ append_assoc rs more further))

-- One change.

stays_still : (d e : Durable) → e.inbox ≡ d.inbox → e.refused ≡ d.refused → SettledStays d e
stays_still d e inbox refused =
    record { received = subst (InboxStays d.inbox) (sym inbox) (inbox_self d.inbox); refused = ([], refused ∙ sym (append-nil d.refused)) }

pub stays_same : (d e : Durable) → e ≡ d → SettledStays d e
stays_same d e is = stays_still d e (ap (λ (x : Durable). x.inbox) is) (ap (λ (x : Durable). x.refused) is)

stays_change : (d e : Durable) → Change d e → SettledStays d e
stays_change d e (Still inbox refused) = stays_still d e inbox refused
stays_change d e (Flags f flags inbox refused) =
    record { received = subst (InboxStays d.inbox) (sym inbox) (inbox_flags f flags d.inbox); refused = ([], refused ∙ sym (append-nil d.refused)) }
stays_change d e (Receives r inbox refused) =
    record { received = subst (InboxStays d.inbox) (sym inbox) (inbox_push d.inbox r); refused = ([], refused ∙ sym (append-nil d.refused)) }
stays_change d e (Refuses r inbox refused) =
    record { received = subst (InboxStays d.inbox) (sym inbox) (inbox_self d.inbox); refused = (r ∷ [], refused) }

pub stays_on : (a b c : Durable) → SettledStays a b → SettledStays b c → SettledStays a c
stays_on a b c x y =
    record { received = inbox_then a.inbox b.inbox c.inbox x.received y.received; refused = refused_then a.refused b.refused c.refused x.refused y.refused }

-- A step.

pub passes_stays : (seat : ℕ) (old : Node) (call : Call) (d : Durable) → Passes seat old call d → SettledStays old.state d
passes_stays seat old call d passes = stays_change old.state d (passes_change seat old call d passes)

pub step_stays : (seat : ℕ) (old : Node) (call : Call) (answer : Answer) (new : Node) → NodeStep seat old call answer new → SettledStays old.state new.state
step_stays seat old call (Refused fault) new r = stays_change old.state new.state (refused_change seat old call fault new r)
step_stays seat old call answer new m = stays_change old.state new.state (made_change seat old new call answer m.1)

others_stay : (n seat : ℕ) (old new : Node) → OtherSteps n seat old new → SettledStays old.state new.state
others_stay zero seat old new same = stays_same old.state new.state (ap (λ (x : Node). x.state) same)
others_stay (suc n) seat old new (mid, before, last) =
    stays_on old.state mid.state new.state (others_stay n seat old mid before) (step_stays last.other mid last.call last.answer new last.step)

-- What a desk tells.

pub self_stays : (knows : Knows) → KnownStays knows knows
self_stays (Tells n) = stays_same n.state n.state refl
self_stays (Counts_alone c) = tt

pub known_on : (a b c : Knows) → KnownStays a b → KnownStays b c → KnownStays a c
known_on (Tells a) (Tells b) (Tells c) first second = stays_on a.state b.state c.state first second
known_on (Tells a) (Tells b) (Counts_alone c) first second = absurd second
known_on (Tells a) (Counts_alone b) c first second = absurd first
known_on (Counts_alone a) b c first second = tt

pub known_step : (seat : ℕ) (old : Knows) (call : Call) (answer : Answer) (new : Knows) → KnownStep seat old call answer new → KnownStays old new
known_step seat (Tells old) call answer (Tells new) step = step_stays seat old call answer new step
known_step seat (Tells old) call answer (Counts_alone c) step = absurd step
known_step seat (Counts_alone c) call answer new step = tt

pub drift_stays : (alone : Bool) (seat : ℕ) (old new : Knows) → Drifts alone seat old new → KnownStays old new
drift_stays true seat old new same = subst (KnownStays old) (sym same) (self_stays old)
drift_stays false seat (Tells old) (Tells new) (n, steps) = others_stay n seat old new steps
drift_stays false seat (Tells old) (Counts_alone c) none = absurd none
drift_stays false seat (Counts_alone c) new rise = tt

-- A stop.

pub in_on : (a b : Knows) (d : Durable) → KnownStays a b → StaysIn b d → StaysIn a d
in_on (Tells a) (Tells b) d first second = stays_on a.state b.state d first second
in_on (Tells a) (Counts_alone b) d first second = absurd first
in_on (Counts_alone a) b d first second = tt

others_pass : (n seat : ℕ) (old new : Node) (steps : OtherSteps n seat old new) (d : Durable) → OthersPass n seat old new steps d → SettledStays old.state d
others_pass zero seat old new steps d passes = absurd passes
others_pass (suc n) seat old new (mid, before, last) d (inl passes) = others_pass n seat old mid before d passes
others_pass (suc n) seat old new (mid, before, last) d (inr passes) =
    stays_on old.state mid.state d (others_stay n seat old mid before) (passes_stays last.other mid last.call d passes)

pub drift_passes : (alone : Bool) (seat : ℕ) (old new : Knows) (drift : Drifts alone seat old new) (d : Durable) → DriftPasses alone seat old new drift d → StaysIn old d
drift_passes true seat old new same d passes = absurd passes
drift_passes false seat (Tells old) (Tells new) (n, steps) d passes = others_pass n seat old new steps d passes
drift_passes false seat (Tells old) (Counts_alone c) none d passes = absurd passes
drift_passes false seat (Counts_alone c) new rise d passes = tt

pub known_passes : (seat : ℕ) (knows : Knows) (call : Call) (d : Durable) → KnownPasses seat knows call d → StaysIn knows d
known_passes seat (Tells n) call d passes = passes_stays seat n call d passes
known_passes seat (Counts_alone c) call d passes = tt
