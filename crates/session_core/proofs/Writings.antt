-- What was written of what a row says.
use Rattle.std.proofs.Common.{◌≡◌, ◌⊎◌, ◌<◌, ℕ, List, [], ◌∷◌, ◌++◌, codes, ◌∙◌, length, arith, append_assoc, ap, refl, sym, inl, inr}
use Rattle.std.proofs.lemmas.List.{append-nil}
use Rattle.binkp_args.specs.Command.{CommandText, Adr, Error, Bsy}
use Rattle.session_recv.specs.Replies.{command_bytes}
use Rattle.mail_conf.specs.Conf.{ConfText}
use Rattle.session_auth.specs.Greeting.{announced, greeting, offer_line, setting_line, time_line, version}
use Rattle.session_auth.specs.Says.{said_bytes as login_bytes}
use Rattle.session_auth.specs.Sides.{Side}
use Rattle.session_core.specs.declared.ending.Cause.{Cause}
use Rattle.session_core.specs.declared.ending.Cause.TheVariants as C
use Rattle.session_core.specs.Ends.{End}
use Rattle.session_core.specs.Ends as E
use Rattle.session_core.specs.Givings.{Gave}
use Rattle.session_core.specs.Givings as G
use Rattle.session_core.specs.Takings.{Took}
use Rattle.session_core.specs.Takings as T
use Rattle.session_core.specs.Says.{broken_frame, offset_again, not_called, disk_fault, ledger_full, too_many, cause_bytes}
use Rattle.session_core.specs.Sessions.{Said, Gives}
use Rattle.session_core.specs.Replies.{Writes, WritesTurn, IfMore, IfOn}

-- all of it
pub wrote_all : (old new output : List ℕ) (goal : Took) → new ≡ old ++ output → Writes old new output goal goal
wrote_all old new output goal e = record { written = output; said = inl (refl, refl); grew = e }

-- a front of it, and then no memory was left
pub wrote_front : (old new front rest : List ℕ) (goal : Took) → 0 < length rest → new ≡ old ++ front → Writes old new (front ++ rest) goal (T.Ended E.NoMemory)
wrote_front old new front rest goal some e = record { written = front; said = inr (refl, (rest, some, refl)); grew = e }

-- nothing of it
pub wrote_none : (old output : List ℕ) (goal : Took) → 0 < length output → Writes old old output goal (T.Ended E.NoMemory)
wrote_none old output goal some = record { written = []; said = inr (refl, (output, some, refl)); grew = sym (append-nil old) }

-- something, and then what a row says
pub wrote_then : (old mid new first output : List ℕ) (goal took : Took) → mid ≡ old ++ first → Writes mid new output goal took → Writes old new (first ++ output) goal took
wrote_then old mid new first output goal took e w = record {
  written = first ++ w.written;
  said = more w.said;
  grew = w.grew ∙ ap (λ (x : List ℕ). x ++ w.written) e ∙ append_assoc old first w.written;
}
  where
    more : Said output goal w.written took → Said (first ++ output) goal (first ++ w.written) took
    more (inl did) = inl (did.0, ap (λ (x : List ℕ). first ++ x) did.1)
    more (inr did) = inr (did.0, (did.1.0, did.1.1, ap (λ (x : List ℕ). first ++ x) did.1.2 ∙ sym (append_assoc first w.written did.1.0)))

-- what holds of every session holds of one that goes on
pub if_more : (took : Took) (P : Type 0) → P → IfMore took P
if_more T.More P p = p
if_more (T.Ended end) P p = tt

-- nothing of it, where the output is as it was
pub no_more : (old new output : List ℕ) (goal : Took) → 0 < length output → new ≡ old → Writes old new output goal (T.Ended E.NoMemory)
no_more old new output goal some e = record { written = []; said = inr (refl, (output, some, refl)); grew = e ∙ sym (append-nil old) }

-- a command's frame has its header at least
pub some_command : (command : CommandText) → 0 < length (command_bytes command)
some_command command = omega arith

pub some_broken : 0 < length broken_frame
unfolding broken_frame
some_broken = some_command (Error (codes "broken frame"))

pub some_again : 0 < length offset_again
unfolding offset_again
some_again = some_command (Error (codes "offset again"))

pub some_not_called : 0 < length not_called
unfolding not_called
some_not_called = some_command (Error (codes "not the called address"))

pub some_disk : 0 < length disk_fault
unfolding disk_fault
some_disk = some_command (Error (codes "disk fault"))

pub some_full : 0 < length ledger_full
unfolding ledger_full
some_full = some_command (Error (codes "ledger full"))

pub some_many : 0 < length too_many
unfolding too_many
some_many = some_command (Bsy (codes "too many servers"))

pub some_cause : (cause : Cause) → 0 < length (cause_bytes cause)
some_cause C.Late = some_again
some_cause (C.Arg fault) = some_broken
some_cause C.OutOfTurn = some_broken
some_cause C.NotCalled = some_not_called
some_cause C.TooMuch = some_broken

pub some_first : (xs ys : List ℕ) → 0 < length xs → 0 < length (xs ++ ys)
some_first [] ys h = absurd (omega (arith, h))
some_first (x ∷ xs) ys h = omega arith

-- what stands behind other commands is said too
some_behind : (said more : List CommandText) → 0 < length (login_bytes more) → 0 < length (login_bytes (said ++ more))
some_behind [] more h = h
some_behind (command ∷ said) more h = some_first (command_bytes command) (login_bytes (said ++ more)) (some_command command)

some_last : (command : CommandText) (more : List CommandText) → 0 < length (login_bytes (command ∷ more))
some_last command more = some_first (command_bytes command) (login_bytes more) (some_command command)

-- a greeting ends with the addresses
pub some_greeting : (side : Side) (conf : ConfText) (challenge : List ℕ) (now : ℕ) → 0 < length (login_bytes (greeting side conf challenge now))
some_greeting side conf challenge now =
    some_behind (offer_line side challenge ++ setting_line (codes "SYS ") conf.sysname ++ setting_line (codes "ZYZ ") conf.sysop ++ setting_line (codes "LOC ") conf.location ++ setting_line (codes "NDL ") conf.nodeinfo ++ time_line now) (version ∷ Adr (announced conf.addresses) ∷ []) (some_last version (Adr (announced conf.addresses) ∷ []))

-- The same of an own turn.

pub if_on : (gave : Gave) (P : Type 0) → P → IfOn gave P
if_on G.Sent P p = p
if_on G.Waits P p = p
if_on (G.Ended end) P p = tt

pub gave_all : (old new output : List ℕ) (goal : Gave) → new ≡ old ++ output → WritesTurn old new output goal goal
gave_all old new output goal e = record { written = output; said = inl (refl, refl); grew = e }

pub gave_nothing : (out : List ℕ) (goal : Gave) → WritesTurn out out [] goal goal
gave_nothing out goal = gave_all out out [] goal (sym (append-nil out))

pub gave_none : (old new output : List ℕ) (goal : Gave) → 0 < length output → new ≡ old → WritesTurn old new output goal (G.Ended E.NoMemory)
gave_none old new output goal some e = record { written = []; said = inr (refl, (output, some, refl)); grew = e ∙ sym (append-nil old) }

-- the end of a session is that of its own turn
same_end : (a b : End) → T.Ended a ≡ T.Ended b → G.Ended a ≡ G.Ended b
same_end a b e = cc

pub as_turn : (old new output : List ℕ) (goal end : End) → Writes old new output (T.Ended goal) (T.Ended end) → WritesTurn old new output (G.Ended goal) (G.Ended end)
as_turn old new output goal end w = record { written = w.written; said = over w.said; grew = w.grew }
  where
    over : Said output (T.Ended goal) w.written (T.Ended end) → Gives output (G.Ended goal) w.written (G.Ended end)
    over (inl did) = inl (same_end end goal did.0, did.1)
    over (inr did) = inr (same_end end E.NoMemory did.0, did.1)

-- nothing was to be said, and no memory was left
pub gave_up : (mid out' : List ℕ) (took : Took) → Writes mid out' [] (T.Ended E.NoMemory) took → (took ≡ T.Ended E.NoMemory) × (out' ≡ mid)
gave_up mid out' took w = go w.said
  where
    nothing : (xs ys : List ℕ) → [] ≡ xs ++ ys → xs ≡ []
    nothing [] ys e = refl
    nothing (x ∷ xs) ys e = absurd (let clash : [] ≡ x ∷ (xs ++ ys) = e in cc)

    go : ((took ≡ T.Ended E.NoMemory) × (w.written ≡ [])) ⊎ ((took ≡ T.Ended E.NoMemory) × ((rest : List ℕ) × (0 < length rest) × ([] ≡ w.written ++ rest))) → (took ≡ T.Ended E.NoMemory) × (out' ≡ mid)
    go (inl d) = (d.0, w.grew ∙ ap (λ (x : List ℕ). mid ++ x) d.1 ∙ append-nil mid)
    go (inr d) = (d.0, w.grew ∙ ap (λ (x : List ℕ). mid ++ x) (nothing w.written d.1.0 d.1.2) ∙ append-nil mid)
