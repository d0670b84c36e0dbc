-- A node is sound in every life, and what it keeps is sound at every moment of it.
use Rattle.std.proofs.Common.{◌≡◌, ◌≢◌, ℕ, zero, suc, ◌≤◌, ◌==◌, List, [], ◌∷◌, ◌++◌, Option, Some, None, refl, sym, ap, ◌∙◌, subst, inl, inr, arith}
use Rattle.node_model.specs.Items.{Receipt, Mark}
use Rattle.node_model.specs.Lists.{Each}
use Rattle.node_model.specs.Durable.{Durable}
use Rattle.node_model.specs.Node.{Session, Node, Opening, blank, stopped, session_at, hold_in}
use Rattle.node_model.specs.Rows.{mark_any}
use Rattle.node_model.specs.Calls.{Call, Answer, Fault, Skip_call, Settled, Refused, Disk, Read, Full, No_memory, IsSkip, Works, Made, NotMade, NodeStep, Passes, Before_it, Marked, After_it}
use Rattle.node_model.specs.Lives.{Happening, Steps, Stops, Stops_inside, OpensWith, Happens, Lives, HappensPast, LivesPast}
use Rattle.node_model.specs.Receipts.{OnceEach, HasOnce, SettledStays}
use Rattle.node_model.specs.Sound.{Distinct, same_receipt, SoundQueue, SoundInbox, Sound, IsSound}
use Rattle.node_model.proofs.Lists.{none_some}
use Rattle.node_model.proofs.Distinct.{each_none}
use Rattle.node_model.proofs.StoreChanges.{both_each}
use Rattle.node_model.proofs.Seats.{StoreFits, NodeFits, fits, sound}
use Rattle.node_model.proofs.Leaving.{store_marked}
use Rattle.node_model.proofs.ReceiptsStay.{stays_same, stays_on, passes_stays, step_stays}
use Rattle.node_model.proofs.StepSound.{made-fits, unmade-fits, step_sound}

-- what a store keeps is sound, broken or not
pub record SoundState (d : Durable) : Type 0 where
  pub queue : SoundQueue d.queue
  pub inbox : SoundInbox d
  pub marks : Distinct (λ (m q : Mark). m.number == q.number) d.marks
  pub receipts : Distinct (λ (r q : Receipt). r.number == q.number) d.inbox
  pub apart : Each (λ (m : Mark). Each (λ (r : Receipt). m.number ≢ r.number) d.inbox) d.marks
  pub some_marks : Each (λ (m : Mark). 1 ≤ m.number) d.marks
  pub some_receipts : Each (λ (r : Receipt). 1 ≤ r.number) d.inbox

each_first : {A : Type 0} (P Q : A → Type 0) (xs : List A) → Each (λ x. P x × Q x) xs → Each P xs
each_first P Q [] a = tt
each_first P Q (x ∷ xs) a = (a.0.0, each_first P Q xs a.1)

pub state_sound : (d : Durable) (staged drawn : ℕ) → StoreFits d staged drawn → SoundState d
state_sound d staged drawn f =
    record {
      queue = f.queue;
      inbox = f.inbox;
      marks = f.marks;
      receipts = f.receipts;
      apart = f.apart;
      some_marks = each_first (λ (m : Mark). 1 ≤ m.number) (λ (m : Mark). m.number ≤ drawn) d.marks f.marks_drawn;
      some_receipts = each_first (λ (r : Receipt). 1 ≤ r.number) (λ (r : Receipt). r.number ≤ drawn) d.inbox f.receipts_drawn;
    }

-- A step.

passes_sound : (seat : ℕ) (old : Node) (call : Call) (d : Durable) → Passes seat old call d → SoundState old.state → IsSound old → SoundState d
passes_sound seat old call d (Before_it is) kept s = subst SoundState (sym is) kept
passes_sound seat old call d (Marked unbroken first is) kept s = subst SoundState (sym is) (marked (session_at old seat) refl)
  where
    f : NodeFits old
    f = fits old (s unbroken)

    marked : (o : Option Session) → session_at old seat ≡ o → SoundState (mark_any (hold_in o) old.state)
    marked None is = kept
    marked (Some t) is =
        state_sound _ old.staged old.drawn (store_marked old.settings t.hold old.state old.staged old.drawn t.first t.hold_places (f.seats.each seat t is).hold f.store)
passes_sound seat old call d (After_it unbroken answer new made is) kept s =
    subst SoundState (sym is) (state_sound new.state new.staged new.drawn (made-fits seat old new call answer made (fits old (s unbroken))).store)

fits_state : (n : Node) → NodeFits n → SoundState n.state
fits_state n f = state_sound n.state n.staged n.drawn f.store

not_made_kept : (seat : ℕ) (old : Node) (call : Call) (fault : Fault) (new : Node) → NotMade seat old call fault new → SoundState old.state → IsSound old → SoundState new.state
not_made_kept seat old call (Disk count) new (may, inl same) kept s = subst (λ (n : Node). SoundState n.state) (sym same.1) kept
not_made_kept seat old call (Disk count) new (may, inr b) kept s = passes_sound seat old call new.state b.passes kept s
not_made_kept seat old call (Read count) new r kept s = subst (λ (n : Node). SoundState n.state) (sym r.3) kept
not_made_kept seat old call Full new r kept s = fits_state new (unmade-fits seat _ old call new r.2 (fits old (s r.0)))
not_made_kept seat old call No_memory new r kept s = fits_state new (unmade-fits seat _ old call new r.2 (fits old (s r.0)))

skip_kept : (seat : ℕ) (old : Node) (call : Call) (answer : Answer) (new : Node) → IsSkip call → Made seat old call answer new → SoundState old.state → SoundState new.state
skip_kept seat old (Skip_call number) Settled new skips m kept = subst (λ (n : Node). SoundState n.state) (sym m.after) kept
skip_kept seat old (Skip_call number) answer new skips m kept = absurd m
skip_kept seat old call answer new skips m kept = absurd skips

made_kept : (seat : ℕ) (old : Node) (call : Call) (answer : Answer) (new : Node) → Works old call → Made seat old call answer new → SoundState old.state → IsSound old → SoundState new.state
made_kept seat old call answer new (inl unbroken) m kept s = fits_state new (made-fits seat old new call answer m (fits old (s unbroken)))
made_kept seat old call answer new (inr skips) m kept s = skip_kept seat old call answer new skips m kept

step_kept : (seat : ℕ) (old : Node) (call : Call) (answer : Answer) (new : Node) → NodeStep seat old call answer new → SoundState old.state → IsSound old → SoundState new.state
step_kept seat old call (Refused fault) new r kept s = not_made_kept seat old call fault new r kept s
step_kept seat old call answer new m kept s = made_kept seat old call answer new m.0 m.1 kept s

-- A stop.

no_session : (o : Opening) (n : Node) (k : ℕ) → session_at (stopped o n) k ≡ None
no_session o n zero = refl
no_session o n (suc k) = refl

opened_fits : (n : Node) (o : Opening) → SoundState n.state → OpensWith n.state o → NodeFits (stopped o n)
opened_fits n o kept opens =
    record {
      store = record {
        queue = kept.queue;
        inbox = kept.inbox;
        marks = kept.marks;
        receipts = kept.receipts;
        apart = kept.apart;
        marks_drawn = both_each (λ (m : Mark). 1 ≤ m.number) (λ (m : Mark). m.number ≤ o.drawn) (λ (m : Mark). (1 ≤ m.number) × (m.number ≤ o.drawn)) (λ m a b. (a, b)) n.state.marks kept.some_marks opens.marks;
        receipts_drawn = both_each (λ (r : Receipt). 1 ≤ r.number) (λ (r : Receipt). r.number ≤ o.drawn) (λ (r : Receipt). (1 ≤ r.number) × (r.number ≤ o.drawn)) (λ r a b. (a, b)) n.state.inbox kept.some_receipts opens.receipts;
        queue_staged = opens.staged;
        drawn_few = opens.few;
      };
      seats = record { each = λ k s at. none_some (sym (no_session o n k) ∙ at); pairs = λ j k s t apart a b. none_some (sym (no_session o n j) ∙ a) };
      all = omega arith;
      room = let r = opens.records in omega (arith, r);
    }

pub blank_sound : Sound blank
blank_sound =
    sound blank
    (record {
      store = record {
        queue = record { entries = tt; numbers = tt; sizes = tt };
        inbox = record { once = tt; not_refused = tt; refused_once = tt; marks_once = tt; marks_new = tt; mark_sizes = tt; sizes = tt };
        marks = tt;
        receipts = tt;
        apart = tt;
        marks_drawn = tt;
        receipts_drawn = tt;
        queue_staged = tt;
        drawn_few = omega arith;
      };
      seats = record { each = λ k s at. none_some (sym (nobody k) ∙ at); pairs = λ j k s t apart a b. none_some (sym (nobody j) ∙ a) };
      all = omega arith;
      room = omega arith;
    })
  where
    nobody : (k : ℕ) → session_at blank k ≡ None
    nobody zero = refl
    nobody (suc k) = refl

-- A life.

-- the invariant
pub record Keeps (n : Node) : Type 0 where
  pub kept : SoundState n.state
  pub is_sound : IsSound n

pub sound_keeps : (n : Node) → Sound n → Keeps n
sound_keeps n s = record { kept = fits_state n (fits n s); is_sound = λ unbroken. s }

opened_keeps : (n : Node) (o : Opening) → SoundState n.state → OpensWith n.state o → Keeps (stopped o n)
opened_keeps n o kept opens = record { kept = kept; is_sound = λ unbroken. sound (stopped o n) (opened_fits n o kept opens) }

happens_keeps : (old : Node) (e : Happening) (new : Node) → Happens old e new → Keeps old → Keeps new
happens_keeps old (Steps seat call answer) new step k =
    record { kept = step_kept seat old call answer new step k.kept k.is_sound; is_sound = step_sound seat old call answer new step k.is_sound }
happens_keeps old (Stops opening) new (opens, is) k = subst Keeps (sym is) (opened_keeps old opening k.kept opens)
happens_keeps old (Stops_inside seat call left opening) new (passes, opens, is) k =
    subst Keeps (sym is) (opened_keeps (record old { state = left }) opening (passes_sound seat old call left passes k.kept k.is_sound) opens)

pub life_keeps : (old : Node) (es : List Happening) (new : Node) → Lives old es new → Keeps old → Keeps new
life_keeps old [] new same k = subst Keeps (sym same) k
life_keeps old (e ∷ es) new (mid, happens, rest) k = life_keeps mid es new rest (happens_keeps old e mid happens k)

pub life_sound : (old : Node) (es : List Happening) (new : Node) → Lives old es new → Sound old → IsSound new
life_sound old es new life s = (life_keeps old es new life (sound_keeps old s)).is_sound

pub lives_join : (a : Node) (es : List Happening) (b : Node) (fs : List Happening) (c : Node) → Lives a es b → Lives b fs c → Lives a (es ++ fs) c
lives_join a [] b fs c same second = subst (λ (n : Node). Lives n fs c) same second
lives_join a (e ∷ es) b fs c (mid, happens, rest) second = (mid, happens, lives_join mid es b fs c rest second)

-- What is kept is sound at each moment.

past_sound : (old : Node) (e : Happening) (d : Durable) → HappensPast old e d → Keeps old → SoundState d
past_sound old (Steps seat call answer) d passes k = passes_sound seat old call d passes k.kept k.is_sound
past_sound old (Stops opening) d is k = subst SoundState (sym is) k.kept
past_sound old (Stops_inside seat call left opening) d passes k = passes_sound seat old call d passes k.kept k.is_sound

pub life_past_sound : (old : Node) (es : List Happening) (new : Node) (life : Lives old es new) (d : Durable) → LivesPast old es new life d → Keeps old → SoundState d
life_past_sound old [] new same d is k = subst SoundState (ap (λ (n : Node). n.state) (sym same) ∙ sym is) k.kept
life_past_sound old (e ∷ es) new (mid, happens, rest) d (inl past) k = past_sound old e d past k
life_past_sound old (e ∷ es) new (mid, happens, rest) d (inr past) k = life_past_sound mid es new rest d past (happens_keeps old e mid happens k)

-- One receipt.

once_distinct : (rs : List Receipt) → Distinct same_receipt rs → OnceEach rs
once_distinct [] d = tt
once_distinct (r ∷ rs) d = (each_none (same_receipt r) rs d.0, once_distinct rs d.1)

pub life_once : (old : Node) (es : List Happening) (new : Node) → Lives old es new → Sound old → HasOnce new.state
life_once old es new life s = once_distinct new.state.inbox (life_keeps old es new life (sound_keeps old s)).kept.inbox.once

pub life_past_once : (old : Node) (es : List Happening) (new : Node) (life : Lives old es new) (d : Durable) → LivesPast old es new life d → Sound old → HasOnce d
life_past_once old es new life d past s = once_distinct d.inbox (life_past_sound old es new life d past (sound_keeps old s)).inbox.once

-- What is settled stays so.

happens_stays : (old : Node) (e : Happening) (new : Node) → Happens old e new → SettledStays old.state new.state
happens_stays old (Steps seat call answer) new step = step_stays seat old call answer new step
happens_stays old (Stops opening) new (opens, is) = stays_same old.state new.state (ap (λ (n : Node). n.state) is)
happens_stays old (Stops_inside seat call left opening) new (passes, opens, is) =
    stays_on old.state left new.state (passes_stays seat old call left passes) (stays_same left new.state (ap (λ (n : Node). n.state) is))

pub life_stays : (old : Node) (es : List Happening) (new : Node) → Lives old es new → SettledStays old.state new.state
life_stays old [] new same = stays_same old.state new.state (ap (λ (n : Node). n.state) same)
life_stays old (e ∷ es) new (mid, happens, rest) =
    stays_on old.state mid.state new.state (happens_stays old e mid happens) (life_stays mid es new rest)

past_stays : (old : Node) (e : Happening) (d : Durable) → HappensPast old e d → SettledStays old.state d
past_stays old (Steps seat call answer) d passes = passes_stays seat old call d passes
past_stays old (Stops opening) d is = stays_same old.state d is
past_stays old (Stops_inside seat call left opening) d passes = passes_stays seat old call d passes

pub life_past_stays : (old : Node) (es : List Happening) (new : Node) (life : Lives old es new) (d : Durable) → LivesPast old es new life d → SettledStays old.state d
life_past_stays old [] new same d is = stays_same old.state d (is ∙ ap (λ (n : Node). n.state) same)
life_past_stays old (e ∷ es) new (mid, happens, rest) d (inl past) = past_stays old e d past
life_past_stays old (e ∷ es) new (mid, happens, rest) d (inr past) =
    stays_on old.state mid.state d (happens_stays old e mid happens) (life_past_stays mid es new rest d past)
