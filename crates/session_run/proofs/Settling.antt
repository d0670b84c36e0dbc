-- Along a session each entry that is settled was offered, and the peer has acknowledged its file.
use Rattle.std.proofs.Common.{◌≡◌, ◌∙◌, ℕ, Bool, List, [], ◌∷◌, ◌++◌, Option, Some, None, Result, Ok, Err, refl, sym, ap, subst, append_assoc}
use Rattle.std.proofs.lemmas.List.{append-nil}
use Rattle.ftn_addr.specs.Address.{Address}
use Rattle.ftn_addr.specs.Frames.{FrameText, Command, Data}
use Rattle.binkp_args.specs.declared.fault.ArgFault.{ArgFault}
use Rattle.binkp_args.specs.Command.{CommandText, Got, command_of}
use Rattle.node_model.specs.Lists.{Each}
use Rattle.node_model.specs.Calls.{Got_call, Offer_call, Offered, Settled, Event, one, DeskState, Turned, turned, asked_of, Turns, Knock_call, Leave_call}
use Rattle.node_model.specs.Talk.{Sending}
use Rattle.node_model.proofs.Rans.{joined}
use Rattle.binkp_link.specs.Lines.{LineState}
use Rattle.session_core.specs.Stages.{Setting}
use Rattle.session_core.specs.Sessions.{frame_number}
use Rattle.session_run.specs.Machine.{World, Step, greets, takes_frame, makes_turn, passes_turn, writes, passes_write, reads, passes_read, gives_up, leaves, drains, closes, Reach, here, next, Throughout, opening}
use Rattle.session_run.specs.Settled.{Asked, Heard, MaySettle, SettledBy}
use Rattle.session_run.proofs.AskedCalls.{asked_by, asked_on}
use Rattle.session_run.proofs.Causes.{read_as, said_by}
use Rattle.session_run.proofs.Settings.{reach_setting}
use Rattle.session_run.proofs.SentFiles.{sending_at, SameFile, Few, GotHere, TurnSends, Same_one, Offered_one, OfferedHere, no_got, row_sends, knock_unsent, turn_settles}

-- the file under way was offered in this session
abbrev pub OfferedAt : (alone : Bool) (desk : DeskState) (es : List Turned) → Option Sending → Type 0
OfferedAt alone desk es None = Unit {0}
OfferedAt alone desk es (Some s) = Asked alone desk es Offer_call (Offered s.number s.key)

offered_on : (alone : Bool) (desk : DeskState) (es more : List Turned) (o : Option Sending) → OfferedAt alone desk es o → OfferedAt alone desk (es ++ more) o
offered_on alone desk es more None a = tt
offered_on alone desk es more (Some s) a = asked_on alone desk es more _ _ a

offered_same : (alone : Bool) (desk : DeskState) (es : List Turned) (o p : Option Sending) → SameFile o p → OfferedAt alone desk es o → OfferedAt alone desk es p
offered_same alone desk es o None same a = tt
offered_same alone desk es None (Some s) same a = absurd same
offered_same alone desk es (Some r) (Some s) same a =
    subst (λ k. Asked alone desk es Offer_call (Offered s.number k)) (sym same.1) (subst (λ (n : ℕ). Asked alone desk es Offer_call (Offered n r.key)) (sym same.0) a)

-- more frames behind
heard_on : (home : Address) (frames more : List FrameText) (said : CommandText) → Heard home frames said → Heard home (frames ++ more) said
heard_on home frames more said h =
    record { earlier = h.earlier; number = h.number; args = h.args; later = h.later ++ more; is = ap (λ (x : List FrameText). x ++ more) h.is ∙ append_assoc (h.earlier ++ Command h.number h.args ∷ []) h.later more; says = h.says }

-- the last frame was read so
heard_last : (home : Address) (old : List FrameText) (frame : FrameText) (said : CommandText) → said_by home frame ≡ Some said → Heard home (old ++ frame ∷ []) said
heard_last home old (Command number args) said e = go (command_of home number args) refl e
  where
    go : (read : Result CommandText ArgFault) → command_of home number args ≡ read → read_as read ≡ Some said → Heard home (old ++ Command number args ∷ []) said
    go (Ok command) is f = let same : command ≡ said = cc in record { earlier = old; number = number; args = args; later = []; is = sym (append-nil (old ++ Command number args ∷ [])); says = is ∙ ap Ok same }
    go (Err fault) is f = absurd (let clash : None ≡ Some said = f in cc)
heard_last home old (Data bytes) said e = absurd (let clash : None ≡ Some said = e in cc)

settle_on : (alone : Bool) (desk : DeskState) (es more : List Turned) (home : Address) (frames others : List FrameText) (e : Turned) → MaySettle alone desk es home frames e → MaySettle alone desk (es ++ more) home (frames ++ others) e
settle_on alone desk es more home frames others e m = λ number is.
    let x = m number is in
    record { key = x.key; offered = asked_on alone desk es more _ _ x.offered; heard = heard_on home frames others _ x.heard }

each_settles : (alone : Bool) (desk : DeskState) (es more : List Turned) (home : Address) (frames others : List FrameText) (xs : List Turned) → Each (MaySettle alone desk es home frames) xs → Each (MaySettle alone desk (es ++ more) home (frames ++ others)) xs
each_settles alone desk es more home frames others [] a = tt
each_settles alone desk es more home frames others (x ∷ xs) a = (settle_on alone desk es more home frames others x a.0, each_settles alone desk es more home frames others xs a.1)

each_both : {A : Type 0} (P : A → Type 0) (xs ys : List A) → Each P xs → Each P ys → Each P (xs ++ ys)
each_both P [] ys a b = b
each_both P (x ∷ xs) ys a b = (a.0, each_both P xs ys a.1 b)

-- of at most one call, each is the one
few_settle : (P : Turned → Type 0) (es : List Turned) → Few (asked_of es) → ((e : Turned) → asked_of es ≡ e.asked ∷ [] → P e) → Each P es
few_settle P [] few f = tt
few_settle P (e ∷ []) few f = (f e refl, tt)
few_settle P (e ∷ g ∷ es) few f = absurd few

pub record Settling (alone : Bool) (desk : DeskState) (w : World) : Type 0 where
  pub leads : Turns alone desk w.events w.desk
  pub each : Each (MaySettle alone desk w.events w.setting.home w.frames) w.events
  pub offered : OfferedAt alone desk w.events (sending_at w.stage)

-- calls that settle nothing, and no frame more
quiet_each : (alone : Bool) (desk : DeskState) (old es : List Turned) (home : Address) (frames : List FrameText) → Few (asked_of es) → ((number : ℕ) → asked_of es ≡ one (Got_call number) Settled → ⊥) → Each (MaySettle alone desk old home frames) old → Each (MaySettle alone desk (old ++ es) home frames) (old ++ es)
quiet_each alone desk old es home frames few got a =
    subst (λ (fs : List FrameText). Each (MaySettle alone desk (old ++ es) home fs) (old ++ es)) (append-nil frames)
    (each_both _ old es (each_settles alone desk old es home frames [] old a)
    (few_settle _ es few (λ e is. λ number asks. absurd (got number (is ∙ ap (λ (x : Event). x ∷ []) asks)))))

step_settling : (alone : Bool) (desk : DeskState) (w v : World) → Settling alone desk w → Step alone w v → Settling alone desk v
step_settling alone desk w v f (greets s) =
    let e : Turned = turned (Knock_call s.role) s.answer s.rows_before s.rows_after in
    subst (Settling alone desk) (sym s.is) (record {
      leads = (joined alone desk w.events w.desk (e ∷ []) s.desk f.leads (s.desk, s.call, refl)).chain;
      each = quiet_each alone desk w.events (e ∷ []) w.setting.home w.frames tt (no_got _ (Knock_call s.role) s.answer (λ number h. cc) refl) f.each;
      offered = offered_same alone desk (w.events ++ e ∷ []) None (sending_at s.reply.stage) (knock_unsent w.setting s.answer s.reply s.follows) tt;
    })
step_settling alone desk w v f (takes_frame s) =
    let r = row_sends w.setting (frame_number (w.frames ++ s.frame ∷ [])) w.stage s.frame (asked_of s.events) s.reply s.row in
    subst (Settling alone desk) (sym s.is) (record {
      leads = (joined alone desk w.events w.desk s.events s.desk f.leads s.chain).chain;
      each = each_both _ w.events s.events (each_settles alone desk w.events s.events w.setting.home w.frames (s.frame ∷ []) w.events f.each)
          (few_settle _ s.events r.few (λ e is. λ number asks. settled_here alone desk w.events s.events w.setting.home w.frames s.frame (sending_at w.stage) number f.offered (r.got number (is ∙ ap (λ (x : Event). x ∷ []) asks))));
      offered = offered_same alone desk (w.events ++ s.events) (sending_at w.stage) (sending_at s.reply.stage) r.same (offered_on alone desk w.events s.events (sending_at w.stage) f.offered);
    })
  where
    settled_here : (alone : Bool) (desk : DeskState) (es more : List Turned) (home : Address) (frames : List FrameText) (frame : FrameText) (before : Option Sending) (number : ℕ) → OfferedAt alone desk es before → GotHere (said_by home frame) before number → SettledBy alone desk (es ++ more) home (frames ++ frame ∷ []) number
    settled_here alone desk es more home frames frame before number offered g =
        let o : Asked alone desk es Offer_call (Offered g.file.number g.file.key) = subst (OfferedAt alone desk es) g.is offered in
        record {
          key = g.file.key;
          offered = subst (λ (n : ℕ). Asked alone desk (es ++ more) Offer_call (Offered n g.file.key)) g.numbered (asked_on alone desk es more _ _ o);
          heard = heard_last home frames frame (Got g.file.key) g.says;
        }
step_settling alone desk w v f (makes_turn s) =
    let r = turn_settles w.setting.block w.stage (asked_of s.events) s.turn s.row in
    subst (Settling alone desk) (sym s.is) (record {
      leads = (joined alone desk w.events w.desk s.events s.desk f.leads s.chain).chain;
      each = quiet_each alone desk w.events s.events w.setting.home w.frames r.few r.got f.each;
      offered = sends_on (sending_at w.stage) (sending_at s.turn.stage) r.sends f.offered;
    })
  where
    offered_here : (o : Option Sending) → OfferedHere (asked_of s.events) o → OfferedAt alone desk (w.events ++ s.events) o
    offered_here None h = tt
    offered_here (Some x) h = asked_by alone desk w.desk s.desk w.events s.events Offer_call (Offered x.number x.key) tt f.leads s.chain h

    sends_on : (o p : Option Sending) → TurnSends o (asked_of s.events) p → OfferedAt alone desk w.events o → OfferedAt alone desk (w.events ++ s.events) p
    sends_on o p (Same_one same) a = offered_same alone desk (w.events ++ s.events) o p same (offered_on alone desk w.events s.events o a)
    sends_on o p (Offered_one h) a = offered_here p h
step_settling alone desk w v f (leaves s) =
    let e : Turned = turned Leave_call s.answer s.rows_before s.rows_after in
    subst (Settling alone desk) (sym s.is) (record {
      leads = (joined alone desk w.events w.desk (e ∷ []) s.desk f.leads (s.desk, s.call, refl)).chain;
      each = quiet_each alone desk w.events (e ∷ []) w.setting.home w.frames tt (no_got _ Leave_call s.answer (λ number h. cc) refl) f.each;
      offered = offered_on alone desk w.events (e ∷ []) (sending_at w.stage) f.offered;
    })
step_settling alone desk w v f (passes_turn s) = subst (Settling alone desk) (sym s.is) (record { leads = f.leads; each = f.each; offered = f.offered })
step_settling alone desk w v f (writes s) = subst (Settling alone desk) (sym s.is) (record { leads = f.leads; each = f.each; offered = f.offered })
step_settling alone desk w v f (passes_write s) = subst (Settling alone desk) (sym s.is) (record { leads = f.leads; each = f.each; offered = f.offered })
step_settling alone desk w v f (reads s) = subst (Settling alone desk) (sym s.is) (record { leads = f.leads; each = f.each; offered = f.offered })
step_settling alone desk w v f (passes_read s) = subst (Settling alone desk) (sym s.is) (record { leads = f.leads; each = f.each; offered = f.offered })
step_settling alone desk w v f (gives_up s) = subst (Settling alone desk) (sym s.is) (record { leads = f.leads; each = f.each; offered = f.offered })
step_settling alone desk w v f (drains s) = subst (Settling alone desk) (sym s.is) (record { leads = f.leads; each = f.each; offered = f.offered })
step_settling alone desk w v f (closes s) = subst (Settling alone desk) (sym s.is) (record { leads = f.leads; each = f.each; offered = f.offered })

run_settling : (alone : Bool) (desk : DeskState) (w v : World) → Settling alone desk w → Reach alone w v → Settling alone desk v
run_settling alone desk w v f here = f
run_settling alone desk w v f (next {u} r s) = step_settling alone desk u v (run_settling alone desk w u f r) s

pub settling_open : (alone : Bool) (s : Setting) (line : LineState) (desk : DeskState) → Settling alone desk (opening s line desk)
settling_open alone s line desk = record { leads = refl; each = tt; offered = tt }

-- at each moment
pub all_settled : (alone : Bool) (desk : DeskState) (setting : Setting) (w v : World) (r : Reach alone w v) → w.setting ≡ setting → Settling alone desk w → Throughout alone (λ (x : World). Each (MaySettle alone desk x.events setting.home x.frames) x.events) w v r
all_settled alone desk setting w v here is f = subst (λ (s : Setting). Each (MaySettle alone desk w.events s.home w.frames) w.events) is f.each
all_settled alone desk setting w v (next {u} r s) is f =
    let g = step_settling alone desk u v (run_settling alone desk w u f r) s in
    let same : v.setting ≡ setting = reach_setting alone w v (next r s) ∙ is in
    (all_settled alone desk setting w u r is f, subst (λ (x : Setting). Each (MaySettle alone desk v.events x.home v.frames) v.events) same g.each)
