-- Along a session each M_GOT that is written names a file that its node has.
use Rattle.std.proofs.Common.{◌≡◌, ◌⊎◌, ◌≤◌, ◌∙◌, ℕ, Bool, true, false, Some, List, [], ◌∷◌, ◌++◌, Option, None, refl, sym, ap, subst, inl, inr, append_assoc}
use Rattle.std.specs.Prelude.{nat_le, if◌then◌else◌}
use Rattle.std.specs.List.{flat_map}
use Rattle.std.proofs.lemmas.List.{append-nil}
use Rattle.std.proofs.lemmas.List.Concat.{flat_map-append}
use Rattle.ftn_addr.specs.Frames.{FrameText, Command, Data, frame_bytes}
use Rattle.ftn_addr.specs.Key.{Key}
use Rattle.ftn_addr.specs.declared.limits.TheConstants.{MAX_FRAME_DATA}
use Rattle.node_model.specs.Lists.{Each}
use Rattle.node_model.specs.Calls.{Knows, Tells, Counts_alone, DeskState, Turned, turned, asked_of, one, Turns, Knock_call, Offer_call, Nothing, Leave_call}
use Rattle.node_model.specs.Desks.{DeskPart, PartTold}
use Rattle.node_model.specs.Node.{Hold, session_at, hold_in}
use Rattle.node_model.specs.Talk.{part_of}
use Rattle.node_model.proofs.Rans.{joined}
use Rattle.binkp_link.specs.declared.link.ReadAnswer.{ReadAnswer}
use Rattle.binkp_link.specs.declared.link.ReadAnswer.TheVariants as R
use Rattle.binkp_link.specs.declared.link.WriteAnswer.{WriteAnswer}
use Rattle.binkp_link.specs.declared.link.WriteAnswer.TheVariants as W
use Rattle.binkp_link.specs.Lines.{LineState}
use Rattle.session_core.specs.Ends as E
use Rattle.session_core.specs.Givings.{Gave}
use Rattle.session_core.specs.Givings as G
use Rattle.session_core.specs.Takings.{Took}
use Rattle.session_core.specs.Takings as T
use Rattle.session_core.specs.Stages.{Setting, Stage}
use Rattle.session_core.specs.Sessions.{Said, Gives, frame_number}
use Rattle.session_run.specs.Acknowledged.{MayStand, Written, CutAt}
use Rattle.session_run.specs.Settled.{BatchEnded, OffersNone}
use Rattle.session_run.specs.Machine.{World, Phase, Starting, Taking, Writing, Reading, Over, Draining, Closed, Step, greets, takes_frame, makes_turn, passes_turn, writes, passes_write, reads, passes_read, gives_up, leaves, drains, closes, Reach, here, next, Throughout, opening, after_took, after_gave, after_write, after_read, after_drain}
use Rattle.session_run.proofs.HeldKeys.{key_held, HoldsKnown, chain_key}
use Rattle.session_run.proofs.Acks.{acknowledged, acknowledged_on}
use Rattle.session_run.proofs.FrameWritings.{AllQuiet, EndsBatch, IsOwed, Framed, own_end_at}
use Rattle.session_run.proofs.RowWritings.{Behind, stage_key, row_behind, knock_behind, turn_behind}
use Rattle.session_run.proofs.AskedCalls.{asked_last, asked_on}

-- Frames.

pub each_weaker : {A : Type 0} (P Q : A → Type 0) (xs : List A) → ((x : A) → P x → Q x) → Each P xs → Each Q xs
each_weaker P Q [] f a = tt
each_weaker P Q (x ∷ xs) f a = (f x a.0, each_weaker P Q xs f a.1)

each_both : {A : Type 0} (P : A → Type 0) (xs ys : List A) → Each P xs → Each P ys → Each P (xs ++ ys)
each_both P [] ys a b = b
each_both P (x ∷ xs) ys a b = (a.0, each_both P xs ys a.1 b)

-- Further calls: none of them offers, or no M_EOB was written yet.

abbrev pub NotEob : FrameText → Type 0
NotEob (Data bytes) = Unit {0}
NotEob (Command number args) = number ≡ 5 → ⊥

quiet_turns : (es : List Turned) → AllQuiet (asked_of es) → Each OffersNone es
quiet_turns [] q = tt
quiet_turns (e ∷ es) q = (q.0, quiet_turns es q.1)

ended_on : (alone : Bool) (desk : DeskState) (es more : List Turned) → Each OffersNone more → BatchEnded alone desk es → BatchEnded alone desk (es ++ more)
unfolding asked_on
ended_on alone desk es more q b = record { nothing = asked_on alone desk es more _ _ b.nothing; last = each_both OffersNone b.nothing.later more b.last q }

stands_on : (alone : Bool) (desk : DeskState) (es more : List Turned) (f : FrameText) → Each OffersNone more ⊎ NotEob f → MayStand alone desk es f → MayStand alone desk (es ++ more) f
stands_on alone desk es more (Data bytes) q m = m
stands_on alone desk es more (Command number args) (inl q) m =
    (λ six. let x = m.0 six in (x.0, x.1, acknowledged_on alone desk es more x.0 x.2), λ five. ended_on alone desk es more q (m.1 five))
stands_on alone desk es more (Command number args) (inr not) m =
    (λ six. let x = m.0 six in (x.0, x.1, acknowledged_on alone desk es more x.0 x.2), λ five. absurd (not five))

each_on : (alone : Bool) (desk : DeskState) (es more : List Turned) (frames : List FrameText) → Each OffersNone more ⊎ Each NotEob frames → Each (MayStand alone desk es) frames → Each (MayStand alone desk (es ++ more)) frames
each_on alone desk es more frames (inl q) a = each_weaker (MayStand alone desk es) (MayStand alone desk (es ++ more)) frames (λ f. stands_on alone desk es more f (inl q)) a
each_on alone desk es more [] (inr n) a = tt
each_on alone desk es more (f ∷ frames) (inr n) a = (stands_on alone desk es more f (inr n.0) a.0, each_on alone desk es more frames (inr n.1) a.1)

ended_by : (alone : Bool) (desk a b : DeskState) (old es : List Turned) → Turns alone desk old a → Turns alone a es b → asked_of es ≡ one Offer_call Nothing → BatchEnded alone desk (old ++ es)
unfolding asked_last
ended_by alone desk a b old es before c is = go es c is
  where
    go : (fs : List Turned) → Turns alone a fs b → asked_of fs ≡ one Offer_call Nothing → BatchEnded alone desk (old ++ fs)
    go [] d e = absurd (let clash : [] ≡ one Offer_call Nothing = e in cc)
    go (f ∷ []) d e = record { nothing = asked_last alone desk a b old f Offer_call Nothing tt before d e; last = tt }
    go (f ∷ g ∷ fs) d e = absurd (let clash : f.asked ∷ (g.asked ∷ asked_of fs) ≡ one Offer_call Nothing = e in cc)

-- the row's one call of the desk found nothing to offer
ends_stands : (alone : Bool) (desk a b : DeskState) (old es : List Turned) (after : Stage) → Turns alone desk old a → Turns alone a es b → EndsBatch (asked_of es) after → BatchEnded alone desk (old ++ es)
ends_stands alone desk a b old es after before c ends = ended_by alone desk a b old es before c ends.0

owed_stands : (alone : Bool) (desk a b : DeskState) (old es : List Turned) (held : Option Key) (after : Stage) → Turns alone desk old a → Turns alone a es b → HoldsKnown a.seat a.knows held → (f : FrameText) → IsOwed held (asked_of es) after f → MayStand alone desk (old ++ es) f
owed_stands alone desk a b old es held after before c h (Data bytes) o = o
owed_stands alone desk a b old es held after before c h (Command number args) o =
    (λ six. let x = o.0 six in (x.0, x.1, acknowledged alone desk a b old es held x.0 x.2.0 x.2.1 before c x.2.2 h x.2.3), λ five. ends_stands alone desk a b old es after before c (o.1 five))

-- what is owed is no M_EOB while the batch goes on
owed_goes_on : (held : Option Key) (es : List Turned) (after : Stage) (f : FrameText) → own_end_at after ≡ false → IsOwed held (asked_of es) after f → NotEob f
owed_goes_on held es after (Data bytes) on o = tt
owed_goes_on held es after (Command number args) on o = λ five. let clash : true ≡ false = sym (o.1 five).1 ∙ on in cc

-- what was written of the rows that were made behind these calls
pub record Wrote (alone : Bool) (desk : DeskState) (es : List Turned) (output : List ℕ) (phase : Phase) (ended : Bool) : Type 0 where
  pub cut : List ℕ
  pub cut_at : CutAt phase cut
  pub frames : List FrameText
  pub spelled : output ++ cut ≡ flat_map frame_bytes frames
  pub stand : Each (MayStand alone desk es) frames
  -- no M_EOB yet, while the batch goes on
  pub unended : ended ≡ false → Each NotEob frames

-- further frames, up to where they are cut off
more_frames : (output : List ℕ) (old frames : List FrameText) (a b : List ℕ) → output ++ [] ≡ flat_map frame_bytes old → a ++ b ≡ flat_map frame_bytes frames → (output ++ a) ++ b ≡ flat_map frame_bytes (old ++ frames)
more_frames output old frames a b w e = append_assoc output a b ∙ ap (λ (x : List ℕ). output ++ x) e ∙ ap (λ (x : List ℕ). x ++ flat_map frame_bytes frames) (sym (append-nil output) ∙ w) ∙ sym (flat_map-append frame_bytes old frames)

whole_cut : (took : Took) → CutAt (after_took took) []
whole_cut T.More = refl
whole_cut (T.Ended end) = tt

gave_cut : (gave : Gave) → CutAt (after_gave gave) []
gave_cut G.Sent = refl
gave_cut G.Waits = refl
gave_cut (G.Ended end) = tt

-- a row that was made behind the calls so far: what of its frames was written, and what of them was cut off
record RowMade (alone : Bool) (desk : DeskState) (es : List Turned) (out said cut : List ℕ) (ended : Bool) : Type 0 where
  pub frames : List FrameText
  pub spelled : (out ++ said) ++ cut ≡ flat_map frame_bytes frames
  pub stand : Each (MayStand alone desk es) frames
  pub unended : ended ≡ false → Each NotEob frames

row_made : (alone : Bool) (desk a b : DeskState) (old es : List Turned) (out : List ℕ) (p : Phase) (before after : Stage) (output said cut : List ℕ) → Turns alone desk old a → Turns alone a es b → HoldsKnown a.seat a.knows (stage_key before) → Framed (stage_key before) (asked_of es) after output → (own_end_at before ≡ true → own_end_at after ≡ true) → AllQuiet (asked_of es) ⊎ (own_end_at before ≡ false) → (w : Wrote alone desk old out p (own_end_at before)) → w.cut ≡ [] → said ++ cut ≡ output → RowMade alone desk (old ++ es) out said cut (own_end_at after)
row_made alone desk a b old es out p before after output said cut leads c h framed rises quiet w uncut e = record {
  frames = w.frames ++ framed.frames;
  spelled = more_frames out w.frames framed.frames said cut (ap (λ (x : List ℕ). out ++ x) (sym uncut) ∙ w.spelled) (e ∙ framed.spelled);
  stand = each_both (MayStand alone desk (old ++ es)) w.frames framed.frames (each_on alone desk old es w.frames (on quiet) w.stand)
      (each_weaker (IsOwed (stage_key before) (asked_of es) after) (MayStand alone desk (old ++ es)) framed.frames (owed_stands alone desk a b old es (stage_key before) after leads c h) framed.owed);
  unended = λ goes. each_both NotEob w.frames framed.frames (w.unended (not_risen (own_end_at before) (own_end_at after) rises goes))
      (each_weaker (IsOwed (stage_key before) (asked_of es) after) NotEob framed.frames (λ f. owed_goes_on (stage_key before) es after f goes) framed.owed);
}
  where
    on : AllQuiet (asked_of es) ⊎ (own_end_at before ≡ false) → Each OffersNone es ⊎ Each NotEob w.frames
    on (inl q) = inl (quiet_turns es q)
    on (inr f) = inr (w.unended f)

    not_risen : (x y : Bool) → (x ≡ true → y ≡ true) → y ≡ false → x ≡ false
    not_risen true y up e = absurd (let clash : true ≡ false = sym (up refl) ∙ e in cc)
    not_risen false y up e = refl

took_wrote : (alone : Bool) (desk a b : DeskState) (old es : List Turned) (out : List ℕ) (p : Phase) (before after : Stage) (output : List ℕ) (goal : Took) (said : List ℕ) (took : Took) → Turns alone desk old a → Turns alone a es b → HoldsKnown a.seat a.knows (stage_key before) → Framed (stage_key before) (asked_of es) after output → (own_end_at before ≡ true → own_end_at after ≡ true) → AllQuiet (asked_of es) ⊎ (own_end_at before ≡ false) → (w : Wrote alone desk old out p (own_end_at before)) → w.cut ≡ [] → Said output goal said took → Wrote alone desk (old ++ es) (out ++ said) (after_took took) (own_end_at after)
took_wrote alone desk a b old es out p before after output goal said took leads c h framed rises quiet w uncut (inl s) =
    let r = row_made alone desk a b old es out p before after output said [] leads c h framed rises quiet w uncut (append-nil said ∙ s.1) in
    record { cut = []; cut_at = whole_cut took; frames = r.frames; spelled = r.spelled; stand = r.stand; unended = r.unended }
took_wrote alone desk a b old es out p before after output goal said took leads c h framed rises quiet w uncut (inr s) =
    let r = row_made alone desk a b old es out p before after output said s.1.0 leads c h framed rises quiet w uncut (sym s.1.2) in
    record { cut = s.1.0; cut_at = subst (λ (t : Took). CutAt (after_took t) s.1.0) (sym s.0) tt; frames = r.frames; spelled = r.spelled; stand = r.stand; unended = r.unended }

gave_wrote : (alone : Bool) (desk a b : DeskState) (old es : List Turned) (out : List ℕ) (p : Phase) (before after : Stage) (output : List ℕ) (goal : Gave) (said : List ℕ) (gave : Gave) → Turns alone desk old a → Turns alone a es b → HoldsKnown a.seat a.knows (stage_key before) → Framed (stage_key before) (asked_of es) after output → (own_end_at before ≡ true → own_end_at after ≡ true) → AllQuiet (asked_of es) ⊎ (own_end_at before ≡ false) → (w : Wrote alone desk old out p (own_end_at before)) → w.cut ≡ [] → Gives output goal said gave → Wrote alone desk (old ++ es) (out ++ said) (after_gave gave) (own_end_at after)
gave_wrote alone desk a b old es out p before after output goal said gave leads c h framed rises quiet w uncut (inl s) =
    let r = row_made alone desk a b old es out p before after output said [] leads c h framed rises quiet w uncut (append-nil said ∙ s.1) in
    record { cut = []; cut_at = gave_cut gave; frames = r.frames; spelled = r.spelled; stand = r.stand; unended = r.unended }
gave_wrote alone desk a b old es out p before after output goal said gave leads c h framed rises quiet w uncut (inr s) =
    let r = row_made alone desk a b old es out p before after output said s.1.0 leads c h framed rises quiet w uncut (sym s.1.2) in
    record { cut = s.1.0; cut_at = subst (λ (t : Gave). CutAt (after_gave t) s.1.0) (sym s.0) tt; frames = r.frames; spelled = r.spelled; stand = r.stand; unended = r.unended }

-- Along a run.

-- which file the desk holds, while the session goes on
abbrev pub HoldsAt : Phase → DeskState → Option Key → Type 0
HoldsAt Starting d key = HoldsKnown d.seat d.knows None
HoldsAt Taking d key = HoldsKnown d.seat d.knows key
HoldsAt (Writing waits) d key = HoldsKnown d.seat d.knows key
HoldsAt (Reading waits) d key = HoldsKnown d.seat d.knows key
HoldsAt phase d key = Unit {0}

pub record Acked (alone : Bool) (desk : DeskState) (w : World) : Type 0 where
  pub small : w.setting.block ≤ MAX_FRAME_DATA
  pub wrote : Wrote alone desk w.events w.output w.phase (own_end_at w.stage)
  pub leads : Turns alone desk w.events w.desk
  pub holds : HoldsAt w.phase w.desk (stage_key w.stage)

took_holds : (took : Took) (d : DeskState) (key : Option Key) → HoldsKnown d.seat d.knows key → HoldsAt (after_took took) d key
took_holds T.More d key h = h
took_holds (T.Ended end) d key h = tt

gave_holds : (gave : Gave) (d : DeskState) (key : Option Key) → HoldsKnown d.seat d.knows key → HoldsAt (after_gave gave) d key
gave_holds G.Sent d key h = h
gave_holds G.Waits d key h = h
gave_holds (G.Ended end) d key h = tt

cond_holds : (b : Bool) (p q : Phase) (d : DeskState) (key : Option Key) → HoldsAt p d key → HoldsAt q d key → HoldsAt (if b then p else q) d key
cond_holds true p q d key x y = x
cond_holds false p q d key x y = y

read_holds : (answer : ReadAnswer) (limit bytes calm : ℕ) (d : DeskState) (key : Option Key) → HoldsKnown d.seat d.knows key → HoldsAt (after_read answer limit bytes calm) d key
read_holds (R.Came n) limit bytes calm d key h = cond_holds (nat_le limit bytes) (Over E.Endless) Taking d key tt h
read_holds R.End limit bytes calm d key h = tt
read_holds R.NotYet limit bytes calm d key h = h
read_holds R.Quiet limit bytes calm d key h = cond_holds (nat_le 60 calm) (Over E.Quiet) Taking d key tt h
read_holds R.Failed limit bytes calm d key h = tt

write_holds : (answer : WriteAnswer) (limit bytes calm : ℕ) (waits : Bool) (d : DeskState) (key : Option Key) → HoldsKnown d.seat d.knows key → HoldsAt (after_write answer limit bytes calm (Reading waits)) d key
write_holds (W.Wrote n) limit bytes calm waits d key h = cond_holds (nat_le limit bytes) (Over E.Endless) (Reading waits) d key tt h
write_holds W.Quiet limit bytes calm waits d key h = cond_holds (nat_le 60 calm) (Over E.Quiet) (Reading waits) d key tt h
write_holds W.Failed limit bytes calm waits d key h = tt

drain_holds : (answer : WriteAnswer) (calm : ℕ) (end : E.End) (d : DeskState) (key : Option Key) → HoldsAt (after_drain answer calm end) d key
drain_holds (W.Wrote n) calm end d key = tt
drain_holds W.Quiet calm end d key = cond_holds (nat_le 60 calm) (Closed end) (Draining false end) d key tt tt
drain_holds W.Failed calm end d key = tt

cond_cut : (b : Bool) (p q : Phase) (cut : List ℕ) → CutAt p cut → CutAt q cut → CutAt (if b then p else q) cut
cond_cut true p q cut x y = x
cond_cut false p q cut x y = y

any_cut : (p : Phase) (cut : List ℕ) → cut ≡ [] → CutAt p cut
any_cut Starting cut e = e
any_cut Taking cut e = e
any_cut (Writing waits) cut e = e
any_cut (Reading waits) cut e = e
any_cut (Over end) cut e = tt
any_cut (Draining mute end) cut e = tt
any_cut (Closed end) cut e = tt

drain_cut : (answer : WriteAnswer) (calm : ℕ) (end : E.End) (cut : List ℕ) → CutAt (after_drain answer calm end) cut
drain_cut (W.Wrote n) calm end cut = tt
drain_cut W.Quiet calm end cut = cond_cut (nat_le 60 calm) (Closed end) (Draining false end) cut tt tt
drain_cut W.Failed calm end cut = tt

-- nothing is cut off while the session goes on
uncut : (alone : Bool) (desk : DeskState) (w : World) (p : Phase) (a : Acked alone desk w) → w.phase ≡ p → (CutAt p a.wrote.cut → a.wrote.cut ≡ []) → a.wrote.cut ≡ []
uncut alone desk w p a e f = f (subst (λ (q : Phase). CutAt q a.wrote.cut) e a.wrote.cut_at)

-- the same, in another phase
goes_on : (alone : Bool) (desk : DeskState) (es : List Turned) (output : List ℕ) (p q : Phase) (ended : Bool) (w : Wrote alone desk es output p ended) → CutAt q w.cut → Wrote alone desk es output q ended
goes_on alone desk es output p q ended w c = record { cut = w.cut; cut_at = c; frames = w.frames; spelled = w.spelled; stand = w.stand; unended = w.unended }

held_as : (alone : Bool) (desk : DeskState) (w : World) (p : Phase) → Acked alone desk w → w.phase ≡ p → HoldsAt p w.desk (stage_key w.stage)
held_as alone desk w p a e = subst (λ (q : Phase). HoldsAt q w.desk (stage_key w.stage)) e a.holds

step_acked : (alone : Bool) (desk : DeskState) (w v : World) → Acked alone desk w → Step alone w v → Acked alone desk v
step_acked alone desk w v a (greets s) =
    let e : Turned = turned (Knock_call s.role) s.answer s.rows_before s.rows_after in
    let chain : Turns alone w.desk (e ∷ []) s.desk = (s.desk, s.call, refl) in
    let held : HoldsKnown w.desk.seat w.desk.knows (stage_key w.stage) = subst (λ (k : Stage). HoldsKnown w.desk.seat w.desk.knows (stage_key k)) (sym s.new) (held_as alone desk w Starting a s.phase) in
    let whole = uncut alone desk w Starting a s.phase (λ x. x) in
    let b : Behind w.stage (asked_of (e ∷ [])) s.reply = subst (λ (k : Stage). Behind k (one (Knock_call s.role) s.answer) s.reply) (sym s.new) (knock_behind w.setting s.role s.answer s.reply s.follows) in
    subst (Acked alone desk) (sym s.is) (record {
      small = a.small;
      wrote = took_wrote alone desk w.desk s.desk w.events (e ∷ []) w.output w.phase w.stage s.reply.stage s.reply.output s.reply.took s.output s.took a.leads chain held b.writes (λ h. b.ends ∙ h) (inl b.quiet) a.wrote whole s.said;
      leads = (joined alone desk w.events w.desk (e ∷ []) s.desk a.leads chain).chain;
      holds = took_holds s.took s.desk (stage_key s.reply.stage) (subst (HoldsKnown s.desk.seat s.desk.knows) (sym b.holds) (chain_key alone w.desk s.desk (e ∷ []) (stage_key w.stage) chain held));
    })
step_acked alone desk w v a (takes_frame s) =
    let held = held_as alone desk w Taking a s.phase in
    let whole = uncut alone desk w Taking a s.phase (λ x. x) in
    let b = row_behind w.setting (frame_number (w.frames ++ s.frame ∷ [])) w.stage s.frame (asked_of s.events) s.reply s.row in
    subst (Acked alone desk) (sym s.is) (record {
      small = a.small;
      wrote = took_wrote alone desk w.desk s.desk w.events s.events w.output w.phase w.stage s.reply.stage s.reply.output s.reply.took s.output s.took a.leads s.chain held b.writes (λ h. b.ends ∙ h) (inl b.quiet) a.wrote whole s.said;
      leads = (joined alone desk w.events w.desk s.events s.desk a.leads s.chain).chain;
      holds = took_holds s.took s.desk (stage_key s.reply.stage) (subst (HoldsKnown s.desk.seat s.desk.knows) (sym b.holds) (chain_key alone w.desk s.desk s.events (stage_key w.stage) s.chain held));
    })
step_acked alone desk w v a (makes_turn s) =
    let held = held_as alone desk w Taking a s.phase in
    let whole = uncut alone desk w Taking a s.phase (λ x. x) in
    let b = turn_behind w.setting w.stage (asked_of s.events) s.turn a.small s.row in
    subst (Acked alone desk) (sym s.is) (record {
      small = a.small;
      wrote = gave_wrote alone desk w.desk s.desk w.events s.events w.output w.phase w.stage s.turn.stage s.turn.output s.turn.gave s.output s.gave a.leads s.chain held b.writes b.ends b.quiet a.wrote whole s.said;
      leads = (joined alone desk w.events w.desk s.events s.desk a.leads s.chain).chain;
      holds = gave_holds s.gave s.desk (stage_key s.turn.stage) (subst (HoldsKnown s.desk.seat s.desk.knows) (sym b.holds) (chain_key alone w.desk s.desk s.events (stage_key w.stage) s.chain held));
    })
step_acked alone desk w v a (passes_turn s) =
    subst (Acked alone desk) (sym s.is) (record { small = a.small; wrote = goes_on alone desk w.events w.output w.phase (Writing false) _ a.wrote (uncut alone desk w Taking a s.phase (λ x. x)); leads = a.leads; holds = held_as alone desk w Taking a s.phase })
step_acked alone desk w v a (writes s) =
    subst (Acked alone desk) (sym s.is) (record {
      small = a.small;
      wrote = goes_on alone desk w.events w.output w.phase _ _ a.wrote (any_cut _ a.wrote.cut (uncut alone desk w (Writing s.waits) a s.phase (λ x. x)));
      leads = a.leads;
      holds = write_holds s.answer w.setting.limit _ s.line.calm s.waits w.desk (stage_key w.stage) (held_as alone desk w (Writing s.waits) a s.phase);
    })
step_acked alone desk w v a (passes_write s) =
    subst (Acked alone desk) (sym s.is) (record { small = a.small; wrote = goes_on alone desk w.events w.output w.phase (Reading s.waits) _ a.wrote (uncut alone desk w (Writing s.waits) a s.phase (λ x. x)); leads = a.leads; holds = held_as alone desk w (Writing s.waits) a s.phase })
step_acked alone desk w v a (reads s) =
    subst (Acked alone desk) (sym s.is) (record {
      small = a.small;
      wrote = goes_on alone desk w.events w.output w.phase _ _ a.wrote (any_cut _ a.wrote.cut (uncut alone desk w (Reading s.waits) a s.phase (λ x. x)));
      leads = a.leads;
      holds = read_holds s.answer w.setting.limit _ s.line.calm w.desk (stage_key w.stage) (held_as alone desk w (Reading s.waits) a s.phase);
    })
step_acked alone desk w v a (passes_read s) =
    subst (Acked alone desk) (sym s.is) (record { small = a.small; wrote = goes_on alone desk w.events w.output w.phase Taking _ a.wrote (uncut alone desk w (Reading s.waits) a s.phase (λ x. x)); leads = a.leads; holds = held_as alone desk w (Reading s.waits) a s.phase })
step_acked alone desk w v a (gives_up s) =
    subst (Acked alone desk) (sym s.is) (record { small = a.small; wrote = goes_on alone desk w.events w.output w.phase (Over E.NoMemory) _ a.wrote tt; leads = a.leads; holds = tt })
step_acked alone desk w v a (leaves s) =
    let e : Turned = turned Leave_call s.answer s.rows_before s.rows_after in
    let chain : Turns alone w.desk (e ∷ []) s.desk = (s.desk, s.call, refl) in
    subst (Acked alone desk) (sym s.is) (record {
      small = a.small;
      wrote = record { cut = a.wrote.cut; cut_at = tt; frames = a.wrote.frames; spelled = a.wrote.spelled; stand = each_on alone desk w.events (e ∷ []) a.wrote.frames (inl (λ h. cc, tt)) a.wrote.stand; unended = a.wrote.unended };
      leads = (joined alone desk w.events w.desk (e ∷ []) s.desk a.leads chain).chain;
      holds = tt;
    })
step_acked alone desk w v a (drains s) =
    subst (Acked alone desk) (sym s.is) (record { small = a.small; wrote = goes_on alone desk w.events w.output w.phase _ _ a.wrote (drain_cut s.answer s.line.calm s.end a.wrote.cut); leads = a.leads; holds = drain_holds s.answer s.line.calm s.end w.desk (stage_key w.stage) })
step_acked alone desk w v a (closes s) =
    subst (Acked alone desk) (sym s.is) (record { small = a.small; wrote = goes_on alone desk w.events w.output w.phase (Closed s.end) _ a.wrote tt; leads = a.leads; holds = tt })

run_acked : (alone : Bool) (desk : DeskState) (w v : World) → Acked alone desk w → Reach alone w v → Acked alone desk v
run_acked alone desk w v a here = a
run_acked alone desk w v a (next {u} r s) = step_acked alone desk u v (run_acked alone desk w u a r) s

-- a desk without a session holds no file
none_held : (o : Option Hold) → part_of o ≡ None → key_held o ≡ None
none_held None e = refl
none_held (Some h) e = absurd (let clash : part_of (Some h) ≡ None = e in cc)

pub told_none : (part : DeskPart) (seat : ℕ) (knows : Knows) → part ≡ record { open_now = false; claim = None; held = None } → PartTold part seat knows → HoldsKnown seat knows None
told_none part seat (Tells n) e told = λ whole. none_held (hold_in (session_at n seat)) (sym (told whole).held ∙ ap (λ (p : DeskPart). p.held) e)
told_none part seat (Counts_alone c) e told = tt

pub acked_open : (alone : Bool) (s : Setting) (line : LineState) (desk : DeskState) → s.block ≤ MAX_FRAME_DATA → HoldsKnown desk.seat desk.knows None → Acked alone desk (opening s line desk)
acked_open alone s line desk small h =
    record { small = small; wrote = record { cut = []; cut_at = refl; frames = []; spelled = refl; stand = tt; unended = λ e. tt }; leads = refl; holds = h }

-- what was written by then
acked_written : (alone : Bool) (desk : DeskState) (w : World) (a : Acked alone desk w) → Written alone desk w
acked_written alone desk w a = record { cut = a.wrote.cut; cut_at = a.wrote.cut_at; frames = a.wrote.frames; spelled = a.wrote.spelled; stand = a.wrote.stand }

pub all_written : (alone : Bool) (desk : DeskState) (w v : World) (r : Reach alone w v) → Acked alone desk w → Throughout alone (Written alone desk) w v r
all_written alone desk w v here a = acked_written alone desk w a
all_written alone desk w v (next {u} r s) a = (all_written alone desk w u r a, acked_written alone desk v (step_acked alone desk u v (run_acked alone desk w u a r) s))
