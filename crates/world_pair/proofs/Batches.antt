-- A session that finished ended its batch in the run.
use Rattle.std.proofs.Common.{◌≡◌, ◌≢◌, ◌⊎◌, ℕ, zero, suc, Bool, true, false, List, [], ◌∷◌, Some, None, refl, sym, ap, ◌∙◌, subst, inl, inr, ⊎_elim}
use Rattle.node_model.specs.Lists.{updated}
use Rattle.node_model.specs.Node.{Node}
use Rattle.node_model.specs.Talk.{Message, End, part_at, Outcome, Goes_on, Waits, Ends, Finished, Out_of_turn, Too_late, Too_much, Refused_by}
use Rattle.node_model.proofs.Lists.{updated_at, updated_apart, decide_line, none_some, some_inj, off}
use Rattle.world_pair.specs.Course.{Course, TurnMade, TurnLast}
use Rattle.world_pair.specs.World.{Finish, LineEnd, Place, opened, says, hushed, gone, with_outbox, cut, finish_after, at_line, Occurs, Queues, Opens, Turns, Takes, Turns_last, Takes_last, Takes_breaking, Leaves, Leaves_broken, Acts, Gives, Idles, Breaks, Breaks_behind, Drops, Stops, Stops_at_mark, Stops_after_take, World, Step, At_x, At_y, Reaches, Begins}
use Rattle.world_pair.specs.Offers.{BatchEnds, EndedBatch, FinishedLaw}
use Rattle.world_pair.proofs.Seen.{OwnTurn, Sends, Offers, Ends as Ends_batch, Goes, Waits as Waits_on, Take, Take_file, Take_more, Take_whole, Drop_data, Take_got, Pass_got, Take_skip, Pass_skip, Take_get, Pass_get, Take_end}
use Rattle.world_pair.proofs.Inverts.{own_turn, take_of}
use Rattle.world_pair.proofs.Last.{finish_own}
use Rattle.world_pair.proofs.Complete.{completeness}

-- Rows.

-- an own turn says the end, or it was said before
pub record SaidBefore (was course : Course) : Type 0 where
  pub ended : was.now.own_end ≡ true
  pub skip : course.met_skip ≡ false → was.met_skip ≡ false

same_skip : (was course : Course) → course.met_skip ≡ was.met_skip → course.met_skip ≡ false → was.met_skip ≡ false
same_skip was course same none = sym same ∙ none

turn_was : (seat : ℕ) (n : Node) (was : Course) (m : Node) (course : Course) (sent : List Message) → OwnTurn seat n was m course sent → course.now.own_end ≡ true → ((sent ≡ End ∷ []) × (course.met_skip ≡ false → was.met_skip ≡ false)) ⊎ SaidBefore was course
turn_was seat n was m course sent (Sends s bytes under small room row change says) ended = inr (record { ended = ap (λ (x : Course). x.now.own_end) (sym change) ∙ ended; skip = same_skip was course (ap (λ (x : Course). x.met_skip) change) })
turn_was seat n was m course sent (Offers e none own row change says) ended = inr (record { ended = ap (λ (x : Course). x.now.own_end) (sym change) ∙ ended; skip = same_skip was course (ap (λ (x : Course). x.met_skip) change) })
turn_was seat n was m course sent (Ends_batch none own row change says) ended = inl (says, same_skip was course (ap (λ (x : Course). x.met_skip) change))
turn_was seat n was m course sent (Goes s s' under number key place node change says) ended = inr (record { ended = ap (λ (x : Course). x.now.own_end) (sym change) ∙ ended; skip = same_skip was course (ap (λ (x : Course). x.met_skip) change) })
turn_was seat n was m course sent (Waits_on node change says) ended = inr (record { ended = ap (λ (x : Course). x.now.own_end) (sym change) ∙ ended; skip = same_skip was course (ap (λ (x : Course). x.met_skip) change) })

kept_course : (was course : Course) → course ≡ was → course.now.own_end ≡ true → SaidBefore was course
kept_course was course same ended = record { ended = ap (λ (x : Course). x.now.own_end) (sym same) ∙ ended; skip = same_skip was course (ap (λ (x : Course). x.met_skip) same) }

take_was : (seat : ℕ) (n : Node) (was : Course) (m : Node) (course : Course) (sent : List Message) (w : Message) → Take seat n was m course sent w → course.now.own_end ≡ true → SaidBefore was course
take_was seat n was m course sent w (Take_file answer b row reply same) ended = kept_course was course same ended
take_was seat n was m course sent w (Take_more b row none same) ended = kept_course was course same ended
take_was seat n was m course sent w (Take_whole b row got same) ended = kept_course was course same ended
take_was seat n was m course sent w (Drop_data idle node none same) ended = kept_course was course same ended
take_was seat n was m course sent w (Pass_got other node none same) ended = kept_course was course same ended
take_was seat n was m course sent w (Pass_get other node none same) ended = kept_course was course same ended
take_was seat n was m course sent w (Take_got s under same row none change) ended = record { ended = ap (λ (x : Course). x.now.own_end) (sym change) ∙ ended; skip = same_skip was course (ap (λ (x : Course). x.met_skip) change) }
take_was seat n was m course sent w (Take_skip s under same row none change) ended = record { ended = ap (λ (x : Course). x.now.own_end) (sym change) ∙ ended; skip = λ no_skip. off (ap (λ (x : Course). x.met_skip) (sym change) ∙ no_skip) }
take_was seat n was m course sent w (Pass_skip other node none change) ended = record { ended = ap (λ (x : Course). x.now.own_end) (sym change) ∙ ended; skip = λ no_skip. off (ap (λ (x : Course). x.met_skip) (sym change) ∙ no_skip) }
take_was seat n was m course sent w (Take_get s under same fits node says change) ended = record { ended = ap (λ (x : Course). x.now.own_end) (sym change) ∙ ended; skip = same_skip was course (ap (λ (x : Course). x.met_skip) change) }
take_was seat n was m course sent w (Take_end node none change) ended = record { ended = ap (λ (x : Course). x.now.own_end) (sym change) ∙ ended; skip = same_skip was course (ap (λ (x : Course). x.met_skip) change) }

-- Events.

-- the end of a line after an event: it ended its batch in it, or before
pub data CourseWas (me peer me' peer' : Place) (line : ℕ) (c : Course) : Type 0 where
  Ends_now : (b : BatchEnds line me peer me' peer') → (c.met_skip ≡ false → b.was.met_skip ≡ false) → CourseWas me peer me' peer' line c
  Ended_before : (was : Course) → (me.ends line).course ≡ Some was → SaidBefore was c → CourseWas me peer me' peer' line c

-- the finish of a line after an event: it was there, or the session had ended its batch
pub data FinishWas (me : Place) (line : ℕ) (f : Finish) : Type 0 where
  Was_there : (me.ends line).finish ≡ Some f → FinishWas me line f
  Finishes_now : (was : Course) → (me.ends line).course ≡ Some was → was.now.own_end ≡ true → (f.met_skip ≡ false → was.met_skip ≡ false) → FinishWas me line f

-- what an event leaves of the ends: of each line the course and the finish, but for those of one line
record OnlyOne (me me' : Place) (line : ℕ) : Type 0 where
  course : (k : ℕ) → k ≢ line → (me'.ends k).course ≡ (me.ends k).course
  finish : (k : ℕ) → k ≢ line → (me'.ends k).finish ≡ (me.ends k).finish

one_end : (me me' : Place) (line : ℕ) (e : LineEnd) → me'.ends ≡ updated me.ends line e → OnlyOne me me' line
one_end me me' line e is =
    record {
      course = λ k other. ap (λ (ends : ℕ → LineEnd). (ends k).course) is ∙ ap (λ (x : LineEnd). x.course) (updated_apart me.ends line e k other);
      finish = λ k other. ap (λ (ends : ℕ → LineEnd). (ends k).finish) is ∙ ap (λ (x : LineEnd). x.finish) (updated_apart me.ends line e k other);
    }

-- the end that changed
end_at : (me me' : Place) (line : ℕ) (e : LineEnd) → me'.ends ≡ updated me.ends line e → me'.ends line ≡ e
end_at me me' line e is = ap (λ (ends : ℕ → LineEnd). ends line) is ∙ updated_at me.ends line e

same_course : (c : Course) → c.now.own_end ≡ true → SaidBefore c c
same_course c ended = record { ended = ended; skip = λ no_skip. no_skip }

-- an event in which the course and the finish of each end stay, or the course goes
record Quieter (me me' : Place) : Type 0 where
  course : (k : ℕ) (c : Course) → (me'.ends k).course ≡ Some c → (me.ends k).course ≡ Some c
  finish : (k : ℕ) (f : Finish) → (me'.ends k).finish ≡ Some f → (me.ends k).finish ≡ Some f

quiet_ends : (me me' : Place) → me'.ends ≡ me.ends → Quieter me me'
quiet_ends me me' same =
    record { course = λ k c is. ap (λ (ends : ℕ → LineEnd). (ends k).course) (sym same) ∙ is; finish = λ k f is. ap (λ (ends : ℕ → LineEnd). (ends k).finish) (sym same) ∙ is }

-- one end changes, and keeps its finish; its course stays or goes
quiet_end : (me me' : Place) (line : ℕ) (e : LineEnd) → me'.ends ≡ updated me.ends line e → ((c : Course) → e.course ≡ Some c → (me.ends line).course ≡ Some c) → e.finish ≡ (me.ends line).finish → Quieter me me'
quiet_end me me' line e is course finish =
    record {
      course = λ k c at. ⊎_elim
          (λ (same : k ≡ line). ap (λ j. (me.ends j).course) same ∙ course c (ap (λ (x : LineEnd). x.course) (sym (end_at me me' line e is)) ∙ (ap (λ j. (me'.ends j).course) (sym same) ∙ at)))
          (λ (other : k ≢ line). sym ((one_end me me' line e is).course k other) ∙ at)
          (decide_line k line);
      finish = λ k f at. ⊎_elim
          (λ (same : k ≡ line). ap (λ j. (me.ends j).finish) same ∙ (sym finish ∙ (ap (λ (x : LineEnd). x.finish) (sym (end_at me me' line e is)) ∙ (ap (λ j. (me'.ends j).finish) (sym same) ∙ at))))
          (λ (other : k ≢ line). sym ((one_end me me' line e is).finish k other) ∙ at)
          (decide_line k line);
    }

all_gone : (me me' : Place) → me'.ends ≡ (λ k. gone (me.ends k)) → Quieter me me'
all_gone me me' same =
    record { course = λ k c is. none_some (ap (λ (ends : ℕ → LineEnd). (ends k).course) (sym same) ∙ is); finish = λ k f is. ap (λ (ends : ℕ → LineEnd). (ends k).finish) (sym same) ∙ is }

ends_are : (p q : Place) → q ≡ p → q.ends ≡ p.ends
ends_are p q same = ap (λ (x : Place). x.ends) same

-- what an event leaves of a session that ended its batch, and of one that finished
record Keeps (me peer me' peer' : Place) : Type 0 where
  courses : (k : ℕ) (c : Course) → (me'.ends k).course ≡ Some c → c.now.own_end ≡ true → CourseWas me peer me' peer' k c
  finishes : (k : ℕ) (f : Finish) → (me'.ends k).finish ≡ Some f → FinishWas me k f

quietly : (me peer me' peer' : Place) → Quieter me me' → Keeps me peer me' peer'
quietly me peer me' peer' q =
    record { courses = λ k c is ended. Ended_before c (q.course k c is) (same_course c ended); finishes = λ k f is. Was_there (q.finish k f is) }

-- one end changes
at_end : (me peer me' peer' : Place) (line : ℕ) (e : LineEnd) → me'.ends ≡ updated me.ends line e → ((c : Course) → e.course ≡ Some c → c.now.own_end ≡ true → CourseWas me peer me' peer' line c) → ((f : Finish) → e.finish ≡ Some f → FinishWas me line f) → Keeps me peer me' peer'
at_end me peer me' peer' line e is course finish =
    record {
      courses = λ k c at ended. ⊎_elim
          (λ (same : k ≡ line). subst (λ j. CourseWas me peer me' peer' j c) (sym same) (course c (ap (λ (x : LineEnd). x.course) (sym (end_at me me' line e is)) ∙ (ap (λ j. (me'.ends j).course) (sym same) ∙ at)) ended))
          (λ (other : k ≢ line). Ended_before c (sym ((one_end me me' line e is).course k other) ∙ at) (same_course c ended))
          (decide_line k line);
      finishes = λ k f at. ⊎_elim
          (λ (same : k ≡ line). subst (λ j. FinishWas me j f) (sym same) (finish f (ap (λ (x : LineEnd). x.finish) (sym (end_at me me' line e is)) ∙ (ap (λ j. (me'.ends j).finish) (sym same) ∙ at))))
          (λ (other : k ≢ line). Was_there (sym ((one_end me me' line e is).finish k other) ∙ at))
          (decide_line k line);
    }

finish_was : (me : Place) (line seat : ℕ) (n : Node) (was : Course) → (me.ends line).course ≡ Some was → (last : TurnLast seat me.node was n) → (f : Finish) → finish_after last.verdict.outcome was (me.ends line).finish ≡ Some f → FinishWas me line f
finish_was me line seat n was talks last f is = go last.verdict.outcome refl is
  where
    go : (o : Outcome) → last.verdict.outcome ≡ o → finish_after o was (me.ends line).finish ≡ Some f → FinishWas me line f
    go (Ends Finished) e at = Finishes_now was talks (finish_own last.block (part_at me.node seat) was.now last.events last.verdict last.row e) (λ no_skip. ap (λ (x : Finish). x.met_skip) (some_inj at) ∙ no_skip)
    go (Ends Out_of_turn) e at = Was_there at
    go (Ends Too_late) e at = Was_there at
    go (Ends Too_much) e at = Was_there at
    go (Ends (Refused_by fault)) e at = Was_there at
    go Goes_on e at = Was_there at
    go Waits e at = Was_there at

own_keeps : (me peer me' peer' : Place) → Occurs me peer me' peer' → Keeps me peer me' peer'
own_keeps me peer me' peer' (Queues seat files taken answered slots n step a b) = quietly me peer me' peer' (quiet_ends me me' (ends_are _ me' a))
own_keeps me peer me' peer' (Opens line seat number n role theirs secure moment c d step a b) =
    at_end me peer me' peer' line (opened seat role (me.ends line)) (ends_are _ me' a)
    (λ x is ended. off (sym (ap (λ (y : Course). y.now.own_end) (some_inj is) ∙ ended)))
    (λ f is. Was_there is)
own_keeps me peer me' peer' (Turns line seat n was course sent sits talks made a b) =
    at_end me peer me' peer' line (says (me.ends line) (Some course) sent) (ends_are _ me' a)
    (λ x is ended. subst (CourseWas me peer me' peer' line) (some_inj is) (⊎_elim
    (λ (now : (sent ≡ End ∷ []) × (course.met_skip ≡ false → was.met_skip ≡ false)). Ends_now (record { seat = seat; node = n; was = was; course = course; sits = sits; talks = talks; turn = subst (TurnMade seat me.node was n course) now.0 made; after = subst (λ l. me' ≡ at_line line (says (me.ends line) (Some course) l) n me) now.0 a; peer_stays = b }) now.1)
    (λ (before : SaidBefore was course). Ended_before was talks before)
    (turn_was seat me.node was n course sent (own_turn seat me.node was n course sent made) (ap (λ (y : Course). y.now.own_end) (some_inj is) ∙ ended))))
    (λ f is. Was_there is)
own_keeps me peer me' peer' (Takes line seat n was course sent rest w sits talks front made a b) =
    at_end me peer me' peer' line (says (me.ends line) (Some course) sent) (ends_are _ me' a)
    (λ x is ended. subst (CourseWas me peer me' peer' line) (some_inj is) (Ended_before was talks (take_was seat me.node was n course sent w (take_of seat me.node was n course sent w made) (ap (λ (y : Course). y.now.own_end) (some_inj is) ∙ ended))))
    (λ f is. Was_there is)
own_keeps me peer me' peer' (Turns_last line seat n was sits talks last a b) =
    at_end me peer me' peer' line (hushed (finish_after last.verdict.outcome was (me.ends line).finish) (me.ends line)) (ends_are _ me' a) (λ x is ended. none_some is) (λ f is. finish_was me line seat n was talks last f is)
own_keeps me peer me' peer' (Takes_last line seat n was rest w sits talks front last a b) = quietly me peer me' peer' (quiet_end me me' line (hushed (me.ends line).finish (me.ends line)) (ends_are _ me' a) (λ c none. none_some none) refl)
own_keeps me peer me' peer' (Takes_breaking line seat n was rest w sits talks front last a b) = quietly me peer me' peer' (quiet_end me me' line (hushed (me.ends line).finish (me.ends line)) (ends_are _ me' a) (λ c none. none_some none) refl)
own_keeps me peer me' peer' (Leaves line seat n sits step a b) = quietly me peer me' peer' (quiet_end me me' line (gone (me.ends line)) (ends_are _ me' a) (λ c none. none_some none) refl)
own_keeps me peer me' peer' (Leaves_broken line count broken a b) = quietly me peer me' peer' (quiet_end me me' line (gone (me.ends line)) (ends_are _ me' a) (λ c none. none_some none) refl)
own_keeps me peer me' peer' (Acts seat number dest n step a b) = quietly me peer me' peer' (quiet_ends me me' (ends_are _ me' a))
own_keeps me peer me' peer' (Gives seat number n step a b) = quietly me peer me' peer' (quiet_ends me me' (ends_are _ me' a))
own_keeps me peer me' peer' (Idles seat call answer n step still a b) = quietly me peer me' peer' (quiet_ends me me' (ends_are _ me' a))
own_keeps me peer me' peer' (Breaks seat call count n step states a b) = quietly me peer me' peer' (quiet_ends me me' (ends_are _ me' a))
own_keeps me peer me' peer' (Breaks_behind seat call answer count made n c d e step g a b) = quietly me peer me' peer' (quiet_ends me me' (ends_are _ me' a))
own_keeps me peer me' peer' (Drops line mine theirs a b) = quietly me peer me' peer' (quiet_end me me' line (cut mine (me.ends line)) (ends_are _ me' a) (λ c is. is) refl)
own_keeps me peer me' peer' (Stops o fits a b) = quietly me peer me' peer' (all_gone me me' (ends_are _ me' a))
own_keeps me peer me' peer' (Stops_at_mark seat o unbroken fits a b) = quietly me peer me' peer' (all_gone me me' (ends_are _ me' a))
own_keeps me peer me' peer' (Stops_after_take o line seat n was course sent rest w sits talks front made fits a b) = quietly me peer me' peer' (all_gone me me' (ends_are _ me' a))

-- the other place
peer_quiet : (me peer me' peer' : Place) → Occurs me peer me' peer' → Quieter peer peer'
peer_quiet me peer me' peer' (Queues seat files taken answered slots n step a b) = quiet_ends peer peer' (ends_are _ peer' b)
peer_quiet me peer me' peer' (Opens line seat number n role theirs secure moment c d step a b) = quiet_ends peer peer' (ends_are _ peer' b)
peer_quiet me peer me' peer' (Turns line seat n was course sent sits talks made a b) = quiet_ends peer peer' (ends_are _ peer' b)
peer_quiet me peer me' peer' (Takes line seat n was course sent rest w sits talks front made a b) = quiet_end peer peer' line (with_outbox rest (peer.ends line)) (ends_are _ peer' b) (λ c is. is) refl
peer_quiet me peer me' peer' (Turns_last line seat n was sits talks last a b) = quiet_ends peer peer' (ends_are _ peer' b)
peer_quiet me peer me' peer' (Takes_last line seat n was rest w sits talks front last a b) = quiet_end peer peer' line (with_outbox rest (peer.ends line)) (ends_are _ peer' b) (λ c is. is) refl
peer_quiet me peer me' peer' (Takes_breaking line seat n was rest w sits talks front last a b) = quiet_end peer peer' line (with_outbox rest (peer.ends line)) (ends_are _ peer' b) (λ c is. is) refl
peer_quiet me peer me' peer' (Leaves line seat n sits step a b) = quiet_ends peer peer' (ends_are _ peer' b)
peer_quiet me peer me' peer' (Leaves_broken line count broken a b) = quiet_ends peer peer' (ends_are _ peer' b)
peer_quiet me peer me' peer' (Acts seat number dest n step a b) = quiet_ends peer peer' (ends_are _ peer' b)
peer_quiet me peer me' peer' (Gives seat number n step a b) = quiet_ends peer peer' (ends_are _ peer' b)
peer_quiet me peer me' peer' (Idles seat call answer n step still a b) = quiet_ends peer peer' (ends_are _ peer' b)
peer_quiet me peer me' peer' (Breaks seat call count n step states a b) = quiet_ends peer peer' (ends_are _ peer' b)
peer_quiet me peer me' peer' (Breaks_behind seat call answer count made n c d e step g a b) = quiet_ends peer peer' (ends_are _ peer' b)
peer_quiet me peer me' peer' (Drops line mine theirs a b) = quiet_end peer peer' line (cut theirs (peer.ends line)) (ends_are _ peer' b) (λ c is. is) refl
peer_quiet me peer me' peer' (Stops o fits a b) = quiet_ends peer peer' (ends_are _ peer' b)
peer_quiet me peer me' peer' (Stops_at_mark seat o unbroken fits a b) = quiet_ends peer peer' (ends_are _ peer' b)
peer_quiet me peer me' peer' (Stops_after_take o line seat n was course sent rest w sits talks front made fits a b) = quiet_end peer peer' line (with_outbox rest (peer.ends line)) (ends_are _ peer' b) (λ c is. is) refl

-- Runs.

-- it ended its batch, and with no skip where none was taken since
record Past (line : ℕ) (own peer : World → Place) (w v : World) (skip : Bool) : Type 0 where
  ended : EndedBatch line own peer w v
  no_skip : skip ≡ false → ended.batch.was.met_skip ≡ false

-- each session that ended its batch did so in the run
record Recorded (own peer : World → Place) (w v : World) : Type 0 where
  courses : (line : ℕ) (c : Course) → ((own v).ends line).course ≡ Some c → c.now.own_end ≡ true → Past line own peer w v c.met_skip
  finishes : (line : ℕ) (f : Finish) → ((own v).ends line).finish ≡ Some f → Past line own peer w v f.met_skip

past_on : (line : ℕ) (own peer : World → Place) (w mid v : World) (was skip : Bool) → Step mid v → (skip ≡ false → was ≡ false) → Past line own peer w mid was → Past line own peer w v skip
past_on line own peer w mid v was skip step less p =
    record { ended = record { before = p.ended.before; then = p.ended.then; reached = p.ended.reached; next = p.ended.next; batch = p.ended.batch; after = suc p.ended.after; goes_on = (mid, p.ended.goes_on, step) }; no_skip = λ e. p.no_skip (less e) }

past_now : (line : ℕ) (own peer : World → Place) (n : ℕ) (w mid v : World) (skip : Bool) → Reaches n w mid → (b : BatchEnds line (own mid) (peer mid) (own v) (peer v)) → (skip ≡ false → b.was.met_skip ≡ false) → Past line own peer w v skip
past_now line own peer n w mid v skip reached b less =
    record { ended = record { before = n; then = mid; reached = reached; next = v; batch = b; after = 0; goes_on = refl }; no_skip = less }

recorded_own : (own peer : World → Place) (n : ℕ) (w mid v : World) → Reaches n w mid → Step mid v → Occurs (own mid) (peer mid) (own v) (peer v) → Recorded own peer w mid → Recorded own peer w v
recorded_own own peer n w mid v reached step event r =
    record { courses = λ line c is ended. course line c (k.courses line c is ended); finishes = λ line f is. finish line f (k.finishes line f is) }
  where
    k : Keeps (own mid) (peer mid) (own v) (peer v)
    k = own_keeps (own mid) (peer mid) (own v) (peer v) event

    course : (line : ℕ) (c : Course) → CourseWas (own mid) (peer mid) (own v) (peer v) line c → Past line own peer w v c.met_skip
    course line c (Ends_now b less) = past_now line own peer n w mid v c.met_skip reached b less
    course line c (Ended_before was talks before) = past_on line own peer w mid v was.met_skip c.met_skip step before.skip (r.courses line was talks before.ended)

    finish : (line : ℕ) (f : Finish) → FinishWas (own mid) line f → Past line own peer w v f.met_skip
    finish line f (Was_there is) = past_on line own peer w mid v f.met_skip f.met_skip step (λ e. e) (r.finishes line f is)
    finish line f (Finishes_now was talks ended less) = past_on line own peer w mid v was.met_skip f.met_skip step less (r.courses line was talks ended)

recorded_peer : (own peer : World → Place) (w mid v : World) → Step mid v → Occurs (peer mid) (own mid) (peer v) (own v) → Recorded own peer w mid → Recorded own peer w v
recorded_peer own peer w mid v step event r =
    let q = peer_quiet (peer mid) (own mid) (peer v) (own v) event in
    record {
      courses = λ line c is ended. past_on line own peer w mid v c.met_skip c.met_skip step (λ e. e) (r.courses line c (q.course line c is) ended);
      finishes = λ line f is. past_on line own peer w mid v f.met_skip f.met_skip step (λ e. e) (r.finishes line f (q.finish line f is));
    }

abbrev at_x : World → Place
at_x w = w.x

abbrev at_y : World → Place
at_y w = w.y

record BothRecorded (w v : World) : Type 0 where
  here : Recorded at_x at_y w v
  there : Recorded at_y at_x w v

none_yet : (own peer : World → Place) (w v : World) → ((line : ℕ) → ((own v).ends line).course ≡ None) → ((line : ℕ) → ((own v).ends line).finish ≡ None) → Recorded own peer w v
none_yet own peer w v course finish =
    record { courses = λ line c is ended. none_some (sym (course line) ∙ is); finishes = λ line f is. none_some (sym (finish line) ∙ is) }

recorded : (n : ℕ) (w v : World) → Begins w → Reaches n w v → BothRecorded w v
recorded zero w v begins same =
    record {
      here = none_yet at_x at_y w v (λ line. ap (λ (u : World). (u.x.ends line).course) same ∙ ap (λ (p : Place). (p.ends line).course) begins.at_x) (λ line. ap (λ (u : World). (u.x.ends line).finish) same ∙ ap (λ (p : Place). (p.ends line).finish) begins.at_x);
      there = none_yet at_y at_x w v (λ line. ap (λ (u : World). (u.y.ends line).course) same ∙ ap (λ (p : Place). (p.ends line).course) begins.at_y) (λ line. ap (λ (u : World). (u.y.ends line).finish) same ∙ ap (λ (p : Place). (p.ends line).finish) begins.at_y);
    }
recorded (suc n) w v begins (mid, before, step) = go step (recorded n w mid begins before)
  where
    go : Step mid v → BothRecorded w mid → BothRecorded w v
    go (At_x event) r = record { here = recorded_own at_x at_y n w mid v before (At_x event) event r.here; there = recorded_peer at_y at_x w mid v (At_x event) event r.there }
    go (At_y event) r = record { here = recorded_peer at_x at_y w mid v (At_y event) event r.here; there = recorded_own at_y at_x n w mid v before (At_y event) event r.there }

pub finished_law : FinishedLaw
finished_law n line w v begins reached agree back =
    (λ f is no_skip. let p = r.here.finishes line f is in (p.ended, p.no_skip no_skip, (completeness p.ended.before p.ended.after line w p.ended.then p.ended.next v begins p.ended.reached p.ended.goes_on agree back).0 p.ended.batch), λ f is no_skip. let p = r.there.finishes line f is in (p.ended, p.no_skip no_skip, (completeness p.ended.before p.ended.after line w p.ended.then p.ended.next v begins p.ended.reached p.ended.goes_on agree back).1 p.ended.batch))
  where
    r : BothRecorded w v
    r = recorded n w v begins reached
