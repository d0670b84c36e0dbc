-- The worked life with every answer to a file, step by step, by computing.
use Rattle.std.proofs.Common.{◌≡◌, ◌≢◌, ◌∙◌, subst, ℕ, zero, suc, ◌+◌, ◌≤◌, max, true, false, Bool, List, [], ◌∷◌, ◌++◌, Option, Some, None, refl, sym, ap, inl, inr, arith}
use Rattle.ftn_addr.specs.Key.{Key}
use Rattle.node_model.specs.declared.words.Role.TheVariants.{Answers}
use Rattle.node_model.specs.Items.{Receipt, Mark}
use Rattle.node_model.specs.Lists.{Member, Each}
use Rattle.node_model.specs.Durable.{mark_of, marked, with_receipt, with_refusal, with_given}
use Rattle.node_model.specs.Node.{Hold, Session, Seat, Node, stopped, blank, seat_in, session_at, hold_in, with_session, Refused_record}
use Rattle.node_model.specs.Rows.{by, new_session, unheld, released, holding, hold_from, places_for, mark_length, receipt_of, received_record, reason, Have, Refuse, Elsewhere, Go, Whole, From, Late, HeldElsewhere, PartNumber, one_busy_more, KnockBusy, OpenRow, FileRow, DataWhole}
use Rattle.node_model.specs.SendRows.{InRound, may_go, GiveRow, GiveHeld}
use Rattle.node_model.specs.Calls.{Leave_call, Before_it, Breaks, FileRefused}
use Rattle.node_model.specs.Lives.{OpensWith, Lives}
use Rattle.node_model.specs.WorkedReceiving.{sender, file}
use Rattle.node_model.specs.WorkedAnswers.{narrow, narrow_again, big, empty, worked_answers, answered_state}
use Rattle.node_model.proofs.Lists.{none_some, off}

abbrev or_closed : Option Session → Session
or_closed None = new_session 0 Answers sender [] false 0
or_closed (Some s) = s

abbrev open_at : ℕ → Node → Session
open_at k n = or_closed (session_at n k)

abbrev released_at : ℕ → Node → Node
released_at k n = released k (open_at k n) n

abbrev opened : ℕ → Bool → Node → Node
opened k secure n =
    record (with_session k (Some (new_session (n.begun + 1) Answers sender [] secure 0)) n) { begun = n.begun + 1 }

abbrev going : Node → Node
going n =
    holding 0 (hold_from 1 sender file true (released_at 0 n).state) (places_for (mark_length (unheld (open_at 0 n)) file (released_at 0 n)) 3) (unheld (open_at 0 n)) (released_at 0 n)

abbrev n0 : Node
n0 = stopped narrow blank

abbrev n1 : Node
n1 = opened 0 true n0

abbrev n2 : Node
n2 = opened 1 false n1

abbrev n3 : Node
n3 = one_busy_more 2 n2

abbrev n4 : Node
n4 = going n3

abbrev n5 : Node
n5 = released_at 1 n4

-- the refusal
abbrev r6 : Node
r6 = released_at 1 n5

abbrev n6 : Node
n6 = record r6 { state = with_refusal (record { from = sender; key = big }) r6.state; log = r6.log ++ by 1 (Refused_record sender big 2 (reason r6.settings big)); records = r6.records + 1 }

abbrev r7 : Node
r7 = released_at 0 n6

abbrev n7 : Node
n7 =
    holding 0 (hold_from 1 sender file false r7.state) (places_for 0 3) (record (unheld (open_at 0 n6)) { missed = file ∷ [] }) r7

abbrev n8 : Node
n8 = released_at 0 n7

abbrev n9 : Node
n9 = going n8

abbrev n10 : Node
n10 =
    record (released_at 0 n9) { state = with_receipt (receipt_of 1 (open_at 0 n9) file (1 ∷ 2 ∷ 3 ∷ [])) n9.state; log = n9.log ++ by 0 (received_record 1 (open_at 0 n9) file); records = n9.records + 1 }

abbrev n11 : Node
n11 = released_at 1 n10

abbrev r12 : Node
r12 = released_at 1 n11

abbrev n12 : Node
n12 =
    record r12 { state = with_receipt (receipt_of 2 (unheld (open_at 1 n11)) empty (marked sender empty r12.state)) r12.state; log = r12.log ++ by 1 (received_record 2 (unheld (open_at 1 n11)) empty); records = r12.records + 1; drawn = max r12.drawn 2 }

abbrev n13 : Node
n13 = record n12 { state = with_given 1 n12.state; last_given = 1 }

abbrev n14 : Node
n14 = record n13 { last_given = 2 }

abbrev n15 : Node
n15 = released_at 1 n14

abbrev n16 : Node
n16 = record n15 { faults = 1; broken = Some 1 }

abbrev pub answered : Node
answered = stopped narrow_again n16

-- three seats, none of which holds anything
none_holds : (n : Node) (a b c : Seat) → n.seats ≡ a ∷ b ∷ c ∷ [] → hold_in a.session ≡ None → hold_in b.session ≡ None → hold_in c.session ≡ None → (k : ℕ) (h : Hold) → hold_in (session_at n k) ≡ Some h → ⊥
none_holds n a b c is x y z k h e = go k (sym (ap (λ (s : List Seat). hold_in (seat_in s k).session) is) ∙ e)
  where
    go : (j : ℕ) → hold_in (seat_in (a ∷ b ∷ c ∷ []) j).session ≡ Some h → ⊥
    go zero f = none_some (sym x ∙ f)
    go (suc zero) f = none_some (sym y ∙ f)
    go (suc (suc zero)) f = none_some (sym z ∙ f)
    go (suc (suc (suc j))) f = none_some f

-- a file whose part has no mark, while nothing is held
acceptable : (k : ℕ) (s : Session) (key : Key) (n : Node) (a b c : Seat) → n.seats ≡ a ∷ b ∷ c ∷ [] → hold_in a.session ≡ None → hold_in b.session ≡ None → hold_in c.session ≡ None → (HeldElsewhere n k s.first key → ⊥)
acceptable k s key n a b c is x y z e = none_holds n a b c is x y z e.other e.hold e.holds

part : (key : Key) (number : ℕ) (n : Node) (a b c : Seat) → n.seats ≡ a ∷ b ∷ c ∷ [] → hold_in a.session ≡ None → hold_in b.session ≡ None → hold_in c.session ≡ None → n.state.marks ≡ [] → mark_of sender key n.state ≡ None → Each (λ (r : Receipt). r.number ≢ number) n.state.inbox → 1 ≤ number → number ≤ n.drawn + 1 → number ≤ 100 → PartNumber n sender key number
part key number n a b c is x y z marks none receipts some next few =
    record {
      its_own = λ m e. none_some (sym none ∙ e);
      unmarked = λ e. subst (Each (λ (m : Mark). m.number ≢ number)) (sym marks) tt;
      unreceived = receipts;
      unheld = λ k h e. absurd (none_holds n a b c is x y z k h e);
      some = some;
      next = next;
      few = omega (arith, few);
    }

opens : OpensWith blank.state narrow
opens = record { records = omega arith; staged = tt; marks = tt; receipts = tt; few = omega arith }

first_open : OpenRow 0 Answers (sender ∷ []) true 0 n0 n1
first_open = record { first = sender; others = []; has_first = refl; none_yet = refl; few = omega arith; after = refl }

second_open : OpenRow 1 Answers (sender ∷ []) false 0 n1 n2
second_open = record { first = sender; others = []; has_first = refl; none_yet = refl; few = omega arith; after = refl }

busy : KnockBusy 2 Answers n2 n3
busy = record { answers_calls = refl; full = omega arith; after = refl }

row_go : FileRow 0 file 0 Go n3 n4
row_go =
    record {
      session = open_at 0 n3;
      has = refl;
      applies = (record { unknown = refl; wanted = refl; free = acceptable 0 (open_at 0 n3) file (released_at 0 n3) _ _ _ refl refl refl refl }, refl, omega arith);
      room = omega arith;
      made = (1, part file 1 (released_at 0 n3) _ _ _ refl refl refl refl refl refl tt (omega arith) (omega arith) (omega arith), refl);
    }

row_elsewhere : FileRow 1 file 0 Elsewhere n4 n5
row_elsewhere =
    record {
      session = open_at 1 n4;
      has = refl;
      applies = (refl, refl, record { other = 0; apart = λ e. omega (arith, e); hold = hold_from 1 sender file true (released_at 0 n3).state; holds = refl; same = refl });
      room = omega arith;
      made = refl;
    }

row_refuse : FileRow 1 big 0 Refuse n5 n6
row_refuse = record { session = open_at 1 n5; has = refl; applies = (refl, refl); room = omega arith; made = refl }

row_from : FileRow 0 file 1 (From 0) n6 n7
row_from =
    record {
      session = open_at 0 n6;
      has = refl;
      applies = (record { unknown = refl; wanted = refl; free = acceptable 0 (open_at 0 n6) file r7 _ _ _ refl refl refl refl }, refl, λ e. omega (arith, e), λ m. m);
      room = omega arith;
      made = (1, part file 1 r7 _ _ _ refl refl refl refl refl refl tt (omega arith) (omega arith) (omega arith), refl);
    }

row_late : FileRow 0 file 1 Late n7 n8
row_late =
    record {
      session = open_at 0 n7;
      has = refl;
      applies = (record { unknown = refl; wanted = refl; free = acceptable 0 (open_at 0 n7) file (released_at 0 n7) _ _ _ refl refl refl refl }, λ e. omega (arith, e), inl refl);
      room = omega arith;
      made = refl;
    }

row_again : FileRow 0 file 0 Go n8 n9
row_again =
    record {
      session = open_at 0 n8;
      has = refl;
      applies = (record { unknown = refl; wanted = refl; free = acceptable 0 (open_at 0 n8) file (released_at 0 n8) _ _ _ refl refl refl refl }, refl, omega arith);
      room = omega arith;
      made = (1, part file 1 (released_at 0 n8) _ _ _ refl refl refl refl refl refl tt (omega arith) (omega arith) (omega arith), refl);
    }

row_whole : DataWhole 0 (1 ∷ 2 ∷ 3 ∷ []) n9 n10
row_whole =
    record { session = open_at 0 n9; has = refl; hold = hold_from 1 sender file true (released_at 0 n8).state; holds = refl; taking = refl; whole = refl; after = refl }

row_have : FileRow 1 file 0 Have n10 n11
row_have = record { session = open_at 1 n10; has = refl; applies = refl; room = omega arith; made = refl }

row_empty : FileRow 1 empty 0 Whole n11 n12
row_empty =
    record {
      session = open_at 1 n11;
      has = refl;
      applies = (record { unknown = refl; wanted = refl; free = acceptable 1 (open_at 1 n11) empty r12 _ _ _ refl refl refl refl }, refl, refl);
      room = omega arith;
      made = (2, part empty 2 r12 _ _ _ refl refl refl refl refl refl ((λ e. omega (arith, e)), tt) (omega arith) (omega arith) (omega arith), refl);
    }

-- the first that may go
first_round : (r : Receipt) → Member r n12.state.inbox → InRound 0 1 r.number
first_round r (inl same) = subst (λ (x : Receipt). InRound 0 1 x.number) (sym same) (inl (omega arith, inl (omega arith, omega arith)))
first_round r (inr (inl same)) = subst (λ (x : Receipt). InRound 0 1 x.number) (sym same) (inl (omega arith, inl (omega arith, omega arith)))
first_round r (inr (inr none)) = absurd none

row_given : GiveRow 1 n12 n13
row_given =
    record {
      next = record { receipt = receipt_of 1 (open_at 0 n9) file (1 ∷ 2 ∷ 3 ∷ []); there = inl refl; is = refl; may = refl; least = λ r m may. first_round r m };
      after = refl;
    }

second_round : (r : Receipt) → Member r n13.state.inbox → may_go r ≡ true → InRound 1 2 r.number
second_round r (inl same) may = off (sym may ∙ ap may_go same)
second_round r (inr (inl same)) may = subst (λ (x : Receipt). InRound 1 2 x.number) (sym same) (inl (omega arith, inl (omega arith, omega arith)))
second_round r (inr (inr none)) may = absurd none

row_held : GiveHeld 2 n13 n14
row_held =
    record {
      next = record { receipt = receipt_of 2 (open_at 1 n11) empty []; there = inr (inl refl); is = refl; may = refl; least = second_round };
      after = refl;
    }

row_memory : FileRefused 1 0 n14 n15
row_memory = record { session = open_at 1 n14; has = refl; after = refl }

row_disk : Breaks 0 n15 Leave_call 1 n16
row_disk =
    record {
      unbroken = refl;
      rose = omega arith;
      passes = Before_it refl;
      broken = refl;
      faults = refl;
      fulls = refl;
      log = record { rest = []; grows = refl; own = tt };
      others = λ k apart. refl;
      own = refl;
      busy = refl;
      reads = refl;
      settings = refl;
      begun = refl;
    }

opens_again : OpensWith n16.state narrow_again
opens_again =
    record { records = omega arith; staged = tt; marks = tt; receipts = (omega arith, (omega arith, tt)); few = omega arith }

pub worked : Lives blank worked_answers answered
worked = (
  n0,
  (opens, refl),
  (
    n0,
    (inl refl, record { may = omega arith; after = refl }),
    (
      n1,
      (inl refl, (refl, first_open)),
      (
        n2,
        (inl refl, (refl, second_open)),
        (
          n3,
          (inl refl, busy),
          (
            n4,
            (inl refl, row_go),
            (
              n5,
              (inl refl, row_elsewhere),
              (
                n6,
                (inl refl, row_refuse),
                (
                  n7,
                  (inl refl, row_from),
                  (
                    n8,
                    (inl refl, row_late),
                    (
                      n9,
                      (inl refl, row_again),
                      (
                        n10,
                        (inl refl, row_whole),
                        (
                          n11,
                          (inl refl, row_have),
                          (
                            n12,
                            (inl refl, row_empty),
                            (
                              n13,
                              (inl refl, row_given),
                              (
                                n14,
                                (inl refl, row_held),
                                (
                                  n15,
                                  (refl, tt, row_memory),
                                  (
                                    n16,
                                    ((λ m. m), inr row_disk),
                                    (answered, (opens_again, refl), refl),
                                  ),
                                ),
                              ),
                            ),
                          ),
                        ),
                      ),
                    ),
                  ),
                ),
              ),
            ),
          ),
        ),
      ),
    ),
  ),
)

pub worked_ends : answered.state ≡ answered_state
worked_ends = refl
