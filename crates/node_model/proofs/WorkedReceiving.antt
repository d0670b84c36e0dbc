-- The worked life, step by step, by computing.
use Rattle.std.proofs.Common.{◌≡◌, ◌≢◌, ◌∙◌, subst, ℕ, zero, suc, ◌+◌, true, false, List, [], ◌∷◌, ◌++◌, Option, Some, None, refl, sym, ap, inl, arith}
use Rattle.node_model.specs.declared.words.Role.TheVariants.{Answers}
use Rattle.node_model.specs.Items.{Receipt, Mark}
use Rattle.node_model.specs.Lists.{Each}
use Rattle.node_model.specs.Durable.{mark_of, with_receipt}
use Rattle.node_model.specs.Node.{Hold, Session, Seat, Node, stopped, blank, seat_in, session_at, hold_in, with_session}
use Rattle.node_model.specs.Rows.{by, new_session, unheld, released, grown, holding, holding_more, hold_from, places_for, mark_length, receipt_of, received_record, left_by, Go, From, HeldElsewhere, PartNumber, OpenRow, FileRow, DataMore, DataWhole, LeaveOpen}
use Rattle.node_model.specs.Lives.{OpensWith, Lives}
use Rattle.node_model.specs.WorkedReceiving.{sender, file, opened_again, worked_receiving, received_state}
use Rattle.node_model.proofs.Lists.{none_some, some_inj}

abbrev or_closed : Option Session → Session
or_closed None = new_session 0 Answers sender [] false 0
or_closed (Some s) = s

abbrev open_in : Node → Session
open_in n = or_closed (session_at n 0)

abbrev or_none : Option Hold → Hold
or_none None = record { number = 0; from = sender; key = file; bytes = []; stored = false; taking = false }
or_none (Some h) = h

abbrev held_in : Node → Hold
held_in n = or_none (open_in n).hold

-- what each row leaves

abbrev opened : Node → Node
opened n = record (with_session 0 (Some (new_session (n.begun + 1) Answers sender [] true 0)) n) { begun = n.begun + 1 }

abbrev released_in : Node → Node
released_in n = released 0 (open_in n) n

abbrev going : Node → Node
going n =
    holding 0 (hold_from 1 sender file true (released_in n).state) (places_for (mark_length (unheld (open_in n)) file (released_in n)) 3) (unheld (open_in n)) (released_in n)

abbrev asking : Node → Node
asking n =
    holding 0 (hold_from 1 sender file false (released_in n).state) (places_for 2 3) (record (unheld (open_in n)) { missed = file ∷ (open_in n).missed }) (released_in n)

abbrev growing : List ℕ → Node → Node
growing bytes n = holding_more 0 (open_in n) (grown (held_in n) bytes) n

abbrev whole : List ℕ → Node → Node
whole bytes n =
    record (released_in n) { state = with_receipt (receipt_of (held_in n).number (open_in n) (held_in n).key ((held_in n).bytes ++ bytes)) n.state; log = n.log ++ by 0 (received_record (held_in n).number (open_in n) (held_in n).key); records = n.records + 1 }

abbrev gone : Node → Node
gone n = left_by 0 (open_in n) n

abbrev first_call : Node
first_call = opened blank

abbrev half : Node
half = growing (1 ∷ 2 ∷ []) (going first_call)

abbrev second_call : Node
second_call = opened (stopped opened_again (gone half))

abbrev asked : Node
asked = asking second_call

abbrev resumed : Node
resumed = going asked

abbrev pub last_node : Node
last_node = gone (whole (3 ∷ []) resumed)

-- no other seat holds anything, and this one holds nothing
no_hold_at : (s : Seat) → hold_in s.session ≡ None → (n : Node) → n.seats ≡ s ∷ [] → (k : ℕ) (h : Hold) → hold_in (session_at n k) ≡ Some h → ⊥
no_hold_at s none n is zero h e = none_some (sym none ∙ (sym (ap (λ (x : List Seat). hold_in (seat_in x 0).session) is) ∙ e))
no_hold_at s none n is (suc k) h e = none_some (sym (ap (λ (x : List Seat). hold_in (seat_in x (suc k)).session) is) ∙ e)

first_part : PartNumber (released_in first_call) sender file 1
first_part =
    record { its_own = λ m e. none_some e; unmarked = λ e. tt; unreceived = tt; unheld = λ k h e. absurd (no_hold_at _ refl (released_in first_call) refl k h e); some = omega arith; next = omega arith; few = omega arith }

marked_part : (n : Node) (m : Mark) → mark_of sender file n.state ≡ Some m → m.number ≡ 1 → n.state.inbox ≡ [] → n.drawn ≡ 1 → (s : Seat) → hold_in s.session ≡ None → n.seats ≡ s ∷ [] → PartNumber n sender file 1
marked_part n m is own inbox drawn s none seats =
    record {
      its_own = λ q e. ap (λ (x : Mark). x.number) (some_inj (sym e ∙ is)) ∙ own;
      unmarked = λ e. none_some (sym e ∙ is);
      unreceived = subst (Each (λ (r : Receipt). r.number ≢ 1)) (sym inbox) tt;
      unheld = λ k h e. absurd (no_hold_at s none n seats k h e);
      some = omega arith;
      next = omega (arith, drawn);
      few = omega arith;
    }

nowhere : (n : Node) (s : Seat) → hold_in s.session ≡ None → n.seats ≡ s ∷ [] → HeldElsewhere n 0 sender file → ⊥
nowhere n s none seats h = no_hold_at s none n seats h.other h.hold h.holds

first_open : OpenRow 0 Answers (sender ∷ []) true 0 blank first_call
first_open = record { first = sender; others = []; has_first = refl; none_yet = refl; few = omega arith; after = refl }

first_file : FileRow 0 file 0 Go first_call (going first_call)
first_file =
    record {
      session = open_in first_call;
      has = refl;
      applies = (record { unknown = refl; wanted = refl; free = nowhere (released_in first_call) _ refl refl }, refl, omega arith);
      room = omega arith;
      made = (1, first_part, refl);
    }

first_data : DataMore 0 (1 ∷ 2 ∷ []) (going first_call) half
first_data =
    record { session = open_in (going first_call); has = refl; hold = held_in (going first_call); holds = refl; taking = refl; short = omega arith; after = refl }

first_leave : LeaveOpen 0 half (gone half)
first_leave = record { session = open_in half; has = refl; after = refl }

opens : OpensWith (gone half).state opened_again
opens = record { records = omega arith; staged = tt; marks = (omega arith, tt); receipts = tt; few = omega arith }

second_open : OpenRow 0 Answers (sender ∷ []) true 0 (stopped opened_again (gone half)) second_call
second_open = record { first = sender; others = []; has_first = refl; none_yet = refl; few = omega arith; after = refl }

second_file : FileRow 0 file 0 (From 2) second_call asked
second_file =
    record {
      session = open_in second_call;
      has = refl;
      applies = (record { unknown = refl; wanted = refl; free = nowhere (released_in second_call) _ refl refl }, refl, λ e. omega (arith, e), λ m. m);
      room = omega arith;
      made = (1, marked_part (released_in second_call) _ refl refl refl refl _ refl refl, refl);
    }

third_file : FileRow 0 file 2 Go asked resumed
third_file =
    record {
      session = open_in asked;
      has = refl;
      applies = (record { unknown = refl; wanted = refl; free = nowhere (released_in asked) _ refl refl }, refl, omega arith);
      room = omega arith;
      made = (1, marked_part (released_in asked) _ refl refl refl refl _ refl refl, refl);
    }

last_data : DataWhole 0 (3 ∷ []) resumed (whole (3 ∷ []) resumed)
last_data =
    record { session = open_in resumed; has = refl; hold = held_in resumed; holds = refl; taking = refl; whole = refl; after = refl }

last_leave : LeaveOpen 0 (whole (3 ∷ []) resumed) last_node
last_leave = record { session = open_in (whole (3 ∷ []) resumed); has = refl; after = refl }

-- each happening with the life behind it
pub worked : Lives blank worked_receiving last_node
worked = (
  first_call,
  (inl refl, (refl, first_open)),
  (
    going first_call,
    (inl refl, first_file),
    (
      half,
      (inl refl, first_data),
      (
        gone half,
        (inl refl, inl first_leave),
        (
          stopped opened_again (gone half),
          (opens, refl),
          (
            second_call,
            (inl refl, (refl, second_open)),
            (
              asked,
              (inl refl, second_file),
              (
                resumed,
                (inl refl, third_file),
                (
                  whole (3 ∷ []) resumed,
                  (inl refl, last_data),
                  (last_node, (inl refl, inl last_leave), refl),
                ),
              ),
            ),
          ),
        ),
      ),
    ),
  ),
)

pub worked_ends : last_node.state ≡ received_state
worked_ends = refl
