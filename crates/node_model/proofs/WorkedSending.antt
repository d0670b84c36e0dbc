-- The worked life of a node that sends, step by step, by computing.
use Rattle.std.proofs.Common.{◌≡◌, ◌≢◌, ◌∙◌, subst, ℕ, zero, suc, ◌≤◌, le_refl, true, List, [], ◌∷◌, ◌++◌, Some, None, refl, sym, ap, inl, inr, arith}
use Rattle.node_model.specs.declared.words.Role.TheVariants.{Calls}
use Rattle.node_model.specs.Items.{Live, Done, Entry}
use Rattle.node_model.specs.Lists.{Member}
use Rattle.node_model.specs.Durable.{with_done, with_acted, with_queued}
use Rattle.node_model.specs.Node.{Session, Node, blank, session_at, claim_in, with_session, Acted_record, Done_record}
use Rattle.node_model.specs.Rows.{by, all_by, new_session, OpenRow, LeaveOpen, left_by}
use Rattle.node_model.specs.SendRows.{live_entry, queued_records, New, Again, No_more, Stands, Fresh, QueueRow, Candidate, Precedes, OfferFile, OfferNothing, ReadRow, GotRow, ActRow, ActNothing, unclaimed, waits_for_action}
use Rattle.node_model.specs.Lives.{Lives}
use Rattle.node_model.specs.WorkedReceiving.{sender}
use Rattle.node_model.specs.WorkedSending.{outgoing, worked_sending, sent_state}
use Rattle.node_model.proofs.Lists.{none_some, off}

abbrev queued : Node
queued =
    record blank { state = with_queued (live_entry 1 outgoing ∷ []) None blank.state; log = all_by 0 (queued_records (outgoing ∷ outgoing ∷ []) (Some 7) None (New 1 ∷ Again 1 ∷ [])); records = 2; staged = 1 }

abbrev caller : Session
caller = new_session 1 Calls sender [] true 0

abbrev opened : Node
opened = record (with_session 0 (Some caller) queued) { begun = 1 }

abbrev claimer : Session
claimer = record caller { claim = Some 1; claim_places = 1 }

abbrev offered : Node
offered = record (with_session 0 (Some claimer) opened) { reserved = 1 }

abbrev settled : Node
settled = record (with_session 0 (Some (unclaimed claimer)) offered) { state = with_done 1 offered.state; log = offered.log ++ by 0 (Done_record 1 1); records = 3; reserved = 0 }

abbrev gone : Node
gone = left_by 0 (unclaimed claimer) settled

abbrev pub sent : Node
sent = record gone { state = with_acted 1 gone.state; log = gone.log ++ by 0 (Acted_record 1); records = 4 }

queue_row : QueueRow 0 (outgoing ∷ outgoing ∷ []) (Some 7) None (New 1 ∷ Again 1 ∷ []) blank queued
queue_row =
    record {
      queue = live_entry 1 outgoing ∷ [];
      sizes = (refl, (refl, tt));
      queued = Fresh 1 refl tt (Stands (live_entry 1 outgoing) (inl refl) refl No_more);
      room = omega arith;
      staged = 1;
      numbers = (omega arith, tt);
      risen = omega arith;
      few = omega arith;
      after = refl;
    }

open_row : OpenRow 0 Calls (sender ∷ []) true 0 queued opened
open_row = record { first = sender; others = []; has_first = refl; none_yet = refl; few = omega arith; after = refl }

no_claim : (k : ℕ) → claim_in (session_at opened k) ≢ Some 1
no_claim zero e = none_some e
no_claim (suc k) e = none_some e

candidate : Candidate opened caller (live_entry 1 outgoing)
candidate =
    record { queued = inl refl; bytes = 1 ∷ 2 ∷ 3 ∷ []; live = refl; for_peer = inl refl; unclaimed = no_claim; unskipped = λ m. m }

first_one : (f : Entry) → Member f opened.state.queue → Precedes (live_entry 1 outgoing) f
first_one f (inl same) = subst (Precedes (live_entry 1 outgoing)) (sym same) (inr (refl, le_refl 1))
first_one f (inr none) = absurd none

offer_row : OfferFile 0 (live_entry 1 outgoing) opened offered
offer_row =
    record { session = caller; has = refl; free = refl; candidate = candidate; least = λ f c. first_one f c.queued; room = omega arith; after = refl }

read_row : ReadRow 0 1 10 (2 ∷ 3 ∷ []) offered offered
read_row =
    record { entry = live_entry 1 outgoing; content = 1 ∷ 2 ∷ 3 ∷ []; claimed = refl; queued = inl refl; live = refl; section = refl; after = refl }

got_row : GotRow 0 1 offered settled
got_row = record { session = claimer; has = refl; claimed = refl; after = refl }

is_done : (f : Entry) (bytes : List ℕ) → Member f settled.state.queue → f.body ≡ Live bytes → ⊥
is_done f bytes (inl same) live = let done : Done ≡ Live bytes = sym (ap (λ (e : Entry). e.body) same) ∙ live in absurd (cc)
is_done f bytes (inr none) live = absurd none

nothing_row : OfferNothing 0 settled settled
nothing_row =
    record { session = unclaimed claimer; has = refl; free = refl; none = λ f c. is_done f c.bytes c.queued c.live; after = refl }

leave_row : LeaveOpen 0 settled gone
leave_row = record { session = unclaimed claimer; has = refl; after = refl }

numbered : (f : Entry) → Member f gone.state.queue → 1 ≤ f.number
numbered f (inl same) = subst (λ (e : Entry). 1 ≤ e.number) (sym same) (le_refl 1)
numbered f (inr none) = absurd none

act_row : ActRow 0 sender 1 gone sent
act_row =
    record {
      next = record { entry = record (live_entry 1 outgoing) { body = Done }; there = inl refl; is = refl; addressed = refl; waits = refl; first_one = λ e m dest waits. numbered e m };
      room = omega arith;
      after = refl;
    }

acted : (f : Entry) → Member f sent.state.queue → waits_for_action f ≡ true → ⊥
acted f (inl same) waits = off (sym waits ∙ ap (λ (e : Entry). waits_for_action e) same)
acted f (inr none) waits = absurd none

act_nothing : ActNothing sender sent sent
act_nothing = record { none = λ e m dest waits. acted e m waits; after = refl }

pub worked : Lives blank worked_sending sent
worked = (
  queued,
  (inl refl, queue_row),
  (
    queued,
    (inl refl, record { may = tt; after = refl }),
    (
      opened,
      (inl refl, (refl, open_row)),
      (
        offered,
        (inl refl, (live_entry 1 outgoing, refl, refl, offer_row)),
        (
          offered,
          (inl refl, read_row),
          (
            settled,
            (inl refl, got_row),
            (
              settled,
              (inl refl, nothing_row),
              (
                gone,
                (inl refl, inl leave_row),
                (
                  sent,
                  (inl refl, act_row),
                  (sent, (inl refl, act_nothing), refl),
                ),
              ),
            ),
          ),
        ),
      ),
    ),
  ),
)

pub worked_ends : sent.state ≡ sent_state
worked_ends = refl
