-- A call over a store that tells is a course at its node, and a store that was just opened is a node that stopped.
use Rattle.std.proofs.Common.{◌≡◌, ◌∙◌, ℕ, ◌≤◌, true, List, [], ◌∷◌, Option, Some, None, length, drop, refl, sym, ap, subst, arith}
use Rattle.disk_model.specs.World.{World}
use Rattle.node_model.specs.Calls.{DeskState}
use Rattle.ftn_addr.specs.declared.limits.TheConstants.{MAX_NUMBER}
use Rattle.node_model.specs.Items.{Entry, Mark, Receipt}
use Rattle.node_model.specs.Lists.{Each}
use Rattle.node_model.specs.Lives.{OpensWith}
use Rattle.mail_conf.specs.Conf.{ConfText}
use Rattle.node_model.specs.Node.{Settings, Node, Opening, stopped}
use Rattle.node_model.specs.Sound.{Sound}
use Rattle.node_model.specs.Stores.{Stored, StoreState}
use Rattle.node_model.proofs.Lists.{Each-weaker}
use Rattle.node_store.specs.Books.{Books}
use Rattle.node_store.specs.Logs.{log_of}
use Rattle.node_store.specs.Opening.{IsNewBooks, opened_memory}
use Rattle.node_store.specs.Sounds.{KeepsSound, seatless}
use Rattle.node_store.specs.Stored.{Memory, stored_in, state_of}
use Rattle.session_run.specs.Machine.{Reach, opening}
use Rattle.hub_core.specs.Hubs.{knows_over, node_with}
use Rattle.world_pair.specs.FromDesk.{at_desk}
use Rattle.binkp_mailer.specs.TopCall.{lent, new_hub, first_seat}
use Rattle.binkp_mailer.specs.OneNode.{CallsAreCourses, OpeningsAreStops}
use Rattle.binkp_mailer.proofs.OneNode.{sessions_are_courses}

desk_is : (conf : ConfText) (store : StoreState) (kept : Stored) → store.content ≡ Some kept → first_seat store (new_hub conf) ≡ at_desk 0 (node_with kept store (new_hub conf))
desk_is conf store kept tells = ap (λ (c : Option Stored). record { seat = 0; knows = knows_over c store (new_hub conf) 0 }) tells

pub calls_are_courses : CallsAreCourses
calls_are_courses side given line line' store store' told status kept some tells held calm =
    sessions_are_courses true (lent side given) line 0 (node_with kept store (new_hub given.conf)) held.session.last some
    (subst (λ (d : DeskState). Reach true (opening (lent side given) line d) held.session.last) (desk_is given.conf store kept tells) held.session.run) calm

-- Openings.

drop_all : {A : Type 0} (xs : List A) → drop (length xs) xs ≡ []
drop_all [] = refl
drop_all (x ∷ xs) = drop_all xs

-- no record was made since the opening
none_logged : (b : Books) → IsNewBooks b → log_of b.seats (drop b.opened b.payloads) ≡ []
none_logged b new = ap (λ (s : List ℕ). log_of s (drop b.opened b.payloads)) new.seats ∙ ap (log_of []) (ap (λ (n : ℕ). drop n b.payloads) new.opened ∙ drop_all b.payloads)

fits : (settings : Settings) (a : Stored) (s : StoreState) (o : Opening) → Sound (seatless settings a s) → o.records ≡ s.records → o.staged ≡ s.staged → o.drawn ≡ s.drawn → OpensWith a.stock.state o
fits settings a s o sound records staged drawn =
    record {
      records = let r = sound.places.room in omega (arith, r, records);
      staged = subst (λ (n : ℕ). Each (λ (e : Entry). e.number ≤ n) a.stock.state.queue) (sym staged) sound.parts.queue_staged;
      marks = subst (λ (n : ℕ). Each (λ (m : Mark). m.number ≤ n) a.stock.state.marks) (sym drawn) (Each-weaker _ _ (λ m p. p.1) a.stock.state.marks sound.parts.marks_drawn);
      receipts = subst (λ (n : ℕ). Each (λ (r : Receipt). r.number ≤ n) a.stock.state.inbox) (sym drawn) (Each-weaker _ _ (λ r p. p.1) a.stock.state.inbox sound.parts.receipts_drawn);
      few = subst (λ (n : ℕ). n ≤ MAX_NUMBER) (sym drawn) sound.parts.drawn_few;
    }

abbrev pub opened_with : Settings → ℕ → Books → Opening
opened_with settings faults b =
    let m = opened_memory b [] in
    record { settings = settings; faults = faults; fulls = 0; records = length b.payloads; staged = m.last_staged; drawn = m.drawn }

opens : (settings : Settings) (w : World) (faults : ℕ) (b : Books) (given : List ℕ) (n : Node) → IsNewBooks b → KeepsSound settings (state_of true w faults (opened_memory b given)) → n.state ≡ (stored_in w (opened_memory b given)).stock.state
    → (o : Opening) × OpensWith n.state o × (seatless settings (stored_in w (opened_memory b given)) (state_of true w faults (opened_memory b given)) ≡ stopped o n)
opens settings w faults b given n new keeps same = (o, subst (λ d. OpensWith d o) (sym same) (fits settings a s o sound refl refl refl), whole)
  where
    a : Stored
    a = stored_in w (opened_memory b given)

    s : StoreState
    s = state_of true w faults (opened_memory b given)

    o : Opening
    o = opened_with settings faults b

    sound : Sound (seatless settings a s)
    sound = subst (λ (x : Stored). Sound (seatless settings x s)) (sym keeps.tells) keeps.sound

    logged : a.log ≡ []
    logged = none_logged b new

    whole : seatless settings a s ≡ stopped o n
    whole i = record { state = sym same i; log = logged i; seats = []; settings = settings; begun = 0; records = length b.payloads; reserved = new.reserved i; staged = o.staged; drawn = o.drawn; faults = faults; fulls = 0; broken = None; last_given = 0 }

pub openings_are_stops : OpeningsAreStops
openings_are_stops settings w faults m n (b, given, new, is) keeps same =
    subst (λ (x : Memory). (o : Opening) × OpensWith n.state o × (seatless settings (stored_in w x) (state_of true w faults x) ≡ stopped o n)) (sym is)
    (opens settings w faults b given n new (subst (λ (x : Memory). KeepsSound settings (state_of true w faults x)) is keeps) (same ∙ ap (λ (x : Memory). (stored_in w x).stock.state) is))
