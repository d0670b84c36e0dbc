-- Each event of a world is a piece of its node's life, and leaves the other node as it is.
use Rattle.std.proofs.Common.{◌≡◌, ℕ, zero, suc, List, [], ◌∷◌, ◌++◌, refl, sym, ap, subst}
use Rattle.ftn_addr.specs.Key.{Key}
use Rattle.node_model.specs.Node.{Node, Opening, blank, stopped}
use Rattle.node_model.specs.Calls.{Call, Answer, File_call, Queue_call, Queued, Open_call, Begun, Leave_call, Act_call, Acted, Give_call, Given, Settled, Refused, Disk, Event, NodeStep, Marked, marked_first}
use Rattle.node_model.specs.Lives.{Happening, Steps, Stops as Node_stops, Stops_inside, OpensWith, Lives}
use Rattle.node_model.proofs.Lives.{lives_join, life_sound, life_once, life_stays, blank_sound}
use Rattle.world_pair.specs.Course.{Makes}
use Rattle.world_pair.specs.World.{Place, Occurs, Queues, Opens, Turns, Takes, Turns_last, Takes_last, Takes_breaking, Leaves, Leaves_broken, Acts, Gives, Idles, Breaks, Breaks_behind, Drops, Stops, Stops_at_mark, Stops_after_take, World, Step, At_x, At_y, Reaches, Begins}
use Rattle.world_pair.specs.Nodes.{HasLived, StaysSound, KeepsAll}
use Rattle.world_pair.proofs.QueueStays.{life_queue}

-- some life leads from the one to the other
abbrev pub LivesTo : Node → Node → Type 0
LivesTo n m = (events : List Happening) × Lives n events m

stands : (n m : Node) → m ≡ n → LivesTo n m
stands n m same = ([], same)

then_lives : (n x m : Node) → LivesTo n x → LivesTo x m → LivesTo n m
then_lives n x m a b = (a.0 ++ b.0, lives_join n a.0 x b.0 m a.1 b.1)

one_step : (seat : ℕ) (n : Node) (call : Call) (answer : Answer) (m : Node) → NodeStep seat n call answer m → LivesTo n m
one_step seat n call answer m step = (Steps seat call answer ∷ [], (m, step, refl))

stop : (o : Opening) (n : Node) → OpensWith n.state o → LivesTo n (stopped o n)
stop o n fits = (Node_stops o ∷ [], (stopped o n, (fits, refl), refl))

makes_live : (seat : ℕ) (n : Node) (es : List Event) (m : Node) → Makes seat n es m → LivesTo n m
makes_live seat n [] m same = stands n m same
makes_live seat n (e ∷ es) m (mid, step, rest) = then_lives n mid m (one_step seat n e.call e.answer mid step) (makes_live seat mid es m rest)

any_key : Key
any_key = record { name = []; size = 0; time = 0 }

to_node : (n : Node) (p q : Place) → p ≡ q → LivesTo n q.node → LivesTo n p.node
to_node n p q same life = subst (λ (r : Place). LivesTo n r.node) (sym same) life

-- the event's own node
pub own_life : (me peer me' peer' : Place) → Occurs me peer me' peer' → LivesTo me.node me'.node
own_life me peer me' peer' (Queues seat files taken answered slots n step a b) = to_node me.node me' _ a (one_step seat me.node (Queue_call files taken answered) (Queued slots) n step)
own_life me peer me' peer' (Opens line seat number n role theirs secure moment c d step a b) = to_node me.node me' _ a (one_step seat me.node (Open_call role (peer.first ∷ theirs) secure moment) (Begun number) n step)
own_life me peer me' peer' (Turns line seat n t u sent c d made a b) = to_node me.node me' _ a (makes_live seat me.node made.events n made.chain)
own_life me peer me' peer' (Takes line seat n t u sent rest w c d e made a b) = to_node me.node me' _ a (makes_live seat me.node made.events n made.chain)
own_life me peer me' peer' (Turns_last line seat n t c d made a b) = to_node me.node me' _ a (makes_live seat me.node made.events n made.chain)
own_life me peer me' peer' (Takes_last line seat n t rest w c d e made a b) = to_node me.node me' _ a (makes_live seat me.node made.events n made.chain)
own_life me peer me' peer' (Takes_breaking line seat n t rest w c d e made a b) = to_node me.node me' _ a (makes_live seat me.node made.events n made.chain)
own_life me peer me' peer' (Leaves line seat n c step a b) = to_node me.node me' _ a (one_step seat me.node Leave_call Settled n step)
own_life me peer me' peer' (Leaves_broken line count c a b) = to_node me.node me' _ a (stands me.node me.node refl)
own_life me peer me' peer' (Acts seat number dest n step a b) = to_node me.node me' _ a (one_step seat me.node (Act_call dest) (Acted number) n step)
own_life me peer me' peer' (Gives seat number n step a b) = to_node me.node me' _ a (one_step seat me.node Give_call (Given number) n step)
own_life me peer me' peer' (Idles seat call answer n step still a b) = to_node me.node me' _ a (one_step seat me.node call answer n step)
own_life me peer me' peer' (Breaks seat call count n step states a b) = to_node me.node me' _ a (one_step seat me.node call (Refused (Disk count)) n step)
own_life me peer me' peer' (Breaks_behind seat call answer count made n c d e step g a b) = to_node me.node me' _ a (one_step seat me.node call (Refused (Disk count)) n step)
own_life me peer me' peer' (Drops line mine theirs a b) = to_node me.node me' _ a (stands me.node me.node refl)
own_life me peer me' peer' (Stops o fits a b) = to_node me.node me' _ a (stop o me.node fits)
own_life me peer me' peer' (Stops_at_mark seat o unbroken fits a b) =
    to_node me.node me' _ a
    (Stops_inside seat (File_call any_key 0) (marked_first seat me.node) o ∷ [], (stopped o (record (me.node) { state = marked_first seat me.node }), (Marked unbroken refl refl, fits, refl), refl))
own_life me peer me' peer' (Stops_after_take o line seat n t u sent rest w c d e made fits a b) =
    to_node me.node me' _ a (then_lives me.node n (stopped o n) (makes_live seat me.node made.events n made.chain) (stop o n fits))

-- the other node
pub peer_life : (me peer me' peer' : Place) → Occurs me peer me' peer' → LivesTo peer.node peer'.node
peer_life me peer me' peer' (Queues seat files taken answered slots n step a b) = to_node peer.node peer' _ b (stands peer.node peer.node refl)
peer_life me peer me' peer' (Opens line seat number n role theirs secure moment c d step a b) = to_node peer.node peer' _ b (stands peer.node peer.node refl)
peer_life me peer me' peer' (Turns line seat n t u sent c d made a b) = to_node peer.node peer' _ b (stands peer.node peer.node refl)
peer_life me peer me' peer' (Takes line seat n t u sent rest w c d e made a b) = to_node peer.node peer' _ b (stands peer.node peer.node refl)
peer_life me peer me' peer' (Turns_last line seat n t c d made a b) = to_node peer.node peer' _ b (stands peer.node peer.node refl)
peer_life me peer me' peer' (Takes_last line seat n t rest w c d e made a b) = to_node peer.node peer' _ b (stands peer.node peer.node refl)
peer_life me peer me' peer' (Takes_breaking line seat n t rest w c d e made a b) = to_node peer.node peer' _ b (stands peer.node peer.node refl)
peer_life me peer me' peer' (Leaves line seat n c step a b) = to_node peer.node peer' _ b (stands peer.node peer.node refl)
peer_life me peer me' peer' (Leaves_broken line count c a b) = to_node peer.node peer' _ b (stands peer.node peer.node refl)
peer_life me peer me' peer' (Acts seat number dest n step a b) = to_node peer.node peer' _ b (stands peer.node peer.node refl)
peer_life me peer me' peer' (Gives seat number n step a b) = to_node peer.node peer' _ b (stands peer.node peer.node refl)
peer_life me peer me' peer' (Idles seat call answer n step still a b) = to_node peer.node peer' _ b (stands peer.node peer.node refl)
peer_life me peer me' peer' (Breaks seat call count n step states a b) = to_node peer.node peer' _ b (stands peer.node peer.node refl)
peer_life me peer me' peer' (Breaks_behind seat call answer count made n c d e step g a b) = to_node peer.node peer' _ b (stands peer.node peer.node refl)
peer_life me peer me' peer' (Drops line mine theirs a b) = to_node peer.node peer' _ b (stands peer.node peer.node refl)
peer_life me peer me' peer' (Stops o fits a b) = to_node peer.node peer' _ b (stands peer.node peer.node refl)
peer_life me peer me' peer' (Stops_at_mark seat o unbroken fits a b) = to_node peer.node peer' _ b (stands peer.node peer.node refl)
peer_life me peer me' peer' (Stops_after_take o line seat n t u sent rest w c d e made fits a b) = to_node peer.node peer' _ b (stands peer.node peer.node refl)

-- Runs.

step_lives : (w v : World) → Step w v → LivesTo w.x.node v.x.node × LivesTo w.y.node v.y.node
step_lives w v (At_x e) = (own_life w.x w.y v.x v.y e, peer_life w.x w.y v.x v.y e)
step_lives w v (At_y e) = (peer_life w.y w.x v.y v.x e, own_life w.y w.x v.y v.x e)

pub run_lives : (n : ℕ) (w v : World) → Reaches n w v → LivesTo w.x.node v.x.node × LivesTo w.y.node v.y.node
run_lives zero w v same = (stands w.x.node v.x.node (ap (λ (u : World). u.x.node) same), stands w.y.node v.y.node (ap (λ (u : World). u.y.node) same))
run_lives (suc n) w v (mid, before, step) =
    let a = run_lives n w mid before in
    let b = step_lives mid v step in
    (then_lives w.x.node mid.x.node v.x.node a.0 b.0, then_lives w.y.node mid.y.node v.y.node a.1 b.1)

from_blank : (n : Node) (o : Opening) → OpensWith blank.state o → n ≡ stopped o blank → LivesTo blank n
from_blank n o fits same = subst (LivesTo blank) (sym same) (stop o blank fits)

pub has_lived : (n : ℕ) (w v : World) → Begins w → Reaches n w v → HasLived v.x.node × HasLived v.y.node
has_lived n w v b reached =
    let r = run_lives n w v reached in
    (then_lives blank w.x.node v.x.node (from_blank w.x.node b.x_opening b.x_opens (ap (λ (p : Place). p.node) b.at_x)) r.0, then_lives blank w.y.node v.y.node (from_blank w.y.node b.y_opening b.y_opens (ap (λ (p : Place). p.node) b.at_y)) r.1)

lived_sound : (n : Node) → HasLived n → StaysSound n
lived_sound n (events, life) = record { sound = life_sound blank events n life blank_sound; once = life_once blank events n life blank_sound }

pub stays_sound : (n : ℕ) (w v : World) → Begins w → Reaches n w v → StaysSound v.x.node × StaysSound v.y.node
stays_sound n w v b reached = let h = has_lived n w v b reached in (lived_sound v.x.node h.0, lived_sound v.y.node h.1)

pub keeps : (n m : Node) → LivesTo n m → KeepsAll n m
keeps n m (events, life) = record { queue = life_queue n events m life; settled = life_stays n events m life }

pub keeps_all : (n : ℕ) (w v : World) → Reaches n w v → KeepsAll w.x.node v.x.node × KeepsAll w.y.node v.y.node
keeps_all n w v reached = let r = run_lives n w v reached in (keeps w.x.node v.x.node r.0, keeps w.y.node v.y.node r.1)
