-- The take-in of a whole outbound: one address after another, and what is told of them (own).
use Rattle.std.specs.Prelude.{◌≡◌, ◌⊎◌, ◌↔◌, ℕ, Bool, true, false, List, [], ◌∷◌, ◌++◌, map, Option, Some, None, option_map, Result, Ok, Err, IfErr, IfOk, OnOk, codes, if◌then◌else◌}
use Rattle.std.specs.List.{flat_map}
use Rattle.std.specs.Option.{option_or}
use Rattle.ftn_addr.specs.Address.{Address}
use Rattle.ftn_addr.specs.declared.byte_list.Bytes.{Bytes}
use Rattle.bso_outbound.specs.Names.{path_ending}
use Rattle.busy_marks.specs.Text.{mark_text}
use Rattle.disk_model.specs.World.{World}
use Rattle.node_model.specs.Lists.{Each, Member}
use Rattle.node_model.specs.StoreStates.{IfTold, StoreState}
use Rattle.node_model.specs.declared.store.StoreFault.{StoreFault}
use Rattle.node_model.specs.declared.store.StoreFault.TheVariants as SF
use Rattle.node_store.specs.Asking.{Asks}
use Rattle.node_store.specs.Stored.{Holding, stand_of}
use Rattle.node_store.specs.declared.takes.TakeName.{TakeName}
use Rattle.outbound_addresses.specs.Needs.{HasOwn, IsOfDomain, Needs}
use Rattle.outbound_intake.specs.Answers.{Answered, EndsMark, FaultBreaks, OnlyTakes, WasMarked}
use Rattle.outbound_intake.specs.Files.{AllDone}
use Rattle.outbound_lines.specs.Taking.{marked_text, took_text}
use Rattle.outbound_places.specs.Places.{IsRising}
use Rattle.outbound_store.specs.Held.{seen_on}
use Rattle.outbound_take.specs.declared.words.TakeFault.{TakeFault}
use Rattle.outbound_take.specs.declared.words.TakeFault.TheVariants as TF
use Rattle.outbound_take.specs.declared.words.Taken.{Taken}
use Rattle.outbound_take.specs.Ours.{AreOver}
use Rattle.outbound_take.specs.Stand.{TakeStand, told}
use Rattle.outbound_round.specs.declared.words.Round.{Round}
use Rattle.outbound_round.specs.declared.words.RoundFault.{RoundFault}
use Rattle.outbound_round.specs.declared.words.RoundFault.TheVariants.{Disk, Full, NoMemory}
use Rattle.outbound_round.specs.declared.words.Telling.{Telling}
use Rattle.outbound_round.specs.declared.words.Telling.TheVariants.{All, PassedOver}
use Rattle.outbound_round.specs.Counts.{counts_of, has_passed}

-- What is told of a round: its lines, the name of the first mark of another program, and what ended it early.
pub record RoundTold : Type 0 where
  pub lines : List ℕ
  pub marked : Option (List ℕ)
  pub fault : Option RoundFault

abbrev pub told_of : Round → RoundTold
told_of r = record { lines = r.lines.list; marked = option_map (λ (b : Bytes). b.list) r.marked; fault = r.fault }

abbrev pub nothing_told : Option RoundFault → RoundTold
nothing_told fault = record { lines = []; marked = None; fault = fault }

-- One address.

-- an address, and what its take-in answered
abbrev pub End : Type 0
End = Address × Result Taken TakeFault

-- its line; where its fault ends the round it has none
abbrev pub line_of : Address → Result Taken TakeFault → List ℕ
line_of a (Ok taken) = took_text a (counts_of taken)
line_of a (Err (TF.Marked name)) = marked_text a
line_of a (Err fault) = []

-- something was passed over there: a missing source, a file that is too long, or all, by a mark of another program
abbrev pub passes_over : Result Taken TakeFault → Bool
passes_over (Ok taken) = has_passed (counts_of taken)
passes_over (Err (TF.Marked name)) = true
passes_over (Err fault) = false

-- an address is told of
abbrev pub is_told : Telling → Result Taken TakeFault → Bool
is_told All end = true
is_told PassedOver end = passes_over end

abbrev pub end_text : Telling → End → List ℕ
end_text telling e = if is_told telling e.1 then line_of e.0 e.1 else []

-- the name of the mark of another program that was met there
abbrev pub mark_in : Result Taken TakeFault → Option (List ℕ)
mark_in (Ok taken) = None
mark_in (Err (TF.Marked name)) = Some name.list
mark_in (Err fault) = None

-- what ends the round: any fault but a mark
abbrev pub fault_at : Result Taken TakeFault → Option RoundFault
fault_at (Ok taken) = None
fault_at (Err TF.Disk) = Some Disk
fault_at (Err (TF.Marked name)) = None
fault_at (Err TF.Full) = Some Full
fault_at (Err TF.NoMemory) = Some NoMemory

-- the round goes on behind it
abbrev pub Passes : End → Type 0
Passes e = fault_at e.1 ≡ None

-- A store that is broken behind an address ends it in any case.
abbrev pub fault_behind : Option ℕ → Result Taken TakeFault → Option RoundFault
fault_behind None end = fault_at end
fault_behind (Some count) end = Some Disk

-- A round stops by that, or by want of memory for the line of an address that passes.
abbrev pub StopsAt : Option ℕ → RoundFault → End → Type 0
StopsAt broken fault e = (fault_behind broken e.1 ≡ Some fault) ⊎ ((fault_behind broken e.1 ≡ None) × (fault ≡ NoMemory))

-- the lines before an address and behind it, by what ended the round there
abbrev pub EndsSo : Telling → Option ℕ → Option RoundFault → End → (old new : List ℕ) → Type 0
EndsSo telling broken None e old new = (fault_behind broken e.1 ≡ None) × (new ≡ old ++ end_text telling e)
EndsSo telling broken (Some fault) e old new = StopsAt broken fault e × (new ≡ old)

-- what is told of one address more
pub record TellsMore (telling : Telling) (broken : Option ℕ) (e : End) (old new : RoundTold) : Type 0 where
  pub marked : new.marked ≡ option_or old.marked (mark_in e.1)
  pub ended : EndsSo telling broken new.fault e old.lines new.lines

-- what the take-in of one address says, by its answer
pub record TakesAddress (base : List ℕ) (zone : ℕ) (home : Address) (moment : ℕ) (a : Address) (end : Result Taken TakeFault) (old new : TakeStand) : Type 0 where
  pub works : Answered a moment (mark_text home) end old new
  pub left : IfOk end (λ taken. OnlyTakes a taken.over.items (told new))
  pub over : IfOk end (λ taken. AreOver a taken.over.items (told new))
  pub done : OnOk end (AllDone base zone home.domain a (told new))
  pub mark : EndsMark (path_ending a (codes ".bsy") base zone) end (told old) (told new)
  pub marked : IfErr end (WasMarked (path_ending a (codes ".bsy") base zone) (told old) (told new))
  pub breaks : IfErr end (λ fault. FaultBreaks fault new)

-- Many addresses, one after another.

-- the name of the first mark
abbrev pub first_marked : List End → Option (List ℕ)
first_marked [] = None
first_marked (e ∷ es) = option_or (mark_in e.1) (first_marked es)

-- each address passed, and is told; the store is whole
pub record Finished (telling : Telling) (broken : Option ℕ) (addresses : List Address) (ends : List End) (lines : List ℕ) : Type 0 where
  pub whole : broken ≡ None
  pub all : addresses ≡ map (λ (e : End). e.0) ends
  pub pass : Each Passes ends
  pub told_so : lines ≡ flat_map (end_text telling) ends

-- the last of those that were begun ended the round, and has no line; the rest were not begun
pub record Stopped (telling : Telling) (broken : Option ℕ) (fault : RoundFault) (addresses : List Address) (ends : List End) (lines : List ℕ) : Type 0 where
  pub before : List End
  pub last : End
  pub rest : List Address
  pub begun : ends ≡ before ++ last ∷ []
  pub all : addresses ≡ map (λ (e : End). e.0) ends ++ rest
  pub pass : Each Passes before
  pub stops : StopsAt broken fault last
  pub told_so : lines ≡ flat_map (end_text telling) before

-- by what ended it, if anything did
abbrev pub EndsBy : Telling → Option RoundFault → Option ℕ → List Address → List End → List ℕ → Type 0
EndsBy telling None broken addresses ends lines = Finished telling broken addresses ends lines
EndsBy telling (Some fault) broken addresses ends lines = Stopped telling broken fault addresses ends lines

-- the take-ins of these, from one store to the next
abbrev pub TakesEach : {D : Type 0} → (Holding D → TakeStand) → (base : List ℕ) → (zone : ℕ) → (home : Address) → (moment : ℕ) → List End → (old new : Holding D) → Type 0
TakesEach seen base zone home moment [] old new = new ≡ old
TakesEach {D} seen base zone home moment (e ∷ es) old new = (mid : Holding D) × TakesAddress base zone home moment e.0 e.1 (seen old) (seen mid) × TakesEach seen base zone home moment es mid new

-- these addresses are taken in, up to the first that ends the round, and told
pub record TakesThem {D : Type 0} (seen : Holding D → TakeStand) (telling : Telling) (base : List ℕ) (zone : ℕ) (home : Address) (moment : ℕ) (addresses : List Address) (round : RoundTold) (old new : Holding D) : Type 0 where
  pub ends : List End
  pub takes : TakesEach seen base zone home moment ends old new
  pub ended : EndsBy telling round.fault new.memory.broken addresses ends round.lines
  pub marked : round.marked ≡ first_marked ends

-- A whole outbound.

-- The addresses of a domain for which something is to be taken in, rising: those for which the store itself has something, and where
-- it tells what it keeps exactly those that need it.
pub record AreNeeded (base : List ℕ) (zone : ℕ) (domain : List ℕ) (left : List TakeName) (s : StoreState) (found : List Address) : Type 0 where
  pub rising : IsRising found
  pub own : (a : Address) → Member a found → IsOfDomain domain a
  pub kept : (a : Address) → IsOfDomain domain a → HasOwn left s.stock.state.queue a → Member a found
  pub told_so : IfTold s.content (λ x. (a : Address) → IsOfDomain domain a → Member a found ↔ Needs base zone x.outside left s.stock.state.queue a)

abbrev pub fault_of : StoreFault → RoundFault
fault_of SF.Disk = Disk
fault_of SF.Read = Disk
fault_of SF.Full = Full
fault_of SF.NoMemory = NoMemory

-- they are taken in; where they were not found nothing is told but the fault
abbrev pub TakesFound : {D : Type 0} → (Holding D → TakeStand) → Telling → (base : List ℕ) → (zone : ℕ) → (home : Address) → (moment : ℕ) → Result (List Address) StoreFault → RoundTold → (old new : Holding D) → Type 0
TakesFound seen telling base zone home moment (Ok addresses) round old new = TakesThem seen telling base zone home moment addresses round old new
TakesFound seen telling base zone home moment (Err fault) round old new = (round ≡ nothing_told (Some (fault_of fault))) × (new ≡ old)

-- The store is asked for the addresses, which changes nothing in it, and then takes them in.
pub record TakesRound {D : Type 0} (tells : Bool) (content : D → World) (faults moment : D → ℕ) (images : D → ℕ → World → Type 0) (telling : Telling) (base : List ℕ) (zone : ℕ) (home : Address) (now : ℕ) (round : RoundTold) (old new : Holding D) : Type 0 where
  pub found : Result (List Address) StoreFault
  pub mid : Holding D
  pub asks : Asks true found (stand_of tells content faults moment images old) (stand_of tells content faults moment images mid)
  pub needed : IfOk found (AreNeeded base zone home.domain old.takes.left (stand_of tells content faults moment images old).state)
  pub takes : TakesFound (seen_on tells content faults moment images) telling base zone home now found round mid new
