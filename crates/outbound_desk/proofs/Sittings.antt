-- What queueing and acting leave of the entries that were queued.
use Rattle.std.proofs.Common.{◌≡◌, ℕ, Bool, true, false, ◌==◌, if◌then◌else◌, List, [], ◌∷◌, ◌++◌, Option, Some, None, refl, inl, inr}
use Rattle.node_model.specs.Durable.{acted_entry}
use Rattle.node_model.specs.Items.{EntryOf}
use Rattle.node_model.specs.Lists.{Member}
use Rattle.node_model.specs.Stocks.{StagedOf, NewEntry, entry_with, queued_as, queue_staged, queue_unless, queue_each, staged_in}

member_left : (e : EntryOf ℕ) (xs ys : List (EntryOf ℕ)) → Member e xs → Member e (xs ++ ys)
member_left e [] ys m = absurd m
member_left e (x ∷ xs) ys (inl is) = inl is
member_left e (x ∷ xs) ys (inr m) = inr (member_left e xs ys m)

staged_stays : (f : NewEntry) (o : Option (StagedOf ℕ)) (queue : List (EntryOf ℕ)) (e : EntryOf ℕ) → Member e queue → Member e (queue_staged f o queue)
staged_stays f None queue e m = m
staged_stays f (Some s) queue e m = member_left e queue (entry_with f s.content ∷ []) m

unless_stays : (f : NewEntry) (there : Option (EntryOf ℕ)) (o : Option (StagedOf ℕ)) (queue : List (EntryOf ℕ)) (e : EntryOf ℕ) → Member e queue → Member e (queue_unless f there o queue)
unless_stays f (Some x) o queue e m = m
unless_stays f None o queue e m = staged_stays f o queue e m

-- queueing keeps what was queued
pub queued_stays : (files : List NewEntry) (staged : List (StagedOf ℕ)) (queue : List (EntryOf ℕ)) (e : EntryOf ℕ) → Member e queue → Member e (queue_each files staged queue)
queued_stays [] staged queue e m = m
queued_stays (f ∷ files) staged queue e m =
    queued_stays files staged (queue_unless f (queued_as f.dest f.key queue) (staged_in f.number staged) queue) e (unless_stays f (queued_as f.dest f.key queue) (staged_in f.number staged) queue e m)

pub acted_number : (number : ℕ) (e : EntryOf ℕ) → (acted_entry number e).number ≡ e.number
acted_number number e = go (e.number == number)
  where
    go : (b : Bool) → (if b then record e { acted = true } else e).number ≡ e.number
    go true = refl
    go false = refl

pub acted_key : (number : ℕ) (e : EntryOf ℕ) → (acted_entry number e).key ≡ e.key
acted_key number e = go (e.number == number)
  where
    go : (b : Bool) → (if b then record e { acted = true } else e).key ≡ e.key
    go true = refl
    go false = refl
