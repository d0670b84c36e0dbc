-- A staged file that may be queued alone.
use Rattle.std.proofs.Common.{◌≡◌, ◌==◌, ℕ, ◌<◌, true, nat_lt, List, [], ◌∷◌, Some, None, ◌∙◌, ap, length, get_or, map, option_map, position}
use Rattle.std.specs.List.{list_all}
use Rattle.std.proofs.lemmas.Bool.Decides.{Decides-ltb}
use Rattle.node_model.specs.Items.{Entry, EntryOf}
use Rattle.node_model.specs.Lists.{Each}
use Rattle.node_model.specs.Durable.{entry_map}
use Rattle.node_model.specs.Stocks.{StagedOf, NewEntry, staged_map, staged_in}
use Rattle.node_model.specs.StoreWords.{FitsQueue, IsNewBatch}
use Rattle.node_model.proofs.Lists.{and_true}
use Rattle.node_model.proofs.StockMaps.{first-map}
use Rattle.mem_store.proofs.Places.{found_at}
use Rattle.mem_store.specs.ListStates.{ListState, state_of}

all_lesser : (queue : List Entry) (number : ℕ) → list_all (λ (e : Entry). nat_lt e.number number) queue ≡ true → Each (λ (e : EntryOf ℕ). e.number < number) (map (entry_map length) queue)
all_lesser [] number e = tt
all_lesser (x ∷ queue) number e =
    let h = and_true (nat_lt x.number number) _ e in ((Decides-ltb x.number number).0 h.0, all_lesser queue number h.1)

pub batch_of_one : (s : ListState) (f : NewEntry) (i : ℕ) (x : StagedOf (List ℕ)) → FitsQueue f → position (λ (y : StagedOf (List ℕ)). y.number == f.number) s.staged ≡ Some i → x ≡ get_or s.staged i x → length x.content ≡ f.key.size → list_all (λ (e : Entry). nat_lt e.number f.number) s.queue ≡ true → IsNewBatch None None (f ∷ []) (state_of s)
batch_of_one s f i x fits there is size lesser =
    let found : staged_in f.number (map (staged_map length) s.staged) ≡ Some (staged_map length x) = first-map (staged_map length) (λ (y : StagedOf ℕ). y.number == f.number) s.staged ∙ ap (option_map (staged_map length)) (found_at (λ (y : StagedOf (List ℕ)). y.number == f.number) s.staged i x there is) in
    record {
      limits = (fits, tt);
      staged = ((staged_map length x, found, size), tt);
      rise = (tt, tt);
      above = (all_lesser s.queue f.number lesser, tt);
      take = tt;
      request = tt;
    }
