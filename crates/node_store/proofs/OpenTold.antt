-- A part begins: what is told then.
use Rattle.std.proofs.Common.{◌≡◌, ◌≢◌, ℕ, ◌+◌, ◌==◌, List, [], ◌∷◌, ◌++◌, map, Option, Some, None, Bool, true, false, not, ◌||◌, refl, sym, ◌∙◌, ap, append-nil, add-zero}
use Rattle.std.specs.Prelude.{find, max, option_map, if◌then◌else◌}
use Rattle.std.specs.List.{AllByRecursion}
use Rattle.std.proofs.lemmas.Bool.Decides.{Decides-eqb}
use Rattle.ftn_addr.specs.Address.{Address}
use Rattle.ftn_addr.specs.Files.{is_same}
use Rattle.ftn_addr.specs.Key.{Key}
use Rattle.ftn_addr.specs.declared.limits.TheConstants.{MAX_NUMBER}
use Rattle.disk_model.specs.World as W
use Rattle.disk_model.specs.World.{World}
use Rattle.ledger_rec.specs.Fold as F
use Rattle.ledger_rec.specs.Fold.{State}
use Rattle.ledger_rec.specs.Items.{Receipt, Refusal, PartMark, Hold}
use Rattle.node_model.specs.declared.store.PartAt.{PartAt}
use Rattle.node_model.specs.declared.words.Known.TheVariants.{New, Received, Refused}
use Rattle.node_model.specs.Durable.{DurableOf, mark_of, unmarked, is_received, is_refused}
use Rattle.node_model.specs.Items as N
use Rattle.node_model.specs.Items.{MarkOf}
use Rattle.node_model.specs.Lists.{Each, first_that, some_passes}
use Rattle.node_model.specs.Stocks.{known_in, part_of, next_part, part_number, draws_number, begins_with, part_opened}
use Rattle.node_model.specs.StoreStates.{stored_after, StoreState, changed}
use Rattle.node_model.specs.Stores.{opened}
use Rattle.node_model.specs.StoreWords.{part_at}
use Rattle.node_model.proofs.Lists.{some_inj, none_some, both_false, is_same_true}
use Rattle.node_store.specs.Beginnings.{Readies, next_number, len_of, begun, has_file, without_file}
use Rattle.node_store.specs.Contents.{Contents, receipt_by, refusal_of, mark_by, durable_by}
use Rattle.node_store.specs.Names.{in_name, out_name}
use Rattle.node_store.specs.Stored.{Part, Put, Memory, front_of, told_in, sizes_in, told_parts, part_by, staged_by, stock_by, stored_in, state_of, IsMemory}
use Rattle.node_store.specs.Tied.{Apart, AllApart, orderly_true}
use Rattle.node_store.specs.Worlds.{bytes_of, outside_in, gift_told, HasFiles}
use Rattle.node_store.proofs.Alike.{takes_alike}
use Rattle.node_store.proofs.BegunParts.{is_mark_of, at_mark, IsBeginning}
use Rattle.node_store.proofs.Mirrors.{map-append}
use Rattle.node_store.proofs.NameLaws.{one_in_name, in_not_out}
use Rattle.node_store.proofs.PartOpened.{opened_memory, others_differ, orderly_opened, alike_opened}
use Rattle.node_store.proofs.Puts.{same_sizes}
use Rattle.node_store.proofs.TellAlike.{durable_told}
use Rattle.node_store.proofs.GivenFiles.{same_alike}

-- look-ups of what is told

module _ {B : Type 0} (c : Contents B) (from : Address) (key : Key) where
  mark_found : (ms : List PartMark) → first_that (λ (m : MarkOf B). is_same from key m.from m.key) (map (mark_by c) ms) ≡ option_map (mark_by c) (find (is_mark_of from key) ms)
  mark_found [] = refl
  mark_found (m ∷ ms) = go (is_same from key m.from m.key) (mark_found ms)
    where
      go : (b : Bool) → first_that (λ (m : MarkOf B). is_same from key m.from m.key) (map (mark_by c) ms) ≡ option_map (mark_by c) (find (is_mark_of from key) ms)
          → (if b then Some (mark_by c m) else first_that (λ (m : MarkOf B). is_same from key m.from m.key) (map (mark_by c) ms)) ≡ option_map (mark_by c) (if b then Some m else find (is_mark_of from key) ms)
      go true rest = refl
      go false rest = rest

  part_found : (ps : List Part) → part_of from key (map (part_by c) ps) ≡ option_map (part_by c) (find (has_file from key) ps)
  part_found [] = refl
  part_found (p ∷ ps) = go (is_same from key p.from p.key) (part_found ps)
    where
      go : (b : Bool) → part_of from key (map (part_by c) ps) ≡ option_map (part_by c) (find (has_file from key) ps)
          → (if b then Some (part_by c p) else part_of from key (map (part_by c) ps)) ≡ option_map (part_by c) (if b then Some p else find (has_file from key) ps)
      go true rest = refl
      go false rest = rest

  -- the parts that stay
  pub left_told : (ps : List Part) → AllApart ps → map (part_by c) (without_file from key ps) ≡ unmarked from key (map (part_by c) ps)
  left_told [] apart = refl
  left_told (p ∷ ps) apart = go (is_same from key p.from p.key) refl (left_told ps apart.1)
    where
      behind : is_same from key p.from p.key ≡ true → (xs : List Part) → Each (Apart p) xs → unmarked from key (map (part_by c) xs) ≡ map (part_by c) xs
      behind same [] all = refl
      behind same (x ∷ xs) all =
          let file = is_same_true from key p.from p.key same in
          let differs : is_same from key x.from x.key ≡ false = ap (λ (a : Address). is_same a key x.from x.key) file.0 ∙ ap (λ (k : Key). is_same p.from k x.from x.key) file.1 ∙ all.0.1 in
          ap (λ (b : Bool). if not b then part_by c x ∷ unmarked from key (map (part_by c) xs) else unmarked from key (map (part_by c) xs)) differs
          ∙ ap (λ (l : List (MarkOf B)). part_by c x ∷ l) (behind same xs all.1)

      go : (b : Bool) → is_same from key p.from p.key ≡ b → map (part_by c) (without_file from key ps) ≡ unmarked from key (map (part_by c) ps)
          → map (part_by c) (if b then ps else p ∷ without_file from key ps) ≡ (if not b then part_by c p ∷ unmarked from key (map (part_by c) ps) else unmarked from key (map (part_by c) ps))
      go true same rest = sym (behind same ps apart.0)
      go false differs rest = ap (λ (l : List (MarkOf B)). part_by c p ∷ l) rest

-- a mark as the look-up finds it
pub mark_at : (tells : Bool) (w : World) (given : List ℕ) (from : Address) (key : Key) (s : State) (mark : Option PartAt) → mark ≡ option_map part_at (mark_of from key (durable_by (sizes_in tells w given) s)) → mark ≡ option_map at_mark (find (is_mark_of from key) s.marks)
mark_at tells w given from key s mark is = is ∙ ap (option_map part_at) (mark_found (sizes_in tells w given) from key s.marks) ∙ go (find (is_mark_of from key) s.marks)
  where
    go : (f : Option PartMark) → option_map part_at (option_map (mark_by (sizes_in tells w given)) f) ≡ option_map at_mark f
    go None = refl
    go (Some k) = refl

-- neither received nor refused, by the fold
pub unknown_folded : {B : Type 0} (c : Contents B) (from : Address) (key : Key) (s : State) → known_in from key (durable_by c s) ≡ New → F.is_known from key s ≡ false
unknown_folded {B} c from key s new =
    go (is_received from key (durable_by c s)) refl (is_refused from key (durable_by c s)) refl new
  where
    received_seen : (rs : List Receipt) → some_passes (λ (r : N.ReceiptOf B). is_same from key r.from r.key) (map (receipt_by c) rs) ≡ F.is_received from key rs
    received_seen [] = refl
    received_seen (r ∷ rs) = ap (λ (b : Bool). is_same from key r.from r.key || b) (received_seen rs)

    refused_seen : (rs : List Refusal) → some_passes (λ (r : N.Refusal). is_same from key r.from r.key) (map refusal_of rs) ≡ F.is_refused from key rs
    refused_seen [] = refl
    refused_seen (r ∷ rs) = ap (λ (b : Bool). is_same from key r.from r.key || b) (refused_seen rs)

    go : (a : Bool) → is_received from key (durable_by c s) ≡ a → (b : Bool) → is_refused from key (durable_by c s) ≡ b → (if a then Received else if b then Refused else New) ≡ New → F.is_known from key s ≡ false
    go true x b y e = absurd (cc)
    go false x true y e = absurd (cc)
    go false x false y e = both_false (F.is_received from key s.inbox) (F.is_refused from key s.refused) (sym (received_seen s.inbox) ∙ x) (sym (refused_seen s.refused) ∙ y)

-- The number of a part that begins.
module _ (m : Memory) (is : IsMemory m) (from : Address) (key : Key) (mark : Option PartAt) (is_mark : mark ≡ option_map at_mark (find (is_mark_of from key) m.books.folding.state.marks)) where
  told_part : {B : Type 0} (c : Contents B) → part_of from key (map (part_by c) (told_parts m.drawn m.parts)) ≡ option_map (part_by c) (find (has_file from key) m.parts)
  told_part c = ap (λ (b : Bool). part_of from key (map (part_by c) (if b then m.parts else []))) is.orderly ∙ part_found c from key m.parts

  pub number_is : {B : Type 0} (c : Contents B) (n : ℕ) → Some n ≡ next_number mark (find (has_file from key) m.parts) m.drawn → part_number from key m.drawn (stock_by c m) ≡ n
  number_is c n next =
      (λ i. next_part (mark_found c from key m.books.folding.state.marks i) (told_part c i) m.drawn)
      ∙ go (find (is_mark_of from key) m.books.folding.state.marks) (find (has_file from key) m.parts) (next ∙ ap (λ (x : Option PartAt). next_number x (find (has_file from key) m.parts) m.drawn) is_mark)
    where
      last : (b : Bool) → Some n ≡ (if b then None else Some (m.drawn + 1)) → m.drawn + 1 ≡ n
      last true e = none_some (sym e)
      last false e = sym (some_inj e)

      go : (f : Option PartMark) (o : Option Part) → Some n ≡ next_number (option_map at_mark f) o m.drawn → next_part (option_map (mark_by c) f) (option_map (part_by c) o) m.drawn ≡ n
      go (Some k) o e = sym (some_inj e)
      go None (Some o) e = sym (some_inj e)
      go None None e = last (m.drawn == MAX_NUMBER) e

  -- no number is left
  pub full_is : {B : Type 0} (c : Contents B) → None ≡ next_number mark (find (has_file from key) m.parts) m.drawn → (draws_number (mark_of from key (durable_by c m.books.folding.state)) (part_of from key (stock_by c m).parts) ≡ true) × (m.drawn ≡ MAX_NUMBER)
  full_is c next =
      let h = go (find (is_mark_of from key) m.books.folding.state.marks) (find (has_file from key) m.parts) (next ∙ ap (λ (x : Option PartAt). next_number x (find (has_file from key) m.parts) m.drawn) is_mark) in
      ((λ i. draws_number (mark_found c from key m.books.folding.state.marks i) (told_part c i)) ∙ h.0, h.1)
    where
      last : (b : Bool) → (m.drawn == MAX_NUMBER) ≡ b → None ≡ (if b then None else Some (m.drawn + 1)) → m.drawn ≡ MAX_NUMBER
      last true at e = (Decides-eqb m.drawn MAX_NUMBER).0 at
      last false at e = none_some e

      go : (f : Option PartMark) (o : Option Part) → None ≡ next_number (option_map at_mark f) o m.drawn → (draws_number (option_map (mark_by c) f) (option_map (part_by c) o) ≡ true) × (m.drawn ≡ MAX_NUMBER)
      go (Some k) o e = none_some e
      go None (Some o) e = none_some e
      go None None e = (refl, last (m.drawn == MAX_NUMBER) refl e)

  -- what it begins with
  pub begins_is : {B : Type 0} (c : Contents B) (none : B) (n : ℕ) → Some n ≡ next_number mark (find (has_file from key) m.parts) m.drawn → c.front n 0 ≡ none → begins_with none (mark_of from key (durable_by c m.books.folding.state)) ≡ c.front n (len_of mark)
  begins_is c none n next empty =
      ap (begins_with none) (mark_found c from key m.books.folding.state.marks)
      ∙ go (find (is_mark_of from key) m.books.folding.state.marks) (next ∙ ap (λ (x : Option PartAt). next_number x (find (has_file from key) m.parts) m.drawn) is_mark)
      ∙ ap (λ (x : Option PartAt). c.front n (len_of x)) (sym is_mark)
    where
      go : (f : Option PartMark) → Some n ≡ next_number (option_map at_mark f) (find (has_file from key) m.parts) m.drawn → begins_with none (option_map (mark_by c) f) ≡ c.front n (len_of (option_map at_mark f))
      go (Some k) e = ap (λ (i : ℕ). c.front i k.len) (sym (some_inj e))
      go None e = sym empty

  -- Its stock, where the other contents stay.
  module _ (n : ℕ) (next : Some n ≡ next_number mark (find (has_file from key) m.parts) m.drawn) (begins : IsBeginning m from key mark n) (hs : List Hold) where
    pub stock_opened : {B : Type 0} (old new : Contents B) (none : B) → new.front n 0 ≡ none → durable_by new m.books.folding.state ≡ durable_by old m.books.folding.state → map (part_by new) (without_file from key m.parts) ≡ map (part_by old) (without_file from key m.parts)
        → map (staged_by new) m.staged ≡ map (staged_by old) m.staged → stock_by new (opened_memory m hs from key mark n) ≡ part_opened from key n none (stock_by old m)
    stock_opened {B} old new none empty state lefts staged =
        let front : new.front n (len_of mark) ≡ begins_with none (mark_of from key (durable_by old m.books.folding.state)) =
        sym (begins_is new none n next empty) ∙ ap (λ (d : DurableOf B). begins_with none (mark_of from key d)) state in
        let parts : map (part_by new) (told_parts (max m.drawn n) (without_file from key m.parts ++ begun n from key mark ∷ []))
        ≡ unmarked from key (map (part_by old) (told_parts m.drawn m.parts)) ++ record { number = n; from = from; key = key; bytes = begins_with none (mark_of from key (durable_by old m.books.folding.state)) } ∷ [] =
        ap (λ (b : Bool). map (part_by new) (if b then without_file from key m.parts ++ begun n from key mark ∷ [] else [])) (orderly_opened m is from key mark n begins)
        ∙ map-append (part_by new) (without_file from key m.parts) (begun n from key mark ∷ [])
        ∙ (λ i. (lefts ∙ left_told old from key m.parts (orderly_true m.drawn m.parts is.orderly).0) i ++ record { number = n; from = from; key = key; bytes = front i } ∷ [])
        ∙ sym (ap (λ (b : Bool). unmarked from key (map (part_by old) (if b then m.parts else [])) ++ record { number = n; from = from; key = key; bytes = begins_with none (mark_of from key (durable_by old m.books.folding.state)) } ∷ []) is.orderly) in
        λ i. record { state = state i; parts = parts i; staged = staged i }

    -- What is told.
    module _ (tells : Bool) (told told' : World) (step : tells ≡ true → Readies (in_name n) (len_of mark) told told') (files : tells ≡ true → HasFiles m.books.folding.state told) where
      lefts_same : (t : tells ≡ true) (ps : List Part) → AllByRecursion (λ (p : Part). p.number ≢ n) ps → map (part_by (told_in told' m.given)) ps ≡ map (part_by (told_in told m.given)) ps
      lefts_same t [] differ = refl
      lefts_same t (p ∷ ps) differ = λ i.
          record { number = p.number; from = p.from; key = p.key; bytes = front_of p.have (bytes_of ((step t).others.others (in_name p.number) (λ same. differ.0 (one_in_name p.number n same)) i)) } ∷ lefts_same t ps differ.1 i

      staged_same : (t : tells ≡ true) (ps : List Put) → map (staged_by (told_in told' m.given)) ps ≡ map (staged_by (told_in told m.given)) ps
      staged_same t [] = refl
      staged_same t (p ∷ ps) = λ i.
          record { number = p.number; content = front_of p.size (bytes_of ((step t).others.others (out_name p.number) (λ same. in_not_out n p.number (sym same)) i)) } ∷ staged_same t ps i

      pub stored_opened : tells ≡ true → stored_in told' (opened_memory m hs from key mark n) ≡ stored_after (part_opened from key n []) m.seat [] (stored_in told m)
      stored_opened t =
          let a = alike_opened m is from key mark n begins told told' (step t) in
          let state = durable_told m.given told told' m.books.folding.state (files t) a in
          let stock = stock_opened (told_in told m.given) (told_in told' m.given) [] refl state (lefts_same t (without_file from key m.parts) (others_differ m is from key mark n begins)) (staged_same t m.staged) in
          let takes = takes_alike told told' a.takes in
          let outside = ap (λ (f : List ℕ → Option W.OutFile). outside_in (record told { outside = f })) a.outside in
          let log = sym (append-nil (stored_in told m).log) in
          λ i. record { stock = stock i; recorded = m.books.folding.state.takes; takes = takes i; outside = outside i; gifts = map gift_told (a.gifts i); log = log i }

      pub opened_told : (faults faults' : ℕ) → faults' ≡ faults → state_of tells told' faults' (opened_memory m hs from key mark n) ≡ opened from key (state_of tells told faults m)
      opened_told faults faults' calm =
          let sized = same_sizes tells told told' m.given (λ t. (alike_opened m is from key mark n begins told told' (step t)).gifts) (λ t. same_alike m.books.folding.state told told' m.given is.given (alike_opened m is from key mark n begins told told' (step t))) in
          let cs = sizes_in tells told m.given in
          let stock : stock_by (sizes_in tells told' m.given) (opened_memory m hs from key mark n) ≡ part_opened from key n 0 (stock_by cs m) =
          ap (λ (c : Contents ℕ). stock_by c (opened_memory m hs from key mark n)) sized ∙ stock_opened cs cs 0 refl refl refl refl in
          let content = go tells stored_opened in
          let records = sym (add-zero (state_of tells told faults m).records) in
          let appended = sym (add-zero (state_of tells told faults m).appended) in
          let s = state_of tells told faults m in
          let at : ℕ → StoreState = λ k. record (changed (part_opened from key k 0) (part_opened from key k []) [] s) { drawn = max m.drawn k } in
          let here : state_of tells told' faults' (opened_memory m hs from key mark n) ≡ at n = λ i. record s {
            content = content i;
            stock = stock i;
            records = records i;
            appended = appended i;
            drawn = max m.drawn n;
            counts = record { faults = calm i; fulls = m.fulls; broken = m.broken };
          } in
          here ∙ ap at (sym (number_is cs n next))
        where
          go : (b : Bool) → (b ≡ true → stored_in told' (opened_memory m hs from key mark n) ≡ stored_after (part_opened from key n []) m.seat [] (stored_in told m))
              → (if b then Some (stored_in told' (opened_memory m hs from key mark n)) else None) ≡ option_map (stored_after (part_opened from key n []) m.seat []) (if b then Some (stored_in told m) else None)
          go true is = ap Some (is refl)
          go false is = refl
