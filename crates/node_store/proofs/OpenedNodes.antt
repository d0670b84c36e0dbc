-- The node of a store that was just opened is sound.
use Rattle.std.proofs.Common.{◌≡◌, ℕ, zero, suc, ◌+◌, ◌≤◌, ◌==◌, List, [], ◌∷◌, length, map, replicate, Option, Some, None, Bool, true, false, ◌&&◌, refl, sym, ◌∙◌, ap, subst, arith}
use Rattle.std.specs.Prelude.{if◌then◌else◌}
use Rattle.std.specs.Str.{bytes_eq}
use Rattle.std.proofs.lemmas.Bool.Decides.{Decides-eqb}
use Rattle.ftn_addr.specs.declared.limits.TheConstants.{MAX_NUMBER}
use Rattle.disk_model.specs.World as W
use Rattle.disk_model.specs.World.{World}
use Rattle.ledger_rec.specs.Fold.{State, is_among}
use Rattle.ledger_rec.specs.Items.{Entry}
use Rattle.node_model.specs.declared.words.TheConstants.{MOST_RECORDS}
use Rattle.node_model.specs.Node.{Settings, session_at}
use Rattle.node_model.specs.Sound.{Sound}
use Rattle.node_model.specs.StoreStates.{Stored, StoreState}
use Rattle.node_model.proofs.Lists.{none_some, and_true, some_inj}
use Rattle.node_model.proofs.Seats.{StoreFits, sound}
use Rattle.node_store.specs.Books.{Books}
use Rattle.node_store.specs.Contents.{Contents, durable_by}
use Rattle.node_store.specs.Finding.{IsNewMemory}
use Rattle.node_store.specs.Names.{in_name, out_name}
use Rattle.node_store.specs.Opening.{IsNewBooks, greatest, opened_memory}
use Rattle.node_store.specs.Outlines.{length-front, contents_map, stock_seen, told_outline}
use Rattle.node_store.specs.Sounds.{AreAsLong, seatless, KeepsSound}
use Rattle.node_store.specs.Stored.{Memory, AreGone, front_of, told_in, sizes_in, stock_by, stored_in, state_of}
use Rattle.node_store.specs.Worlds.{bytes_of, or_else, gift_of}
use Rattle.node_store.proofs.FoldSound.{IsWithin, fold_fits}
use Rattle.node_store.proofs.GivenFiles.{gone_at}
use Rattle.node_store.proofs.Greatest.{among_greatest, numbers_below}

-- What is told is as long as is asked.

gift_long : (own : List ℕ) (size : ℕ) (gifts : List W.Gift) (bytes : List ℕ) → gift_of own size gifts ≡ Some bytes → length bytes ≡ size
gift_long own size [] bytes is = none_some is
gift_long own size (g ∷ gs) bytes is = go (gift_of own size gs) refl is (gift_long own size gs bytes)
  where
    here : (b : Bool) → (bytes_eq g.own own && length g.bytes == size) ≡ b → (if b then Some g.bytes else None) ≡ Some bytes → length bytes ≡ size
    here true same e = ap length (sym (some_inj e)) ∙ (Decides-eqb (length g.bytes) size).0 (and_true (bytes_eq g.own own) (length g.bytes == size) same).1
    here false other e = none_some e

    go : (o : Option (List ℕ)) → gift_of own size gs ≡ o → or_else o (if bytes_eq g.own own && length g.bytes == size then Some g.bytes else None) ≡ Some bytes → (gift_of own size gs ≡ Some bytes → length bytes ≡ size) → length bytes ≡ size
    go (Some b) at e rest = rest (at ∙ e)
    go None at e rest = here (bytes_eq g.own own && length g.bytes == size) refl e

told_long : (w : World) (given : List ℕ) → AreGone given w → AreAsLong (told_in w given)
told_long w given gone = record {
  queued = λ n size. length-front size (bytes_of (w.own (out_name n)));
  received = λ n size bytes. go n size bytes (is_among n given) refl;
  front = λ n len. length-front len (bytes_of (w.own (in_name n)));
}
  where
    go : (n size : ℕ) (bytes : List ℕ) (b : Bool) → is_among n given ≡ b → (if b then or_else (w.own (in_name n)) (gift_of (in_name n) size w.gifts) else Some (front_of size (bytes_of (w.own (in_name n))))) ≡ Some bytes → length bytes ≡ size
    go n size bytes true among is = gift_long (in_name n) size w.gifts bytes (sym (ap (λ (o : Option (List ℕ)). or_else o (gift_of (in_name n) size w.gifts)) (gone_at w given gone n among)) ∙ is)
    go n size bytes false among is = ap length (sym (some_inj is)) ∙ length-front size (bytes_of (w.own (in_name n)))

-- of a store that tells nothing, zeros for what it may keep
abbrev zeros : List ℕ → Contents (List ℕ)
zeros given = record { queued = λ n size. replicate size 0; received = λ n size. Some (replicate size 0); front = λ n len. replicate len 0; given = λ n. is_among n given }

length-zeros : (n : ℕ) → length {A = ℕ} (replicate n 0) ≡ n
length-zeros zero = refl
length-zeros (suc n) = ap suc (length-zeros n)

zeros_long : (given : List ℕ) → AreAsLong (zeros given)
zeros_long given = record {
  queued = λ n size. length-zeros size;
  received = λ n size bytes is. ap length (sym (some_inj is)) ∙ length-zeros size;
  front = λ n len. length-zeros len;
}

zeros_sizes : (w : World) (given : List ℕ) → contents_map length (zeros given) ≡ sizes_in false w given
zeros_sizes w given = λ i. record { queued = λ n size. length-zeros size i; received = λ n size. Some (length-zeros size i); front = λ n len. length-zeros len i; given = λ n. is_among n given }

-- A node without seats.

no_session : (settings : Settings) (a : Stored) (s : StoreState) (k : ℕ) → session_at (seatless settings a s) k ≡ None
no_session settings a s zero = refl
no_session settings a s (suc k) = refl

seatless_sound : (settings : Settings) (a : Stored) (s : StoreState) → StoreFits a.stock.state s.staged s.drawn → s.records + s.reserved ≤ MOST_RECORDS → Sound (seatless settings a s)
seatless_sound settings a s store room = sound (seatless settings a s) (record {
  store = store;
  seats = record { each = λ k x at. none_some (sym (no_session settings a s k) ∙ at); pairs = λ j k x y apart at other. none_some (sym (no_session settings a s j) ∙ at) };
  all = omega arith;
  room = room;
})

-- A store that was opened.

within_greatest : (s : State) → IsWithin (greatest (map (λ (e : Entry). e.number) s.queue)) (greatest s.parts) s
within_greatest s = record { parts = λ n used. among_greatest n s.parts used; queue = numbers_below 0 (map (λ (e : Entry). e.number) s.queue) }

opened_fits : (c : Contents (List ℕ)) (b : Books) → AreAsLong c → IsNewBooks b → greatest b.folding.state.parts ≤ MAX_NUMBER
    → StoreFits (durable_by c b.folding.state) (greatest (map (λ (e : Entry). e.number) b.folding.state.queue)) (greatest b.folding.state.parts)
opened_fits c b long is few =
    fold_fits c long (greatest (map (λ (e : Entry). e.number) b.folding.state.queue)) (greatest b.folding.state.parts) b.payloads b.folding.state is.folds few (within_greatest b.folding.state)

module _ (w : World) (faults : ℕ) (b : Books) (given : List ℕ) (is : IsNewBooks b) (few : greatest b.folding.state.parts ≤ MAX_NUMBER) (room : length b.payloads + b.reserved ≤ MOST_RECORDS) (settings : Settings) where
  abbrev made_up : Stored
  made_up = record { stock = stock_by (zeros given) (opened_memory b given); recorded = []; takes = λ name. None; outside = λ path. None; gifts = []; log = [] }

  new_sound : (tells : Bool) → (tells ≡ true → AreGone given w) → KeepsSound settings (state_of tells w faults (opened_memory b given))
  new_sound true gone = record {
    keeps = stored_in w (opened_memory b given);
    tells = refl;
    stock = told_outline w (opened_memory b given);
    sound = seatless_sound settings (stored_in w (opened_memory b given)) (state_of true w faults (opened_memory b given)) (opened_fits (told_in w given) b (told_long w given (gone refl)) is few) room;
  }
  new_sound false gone = record {
    keeps = made_up;
    tells = tt;
    stock = sym (stock_seen length (zeros given) (opened_memory b given) ∙ ap (λ (c : Contents ℕ). stock_by c (opened_memory b given)) (zeros_sizes w given));
    sound = seatless_sound settings made_up (state_of false w faults (opened_memory b given)) (opened_fits (zeros given) b (zeros_long given) is few) room;
  }

pub memory_sound : (tells : Bool) (w : World) (faults : ℕ) (m : Memory) (settings : Settings) → IsNewMemory m → (tells ≡ true → AreGone m.given w) → m.drawn ≤ MAX_NUMBER → length m.books.payloads + m.books.reserved ≤ MOST_RECORDS → KeepsSound settings (state_of tells w faults m)
memory_sound tells w faults m settings new gone few room =
    let is = new.3 in
    subst (λ (x : Memory). KeepsSound settings (state_of tells w faults x)) (sym is)
    (new_sound w faults new.0 new.1 new.2 (subst (λ (x : Memory). x.drawn ≤ MAX_NUMBER) is few) (subst (λ (x : Memory). length x.books.payloads + x.books.reserved ≤ MOST_RECORDS) is room) settings tells (λ t. subst (λ (x : Memory). AreGone x.given w) is (gone t)))
