-- The name of a mark's note is none of the other own files'.
use Rattle.std.proofs.Common.{◌≡◌, ◌≢◌, ℕ, List, length, None, Bool, true, false, ◌&&◌, ◌==◌, refl, sym, ◌∙◌, ap, arith, take, drop}
use Rattle.std.specs.Prelude.{codes, if◌then◌else◌}
use Rattle.std.specs.List.{list_all}
use Rattle.std.proofs.lemmas.Bool.Decides.{Decides-eqb}
use Rattle.ftn_addr.specs.Address.{Address}
use Rattle.disk_model.specs.World.{World}
use Rattle.ledger_file.specs.Ledger.{ledger_name, new_name}
use Rattle.node_model.proofs.Lists.{and_both, and_true, off}
use Rattle.node_store.specs.declared.names.MarkKind.{MarkKind}
use Rattle.node_store.specs.declared.names.MarkKind.TheVariants.{Busy, Call}
use Rattle.node_store.specs.Names.{HasPlace, eight_digits, four_digits, from_one, hex_value, in_name, is_hex, is_mark_ending, is_note, is_one, is_take_ending, mark_name, out_name, place_digits, take_number}
use Rattle.node_store.specs.Strays.{nodelist_new}
use Rattle.node_store.specs.Worlds.{takes_in}
use Rattle.node_store.proofs.HeldTakes.{other_takes}
use Rattle.node_store.proofs.NameLaws.{hex_place}
use Rattle.node_store.proofs.TakeWorld.{IsBeside}

-- a note's name has 21 bytes
note_long : (name : List ℕ) → is_note name ≡ true → length name ≡ 21
unfolding is_note
note_long name is = (Decides-eqb (length name) 21).0 (and_true (length name == 21) _ is).0

pub note_no_take : (name : List ℕ) → is_note name ≡ true → take_number name ≡ None
unfolding take_number
note_no_take name is = go (length name == 30) refl
  where
    go : (b : Bool) → (length name == 30) ≡ b
        → (if length name == 30 && (is_one (take 1 name) (codes "t") && (is_one (take 1 (drop 9 name)) (codes "-") && (list_all is_hex (take 16 (drop 10 name)) && is_take_ending (take 4 (drop 26 name))))) then from_one (hex_value (take 8 (drop 1 name))) else None) ≡ None
    go true e =
        let long = note_long name is in
        let other = (Decides-eqb (length name) 30).0 e in
        absurd (omega (arith, long, other))
    go false e = ap (λ (b : Bool). if b && (is_one (take 1 name) (codes "t") && (is_one (take 1 (drop 9 name)) (codes "-") && (list_all is_hex (take 16 (drop 10 name)) && is_take_ending (take 4 (drop 26 name))))) then from_one (hex_value (take 8 (drop 1 name))) else None) e

pub in_no_note : (n : ℕ) → is_note (in_name n) ≡ false
unfolding is_note in_name eight_digits
in_no_note n = refl

pub out_no_note : (n : ℕ) → is_note (out_name n) ≡ false
unfolding is_note out_name eight_digits
out_no_note n = refl

pub ledger_no_note : is_note ledger_name ≡ false
unfolding is_note
ledger_no_note = refl

pub new_no_note : is_note new_name ≡ false
unfolding is_note
new_no_note = refl

pub nodelist_no_note : is_note nodelist_new ≡ false
unfolding is_note
nodelist_no_note = refl

-- another name than a note's
pub other_than : (own : List ℕ) → is_note own ≡ true → (name : List ℕ) → is_note name ≡ false → name ≢ own
other_than own note name other same = off (sym note ∙ ap is_note (sym same) ∙ other)

-- only a note changed
module _ (own : List ℕ) (note : is_note own ≡ true) (d c : World) (others : (n : List ℕ) → n ≢ own → c.own n ≡ d.own n) where
  pub note_beside : c.gifts ≡ d.gifts → IsBeside d c
  note_beside gifts = record {
    ledger = others ledger_name (other_than own note ledger_name ledger_no_note);
    outs = λ n. others (out_name n) (other_than own note (out_name n) (out_no_note n));
    ins = λ n. others (in_name n) (other_than own note (in_name n) (in_no_note n));
    gifts = gifts;
  }

  pub note_takes : takes_in c ≡ takes_in d
  note_takes = other_takes own (note_no_take own note) d c others

-- what is made as the name of a note is one
pub mark_is_note : (a : Address) (kind : MarkKind) → HasPlace a → is_note (mark_name a kind) ≡ true
unfolding is_note mark_name place_digits four_digits
mark_is_note a Busy h = and_both (list_all is_hex (place_digits a)) (is_mark_ending (codes ".bsy")) (hex_place a h) refl
mark_is_note a Call h = and_both (list_all is_hex (place_digits a)) (is_mark_ending (codes ".csy")) (hex_place a h) refl
