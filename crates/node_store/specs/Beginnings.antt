-- How an open part begins (own).
use Rattle.std.specs.Prelude.{◌≡◌, ℕ, ◌+◌, ◌==◌, ◌≤◌, Bool, false, List, length, take, Option, Some, None, if◌then◌else◌}
use Rattle.ftn_addr.specs.Address.{Address}
use Rattle.ftn_addr.specs.Files.{is_same}
use Rattle.ftn_addr.specs.Key.{Key}
use Rattle.ftn_addr.specs.declared.limits.TheConstants.{MAX_NUMBER}
use Rattle.disk_model.specs.Changes.{Only}
use Rattle.disk_model.specs.World.{World}
use Rattle.ledger_rec.specs.Record.{Mark}
use Rattle.node_model.specs.declared.store.PartAt.{PartAt}
use Rattle.node_store.specs.Stored.{Part, without_first}

-- Only that own file changed, and where it had so many bytes their front stays.
pub record Readies (name : List ℕ) (n : ℕ) (d c : World) : Type 0 where
  pub others : Only name d c
  pub front : (b : List ℕ) → d.own name ≡ Some b → n ≤ length b → (e : List ℕ) × (c.own name ≡ Some e) × (take n e ≡ take n b)

-- the number of its mark, else of the open part that it replaces, else the next one, if any is left
abbrev pub next_number : Option PartAt → Option Part → ℕ → Option ℕ
next_number (Some m) open_part drawn = Some m.part
next_number None (Some p) drawn = Some p.number
next_number None None drawn = if drawn == MAX_NUMBER then None else Some (drawn + 1)

-- how much its mark has
abbrev pub len_of : Option PartAt → ℕ
len_of None = 0
len_of (Some m) = m.len

abbrev pub unless_marked : {A : Type 0} → Option PartAt → A → Option A
unless_marked None first = Some first
unless_marked (Some m) first = None

-- a part that begins with what its mark has
abbrev pub begun : ℕ → Address → Key → Option PartAt → Part
begun number from key mark =
    record {
      number = number;
      from = from;
      key = key;
      have = len_of mark;
      receipt = record { receipt = number; from = from; key = key; session = 0; secure = false };
      first_mark = unless_marked mark (record { part = number; from = from; key = key; len = 0 });
      next_mark = Mark (record { part = number; from = from; key = key; len = 0 });
    }

-- that sender and key are the part's
abbrev pub has_file : Address → Key → Part → Bool
has_file from key p = is_same from key p.from p.key

-- the parts without the first of that sender and key
abbrev pub without_file : Address → Key → List Part → List Part
without_file from key ps = without_first (has_file from key) ps
