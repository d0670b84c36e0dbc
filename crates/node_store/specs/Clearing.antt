-- Notes of marks, and the marks that they name, go as a store is opened (own).
use Rattle.std.specs.Prelude.{◌≡◌, ◌≢◌, ◌⊎◌, ℕ, true, false, List, [], option_map, Some, None}
use Rattle.disk_model.specs.World.{OutFile, World}
use Rattle.node_model.specs.Lists.{Member}
use Rattle.node_store.specs.Aside.{SameAside}
use Rattle.node_store.specs.Names.{is_note}
use Rattle.node_store.specs.Opening.{Recovers}

-- the file at the path holds exactly the text
abbrev pub HoldsText : (text path : List ℕ) → World → Type 0
HoldsText text path w = option_map (λ (f : OutFile). f.bytes) (w.outside path) ≡ Some text

-- the file at the path is gone; it held exactly the text, and a note that path
pub record IsCleared (text path : List ℕ) (d c : World) : Type 0 where
  pub note : List ℕ
  pub named : is_note note ≡ true
  pub noted : d.own note ≡ Some path
  pub held : HoldsText text path d
  pub gone : c.outside path ≡ None

-- the note is gone, and the mark that it named, where that held the text; an empty note names none
pub record IsDropped (text note : List ℕ) (d c : World) : Type 0 where
  pub gone : c.own note ≡ None
  pub mark : (path : List ℕ) → d.own note ≡ Some path → path ≢ [] → HoldsText text path d → c.outside path ≡ None

-- What is outside is the same, but for marks with this text whose paths were noted; and no note went before its mark.
pub record ClearsMarks (text : List ℕ) (d c : World) : Type 0 where
  pub outside : (path : List ℕ) → (c.outside path ≡ d.outside path) ⊎ IsCleared text path d c
  pub notes : (name : List ℕ) → is_note name ≡ true → (c.own name ≡ d.own name) ⊎ IsDropped text name d c

-- each own file that is no note is the same
abbrev pub SameButNotes : World → World → Type 0
SameButNotes d c = (name : List ℕ) → is_note name ≡ false → c.own name ≡ d.own name

-- and nothing else changed
pub record ClearsNotes (text : List ℕ) (d c : World) : Type 0 where
  pub marks : ClearsMarks text d c
  pub own : SameButNotes d c
  pub gifts : c.gifts ≡ d.gifts

-- no note stands
abbrev pub HasNoNote : World → Type 0
HasNoNote w = (name bytes : List ℕ) → w.own name ≡ Some bytes → is_note name ≡ true → ⊥

-- each note that stands is one of these names
abbrev pub HasNotesAmong : List (List ℕ) → World → Type 0
HasNotesAmong names w = (name bytes : List ℕ) → w.own name ≡ Some bytes → is_note name ≡ true → Member name names

-- the same is outside in both worlds
abbrev pub SameOut : World → World → Type 0
SameOut f c = c.outside ≡ f.outside

-- what opens goes on opening so, and nothing outside changed, nor a note, nor an own file that isn't the store's
pub record Restores (d c : World) : Type 0 where
  pub recovers : Recovers d c
  pub outside : c.outside ≡ d.outside
  pub notes : (name : List ℕ) → is_note name ≡ true → c.own name ≡ d.own name
  pub aside : SameAside d c
