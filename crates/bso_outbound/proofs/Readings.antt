-- What is read of parts is read of the whole.
use Rattle.std.proofs.Common.{◌≡◌, ◌≢◌, ℕ, List, ◌++◌, length, take, drop, Option, Some, None, sym, ◌∙◌, ap, subst}
use Rattle.std.specs.Option.{option_zip}
use Rattle.std.proofs.lemmas.List.{take-append-drop}
use Rattle.bso_outbound.specs.Paths.{lower_case}
use Rattle.bso_outbound.specs.Reading.{Reads}
use Rattle.bso_outbound.proofs.Texts.{same_length, halves, joined}

-- a text of another length
pub other_length : {A : Type 0} (F : A → Type 0) (f : A → List ℕ) (text : List ℕ) → ((x : A) → F x → length text ≢ length (f x)) → Reads F f text None
other_length F f text other = λ x fits same. other x fits (same_length text (f x) same)

pub whole : (k : ℕ) (s x y : List ℕ) → x ≡ take k s → y ≡ drop k s → x ++ y ≡ s
whole k s x y a b = ap (λ (l : List ℕ). l ++ y) a ∙ ap (λ (l : List ℕ). take k s ++ l) b ∙ take-append-drop k s

-- two parts, each read by itself
zipped : {A B : Type 0} (F : A → Type 0) (G : B → Type 0) (f : A → List ℕ) (g : B → List ℕ) (x y : List ℕ) → ((a : A) → F a → length x ≡ length (f a)) → (r : Option A) (t : Option B) → Reads F f x r → Reads G g y t → Reads (λ (p : A × B). F p.0 × G p.1) (λ (p : A × B). f p.0 ++ g p.1) (x ++ y) (option_zip r t)
zipped F G f g x y len None t a b = λ p fits same. a p.0 fits.0 (halves x y (f p.0) (g p.1) (len p.0 fits.0) same).0
zipped F G f g x y len (Some u) None a b = λ p fits same. b p.1 fits.1 (halves x y (f p.0) (g p.1) (len p.0 fits.0) same).1
zipped F G f g x y len (Some u) (Some v) a b = ((a.0, b.0), joined x y (f u) (g v) a.1 b.1)

pub in_turn : {A B : Type 0} (F : A → Type 0) (G : B → Type 0) (f : A → List ℕ) (g : B → List ℕ) (s x y : List ℕ) → x ++ y ≡ s → ((a : A) → F a → length x ≡ length (f a)) → (r : Option A) (t : Option B) (z : Option (A × B)) → Reads F f x r → Reads G g y t → z ≡ option_zip r t → Reads (λ (p : A × B). F p.0 × G p.1) (λ (p : A × B). f p.0 ++ g p.1) s z
in_turn {A} {B} F G f g s x y all len r t z a b is =
    let R : List ℕ → Option (A × B) → Type 0 = λ l o. Reads (λ (p : A × B). F p.0 × G p.1) (λ (p : A × B). f p.0 ++ g p.1) l o in
    subst (λ (o : Option (A × B)). R s o) (sym is) (subst (λ (l : List ℕ). R l (option_zip r t)) all (zipped F G f g x y len r t a b))

-- a part that is read, before a given one
pub with_end : {A : Type 0} (F : A → Type 0) (f : A → List ℕ) (s x y e : List ℕ) → x ++ y ≡ s → ((a : A) → F a → length x ≡ length (f a)) → lower_case y ≡ lower_case e → (r : Option A) → Reads F f x r → Reads F (λ a. f a ++ e) s r
with_end F f s x y e all len same None a =
    λ p fits is. a p fits (halves x y (f p) e (len p fits) (ap lower_case all ∙ is)).0
with_end F f s x y e all len same (Some u) a = (a.0, sym (ap lower_case all) ∙ joined x y (f u) e a.1 same)

pub other_end : {A : Type 0} (F : A → Type 0) (f : A → List ℕ) (s x y e : List ℕ) → x ++ y ≡ s → ((a : A) → F a → length x ≡ length (f a)) → lower_case y ≢ lower_case e → Reads F (λ a. f a ++ e) s None
other_end F f s x y e all len other = λ p fits is. other (halves x y (f p) e (len p fits) (ap lower_case all ∙ is)).1

-- and behind a given one
pub with_front : {A : Type 0} (F : A → Type 0) (f : A → List ℕ) (s x y b : List ℕ) → x ++ y ≡ s → lower_case x ≡ lower_case b → (r : Option A) → Reads F f y r → Reads F (λ a. b ++ f a) s r
with_front F f s x y b all same None a =
    λ p fits is. a p fits (halves x y b (f p) (same_length x b same) (ap lower_case all ∙ is)).1
with_front F f s x y b all same (Some u) a = (a.0, sym (ap lower_case all) ∙ joined x y b (f u) same a.1)

pub other_front : {A : Type 0} (F : A → Type 0) (f : A → List ℕ) (s x y b : List ℕ) → x ++ y ≡ s → length x ≡ length b → lower_case x ≢ lower_case b → Reads F (λ a. b ++ f a) s None
other_front F f s x y b all len other = λ p fits is. other (halves x y b (f p) len (ap lower_case all ∙ is)).0

-- a second part that may be anything
pub any_second : {A B : Type 0} (F : A → Type 0) (f : A × B → List ℕ) (s : List ℕ) (r : Option (A × B)) → Reads (λ (p : A × B). F p.0 × Unit {0}) f s r → Reads (λ (p : A × B). F p.0) f s r
any_second F f s (Some p) a = (a.0.0, a.1)
any_second F f s None a = λ p fits is. a p (fits, tt) is
