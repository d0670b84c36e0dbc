-- What a command asks for.
use Rattle.std.proofs.Common.{ap, subst, ◌≡◌, ℕ, List, [], Result, Ok, Err, IfOk, refl, sym}
use Rattle.ftn_addr.specs.Address.{Address}
use Rattle.session_auth.specs.Sides.{Side, Calls}
use Rattle.command_words.specs.Forms as W
use Rattle.command_words.specs.Forms.{Command}
use Rattle.binkp_mailer.specs.Words.{AsksFor, to_answer, to_call, Spells}

-- what isn't asked for at a home isn't at the same one
pub no_side : (command : Command) (home same : Address) → home ≡ same → ((side : Side) → AsksFor command home side → ⊥) → (side : Side) → AsksFor command same side → ⊥
no_side command home same is none = λ side asks. none side (subst (λ (h : Address). AsksFor command h side) (sym is) asks)

-- a call asks for what its text spells
pub called : (home : Address) (text : List ℕ) (side : Side) → ((peer : Address) × (side ≡ Calls peer) × Spells home text peer) → AsksFor (W.Call text) home side
called home text side (peer, is, spells) = to_call text peer is refl spells

-- the word behind a command
abbrev text_of : Command → List ℕ
text_of W.Answer = []
text_of (W.Call text) = text
text_of (W.Lookup text) = text
text_of (W.Compile path) = path
text_of W.Listing = []
text_of W.Taking = []
text_of W.Serving = []
text_of (W.Trying count start) = []

pub not_called : (home : Address) (text : List ℕ) → ((peer : Address) → Spells home text peer → ⊥) → (side : Side) → AsksFor (W.Call text) home side → ⊥
not_called home text none side (to_answer is answer) = let clash : W.Call text ≡ W.Answer = answer in cc
not_called home text none side (to_call other peer is call spells) = none peer (subst (λ (t : List ℕ). Spells home t peer) (sym (ap text_of call)) spells)

pub ok_so : {T E : Type 0} (r : Result T E) (P Q : T → Type 0) → ((x : T) → P x → Q x) → IfOk r P → IfOk r Q
ok_so (Ok x) P Q f p = f x p
ok_so (Err e) P Q f p = tt
