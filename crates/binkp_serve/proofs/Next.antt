-- Whom to call next, of the lists that were lent.
use Rattle.std.proofs.Common.{◌≡◌, ℕ, true, List, Some, get_or, length, refl, sym, ◌∙◌, subst}
use Rattle.std.specs.Prelude.{slice_get}
use Rattle.std.proofs.lemmas.Option.{slice_get_read, slice_get_within}
use Rattle.call_sched.specs.NextCall.{IsNext}
use Rattle.call_sched.specs.declared.words.Next.{Next}
use Rattle.call_sched.specs.declared.words.Next.TheVariants.{Call}
use Rattle.call_sched.specs.declared.words.Try.{Try}
use Rattle.call_sched.specs.declared.words.Wanted.{Wanted}
use Rattle.node_model.proofs.Lists.{some_inj}

pub next_of : (now : ℕ) (lent wanted : List Wanted) (lent' tries : List Try) (next : Next) → lent ≡ wanted → lent' ≡ tries → IsNext now lent lent' next → IsNext now wanted tries next
next_of now lent wanted lent' tries next all made is = subst (λ (l : List Try). IsNext now wanted l next) made (subst (λ (l : List Wanted). IsNext now l lent' next) all is)

-- the file whose turn it is stands at its place
pub next_there : (now : ℕ) (wanted : List Wanted) (tries : List Try) (place : ℕ) (x : Wanted) → IsNext now wanted tries (Call place) → x ≡ get_or wanted place x → slice_get wanted place ≡ Some x
next_there now wanted tries place x next is = slice_get_read wanted (length wanted) place x refl (slice_get_within wanted place next.item next.there) is

-- its address may be called
pub next_may : (now : ℕ) (wanted : List Wanted) (tries : List Try) (place : ℕ) (x : Wanted) → IsNext now wanted tries (Call place) → slice_get wanted place ≡ Some x → x.callable ≡ true
next_may now wanted tries place x next there = subst (λ (y : Wanted). y.callable ≡ true) (some_inj (sym next.there ∙ there)) next.may.0
