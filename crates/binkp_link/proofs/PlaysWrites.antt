-- How a script of writes is played: an act that isn't the last is over after its write.
use Rattle.std.proofs.Common.{◌≡◌, ℕ, ◌+◌, ◌-◌, ◌<◌, ◌≤◌, List, [], ◌∷◌, length, drop, get_or, arith, refl, sym, subst}
use Rattle.std.proofs.lemmas.List.{drop_more, length-drop}
use Rattle.binkp_link.specs.declared.acts.WriteAct.{WriteAct}
use Rattle.binkp_link.specs.declared.acts.WriteAct.TheVariants.{Quiet}
use Rattle.binkp_link.specs.Scripts.{AllTakeSome, after_write_act}

pub next_write : (acts : List WriteAct) (i : ℕ) → 1 < length acts - i → drop (i + 1) acts ≡ after_write_act (drop i acts)
next_write acts i more =
    let here : i < length acts = omega (arith, more) in
    let next : i + 1 < length acts = omega (arith, more) in
    let P : List WriteAct → Type 0 = λ x. drop (i + 1) acts ≡ after_write_act x in
    let Q : List WriteAct → Type 0 = λ x. x ≡ after_write_act (get_or acts i Quiet ∷ x) in
    subst P (sym (drop_more acts i Quiet here)) (subst Q (sym (drop_more acts (i + 1) Quiet next)) refl)

last_stays : (acts : List WriteAct) → length acts ≤ 1 → acts ≡ after_write_act acts
last_stays [] few = refl
last_stays (act ∷ []) few = refl
last_stays (act ∷ next ∷ acts) few = absurd (omega (arith, few))

pub last_write : (acts : List WriteAct) (i : ℕ) → length acts - i ≤ 1 → drop i acts ≡ after_write_act (drop i acts)
last_write acts i few = last_stays (drop i acts) (omega (arith, few, length-drop i acts))

after_some : (acts : List WriteAct) → AllTakeSome acts → AllTakeSome (after_write_act acts)
after_some [] some = tt
after_some (act ∷ []) some = some
after_some (act ∷ next ∷ acts) some = some.1

pub next_some : (acts : List WriteAct) (i : ℕ) → 1 < length acts - i → AllTakeSome (drop i acts) → AllTakeSome (drop (i + 1) acts)
next_some acts i more some =
    let P : List WriteAct → Type 0 = λ x. AllTakeSome x in
    subst P (sym (next_write acts i more)) (after_some (drop i acts) some)
