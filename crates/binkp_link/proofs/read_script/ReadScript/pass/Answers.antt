use Rattle.std.proofs.Common.{◌≡◌, ◌∙◌, ℕ, ◌++◌, List, ap, sym, subst, None, Some, IsSome, length, map, take, drop}
use Rattle.binkp_link.specs.declared.acts.ReadAct.{ReadAct}
use Rattle.binkp_link.specs.Scripts.{Act, Script, act_of, script_bytes, first_act, first_bytes, place_on, played}
use Rattle.binkp_link.proofs.Plays.{goes_on_taken, passes_left, passes_some, passes_taken, some_below, some_place}
use Rattle.binkp_link.proofs.read_script.ReadScript.pass.Goals as goal

pub invariant_of-self-in-None : goal.invariant_of-self-in-None
invariant_of-self-in-None c =
    let left = ap (λ (s : Script). s.left) c.self.view_is in
    let P : List Act → Type 0 = λ x. IsSome (first_act x) in
    passes_some _ c.self.inside.over c.self.inside.place (subst P (sym left) c.requires.some) c.self.invariant

pub returns-in-None-clause-left : goal.returns-in-None-clause-left
returns-in-None-clause-left c =
    let left = ap (λ (s : Script). s.left) c.self.view_is in
    let P : List Act → Type 0 = λ x. IsSome (first_act x) in
    let Q : List ReadAct → Type 0 = λ x. None ≡ place_on (length (first_bytes (drop c.self.inside.over (map act_of x)))) c.self.inside.place c.args.n in
    passes_left _ c.self.inside.over c.self.inside.place c.args.n (subst P (sym left) c.requires.some) (subst Q c.as_slice.ensures.value (c.in-None.ensures)) ∙ ap (λ (x : List Act). played c.args.n x) left

pub returns-in-None-clause-taken : goal.returns-in-None-clause-taken
returns-in-None-clause-taken c =
    let left = ap (λ (s : Script). s.left) c.self.view_is in
    let P : List Act → Type 0 = λ x. IsSome (first_act x) in
    let Q : List ReadAct → Type 0 = λ x. None ≡ place_on (length (first_bytes (drop c.self.inside.over (map act_of x)))) c.self.inside.place c.args.n in
    passes_taken _ c.self.inside.over c.self.inside.place c.args.n (subst P (sym left) c.requires.some) (subst Q c.as_slice.ensures.value (c.in-None.ensures)) ∙ ap (λ (s : Script). s.taken ++ take c.args.n (first_bytes s.left)) c.self.view_is

pub returns-in-Some-clause-taken : goal.returns-in-Some-clause-taken
returns-in-Some-clause-taken c =
    let Q : List ReadAct → Type 0 = λ x. Some c.in-Some.place ≡ place_on (length (first_bytes (drop c.self.inside.over (map act_of x)))) c.self.inside.place c.args.n in
    let is = subst Q c.as_slice.ensures.value c.in-Some.ensures in
    let before = script_bytes (take c.self.inside.over (map act_of c.self.inside.acts.items)) in
    let left = drop c.self.inside.over (map act_of c.self.inside.acts.items) in
    ap (λ (p : ℕ). before ++ take p (first_bytes left)) (some_place _ _ _ _ is) ∙ goes_on_taken before left _ _ (some_below _ _ _ _ is) ∙ ap (λ (s : Script). s.taken ++ take c.args.n (first_bytes s.left)) c.self.view_is
