use Rattle.std.proofs.Common.{◌≡◌, ℕ, ◌+◌, ◌<◌, ◌≤◌, List, [], ◌∷◌, ◌++◌, Option, Some, None, length, position, sym, ◌∙◌, ap, subst, arith}
use Rattle.std.specs.Str.{bytes_eq}
use Rattle.ftn_addr.specs.declared.limits.TheConstants.{MAX_NUMBER, MAX_SIZE}
use Rattle.node_model.specs.Stocks.{StagedOf}
use Rattle.mem_store.specs.contracts.list_store.ListStore.{the_view}
use Rattle.mem_store.specs.ListStates.{ListState}
use Rattle.mem_store.specs.Outsiders.{Placed, outside_of}
use Rattle.mem_store.proofs.Kept.{from_called}
use Rattle.mem_store.proofs.OutsideCalls.{copies, copies_absent, copies_over}
use Rattle.mem_store.proofs.Outsiding.{outside_found, outside_none, same_there}
use Rattle.mem_store.proofs.Places.{position_is}
use Rattle.mem_store.proofs.store_calls.ListStoreStore.stage_copy.Goals as goal

-- a place in the files as they were read is one among the files there
place_is : (p q : List ℕ) (files seen : List Placed) (found o : Option ℕ) → p ≡ q → seen ≡ files → found ≡ position (λ (f : Placed). bytes_eq p f.path) seen → found ≡ o → position (λ (f : Placed). bytes_eq q f.path) files ≡ o
place_is p q files seen found o path same is at =
    ap (λ (r : List ℕ). position (λ (f : Placed). bytes_eq r f.path) files) (sym path) ∙ (ap (λ (fs : List Placed). position (λ (f : Placed). bytes_eq p f.path) fs) (sym same) ∙ (sym is ∙ at))

pub returns-in_default-clause-kept : goal.returns-in_default-clause-kept
returns-in_default-clause-kept c =
    let s = the_view c.self.inside in
    let mid = c.count_call.new.self in
    let path = c.args.path.now.list in
    let few' : s.last_staged < MAX_NUMBER = omega (arith, c.if-self.false) in
    let few : mid.last_staged < MAX_NUMBER = subst (λ (z : ListState). z.last_staged < MAX_NUMBER) c.self.view_is few' in
    let none : outside_of s.outside path ≡ None = outside_none path s.outside (place_is c.as_slice-2.result.now path s.outside c.as_slice.result.now c.place_of_path.result None c.as_slice-2.ensures c.as_slice.ensures.value c.place_of_path.ensures c.in_default.is) in
    from_called _ _ _ _ _ c.in_ok-count_call.ensures.ok (copies_absent mid path few (subst (λ (z : ListState). outside_of z.outside path ≡ None) c.self.view_is none))

pub returns-then-stat-gt-MAX_SIZE-clause-kept : goal.returns-then-stat-gt-MAX_SIZE-clause-kept
returns-then-stat-gt-MAX_SIZE-clause-kept c =
    let s = the_view c.self.inside in
    let mid = c.count_call.new.self in
    let path = c.args.path.now.list in
    let file = c.index.result.now.file in
    let few' : s.last_staged < MAX_NUMBER = omega (arith, c.if-self.false) in
    let few : mid.last_staged < MAX_NUMBER = subst (λ (z : ListState). z.last_staged < MAX_NUMBER) c.self.view_is few' in
    let there : outside_of s.outside path ≡ Some file = outside_found path s.outside c.in-Some.place c.index.result.now (place_is c.as_slice-2.result.now path s.outside c.as_slice.result.now c.place_of_path.result (Some c.in-Some.place) c.as_slice-2.ensures c.as_slice.ensures.value c.place_of_path.ensures c.in-Some.is) c.index.ensures in
    let over : MAX_SIZE < length file.bytes = omega (arith, c.if-stat-gt-MAX_SIZE.true, c.stat-stat.ensures.size) in
    from_called _ _ _ _ _ c.in_ok-count_call.ensures.ok (copies_over mid path file few (subst (λ (z : ListState). outside_of z.outside path ≡ Some file) c.self.view_is there) over)

pub returns-clause-kept : goal.returns-clause-kept
returns-clause-kept c =
    let s = the_view c.self.inside in
    let path = c.args.path.now.list in
    let x = c.index.result.now in
    let n = s.last_staged + 1 in
    let stat = c.stat-stat.result in
    let few : n ≤ MAX_NUMBER = omega (arith, c.if-self.false) in
    let place = place_is c.as_slice-2.result.now path s.outside c.as_slice.result.now c.place_of_path.result (Some c.in-Some.place) c.as_slice-2.ensures c.as_slice.ensures.value c.place_of_path.ensures c.in-Some.is in
    let found : outside_of s.outside path ≡ Some x.file = outside_found path s.outside c.in-Some.place x place c.index.ensures in
    let timed : x.file ≡ record { bytes = x.file.bytes; time = stat.time } = λ j. record { bytes = x.file.bytes; time = (sym c.stat-stat.ensures.time) j } in
    let within : length x.file.bytes ≤ MAX_SIZE = omega (arith, c.if-stat-gt-MAX_SIZE.false, c.stat-stat.ensures.size) in
    let lt = (position_is (λ (f : Placed). bytes_eq path f.path) s.outside c.in-Some.place place).1 in
    let same : c.index-2.result.now ≡ x = same_there s.outside c.in-Some.place c.index-2.result.now x lt c.index-2.ensures c.index.ensures in
    let content : c.content.result.now ≡ x.file.bytes = c.content.ensures ∙ ap (λ (f : Placed). f.file.bytes) same in
    let staged : c.add.new.list.items ≡ s.staged ++ record { number = n; content = x.file.bytes } ∷ [] = c.in_ok-add.ensures.ok ∙ ap (λ (f : StagedOf (List ℕ)). s.staged ++ f ∷ []) (c.in_ok-copy.ensures ∙ (λ j. record { number = n; content = content j })) in
    rw staged (from_called _ _ _ _ _ (c.self.view_is ∙ c.in_ok-count_call.ensures.ok) (copies s path stat x.file.bytes few c.stat-stat.ensures.size within (found ∙ ap Some timed)))
