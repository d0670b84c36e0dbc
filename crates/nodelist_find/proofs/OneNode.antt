-- One more node of an index, whose address is above the last.
use Rattle.std.proofs.Common.{◌≡◌, ℕ, suc, ◌+◌, ◌-◌, ◌<◌, ◌≤◌, List, [], ◌∷◌, ◌++◌, length, get_or, map, Result, Ok, sym, ap, ◌∙◌, subst, inl, inr, arith}
use Rattle.std.proofs.lemmas.Bool.{cases_lt}
use Rattle.std.proofs.lemmas.List.{length-map, length-append, map-append}
use Rattle.std.proofs.Math.ListN.{get_or-append}
use Rattle.std.proofs.Math.Seq.{get_or-append_seam}
use Rattle.nodelist_comp.specs.Node.{ListedNode, place_of}
use Rattle.ftn_addr.specs.Outcomes.{◌>>=◌}
use Rattle.nodelist_find.specs.Cursor.{Left}
use Rattle.nodelist_find.specs.Nodes.{IsSpot, SpotAt, address_of, bounds_for, node_at, nodes_from, ordinal, place_at}
use Rattle.nodelist_find.specs.Rising.{Rises, Rising}
use Rattle.nodelist_find.specs.declared.fault.IndexFault.{IndexFault}

rises_push : (ps : List ℕ) (p : ℕ) → Rises ps → (0 < length ps → get_or ps (length ps - 1) 0 < p) → Rises (ps ++ p ∷ [])
rises_push ps p rises last i j below within =
    let whole = length-append ps (p ∷ []) in
    elim (cases_lt j (length ps)) as (λ _. get_or (ps ++ p ∷ []) i 0 < get_or (ps ++ p ∷ []) j 0) [
      | inl inside ↦ (let first = get_or-append ps (p ∷ []) 0 i (omega arith) in
          let second = get_or-append ps (p ∷ []) 0 j inside in
          let rise = rises i j below inside in
          omega arith)
      | inr at_end ↦ (let ends : j ≡ length ps = omega arith in
          let first = get_or-append ps (p ∷ []) 0 i (omega arith) in
          let second : get_or (ps ++ p ∷ []) j 0 ≡ p = ap (λ (k : ℕ). get_or (ps ++ p ∷ []) k 0) ends ∙ get_or-append_seam ps p [] 0 in
          let top : get_or ps (length ps - 1) 0 < p = last (omega arith) in
          elim (cases_lt i (length ps - 1)) as (λ _. get_or (ps ++ p ∷ []) i 0 < get_or (ps ++ p ∷ []) j 0) [
            | inl lower ↦ (let rise = rises i (length ps - 1) lower (omega arith) in omega arith)
            | inr highest ↦ (let same : get_or ps i 0 ≡ get_or ps (length ps - 1) 0 = ap (λ (k : ℕ). get_or ps k 0) (omega arith) in omega arith)
          ])
    ]

-- the last address is below that of this number
abbrev pub IsBelow : List ListedNode → ℕ → Type 0
IsBelow [] next = Unit {0}
IsBelow (n ∷ []) next = IsSpot (address_of n) × (ordinal (address_of n) < next)
IsBelow (n ∷ m ∷ nodes) next = IsBelow (m ∷ nodes) next

pub below_push : (nodes : List ListedNode) (n : ListedNode) → IsSpot (address_of n) → IsBelow (nodes ++ n ∷ []) (ordinal (address_of n) + 1)
below_push [] n is = (is, omega arith)
below_push (m ∷ []) n is = (is, omega arith)
below_push (m ∷ k ∷ nodes) n is = below_push (k ∷ nodes) n is

-- addresses rise as their numbers do
pub place_rises : (a b : SpotAt) → IsSpot a → IsSpot b → ordinal a < ordinal b → place_at a < place_at b
place_rises a b x y below =
    let a_net : a.net ≤ 32767 = x.net in let a_node : a.node ≤ 32767 = x.node in
    let b_net : b.net ≤ 32767 = y.net in let b_node : b.node ≤ 32767 = y.node in
    omega (arith, below, a_net, a_node, b_net, b_node)

last_below : (nodes : List ListedNode) (next : ℕ) (s : SpotAt) → IsBelow nodes next → IsSpot s → next ≤ ordinal s → 0 < length nodes → get_or (map place_of nodes) (length nodes - 1) 0 < place_at s
last_below [] next s below is on some = absurd (omega arith)
last_below (n ∷ []) next s below is on some = place_rises (address_of n) s below.0 is (omega (arith, below.1, on))
last_below (n ∷ m ∷ nodes) next s below is on some =
    let step : suc (length (m ∷ nodes) - 1) ≡ length (n ∷ m ∷ nodes) - 1 = omega arith in
    subst (λ (k : ℕ). get_or (map place_of (n ∷ m ∷ nodes)) k 0 < place_at s) step (last_below (m ∷ nodes) next s below is on (omega arith))

pub rising_more : (nodes : List ListedNode) (n : ListedNode) (next : ℕ) → Rising nodes → IsBelow nodes next → IsSpot (address_of n) → next ≤ ordinal (address_of n) → Rising (nodes ++ n ∷ [])
rising_more nodes n next rising below is on =
    let count = length-map nodes place_of in
    let last : 0 < length (map place_of nodes) → get_or (map place_of nodes) (length (map place_of nodes) - 1) 0 < place_of n = λ some. subst (λ (k : ℕ). get_or (map place_of nodes) k 0 < place_of n) (ap (λ (k : ℕ). k - 1) (sym count)) (last_below nodes next (address_of n) below is on (omega arith)) in
    subst (λ (ps : List ℕ). Rises ps) (sym (map-append place_of nodes (n ∷ []))) (rises_push (map place_of nodes) (place_of n) rising last)

pub nodes_more : (left k next : ℕ) (nodes : List ListedNode) (rest after : Left) (n : ListedNode) → left ≡ suc k → node_at (bounds_for next left) rest ≡ Ok (n, after) → nodes_from left next nodes rest ≡ nodes_from k (ordinal (address_of n) + 1) (nodes ++ n ∷ []) after
nodes_more left k next nodes rest after n one read =
    ap (λ (c : ℕ). nodes_from c next nodes rest) one ∙ ap (λ (r : Result (ListedNode × Left) IndexFault). r >>= λ x. nodes_from k (ordinal (address_of x.0) + 1) (nodes ++ x.0 ∷ []) x.1) (ap (λ (c : ℕ). node_at (bounds_for next c) rest) (sym one) ∙ read)
