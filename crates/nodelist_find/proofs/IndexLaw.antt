-- The index of a list is read as its nodes in order.
use Rattle.std.proofs.Common.{◌≡◌, ℕ, ◌+◌, ◌*◌, ◌/◌, ◌%◌, ◌-◌, ◌^◌, ◌<◌, ◌≤◌, min, Bool, true, false, cond, eqb, ltb, List, [], ◌∷◌, ◌++◌, length, map, Result, Ok, fold, refl, sym, ap, ◌∙◌, inl, inr, arith}
use Rattle.std.specs.Prelude.{codes}
use Rattle.std.specs.Int.{w16, w32, to_be_bytes}
use Rattle.std.specs.List.{AllByRecursion, flat_map}
use Rattle.std.proofs.lemmas.Bool.{cases_Bool, eqb-true, eqb-false, ltb-true, ltb-false, or_parts}
use Rattle.std.proofs.lemmas.List.{append_assoc, append-nil}
use Rattle.nodelist_comp.specs.Index.{host_bytes, in_order, index_of, insert_node, kind_byte, node_bytes, with_node}
use Rattle.nodelist_comp.specs.Node.{ListedNode, has_place, place_of}
use Rattle.nodelist_find.proofs.ReadBack.{Reads, address_again, host_again, kind_again, number_again}
use Rattle.nodelist_find.proofs.SpotNumbers.{is_bounds, ordinal-spot_at}
use Rattle.ftn_addr.specs.Outcomes.{◌>>=◌}
use Rattle.nodelist_find.specs.Cursor.{Left, after_magic}
use Rattle.nodelist_find.specs.Law.{IsListed, clipped}
use Rattle.nodelist_find.specs.Nodes.{Bounds, IsAmong, IsBounds, address_of, all_numbers, bounds_for, count_at, node_at, nodes_from, ordinal, read_index}
use Rattle.nodelist_find.specs.declared.fault.IndexFault.{IndexFault}

abbrev left : ℕ → List ℕ → Left
left place rest = record { place = place; rest = rest }

-- the bytes of a node, grouped from the right
pub node_spelled : (n : ListedNode) (rest : List ℕ) → node_bytes n ++ rest ≡ to_be_bytes w16 n.zone ++ (to_be_bytes w16 n.net ++ (to_be_bytes w16 n.node ++ (kind_byte n.kind ∷ (host_bytes n.host ++ (to_be_bytes w16 n.port ++ rest)))))
node_spelled n rest =
    ap (λ (host : List ℕ). to_be_bytes w16 n.zone ++ (to_be_bytes w16 n.net ++ (to_be_bytes w16 n.node ++ (kind_byte n.kind ∷ host)))) (append_assoc (host_bytes n.host) (to_be_bytes w16 n.port) rest)

node_again : (b : Bounds) (place : ℕ) (n : ListedNode) (rest : List ℕ) → IsBounds b → IsListed n → IsAmong b (address_of n) → Reads (node_at b (left place (node_bytes n ++ rest))) (clipped n) rest
unfolding node_at
node_again b place n rest is fits among =
    let spelled = node_spelled n rest in
    let address = address_again place b (address_of n) (kind_byte n.kind ∷ (host_bytes n.host ++ (to_be_bytes w16 n.port ++ rest))) is among in
    let kind = kind_again (place + 1 + 1 + 1 + 1 + 1 + 1) n.kind (host_bytes n.host ++ (to_be_bytes w16 n.port ++ rest)) in
    let host = host_again (place + 1 + 1 + 1 + 1 + 1 + 1 + 1) n.host (to_be_bytes w16 n.port ++ rest) in
    let port = number_again all_numbers host.0 n.port rest fits.port (omega arith, omega (arith, fits.port)) in
    (host.0 + 1 + 1, ap (λ (bytes : List ℕ). node_at b (left place bytes)) spelled ∙ rw (address, kind, host.1, port) refl)

-- each node has a number of at least the one before and one
abbrev pub Climbs : ℕ → List ListedNode → Type 0
Climbs next [] = Unit {0}
Climbs next (n ∷ nodes) = (next ≤ ordinal (address_of n)) × Climbs (ordinal (address_of n) + 1) nodes

-- a list that climbs leaves room for what is behind its first node
climbs_room : (next : ℕ) (nodes : List ListedNode) → next ≤ 2 ^ 45 → AllByRecursion IsListed nodes → Climbs next nodes → next + length nodes ≤ 2 ^ 45
climbs_room next [] low fits climbs = omega (arith, low)
climbs_room next (n ∷ nodes) low fits climbs =
    let z : n.zone ≤ 32767 = fits.0.zone in let t : n.net ≤ 32767 = fits.0.net in let d : n.node ≤ 32767 = fits.0.node in
    let more = climbs_room (ordinal (address_of n) + 1) nodes (omega (arith, z, t, d)) fits.1 climbs.1 in
    omega (arith, more, climbs.0)

nodes_again : (next place : ℕ) (before nodes : List ListedNode) (rest : List ℕ) → next ≤ 2 ^ 45 → AllByRecursion IsListed nodes → Climbs next nodes → Reads (nodes_from (length nodes) next before (left place (flat_map node_bytes nodes ++ rest))) (before ++ map clipped nodes) rest
nodes_again next place before [] rest low fits climbs = (place, ap (λ (ns : List ListedNode). Ok (ns, left place rest)) (sym (append-nil before)))
nodes_again next place before (n ∷ nodes) rest low fits climbs =
    let z : n.zone ≤ 32767 = fits.0.zone in let t : n.net ≤ 32767 = fits.0.net in let d : n.node ≤ 32767 = fits.0.node in
    let room : next + length (n ∷ nodes) ≤ 2 ^ 45 = climbs_room next (n ∷ nodes) low fits climbs in
    let behind : ordinal (address_of n) + 1 + length nodes ≤ 2 ^ 45 = climbs_room (ordinal (address_of n) + 1) nodes (omega (arith, z, t, d)) fits.1 climbs.1 in
    let b = bounds_for next (length (n ∷ nodes)) in
    let among : IsAmong b (address_of n) = record {
      is = record { zone = z; net = t; node = d };
      low = omega (arith, ordinal-spot_at next, climbs.0);
      high = omega (arith, ordinal-spot_at (2 ^ 45 - length (n ∷ nodes)), behind);
    } in
    let one = node_again b place n (flat_map node_bytes nodes ++ rest) (is_bounds next (length (n ∷ nodes)) (omega arith) room) fits.0 among in
    let more = nodes_again (ordinal (address_of n) + 1) one.0 (before ++ clipped n ∷ []) nodes rest (omega (arith, z, t, d)) fits.1 climbs.1 in
    let first : node_at b (left place ((node_bytes n ++ flat_map node_bytes nodes) ++ rest)) ≡ Ok (clipped n, left one.0 (flat_map node_bytes nodes ++ rest)) = ap (λ (bytes : List ℕ). node_at b (left place bytes)) (append_assoc (node_bytes n) (flat_map node_bytes nodes) rest) ∙ one.1 in
    (more.0, ap (λ (r : Result (ListedNode × Left) IndexFault). r >>= λ x. nodes_from (length nodes) (ordinal (address_of x.0) + 1) (before ++ x.0 ∷ []) x.1) first ∙ more.1 ∙ ap (λ (ns : List ListedNode). Ok (ns, left more.0 rest)) (append_assoc before (clipped n ∷ []) (map clipped nodes)))

-- places rise as numbers do
pub ordinal_rises : (a b : ListedNode) → IsListed a → IsListed b → place_of a < place_of b → ordinal (address_of a) + 1 ≤ ordinal (address_of b)
ordinal_rises a b x y below =
    let at : a.net ≤ 32767 = x.net in let ad : a.node ≤ 32767 = x.node in
    let bt : b.net ≤ 32767 = y.net in let bd : b.node ≤ 32767 = y.node in
    omega (arith, below, at, ad, bt, bd)

-- a node at its place keeps the climb
climbs-insert : (next : ℕ) (n : ListedNode) (nodes : List ListedNode) → has_place nodes (place_of n) ≡ false → IsListed n → AllByRecursion IsListed nodes → next ≤ ordinal (address_of n) → Climbs next nodes → Climbs next (insert_node n nodes)
climbs-insert next n [] absent one fits over climbs = (over, tt)
climbs-insert next n (m ∷ nodes) absent one fits over climbs =
    let apart = or_parts (eqb (place_of m) (place_of n)) (has_place nodes (place_of n)) absent in
    elim (cases_Bool (ltb (place_of n) (place_of m))) as (λ _. Climbs next (insert_node n (m ∷ nodes))) [
      | inl before ↦ rw before (over, (ordinal_rises n m one fits.0 (ltb-true _ _ before), climbs.1))
      | inr behind ↦ (let not_before = ltb-false (place_of n) (place_of m) behind in
          let differ = eqb-false (place_of m) (place_of n) apart.0 in
          rw behind (climbs.0, climbs-insert (ordinal (address_of m) + 1) n nodes apart.1 one fits.1 (ordinal_rises m n fits.0 one (omega (arith, differ, not_before))) climbs.1))
    ]

fits-insert : (n : ListedNode) (nodes : List ListedNode) → IsListed n → AllByRecursion IsListed nodes → AllByRecursion IsListed (insert_node n nodes)
fits-insert n [] one fits = (one, tt)
fits-insert n (m ∷ nodes) one fits =
    elim (cases_Bool (ltb (place_of n) (place_of m))) as (λ _. AllByRecursion IsListed (insert_node n (m ∷ nodes))) [
      | inl before ↦ rw before (one, fits)
      | inr behind ↦ rw behind (fits.0, fits-insert n nodes one fits.1)
    ]

ordered : (sorted nodes : List ListedNode) → Climbs 0 sorted → AllByRecursion IsListed sorted → AllByRecursion IsListed nodes → Climbs 0 (fold with_node sorted nodes) × AllByRecursion IsListed (fold with_node sorted nodes)
ordered sorted [] climbs fits more = (climbs, fits)
ordered sorted (n ∷ nodes) climbs fits more =
    elim (cases_Bool (has_place sorted (place_of n))) as (λ _. Climbs 0 (fold with_node (with_node sorted n) nodes) × AllByRecursion IsListed (fold with_node (with_node sorted n) nodes)) [
      | inl present ↦ rw present (ordered sorted nodes climbs fits more.1)
      | inr absent ↦ rw absent (ordered (insert_node n sorted) nodes (climbs-insert 0 n sorted absent more.0 fits (omega arith) climbs) (fits-insert n sorted more.0 fits) more.1)
    ]

four : (a b c d e f g h : ℕ) → a ≡ e → b ≡ f → c ≡ g → d ≡ h → (a ∷ b ∷ c ∷ d ∷ []) ≡ (e ∷ f ∷ g ∷ h ∷ [])
four a b c d e f g h w x y z = rw (w, x, y, z) refl

-- a count in four bytes is two numbers
pub count_halves : (count : ℕ) → to_be_bytes w32 count ≡ to_be_bytes w16 (count / 65536) ++ to_be_bytes w16 (count % 65536)
count_halves count = four _ _ _ _ _ _ _ _ (omega arith) (omega arith) (omega arith) (omega arith)

low_half : (count : ℕ) (p : Bool) → eqb (count / 65536) 1 ≡ p → count ≤ 65536 → count % 65536 ≤ cond p 0 65535
low_half count true e few = let one = eqb-true (count / 65536) 1 e in omega (arith, one, few)
low_half count false e few = omega arith

count_again : (place count : ℕ) (rest : List ℕ) → count ≤ 65536 → count_at (left place (to_be_bytes w32 count ++ rest)) ≡ Ok (count, left (place + 1 + 1 + 1 + 1) rest)
unfolding count_at
count_again place count rest few =
    let high = number_again (record { low = 0; high = 1 }) place (count / 65536) (to_be_bytes w16 (count % 65536) ++ rest) (omega (arith, few)) (omega arith, omega (arith, few)) in
    let low = number_again (record { low = 0; high = cond (eqb (count / 65536) 1) 0 65535 }) (place + 1 + 1) (count % 65536) rest (omega arith) (omega arith, low_half count (eqb (count / 65536) 1) refl few) in
    let sum : count / 65536 * 65536 + count % 65536 ≡ count = omega arith in
    ap (λ (bytes : List ℕ). count_at (left place (bytes ++ rest))) (count_halves count) ∙ rw (high, low) (ap (λ (k : ℕ). Ok (k, left (place + 1 + 1 + 1 + 1) rest)) sum)

magic_again : (rest : List ℕ) → after_magic (codes "nodeidx1" ++ rest) ≡ Ok (left 8 rest)
unfolding after_magic
magic_again [] = refl
magic_again (x ∷ rest) = refl

pub read-index_of : (nodes : List ListedNode) → AllByRecursion IsListed nodes → length (in_order nodes) ≤ 65536 → read_index (index_of nodes) ≡ Ok (map clipped (in_order nodes))
unfolding read_index
read-index_of nodes fits few =
    let sorted = in_order nodes in
    let order = ordered [] nodes tt tt fits in
    let count : min (length sorted) (2 ^ 32 - 1) ≡ length sorted = omega arith in
    let all = nodes_again 0 (8 + 1 + 1 + 1 + 1) [] sorted [] (omega arith) order.1 order.0 in
    let bytes : index_of nodes ≡ codes "nodeidx1" ++ (to_be_bytes w32 (length sorted) ++ (flat_map node_bytes sorted ++ [])) = append_assoc (codes "nodeidx1") (to_be_bytes w32 (min (length sorted) (2 ^ 32 - 1))) (flat_map node_bytes sorted) ∙ ap (λ (k : ℕ). codes "nodeidx1" ++ (to_be_bytes w32 k ++ flat_map node_bytes sorted)) count ∙ ap (λ (bs : List ℕ). codes "nodeidx1" ++ (to_be_bytes w32 (length sorted) ++ bs)) (sym (append-nil (flat_map node_bytes sorted))) in
    ap (λ (bs : List ℕ). read_index bs) bytes ∙ rw (magic_again (to_be_bytes w32 (length sorted) ++ (flat_map node_bytes sorted ++ [])), count_again 8 (length sorted) (flat_map node_bytes sorted ++ []) few, all.1) refl
