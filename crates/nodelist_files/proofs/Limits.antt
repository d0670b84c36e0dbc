-- How many nodes a list can have, and how many bytes an index.
use Rattle.std.proofs.Common.{◌≡◌, inl, inr, ℕ, zero, suc, ◌+◌, ◌*◌, ◌<◌, ◌≤◌, Bool, true, false, List, [], ◌∷◌, ◌++◌, length, Option, Some, Result, Ok, Err, refl, sym, ◌∙◌, ap, subst, arith}
use Rattle.std.specs.Prelude.{nat_lt, nat_le, cond}
use Rattle.std.specs.List.{slice_split, flat_map}
use Rattle.std.proofs.lemmas.Bool.{leb-false, ltb-false}
use Rattle.std.proofs.lemmas.List.{length-append}
use Rattle.nodelist_comp.specs.Fields.{Area, node_of}
use Rattle.nodelist_comp.specs.Index.{host_bytes, in_order, node_bytes}
use Rattle.nodelist_comp.specs.List.{added, before_end, compiled, is_passed, line_taken, with_lines}
use Rattle.nodelist_comp.specs.Node.{ListedNode, has_place, place_of}
use Rattle.nodelist_comp.specs.declared.fault.ListCause.{ListCause}
use Rattle.ftn_addr.specs.LineNumbers.{next_line}
use Rattle.nodelist_find.specs.Nodes.{read_index}
use Rattle.nodelist_find.proofs.Opened.{opened}

-- a list has at most 65,536 nodes, and stays so with one node more
added_few : (nodes : List ListedNode) (node : ListedNode) (more : List ListedNode) → length nodes ≤ 65536 → added nodes node ≡ Ok more → length more ≤ 65536
added_few nodes node more few is = by (has_place nodes (place_of node)) refl (nat_le 65536 (length nodes)) refl
  where
    by : (there : Bool) → has_place nodes (place_of node) ≡ there → (full : Bool) → nat_le 65536 (length nodes) ≡ full → length more ≤ 65536
    by true t full f = let same : nodes ≡ more = cc (rw t at is) in subst (λ (l : List ListedNode). length l ≤ 65536) same few
    by false t true f = absurd (cc (rw (t, f) at is))
    by false t false f =
        let same : nodes ++ node ∷ [] ≡ more = cc (rw (t, f) at is) in
        let low : length nodes < 65536 = leb-false 65536 (length nodes) f in
        let long : length (nodes ++ node ∷ []) ≡ length nodes + 1 = length-append nodes (node ∷ []) in
        subst (λ (l : List ListedNode). length l ≤ 65536) same (omega (arith, low, long))

taken_few : (nodes : List ListedNode) (above : Option Area) (line : List ℕ) (x : List ListedNode × Option Area) → length nodes ≤ 65536 → line_taken nodes above line ≡ Ok x → length x.0 ≤ 65536
unfolding line_taken
taken_few nodes above line x few is = by (is_passed line) refl
  where
    with_node : (read : Result ListedNode ListCause) → node_of above (slice_split (λ byte. Rattle.std.specs.Prelude.nat_eq byte 44) line) ≡ read → is_passed line ≡ false → length x.0 ≤ 65536
    with_node (Err e) r p = absurd (cc (rw (p, r) at is))
    with_node (Ok node) r p = more (added nodes node) refl
      where
        more : (a : Result (List ListedNode) ListCause) → added nodes node ≡ a → length x.0 ≤ 65536
        more (Err e) a = absurd (cc (rw (p, r, a) at is))
        more (Ok out) a = let same : (out, Some (record { zone = node.zone; net = node.net })) ≡ x = cc (rw (p, r, a) at is) in subst (λ (y : List ListedNode × Option Area). length y.0 ≤ 65536) same (added_few nodes node out few a)

    by : (passed : Bool) → is_passed line ≡ passed → length x.0 ≤ 65536
    by true p = let same : (nodes, above) ≡ x = cc (rw p at is) in subst (λ (y : List ListedNode × Option Area). length y.0 ≤ 65536) same few
    by false p = with_node (node_of above (slice_split (λ byte. Rattle.std.specs.Prelude.nat_eq byte 44) line)) refl p

lines_few : (nodes : List ListedNode) (above : Option Area) (number : ℕ) (lines : List (List ℕ)) (out : List ListedNode) → length nodes ≤ 65536 → with_lines nodes above number lines ≡ Ok out → length out ≤ 65536
lines_few nodes above number [] out few is = let same : nodes ≡ out = cc is in subst (λ (l : List ListedNode). length l ≤ 65536) same few
lines_few nodes above number (line ∷ lines) out few is = by (line_taken nodes above line) refl (λ x more rest. lines_few x.0 x.1 (next_line number) lines out more rest)
  where
    by : (taken : Result (List ListedNode × Option Area) ListCause) → line_taken nodes above line ≡ taken
        → ((x : List ListedNode × Option Area) → length x.0 ≤ 65536 → with_lines x.0 x.1 (next_line number) lines ≡ Ok out → length out ≤ 65536) → length out ≤ 65536
    by (Ok x) t go_on = go_on x (taken_few nodes above line x few t) (rw t at is)
    by (Err e) t go_on = absurd (cc (rw t at is))

pub few_nodes : (text : List ℕ) (nodes : List ListedNode) → compiled text ≡ Ok nodes → length nodes ≤ 65536
few_nodes text nodes is = lines_few [] Rattle.std.proofs.Common.None 0 (Rattle.std.specs.Str.Lines.lines (before_end text)) nodes (omega arith) is

-- a node has at most 265 bytes
host_short : (host : List ℕ) → length (host_bytes host) ≤ 256
host_short host = by (nat_lt 255 (length host)) refl
  where
    by : (b : Bool) → nat_lt 255 (length host) ≡ b → length (host_bytes host) ≤ 256
    by true t = rw t (omega arith)
    by false t = let low : length host ≤ 255 = ltb-false 255 (length host) t in rw t (omega (arith, low))

node_short : (n : ListedNode) → length (node_bytes n) ≤ 265
node_short n = let host = host_short n.host in simp length-append (omega (arith, host))

nodes_short : (nodes : List ListedNode) → length (flat_map node_bytes nodes) ≤ 265 * length nodes
nodes_short [] = omega arith
nodes_short (n ∷ nodes) = let one = node_short n in let more = nodes_short nodes in let long = length-append (node_bytes n) (flat_map node_bytes nodes) in omega (arith, one, more, long)

pub short_index : (bytes : List ℕ) (nodes : List ListedNode) → read_index bytes ≡ Ok nodes → length bytes ≤ 17367052
short_index bytes nodes is =
    let index = opened bytes nodes is in
    let few : length (in_order nodes) ≤ 65536 = subst (λ (l : List ListedNode). length l ≤ 65536) (sym index.ordered) index.few in
    let long : length bytes ≡ 12 + length (flat_map node_bytes (in_order nodes)) = ap length index.text ∙ simp length-append in
    let short = nodes_short (in_order nodes) in
    omega (arith, few, long, short)
