-- The index of a compiled text is read as its nodes.
use Rattle.std.proofs.Common.{◌≡◌, ℕ, ◌+◌, ◌<◌, ◌≤◌, Bool, true, false, List, [], ◌∷◌, ◌++◌, length, map, fold, Option, Some, None, Result, Ok, Err, refl, subst, arith}
use Rattle.std.specs.Prelude.{nat_lt, nat_le, nat_eq, drop, position, is_some, codes, slice_get}
use Rattle.std.specs.List.{AllByRecursion, slice_split, starts_with}
use Rattle.std.proofs.lemmas.Bool.{ltb-false, ltb-true}
use Rattle.ftn_addr.specs.Digits.{saturated_number}
use Rattle.ftn_addr.specs.LineNumbers.{next_line}
use Rattle.nodelist_comp.specs.Fields.{Area, area_for, kind_at, node_at, node_of, number_at, number_of, number_or, placed}
use Rattle.nodelist_comp.specs.Flags.{bracketed_at, bracketed_host, endpoint, endpoint_at, first_ibn, host_and_port, plain_at, plain_host, port_at, port_behind, port_of, port_or}
use Rattle.nodelist_comp.specs.Index.{in_order, index_of, insert_node, with_node}
use Rattle.nodelist_comp.specs.List.{added, before_end, compiled, is_passed, line_taken, with_lines}
use Rattle.nodelist_comp.specs.Node.{ListedNode, has_place, place_of}
use Rattle.nodelist_comp.specs.declared.fault.ListCause.{ListCause}
use Rattle.nodelist_comp.specs.declared.node.NodeKind.{NodeKind}
use Rattle.nodelist_comp.specs.declared.node.NodeKind.TheVariants.{Zone, Region, Host, Hub, Pvt, Hold, Down, Plain}
use Rattle.nodelist_find.specs.Law.{IsListed, clipped}
use Rattle.nodelist_find.specs.Nodes.{read_index}
use Rattle.nodelist_find.proofs.IndexLaw.{read-index_of}
use Rattle.nodelist_files.proofs.Limits.{few_nodes}

-- a port is a number of two bytes
port_or_fits : (port : Option ℕ) → port_or port < 65536
port_or_fits None = omega arith
port_or_fits (Some port) = by (nat_lt 0 port) refl (nat_lt port 65536) refl
  where
    by : (some : Bool) → nat_lt 0 port ≡ some → (low : Bool) → nat_lt port 65536 ≡ low → port_or (Some port) < 65536
    by true s true l = rw (s, l) (ltb-true port 65536 l)
    by true s false l = rw (s, l) (omega arith)
    by false s low l = rw s (omega arith)

port_of_fits : (text : List ℕ) → port_of text < 65536
unfolding port_of
port_of_fits text = port_or_fits (saturated_number text)

port_at_fits : (text : List ℕ) (end : Option ℕ) → port_at text end < 65536
port_at_fits text None = omega arith
port_at_fits text (Some end) = port_of_fits (drop (end + 1) text)

port_behind_fits : (text : List ℕ) → port_behind text < 65536
unfolding port_behind
port_behind_fits text = port_at_fits text (position (λ b. nat_eq b 58) text)

bracketed_fits : (value : List ℕ) (end : Option ℕ) → (bracketed_at value end).1 < 65536
bracketed_fits value None = omega arith
bracketed_fits value (Some end) = port_behind_fits (drop (end + 1) value)

bracketed_host_fits : (value : List ℕ) → (bracketed_host value).1 < 65536
unfolding bracketed_host
bracketed_host_fits value = bracketed_fits value (position (λ b. nat_eq b 93) value)

plain_fits : (value : List ℕ) (end : Option ℕ) → (plain_at value end).1 < 65536
plain_fits value None = omega arith
plain_fits value (Some end) = port_of_fits (drop (end + 1) value)

plain_host_fits : (value : List ℕ) → (plain_host value).1 < 65536
unfolding plain_host
plain_host_fits value = plain_fits value (position (λ b. nat_eq b 58) value)

host_and_port_fits : (value : List ℕ) → (host_and_port value).1 < 65536
unfolding host_and_port
host_and_port_fits value = by (is_some (saturated_number value)) refl (starts_with nat_eq value (codes "[")) refl
  where
    by : (number : Bool) → is_some (saturated_number value) ≡ number → (bracket : Bool) → starts_with nat_eq value (codes "[") ≡ bracket → (host_and_port value).1 < 65536
    by true n bracket b = rw n (port_of_fits value)
    by false n true b = rw (n, b) (bracketed_host_fits value)
    by false n false b = rw (n, b) (plain_host_fits value)

endpoint_at_fits : (flags : List (List ℕ)) (value : Option (List ℕ)) → (endpoint_at flags value).1 < 65536
endpoint_at_fits flags None = omega arith
endpoint_at_fits flags (Some value) = host_and_port_fits value

endpoint_fits : (flags : List (List ℕ)) → (endpoint flags).1 < 65536
unfolding endpoint
endpoint_fits flags = endpoint_at_fits flags (first_ibn flags)

-- a number of an address
number_or_fits : (number : Option ℕ) (n : ℕ) → number_or number ≡ Ok n → n ≤ 32767
number_or_fits None n is = absurd (cc is)
number_or_fits (Some number) n is = by (nat_lt 32767 number) refl
  where
    by : (over : Bool) → nat_lt 32767 number ≡ over → n ≤ 32767
    by true o = absurd (cc (rw o at is))
    by false o = let same : number ≡ n = cc (rw o at is) in subst (λ (k : ℕ). k ≤ 32767) same (ltb-false 32767 number o)

number_of_fits : (field : Option (List ℕ)) (n : ℕ) → number_of field ≡ Ok n → n ≤ 32767
number_of_fits None n is = absurd (cc is)
number_of_fits (Some digits) n is = number_or_fits (saturated_number digits) n is

number_fits : (fields : List (List ℕ)) (n : ℕ) → number_at fields ≡ Ok n → n ≤ 32767
unfolding number_at
number_fits fields n is = number_of_fits (slice_get fields 1) n is

-- the zone and the net that hold for a line are such numbers
record IsArea (a : Area) : Type 0 where
  pub zone : a.zone ≤ 32767
  pub net : a.net ≤ 32767

abbrev IfArea : Option Area → Type 0
IfArea None = Unit {0}
IfArea (Some a) = IsArea a

zeros : IsArea (record { zone = 0; net = 0 })
zeros = record { zone = omega arith; net = omega arith }

area_fits : (kind : NodeKind) (above : Option Area) (base : Area) → IfArea above → area_for kind above ≡ Ok base → IsArea base
area_fits Zone above base fits is = subst IsArea (cc is) zeros
area_fits Region (Some a) base fits is = subst IsArea (cc is) fits
area_fits Host (Some a) base fits is = subst IsArea (cc is) fits
area_fits Hub (Some a) base fits is = subst IsArea (cc is) fits
area_fits Pvt (Some a) base fits is = subst IsArea (cc is) fits
area_fits Hold (Some a) base fits is = subst IsArea (cc is) fits
area_fits Down (Some a) base fits is = subst IsArea (cc is) fits
area_fits Plain (Some a) base fits is = subst IsArea (cc is) fits
area_fits Region None base fits is = absurd (cc is)
area_fits Host None base fits is = absurd (cc is)
area_fits Hub None base fits is = absurd (cc is)
area_fits Pvt None base fits is = absurd (cc is)
area_fits Hold None base fits is = absurd (cc is)
area_fits Down None base fits is = absurd (cc is)
area_fits Plain None base fits is = absurd (cc is)

placed_fits : (kind : NodeKind) (base : Area) (n : ℕ) (answers : List ℕ × ℕ) → IsArea base → n ≤ 32767 → answers.1 < 65536 → IsListed (node_at kind (placed kind base n) answers)
placed_fits Zone base n answers a low port = record { zone = low; net = low; node = omega arith; port = port }
placed_fits Region base n answers a low port = record { zone = a.zone; net = low; node = omega arith; port = port }
placed_fits Host base n answers a low port = record { zone = a.zone; net = low; node = omega arith; port = port }
placed_fits Hub base n answers a low port = record { zone = a.zone; net = a.net; node = low; port = port }
placed_fits Pvt base n answers a low port = record { zone = a.zone; net = a.net; node = low; port = port }
placed_fits Hold base n answers a low port = record { zone = a.zone; net = a.net; node = low; port = port }
placed_fits Down base n answers a low port = record { zone = a.zone; net = a.net; node = low; port = port }
placed_fits Plain base n answers a low port = record { zone = a.zone; net = a.net; node = low; port = port }

node_fits : (above : Option Area) (fields : List (List ℕ)) (node : ListedNode) → IfArea above → node_of above fields ≡ Ok node → IsListed node
unfolding node_of
node_fits above fields node fits is = by (kind_at fields) refl
  where
    third : (kind : NodeKind) → kind_at fields ≡ Ok kind → (base : Area) → area_for kind above ≡ Ok base → (number : Result ℕ ListCause) → number_at fields ≡ number → IsListed node
    third kind k base b (Err e) n = absurd (cc (rw (k, b, n) at is))
    third kind k base b (Ok number) n =
        let same : node_at kind (placed kind base number) (endpoint (drop 7 fields)) ≡ node = cc (rw (k, b, n) at is) in
        subst IsListed same (placed_fits kind base number (endpoint (drop 7 fields)) (area_fits kind above base fits b) (number_fits fields number n) (endpoint_fits (drop 7 fields)))

    second : (kind : NodeKind) → kind_at fields ≡ Ok kind → (base : Result Area ListCause) → area_for kind above ≡ base → IsListed node
    second kind k (Err e) b = absurd (cc (rw (k, b) at is))
    second kind k (Ok base) b = third kind k base b (number_at fields) refl

    by : (kind : Result NodeKind ListCause) → kind_at fields ≡ kind → IsListed node
    by (Err e) k = absurd (cc (rw k at is))
    by (Ok kind) k = second kind k (area_for kind above) refl

all_append : (nodes : List ListedNode) (node : ListedNode) → AllByRecursion IsListed nodes → IsListed node → AllByRecursion IsListed (nodes ++ node ∷ [])
all_append [] node fits one = (one, tt)
all_append (n ∷ nodes) node fits one = (fits.0, all_append nodes node fits.1 one)

added_fits : (nodes : List ListedNode) (node : ListedNode) (more : List ListedNode) → AllByRecursion IsListed nodes → IsListed node → added nodes node ≡ Ok more → AllByRecursion IsListed more
added_fits nodes node more fits one is = by (has_place nodes (place_of node)) refl (nat_le 65536 (length nodes)) refl
  where
    by : (there : Bool) → has_place nodes (place_of node) ≡ there → (full : Bool) → nat_le 65536 (length nodes) ≡ full → AllByRecursion IsListed more
    by true t full f = let same : nodes ≡ more = cc (rw t at is) in subst (AllByRecursion IsListed) same fits
    by false t true f = absurd (cc (rw (t, f) at is))
    by false t false f = let same : nodes ++ node ∷ [] ≡ more = cc (rw (t, f) at is) in subst (AllByRecursion IsListed) same (all_append nodes node fits one)

-- what a line makes of good nodes and a good area
record AreGood (x : List ListedNode × Option Area) : Type 0 where
  pub nodes : AllByRecursion IsListed x.0
  pub area : IfArea x.1

taken_good : (nodes : List ListedNode) (above : Option Area) (line : List ℕ) (x : List ListedNode × Option Area) → AllByRecursion IsListed nodes → IfArea above → line_taken nodes above line ≡ Ok x → AreGood x
unfolding line_taken
taken_good nodes above line x fits area is = by (is_passed line) refl
  where
    more : (node : ListedNode) → IsListed node → is_passed line ≡ false → node_of above (slice_split (λ byte. nat_eq byte 44) line) ≡ Ok node → (a : Result (List ListedNode) ListCause) → added nodes node ≡ a → AreGood x
    more node one p r (Err e) a = absurd (cc (rw (p, r, a) at is))
    more node one p r (Ok out) a =
        let same : (out, Some (record { zone = node.zone; net = node.net })) ≡ x = cc (rw (p, r, a) at is) in
        subst AreGood same (record { nodes = added_fits nodes node out fits one a; area = record { zone = one.zone; net = one.net } })

    with_node_read : (read : Result ListedNode ListCause) → node_of above (slice_split (λ byte. nat_eq byte 44) line) ≡ read → is_passed line ≡ false → AreGood x
    with_node_read (Err e) r p = absurd (cc (rw (p, r) at is))
    with_node_read (Ok node) r p = more node (node_fits above (slice_split (λ byte. nat_eq byte 44) line) node area r) p r (added nodes node) refl

    by : (passed : Bool) → is_passed line ≡ passed → AreGood x
    by true p = let same : (nodes, above) ≡ x = cc (rw p at is) in subst AreGood same (record { nodes = fits; area = area })
    by false p = with_node_read (node_of above (slice_split (λ byte. nat_eq byte 44) line)) refl p

lines_good : (nodes : List ListedNode) (above : Option Area) (number : ℕ) (lines : List (List ℕ)) (out : List ListedNode) → AllByRecursion IsListed nodes → IfArea above → with_lines nodes above number lines ≡ Ok out → AllByRecursion IsListed out
lines_good nodes above number [] out fits area is = let same : nodes ≡ out = cc is in subst (AllByRecursion IsListed) same fits
lines_good nodes above number (line ∷ lines) out fits area is =
    by (line_taken nodes above line) refl (λ x good rest. lines_good x.0 x.1 (next_line number) lines out good.nodes good.area rest)
  where
    by : (taken : Result (List ListedNode × Option Area) ListCause) → line_taken nodes above line ≡ taken
        → ((x : List ListedNode × Option Area) → AreGood x → with_lines x.0 x.1 (next_line number) lines ≡ Ok out → AllByRecursion IsListed out) → AllByRecursion IsListed out
    by (Ok x) t go_on = go_on x (taken_good nodes above line x fits area t) (rw t at is)
    by (Err e) t go_on = absurd (cc (rw t at is))

good_nodes : (text : List ℕ) (nodes : List ListedNode) → compiled text ≡ Ok nodes → AllByRecursion IsListed nodes
good_nodes text nodes is = lines_good [] None 0 (Rattle.std.specs.Str.Lines.lines (before_end text)) nodes tt tt is

-- putting nodes in order makes no more of them
insert_long : (n : ListedNode) (nodes : List ListedNode) → length (insert_node n nodes) ≡ length nodes + 1
insert_long n [] = refl
insert_long n (m ∷ nodes) = by (nat_lt (place_of n) (place_of m)) refl (insert_long n nodes)
  where
    by : (before : Bool) → nat_lt (place_of n) (place_of m) ≡ before → length (insert_node n nodes) ≡ length nodes + 1 → length (insert_node n (m ∷ nodes)) ≡ length (m ∷ nodes) + 1
    by true b more = rw b (omega arith)
    by false b more = rw b (omega (arith, more))

order_few : (sorted nodes : List ListedNode) → length (fold with_node sorted nodes) ≤ length sorted + length nodes
order_few sorted [] = omega arith
order_few sorted (n ∷ nodes) = by (has_place sorted (place_of n)) refl (λ more. order_few more nodes)
  where
    by : (there : Bool) → has_place sorted (place_of n) ≡ there → ((more : List ListedNode) → length (fold with_node more nodes) ≤ length more + length nodes)
        → length (fold with_node (with_node sorted n) nodes) ≤ length sorted + length (n ∷ nodes)
    by true t go_on = let more = go_on sorted in rw t (omega (arith, more))
    by false t go_on = let more = go_on (insert_node n sorted) in let long = insert_long n sorted in rw t (omega (arith, more, long))

pub index_is_read : (text : List ℕ) (nodes : List ListedNode) → compiled text ≡ Ok nodes → read_index (index_of nodes) ≡ Ok (map clipped (in_order nodes))
index_is_read text nodes is =
    let few = few_nodes text nodes is in
    let ordered = order_few [] nodes in
    read-index_of nodes (good_nodes text nodes is) (omega (arith, few, ordered))
