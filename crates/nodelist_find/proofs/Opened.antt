-- What opens as an index is the index of its nodes.
use Rattle.std.proofs.Common.{◌≡◌, ℕ, zero, suc, ◌+◌, ◌*◌, ◌/◌, ◌%◌, ◌-◌, ◌^◌, ◌<◌, ◌≤◌, ◌&&◌, Bool, true, false, cond, eqb, leb, ltb, min, fold, List, [], ◌∷◌, ◌++◌, length, take, drop, Option, Some, None, Result, Ok, Err, refl, sym, ap, ◌∙◌, subst, arith}
use Rattle.std.specs.Prelude.{codes, nat_eq}
use Rattle.std.specs.Int.{w16, w32, to_be_bytes}
use Rattle.std.specs.List.{AllByRecursion, common_prefix_len, flat_map}
use Rattle.std.proofs.lemmas.Bool.{and_parts, leb-true, ltb-false, le-ltb, eqb-true, eqb-false, ne_eqb}
use Rattle.std.proofs.lemmas.List.{append_assoc, append-nil, length-take-le, take-append-drop}
use Rattle.ftn_addr.proofs.Outcomes.{steps_ok}
use Rattle.nodelist_comp.specs.Index.{host_bytes, in_order, insert_node, kind_byte, node_bytes, spelled, with_node}
use Rattle.nodelist_comp.specs.Node.{ListedNode, has_place, place_of}
use Rattle.nodelist_comp.specs.declared.node.NodeKind.{NodeKind}
use Rattle.nodelist_comp.specs.declared.node.NodeKind.TheVariants.{Zone, Region, Host, Hub, Pvt, Hold, Down, Plain}
use Rattle.nodelist_find.proofs.Among.{Within, among}
use Rattle.nodelist_find.proofs.IndexLaw.{Climbs, count_halves, node_spelled}
use Rattle.nodelist_find.proofs.ReadBack.{left, address_bytes}
use Rattle.nodelist_find.proofs.SpotNumbers.{is_bounds, ordinal-spot_at}
use Rattle.nodelist_find.specs.Cursor.{Left, Span, after_magic, byte_in, byte_at, bytes_at, high_bytes, low_bytes, number_in}
use Rattle.nodelist_find.specs.Law.{IsIndex, IsListed}
use Rattle.nodelist_find.specs.Nodes.{Bounds, IsAmong, IsBounds, SpotAt, address_in, address_of, all_numbers, at_end, bounds_for, count_at, host_at, kind_at, kind_of, kind_or, nets_in, node_at, nodes_from, nodes_in, ordinal, read_index, zones_in}
use Rattle.nodelist_find.specs.declared.fault.IndexFault.{IndexFault}
use Rattle.nodelist_find.specs.declared.fault.IndexFault.TheVariants.{Bad}

-- a byte that was read is the first of the bytes
byte_read : (span : Span) (place : ℕ) (rest : List ℕ) (b : ℕ) (after : Left) → byte_in span (left place rest) ≡ Ok (b, after) → (rest ≡ b ∷ after.rest) × Within span b
unfolding byte_in byte_at
byte_read span place [] b after read = absurd (let clash : Err (Bad place) ≡ Ok (b, after) = read in cc)
byte_read span place (x ∷ rest) b after read = go (leb span.low x && leb x span.high) refl read
  where
    go : (t : Bool) → (leb span.low x && leb x span.high) ≡ t → cond {A = Result (ℕ × Left) IndexFault} t (Ok (x, left (place + 1) rest)) (Err (Bad place)) ≡ Ok (b, after) → ((x ∷ rest) ≡ b ∷ after.rest) × Within span b
    go true t e =
        let same : (x, left (place + 1) rest) ≡ (b, after) = cc in
        let parts = and_parts (leb span.low x) (leb x span.high) t in
        let byte : x ≡ b = ap (λ (p : ℕ × Left). p.0) same in
        (ap (λ (p : ℕ × Left). p.0 ∷ p.1.rest) same, subst (Within span) byte (leb-true _ _ parts.0, leb-true _ _ parts.1))
    go false t e = absurd (let clash : Err (Bad place) ≡ Ok (b, after) = e in cc)

two : (a b c d : ℕ) → a ≡ c → b ≡ d → (a ∷ b ∷ []) ≡ (c ∷ d ∷ [])
two a b c d x y = rw (x, y) refl

two_bytes : (h l : ℕ) → h < 256 → l < 256 → to_be_bytes w16 (h * 256 + l) ≡ h ∷ l ∷ []
two_bytes h l x y = two _ _ _ _ (omega (arith, x, y)) (omega (arith, x, y))

below_byte : (l high : ℕ) (p : Bool) → l ≤ cond p (high % 256) 255 → l ≤ 255
below_byte l high true on = omega (arith, on)
below_byte l high false on = on

digits_low : (h l low : ℕ) (p : Bool) → eqb h (low / 256) ≡ p → low / 256 ≤ h → cond p (low % 256) 0 ≤ l → low ≤ h * 256 + l
digits_low h l low true e over on = let same = eqb-true h (low / 256) e in omega (arith, same, on)
digits_low h l low false e over on = let differ = eqb-false h (low / 256) e in omega (arith, differ, over)

digits_high : (h l high : ℕ) (p : Bool) → eqb h (high / 256) ≡ p → l ≤ 255 → h ≤ high / 256 → l ≤ cond p (high % 256) 255 → h * 256 + l ≤ high
digits_high h l high true e byte under on = let same = eqb-true h (high / 256) e in omega (arith, same, on)
digits_high h l high false e byte under on = let differ = eqb-false h (high / 256) e in omega (arith, differ, under, byte)

number_read : (span : Span) (place : ℕ) (rest : List ℕ) (n : ℕ) (after : Left) → span.high ≤ 65535 → number_in span (left place rest) ≡ Ok (n, after) → (rest ≡ to_be_bytes w16 n ++ after.rest) × Within span n
unfolding number_in
number_read span place rest n after small read =
    let high = steps_ok (byte_in (high_bytes span) (left place rest)) _ (n, after) read in
    let h = high.0.0 in
    let first = byte_read (high_bytes span) place rest h high.0.1 high.1 in
    let low = steps_ok (byte_in (low_bytes span h) high.0.1) _ (n, after) high.2 in
    let l = low.0.0 in
    let second = byte_read (low_bytes span h) high.0.1.place high.0.1.rest l low.0.1 low.1 in
    let last : Ok (h * 256 + l, low.0.1) ≡ Ok (n, after) = low.2 in
    let same : (h * 256 + l, low.0.1) ≡ (n, after) = cc in
    let number : h * 256 + l ≡ n = ap (λ (p : ℕ × Left). p.0) same in
    let behind : low.0.1.rest ≡ after.rest = ap (λ (p : ℕ × Left). p.1.rest) same in
    let byte : l ≤ 255 = below_byte l span.high (eqb h (span.high / 256)) second.1.1 in
    let h_under : h ≤ span.high / 256 = first.1.1 in
    let bytes : to_be_bytes w16 n ≡ h ∷ l ∷ [] = ap (λ (k : ℕ). to_be_bytes w16 k) (sym number) ∙ two_bytes h l (omega (arith, h_under, small)) (omega (arith, byte)) in
    let whole : Within span (h * 256 + l) = (digits_low h l span.low (eqb h (span.low / 256)) refl first.1.0 second.1.0, digits_high h l span.high (eqb h (span.high / 256)) refl byte h_under second.1.1) in
    (first.0 ∙ ap (λ (r : List ℕ). h ∷ r) second.0 ∙ ap (λ (r : List ℕ). h ∷ l ∷ r) behind ∙ ap (λ (r : List ℕ). r ++ after.rest) (sym bytes), subst (Within span) number whole)

net_top : (b : Bounds) (p : Bool) (bound : ℕ) → bound ≤ 32767 → cond p bound 32767 ≤ 65535
net_top b true bound small = omega (arith, small)
net_top b false bound small = omega arith

address_read : (b : Bounds) (place : ℕ) (rest : List ℕ) (s : SpotAt) (after : Left) → IsBounds b → address_in b (left place rest) ≡ Ok (s, after) → (rest ≡ address_bytes s after.rest) × IsAmong b s
unfolding address_in
address_read b place rest s after is read =
    let top : b.high.zone ≤ 32767 = is.high.zone in
    let zone = steps_ok (number_in (zones_in b) (left place rest)) _ (s, after) read in
    let z = number_read (zones_in b) place rest zone.0.0 zone.0.1 (omega (arith, top)) zone.1 in
    let net = steps_ok (number_in (nets_in b zone.0.0) zone.0.1) _ (s, after) zone.2 in
    let n = number_read (nets_in b zone.0.0) zone.0.1.place zone.0.1.rest net.0.0 net.0.1 (net_top b (eqb zone.0.0 b.high.zone) b.high.net is.high.net) net.1 in
    let node = steps_ok (number_in (nodes_in b zone.0.0 net.0.0) net.0.1) _ (s, after) net.2 in
    let d = number_read (nodes_in b zone.0.0 net.0.0) net.0.1.place net.0.1.rest node.0.0 node.0.1 (net_top b (eqb zone.0.0 b.high.zone && eqb net.0.0 b.high.net) b.high.node is.high.node) node.1 in
    let spot : SpotAt = record { zone = zone.0.0; net = net.0.0; node = node.0.0 } in
    let last : Ok (spot, node.0.1) ≡ Ok (s, after) = node.2 in
    let same : (spot, node.0.1) ≡ (s, after) = cc in
    let bytes : rest ≡ address_bytes spot node.0.1.rest = z.0 ∙ ap (λ (r : List ℕ). to_be_bytes w16 zone.0.0 ++ r) (n.0 ∙ ap (λ (r : List ℕ). to_be_bytes w16 net.0.0 ++ r) d.0) in
    (bytes ∙ ap (λ (p : SpotAt × Left). address_bytes p.0 p.1.rest) same, subst (IsAmong b) (ap (λ (p : SpotAt × Left). p.0) same) (among b spot is z.1 n.1 d.1))

kinds : (x : ℕ) (kind : NodeKind) → kind_of x ≡ Some kind → x ≡ kind_byte kind
kinds x kind e = go (eqb x 0) (eqb x 1) (eqb x 2) (eqb x 3) (eqb x 4) (eqb x 5) (eqb x 6) (eqb x 7) refl refl refl refl refl refl refl refl e
  where
    is : (k : NodeKind) → Some k ≡ Some kind → x ≡ kind_byte k → x ≡ kind_byte kind
    is k e at = let same : k ≡ kind = cc in subst (λ (j : NodeKind). x ≡ kind_byte j) same at

    go : (a b c d f g h i : Bool) → eqb x 0 ≡ a → eqb x 1 ≡ b → eqb x 2 ≡ c → eqb x 3 ≡ d → eqb x 4 ≡ f → eqb x 5 ≡ g → eqb x 6 ≡ h → eqb x 7 ≡ i
        → cond a (Some Zone) (cond b (Some Region) (cond c (Some Host) (cond d (Some Hub) (cond f (Some Pvt) (cond g (Some Hold) (cond h (Some Down) (cond i (Some Plain) None))))))) ≡ Some kind → x ≡ kind_byte kind
    go true b c d f g h i ea eb ec ed ef eg eh ei e = is Zone e (eqb-true x 0 ea)
    go false true c d f g h i ea eb ec ed ef eg eh ei e = is Region e (eqb-true x 1 eb)
    go false false true d f g h i ea eb ec ed ef eg eh ei e = is Host e (eqb-true x 2 ec)
    go false false false true f g h i ea eb ec ed ef eg eh ei e = is Hub e (eqb-true x 3 ed)
    go false false false false true g h i ea eb ec ed ef eg eh ei e = is Pvt e (eqb-true x 4 ef)
    go false false false false false true h i ea eb ec ed ef eg eh ei e = is Hold e (eqb-true x 5 eg)
    go false false false false false false true i ea eb ec ed ef eg eh ei e = is Down e (eqb-true x 6 eh)
    go false false false false false false false true ea eb ec ed ef eg eh ei e = is Plain e (eqb-true x 7 ei)
    go false false false false false false false false ea eb ec ed ef eg eh ei e = absurd (let clash : None ≡ Some kind = e in cc)

kind_read : (place : ℕ) (rest : List ℕ) (kind : NodeKind) (after : Left) → kind_at (left place rest) ≡ Ok (kind, after) → rest ≡ kind_byte kind ∷ after.rest
unfolding kind_at byte_at
kind_read place [] kind after read = absurd (let clash : Err (Bad place) ≡ Ok (kind, after) = read in cc)
kind_read place (x ∷ rest) kind after read = go (kind_of x) refl read
  where
    go : (o : Option NodeKind) → kind_of x ≡ o → kind_or place (left (place + 1) rest) o ≡ Ok (kind, after) → (x ∷ rest) ≡ kind_byte kind ∷ after.rest
    go None o e = absurd (let clash : Err (Bad place) ≡ Ok (kind, after) = e in cc)
    go (Some k) o e =
        let last : Ok (k, left (place + 1) rest) ≡ Ok (kind, after) = e in
        let same : (k, left (place + 1) rest) ≡ (kind, after) = cc in
        ap (λ (y : ℕ). y ∷ rest) (kinds x k o) ∙ ap (λ (p : NodeKind × Left). kind_byte p.0 ∷ p.1.rest) same

-- a host of a byte's length
host_spelled : (host : List ℕ) → length host ≤ 255 → host_bytes host ≡ length host ∷ host
host_spelled host short = let fits : ltb 255 (length host) ≡ false = le-ltb 255 (length host) short in rw fits refl

bytes_read : (len place : ℕ) (rest bytes : List ℕ) (after : Left) → bytes_at len (left place rest) ≡ Ok (bytes, after) → (rest ≡ bytes ++ after.rest) × (length bytes ≡ len)
unfolding bytes_at
bytes_read len place rest bytes after read = go (ltb (length rest) len) refl read
  where
    go : (t : Bool) → ltb (length rest) len ≡ t → cond {A = Result (List ℕ × Left) IndexFault} t (Err (Bad (place + length rest))) (Ok (take len rest, left (place + len) (drop len rest))) ≡ Ok (bytes, after) → (rest ≡ bytes ++ after.rest) × (length bytes ≡ len)
    go true t e = absurd (let clash : Err (Bad (place + length rest)) ≡ Ok (bytes, after) = e in cc)
    go false t e =
        let last : Ok (take len rest, left (place + len) (drop len rest)) ≡ Ok (bytes, after) = e in
        let same : (take len rest, left (place + len) (drop len rest)) ≡ (bytes, after) = cc in
        let room : len ≤ length rest = ltb-false (length rest) len t in
        (sym (take-append-drop len rest) ∙ ap (λ (p : List ℕ × Left). p.0 ++ p.1.rest) same, ap (λ (p : List ℕ × Left). length p.0) (sym same) ∙ length-take-le len rest room)

host_read : (place : ℕ) (rest host : List ℕ) (after : Left) → host_at (left place rest) ≡ Ok (host, after) → (rest ≡ host_bytes host ++ after.rest) × (length host ≤ 255)
unfolding host_at
host_read place rest host after read =
    let len = steps_ok (byte_in (record { low = 0; high = 255 }) (left place rest)) _ (host, after) read in
    let first = byte_read (record { low = 0; high = 255 }) place rest len.0.0 len.0.1 len.1 in
    let bytes = bytes_read len.0.0 len.0.1.place len.0.1.rest host after len.2 in
    let count : length host ≡ len.0.0 = bytes.1 in
    let short : length host ≤ 255 = (let byte : len.0.0 ≤ 255 = first.1.1 in omega (arith, count, byte)) in
    (first.0 ∙ ap (λ (n : ℕ). n ∷ len.0.1.rest) (sym count) ∙ ap (λ (r : List ℕ). length host ∷ r) bytes.0 ∙ ap (λ (h : List ℕ). h ++ after.rest) (sym (host_spelled host short)), short)

node_read : (b : Bounds) (place : ℕ) (rest : List ℕ) (n : ListedNode) (after : Left) → IsBounds b → node_at b (left place rest) ≡ Ok (n, after) → (rest ≡ node_bytes n ++ after.rest) × IsAmong b (address_of n) × IsListed n × (length n.host ≤ 255)
unfolding node_at
node_read b place rest n after is read =
    let address = steps_ok (address_in b (left place rest)) _ (n, after) read in
    let s = address.0.0 in
    let first = address_read b place rest s address.0.1 is address.1 in
    let kind = steps_ok (kind_at address.0.1) _ (n, after) address.2 in
    let second = kind_read address.0.1.place address.0.1.rest kind.0.0 kind.0.1 kind.1 in
    let host = steps_ok (host_at kind.0.1) _ (n, after) kind.2 in
    let third = host_read kind.0.1.place kind.0.1.rest host.0.0 host.0.1 host.1 in
    let port = steps_ok (number_in all_numbers host.0.1) _ (n, after) host.2 in
    let fourth = number_read all_numbers host.0.1.place host.0.1.rest port.0.0 port.0.1 (omega arith) port.1 in
    let node : ListedNode = record { zone = s.zone; net = s.net; node = s.node; kind = kind.0.0; host = host.0.0; port = port.0.0 } in
    let last : Ok (node, port.0.1) ≡ Ok (n, after) = port.2 in
    let same : (node, port.0.1) ≡ (n, after) = cc in
    let port_in : port.0.0 ≤ 65535 = fourth.1.1 in
    let bytes : rest ≡ node_bytes node ++ port.0.1.rest =
    first.0 ∙ ap (λ (r : List ℕ). address_bytes s r) (second ∙ ap (λ (r : List ℕ). kind_byte kind.0.0 ∷ r) (third.0 ∙ ap (λ (r : List ℕ). host_bytes host.0.0 ++ r) fourth.0)) ∙ sym (node_spelled node port.0.1.rest) in
    let listed : IsListed node = record { zone = first.1.is.zone; net = first.1.is.net; node = first.1.is.node; port = omega (arith, port_in) } in
    let at : ListedNode × Left → ListedNode = λ p. p.0 in
    (bytes ∙ ap (λ (p : ListedNode × Left). node_bytes p.0 ++ p.1.rest) same, subst (λ (m : ListedNode). IsAmong b (address_of m)) (ap at same) first.1, subst IsListed (ap at same) listed, subst (λ (m : ListedNode). length m.host ≤ 255) (ap at same) third.1)

-- a list that was read behind others
record Nodes (next count : ℕ) (before : List ListedNode) (rest : List ℕ) (nodes : List ListedNode) (after : Left) : Type 0 where
  more : List ListedNode
  all : nodes ≡ before ++ more
  bytes : rest ≡ flat_map node_bytes more ++ after.rest
  many : length more ≡ count
  listed : AllByRecursion IsListed more
  climbs : Climbs next more

nodes_read : (count next place : ℕ) (before : List ListedNode) (rest : List ℕ) (nodes : List ListedNode) (after : Left) → next + count ≤ 2 ^ 45 → nodes_from count next before (left place rest) ≡ Ok (nodes, after) → Nodes next count before rest nodes after
nodes_read zero next place before rest nodes after room read =
    let last : Ok (before, left place rest) ≡ Ok (nodes, after) = read in
    let same : (before, left place rest) ≡ (nodes, after) = cc in
    record { more = []; all = sym (ap (λ (p : List ListedNode × Left). p.0) same) ∙ sym (append-nil before); bytes = ap (λ (p : List ListedNode × Left). p.1.rest) same; many = refl; listed = tt; climbs = tt }
nodes_read (suc count) next place before rest nodes after room read =
    let b = bounds_for next (suc count) in
    let one = steps_ok (node_at b (left place rest)) _ (nodes, after) read in
    let n = one.0.0 in
    let first = node_read b place rest n one.0.1 (is_bounds next (suc count) (omega arith) room) one.1 in
    let low : next ≤ ordinal (address_of n) = (let on = first.1.low in omega (arith, on, ordinal-spot_at next)) in
    let high : ordinal (address_of n) ≤ 2 ^ 45 - suc count = (let on = first.1.high in omega (arith, on, ordinal-spot_at (2 ^ 45 - suc count))) in
    let behind = nodes_read count (ordinal (address_of n) + 1) one.0.1.place (before ++ n ∷ []) one.0.1.rest nodes after (omega (arith, high, room)) one.2 in
    record {
      more = n ∷ behind.more;
      all = behind.all ∙ append_assoc before (n ∷ []) behind.more;
      bytes = first.0 ∙ ap (λ (r : List ℕ). node_bytes n ++ r) behind.bytes ∙ sym (append_assoc (node_bytes n) (flat_map node_bytes behind.more) after.rest);
      many = ap (λ (k : ℕ). suc k) behind.many;
      listed = (first.2, behind.listed);
      climbs = (low, behind.climbs);
    }

count_read : (place : ℕ) (rest : List ℕ) (count : ℕ) (after : Left) → count_at (left place rest) ≡ Ok (count, after) → (rest ≡ to_be_bytes w32 count ++ after.rest) × (count ≤ 65536)
unfolding count_at
count_read place rest count after read =
    let high = steps_ok (number_in (record { low = 0; high = 1 }) (left place rest)) _ (count, after) read in
    let h = high.0.0 in
    let first = number_read (record { low = 0; high = 1 }) place rest h high.0.1 (omega arith) high.1 in
    let low = steps_ok (number_in (record { low = 0; high = cond (eqb h 1) 0 65535 }) high.0.1) _ (count, after) high.2 in
    let l = low.0.0 in
    let second = number_read (record { low = 0; high = cond (eqb h 1) 0 65535 }) high.0.1.place high.0.1.rest l low.0.1 (low_top (eqb h 1)) low.1 in
    let last : Ok (h * 65536 + l, low.0.1) ≡ Ok (count, after) = low.2 in
    let same : (h * 65536 + l, low.0.1) ≡ (count, after) = cc in
    let sum : h * 65536 + l ≡ count = ap (λ (p : ℕ × Left). p.0) same in
    let few : h * 65536 + l ≤ 65536 = most h l (eqb h 1) refl first.1.1 second.1.1 in
    let top : l ≤ 65535 = (let on = second.1.1 in below_two l (eqb h 1) on) in
    let halves : to_be_bytes w32 count ≡ to_be_bytes w16 h ++ to_be_bytes w16 l = count_halves count ∙ ap (λ (k : ℕ). to_be_bytes w16 k ++ to_be_bytes w16 (count % 65536)) (omega (arith, sum, top)) ∙ ap (λ (k : ℕ). to_be_bytes w16 h ++ to_be_bytes w16 k) (omega (arith, sum, top)) in
    (first.0 ∙ ap (λ (r : List ℕ). to_be_bytes w16 h ++ r) second.0 ∙ ap (λ (r : List ℕ). r ++ low.0.1.rest) (sym halves) ∙ ap (λ (r : List ℕ). to_be_bytes w32 count ++ r) (ap (λ (p : ℕ × Left). p.1.rest) same), omega (arith, sum, few))
  where
    low_top : (p : Bool) → cond p 0 65535 ≤ 65535
    low_top true = omega arith
    low_top false = omega arith

    below_two : (l : ℕ) (p : Bool) → l ≤ cond p 0 65535 → l ≤ 65535
    below_two l true on = omega (arith, on)
    below_two l false on = on

    most : (h l : ℕ) (p : Bool) → eqb h 1 ≡ p → h ≤ 1 → l ≤ cond p 0 65535 → h * 65536 + l ≤ 65536
    most h l true e under on = omega (arith, under, on)
    most h l false e under on = let differ = eqb-false h 1 e in omega (arith, differ, under, on)

prefix_whole : (bytes front : List ℕ) → length front ≤ common_prefix_len nat_eq bytes front → bytes ≡ front ++ drop (length front) bytes
prefix_whole bytes [] all = refl
prefix_whole [] (f ∷ front) all = absurd (omega arith)
prefix_whole (x ∷ bytes) (f ∷ front) all = go (eqb x f) refl all (prefix_whole bytes front)
  where
    go : (p : Bool) → eqb x f ≡ p → length (f ∷ front) ≤ cond p (1 + common_prefix_len nat_eq bytes front) 0 → (length front ≤ common_prefix_len nat_eq bytes front → bytes ≡ front ++ drop (length front) bytes) → (x ∷ bytes) ≡ (f ∷ front) ++ drop (length (f ∷ front)) (x ∷ bytes)
    go true e all more = ap (λ (y : ℕ). y ∷ bytes) (eqb-true x f e) ∙ ap (λ (r : List ℕ). f ∷ r) (more (omega (arith, all)))
    go false e all more = absurd (omega (arith, all))

magic_read : (bytes : List ℕ) (at : Left) → after_magic bytes ≡ Ok at → bytes ≡ codes "nodeidx1" ++ at.rest
unfolding after_magic
magic_read bytes at read = go (ltb (common_prefix_len nat_eq bytes (codes "nodeidx1")) 8) refl read
  where
    go : (t : Bool) → ltb (common_prefix_len nat_eq bytes (codes "nodeidx1")) 8 ≡ t → cond t (Err (Bad (common_prefix_len nat_eq bytes (codes "nodeidx1")))) (Ok (left 8 (drop 8 bytes))) ≡ Ok at → bytes ≡ codes "nodeidx1" ++ at.rest
    go true t e = absurd (let clash : Err (Bad (common_prefix_len nat_eq bytes (codes "nodeidx1"))) ≡ Ok at = e in cc)
    go false t e =
        let last : Ok (left 8 (drop 8 bytes)) ≡ Ok at = e in
        let same : left 8 (drop 8 bytes) ≡ at = cc in
        prefix_whole bytes (codes "nodeidx1") (ltb-false _ 8 t) ∙ ap (λ (l : Left). codes "nodeidx1" ++ l.rest) same

-- nodes in order stay as they are
below_all : (sorted : List ListedNode) (n : ListedNode) → AllByRecursion (λ m. place_of m < place_of n) sorted → has_place sorted (place_of n) ≡ false
below_all [] n below = refl
below_all (m ∷ sorted) n below =
    let differ : eqb (place_of m) (place_of n) ≡ false = ne_eqb _ _ (λ same. let lower = below.0 in omega (arith, lower, same)) in
    rw differ (below_all sorted n below.1)

insert_last : (sorted : List ListedNode) (n : ListedNode) → AllByRecursion (λ m. place_of m < place_of n) sorted → insert_node n sorted ≡ sorted ++ n ∷ []
insert_last [] n below = refl
insert_last (m ∷ sorted) n below =
    let lower = below.0 in
    let behind : ltb (place_of n) (place_of m) ≡ false = le-ltb _ _ (omega (arith, lower)) in
    rw behind (ap (λ (ms : List ListedNode). m ∷ ms) (insert_last sorted n below.1))

below_more : (sorted : List ListedNode) (m n : ListedNode) → AllByRecursion (λ k. place_of k < place_of m) sorted → place_of m < place_of n → AllByRecursion (λ k. place_of k < place_of n) (sorted ++ m ∷ [])
below_more [] m n below up = (up, tt)
below_more (k ∷ sorted) m n below up = (let lower = below.0 in omega (arith, lower, up), below_more sorted m n below.1 up)

place_climbs : (m n : ListedNode) → IsListed m → IsListed n → ordinal (address_of m) + 1 ≤ ordinal (address_of n) → place_of m < place_of n
place_climbs m n x y on =
    let at : m.net ≤ 32767 = x.net in let ad : m.node ≤ 32767 = x.node in
    let bt : n.net ≤ 32767 = y.net in let bd : n.node ≤ 32767 = y.node in
    omega (arith, on, at, ad, bt, bd)

-- further nodes go to the end one by one
kept : (sorted : List ListedNode) (n : ListedNode) (nodes : List ListedNode) → AllByRecursion (λ m. place_of m < place_of n) sorted → IsListed n → AllByRecursion IsListed nodes → Climbs (ordinal (address_of n) + 1) nodes → fold with_node sorted (n ∷ nodes) ≡ sorted ++ n ∷ nodes
kept sorted n [] below one fits climbs = let absent = below_all sorted n below in rw absent (insert_last sorted n below)
kept sorted n (m ∷ nodes) below one fits climbs =
    let absent = below_all sorted n below in
    let up = place_climbs n m one fits.0 climbs.0 in
    let more = kept (sorted ++ n ∷ []) m nodes (below_more sorted n m below up) fits.0 fits.1 climbs.1 in
    rw absent (ap (λ (ms : List ListedNode). fold with_node ms (m ∷ nodes)) (insert_last sorted n below) ∙ more ∙ append_assoc sorted (n ∷ []) (m ∷ nodes))

in_order-climbs : (next : ℕ) (nodes : List ListedNode) → AllByRecursion IsListed nodes → Climbs next nodes → in_order nodes ≡ nodes
in_order-climbs next [] fits climbs = refl
in_order-climbs next (n ∷ nodes) fits climbs = kept [] n nodes tt fits.0 fits.1 climbs.1

no_bytes : (xs : List ℕ) → length xs ≡ 0 → xs ≡ []
no_bytes [] e = refl
no_bytes (x ∷ xs) e = absurd (omega (arith, e))

end_read : (some nodes : List ListedNode) (at : Left) → at_end some at ≡ Ok nodes → (some ≡ nodes) × (at.rest ≡ [])
end_read some nodes at read = go (eqb (length at.rest) 0) refl read
  where
    go : (t : Bool) → eqb (length at.rest) 0 ≡ t → cond t (Ok some) (Err (Bad at.place)) ≡ Ok nodes → (some ≡ nodes) × (at.rest ≡ [])
    go true t e = let last : Ok some ≡ Ok nodes = e in let same : some ≡ nodes = cc in (same, no_bytes at.rest (eqb-true _ _ t))
    go false t e = absurd (let clash : Err (Bad at.place) ≡ Ok nodes = e in cc)

pub opened : (bytes : List ℕ) (nodes : List ListedNode) → read_index bytes ≡ Ok nodes → IsIndex bytes nodes
unfolding read_index
opened bytes nodes read =
    let magic = steps_ok (after_magic bytes) _ nodes read in
    let front = magic_read bytes magic.0 magic.1 in
    let count = steps_ok (count_at magic.0) _ nodes magic.2 in
    let n = count.0.0 in
    let second = count_read magic.0.place magic.0.rest n count.0.1 count.1 in
    let few : n ≤ 65536 = second.1 in
    let all = steps_ok (nodes_from n 0 [] count.0.1) _ nodes count.2 in
    let third = nodes_read n 0 count.0.1.place [] count.0.1.rest all.0.0 all.0.1 (omega (arith, few)) all.1 in
    let ends = end_read all.0.0 nodes all.0.1 all.2 in
    let more = third.more in
    let many : length more ≡ n = third.many in
    let same : more ≡ nodes = sym third.all ∙ ends.0 in
    let ordered = in_order-climbs 0 more third.listed third.climbs in
    let numbers : to_be_bytes w32 n ≡ to_be_bytes w32 (min (length more) (2 ^ 32 - 1)) = ap (λ (k : ℕ). to_be_bytes w32 k) (omega (arith, many, few)) in
    let behind : count.0.1.rest ≡ flat_map node_bytes more = third.bytes ∙ ap (λ (r : List ℕ). flat_map node_bytes more ++ r) ends.1 ∙ append-nil (flat_map node_bytes more) in
    let text : bytes ≡ spelled more =
    front ∙ ap (λ (r : List ℕ). codes "nodeidx1" ++ r) (second.0 ∙ ap (λ (r : List ℕ). to_be_bytes w32 n ++ r) behind ∙ ap (λ (r : List ℕ). r ++ flat_map node_bytes more) numbers)
    ∙ sym (append_assoc (codes "nodeidx1") (to_be_bytes w32 (min (length more) (2 ^ 32 - 1))) (flat_map node_bytes more)) in
    subst (IsIndex bytes) same (record { listed = third.listed; few = omega (arith, many, few); ordered = ordered; text = text ∙ ap (λ (ns : List ListedNode). spelled ns) (sym ordered) })
