-- The base of an outbound and the paths in it.
use Rattle.std.proofs.Common.{◌≡◌, ◌≢◌, ℕ, ◌+◌, ◌-◌, ◌<◌, ◌≤◌, ◌==◌, not, get_or, Bool, true, false, List, [], ◌∷◌, ◌++◌, length, take, drop, Option, Some, None, refl, sym, ap, ◌∙◌, subst, arith, length-append, length-take, length-drop, append_assoc}
use Rattle.std.specs.Prelude.{reverse, if◌then◌else◌, nat_eq}
use Rattle.std.specs.List.{starts_with}
use Rattle.std.specs.Option.{option_zip}
use Rattle.std.proofs.lemmas.Bool.{eqb-true, eq-eqb}
use Rattle.std.proofs.lemmas.Bool.Decides.{Decides-eqb}
use Rattle.std.proofs.lemmas.List.{append_cancel_left, reverse-append, reverse-reverse, take_all, take_at, take_more, drop_at, take-append-drop}
use Rattle.std.proofs.lemmas.Slice.Eq.{starts_is}
use Rattle.ftn_addr.specs.Address.{Address}
use Rattle.bso_outbound.specs.declared.kind.Kind.{Kind}
use Rattle.bso_outbound.specs.declared.spot.Spot.{Spot}
use Rattle.bso_outbound.specs.Digits.{three_digits_or_more}
use Rattle.bso_outbound.specs.Names.{outbound_name, zone_ending, zone_folder}
use Rattle.bso_outbound.specs.Paths.{as_compared, from_slash, last_part, lower_case, up_to_slash}
use Rattle.bso_outbound.specs.Reading.{AddressOf, IsNumber, IsOfDomain, IsSpot, Reads, ReadsBy, name_at, name_below, no_slash}
use Rattle.bso_outbound.proofs.Numbers.{one_zone}
use Rattle.bso_outbound.proofs.Slashes.{both_no_slash, zone_no_slash}
use Rattle.bso_outbound.proofs.SpotNames.{SpotFile, one_spot}
use Rattle.bso_outbound.proofs.Texts.{at_slash, halves, joined, length-lower, no_path, tails}
use Rattle.node_model.proofs.Lists.{and_true, and_both, is_false, off}

-- the last part

push_slash : (xs : List ℕ) (x : ℕ) → (x == 47) ≡ true → up_to_slash (xs ++ x ∷ []) ≡ xs ++ x ∷ []
push_slash xs x e =
    ap (λ (l : List ℕ). reverse (from_slash l)) (reverse-append xs (x ∷ []))
    ∙ ap (λ (b : Bool). reverse (if b then x ∷ reverse xs else from_slash (reverse xs))) e
    ∙ ap reverse (sym (reverse-append xs (x ∷ []))) ∙ reverse-reverse (xs ++ x ∷ [])

push_other : (xs : List ℕ) (x : ℕ) → (x == 47) ≡ false → up_to_slash (xs ++ x ∷ []) ≡ up_to_slash xs
push_other xs x e =
    ap (λ (l : List ℕ). reverse (from_slash l)) (reverse-append xs (x ∷ []))
    ∙ ap (λ (b : Bool). reverse (if b then x ∷ reverse xs else from_slash (reverse xs))) e

pub last_byte : (l : List ℕ) → 1 ≤ length l → l ≡ take (length l - 1) l ++ get_or l (length l - 1) 0 ∷ []
last_byte l some =
    let n : length l - 1 + 1 ≡ length l = omega (arith, some) in
    sym (take_all (length l - 1 + 1) l (omega (arith, n))) ∙ take_more l (length l - 1) 0 (omega (arith, some))

-- one step from the end of a path
pub step_back : (l : List ℕ) → 1 ≤ length l → get_or l (length l - 1) 0 ≢ 47 → up_to_slash (take (length l - 1) l) ≡ up_to_slash l
step_back l some other =
    sym (push_other (take (length l - 1) l) (get_or l (length l - 1) 0) (is_false (get_or l (length l - 1) 0 == 47) (λ t. other (eqb-true (get_or l (length l - 1) 0) 47 t))))
    ∙ ap up_to_slash (sym (last_byte l some))

pub ends_there : (l : List ℕ) → 1 ≤ length l → get_or l (length l - 1) 0 ≡ 47 → up_to_slash l ≡ l
ends_there l some is =
    ap up_to_slash (last_byte l some) ∙ push_slash (take (length l - 1) l) (get_or l (length l - 1) 0) (eq-eqb (get_or l (length l - 1) 0) 47 is) ∙ sym (last_byte l some)

pub ends_empty : (l : List ℕ) → length l < 1 → up_to_slash l ≡ l
ends_empty [] none = refl
ends_empty (b ∷ l) none = absurd (omega arith)

record Cut (l : List ℕ) : Type 0 where
  front : List ℕ
  whole : l ≡ front ++ from_slash l
  part : no_slash front ≡ true

cut_front : (l : List ℕ) → Cut l
cut_front [] = record { front = []; whole = refl; part = refl }
cut_front (b ∷ l) = go (b == 47) refl (cut_front l)
  where
    go : (t : Bool) → (b == 47) ≡ t → Cut l → Cut (b ∷ l)
    go true e rest = record { front = []; whole = sym (ap (λ (v : Bool). if v then b ∷ l else from_slash l) e); part = refl }
    go false e rest = record {
      front = b ∷ rest.front;
      whole = ap (λ (k : List ℕ). b ∷ k) rest.whole ∙ ap (λ (k : List ℕ). b ∷ (rest.front ++ k)) (sym (ap (λ (v : Bool). if v then b ∷ l else from_slash l) e));
      part = and_both (not (b == 47)) (no_slash rest.front) (ap not e) rest.part;
    }

reverse_no_slash : (l : List ℕ) → no_slash l ≡ true → no_slash (reverse l) ≡ true
reverse_no_slash [] h = refl
reverse_no_slash (b ∷ l) h =
    let parts = and_true (not (b == 47)) (no_slash l) h in
    ap no_slash (reverse-append (b ∷ []) l) ∙ both_no_slash (reverse l) (b ∷ []) (reverse_no_slash l parts.1) (and_both (not (b == 47)) true parts.0 refl)

behind : (base : List ℕ) → List ℕ
behind base = reverse (cut_front (reverse base)).front

base_is : (base : List ℕ) → base ≡ up_to_slash base ++ behind base
unfolding behind
base_is base =
    let cut = cut_front (reverse base) in
    sym (reverse-reverse base) ∙ ap reverse cut.whole ∙ reverse-append cut.front (from_slash (reverse base))

last_is : (base : List ℕ) → last_part base ≡ behind base
last_is base = ap (drop (length (up_to_slash base))) (base_is base) ∙ drop_at (up_to_slash base) (behind base) (length (up_to_slash base)) refl

pub last_no_slash : (base : List ℕ) → no_slash (last_part base) ≡ true
unfolding behind
last_no_slash base = ap no_slash (last_is base) ∙ reverse_no_slash (cut_front (reverse base)).front (cut_front (reverse base)).part

pub split_base : (base : List ℕ) → base ≡ up_to_slash base ++ last_part base
split_base base = base_is base ∙ ap (λ (l : List ℕ). up_to_slash base ++ l) (sym (last_is base))

-- paths as they are compared

pub compared_front : (base rest : List ℕ) → as_compared base (up_to_slash base ++ rest) ≡ up_to_slash base ++ lower_case rest
compared_front base rest =
    ap (λ (l : List ℕ). l ++ lower_case (drop (length (up_to_slash base)) (up_to_slash base ++ rest))) (take_at (up_to_slash base) rest (length (up_to_slash base)) refl)
    ∙ ap (λ (l : List ℕ). up_to_slash base ++ lower_case l) (drop_at (up_to_slash base) rest (length (up_to_slash base)) refl)

pub regroup : (base : List ℕ) (default : ℕ) (file : ℕ × (Spot × Kind)) → name_below base default file ≡ up_to_slash base ++ name_below (last_part base) default file
regroup base default file =
    ap (λ (l : List ℕ). (l ++ zone_ending file.0 default) ++ 47 ∷ name_at file.1) (split_base base)
    ∙ ap (λ (l : List ℕ). l ++ 47 ∷ name_at file.1) (append_assoc (up_to_slash base) (last_part base) (zone_ending file.0 default))
    ∙ append_assoc (up_to_slash base) (last_part base ++ zone_ending file.0 default) (47 ∷ name_at file.1)

pub compared_name : (base : List ℕ) (default : ℕ) (file : ℕ × (Spot × Kind)) → as_compared base (name_below base default file) ≡ up_to_slash base ++ lower_case (name_below (last_part base) default file)
compared_name base default file = ap (as_compared base) (regroup base default file) ∙ compared_front base (name_below (last_part base) default file)

abbrev pub FileBelow : ℕ × (Spot × Kind) → Type 0
FileBelow file = IsNumber file.0 × IsSpot file.1.0

pub in_folder_above : (base path rest : List ℕ) (default : ℕ) (r : Option (ℕ × (Spot × Kind))) → path ≡ up_to_slash base ++ rest → Reads FileBelow (name_below (last_part base) default) rest r → ReadsBy (as_compared base) FileBelow (name_below base default) path r
in_folder_above base path rest default (Some file) is a =
    (a.0, ap (as_compared base) is ∙ compared_front base rest ∙ ap (λ (l : List ℕ). up_to_slash base ++ l) a.1 ∙ sym (compared_name base default file))
in_folder_above base path rest default None is a = λ file fits same.
    a file fits (append_cancel_left (up_to_slash base) (lower_case rest) (lower_case (name_below (last_part base) default file)) (sym (compared_front base rest) ∙ sym (ap (as_compared base) is) ∙ same ∙ compared_name base default file))

-- a path that is compared like one in the folder above is there
pub is_there : (base path rest : List ℕ) → as_compared base path ≡ up_to_slash base ++ rest → path ≡ up_to_slash base ++ drop (length (up_to_slash base)) path
is_there base path rest is =
    let n = length (up_to_slash base) in
    let long : n ≤ length path = omega (arith, ap length is, length-append (take n path) (lower_case (drop n path)), length-take n path, length-lower (drop n path), length-drop n path, length-append (up_to_slash base) rest) in
    let front : length (take n path) ≡ n = omega (arith, length-take n path, long) in
    let same : take n path ≡ up_to_slash base = sym (take_at (take n path) (lower_case (drop n path)) n front) ∙ ap (take n) is ∙ take_at (up_to_slash base) rest n refl in
    sym (take-append-drop n path) ∙ ap (λ (l : List ℕ). l ++ drop n path) same

pub elsewhere : (base path : List ℕ) (default : ℕ) → path ≢ up_to_slash base ++ drop (length (up_to_slash base)) path → ReadsBy (as_compared base) FileBelow (name_below base default) path None
elsewhere base path default other = λ file fits same. other (is_there base path (lower_case (name_below (last_part base) default file)) (same ∙ compared_name base default file))

starts_there : (base path u : List ℕ) (r : Bool) → u ≡ up_to_slash base → r ≡ starts_with nat_eq path u → (r ≡ true → path ≡ up_to_slash base ++ drop (length (up_to_slash base)) path) × (path ≡ up_to_slash base ++ drop (length (up_to_slash base)) path → r ≡ true)
starts_there base path u r is value =
    let both = starts_is Decides-eqb path (up_to_slash base) r (value ∙ ap (starts_with nat_eq path) is) in
    (both.0, both.1 (drop (length (up_to_slash base)) path))

pub starts_elsewhere : (base path u : List ℕ) (default : ℕ) (r : Bool) → u ≡ up_to_slash base → r ≡ starts_with nat_eq path u → r ≡ false → ReadsBy (as_compared base) FileBelow (name_below base default) path None
starts_elsewhere base path u default r is value not_so = elsewhere base path default (λ there. off (sym ((starts_there base path u r is value).1 there) ∙ not_so))

pub starts_above : (base path u own rest : List ℕ) (default : ℕ) (r : Bool) (o : Option (ℕ × (Spot × Kind))) → u ≡ up_to_slash base → own ≡ last_part base → rest ≡ drop (length u) path → r ≡ starts_with nat_eq path u → r ≡ true
    → Reads FileBelow (name_below own default) rest o → ReadsBy (as_compared base) FileBelow (name_below base default) path o
starts_above base path u own rest default r o is last behind' value so a =
    in_folder_above base path (drop (length (up_to_slash base)) path) default o ((starts_there base path u r is value).0 so)
    (subst (λ (l : List ℕ). Reads FileBelow (name_below (last_part base) default) l o) (behind' ∙ ap (λ (l : List ℕ). drop (length l) path) is)
    (subst (λ (l : List ℕ). Reads FileBelow (name_below l default) rest o) last a))

-- a path behind the folder above

pub no_file : (base path : List ℕ) (default : ℕ) → no_slash path ≡ true → Reads FileBelow (name_below base default) path None
no_file base path default part = λ file fits is. no_path path (zone_folder base file.0 default) (name_at file.1) part is

pub file_in_zone : (base folder name : List ℕ) (default : ℕ) (z : Option ℕ) (r : Option (Spot × Kind)) (o : Option (ℕ × (Spot × Kind))) → no_slash base ≡ true → no_slash folder ≡ true
    → Reads IsNumber (λ zone. zone_folder base zone default) folder z → Reads SpotFile name_at name r → o ≡ option_zip z r → Reads FileBelow (name_below base default) (folder ++ 47 ∷ name) o
file_in_zone base folder name default z r o own part a b is = subst (λ (f : Option (ℕ × (Spot × Kind))). Reads FileBelow (name_below base default) (folder ++ 47 ∷ name) f) (sym is) (go z r a b)
  where
    go : (z : Option ℕ) (r : Option (Spot × Kind)) → Reads IsNumber (λ zone. zone_folder base zone default) folder z → Reads SpotFile name_at name r → Reads FileBelow (name_below base default) (folder ++ 47 ∷ name) (option_zip z r)
    go None r a b = λ file fits is. a file.0 fits.0 (at_slash folder name (zone_folder base file.0 default) (name_at file.1) part (zone_no_slash base file.0 default own) is).0
    go (Some zone) None a b = λ file fits is. b file.1 fits.1 (at_slash folder name (zone_folder base file.0 default) (name_at file.1) part (zone_no_slash base file.0 default own) is).1
    go (Some zone) (Some file) a b = ((a.0, b.0), joined folder (47 ∷ name) (zone_folder base zone default) (47 ∷ name_at file) a.1 (ap (λ (l : List ℕ). 47 ∷ l) b.1))

-- addresses

pub no_address : (base domain path : List ℕ) (default : ℕ) → ReadsBy (as_compared base) FileBelow (name_below base default) path None → AddressOf base default domain path None
no_address base domain path default a = λ file fits.
    a (file.0.zone, (record { net = file.0.net; node = file.0.node; point = file.0.point }, file.1)) (fits.0.zone, ((fits.0.net, fits.0.node), fits.0.point))

pub no_address_of : (base domain path own text : List ℕ) (default : ℕ) → own ≡ base → text ≡ path → ReadsBy (as_compared own) FileBelow (name_below own default) text None → AddressOf base default domain path None
no_address_of base domain path own text default is same a =
    no_address base domain path default (subst (λ (l : List ℕ). ReadsBy (as_compared base) FileBelow (name_below base default) l None) same (subst (λ (b : List ℕ). ReadsBy (as_compared b) FileBelow (name_below b default) text None) is a))

-- one address and kind for each name

one_zone_ending : (zone other default : ℕ) → IsNumber zone → IsNumber other → lower_case (zone_ending zone default) ≡ lower_case (zone_ending other default) → zone ≡ other
one_zone_ending zone other default a b is = go (zone == default) (other == default) refl refl is
  where
    go : (s t : Bool) → (zone == default) ≡ s → (other == default) ≡ t → lower_case (if s then [] else 46 ∷ three_digits_or_more zone) ≡ lower_case (if t then [] else 46 ∷ three_digits_or_more other) → zone ≡ other
    go true true e f is = eqb-true zone default e ∙ sym (eqb-true other default f)
    go true false e f is = absurd (cc)
    go false true e f is = absurd (cc)
    go false false e f is = one_zone zone other a b (tails 46 46 (lower_case (three_digits_or_more zone)) (lower_case (three_digits_or_more other)) is)

pub one_name : (base domain : List ℕ) (default : ℕ) (a b : Address) (j k : Kind) → IsOfDomain domain (a, j) → IsOfDomain domain (b, k)
    → as_compared base (outbound_name a j base default) ≡ as_compared base (outbound_name b k base default) → (a ≡ b) × (j ≡ k)
one_name base domain default a b j k x y is =
    let f : ℕ × (Spot × Kind) = (a.zone, (record { net = a.net; node = a.node; point = a.point }, j)) in
    let g : ℕ × (Spot × Kind) = (b.zone, (record { net = b.net; node = b.node; point = b.point }, k)) in
    let own = last_part base in
    let rest : lower_case (name_below own default f) ≡ lower_case (name_below own default g) = append_cancel_left (up_to_slash base) _ _ (sym (compared_name base default f) ∙ is ∙ compared_name base default g) in
    let parts = at_slash (zone_folder own a.zone default) (name_at f.1) (zone_folder own b.zone default) (name_at g.1) (zone_no_slash own a.zone default (last_no_slash base)) (zone_no_slash own b.zone default (last_no_slash base)) rest in
    let zone : a.zone ≡ b.zone = one_zone_ending a.zone b.zone default x.0.zone y.0.zone (halves own (zone_ending a.zone default) own (zone_ending b.zone default) refl parts.0).1 in
    let spot = one_spot (a.net, a.node) (b.net, b.node) a.point b.point j k (x.0.net, x.0.node) (y.0.net, y.0.node) x.0.point y.0.point parts.1 in
    let net : a.net ≡ b.net = ap (λ (p : ℕ × ℕ). p.0) spot.0 in
    let node : a.node ≡ b.node = ap (λ (p : ℕ × ℕ). p.1) spot.0 in
    let point : a.point ≡ b.point = spot.1 in
    let domains : a.domain ≡ b.domain = x.1 ∙ sym y.1 in
    (rw (zone, net, node, point, domains) refl, spot.2)

pub read_back : (base domain : List ℕ) (default : ℕ) (a : Address) (kind : Kind) (found : Option (Address × Kind)) → IsOfDomain domain (a, kind)
    → AddressOf base default domain (outbound_name a kind base default) found → found ≡ Some (a, kind)
read_back base domain default a kind (Some (b, k)) own (fits, same) =
    let one = one_name base domain default b a k kind fits own (sym same) in
    ap Some (λ i. (one.0 i, one.1 i))
read_back base domain default a kind None own none = absurd (none (a, kind) own refl)
