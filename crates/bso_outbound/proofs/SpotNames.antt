-- Names in the folder of a zone.
use Rattle.std.proofs.Common.{◌≡◌, ◌≢◌, ◌⊎◌, ℕ, ◌<◌, ◌==◌, Bool, true, false, List, ◌∷◌, ◌++◌, length, Option, Some, None, sym, ap, ◌∙◌, inl, inr, arith, length-append, option_map}
use Rattle.std.specs.Prelude.{codes, if◌then◌else◌}
use Rattle.std.specs.Option.{option_zip}
use Rattle.std.proofs.lemmas.Bool.{cases_lt}
use Rattle.std.proofs.lemmas.Bool.Decides.{nat_tests}
use Rattle.bso_outbound.specs.declared.kind.Kind.{Kind}
use Rattle.bso_outbound.specs.declared.spot.Spot.{Spot}
use Rattle.bso_outbound.specs.Digits.{four_digits, eight_digits}
use Rattle.bso_outbound.specs.Kinds.{ending}
use Rattle.bso_outbound.specs.Names.{name_in_zone, node_digits, point_folder}
use Rattle.bso_outbound.specs.Paths.{lower_case}
use Rattle.bso_outbound.specs.Reading.{IsNode, IsNumber, IsPoint, IsSpot, Reads, at_node, at_point, name_at, no_slash}
use Rattle.bso_outbound.proofs.Texts.{at_slash, no_path, joined, halves, backs}
use Rattle.bso_outbound.proofs.Four.{zeros}
use Rattle.bso_outbound.proofs.KindNames.{ending_is, one_ending}
use Rattle.bso_outbound.proofs.Numbers.{length-node, one_node}
use Rattle.bso_outbound.proofs.Slashes.{folder_no_slash, file_no_slash}

pub length-folder : (p : ℕ × ℕ) → length (point_folder p) ≡ 12
length-folder p = omega (arith, length-append (node_digits p) (codes ".pnt"), length-node p)

pub length-file : (p : ℕ × ℕ) (k : Kind) → length (node_digits p ++ ending k) ≡ 12
length-file p k = omega (arith, length-append (node_digits p) (ending k), length-node p, (ending_is k).four)

-- eight digits of a point are those of the net 0 and the node of that number
pub eight_is : (n : ℕ) → eight_digits n ≡ node_digits (0, n)
eight_is n = ap (λ (l : List ℕ). l ++ four_digits n) (sym zeros)

abbrev pub NodeFile : (ℕ × ℕ) × Kind → Type 0
NodeFile file = IsNode file.0

abbrev pub node_file : (ℕ × ℕ) × Kind → List ℕ
node_file file = node_digits file.0 ++ ending file.1

abbrev pub PointFile : ℕ × Kind → Type 0
PointFile file = IsPoint file.0

abbrev pub point_file : ℕ × Kind → List ℕ
point_file file = eight_digits file.0 ++ ending file.1

pub one_file : (p q : ℕ × ℕ) (j k : Kind) → IsNode p → IsNode q → lower_case (node_digits p ++ ending j) ≡ lower_case (node_digits q ++ ending k) → (p ≡ q) × (j ≡ k)
one_file p q j k a b is =
    let parts = backs (node_digits p) (ending j) (node_digits q) (ending k) ((ending_is j).four ∙ sym (ending_is k).four) is in
    (one_node p q a b parts.0, one_ending j k parts.1)

-- a file that is read as a node's is no other point's
as_point : (name : List ℕ) (p : ℕ × ℕ) (k : Kind) → IsNode p → lower_case name ≡ lower_case (node_digits p ++ ending k) → (file : ℕ × Kind) → PointFile file → lower_case name ≡ lower_case (point_file file) → p ≡ (0, file.0)
as_point name p k fits is file point same =
    (one_file p (0, file.0) k file.1 fits (omega arith, point.1) (sym is ∙ same ∙ ap (λ (l : List ℕ). lower_case (l ++ ending file.1)) (eight_is file.0))).0

pub unread_point : (name : List ℕ) → Reads NodeFile node_file name None → Reads PointFile point_file name None
unread_point name a = λ file point same. a ((0, file.0), file.1) (omega arith, point.1) (same ∙ ap (λ (l : List ℕ). lower_case (l ++ ending file.1)) (eight_is file.0))

pub high_not_0 : (name : List ℕ) (high point : ℕ) (k : Kind) → IsNode (high, point) → lower_case name ≡ lower_case (node_digits (high, point) ++ ending k) → high ≢ 0 → Reads PointFile point_file name None
high_not_0 name high point k fits is other = λ file point' same. other (ap (λ (p : ℕ × ℕ). p.0) (as_point name (high, point) k fits is file point' same))

pub point_0 : (name : List ℕ) (high point : ℕ) (k : Kind) → IsNode (high, point) → lower_case name ≡ lower_case (node_digits (high, point) ++ ending k) → point ≡ 0 → Reads PointFile point_file name None
point_0 name high point k fits is zero = λ file point' same.
    let e : point ≡ file.0 = ap (λ (p : ℕ × ℕ). p.1) (as_point name (high, point) k fits is file point' same) in
    let some : 0 < file.0 = point'.0 in
    omega (arith, e, some, zero)

pub point_is : (name : List ℕ) (high point : ℕ) (k : Kind) → IsNode (high, point) → lower_case name ≡ lower_case (node_digits (high, point) ++ ending k) → high ≡ 0 → 0 < point → Reads PointFile point_file name (Some (point, k))
point_is name high point k fits is zero some =
    ((some, fits.1), is ∙ ap (λ (n : ℕ). lower_case (node_digits (n, point) ++ ending k)) zero ∙ ap (λ (l : List ℕ). lower_case (l ++ ending k)) (sym (eight_is point)))

-- what a node's and a point's names are

pub node_name : (node : ℕ × ℕ) (point : ℕ) (end : List ℕ) → point ≡ 0 → name_in_zone node point end ≡ node_digits node ++ end
node_name node point end is = ap (λ (n : ℕ). name_in_zone node n end) is

pub point_name : (node : ℕ × ℕ) (point : ℕ) (end : List ℕ) → 0 < point → name_in_zone node point end ≡ point_folder node ++ 47 ∷ (eight_digits point ++ end)
point_name node point end some =
    let e : (point == 0) ≡ false = grind (arith, nat_tests) in
    ap (λ (b : Bool). if b then node_digits node ++ end else point_folder node ++ 47 ∷ (eight_digits point ++ end)) e

pub zero_or : (n : ℕ) → (n ≡ 0) ⊎ (0 < n)
zero_or n = elim (cases_lt 0 n) [ inl some ↦ inr some | inr none ↦ inl (omega arith) ]

abbrev pub SpotFile : Spot × Kind → Type 0
SpotFile file = IsSpot file.0

pub node_spot : (name : List ℕ) (r : Option ((ℕ × ℕ) × Kind)) → no_slash name ≡ true → Reads NodeFile node_file name r → Reads SpotFile name_at name (option_map at_node r)
node_spot name (Some ((net, node), kind)) part a = ((a.0, omega arith), a.1)
node_spot name None part a = λ file fits is.
    elim (zero_or file.0.point) [
      | inl zero ↦ a ((file.0.net, file.0.node), file.1) fits.0 (is ∙ ap lower_case (node_name (file.0.net, file.0.node) file.0.point (ending file.1) zero))
      | inr some ↦ no_path name (point_folder (file.0.net, file.0.node)) (eight_digits file.0.point ++ ending file.1) part (is ∙ ap lower_case (point_name (file.0.net, file.0.node) file.0.point (ending file.1) some))
    ]

-- the name of a spot in a folder of points is that of a point
in_folder : (folder name : List ℕ) → no_slash folder ≡ true → (file : Spot × Kind) → lower_case (folder ++ 47 ∷ name) ≡ lower_case (name_at file)
    → (0 < file.0.point) × (lower_case folder ≡ lower_case (point_folder (file.0.net, file.0.node))) × (lower_case name ≡ lower_case (eight_digits file.0.point ++ ending file.1))
in_folder folder name part file is =
    elim (zero_or file.0.point) [
      | inl zero ↦ absurd (no_path (node_digits (file.0.net, file.0.node) ++ ending file.1) folder name (file_no_slash (file.0.net, file.0.node) file.1) (sym (is ∙ ap lower_case (node_name (file.0.net, file.0.node) file.0.point (ending file.1) zero))))
      | inr some ↦
          let parts = at_slash folder name (point_folder (file.0.net, file.0.node)) (eight_digits file.0.point ++ ending file.1) part (folder_no_slash (file.0.net, file.0.node)) (is ∙ ap lower_case (point_name (file.0.net, file.0.node) file.0.point (ending file.1) some)) in
          (some, parts.0, parts.1)
    ]

pub point_spot : (folder name : List ℕ) (r : Option (ℕ × ℕ)) (t : Option (ℕ × Kind)) → no_slash folder ≡ true → Reads IsNode point_folder folder r → Reads PointFile point_file name t → Reads SpotFile name_at (folder ++ 47 ∷ name) (option_map at_point (option_zip r t))
point_spot folder name None t part a b = λ file fits is.
    let h = in_folder folder name part file is in
    a (file.0.net, file.0.node) fits.0 h.1
point_spot folder name (Some node) None part a b = λ file fits is.
    let h = in_folder folder name part file is in
    b (file.0.point, file.1) (h.0, fits.1) h.2
point_spot folder name (Some (net, node)) (Some (point, kind)) part a b =
    ((a.0, b.0.1), joined folder (47 ∷ name) (point_folder (net, node)) (47 ∷ (eight_digits point ++ ending kind)) a.1 (ap (λ (l : List ℕ). 47 ∷ l) b.1) ∙ ap lower_case (sym (point_name (net, node) point (ending kind) b.0.0)))

-- one spot and kind for each name
pub one_spot : (p q : ℕ × ℕ) (m n : ℕ) (j k : Kind) → IsNode p → IsNode q → IsNumber m → IsNumber n → lower_case (name_in_zone p m (ending j)) ≡ lower_case (name_in_zone q n (ending k)) → (p ≡ q) × (m ≡ n) × (j ≡ k)
one_spot p q m n j k a b x y is =
    elim (zero_or m) [
      | inl none ↦
          elim (zero_or n) [
            | inl zero ↦
                let h = one_file p q j k a b (sym (ap lower_case (node_name p m (ending j) none)) ∙ is ∙ ap lower_case (node_name q n (ending k) zero)) in
                (h.0, none ∙ sym zero, h.1)
            | inr some ↦ absurd (no_path (node_digits p ++ ending j) (point_folder q) (eight_digits n ++ ending k) (file_no_slash p j) (sym (ap lower_case (node_name p m (ending j) none)) ∙ is ∙ ap lower_case (point_name q n (ending k) some)))
          ]
      | inr much ↦
          elim (zero_or n) [
            | inl zero ↦ absurd (no_path (node_digits q ++ ending k) (point_folder p) (eight_digits m ++ ending j) (file_no_slash q k) (sym (ap lower_case (node_name q n (ending k) zero)) ∙ sym is ∙ ap lower_case (point_name p m (ending j) much)))
            | inr some ↦
                let parts = at_slash (point_folder p) (eight_digits m ++ ending j) (point_folder q) (eight_digits n ++ ending k) (folder_no_slash p) (folder_no_slash q) (sym (ap lower_case (point_name p m (ending j) much)) ∙ is ∙ ap lower_case (point_name q n (ending k) some)) in
                let node = one_node p q a b (halves (node_digits p) (codes ".pnt") (node_digits q) (codes ".pnt") (length-node p ∙ sym (length-node q)) parts.0).0 in
                let file = one_file (0, m) (0, n) j k (omega arith, x) (omega arith, y) (ap (λ (l : List ℕ). lower_case (l ++ ending j)) (sym (eight_is m)) ∙ parts.1 ∙ ap (λ (l : List ℕ). lower_case (l ++ ending k)) (eight_is n)) in
                (node, ap (λ (r : ℕ × ℕ). r.1) file.0, file.1)
          ]
    ]
