-- Packets and requests.
use Rattle.std.proofs.Common.{◌≡◌, ℕ, ◌-◌, ◌==◌, Bool, true, false, List, [], ◌∷◌, ◌++◌, length, drop, map, sym, ◌∙◌, ap, subst, arith, length-append, append_assoc}
use Rattle.std.specs.Prelude.{codes, if◌then◌else◌}
use Rattle.std.proofs.lemmas.List.{drop_at}
use Rattle.ftn_addr.specs.Address.{Address}
use Rattle.ftn_addr.specs.Limits.{IsAddress, IsKey}
use Rattle.bso_outbound.specs.declared.kind.Kind.{Kind}
use Rattle.bso_outbound.specs.declared.kind.Kind.TheVariants as K
use Rattle.bso_outbound.specs.Digits.{four_digits, eight_digits as point_digits}
use Rattle.bso_outbound.specs.Kinds.{ending}
use Rattle.bso_outbound.specs.Names.{node_digits, outbound_name, point_folder, zone_folder}
use Rattle.bso_outbound.proofs.Four.{length-four}
use Rattle.bso_outbound.proofs.Numbers.{length-node}
use Rattle.node_model.specs.declared.store.NewFile.{NewFile}
use Rattle.node_model.specs.Stocks.{NewEntry}
use Rattle.node_model.specs.StoreWords.{entry_of}
use Rattle.outbound_model.specs.Fates.{request_name, whole_entry}
use Rattle.outbound_take.specs.Calls.{AreNew, StagesMore}
use Rattle.outbound_take.specs.Plans.{IsWhole}
use Rattle.outbound_take.specs.Stand.{Memory}

length-digits : (dest : Address) (b : Bool) → length (if b then node_digits (dest.net, dest.node) else point_digits dest.point) ≡ 8
length-digits dest true = length-node (dest.net, dest.node)
length-digits dest false = omega (arith, length-append (codes "0000") (four_digits dest.point), length-four dest.point)

pub length-request : (dest : Address) → length (request_name dest) ≡ 12
length-request dest =
    omega (arith, length-append (if dest.point == 0 then node_digits (dest.net, dest.node) else point_digits dest.point) (ending K.Request), length-digits dest (dest.point == 0))

-- a request's path ends with its name
name_ends : (node : ℕ × ℕ) (point : ℕ) (front : List ℕ) (b : Bool) → (before : List ℕ) × ((front ++ 47 ∷ (if b then node_digits node ++ ending K.Request else point_folder node ++ 47 ∷ (point_digits point ++ ending K.Request))) ≡ before ++ ((if b then node_digits node else point_digits point) ++ ending K.Request))
name_ends node point front true = (front ++ 47 ∷ [], sym (append_assoc front (47 ∷ []) (node_digits node ++ ending K.Request)))
name_ends node point front false = (
  front ++ 47 ∷ (point_folder node ++ 47 ∷ []),
  ap (λ (x : List ℕ). front ++ 47 ∷ x) (sym (append_assoc (point_folder node) (47 ∷ []) (point_digits point ++ ending K.Request)))
      ∙ sym (append_assoc front (47 ∷ (point_folder node ++ 47 ∷ [])) (point_digits point ++ ending K.Request)),
)

-- the last twelve bytes
last_twelve : (x y z : List ℕ) → length y ≡ 12 → z ≡ x ++ y → drop (length z - 12) z ≡ y
last_twelve x y z twelve is =
    subst (λ (w : List ℕ). drop (length w - 12) w ≡ y) (sym is) (drop_at x y (length (x ++ y) - 12) (omega (arith, length-append x y, twelve)))

pub request_behind : (dest : Address) (z : List ℕ) → z ≡ outbound_name dest K.Request [] dest.zone → drop (length z - 12) z ≡ request_name dest
request_behind dest z is =
    let e = name_ends (dest.net, dest.node) dest.point (zone_folder [] dest.zone dest.zone) (dest.point == 0) in
    last_twelve e.0 (request_name dest) z (length-request dest) (is ∙ e.1)

whole_key : (kind : Kind) (dest : Address) (moment size n : ℕ) → IsWhole kind → IsKey (whole_entry kind dest moment size n).key
whole_key (K.Flow flavour) dest moment size n whole = absurd whole
whole_key (K.Mail flavour) dest moment size n whole = record { some = omega arith; short = omega arith }
whole_key K.Request dest moment size n whole = record { some = omega (arith, length-request dest); short = omega (arith, length-request dest) }

-- one file that is new
pub new_whole : (kind : Kind) (dest : Address) (moment size n : ℕ) (f : NewEntry) (old new : Memory) → IsAddress dest → IsWhole kind → f ≡ whole_entry kind dest moment size n → StagesMore n size old new → AreNew (f ∷ []) new
new_whole kind dest moment size n f old new whom whole is more =
    subst (λ (x : NewEntry). AreNew (x ∷ []) new) (sym is)
    (record {
      limits = (record { dest = whom; key = whole_key kind dest moment size n whole; source = omega arith }, tt);
      staged = ((more.here, omega (arith, more.last)), tt);
      rise = (tt, tt);
    })

pub new_none : (m : Memory) → AreNew [] m
new_none m = record { limits = tt; staged = tt; rise = tt }

pub new_of_file : (fs : List NewFile) (file : NewFile) (m : Memory) → fs ≡ file ∷ [] → AreNew (entry_of file ∷ []) m → AreNew (map entry_of fs) m
new_of_file fs file m is h = subst (λ (xs : List NewFile). AreNew (map entry_of xs) m) (sym is) h

pub request_by : (dest : Address) (z out base : List ℕ) (n front : ℕ) → base ≡ [] → z ≡ outbound_name dest K.Request base dest.zone → n ≡ length z → front ≡ n - 12 → out ≡ drop front z → out ≡ request_name dest
request_by dest z out base n front none is long cut dropped =
    dropped ∙ (ap (λ (k : ℕ). drop k z) (cut ∙ ap (λ (k : ℕ). k - 12) long) ∙ request_behind dest z (is ∙ ap (λ (b : List ℕ). outbound_name dest K.Request b dest.zone) none))
