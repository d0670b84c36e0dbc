-- The calls that a node made.
use Rattle.std.specs.Prelude.{◌≡◌, ◌+◌, ◌<◌, ℕ, false, List, [], ◌∷◌, Option, Some, None, if◌then◌else◌, slice_get, unwrap_or, min, max}
use Rattle.std.specs.declared.cmp.Ordering.{Ordering}
use Rattle.std.specs.Ordering.{is_gt, nat_cmp, on, then_cmp}
use Rattle.std.specs.Cmp.Lexicographic.{slice_cmp}
use Rattle.ftn_addr.specs.Address.{Address, address, same_address}
use Rattle.call_sched.specs.declared.words.Try.{Try}

-- the last moment at which an address was called
abbrev pub last_try : List Try → Address → Option ℕ
last_try [] a = None
last_try (t ∷ tries) a = if same_address (address t.addr) a then Some (max t.at (unwrap_or (last_try tries a) 0)) else last_try tries a

-- from when on an address may be called: at once, or 300 seconds behind its last call
abbrev pub free_from : Option ℕ → ℕ
free_from None = 0
free_from (Some at) = min (at + 300) 18446744073709551615

-- addresses by zone, net, node, point and domain
abbrev pub address_order : Address → Address → Ordering
address_order =
    then_cmp (on (λ (a : Address). a.zone) nat_cmp)
    (then_cmp (on (λ (a : Address). a.net) nat_cmp)
    (then_cmp (on (λ (a : Address). a.node) nat_cmp)
    (then_cmp (on (λ (a : Address). a.point) nat_cmp) (on (λ (a : Address). a.domain) (slice_cmp nat_cmp)))))

-- calls by address, and those of one by their moments
abbrev pub try_order : Try → Try → Ordering
try_order = then_cmp (on (λ (t : Try). address t.addr) address_order) (on (λ (t : Try). t.at) nat_cmp)

-- no call comes before one that stands in front of it
abbrev pub Rising : List Try → Type 0
Rising tries = (i k : ℕ) (s t : Try) → i < k → slice_get tries i ≡ Some s → slice_get tries k ≡ Some t → is_gt (try_order s t) ≡ false
