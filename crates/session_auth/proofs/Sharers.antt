-- The addresses that stay at the answering side.
use Rattle.std.proofs.Common.{◌≡◌, ℕ, true, not, List, [], ◌∷◌, Some, refl, arith, rules, tests, inl, inr}
use Rattle.std.specs.Prelude.{filter, nat_eq}
use Rattle.std.specs.Cmp.Lexicographic.{pointwise}
use Rattle.std.specs.List.{All}
use Rattle.std.proofs.lemmas.Bool.{cases_Bool}
use Rattle.std.proofs.lemmas.List.Elements.{All-filter}
use Rattle.ftn_addr.specs.Address.{Address}
use Rattle.ftn_addr.specs.Limits.{IsAddress}
use Rattle.binkp_args.specs.Limits.{AreAddresses}
use Rattle.mail_conf.specs.Conf.{ConfText}
use Rattle.session_auth.specs.Passwords.{is_among, is_password, without_own, password_for, wanted_password, shares}

eqb_same : (n : ℕ) → nat_eq n n ≡ true
eqb_same n = search (rules, tests)

same_bytes : (xs : List ℕ) → pointwise nat_eq xs xs ≡ true
same_bytes [] = refl
same_bytes (x ∷ xs) = rw (eqb_same x, same_bytes xs) refl

-- the first of them stays: it has no password, or the one that is wanted
first_stays : (conf : ConfText) (password : List ℕ) (a : Address) (more : List Address) → wanted_password conf (a ∷ more) ≡ Some password → shares conf password a ≡ true
first_stays conf password a more e =
    elim (cases_Bool (is_password (password_for conf a))) as (λ _. shares conf password a ≡ true) [
      | inl some ↦ (let same : password_for conf a ≡ password = (let found = rw some at e in cc) in rw (some, same) (same_bytes password))
      | inr none ↦ rw none refl
    ]

pub sharers_are : (conf : ConfText) (password : List ℕ) (peers : List Address) → wanted_password conf peers ≡ Some password → AreAddresses peers → AreAddresses (filter (shares conf password) peers)
sharers_are conf password [] e are = absurd (let some = are.some in omega arith)
sharers_are conf password (a ∷ more) e are = record {
  some = (let stays = first_stays conf password a more e in rw stays (omega arith));
  each = All-filter (shares conf password) IsAddress (a ∷ more) are.each;
}

-- what is left of addresses within the limits is within them
pub others_within : (own addresses : List Address) → All IsAddress addresses → All IsAddress (without_own own addresses)
others_within own addresses each = All-filter (λ a. not (is_among a own)) IsAddress addresses each
