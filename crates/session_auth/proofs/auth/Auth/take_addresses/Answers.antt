use Rattle.std.proofs.Common.{List, map, subst, sym, arith, vec_len}
use Rattle.std.specs.List.{All}
use Rattle.std.proofs.lemmas.Bool.{eqb-false}
use Rattle.std.proofs.lemmas.List.{length-map}
use Rattle.ftn_addr.specs.Address.{Address, address}
use Rattle.ftn_addr.specs.Limits.{IsAddress}
use Rattle.session_auth.proofs.Sharers.{others_within}
use Rattle.session_auth.proofs.auth.Auth.take_addresses.Goals as goal

pub invariant_of-meet : goal.invariant_of-meet
invariant_of-meet c = record {
  are = record {
    some = omega (arith, eqb-false (vec_len c.in_ok-others.others) 0 (sym c.if-is_empty.ensures), c.in_ok-others.others.ok.0, length-map c.in_ok-others.others.items address);
    each = subst (λ (xs : List Address). All IsAddress xs) (sym c.in_ok-others.ensures) (others_within (map address c.as_slice.result.now) (map address c.args.addresses.items) c.requires.each);
  };
}
