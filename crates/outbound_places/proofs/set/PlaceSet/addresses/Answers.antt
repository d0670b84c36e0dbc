use Rattle.std.proofs.Common.{◌≡◌, ◌++◌, List, map, sym, subst, ◌∙◌}
use Rattle.std.proofs.lemmas.List.{append-nil}
use Rattle.std.proofs.lemmas.Map.Iter.{rest_all}
use Rattle.std.specs.Map.Iter.{deref}
use Rattle.ftn_addr.specs.Address.{address}
use Rattle.outbound_places.specs.declared.place.Place.{Place}
use Rattle.outbound_places.specs.Places.{address_at}
use Rattle.outbound_places.proofs.Sets.{all, only, rising}
use Rattle.outbound_places.proofs.set.PlaceSet.addresses.Goals as goal

pub returns-clause-rising : goal.returns-clause-rising
returns-clause-rising c =
    let none = rest_all deref c.loop-place.place-iterator c.next.new.self c.next.result c.in-None.is c.next.ensures.steps in
    let whole = subst (λ (l : List Place). map address c.loop-place.found.items ++ map (address_at c.args.domain.now.list) l ≡ map (address_at c.args.domain.now.list) c.args.self.now.places.keys) none c.loop-place.invariant in
    rising c.args.domain.now.list c.args.self.now.places.keys (map address c.loop-place.found.items) (sym (append-nil _) ∙ whole) c.into_iter-place-iterator.ensures.into_iter_gives.4

pub returns-clause-only : goal.returns-clause-only
returns-clause-only c =
    let none = rest_all deref c.loop-place.place-iterator c.next.new.self c.next.result c.in-None.is c.next.ensures.steps in
    let whole = subst (λ (l : List Place). map address c.loop-place.found.items ++ map (address_at c.args.domain.now.list) l ≡ map (address_at c.args.domain.now.list) c.args.self.now.places.keys) none c.loop-place.invariant in
    only c.args.domain.now.list c.args.self.now (map address c.loop-place.found.items) (sym (append-nil _) ∙ whole)

pub returns-clause-all : goal.returns-clause-all
returns-clause-all c =
    let none = rest_all deref c.loop-place.place-iterator c.next.new.self c.next.result c.in-None.is c.next.ensures.steps in
    let whole = subst (λ (l : List Place). map address c.loop-place.found.items ++ map (address_at c.args.domain.now.list) l ≡ map (address_at c.args.domain.now.list) c.args.self.now.places.keys) none c.loop-place.invariant in
    all c.args.domain.now.list c.args.self.now (map address c.loop-place.found.items) (sym (append-nil _) ∙ whole)
