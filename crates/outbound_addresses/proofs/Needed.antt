-- From places that were found to addresses.
use Rattle.std.proofs.Common.{◌≡◌, ℕ, true, false, List, [], ◌∷◌, map, refl, sym, ap, subst, ◌∙◌, inl, inr, ⊎_elim}
use Rattle.ftn_addr.specs.Address.{Address}
use Rattle.ftn_addr.specs.Limits.{IsAddress}
use Rattle.ledger_rec.specs.Items.{Entry}
use Rattle.node_model.specs.Items.{EntryOf}
use Rattle.node_model.specs.Lists.{Member}
use Rattle.node_model.specs.Outside.{OutFiles}
use Rattle.node_model.specs.SendRows.{waits_for_action}
use Rattle.node_model.proofs.Lists.{off}
use Rattle.node_store.specs.Contents.{Contents, entry_by}
use Rattle.node_store.specs.declared.takes.TakeName.{TakeName}
use Rattle.node_store.proofs.ActingNext.{waits_is}
use Rattle.outbound_places.specs.declared.place.Place.{Place}
use Rattle.outbound_places.specs.declared.set.PlaceSet.{PlaceSet}
use Rattle.outbound_places.specs.Outbound.{Adds, Grows, OneOf}
use Rattle.outbound_places.specs.Places.{HasAddress, IsPlace, address_at, has_place, place_at}
use Rattle.outbound_addresses.specs.Needs.{HasAction, HasOwn, HasTake, IsOfDomain, Needs}
use Rattle.outbound_addresses.specs.Own.{HasAll, HasFile, IsActionFor, IsNeeded, IsOwnFor, IsTakeOf}

-- an address and its place

here : (domain : List ℕ) (a : Address) → IsOfDomain domain a → a ≡ address_at domain (place_at a)
here domain a own = λ i. record { zone = a.zone; net = a.net; node = a.node; point = a.point; domain = own.domain_is i }

place_within : (domain : List ℕ) (a : Address) → IsOfDomain domain a → IsPlace (place_at a)
place_within domain a own = record { zone = own.within.zone; net = own.within.net; node = own.within.node; point = own.within.point }

-- what is seen of an entry

mapped : {A B : Type 0} (f : A → B) (xs : List A) (x : A) → Member x xs → Member (f x) (map f xs)
mapped f [] x m = absurd m
mapped f (y ∷ xs) x (inl is) = inl (ap f is)
mapped f (y ∷ xs) x (inr m) = inr (mapped f xs x m)

record Behind {A B : Type 0} (f : A → B) (xs : List A) (b : B) : Type 0 where
  item : A
  there : Member item xs
  is : b ≡ f item

behind : {A B : Type 0} (f : A → B) (xs : List A) (b : B) → Member b (map f xs) → Behind f xs b
behind f [] b m = absurd m
behind f (x ∷ xs) b (inl is) = record { item = x; there = inl refl; is = is }
behind f (x ∷ xs) b (inr m) = let h = behind f xs b m in record { item = h.item; there = inr h.there; is = h.is }

module _ (home : Address) (within : IsAddress home) (c : Contents ℕ) (left : List TakeName) (queue : List Entry) where
  own_place : (a : Address) → IsOfDomain home.domain a → HasOwn left (map (entry_by c) queue) a → IsOwnFor home.domain left queue (place_at a)
  own_place a own has = ⊎_elim
      (λ (t : HasTake left (place_at a)). inl (t.taken, t.there, t.is_for))
      (λ (e : HasAction (map (entry_by c) queue) a).
      let b = behind (entry_by c) queue e.entry e.there in
      inr (b.item, b.there, (sym (waits_is c b.item) ∙ ap waits_for_action (sym b.is) ∙ e.waits, ap (λ (x : EntryOf ℕ). x.dest) (sym b.is) ∙ e.is_for ∙ here home.domain a own))) has

  place_own : (p : Place) → IsOwnFor home.domain left queue p → HasOwn left (map (entry_by c) queue) (address_at home.domain p)
  place_own p has = ⊎_elim
      (λ (t : OneOf IsTakeOf left p). inl (record { taken = t.0; there = t.1; is_for = t.2 }))
      (λ (e : OneOf (IsActionFor home.domain) queue p). inr (record { entry = entry_by c e.0; there = mapped (entry_by c) queue e.0 e.1; is_for = e.2.1; waits = waits_is c e.0 ∙ e.2.0 })) has

  module _ (old new : PlaceSet) (none : (p : Place) → has_place old p ≡ false) (found : List Address) where
    pub of_domain : Grows old new → ((a : Address) → Member a found → HasAddress home.domain new a) → (a : Address) → Member a found → IsOfDomain home.domain a
    of_domain grows only a m =
        let h = only a m in
        subst (IsOfDomain home.domain) (sym h.is) (⊎_elim (λ before. off (sym before ∙ none h.place)) (λ (fits : IsPlace h.place). (let limits : IsAddress (address_at home.domain h.place) = record { zone = fits.zone; net = fits.net; node = fits.node; point = fits.point; domain = within.domain; lower_case = within.lower_case } in record { within = limits; domain_is = refl })) (grows.within h.place h.there))

    back : ((p : Place) → has_place new p ≡ true → Member (address_at home.domain p) found) → (a : Address) → IsOfDomain home.domain a → has_place new (place_at a) ≡ true → Member a found
    back all a own there = subst (λ (x : Address). Member x found) (sym (here home.domain a own)) (all (place_at a) there)

    pub kept : HasAll (IsOwnFor home.domain left queue) new → ((p : Place) → has_place new p ≡ true → Member (address_at home.domain p) found)
        → (a : Address) → IsOfDomain home.domain a → HasOwn left (map (entry_by c) queue) a → Member a found
    kept own all a is has = back all a is (own (place_at a) (place_within home.domain a is) (own_place a is has))

    pub needed : (base : List ℕ) (default : ℕ) (outside : OutFiles) → Adds (IsNeeded base default outside home.domain left queue) old new
        → ((a : Address) → Member a found → HasAddress home.domain new a) → ((p : Place) → has_place new p ≡ true → Member (address_at home.domain p) found)
        → (a : Address) → IsOfDomain home.domain a → (Member a found → Needs base default outside left (map (entry_by c) queue) a) × (Needs base default outside left (map (entry_by c) queue) a → Member a found)
    needed base default outside adds only all a is = (
      λ m. (
          let h = only a m in
          subst (Needs base default outside left (map (entry_by c) queue)) (sym h.is)
          (⊎_elim (λ before. off (sym before ∙ none h.place))
          (λ (needs : IsPlace h.place × IsNeeded base default outside home.domain left queue h.place). ⊎_elim (λ (file : HasFile base default outside h.place). inl file) (λ (own : IsOwnFor home.domain left queue h.place). inr (place_own h.place own)) needs.1)
          (adds.only h.place h.there))
          ),
      λ needs. back all a is (adds.all (place_at a) (place_within home.domain a is)
          (⊎_elim (λ (file : HasFile base default outside (place_at a)). inl file) (λ (own : HasOwn left (map (entry_by c) queue) a). inr (own_place a is own)) needs)),
    )
