-- The list of places after edits lists the strings of the pages after them.
use Rattle.std.proofs.Common.{◌≡◌, ⊎_elim, ℕ, List, [], ◌∷◌, sym, ap, subst, ◌∙◌, arith}
use Rattle.std.specs.List.{Contains}
use Rattle.pg_map.specs.Kinds.{Each}
use Rattle.pg_directory.specs.declared.entries.EntryAt.{EntryAt}
use Rattle.pg_directory.specs.OpenStore.{ArePlaces}
use Rattle.pg_directory.specs.Placing.{KeyedPlace}
use Rattle.pg_directory.specs.Trees.{StorePage, key_at, HasString, IsBelow, Rise}
use Rattle.pg_directory.specs.Counting.{places_from}
use Rattle.pg_directory.specs.laws.Counting.{few, length-places}
use Rattle.pg_directory.specs.laws.Listing.{none_in, in_more, first_in, later_in, mapped_in}
use Rattle.pg_directory.specs.laws.Opening.{places_differ}
use Rattle.pg_directory.specs.laws.Places.{place_has}
use Rattle.pg_leaves.specs.Editing.{KeyEdit, keyed, Rising, edited, places_in, places_edited, IsUnedited}
use Rattle.pg_leaves.specs.Relisting.{AreEdited, ListStrings}
use Rattle.pg_leaves.specs.laws.Editing.{in_edited, put_there, kept_there, edited_rise}

-- ---- places with their keys

pub keyed_in : (pages : List StorePage) (es : List EntryAt) (e : EntryAt) → Contains es e → Contains (keyed pages es) (key_at pages e, e)
keyed_in pages es e has = mapped_in {Y = KeyedPlace} (λ (f : EntryAt). (key_at pages f, f)) es e has

pub in_keyed : (pages : List StorePage) (es : List EntryAt) (p : KeyedPlace) → Contains (keyed pages es) p → Contains es p.1 × (p.0 ≡ key_at pages p.1)
in_keyed pages [] p has = absurd (none_in p has)
in_keyed pages (e ∷ es) p has = ⊎_elim
    (λ is. (subst (Contains (e ∷ es)) (ap (λ (q : KeyedPlace). q.1) is) (first_in e es), ap (λ (q : KeyedPlace). q.0) (sym is) ∙ ap (λ (q : KeyedPlace). key_at pages q.1) is))
    (λ more. let r = in_keyed pages es p more in (later_in e p.1 es r.0, r.1))
    (in_more (key_at pages e, e) p (keyed pages es) has)

pub keyed_rise : (pages : List StorePage) (es : List EntryAt) → Rise (key_at pages) es → Rising (keyed pages es)
keyed_rise pages [] rise = tt
keyed_rise pages (e ∷ es) rise = (below es rise.0, keyed_rise pages es rise.1)
  where
    below : (fs : List EntryAt) → Each (λ (f : EntryAt). IsBelow (key_at pages e) (key_at pages f)) fs → Each (λ (q : KeyedPlace). IsBelow (key_at pages e) q.0) (keyed pages fs)
    below [] less = tt
    below (f ∷ fs) less = (less.0, below fs less.1)

-- each has the key that stands at its place on these pages
abbrev pub HaveKeys : List StorePage → List KeyedPlace → Type 0
HaveKeys pages ps = Each (λ (p : KeyedPlace). key_at pages p.1 ≡ p.0) ps

places_rise : (pages : List StorePage) (ps : List KeyedPlace) → HaveKeys pages ps → Rising ps → Rise (key_at pages) (places_in ps)
places_rise pages [] have rise = tt
places_rise pages (p ∷ ps) have rise = (below ps have.1 rise.0, places_rise pages ps have.1 rise.1)
  where
    below : (qs : List KeyedPlace) → HaveKeys pages qs → Each (λ (q : KeyedPlace). IsBelow p.0 q.0) qs → Each (λ (f : EntryAt). IsBelow (key_at pages p.1) (key_at pages f)) (places_in qs)
    below [] own less = tt
    below (q ∷ qs) own less = (subst (IsBelow (key_at pages p.1)) (sym own.0) (subst (λ (k : List ℕ). IsBelow k q.0) (sym have.0) less.0), below qs own.1 less.1)

-- what holds of each element of a list
each_of : {X : Type 0} (P : X → Type 0) (xs : List X) → ((x : X) → Contains xs x → P x) → Each P xs
each_of P [] all = tt
each_of P (x ∷ xs) all = (all x (first_in x xs), each_of P xs (λ y has. all y (later_in x y xs has)))

each_place : (P : EntryAt → Type 0) (ps : List KeyedPlace) → Each (λ (p : KeyedPlace). P p.1) ps → Each P (places_in ps)
each_place P [] each = tt
each_place P (p ∷ ps) each = (each.0, each_place P ps each.1)

-- ---- the pages after the edits

module _ (pages next : List StorePage) (es : List EntryAt) (us : List KeyEdit) (old : ListStrings pages es) (rise : Rising us) (are : AreEdited pages next es us) where
  -- a pair after the edits stands on the pages after them
  stands_next : (p : KeyedPlace) → Contains (edited (keyed pages es) us) p → HasString next p.1 × (key_at next p.1 ≡ p.0)
  stands_next p has = ⊎_elim
      (λ put. are.put p.0 p.1 put)
      (λ (was, none).
      let own = in_keyed pages es p was in
      let kept = are.kept p.1 own.0 (subst (IsUnedited us) own.1 none) in (kept.0, kept.1 ∙ sym own.1))
      (in_edited (keyed pages es) us p rise has)

  listed_next : (e : EntryAt) → HasString next e → Contains (places_edited pages es us) e
  listed_next e has = ⊎_elim
      (λ put. mapped_in {Y = EntryAt} (λ (p : KeyedPlace). p.1) (edited (keyed pages es) us) (key_at next e, e) (put_there (keyed pages es) us (key_at next e) e put))
      (λ (was, same, none).
      mapped_in {Y = EntryAt} (λ (p : KeyedPlace). p.1) (edited (keyed pages es) us) (key_at pages e, e)
      (kept_there (keyed pages es) us (key_at pages e, e) (keyed_in pages es e (old.all e was)) none))
      (are.from e has)

  pub relisted_lists : ListStrings next (places_edited pages es us)
  relisted_lists = record {
    strings = each_place (HasString next) (edited (keyed pages es) us) (each_of (λ (p : KeyedPlace). HasString next p.1) (edited (keyed pages es) us) (λ p has. (stands_next p has).0));
    all = listed_next;
    order =
        let have = each_of (λ (p : KeyedPlace). key_at next p.1 ≡ p.0) (edited (keyed pages es) us) (λ p has. (stands_next p has).1) in
        places_rise next (edited (keyed pages es) us) have (edited_rise (keyed pages es) us (keyed_rise pages es old.order) rise);
  }

-- Places that list all strings are as many as these.
pub are_places : (pages : List StorePage) (es : List EntryAt) → ListStrings pages es → ArePlaces pages es
are_places pages es list = record {
  strings = list.strings;
  order = list.order;
  all = let count = length-places 3 pages in
      let least = few (places_from 3 pages) es (places_differ 3 pages) (λ e has. list.all e (place_has [] pages e has)) in
      omega (arith, count, least);
}
