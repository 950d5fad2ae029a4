-- The places of a document as items, whatever their form.
use Rattle.std.proofs.Common.{◌≡◌, ℕ, List, ◌∷◌, ◌++◌, refl}
use Rattle.ix_posting.specs.Forms.{PlaceForm, PlacesRise, places_bytes}
use Rattle.ix_posting.specs.Places.{IsForm, IsPlaceAt, ArePlacesAt}
use Rattle.ix_posting.specs.laws.Items.{AreItems, items_of}

pub places : {P : Type 0} (form : PlaceForm P) → IsForm form → (bytes : List ℕ) → AreItems (IsPlaceAt form bytes) (ArePlacesAt form bytes) (λ p. p)
places form lawful bytes = items_of (IsPlaceAt form bytes) (PlacesRise form) (places_bytes form) form.bytes (λ p. p) bytes record {
  none = λ before. tt;
  no_bytes = λ before. refl;
  more_bytes = λ before p ps. refl;
  stands = λ before at p next is. is.stands;
  rises = λ before at p next ps is others. (is.follows, is.alone, others);
  one = λ before at p next ps rise stands. record { follows = rise.0; alone = rise.1; stands = stands };
  others = λ before p ps rise. rise.2;
  alone = lawful.one bytes;
}
