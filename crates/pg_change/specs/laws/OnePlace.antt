-- Pages that hold a map have one place for each key.
use Rattle.std.specs.Prelude.{map}
use Rattle.std.proofs.Common.{◌≡◌, ◌≢◌, ⊎_elim, ℕ, zero, suc, ◌-◌, ◌<◌, List, [], ◌∷◌, length, get_or, refl, sym, ap, subst, ◌∙◌, arith}
use Rattle.std.specs.List.{Contains}
use Rattle.ct_keep.specs.Content.{Content}
use Rattle.pg_map.specs.Done.{IsDone}
use Rattle.pg_map.specs.Holding.{IsLayout, entries_of}
use Rattle.pg_map.specs.Kinds.{Each, Kind, Free, Entry, strings_of}
use Rattle.pg_map.specs.PageStrings.{string_key}
use Rattle.pg_map.specs.laws.Whole.{Apart, whole}
use Rattle.pg_directory.specs.declared.entries.EntryAt.{EntryAt}
use Rattle.pg_directory.specs.Counting.{places_from}
use Rattle.pg_directory.specs.Trees.{StorePage, Plain, kind_of, key_at, HasString}
use Rattle.pg_directory.specs.laws.Counting.{Differ, is_place}
use Rattle.pg_directory.specs.laws.Listing.{none_in, in_more, mapped_in, each_in}
use Rattle.pg_directory.specs.laws.Opening.{keys_of, keys_of_places}
use Rattle.pg_change.specs.KeyEdits.{HasStringOn, key_on}

-- ---- elements of which no two have one key

-- Of elements whose keys differ, two of one key are one.
differ_one : {X : Type 0} (key : X → List ℕ) (xs : List X) (x y : X) → Differ (map key xs) → Contains xs x → Contains xs y → key x ≡ key y → x ≡ y
differ_one {X = X} key [] x y differ a b is = absurd (none_in x a)
differ_one {X = X} key (z ∷ zs) x y differ a b is = ⊎_elim
    (λ first. ⊎_elim (λ second. sym first ∙ second) (λ later. absurd (head y later (ap key first ∙ is))) (in_more z y zs b))
    (λ later. ⊎_elim (λ second. absurd (head x later (ap key second ∙ sym is))) (λ both. differ_one key zs x y differ.1 later both is) (in_more z y zs b))
    (in_more z x zs a)
  where
    head : (w : X) → Contains zs w → key z ≡ key w → ⊥
    head w there same = each_in (λ (k : List ℕ). key z ≢ k) (map key zs) (key w) differ.0 (mapped_in key zs w there) same

keys_apart : (es : List Entry) → Apart es → Differ (keys_of es)
keys_apart [] apart = tt
keys_apart (e ∷ es) apart = (
  head es (λ i less. apart zero (suc i) e (omega arith) (omega (arith, less))),
  keys_apart es (λ i j d less within. apart (suc i) (suc j) d (omega (arith, less)) (omega (arith, within))),
)
  where
    head : (fs : List Entry) → ((i : ℕ) → i < length fs → e.0 ≢ (get_or fs i e).0) → Each (λ (k : List ℕ). e.0 ≢ k) (keys_of fs)
    head [] each = tt
    head (f ∷ fs) each = (each 0 (omega arith), head fs (λ i less. each (suc i) (omega (arith, less))))

-- ---- places

-- Two places of strings of one key are one, where the pages hold a map.
pub one_place : (pages : List StorePage) (m : Content) → IsLayout (map kind_of pages) m → (e f : EntryAt) → HasString pages e → HasString pages f → key_at pages e ≡ key_at pages f → e ≡ f
one_place pages m layout e f a b is =
    differ_one (key_at pages) (places_from 3 pages) e f
    (subst Differ (sym (keys_of_places pages layout.placed layout.strings layout.items layout.stand)) (keys_apart (entries_of layout.placed) layout.entries.apart))
    (is_place pages e a) (is_place pages f b) is

-- ---- on pages in memory

plain_kinds : (ks : List Kind) → map kind_of (map Plain ks) ≡ ks
plain_kinds [] = refl
plain_kinds (k ∷ ks) = ap (λ (l : List Kind). k ∷ l) (plain_kinds ks)

plain_kind : (ks : List Kind) (n : ℕ) → kind_of (get_or (map Plain ks) n (Plain Free)) ≡ get_or ks n Free
plain_kind [] n = refl
plain_kind (k ∷ ks) zero = refl
plain_kind (k ∷ ks) (suc n) = plain_kind ks n

has_plain : (kinds : List Kind) (e : EntryAt) → HasStringOn kinds e → HasString (map Plain kinds) e
has_plain kinds e has = record { low = has.low; less = subst (λ (k : Kind). e.slot < length (strings_of (k ∷ []))) (sym (plain_kind kinds (e.page - 3))) has.less }

key_plain : (kinds : List Kind) (e : EntryAt) → key_at (map Plain kinds) e ≡ key_on kinds e
key_plain kinds e = ap (λ (k : Kind). string_key (get_or (strings_of (k ∷ [])) e.slot [])) (plain_kind kinds (e.page - 3))

-- the same of pages in memory
pub one_place_on : (kinds : List Kind) (m : Content) → IsDone kinds m → (e f : EntryAt) → HasStringOn kinds e → HasStringOn kinds f → key_on kinds e ≡ key_on kinds f → e ≡ f
one_place_on kinds m done e f a b is =
    one_place (map Plain kinds) m (subst (λ (l : List Kind). IsLayout l m) (sym (plain_kinds kinds)) (whole kinds m done.is)) e f
    (has_plain kinds e a) (has_plain kinds f b) (key_plain kinds e ∙ is ∙ sym (key_plain kinds f))
