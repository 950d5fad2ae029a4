-- Images that are kept by number, and lists of pages that are put among them from their ends.
use Rattle.std.specs.Prelude.{All, Bool, true, false, cond, map, unwrap_or, option_map, Option}
use Rattle.std.proofs.Common.{◌≡◌, ℕ, ◌==◌, ◌≤◌, ◌<◌, List, [], ◌∷◌, ◌++◌, length, Some, refl, sym, ap, subst, ◌∙◌, append-nil, append_assoc, arith}
use Rattle.std.specs.declared.cmp.Ordering.{Ordering}
use Rattle.std.specs.declared.cmp.Ordering.TheVariants.{Less, Equal, Greater}
use Rattle.std.specs.Ordering.{nat_cmp, is_eq, match_ordering}
use Rattle.std.specs.Cmp.{nat_cmp_total}
use Rattle.std.specs.BTreeMap.{insert_entry, is_at}
use Rattle.std.specs.Map.{keys_of, lookup}
use Rattle.std.specs.List.Sorted.{IsStrictlyIncreasing, IsStrictlySortedBy}
use Rattle.std.proofs.lemmas.Bool.{eq-eqb, eqb-true}
use Rattle.std.proofs.lemmas.Cmp.{tied_itself}
use Rattle.std.proofs.lemmas.List.Elements.{All-head, All-tail}
use Rattle.std.proofs.lemmas.Map.Keys.{IsStrictlyIncreasing-from_sorted}
use Rattle.ct_base.specs.laws.Orders.{equal_from_test, eq_from_equal}
use Rattle.pg_directory.specs.declared.building.InnerPage.{InnerPage}
use Rattle.pg_directory.specs.declared.entries.Child.{Child}
use Rattle.pg_directory.specs.declared.entries.EntryAt.{EntryAt}
use Rattle.pg_directory.specs.declared.leaves.LeafPage.{LeafPage}
use Rattle.pg_directory.specs.Building.{above_of}
use Rattle.pg_directory.specs.Leaves.{leaf_at}
use Rattle.pg_directory.specs.Making.{leaf_writes, above_writes}
use Rattle.pg_map.specs.Kinds.{Each}
use Rattle.pg_directory.specs.Pages.{DirectoryPage, Leaf, Inner, directory_bytes, IsChild, IsDirectoryPage, IsEntryAt}
use Rattle.pg_directory.specs.Trees.{StorePage, Directory, bytes_of_page, IsPage}
use Rattle.pg_directory.specs.Written.{PageWrite, write_over, write_numbers}
use Rattle.pg_change.specs.DirectoryImages.{images_seen, AreGood, AreSameWrites}
use Rattle.pg_change.specs.laws.DirectoryImages.{same_itself, same_joined, same_behind, good_same, more_good}

-- ---- one image

-- whether a number is another one, by either test
one_test : (k n : ℕ) → (k == n) ≡ is_eq (nat_cmp n k)
one_test k n = of (k == n) (is_eq (nat_cmp n k)) (eqb-true k n)
    (λ is. ap (λ (o : Ordering). is_eq o) (ap (nat_cmp n) is ∙ tied_itself nat_cmp_total n)) (λ is. eq-eqb k n (sym (eq_from_equal n k (equal_from_test _ is)))) refl refl
  where
    of : (a b : Bool) → ((k == n) ≡ true → k ≡ n) → (k ≡ n → is_eq (nat_cmp n k) ≡ true) → (is_eq (nat_cmp n k) ≡ true → (k == n) ≡ true) → (k == n) ≡ a → is_eq (nat_cmp n k) ≡ b → a ≡ b
    of true true f g h x y = refl
    of false false f g h x y = refl
    of true false f g h x y = sym (g (f x)) ∙ y
    of false true f g h x y = sym x ∙ h y

-- the bytes of an image, or these where there is none
abbrev pub image_or : Option DirectoryPage → List ℕ → List ℕ
image_or o bytes = unwrap_or (option_map directory_bytes o) bytes

pub seen_over : (es : List (ℕ × DirectoryPage)) (n : ℕ) (p : StorePage) → bytes_of_page (write_over (images_seen es) n p) ≡ image_or (lookup (is_at (nat_cmp n)) es) (bytes_of_page p)
seen_over [] n p = refl
seen_over (e ∷ es) n p = ap (λ (b : Bool). bytes_of_page (cond b (Directory e.1) (write_over (images_seen es) n p))) (one_test e.0 n) ∙ of (is_eq (nat_cmp n e.0)) (seen_over es n p)
  where
    of : (b : Bool) → bytes_of_page (write_over (images_seen es) n p) ≡ image_or (lookup (is_at (nat_cmp n)) es) (bytes_of_page p)
        → bytes_of_page (cond b (Directory e.1) (write_over (images_seen es) n p)) ≡ image_or (cond b (Some e.1) (lookup (is_at (nat_cmp n)) es)) (bytes_of_page p)
    of true rest = refl
    of false rest = rest

pub seen_rise : (es : List (ℕ × DirectoryPage)) → IsStrictlySortedBy nat_cmp (keys_of es) → IsStrictlyIncreasing (write_numbers (images_seen es))
seen_rise es rise = subst IsStrictlyIncreasing (keys es) (IsStrictlyIncreasing-from_sorted (keys_of es) rise)
  where
    keys : (es : List (ℕ × DirectoryPage)) → keys_of es ≡ write_numbers (images_seen es)
    keys [] = refl
    keys (e ∷ es) = ap (λ (l : List ℕ). e.0 ∷ l) (keys es)

-- with one image more, in place of the one of its number
over_more : (es : List (ℕ × DirectoryPage)) (k : ℕ) (image : DirectoryPage) (n : ℕ) (p : StorePage)
    → write_over (images_seen (insert_entry nat_cmp es k image)) n p ≡ write_over ((k, Directory (image)) ∷ images_seen es) n p
over_more [] k image n p = refl
over_more (e ∷ es) k image n p = by_order (nat_cmp k e.0) refl (over_more es k image n p)
  where
    here : StorePage
    here = Directory (image)

    old : StorePage
    old = Directory (e.1)

    after : Ordering → List (ℕ × DirectoryPage)
    after o = match_ordering o ((k, image) ∷ e ∷ es) ((e.0, image) ∷ es) (e ∷ insert_entry nat_cmp es k image)

    -- of the same number the old page is never seen
    one_number : (b : Bool) (rest : StorePage) → cond b here rest ≡ cond b here (cond b old rest)
    one_number true rest = refl
    one_number false rest = refl

    two_numbers : (a b : Bool) (rest : StorePage) → (a ≡ true → b ≡ true → ⊥) → cond a old (cond b here rest) ≡ cond b here (cond a old rest)
    two_numbers true true rest no_ = absurd (no_ refl refl)
    two_numbers true false rest no_ = refl
    two_numbers false b rest no_ = refl

    by_order : (o : Ordering) → nat_cmp k e.0 ≡ o → write_over (images_seen (insert_entry nat_cmp es k image)) n p ≡ cond (k == n) here (write_over (images_seen es) n p)
        → write_over (images_seen (after o)) n p ≡ cond (k == n) here (cond (e.0 == n) old (write_over (images_seen es) n p))
    by_order Less is rest = refl
    by_order Equal is rest =
        let one : k ≡ e.0 = eq_from_equal k e.0 is in
        one_number (e.0 == n) (write_over (images_seen es) n p) ∙ ap (λ (m : ℕ). cond (m == n) here (cond (e.0 == n) old (write_over (images_seen es) n p))) (sym one)
    by_order Greater is rest =
        ap (λ (q : StorePage). cond (e.0 == n) old q) rest
        ∙ two_numbers (e.0 == n) (k == n) (write_over (images_seen es) n p)
        (λ x y. let one : k ≡ e.0 = eqb-true k n y ∙ sym (eqb-true e.0 n x) in let tied : Greater ≡ Equal = sym is ∙ ap (nat_cmp k) (sym one) ∙ tied_itself nat_cmp_total k in cc tied)

pub seen_more : (es : List (ℕ × DirectoryPage)) (k : ℕ) (image : DirectoryPage) → AreSameWrites (images_seen (insert_entry nat_cmp es k image)) ((k, Directory (image)) ∷ images_seen es)
seen_more es k image = record { same = over_more es k image }

-- ---- pages that may stand in a store

each_of : {X : Type 0} (P : X → Type 0) (xs : List X) → All P xs → Each P xs
each_of P [] all = tt
each_of P (x ∷ xs) all = (All-head P x xs all, each_of P xs (All-tail P x xs all))

pub leaf_may : (es : List EntryAt) → 1 ≤ length es → length es ≤ 681 → All IsEntryAt es → IsDirectoryPage (Leaf es)
leaf_may es some few all = (some, few, each_of IsEntryAt es all)

pub inner_may : (level : ℕ) (cs : List Child) → 1 ≤ length cs → length cs ≤ 408 → All IsChild cs → 1 ≤ level → level < 256 → IsDirectoryPage (Inner level cs)
inner_may level cs some few all low high = (some, few, each_of IsChild cs all, low, high)

-- ---- pages that are put from the last one on

abbrev pub leaf_write : LeafPage → PageWrite
leaf_write p = (p.number, Directory (Leaf p.entries.items))

abbrev pub upper_write : InnerPage → PageWrite
upper_write p = (p.number, Directory (Inner p.level p.children.items))

pub leaves_written : (ps : List LeafPage) → map {B = PageWrite} leaf_write ps ≡ leaf_writes (map leaf_at ps)
leaves_written [] = refl
leaves_written (p ∷ ps) = ap (λ (l : List PageWrite). leaf_write p ∷ l) (leaves_written ps)

pub upper_written : (ps : List InnerPage) → map {B = PageWrite} upper_write ps ≡ above_writes (map above_of ps)
upper_written [] = refl
upper_written (p ∷ ps) = ap (λ (l : List PageWrite). upper_write p ∷ l) (upper_written ps)

-- The first of some pages are left. Those behind them were put among what was there.
pub record HasPut {X : Type 0} (write : X → PageWrite) (all rest : List X) (old now : List PageWrite) : Type 0 where
  pub done : List X
  pub parts : all ≡ rest ++ done
  pub are : AreSameWrites now (map {B = PageWrite} write done ++ old)
  pub good : AreGood old → AreGood now

module _ {X : Type 0} (write : X → PageWrite) (all : List X) (old : List PageWrite) where
  pub none_put : HasPut write all all old old
  none_put = record { done = []; parts = sym (append-nil all); are = same_itself old; good = λ g. g }

  pub one_put : (rest before : List X) (x : X) (now next : List PageWrite) → before ≡ rest ++ x ∷ [] → IsPage (write x).1 → AreSameWrites next (write x ∷ now) → HasPut write all before old now
      → HasPut write all rest old next
  one_put rest before x now next is page put h = record {
    done = x ∷ h.done;
    parts = h.parts ∙ ap (λ (l : List X). l ++ h.done) is ∙ append_assoc rest (x ∷ []) h.done;
    good = λ g. good_same next (write x ∷ now) put (more_good (write x) now page (h.good g));
    are = same_joined next (write x ∷ now) (write x ∷ map {B = PageWrite} write h.done ++ old) put (same_behind (write x ∷ []) now (map {B = PageWrite} write h.done ++ old) h.are);
  }

  pub all_put : (rest : List X) (now : List PageWrite) → length rest ≡ 0 → HasPut write all rest old now → AreSameWrites now (map {B = PageWrite} write all ++ old)
  all_put [] now none h = subst (λ (l : List X). AreSameWrites now (map {B = PageWrite} write l ++ old)) (sym h.parts) h.are
  all_put (x ∷ rest) now none h = absurd (omega (arith, none))

-- leaves over the pages above them
pub both_put : (below over : List PageWrite) (leaves upper none : List PageWrite) → none ≡ [] → AreSameWrites below (upper ++ none) → AreSameWrites over (leaves ++ below)
    → AreSameWrites over (leaves ++ upper)
both_put below over leaves upper none is first second =
    let alone = subst (λ (l : List PageWrite). AreSameWrites below l) (ap (λ (l : List PageWrite). upper ++ l) is ∙ append-nil upper) first in
    same_joined over (leaves ++ below) (leaves ++ upper) second (same_behind leaves below upper alone)
