-- The keys of a catalogue's entries: what each is made of can be read back, and which changes are on which.
use Rattle.std.specs.Prelude.{ℕ, ℤ, ◌≡◌, ◌==◌, ◌&&◌, ◌||◌, Bool, true, false, cond, List, [], ◌∷◌, ◌++◌, length, Option, refl}
use Rattle.std.specs.List.{list_any}
use Rattle.std.specs.Ordering.{int_eq}
use Rattle.std.proofs.Common.{arith, ap, subst, ◌∙◌, length-append}
use Rattle.std.proofs.lemmas.Bool.{eqb-true, eq-eqb, and_parts, and_from}
use Rattle.ct_base.specs.laws.Lists.{append_parts, cons_parts}
use Rattle.ct_bytes.specs.RowKeys.{row_bytes}
use Rattle.ct_bytes.specs.laws.RowKeys.{length-row_bytes, row_bytes_one}
use Rattle.ct_entry.specs.declared.kinds.Kind.TheVariants as kind
use Rattle.ct_entry.specs.Keys.{Key, key, same_key, same_list, catalogue_part, IsRow}
use Rattle.ct_entry.specs.Changes.{told}
use Rattle.ct_entry.specs.Each.{is_any_of}
use Rattle.ct_entry.specs.laws.Each.{map-each, told_each}
use Rattle.ct_entry.specs.laws.Keys.{list_from_same, list_same, lists_tie}
use Rattle.ct_entry.specs.laws.Parts.{counted_apart, int_from_eq, int_same, same_kind}
use Rattle.cat_index.specs.Changes.{filed, word_change, words_change}

-- ---- equal rests have equal parts

-- the four parts of a rest
pub record SameParts (s n : ℕ) (t w v u : List ℕ) (q r : ℤ) : Type 0 where
  pub sub : s ≡ n
  pub word : t ≡ w
  pub values : v ≡ u
  pub row : q ≡ r

pub part_apart : (s n : ℕ) (t w v u : List ℕ) (q r : ℤ) → IsRow q → IsRow r → catalogue_part s t v q ≡ catalogue_part n w u r → SameParts s n t w v u q r
part_apart s n t w v u q r f g e =
    let h = cons_parts s n (length t ∷ (t ++ (v ++ row_bytes q))) (length w ∷ (w ++ (u ++ row_bytes r))) e in
    let k = counted_apart t w (v ++ row_bytes q) (u ++ row_bytes r) h.1 in
    let whole = ap length k.1 in
    let one = length-append v (row_bytes q) in
    let other = length-append u (row_bytes r) in
    let eight = length-row_bytes q in
    let eight_too = length-row_bytes r in
    let last = append_parts v u (row_bytes q) (row_bytes r) (omega (arith, whole, one, other, eight, eight_too)) k.1 in
    record { sub = h.0; word = k.0; values = last.0; row = row_bytes_one q r f g last.1 }

-- the test on rests is the test on their parts
abbrev pub same_parts : ℕ → ℕ → List ℕ → List ℕ → List ℕ → List ℕ → ℤ → ℤ → Bool
same_parts s n t w v u q r = (s == n) && (same_list t w && (same_list v u && int_eq q r))

pub parts_tie : (s n : ℕ) (t w v u : List ℕ) (q r : ℤ) → IsRow q → IsRow r → same_list (catalogue_part s t v q) (catalogue_part n w u r) ≡ same_parts s n t w v u q r
parts_tie s n t w v u q r f g = lists_tie (catalogue_part s t v q) (catalogue_part n w u r) (same_parts s n t w v u q r) from to
  where
    from : catalogue_part s t v q ≡ catalogue_part n w u r → same_parts s n t w v u q r ≡ true
    from e =
        let same = part_apart s n t w v u q r f g e in
        and_from _ _ (eq-eqb s n same.sub)
        (and_from _ _ (subst (λ (l : List ℕ). same_list t l ≡ true) same.word (list_same t))
        (and_from _ _ (subst (λ (l : List ℕ). same_list v l ≡ true) same.values (list_same v)) (subst (λ (z : ℤ). int_eq q z ≡ true) same.row (int_same q))))

    to : same_parts s n t w v u q r ≡ true → catalogue_part s t v q ≡ catalogue_part n w u r
    to h =
        let a = and_parts _ _ h in
        let b = and_parts _ _ a.1 in
        let c = and_parts _ _ b.1 in
        let sub = eqb-true s n a.0 in
        let word = list_from_same t w b.0 in
        let values = list_from_same v u c.0 in
        let row = int_from_eq q r c.1 in
        λ i. catalogue_part (sub i) (word i) (values i) (row i)

abbrev pub word_key : List ℕ → ℕ → List ℕ → List ℕ → ℤ → Key
word_key i s t v q = key kind.Catalogue i (catalogue_part s t v q)

pub keys_tie : (i : List ℕ) (s n : ℕ) (t w v u : List ℕ) (q r : ℤ) → IsRow q → IsRow r → same_key (word_key i s t v q) (word_key i n w u r) ≡ same_parts s n t w v u q r
keys_tie i s n t w v u q r f g =
    same_kind kind.Catalogue i i (catalogue_part s t v q) (catalogue_part n w u r)
    ∙ ap (λ (b : Bool). b && same_list (catalogue_part s t v q) (catalogue_part n w u r)) (list_same i)
    ∙ parts_tie s n t w v u q r f g

-- ---- one of some words

-- a test of each that is so between two that are the same for all
pub any_within : {X : Type 0} (a c : Bool) (p : X → Bool) (xs : List X) → list_any (λ x. a && (p x && c)) xs ≡ (a && (list_any p xs && c))
any_within a c p [] = none a c
  where
    none : (a c : Bool) → false ≡ (a && (false && c))
    none true c = refl
    none false c = refl
any_within a c p (x ∷ xs) = ap (λ (b : Bool). (a && (p x && c)) || b) (any_within a c p xs) ∙ both a c (p x) (list_any p xs)
  where
    both : (a c d e : Bool) → ((a && (d && c)) || (a && (e && c))) ≡ (a && ((d || e) && c))
    both false c d e = refl
    both true true true e = refl
    both true true false true = refl
    both true true false false = refl
    both true false true true = refl
    both true false true false = refl
    both true false false true = refl
    both true false false false = refl

-- whether the changes of words in a sub-index are on this entry
abbrev pub is_hit : ℕ → ℕ → List ℕ → List (List ℕ) → List ℕ → List ℕ → ℤ → ℤ → Bool
is_hit s n t words v u q r = (s == n) && (is_any_of t words && (same_list v u && int_eq q r))

pub words_told : (i : List ℕ) (r : ℤ) (n : ℕ) (words : List (List ℕ)) (there : Bool) (u : List ℕ) (s : ℕ) (t v : List ℕ) (q : ℤ) (old : Option (List ℕ)) → IsRow r → IsRow q
    → told (words_change i r n words there u) (word_key i s t v q) old ≡ cond (is_hit s n t words v u q r) (filed there) old
words_told i r n words there u s t v q old f g =
    ap (λ ws. told ws (word_key i s t v q) old) (map-each (word_change i r n u there) words)
    ∙ told_each (λ w. word_change i r n u there w ∷ []) (word_key i s t v q) (λ w. same_parts s n t w v u q r) (filed there) (λ w o. ap (λ (b : Bool). cond b (filed there) o) (keys_tie i s n t w v u q r g f)) words old
    ∙ ap (λ (b : Bool). cond b (filed there) old) (any_within (s == n) (same_list v u && int_eq q r) (same_list t) words)
