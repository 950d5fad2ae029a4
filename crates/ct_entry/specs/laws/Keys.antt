-- What holds of every key: no two have the same bytes, and they are short.
use Rattle.std.proofs.Common.{◌≡◌, ℕ, Bool, true, cond, List, [], ◌∷◌, ◌++◌, length, refl, sym, ap, subst, ◌∙◌, eqb}
use Rattle.std.proofs.lemmas.Bool.{eqb-true, eq-eqb, and_parts, and_from}
use Rattle.std.specs.Ordering.{nat_cmp, is_eq, eq_by_cmp}
use Rattle.std.proofs.lemmas.Cmp.{tied_itself, nat_list_cmp_total}
use Rattle.std.proofs.lemmas.Map.Lookups.{exact_bytes}
use Rattle.std.specs.Cmp.Lexicographic.{slice_cmp}
use Rattle.ct_base.specs.laws.Bools.{same_tests}
use Rattle.ct_base.specs.laws.Orders.{equal_from_test}
use Rattle.ct_base.specs.laws.Lists.{append_parts}
use Rattle.ct_entry.specs.declared.kinds.Kind.{Kind}
use Rattle.ct_entry.specs.declared.kinds.Kind.TheVariants.{Tables, RowNumbers, RowTexts, Preferences, Stoplists, SectionGroups, IndexSets, Thesauri, Relations, Indexes, DocumentRows, RowDocuments, Pending, Postings, Spans, Catalogue, Rules, Anchors, RuleFaults}
use Rattle.ct_entry.specs.Kinds.{code}
use Rattle.ct_entry.specs.Keys.{Key, bytes, same_list, same_key}

-- ---- tests

pub list_from_same : (xs ys : List ℕ) → same_list xs ys ≡ true → xs ≡ ys
list_from_same [] [] h = refl
list_from_same [] (y ∷ ys) h = cc
list_from_same (x ∷ xs) [] h = cc
list_from_same (x ∷ xs) (y ∷ ys) h =
    let e = eqb-true x y (and_parts _ _ h).0 in
    let es : xs ≡ ys = list_from_same xs ys (and_parts _ _ h).1 in
    λ i. e i ∷ es i

pub list_same : (xs : List ℕ) → same_list xs xs ≡ true
list_same [] = refl
list_same (x ∷ xs) = and_from _ _ (eq-eqb x x refl) (list_same xs)

-- the test on two lists, by what makes them one
pub lists_tie : (xs ys : List ℕ) (t : Bool) → (xs ≡ ys → t ≡ true) → (t ≡ true → xs ≡ ys) → same_list xs ys ≡ t
lists_tie xs ys t from to = same_tests _ _ (λ h. from (list_from_same xs ys h)) (λ h. subst (λ (l : List ℕ). same_list xs l ≡ true) (to h) (list_same xs))

-- ---- keys

-- a kind from its byte
kind_of : ℕ → Kind
kind_of n =
    cond (eqb n 0x01) Tables (cond (eqb n 0x02) RowNumbers (cond (eqb n 0x03) RowTexts (cond (eqb n 0x10) Preferences (cond (eqb n 0x11) Stoplists
    (cond (eqb n 0x12) SectionGroups (cond (eqb n 0x13) IndexSets (cond (eqb n 0x14) Thesauri (cond (eqb n 0x15) Relations (cond (eqb n 0x20) Indexes
    (cond (eqb n 0x21) DocumentRows (cond (eqb n 0x22) RowDocuments (cond (eqb n 0x23) Pending (cond (eqb n 0x24) Postings (cond (eqb n 0x25) Spans
    (cond (eqb n 0x28) Catalogue (cond (eqb n 0x2a) Rules (cond (eqb n 0x2b) Anchors RuleFaults)))))))))))))))))

kind_again : (k : Kind) → kind_of (code k) ≡ k
unfolding kind_of
kind_again Tables = refl
kind_again RowNumbers = refl
kind_again RowTexts = refl
kind_again Preferences = refl
kind_again Stoplists = refl
kind_again SectionGroups = refl
kind_again IndexSets = refl
kind_again Thesauri = refl
kind_again Relations = refl
kind_again Indexes = refl
kind_again DocumentRows = refl
kind_again RowDocuments = refl
kind_again Pending = refl
kind_again Postings = refl
kind_again Spans = refl
kind_again Catalogue = refl
kind_again Rules = refl
kind_again Anchors = refl
kind_again RuleFaults = refl

-- no two kinds have one byte
pub kind_from_code : (a b : Kind) → code a ≡ code b → a ≡ b
kind_from_code a b e = sym (kind_again a) ∙ ap kind_of e ∙ kind_again b

pub key_from_parts : (a b : Key) → a.kind ≡ b.kind → a.owner ≡ b.owner → a.part ≡ b.part → a ≡ b
key_from_parts a b k o p = λ i. record { kind = k i; owner = o i; part = p i }

-- the test on keys is equality
pub key_from_same : (a b : Key) → same_key a b ≡ true → a ≡ b
key_from_same a b h =
    let h0 = and_parts _ _ h in
    let h1 = and_parts _ _ h0.1 in
    key_from_parts a b (kind_from_code a.kind b.kind (eqb-true (code a.kind) (code b.kind) h0.0)) (list_from_same a.owner b.owner h1.0) (list_from_same a.part b.part h1.1)

pub key_same : (a : Key) → same_key a a ≡ true
key_same a = and_from _ _ (eq-eqb (code a.kind) (code a.kind) refl) (and_from _ _ (list_same a.owner) (list_same a.part))

-- no two keys have the same bytes
pub key_from_bytes : (a b : Key) → bytes a ≡ bytes b → a ≡ b
key_from_bytes a b e =
    let c : code a.kind ≡ code b.kind = cc in
    let l : length a.owner ≡ length b.owner = cc in
    let r : a.owner ++ a.part ≡ b.owner ++ b.part = cc in
    let s = append_parts a.owner b.owner a.part b.part l r in
    key_from_parts a b (kind_from_code a.kind b.kind c) s.0 s.1

-- the test on bytes is the test on keys
pub bytes_same : (a b : Key) → eq_by_cmp (slice_cmp nat_cmp) (bytes a) (bytes b) ≡ same_key a b
bytes_same a b = same_tests _ _
    (λ h. subst (λ (k : Key). same_key a k ≡ true) (key_from_bytes a b (exact_bytes (bytes a) (bytes b) (equal_from_test _ h))) (key_same a))
    (λ h. subst (λ (k : Key). eq_by_cmp (slice_cmp nat_cmp) (bytes a) (bytes k) ≡ true) (key_from_same a b h) (ap is_eq (tied_itself nat_list_cmp_total (bytes a))))
