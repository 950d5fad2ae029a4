-- What holds of the rests of keys: what each is made of can be read back, and they are short.
use Rattle.std.proofs.Common.{◌≡◌, ℕ, ℤ, ◌≤◌, Bool, true, false, List, ◌∷◌, ◌++◌, length, refl, ap, subst, arith}
use Rattle.std.specs.Prelude.{◌&&◌, ◌==◌}
use Rattle.std.proofs.lemmas.Bool.{eqb-true, eq-eqb, and_parts, and_from}
use Rattle.std.proofs.lemmas.List.{length-append}
use Rattle.std.specs.Int.{to_be_bytes, w32}
use Rattle.std.specs.Ordering.{int_cmp, int_eq, is_eq}
use Rattle.std.proofs.lemmas.Cmp.{tied_itself, int_cmp_total}
use Rattle.std.proofs.lemmas.Map.Lookups.{exact_signed}
use Rattle.ct_bytes.specs.RowKeys.{row_bytes}
use Rattle.ct_bytes.specs.laws.RowKeys.{row_bytes_one, length-row_bytes}
use Rattle.ct_bytes.specs.laws.Numbers.{four_bytes_one}
use Rattle.ct_keep.specs.Content.{key_limit}
use Rattle.ct_entry.specs.declared.kinds.Kind.{Kind}
use Rattle.ct_entry.specs.declared.kinds.Kind.TheVariants.{Tables, RowNumbers, RowTexts, Preferences, Stoplists, SectionGroups, IndexSets, Thesauri, Relations, Indexes, DocumentRows, RowDocuments, Pending, Postings, Spans, Catalogue, Rules, Anchors, RuleFaults}
use Rattle.ct_base.specs.laws.Names.{name_length}
use Rattle.ct_entry.specs.Kinds.{code}
use Rattle.ct_entry.specs.Keys.{Key, key, bytes, same_list, same_key, row_part, text_part, document_part, posting_part, span_part, relation_part, anchor_part, IsRow, IsDocument, IsPart, IsKeyOfKind}
use Rattle.ct_base.specs.laws.Orders.{equal_from_test}
use Rattle.ct_entry.specs.laws.Keys.{list_from_same, list_same, lists_tie}
use Rattle.ct_base.specs.laws.Lists.{append_parts, cons_parts}

-- ---- equal rests have equal parts

pub row_part_apart : (r s : ℤ) → IsRow r → IsRow s → row_part r ≡ row_part s → r ≡ s
row_part_apart r s f g e = row_bytes_one r s f g e

-- a list after its length, and what follows
pub counted_apart : (a b x y : List ℕ) → length a ∷ (a ++ x) ≡ length b ∷ (b ++ y) → (a ≡ b) × (x ≡ y)
counted_apart a b x y e = let h = cons_parts (length a) (length b) (a ++ x) (b ++ y) e in append_parts a b x y h.0 h.1

pub document_part_apart : (d e : ℕ) → IsDocument d → IsDocument e → document_part d ≡ document_part e → d ≡ e
document_part_apart d e f g is = four_bytes_one d e f g is

pub posting_part_apart : (s s' : ℕ) (t t' : List ℕ) (d d' : ℕ) → IsDocument d → IsDocument d' → posting_part s t d ≡ posting_part s' t' d' → (s ≡ s') × (t ≡ t') × (d ≡ d')
posting_part_apart s s' t t' d d' f g e =
    let h = cons_parts s s' (length t ∷ (t ++ to_be_bytes w32 d)) (length t' ∷ (t' ++ to_be_bytes w32 d')) e in
    let k = counted_apart t t' (to_be_bytes w32 d) (to_be_bytes w32 d') h.1 in
    (h.0, k.0, four_bytes_one d d' f g k.1)

pub span_part_apart : (n n' : List ℕ) (d d' : ℕ) → IsDocument d → IsDocument d' → span_part n d ≡ span_part n' d' → (n ≡ n') × (d ≡ d')
span_part_apart n n' d d' f g e =
    let k = counted_apart n n' (to_be_bytes w32 d) (to_be_bytes w32 d') e in
    (k.0, four_bytes_one d d' f g k.1)

pub relation_part_apart : (r r' : ℕ) (a a' b b' : List ℕ) → relation_part r a b ≡ relation_part r' a' b' → (r ≡ r') × (a ≡ a') × (b ≡ b')
relation_part_apart r r' a a' b b' e =
    let h = cons_parts r r' (length a ∷ (a ++ length b ∷ b)) (length a' ∷ (a' ++ length b' ∷ b')) e in
    let k = counted_apart a a' (length b ∷ b) (length b' ∷ b') h.1 in
    (h.0, k.0, (cons_parts (length b) (length b') b b' k.1).1)

pub anchor_part_apart : (a a' : List ℕ) (r r' : ℤ) → IsRow r → IsRow r' → anchor_part a r ≡ anchor_part a' r' → (a ≡ a') × (r ≡ r')
anchor_part_apart a a' r r' f g e =
    let k = counted_apart a a' (row_bytes r) (row_bytes r') e in
    (k.0, row_bytes_one r r' f g k.1)

-- ---- the test on rests is the test on their parts

pub int_from_eq : (r s : ℤ) → int_eq r s ≡ true → r ≡ s
int_from_eq r s h = exact_signed r s (equal_from_test (int_cmp r s) h)

pub int_same : (r : ℤ) → int_eq r r ≡ true
int_same r = ap (λ o. is_eq o) (tied_itself int_cmp_total r)

pub rows_tie : (r s : ℤ) → IsRow r → IsRow s → same_list (row_part r) (row_part s) ≡ int_eq r s
rows_tie r s f g = lists_tie (row_part r) (row_part s) (int_eq r s)
    (λ e. subst (λ (z : ℤ). int_eq r z ≡ true) (row_part_apart r s f g e) (int_same r))
    (λ h. ap row_part (int_from_eq r s h))

pub texts_tie : (c d : ℕ) (r s : ℤ) → IsRow r → IsRow s → same_list (text_part c r) (text_part d s) ≡ ((c == d) && int_eq r s)
texts_tie c d r s f g = ap (λ (b : Bool). (c == d) && b) (rows_tie r s f g)

pub documents_tie : (d e : ℕ) → IsDocument d → IsDocument e → same_list (document_part d) (document_part e) ≡ (d == e)
documents_tie d e f g = lists_tie (document_part d) (document_part e) (d == e) (λ is. eq-eqb d e (document_part_apart d e f g is)) (λ h. ap document_part (eqb-true d e h))

pub postings_tie : (s s' : ℕ) (t t' : List ℕ) (d d' : ℕ) → IsDocument d → IsDocument d' → same_list (posting_part s t d) (posting_part s' t' d') ≡ ((s == s') && (same_list t t' && (d == d')))
postings_tie s s' t t' d d' f g = lists_tie (posting_part s t d) (posting_part s' t' d') _
    (λ e. let p = posting_part_apart s s' t t' d d' f g e in
    and_from _ _ (eq-eqb s s' p.0) (and_from _ _ (subst (λ (l : List ℕ). same_list t l ≡ true) p.1 (list_same t)) (eq-eqb d d' p.2)))
    (λ h. let p = and_parts _ _ h in let q = and_parts _ _ p.1 in
    λ i. posting_part (eqb-true s s' p.0 i) (list_from_same t t' q.0 i) (eqb-true d d' q.1 i))

pub spans_tie : (n n' : List ℕ) (d d' : ℕ) → IsDocument d → IsDocument d' → same_list (span_part n d) (span_part n' d') ≡ (same_list n n' && (d == d'))
spans_tie n n' d d' f g = lists_tie (span_part n d) (span_part n' d') _
    (λ e. let p = span_part_apart n n' d d' f g e in
    and_from _ _ (subst (λ (l : List ℕ). same_list n l ≡ true) p.0 (list_same n)) (eq-eqb d d' p.1))
    (λ h. let p = and_parts _ _ h in
    λ i. span_part (list_from_same n n' p.0 i) (eqb-true d d' p.1 i))

-- keys of one kind
pub same_kind : (kind : Kind) (o o' p p' : List ℕ) → same_key (key kind o p) (key kind o' p') ≡ (same_list o o' && same_list p p')
same_kind kind o o' p p' = ap (λ (b : Bool). b && (same_list o o' && same_list p p')) (eq-eqb (code kind) (code kind) refl)

-- ---- how long

-- the kinds whose keys are short: all but that of a catalogue index, whose keys hold values
abbrev pub has_short_keys : Kind → Bool
has_short_keys Catalogue = false
has_short_keys kind = true

pub part_is_short : (kind : Kind) (p : List ℕ) → IsPart kind p → has_short_keys kind ≡ true → length p ≤ 568
part_is_short Tables p is h = omega (arith, ap length is)
part_is_short RowNumbers p is h = omega (arith, ap length is.2, length-row_bytes is.0)
part_is_short RowTexts p is h = omega (arith, ap length is.1.3, length-row_bytes is.1.0)
part_is_short Preferences p is h = omega (arith, ap length is)
part_is_short Stoplists p is h = omega (arith, ap length is)
part_is_short SectionGroups p is h = omega (arith, ap length is)
part_is_short IndexSets p is h = omega (arith, ap length is)
part_is_short Thesauri p is h = omega (arith, ap length is)
part_is_short Relations p is h = let short = is.1.4.short in let short' = is.1.5.short in omega (arith, simp length-append at (ap length is.1.6))
part_is_short Indexes p is h = omega (arith, ap length is)
part_is_short DocumentRows p is h = omega (arith, ap length is.2)
part_is_short RowDocuments p is h = omega (arith, ap length is.2, length-row_bytes is.0)
part_is_short Pending p is h = omega (arith, ap length is.2, length-row_bytes is.0)
part_is_short Postings p is h = let short = is.2.2.short in omega (arith, simp length-append at (ap length is.2.4))
part_is_short Spans p is h = let short = name_length is.1.0 is.1.1 in omega (arith, simp length-append at (ap length is.1.3))
part_is_short Catalogue p is h = cc
part_is_short Rules p is h = omega (arith, ap length is.2, length-row_bytes is.0)
part_is_short Anchors p is h = let short = is.1.1 in omega (arith, simp length-append at (ap length is.1.3), length-row_bytes is.1.0)
part_is_short RuleFaults p is h = omega (arith, ap length is.2, length-row_bytes is.0)

-- a key has as many bytes as an entry must
pub key_is_short : (k : Key) → IsKeyOfKind k → has_short_keys k.kind ≡ true → (1 ≤ length (bytes k)) × (length (bytes k) ≤ key_limit)
key_is_short k is h =
    let owner = name_length k.owner is.owner in
    let part : length k.part ≤ 568 = part_is_short k.kind k.part is.part h in
    (omega arith, simp length-append (omega arith))
