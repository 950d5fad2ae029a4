-- The next term behind a place is the first of those behind it.
use Rattle.std.specs.Prelude.{ℕ, zero, suc, ◌≡◌, ◌<◌, ◌||◌, ◌&&◌, Bool, true, false, cond, List, [], ◌∷◌, ◌++◌, length, map, filter, Option, Some, None, MatchOption, is_some, refl}
use Rattle.std.specs.List.{list_any}
use Rattle.std.specs.declared.cmp.Ordering.{Ordering}
use Rattle.std.specs.Ordering.{nat_cmp, is_lt, is_eq, eq_by_cmp, ordering_then}
use Rattle.std.specs.Cmp.Lexicographic.{slice_cmp}
use Rattle.std.specs.Option.{option_map}
use Rattle.std.specs.FinMap.{get, entries, keys, find, from_entries, contains_key-keys, get-from_entries, nat_cmp-IsAntisymmetric, slice_cmp-IsAntisymmetric}
use Rattle.std.proofs.Common.{sym, ap, subst, ◌∙◌, ◌⊎◌, inl, inr, arith, append-nil}
use Rattle.std.proofs.lemmas.Bool.{and_parts}
use Rattle.std.proofs.lemmas.Cmp.{nat_list_cmp_total, tied_itself}
use Rattle.ct_base.specs.laws.Names.{name_length}
use Rattle.ct_base.specs.laws.Orders.{equal_from_test}
use Rattle.ct_bytes.specs.laws.ByteOrder.{nat_cmp_less, nat_cmp_equal}
use Rattle.ct_keep.specs.Content.{Content, entries_above, first_entry}
use Rattle.ct_keep.specs.Tail.{tail}
use Rattle.ct_keep.specs.laws.Tail.{get-tail, get-tail_nil}
use Rattle.ct_keep.specs.laws.RisingKeys.{below, rises, entries_rise}
use Rattle.ct_entry.specs.declared.kinds.Kind.{Kind}
use Rattle.ct_entry.specs.declared.kinds.Kind.TheVariants as kind
use Rattle.ct_entry.specs.Keys.{Key, key, bytes, document_part, prefix_of, IsDocument, IsPart, HasKeysOnly}
use Rattle.ct_entry.specs.laws.Keys.{key_from_bytes}
use Rattle.ct_entry.specs.Listings.{owner_entries}
use Rattle.ct_entry.specs.Lists.{IsIn}
use Rattle.ct_entry.specs.laws.Lists.{in_map}
use Rattle.ct_entry.specs.laws.MapEntries.{find_in, in_get, in_below}
use Rattle.ix_rows.specs.WordRows.{word_term, IsWordTerm}
use Rattle.ix_rows.specs.SpanRows.{section_term, IsSpanTerm}
use Rattle.ix_repack.specs.declared.terms.Term.{Term}
use Rattle.ix_repack.specs.declared.terms.Term.TheVariants.{Word, Section}
use Rattle.ix_repack.specs.Terms.{term_of, is_less, stored_terms, terms_behind, all_terms, terms_from, IsTermOrStart, past, next_term, or_section, next_section, next_word, next_stored}
use Rattle.ix_repack.specs.laws.Order.{AreDelimited, IsCounted, IsCountedIn, counted_delimited, counted_in_delimited, Rising, term_of_row, less_behind, terms_in_order, first_behind, none_behind}

-- ---- of the entries of an index

-- the terms of entries, in order, each once
abbrev pub terms_in : List (List ℕ × List ℕ) → List (List ℕ)
terms_in es = keys {R = slice_cmp nat_cmp} (from_entries (map {B = List ℕ × Unit {0}} (λ e. (term_of e.0, tt)) es))

any_in : (t : List ℕ) (ts : List (List ℕ)) → list_any (eq_by_cmp (slice_cmp nat_cmp) t) ts ≡ true → IsIn t ts
any_in t [] h = let wrong : false ≡ true = h in cc
any_in t (u ∷ ts) h = go (eq_by_cmp (slice_cmp nat_cmp) t u) refl h (any_in t ts)
  where
    go : (b : Bool) → eq_by_cmp (slice_cmp nat_cmp) t u ≡ b → (b || list_any (eq_by_cmp (slice_cmp nat_cmp) t) ts) ≡ true → (list_any (eq_by_cmp (slice_cmp nat_cmp) t) ts ≡ true → IsIn t ts) → IsIn t (u ∷ ts)
    go true tie h rest = inl (slice_cmp-IsAntisymmetric nat_cmp-IsAntisymmetric t u (equal_from_test _ tie))
    go false tie h rest = inr (rest h)

abbrev units : List (List ℕ × List ℕ) → List (List ℕ × Unit {0})
units es = map (λ e. (term_of e.0, tt)) es

found_term : (e : List ℕ × List ℕ) (es : List (List ℕ × List ℕ)) → IsIn e es → is_some (find (slice_cmp nat_cmp) (term_of e.0) (units es)) ≡ true
found_term e [] h = absurd h
found_term e (y ∷ ys) h = go (eq_by_cmp (slice_cmp nat_cmp) (term_of e.0) (term_of y.0)) refl h (λ r. found_term e ys r)
  where
    go : (b : Bool) → eq_by_cmp (slice_cmp nat_cmp) (term_of e.0) (term_of y.0) ≡ b → IsIn e (y ∷ ys) → (IsIn e ys → is_some (find (slice_cmp nat_cmp) (term_of e.0) (units ys)) ≡ true)
        → is_some (cond b (Some tt) (find (slice_cmp nat_cmp) (term_of e.0) (units ys))) ≡ true
    go true tie h rest = refl
    go false tie h rest = elim h [
      | inl same ↦
          let here : eq_by_cmp (slice_cmp nat_cmp) (term_of y.0) (term_of y.0) ≡ true = ap is_eq (tied_itself nat_list_cmp_total (term_of y.0)) in
          let wrong : true ≡ false = sym here ∙ ap (λ (z : List ℕ × List ℕ). eq_by_cmp (slice_cmp nat_cmp) (term_of z.0) (term_of y.0)) (sym same) ∙ tie in
          cc
      | inr r ↦ rest r
    ]

pub in_terms : (e : List ℕ × List ℕ) (es : List (List ℕ × List ℕ)) → IsIn e es → IsIn (term_of e.0) (terms_in es)
in_terms e es h =
    any_in (term_of e.0) (terms_in es)
    (sym (contains_key-keys (from_entries (units es)) (term_of e.0)) ∙ ap (λ (o : Option (Unit {0})). is_some o) (get-from_entries nat_list_cmp_total (units es) (term_of e.0)) ∙ found_term e es h)

pub of_terms : (u : List ℕ) (es : List (List ℕ × List ℕ)) → IsIn u (terms_in es) → (e : List ℕ × List ℕ) × IsIn e es × (u ≡ term_of e.0)
of_terms u es h =
    let z = in_map (λ (e : List ℕ × Unit {0}). e.0) u (entries (from_entries {R = slice_cmp nat_cmp} (units es))) h in
    let got = sym (get-from_entries nat_list_cmp_total (units es) z.0.0) ∙ in_get nat_list_cmp_total (from_entries (units es)) z.0 z.1 in
    let there = find_in (slice_cmp nat_cmp) (slice_cmp-IsAntisymmetric nat_cmp-IsAntisymmetric) z.0.0 z.0.1 (units es) got in
    let e = in_map {B = List ℕ × Unit {0}} (λ (e : List ℕ × List ℕ). (term_of e.0, tt)) (z.0.0, z.0.1) es there in
    (e.0, e.1, z.2 ∙ ap (λ (q : List ℕ × Unit {0}). q.0) e.2)

-- keys rise by themselves
below_keys : (k : List ℕ) (es : List (List ℕ × Unit {0})) → below (slice_cmp nat_cmp) k (map {B = List ℕ × Unit {0}} (λ u. (u, tt)) (map (λ e. e.0) es)) ≡ below (slice_cmp nat_cmp) k es
below_keys k [] = refl
below_keys k (e ∷ es) = ap (λ (b : Bool). is_less k e.0 && b) (below_keys k es)

rises_keys : (es : List (List ℕ × Unit {0})) → Rising (map (λ e. e.0) es) ≡ rises (slice_cmp nat_cmp) es
rises_keys [] = refl
rises_keys (e ∷ es) = ap (λ (b : Bool). b && Rising (map (λ e. e.0) es)) (below_keys e.0 es) ∙ ap (λ (b : Bool). below (slice_cmp nat_cmp) e.0 es && b) (rises_keys es)

pub terms_rise : (es : List (List ℕ × List ℕ)) → Rising (terms_in es) ≡ true
terms_rise es = rises_keys (entries (from_entries {R = slice_cmp nat_cmp} (units es))) ∙ entries_rise (slice_cmp nat_cmp) (from_entries (units es))

-- ---- the first that passes a test

module _ (p : List ℕ × List ℕ → Bool) where
  -- It is an entry, it passes, and each other one that does is above it.
  record IsFirst (e : List ℕ × List ℕ) (es : List (List ℕ × List ℕ)) : Type 0 where
    pub there : IsIn e es
    pub passes : p e ≡ true
    pub least : (f : List ℕ × List ℕ) → IsIn f es → p f ≡ true → (f ≡ e) ⊎ (is_less e.0 f.0 ≡ true)

  head_of : (e : List ℕ × List ℕ) (es : List (List ℕ × List ℕ)) → rises (slice_cmp nat_cmp) es ≡ true → first_entry (filter p es) ≡ Some e → IsFirst e es
  head_of e [] up is = cc
  head_of e (y ∷ ys) up is = go (p y) refl is (λ u i. head_of e ys u i)
    where
      parts : (below (slice_cmp nat_cmp) y.0 ys ≡ true) × (rises (slice_cmp nat_cmp) ys ≡ true)
      parts = and_parts (below (slice_cmp nat_cmp) y.0 ys) (rises (slice_cmp nat_cmp) ys) up

      go : (b : Bool) → p y ≡ b → first_entry (cond b (y ∷ filter p ys) (filter p ys)) ≡ Some e → (rises (slice_cmp nat_cmp) ys ≡ true → first_entry (filter p ys) ≡ Some e → IsFirst e ys) → IsFirst e (y ∷ ys)
      go true pass is later =
          let same : y ≡ e = cc in
          record {
            there = inl (sym same);
            passes = ap p (sym same) ∙ pass;
            least = λ f h q. elim h [ inl g ↦ inl (g ∙ same) | inr r ↦ inr (ap (λ (z : List ℕ × List ℕ). is_less z.0 f.0) (sym same) ∙ in_below (slice_cmp nat_cmp) y.0 f ys parts.0 r) ];
          }
      go false pass is later =
          let rest = later parts.1 is in
          record {
            there = inr rest.there;
            passes = rest.passes;
            least = λ f h q. elim h [ inl g ↦ let wrong : true ≡ false = sym q ∙ ap p g ∙ pass in cc | inr r ↦ rest.least f r q ];
          }

  none_of : (es : List (List ℕ × List ℕ)) → first_entry (filter p es) ≡ None → (f : List ℕ × List ℕ) → IsIn f es → p f ≡ true → ⊥
  none_of [] is f h q = h
  none_of (y ∷ ys) is f h q = go (p y) refl is (λ i r. none_of ys i f r q)
    where
      go : (b : Bool) → p y ≡ b → first_entry (cond b (y ∷ filter p ys) (filter p ys)) ≡ None → (first_entry (filter p ys) ≡ None → IsIn f ys → ⊥) → ⊥
      go true pass is later = cc
      go false pass is later = elim h [ inl g ↦ let wrong : true ≡ false = sym q ∙ ap p g ∙ pass in cc | inr r ↦ later is r ]

-- ---- THE NEXT TERM

-- the rest of the key of a row: a term, and a document
abbrev pub IsRowKey : (List ℕ → Type 0) → List ℕ → Type 0
IsRowKey IsTerm rest = (t : List ℕ) × ((d : ℕ) × IsTerm t × IsDocument d × (rest ≡ t ++ document_part d))

-- every entry is that of a row
abbrev pub AreRowKeys : (List ℕ → Type 0) → Content → Type 0
AreRowKeys IsTerm c = (rest value : List ℕ) → get c rest ≡ Some value → IsRowKey IsTerm rest

-- `Is` says what delimits itself, and which places there are; terms are among these.
module _ (Is IsTerm : List ℕ → Type 0) (weaker : (t : List ℕ) → IsTerm t → Is t) (delimited : AreDelimited Is) (c : Content) (rows : AreRowKeys IsTerm c) where
  -- an entry is that of a row
  row_at : (e : List ℕ × List ℕ) → IsIn e (entries c) → IsRowKey IsTerm e.0
  row_at e h = rows e.0 e.1 (in_get nat_list_cmp_total c e h)

  its_term : (e : List ℕ × List ℕ) → IsIn e (entries c) → IsTerm (term_of e.0)
  its_term e h = let r = row_at e h in subst IsTerm (sym (ap term_of r.1.3 ∙ term_of_row r.0 r.1.0)) r.1.1

  behind : (place : List ℕ) → Is place → (e : List ℕ × List ℕ) → IsIn e (entries c) → is_less (past place) e.0 ≡ is_less place (term_of e.0)
  behind place is e h =
      let r = row_at e h in
      ap (is_less (past place)) r.1.3 ∙ less_behind Is delimited place r.0 r.1.0 is (weaker r.0 r.1.1) r.1.2
      ∙ ap (is_less place) (sym (ap term_of r.1.3 ∙ term_of_row r.0 r.1.0))

  in_order : (e f : List ℕ × List ℕ) → IsIn e (entries c) → IsIn f (entries c) → is_less e.0 f.0 ≡ true → (term_of e.0 ≡ term_of f.0) ⊎ (is_less (term_of e.0) (term_of f.0) ≡ true)
  in_order e f h k low =
      let r = row_at e h in let s = row_at f k in
      let te = ap term_of r.1.3 ∙ term_of_row r.0 r.1.0 in
      let tf = ap term_of s.1.3 ∙ term_of_row s.0 s.1.0 in
      elim (terms_in_order Is delimited r.0 s.0 r.1.0 s.1.0 (weaker r.0 r.1.1) (weaker s.0 s.1.1) (sym (ap (λ (l : List ℕ). is_less l f.0) r.1.3 ∙ ap (is_less (r.0 ++ document_part r.1.0)) s.1.3) ∙ low)) [
        | inl same ↦ inl (te ∙ same ∙ sym tf)
        | inr more ↦ inr (ap (λ (l : List ℕ). is_less l (term_of f.0)) te ∙ ap (is_less r.0) tf ∙ more)
      ]

  pub some_behind : (place : List ℕ) → Is place → (e : List ℕ × List ℕ) → first_entry (entries_above (past place) c) ≡ Some e → IsTerm (term_of e.0) × (terms_behind place (terms_in (entries c)) ≡ term_of e.0 ∷ terms_behind (term_of e.0) (terms_in (entries c)))
  some_behind place is e first =
      let head = head_of (λ (f : List ℕ × List ℕ). is_less (past place) f.0) e (entries c) (entries_rise (slice_cmp nat_cmp) c) first in (
        its_term e head.there,
        first_behind place (term_of e.0) (terms_in (entries c)) (terms_rise (entries c)) (in_terms e (entries c) head.there) (sym (behind place is e head.there) ∙ head.passes)
            (λ u h low.
            let f = of_terms u (entries c) h in
            elim (head.least f.0 f.1 (behind place is f.0 f.1 ∙ ap (is_less place) (sym f.2) ∙ low)) [
              | inl same ↦ inl (f.2 ∙ ap (λ (z : List ℕ × List ℕ). term_of z.0) same)
              | inr more ↦ elim (in_order e f.0 head.there f.1 more) [ inl tie ↦ inl (f.2 ∙ sym tie) | inr up ↦ inr (ap (is_less (term_of e.0)) f.2 ∙ up) ]
            ]),
      )

  pub none_left : (place : List ℕ) → Is place → first_entry (entries_above (past place) c) ≡ None → terms_behind place (terms_in (entries c)) ≡ []
  none_left place is none =
      none_behind place (terms_in (entries c)) (λ u h low.
      let f = of_terms u (entries c) h in
      none_of (λ (f : List ℕ × List ℕ). is_less (past place) f.0) (entries c) none f.0 f.1 (behind place is f.0 f.1 ∙ ap (is_less place) (sym f.2) ∙ low))

-- THE NEXT TERM behind a place, where all entries are those of rows under terms: with it begins what is behind the place; and where there is none, nothing is
pub next_is : (Is IsTerm : List ℕ → Type 0) → ((t : List ℕ) → IsTerm t → Is t) → AreDelimited Is → (kind : Kind) (i : List ℕ) (m : Content) → AreRowKeys IsTerm (tail (prefix_of kind i) m) → (place : List ℕ) → Is place
    → MatchOption (next_term kind i place m) (terms_behind place (stored_terms kind i m) ≡ []) (λ t. IsTerm t × (terms_behind place (stored_terms kind i m) ≡ t ∷ terms_behind t (stored_terms kind i m)))
next_is Is IsTerm weaker delimited kind i m rows place is = go (first_entry (entries_above (past place) (tail (prefix_of kind i) m))) refl
  where
    stored : terms_in (entries (tail (prefix_of kind i) m)) ≡ stored_terms kind i m
    stored = ap (λ (p : List ℕ). terms_in (entries (tail p m))) (sym (append-nil (prefix_of kind i)))

    go : (o : Option (List ℕ × List ℕ)) → first_entry (entries_above (past place) (tail (prefix_of kind i) m)) ≡ o
        → MatchOption (option_map (λ e. term_of e.0) o) (terms_behind place (stored_terms kind i m) ≡ []) (λ t. IsTerm t × (terms_behind place (stored_terms kind i m) ≡ t ∷ terms_behind t (stored_terms kind i m)))
    go None none = ap (terms_behind place) (sym stored) ∙ none_left Is IsTerm weaker delimited (tail (prefix_of kind i) m) rows place is none
    go (Some e) first =
        let behind = some_behind Is IsTerm weaker delimited (tail (prefix_of kind i) m) rows place is e first in
        (behind.0, ap (terms_behind place) (sym stored) ∙ behind.1 ∙ ap (λ (ts : List (List ℕ)). term_of e.0 ∷ terms_behind (term_of e.0) ts) stored)

-- ---- of an index

-- an entry of an index has such a key as its kind has
part_at : (m : Content) → HasKeysOnly m → (kind : Kind) (i rest value : List ℕ) → get (tail (prefix_of kind i) m) rest ≡ Some value → IsPart kind rest
part_at m only kind i [] value is = let wrong : None ≡ Some value = sym (get-tail_nil (prefix_of kind i) m) ∙ is in cc
part_at m only kind i (x ∷ q) value is =
    let k = only (bytes (key kind i (x ∷ q))) (ap is_some (sym (get-tail (prefix_of kind i) m x q) ∙ is)) in
    subst (λ (j : Key). IsPart j.kind j.part) (key_from_bytes k.0 (key kind i (x ∷ q)) (sym k.1)) k.2.part

pub word_keys : (m : Content) → HasKeysOnly m → (i : List ℕ) → AreRowKeys IsWordTerm (tail (prefix_of kind.Postings i) m)
word_keys m only i rest value is = let p = part_at m only kind.Postings i rest value is in (word_term p.0 p.2.0, (p.1, (p.0, (p.2.0, p.2.1, p.2.2, refl)), p.2.3, p.2.4))

pub section_keys : (m : Content) → HasKeysOnly m → (i : List ℕ) → AreRowKeys IsSpanTerm (tail (prefix_of kind.Spans i) m)
section_keys m only i rest value is = let p = part_at m only kind.Spans i rest value is in (section_term p.1.0, (p.0, (p.1.0, p.1.1, refl), p.1.2, p.1.3))

-- each stored term is one
pub stored_are : (IsTerm : List ℕ → Type 0) (kind : Kind) (i : List ℕ) (m : Content) → AreRowKeys IsTerm (tail (prefix_of kind i) m) → (t : List ℕ) → IsIn t (stored_terms kind i m) → IsTerm t
stored_are IsTerm kind i m rows t there =
    let c = tail (prefix_of kind i) m in
    let e = of_terms t (entries c) (subst (λ (p : List ℕ). IsIn t (terms_in (entries (tail p m)))) (append-nil (prefix_of kind i)) there) in
    let r = rows e.0.0 e.0.1 (in_get nat_list_cmp_total c e.0 e.1) in
    subst IsTerm (sym (e.2 ∙ ap term_of r.1.3 ∙ term_of_row r.0 r.1.0)) r.1.1

-- and they are apart
pub stored_rise : (kind : Kind) (i : List ℕ) (m : Content) → Rising (stored_terms kind i m) ≡ true
stored_rise kind i m = terms_rise (owner_entries kind i [] m)

-- ---- the next term of both kinds

words_counted : (t : List ℕ) → IsWordTerm t → IsCountedIn t
words_counted t is = (is.0, (is.1.0, is.1.3))

sections_counted : (t : List ℕ) → IsSpanTerm t → IsCounted t
sections_counted t is = (is.0, is.2)

-- terms from a place on, by kind
from_words : (p : List ℕ) (ws ss : List (List ℕ)) → terms_from (Some (Word p)) (map Word ws ++ map Section ss) ≡ map Word (terms_behind p ws) ++ map Section ss
from_words p [] ss = all_sections ss
  where
    all_sections : (ss : List (List ℕ)) → terms_from (Some (Word p)) (map Section ss) ≡ map Section ss
    all_sections [] = refl
    all_sections (s ∷ ss) = ap (λ (l : List Term). Section s ∷ l) (all_sections ss)
from_words p (w ∷ ws) ss = go (is_less p w) (from_words p ws ss)
  where
    go : (b : Bool) → terms_from (Some (Word p)) (map Word ws ++ map Section ss) ≡ map Word (terms_behind p ws) ++ map Section ss
        → cond b (Word w ∷ terms_from (Some (Word p)) (map Word ws ++ map Section ss)) (terms_from (Some (Word p)) (map Word ws ++ map Section ss)) ≡ map Word (cond b (w ∷ terms_behind p ws) (terms_behind p ws)) ++ map Section ss
    go true rest = ap (λ (l : List Term). Word w ∷ l) rest
    go false rest = rest

from_sections : (p : List ℕ) (ws ss : List (List ℕ)) → terms_from (Some (Section p)) (map Word ws ++ map Section ss) ≡ map Section (terms_behind p ss)
from_sections p (w ∷ ws) ss = from_sections p ws ss
from_sections p [] [] = refl
from_sections p [] (s ∷ ss) = go (is_less p s) (from_sections p [] ss)
  where
    go : (b : Bool) → terms_from (Some (Section p)) (map Section ss) ≡ map Section (terms_behind p ss)
        → cond b (Section s ∷ terms_from (Some (Section p)) (map Section ss)) (terms_from (Some (Section p)) (map Section ss)) ≡ map Section (cond b (s ∷ terms_behind p ss) (terms_behind p ss))
    go true rest = ap (λ (l : List Term). Section s ∷ l) rest
    go false rest = rest

from_start : (ts : List Term) → terms_from None ts ≡ ts
from_start [] = refl
from_start (t ∷ ts) = ap (λ (l : List Term). t ∷ l) (from_start ts)

-- all terms are behind the place that stands before all of their kind
all_from : (start : List ℕ) (ts : List (List ℕ)) → ((t : List ℕ) → IsIn t ts → is_less start t ≡ true) → terms_behind start ts ≡ ts
all_from start [] above = refl
all_from start (t ∷ ts) above =
    ap (λ (b : Bool). cond b (t ∷ terms_behind start ts) (terms_behind start ts)) (above t (inl refl)) ∙ ap (λ (l : List (List ℕ)). t ∷ l) (all_from start ts (λ u h. above u (inr h)))

-- less by its first byte, or by the next where that is the same
less_first : (a b : ℕ) (xs ys : List ℕ) → a < b → is_less (a ∷ xs) (b ∷ ys) ≡ true
less_first a b xs ys up = ap (λ (o : Ordering). is_lt (ordering_then o (slice_cmp nat_cmp xs ys))) (nat_cmp_less a b up)

less_next : (a b : ℕ) (xs ys : List ℕ) → a ≡ b → is_less xs ys ≡ true → is_less (a ∷ xs) (b ∷ ys) ≡ true
less_next a b xs ys same up = ap (λ (o : Ordering). is_lt (ordering_then o (slice_cmp nat_cmp xs ys))) (nat_cmp_equal a b same) ∙ up

before_words : (t : List ℕ) → IsWordTerm t → is_less (0 ∷ 0 ∷ []) t ≡ true
before_words t is = ap (is_less (0 ∷ 0 ∷ [])) is.1.3 ∙ go is.0
  where
    go : (s : ℕ) → is_less (0 ∷ 0 ∷ []) (word_term s is.1.0) ≡ true
    go zero = less_next 0 0 (0 ∷ []) (length is.1.0 ∷ is.1.0) refl (less_first 0 (length is.1.0) [] is.1.0 (let some = is.1.2.some in omega (arith, some)))
    go (suc s) = less_first 0 (suc s) (0 ∷ []) (length is.1.0 ∷ is.1.0) (omega arith)

before_sections : (t : List ℕ) → IsSpanTerm t → is_less (0 ∷ []) t ≡ true
before_sections t is = ap (is_less (0 ∷ [])) is.2 ∙ less_first 0 (length is.0) [] is.0 (let some = (name_length is.0 is.1).0 in omega (arith, some))

module _ (m : Content) (only : HasKeysOnly m) (i : List ℕ) where
  abbrev words : List (List ℕ)
  words = stored_terms kind.Postings i m

  abbrev sections : List (List ℕ)
  sections = stored_terms kind.Spans i m

  -- the next term begins what is behind the place; where there is none, nothing is
  abbrev pub Begins : Option Term → List Term → Type 0
  Begins next ts = MatchOption next (ts ≡ []) (λ t. IsTermOrStart (Some t) × (ts ≡ t ∷ terms_from (Some t) (all_terms i m)))

  section_begins : (p : List ℕ) → IsCounted p → (ts : List Term) → ts ≡ map Section (terms_behind p sections) → Begins (next_section i p m) ts
  section_begins p is ts same = go (next_term kind.Spans i p m) (next_is IsCounted IsSpanTerm sections_counted counted_delimited kind.Spans i m (section_keys m only i) p is)
    where
      go : (o : Option (List ℕ)) → MatchOption o (terms_behind p sections ≡ []) (λ t. IsSpanTerm t × (terms_behind p sections ≡ t ∷ terms_behind t sections)) → Begins (option_map Section o) ts
      go None none = same ∙ ap (map Section) none
      go (Some t) first = (first.0, same ∙ ap (map Section) first.1 ∙ ap (λ (l : List Term). Section t ∷ l) (sym (from_sections t words sections)))

  all_sections : sections ≡ terms_behind (0 ∷ []) sections
  all_sections = sym (all_from (0 ∷ []) sections (λ t h. before_sections t (stored_are IsSpanTerm kind.Spans i m (section_keys m only i) t h)))

  all_words : words ≡ terms_behind (0 ∷ 0 ∷ []) words
  all_words = sym (all_from (0 ∷ 0 ∷ []) words (λ t h. before_words t (stored_are IsWordTerm kind.Postings i m (word_keys m only i) t h)))

  word_begins : (p : List ℕ) → IsCountedIn p → (ts : List Term) → ts ≡ map Word (terms_behind p words) ++ map Section sections → Begins (next_word i p m) ts
  word_begins p is ts same = go (next_term kind.Postings i p m) (next_is IsCountedIn IsWordTerm words_counted counted_in_delimited kind.Postings i m (word_keys m only i) p is)
    where
      go : (o : Option (List ℕ)) → MatchOption o (terms_behind p words ≡ []) (λ t. IsWordTerm t × (terms_behind p words ≡ t ∷ terms_behind t words)) → Begins (or_section i m o) ts
      go None none = section_begins (0 ∷ []) ([], refl) ts (same ∙ ap (λ (l : List (List ℕ)). map Word l ++ map Section sections) none ∙ ap (map Section) all_sections)
      go (Some t) first = (first.0, same ∙ ap (λ (l : List (List ℕ)). map Word l ++ map Section sections) first.1 ∙ ap (λ (l : List Term). Word t ∷ l) (sym (from_words t words sections)))

  -- THE NEXT TERM of an index behind a place
  pub next_begins : (place : Option Term) → IsTermOrStart place → Begins (next_stored i place m) (terms_from place (all_terms i m))
  next_begins None is = word_begins (0 ∷ 0 ∷ []) (0, ([], refl)) _ (from_start (all_terms i m) ∙ ap (λ (l : List (List ℕ)). map Word l ++ map Section sections) all_words)
  next_begins (Some (Word t)) is = word_begins t (words_counted t is) _ (from_words t words sections)
  next_begins (Some (Section t)) is = section_begins t (sections_counted t is) _ (from_sections t words sections)
