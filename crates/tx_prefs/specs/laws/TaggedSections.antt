-- What one tag more makes of sections.
use Rattle.std.proofs.Common.{◌≡◌, ℕ, ◌+◌, ◌<◌, ◌≤◌, Bool, true, false, cond, List, [], ◌∷◌, ◌++◌, length, map, Some, refl, sym, ap, ◌∙◌, arith, append_assoc}
use Rattle.std.specs.Prelude.{◌||◌, not, is_some, filter, bytes_eq}
use Rattle.std.specs.List.{list_all}
use Rattle.std.proofs.lemmas.Bool.{and_parts, and_from, or_parts, or_from}
use Rattle.std.proofs.lemmas.List.Folds.{list_any-append}
use Rattle.std.proofs.lemmas.Slice.Eq.{bytes_eq-Decides}
use Rattle.tx_tags.specs.declared.groups.SectionKind.{SectionKind}
use Rattle.tx_tags.specs.declared.groups.Section.{Section}
use Rattle.tx_tags.specs.Groups.{are_distinct, is_among, kind_of, tag_names, with_tag}

-- ---- names that stand once

other_way : (xs ys : List ℕ) → bytes_eq xs ys ≡ false → bytes_eq ys xs ≡ false
other_way xs ys apart = go (bytes_eq ys xs) refl
  where
    go : (b : Bool) → bytes_eq ys xs ≡ b → b ≡ false
    go true same = let wrong : bytes_eq xs ys ≡ true = (bytes_eq-Decides xs ys).1 (sym ((bytes_eq-Decides ys xs).0 same)) in cc
    go false same = refl

not_true : (a : Bool) → not a ≡ true → a ≡ false
not_true true h = cc
not_true false h = refl

-- one more between them, which wasn't among them
pub distinct_put : (name : List ℕ) (xs ys : List (List ℕ)) → are_distinct (xs ++ ys) ≡ true → is_among name (xs ++ ys) ≡ false → are_distinct (xs ++ name ∷ ys) ≡ true
distinct_put name [] ys distinct none = and_from (not (is_among name ys)) (are_distinct ys) (ap not none) distinct
distinct_put name (x ∷ xs) ys distinct none =
    let d = and_parts (not (is_among x (xs ++ ys))) (are_distinct (xs ++ ys)) distinct in
    let n = or_parts (bytes_eq name x) (is_among name (xs ++ ys)) none in
    let apart = or_parts (is_among x xs) (is_among x ys) (sym (list_any-append (bytes_eq x) xs ys) ∙ not_true (is_among x (xs ++ ys)) d.0) in
    let fresh : is_among x (xs ++ name ∷ ys) ≡ false = list_any-append (bytes_eq x) xs (name ∷ ys) ∙ or_from (is_among x xs) (bytes_eq x name || is_among x ys) apart.0 (or_from (bytes_eq x name) (is_among x ys) (other_way name x n.0) apart.1) in
    and_from (not (is_among x (xs ++ name ∷ ys))) (are_distinct (xs ++ name ∷ ys)) (ap not fresh) (distinct_put name xs ys d.1 n.1)

-- ---- the tags

-- The first names have one more among them, and are the second ones then.
pub record PutAmong (name : List ℕ) (old new : List (List ℕ)) : Type 0 where
  pub before : List (List ℕ)
  pub after : List (List ℕ)
  pub was : old ≡ before ++ after
  pub is : new ≡ before ++ name ∷ after

module _ (name : List ℕ) (kind : SectionKind) (tag : List ℕ) where
  pub tag_put : (ss : List Section) → PutAmong tag (tag_names ss) (tag_names (with_tag name kind tag ss))
  tag_put [] = record { before = []; after = []; was = refl; is = refl }
  tag_put (s ∷ ss) = go (bytes_eq s.name name) (tag_put ss)
    where
      go : (b : Bool) → PutAmong tag (tag_names ss) (tag_names (with_tag name kind tag ss)) → PutAmong tag (s.tags ++ tag_names ss) (tag_names (cond b (record s { tags = s.tags ++ tag ∷ [] } ∷ ss) (s ∷ with_tag name kind tag ss)))
      go true rest = record { before = s.tags; after = tag_names ss; was = refl; is = append_assoc s.tags (tag ∷ []) (tag_names ss) }
      go false rest = record {
        before = s.tags ++ rest.before;
        after = rest.after;
        was = ap (λ (l : List (List ℕ)). s.tags ++ l) rest.was ∙ sym (append_assoc s.tags rest.before rest.after);
        is = ap (λ (l : List (List ℕ)). s.tags ++ l) rest.is ∙ sym (append_assoc s.tags rest.before (tag ∷ rest.after));
      }

  -- ---- the names of sections

  abbrev named : List Section → List (List ℕ)
  named ss = map (λ (s : Section). s.name) ss

  -- there is a section of the name, or there is one more behind the others
  abbrev With : Bool → List (List ℕ) → List (List ℕ)
  With true names = names
  With false names = names ++ name ∷ []

  names_put : (ss : List Section) → named (with_tag name kind tag ss) ≡ With (is_some (kind_of name ss)) (named ss)
  names_put [] = refl
  names_put (s ∷ ss) = go (bytes_eq s.name name) (names_put ss)
    where
      onto : (b : Bool) → s.name ∷ With b (named ss) ≡ With b (s.name ∷ named ss)
      onto true = refl
      onto false = refl

      go : (b : Bool) → named (with_tag name kind tag ss) ≡ With (is_some (kind_of name ss)) (named ss) → named (cond b (record s { tags = s.tags ++ tag ∷ [] } ∷ ss) (s ∷ with_tag name kind tag ss)) ≡ With (is_some (cond b (Some s.kind) (kind_of name ss))) (s.name ∷ named ss)
      go true rest = refl
      go false rest = ap (λ (l : List (List ℕ)). s.name ∷ l) rest ∙ onto (is_some (kind_of name ss))

  -- where there is none of the name, it isn't among them
  none_named : (ss : List Section) → is_some (kind_of name ss) ≡ false → is_among name (named ss) ≡ false
  none_named [] none = refl
  none_named (s ∷ ss) none = go (bytes_eq s.name name) refl none (none_named ss)
    where
      go : (b : Bool) → bytes_eq s.name name ≡ b → is_some (cond b (Some s.kind) (kind_of name ss)) ≡ false → (is_some (kind_of name ss) ≡ false → is_among name (named ss) ≡ false) → is_among name (s.name ∷ named ss) ≡ false
      go true is none rest = cc
      go false is none rest = or_from (bytes_eq name s.name) (is_among name (named ss)) (other_way s.name name is) (rest none)

  no_more : (xs : List (List ℕ)) → xs ++ [] ≡ xs
  no_more [] = refl
  no_more (x ∷ xs) = ap (λ (l : List (List ℕ)). x ∷ l) (no_more xs)

  pub names_distinct : (ss : List Section) → are_distinct (named ss) ≡ true → are_distinct (named (with_tag name kind tag ss)) ≡ true
  names_distinct ss distinct = ap are_distinct (names_put ss) ∙ go (is_some (kind_of name ss)) refl
    where
      go : (b : Bool) → is_some (kind_of name ss) ≡ b → are_distinct (With b (named ss)) ≡ true
      go true there = distinct
      go false there = distinct_put name (named ss) [] (ap are_distinct (no_more (named ss)) ∙ distinct) (ap (is_among name) (no_more (named ss)) ∙ none_named ss there)

  -- what every name has, where this one has it too
  pub names_keep : (p : List ℕ → Bool) (ss : List Section) → p name ≡ true → list_all (λ (s : Section). p s.name) ss ≡ true → list_all (λ (s : Section). p s.name) (with_tag name kind tag ss) ≡ true
  names_keep p [] own all = and_from (p name) true own refl
  names_keep p (s ∷ ss) own all =
      let a = and_parts (p s.name) (list_all (λ (s : Section). p s.name) ss) all in
      go (bytes_eq s.name name) a.0 a.1 (names_keep p ss own a.1)
    where
      go : (b : Bool) → p s.name ≡ true → list_all (λ (s : Section). p s.name) ss ≡ true → list_all (λ (s : Section). p s.name) (with_tag name kind tag ss) ≡ true → list_all (λ (s : Section). p s.name) (cond b (record s { tags = s.tags ++ tag ∷ [] } ∷ ss) (s ∷ with_tag name kind tag ss)) ≡ true
      go true first others rest = and_from (p s.name) (list_all (λ (s : Section). p s.name) ss) first others
      go false first others rest = and_from (p s.name) (list_all (λ (s : Section). p s.name) (with_tag name kind tag ss)) first rest

  -- ---- how many sections there are that pass a test of kinds

  abbrev count : (SectionKind → Bool) → List Section → ℕ
  count test ss = length (filter (λ (s : Section). test s.kind) ss)

  kinds_put : (test : SectionKind → Bool) (ss : List Section) → count test (with_tag name kind tag ss) ≡ cond (is_some (kind_of name ss)) (count test ss) (cond (test kind) (count test ss + 1) (count test ss))
  kinds_put test [] = go (test kind)
    where
      one : List Section
      one = record { name = name; kind = kind; tags = tag ∷ [] } ∷ []

      go : (b : Bool) → length (cond b one []) ≡ cond b 1 0
      go true = refl
      go false = refl
  kinds_put test (s ∷ ss) = go (bytes_eq s.name name) (kinds_put test ss)
    where
      more : (t a b : Bool) (new : List Section) → length new ≡ cond a (count test ss) (cond b (count test ss + 1) (count test ss))
          → length (cond t (s ∷ new) new) ≡ cond a (length (cond t (s ∷ filter (λ (s : Section). test s.kind) ss) (filter (λ (s : Section). test s.kind) ss))) (cond b (length (cond t (s ∷ filter (λ (s : Section). test s.kind) ss) (filter (λ (s : Section). test s.kind) ss)) + 1) (length (cond t (s ∷ filter (λ (s : Section). test s.kind) ss) (filter (λ (s : Section). test s.kind) ss))))
      more true true b new e = omega (arith, e)
      more true false true new e = omega (arith, e)
      more true false false new e = omega (arith, e)
      more false a b new e = e

      go : (b : Bool) → count test (with_tag name kind tag ss) ≡ cond (is_some (kind_of name ss)) (count test ss) (cond (test kind) (count test ss + 1) (count test ss))
          → count test (cond b (record s { tags = s.tags ++ tag ∷ [] } ∷ ss) (s ∷ with_tag name kind tag ss)) ≡ cond (is_some (cond b (Some s.kind) (kind_of name ss))) (count test (s ∷ ss)) (cond (test kind) (count test (s ∷ ss) + 1) (count test (s ∷ ss)))
      go true rest = again (test s.kind)
        where
          again : (t : Bool) → length (cond t (record s { tags = s.tags ++ tag ∷ [] } ∷ filter (λ (s : Section). test s.kind) ss) (filter (λ (s : Section). test s.kind) ss)) ≡ length (cond t (s ∷ filter (λ (s : Section). test s.kind) ss) (filter (λ (s : Section). test s.kind) ss))
          again true = refl
          again false = refl
      go false rest = more (test s.kind) (is_some (kind_of name ss)) (test kind) (filter (λ (s : Section). test s.kind) (with_tag name kind tag ss)) rest

  -- no more than before, where the section was there or is of another kind; and one more at the most
  pub kinds_within : (test : SectionKind → Bool) (limit : ℕ) (ss : List Section) → count test ss ≤ limit → (is_some (kind_of name ss) ≡ false → test kind ≡ true → count test ss < limit) → count test (with_tag name kind tag ss) ≤ limit
  kinds_within test limit ss within room = go (is_some (kind_of name ss)) (test kind) (kinds_put test ss) room
    where
      go : (a b : Bool) → count test (with_tag name kind tag ss) ≡ cond a (count test ss) (cond b (count test ss + 1) (count test ss)) → (a ≡ false → b ≡ true → count test ss < limit) → count test (with_tag name kind tag ss) ≤ limit
      go true b e room = omega (arith, e, within)
      go false true e room = let r = room refl refl in omega (arith, e, r)
      go false false e room = omega (arith, e, within)
