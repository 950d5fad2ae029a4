-- What is read is what the grammar says.
use Rattle.std.specs.Prelude.{◌&&◌, ◌≢◌, nat_le, codes, Result, Ok, Err, IfOk, IfSome, IfNone}
use Rattle.std.specs.Str.{bytes_eq}
use Rattle.std.proofs.Common.{◌≡◌, ℕ, ◌≤◌, Bool, true, false, cond, List, [], ◌∷◌, ◌++◌, length, refl, sym, ap, subst, ◌∙◌, arith, Option, Some, None, inl, inr}
use Rattle.std.proofs.lemmas.Bool.{and_parts, leb-true}
use Rattle.std.proofs.lemmas.Slice.Eq.{bytes_eq-Decides}
use Rattle.rs_result.specs.declared.lexemes.Lexeme.{Lexeme}
use Rattle.rs_result.specs.declared.lexemes.Lexeme.TheVariants.{Slash, Comma, Number, Word}
use Rattle.rs_result.specs.declared.descriptors.HitKey.{HitKey}
use Rattle.rs_result.specs.declared.descriptors.HitKey.TheVariants.{Score, Column}
use Rattle.rs_result.specs.declared.descriptors.ResultPart.{ResultPart}
use Rattle.rs_result.specs.declared.descriptors.ResultPart.TheVariants.{Count, Hits, Group}
use Rattle.rs_result.specs.declared.pieces.Separator.{Separator}
use Rattle.rs_result.specs.declared.pieces.Separator.TheVariants.{Slash as BySlash, Comma as ByComma}
use Rattle.rs_result.specs.Lexemes.{◌>>=◌, lexemes}
use Rattle.rs_result.specs.Pieces.{in_first, is_separator, items_of, pieces}
use Rattle.rs_result.specs.Grammar.{AreJoined, IsDirection, IsHitKey, IsHitOrder, IsResultPart, IsDescriptor, IsDescriptorText, IsNoDescriptorText}
use Rattle.rs_result.specs.Reading.{direction_of, key_named, key_of, keys_of, order_of, hits_of, group_of, count_of, part_of, parts_of, descriptor_of, descriptor}

abbrev lexeme_of : Separator → Lexeme
lexeme_of BySlash = Slash
lexeme_of ByComma = Comma

is_lexeme_of : (s : Separator) (l : Lexeme) → is_separator s l ≡ true → l ≡ lexeme_of s
is_lexeme_of BySlash Slash is = refl
is_lexeme_of BySlash Comma is = cc
is_lexeme_of BySlash (Number n) is = cc
is_lexeme_of BySlash (Word w) is = cc
is_lexeme_of ByComma Slash is = cc
is_lexeme_of ByComma Comma is = refl
is_lexeme_of ByComma (Number n) is = cc
is_lexeme_of ByComma (Word w) is = cc

lexeme_is : (s : Separator) → is_separator s (lexeme_of s) ≡ true
lexeme_is BySlash = refl
lexeme_is ByComma = refl

-- ---- the pieces of joined lexemes, and the other way round

-- no separator is among them
abbrev Free : Separator → List Lexeme → Type 0
Free s [] = Unit {0}
Free s (l ∷ ls) = (is_separator s l ≡ false) × Free s ls

one_piece : (s : Separator) (ls : List Lexeme) → Free s ls → pieces s ls ≡ ls ∷ []
one_piece s [] free = refl
one_piece s (l ∷ ls) (other, free) = rw other (ap (in_first l) (one_piece s ls free))

first_piece : (s : Separator) (ls rest : List Lexeme) → Free s ls → pieces s (ls ++ lexeme_of s ∷ rest) ≡ ls ∷ pieces s rest
first_piece s [] rest free = rw (lexeme_is s) refl
first_piece s (l ∷ ls) rest (other, free) = rw other (ap (in_first l) (first_piece s ls rest free))

-- the pieces p and then ps are those of ls
abbrev Parted : Separator → List Lexeme → List Lexeme → List (List Lexeme) → Type 0
Parted s ls p [] = ls ≡ p
Parted s ls p (q ∷ more) = (rest : List Lexeme) × (ls ≡ p ++ lexeme_of s ∷ rest) × (pieces s rest ≡ q ∷ more)

some_piece : (s : Separator) (ls : List Lexeme) → pieces s ls ≡ [] → ⊥
some_piece s [] e = cc
some_piece s (l ∷ ls) e = go (is_separator s l) (pieces s ls) e
  where
    go : (b : Bool) (ps : List (List Lexeme)) → cond b ([] ∷ ps) (in_first l ps) ≡ [] → ⊥
    go true ps e = cc
    go false [] e = cc
    go false (p ∷ ps) e = cc

parted_on : (s : Separator) (l : Lexeme) (ls p : List Lexeme) (ps : List (List Lexeme)) → Parted s ls p ps → Parted s (l ∷ ls) (l ∷ p) ps
parted_on s l ls p [] was = ap (λ x. l ∷ x) was
parted_on s l ls p (q ∷ more) (rest, spelt, next) = (rest, ap (λ x. l ∷ x) spelt, next)

parted_here : (s : Separator) (l : Lexeme) (ls : List Lexeme) (ps : List (List Lexeme)) → is_separator s l ≡ true → pieces s ls ≡ ps → Parted s (l ∷ ls) [] ps
parted_here s l ls [] is e = absurd (some_piece s ls e)
parted_here s l ls (q ∷ more) is e = (ls, ap (λ x. x ∷ ls) (is_lexeme_of s l is), e)

pub parted : (s : Separator) (ls p : List Lexeme) (ps : List (List Lexeme)) → pieces s ls ≡ p ∷ ps → Parted s ls p ps
parted s [] p [] e = ap (λ (x : List (List Lexeme)). head x) e
  where
    head : List (List Lexeme) → List Lexeme
    head [] = []
    head (x ∷ xs) = x
parted s [] p (q ∷ more) e = cc
parted s (l ∷ ls) p ps e = go (parted s ls) (is_separator s l) refl (pieces s ls) refl e
  where
    to : (x : List Lexeme) (xs : List (List Lexeme)) → x ∷ xs ≡ p ∷ ps → Parted s (l ∷ ls) x xs → Parted s (l ∷ ls) p ps
    to x xs same was = let a : x ≡ p = cc in let b : xs ≡ ps = cc in subst (λ y. Parted s (l ∷ ls) y ps) a (subst (Parted s (l ∷ ls) x) b was)

    go : ((q : List Lexeme) (qs : List (List Lexeme)) → pieces s ls ≡ q ∷ qs → Parted s ls q qs) → (b : Bool) → is_separator s l ≡ b → (qs : List (List Lexeme)) → pieces s ls ≡ qs
        → cond b ([] ∷ qs) (in_first l qs) ≡ p ∷ ps → Parted s (l ∷ ls) p ps
    go shorter true is qs f e = to [] qs e (parted_here s l ls qs is f)
    go shorter false is [] f e = absurd (some_piece s ls f)
    go shorter false is (q ∷ qs) f e = to (l ∷ q) qs e (parted_on s l ls q qs (shorter q qs f))

append_free : (t : Separator) (l : Lexeme) → is_separator t l ≡ false → (rest : List Lexeme) → Free t rest → (xs : List Lexeme) → Free t xs → Free t (xs ++ l ∷ rest)
append_free t l other rest free [] none = (other, free)
append_free t l other rest free (x ∷ xs) (o, more) = (o, append_free t l other rest free xs more)

module _ {A : Type 0} (s : Separator) (f : List Lexeme → Option A) (Is : List Lexeme → A → Type 0) where
  -- every piece by the function is joined items
  joined_one : (read : (ls : List Lexeme) (a : A) → f ls ≡ Some a → Is ls a) (ps : List (List Lexeme)) (ls p : List Lexeme) (xs : List A)
      → Parted s ls p ps → items_of f (p ∷ ps) ≡ Some xs → AreJoined (lexeme_of s) Is ls xs
  joined_one read [] ls p xs parts e = go (f p) refl e
    where
      go : (o : Option A) → f p ≡ o → (o >>= λ y. Some (y ∷ [])) ≡ Some xs → AreJoined (lexeme_of s) Is ls xs
      go None h e = cc
      go (Some a) h e = let same : a ∷ [] ≡ xs = cc in subst (AreJoined (lexeme_of s) Is ls) same (subst (λ x. Is x a) (sym parts) (read p a h))
  joined_one read (q ∷ more) ls p xs (rest, spelt, next) e = go (λ ys k. joined_one read more rest q ys (parted s rest q more next) k) (f p) refl (items_of f (q ∷ more)) refl e
    where
      go : ((ys : List A) → items_of f (q ∷ more) ≡ Some ys → AreJoined (lexeme_of s) Is rest ys) → (o : Option A) → f p ≡ o → (t : Option (List A)) → items_of f (q ∷ more) ≡ t → (o >>= λ y. t >>= λ ys. Some (y ∷ ys)) ≡ Some xs → AreJoined (lexeme_of s) Is ls xs
      go others None h t k e = cc
      go others (Some a) h None k e = cc
      go others (Some a) h (Some []) k e = absurd (others [] k)
      go others (Some a) h (Some (b ∷ ys)) k e =
          let same : a ∷ b ∷ ys ≡ xs = cc in
          subst (AreJoined (lexeme_of s) Is ls) same (p, rest, spelt, read p a h, others (b ∷ ys) k)

  pub read_joined : (read : (ls : List Lexeme) (a : A) → f ls ≡ Some a → Is ls a) (ls : List Lexeme) (xs : List A) → items_of f (pieces s ls) ≡ Some xs → AreJoined (lexeme_of s) Is ls xs
  read_joined read ls xs e = go (pieces s ls) refl e
    where
      go : (ps : List (List Lexeme)) → pieces s ls ≡ ps → items_of f ps ≡ Some xs → AreJoined (lexeme_of s) Is ls xs
      go [] h e = absurd (some_piece s ls h)
      go (p ∷ ps) h e = joined_one read ps ls p xs (parted s ls p ps h) e

  pub joined_read : (free : (ls : List Lexeme) (a : A) → Is ls a → Free s ls) (written : (ls : List Lexeme) (a : A) → Is ls a → f ls ≡ Some a)
      → (ls : List Lexeme) (xs : List A) → AreJoined (lexeme_of s) Is ls xs → items_of f (pieces s ls) ≡ Some xs
  joined_read free written ls [] is = absurd is
  joined_read free written ls (a ∷ []) is = ap (items_of f) (one_piece s ls (free ls a is)) ∙ ap (λ (o : Option A). o >>= λ y. Some (y ∷ [])) (written ls a is)
  joined_read free written ls (a ∷ b ∷ more) (prefix, rest, spelt, first, others) =
      ap (λ x. items_of f (pieces s x)) spelt ∙ ap (items_of f) (first_piece s prefix rest (free prefix a first))
      ∙ ap (λ (o : Option A). o >>= λ y. items_of f (pieces s rest) >>= λ ys. Some (y ∷ ys)) (written prefix a first)
      ∙ ap (λ (o : Option (List A)). o >>= λ ys. Some (a ∷ ys)) (joined_read free written rest (b ∷ more) others)

  pub joined_free : (t : Separator) (between : is_separator t (lexeme_of s) ≡ false) (free : (ls : List Lexeme) (a : A) → Is ls a → Free t ls)
      → (ls : List Lexeme) (xs : List A) → AreJoined (lexeme_of s) Is ls xs → Free t ls
  joined_free t between free ls [] is = absurd is
  joined_free t between free ls (a ∷ []) is = free ls a is
  joined_free t between free ls (a ∷ b ∷ more) (prefix, rest, spelt, first, others) =
      subst (Free t) (sym spelt) (append_free t (lexeme_of s) between rest (joined_free t between free rest (b ∷ more) others) prefix (free prefix a first))

-- ---- keys

same_word : (w v : List ℕ) → bytes_eq w v ≡ true → w ≡ v
same_word w v = (bytes_eq-Decides w v).0

is_word : (w : List ℕ) → bytes_eq w w ≡ true
is_word w = (bytes_eq-Decides w w).1 refl

other_word : (w v : List ℕ) → (w ≢ v) → bytes_eq w v ≡ false
other_word w v differ = go (bytes_eq w v) refl
  where
    go : (b : Bool) → bytes_eq w v ≡ b → b ≡ false
    go true e = absurd (differ (same_word w v e))
    go false e = refl

direction_is : (ls : List Lexeme) (down : Bool) → direction_of ls ≡ Some down → IsDirection ls down
direction_is [] true e = cc
direction_is [] false e = inl refl
direction_is (Word w ∷ []) down e = go (bytes_eq w (codes "asc")) refl (bytes_eq w (codes "desc")) refl down e
  where
    go : (a : Bool) → bytes_eq w (codes "asc") ≡ a → (b : Bool) → bytes_eq w (codes "desc") ≡ b → (down : Bool) → cond a (Some false) (cond b (Some true) None) ≡ Some down → IsDirection (Word w ∷ []) down
    go true h b k false e = inr (ap (λ x. Word x ∷ []) (same_word w (codes "asc") h))
    go true h b k true e = cc
    go false h true k true e = ap (λ x. Word x ∷ []) (same_word w (codes "desc") k)
    go false h true k false e = cc
    go false h false k down e = cc
direction_is (Word w ∷ l ∷ ls) down e = cc
direction_is (Slash ∷ ls) down e = cc
direction_is (Comma ∷ ls) down e = cc
direction_is (Number n ∷ ls) down e = cc

is_direction : (ls : List Lexeme) (down : Bool) → IsDirection ls down → direction_of ls ≡ Some down
is_direction ls false (inl nil) = ap direction_of nil
is_direction ls false (inr asc) = ap direction_of asc
is_direction ls true desc = ap direction_of desc

direction_free : (s : Separator) (ls : List Lexeme) (down : Bool) → IsDirection ls down → Free s ls
direction_free s ls false (inl nil) = subst (Free s) (sym nil) tt
direction_free BySlash ls false (inr asc) = subst (Free BySlash) (sym asc) (refl, tt)
direction_free ByComma ls false (inr asc) = subst (Free ByComma) (sym asc) (refl, tt)
direction_free BySlash ls true desc = subst (Free BySlash) (sym desc) (refl, tt)
direction_free ByComma ls true desc = subst (Free ByComma) (sym desc) (refl, tt)

named_is : (name : List ℕ) (ls : List Lexeme) (down : Bool) → IsDirection ls down → IsHitKey (Word name ∷ ls) (key_named name down)
named_is name ls down direction = go (bytes_eq name (codes "score")) refl
  where
    go : (b : Bool) → bytes_eq name (codes "score") ≡ b → IsHitKey (Word name ∷ ls) (cond b (Score down) (Column name down))
    go true h = (ls, direction, ap (λ x. Word x ∷ ls) (same_word name (codes "score") h))
    go false h = (ls, direction, (λ same. let e : true ≡ false = sym ((bytes_eq-Decides name (codes "score")).1 same) ∙ h in cc), refl)

pub key_is : (ls : List Lexeme) (key : HitKey) → key_of ls ≡ Some key → IsHitKey ls key
key_is [] key e = cc
key_is (Slash ∷ ls) key e = cc
key_is (Comma ∷ ls) key e = cc
key_is (Number n ∷ ls) key e = cc
key_is (Word name ∷ ls) key e = go (direction_of ls) refl e
  where
    go : (o : Option Bool) → direction_of ls ≡ o → (o >>= λ down. Some (key_named name down)) ≡ Some key → IsHitKey (Word name ∷ ls) key
    go None h e = cc
    go (Some down) h e = let same : key_named name down ≡ key = cc in subst (IsHitKey (Word name ∷ ls)) same (named_is name ls down (direction_is ls down h))

pub is_key : (ls : List Lexeme) (key : HitKey) → IsHitKey ls key → key_of ls ≡ Some key
is_key ls (Score down) (direction, is, spelt) = ap key_of spelt ∙ ap (λ (o : Option Bool). o >>= λ d. Some (key_named (codes "score") d)) (is_direction direction down is)
is_key ls (Column name down) (direction, is, differ, spelt) =
    ap key_of spelt ∙ ap (λ (o : Option Bool). o >>= λ d. Some (key_named name d)) (is_direction direction down is)
    ∙ ap (λ (b : Bool). Some (cond b (Score down) (Column name down))) (other_word name (codes "score") differ)

pub key_free : (s : Separator) (ls : List Lexeme) (key : HitKey) → IsHitKey ls key → Free s ls
key_free BySlash ls (Score down) (direction, is, spelt) = subst (Free BySlash) (sym spelt) (refl, direction_free BySlash direction down is)
key_free ByComma ls (Score down) (direction, is, spelt) = subst (Free ByComma) (sym spelt) (refl, direction_free ByComma direction down is)
key_free BySlash ls (Column name down) (direction, is, differ, spelt) = subst (Free BySlash) (sym spelt) (refl, direction_free BySlash direction down is)
key_free ByComma ls (Column name down) (direction, is, differ, spelt) = subst (Free ByComma) (sym spelt) (refl, direction_free ByComma direction down is)

-- ---- parts

keys_are : (ls : List Lexeme) (keys : List HitKey) → keys_of ls ≡ Some keys → AreJoined Comma IsHitKey ls keys
keys_are = read_joined ByComma key_of IsHitKey key_is

are_keys : (ls : List Lexeme) (keys : List HitKey) → AreJoined Comma IsHitKey ls keys → keys_of ls ≡ Some keys
are_keys = joined_read ByComma key_of IsHitKey (key_free ByComma) is_key

order_is : (ls : List Lexeme) (keys : List HitKey) → order_of ls ≡ Some keys → IsHitOrder ls keys
order_is [] [] e = refl
order_is [] (k ∷ ks) e = cc
order_is (Slash ∷ ls) keys e = cc
order_is (Comma ∷ ls) keys e = cc
order_is (Number n ∷ ls) keys e = cc
order_is (Word o ∷ []) keys e = cc
order_is (Word o ∷ Slash ∷ ls) keys e = cc
order_is (Word o ∷ Comma ∷ ls) keys e = cc
order_is (Word o ∷ Number n ∷ ls) keys e = cc
order_is (Word o ∷ Word b ∷ ls) keys e = go (bytes_eq o (codes "order") && bytes_eq b (codes "by")) refl keys e
  where
    go : (t : Bool) → (bytes_eq o (codes "order") && bytes_eq b (codes "by")) ≡ t → (keys : List HitKey) → cond t (keys_of ls) None ≡ Some keys → IsHitOrder (Word o ∷ Word b ∷ ls) keys
    go false h keys e = cc
    go true h [] e = absurd (keys_are ls [] e)
    go true h (k ∷ ks) e =
        let both = and_parts (bytes_eq o (codes "order")) (bytes_eq b (codes "by")) h in
        (ls, keys_are ls (k ∷ ks) e, ap (λ x. Word x ∷ Word b ∷ ls) (same_word o (codes "order") both.0) ∙ ap (λ x. Word (codes "order") ∷ Word x ∷ ls) (same_word b (codes "by") both.1))

is_order : (ls : List Lexeme) (keys : List HitKey) → IsHitOrder ls keys → order_of ls ≡ Some keys
is_order ls [] nil = ap order_of nil
is_order ls (k ∷ ks) (list, joined, spelt) = ap order_of spelt ∙ are_keys list (k ∷ ks) joined

order_free : (ls : List Lexeme) (keys : List HitKey) → IsHitOrder ls keys → Free BySlash ls
order_free ls [] nil = subst (Free BySlash) (sym nil) tt
order_free ls (k ∷ ks) (list, joined, spelt) = subst (Free BySlash) (sym spelt) (refl, (refl, joined_free ByComma key_of IsHitKey BySlash refl (key_free BySlash) list (k ∷ ks) joined))

hits_are : (ls : List Lexeme) (part : ResultPart) → hits_of ls ≡ Some part → IsResultPart (Word (codes "hits") ∷ ls) part
hits_are (Word w ∷ ls) part e = cc
hits_are (Slash ∷ ls) part e = cc
hits_are (Comma ∷ ls) part e = cc
hits_are [] part e = cc
hits_are (Number a ∷ []) part e = cc
hits_are (Number a ∷ Slash ∷ ls) part e = cc
hits_are (Number a ∷ Comma ∷ ls) part e = cc
hits_are (Number a ∷ Number b ∷ ls) part e = cc
hits_are (Number a ∷ Word to ∷ []) part e = cc
hits_are (Number a ∷ Word to ∷ Slash ∷ ls) part e = cc
hits_are (Number a ∷ Word to ∷ Comma ∷ ls) part e = cc
hits_are (Number a ∷ Word to ∷ Word w ∷ ls) part e = cc
hits_are (Number a ∷ Word to ∷ Number b ∷ ls) part e = go (bytes_eq to (codes "to")) refl (order_of ls) refl e
  where
    go : (t : Bool) → bytes_eq to (codes "to") ≡ t → (o : Option (List HitKey)) → order_of ls ≡ o → cond t (o >>= λ keys. Some (Hits a b keys)) None ≡ Some part
        → IsResultPart (Word (codes "hits") ∷ Number a ∷ Word to ∷ Number b ∷ ls) part
    go false h o k e = cc
    go true h None k e = cc
    go true h (Some keys) k e =
        let same : Hits a b keys ≡ part = cc in
        subst (IsResultPart (Word (codes "hits") ∷ Number a ∷ Word to ∷ Number b ∷ ls)) same
        (ls, order_is ls keys k, ap (λ x. Word (codes "hits") ∷ Number a ∷ Word x ∷ Number b ∷ ls) (same_word to (codes "to") h))

group_is : (ls : List Lexeme) (part : ResultPart) → group_of ls ≡ Some part → IsResultPart (Word (codes "group") ∷ ls) part
group_is [] part e = cc
group_is (Slash ∷ ls) part e = cc
group_is (Comma ∷ ls) part e = cc
group_is (Number n ∷ ls) part e = cc
group_is (Word w ∷ l ∷ ls) part e = cc
group_is (Word w ∷ []) part e = let same : Group w ≡ part = cc in subst (IsResultPart (Word (codes "group") ∷ Word w ∷ [])) same refl

count_is : (ls : List Lexeme) (part : ResultPart) → count_of ls ≡ Some part → IsResultPart (Word (codes "count") ∷ ls) part
count_is (l ∷ ls) part e = cc
count_is [] part e = let same : Count ≡ part = cc in subst (IsResultPart (Word (codes "count") ∷ [])) same refl

pub part_is : (ls : List Lexeme) (part : ResultPart) → part_of ls ≡ Some part → IsResultPart ls part
part_is [] part e = cc
part_is (Slash ∷ ls) part e = cc
part_is (Comma ∷ ls) part e = cc
part_is (Number n ∷ ls) part e = cc
part_is (Word w ∷ ls) part e = go (bytes_eq w (codes "count")) refl (bytes_eq w (codes "group")) refl (bytes_eq w (codes "hits")) refl e
  where
    to : (v : List ℕ) → bytes_eq w v ≡ true → IsResultPart (Word v ∷ ls) part → IsResultPart (Word w ∷ ls) part
    to v h is = subst (λ x. IsResultPart (Word x ∷ ls) part) (sym (same_word w v h)) is

    go : (a : Bool) → bytes_eq w (codes "count") ≡ a → (b : Bool) → bytes_eq w (codes "group") ≡ b → (c : Bool) → bytes_eq w (codes "hits") ≡ c
        → cond a (count_of ls) (cond b (group_of ls) (cond c (hits_of ls) None)) ≡ Some part → IsResultPart (Word w ∷ ls) part
    go true h b k c l e = to (codes "count") h (count_is ls part e)
    go false h true k c l e = to (codes "group") k (group_is ls part e)
    go false h false k true l e = to (codes "hits") l (hits_are ls part e)
    go false h false k false l e = cc

pub is_part : (ls : List Lexeme) (part : ResultPart) → IsResultPart ls part → part_of ls ≡ Some part
is_part ls Count spelt = ap part_of spelt
is_part ls (Group name) spelt = ap part_of spelt
is_part ls (Hits a b keys) (order, is, spelt) = ap part_of spelt ∙ ap (λ (o : Option (List HitKey)). o >>= λ ks. Some (Hits a b ks)) (is_order order keys is)

pub part_free : (ls : List Lexeme) (part : ResultPart) → IsResultPart ls part → Free BySlash ls
part_free ls Count spelt = subst (Free BySlash) (sym spelt) (refl, tt)
part_free ls (Group name) spelt = subst (Free BySlash) (sym spelt) (refl, (refl, tt))
part_free ls (Hits a b keys) (order, is, spelt) = subst (Free BySlash) (sym spelt) (refl, (refl, (refl, (refl, order_free order keys is))))

-- ---- descriptors

lexemes_are : (ls : List Lexeme) (parts : List ResultPart) → descriptor_of ls ≡ Some parts → IsDescriptor ls parts
lexemes_are ls parts e = go (parts_of ls) refl e
  where
    few : (found : List ResultPart) (b : Bool) → nat_le (length found) 8 ≡ b → parts_of ls ≡ Some found → cond b (Some found) None ≡ Some parts → IsDescriptor ls parts
    few found false h k e = cc
    few found true h k e =
        let same : found ≡ parts = cc in
        subst (IsDescriptor ls) same (record { joined = read_joined BySlash part_of IsResultPart part_is ls found k; few = leb-true (length found) 8 h })

    go : (o : Option (List ResultPart)) → parts_of ls ≡ o → (o >>= λ found. cond (nat_le (length found) 8) (Some found) None) ≡ Some parts → IsDescriptor ls parts
    go None h e = cc
    go (Some found) h e = few found (nat_le (length found) 8) refl h e

are_lexemes : (ls : List Lexeme) (parts : List ResultPart) → IsDescriptor ls parts → descriptor_of ls ≡ Some parts
are_lexemes ls parts is =
    ap (λ (o : Option (List ResultPart)). o >>= λ found. cond (nat_le (length found) 8) (Some found) None) (joined_read BySlash part_of IsResultPart part_free is_part ls parts is.joined)
    ∙ ap (λ (b : Bool). cond b (Some parts) None) (small (length parts) is.few)
  where
    small : (n : ℕ) → n ≤ 8 → nat_le n 8 ≡ true
    small n h = grind arith

-- what is read is a descriptor
pub descriptor_is : (text : List ℕ) (parts : List ResultPart) → Some parts ≡ descriptor text → IsDescriptorText text parts
descriptor_is text parts e = go (lexemes text) refl (sym e)
  where
    go : (o : Option (List Lexeme)) → lexemes text ≡ o → (o >>= descriptor_of) ≡ Some parts → IsDescriptorText text parts
    go None h e = cc
    go (Some ls) h e = (ls, h, lexemes_are ls parts e)

-- and a descriptor is read as it is
pub is_descriptor : (text : List ℕ) (parts : List ResultPart) → IsDescriptorText text parts → descriptor text ≡ Some parts
is_descriptor text parts (ls, lexed, is) = ap (λ (o : Option (List Lexeme)). o >>= descriptor_of) lexed ∙ are_lexemes ls parts is

pub no_descriptor : (text : List ℕ) → None ≡ descriptor text → (parts : List ResultPart) → IsDescriptorText text parts → ⊥
no_descriptor text none parts is = let e : None ≡ Some parts = none ∙ is_descriptor text parts is in cc

pub descriptors_are : {E : Type 0} (r : Result (Option (List ResultPart)) E) (text : List ℕ) → IfOk r (λ found. found ≡ descriptor text) → IfOk r (λ found. IfSome found (λ d. IsDescriptorText text d))
descriptors_are (Err e) text is = tt
descriptors_are (Ok None) text is = tt
descriptors_are (Ok (Some parts)) text is = descriptor_is text parts is

pub no_descriptors : {E : Type 0} (r : Result (Option (List ResultPart)) E) (text : List ℕ) → IfOk r (λ found. found ≡ descriptor text) → IfOk r (λ found. IfNone found (IsNoDescriptorText text))
no_descriptors (Err e) text is = tt
no_descriptors (Ok (Some parts)) text is = tt
no_descriptors (Ok None) text is = no_descriptor text is

-- a text is one descriptor at most
pub one_descriptor : (text : List ℕ) (parts others : List ResultPart) → IsDescriptorText text parts → IsDescriptorText text others → parts ≡ others
one_descriptor text parts others is are = let e : Some parts ≡ Some others = sym (is_descriptor text parts is) ∙ is_descriptor text others are in cc
