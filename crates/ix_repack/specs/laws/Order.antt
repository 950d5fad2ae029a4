-- Terms in the order of their bytes, and in the order of the keys of their rows.
use Rattle.std.specs.Prelude.{ℕ, ◌≡◌, ◌-◌, ◌^◌, Bool, true, false, cond, List, [], ◌∷◌, ◌++◌, length, map, take, refl}
use Rattle.std.specs.declared.cmp.Ordering.{Ordering}
use Rattle.std.specs.declared.cmp.Ordering.TheVariants.{Less, Equal, Greater}
use Rattle.std.specs.Ordering.{nat_cmp, is_lt, is_eq, eq_by_cmp, ordering_then}
use Rattle.std.specs.Cmp.Lexicographic.{slice_cmp}
use Rattle.std.specs.FinMap.{nat_cmp-IsAntisymmetric, slice_cmp-IsAntisymmetric}
use Rattle.std.proofs.Common.{sym, ap, ◌∙◌, ◌⊎◌, inl, inr, arith}
use Rattle.std.proofs.lemmas.Bool.{and_parts, cases_lt}
use Rattle.std.specs.Cmp.{nat_cmp_is}
use Rattle.std.proofs.lemmas.Cmp.{nat_cmp_total, nat_list_cmp_total, tied_itself}
use Rattle.std.proofs.lemmas.List.{length-append}
use Rattle.std.proofs.Math.Seq.{take-append_seam}
use Rattle.ct_base.specs.laws.Orders.{equal_from_test}
use Rattle.ct_bytes.specs.laws.ByteOrder.{four_bytes_in_order}
use Rattle.ct_entry.specs.Keys.{document_part, IsDocument}
use Rattle.ct_entry.specs.Lists.{IsIn}
use Rattle.ct_keep.specs.laws.RisingKeys.{below, rises}
use Rattle.ix_repack.specs.Terms.{term_of, is_less, terms_behind, past}

-- ---- bytes in order

-- two lists of one length, and what follows them
same_length : (u v x y : List ℕ) → length u ≡ length v → (u ≡ v → ⊥) → slice_cmp nat_cmp (u ++ x) (v ++ y) ≡ slice_cmp nat_cmp u v
same_length [] [] x y long other = absurd (other refl)
same_length [] (b ∷ v) x y long other = cc
same_length (a ∷ u) [] x y long other = cc
same_length (a ∷ u) (b ∷ v) x y long other = go (nat_cmp a b) refl (λ l o. same_length u v x y l o)
  where
    go : (o : Ordering) → nat_cmp a b ≡ o → (length u ≡ length v → (u ≡ v → ⊥) → slice_cmp nat_cmp (u ++ x) (v ++ y) ≡ slice_cmp nat_cmp u v)
        → ordering_then o (slice_cmp nat_cmp (u ++ x) (v ++ y)) ≡ ordering_then o (slice_cmp nat_cmp u v)
    go Less is rest = refl
    go Greater is rest = refl
    go Equal is rest = let same = nat_cmp-IsAntisymmetric a b is in rest (omega (arith, long)) (λ e. other (λ j. same j ∷ e j))

-- what follows one list
same_first : (u x y : List ℕ) → slice_cmp nat_cmp (u ++ x) (u ++ y) ≡ slice_cmp nat_cmp x y
same_first [] x y = refl
same_first (a ∷ u) x y = ap (λ (o : Ordering). ordering_then o (slice_cmp nat_cmp (u ++ x) (u ++ y))) (tied_itself nat_cmp_total a) ∙ same_first u x y

-- ---- terms delimit themselves

-- no list that is such a one begins another: what follows them doesn't count in their order
pub record AreDelimited (Is : List ℕ → Type 0) : Type 0 where
  pub order : (a b x y : List ℕ) → Is a → Is b → (a ≡ b → ⊥) → slice_cmp nat_cmp (a ++ x) (b ++ y) ≡ slice_cmp nat_cmp a b

-- a length in one place, and so many bytes
abbrev pub IsCounted : List ℕ → Type 0
IsCounted a = (name : List ℕ) × (a ≡ length name ∷ name)

-- a stream before it
abbrev pub IsCountedIn : List ℕ → Type 0
IsCountedIn a = (stream : ℕ) × ((name : List ℕ) × (a ≡ stream ∷ length name ∷ name))

counted_order : (u v x y : List ℕ) → (u ≡ v → ⊥) → slice_cmp nat_cmp ((length u ∷ u) ++ x) ((length v ∷ v) ++ y) ≡ slice_cmp nat_cmp (length u ∷ u) (length v ∷ v)
counted_order u v x y other = go (nat_cmp (length u) (length v)) refl
  where
    go : (o : Ordering) → nat_cmp (length u) (length v) ≡ o → ordering_then o (slice_cmp nat_cmp (u ++ x) (v ++ y)) ≡ ordering_then o (slice_cmp nat_cmp u v)
    go Less is = refl
    go Greater is = refl
    go Equal is = same_length u v x y (nat_cmp-IsAntisymmetric (length u) (length v) is) other

stream_order : (s r : ℕ) (u v x y : List ℕ) → (s ∷ length u ∷ u ≡ r ∷ length v ∷ v → ⊥) → slice_cmp nat_cmp ((s ∷ length u ∷ u) ++ x) ((r ∷ length v ∷ v) ++ y) ≡ slice_cmp nat_cmp (s ∷ length u ∷ u) (r ∷ length v ∷ v)
stream_order s r u v x y other = go (nat_cmp s r) refl
  where
    go : (o : Ordering) → nat_cmp s r ≡ o → ordering_then o (slice_cmp nat_cmp ((length u ∷ u) ++ x) ((length v ∷ v) ++ y)) ≡ ordering_then o (slice_cmp nat_cmp (length u ∷ u) (length v ∷ v))
    go Less is = refl
    go Greater is = refl
    go Equal is = let same = nat_cmp-IsAntisymmetric s r is in counted_order u v x y (λ e. other (λ j. same j ∷ length (e j) ∷ e j))

pub counted_delimited : AreDelimited IsCounted
counted_delimited = record {
  order = λ a b x y p q other.
      ap (λ (l : List ℕ). slice_cmp nat_cmp (l ++ x) (b ++ y)) p.1 ∙ ap (λ (l : List ℕ). slice_cmp nat_cmp ((length p.0 ∷ p.0) ++ x) (l ++ y)) q.1
      ∙ counted_order p.0 q.0 x y (λ e. other (p.1 ∙ ap (λ (l : List ℕ). length l ∷ l) e ∙ sym q.1))
      ∙ sym (ap (λ (l : List ℕ). slice_cmp nat_cmp l b) p.1 ∙ ap (slice_cmp nat_cmp (length p.0 ∷ p.0)) q.1);
}

pub counted_in_delimited : AreDelimited IsCountedIn
counted_in_delimited = record {
  order = λ a b x y p q other.
      ap (λ (l : List ℕ). slice_cmp nat_cmp (l ++ x) (b ++ y)) p.1.1 ∙ ap (λ (l : List ℕ). slice_cmp nat_cmp ((p.0 ∷ length p.1.0 ∷ p.1.0) ++ x) (l ++ y)) q.1.1
      ∙ stream_order p.0 q.0 p.1.0 q.1.0 x y (λ e. other (p.1.1 ∙ e ∙ sym q.1.1))
      ∙ sym (ap (λ (l : List ℕ). slice_cmp nat_cmp l b) p.1.1 ∙ ap (slice_cmp nat_cmp (p.0 ∷ length p.1.0 ∷ p.1.0)) q.1.1);
}

-- ---- behind all rows of a term

not_behind : (d : ℕ) → IsDocument d → is_lt (nat_cmp (2 ^ 32 - 1) d) ≡ false
not_behind d small = elim (cases_lt d (2 ^ 32 - 1)) [
  | inl lower ↦ ap is_lt (sym (nat_cmp_is (2 ^ 32 - 1) d Greater lower))
  | inr last ↦ let same : 2 ^ 32 - 1 ≡ d = omega (arith, small, last) in ap is_lt (sym (nat_cmp_is (2 ^ 32 - 1) d Equal same))
]

-- what passes the test is less
from_test : (o : Ordering) → is_lt o ≡ true → o ≡ Less
from_test Less h = refl
from_test Equal h = cc
from_test Greater h = cc

-- two that don't tie are two
pub not_tied : (a b : List ℕ) → eq_by_cmp (slice_cmp nat_cmp) a b ≡ false → a ≡ b → ⊥
not_tied a b apart same =
    let here : eq_by_cmp (slice_cmp nat_cmp) a a ≡ true = ap is_eq (tied_itself nat_list_cmp_total a) in
    let wrong : true ≡ false = sym here ∙ ap (eq_by_cmp (slice_cmp nat_cmp) a) same ∙ apart in
    cc

pub not_itself : (a : List ℕ) → is_less a a ≡ false
not_itself a = ap is_lt (tied_itself nat_list_cmp_total a)

pub term_of_row : (t : List ℕ) (d : ℕ) → term_of (t ++ document_part d) ≡ t
term_of_row t d =
    let long : length (t ++ document_part d) - 4 ≡ length t = omega (arith, length-append t (document_part d)) in
    ap (λ (n : ℕ). take n (t ++ document_part d)) long ∙ take-append_seam t (document_part d)

module _ (Is : List ℕ → Type 0) (delimited : AreDelimited Is) where
  -- a row is behind all rows of a term exactly where its own term is behind the term
  pub less_behind : (a b : List ℕ) (d : ℕ) → Is a → Is b → IsDocument d → is_less (past a) (b ++ document_part d) ≡ is_less a b
  less_behind a b d is_a is_b small = go (eq_by_cmp (slice_cmp nat_cmp) a b) refl
    where
      go : (t : Bool) → eq_by_cmp (slice_cmp nat_cmp) a b ≡ t → is_less (past a) (b ++ document_part d) ≡ is_less a b
      go true tie =
          let same : a ≡ b = slice_cmp-IsAntisymmetric nat_cmp-IsAntisymmetric a b (equal_from_test _ tie) in
          ap (λ (l : List ℕ). is_less (past a) (l ++ document_part d)) (sym same)
          ∙ ap is_lt (same_first a (document_part (2 ^ 32 - 1)) (document_part d) ∙ four_bytes_in_order (2 ^ 32 - 1) d (omega arith) small)
          ∙ not_behind d small ∙ sym (not_itself a) ∙ ap (is_less a) same
      go false tie = ap is_lt (delimited.order a b (document_part (2 ^ 32 - 1)) (document_part d) is_a is_b (not_tied a b tie))

  -- rows in order have their terms in order
  pub terms_in_order : (a b : List ℕ) (d e : ℕ) → Is a → Is b → is_less (a ++ document_part d) (b ++ document_part e) ≡ true → (a ≡ b) ⊎ (is_less a b ≡ true)
  terms_in_order a b d e is_a is_b low = go (eq_by_cmp (slice_cmp nat_cmp) a b) refl
    where
      go : (t : Bool) → eq_by_cmp (slice_cmp nat_cmp) a b ≡ t → (a ≡ b) ⊎ (is_less a b ≡ true)
      go true tie = inl (slice_cmp-IsAntisymmetric nat_cmp-IsAntisymmetric a b (equal_from_test _ tie))
      go false tie = inr (sym (ap is_lt (delimited.order a b (document_part d) (document_part e) is_a is_b (not_tied a b tie))) ∙ low)

-- ---- lists of terms that rise

abbrev pub Rising : List (List ℕ) → Bool
Rising ts = rises (slice_cmp nat_cmp) (map {B = List ℕ × Unit {0}} (λ t. (t, tt)) ts)

abbrev pub AllAbove : List ℕ → List (List ℕ) → Type 0
AllAbove t [] = Unit {0}
AllAbove t (u ∷ us) = (is_less t u ≡ true) × AllAbove t us

pub above_in : (t : List ℕ) (us : List (List ℕ)) → below (slice_cmp nat_cmp) t (map {B = List ℕ × Unit {0}} (λ u. (u, tt)) us) ≡ true → AllAbove t us
above_in t [] low = tt
above_in t (u ∷ us) low = let b = and_parts (is_less t u) (below (slice_cmp nat_cmp) t (map {B = List ℕ × Unit {0}} (λ u. (u, tt)) us)) low in (b.0, above_in t us b.1)

all_behind : (place : List ℕ) (us : List (List ℕ)) → AllAbove place us → terms_behind place us ≡ us
all_behind place [] above = refl
all_behind place (u ∷ us) above = ap (λ (b : Bool). cond b (u ∷ terms_behind place us) (terms_behind place us)) above.0 ∙ ap (λ (l : List (List ℕ)). u ∷ l) (all_behind place us above.1)

above_on : (s t : List ℕ) (us : List (List ℕ)) → is_less s t ≡ true → AllAbove t us → AllAbove s us
above_on s t [] low above = tt
above_on s t (u ∷ us) low above = (ap is_lt (nat_list_cmp_total.trans s t u (from_test _ low) (from_test _ above.0)), above_on s t us low above.1)

pub in_above : (t u : List ℕ) (us : List (List ℕ)) → AllAbove t us → IsIn u us → is_less t u ≡ true
in_above t u [] above h = absurd h
in_above t u (v ∷ vs) above h = elim h [ inl e ↦ ap (is_less t) e ∙ above.0 | inr r ↦ in_above t u vs above.1 r ]

not_both : (a b : List ℕ) → is_less a b ≡ true → is_less b a ≡ true → ⊥
not_both a b p q =
    let round : is_less a a ≡ true = ap is_lt (nat_list_cmp_total.trans a b a (from_test _ p) (from_test _ q)) in
    let wrong : true ≡ false = sym round ∙ not_itself a in
    cc

-- what is behind a place begins with its least
pub first_behind : (place v : List ℕ) (ts : List (List ℕ)) → Rising ts ≡ true → IsIn v ts → is_less place v ≡ true → ((u : List ℕ) → IsIn u ts → is_less place u ≡ true → (u ≡ v) ⊎ (is_less v u ≡ true))
    → terms_behind place ts ≡ v ∷ terms_behind v ts
first_behind place v [] up there low least = absurd there
first_behind place v (t ∷ ts) up there low least = elim there [ inl e ↦ here e | inr h ↦ later h (λ up l. first_behind place v ts up h low l) ]
  where
    parts : (below (slice_cmp nat_cmp) t (map {B = List ℕ × Unit {0}} (λ u. (u, tt)) ts) ≡ true) × (Rising ts ≡ true)
    parts = and_parts (below (slice_cmp nat_cmp) t (map {B = List ℕ × Unit {0}} (λ u. (u, tt)) ts)) (Rising ts) up

    here : v ≡ t → terms_behind place (t ∷ ts) ≡ v ∷ terms_behind v (t ∷ ts)
    here e =
        let above = above_in t ts parts.0 in
        let low_t : is_less place t ≡ true = ap (is_less place) (sym e) ∙ low in
        ap (λ (b : Bool). cond b (t ∷ terms_behind place ts) (terms_behind place ts)) low_t
        ∙ ap (λ (l : List (List ℕ)). t ∷ l) (all_behind place ts (above_on place t ts low_t above) ∙ sym (all_behind t ts above))
        ∙ ap (λ (l : List (List ℕ)). t ∷ l) (sym (ap (λ (b : Bool). cond b (t ∷ terms_behind t ts) (terms_behind t ts)) (not_itself t)))
        ∙ ap (λ (w : List ℕ). w ∷ terms_behind w (t ∷ ts)) (sym e)

    later : IsIn v ts → (Rising ts ≡ true → ((u : List ℕ) → IsIn u ts → is_less place u ≡ true → (u ≡ v) ⊎ (is_less v u ≡ true)) → terms_behind place ts ≡ v ∷ terms_behind v ts)
        → terms_behind place (t ∷ ts) ≡ v ∷ terms_behind v (t ∷ ts)
    later h rest =
        let t_low = in_above t v ts (above_in t ts parts.0) h in
        let not_place : is_less place t ≡ false = is_false (is_less place t) (λ low. elim (least t (inl refl) low) [
          | inl e ↦ let wrong : true ≡ false = sym t_low ∙ ap (is_less t) (sym e) ∙ not_itself t in cc
          | inr more ↦ not_both t v t_low more
        ]) in
        let not_v : is_less v t ≡ false = is_false (is_less v t) (λ low. not_both t v t_low low) in
        ap (λ (b : Bool). cond b (t ∷ terms_behind place ts) (terms_behind place ts)) not_place
        ∙ rest parts.1 (λ u i l. least u (inr i) l)
        ∙ ap (λ (l : List (List ℕ)). v ∷ l) (sym (ap (λ (b : Bool). cond b (t ∷ terms_behind v ts) (terms_behind v ts)) not_v))
      where
        is_false : (b : Bool) → (b ≡ true → ⊥) → b ≡ false
        is_false true wrong = absurd (wrong refl)
        is_false false wrong = refl

pub none_behind : (place : List ℕ) (ts : List (List ℕ)) → ((u : List ℕ) → IsIn u ts → is_less place u ≡ true → ⊥) → terms_behind place ts ≡ []
none_behind place [] none = refl
none_behind place (t ∷ ts) none = go (is_less place t) refl (none_behind place ts (λ u i l. none u (inr i) l))
  where
    go : (b : Bool) → is_less place t ≡ b → terms_behind place ts ≡ [] → cond b (t ∷ terms_behind place ts) (terms_behind place ts) ≡ []
    go true l rest = absurd (none t (inl refl) l)
    go false l rest = rest
