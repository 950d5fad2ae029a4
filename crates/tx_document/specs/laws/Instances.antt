-- The instances of a document: where they stand, and their order.
use Rattle.std.proofs.Common.{◌≡◌, ℕ, ◌+◌, ◌-◌, ◌≤◌, Bool, true, false, cond, List, [], ◌∷◌, ◌++◌, length, refl, sym, ap, subst, ◌∙◌, arith, add-one, ltb-true}
use Rattle.std.specs.Prelude.{nat_lt, flat_map}
use Rattle.std.specs.List.{AllByRecursion, insert, list_all}
use Rattle.std.specs.Bool.{if◌then◌else◌}
use Rattle.std.specs.Ordering.{is_lt, is_eq, nat_cmp, ordering_then, ordering_reverse}
use Rattle.std.specs.declared.cmp.Ordering.{Ordering}
use Rattle.std.specs.declared.cmp.Ordering.TheVariants.{Less, Equal, Greater}
use Rattle.std.specs.Cmp.{IsTotalOrder}
use Rattle.std.specs.Cmp.Lexicographic.{slice_cmp}
use Rattle.std.proofs.lemmas.Bool.{or_parts, and_parts}
use Rattle.std.proofs.lemmas.Cmp.{nat_list_cmp_total, nat_cmp_total, on_total, then_total}
use Rattle.std.proofs.lemmas.Map.Lookups.{exact_bytes}
use Rattle.ct_base.specs.Names.{IsName, is_kept}
use Rattle.ct_base.specs.laws.Names.{kept_is_name}
use Rattle.ct_base.specs.laws.Orders.{less_from_test, eq_from_equal}
use Rattle.tx_lexer.specs.declared.tokens.Token.{Token}
use Rattle.tx_tags.specs.declared.groups.Section.{Section}
use Rattle.tx_tags.specs.declared.tags.TagView.{TagView}
use Rattle.tx_tags.specs.declared.pairing.Span.{Span}
use Rattle.tx_tags.specs.Groups.{SectionGroup, is_zone}
use Rattle.tx_document.specs.declared.endings.Ending.{Ending}
use Rattle.tx_document.specs.declared.endings.Ending.TheVariants.{Sentence, Paragraph}
use Rattle.tx_document.specs.declared.views.SectionView.{SectionView}
use Rattle.tx_document.specs.Documents.{Extent, extents_from, ends, runs_from, runs_if, instance, section_name, zone_instances, instance_of, reach_of, positions_in, last_of, is_inside, instances, rising, has_instance, instance_place, section_cmp}
use Rattle.tx_document.specs.Promises.{InstancesRise, IsInstance}

-- ---- the order of instances

pub section_cmp_total : IsTotalOrder section_cmp
section_cmp_total = then_total (on_total (λ (s : SectionView). s.section) nat_list_cmp_total) (then_total (on_total (λ (s : SectionView). s.first) nat_cmp_total) (on_total (λ (s : SectionView). s.last) nat_cmp_total))

-- a comparison ties where both of its parts do
tied_parts : (o r : Ordering) → ordering_then o r ≡ Equal → (o ≡ Equal) × (r ≡ Equal)
tied_parts Less r e = cc
tied_parts Equal r e = (refl, e)
tied_parts Greater r e = cc

-- only equal instances tie
pub section_cmp_exact : (a b : SectionView) → section_cmp a b ≡ Equal → a ≡ b
section_cmp_exact a b e =
    let names = tied_parts (slice_cmp nat_cmp a.section b.section) _ e in
    let places = tied_parts (nat_cmp a.first b.first) _ names.1 in
    let name : a.section ≡ b.section = exact_bytes a.section b.section names.0 in
    let first : a.first ≡ b.first = eq_from_equal _ _ places.0 in
    let last : a.last ≡ b.last = eq_from_equal _ _ places.1 in
    λ i. record { section = name i; first = first i; last = last i }

-- ---- instances that strictly rise

-- an instance before the first that isn't less
abbrev pub put_instance : SectionView → List SectionView → List SectionView
put_instance i [] = i ∷ []
put_instance i (j ∷ js) = if is_lt (section_cmp j i) then j ∷ put_instance i js else i ∷ j ∷ js

put_step : (b : Bool) (i j : SectionView) (js : List SectionView) → insert js (instance_place i js) i ≡ put_instance i js
    → insert (j ∷ js) (cond b (instance_place i js + 1) 0) i ≡ cond b (j ∷ put_instance i js) (i ∷ j ∷ js)
put_step true i j js same = ap (λ n. insert (j ∷ js) n i) (add-one (instance_place i js)) ∙ ap (λ (l : List SectionView). j ∷ l) same
put_step false i j js same = refl

pub put_is : (i : SectionView) (is : List SectionView) → insert is (instance_place i is) i ≡ put_instance i is
put_is i [] = refl
put_is i (j ∷ js) = put_step (is_lt (section_cmp j i)) i j js (put_is i js)

all_put : (P : SectionView → Type 0) (i : SectionView) (is : List SectionView) → P i → AllByRecursion P is → AllByRecursion P (put_instance i is)
all_put P i [] here all = (here, tt)
all_put P i (j ∷ js) here all = go (is_lt (section_cmp j i)) (all_put P i js here all.1)
  where
    go : (b : Bool) → AllByRecursion P (put_instance i js) → AllByRecursion P (cond b (j ∷ put_instance i js) (i ∷ j ∷ js))
    go true rest = (all.0, rest)
    go false rest = (here, all)

-- what neither is less nor ties is greater
greater : (o : Ordering) → is_lt o ≡ false → is_eq o ≡ false → o ≡ Greater
greater Less l e = cc
greater Equal l e = cc
greater Greater l e = refl

below_all : (i j : SectionView) (js : List SectionView) → section_cmp i j ≡ Less → AllByRecursion (λ (k : SectionView). section_cmp j k ≡ Less) js → AllByRecursion (λ (k : SectionView). section_cmp i k ≡ Less) js
below_all i j [] less all = tt
below_all i j (k ∷ ks) less all = (section_cmp_total.trans i j k less all.0, below_all i j ks less all.1)

put_rises : (i : SectionView) (is : List SectionView) → InstancesRise is → has_instance i is ≡ false → InstancesRise (put_instance i is)
put_rises i [] rise none = (tt, tt)
put_rises i (j ∷ js) rise none =
    let others = or_parts (is_eq (section_cmp j i)) (has_instance i js) none in
    go (is_lt (section_cmp j i)) refl others.0 (put_rises i js rise.1 others.1)
  where
    go : (b : Bool) → is_lt (section_cmp j i) ≡ b → is_eq (section_cmp j i) ≡ false → InstancesRise (put_instance i js) → InstancesRise (cond b (j ∷ put_instance i js) (i ∷ j ∷ js))
    go true less other rest = (all_put (λ (k : SectionView). section_cmp j k ≡ Less) i js (less_from_test _ less) rise.0, rest)
    go false less other rest =
        let low : section_cmp i j ≡ Less = section_cmp_total.antisymm i j ∙ ap ordering_reverse (greater (section_cmp j i) less other) in
        ((low, below_all i j js low rise.0), rise)

pub rising_rises : (is : List SectionView) → InstancesRise (rising is)
rising_rises [] = tt
rising_rises (i ∷ is) = go (has_instance i (rising is)) refl (rising_rises is)
  where
    go : (b : Bool) → has_instance i (rising is) ≡ b → InstancesRise (rising is) → InstancesRise (cond b (rising is) (insert (rising is) (instance_place i (rising is)) i))
    go true has rest = rest
    go false has rest = subst InstancesRise (sym (put_is i (rising is))) (put_rises i (rising is) rest has)

pub all_rising : (P : SectionView → Type 0) (is : List SectionView) → AllByRecursion P is → AllByRecursion P (rising is)
all_rising P [] all = tt
all_rising P (i ∷ is) all = go (has_instance i (rising is)) (all_rising P is all.1)
  where
    go : (b : Bool) → AllByRecursion P (rising is) → AllByRecursion P (cond b (rising is) (insert (rising is) (instance_place i (rising is)) i))
    go true rest = rest
    go false rest = subst (AllByRecursion P) (sym (put_is i (rising is))) (all_put P i (rising is) all.0 rest)

-- ---- where instances stand

all_append : (P : SectionView → Type 0) (is js : List SectionView) → AllByRecursion P is → AllByRecursion P js → AllByRecursion P (is ++ js)
all_append P [] js all more = more
all_append P (i ∷ is) js all more = (all.0, all_append P is js all.1 more)

-- positions that rise, from the first on, up to a last
abbrev Within : ℕ → ℕ → List ℕ → Type 0
Within least most [] = Unit {0}
Within least most (p ∷ ps) = (least ≤ p) × (p ≤ most) × Within p most ps

within_lower : (low least most : ℕ) (ps : List ℕ) → low ≤ least → Within least most ps → Within low most ps
within_lower low least most [] le w = tt
within_lower low least most (p ∷ ps) le w = (omega (arith, w.0), w.1, w.2)

positions_within : (s : Span) (position most : ℕ) (ts : List Token) → position + length ts ≤ most + 1 → Within position most (positions_in s position ts)
positions_within s position most [] le = tt
positions_within s position most (t ∷ ts) le = go (is_inside t s) (positions_within s (position + 1) most ts (omega arith))
  where
    go : (b : Bool) → Within (position + 1) most (positions_in s (position + 1) ts) → Within position most (cond b (position ∷ []) [] ++ positions_in s (position + 1) ts)
    go true rest = (omega arith, omega arith, within_lower position (position + 1) most (positions_in s (position + 1) ts) (omega arith) rest)
    go false rest = within_lower position (position + 1) most (positions_in s (position + 1) ts) (omega arith) rest

last_within : (p most : ℕ) (ps : List ℕ) → p ≤ most → Within p most ps → (p ≤ last_of p ps) × (last_of p ps ≤ most)
last_within p most [] le w = (omega arith, le)
last_within p most (q ∷ qs) le w = let rest = last_within q most qs w.1 w.2 in (omega (arith, w.0, rest.0), rest.1)

reach_is : (section : List ℕ) (count : ℕ) (ps : List ℕ) → IsName section → Within 1 count ps → AllByRecursion (IsInstance count) (instance_of section (reach_of ps))
reach_is section count [] named w = tt
reach_is section count (p ∷ ps) named w = let last = last_within p count ps w.1 w.2 in (record { named = named; some = w.0; forward = last.0; within = last.1 }, tt)

each_is : (section : List ℕ) (ts : List Token) (ss : List Span) → IsName section
    → AllByRecursion (IsInstance (length ts)) (flat_map (λ (span : Span). instance_of section (reach_of (positions_in span 1 ts))) ss)
each_is section ts [] named = tt
each_is section ts (s ∷ ss) named =
    all_append (IsInstance (length ts)) (instance_of section (reach_of (positions_in s 1 ts))) (flat_map (λ (span : Span). instance_of section (reach_of (positions_in span 1 ts))) ss)
    (reach_is section (length ts) (positions_in s 1 ts) named (positions_within s 1 (length ts) ts (omega arith))) (each_is section ts ss named)

zone_is : (ts : List Token) (e : Extent) → IsName e.section → AllByRecursion (IsInstance (length ts)) (zone_instances ts e)
zone_is ts e named = go (is_zone e.kind) (each_is e.section ts e.spans named)
  where
    go : (b : Bool) → AllByRecursion (IsInstance (length ts)) (flat_map (λ (span : Span). instance_of e.section (reach_of (positions_in span 1 ts))) e.spans)
        → AllByRecursion (IsInstance (length ts)) (cond b (flat_map (λ (span : Span). instance_of e.section (reach_of (positions_in span 1 ts))) e.spans) [])
    go true all = all
    go false all = tt

zones_are : (ts : List Token) (es : List Extent) → AllByRecursion (λ (e : Extent). IsName e.section) es → AllByRecursion (IsInstance (length ts)) (flat_map (zone_instances ts) es)
zones_are ts [] named = tt
zones_are ts (e ∷ es) named = all_append (IsInstance (length ts)) (zone_instances ts e) (flat_map (zone_instances ts) es) (zone_is ts e named.0) (zones_are ts es named.1)

ending_named : (ending : Ending) → IsName (section_name ending)
ending_named Sentence = record { spelt = refl; lower = refl }
ending_named Paragraph = record { spelt = refl; lower = refl }

runs_are : (count : ℕ) (ending : Ending) (first position : ℕ) (ts : List Token) → 1 ≤ first → first ≤ position → position + length ts ≤ count + 1
    → AllByRecursion (IsInstance count) (runs_from ending first position ts)
runs_are count ending first position [] some le fits = go (nat_lt first position) refl
  where
    go : (b : Bool) → nat_lt first position ≡ b → AllByRecursion (IsInstance count) (cond b (instance (section_name ending) first (position - 1) ∷ []) [])
    go true less = let below = ltb-true first position less in (record { named = ending_named ending; some = some; forward = omega (arith, below); within = omega arith }, tt)
    go false less = tt
runs_are count ending first position (t ∷ ts) some le fits =
    go (ends ending t) (runs_are count ending (position + 1) (position + 1) ts (omega arith) (omega arith) (omega arith)) (runs_are count ending first (position + 1) ts some (omega arith) (omega arith))
  where
    go : (b : Bool) → AllByRecursion (IsInstance count) (runs_from ending (position + 1) (position + 1) ts) → AllByRecursion (IsInstance count) (runs_from ending first (position + 1) ts)
        → AllByRecursion (IsInstance count) (cond b (instance (section_name ending) first position ∷ runs_from ending (position + 1) (position + 1) ts) (runs_from ending first (position + 1) ts))
    go true next more = (record { named = ending_named ending; some = some; forward = le; within = omega arith }, next)
    go false next more = more

runs_if_are : (b : Bool) (ending : Ending) (ts : List Token) → AllByRecursion (IsInstance (length ts)) (runs_if b ending ts)
runs_if_are true ending ts = runs_are (length ts) ending 1 1 ts (omega arith) (omega arith) (omega arith)
runs_if_are false ending ts = tt

pub instances_are : (g : SectionGroup) (es : List Extent) (ts : List Token) → AllByRecursion (λ (e : Extent). IsName e.section) es → AllByRecursion (IsInstance (length ts)) (instances g es ts)
instances_are g es ts named =
    all_append (IsInstance (length ts)) (flat_map (zone_instances ts) es) (runs_if g.sentence Sentence ts ++ runs_if g.paragraph Paragraph ts) (zones_are ts es named)
    (all_append (IsInstance (length ts)) (runs_if g.sentence Sentence ts) (runs_if g.paragraph Paragraph ts) (runs_if_are g.sentence Sentence ts) (runs_if_are g.paragraph Paragraph ts))

-- the extents of sections whose names are kept have names
pub extents_named : (tags : List TagView) (end k : ℕ) (ss : List Section) → list_all (λ (s : Section). is_kept s.name) ss ≡ true → AllByRecursion (λ (e : Extent). IsName e.section) (extents_from tags end k ss)
extents_named tags end k [] all = tt
extents_named tags end k (s ∷ ss) all =
    let parts = and_parts (is_kept s.name) (list_all (λ (s : Section). is_kept s.name) ss) all in
    (kept_is_name s.name parts.0, extents_named tags end (k + length s.tags) ss parts.1)
