-- Where keys come among the places that a leaf names, and what edits make of these.
use Rattle.std.proofs.Common.{◌≡◌, ⊎_elim, ℕ, zero, suc, ◌+◌, ◌-◌, ◌≤◌, ◌<◌, Bool, true, false, List, [], ◌∷◌, ◌++◌, length, take, drop, get_or, Option, Some, None, refl, sym, ap, subst, ◌∙◌, append_assoc, append-nil, arith}
use Rattle.std.specs.Prelude.{filter}
use Rattle.std.specs.Ordering.{nat_cmp, is_lt}
use Rattle.std.specs.Cmp.Lexicographic.{slice_cmp}
use Rattle.std.proofs.lemmas.Bool.{cases_lt, false_from_ne_true}
use Rattle.std.proofs.lemmas.Cmp.{nat_list_cmp_total, tied_itself}
use Rattle.std.proofs.lemmas.List.{map-append, take-append-drop, drop-drop, take_rest, drop_all, length-map}
use Rattle.ct_base.specs.laws.Orders.{less_from_test}
use Rattle.pg_page.specs.Pages.{Fits, page_bytes}
use Rattle.pg_map.specs.Kinds.{Each, Free, Slotted, Long, bytes_of_kind, strings_of}
use Rattle.pg_directory.specs.declared.entries.EntryAt.{EntryAt}
use Rattle.pg_directory.specs.Looking.{IsRank}
use Rattle.pg_directory.specs.Pages.{no_entry}
use Rattle.pg_directory.specs.Placing.{KeyedPlace}
use Rattle.pg_directory.specs.Trees.{StorePage, Plain, Directory, bytes_of_page, IsPage, kind_of, key_at, IsBelow, IsAtMost, Rise}
use Rattle.pg_directory.specs.laws.Pages.{each_at}
use Rattle.pg_leaves.specs.declared.edits.Edit.{Edit}
use Rattle.pg_leaves.specs.Editing.{KeyEdit, edits_of, keyed, pairs_below, pairs_above, pair_of, edited, places_in, places_edited}
use Rattle.pg_leaves.specs.Finding.{ComesBefore, IsGapOf, IsGapAt, IsKeyOr, PutsEdit, places_given}
use Rattle.pg_leaves.specs.laws.Editing.{below_trans, below_at_most, below-append, above-append, not_below, is_below, cases_key, all_kept, none_kept}
use Rattle.pg_leaves.proofs.Findings.{edit_there}

-- ---- the page of a string

-- The page has strings, of which there are more than so many.
pub record IsSlotted (pages : List StorePage) (n : ℕ) : Type 0 where
  pub strings : List (List ℕ)
  pub there : n < length pages
  pub at : bytes_of_page (get_or pages n (Plain Free)) ≡ page_bytes strings
  pub fits : Fits strings
  pub are : strings_of (kind_of (get_or pages n (Plain Free)) ∷ []) ≡ strings

one_page : (p : StorePage) (ps : List StorePage) (slot : ℕ) → IsPage p → slot < length (strings_of (kind_of p ∷ [])) → IsSlotted (p ∷ ps) 0
unfolding bytes_of_kind
one_page (Plain Free) ps slot good less = absurd (omega (arith, less))
one_page (Plain (Slotted ss)) ps slot good less = record { strings = ss; there = omega arith; at = refl; fits = good; are = append-nil ss }
one_page (Plain (Long next bytes)) ps slot good less = absurd (omega (arith, less))
one_page (Directory d) ps slot good less = absurd (omega (arith, less))

pub slotted : (pages : List StorePage) (n slot : ℕ) → Each IsPage pages → slot < length (strings_of (kind_of (get_or pages n (Plain Free)) ∷ [])) → IsSlotted pages n
slotted [] n slot are less = absurd (omega (arith, less))
slotted (p ∷ ps) zero slot are less = one_page p ps slot are.0 less
slotted (p ∷ ps) (suc n) slot are less = let r = slotted ps n slot are.1 less in record { strings = r.strings; there = omega (arith, r.there); at = r.at; fits = r.fits; are = r.are }

-- ---- elements by their numbers

each_taken : {X : Type 0} (P : X → Type 0) (xs : List X) (n : ℕ) (d : X) → n ≤ length xs → ((i : ℕ) → i < n → P (get_or xs i d)) → Each P (take n xs)
each_taken P xs zero d most all = tt
each_taken P [] (suc n) d most all = absurd (omega (arith, most))
each_taken P (x ∷ xs) (suc n) d most all = (all 0 (omega arith), each_taken P xs n d (omega (arith, most)) (λ i less. all (suc i) (omega (arith, less))))

each_left_over : {X : Type 0} (P : X → Type 0) (xs : List X) (n : ℕ) (d : X) → ((i : ℕ) → n ≤ i → i < length xs → P (get_or xs i d)) → Each P (drop n xs)
each_left_over P [] zero d all = tt
each_left_over P [] (suc n) d all = tt
each_left_over P (x ∷ xs) zero d all = (all 0 (omega arith) (omega arith), each_left_over P xs zero d (λ i least less. all (suc i) (omega arith) (omega (arith, less))))
each_left_over P (x ∷ xs) (suc n) d all = each_left_over P xs n d (λ i least less. all (suc i) (omega (arith, least)) (omega (arith, less)))

pub rise_between : (key : EntryAt → List ℕ) (es : List EntryAt) (i j : ℕ) → Rise key es → i < j → j < length es → IsBelow (key (get_or es i no_entry)) (key (get_or es j no_entry))
rise_between key [] i j rise less within = absurd (omega (arith, within))
rise_between key (e ∷ es) i zero rise less within = absurd (omega (arith, less))
rise_between key (e ∷ es) zero (suc j) rise less within = each_at (λ (f : EntryAt). IsBelow (key e) (key f)) es j no_entry rise.0 (omega (arith, within))
rise_between key (e ∷ es) (suc i) (suc j) rise less within = rise_between key es i j rise.1 (omega (arith, less)) (omega (arith, within))

-- ---- the gap of a key

each_keyed : (pages : List StorePage) (P : List ℕ → Type 0) (es : List EntryAt) → Each (λ (e : EntryAt). P (key_at pages e)) es → Each (λ (p : KeyedPlace). P p.0) (keyed pages es)
each_keyed pages P [] each = tt
each_keyed pages P (e ∷ es) each = (each.0, each_keyed pages P es each.1)

keyed_parts : (pages : List StorePage) (es : List EntryAt) (n : ℕ) → keyed pages es ≡ keyed pages (take n es) ++ keyed pages (drop n es)
keyed_parts pages es n = ap (keyed pages) (sym (take-append-drop n es)) ∙ map-append {B = KeyedPlace} (λ (e : EntryAt). (key_at pages e, e)) (take n es) (drop n es)

module _ (pages : List StorePage) (es : List EntryAt) (key : List ℕ) where
  abbrev nth : ℕ → List ℕ
  nth i = key_at pages (get_or es i no_entry)

  abbrev is_under : List ℕ → Bool
  is_under k = is_lt (slice_cmp nat_cmp k key)

  abbrev is_over : List ℕ → Bool
  is_over k = is_lt (slice_cmp nat_cmp key k)

  module _ (test : List ℕ → Bool) (n : ℕ) where
    -- where all of the first pass a test, or none does
    first_pass : n ≤ length es → ((i : ℕ) → i < n → test (nth i) ≡ true) → filter (λ (p : KeyedPlace). test p.0) (keyed pages (take n es)) ≡ keyed pages (take n es)
    first_pass most all =
        let each = each_taken (λ (e : EntryAt). test (key_at pages e) ≡ true) es n no_entry most all in
        all_kept (λ (p : KeyedPlace). test p.0) (keyed pages (take n es)) (each_keyed pages (λ (k : List ℕ). test k ≡ true) (take n es) each)

    none_first : n ≤ length es → ((i : ℕ) → i < n → test (nth i) ≡ false) → filter (λ (p : KeyedPlace). test p.0) (keyed pages (take n es)) ≡ []
    none_first most all =
        let each = each_taken (λ (e : EntryAt). test (key_at pages e) ≡ false) es n no_entry most all in
        none_kept (λ (p : KeyedPlace). test p.0) (keyed pages (take n es)) (each_keyed pages (λ (k : List ℕ). test k ≡ false) (take n es) each)

    -- the same of all others
    others_pass : ((i : ℕ) → n ≤ i → i < length es → test (nth i) ≡ true) → filter (λ (p : KeyedPlace). test p.0) (keyed pages (drop n es)) ≡ keyed pages (drop n es)
    others_pass all =
        let each = each_left_over (λ (e : EntryAt). test (key_at pages e) ≡ true) es n no_entry all in
        all_kept (λ (p : KeyedPlace). test p.0) (keyed pages (drop n es)) (each_keyed pages (λ (k : List ℕ). test k ≡ true) (drop n es) each)

    no_others : ((i : ℕ) → n ≤ i → i < length es → test (nth i) ≡ false) → filter (λ (p : KeyedPlace). test p.0) (keyed pages (drop n es)) ≡ []
    no_others all =
        let each = each_left_over (λ (e : EntryAt). test (key_at pages e) ≡ false) es n no_entry all in
        none_kept (λ (p : KeyedPlace). test p.0) (keyed pages (drop n es)) (each_keyed pages (λ (k : List ℕ). test k ≡ false) (drop n es) each)

  gap_by : (below most : ℕ) → below ≤ length es → most ≤ length es → ((i : ℕ) → i < below → IsBelow (nth i) key) → ((i : ℕ) → below ≤ i → i < length es → is_under (nth i) ≡ false)
      → ((i : ℕ) → i < most → is_over (nth i) ≡ false) → ((i : ℕ) → most ≤ i → i < length es → IsBelow key (nth i)) → IsGapOf pages es key below most
  gap_by below most low high under not_under not_over over = record {
    low = ap (pairs_below key) (keyed_parts pages es below) ∙ below-append key (keyed pages (take below es)) (keyed pages (drop below es))
        ∙ ap (λ (l : List KeyedPlace). l ++ pairs_below key (keyed pages (drop below es))) (first_pass is_under below low (λ i less. is_below (nth i) key (under i less)))
        ∙ ap (λ (l : List KeyedPlace). keyed pages (take below es) ++ l) (no_others is_under below not_under) ∙ append-nil (keyed pages (take below es));
    high = ap (pairs_above key) (keyed_parts pages es most) ∙ above-append key (keyed pages (take most es)) (keyed pages (drop most es))
        ∙ ap (λ (l : List KeyedPlace). l ++ pairs_above key (keyed pages (drop most es))) (none_first is_over most high not_over)
        ∙ others_pass is_over most (λ i least less. is_below key (nth i) (over i least less));
  }

  not_over_most : (k : List ℕ) → IsAtMost k key → is_lt (slice_cmp nat_cmp key k) ≡ false
  not_over_most k most = false_from_ne_true (is_lt (slice_cmp nat_cmp key k)) (λ is. most (less_from_test (slice_cmp nat_cmp key k) is))

  -- where no key is at most this one
  pub gap_none : IsRank pages es key 0 → IsGapOf pages es key 0 0
  gap_none r = gap_by 0 0 (omega arith) (omega arith) (λ i less. absurd (omega (arith, less))) (λ i least less. not_below key (nth i) (r.high i least less)) (λ i less. absurd (omega (arith, less))) r.high

  pub gap_before : ComesBefore pages es key → Rise (key_at pages) es → IsGapOf pages es key 0 0
  gap_before before rise = gap_none (record { most = omega arith; low = λ i less. absurd (omega (arith, less)); high = λ i least less. of es rise before i less })
    where
      of : (fs : List EntryAt) → Rise (key_at pages) fs → ComesBefore pages fs key → (i : ℕ) → i < length fs → IsBelow key (key_at pages (get_or fs i no_entry))
      of [] rise before i less = absurd (omega (arith, less))
      of (f ∷ fs) rise before zero less = before
      of (f ∷ fs) rise before (suc i) less =
          let above = each_at (λ (g : EntryAt). IsBelow (key_at pages f) (key_at pages g)) fs i no_entry rise.0 (omega (arith, less)) in
          below_trans key (key_at pages f) (key_at pages (get_or fs i no_entry)) before above

  -- where some are, by the last of them
  pub gap_some : (rank below most : ℕ) (there : Bool) → Rise (key_at pages) es → IsRank pages es key rank → 1 ≤ rank → IsKeyOr (Some there) (nth (rank - 1)) key
      → IsGapAt there rank below most → IsGapOf pages es key below most
  gap_some rank below most true rise r some own (b, m) = gap_by below most (omega (arith, b, r.most)) (omega (arith, m, r.most))
      (λ i less. subst (IsBelow (nth i)) own (rise_between (key_at pages) es i (rank - 1) rise (omega (arith, less, b)) (omega (arith, some, r.most))))
      (λ i least less. ⊎_elim
      (λ low. let last : i ≡ rank - 1 = omega (arith, low, least, b) in ap (λ (k : List ℕ). is_lt (slice_cmp nat_cmp k key)) (ap nth last ∙ own) ∙ ap is_lt (tied_itself nat_list_cmp_total key))
      (λ high. not_below key (nth i) (r.high i high less))
      (cases_lt i rank))
      (λ i less. not_over_most (nth i) (r.low i (omega (arith, less, m)))) (λ i least less. r.high i (omega (arith, least, m)) less)
  gap_some rank below most false rise r some other (b, m) = gap_by below most (omega (arith, b, r.most)) (omega (arith, m, r.most))
      (λ i less. ⊎_elim
      (λ early. below_at_most (nth i) (nth (rank - 1)) key (rise_between (key_at pages) es i (rank - 1) rise early (omega (arith, some, r.most))) (r.low (rank - 1) (omega (arith, some))))
      (λ late.
      let last : i ≡ rank - 1 = omega (arith, late, less, b) in
      ⊎_elim (λ under. under) (λ rest. ⊎_elim (λ is. absurd (other (ap nth (sym last) ∙ is))) (λ over. absurd (r.low i (omega (arith, less, b)) over)) rest) (cases_key (nth i) key))
      (cases_lt i (rank - 1)))
      (λ i least less. not_below key (nth i) (r.high i (omega (arith, least, b)) less))
      (λ i less. not_over_most (nth i) (r.low i (omega (arith, less, m)))) (λ i least less. r.high i (omega (arith, least, m)) less)

-- ---- the places after an edit

pub places_keyed : (pages : List StorePage) (es : List EntryAt) → places_in (keyed pages es) ≡ es
places_keyed pages [] = refl
places_keyed pages (e ∷ es) = ap (λ (l : List EntryAt). e ∷ l) (places_keyed pages es)

places_placed : (key : List ℕ) (place : Option EntryAt) → places_in (pair_of key place) ≡ places_given place
places_placed key None = refl
places_placed key (Some e) = refl

pub places-append : (ps qs : List KeyedPlace) → places_in (ps ++ qs) ≡ places_in ps ++ places_in qs
places-append ps qs = map-append {B = EntryAt} (λ (p : KeyedPlace). p.1) ps qs

-- what one edit makes, and the later ones of what stands behind its key
edit_first : (pages : List StorePage) (es : List EntryAt) (key : List ℕ) (place : Option EntryAt) (us : List KeyEdit) (below most : ℕ) → IsGapOf pages es key below most
    → places_edited pages es ((key, place) ∷ us) ≡ (take below es ++ places_given place) ++ places_edited pages (drop most es) us
edit_first pages es key place us below most gap =
    let rest = edited (pairs_above key (keyed pages es)) us in
    places-append (pairs_below key (keyed pages es)) (pair_of key place ++ rest)
    ∙ ap (λ (l : List EntryAt). l ++ places_in (pair_of key place ++ rest)) (ap places_in gap.low ∙ places_keyed pages (take below es))
    ∙ ap (λ (l : List EntryAt). take below es ++ l) (places-append (pair_of key place) rest)
    ∙ ap (λ (l : List EntryAt). take below es ++ (l ++ places_in rest)) (places_placed key place)
    ∙ ap (λ (l : List KeyedPlace). take below es ++ (places_given place ++ places_in (edited l us))) gap.high
    ∙ sym (append_assoc (take below es) (places_given place) (places_edited pages (drop most es) us))

-- a step of the loop over the edits
pub edit_step : (pages : List StorePage) (es : List EntryAt) (us : List Edit) (done i most : ℕ) (u : Edit) (all old new : List EntryAt) → i < length us → u ≡ get_or us i u
    → all ≡ old ++ places_edited pages (drop done es) (drop i (edits_of us))
    → PutsEdit pages (drop done es) u old new most → all ≡ new ++ places_edited pages (drop (done + most) es) (drop (i + 1) (edits_of us))
edit_step pages es us done i most u all old new less is so_far put =
    let next = edit_there us i u less is in
    so_far ∙ ap (λ (l : List KeyEdit). old ++ places_edited pages (drop done es) l) next
    ∙ ap (λ (l : List EntryAt). old ++ l) (edit_first pages (drop done es) u.key.items u.place (drop (i + 1) (edits_of us)) put.below most put.gap)
    ∙ sym (append_assoc old (take put.below (drop done es) ++ places_given u.place) (places_edited pages (drop most (drop done es)) (drop (i + 1) (edits_of us))))
    ∙ ap (λ (l : List EntryAt). l ++ places_edited pages (drop most (drop done es)) (drop (i + 1) (edits_of us))) (sym put.is)
    ∙ ap (λ (l : List EntryAt). new ++ places_edited pages l (drop (i + 1) (edits_of us))) (drop-drop most done es)

-- the places behind the last edit stay
pub edits_done : (pages : List StorePage) (es : List EntryAt) (us : List Edit) (done i : ℕ) (all old new : List EntryAt) → length us ≤ i
    → all ≡ old ++ places_edited pages (drop done es) (drop i (edits_of us)) → new ≡ old ++ take (length es - done) (drop done es) → new ≡ all
edits_done pages es us done i all old new past so_far put =
    let count = length-map {B = KeyEdit} us (λ (v : Edit). (v.key.items, v.place)) in
    put ∙ ap (λ (l : List EntryAt). old ++ l) (take_rest es done ∙ sym (places_keyed pages (drop done es)))
    ∙ ap (λ (l : List KeyEdit). old ++ places_edited pages (drop done es) l) (sym (drop_all i (edits_of us) (omega (arith, past, count)))) ∙ sym so_far
