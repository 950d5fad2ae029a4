-- One leaf after the other that has edits.
use Rattle.std.proofs.Common.{◌≡◌, ⊎_elim, ℕ, zero, suc, ◌+◌, ◌-◌, ◌≤◌, ◌<◌, List, [], ◌∷◌, ◌++◌, length, length-append, take, drop, Option, Some, refl, sym, ap, subst, ◌∙◌, append_assoc, arith}
use Rattle.std.proofs.lemmas.Bool.{cases_lt}
use Rattle.std.proofs.lemmas.List.{length-drop, length-map, length-take-le, map-append, take-map, take-append-drop, drop-drop, drop_all, drop-map}
use Rattle.pg_map.specs.Holding.{times}
use Rattle.pg_map.specs.Kinds.{Each}
use Rattle.pg_map.specs.laws.Holding.{each-left, each-right}
use Rattle.pg_map.specs.laws.Loose.{times-append}
use Rattle.pg_directory.specs.declared.entries.Child.{Child}
use Rattle.pg_directory.specs.declared.entries.EntryAt.{EntryAt}
use Rattle.pg_directory.specs.Levels.{pages_of, leasts_of, AreLeaves}
use Rattle.pg_directory.specs.Placing.{KeyedPlace}
use Rattle.pg_directory.specs.Trees.{StorePage, key_at, HasString, IsBelow, Rise, first_of}
use Rattle.pg_directory.specs.laws.Changing.{AreLeavesOf, leaves_apart}
use Rattle.pg_leaves.specs.declared.edits.Edit.{Edit}
use Rattle.pg_leaves.specs.declared.finding.NextLeaf.{NextLeaf}
use Rattle.pg_leaves.specs.declared.parting.LeafNow.{LeafNow}
use Rattle.pg_leaves.specs.declared.parting.LeafNow.TheVariants.{Kept, Made}
use Rattle.pg_leaves.specs.declared.relisting.NextPlaces.{NextPlaces}
use Rattle.pg_leaves.specs.Editing.{KeyEdit, keyed, Rising, edited, places_in, places_edited, AreKeysApart, edits_of}
use Rattle.pg_leaves.specs.Finding.{ComesBefore, ComesBehind, StartsBehind, first_key, IsNextLeaf, IsNextLeafOr}
use Rattle.pg_leaves.specs.Relisting.{made_count, kept_leaves, kept_pages, NamePlaces, AreMadeOf, ArePagesOfLeaves, AreNextPlaces, ArePutNext}
use Rattle.pg_leaves.specs.laws.Editing.{below_trans, below_at_most, each_weaker, edited-append, no_edit_first}
use Rattle.pg_leaves.proofs.Gaps.{places_keyed, places-append}

-- ---- the least entries of leaves

each_least : (pages : List StorePage) (P : EntryAt → Type 0) (cs : List Child) (es : List EntryAt) → AreLeaves pages cs es → Each P es → Each P (leasts_of cs)
each_least pages P [] es are each = tt
each_least pages P (c ∷ cs) es ([], later, low, at, first, more, is) each = absurd (cc first)
each_least pages P (c ∷ cs) es (e ∷ own, later, low, at, first, more, is) each =
    let all : Each P ((e ∷ own) ++ later) = subst (Each P) is each in
    let same : e ≡ c.least = cc in
    (subst P same all.0, each_least pages P cs later more (each-right P (e ∷ own) later all))

rise_right : (key : EntryAt → List ℕ) (xs ys : List EntryAt) → Rise key (xs ++ ys) → Rise key ys
rise_right key [] ys rise = rise
rise_right key (x ∷ xs) ys rise = rise_right key xs ys rise.1

rise_left : (key : EntryAt → List ℕ) (xs ys : List EntryAt) → Rise key (xs ++ ys) → Rise key xs
rise_left key [] ys rise = tt
rise_left key (x ∷ xs) ys rise = (each-left (λ (y : EntryAt). IsBelow (key x) (key y)) xs ys rise.0, rise_left key xs ys rise.1)

leasts_rise : (pages : List StorePage) (cs : List Child) (es : List EntryAt) → AreLeaves pages cs es → Rise (key_at pages) es → Rise (key_at pages) (leasts_of cs)
leasts_rise pages [] es are rise = tt
leasts_rise pages (c ∷ cs) es ([], later, low, at, first, more, is) rise = absurd (cc first)
leasts_rise pages (c ∷ cs) es (e ∷ own, later, low, at, first, more, is) rise =
    let all : Rise (key_at pages) ((e ∷ own) ++ later) = subst (Rise (key_at pages)) is rise in
    let same : e ≡ c.least = cc in
    let P : EntryAt → Type 0 = λ g. IsBelow (key_at pages e) (key_at pages g) in (
      subst (λ (f : EntryAt). Each (λ (g : EntryAt). IsBelow (key_at pages f) (key_at pages g)) (leasts_of cs)) same (each_least pages P cs later more (each-right P own later all.0)),
      leasts_rise pages cs later more (rise_right (key_at pages) (e ∷ own) later all),
    )

-- the first entry that leaves name is the first of their least ones
first_least : (pages : List StorePage) (cs : List Child) (es : List EntryAt) → AreLeaves pages cs es → first_of (leasts_of cs) ≡ first_of es
first_least pages [] es are = ap first_of (sym are)
first_least pages (c ∷ cs) es ([], later, low, at, first, more, is) = absurd (cc first)
first_least pages (c ∷ cs) es (e ∷ own, later, low, at, first, more, is) = sym first ∙ ap first_of (sym is)

behind_as : (pages : List StorePage) (es fs : List EntryAt) (key : List ℕ) → first_of es ≡ first_of fs → ComesBehind pages es key → ComesBehind pages fs key
behind_as pages [] fs key same none = absurd none
behind_as pages (e ∷ es) [] key same own = absurd (cc same)
behind_as pages (e ∷ es) (f ∷ fs) key same own = let one : e ≡ f = cc in subst (λ (g : EntryAt). ComesBehind pages (g ∷ fs) key) one own

before_as : (pages : List StorePage) (es fs : List EntryAt) (key : List ℕ) → first_of es ≡ first_of fs → ComesBefore pages es key → ComesBefore pages fs key
before_as pages es [] key same own = tt
before_as pages [] (f ∷ fs) key same own = absurd (cc same)
before_as pages (e ∷ es) (f ∷ fs) key same own = let one : e ≡ f = cc in subst (λ (g : EntryAt). ComesBefore pages (g ∷ fs) key) one own

starts_as : (pages : List StorePage) (es fs : List EntryAt) (us : List KeyEdit) → first_of es ≡ first_of fs → StartsBehind pages es us → StartsBehind pages fs us
starts_as pages es fs [] same own = tt
starts_as pages es fs (u ∷ us) same own = behind_as pages es fs u.0 same own

-- ---- entries and edits that are apart

none_apart : (ps : List KeyedPlace) → AreKeysApart {Y = Option EntryAt} ps []
none_apart [] = tt
none_apart (p ∷ ps) = (tt, none_apart ps)

one_apart : (pages : List StorePage) (es : List EntryAt) (us : List KeyEdit) (k : List ℕ) → Each (λ (e : EntryAt). IsBelow (key_at pages e) k) es → Each (λ (u : KeyEdit). IsBelow k u.0) us
    → AreKeysApart (keyed pages es) us
one_apart pages [] us k low high = tt
one_apart pages (e ∷ es) us k low high =
    let first = each_weaker (λ (u : KeyEdit). IsBelow k u.0) (λ (u : KeyEdit). IsBelow (key_at pages e) u.0) us (λ u over. below_trans (key_at pages e) k u.0 low.0 over) high in
    (first, one_apart pages es us k low.1 high)

with_first : (pages : List StorePage) (es : List EntryAt) (u : KeyEdit) (us : List KeyEdit) → Each (λ (e : EntryAt). IsBelow (key_at pages e) u.0) es → AreKeysApart (keyed pages es) us
    → AreKeysApart (keyed pages es) (u ∷ us)
with_first pages [] u us low rest = tt
with_first pages (e ∷ es) u us low rest = ((low.0, rest.0), with_first pages es u us low.1 rest.1)

low_front : (pages : List StorePage) (es fs : List EntryAt) (key : List ℕ) → Rise (key_at pages) (es ++ fs) → ComesBehind pages fs key → Each (λ (e : EntryAt). IsBelow (key_at pages e) key) es
low_front pages [] fs key rise behind = tt
low_front pages (e ∷ es) [] key rise behind = absurd behind
low_front pages (e ∷ es) (f ∷ fs) key rise behind =
    (below_at_most (key_at pages e) (key_at pages f) key (each-right (λ (g : EntryAt). IsBelow (key_at pages e) (key_at pages g)) es (f ∷ fs) rise.0).0 behind, low_front pages es (f ∷ fs) key rise.1 behind)

-- Entries come before edits that don't come before those behind them.
apart_front : (pages : List StorePage) (es fs : List EntryAt) (us : List KeyEdit) → Rise (key_at pages) (es ++ fs) → StartsBehind pages fs us → Rising us → AreKeysApart (keyed pages es) us
apart_front pages es fs [] rise starts rising = none_apart (keyed pages es)
apart_front pages es fs (u ∷ us) rise starts rising = let low = low_front pages es fs u.0 rise starts in with_first pages es u us low (one_apart pages es us u.0 low rising.0)

-- Edits come before entries, of which they come before the first one.
apart_edits : (pages : List StorePage) (us : List KeyEdit) (fs : List EntryAt) → Rise (key_at pages) fs → Each (λ (u : KeyEdit). ComesBefore pages fs u.0) us → AreKeysApart us (keyed pages fs)
apart_edits pages [] fs rise before = tt
apart_edits pages (u ∷ us) fs rise before = (of fs rise before.0, apart_edits pages us fs rise before.1)
  where
    all_over : (k l : List ℕ) (gs : List EntryAt) → IsBelow k l → Each (λ (g : EntryAt). IsBelow l (key_at pages g)) gs → Each (λ (p : KeyedPlace). IsBelow k p.0) (keyed pages gs)
    all_over k l [] less high = tt
    all_over k l (g ∷ gs) less high = (below_trans k l (key_at pages g) less high.0, all_over k l gs less high.1)

    of : (fs : List EntryAt) → Rise (key_at pages) fs → ComesBefore pages fs u.0 → Each (λ (p : KeyedPlace). IsBelow u.0 p.0) (keyed pages fs)
    of [] rise before = tt
    of (f ∷ fs) rise before = (before, all_over u.0 (key_at pages f) fs before rise.0)

-- ---- edits of leaves in three parts

keyed-append : (pages : List StorePage) (es fs : List EntryAt) → keyed pages (es ++ fs) ≡ keyed pages es ++ keyed pages fs
keyed-append pages es fs = map-append {B = KeyedPlace} (λ (e : EntryAt). (key_at pages e, e)) es fs

edited_parts : (pages : List StorePage) (front own later : List EntryAt) (us vs : List KeyEdit) → AreKeysApart (keyed pages front) (us ++ vs) → AreKeysApart (keyed pages own) vs
    → AreKeysApart us (keyed pages later)
    → places_edited pages (front ++ (own ++ later)) (us ++ vs) ≡ front ++ (places_edited pages own us ++ places_edited pages later vs)
edited_parts pages front own later us vs first second third =
    ap (λ (l : List KeyedPlace). places_in (edited l (us ++ vs))) (keyed-append pages front (own ++ later))
    ∙ ap places_in (no_edit_first (keyed pages front) (keyed pages (own ++ later)) (us ++ vs) first)
    ∙ places-append (keyed pages front) (edited (keyed pages (own ++ later)) (us ++ vs))
    ∙ ap (λ (l : List EntryAt). l ++ places_in (edited (keyed pages (own ++ later)) (us ++ vs))) (places_keyed pages front)
    ∙ ap (λ (l : List EntryAt). front ++ l)
    (ap (λ (l : List KeyedPlace). places_in (edited l (us ++ vs))) (keyed-append pages own later)
    ∙ ap places_in (edited-append (keyed pages own) (keyed pages later) us vs second third)
    ∙ places-append (edited (keyed pages own) us) (edited (keyed pages later) vs))

-- What is known of the next leaf that has edits, and the entries of the leaves in three parts.
pub record AreCut (pages : List StorePage) (cs : List Child) (es : List EntryAt) (us : List KeyEdit) (kept end count : ℕ) : Type 0 where
  pub front : List EntryAt
  pub own : List EntryAt
  pub later : List EntryAt
  pub parts : es ≡ front ++ (own ++ later)
  pub stay : AreLeaves pages (take kept cs) front
  pub here : AreLeaves pages (take (end - kept) (drop kept cs)) own
  pub behind : AreLeaves pages (drop end cs) later
  pub edited : places_edited pages es us ≡ front ++ (places_edited pages own (take count us) ++ places_edited pages later (drop count us))

first_starts : (pages : List StorePage) (es : List EntryAt) (us : List KeyEdit) → ComesBehind pages es (first_key us) → StartsBehind pages es us
first_starts pages es [] behind = tt
first_starts pages es (u ∷ us) behind = behind

rising_dropped : (n : ℕ) (us : List KeyEdit) → Rising us → Rising (drop n us)
rising_dropped zero us rise = rise
rising_dropped (suc n) [] rise = tt
rising_dropped (suc n) (u ∷ us) rise = rising_dropped n us rise.1

same_rest : (cs : List Child) (n end : ℕ) → end ≤ n → (end < n → length cs ≤ end) → drop n cs ≡ drop end cs
same_rest cs n end most short = ⊎_elim
    (λ less. drop_all n cs (omega (arith, short less, less)) ∙ sym (drop_all end cs (short less)))
    (λ least. ap (λ (k : ℕ). drop k cs) (omega (arith, most, least)))
    (cases_lt end n)

module _ (pages : List StorePage) (cs : List Child) (es : List EntryAt) (us : List KeyEdit) (next : NextLeaf) (end : ℕ) (rise : Rise (key_at pages) es) (rising : Rising us)
    (n : IsNextLeaf pages (leasts_of cs) us next) (least : next.at ≤ end)
    (most : end ≤ next.at + 1) (short : end < next.at + 1 → length cs ≤ end) where
  -- the leaf of the edits, and those behind it
  abbrev rest_of : List Child
  rest_of = take (end - next.at) (drop next.at cs) ++ drop end cs

  rest_is : rest_of ≡ drop next.at cs
  rest_is =
      let k : next.at + (end - next.at) ≡ end = omega (arith, least) in
      ap (λ (l : List Child). take (end - next.at) (drop next.at cs) ++ l) (ap (λ (m : ℕ). drop m cs) (sym k) ∙ sym (drop-drop (end - next.at) next.at cs)) ∙ take-append-drop (end - next.at) (drop next.at cs)

  -- the entries before the leaf come before all edits
  front_apart : (front behind : List EntryAt) → AreLeaves pages (take next.at cs) front → AreLeaves pages rest_of behind → Rise (key_at pages) (front ++ behind) → AreKeysApart (keyed pages front) us
  front_apart front behind are more all = ⊎_elim
      (λ first.
      let z : next.at ≡ 0 = omega (arith, first) in
      let none : front ≡ [] = subst (λ (l : List Child). AreLeaves pages l front) (ap (λ (k : ℕ). take k cs) z) are in
      subst (λ (l : List EntryAt). AreKeysApart (keyed pages l) us) (sym none) tt)
      (λ some.
      let cut : drop next.at (leasts_of cs) ≡ leasts_of rest_of = drop-map (λ (c : Child). c.least) next.at cs ∙ ap (λ (l : List Child). leasts_of l) (sym rest_is) in
      let same : first_of (drop next.at (leasts_of cs)) ≡ first_of behind = ap first_of cut ∙ first_least pages rest_of behind more in
      apart_front pages front behind us all (first_starts pages behind us (behind_as pages (drop next.at (leasts_of cs)) behind (first_key us) same (n.leaf.low some))) rising)
      (cases_lt next.at 1)

  cut_in : (a : AreLeavesOf pages (take next.at cs) rest_of es) → AreLeavesOf pages (take (end - next.at) (drop next.at cs)) (drop end cs) a.behind → AreCut pages cs es us next.at end next.edits
  cut_in a b =
      let parts : es ≡ a.front ++ (b.front ++ b.behind) = a.is ∙ ap (λ (l : List EntryAt). a.front ++ l) b.is in
      let all = subst (Rise (key_at pages)) a.is rise in
      let rest = subst (Rise (key_at pages)) b.is (rise_right (key_at pages) a.front a.behind all) in
      let last = rise_right (key_at pages) b.front b.behind rest in
      let leasts : List EntryAt = drop (next.at + 1) (leasts_of cs) in
      let tail : leasts ≡ leasts_of (drop end cs) = drop-map (λ (c : Child). c.least) (next.at + 1) cs ∙ ap (λ (l : List Child). leasts_of l) (same_rest cs (next.at + 1) end most short) in
      let later : first_of leasts ≡ first_of b.behind = ap first_of tail ∙ first_least pages (drop end cs) b.behind b.second in
      let whole : take next.edits us ++ drop next.edits us ≡ us = take-append-drop next.edits us in
      record {
        front = a.front;
        own = b.front;
        later = b.behind;
        parts = parts;
        stay = a.first;
        here = b.first;
        behind = b.second;
        edited = ap (λ (l : List EntryAt). places_edited pages l us) parts ∙ ap (λ (l : List KeyEdit). places_edited pages (a.front ++ (b.front ++ b.behind)) l) (sym whole)
            ∙ edited_parts pages a.front b.front b.behind (take next.edits us) (drop next.edits us)
            (subst (λ (l : List KeyEdit). AreKeysApart (keyed pages a.front) l) (sym whole) (front_apart a.front a.behind a.first a.second all))
            (apart_front pages b.front b.behind (drop next.edits us) rest (starts_as pages leasts b.behind (drop next.edits us) later n.parted.behind) (rising_dropped next.edits us rising))
            (apart_edits pages (take next.edits us) b.behind last (each_weaker (λ (u : KeyEdit). ComesBefore pages leasts u.0) (λ (u : KeyEdit). ComesBefore pages b.behind u.0) (take next.edits us) (λ u before. before_as pages leasts b.behind u.0 later before) n.parted.before));
      }

  pub cut : AreLeaves pages cs es → AreCut pages cs es us next.at end next.edits
  cut are =
      let whole : cs ≡ take next.at cs ++ rest_of = sym (take-append-drop next.at cs) ∙ ap (λ (l : List Child). take next.at cs ++ l) (sym rest_is) in
      let a = leaves_apart pages (take next.at cs) rest_of es (subst (λ (l : List Child). AreLeaves pages l es) whole are) in
      cut_in a (leaves_apart pages (take (end - next.at) (drop next.at cs)) (drop end cs) a.behind a.second)

-- ---- what is read, and what is made of it

pub least_strings : (pages : List StorePage) (ls : List EntryAt) (cs : List Child) (es : List EntryAt) → ls ≡ leasts_of cs → AreLeaves pages cs es → Each (HasString pages) es → Each (HasString pages) ls
least_strings pages ls cs es is are each = subst (Each (HasString pages)) (sym is) (each_least pages (HasString pages) cs es are each)

pub least_rise : (pages : List StorePage) (ls : List EntryAt) (cs : List Child) (es : List EntryAt) → ls ≡ leasts_of cs → AreLeaves pages cs es → Rise (key_at pages) es → Rise (key_at pages) ls
least_rise pages ls cs es is are rise = subst (Rise (key_at pages)) (sym is) (leasts_rise pages cs es are rise)

pub leaf_found : (pages : List StorePage) (ls : List EntryAt) (cs : List Child) (us : List KeyEdit) (o : Option NextLeaf) (next : NextLeaf) → ls ≡ leasts_of cs → IsNextLeafOr o pages ls us → o ≡ Some next → IsNextLeaf pages (leasts_of cs) us next
leaf_found pages ls cs us o next is found given = subst (λ (l : List EntryAt). IsNextLeaf pages l us next) is (subst (λ (x : Option NextLeaf). IsNextLeafOr x pages ls us) given found)

-- The entries of the next leaf were read, and edited.
pub next_made : (pages : List StorePage) (cs : List Child) (es : List EntryAt) (us : List Edit) (next : NextPlaces) (k : AreCut pages cs es (edits_of us) next.kept next.end next.edits) (own : List EntryAt)
    → own ≡ k.own → Each (HasString pages) es → Rise (key_at pages) es → (Each (HasString pages) own → Rise (key_at pages) own → next.places.items ≡ places_edited pages own (edits_of (take next.edits us))) → AreNextPlaces pages cs es (edits_of us) next
next_made pages cs es us next k own is strings rise made =
    let own_strings = each-left (HasString pages) k.own k.later (each-right (HasString pages) k.front (k.own ++ k.later) (subst (Each (HasString pages)) k.parts strings)) in
    let own_rise = rise_left (key_at pages) k.own k.later (rise_right (key_at pages) k.front (k.own ++ k.later) (subst (Rise (key_at pages)) k.parts rise)) in
    let places : next.places.items ≡ places_edited pages k.own (take next.edits (edits_of us)) =
    made (subst (Each (HasString pages)) (sym is) own_strings) (subst (Rise (key_at pages)) (sym is) own_rise)
    ∙ ap (λ (l : List EntryAt). places_edited pages l (edits_of (take next.edits us))) is ∙ ap (places_edited pages k.own) (sym (take-map {Y = KeyEdit} (λ (u : Edit). (u.key.items, u.place)) next.edits us)) in
    record {
      front = k.front;
      own = k.own;
      later = k.later;
      parts = k.parts;
      stay = k.stay;
      behind = k.behind;
      edited = k.edited ∙ ap (λ (l : List EntryAt). k.front ++ (l ++ places_edited pages k.later (drop next.edits (edits_of us)))) (sym places);
    }

-- ---- what was made so far

pub names-append : (pages : List StorePage) (ls ms : List LeafNow) (es fs : List EntryAt) → NamePlaces pages ls es → NamePlaces pages ms fs → NamePlaces pages (ls ++ ms) (es ++ fs)
names-append pages [] ms es fs first second = subst (λ (l : List EntryAt). NamePlaces pages ms (l ++ fs)) (sym first) second
names-append pages (Kept c ∷ ls) ms es fs (own, later, low, at, least, more, is) second =
    (own, later ++ fs, low, at, least, names-append pages ls ms later fs more second, ap (λ (l : List EntryAt). l ++ fs) is ∙ append_assoc own later fs)
names-append pages (Made v ∷ ls) ms es fs (later, some, most, more, is) second =
    (later ++ fs, some, most, names-append pages ls ms later fs more second, ap (λ (l : List EntryAt). l ++ fs) is ∙ append_assoc v.items later fs)

pub kept_names : (pages : List StorePage) (cs : List Child) (es : List EntryAt) → AreLeaves pages cs es → NamePlaces pages (kept_leaves cs) es
kept_names pages [] es are = are
kept_names pages (c ∷ cs) es (own, later, low, at, first, more, is) = (own, later, low, at, first, kept_names pages cs later more, is)

made_names : (pages : List StorePage) (ls : List LeafNow) (es : List EntryAt) → AreMadeOf ls es → NamePlaces pages ls es
made_names pages [] es are = are
made_names pages (Kept c ∷ ls) es are = absurd are
made_names pages (Made v ∷ ls) es (later, some, most, more, is) = (later, some, most, made_names pages ls later more, is)

-- So far these leaves name the places in front; the rest of the leaves and of the edits make the others.
pub record IsSoFar (pages : List StorePage) (es : List EntryAt) (us : List KeyEdit) (now : List LeafNow) (cs : List Child) (left : List KeyEdit) : Type 0 where
  pub front : List EntryAt
  pub later : List EntryAt
  pub named : NamePlaces pages now front
  pub are : AreLeaves pages cs later
  pub strings : Each (HasString pages) later
  pub rise : Rise (key_at pages) later
  pub rising : Rising left
  pub is : places_edited pages es us ≡ front ++ places_edited pages later left

pub so_far_next : (pages : List StorePage) (es : List EntryAt) (us : List KeyEdit) (now new : List LeafNow) (cs : List Child) (left : List KeyEdit) (next : NextPlaces) (gone gone_new : List ℕ) (s : IsSoFar pages es us now cs left)
    → AreNextPlaces pages cs s.later left next → ArePutNext cs next now new gone gone_new → IsSoFar pages es us new (drop next.end cs) (drop next.edits left)
so_far_next pages es us now new cs left next gone gone_new s p put =
    let strings = each-right (HasString pages) p.own p.later (each-right (HasString pages) p.front (p.own ++ p.later) (subst (Each (HasString pages)) p.parts s.strings)) in
    let rise = rise_right (key_at pages) p.own p.later (rise_right (key_at pages) p.front (p.own ++ p.later) (subst (Rise (key_at pages)) p.parts s.rise)) in
    record {
      front = (s.front ++ p.front) ++ next.places.items;
      later = p.later;
      named = subst (λ (l : List LeafNow). NamePlaces pages l ((s.front ++ p.front) ++ next.places.items)) (sym put.is)
          (names-append pages (now ++ kept_leaves (take next.kept cs)) put.more (s.front ++ p.front) next.places.items
          (names-append pages now (kept_leaves (take next.kept cs)) s.front p.front s.named (kept_names pages (take next.kept cs) p.front p.stay)) (made_names pages put.more next.places.items put.are));
      are = p.behind;
      strings = strings;
      rise = rise;
      rising = rising_dropped next.edits left s.rising;
      is = s.is ∙ ap (λ (l : List EntryAt). s.front ++ l) p.edited ∙ sym (append_assoc s.front p.front (next.places.items ++ places_edited pages p.later (drop next.edits left)))
          ∙ sym (append_assoc (s.front ++ p.front) next.places.items (places_edited pages p.later (drop next.edits left)));
    }

-- Behind the last edit all leaves stay.
pub so_far_all : (pages : List StorePage) (es : List EntryAt) (us : List KeyEdit) (now new : List LeafNow) (cs : List Child) (left : List KeyEdit) → IsSoFar pages es us now cs left
    → length left ≤ 0 → new ≡ now ++ kept_leaves cs → NamePlaces pages new (places_edited pages es us)
so_far_all pages es us now new cs [] s none is =
    subst (NamePlaces pages new) (ap (λ (l : List EntryAt). s.front ++ l) (sym (places_keyed pages s.later)) ∙ sym s.is)
    (subst (λ (l : List LeafNow). NamePlaces pages l (s.front ++ s.later)) (sym is) (names-append pages now (kept_leaves cs) s.front s.later s.named (kept_names pages cs s.later s.are)))
so_far_all pages es us now new cs (u ∷ left) s none is = absurd (omega (arith, none))

-- ---- the pages of leaves

kept-append : (ls ms : List LeafNow) → kept_pages (ls ++ ms) ≡ kept_pages ls ++ kept_pages ms
kept-append [] ms = refl
kept-append (Kept c ∷ ls) ms = ap (λ (l : List ℕ). c.page ∷ l) (kept-append ls ms)
kept-append (Made v ∷ ls) ms = kept-append ls ms

kept_are : (cs : List Child) → kept_pages (kept_leaves cs) ≡ pages_of cs
kept_are [] = refl
kept_are (c ∷ cs) = ap (λ (l : List ℕ). c.page ∷ l) (kept_are cs)

none_stay : (ls : List LeafNow) (es : List EntryAt) → AreMadeOf ls es → kept_pages ls ≡ []
none_stay [] es are = refl
none_stay (Kept c ∷ ls) es are = absurd are
none_stay (Made v ∷ ls) es (later, some, most, more, is) = none_stay ls later more

-- Of the pages of all leaves those that stay and those that don't are known, and the rest is left.
abbrev pub ArePagesSoFar : List Child → List LeafNow → List ℕ → List Child → Type 0
ArePagesSoFar all now gone cs = (i : ℕ) → times i (pages_of all) ≡ (times i (kept_pages now) + times i gone) + times i (pages_of cs)

times_in : (i : ℕ) (cs ds : List Child) → times i (pages_of (cs ++ ds)) ≡ times i (pages_of cs) + times i (pages_of ds)
times_in i cs ds = ap (times i) (map-append (λ (c : Child). c.page) cs ds) ∙ times-append i (pages_of cs) (pages_of ds)

pub pages_next : (all cs : List Child) (next : NextPlaces) (now new : List LeafNow) (gone gone_new : List ℕ) → ArePagesSoFar all now gone cs → next.kept ≤ next.end
    → ArePutNext cs next now new gone gone_new → ArePagesSoFar all new gone_new (drop next.end cs)
pages_next all cs next now new gone gone_new so_far least put = λ i.
    let k : next.kept + (next.end - next.kept) ≡ next.end = omega (arith, least) in
    let stay = take next.kept cs in
    let here = take (next.end - next.kept) (drop next.kept cs) in
    let a = so_far i in
    let b = ap (λ (l : List Child). times i (pages_of l)) (sym (take-append-drop next.kept cs)) ∙ times_in i stay (drop next.kept cs) in
    let d = ap (λ (l : List Child). times i (pages_of l)) (sym (take-append-drop (next.end - next.kept) (drop next.kept cs))) ∙ times_in i here (drop (next.end - next.kept) (drop next.kept cs)) in
    let e = ap (λ (l : List Child). times i (pages_of l)) (drop-drop (next.end - next.kept) next.kept cs ∙ ap (λ (m : ℕ). drop m cs) k) in
    let f = ap (λ (l : List LeafNow). times i (kept_pages l)) put.is ∙ ap (times i) (kept-append (now ++ kept_leaves stay) put.more) ∙ times-append i (kept_pages (now ++ kept_leaves stay)) (kept_pages put.more) in
    let g = ap (times i) (kept-append now (kept_leaves stay)) ∙ times-append i (kept_pages now) (kept_pages (kept_leaves stay)) in
    let h = ap (times i) (kept_are stay) in
    let j = ap (times i) (none_stay put.more next.places.items put.are) in
    let l = ap (times i) put.gone ∙ times-append i gone (pages_of here) in
    omega (arith, a, b, d, e, f, g, h, j, l)

pub pages_all : (all cs : List Child) (now new : List LeafNow) (gone : List ℕ) → ArePagesSoFar all now gone cs → new ≡ now ++ kept_leaves cs → ArePagesOfLeaves all new gone
pages_all all cs now new gone so_far is = λ i.
    let a = so_far i in
    let b = ap (λ (l : List LeafNow). times i (kept_pages l)) is ∙ ap (times i) (kept-append now (kept_leaves cs)) ∙ times-append i (kept_pages now) (kept_pages (kept_leaves cs)) in
    let d = ap (times i) (kept_are cs) in
    omega (arith, a, b, d)

-- ---- how many leaves are made anew, and how many don't stay

made-append : (ls ms : List LeafNow) → made_count (ls ++ ms) ≡ made_count ls + made_count ms
made-append [] ms = omega arith
made-append (Kept c ∷ ls) ms = made-append ls ms
made-append (Made v ∷ ls) ms = let r = made-append ls ms in omega (arith, r)

made_most : (ls : List LeafNow) → made_count ls ≤ length ls
made_most [] = omega arith
made_most (Kept c ∷ ls) = let r = made_most ls in omega (arith, r)
made_most (Made v ∷ ls) = let r = made_most ls in omega (arith, r)

none_made : (cs : List Child) → made_count (kept_leaves cs) ≡ 0
none_made [] = refl
none_made (c ∷ cs) = none_made cs

pub gone_next : (cs : List Child) (next : NextPlaces) (now new : List LeafNow) (gone gone_new : List ℕ) → ArePutNext cs next now new gone gone_new → next.end ≤ length cs → length gone_new ≡ length gone + (next.end - next.kept)
gone_next cs next now new gone gone_new put within =
    let here = take (next.end - next.kept) (drop next.kept cs) in
    let a = ap (λ (l : List ℕ). length l) put.gone ∙ length-append gone (pages_of here) in
    let b = length-map here (λ (c : Child). c.page) in
    let d = length-drop next.kept cs in
    let e = length-take-le (next.end - next.kept) (drop next.kept cs) (omega (arith, d, within)) in
    omega (arith, a, b, e)

pub made_next : (cs : List Child) (next : NextPlaces) (now new : List LeafNow) (gone gone_new : List ℕ) → ArePutNext cs next now new gone gone_new → next.kept ≤ next.end → next.end ≤ length cs → length new ≤ length now + next.end + next.edits
    → made_count new ≤ made_count now + (next.end - next.kept) + next.edits
made_next cs next now new gone gone_new put least within few =
    let stay = take next.kept cs in
    let a = ap made_count put.is ∙ made-append (now ++ kept_leaves stay) put.more in
    let b = made-append now (kept_leaves stay) in
    let d = none_made stay in
    let e = made_most put.more in
    let f = ap (λ (l : List LeafNow). length l) put.is ∙ length-append (now ++ kept_leaves stay) put.more in
    let g = length-append now (kept_leaves stay) in
    let h = length-map {B = LeafNow} stay (λ (c : Child). Kept c) in
    let j = length-take-le next.kept cs (omega (arith, least, within)) in
    omega (arith, a, b, d, e, f, g, h, j, few, least)

pub made_all : (now new : List LeafNow) (cs : List Child) → new ≡ now ++ kept_leaves cs → made_count new ≡ made_count now
made_all now new cs is =
    let a = ap made_count is ∙ made-append now (kept_leaves cs) in
    let b = none_made cs in
    omega (arith, a, b)
