-- Counts by owner of the entries of a store, gathered one after the other.
use Rattle.std.specs.Prelude.{map, unwrap_or, Vec, Ok}
use Rattle.std.specs.Option.{option_map}
use Rattle.std.specs.declared.alloc.Global.{Global}
use Rattle.std.proofs.Common.{◌≡◌, ℕ, suc, ◌+◌, ◌≤◌, ◌<◌, Bool, true, false, cond, List, [], ◌∷◌, ◌++◌, length, take, take-suc, get_or, Option, Some, None, refl, sym, ap, subst, ◌∙◌, arith}
use Rattle.std.specs.FinMap.{empty, get-empty, entries, find, from_entries, get-entries, get-from_entries, from_entries_push, nat_cmp-IsAntisymmetric, slice_cmp-IsAntisymmetric}
use Rattle.std.specs.Ordering.{nat_cmp, ordering_reverse}
use Rattle.std.specs.declared.cmp.Ordering.{Ordering}
use Rattle.std.specs.declared.cmp.Ordering.TheVariants.{Greater}
use Rattle.std.specs.Cmp.Lexicographic.{slice_cmp}
use Rattle.std.proofs.lemmas.Cmp.{nat_list_cmp_total}
use Rattle.std.proofs.lemmas.List.{map-append, take_all}
use Rattle.ct_base.specs.laws.Moments.{grows_itself}
use Rattle.ct_site.specs.Disks.{DiskView}
use Rattle.ct_keep.specs.Content.{Content}
use Rattle.ct_keep.specs.Counting.{PrefixCounts, prefix_count, key_count, owner_count, AreCounts, CountsMore, owner_prefix}
use Rattle.ct_keep.specs.laws.Content.{same, same_content}
use Rattle.ct_keep.specs.laws.Counting.{counts_added, counts_none}
use Rattle.ct_keep.specs.laws.Rising.{Entry}
use Rattle.pg_map.specs.Holding.{IsLayout}
use Rattle.pg_map.specs.Kinds.{Each}
use Rattle.pg_directory.specs.declared.entries.EntryAt.{EntryAt}
use Rattle.pg_directory.specs.Fetching.{ReadsDisk}
use Rattle.pg_directory.specs.Listing.{entry_at, entries_at}
use Rattle.pg_directory.specs.OpenStore.{ArePlaces}
use Rattle.pg_directory.specs.Pages.{no_entry}
use Rattle.pg_directory.specs.Trees.{StorePage, IsBelow, IsPage, HasString, Rise, key_at, kind_of}
use Rattle.pg_directory.specs.laws.Counting.{all_named}
use Rattle.pg_directory.specs.laws.Listing.{has_entry, places_list}
use Rattle.pg_directory.specs.laws.Pages.{each_at}
use Rattle.pg_heap.proofs.Loadings.{reads_both}

abbrev order : List ℕ → List ℕ → Ordering
order = slice_cmp nat_cmp

-- the content of some entries
abbrev pub content_from : List Entry → Content
content_from es = from_entries es

-- ---- a key above those of other entries is none of theirs

find_above : (k : List ℕ) (es : List Entry) → Each (λ (e : Entry). IsBelow e.0 k) es → find order k es ≡ None
find_above k [] below = refl
find_above k (e ∷ es) below =
    let high : order k e.0 ≡ Greater = nat_list_cmp_total.antisymm k e.0 ∙ ap ordering_reverse below.0 in
    rw high (find_above k es below.1)

-- ---- the entries of the first places

first_below : (key : EntryAt → List ℕ) (es : List EntryAt) (i : ℕ) → Rise key es → i < length es → Each (λ (e : EntryAt). IsBelow (key e) (key (get_or es i no_entry))) (take i es)
first_below key [] i rise less = absurd (omega (arith, less))
first_below key (e ∷ es) Rattle.std.proofs.Common.zero rise less = tt
first_below key (e ∷ es) (suc i) rise less = (each_at (λ (f : EntryAt). IsBelow (key e) (key f)) es i no_entry rise.0 (omega (arith, less)), first_below key es i rise.1 (omega (arith, less)))

keys_below : (pages : List StorePage) (m : Content) (are : Each IsPage pages) (layout : IsLayout (map kind_of pages) m) (k : List ℕ) (es : List EntryAt) → Each (HasString pages) es → Each (λ (e : EntryAt). IsBelow (key_at pages e) k) es
    → Each (λ (e : Entry). IsBelow e.0 k) (entries_at pages es)
keys_below pages m are layout k [] has below = tt
keys_below pages m are layout k (e ∷ es) has below = (subst (λ (l : List ℕ). IsBelow l k) (sym (has_entry pages m are layout e has.0).key) below.0, keys_below pages m are layout k es has.1 below.1)

each_take : (P : EntryAt → Type 0) (i : ℕ) (es : List EntryAt) → Each P es → Each P (take i es)
each_take P Rattle.std.proofs.Common.zero es each = tt
each_take P (suc i) [] each = tt
each_take P (suc i) (e ∷ es) each = (each.0, each_take P i es each.1)

module _ (pages : List StorePage) (m : Content) (are : Each IsPage pages) (layout : IsLayout (map kind_of pages) m) (es : List EntryAt) (there : ArePlaces pages es) where
  -- the counts of one entry more
  pub one_counted : (i : ℕ) (old new : PrefixCounts) (e : Entry) → i < length es → entry_at pages (get_or es i no_entry) ≡ e → AreCounts (content_from (entries_at pages (take i es))) old → CountsMore e.0 old new → AreCounts (content_from (entries_at pages (take (i + 1) es))) new
  one_counted i old new e less is counts more =
      let at = get_or es i no_entry in
      let k = entry_at pages at in
      let has = each_at (HasString pages) es i no_entry there.strings less in
      let below = keys_below pages m are layout k.0 (take i es) (each_take (HasString pages) i es there.strings) (subst (λ (l : List ℕ). Each (λ (f : EntryAt). IsBelow (key_at pages f) l) (take i es)) (sym (has_entry pages m are layout at has).key) (first_below (key_at pages) es i there.order less)) in
      let none = find_above k.0 (entries_at pages (take i es)) below in
      let next : suc i ≡ i + 1 = omega arith in
      let split : entries_at pages (take (i + 1) es) ≡ entries_at pages (take i es) ++ k ∷ [] = ap (λ (n : ℕ). entries_at pages (take n es)) (sym next) ∙ ap (entries_at pages) (take-suc es i no_entry less) ∙ map-append (entry_at pages) (take i es) (at ∷ []) in
      let push = from_entries_push nat_list_cmp_total (slice_cmp-IsAntisymmetric nat_cmp-IsAntisymmetric) (entries_at pages (take i es)) k.0 k.1 none in
      let absent = get-from_entries nat_list_cmp_total (entries_at pages (take i es)) k.0 ∙ none in
      subst (λ (c : Content). AreCounts c new) (sym (ap content_from split ∙ push))
      (counts_added (content_from (entries_at pages (take i es))) old new k.0 k.1 counts absent (subst (λ (f : Entry). CountsMore f.0 old new) (sym is) more))

  -- the counts of all
  pub all_counted : (i : ℕ) (counts : PrefixCounts) → length es ≤ i → AreCounts (content_from (entries_at pages (take i es))) counts → AreCounts m counts
  all_counted i counts all are_counts =
      let list = places_list pages m are layout es there.strings there.order (all_named pages es there.strings there.order there.all) in
      let whole : entries_at pages (take i es) ≡ entries m = ap (entries_at pages) (take_all i es all) ∙ sym list in
      let same : content_from (entries m) ≡ m = same_content (content_from (entries m)) m (λ q. get-from_entries nat_list_cmp_total (entries m) q ∙ sym (get-entries m q)) in
      subst (λ (c : Content). AreCounts c counts) (ap content_from whole ∙ same) are_counts

-- ---- no count is greater than the number of entries that were counted

few_more : (p key : List ℕ) → key_count p key ≤ 1
few_more p key = of (owner_prefix key)
  where
    one : (b : Bool) → cond b 1 0 ≤ 1
    one true = omega arith
    one false = omega arith

    of : (o : Option (List ℕ)) → owner_count p o ≤ 1
    of None = omega arith
    of (Some owner) = one (same p owner)

pub count_few : (i : ℕ) (old new : PrefixCounts) (key p : List ℕ) → ((q : List ℕ) → prefix_count q old ≤ i) → CountsMore key old new → prefix_count p new ≤ i + 1
count_few i old new key p few more = omega (arith, few p, more.each p, few_more p key)

pub none_few : (counts : PrefixCounts) → counts ≡ empty → (p : List ℕ) → prefix_count p counts ≤ 0
none_few counts is p =
    let none = ap (prefix_count p) is ∙ ap (λ (o : Option ℕ). unwrap_or o 0) (get-empty order p) in
    omega (arith, none)

-- ---- the entry that a call read

pub given_entry : (o : Option (Vec ℕ Global × Vec ℕ Global)) (a b : Vec ℕ Global) (e : Entry) → option_map {T = Vec ℕ Global × Vec ℕ Global} {U = Entry} (λ (x : Vec ℕ Global × Vec ℕ Global). (x.0.items, x.1.items)) o ≡ Some e → o ≡ Some (a, b) → e ≡ (a.items, b.items)
given_entry o a b e is given = same_entry e (a.items, b.items) (sym is ∙ ap (option_map {T = Vec ℕ Global × Vec ℕ Global} {U = Entry} (λ (x : Vec ℕ Global × Vec ℕ Global). (x.0.items, x.1.items))) given)
  where
    same_entry : (x y : Entry) → ◌≡◌ {A = Option Entry} (Some x) (Some y) → x ≡ y
    same_entry x y is = cc

-- ---- no call of a disk

pub reads_nothing : (disk : DiskView) → ReadsDisk {T = Unit {0}} disk disk (Ok tt)
reads_nothing disk = record { beside = refl; untold = λ none. none; kept = grows_itself disk.time; later = omega arith; faults = refl }

-- ---- a read more

pub reads_more : {T : Type 0} (old mid new : DiskView) (x : T) → ReadsDisk {T = Unit {0}} old mid (Ok tt) → ReadsDisk mid new (Ok x) → ReadsDisk {T = Unit {0}} old new (Ok tt)
reads_more old mid new x first second =
    let both = reads_both old mid new tt (Ok x) first second in
    record { beside = both.beside; untold = both.untold; kept = both.kept; later = both.later; faults = both.faults }

-- ---- before the first

pub none_counted : AreCounts (content_from []) empty
none_counted = subst (λ (m : Content). AreCounts m empty) (same_content empty (content_from []) (λ q. get-empty order q ∙ sym (get-from_entries nat_list_cmp_total [] q))) counts_none
