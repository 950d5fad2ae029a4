-- The entries next to a key are those that the map has there.
use Rattle.std.specs.Prelude.{map, filter}
use Rattle.std.specs.Option.{option_map}
use Rattle.std.proofs.Common.{◌≡◌, ◌⊎◌, inl, inr, ⊎_elim, ℕ, Bool, true, false, cond, List, [], ◌∷◌, ◌++◌, Option, Some, None, refl, sym, ap, subst, ◌∙◌}
use Rattle.std.specs.List.{Contains}
use Rattle.std.proofs.lemmas.List.Elements.{Contains-append_cases}
use Rattle.std.proofs.lemmas.Cmp.{nat_list_cmp_total, tied_itself}
use Rattle.std.specs.Ordering.{nat_cmp, is_lt}
use Rattle.std.specs.Cmp.Lexicographic.{slice_cmp}
use Rattle.std.specs.FinMap.{get}
use Rattle.ct_base.specs.laws.Orders.{less_from_test}
use Rattle.ct_keep.specs.Content.{Content, entries_above, first_entry}
use Rattle.ct_keep.specs.laws.Rising.{Entry}
use Rattle.pg_map.specs.Kinds.{Each}
use Rattle.pg_map.specs.Holding.{IsLayout}
use Rattle.pg_directory.specs.declared.entries.EntryAt.{EntryAt}
use Rattle.pg_directory.specs.declared.searching.Neighbours.{Neighbours}
use Rattle.pg_directory.specs.Trees.{StorePage, IsPage, kind_of, key_at, HasString, IsBelow, IsAtMost, Rise, IsDirectory, first_of}
use Rattle.pg_directory.specs.Looking.{last_from, last_of, AreNeighbours}
use Rattle.pg_directory.specs.Listing.{entry_at, entries_at}
use Rattle.pg_directory.specs.laws.Listing.{none_in, in_more, first_in, later_in, each_in, has_entry, somewhere, directory_lists}
use Rattle.pg_directory.proofs.Orders.{each_left, each_right, rise_left}

-- ---- the last of some entries

last_in : (x : EntryAt) (xs : List EntryAt) → Contains (x ∷ xs) (last_from x xs)
last_in x [] = first_in x []
last_in x (y ∷ ys) = later_in x (last_from y ys) (y ∷ ys) (last_in y ys)

pub last_contained : (es : List EntryAt) (e : EntryAt) → last_of es ≡ Some e → Contains es e
last_contained [] e is = absurd (cc is)
last_contained (x ∷ xs) e is = let same : last_from x xs ≡ e = cc is in subst (Contains (x ∷ xs)) same (last_in x xs)

-- The last of entries whose keys rise is this one, or one with a greater key.
pub record IsUpTo (key : EntryAt → List ℕ) (es : List EntryAt) (p : EntryAt) : Type 0 where
  pub last : EntryAt
  pub is : last_of es ≡ Some last
  pub above : (p ≡ last) ⊎ IsBelow (key p) (key last)

pub up_to_last : (key : EntryAt → List ℕ) (es : List EntryAt) (p : EntryAt) → Rise key es → Contains es p → IsUpTo key es p
up_to_last key [] p rise has = absurd (none_in p has)
up_to_last key (x ∷ []) p rise has = ⊎_elim (λ is. record { last = x; is = refl; above = inl (sym is) }) (λ more. absurd (none_in p more)) (in_more x p [] has)
up_to_last key (x ∷ y ∷ ys) p rise has = ⊎_elim
    (λ is. record { last = last_from y ys; is = refl; above = inr (subst (λ (q : EntryAt). IsBelow (key q) (key (last_from y ys))) is (each_in (λ (f : EntryAt). IsBelow (key x) (key f)) (y ∷ ys) (last_from y ys) rise.0 (last_in y ys))) })
    (λ more. let r = up_to_last key (y ∷ ys) p rise.1 more in record { last = r.last; is = r.is; above = r.above })
    (in_more x p (y ∷ ys) has)

not_itself : (k : List ℕ) → IsBelow k k → ⊥
not_itself k below = let tied = tied_itself nat_list_cmp_total k in let wrong = sym below ∙ tied in absurd (cc wrong)

-- ---- over the map

module _ (pages : List StorePage) (m : Content) (are : Each IsPage pages) (layout : IsLayout (map kind_of pages) m) (top : ℕ) (es : List EntryAt) (dir : IsDirectory pages top es) (key : List ℕ) (found : Neighbours) (n : AreNeighbours pages es key found) where
  strings : Each (HasString pages) (n.before ++ n.behind)
  strings = subst (Each (HasString pages)) n.parts dir.strings

  test_above : (e : EntryAt) → HasString pages e → IsBelow key (key_at pages e) → is_lt (slice_cmp nat_cmp key (entry_at pages e).0) ≡ true
  test_above e has above = ap (λ (k : List ℕ). is_lt (slice_cmp nat_cmp key k)) (has_entry pages m are layout e has).key ∙ ap is_lt above

  test_at_most : (e : EntryAt) → HasString pages e → IsAtMost (key_at pages e) key → is_lt (slice_cmp nat_cmp key (entry_at pages e).0) ≡ false
  test_at_most e has most = ap (λ (k : List ℕ). is_lt (slice_cmp nat_cmp key k)) (has_entry pages m are layout e has).key ∙ of (is_lt (slice_cmp nat_cmp key (key_at pages e))) refl
    where
      of : (b : Bool) → is_lt (slice_cmp nat_cmp key (key_at pages e)) ≡ b → is_lt (slice_cmp nat_cmp key (key_at pages e)) ≡ false
      of true is = absurd (most (less_from_test (slice_cmp nat_cmp key (key_at pages e)) is))
      of false is = is

  abbrev Above : Entry → Bool
  Above e = is_lt (slice_cmp nat_cmp key e.0)

  all_kept : (hs : List EntryAt) → Each (HasString pages) hs → Each (λ (e : EntryAt). IsBelow key (key_at pages e)) hs → filter Above (entries_at pages hs) ≡ entries_at pages hs
  all_kept [] has high = refl
  all_kept (e ∷ hs) has high =
      ap (λ (b : Bool). cond b (entry_at pages e ∷ filter Above (entries_at pages hs)) (filter Above (entries_at pages hs))) (test_above e has.0 high.0)
      ∙ ap (λ (l : List Entry). entry_at pages e ∷ l) (all_kept hs has.1 high.1)

  others_gone : (bs hs : List EntryAt) → Each (HasString pages) (bs ++ hs) → Each (λ (e : EntryAt). IsAtMost (key_at pages e) key) bs → Each (λ (e : EntryAt). IsBelow key (key_at pages e)) hs → filter Above (entries_at pages (bs ++ hs)) ≡ entries_at pages hs
  others_gone [] hs has low high = all_kept hs has high
  others_gone (e ∷ bs) hs has low high =
      ap (λ (b : Bool). cond b (entry_at pages e ∷ filter Above (entries_at pages (bs ++ hs))) (filter Above (entries_at pages (bs ++ hs)))) (test_at_most e has.0 low.0)
      ∙ others_gone bs hs has.1 low.1 high

  first_mapped : (hs : List EntryAt) → first_entry (entries_at pages hs) ≡ option_map (entry_at pages) (first_of hs)
  first_mapped [] = refl
  first_mapped (e ∷ hs) = refl

  -- the first entry above the key
  pub next_found : first_entry (entries_above key m) ≡ option_map (entry_at pages) found.after
  next_found =
      ap (λ (l : List Entry). first_entry (filter Above l)) (directory_lists pages m are layout top es dir ∙ ap (entries_at pages) n.parts)
      ∙ ap first_entry (others_gone n.before n.behind strings n.low n.high) ∙ first_mapped n.behind ∙ ap (option_map (entry_at pages)) (sym n.first)

  -- the entry of the key, if the last one at most it has it
  pub key_found : (e : EntryAt) → found.at_most ≡ Some e → key_at pages e ≡ key → HasString pages e → get m key ≡ Some (entry_at pages e).1
  key_found e last is has = ap (get m) (sym is) ∙ (has_entry pages m are layout e has).value

  pub last_string : (e : EntryAt) → found.at_most ≡ Some e → HasString pages e
  last_string e last = each_in (HasString pages) n.before e (each_left (HasString pages) n.before n.behind strings) (last_contained n.before e (sym n.last ∙ last))

  pub next_string : (e : EntryAt) → found.after ≡ Some e → HasString pages e
  next_string e next = of n.behind (sym n.first ∙ next) (each_right (HasString pages) n.before n.behind strings)
    where
      of : (hs : List EntryAt) → first_of hs ≡ Some e → Each (HasString pages) hs → HasString pages e
      of [] is has = absurd (cc is)
      of (h ∷ hs) is has = let same : h ≡ e = cc is in subst (HasString pages) same has.0

  -- else there is none
  pub key_missing : ((e : EntryAt) → found.at_most ≡ Some e → key_at pages e ≡ key → ⊥) → get m key ≡ None
  key_missing none = of (get m key) refl
    where
      of : (o : Option (List ℕ)) → get m key ≡ o → get m key ≡ None
      of None got = got
      of (Some v) got =
          let s = somewhere pages m are layout key v got in
          let has = subst (λ (l : List EntryAt). Contains l s.place) n.parts (dir.all s.place s.has) in
          absurd (⊎_elim
          (λ before.
          let u = up_to_last (key_at pages) n.before s.place (rise_left (key_at pages) n.before n.behind (subst (Rise (key_at pages)) n.parts dir.order)) before in
          let low = each_in (λ (e : EntryAt). IsAtMost (key_at pages e) key) n.before u.last n.low (last_contained n.before u.last u.is) in
          ⊎_elim
          (λ same. none u.last (n.last ∙ u.is) (ap (key_at pages) (sym same) ∙ s.is))
          (λ below. low (subst (λ (k : List ℕ). IsBelow k (key_at pages u.last)) s.is below)) u.above)
          (λ behind. not_itself key (subst (IsBelow key) s.is (each_in (λ (e : EntryAt). IsBelow key (key_at pages e)) n.behind s.place n.high behind)))
          (Contains-append_cases n.before n.behind s.place has))
