-- The edits of a directory that a batch asks for, by the pages that it leaves.
use Rattle.std.specs.Prelude.{◌≡◌, ◌⊎◌, ◌≤◌, ◌<◌, ℕ, ◌-◌, List, [], ◌∷◌, length, get_or, Option, Some, None, unwrap_or, codes, refl}
use Rattle.std.specs.List.{Contains}
use Rattle.std.proofs.Common.{inl, inr, ⊎_elim, sym, ap, subst, ◌∙◌, arith}
use Rattle.ct_keep.specs.Content.{Change}
use Rattle.pg_map.specs.Kinds.{Kind, Free, Slotted, strings_of}
use Rattle.pg_map.specs.PageStrings.{string_key}
use Rattle.pg_directory.specs.declared.entries.EntryAt.{EntryAt}
use Rattle.pg_directory.specs.Trees.{StorePage, Plain, strings_at, key_at, HasString}
use Rattle.pg_directory.specs.laws.Listing.{none_in, in_more, first_in, later_in}
use Rattle.pg_leaves.specs.Editing.{KeyEdit, Rising, IsUnedited}

-- ---- entries by their places, on pages in memory

-- the strings of the page of a number
abbrev pub strings_on : List Kind → ℕ → List (List ℕ)
strings_on kinds n = strings_of (get_or kinds (n - 3) Free ∷ [])

-- There is a string at the place.
pub record HasStringOn (kinds : List Kind) (e : EntryAt) : Type 0 where
  pub low : 3 ≤ e.page
  pub less : e.slot < length (strings_on kinds e.page)

-- the key of the string at a place
abbrev pub key_on : List Kind → EntryAt → List ℕ
key_on kinds e = string_key (get_or (strings_on kinds e.page) e.slot [])

-- ---- edits

-- The edits, in order of key, of changes that touched the pages of these numbers, where `pages` are those before and `now` are the pages then.
-- Each string of these pages has an edit that says where it stands, or its key stood at just this place before; no other place is given; a
-- key whose entry was taken away has an edit.
pub record AreEditsOf (pages : List StorePage) (now : List Kind) (numbers : List ℕ) (ws : List Change) (us : List KeyEdit) : Type 0 where
  pub rise : Rising us
  pub put : (k : List ℕ) (e : EntryAt) → Contains us (k, Some e) → Contains numbers e.page × HasStringOn now e × (key_on now e ≡ k)
  pub all : (e : EntryAt) → Contains numbers e.page → HasStringOn now e → Contains us (key_on now e, Some e) ⊎ (HasString pages e × (key_at pages e ≡ key_on now e))
  pub none : (k : List ℕ) → Contains us (k, None) → Contains ws (k, None)
  pub gone : (k : List ℕ) → Contains ws (k, None) → IsUnedited us k → ⊥

-- ---- the pages of a store after a batch

-- The pages of these numbers have the strings that they have in memory, all others those that they had. So it is also where a page in memory
-- stands for one of the directory, which has no string.
pub record AreStringsNow (pages next : List StorePage) (now : List Kind) (numbers : List ℕ) : Type 0 where
  pub stay : (i : ℕ) → 3 ≤ i → (Contains numbers i → ⊥) → strings_at next i ≡ strings_at pages i
  pub are : (i : ℕ) → Contains numbers i → strings_at next i ≡ strings_on now i

-- ---- computed examples: the second string of page 4
abbrev two_pages : List Kind
two_pages = Free ∷ Slotted ((0 ∷ 0 ∷ 1 ∷ codes "kv") ∷ (0 ∷ 0 ∷ 2 ∷ codes "abw") ∷ []) ∷ []

has_second : HasStringOn two_pages (record { page = 4; slot = 1 })
has_second = record { low = omega arith; less = omega arith }

key_of_second : key_on two_pages (record { page = 4; slot = 1 }) ≡ codes "ab"
key_of_second = refl

none_on_free : strings_on two_pages 3 ≡ []
none_on_free = refl

-- ---- computed example: of one page, on which "k" stands, and a change that took "a" away
abbrev one_page : List Kind
one_page = Slotted ((0 ∷ 0 ∷ 1 ∷ codes "kv") ∷ []) ∷ []

abbrev its_place : EntryAt
its_place = record { page = 3; slot = 0 }

abbrev two_edits : List KeyEdit
two_edits = (codes "a", None) ∷ (codes "k", Some its_place) ∷ []

abbrev one_gone : List Change
one_gone = (codes "a", None) ∷ []

one_or_other : (u : KeyEdit) → Contains two_edits u → ◌≡◌ {A = KeyEdit} (codes "a", None) u ⊎ ◌≡◌ {A = KeyEdit} (codes "k", Some its_place) u
one_or_other u has = ⊎_elim
    (λ one. inl one)
    (λ more. ⊎_elim (λ other. inr other) (λ none. absurd (none_in u none)) (in_more (codes "k", Some its_place) u [] more))
    (in_more (codes "a", None) u ((codes "k", Some its_place) ∷ []) has)

the_only_place : (e : EntryAt) → 3 ≡ e.page → HasStringOn one_page e → its_place ≡ e
the_only_place e page has =
    let less : e.slot < 1 = subst (λ (n : ℕ). e.slot < length (strings_on one_page n)) (sym page) has.less in
    let slot : 0 ≡ e.slot = omega (arith, less) in
    ap {B = EntryAt} (λ (n : ℕ). record { page = n; slot = 0 }) page ∙ ap {B = EntryAt} (λ (n : ℕ). record { page = e.page; slot = n }) slot

of_one_page : AreEditsOf [] one_page (3 ∷ []) one_gone two_edits
of_one_page = record { rise = ((refl, tt), (tt, tt)); put = put; all = all; none = none; gone = gone }
  where
    put : (k : List ℕ) (e : EntryAt) → Contains two_edits (k, Some e) → Contains (3 ∷ []) e.page × HasStringOn one_page e × (key_on one_page e ≡ k)
    put k e has = ⊎_elim
        (λ one. let wrong : ◌≡◌ {A = Option EntryAt} None (Some e) = ap (λ (u : KeyEdit). u.1) one in absurd (cc wrong))
        (λ other.
        let same : its_place ≡ e = ap (λ (u : KeyEdit). unwrap_or u.1 its_place) other in
        subst (λ (x : EntryAt). Contains (3 ∷ []) x.page × HasStringOn one_page x × (key_on one_page x ≡ k)) same
        (first_in 3 [], record { low = omega arith; less = omega arith }, ap (λ (u : KeyEdit). u.0) other))
        (one_or_other (k, Some e) has)

    all : (e : EntryAt) → Contains (3 ∷ []) e.page → HasStringOn one_page e → Contains two_edits (key_on one_page e, Some e) ⊎ (HasString [] e × (key_at [] e ≡ key_on one_page e))
    all e there has = ⊎_elim
        (λ page.
        let same = the_only_place e page has in
        inl (subst (λ (x : EntryAt). Contains two_edits (key_on one_page x, Some x)) same
        (later_in (codes "a", None) (codes "k", Some its_place) ((codes "k", Some its_place) ∷ []) (first_in (codes "k", Some its_place) []))))
        (λ none. absurd (none_in e.page none))
        (in_more 3 e.page [] there)

    none : (k : List ℕ) → Contains two_edits (k, None) → Contains one_gone (k, None)
    none k has = ⊎_elim
        (λ one. subst (λ (x : List ℕ). Contains one_gone (x, None)) (ap (λ (u : KeyEdit). u.0) one) (first_in (codes "a", None) []))
        (λ other. let wrong : ◌≡◌ {A = Option EntryAt} (Some its_place) None = ap (λ (u : KeyEdit). u.1) other in absurd (cc wrong))
        (one_or_other (k, None) has)

    gone : (k : List ℕ) → Contains one_gone (k, None) → IsUnedited two_edits k → ⊥
    gone k has free = ⊎_elim
        (λ one. free (codes "a", None) (first_in (codes "a", None) ((codes "k", Some its_place) ∷ [])) (ap (λ (w : Change). w.0) one))
        (λ other. none_in (k, None) other)
        (in_more (codes "a", None) (k, None) [] has)

-- ---- computed example: "k" stood there already, and needs no edit
abbrev same_page : List StorePage
same_page = Plain (Slotted ((0 ∷ 0 ∷ 1 ∷ codes "kw") ∷ [])) ∷ []

nothing_moved : AreEditsOf same_page one_page (3 ∷ []) [] []
nothing_moved = record {
  rise = tt;
  put = λ k e has. absurd (none_in (k, Some e) has);
  all = λ e there has. ⊎_elim
      (λ page. inr (subst (λ (x : EntryAt). HasString same_page x × (key_at same_page x ≡ key_on one_page x)) (the_only_place e page has) (record { low = omega arith; less = omega arith }, refl)))
      (λ none. absurd (none_in e.page none))
      (in_more 3 e.page [] there);
  none = λ k has. absurd (none_in (k, None) has);
  gone = λ k has free. none_in (k, None) has;
}
