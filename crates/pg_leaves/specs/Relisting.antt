-- What becomes of the leaves of a directory over edits.
use Rattle.std.specs.Prelude.{◌≡◌, ◌⊎◌, ℕ, ◌+◌, ◌-◌, ◌*◌, ◌≤◌, List, [], ◌∷◌, ◌++◌, length, map, get_or, take, drop, Some, Result, IfOk, refl}
use Rattle.std.specs.List.{Contains}
use Rattle.std.proofs.Common.{arith}
use Rattle.ct_site.specs.Disks.{DiskView}
use Rattle.pg_map.specs.Holding.{times}
use Rattle.pg_map.specs.Kinds.{Each, Free}
use Rattle.pg_directory.specs.declared.entries.Child.{Child}
use Rattle.pg_directory.specs.declared.entries.EntryAt.{EntryAt}
use Rattle.pg_directory.specs.Leaves.{LeafAt, leaf_child}
use Rattle.pg_directory.specs.Levels.{pages_of, AreLeaves}
use Rattle.pg_directory.specs.Looking.{DiskHolds}
use Rattle.pg_directory.specs.Pages.{Leaf}
use Rattle.pg_directory.specs.Trees.{StorePage, Plain, Directory, page_at, key_at, HasString, Rise, first_of}
use Rattle.pg_leaves.specs.declared.parting.LeafNow.{LeafNow}
use Rattle.pg_leaves.specs.declared.parting.LeafNow.TheVariants.{Kept, Made}
use Rattle.pg_leaves.specs.declared.edits.Edit.{Edit}
use Rattle.pg_leaves.specs.declared.relisting.NextPlaces.{NextPlaces}
use Rattle.pg_leaves.specs.declared.relisting.Relisted.{Relisted}
use Rattle.pg_leaves.specs.Editing.{KeyEdit, Rising, edits_of, places_edited, IsUnedited}

-- What is claimed of an answer over a disk that holds pages, where these are leaves that name places of strings, in order of their keys, and the
-- edits come in order of key, too.
abbrev pub OverLeaves : {T E : Type 0} → DiskView → ℕ → List Child → List Edit → Result T E → (List StorePage → List EntryAt → List KeyEdit → T → Type 0) → Type 0
OverLeaves disk homes cs us result claim =
    (top : ℕ) (pages : List StorePage) (es : List EntryAt) → DiskHolds disk homes top pages → AreLeaves pages cs es → Each (HasString pages) es → Rise (key_at pages) es → Rising (edits_of us)
    → IfOk result (λ x. claim pages es (edits_of us) x)

-- What is claimed of an answer over a disk that holds pages, where these are leaves that name some places.
abbrev pub OverNamed : {T E : Type 0} → DiskView → ℕ → List Child → Result T E → (List EntryAt → T → Type 0) → Type 0
OverNamed disk homes cs result claim = (top : ℕ) (pages : List StorePage) (es : List EntryAt) → DiskHolds disk homes top pages → AreLeaves pages cs es → IfOk result (λ x. claim es x)

-- ---- leaves that stay, and leaves that are made anew

abbrev pub kept_leaves : List Child → List LeafNow
kept_leaves cs = map {B = LeafNow} (λ (c : Child). Kept c) cs

-- the pages of those that stay
abbrev pub kept_pages : List LeafNow → List ℕ
kept_pages [] = []
kept_pages (Kept c ∷ ls) = c.page ∷ kept_pages ls
kept_pages (Made v ∷ ls) = kept_pages ls

-- how many are made anew
abbrev pub one_if_made : LeafNow → ℕ
one_if_made (Kept c) = 0
one_if_made (Made v) = 1

abbrev pub made_count : List LeafNow → ℕ
made_count [] = 0
made_count (Kept c ∷ ls) = made_count ls
made_count (Made v ∷ ls) = 1 + made_count ls

-- The leaves name these places, one after the other: one that stays what its page names, with the first of these; one that is made anew its
-- own, of which there are 1 to 681.
abbrev pub NamePlaces : List StorePage → List LeafNow → List EntryAt → Type 0
NamePlaces pages [] es = es ≡ []
NamePlaces pages (Kept c ∷ ls) es =
    (own : List EntryAt) × (later : List EntryAt) × (3 ≤ c.page) × (page_at pages c.page ≡ Directory (Leaf own)) × (first_of own ≡ Some c.least) × NamePlaces pages ls later × (es ≡ own ++ later)
NamePlaces pages (Made v ∷ ls) es = (later : List EntryAt) × (1 ≤ length v.items) × (length v.items ≤ 681) × NamePlaces pages ls later × (es ≡ v.items ++ later)

-- They are all made anew, and name these places, each 1 to 681 of them.
abbrev pub AreMadeOf : List LeafNow → List EntryAt → Type 0
AreMadeOf [] es = es ≡ []
AreMadeOf (Kept c ∷ ls) es = ⊥
AreMadeOf (Made v ∷ ls) es = (later : List EntryAt) × (1 ≤ length v.items) × (length v.items ≤ 681) × AreMadeOf ls later × (es ≡ v.items ++ later)

-- Leaves made of these places were appended.
pub record AreMadeBehind (old : List LeafNow) (es : List EntryAt) (new : List LeafNow) : Type 0 where
  pub more : List LeafNow
  pub are : AreMadeOf more es
  pub is : new ≡ old ++ more

-- ---- leaves over edits

-- The pages of the leaves are those of leaves that stay, and those that are to be used again or freed.
abbrev pub ArePagesOfLeaves : List Child → List LeafNow → List ℕ → Type 0
ArePagesOfLeaves cs ls gone = (i : ℕ) → times i (pages_of cs) ≡ times i (kept_pages ls) + times i gone

-- The leaves named these places; then they name those after the edits.
pub record IsRelisted (pages : List StorePage) (cs : List Child) (es : List EntryAt) (us : List KeyEdit) (now : Relisted) : Type 0 where
  pub named : NamePlaces pages now.leaves.items (places_edited pages es us)
  pub pages_are : ArePagesOfLeaves cs now.leaves.items now.gone.items

-- ---- leaf by leaf

-- So many leaves stay, at most one is made anew by so many edits, of so many leaves and edits; and it names so many places more at most.
pub record IsNextWithin (leaf_count edit_count : ℕ) (next : NextPlaces) : Type 0 where
  pub kept : next.kept ≤ next.end
  pub one : next.end ≤ next.kept + 1
  pub end : next.end ≤ leaf_count
  pub some : 1 ≤ next.edits
  pub edits : next.edits ≤ edit_count
  pub few : length next.places.items ≤ 681 * (next.end - next.kept) + next.edits

-- The places of the leaves in three parts: those of leaves that stay, those that the edits change, and those that are changed later.
pub record AreNextPlaces (pages : List StorePage) (cs : List Child) (es : List EntryAt) (us : List KeyEdit) (next : NextPlaces) : Type 0 where
  pub front : List EntryAt
  pub own : List EntryAt
  pub later : List EntryAt
  pub parts : es ≡ front ++ (own ++ later)
  pub stay : AreLeaves pages (take next.kept cs) front
  pub behind : AreLeaves pages (drop next.end cs) later
  pub edited : places_edited pages es us ≡ front ++ (next.places.items ++ places_edited pages later (drop next.edits us))

-- What becomes of the next leaves was appended, and the pages of those that don't stay.
pub record ArePutNext (cs : List Child) (next : NextPlaces) (old new : List LeafNow) (gone_old gone_new : List ℕ) : Type 0 where
  pub more : List LeafNow
  pub are : AreMadeOf more next.places.items
  pub is : new ≡ (old ++ kept_leaves (take next.kept cs)) ++ more
  pub gone : gone_new ≡ gone_old ++ pages_of (take (next.end - next.kept) (drop next.kept cs))

-- ---- leaves under numbers

-- what stands a level above for leaves, of which those that are made anew get these numbers in turn
abbrev pub children_now : List LeafNow → List ℕ → List Child
children_now [] ns = []
children_now (Kept c ∷ ls) ns = c ∷ children_now ls ns
children_now (Made v ∷ ls) ns = leaf_child (record { number = get_or ns 0 0; entries = v.items }) ∷ children_now ls (drop 1 ns)

-- those that are to be written
abbrev pub written_now : List LeafNow → List ℕ → List LeafAt
written_now [] ns = []
written_now (Kept c ∷ ls) ns = written_now ls ns
written_now (Made v ∷ ls) ns = record { number = get_or ns 0 0; entries = v.items } ∷ written_now ls (drop 1 ns)

-- ---- the places on the pages of then

-- Each edit that gives a place is of the entry that stands there then. An entry that stands on the pages then is that of an edit, or stood
-- there, with a key that no edit has; and the entries of these places, whose keys no edit has, stand there still.
pub record AreEdited (pages next : List StorePage) (es : List EntryAt) (us : List KeyEdit) : Type 0 where
  pub put : (k : List ℕ) (e : EntryAt) → Contains us (k, Some e) → HasString next e × (key_at next e ≡ k)
  pub from : (e : EntryAt) → HasString next e → Contains us (key_at next e, Some e) ⊎ (HasString pages e × (key_at next e ≡ key_at pages e) × IsUnedited us (key_at pages e))
  pub kept : (e : EntryAt) → Contains es e → IsUnedited us (key_at pages e) → HasString next e × (key_at next e ≡ key_at pages e)

-- These are the places of all strings, in order of their keys.
pub record ListStrings (pages : List StorePage) (es : List EntryAt) : Type 0 where
  pub strings : Each (HasString pages) es
  pub all : (e : EntryAt) → HasString pages e → Contains es e
  pub order : Rise (key_at pages) es

-- ---- computed examples
module _ (c : Child) where
  one_kept : kept_pages (kept_leaves (c ∷ [])) ≡ c.page ∷ []
  one_kept = refl

  its_child : children_now (kept_leaves (c ∷ [])) (7 ∷ []) ≡ c ∷ []
  its_child = refl

  none_written : written_now (kept_leaves (c ∷ [])) (7 ∷ []) ≡ []
  none_written = refl

  -- a leaf on the second page behind the root, which stays, names its entry
  abbrev its_pages : List StorePage
  its_pages = Plain Free ∷ Directory (Leaf (c.least ∷ [])) ∷ []

  it_names : NamePlaces its_pages (kept_leaves (record { page = 4; least = c.least } ∷ [])) (c.least ∷ [])
  it_names = (c.least ∷ [], [], omega arith, refl, refl, refl, refl)
