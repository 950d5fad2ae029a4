-- A directory, read level by level from its top.
use Rattle.std.proofs.Common.{◌≡◌, ℕ, zero, suc, ◌+◌, ◌-◌, ◌≤◌, ◌<◌, List, [], ◌∷◌, ◌++◌, length, length-append, Option, Some, None, refl, sym, ap, subst, ◌∙◌, append_assoc, append-nil, arith}
use Rattle.std.specs.Prelude.{Vec}
use Rattle.std.proofs.lemmas.List.{length-map}
use Rattle.std.specs.Option.{option_map}
use Rattle.std.specs.declared.alloc.Global.{Global}
use Rattle.pg_journal.specs.Pages.{Numbered}
use Rattle.pg_map.specs.Kinds.{Each}
use Rattle.pg_directory.specs.declared.entries.EntryAt.{EntryAt}
use Rattle.pg_directory.specs.declared.entries.Child.{Child}
use Rattle.pg_directory.specs.Pages.{DirectoryPage, Leaf, Inner, directory_bytes, IsDirectoryPage, named, level_of}
use Rattle.pg_directory.specs.Trees.{StorePage, Plain, Directory, bytes_of_page, IsPage, page_at, first_of}
use Rattle.pg_directory.specs.Keeping.{IsKeptPage}
use Rattle.pg_directory.specs.Levels.{pages_of, AreLeaves, IsLevel, LeadsTo}
use Rattle.pg_directory.specs.ReadLevels.{IsLevelOr, IsTopOf, LedOr, LevelsOr}
use Rattle.pg_directory.proofs.LevelReads.{first_at}
use Rattle.pg_directory.proofs.Steps.{page_missing}
use Rattle.pg_directory.proofs.Strings.{directory_there, directory_good}

abbrev top_of : ℕ → EntryAt → List Child
top_of top least = record { page = top; least = least } ∷ []

-- ---- the page at the top

-- There is a page of a directory, so far above the leaves, whose first entry is this one.
pub record IsTopPage (pages : List StorePage) (top level : ℕ) (least : EntryAt) : Type 0 where
  pub low : 3 ≤ top
  pub directory : DirectoryPage
  pub at : page_at pages top ≡ Directory directory
  pub level_is : level_of directory ≡ level
  pub first : first_of (named directory) ≡ Some least

pub top_is : (pages : List StorePage) (top level : ℕ) (least : EntryAt) (inner : List ℕ) (leaves : List Child) (es : List EntryAt) → LeadsTo pages level (top_of top least) inner leaves → AreLeaves pages leaves es → IsTopPage pages top level least
top_is pages top zero least inner leaves es (none, same) are = of (subst (λ (l : List Child). AreLeaves pages l es) same are)
  where
    of : AreLeaves pages (top_of top least) es → IsTopPage pages top 0 least
    of (own, later, low, at, first, more, is) = record { low = low; directory = Leaf own; at = at; level_is = refl; first = first }
top_is pages top (suc level) least inner leaves es (ds, below, is_level, leads, numbers) are = of is_level
  where
    of : IsLevel pages (suc level) (top_of top least) ds → IsTopPage pages top (suc level) least
    of (own, later, low, at, first, more, is) = record { low = low; directory = Inner (suc level) own; at = at; level_is = refl; first = first }

pub top_missing : (pages : List StorePage) (top limit : ℕ) (o : Option ℕ) (cache : List Numbered) → (3 ≤ top → top < 3 + length pages → IsKeptPage o cache (bytes_of_page (page_at pages top))) → o ≡ None → LevelsOr None pages top limit
top_missing pages top limit o cache there none level least inner leaves es leads are a b =
    let t = top_is pages top level least inner leaves es leads are in
    page_missing o cache _ (there t.low (directory_there pages top t.directory t.low t.at)) none

-- ---- level by level

-- So many levels were read: these are the pages above those that are next, and what these lead to is what the first ones lead to.
pub record HasRead (pages : List StorePage) (first : ℕ) (tops : List Child) (level : ℕ) (here : List Child) (numbers : List ℕ) : Type 0 where
  pub onward : (inner : List ℕ) (leaves : List Child) → LeadsTo pages level here inner leaves → LeadsTo pages first tops (numbers ++ inner) leaves
  pub back : (inner : List ℕ) (leaves : List Child) → LeadsTo pages first tops inner leaves → (rest : List ℕ) × (inner ≡ numbers ++ rest) × LeadsTo pages level here rest leaves

pub none_read : (pages : List StorePage) (level : ℕ) (tops : List Child) (numbers : List ℕ) → numbers ≡ [] → HasRead pages level tops level tops numbers
none_read pages level tops numbers none =
    subst (HasRead pages level tops level tops) (sym none) (record { onward = λ inner leaves leads. leads; back = λ inner leaves leads. (inner, refl, leads) })

-- the pages that one level names are no others
pub one_level : (pages : List StorePage) (level : ℕ) (cs ds es : List Child) → IsLevel pages level cs ds → IsLevel pages level cs es → ds ≡ es
one_level pages level [] ds es a b = a ∙ sym b
one_level pages level (c ∷ cs) ds es (own, later, low, at, first, more, is) (own2, later2, low2, at2, first2, more2, is2) =
    is ∙ ap (λ (l : List Child). l ++ later) (ap items (sym at ∙ at2)) ∙ ap (λ (l : List Child). own2 ++ l) (one_level pages level cs later later2 more more2) ∙ sym is2
  where
    items : StorePage → List Child
    items (Plain k) = []
    items (Directory (Leaf xs)) = []
    items (Directory (Inner l xs)) = xs

module _ (pages : List StorePage) (first : ℕ) (tops : List Child) (level : ℕ) (here : List Child) (numbers : List ℕ) (r : HasRead pages first tops (suc level) here numbers) where
  one_read : (below : List Child) (now : List ℕ) → now ≡ numbers ++ pages_of here → IsLevel pages (suc level) here below → HasRead pages first tops level below now
  one_read below now is is_level = record {
    onward = λ inner leaves leads.
        subst (λ (l : List ℕ). LeadsTo pages first tops l leaves) (sym (append_assoc numbers (pages_of here) inner) ∙ ap (λ (l : List ℕ). l ++ inner) (sym is))
        (r.onward (pages_of here ++ inner) leaves (below, inner, is_level, leads, refl));
    back = λ inner leaves leads. of inner leaves (r.back inner leaves leads);
  }
    where
      of : (inner : List ℕ) (leaves : List Child) → (rest : List ℕ) × (inner ≡ numbers ++ rest) × LeadsTo pages (suc level) here rest leaves → (rest : List ℕ) × (inner ≡ now ++ rest) × LeadsTo pages level below rest leaves
      of inner leaves (rest, parts, (ds, under, other, leads, numbers_are)) = (
        under,
        parts ∙ ap (λ (l : List ℕ). numbers ++ l) numbers_are ∙ sym (append_assoc numbers (pages_of here) under) ∙ ap (λ (l : List ℕ). l ++ under) (sym is),
        subst (λ (l : List Child). LeadsTo pages level l under leaves) (one_level pages (suc level) here ds below other is_level) leads,
      )

-- one level further down
pub next_read : (pages : List StorePage) (first : ℕ) (tops : List Child) (level next : ℕ) (here below : List Child) (numbers now : List ℕ) → 0 < level → next ≡ level - 1 → now ≡ numbers ++ pages_of here
    → HasRead pages first tops level here numbers → IsLevel pages level here below → HasRead pages first tops next below now
next_read pages first tops zero next here below numbers now some less is r is_level = absurd (omega (arith, some))
next_read pages first tops (suc level) next here below numbers now some less is r is_level =
    let e : level ≡ next = omega (arith, less) in
    subst (λ (n : ℕ). HasRead pages first tops n below now) e (one_read pages first tops level here numbers r below now is is_level)

-- a level is among all pages
level_few : (pages : List StorePage) (level : ℕ) (cs : List Child) (inner : List ℕ) (leaves : List Child) (limit : ℕ) → LeadsTo pages level cs inner leaves → length inner ≤ limit → length leaves ≤ limit → length cs ≤ limit
level_few pages zero cs inner leaves limit (none, same) a b = let e = ap (λ (l : List Child). length l) same in omega (arith, e, b)
level_few pages (suc level) cs inner leaves limit (ds, below, is_level, leads, numbers) a b =
    let e = ap (λ (l : List ℕ). length l) numbers in
    let f = length-append (pages_of cs) below in
    let g = length-map cs (λ (c : Child). c.page) in
    omega (arith, a, e, f, g)

pub no_level : (pages : List StorePage) (first : ℕ) (tops : List Child) (level : ℕ) (here : List Child) (numbers : List ℕ) (limit : ℕ) → HasRead pages first tops level here numbers → 0 < level → IsLevelOr None pages level here limit → LedOr None pages first tops limit
no_level pages first tops zero here numbers limit r some no_ inner leaves leads a b = absurd (omega (arith, some))
no_level pages first tops (suc level) here numbers limit r some no_ inner leaves leads a b = of (r.back inner leaves leads)
  where
    of : (rest : List ℕ) × (inner ≡ numbers ++ rest) × LeadsTo pages (suc level) here rest leaves → ⊥
    of (rest, parts, (ds, under, is_level, more, numbers_are)) =
        let e = ap (λ (x : List ℕ). length x) parts ∙ length-append numbers rest in
        let f = ap (λ (x : List ℕ). length x) numbers_are ∙ length-append (pages_of here) under in
        no_ ds is_level (level_few pages level ds under leaves limit more (omega (arith, a, e, f)) b)

pub too_many_above : (pages : List StorePage) (first : ℕ) (tops : List Child) (level : ℕ) (here : List Child) (numbers now : List ℕ) (limit : ℕ) → HasRead pages first tops level here numbers → 0 < level → now ≡ numbers ++ pages_of here → limit < length now → LedOr None pages first tops limit
too_many_above pages first tops zero here numbers now limit r some is many inner leaves leads a b = absurd (omega (arith, some))
too_many_above pages first tops (suc level) here numbers now limit r some is many inner leaves leads a b = of (r.back inner leaves leads)
  where
    of : (rest : List ℕ) × (inner ≡ numbers ++ rest) × LeadsTo pages (suc level) here rest leaves → ⊥
    of (rest, parts, (ds, under, is_level, more, numbers_are)) =
        let e = ap (λ (x : List ℕ). length x) parts ∙ length-append numbers rest in
        let f = ap (λ (x : List ℕ). length x) numbers_are ∙ length-append (pages_of here) under in
        let g = ap (λ (x : List ℕ). length x) is ∙ length-append numbers (pages_of here) in
        omega (arith, a, e, f, g, many)

pub to_leaves : (pages : List StorePage) (first : ℕ) (tops : List Child) (level : ℕ) (here : List Child) (numbers : List ℕ) (limit : ℕ) → HasRead pages first tops level here numbers → level ≤ 0 → LedOr (Some (numbers, here)) pages first tops limit
to_leaves pages first tops zero here numbers limit r none = subst (λ (l : List ℕ). LeadsTo pages first tops l here) (append-nil numbers) (r.onward [] here (refl, refl))
to_leaves pages first tops (suc level) here numbers limit r none = absurd (omega (arith, none))

-- ---- from the page at the top

module _ (pages : List StorePage) (are : Each IsPage pages) (top : ℕ) (page : List ℕ) (tops : List Child) (level limit : ℕ) (top_is_ : IsTopOf tops top page) (page_is : page ≡ bytes_of_page (page_at pages top)) (level_is : (d : DirectoryPage) → IsDirectoryPage d → page ≡ directory_bytes d → level ≡ level_of d) where
  pub top_led : (found : Option (List ℕ × List Child)) → LedOr found pages level tops limit → LevelsOr found pages top limit
  top_led (Some found) leads = (
    level,
    top_is_.0,
    subst (λ (cs : List Child). LeadsTo pages level cs found.0 found.1) top_is_.1 leads,
    λ d at. let good = directory_good pages top d are at in let is = page_is ∙ ap bytes_of_page at in (level_is d good is, top_is_.2 d good is),
  )
  top_led None no_ = λ l least inner leaves es leads are_leaves a b.
      let t = top_is pages top l least inner leaves es leads are_leaves in
      let good = directory_good pages top t.directory are t.at in
      let is = page_is ∙ ap bytes_of_page t.at in
      let level_same : l ≡ level = sym (level_is t.directory good is ∙ t.level_is) in
      let least_same : top_is_.0 ≡ least = top_is_.2 t.directory good is ∙ first_at (named t.directory) least t.first in
      let tops_same : top_of top least ≡ tops = ap (top_of top) (sym least_same) ∙ sym top_is_.1 in
      no_ inner leaves (subst (λ (cs : List Child). LeadsTo pages level cs inner leaves) tops_same (subst (λ (n : ℕ). LeadsTo pages n (top_of top least) inner leaves) level_same leads)) a b

-- ---- what a call found of one level

pub level_none : (found : Option (Vec Child Global)) (pages : List StorePage) (level : ℕ) (given here : List Child) (limit : ℕ) → IsLevelOr (option_map (λ (v : Vec Child Global). v.items) found) pages level given limit → found ≡ None → given ≡ here → IsLevelOr None pages level here limit
level_none found pages level given here limit is none same =
    subst (λ (l : List Child). IsLevelOr None pages level l limit) same (subst (λ (o : Option (Vec Child Global)). IsLevelOr (option_map (λ (v : Vec Child Global). v.items) o) pages level given limit) none is)

pub level_some : (found : Option (Vec Child Global)) (below : Vec Child Global) (pages : List StorePage) (level : ℕ) (given here : List Child) (limit : ℕ) → IsLevelOr (option_map (λ (v : Vec Child Global). v.items) found) pages level given limit → found ≡ Some below → given ≡ here
    → IsLevel pages level here below.items
level_some found below pages level given here limit is some same =
    subst (λ (l : List Child). IsLevel pages level l below.items) same (subst (λ (o : Option (Vec Child Global)). IsLevelOr (option_map (λ (v : Vec Child Global). v.items) o) pages level given limit) some is)
