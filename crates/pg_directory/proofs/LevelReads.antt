-- A level of a directory, read page by page.
use Rattle.std.proofs.Common.{◌≡◌, ℕ, suc, ◌+◌, ◌≤◌, ◌<◌, Bool, true, false, List, [], ◌∷◌, ◌++◌, length, length-append, drop, drop-cons, get_or, Option, Some, None, refl, sym, ap, subst, ◌∙◌, append_assoc, append-nil, arith}
use Rattle.std.specs.Prelude.{IfSome}
use Rattle.std.proofs.lemmas.List.{length-map, drop_all}
use Rattle.pg_journal.specs.Pages.{Numbered}
use Rattle.pg_map.specs.Kinds.{Each}
use Rattle.pg_directory.specs.declared.entries.EntryAt.{EntryAt}
use Rattle.pg_directory.specs.declared.entries.Child.{Child}
use Rattle.pg_directory.specs.Pages.{DirectoryPage, Leaf, Inner, directory_bytes, IsDirectoryPage, named, level_of, no_entry, no_child}
use Rattle.pg_directory.specs.Trees.{StorePage, Directory, bytes_of_page, IsPage, page_at, first_of}
use Rattle.pg_directory.specs.Telling.{child_in, children_in, IsTold}
use Rattle.pg_directory.specs.Keeping.{IsKeptPage}
use Rattle.pg_directory.specs.Levels.{leasts_of, IsLevel}
use Rattle.pg_directory.specs.ReadLevels.{FirstIs, TakesItems, IsChildOf, TakesChild, IsLevelOr}
use Rattle.pg_directory.specs.laws.Holding.{one_store_page}
use Rattle.pg_directory.proofs.Steps.{page_missing, some_named}
use Rattle.pg_directory.proofs.Strings.{directory_there, directory_good, page_good}

-- ---- one page

pub first_is : (es : List EntryAt) (e : EntryAt) → 1 ≤ length es → get_or es 0 no_entry ≡ e → first_of es ≡ Some e
first_is [] e some is = absurd (omega (arith, some))
first_is (x ∷ es) e some is = ap Some is

pub first_at : (es : List EntryAt) (e : EntryAt) → first_of es ≡ Some e → get_or es 0 no_entry ≡ e
first_at [] e is = absurd (cc is)
first_at (x ∷ es) e is = cc

-- what is known where a page was given
pub given_behind : (o : Option ℕ) (at : ℕ) (P : ℕ → Type 0) → IfSome o P → o ≡ Some at → P at
given_behind o at P known is = subst (λ (x : Option ℕ). IfSome x P) is known

-- no page of this level
pub no_items : (page : List ℕ) (level count : ℕ) → ((d : DirectoryPage) → IsDirectoryPage d → page ≡ directory_bytes d → count ≡ length (named d)) → count ≡ 0 → (cs : List Child) → IsDirectoryPage (Inner level cs) → page ≡ directory_bytes (Inner level cs) → ⊥
no_items page level count counts none cs good is = let e = counts (Inner level cs) good is in let some = some_named (Inner level cs) good in omega (arith, e, some, none)

pub other_level : (page : List ℕ) (level own : ℕ) → ((d : DirectoryPage) → IsDirectoryPage d → page ≡ directory_bytes d → own ≡ level_of d) → (own ≡ level → ⊥) → (cs : List Child) → IsDirectoryPage (Inner level cs) → page ≡ directory_bytes (Inner level cs) → ⊥
other_level page level own tells other cs good is = other (tells (Inner level cs) good is)

pub not_inner : (page : List ℕ) (level count : ℕ) → ((d : DirectoryPage) → IsDirectoryPage d → page ≡ directory_bytes d → count ≡ length (named d))
    → ((cs : List Child) → IsDirectoryPage (Inner level cs) → page ≡ directory_bytes (Inner level cs) → length cs ≡ count → ⊥)
    → (cs : List Child) → IsDirectoryPage (Inner level cs) → page ≡ directory_bytes (Inner level cs) → ⊥
not_inner page level count counts no_ cs good is = no_ cs good is (let e = counts (Inner level cs) good is in let l = length-map cs (λ (c : Child). c.least) in omega (arith, e, l))

-- one item more
pub one_item : (page : List ℕ) (old new : List Child) (i : ℕ) (now : List Child) (c : Child) → now ≡ old ++ children_in page i → c ≡ child_in page i → new ≡ now ++ c ∷ [] → new ≡ old ++ children_in page (i + 1)
one_item page old new i now c is item pushed =
    let e : i + 1 ≡ suc i = omega arith in
    pushed ∙ ap (λ (l : List Child). l ++ c ∷ []) is ∙ ap (λ (x : Child). (old ++ children_in page i) ++ x ∷ []) item ∙ append_assoc old (children_in page i) (child_in page i ∷ []) ∙ ap (λ (n : ℕ). old ++ children_in page n) (sym e)

pub all_items : (page : List ℕ) (level count i : ℕ) (old new : List Child) → IsTold page (Inner level (children_in page count)) → i ≡ count → new ≡ old ++ children_in page i → TakesItems true page level old new
all_items page level count i old new told all is = (children_in page count, told, is ∙ ap (λ (n : ℕ). old ++ children_in page n) all)

pub few_items : (page : List ℕ) (level count : ℕ) → IsTold page (Inner level (children_in page count)) → length (children_in page count) ≡ count → count ≤ 408
few_items page level count told long = let most = told.good.1 in omega (arith, most, long)

-- ---- the page of a child

module _ (pages : List StorePage) (level : ℕ) (c : Child) (are : Each IsPage pages) where
  the_page : (cs : List Child) (page : List ℕ) → page ≡ bytes_of_page (page_at pages c.page) → IsTold page (Inner level cs) → page_at pages c.page ≡ Directory (Inner level cs)
  the_page cs page is told = one_store_page (page_at pages c.page) (Directory (Inner level cs)) (page_good pages c.page are) told.good (sym is ∙ told.is)

  pub child_missing : (o : Option ℕ) (cache : List Numbered) → (3 ≤ c.page → c.page < 3 + length pages → IsKeptPage o cache (bytes_of_page (page_at pages c.page))) → o ≡ None → (own : List Child) → IsChildOf pages level c own → ⊥
  child_missing o cache page none own is = page_missing o cache _ (page is.0 (directory_there pages c.page (Inner level own) is.0 is.1)) none

  pub child_other : (page : List ℕ) (old new : List Child) → page ≡ bytes_of_page (page_at pages c.page) → TakesItems false page level old new → (own : List Child) → IsChildOf pages level c own → ⊥
  child_other page old new is no_ own child = no_ own (directory_good pages c.page (Inner level own) are child.1) (is ∙ ap bytes_of_page child.1)

  pub child_taken : (page : List ℕ) (old new : List Child) (r : Bool) → 3 ≤ c.page → page ≡ bytes_of_page (page_at pages c.page) → TakesItems true page level old new
      → ((d : DirectoryPage) → IsDirectoryPage d → page ≡ directory_bytes d → FirstIs r (named d) c.least) → TakesChild r pages level c old new
  child_taken page old new r low is (cs, told, appended) first = of r (first (Inner level cs) told.good told.is)
    where
      of : (r : Bool) → FirstIs r (leasts_of cs) c.least → TakesChild r pages level c old new
      of true yes_ = (cs, (low, the_page cs page is told, yes_), appended)
      of false no_ = λ own child. no_ (subst (λ (l : List Child). first_of (leasts_of l) ≡ Some c.least) (same own child.1) child.2)
        where
          items : DirectoryPage → List Child
          items (Leaf es) = []
          items (Inner l ds) = ds

          of_page : StorePage → List Child
          of_page (Rattle.pg_directory.specs.Trees.Plain k) = []
          of_page (Directory d) = items d

          same : (own : List Child) → page_at pages c.page ≡ Directory (Inner level own) → own ≡ cs
          same own at = ap of_page (sym at ∙ the_page cs page is told)

-- ---- the pages of a level

-- So much of a level was read.
pub record HasTaken (pages : List StorePage) (level : ℕ) (cs rest named : List Child) : Type 0 where
  pub onward : (more : List Child) → IsLevel pages level rest more → IsLevel pages level cs (named ++ more)
  pub back : (ds : List Child) → IsLevel pages level cs ds → (more : List Child) × (ds ≡ named ++ more) × IsLevel pages level rest more

pub none_taken : (pages : List StorePage) (level : ℕ) (cs named : List Child) → named ≡ [] → HasTaken pages level cs cs named
none_taken pages level cs named none =
    subst (λ (l : List Child). HasTaken pages level cs cs l) (sym none) (record { onward = λ more is. is; back = λ ds is. (ds, refl, is) })

module _ (pages : List StorePage) (level : ℕ) (cs : List Child) (i : ℕ) (less : i < length cs) (named : List Child) (taken : HasTaken pages level cs (drop i cs) named) where
  abbrev c : Child
  c = get_or cs i no_child

  rest_is : drop i cs ≡ c ∷ drop (suc i) cs
  rest_is = drop-cons cs i no_child less

  first_of_rest : (more : List Child) → IsLevel pages level (drop i cs) more → IsLevel pages level (c ∷ drop (suc i) cs) more
  first_of_rest more is = subst (λ (l : List Child). IsLevel pages level l more) rest_is is

  one_of : (own ds : List Child) → page_at pages c.page ≡ Directory (Inner level own) → page_at pages c.page ≡ Directory (Inner level ds) → own ≡ ds
  one_of own ds a b = ap of_page (sym a ∙ b)
    where
      items : DirectoryPage → List Child
      items (Leaf es) = []
      items (Inner l xs) = xs

      of_page : StorePage → List Child
      of_page (Rattle.pg_directory.specs.Trees.Plain k) = []
      of_page (Directory d) = items d

  pub one_taken : (new : List Child) → TakesChild true pages level c named new → HasTaken pages level cs (drop (i + 1) cs) new
  one_taken new (own, (low, at, first), appended) =
      let e : suc i ≡ i + 1 = omega arith in
      subst (λ (n : ℕ). HasTaken pages level cs (drop n cs) new) e (record {
        onward = λ more is.
            subst (IsLevel pages level cs) (sym (append_assoc named own more) ∙ ap (λ (l : List Child). l ++ more) (sym appended))
            (taken.onward (own ++ more) (subst (λ (l : List Child). IsLevel pages level l (own ++ more)) (sym rest_is) (own, more, low, at, first, is, refl)));
        back = λ ds is. behind ds (taken.back ds is);
      })
    where
      behind : (ds : List Child) → (more : List Child) × (ds ≡ named ++ more) × IsLevel pages level (drop i cs) more → (more : List Child) × (ds ≡ new ++ more) × IsLevel pages level (drop (suc i) cs) more
      behind ds (more, parts, is) = of (first_of_rest more is)
        where
          of : IsLevel pages level (c ∷ drop (suc i) cs) more → (later : List Child) × (ds ≡ new ++ later) × IsLevel pages level (drop (suc i) cs) later
          of (mine, later, l, a, f, others, joined_) = (
            later,
            parts ∙ ap (λ (l : List Child). named ++ l) (joined_ ∙ ap (λ (l : List Child). l ++ later) (one_of mine own a at)) ∙ sym (append_assoc named own later) ∙ ap (λ (l : List Child). l ++ later) (sym appended),
            others,
          )

  pub not_taken : (new : List Child) (limit : ℕ) → TakesChild false pages level c named new → IsLevelOr None pages level cs limit
  not_taken new limit no_ ds is few = behind (taken.back ds is)
    where
      behind : (more : List Child) × (ds ≡ named ++ more) × IsLevel pages level (drop i cs) more → ⊥
      behind (more, parts, rest) = of (first_of_rest more rest)
        where
          of : IsLevel pages level (c ∷ drop (suc i) cs) more → ⊥
          of (mine, later, low, at, first, others, joined_) = no_ mine (low, at, first)

pub too_many : (pages : List StorePage) (level : ℕ) (cs rest named : List Child) (limit : ℕ) → HasTaken pages level cs rest named → limit < length named → IsLevelOr None pages level cs limit
too_many pages level cs rest named limit taken many ds is few = of (taken.back ds is)
  where
    of : (more : List Child) × (ds ≡ named ++ more) × IsLevel pages level rest more → ⊥
    of (more, parts, others) = let l = ap (λ (x : List Child). length x) parts ∙ length-append named more in omega (arith, l, few, many)

pub all_taken : (pages : List StorePage) (level : ℕ) (cs named : List Child) (i limit : ℕ) → length cs ≤ i → HasTaken pages level cs (drop i cs) named → IsLevelOr (Some named) pages level cs limit
all_taken pages level cs named i limit all taken =
    subst (IsLevel pages level cs) (append-nil named) (taken.onward [] (subst (λ (l : List Child). IsLevel pages level l []) (sym (drop_all i cs all)) refl))
