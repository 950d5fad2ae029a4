-- Which pages there are, and the strings of entries on them.
use Rattle.std.proofs.Common.{◌≡◌, inl, inr, ℕ, zero, suc, ◌+◌, ◌-◌, ◌≤◌, ◌<◌, List, [], ◌∷◌, ◌++◌, length, get_or, refl, sym, ap, subst, ◌∙◌, arith, append-nil}
use Rattle.std.proofs.lemmas.Bool.{cases_lt}
use Rattle.pg_page.specs.Pages.{Fits, page_bytes, string_at as string_on}
use Rattle.pg_page.specs.laws.Reading.{slot_read}
use Rattle.pg_map.specs.Kinds.{Each, Free, Slotted, Long, bytes_of_kind, strings_of}
use Rattle.pg_directory.specs.declared.entries.EntryAt.{EntryAt}
use Rattle.pg_directory.specs.Pages.{DirectoryPage, Leaf, IsDirectoryPage}
use Rattle.pg_directory.specs.Trees.{StorePage, Plain, Directory, bytes_of_page, IsPage, kind_of, page_at, one_if_directory, string_at, HasString}

pub past : (pages : List StorePage) (n : ℕ) → length pages ≤ n → get_or pages n (Plain Free) ≡ Plain Free
past [] n least = refl
past (p ∷ pages) zero least = absurd (omega (arith, least))
past (p ∷ pages) (suc n) least = past pages n (omega (arith, least))

-- a page that isn't free is there
pub there : (pages : List StorePage) (n : ℕ) → (get_or pages n (Plain Free) ≡ Plain Free → ⊥) → n < length pages
there pages n other = elim (cases_lt n (length pages)) [
  | inl less ↦ less
  | inr least ↦ absurd (other (past pages n least))
]

pub directory_there : (pages : List StorePage) (i : ℕ) (d : DirectoryPage) → 3 ≤ i → page_at pages i ≡ Directory d → i < 3 + length pages
directory_there pages i d least at =
    let less = there pages (i - 3) (λ free. let e : 1 ≡ 0 = ap one_if_directory (sym at ∙ free) in omega (arith, e)) in
    omega (arith, least, less)

pub page_good : (pages : List StorePage) (i : ℕ) → Each IsPage pages → IsPage (page_at pages i)
page_good pages i are = of pages (i - 3) are
  where
    of : (pages : List StorePage) (n : ℕ) → Each IsPage pages → IsPage (get_or pages n (Plain Free))
    of [] n are = tt
    of (p ∷ pages) zero are = are.0
    of (p ∷ pages) (suc n) are = of pages n are.1

pub directory_good : (pages : List StorePage) (i : ℕ) (d : DirectoryPage) → Each IsPage pages → page_at pages i ≡ Directory d → IsDirectoryPage d
directory_good pages i d are at = subst IsPage at (page_good pages i are)

the_directory : StorePage → DirectoryPage
the_directory (Plain kind) = Leaf []
the_directory (Directory d) = d

pub one_directory : (pages : List StorePage) (i : ℕ) (d e : DirectoryPage) → page_at pages i ≡ Directory d → page_at pages i ≡ Directory e → d ≡ e
unfolding the_directory
one_directory pages i d e a b = ap the_directory (sym a ∙ b)

-- The page of an entry has strings, of which its own is one.
pub record IsStringOf (pages : List StorePage) (e : EntryAt) : Type 0 where
  pub strings : List (List ℕ)
  pub at : bytes_of_page (page_at pages e.page) ≡ page_bytes strings
  pub fits : Fits strings
  pub less : e.slot < length strings
  pub is : string_at pages e ≡ get_or strings e.slot []
  pub within : e.page < 3 + length pages

pub string_of : (pages : List StorePage) (e : EntryAt) → Each IsPage pages → HasString pages e → IsStringOf pages e
unfolding bytes_of_kind
string_of pages e are has = of (page_at pages e.page) refl
  where
    of : (p : StorePage) → page_at pages e.page ≡ p → IsStringOf pages e
    of (Plain Free) at = let less = subst (λ (q : StorePage). e.slot < length (strings_of (kind_of q ∷ []))) at has.less in absurd (omega (arith, less))
    of (Plain (Long next bytes)) at = let less = subst (λ (q : StorePage). e.slot < length (strings_of (kind_of q ∷ []))) at has.less in absurd (omega (arith, less))
    of (Directory d) at = let less = subst (λ (q : StorePage). e.slot < length (strings_of (kind_of q ∷ []))) at has.less in absurd (omega (arith, less))
    of (Plain (Slotted ss)) at =
        let less : e.slot < length (ss ++ []) = subst (λ (q : StorePage). e.slot < length (strings_of (kind_of q ∷ []))) at has.less in
        let low = there pages (e.page - 3) (λ free. let no : strings_of (kind_of (page_at pages e.page) ∷ []) ≡ [] = ap (λ (q : StorePage). strings_of (kind_of q ∷ [])) free in let l = ap (λ (x : List (List ℕ)). length x) no in omega (arith, has.less, l)) in
        record {
          strings = ss;
          at = ap bytes_of_page at;
          fits = subst IsPage at (page_good pages e.page are);
          less = subst (λ (l : List (List ℕ)). e.slot < length l) (append-nil ss) less;
          is = ap (λ (q : StorePage). get_or (strings_of (kind_of q ∷ [])) e.slot []) at ∙ ap (λ (l : List (List ℕ)). get_or l e.slot []) (append-nil ss);
          within = omega (arith, low, has.low);
        }

-- the string that is read of it there
pub string_read : (pages : List StorePage) (e : EntryAt) (page string : List ℕ) → Each IsPage pages → HasString pages e → page ≡ bytes_of_page (page_at pages e.page) → string ≡ string_on page e.slot → string ≡ string_at pages e
string_read pages e page string are has is read =
    let s = string_of pages e are has in
    read ∙ ap (λ (l : List ℕ). string_on l e.slot) (is ∙ s.at) ∙ (slot_read s.strings e.slot s.fits s.less).string ∙ sym s.is
