-- On which page the string of an entry stands.
use Rattle.std.proofs.Common.{◌≡◌, inl, inr, ℕ, ◌+◌, ◌-◌, ◌<◌, List, [], ◌∷◌, length, get_or, Option, Some, None, refl, sym, ap, subst, ◌∙◌, arith, append-nil}
use Rattle.std.proofs.lemmas.Bool.{cases_lt}
use Rattle.pg_map.specs.Kinds.{Each, Free, Slotted, Long, bytes_of_kind, strings_of}
use Rattle.pg_directory.specs.declared.entries.EntryAt.{EntryAt}
use Rattle.pg_directory.specs.Trees.{StorePage, Plain, Directory, bytes_of_page, IsPage, kind_of, page_at, HasString}
use Rattle.pg_directory.specs.laws.Pages.{each_at}
use Rattle.pg_directory.specs.laws.Written.{page_past}
use Rattle.pg_batch.specs.Strings.{HasStringOf, HasPageOf}
use Rattle.pg_cache.specs.Caches.{bytes_at}
use Rattle.pg_directory.specs.Keeping.{IsKeptPage}
use Rattle.pg_journal.specs.Pages.{Numbered}

-- The page of an entry is one of those behind the root.
pub record IsOnPage (pages : List StorePage) (e : EntryAt) : Type 0 where
  pub within : e.page < 3 + length pages
  pub has : HasStringOf pages e (bytes_of_page (page_at pages e.page))

pub on_page : (pages : List StorePage) (e : EntryAt) → Each IsPage pages → HasString pages e → IsOnPage pages e
unfolding bytes_of_kind
on_page pages e are has = record { within = omega (arith, there, has.low); has = of (page_at pages e.page) refl (each_at IsPage pages (e.page - 3) (Plain Free) are there) }
  where
    there : e.page - 3 < length pages
    there = elim (cases_lt (e.page - 3) (length pages)) [
      | inl less ↦ less
      | inr least ↦
          let none = ap (λ (q : StorePage). length (strings_of (kind_of q ∷ []))) (page_past pages e.page (omega (arith, least, has.low))) in
          absurd (omega (arith, has.less, none))
    ]

    less_on : (p : StorePage) → page_at pages e.page ≡ p → e.slot < length (strings_of (kind_of p ∷ []))
    less_on p at = subst (λ (q : StorePage). e.slot < length (strings_of (kind_of q ∷ []))) at has.less

    of : (p : StorePage) → page_at pages e.page ≡ p → IsPage (page_at pages e.page) → HasStringOf pages e (bytes_of_page (page_at pages e.page))
    of (Plain Free) at good = let less = less_on (Plain Free) at in absurd (omega (arith, less))
    of (Plain (Long next bytes)) at good = let less = less_on (Plain (Long next bytes)) at in absurd (omega (arith, less))
    of (Directory d) at good = let less = less_on (Directory d) at in absurd (omega (arith, less))
    of (Plain (Slotted ss)) at good = record {
      strings = ss;
      at = ap bytes_of_page at;
      fits = subst IsPage at good;
      less = subst (λ (l : List (List ℕ)). e.slot < length l) (append-nil ss) (less_on (Plain (Slotted ss)) at);
      is = ap (λ (q : StorePage). get_or (strings_of (kind_of q ∷ [])) e.slot []) at ∙ ap (λ (l : List (List ℕ)). get_or l e.slot []) (append-nil ss);
    }

-- the page that was found is the entry's
pub page_found : (pages : List StorePage) (e : EntryAt) (cache : List Numbered) (found : Option ℕ) → IsKeptPage found cache (bytes_of_page (page_at pages e.page))
    → HasStringOf pages e (bytes_of_page (page_at pages e.page)) → HasPageOf found cache pages e
page_found pages e cache None kept has = kept
page_found pages e cache (Some at) kept has = subst (HasStringOf pages e) (sym kept) has

pub page_there : (pages : List StorePage) (e : EntryAt) (cache : List Numbered) {found : Option ℕ} {at : ℕ} {page : List ℕ} → HasPageOf found cache pages e
    → found ≡ Some at → page ≡ bytes_at cache at → HasStringOf pages e page
page_there pages e cache has is lent =
    subst (HasStringOf pages e) (sym lent) (subst (λ (o : Option ℕ). HasPageOf o cache pages e) is has)
