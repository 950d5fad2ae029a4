-- An entry at a place, behind the one before it.
use Rattle.std.specs.Prelude.{◌||◌, nat_lt}
use Rattle.std.proofs.Common.{◌≡◌, ℕ, ◌+◌, ◌≤◌, ◌<◌, Bool, true, false, List, [], ◌∷◌, length, Option, None, refl, sym, ap, ◌∙◌, arith}
use Rattle.std.specs.Ordering.{nat_cmp, is_lt}
use Rattle.std.specs.Cmp.Lexicographic.{slice_cmp}
use Rattle.std.proofs.lemmas.Bool.{false≢true, ltb-true, ltb-false}
use Rattle.pg_page.specs.Pages.{Fits, page_bytes, string_at as string_on}
use Rattle.pg_journal.specs.Pages.{Numbered}
use Rattle.pg_map.specs.Kinds.{Each, strings_of}
use Rattle.pg_map.specs.PageStrings.{string_key}
use Rattle.pg_directory.specs.declared.entries.EntryAt.{EntryAt}
use Rattle.pg_directory.specs.Trees.{StorePage, bytes_of_page, kind_of, IsPage, page_at, key_at, HasString}
use Rattle.pg_directory.specs.Keeping.{IsKeptPage}
use Rattle.pg_directory.specs.Walking.{Passes}
use Rattle.pg_directory.proofs.Orders.{below_from_test}
use Rattle.pg_directory.proofs.Steps.{page_missing}
use Rattle.pg_directory.proofs.Strings.{page_good, string_of, string_read}

module _ (pages : List StorePage) (are : Each IsPage pages) (at : EntryAt) (is_first : Bool) (old new : List ℕ) where
  pub entry_missing : (o : Option ℕ) (cache : List Numbered) → (3 ≤ at.page → at.page < 3 + length pages → IsKeptPage o cache (bytes_of_page (page_at pages at.page))) → o ≡ None → Passes false pages at is_first old new
  entry_missing o cache there none has above = let s = string_of pages at are has in page_missing o cache _ (there has.low s.within) none

  module _ (page : List ℕ) (is : page ≡ bytes_of_page (page_at pages at.page)) where
    pub no_slot : (r : Bool) → ((p : StorePage) → IsPage p → page ≡ bytes_of_page p → r ≡ nat_lt at.slot (length (strings_of (kind_of p ∷ [])))) → r ≡ false → Passes false pages at is_first old new
    no_slot r tells none has above =
        let past = ltb-false at.slot (length (strings_of (kind_of (page_at pages at.page) ∷ []))) (sym (tells (page_at pages at.page) (page_good pages at.page are) is) ∙ none) in
        omega (arith, past, has.less)

    pub there : (r : Bool) → 3 ≤ at.page → ((p : StorePage) → IsPage p → page ≡ bytes_of_page p → r ≡ nat_lt at.slot (length (strings_of (kind_of p ∷ [])))) → r ≡ true → HasString pages at
    there r low tells one = record {
      low = low;
      less = ltb-true at.slot (length (strings_of (kind_of (page_at pages at.page) ∷ []))) (sym (tells (page_at pages at.page) (page_good pages at.page are) is) ∙ one);
    }

    pub no_string : HasString pages at → ((ss : List (List ℕ)) → Fits ss → page ≡ page_bytes ss → at.slot < length ss → ⊥) → Passes false pages at is_first old new
    no_string has none _ above = let s = string_of pages at are has in none s.strings s.fits (is ∙ s.at) s.less

    pub own_key : HasString pages at → (string own : List ℕ) → string ≡ string_on page at.slot → own ≡ string_key string → own ≡ key_at pages at
    own_key has string own string_is key_is = key_is ∙ ap string_key (string_read pages at page string are has is string_is)

  pub not_next : (own : List ℕ) (r : Bool) → own ≡ key_at pages at → r ≡ (is_first || is_lt (slice_cmp nat_cmp old own)) → r ≡ false → Passes false pages at is_first old new
  not_next own r key is none has above = of is_first refl (sym is ∙ none)
    where
      of : (b : Bool) → is_first ≡ b → (is_first || is_lt (slice_cmp nat_cmp old own)) ≡ false → ⊥
      of true first no_ = false≢true (sym no_ ∙ ap (λ (b : Bool). b || is_lt (slice_cmp nat_cmp old own)) first)
      of false first no_ = false≢true (sym (ap (λ (b : Bool). b || is_lt (slice_cmp nat_cmp old own)) (sym first) ∙ no_) ∙ ap (λ (k : List ℕ). is_lt (slice_cmp nat_cmp old k)) key ∙ ap is_lt (above first))

  pub passed : (own : List ℕ) (r : Bool) → HasString pages at → own ≡ key_at pages at → r ≡ (is_first || is_lt (slice_cmp nat_cmp old own)) → r ≡ true → new ≡ own → Passes true pages at is_first old new
  passed own r has key is one put = (
    has,
    λ other. below_from_test old (key_at pages at) (ap (λ (k : List ℕ). is_lt (slice_cmp nat_cmp old k)) (sym key) ∙ ap (λ (b : Bool). b || is_lt (slice_cmp nat_cmp old own)) (sym other) ∙ sym is ∙ one),
    put ∙ key,
  )
