-- The steps of a look-up, over plain variables.
use Rattle.std.proofs.Common.{◌≡◌, ℕ, zero, suc, ◌+◌, ◌-◌, ◌≤◌, ◌<◌, List, length, take, drop, get_or, Option, Some, None, Result, Ok, Err, refl, sym, ap, subst, ◌∙◌, arith}
use Rattle.std.specs.Prelude.{IfOk}
use Rattle.std.proofs.lemmas.List.{length-map}
use Rattle.pg_journal.specs.Pages.{Numbered}
use Rattle.pg_map.specs.Kinds.{Each}
use Rattle.pg_cache.specs.Caches.{bytes_at}
use Rattle.pg_directory.specs.declared.entries.EntryAt.{EntryAt}
use Rattle.pg_directory.specs.declared.entries.Child.{Child}
use Rattle.pg_directory.specs.Pages.{DirectoryPage, Leaf, Inner, directory_bytes, IsDirectoryPage, named, no_child}
use Rattle.pg_directory.specs.Trees.{StorePage, bytes_of_page, IsPage, page_at, IsDirectory}
use Rattle.pg_directory.specs.Keeping.{IsKeptPage}
use Rattle.pg_directory.specs.Looking.{last_of, first_or, IsRank, IsRankOr, IsOnWay, AreNeighbours}
use Rattle.pg_directory.proofs.Descending.{on_leaf, down, none_before, IsDown}

-- a call that failed gave nothing
pub failed : {T E : Type 0} (P : T → Type 0) (r : Result T E) (y : E) → r ≡ Err y → IfOk r P
failed P (Ok x) y is = absurd (cc is)
failed P (Err x) y is = tt

-- what a call gave
pub page_given : (o : Option ℕ) (cache : List Numbered) (bytes : List ℕ) (at : ℕ) (page : List ℕ) → IsKeptPage o cache bytes → o ≡ Some at → page ≡ bytes_at cache at → page ≡ bytes
page_given o cache bytes at page is given lent = lent ∙ subst (λ (x : Option ℕ). IsKeptPage x cache bytes) given is

pub page_missing : (o : Option ℕ) (cache : List Numbered) (bytes : List ℕ) → IsKeptPage o cache bytes → o ≡ None → ⊥
page_missing o cache bytes is none = subst (λ (x : Option ℕ). IsKeptPage x cache bytes) none is

pub rank_given : (o : Option ℕ) (pages : List StorePage) (es : List EntryAt) (key : List ℕ) (rank : ℕ) → IsRankOr o pages es key → o ≡ Some rank → IsRank pages es key rank
rank_given o pages es key rank r is = subst (λ (x : Option ℕ). IsRankOr x pages es key) is r

pub rank_missing : (o : Option ℕ) (pages : List StorePage) (es : List EntryAt) (key : List ℕ) → IsRankOr o pages es key → o ≡ None → ⊥
rank_missing o pages es key r is = subst (λ (x : Option ℕ). IsRankOr x pages es key) is r

pub some_named : (d : DirectoryPage) → IsDirectoryPage d → 1 ≤ length (named d)
some_named (Leaf es) good = good.0
some_named (Inner level cs) good = omega (arith, good.0, length-map cs (λ (c : Child). c.least))

module _ (pages : List StorePage) (top : ℕ) (es : List EntryAt) (dir : IsDirectory pages top es) (key : List ℕ) where
  -- no entry is at most the key
  pub none_found : (page : List ℕ) (level : ℕ) (after : Option EntryAt) (way : IsOnWay pages es key page level after) (rank : ℕ) (next : Option EntryAt) → IsRank pages (named way.directory) key rank → rank ≡ 0
      → next ≡ first_or after (drop rank (named way.directory)) → AreNeighbours pages es key (record { at_most = None; after = next })
  none_found page level after way rank next r none is =
      subst (λ (o : Option EntryAt). AreNeighbours pages es key (record { at_most = None; after = o })) (sym is)
      (none_before pages top es dir key page level after way rank r none (some_named way.directory way.good) None refl)

  -- on a leaf
  pub leaf_found : (page : List ℕ) (level : ℕ) (after : Option EntryAt) (way : IsOnWay pages es key page level after) (rank : ℕ) (last next : Option EntryAt) → level ≤ 0 → IsRank pages (named way.directory) key rank
      → last ≡ last_of (take rank (named way.directory)) → next ≡ first_or after (drop rank (named way.directory)) → AreNeighbours pages es key (record { at_most = last; after = next })
  leaf_found page zero after way rank last next low r is follows =
      subst (λ (o : Option EntryAt). AreNeighbours pages es key (record { at_most = o; after = next })) (sym is)
      (subst (λ (o : Option EntryAt). AreNeighbours pages es key (record { at_most = last_of (take rank (named way.directory)); after = o })) (sym follows) (on_leaf pages top es dir key page after way rank r))
  leaf_found page (suc level) after way rank last next low r is follows = absurd (omega (arith, low))

  -- to the page below
  pub down_found : Each IsPage pages → (page : List ℕ) (level : ℕ) (after : Option EntryAt) (way : IsOnWay pages es key page level after) (rank number : ℕ) → 0 < level → IsRank pages (named way.directory) key rank → 1 ≤ rank
      → ((l : ℕ) (cs : List Child) → IsDirectoryPage (Inner l cs) → page ≡ directory_bytes (Inner l cs) → rank - 1 < length cs → number ≡ (get_or cs (rank - 1) no_child).page)
      → IsDown pages top es dir key (3 + length pages) number (level - 1) (first_or after (drop rank (named way.directory)))
  down_found are page zero after way rank number high r some child = absurd (omega (arith, high))
  down_found are page (suc level) after way rank number high r some child =
      let e : level ≡ suc level - 1 = omega arith in
      subst (λ (n : ℕ). IsDown pages top es dir key (3 + length pages) number n (first_or after (drop rank (named way.directory)))) e
      (down pages top es dir key are page level after way rank number r some child)

  -- the way from there on
  pub way_on : (homes number level : ℕ) (after next : Option EntryAt) (page : List ℕ) → (dn : IsDown pages top es dir key homes number level after) → page ≡ bytes_of_page (page_at pages number) → next ≡ after → IsOnWay pages es key page level next
  way_on homes number level after next page dn is follows =
      subst (λ (o : Option EntryAt). IsOnWay pages es key page level o) (sym follows)
      (subst (λ (p : List ℕ). IsOnWay pages es key p level after) (sym (is ∙ ap bytes_of_page dn.at)) dn.way)
