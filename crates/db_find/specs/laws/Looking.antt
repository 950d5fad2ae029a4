-- A search looks at no more rows than it may and at as many texts as it says, and at nothing where it is refused.
use Rattle.std.proofs.Common.{◌≡◌, ◌≤◌, ℕ, List, [], ◌∷◌, Option, Some, None, refl, sym, ap, subst, inl, inr, ◌∙◌, arith}
use Rattle.std.proofs.lemmas.Option.{same_Some}
use Rattle.ct_keep.specs.Content.{Content}
use Rattle.ct_keep.specs.KeeperViews.{Counts}
use Rattle.ct_keep.specs.Looks.{no_looks, one_if, scan_looks, RisesBy}
use Rattle.ct_keep.specs.laws.Looks.{behind_kind, rows-scan_looks, texts-scan_looks}
use Rattle.tb_table.specs.Tables.{Tables}
use Rattle.tb_table.specs.laws.NameOrder.{at_most_one}
use Rattle.th_store.specs.Thesauri.{Thesauri}
use Rattle.ix_kinds.specs.Rows.{table_at}
use Rattle.ix_kinds.specs.Indextypes.{with_body}
use Rattle.ix_search.specs.Looking.{QueriesLookFew}
use Rattle.ix_indexes.specs.Indexes.{Body, Index}
use Rattle.db_cond.specs.Faults.{Refusal}
use Rattle.db_find.specs.Catalogues.{texts_meant, unless_refused, catsearch_meaning}
use Rattle.db_find.specs.Finding.{refusal_of_kind, search_refusal}
use Rattle.db_find.specs.Looking.{allowance_in, looks_in, meaning_allowance, meaning_looks, rules_in_index, search_allowance, search_looks, texts_in_index, texts_of_kind}
use Rattle.db_find.specs.Querying.{Finds, Meaning, Refuses, meaning_of, refusal_in}
use Rattle.db_find.specs.Searches.{Search, Catsearch, Contains, Matches, threshold_of}

-- ---- calls that look at nothing

pub rises_still : (most c : Counts) → RisesBy most c c
rises_still most c = record { texts = omega arith; rows = omega arith; rules = omega arith }

pub rises_weaker : (most old new : Counts) → RisesBy no_looks old new → RisesBy most old new
rises_weaker most old new none = record { texts = omega (arith, none.texts); rows = omega (arith, none.rows); rules = omega (arith, none.rules) }

-- nothing, and then something
pub rises_behind : (most old mid new : Counts) → RisesBy no_looks old mid → RisesBy most mid new → RisesBy most old new
rises_behind most old mid new none rises = record { texts = omega (arith, none.texts, rises.texts); rows = omega (arith, none.rows, rises.rows); rules = omega (arith, none.rules, rises.rules) }

-- the same by another name
pub rises_as : (most same old new : Counts) → most ≡ same → RisesBy same old new → RisesBy most old new
rises_as most same old new is rises = subst (λ (c : Counts). RisesBy c old new) (sym is) rises

-- ---- what a search may look at

-- the entries of indexes stand behind the texts
pub indexes_texts : (m : Content) → (scan_looks (0x20 ∷ []) m).texts ≡ 0
indexes_texts m = texts-scan_looks 0x20 [] m ∙ ap one_if (behind_kind 0x03 0x20 [] m (omega arith))

-- and one row of postings at most stands behind them
pub indexes_rows : (m : Content) → (scan_looks (0x20 ∷ []) m).rows ≤ 1
indexes_rows m = subst (λ (n : ℕ). n ≤ 1) (sym (rows-scan_looks 0x20 [] m)) (at_most_one _)

module _ (few : QueriesLookFew) (m : Content) where
  meaning_texts : (i : List ℕ) (meaning : Meaning) (threshold : Option ℕ) → (meaning_looks m i meaning threshold).texts ≡ 0
  meaning_texts i (Refuses refusal) threshold = refl
  meaning_texts i (Finds None) threshold = refl
  meaning_texts i (Finds (Some q)) None = refl
  meaning_texts i (Finds (Some q)) (Some n) = (few m i q).texts

  meaning_rows : (i : List ℕ) (meaning : Meaning) (threshold : Option ℕ) → (meaning_looks m i meaning threshold).rows ≤ meaning_allowance m i meaning threshold
  meaning_rows i (Refuses refusal) threshold = omega arith
  meaning_rows i (Finds None) threshold = omega arith
  meaning_rows i (Finds (Some q)) None = omega arith
  meaning_rows i (Finds (Some q)) (Some n) = (few m i q).rows

  looks_texts : (ts : Tables) (thesauri : Thesauri) (named : List ℕ × Index) (s : Search) → (search_looks m ts thesauri named.0 named.1 s).texts ≡ texts_in_index ts (Some named) s
  looks_texts ts thesauri named (Contains column query label above) = meaning_texts named.0 (meaning_of named.1.prefs thesauri query) (threshold_of above)
  looks_texts ts thesauri named (Catsearch column query structured) = refl
  looks_texts ts thesauri named (Matches column document) = refl

  looks_rows : (ts : Tables) (thesauri : Thesauri) (i : List ℕ) (x : Index) (s : Search) → (search_looks m ts thesauri i x s).rows ≤ search_allowance m thesauri i x s
  looks_rows ts thesauri i x (Contains column query label above) = meaning_rows i (meaning_of x.prefs thesauri query) (threshold_of above)
  looks_rows ts thesauri i x (Catsearch column query structured) = omega arith
  looks_rows ts thesauri i x (Matches column document) = omega arith

  no_index_no_texts : (ts : Tables) (s : Search) → 0 ≡ texts_in_index ts None s
  no_index_no_texts ts (Contains column query label above) = refl
  no_index_no_texts ts (Catsearch column query structured) = refl
  no_index_no_texts ts (Matches column document) = refl

  -- A SEARCH LOOKS AT SO MANY TEXTS, and at no more rows than it may.
  pub in_texts : (ts : Tables) (thesauri : Thesauri) (named : Option (List ℕ × Index)) (s : Search) → (looks_in m ts thesauri named s).texts ≡ texts_in_index ts named s
  in_texts ts thesauri None s = no_index_no_texts ts s
  in_texts ts thesauri (Some named) s = looks_texts ts thesauri named s

  pub in_rows : (ts : Tables) (thesauri : Thesauri) (named : Option (List ℕ × Index)) (s : Search) → (looks_in m ts thesauri named s).rows ≤ allowance_in m thesauri named s
  in_rows ts thesauri None s = omega arith
  in_rows ts thesauri (Some named) s = looks_rows ts thesauri named.0 named.1 s

-- how many rules a search reads at most, where that is said
pub in_rules : (m : Content) (ts : Tables) (thesauri : Thesauri) (named : Option (List ℕ × Index)) (s : Search) (n : ℕ) → rules_in_index named s ≡ Some n → (looks_in m ts thesauri named s).rules ≡ n
in_rules m ts thesauri named (Contains column query label above) n is = absurd (cc)
in_rules m ts thesauri named (Catsearch column query structured) n is = absurd (cc)
in_rules m ts thesauri None (Matches column document) n is = same_Some _ _ is
in_rules m ts thesauri (Some named) (Matches column document) n is = same_Some _ _ is

-- ---- nothing where it is refused

refused_meaning : (m : Content) (i : List ℕ) (meaning : Meaning) (threshold : Option ℕ) (refusal : Refusal) → refusal_in meaning ≡ Some refusal → meaning_looks m i meaning threshold ≡ no_looks
refused_meaning m i (Refuses own) threshold refusal is = refl
refused_meaning m i (Finds q) threshold refusal is = absurd (cc)

-- by what the index of a CATSEARCH is
refused_texts : (ts : Tables) (thesauri : Thesauri) (x : Index) (body : Body) (column query structured : List ℕ) (refusal : Refusal)
    → refusal_of_kind ts thesauri x body (Catsearch column query structured) ≡ Some refusal → texts_of_kind ts x body query structured ≡ 0
refused_texts ts thesauri x (inl c) column query structured refusal is = refl
refused_texts ts thesauri x (inr (inr b)) column query structured refusal is = refl
refused_texts ts thesauri x (inr (inl b)) column query structured refusal is = ap (λ (o : Option Refusal). unless_refused o (texts_meant (table_at ts x.table) (with_body x b) (catsearch_meaning x.prefs query))) is

pub refused_looks : (m : Content) (ts : Tables) (thesauri : Thesauri) (i : List ℕ) (x : Index) (s : Search) (refusal : Refusal) → search_refusal ts thesauri x s ≡ Some refusal → search_looks m ts thesauri i x s ≡ no_looks
refused_looks m ts thesauri i x (Contains column query label above) refusal is = refused_meaning m i (meaning_of x.prefs thesauri query) (threshold_of above) refusal is
refused_looks m ts thesauri i x (Catsearch column query structured) refusal is = ap (λ (n : ℕ). record no_looks { texts = n }) (refused_texts ts thesauri x x.body column query structured refusal is)
refused_looks m ts thesauri i x (Matches column document) refusal is = absurd (cc)
