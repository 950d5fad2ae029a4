-- The changes of a batch by their keys, as they are gathered one after the other.
use Rattle.std.specs.Prelude.{◌≡◌, ◌⊎◌, ℕ, ◌+◌, ◌≤◌, Bool, true, false, List, [], ◌∷◌, ◌++◌, length, Option, Some, None, unwrap_or, is_some, refl}
use Rattle.std.proofs.Common.{cond, sym, ap, subst, ◌∙◌, inl, inr, ⊎_elim, arith, length-append}
use Rattle.std.specs.List.{Contains}
use Rattle.std.proofs.lemmas.List.Elements.{Contains-append_left, Contains-append_right}
use Rattle.std.specs.Ordering.{nat_cmp}
use Rattle.std.specs.Cmp.Lexicographic.{slice_cmp}
use Rattle.std.specs.FinMap.{get, insert, entries, get-entries, get-insert, entries-insert, len, len-entries, len-insert}
use Rattle.std.proofs.lemmas.Cmp.{nat_list_cmp_total}
use Rattle.std.proofs.lemmas.Map.Lookups.{exact_bytes}
use Rattle.ct_keep.specs.Changes.{AreWell, AnyEntry}
use Rattle.ct_keep.specs.Content.{Content, Change, IsEntry, set_to, after}
use Rattle.ct_keep.specs.laws.Content.{same, same_keys, same_content, get-set_to, after-append}
use Rattle.ct_keep.specs.laws.FoundKeys.{pair_found, found_pair}
use Rattle.ct_keep.specs.laws.RisingKeys.{entries_rise}
use Rattle.pg_directory.specs.laws.Listing.{in_more, first_in, later_in, none_in}
use Rattle.pg_batch.specs.BatchPages.{entry_pages, put_pages}
use Rattle.pg_batch.specs.ByKey.{said_under, SaidMap, AreByKey}
use Rattle.pg_batch.specs.laws.Costs.{changes_cost, pages_cost, run_cost, rough_cost, put_pages_put, cost_put, put_pages_more, cost_more}
use Rattle.pg_batch.specs.laws.Rising.{get_rising}

-- ---- changes that are among others

-- a value that is put is well
one_well : (well : List ℕ → List ℕ → Type 0) (ws : List Change) (key value : List ℕ) → AreWell well ws → Contains ws (key, Some value) → IsEntry key value × well key value
one_well well [] key value are has = absurd (none_in (key, Some value) has)
one_well well ((k, None) ∷ ws) key value are has = ⊎_elim
    (λ is. let wrong : ◌≡◌ {A = Option (List ℕ)} None (Some value) = ap (λ (w : Change). w.1) is in absurd (cc wrong))
    (λ more. one_well well ws key value are more)
    (in_more (k, None) (key, Some value) ws has)
one_well well ((k, Some v) ∷ ws) key value are has = ⊎_elim
    (λ is.
    let one : k ≡ key = ap (λ (w : Change). w.0) is in
    let two : v ≡ value = ap (λ (w : Change). unwrap_or w.1 []) is in
    subst (λ (x : List ℕ). IsEntry x value × well x value) one (subst (λ (x : List ℕ). IsEntry k x × well k x) two (are.0, are.1)))
    (λ more. one_well well ws key value are.2 more)
    (in_more (k, Some v) (key, Some value) ws has)

-- changes that are among well ones are well
pub well_among : (well : List ℕ → List ℕ → Type 0) (batch ws : List Change) → ((w : Change) → Contains ws w → Contains batch w) → AreWell well batch → AreWell well ws
well_among well batch [] each are = tt
well_among well batch ((key, None) ∷ ws) each are = well_among well batch ws (λ w has. each w (later_in (key, None) w ws has)) are
well_among well batch ((key, Some value) ∷ ws) each are =
    let one = one_well well batch key value are (each (key, Some value) (first_in (key, Some value) ws)) in
    (one.0, one.1, well_among well batch ws (λ w has. each w (later_in (key, Some value) w ws has)) are)

-- ---- one change more

module _ (old : SaidMap) (key : List ℕ) (o : Option (List ℕ)) where
  said_now : (q : List ℕ) → said_under q (entries (insert old key o)) ≡ cond (same q key) (Some o) (said_under q (entries old))
  said_now q = sym (get-entries (insert old key o) q) ∙ get-insert nat_list_cmp_total old key o q ∙ ap (λ (x : Option (Option (List ℕ))). cond (same q key) (Some o) x) (get-entries old q)

  makes_now : (m : Content) → after (entries (insert old key o)) m ≡ set_to key o (after (entries old) m)
  makes_now m = same_content (after (entries (insert old key o)) m) (set_to key o (after (entries old) m)) (λ q.
      get_rising (entries (insert old key o)) m q (entries_rise (slice_cmp nat_cmp) (insert old key o))
      ∙ ap (λ (x : Option (Option (List ℕ))). unwrap_or x (get m q)) (said_now q)
      ∙ either (same q key) (said_under q (entries old)) (get m q)
      ∙ ap (λ (x : Option (List ℕ)). cond (same q key) o x) (sym (get_rising (entries old) m q (entries_rise (slice_cmp nat_cmp) old)))
      ∙ sym (get-set_to key o (after (entries old) m) q))
    where
      either : (b : Bool) (x : Option (Option (List ℕ))) (was : Option (List ℕ)) → unwrap_or (cond b (Some o) x) was ≡ cond b o (unwrap_or x was)
      either true x was = refl
      either false x was = refl

  -- each change is the new one, or was there
  each_now : (w : Change) → Contains (entries (insert old key o)) w → (w ≡ (key, o)) ⊎ Contains (entries old) w
  each_now w has =
      of (same w.0 key) refl
      (sym (said_now w.0) ∙ pair_found (slice_cmp nat_cmp) nat_list_cmp_total (entries (insert old key o)) w (entries_rise (slice_cmp nat_cmp) (insert old key o)) has)
    where
      of : (b : Bool) → same w.0 key ≡ b → cond b (Some o) (said_under w.0 (entries old)) ≡ Some w.1 → (w ≡ (key, o)) ⊎ Contains (entries old) w
      of true one is =
          inl
          (let k : w.0 ≡ key = same_keys w.0 key one in let v : o ≡ w.1 = ap (λ (x : Option (Option (List ℕ))). unwrap_or x o) is in
          ap (λ (x : List ℕ). (x, w.1)) k ∙ ap (λ (x : Option (List ℕ)). (key, x)) (sym v))
      of false two is = inr (found_pair (slice_cmp nat_cmp) exact_bytes (entries old) w.0 w.1 is)

  few_now : length (entries (insert old key o)) ≤ length (entries old) + 1
  few_now = of (is_some (get old key)) (sym (len-entries (insert old key o)) ∙ len-insert nat_list_cmp_total old key o)
    where
      of : (b : Bool) → length (entries (insert old key o)) ≡ cond b (len old) (len old + 1) → length (entries (insert old key o)) ≤ length (entries old) + 1
      of true is = omega (arith, is, len-entries old)
      of false is = omega (arith, is, len-entries old)

-- no change yet
pub by_key_none : AreByKey [] []
by_key_none = record { rise = refl; makes = λ m. refl; each = λ w has. has; few = omega arith; well = λ are. are; put = omega arith; changed = λ m. omega arith; rough = λ m. omega arith }

-- one more
pub by_key_more : (done : List Change) (old : SaidMap) (key : List ℕ) (o : Option (List ℕ)) → AreByKey done (entries old) → AreByKey (done ++ (key, o) ∷ []) (entries (insert old key o))
by_key_more done old key o by = record {
  rise = entries_rise (slice_cmp nat_cmp) (insert old key o);
  makes = λ m. makes_now old key o m ∙ ap (set_to key o) (by.makes m) ∙ sym (after-append done ((key, o) ∷ []) m);
  each = each;
  few = let f = few_now old key o in let d = by.few in let l = length-append done ((key, o) ∷ []) in omega (arith, f, d, l);
  well = well_among AnyEntry (done ++ (key, o) ∷ []) (entries (insert old key o)) each;
  put =
      let list = ap put_pages (entries-insert nat_list_cmp_total old key o) in
      let step = put_pages_put key o (entries old) in
      let all = put_pages_more done (key, o) in
      let before = by.put in
      omega (arith, list, step, all, before);
  changed = λ m. let is = pages_cost done m in let was = pages_cost (entries old) m in
      let more = pages_cost (done ++ (key, o) ∷ []) m in let now = pages_cost (entries (insert old key o)) m in
      let before = by.changed m in
      let step = cost_now entry_pages m in omega (arith, is, was, more, now, before, step);
  rough = λ m. let is = rough_cost done m in let was = rough_cost (entries old) m in
      let more = rough_cost (done ++ (key, o) ∷ []) m in let now = rough_cost (entries (insert old key o)) m in
      let before = by.rough m in
      let step = cost_now run_cost m in omega (arith, is, was, more, now, before, step);
}
  where
    -- what it adds to the cost of the changes by their keys is at most what it adds to the batch's
    cost_now : (cost : List ℕ → Option (List ℕ) → ℕ) (m : Content) → changes_cost cost (entries (insert old key o)) m + changes_cost cost done m ≤ changes_cost cost (entries old) m + changes_cost cost (done ++ (key, o) ∷ []) m
    cost_now cost m =
        let list = ap (λ (l : List Change). changes_cost cost l m) (entries-insert nat_list_cmp_total old key o) in
        let step = cost_put cost key o (entries old) m by.rise in
        let all = cost_more cost done (key, o) m in
        let same_after = ap (λ (n : Content). cost key (get n key)) (by.makes m) in
        omega (arith, list, step, all, same_after)

    each : (w : Change) → Contains (entries (insert old key o)) w → Contains (done ++ (key, o) ∷ []) w
    each w has = ⊎_elim
        (λ is. Contains-append_right done ((key, o) ∷ []) w (subst (Contains ((key, o) ∷ [])) (sym is) (first_in (key, o) [])))
        (λ more. Contains-append_left done ((key, o) ∷ []) w (by.each w more))
        (each_now old key o w has)
