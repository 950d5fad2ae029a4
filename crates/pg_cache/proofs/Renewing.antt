-- The pages of a batch, put one by one in place of those that are kept.
use Rattle.std.proofs.Common.{◌≡◌, ◌⊎◌, inl, inr, ⊎_elim, ℕ, ◌+◌, ◌<◌, ◌==◌, List, [], ◌∷◌, ◌++◌, length, take, get_or, false, refl, sym, ap, subst, ◌∙◌, arith}
use Rattle.std.specs.List.{Contains, list_any}
use Rattle.std.proofs.lemmas.List.{get_or-map, length-map, take_all, take_more}
use Rattle.std.proofs.lemmas.List.Elements.{Contains-append_left, Contains-push}
use Rattle.pg_journal.specs.BatchStates.{image_at, numbers_in}
use Rattle.pg_journal.specs.Pages.{Numbered, Has}
use Rattle.pg_cache.proofs.Keeping.{none_to_renew}
use Rattle.pg_cache.specs.Caches.{Keeps, Renews, RenewsAll, WasKept}

pub none_renewed : (old : List Numbered) → RenewsAll [] old old
none_renewed old = record {
  kept = λ w has. record { bytes = w.1; has = has };
  each = λ w has. inr (has, λ no_. no_);
}

has_push : (ws : List Numbered) (w : Numbered) (i : ℕ) → Has (ws ++ w ∷ []) i → Has ws i ⊎ (w.0 ≡ i)
has_push [] w i has = ⊎_elim (λ is. inr is) (λ no_. absurd no_) has
has_push (v ∷ vs) w i has = ⊎_elim (λ is. inl (inl is)) (λ more. ⊎_elim (λ there. inl (inr there)) (λ last. inr last) (has_push vs w i more)) has

one_renewed : (ws : List Numbered) (i n : ℕ) (bytes : List ℕ) (old mid new : List Numbered) → i < length ws → (n, bytes) ≡ get_or ws i (0, []) → RenewsAll (take i ws) old mid → Renews n bytes mid new → RenewsAll (take (i + 1) ws) old new
one_renewed ws i n bytes old mid new less is all one = subst (λ (l : List Numbered). RenewsAll l old new) (sym (take_more ws i (0, []) less)) (record { kept = kept; each = each })
  where
    last : Numbered
    last = get_or ws i (0, [])

    kept : (w : Numbered) → Keeps new w → WasKept old w.0
    kept w has = ⊎_elim
        (λ stays. all.kept w stays.0)
        (λ put. subst (WasKept old) (sym (ap (λ (v : Numbered). v.0) put.0)) (all.kept (n, put.1.bytes) put.1.has))
        (one.each w has)

    each : (w : Numbered) → Keeps new w → Contains (take i ws ++ last ∷ []) w ⊎ (Keeps old w × (Has (take i ws ++ last ∷ []) w.0 → ⊥))
    each w has = ⊎_elim
        (λ stays. ⊎_elim
        (λ put. inl (Contains-append_left (take i ws) (last ∷ []) w put))
        (λ same. inr (same.0, λ there. ⊎_elim (λ before. same.1 before) (λ here. stays.1 (sym here ∙ sym (ap (λ (v : Numbered). v.0) is))) (has_push (take i ws) last w.0 there)))
        (all.each w stays.0))
        (λ put. inl (subst (Contains (take i ws ++ last ∷ [])) (sym (put.0 ∙ is)) (Contains-push (take i ws) last)))
        (one.each w has)

module _ (ws : List Numbered) (numbers : List ℕ) (are : numbers ≡ numbers_in ws) where
  pub count_kept : length numbers ≡ length ws
  count_kept = ap (λ (l : List ℕ). length l) are ∙ length-map ws (λ (w : Numbered). w.0)

  there : (i : ℕ) (bytes : List ℕ) → i < length numbers → bytes ≡ image_at i ws → (get_or numbers i 0, bytes) ≡ get_or ws i (0, [])
  there i bytes less image =
      let number : get_or numbers i 0 ≡ (get_or ws i (0, [])).0 = ap (λ (l : List ℕ). get_or l i 0) are ∙ get_or-map (λ (w : Numbered). w.0) ws i (0, []) 0 (omega (arith, less, count_kept)) in
      ap (λ (k : ℕ). (k, bytes)) number ∙ ap (λ (b : List ℕ). ((get_or ws i (0, [])).0, b)) image

  pub page_renewed : (i : ℕ) (bytes : List ℕ) (old mid new : List Numbered) → i < length numbers → bytes ≡ image_at i ws → RenewsAll (take i ws) old mid → Renews (get_or numbers i 0) bytes mid new → RenewsAll (take (i + 1) ws) old new
  page_renewed i bytes old mid new less image = one_renewed ws i (get_or numbers i 0) bytes old mid new (omega (arith, less, count_kept)) (there i bytes less image)

  -- none of its number is kept
  pub page_absent : (i : ℕ) (old mid : List Numbered) → i < length numbers → RenewsAll (take i ws) old mid → list_any (λ (w : Numbered). w.0 == get_or numbers i 0) mid ≡ false → RenewsAll (take (i + 1) ws) old mid
  page_absent i old mid less all none = page_renewed i (image_at i ws) old mid mid less refl all (none_to_renew (get_or numbers i 0) (image_at i ws) mid none)

pub all_renewed : (ws : List Numbered) (i : ℕ) (old new : List Numbered) → i ≡ length ws → RenewsAll (take i ws) old new → RenewsAll ws old new
all_renewed ws i old new all renews = subst (λ (l : List Numbered). RenewsAll l old new) (ap (λ (k : ℕ). take k ws) all ∙ take_all (length ws) ws (omega arith)) renews
