-- Pages at rest, made one after the other; and changed pages put to rest.
use Rattle.std.proofs.Common.{◌≡◌, ⊎_elim, inl, inr, ℕ, zero, suc, ◌+◌, ◌<◌, ◌≤◌, List, [], ◌∷◌, ◌++◌, length, get_or, take, refl, sym, ap, subst, ◌∙◌, arith}
use Rattle.std.proofs.lemmas.Bool.{cases_eq}
use Rattle.std.proofs.lemmas.List.{length-map, take_all, take_more}
use Rattle.pg_map.specs.Kinds.{Each, Kind, Free, Slotted}
use Rattle.pg_window.specs.declared.sheets.Sheet.{Sheet}
use Rattle.pg_window.specs.declared.sheets.Sheet.TheVariants.{Free as FreeSheet, Away as AwaySheet}
use Rattle.pg_window.specs.Sheets.{sheet_kind, sheet_kinds}
use Rattle.pg_plan.specs.FreePlaces.{one_if_free, free_at, ListsFree}
use Rattle.pg_plan.specs.laws.Freeing.{times-append, one_here, one_elsewhere}
use Rattle.pg_change.specs.Resting.{AtRest, IsResting}

free_end : (ks : List Kind) (k : Kind) → free_at (ks ++ k ∷ []) (length ks) ≡ one_if_free k
free_end [] k = refl
free_end (j ∷ ks) k = free_end ks k

free_before : (ks : List Kind) (k : Kind) (at : ℕ) → (length ks ≡ at → ⊥) → free_at (ks ++ k ∷ []) at ≡ free_at ks at
free_before [] k zero apart = absurd (apart refl)
free_before [] k (suc at) apart = refl
free_before (j ∷ ks) k zero apart = refl
free_before (j ∷ ks) k (suc at) apart = free_before ks k at (λ e. apart (ap suc e))

free_past : (ks : List Kind) → free_at ks (length ks) ≡ 0
free_past [] = refl
free_past (k ∷ ks) = free_past ks

listed_free : (ks : List Kind) (free : List ℕ) → ListsFree ks free → ListsFree (ks ++ Free ∷ []) (free ++ length ks ∷ [])
listed_free ks free l = record {
  each = λ at. let a = times-append free (length ks ∷ []) at in let b = l.each at in ⊎_elim
      (λ e. let c = one_here (length ks) at e in let d = ap (λ (n : ℕ). free_at (ks ++ Free ∷ []) n) (sym e) ∙ free_end ks Free in let f = ap (λ (n : ℕ). free_at ks n) (sym e) ∙ free_past ks in omega (arith, a, b, c, d, f))
      (λ apart. let c = one_elsewhere (length ks) at apart in let d = free_before ks Free at apart in omega (arith, a, b, c, d))
      (cases_eq (length ks) at);
}

listed_away : (ks : List Kind) (free : List ℕ) → ListsFree ks free → ListsFree (ks ++ Slotted [] ∷ []) free
listed_away ks free l = record {
  each = λ at. let b = l.each at in ⊎_elim
      (λ e. let d = ap (λ (n : ℕ). free_at (ks ++ Slotted [] ∷ []) n) (sym e) ∙ free_end ks (Slotted []) in let f = ap (λ (n : ℕ). free_at ks n) (sym e) ∙ free_past ks in omega (arith, b, d, f))
      (λ apart. let d = free_before ks (Slotted []) at apart in omega (arith, b, d))
      (cases_eq (length ks) at);
}

each_push : (sheets : List Sheet) (s : Sheet) → Each AtRest sheets → AtRest s → Each AtRest (sheets ++ s ∷ [])
each_push [] s each rests = (rests, tt)
each_push (x ∷ sheets) s each rests = (each.0, each_push sheets s each.1 rests)

kinds_push : (sheets : List Sheet) (s : Sheet) → sheet_kinds (sheets ++ s ∷ []) ≡ sheet_kinds sheets ++ sheet_kind s ∷ []
kinds_push [] s = refl
kinds_push (x ∷ sheets) s = ap (λ (l : List Kind). sheet_kind x ∷ l) (kinds_push sheets s)

-- The first pages of a store at rest, with the first of the places of free ones.
pub record RestsSo (sheets : List Sheet) (free : List ℕ) : Type 0 where
  pub rests : Each AtRest sheets
  pub listed : ListsFree (sheet_kinds sheets) free

pub none_rest : RestsSo [] []
none_rest = record { rests = tt; listed = record { each = λ at. refl } }

-- a free page more
pub free_rests : (sheets now : List Sheet) (free : List ℕ) (next : ℕ) → now ≡ sheets ++ FreeSheet ∷ [] → next < length free → get_or free next 0 ≡ length sheets → RestsSo sheets (take next free) → RestsSo now (take (next + 1) free)
free_rests sheets now free next is less here_ r =
    let places : take (next + 1) free ≡ take next free ++ length (sheet_kinds sheets) ∷ [] =
    take_more free next 0 less ∙ ap (λ (n : ℕ). take next free ++ n ∷ []) (here_ ∙ sym (length-map sheets sheet_kind)) in
    subst (λ (l : List Sheet). RestsSo l (take (next + 1) free)) (sym is) (record {
      rests = each_push sheets FreeSheet r.rests (inl refl);
      listed = subst (λ (ks : List Kind). ListsFree ks (take (next + 1) free)) (sym (kinds_push sheets FreeSheet))
          (subst (λ (l : List ℕ). ListsFree (sheet_kinds sheets ++ Free ∷ []) l) (sym places) (listed_free (sheet_kinds sheets) (take next free) r.listed));
    })

-- one more that is away
pub away_rests : (sheets now : List Sheet) (free : List ℕ) → now ≡ sheets ++ AwaySheet ∷ [] → RestsSo sheets free → RestsSo now free
away_rests sheets now free is r = subst (λ (l : List Sheet). RestsSo l free) (sym is) (record {
  rests = each_push sheets AwaySheet r.rests (inr refl);
  listed = subst (λ (ks : List Kind). ListsFree ks free) (sym (kinds_push sheets AwaySheet)) (listed_away (sheet_kinds sheets) free r.listed);
})

-- all of them
pub rests_whole : (sheets : List Sheet) (free : List ℕ) (count next : ℕ) → length sheets ≡ count → length free ≤ next → RestsSo sheets (take next free) → IsResting sheets (3 + count) free
rests_whole sheets free count next is all r = record {
  count = omega (arith, is);
  rests = r.rests;
  listed = subst (λ (l : List ℕ). ListsFree (sheet_kinds sheets) l) (take_all next free all) r.listed;
}
