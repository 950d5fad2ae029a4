-- All thesauri are those of all names.
use Rattle.std.proofs.Common.{◌≡◌, ℕ, Bool, true, false, cond, List, [], ◌∷◌, ◌++◌, map, Some, refl, sym, ap, ◌∙◌, inl, inr, append_assoc}
use Rattle.std.specs.Prelude.{◌&&◌, ◌||◌, is_some}
use Rattle.std.specs.Option.{option_map}
use Rattle.std.specs.FinMap.{get, entries, find, get-entries}
use Rattle.std.specs.Ordering.{nat_cmp, eq_by_cmp}
use Rattle.std.specs.Cmp.Lexicographic.{slice_cmp}
use Rattle.std.proofs.lemmas.Bool.{and_parts}
use Rattle.std.proofs.lemmas.Cmp.{nat_list_cmp_total}
use Rattle.std.proofs.lemmas.List.{append-nil}
use Rattle.std.proofs.lemmas.Map.Text.{is_eq-slice_cmp}
use Rattle.ct_keep.specs.laws.RisingKeys.{below, rises, entries_rise}
use Rattle.ct_entry.specs.Lists.{IsIn}
use Rattle.ct_entry.specs.laws.MapEntries.{in_get}
use Rattle.th_graph.specs.declared.pairs.TermPair.{TermPair}
use Rattle.th_graph.specs.Rising.{is_among_terms, is_less, rise}
use Rattle.th_graph.specs.laws.Rising.{one_rising}
use Rattle.th_store.specs.Thesauri.{PairSet, Thesauri, pairs_of}
use Rattle.th_store.specs.Sees.{AreNames}
use Rattle.rule_index.specs.Outcomes.{NamedThesauri}
use Rattle.db_state.specs.States.{named_in}
use Rattle.db_index.specs.Thesauri.{pairs_named, thesauri_at, thesaurus_at}

abbrev names_in : List (List ℕ × PairSet) → List (List ℕ)
names_in es = map {B = List ℕ} (λ e. e.0) es

-- ---- the names of a map rise, and are those that it has

names_rise : (es : List (List ℕ × PairSet)) → rises (slice_cmp nat_cmp) es ≡ true → rise (names_in es) ≡ true
names_rise [] h = refl
names_rise (e ∷ []) h = refl
names_rise (e ∷ d ∷ es) h =
    let b = and_parts (below (slice_cmp nat_cmp) e.0 (d ∷ es)) (rises (slice_cmp nat_cmp) (d ∷ es)) h in
    let first = and_parts (is_less e.0 d.0) (below (slice_cmp nat_cmp) e.0 es) b.0 in
    ap (λ (x : Bool). x && rise (names_in (d ∷ es))) first.0 ∙ names_rise (d ∷ es) b.1

among_found : (name : List ℕ) (es : List (List ℕ × PairSet)) → is_among_terms name (names_in es) ≡ is_some (find (slice_cmp nat_cmp) name es)
among_found name [] = refl
among_found name (e ∷ es) = ap (λ (x : Bool). x || is_among_terms name (names_in es)) (sym (is_eq-slice_cmp name e.0)) ∙ go (eq_by_cmp (slice_cmp nat_cmp) name e.0) (among_found name es)
  where
    go : (b : Bool) → is_among_terms name (names_in es) ≡ is_some (find (slice_cmp nat_cmp) name es) → (b || is_among_terms name (names_in es)) ≡ is_some (cond b (Some e.1) (find (slice_cmp nat_cmp) name es))
    go true rest = refl
    go false rest = rest

-- so the names that were read are those of the map
names_are : (ts : Thesauri) (names : List (List ℕ)) → AreNames names ts → names ≡ names_in (entries ts)
names_are ts names are =
    one_rising names (names_in (entries ts)) are.rises (names_rise (entries ts) (entries_rise (slice_cmp nat_cmp) ts))
    (λ name. are.each name ∙ ap is_some (get-entries ts name) ∙ sym (among_found name (entries ts)))

-- ---- the thesauri of these names

-- those of a list of entries, of which each is what the map has under its name
each_there : (ts : Thesauri) (es : List (List ℕ × PairSet)) → ((e : List ℕ × PairSet) → IsIn e es → get ts e.0 ≡ Some e.1) → thesauri_at ts (names_in es) ≡ map {B = List ℕ × List TermPair} (λ (e : List ℕ × PairSet). (e.0, pairs_of e.1)) es
each_there ts [] are = refl
each_there ts (e ∷ es) are = λ j. pairs_named e.0 (option_map pairs_of (are e (inl refl) j)) ++ each_there ts es (λ d there. are d (inr there)) j

-- ALL THAT WERE LOADED, by the names that were read, are those of the state
pub all_loaded : (ts : Thesauri) (names : List (List ℕ)) (loaded : NamedThesauri) → AreNames names ts → loaded ≡ thesauri_at ts names → loaded ≡ named_in ts
all_loaded ts names loaded are is = is ∙ ap (thesauri_at ts) (names_are ts names are) ∙ each_there ts (entries ts) (λ e there. in_get nat_list_cmp_total ts e there)

-- ---- one name after the other

-- what is loaded, and what is still to come, are all
pub load_on : (ts : Thesauri) (all rest later : List (List ℕ)) (name : List ℕ) (old new : NamedThesauri) → old ++ thesauri_at ts rest ≡ thesauri_at ts all → rest ≡ name ∷ later → new ≡ old ++ thesaurus_at ts name
    → new ++ thesauri_at ts later ≡ thesauri_at ts all
load_on ts all rest later name old new so_far is more =
    ap (λ (l : NamedThesauri). l ++ thesauri_at ts later) more ∙ append_assoc old (thesaurus_at ts name) (thesauri_at ts later) ∙ ap (λ (l : List (List ℕ)). old ++ thesauri_at ts l) (sym is) ∙ so_far

pub load_ends : (ts : Thesauri) (all rest : List (List ℕ)) (loaded : NamedThesauri) → loaded ++ thesauri_at ts rest ≡ thesauri_at ts all → rest ≡ [] → loaded ≡ thesauri_at ts all
load_ends ts all rest loaded so_far none = sym (append-nil loaded) ∙ ap (λ (l : List (List ℕ)). loaded ++ thesauri_at ts l) (sym none) ∙ so_far
