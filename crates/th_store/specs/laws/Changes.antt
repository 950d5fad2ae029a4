-- What changes make of the entries that spell thesauri; and that these spell one state at most.
use Rattle.std.proofs.Common.{◌≡◌, ℕ, Bool, true, false, cond, List, [], Option, Some, None, refl, sym, ap, subst, ◌∙◌}
use Rattle.std.specs.Prelude.{◌&&◌}
use Rattle.std.specs.Option.{option_map}
use Rattle.std.specs.Ordering.{nat_cmp}
use Rattle.std.specs.Cmp.Lexicographic.{slice_cmp}
use Rattle.std.specs.FinMap.{get, insert, empty, get-empty, same_map, nat_cmp-IsAntisymmetric, slice_cmp-IsAntisymmetric}
use Rattle.std.proofs.lemmas.Cmp.{nat_list_cmp_total}
use Rattle.ct_entry.specs.declared.kinds.Kind.{Kind}
use Rattle.ct_entry.specs.declared.kinds.Kind.TheVariants as kind
use Rattle.ct_keep.specs.Content.{Content, after}
use Rattle.ct_entry.specs.Keys.{Key, at, same_list}
use Rattle.ct_entry.specs.Changes.{AllOf, spell, view}
use Rattle.ct_entry.specs.Maps.{altered}
use Rattle.ct_entry.specs.laws.Keys.{list_from_same}
use Rattle.ct_entry.specs.laws.Parts.{same_kind}
use Rattle.ct_entry.specs.laws.Maps.{get_name-insert}
use Rattle.ct_entry.specs.laws.Changes.{at_view, told_frame}
use Rattle.th_graph.specs.declared.pairs.TermPair.{TermPair}
use Rattle.th_store.specs.Thesauri.{PairSet, Thesauri, no_thesauri, pair_order, pair_part, with_pair, with_thesaurus}
use Rattle.th_store.specs.Spelling.{ThesauriStand, thesaurus_changes, empty_value, pair_key, pair_value, pair_changes, thesaurus_key}
use Rattle.th_store.specs.Promises.{is_of_thesauri}
use Rattle.th_store.specs.laws.Pairs.{get_pair-insert, pair_order_antisymm, pair_order_total}

-- only the entries of these kinds matter
pub thesauri_agree : (f g : Key → Option (List ℕ)) (ts : Thesauri) → ((k : Key) → is_of_thesauri k.kind ≡ true → g k ≡ f k) → ThesauriStand f ts → ThesauriStand g ts
thesauri_agree f g ts same stand = record {
  names = λ n. same (thesaurus_key n) refl ∙ stand.names n;
  pairs = λ n p. same (pair_key n p) refl ∙ stand.pairs n p;
}

pub thesauri_frame : (p : Kind → Bool) (ws : List (Key × Option (List ℕ))) (f : Key → Option (List ℕ)) (ts : Thesauri) → AllOf p ws → ((k : Kind) → is_of_thesauri k ≡ true → p k ≡ false) → ThesauriStand f ts → ThesauriStand (view ws f) ts
thesauri_frame p ws f ts all other stand = thesauri_agree f (view ws f) ts (λ k of. told_frame p ws k (f k) all (other k.kind of)) stand

-- where no entry is of these kinds, there is no thesaurus
pub no_thesaurus_stands : (f : Key → Option (List ℕ)) → ((k : Key) → is_of_thesauri k.kind ≡ true → f k ≡ None) → ThesauriStand f no_thesauri
no_thesaurus_stands f none = record {
  names = λ n. none (thesaurus_key n) refl ∙ ap (option_map empty_value) (sym (not_there n));
  pairs = λ n p. none (pair_key n p) refl ∙ ap (λ (o : Option PairSet). pair_value o p) (sym (not_there n));
}
  where
    not_there : (n : List ℕ) → get no_thesauri n ≡ None
    not_there n = get-empty (slice_cmp nat_cmp) n

-- changes of entries of other kinds leave the thesauri that entries spell, and those that a content spells
pub others_leave_thesauri : (p : Kind → Bool) (ws : List (Key × Option (List ℕ))) (f : Key → Option (List ℕ)) (ts : Thesauri) → AllOf p ws → p kind.Thesauri ≡ false → p kind.Relations ≡ false → ThesauriStand f ts → ThesauriStand (view ws f) ts
others_leave_thesauri p ws f ts all thesauri relations stand = thesauri_frame p ws f ts all other stand
  where
    other : (k : Kind) → is_of_thesauri k ≡ true → p k ≡ false
    other kind.Thesauri h = thesauri
    other kind.Relations h = relations
    other k h = cc

pub thesauri_unchanged : (p : Kind → Bool) (ws : List (Key × Option (List ℕ))) (c : Content) (ts : Thesauri) → AllOf p ws → p kind.Thesauri ≡ false → p kind.Relations ≡ false → ThesauriStand (at c) ts → ThesauriStand (at (after (spell ws) c)) ts
thesauri_unchanged p ws c ts all thesauri relations stand = subst (λ (f : Key → Option (List ℕ)). ThesauriStand f ts) (sym (at_view ws c)) (others_leave_thesauri p ws (at c) ts all thesauri relations stand)

-- ---- a new thesaurus

pub created_stands : (f : Key → Option (List ℕ)) (ts : Thesauri) (name : List ℕ) → get ts name ≡ None → ThesauriStand f ts → ThesauriStand (view (thesaurus_changes name) f) (with_thesaurus ts name)
created_stands f ts name none stand = record {
  names = λ n.
      ap (λ (b : Bool). cond b (Some []) (f (thesaurus_key n))) (same_kind kind.Thesauri n name [] [])
      ∙ ap (cond (same_list n name && true) (Some [])) (stand.names n)
      ∙ at_name (same_list n name) (get ts n)
      ∙ ap (option_map empty_value) (sym (get_name-insert ts name empty n));
  pairs = λ n p. stand.pairs n p ∙ at_pair n p (same_list n name) refl ∙ ap (λ (o : Option PairSet). pair_value o p) (sym (get_name-insert ts name empty n));
}
  where
    at_name : (b : Bool) (o : Option PairSet) → cond (b && true) (Some []) (option_map empty_value o) ≡ option_map empty_value (cond b (Some empty) o)
    at_name true o = refl
    at_name false o = refl

    at_pair : (n : List ℕ) (p : TermPair) (b : Bool) → same_list n name ≡ b → pair_value (get ts n) p ≡ pair_value (cond b (Some empty) (get ts n)) p
    at_pair n p true same = ap (λ (o : Option PairSet). pair_value o p) (ap (get ts) (list_from_same n name same) ∙ none) ∙ sym (ap (option_map empty_value) (get-empty pair_order p))
    at_pair n p false other = refl

-- ---- a pair more

pub pair_put : (ts : Thesauri) (name : List ℕ) (ps : PairSet) (p : TermPair) → get ts name ≡ Some ps → with_pair ts name p ≡ insert ts name (insert ps p tt)
pair_put ts name ps p is = ap (λ (o : Option PairSet). altered ts name (λ qs. insert qs p tt) o) is

pub related_stands : (f : Key → Option (List ℕ)) (ts : Thesauri) (name : List ℕ) (ps : PairSet) (p : TermPair) → get ts name ≡ Some ps → ThesauriStand f ts → ThesauriStand (view (pair_changes name p) f) (with_pair ts name p)
related_stands f ts name ps p is stand = subst (λ (us : Thesauri). ThesauriStand (view (pair_changes name p) f) us) (sym (pair_put ts name ps p is)) (record {
  names = λ n. stand.names n ∙ at_name n (same_list n name) refl ∙ ap (option_map empty_value) (sym (get_name-insert ts name (insert ps p tt) n));
  pairs = λ n q.
      ap (λ (b : Bool). cond b (Some []) (f (pair_key n q))) (same_kind kind.Relations n name (pair_part q) (pair_part p))
      ∙ ap (cond (same_list n name && same_list (pair_part q) (pair_part p)) (Some [])) (stand.pairs n q)
      ∙ at_pair n q (same_list n name) refl
      ∙ ap (λ (o : Option PairSet). pair_value o q) (sym (get_name-insert ts name (insert ps p tt) n));
})
  where
    at_name : (n : List ℕ) (b : Bool) → same_list n name ≡ b → option_map empty_value (get ts n) ≡ option_map empty_value (cond b (Some (insert ps p tt)) (get ts n))
    at_name n true same = ap (option_map empty_value) (ap (get ts) (list_from_same n name same) ∙ is)
    at_name n false other = refl

    put : (b : Bool) (o : Option (Unit {0})) → cond b (Some []) (option_map empty_value o) ≡ option_map empty_value (cond b (Some tt) o)
    put true o = refl
    put false o = refl

    at_pair : (n : List ℕ) (q : TermPair) (b : Bool) → same_list n name ≡ b → cond (b && same_list (pair_part q) (pair_part p)) (Some []) (pair_value (get ts n) q) ≡ pair_value (cond b (Some (insert ps p tt)) (get ts n)) q
    at_pair n q true same =
        ap (λ (o : Option PairSet). cond (same_list (pair_part q) (pair_part p)) (Some []) (pair_value o q)) (ap (get ts) (list_from_same n name same) ∙ is)
        ∙ put (same_list (pair_part q) (pair_part p)) (get ps q)
        ∙ ap (option_map empty_value) (sym (get_pair-insert ps p q))
    at_pair n q false other = refl

-- ---- one state

one_unit : (o p : Option (Unit {0})) → option_map empty_value o ≡ option_map empty_value p → o ≡ p
one_unit None None e = refl
one_unit None (Some y) e = cc
one_unit (Some x) None e = cc
one_unit (Some x) (Some y) e = refl

pub one_thesauri : (f : Key → Option (List ℕ)) (ts us : Thesauri) → ThesauriStand f ts → ThesauriStand f us → ts ≡ us
one_thesauri f ts us first second = same_map nat_list_cmp_total (slice_cmp-IsAntisymmetric nat_cmp-IsAntisymmetric) ts us same
  where
    same : (n : List ℕ) → get ts n ≡ get us n
    same n = go (get ts n) (get us n) refl refl (sym (first.names n) ∙ second.names n)
      where
        go : (o p : Option PairSet) → get ts n ≡ o → get us n ≡ p → option_map empty_value (get ts n) ≡ option_map empty_value (get us n) → get ts n ≡ get us n
        go None None e d there = e ∙ sym d
        go None (Some qs) e d there = let wrong : ◌≡◌ {A = Option (List ℕ)} None (Some []) = sym (ap (option_map empty_value) e) ∙ there ∙ ap (option_map empty_value) d in cc
        go (Some ps) None e d there = let wrong : ◌≡◌ {A = Option (List ℕ)} (Some []) None = sym (ap (option_map empty_value) e) ∙ there ∙ ap (option_map empty_value) d in cc
        go (Some ps) (Some qs) e d there =
            let one : ps ≡ qs = same_map pair_order_total pair_order_antisymm ps qs (λ p. one_unit (get ps p) (get qs p)
            (sym (ap (λ (o : Option PairSet). pair_value o p) e) ∙ sym (first.pairs n p) ∙ second.pairs n p ∙ ap (λ (o : Option PairSet). pair_value o p) d)) in
            e ∙ ap Some one ∙ sym d
