-- Steps of putting indexes that are tidy as ones that aren't.
use Rattle.std.proofs.Common.{◌≡◌, ◌≤◌, ◌+◌, ℕ, Bool, true, false, cond, List, [], ◌∷◌, ◌++◌, length, Option, Result, Ok, Err, Some, None, refl, sym, ap, subst, ◌∙◌, append_assoc, inl, inr, arith}
use Rattle.std.specs.Prelude.{IfOk, max}
use Rattle.std.specs.Option.{option_map}
use Rattle.std.specs.FinMap.{get}
use Rattle.std.proofs.lemmas.Option.{same_Some}
use Rattle.ct_keep.specs.Content.{Content, after, set_to, weight, value_weight}
use Rattle.ct_keep.specs.laws.Content.{weight-set_to}
use Rattle.ct_entry.specs.Keys.{Key, at, bytes, same_key}
use Rattle.ct_entry.specs.Changes.{spell}
use Rattle.ct_entry.specs.Maps.{Names}
use Rattle.ct_entry.specs.laws.Changes.{at-set_to, spell-append}
use Rattle.ct_entry.specs.laws.Keys.{key_from_same}
use Rattle.ct_entry.specs.laws.Lists.{each_is-append}
use Rattle.tb_table.specs.Tables.{Tables}
use Rattle.ix_kinds.specs.Indextypes.{IndexOf, with_body}
use Rattle.ix_kinds.specs.Statements.{untidying_in, untidying_at}
use Rattle.ix_context.specs.Indexes.{ContextIndex}
use Rattle.ix_context.specs.Contents.{HoldsContext}
use Rattle.ix_context.specs.Contexts.{context}
use Rattle.ix_context.specs.Untidying.{AreAsLong, AddsAsLong}
use Rattle.cat_index.specs.Catalogues.{CatalogueBody}
use Rattle.ix_indexes.specs.declared.loading.TableIndex.{TableIndex}
use Rattle.ix_indexes.specs.Indexes.{Body, Defined, Index, kinds}
use Rattle.ix_indexes.specs.Noting.{Noted, InContext, InCatalogue, InRules, IsNotedOf, HoldsIndexes, all_untidying, noted_in, noted_indexes}
use Rattle.ix_indexes.specs.laws.Indexes.{holds_context}

-- ---- values that are as long as those that they replace

same_weight : (key : List ℕ) (a b : Option (List ℕ)) → option_map length a ≡ option_map length b → value_weight key a ≡ value_weight key b
same_weight key None None same = refl
same_weight key None (Some b) same = let wrong : None ≡ Some (length b) = same in cc
same_weight key (Some a) None same = let wrong : Some (length a) ≡ None = same in cc
same_weight key (Some a) (Some b) same = ap (λ (n : ℕ). max 64 (length key + n)) (same_Some (length a) (length b) same)

-- they leave the weight of a content
long_weight : (ws : List (Key × Option (List ℕ))) (m : Content) → AreAsLong (at m) ws → weight (after (spell ws) m) ≡ weight m
long_weight [] m long = refl
long_weight (w ∷ ws) m long = long_weight ws (set_to (bytes w.0) w.1 m) (later ws long.1) ∙ one
  where
    same : (k : Key) (b : Bool) → same_key k w.0 ≡ b → option_map length (cond b w.1 (at m k)) ≡ option_map length (at m k)
    same k true is = long.0 ∙ ap (λ (j : Key). option_map length (at m j)) (sym (key_from_same k w.0 is))
    same k false is = refl

    later : (vs : List (Key × Option (List ℕ))) → AreAsLong (at m) vs → AreAsLong (at (set_to (bytes w.0) w.1 m)) vs
    later [] all = tt
    later (v ∷ vs) all = (all.0 ∙ sym (ap (option_map length) (at-set_to m w.0 w.1 v.0) ∙ same v.0 (same_key v.0 w.0) refl), later vs all.1)

    one : weight (set_to (bytes w.0) w.1 m) ≡ weight m
    one =
        let both = weight-set_to (bytes w.0) w.1 m in
        let equal = same_weight (bytes w.0) w.1 (get m (bytes w.0)) long.0 in
        omega (arith, both, equal)

pub light_so : (m : Content) (notes : List (List ℕ × Option (List ℕ))) → AddsAsLong (at m) [] notes → weight (after notes m) ≤ weight m
light_so m notes adds =
    let same = long_weight adds.changes m adds.long in
    subst (λ (ns : List (List ℕ × Option (List ℕ))). weight (after ns m) ≤ weight m) (sym adds.adds) (omega (arith, same))

pub long_none : (f : Key → Option (List ℕ)) → AddsAsLong f [] []
long_none f = record { changes = []; adds = refl; long = tt }

pub long_both : (f : Key → Option (List ℕ)) (a b : List (List ℕ × Option (List ℕ))) → AddsAsLong f [] a → AddsAsLong f [] b → AddsAsLong f [] (a ++ b)
long_both f a b first second = record {
  changes = first.changes ++ second.changes;
  adds = (λ j. first.adds j ++ second.adds j) ∙ sym (spell-append first.changes second.changes);
  long = each_is-append (λ (w : Key × Option (List ℕ)). option_map length w.1 ≡ option_map length (f w.0)) first.changes second.changes first.long second.long;
}

-- ---- one index

module _ (m : Content) (ts : Tables) (xs : Names Index) (i : List ℕ) where
  abbrev put : List (Key × Option (List ℕ))
  put = untidying_at kinds (at m) xs i

  -- a CONTEXT index
  pub context_put : (column : ℕ) (notes : List (List ℕ × Option (List ℕ)))
      → ((us : Tables) (x : IndexOf ContextIndex) → HoldsContext m us i x → notes ≡ spell (untidying_in (context {D = Defined}) (at m) i (Some x)))
      → HoldsIndexes m ts xs → IsNotedOf xs (i, InContext column) → notes ≡ spell put
  context_put column notes gives holds noted = go noted.0 noted.0.body refl noted.1 noted.2
    where
      go : (x : Index) (b : Body) → x.body ≡ b → get xs i ≡ Some x → noted_in x x.body ≡ InContext column → notes ≡ spell put
      go x (inl c) is here of =
          let same : get xs i ≡ Some (with_body x (inl c)) = here ∙ ap (λ (b : Body). Some (with_body x b)) is in
          gives ts (with_body x c)
          (holds_context m ts xs (record { only = holds.only; stand = holds.tables; rules = holds.hold.tables }) holds.hold.stand holds.hold.rules i (with_body x c) same)
          ∙ ap (λ (o : Option Index). spell (untidying_in kinds (at m) i o)) (sym same)
      go x (inr (inl b)) is here of = let wrong : InCatalogue (with_body x b) ≡ InContext column = sym (ap (noted_in x) is) ∙ of in cc
      go x (inr (inr b)) is here of = let wrong : InRules x.column ≡ InContext column = sym (ap (noted_in x) is) ∙ of in cc

  -- of one of another kind nothing is put
  none_put : (n : Noted) → ((c : ContextIndex) (x : Index) → noted_in x (inl c) ≡ n → ⊥) → IsNotedOf xs (i, n) → [] ≡ spell put
  none_put n other noted = go noted.0 noted.0.body refl noted.1 noted.2
    where
      go : (x : Index) (b : Body) → x.body ≡ b → get xs i ≡ Some x → noted_in x x.body ≡ n → [] ≡ spell put
      go x (inl c) is here of = absurd (other c x (sym (ap (noted_in x) is) ∙ of))
      go x (inr (inl b)) is here of = ap (λ (o : Option Index). spell (untidying_in kinds (at m) i o)) (sym (here ∙ ap (λ (b : Body). Some (with_body x b)) is))
      go x (inr (inr b)) is here of = ap (λ (o : Option Index). spell (untidying_in kinds (at m) i o)) (sym (here ∙ ap (λ (b : Body). Some (with_body x b)) is))

  pub catalogue_put : (x : IndexOf CatalogueBody) → IsNotedOf xs (i, InCatalogue x) → [] ≡ spell put
  catalogue_put x noted = none_put (InCatalogue x) (λ c y of. let wrong : InContext y.column ≡ InCatalogue x = of in cc) noted

  pub rules_put : (column : ℕ) → IsNotedOf xs (i, InRules column) → [] ≡ spell put
  rules_put column noted = none_put (InRules column) (λ c y of. let wrong : InContext y.column ≡ InRules column = of in cc) noted

-- what is found of a CONTEXT index is what is put of it
pub context_found : {E : Type 0} (m : Content) (i : List ℕ) (column : ℕ) (result : Result (List (List ℕ × Option (List ℕ))) E)
    → IfOk result (λ notes. (us : Tables) (x : IndexOf ContextIndex) → HoldsContext m us i x → notes ≡ spell (untidying_in (context {D = Defined}) (at m) i (Some x)))
    → IfOk result (λ notes. (ts : Tables) (xs : Names Index) → HoldsIndexes m ts xs → IsNotedOf xs (i, InContext column) → notes ≡ spell (untidying_at kinds (at m) xs i))
context_found m i column (Ok notes) gives = λ ts xs holds noted. context_put m ts xs i column notes gives holds noted
context_found m i column (Err fault) gives = tt

-- ---- the indexes one after the other

pub next_put : (f : Key → Option (List ℕ)) (xs : Names Index) (whole before new one : List (List ℕ × Option (List ℕ))) (rest later : List TableIndex) (x : TableIndex)
    → rest ≡ x ∷ later → one ≡ spell (untidying_at kinds f xs x.name) → new ≡ before ++ one
    → before ++ spell (all_untidying f xs (noted_indexes rest)) ≡ whole → new ++ spell (all_untidying f xs (noted_indexes later)) ≡ whole
next_put f xs whole before new one rest later x are noted is all =
    ap (λ (ws : List (List ℕ × Option (List ℕ))). ws ++ spell (all_untidying f xs (noted_indexes later))) is
    ∙ append_assoc before one (spell (all_untidying f xs (noted_indexes later)))
    ∙ ap (λ (ws : List (List ℕ × Option (List ℕ))). before ++ (ws ++ spell (all_untidying f xs (noted_indexes later)))) noted
    ∙ ap (λ (ws : List (List ℕ × Option (List ℕ))). before ++ ws) (sym (spell-append (untidying_at kinds f xs x.name) (all_untidying f xs (noted_indexes later))))
    ∙ ap (λ (l : List TableIndex). before ++ spell (all_untidying f xs (noted_indexes l))) (sym are)
    ∙ all
