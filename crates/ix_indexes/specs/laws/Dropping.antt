-- Changes that only take entries away, as those of a row that goes do.
use Rattle.std.proofs.Common.{◌≡◌, ℕ, ℤ, ◌+◌, Bool, false, List, [], ◌∷◌, ◌++◌, map, Option, Some, None, refl, sym, subst}
use Rattle.ct_base.specs.declared.lists.Value.{Value}
use Rattle.ct_entry.specs.Keys.{Key}
use Rattle.ct_entry.specs.Changes.{spell}
use Rattle.ct_entry.specs.Each.{each}
use Rattle.ct_entry.specs.Removals.{OnlyRemoves}
use Rattle.ix_kinds.specs.Rows.{RowChange}
use Rattle.ix_docmap.specs.Changes.{gone_changes}
use Rattle.ix_docmap.specs.Readings.{document_at}
use Rattle.cat_index.specs.Catalogues.{filing}
use Rattle.cat_index.specs.Changes.{in_each, words_change}
use Rattle.rule_index.specs.Changes.{filing_change, rule_changes}
use Rattle.rule_index.specs.Spelling.{anchors_at}
use Rattle.ix_indexes.specs.Noting.{AllDrop, InCatalogue, InContext, InRules, IsGoing, IsToldBy, Noted, all_noted_changes, noted_changes}
use Rattle.ix_indexes.specs.declared.noting.RowEvent.{RowEvent}
use Rattle.ix_indexes.specs.declared.noting.RowEvent.TheVariants.{Comes, Changes, Goes}

-- ---- of lists of changes

pub drop-append : {A : Type 0} (xs ys : List (A × Option (List ℕ))) → AllDrop xs → AllDrop ys → AllDrop (xs ++ ys)
drop-append [] ys a b = b
drop-append (x ∷ xs) ys a b = (a.0, drop-append xs ys a.1 b)

pub drop_each : {I : Type 0} (changes : I → List (Key × Option (List ℕ))) → ((i : I) → AllDrop (changes i)) → (is : List I) → AllDrop (each changes is)
drop_each changes one [] = tt
drop_each changes one (i ∷ is) = drop-append (changes i) (each changes is) (one i) (drop_each changes one is)

pub drop_spelt : (ws : List (Key × Option (List ℕ))) → AllDrop ws → AllDrop (spell ws)
drop_spelt [] all = tt
drop_spelt (w ∷ ws) all = (all.0, drop_spelt ws all.1)

-- where only removals were added to some that drop
pub drop_removed : (old new : List (List ℕ × Option (List ℕ))) → AllDrop old → OnlyRemoves old new → AllDrop new
drop_removed old new before removes = subst AllDrop (sym removes.is) (drop-append old (map (λ k. (k, None)) removes.keys) before (each_drops removes.keys))
  where
    each_drops : (keys : List (List ℕ)) → AllDrop (map (λ k. (k, None)) keys)
    each_drops [] = tt
    each_drops (k ∷ ks) = (refl, each_drops ks)

-- ---- of a row that goes

drop_gone : (i : List ℕ) (r : ℤ) (o : Option ℕ) → AllDrop (gone_changes i r o)
drop_gone i r None = (refl, tt)
drop_gone i r (Some d) = (refl, (refl, tt))

drop_words : (i : List ℕ) (r : ℤ) (n : ℕ) (words : List (List ℕ)) (v : List ℕ) → AllDrop (words_change i r n words false v)
drop_words i r n [] v = tt
drop_words i r n (w ∷ ws) v = (refl, drop_words i r n ws v)

drop_values : (i : List ℕ) (r : ℤ) (n : ℕ) (words vs : List (List ℕ)) → AllDrop (in_each (λ sub v. words_change i r sub words false v) n vs)
drop_values i r n words [] = tt
drop_values i r n words (v ∷ vs) = drop-append (words_change i r n words false v) (in_each (λ sub v. words_change i r sub words false v) (n + 1) vs) (drop_words i r n words v) (drop_values i r (n + 1) words vs)

drop_filed : (i : List ℕ) (r : ℤ) (anchors : List (List ℕ)) (rest : List (Key × Option (List ℕ))) → AllDrop rest → AllDrop (map (filing_change false i r) anchors ++ rest)
drop_filed i r [] rest all = all
drop_filed i r (a ∷ as') rest all = (refl, drop_filed i r as' rest all)

drop_rule : (i : List ℕ) (r : ℤ) (old : Option (List Value)) (anchors : List (List ℕ)) → AllDrop (rule_changes i r old None anchors)
drop_rule i r None anchors = tt
drop_rule i r (Some vs) anchors = (refl, (refl, drop_filed i r anchors _ (refl, tt)))

drop_row : (f : Key → Option (List ℕ)) (r : ℤ) (old : Option (List Value)) (i : List ℕ) (n : Noted) → AllDrop (noted_changes f (record { row = r; old = old; new = None }) i n)
drop_row f r None i (InContext column) = tt
drop_row f r (Some vs) i (InContext column) = drop_gone i r (document_at f i r)
drop_row f r None i (InCatalogue x) = tt
drop_row f r (Some vs) i (InCatalogue x) = drop_values i r 0 (filing x r vs).words (filing x r vs).values
drop_row f r old i (InRules column) = drop_rule i r old (anchors_at f i r)

pub drop_one : (f : Key → Option (List ℕ)) (c : RowChange) (i : List ℕ) (n : Noted) → c.new ≡ None → AllDrop (noted_changes f c i n)
drop_one f c i n gone = subst (λ (d : RowChange). AllDrop (noted_changes f d i n)) (λ j. record { row = c.row; old = c.old; new = sym gone j }) (drop_row f c.row c.old i n)

-- what indexes are told of it
pub notes_drop : (f : Key → Option (List ℕ)) (c : RowChange) (es : List (List ℕ × Noted)) → c.new ≡ None → AllDrop (all_noted_changes f c es)
notes_drop f c es gone = drop_each (λ (e : List ℕ × Noted). noted_changes f c e.0 e.1) (λ e. drop_one f c e.0 e.1 gone) es

-- where the event says so
pub is_gone : (event : RowEvent) (matter : Bool) (r : ℤ) (c : RowChange) → IsGoing event → IsToldBy event matter r c → c.new ≡ None
is_gone (Comes new) matter r c going told = absurd going
is_gone (Changes old new) matter r c going told = absurd going
is_gone (Goes old) matter r c going told = told.is.1
