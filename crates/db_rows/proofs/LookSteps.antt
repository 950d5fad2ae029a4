-- How many texts are read.
use Rattle.std.proofs.Common.{◌≡◌, ◌<◌, ◌≤◌, ◌+◌, ℕ, Bool, true, false, cond, eqb, eq-eqb, List, [], ◌∷◌, ◌++◌, length, get_or, drop, Option, Some, None, refl, sym, ap, subst, ◌∙◌, add-one, arith}
use Rattle.std.specs.Prelude.{◌==◌}
use Rattle.std.specs.Map.{lookup}
use Rattle.std.proofs.Math.Seq.{drop-cons}
use Rattle.ct_keep.specs.KeeperViews.{Counts}
use Rattle.ct_keep.specs.Looks.{no_looks, one_if, RisesBy}
use Rattle.st_parse.specs.declared.statements.Cond.{Cond}
use Rattle.tb_table.specs.declared.columns.Column.{Column}
use Rattle.db_rows.specs.declared.reading.RowRead.{RowRead}
use Rattle.db_rows.specs.declared.sources.Source.{Source}
use Rattle.db_rows.specs.declared.sources.Source.TheVariants.{Key, Number, Text, Nothing}
use Rattle.db_rows.specs.Sources.{is_text_source, source_of}
use Rattle.db_rows.specs.Checking.{cond_column}
use Rattle.db_rows.specs.Reading.{cond_looks, one_text, source_looks, text_conds, texts_for, unless_known}

-- a text that was just kept is known
pub known_now : (texts : List (ℕ × Option (List ℕ))) (column : ℕ) (text : Option (List ℕ)) → lookup (λ place. eqb column place) texts ≡ None
    → lookup (λ place. eqb column place) (texts ++ (column, text) ∷ []) ≡ Some text
known_now [] column text none = ap (λ (b : Bool). cond b (Some text) None) (eq-eqb column column refl)
known_now (x ∷ xs) column text none = go (eqb column x.0) none (known_now xs column text)
  where
    go : (b : Bool) → cond b (Some x.1) (lookup (λ place. eqb column place) xs) ≡ None
        → (lookup (λ place. eqb column place) xs ≡ None → lookup (λ place. eqb column place) (xs ++ (column, text) ∷ []) ≡ Some text)
        → cond b (Some x.1) (lookup (λ place. eqb column place) (xs ++ (column, text) ∷ [])) ≡ Some text
    go true none rest = cc
    go false none rest = rest none

-- a text that wasn't read before costs one
pub rises_unknown : {X : Type 0} (known : Option X) (old new : Counts) → known ≡ None → RisesBy one_text old new → RisesBy (unless_known known) old new
rises_unknown None old new none rises = rises
rises_unknown (Some x) old new none rises = cc

-- the same value by another name
pub rises_from : (read : RowRead) (s t : Source) (old new : Counts) → s ≡ t → RisesBy (source_looks read s) old new → RisesBy (source_looks read t) old new
rises_from read s t old new same rises = subst (λ (x : Source). RisesBy (source_looks read x) old new) same rises

-- a value costs one text at most, and none where it is no text
source_rises : (read : RowRead) (s : Source) (old new : Counts) → RisesBy (source_looks read s) old new → RisesBy (record no_looks { texts = one_if (is_text_source s) }) old new
source_rises read Key old new rises = rises
source_rises read (Number place) old new rises = rises
source_rises read (Text column) old new rises = go (lookup (λ place. column == place) read.texts.items) rises
  where
    go : (known : Option (Option (List ℕ))) → RisesBy (unless_known known) old new → RisesBy one_text old new
    go None rises = rises
    go (Some text) rises = record { texts = omega (arith, rises.texts); rows = rises.rows; rules = rises.rules }
source_rises read Nothing old new rises = rises

-- So many conditions on texts are left, of so many in all; each before them has cost one text at most.
pub record LooksSoFar (left all : ℕ) (old now : Counts) : Type 0 where
  pub texts : now.texts + left ≤ old.texts + all
  pub rows : now.rows ≤ old.rows
  pub rules : now.rules ≤ old.rules

pub looks_begin : (all : ℕ) (c : Counts) → LooksSoFar all all c c
looks_begin all c = record { texts = omega arith; rows = omega arith; rules = omega arith }

module _ (columns : List Column) (conds : List Cond) where
  -- the next condition is the first of the rest
  head : (i : ℕ) (d : Cond) → i < length conds
      → text_conds columns (drop i conds) ≡ one_if (is_text_source (source_of (cond_column (get_or conds i d)) columns)) + text_conds columns (drop (i + 1) conds)
  head i d within = ap (text_conds columns) (drop-cons conds i d within) ∙ ap (λ (j : ℕ). one_if (is_text_source (source_of (cond_column (get_or conds i d)) columns)) + text_conds columns (drop j conds)) (sym (add-one i))

  pub looks_more : (i : ℕ) (d : Cond) (read : RowRead) (old mid new : Counts)
      → LooksSoFar (text_conds columns (drop i conds)) (text_conds columns conds) old mid → i < length conds → d ≡ get_or conds i d
      → RisesBy (cond_looks columns d read) mid new
      → LooksSoFar (text_conds columns (drop (i + 1) conds)) (text_conds columns conds) old new
  looks_more i d read old mid new so_far within at rises =
      let one = source_rises read (source_of (cond_column d) columns) mid new rises in
      let texts : new.texts ≤ mid.texts + one_if (is_text_source (source_of (cond_column d) columns)) = one.texts in
      let left = head i d within in
      let same = ap (λ (c : Cond). one_if (is_text_source (source_of (cond_column c) columns))) at in
      record { texts = omega (arith, so_far.texts, texts, left, same); rows = omega (arith, so_far.rows, one.rows); rules = omega (arith, so_far.rules, one.rules) }

  pub looks_end : (left : ℕ) (old new : Counts) → LooksSoFar left (text_conds columns conds) old new → RisesBy (texts_for columns conds) old new
  looks_end left old new so_far = record { texts = omega (arith, so_far.texts); rows = omega (arith, so_far.rows); rules = omega (arith, so_far.rules) }
