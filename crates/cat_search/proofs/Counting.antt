-- How many texts the steps of a walk have read.
use Rattle.std.proofs.Common.{ℕ, ◌≡◌, ◌+◌, ◌≤◌, Bool, true, false, cond, List, None, sym, subst, arith}
use Rattle.ct_keep.specs.KeeperViews.{Counts}
use Rattle.ct_keep.specs.Looks.{RisesBy, look}
use Rattle.ct_entry.specs.declared.kinds.Kind.TheVariants as kind
use Rattle.ct_entry.specs.Keys.{key, bytes}
use Rattle.cat_walk.specs.Looks.{SameTexts}
use Rattle.cat_search.specs.Looking.{ReadsTexts}

-- So many rows are left that may be read, of those that there were. Where the walk is exact none is read.
pub record ReadSoFar (exact : Bool) (rest all : ℕ) (old now : Counts) : Type 0 where
  pub texts : now.texts + cond exact 0 rest ≤ old.texts + cond exact 0 all
  pub rows : now.rows ≤ old.rows

pub read_begins : (exact : Bool) (rest all : ℕ) (old : Counts) → rest ≤ all → ReadSoFar exact rest all old old
read_begins true rest all old few = record { texts = omega arith; rows = omega arith }
read_begins false rest all old few = record { texts = omega (arith, few); rows = omega arith }

-- the next place, and the text of the row there
pub read_on : (exact : Bool) (rest next all : ℕ) (old now mid new : Counts) → ReadSoFar exact rest all old now → SameTexts now mid → ReadsTexts (cond exact 0 1) mid new → next + 1 ≤ rest
    → ReadSoFar exact next all old new
read_on true rest next all old now mid new so_far same reads fewer = record {
  texts = omega (arith, so_far.texts, same.texts, reads.texts);
  rows = omega (arith, so_far.rows, same.rows, reads.rows);
}
read_on false rest next all old now mid new so_far same reads fewer = record {
  texts = omega (arith, so_far.texts, same.texts, reads.texts, fewer);
  rows = omega (arith, so_far.rows, same.rows, reads.rows);
}

pub read_stays : (exact : Bool) (rest all : ℕ) (old now : Counts) → ReadSoFar exact rest all old now → ReadsTexts (cond exact 0 all) old now
read_stays true rest all old now so_far = record { texts = omega (arith, so_far.texts); rows = so_far.rows }
read_stays false rest all old now so_far = record { texts = omega (arith, so_far.texts); rows = so_far.rows }

pub read_ends : (exact : Bool) (rest all : ℕ) (old now new : Counts) → ReadSoFar exact rest all old now → SameTexts now new → ReadsTexts (cond exact 0 all) old new
read_ends exact rest all old now new so_far same =
    let r = read_stays exact rest all old now so_far in
    record { texts = omega (arith, r.texts, same.texts); rows = omega (arith, r.rows, same.rows) }

-- where a walk was compiled before
pub read_behind : (most : ℕ) (old mid new : Counts) → SameTexts old mid → ReadsTexts most mid new → ReadsTexts most old new
read_behind most old mid new same reads = record { texts = omega (arith, same.texts, reads.texts); rows = omega (arith, same.rows, reads.rows) }

pub read_none : (most : ℕ) (old new : Counts) → SameTexts old new → ReadsTexts most old new
read_none most old new same = record { texts = omega (arith, same.texts); rows = same.rows }

-- ---- single calls

-- the text of a row
pub text_read : (t part : List ℕ) (old new : Counts) → RisesBy (look (bytes (key kind.RowTexts t part)) None) old new → ReadsTexts 1 old new
text_read t part old new rises =
    let texts : new.texts ≤ old.texts + 1 = rises.texts in
    let rows : new.rows ≤ old.rows + 0 = rises.rows in
    record { texts = texts; rows = omega (arith, rows) }

-- nothing, or one text where the walk isn't exact
pub read_nothing : (most : ℕ) (k : Counts) → ReadsTexts most k k
read_nothing most k = record { texts = omega arith; rows = omega arith }

pub read_one : (exact : Bool) (old new : Counts) → exact ≡ false → ReadsTexts 1 old new → ReadsTexts (cond exact 0 1) old new
read_one exact old new is reads = subst (λ (b : Bool). ReadsTexts (cond b 0 1) old new) (sym is) reads
