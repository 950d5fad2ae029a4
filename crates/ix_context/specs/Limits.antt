-- What a search needs of an index.
use Rattle.std.specs.Prelude.{ℕ, ℤ, ◌≡◌, ◌≤◌, ◌<◌, ◌^◌, nat_lt, true, false, is_some, List, [], length, codes, Some, None, refl}
use Rattle.std.specs.Option.{option_and_then}
use Rattle.std.specs.Str.{IsUtf8}
use Rattle.std.specs.Ordering.{int_cmp}
use Rattle.std.specs.FinMap.{get, empty, get-empty}
use Rattle.std.proofs.Common.{sym, ap, ◌∙◌, arith}
use Rattle.ct_base.specs.declared.lists.Value.{Value}
use Rattle.ct_entry.specs.Keys.{IsRow}
use Rattle.tb_table.specs.Tables.{Table, text_in_column}
use Rattle.tx_settings.specs.Defaults.{default_prefs}
use Rattle.ix_kinds.specs.Indextypes.{IndexOf}
use Rattle.ix_context.specs.Indexes.{ContextIndex, mark_limit, no_part, texts_in}

-- Its row keys fit 64 bits, its documents 32, and the texts that it sees are UTF-8 and have at most 2 ^ 24 bytes.
pub record IsWithinLimits (t : Table) (x : IndexOf ContextIndex) : Type 0 where
  pub rows : (r : ℤ) → is_some (get x.body.marks r) ≡ true → IsRow r
  pub numbers : x.body.part.given < 2 ^ 32
  pub texts : (r : ℤ) (text : List ℕ) → texts_in t x.column r ≡ Some text → length text ≤ 2 ^ 24
  pub utf8 : (r : ℤ) (text : List ℕ) → texts_in t x.column r ≡ Some text → IsUtf8 text

-- computed examples: no index that keeps its rules has given too many documents; and an index of no row
none_gives_more : nat_lt mark_limit (2 ^ 32) ≡ true
none_gives_more = refl

of_no_row : IsWithinLimits (record { columns = []; rows = empty }) (record { table = codes "docs"; column = 1; prefs = default_prefs; body = record { part = no_part; marks = empty } })
of_no_row = record {
  rows = λ r marked. let wrong : false ≡ true = sym (ap is_some (get-empty int_cmp r)) ∙ marked in cc;
  numbers = omega arith;
  texts = λ r text seen. absurd (none r text seen);
  utf8 = λ r text seen. absurd (none r text seen);
}
  where
    none : (r : ℤ) (text : List ℕ) → texts_in (record { columns = []; rows = empty }) 1 r ≡ Some text → ⊥
    none r text seen = let wrong : None ≡ Some text = sym (ap (option_and_then (λ (vs : List Value). text_in_column vs 1)) (get-empty int_cmp r)) ∙ seen in cc
