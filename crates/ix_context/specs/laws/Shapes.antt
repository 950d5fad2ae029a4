-- The changes of notes, documents and indexes put well shaped entries, whatever the content before them.
use Rattle.std.proofs.Common.{◌≡◌, ℕ, ℤ, ◌^◌, ◌<◌, ◌≤◌, true, List, [], ◌∷◌, ◌++◌, length, Option, refl, sym, subst, arith}
use Rattle.std.specs.Prelude.{Result, Ok, Err}
use Rattle.std.specs.Int.{to_be_bytes, w32}
use Rattle.ct_base.specs.Names.{IsName}
use Rattle.ct_bytes.specs.RowKeys.{row_bytes}
use Rattle.ct_bytes.specs.laws.RowKeys.{length-row_bytes}
use Rattle.ct_keep.specs.Content.{value_limit}
use Rattle.ct_entry.specs.declared.kinds.Kind.TheVariants as kind
use Rattle.ct_entry.specs.Keys.{Key, key, row_part, document_part, IsRow, IsKeyOfKind}
use Rattle.ct_entry.specs.Changes.{put_value, spell}
use Rattle.ct_entry.specs.Shapes.{IsShaped, AreShaped}
use Rattle.ct_entry.specs.laws.Parts.{has_short_keys}
use Rattle.ct_entry.specs.laws.Well.{entry_of_key, well-append}
use Rattle.tb_table.specs.declared.columns.Target.{Target}
use Rattle.tx_settings.specs.declared.preferences.Prefs.{Prefs}
use Rattle.tx_settings.specs.PrefsBytes.{IsPrefs}
use Rattle.ix_docmap.specs.Changes.{mark_changes, queue_changes}
use Rattle.ix_context.specs.laws.Well.{length-entry_le}
use Rattle.ix_rows.specs.Stores.{Tidiness}
use Rattle.ix_context.specs.Places.{IsPlace}
use Rattle.ix_context.specs.Spelling.{index_bytes, index_change}
use Rattle.ix_context.specs.Shapes.{HasContextValue, KeepsShape}

-- ---- changes

-- one that puts an entry, before others
shaped_put : (k : Key) (value : List ℕ) (ws : List (Key × Option (List ℕ))) → IsKeyOfKind k → has_short_keys k.kind ≡ true → length value ≤ value_limit → HasContextValue k value
    → AreShaped HasContextValue (spell ws) → AreShaped HasContextValue (spell (put_value k value ∷ ws))
shaped_put k value ws is short bounded has rest = (entry_of_key k value is short bounded, record { key = k; spelt = refl; parts = is; has = has }, rest)

pub shaped_note : (i : List ℕ) (r : ℤ) → IsName i → IsRow r → AreShaped HasContextValue (spell (queue_changes i r))
shaped_note i r name row = shaped_put (key kind.Pending i (row_part r)) [] [] (record { owner = name; part = (r, row, refl) }) refl (omega arith) refl tt

pub shaped_index : (i : List ℕ) (target : Target) (prefs : Prefs) (next : ℕ) (tidiness : Tidiness) (place : List ℕ) → IsName i → IsName target.table → target.column < 256 → IsPrefs prefs → next < 2 ^ 32
    → IsPlace place → AreShaped HasContextValue (spell (index_change i target prefs next tidiness place ∷ []))
shaped_index i target prefs next tidiness place name table column are fits resumes =
    shaped_put (key kind.Indexes i []) (index_bytes target.table target.column prefs next tidiness place) [] (record { owner = name; part = refl }) refl (let long = length-entry_le target.table target.column prefs next tidiness place table are resumes in omega (arith, long))
    (record { table = target.table; column = target.column; prefs = prefs; next = next; tidiness = tidiness; place = place; named = table; low = column; are = are; fits = fits; resumes = resumes; spelt = refl }) tt

-- a row becomes a document of an index
pub shaped_mark : (i : List ℕ) (d : ℕ) (r : ℤ) → IsName i → d < 2 ^ 32 → IsRow r → AreShaped HasContextValue (spell (mark_changes i d r))
shaped_mark i d r name doc row =
    shaped_put (key kind.DocumentRows i (document_part d)) (row_bytes r) (put_value (key kind.RowDocuments i (row_part r)) (to_be_bytes w32 d) ∷ [])
    (record { owner = name; part = (d, doc, refl) }) refl (let eight = length-row_bytes r in omega (arith, eight)) (r, row, refl)
    (shaped_put (key kind.RowDocuments i (row_part r)) (to_be_bytes w32 d) [] (record { owner = name; part = (r, row, refl) }) refl (omega arith) (d, doc, refl) tt)

-- ---- batches

-- well shaped changes behind others that are
pub shaped_added : (old new more : List (List ℕ × Option (List ℕ))) → new ≡ old ++ more → AreShaped HasContextValue more → AreShaped HasContextValue old → AreShaped HasContextValue new
shaped_added old new more is added are = subst (AreShaped HasContextValue) (sym is) (well-append (IsShaped HasContextValue) old more are added)

-- a call after others that kept the shape
pub keeps_then : {T E : Type 0} (old mid new : List (List ℕ × Option (List ℕ))) (result : Result T E) → (AreShaped HasContextValue old → AreShaped HasContextValue mid)
    → KeepsShape mid new result → KeepsShape old new result
keeps_then old mid new (Ok x) first keeps = λ are. keeps (first are)
keeps_then old mid new (Err e) first keeps = tt
