-- The changes of rule indexes put well shaped entries, whatever the content before them.
use Rattle.std.specs.Prelude.{ℕ, ℤ, ◌≡◌, ◌≤◌, ◌<◌, nat_le, true, false, ◌&&◌, List, [], ◌∷◌, ◌++◌, length, map, Option, Some, None, refl}
use Rattle.std.specs.List.{list_all}
use Rattle.std.specs.Str.{is_utf8}
use Rattle.std.proofs.Common.{arith, sym, subst, length-append}
use Rattle.std.proofs.lemmas.Bool.{and_parts, leb-true}
use Rattle.ct_base.specs.Names.{IsName}
use Rattle.ct_base.specs.Limits.{token_limit}
use Rattle.ct_base.specs.laws.Names.{name_length}
use Rattle.ct_bytes.specs.Varints.{text_bytes}
use Rattle.ct_entry.specs.declared.kinds.Kind.TheVariants as kind
use Rattle.ct_entry.specs.Keys.{IsKeyOfKind, Key, key, row_part, anchor_part, IsRow}
use Rattle.ct_entry.specs.Changes.{spell}
use Rattle.ct_entry.specs.Shapes.{AreShaped}
use Rattle.ct_entry.specs.laws.Changes.{spell-append}
use Rattle.ct_entry.specs.laws.Shapes.{are_shaped-append}
use Rattle.ct_entry.specs.laws.Well.{entry_of_key}
use Rattle.tx_settings.specs.declared.preferences.Prefs.{Prefs}
use Rattle.tx_settings.specs.PrefsBytes.{IsPrefs, prefs_bytes}
use Rattle.tx_settings.specs.laws.Lengths.{prefs_are_short, text_length}
use Rattle.ix_docmap.specs.Changes.{queue_changes, unqueue_changes}
use Rattle.q_tree.specs.ReducedQueries.{Reduced}
use Rattle.q_tree.specs.Soundness.{is_key, is_sound}
use Rattle.q_stored.specs.Storing.{byte_limit, is_stored, is_written, query_fits, stored_bytes}
use Rattle.q_stored.specs.Anchoring.{anchors, are_anchor_keys}
use Rattle.q_stored.specs.laws.Anchors.{anchors_are_keys}
use Rattle.q_stored.specs.laws.Stored.{stored_rules}
use Rattle.rule_index.specs.Outcomes.{Outcome, Taken, Faulty}
use Rattle.rule_index.specs.Spelling.{query_anchors, filed_under, rules_bytes, after_table, zeros}
use Rattle.rule_index.specs.Standing.{IsOutcome}
use Rattle.rule_index.specs.Changes.{entry_change, filing_change, lost_changes, set_changes, gone_changes, outcome_changes}
use Rattle.rule_index.specs.Shapes.{HasRuleValue}

-- ---- anchors

-- each is short enough for a key
abbrev pub AreShort : List (List ℕ) → Type 0
AreShort [] = Unit {0}
AreShort (a ∷ as') = (length a ≤ token_limit) × AreShort as'

keys_short : (keys : List (List ℕ)) → list_all is_key keys ≡ true → AreShort keys
keys_short [] h = tt
keys_short (k ∷ ks) h =
    let both = and_parts (is_key k) (list_all is_key ks) h in
    (leb-true (length k) token_limit (and_parts (nat_le 1 (length k)) (nat_le (length k) token_limit) both.0).1, keys_short ks both.1)

pub anchors_short : (q : Option Reduced) → is_stored q ≡ true → AreShort (query_anchors q)
anchors_short None h = tt
anchors_short (Some q) h = go (anchors q) (anchors_are_keys q (and_parts (is_sound q) (is_written q && query_fits q) h).0)
  where
    go : (a : Option (List (List ℕ))) → are_anchor_keys a ≡ true → AreShort (filed_under a)
    go None h = (omega arith, tt)
    go (Some keys) h = keys_short keys h

pub files_shaped : (i : List ℕ) (r : ℤ) (anchors : List (List ℕ)) → IsName i → IsRow r → AreShort anchors → AreShaped HasRuleValue (spell (map (filing_change true i r) anchors))
files_shaped i r [] name row short = tt
files_shaped i r (a ∷ as') name row short =
    let parts : IsKeyOfKind (key kind.Anchors i (anchor_part a r)) = record { owner = name; part = (a, (r, short.0, row, refl)) } in (
      entry_of_key (key kind.Anchors i (anchor_part a r)) [] parts refl (omega arith),
      record { key = key kind.Anchors i (anchor_part a r); spelt = refl; parts = parts; has = refl },
      files_shaped i r as' name row short.1,
    )

-- ---- rules

both_shaped : (xs ys : List (Key × Option (List ℕ))) → AreShaped HasRuleValue (spell xs) → AreShaped HasRuleValue (spell ys) → AreShaped HasRuleValue (spell (xs ++ ys))
both_shaped xs ys a b = subst (AreShaped HasRuleValue) (sym (spell-append xs ys)) (are_shaped-append HasRuleValue (spell xs) (spell ys) a b)

-- a stored query has no more bytes than an entry may have
pub bytes_fit : (q : Option Reduced) → is_stored q ≡ true → length (stored_bytes q) ≤ byte_limit
bytes_fit None h = omega arith
bytes_fit (Some q) h = (stored_rules (stored_bytes (Some q)) q (record { rules = h; spelt = refl })).short

pub outcome_shaped : (i : List ℕ) (r : ℤ) (o : Outcome) → IsName i → IsRow r → IsOutcome o → AreShaped HasRuleValue (spell (outcome_changes i r o))
outcome_shaped i r (Taken q) name row is =
    let parts : IsKeyOfKind (key kind.Rules i (row_part r)) = record { owner = name; part = (r, row, refl) } in (
      entry_of_key (key kind.Rules i (row_part r)) (stored_bytes q) parts refl (bytes_fit q is),
      record { key = key kind.Rules i (row_part r); spelt = refl; parts = parts; has = (q, record { rules = is; spelt = refl }) },
      files_shaped i r (query_anchors q) name row (anchors_short q is),
    )
outcome_shaped i r (Faulty text) name row is =
    let parts : IsKeyOfKind (key kind.RuleFaults i (row_part r)) = record { owner = name; part = (r, row, refl) } in
    let both = and_parts (nat_le (length text) byte_limit) (is_utf8 text) is in (
      entry_of_key (key kind.RuleFaults i (row_part r)) text parts refl (leb-true (length text) byte_limit both.0),
      record { key = key kind.RuleFaults i (row_part r); spelt = refl; parts = parts; has = both.1 },
      tt,
    )

pub queue_shaped : (i : List ℕ) (r : ℤ) → IsName i → IsRow r → AreShaped HasRuleValue (spell (queue_changes i r))
queue_shaped i r name row =
    let parts : IsKeyOfKind (key kind.Pending i (row_part r)) = record { owner = name; part = (r, row, refl) } in (
      entry_of_key (key kind.Pending i (row_part r)) [] parts refl (omega arith),
      record { key = key kind.Pending i (row_part r); spelt = refl; parts = parts; has = refl },
      tt,
    )

unfiles_shaped : (i : List ℕ) (r : ℤ) (anchors : List (List ℕ)) → AreShaped HasRuleValue (spell (map (filing_change false i r) anchors))
unfiles_shaped i r [] = tt
unfiles_shaped i r (a ∷ as') = unfiles_shaped i r as'

-- a row of which the column is set, and one that goes
pub set_shaped : (i : List ℕ) (r : ℤ) (anchors : List (List ℕ)) → IsName i → IsRow r → AreShaped HasRuleValue (spell (set_changes i r anchors))
set_shaped i r anchors name row = both_shaped (lost_changes i r anchors) (queue_changes i r) (unfiles_shaped i r anchors) (queue_shaped i r name row)

pub gone_shaped : (i : List ℕ) (r : ℤ) (anchors : List (List ℕ)) → AreShaped HasRuleValue (spell (gone_changes i r anchors))
gone_shaped i r anchors = both_shaped (lost_changes i r anchors) (unqueue_changes i r) (unfiles_shaped i r anchors) tt

-- ---- the entry of an index

pub length-rules_bytes_le : (table : List ℕ) (column : ℕ) (p : Prefs) → IsName table → IsPrefs p → length (rules_bytes table column p) ≤ 2200000
length-rules_bytes_le table column p name are =
    let text = text_length table 30 (name_length table name).1 in
    let prefs = prefs_are_short p are in
    let a = length-append (text_bytes table) (after_table column p) in
    let b = length-append (prefs_bytes p) zeros in
    omega (arith, text, prefs, a, b)

pub entry_shaped : (i table : List ℕ) (column : ℕ) (p : Prefs) → IsName i → IsName table → column < 256 → IsPrefs p → AreShaped HasRuleValue (spell (entry_change i table column p ∷ []))
entry_shaped i table column p name named few are =
    let parts : IsKeyOfKind (key kind.Indexes i []) = record { owner = name; part = refl } in (
      entry_of_key (key kind.Indexes i []) (rules_bytes table column p) parts refl (let long = length-rules_bytes_le table column p named are in omega (arith, long)),
      record { key = key kind.Indexes i []; spelt = refl; parts = parts; has = record { table = table; column = column; prefs = p; named = named; place = few; are = are; spelt = refl } },
      tt,
    )

-- ---- batches

-- well shaped changes behind others that are
pub shaped_added : (old new more : List (List ℕ × Option (List ℕ))) → new ≡ old ++ more → AreShaped HasRuleValue more → AreShaped HasRuleValue old → AreShaped HasRuleValue new
shaped_added old new more is added are = subst (AreShaped HasRuleValue) (sym is) (are_shaped-append HasRuleValue old more are added)

-- a batch that began empty was appended
pub shaped_appended : (batch none all new : List (List ℕ × Option (List ℕ))) → none ≡ [] → (AreShaped HasRuleValue none → AreShaped HasRuleValue all) → new ≡ batch ++ all → AreShaped HasRuleValue batch → AreShaped HasRuleValue new
shaped_appended batch none all new empty keeps is = shaped_added batch new all is (keeps (subst (AreShaped HasRuleValue) (sym empty) tt))
