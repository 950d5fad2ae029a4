-- The steps of reading the entry of a rule index.
use Rattle.std.proofs.Common.{◌≡◌, ℕ, ◌+◌, ◌^◌, ◌<◌, Bool, true, false, List, [], ◌∷◌, ◌++◌, length, drop, get_or, Option, Some, None, refl, sym, ap, subst, ◌∙◌, arith, length-drop, length-append}
use Rattle.std.specs.Str.{bytes_eq}
use Rattle.std.proofs.lemmas.Slice.Eq.{bytes_eq-Decides}
use Rattle.std.proofs.lemmas.List.{drop_at, drop-drop, get_or-drop}
use Rattle.std.proofs.lemmas.Option.{same_Some}
use Rattle.ct_base.specs.Names.{IsName, kept_name}
use Rattle.ct_base.specs.laws.Names.{name_length, kept_name-name}
use Rattle.ct_bytes.specs.Varints.{text_bytes, IsTextAt}
use Rattle.ct_bytes.specs.laws.Varints.{text_at_one, text_placed}
use Rattle.tx_settings.specs.declared.preferences.Prefs.{Prefs}
use Rattle.tx_settings.specs.Attributes.{can_be_set}
use Rattle.tx_settings.specs.PrefsBytes.{IsPrefs, prefs_bytes, ArePrefsAt, ReadsPrefs}
use Rattle.tx_settings.specs.laws.MadeAgain.{prefs_apart}
use Rattle.rule_index.specs.Spelling.{rules_bytes, after_table, zeros}
use Rattle.rule_index.specs.Readings.{HasRulesParts}

pub stands : (bytes t : List ℕ) (c : ℕ) (p : Prefs) → length t < 2 ^ 32 → bytes ≡ rules_bytes t c p → IsTextAt bytes 1 t (1 + length (text_bytes t))
stands bytes t c p small is = subst (λ b. IsTextAt b 1 t (1 + length (text_bytes t))) (sym is) (text_placed (3 ∷ []) (after_table c p) t small)

behind : (bytes t : List ℕ) (c : ℕ) (p : Prefs) → bytes ≡ rules_bytes t c p → drop (1 + length (text_bytes t)) bytes ≡ after_table c p
behind bytes t c p is = ap (drop (1 + length (text_bytes t))) is ∙ drop_at (3 ∷ text_bytes t) (after_table c p) (1 + length (text_bytes t)) (omega arith)

-- what was read against what the bytes spell
pub record Found (bytes t : List ℕ) (c : ℕ) (p : Prefs) (text : List ℕ) (at : ℕ) : Type 0 where
  pub same : t ≡ text
  pub rest : drop at bytes ≡ after_table c p
  pub behind : drop (at + 2) bytes ≡ prefs_bytes p ++ zeros
  pub enough : at + 2 + length (prefs_bytes p) + 8 ≡ length bytes

pub found : (bytes t : List ℕ) (c : ℕ) (p : Prefs) (text : List ℕ) (at : ℕ) → length t < 2 ^ 32 → bytes ≡ rules_bytes t c p → IsTextAt bytes 1 text at
    → Found bytes t c p text at
found bytes t c p text at small is there =
    let one = text_at_one bytes 1 t (1 + length (text_bytes t)) text at (stands bytes t c p small is) there in
    let rest : drop at bytes ≡ after_table c p = subst (λ k. drop k bytes ≡ after_table c p) one.1 (behind bytes t c p is) in
    record {
      same = one.0;
      rest = rest;
      behind = sym (drop-drop 2 at bytes) ∙ ap (drop 2) rest;
      enough =
          let l = simp length-drop at (ap length rest) in
          let m = length-append (prefs_bytes p) zeros in
          omega (arith, l, m);
    }

pub column_read : (bytes : List ℕ) (c : ℕ) (p : Prefs) (at d : ℕ) → drop at bytes ≡ after_table c p → get_or bytes at d ≡ c
column_read bytes c p at d rest =
    ap (λ k. get_or bytes k d) (omega arith) ∙ sym (get_or-drop at bytes 0 d) ∙ ap (λ l. get_or l 0 d) rest

-- the preferences stand behind the column
prefs_there : (bytes : List ℕ) (p : Prefs) (at : ℕ) → IsPrefs p → drop at bytes ≡ prefs_bytes p ++ zeros → at + length (prefs_bytes p) + 8 ≡ length bytes
    → ArePrefsAt bytes at p (at + length (prefs_bytes p))
prefs_there bytes p at are rest long = record {
  are = are;
  spelt = record {
    spelt = rest ∙ ap (λ (l : List ℕ). prefs_bytes p ++ l) (sym (ap (λ k. drop k bytes) (omega arith) ∙ sym (drop-drop (length (prefs_bytes p)) at bytes) ∙ ap (drop (length (prefs_bytes p))) rest ∙ drop_at (prefs_bytes p) zeros (length (prefs_bytes p)) refl));
    next_is = refl;
    within = omega arith;
  };
}

pub no_prefs : (bytes : List ℕ) (p : Prefs) (at : ℕ) → IsPrefs p → drop at bytes ≡ prefs_bytes p ++ zeros → at + length (prefs_bytes p) + 8 ≡ length bytes
    → (o : Option (Prefs × ℕ)) → o ≡ None → ReadsPrefs bytes at o → ⊥
no_prefs bytes p at are rest long None is read = read p (at + length (prefs_bytes p)) (prefs_there bytes p at are rest long)
no_prefs bytes p at are rest long (Some r) is read = cc

-- what was read of them
pub prefs_read : (bytes : List ℕ) (p : Prefs) (at : ℕ) (q : Prefs × ℕ) → IsPrefs p → drop at bytes ≡ prefs_bytes p ++ zeros
    → (o : Option (Prefs × ℕ)) → o ≡ Some q → ReadsPrefs bytes at o → p ≡ q.0
prefs_read bytes p at q are rest None is read = cc
prefs_read bytes p at q are rest (Some r) is read =
    let same : r ≡ q = cc in
    let there : ArePrefsAt bytes at q.0 q.1 = subst (λ (x : Prefs × ℕ). ArePrefsAt bytes at x.0 x.1) same read in
    sym (prefs_apart q.0 p (drop q.1 bytes) zeros there.are are (sym there.spelt.spelt ∙ rest)).0

pub name_small : (t : List ℕ) → IsName t → length t < 2 ^ 32
name_small t name = let l = name_length t name in omega (arith, l)

-- the parts of an entry
abbrev Parts : Type 0
Parts = List ℕ × ℕ × Prefs

-- the entry of a rule index has parts
pub no_parts : (bytes : List ℕ) → HasRulesParts bytes None → (t : List ℕ) (c : ℕ) (p : Prefs) → IsName t → c < 256 → IsPrefs p → Some bytes ≡ Some (rules_bytes t c p) → ⊥
no_parts bytes has t c p name col are is = let e = has t c p (name_small t name) are (same_Some _ _ is) in cc

pub same_parts : (bytes text : List ℕ) (column : ℕ) (prefs : Prefs) → HasRulesParts bytes (Some (text, column, prefs)) → (t : List ℕ) (c : ℕ) (p : Prefs) → IsName t → IsPrefs p
    → Some bytes ≡ Some (rules_bytes t c p) → (text ≡ t) × (column ≡ c) × (prefs ≡ p) × (kept_name text ≡ Some t)
same_parts bytes text column prefs has t c p name are is =
    let e : (text, column, prefs) ≡ (t, c, p) = same_Some _ _ (has t c p (name_small t name) are (same_Some _ _ is)) in
    let same : text ≡ t = ap (λ (p : Parts). p.0) e in
    (same, ap (λ (p : Parts). p.1) e, ap (λ (p : Parts). p.2) e, ap kept_name same ∙ kept_name-name t name)

-- its table is a name
pub no_name : (bytes text : List ℕ) (column : ℕ) (prefs : Prefs) → HasRulesParts bytes (Some (text, column, prefs)) → kept_name text ≡ None
    → (t : List ℕ) (c : ℕ) (p : Prefs) → IsName t → c < 256 → IsPrefs p → Some bytes ≡ Some (rules_bytes t c p) → ⊥
no_name bytes text column prefs has none t c p name col are is =
    let s = same_parts bytes text column prefs has t c p name are is in
    let e : None ≡ Some t = sym none ∙ s.3 in
    cc

-- it is what was written again
pub written_again : (bytes text table : List ℕ) (column : ℕ) (prefs : Prefs) → HasRulesParts bytes (Some (text, column, prefs)) → kept_name text ≡ Some table
    → (bytes ≡ rules_bytes table column prefs → ⊥) → (t : List ℕ) (c : ℕ) (p : Prefs) → IsName t → c < 256 → IsPrefs p → Some bytes ≡ Some (rules_bytes t c p) → ⊥
written_again bytes text table column prefs has kept other t c p name col are is =
    let s = same_parts bytes text column prefs has t c p name are is in
    let same : table ≡ t = same_Some _ _ (sym kept ∙ s.3) in
    other (same_Some _ _ is ∙ ap (λ x. rules_bytes x c p) (sym same) ∙ ap (λ x. rules_bytes table x p) (sym s.1) ∙ ap (rules_bytes table column) (sym s.2))

-- what was found to differ
pub differs : (written bytes : List ℕ) (r : Bool) → r ≡ bytes_eq written bytes → r ≡ false → bytes ≡ written → ⊥
differs written bytes r is other same = let e : false ≡ true = sym other ∙ is ∙ (bytes_eq-Decides written bytes).1 (sym same) in cc

-- the options of what was read can be set
pub read_can_be : (bytes : List ℕ) (at : ℕ) (o : Option (Prefs × ℕ)) (q : Prefs × ℕ) → o ≡ Some q → ReadsPrefs bytes at o → can_be_set q.0.lexer ≡ true
read_can_be bytes at None q is read = cc
read_can_be bytes at (Some r) q is read =
    let same : r ≡ q = cc in
    let there : ArePrefsAt bytes at q.0 q.1 = subst (λ (x : Prefs × ℕ). ArePrefsAt bytes at x.0 x.1) same read in
    there.are.can_be
