-- The steps of reading the entry of an index.
use Rattle.std.proofs.Common.{◌≡◌, ℕ, ◌+◌, ◌^◌, ◌<◌, ◌≤◌, Bool, true, false, List, [], ◌∷◌, ◌++◌, length, take, drop, get_or, Option, Some, None, refl, sym, ap, subst, ◌∙◌, arith, length-drop, length-append}
use Rattle.std.specs.Int.{to_be_bytes, w32}
use Rattle.std.specs.Str.{bytes_eq}
use Rattle.std.proofs.lemmas.Slice.Eq.{bytes_eq-Decides}
use Rattle.std.proofs.lemmas.List.{drop_at, drop-drop, get_or-drop}
use Rattle.std.proofs.lemmas.Option.{same_Some}
use Rattle.ct_base.specs.Names.{IsName, kept_name}
use Rattle.ct_base.specs.laws.Names.{name_length, kept_name-name, kept_some}
use Rattle.ct_bytes.specs.Varints.{text_bytes, IsTextAt}
use Rattle.ct_bytes.specs.laws.Varints.{text_at_one, text_placed}
use Rattle.ct_bytes.specs.laws.Numbers.{four_bytes_one}
use Rattle.tx_settings.specs.declared.preferences.Prefs.{Prefs}
use Rattle.tx_settings.specs.Attributes.{can_be_set}
use Rattle.tx_settings.specs.PrefsBytes.{IsPrefs, prefs_bytes, ArePrefsAt, ReadsPrefs}
use Rattle.ix_rows.specs.Stores.{Tidiness}
use Rattle.ix_context.specs.declared.places.Tidiness.{Tidiness as StoredTidiness}
use Rattle.ix_context.specs.declared.places.Place.{Place}
use Rattle.ix_context.specs.Places.{IsPlace, place_bytes, tidiness_of, end_bytes, SpellsEnd}
use Rattle.ix_context.specs.Spelling.{index_bytes, with_end, after_table, HasIndexParts, SpellsIndex}
use Rattle.tx_settings.specs.laws.MadeAgain.{prefs_apart}

pub stands : (bytes t : List ℕ) (c : ℕ) (p : Prefs) (n : ℕ) (end : List ℕ) → length t < 2 ^ 32 → bytes ≡ with_end t c p n end → IsTextAt bytes 1 t (1 + length (text_bytes t))
stands bytes t c p n end small is = subst (λ b. IsTextAt b 1 t (1 + length (text_bytes t))) (sym is) (text_placed (1 ∷ []) (after_table c p n end) t small)

behind : (bytes t : List ℕ) (c : ℕ) (p : Prefs) (n : ℕ) (end : List ℕ) → bytes ≡ with_end t c p n end → drop (1 + length (text_bytes t)) bytes ≡ after_table c p n end
behind bytes t c p n end is = ap (drop (1 + length (text_bytes t))) is ∙ drop_at (1 ∷ text_bytes t) (after_table c p n end) (1 + length (text_bytes t)) (omega arith)

-- what stands behind the preferences
abbrev pub after_prefs : ℕ → List ℕ → List ℕ
after_prefs n end = 0 ∷ (to_be_bytes w32 n ++ end)

-- what was read against what the bytes spell
pub record Found (bytes t : List ℕ) (c : ℕ) (p : Prefs) (n : ℕ) (end : List ℕ) (text : List ℕ) (at : ℕ) : Type 0 where
  pub same : t ≡ text
  pub rest : drop at bytes ≡ after_table c p n end
  pub behind : drop (at + 2) bytes ≡ prefs_bytes p ++ after_prefs n end
  pub enough : at + 2 + length (prefs_bytes p) + 5 + length end ≡ length bytes

pub found : (bytes t : List ℕ) (c : ℕ) (p : Prefs) (n : ℕ) (end : List ℕ) (text : List ℕ) (at : ℕ) → length t < 2 ^ 32 → bytes ≡ with_end t c p n end → IsTextAt bytes 1 text at
    → Found bytes t c p n end text at
found bytes t c p n end text at small is there =
    let one = text_at_one bytes 1 t (1 + length (text_bytes t)) text at (stands bytes t c p n end small is) there in
    let rest : drop at bytes ≡ after_table c p n end = subst (λ k. drop k bytes ≡ after_table c p n end) one.1 (behind bytes t c p n end is) in
    record {
      same = one.0;
      rest = rest;
      behind = sym (drop-drop 2 at bytes) ∙ ap (drop 2) rest;
      enough =
          let l = simp length-drop at (ap length rest) in
          let m = length-append (prefs_bytes p) (after_prefs n end) in
          omega (arith, l, m);
    }

pub column_read : (bytes : List ℕ) (c : ℕ) (p : Prefs) (n : ℕ) (end : List ℕ) (at d : ℕ) → drop at bytes ≡ after_table c p n end → get_or bytes at d ≡ c
column_read bytes c p n end at d rest =
    ap (λ k. get_or bytes k d) (omega arith) ∙ sym (get_or-drop at bytes 0 d) ∙ ap (λ l. get_or l 0 d) rest

-- the preferences stand behind the column
prefs_there : (bytes : List ℕ) (p : Prefs) (n : ℕ) (end : List ℕ) (at : ℕ) → IsPrefs p → drop at bytes ≡ prefs_bytes p ++ after_prefs n end → at + length (prefs_bytes p) + 5 + length end ≡ length bytes
    → ArePrefsAt bytes at p (at + length (prefs_bytes p))
prefs_there bytes p n end at are rest long = record {
  are = are;
  spelt = record {
    spelt = rest ∙ ap (λ (l : List ℕ). prefs_bytes p ++ l) (sym (ap (λ k. drop k bytes) (omega arith) ∙ sym (drop-drop (length (prefs_bytes p)) at bytes) ∙ ap (drop (length (prefs_bytes p))) rest ∙ drop_at (prefs_bytes p) (after_prefs n end) (length (prefs_bytes p)) refl));
    next_is = refl;
    within = omega arith;
  };
}

pub no_prefs : (bytes : List ℕ) (p : Prefs) (n : ℕ) (end : List ℕ) (at : ℕ) → IsPrefs p → drop at bytes ≡ prefs_bytes p ++ after_prefs n end → at + length (prefs_bytes p) + 5 + length end ≡ length bytes
    → (o : Option (Prefs × ℕ)) → o ≡ None → ReadsPrefs bytes at o → ⊥
no_prefs bytes p n end at are rest long None is read = read p (at + length (prefs_bytes p)) (prefs_there bytes p n end at are rest long)
no_prefs bytes p n end at are rest long (Some r) is read = cc

-- what was read of them, and what is left behind them
pub prefs_read : (bytes : List ℕ) (p : Prefs) (n : ℕ) (end : List ℕ) (at : ℕ) (q : Prefs) (next : ℕ) → IsPrefs p → drop at bytes ≡ prefs_bytes p ++ after_prefs n end
    → (o : Option (Prefs × ℕ)) → o ≡ Some (q, next) → ReadsPrefs bytes at o → (p ≡ q) × (drop next bytes ≡ after_prefs n end)
prefs_read bytes p n end at q next are rest None is read = cc
prefs_read bytes p n end at q next are rest (Some r) is read =
    let same : r ≡ (q, next) = cc in
    let there : ArePrefsAt bytes at q next = subst (λ (x : Prefs × ℕ). ArePrefsAt bytes at x.0 x.1) same read in
    let one = prefs_apart q p (drop next bytes) (after_prefs n end) there.are are (sym there.spelt.spelt ∙ rest) in
    (sym one.0, one.1)

pub next_enough : (bytes : List ℕ) (n : ℕ) (end : List ℕ) (next : ℕ) → drop next bytes ≡ after_prefs n end → next + 1 + 4 ≤ length bytes
next_enough bytes n end next rest = let l = simp length-drop at (ap length rest) in omega (arith, l)

pub next_read : (bytes : List ℕ) (n : ℕ) (end : List ℕ) (next document : ℕ) → n < 2 ^ 32 → document < 2 ^ 32 → drop next bytes ≡ after_prefs n end
    → to_be_bytes w32 document ≡ take 4 (drop (next + 1) bytes) → n ≡ document
next_read bytes n end next document fits small rest is =
    let here : take 4 (drop (next + 1) bytes) ≡ to_be_bytes w32 n = ap (take 4) (sym (drop-drop 1 next bytes)) ∙ ap (λ l. take 4 (drop 1 l)) rest in
    four_bytes_one n document fits small (sym (is ∙ here))

-- what is left behind the number
pub end_read : (bytes : List ℕ) (n : ℕ) (end : List ℕ) (next : ℕ) → drop next bytes ≡ after_prefs n end → end ≡ drop (next + 5) bytes
end_read bytes n end next rest = sym (sym (drop-drop 5 next bytes) ∙ ap (λ (l : List ℕ). drop 5 l) rest)

pub name_small : (t : List ℕ) → IsName t → length t < 2 ^ 32
name_small t name = let l = name_length t name in omega (arith, l)

-- the parts of an entry
abbrev Parts : Type 0
Parts = List ℕ × ℕ × Prefs × ℕ × List ℕ

-- what the entry of an index has
pub record HasEntryParts (bytes t : List ℕ) (c : ℕ) (p : Prefs) (n : ℕ) (tidiness : Tidiness) (place : List ℕ) : Type 0 where
  pub named : IsName t
  pub are : IsPrefs p
  pub fits : n < 2 ^ 32
  pub resumes : IsPlace place
  pub is : bytes ≡ index_bytes t c p n tidiness place

-- nothing is the entry of an index
abbrev pub IsNoEntry : List ℕ → Type 0
IsNoEntry bytes = (t : List ℕ) (c : ℕ) (p : Prefs) (n : ℕ) (tidiness : Tidiness) (place : List ℕ) → HasEntryParts bytes t c p n tidiness place → ⊥

pub none_spelt : (bytes : List ℕ) → IsNoEntry bytes → SpellsIndex (Some bytes) None
none_spelt bytes none = λ t c p n tidiness place named low are fits resumes is. none t c p n tidiness place (record { named = named; are = are; fits = fits; resumes = resumes; is = same_Some _ _ is })

-- the entry of an index has parts
pub no_parts : (bytes : List ℕ) → HasIndexParts bytes None → IsNoEntry bytes
no_parts bytes has t c p n tidiness place of = let e = has t c p n (end_bytes tidiness place) (name_small t of.named) of.are of.fits of.is in cc

pub record SameParts (text : List ℕ) (k : ℕ) (q : Prefs) (m : ℕ) (left t : List ℕ) (c : ℕ) (p : Prefs) (n : ℕ) (tidiness : Tidiness) (place : List ℕ) : Type 0 where
  pub table : text ≡ t
  pub column : k ≡ c
  pub prefs : q ≡ p
  pub next : m ≡ n
  pub end : left ≡ end_bytes tidiness place
  pub kept : kept_name text ≡ Some t

module _ (bytes text : List ℕ) (column : ℕ) (prefs : Prefs) (next : ℕ) (end : List ℕ) (has : HasIndexParts bytes (Some (text, column, prefs, next, end))) where
  same_parts : (t : List ℕ) (c : ℕ) (p : Prefs) (n : ℕ) (tidiness : Tidiness) (place : List ℕ) → HasEntryParts bytes t c p n tidiness place → SameParts text column prefs next end t c p n tidiness place
  same_parts t c p n tidiness place of =
      let e : (text, column, prefs, next, end) ≡ (t, c, p, n, end_bytes tidiness place) = same_Some _ _ (has t c p n (end_bytes tidiness place) (name_small t of.named) of.are of.fits of.is) in
      let same : text ≡ t = ap (λ (p : Parts). p.0) e in
      record {
        table = same;
        column = ap (λ (p : Parts). p.1) e;
        prefs = ap (λ (p : Parts). p.2) e;
        next = ap (λ (p : Parts). p.3) e;
        end = ap (λ (p : Parts). p.4) e;
        kept = ap kept_name same ∙ kept_name-name t of.named;
      }

  -- its table is a name
  pub no_name : kept_name text ≡ None → IsNoEntry bytes
  no_name none t c p n tidiness place of =
      let s = same_parts t c p n tidiness place of in
      let e : None ≡ Some t = sym none ∙ s.kept in
      cc

  -- its end is one
  pub no_end : SpellsEnd end None → IsNoEntry bytes
  no_end none t c p n tidiness place of = none tidiness place of.resumes (same_parts t c p n tidiness place of).end

  -- it is what was written again
  pub written_again : (table : List ℕ) (ending : StoredTidiness × Place) → kept_name text ≡ Some table → SpellsEnd end (Some ending)
      → (bytes ≡ index_bytes table column prefs next (tidiness_of ending.0) (place_bytes ending.1) → ⊥) → IsNoEntry bytes
  written_again table ending kept read other t c p n tidiness place of =
      let s = same_parts t c p n tidiness place of in
      let same : table ≡ t = same_Some _ _ (sym kept ∙ s.kept) in
      other (of.is ∙ ap (λ x. with_end x c p n (end_bytes tidiness place)) (sym same) ∙ ap (λ x. with_end table x p n (end_bytes tidiness place)) (sym s.column) ∙ ap (λ x. with_end table column x n (end_bytes tidiness place)) (sym s.prefs)
      ∙ ap (λ x. with_end table column prefs x (end_bytes tidiness place)) (sym s.next) ∙ ap (with_end table column prefs next) (sym s.end ∙ read.1))

-- its table, as it is kept
pub named_as : (text name : List ℕ) → kept_name text ≡ Some name → IsName name
named_as text name is = let kept = kept_some text name is in subst IsName kept.0 kept.1

-- what was found to be the same, and to differ
pub agrees : (written bytes : List ℕ) (r : Bool) → r ≡ bytes_eq written bytes → r ≡ true → written ≡ bytes
agrees written bytes r is same = (bytes_eq-Decides written bytes).0 (sym is ∙ same)

pub differs : (written bytes : List ℕ) (r : Bool) → r ≡ bytes_eq written bytes → r ≡ false → bytes ≡ written → ⊥
differs written bytes r is other same = let e : false ≡ true = sym other ∙ is ∙ (bytes_eq-Decides written bytes).1 (sym same) in cc

-- the options of what was read can be set
pub read_can_be : (bytes : List ℕ) (at : ℕ) (o : Option (Prefs × ℕ)) (p : Prefs) (next : ℕ) → o ≡ Some (p, next) → ReadsPrefs bytes at o → can_be_set p.lexer ≡ true
read_can_be bytes at None p next is read = cc
read_can_be bytes at (Some r) p next is read =
    let same : r ≡ (p, next) = cc in
    let there : ArePrefsAt bytes at p next = subst (λ (x : Prefs × ℕ). ArePrefsAt bytes at x.0 x.1) same read in
    there.are.can_be
