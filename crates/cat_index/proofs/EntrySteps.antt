-- The steps of reading the entry of a catalogue.
use Rattle.std.proofs.Common.{◌≡◌, ℕ, ◌+◌, ◌^◌, ◌<◌, ◌≤◌, Bool, true, false, List, [], ◌∷◌, ◌++◌, length, drop, get_or, Option, Some, None, Vec, refl, sym, ap, subst, ◌∙◌, arith, length-drop, length-append}
use Rattle.std.specs.declared.alloc.Global.{Global}
use Rattle.std.specs.Str.{bytes_eq}
use Rattle.std.proofs.lemmas.Slice.Eq.{bytes_eq-Decides}
use Rattle.std.proofs.lemmas.List.{drop_at, drop-drop, get_or-drop}
use Rattle.std.proofs.lemmas.Option.{same_Some}
use Rattle.ct_base.specs.Names.{IsName, kept_name}
use Rattle.ct_base.specs.laws.Names.{name_length, kept_name-name}
use Rattle.ct_bytes.specs.Varints.{text_bytes, IsTextAt}
use Rattle.ct_bytes.specs.laws.Varints.{text_at_one, text_placed}
use Rattle.tx_settings.specs.declared.preferences.Prefs.{Prefs}
use Rattle.tx_settings.specs.Attributes.{can_be_set}
use Rattle.tx_settings.specs.PrefsBytes.{IsPrefs, prefs_bytes, IsSpeltAt, ArePrefsAt, ReadsPrefs, Stands, ReadsList}
use Rattle.tx_settings.specs.laws.MadeAgain.{prefs_apart}
use Rattle.tx_sets.specs.Sets.{are_lists, are_sub_indexes, set_bytes}
use Rattle.tx_sets.specs.laws.Sets.{set_apart, sets_may_be_read}
use Rattle.cat_index.specs.declared.catalogues.Catalogue.{Catalogue}
use Rattle.cat_index.specs.Spelling.{catalogue_bytes, rest_bytes, last_bytes, IsSpellable}
use Rattle.cat_index.specs.Parts.{HasParts, Parts, parts_of}

-- what follows the table, and the preferences
abbrev pub after_table : Catalogue → List ℕ
after_table x = x.target.column ∷ rest_bytes x.prefs x.subs

abbrev pub after_prefs : Catalogue → List ℕ
after_prefs x = set_bytes x.subs ++ last_bytes

name_small : (t : List ℕ) → IsName t → length t < 2 ^ 32
name_small t name = let l = name_length t name in omega (arith, l)

pub table_there : (bytes : List ℕ) (x : Catalogue) → IsSpellable x → bytes ≡ catalogue_bytes x → IsTextAt bytes 1 x.target.table (1 + length (text_bytes x.target.table))
table_there bytes x are is =
    subst (λ b. IsTextAt b 1 x.target.table (1 + length (text_bytes x.target.table))) (sym is) (text_placed (2 ∷ []) (after_table x) x.target.table (name_small x.target.table are.table))

behind : (bytes : List ℕ) (x : Catalogue) → bytes ≡ catalogue_bytes x → drop (1 + length (text_bytes x.target.table)) bytes ≡ after_table x
behind bytes x is = ap (drop (1 + length (text_bytes x.target.table))) is ∙ drop_at (2 ∷ text_bytes x.target.table) (after_table x) (1 + length (text_bytes x.target.table)) (omega arith)

-- what was read against what the bytes spell
pub record Found (bytes : List ℕ) (x : Catalogue) (text : List ℕ) (at : ℕ) : Type 0 where
  pub same : x.target.table ≡ text
  pub rest : drop at bytes ≡ after_table x
  pub behind : drop (at + 2) bytes ≡ prefs_bytes x.prefs ++ after_prefs x
  pub enough : at + 2 ≤ length bytes

pub found : (bytes : List ℕ) (x : Catalogue) (text : List ℕ) (at : ℕ) → IsSpellable x → bytes ≡ catalogue_bytes x → IsTextAt bytes 1 text at → Found bytes x text at
found bytes x text at are is there =
    let one = text_at_one bytes 1 x.target.table (1 + length (text_bytes x.target.table)) text at (table_there bytes x are is) there in
    let rest : drop at bytes ≡ after_table x = subst (λ k. drop k bytes ≡ after_table x) one.1 (behind bytes x is) in
    record {
      same = one.0;
      rest = rest;
      behind = sym (drop-drop 2 at bytes) ∙ ap (drop 2) rest;
      enough = let l = simp length-drop at (ap length rest) in omega (arith, l);
    }

pub column_read : (bytes : List ℕ) (x : Catalogue) (at d : ℕ) → drop at bytes ≡ after_table x → get_or bytes at d ≡ x.target.column
column_read bytes x at d rest = ap (λ k. get_or bytes k d) (omega arith) ∙ sym (get_or-drop at bytes 0 d) ∙ ap (λ l. get_or l 0 d) rest

-- a spelling stands where the bytes go on with it
spelt_there : (bytes : List ℕ) (at : ℕ) (spelling rest : List ℕ) → at ≤ length bytes → drop at bytes ≡ spelling ++ rest → IsSpeltAt bytes at spelling (at + length spelling)
spelt_there bytes at spelling rest within is = record {
  spelt = is ∙ ap (λ (l : List ℕ). spelling ++ l) (sym (ap (λ k. drop k bytes) (omega arith) ∙ sym (drop-drop (length spelling) at bytes) ∙ ap (drop (length spelling)) is ∙ drop_at spelling rest (length spelling) refl));
  next_is = refl;
  within =
      let l = simp length-drop at (ap length is) in
      let m = length-append spelling rest in
      omega (arith, l, m, within);
}

-- the preferences stand behind the column
pub no_prefs : (bytes : List ℕ) (x : Catalogue) (at : ℕ) → IsPrefs x.prefs → drop at bytes ≡ prefs_bytes x.prefs ++ after_prefs x → at ≤ length bytes
    → (o : Option (Prefs × ℕ)) → o ≡ None → ReadsPrefs bytes at o → ⊥
no_prefs bytes x at are rest within None is read = read x.prefs (at + length (prefs_bytes x.prefs)) (record { are = are; spelt = spelt_there bytes at (prefs_bytes x.prefs) (after_prefs x) within rest })
no_prefs bytes x at are rest within (Some r) is read = cc

-- what was read of them, and what is left behind them
pub record PrefsRead (bytes : List ℕ) (x : Catalogue) (q : Prefs) (next : ℕ) : Type 0 where
  pub same : x.prefs ≡ q
  pub rest : drop next bytes ≡ after_prefs x
  pub within : next ≤ length bytes

pub prefs_read : (bytes : List ℕ) (x : Catalogue) (at : ℕ) (q : Prefs) (next : ℕ) → IsPrefs x.prefs → drop at bytes ≡ prefs_bytes x.prefs ++ after_prefs x
    → (o : Option (Prefs × ℕ)) → o ≡ Some (q, next) → ReadsPrefs bytes at o → PrefsRead bytes x q next
prefs_read bytes x at q next are rest None is read = cc
prefs_read bytes x at q next are rest (Some r) is read =
    let same : r ≡ (q, next) = cc in
    let there : ArePrefsAt bytes at q next = subst (λ (y : Prefs × ℕ). ArePrefsAt bytes at y.0 y.1) same read in
    let one = prefs_apart q x.prefs (drop next bytes) (after_prefs x) there.are are (sym there.spelt.spelt ∙ rest) in
    record { same = sym one.0; rest = one.1; within = there.spelt.within }

-- the options of what was read can be set
pub read_can_be : (bytes : List ℕ) (at : ℕ) (o : Option (Prefs × ℕ)) (p : Prefs) (next : ℕ) → o ≡ Some (p, next) → ReadsPrefs bytes at o → can_be_set p.lexer ≡ true
read_can_be bytes at None p next is read = cc
read_can_be bytes at (Some r) p next is read =
    let same : r ≡ (p, next) = cc in
    let there : ArePrefsAt bytes at p next = subst (λ (y : Prefs × ℕ). ArePrefsAt bytes at y.0 y.1) same read in
    there.are.can_be

-- the sub-indexes stand behind them
set_there : (bytes : List ℕ) (x : Catalogue) (next : ℕ) → IsSpellable x → drop next bytes ≡ after_prefs x → next ≤ length bytes → Stands are_lists set_bytes bytes next x.subs (next + length (set_bytes x.subs))
set_there bytes x next are rest within = record { rules = sets_may_be_read x.subs are.subs are.named; spelt = spelt_there bytes next (set_bytes x.subs) last_bytes within rest }

pub no_set : (bytes : List ℕ) (x : Catalogue) (next : ℕ) → IsSpellable x → drop next bytes ≡ after_prefs x → next ≤ length bytes
    → (o : Option (Vec (List (List ℕ)) Global × ℕ)) → o ≡ None → ReadsList are_lists set_bytes bytes next o → ⊥
no_set bytes x next are rest within None is read = read x.subs (next + length (set_bytes x.subs)) (set_there bytes x next are rest within)
no_set bytes x next are rest within (Some r) is read = cc

pub set_read : (bytes : List ℕ) (x : Catalogue) (next : ℕ) (subs : Vec (List (List ℕ)) Global) (end : ℕ) → drop next bytes ≡ after_prefs x
    → (o : Option (Vec (List (List ℕ)) Global × ℕ)) → o ≡ Some (subs, end) → ReadsList are_lists set_bytes bytes next o → x.subs ≡ subs.items
set_read bytes x next subs end rest None is read = cc
set_read bytes x next subs end rest (Some r) is read =
    let same : r ≡ (subs, end) = cc in
    let there : Stands are_lists set_bytes bytes next subs.items end = subst (λ (y : Vec (List (List ℕ)) Global × ℕ). Stands are_lists set_bytes bytes next y.0.items y.1) same read in
    (set_apart x.subs subs.items last_bytes (drop end bytes) (sym rest ∙ there.spelt.spelt)).0

-- ---- the parts of an entry

-- the entry of a catalogue has parts
pub no_parts : (bytes : List ℕ) → HasParts bytes None → (x : Catalogue) → IsSpellable x → Some bytes ≡ Some (catalogue_bytes x) → ⊥
no_parts bytes has x are is = let e = has x are (same_Some _ _ is) in cc

-- and these are those of the catalogue
pub same_parts : (bytes : List ℕ) (parts : Parts) → HasParts bytes (Some parts) → (x : Catalogue) → IsSpellable x → Some bytes ≡ Some (catalogue_bytes x) → parts ≡ parts_of x
same_parts bytes parts has x are is = same_Some _ _ (has x are (same_Some _ _ is))

-- its table is a name
pub no_name : (bytes : List ℕ) (parts : Parts) → HasParts bytes (Some parts) → kept_name parts.0 ≡ None → (x : Catalogue) → IsSpellable x → Some bytes ≡ Some (catalogue_bytes x) → ⊥
no_name bytes parts has none x are is =
    let same = same_parts bytes parts has x are is in
    let e : None ≡ Some x.target.table = sym none ∙ ap (λ (p : Parts). kept_name p.0) same ∙ kept_name-name x.target.table are.table in
    cc

-- its sub-indexes are within the limits
pub not_within : (bytes : List ℕ) (parts : Parts) → HasParts bytes (Some parts) → are_sub_indexes parts.3 ≡ false → (x : Catalogue) → IsSpellable x → Some bytes ≡ Some (catalogue_bytes x) → ⊥
not_within bytes parts has beyond x are is =
    let same = same_parts bytes parts has x are is in
    let e : false ≡ true = sym beyond ∙ ap (λ (p : Parts). are_sub_indexes p.3) same ∙ are.subs in
    cc

-- it is what was written again
pub written_again : (bytes : List ℕ) (parts : Parts) (table : List ℕ) → HasParts bytes (Some parts) → kept_name parts.0 ≡ Some table
    → (bytes ≡ catalogue_bytes (record { target = record { table = table; column = parts.1 }; prefs = parts.2; subs = parts.3 }) → ⊥) → (x : Catalogue) → IsSpellable x → Some bytes ≡ Some (catalogue_bytes x) → ⊥
written_again bytes parts table has kept other x are is =
    let same = same_parts bytes parts has x are is in
    let named : table ≡ x.target.table = same_Some _ _ (sym kept ∙ ap (λ (p : Parts). kept_name p.0) same ∙ kept_name-name x.target.table are.table) in
    other
    (same_Some _ _ is
    ∙ ap (λ (t : List ℕ). catalogue_bytes (record { target = record { table = t; column = x.target.column }; prefs = x.prefs; subs = x.subs })) (sym named)
    ∙ ap (λ (p : Parts). catalogue_bytes (record { target = record { table = table; column = p.1 }; prefs = p.2; subs = p.3 })) (sym same))

-- what was found to differ
pub differs : (written bytes : List ℕ) (r : Bool) → r ≡ bytes_eq written bytes → r ≡ false → bytes ≡ written → ⊥
differs written bytes r is other same = let e : false ≡ true = sym other ∙ is ∙ (bytes_eq-Decides written bytes).1 (sym same) in cc
