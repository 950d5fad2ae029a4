-- The changes of rows and of catalogues put well shaped entries, whatever the content before them.
use Rattle.std.specs.Prelude.{ℕ, ℤ, ◌≡◌, ◌+◌, ◌*◌, ◌≤◌, zero, suc, ◌&&◌, Bool, true, false, cond, List, [], ◌∷◌, ◌++◌, length, Option, refl}
use Rattle.std.proofs.Common.{arith, sym, ap, subst, inl, inr, length-append}
use Rattle.ct_base.specs.Names.{IsName}
use Rattle.ct_base.specs.Limits.{sub_index_limit}
use Rattle.ct_base.specs.laws.Names.{name_length}
use Rattle.ct_bytes.specs.RowKeys.{row_bytes}
use Rattle.ct_bytes.specs.laws.RowKeys.{length-row_bytes}
use Rattle.ct_bytes.specs.Varints.{text_bytes}
use Rattle.ct_keep.specs.Content.{IsEntry}
use Rattle.ct_entry.specs.declared.kinds.Kind.TheVariants as kind
use Rattle.ct_entry.specs.Keys.{Key, key, bytes, catalogue_part, IsRow, IsToken}
use Rattle.ct_entry.specs.Lists.{EachIs}
use Rattle.ct_entry.specs.Changes.{spell}
use Rattle.ct_entry.specs.Shapes.{AreShaped}
use Rattle.ct_entry.specs.laws.Changes.{spell-append}
use Rattle.ct_entry.specs.laws.Shapes.{are_shaped-append}
use Rattle.ct_entry.specs.laws.Well.{entry_of_key}
use Rattle.tx_settings.specs.PrefsBytes.{prefs_bytes}
use Rattle.tx_settings.specs.laws.Lengths.{prefs_are_short, text_length}
use Rattle.tx_sets.specs.Sets.{set_bytes}
use Rattle.tx_sets.specs.laws.Sets.{sets_are_short}
use Rattle.cat_index.specs.declared.filings.Filing.{Filing}
use Rattle.cat_index.specs.declared.catalogues.Catalogue.{Catalogue}
use Rattle.cat_index.specs.Spelling.{catalogue_bytes, catalogue_change, last_bytes, IsSpellable}
use Rattle.cat_index.specs.Changes.{words_change, in_each, filing_changes, same_words, sub_changes, set_from, set_changes}
use Rattle.ct_entry.specs.Keys.{same_list}
use Rattle.cat_index.specs.Shapes.{IsItem, joined, AreSubValues, AreValues, IsFiling, HasCatalogueValue}

-- ---- how long keys are

item_length : (item : List ℕ) → IsItem item → length item ≤ 101
item_length item (inl number) = let long = ap length number.2 in let eight = length-row_bytes number.0 in omega (arith, long, eight)
item_length item (inr text) = let long = ap length text.spelt in let short = text.short in omega (arith, long, short)

joined_length : (items : List (List ℕ)) → EachIs IsItem items → length (joined items) ≤ 101 * length items
joined_length [] each = omega arith
joined_length (i ∷ is) each =
    let first = item_length i each.0 in
    let rest = joined_length is each.1 in
    let whole = length-append i (joined is) in
    omega (arith, first, rest, whole)

values_length : (sub : ℕ) (values : List ℕ) → AreSubValues sub values → length values ≤ 303
values_length zero values are = let none = ap length are in omega (arith, none)
values_length (suc sub) values are =
    let long = ap length are.spelt in
    let most = joined_length are.items are.each in
    let few = are.few in
    omega (arith, long, most, few)

part_length : (s : ℕ) (t v : List ℕ) (r : ℤ) → length (catalogue_part s t v r) ≡ 10 + length t + length v
part_length s t v r =
    let a = length-append t (v ++ row_bytes r) in
    let b = length-append v (row_bytes r) in
    let c = length-row_bytes r in
    omega (arith, a, b, c)

pub word_entry : (i : List ℕ) (s : ℕ) (t v : List ℕ) (r : ℤ) → IsName i → IsToken t → AreSubValues s v → IsEntry (bytes (key kind.Catalogue i (catalogue_part s t v r))) []
word_entry i s t v r name token are =
    let named = name_length i name in
    let short = token.short in
    let few = values_length s v are in
    let part = part_length s t v r in
    let whole = length-append i (catalogue_part s t v r) in
    record { some = omega arith; short = omega (arith, named, short, few, part, whole); bounded = omega arith }

-- ---- rows

words_shaped : (i : List ℕ) (r : ℤ) (n : ℕ) (words : List (List ℕ)) (there : Bool) (v : List ℕ) → IsName i → IsRow r → n ≤ sub_index_limit → EachIs IsToken words → AreSubValues n v
    → AreShaped HasCatalogueValue (spell (words_change i r n words there v))
words_shaped i r n [] there v name row few tokens are = tt
words_shaped i r n (w ∷ ws) true v name row few tokens are = (
  word_entry i n w v r name tokens.0 are,
  record {
    key = key kind.Catalogue i (catalogue_part n w v r);
    spelt = refl;
    parts = record { owner = name; part = (n, (w, v, (r, few, tokens.0, row, refl))) };
    has = (record { sub = n; word = w; values = v; row = r; few = few; token = tokens.0; are = are; is_row = row; spelt = refl }, refl);
  },
  words_shaped i r n ws true v name row few tokens.1 are,
)
words_shaped i r n (w ∷ ws) false v name row few tokens are = words_shaped i r n ws false v name row few tokens.1 are

both_shaped : (xs ys : List (Key × Option (List ℕ))) → AreShaped HasCatalogueValue (spell xs) → AreShaped HasCatalogueValue (spell ys) → AreShaped HasCatalogueValue (spell (xs ++ ys))
both_shaped xs ys a b = subst (AreShaped HasCatalogueValue) (sym (spell-append xs ys)) (are_shaped-append HasCatalogueValue (spell xs) (spell ys) a b)

changing_shaped : (i : List ℕ) (r : ℤ) (n : ℕ) (words : List (List ℕ)) (there : Bool) (vs : List (List ℕ)) → IsName i → IsRow r → n + length vs ≤ sub_index_limit + 1 → EachIs IsToken words → AreValues n vs
    → AreShaped HasCatalogueValue (spell (in_each (λ sub v. words_change i r sub words there v) n vs))
changing_shaped i r n words there [] name row few tokens are = tt
changing_shaped i r n words there (v ∷ vs) name row few tokens are =
    both_shaped (words_change i r n words there v) (in_each (λ sub v. words_change i r sub words there v) (n + 1) vs)
    (words_shaped i r n words there v name row (omega (arith, few)) tokens are.0)
    (changing_shaped i r (n + 1) words there vs name row (omega (arith, few)) tokens are.1)

pub filing_shaped : (i : List ℕ) (r : ℤ) (w : Filing) (there : Bool) → IsName i → IsRow r → IsFiling w → AreShaped HasCatalogueValue (spell (filing_changes i r w there))
filing_shaped i r w there name row is = changing_shaped i r 0 w.words there w.values name row (let few = is.few in omega (arith, few)) is.words is.values

setting_shaped : (i : List ℕ) (r : ℤ) (n : ℕ) (words new us ps : List (List ℕ)) → IsName i → IsRow r → n + length us ≤ sub_index_limit + 1 → EachIs IsToken words → EachIs IsToken new → AreValues n us → AreValues n ps
    → AreShaped HasCatalogueValue (spell (set_from i r n words new us ps))
setting_shaped i r n words new [] ps name row few tokens new_tokens were are = tt
setting_shaped i r n words new (u ∷ us) [] name row few tokens new_tokens were are = tt
setting_shaped i r n words new (u ∷ us) (p ∷ ps) name row few tokens new_tokens were are =
    both_shaped (sub_changes i r n words u new p) (set_from i r (n + 1) words new us ps) (go (same_words words new && same_list u p))
    (setting_shaped i r (n + 1) words new us ps name row (omega (arith, few)) tokens new_tokens were.1 are.1)
  where
    go : (b : Bool) → AreShaped HasCatalogueValue (spell (cond b [] (words_change i r n words false u ++ words_change i r n new true p)))
    go true = tt
    go false =
        both_shaped (words_change i r n words false u) (words_change i r n new true p)
        (words_shaped i r n words false u name row (omega (arith, few)) tokens were.0) (words_shaped i r n new true p name row (omega (arith, few)) new_tokens are.0)

pub set_shaped : (i : List ℕ) (r : ℤ) (old new : Filing) → IsName i → IsRow r → IsFiling old → IsFiling new → AreShaped HasCatalogueValue (spell (set_changes i r old new))
set_shaped i r old new name row was is = setting_shaped i r 0 old.words new.words old.values new.values name row (let few = was.few in omega (arith, few)) was.words is.words was.values is.values

-- ---- catalogues

pub length-catalogue_bytes_le : (x : Catalogue) → IsSpellable x → length (catalogue_bytes x) ≤ 2200000
length-catalogue_bytes_le x is =
    let table = text_length x.target.table 30 (name_length x.target.table is.table).1 in
    let prefs = prefs_are_short x.prefs is.prefs in
    let subs = sets_are_short x.subs is.subs is.named in
    let a = length-append (text_bytes x.target.table) (x.target.column ∷ 0 ∷ (prefs_bytes x.prefs ++ (set_bytes x.subs ++ last_bytes))) in
    let b = length-append (prefs_bytes x.prefs) (set_bytes x.subs ++ last_bytes) in
    let c = length-append (set_bytes x.subs) last_bytes in
    omega (arith, table, prefs, subs, a, b, c)

pub catalogue_shaped : (i : List ℕ) (x : Catalogue) → IsName i → IsSpellable x → AreShaped HasCatalogueValue (spell (catalogue_change i x ∷ []))
catalogue_shaped i x name is = (
  entry_of_key (key kind.Indexes i []) (catalogue_bytes x) (record { owner = name; part = refl }) refl (let long = length-catalogue_bytes_le x is in omega (arith, long)),
  record { key = key kind.Indexes i []; spelt = refl; parts = record { owner = name; part = refl }; has = record { catalogue = x; spellable = is; spelt = refl } },
  tt,
)

-- ---- batches

-- well shaped changes behind others that are
pub shaped_added : (old new more : List (List ℕ × Option (List ℕ))) → new ≡ old ++ more → AreShaped HasCatalogueValue more → AreShaped HasCatalogueValue old → AreShaped HasCatalogueValue new
shaped_added old new more is added are = subst (AreShaped HasCatalogueValue) (sym is) (are_shaped-append HasCatalogueValue old more are added)
