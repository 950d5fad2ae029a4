-- The steps of telling whether entries of catalogues are well shaped.
use Rattle.std.proofs.Common.{◌≡◌, ◌↔◌, ℕ, ◌≤◌, ◌-◌, zero, suc, Bool, true, false, List, [], ◌∷◌, ◌++◌, length, Option, Some, None, refl, sym, ap, subst, ◌∙◌, arith, inl, inr, length-append, take-append-drop}
use Rattle.std.specs.Prelude.{◌==◌, ◌&&◌, nat_le, IsTrue}
use Rattle.std.specs.List.{IsSplitAt}
use Rattle.std.specs.Str.{is_utf8}
use Rattle.std.proofs.lemmas.Bool.{and_from, and_parts, eqb-true, eq-eqb, le-leb, leb-true}
use Rattle.std.proofs.lemmas.Str.{is_utf8-from_IsUtf8, IsUtf8-from_is_utf8}
use Rattle.ct_base.specs.Limits.{sub_index_limit}
use Rattle.ct_base.specs.laws.Lists.{append_parts, cons_parts}
use Rattle.ct_bytes.specs.RowKeys.{row_bytes}
use Rattle.ct_bytes.specs.laws.RowKeys.{length-row_bytes}
use Rattle.ct_entry.specs.declared.kinds.Kind.TheVariants as kind
use Rattle.ct_entry.specs.Keys.{IsRowPart, counted_bytes}
use Rattle.ct_entry.specs.Lists.{EachIs}
use Rattle.ct_entry.specs.laws.Parts.{counted_apart}
use Rattle.tx_sets.specs.Sets.{sub_column_limit}
use Rattle.cat_index.specs.declared.catalogues.Catalogue.{Catalogue}
use Rattle.cat_index.specs.Filings.{sub_text_limit}
use Rattle.cat_index.specs.PartReadings.{AreAtMost, AreSomeAtMost, Begins, IsWhatFollows, BeginsCounted, SplitsLastEight}
use Rattle.cat_index.specs.Shapes.{AreItems, AreSubValues, IsCatalogueShape, IsItem, IsSubText, IsWordPart, joined}
use Rattle.cat_index.specs.Spelling.{SpellsCatalogue}
use Rattle.cat_index.specs.laws.Filings.{with_columns}

-- what doesn't hold is not told to
pub is_not : (A : Type 0) → (A → ⊥) → IsTrue false ↔ A
is_not A none = (λ h. let wrong : false ≡ true = h in absurd (cc), λ a. absurd (none a))

empty : {A : Type 0} (xs : List A) → length xs ≡ 0 → xs ≡ []
empty [] long = refl
empty (x ∷ xs) long = absurd (omega (arith, long))

pub not_none : (n : ℕ) → (n ≡ 0 → ⊥) → 1 ≤ n
not_none zero some = absurd (some refl)
not_none (suc n) some = omega arith

-- ---- of two of one form neither begins the other

abbrev Apart : (List ℕ → Type 0) → Type 0
Apart P = (a b x y : List ℕ) → P a → P b → a ++ x ≡ b ++ y → x ≡ y

eight_long : (bytes : List ℕ) → IsRowPart bytes → length bytes ≡ 8
eight_long bytes is = ap length is.2 ∙ length-row_bytes is.0

numbers_apart : Apart IsRowPart
numbers_apart a b x y is other e = (append_parts a b x y (eight_long a is ∙ sym (eight_long b other)) e).1

texts_apart : Apart IsSubText
texts_apart a b x y is other e = (counted_apart is.text other.text x y (ap (λ (l : List ℕ). l ++ x) (sym is.spelt) ∙ e ∙ ap (λ (l : List ℕ). l ++ y) other.spelt)).1

follows : (P : List ℕ → Type 0) → Apart P → (bytes item rest : List ℕ) → P item → bytes ≡ item ++ rest → IsWhatFollows P bytes (Some rest)
follows P apart bytes item rest is spelt = (
  record { item = item; is = is; spelt = spelt },
  λ other begins. apart begins.item item other rest begins.is is (sym begins.spelt ∙ spelt),
)

-- ---- what follows a number

split_whole : (bytes first rest : List ℕ) (n : ℕ) → IsSplitAt bytes n first rest → bytes ≡ first ++ rest
split_whole bytes first rest n split = sym ((λ i. split.1 i ++ split.2 i) ∙ take-append-drop n bytes)

pub number_follows : (bytes number rest : List ℕ) → IsSplitAt bytes 8 number rest → IsRowPart number → IsWhatFollows IsRowPart bytes (Some rest)
number_follows bytes number rest split is = follows IsRowPart numbers_apart bytes number rest is (split_whole bytes number rest 8 split)

pub no_number : (bytes number rest : List ℕ) → IsSplitAt bytes 8 number rest → (IsRowPart number → ⊥) → IsWhatFollows IsRowPart bytes None
no_number bytes number rest split none other begins =
    let same = append_parts begins.item number other rest (eight_long begins.item begins.is ∙ sym split.3) (sym begins.spelt ∙ split_whole bytes number rest 8 split) in
    none (subst IsRowPart same.0 begins.is)

-- ---- what follows a text

abbrev is_short : List ℕ → Bool
is_short text = nat_le (length text) sub_text_limit && is_utf8 text

-- the bytes that begin with a text begin with its bytes, after their length
counted : (bytes rest : List ℕ) (begins : Begins IsSubText bytes rest) → bytes ≡ length begins.is.text ∷ (begins.is.text ++ rest)
counted bytes rest begins = begins.spelt ∙ ap (λ (l : List ℕ). l ++ rest) begins.is.spelt

pub text_follows : (bytes text rest : List ℕ) → BeginsCounted bytes (Some (text, rest)) → is_short text ≡ true → IsWhatFollows IsSubText bytes (Some rest)
text_follows bytes text rest splits h =
    let both = and_parts (nat_le (length text) sub_text_limit) (is_utf8 text) h in
    follows IsSubText texts_apart bytes (counted_bytes text) rest (record { text = text; short = leb-true (length text) sub_text_limit both.0; utf8 = IsUtf8-from_is_utf8 text both.1; spelt = refl }) splits

pub no_text : (bytes text rest : List ℕ) → BeginsCounted bytes (Some (text, rest)) → is_short text ≡ false → IsWhatFollows IsSubText bytes None
no_text bytes text rest splits h other begins =
    let t = begins.is.text in
    let same = counted_apart t text other rest (sym (counted bytes other begins) ∙ splits) in
    let short = and_from (nat_le (length t) sub_text_limit) (is_utf8 t) (le-leb (length t) sub_text_limit begins.is.short) (is_utf8-from_IsUtf8 t begins.is.utf8) in
    let wrong : false ≡ true = sym h ∙ subst (λ (l : List ℕ). is_short l ≡ true) same.0 short in
    cc

pub none_counted : (bytes : List ℕ) → BeginsCounted bytes None → IsWhatFollows IsSubText bytes None
none_counted bytes none other begins = none begins.is.text other (counted bytes other begins)

-- ---- items

pub no_bytes : (most : ℕ) (bytes : List ℕ) → length bytes ≡ 0 → IsTrue true ↔ AreAtMost most bytes
no_bytes most bytes long = (λ h. record { items = []; few = omega arith; each = tt; spelt = empty bytes long }, λ are. refl)

-- The first item of some bytes, and those behind it.
record First (most : ℕ) (bytes : List ℕ) : Type 0 where
  rest : List ℕ
  begins : Begins IsItem bytes rest
  some : 1 ≤ most
  later : AreAtMost (most - 1) rest

first_item : (most : ℕ) (bytes : List ℕ) → 1 ≤ length bytes → AreAtMost most bytes → First most bytes
first_item most bytes long are = go are.items are.few are.each are.spelt
  where
    go : (items : List (List ℕ)) → length items ≤ most → EachIs IsItem items → bytes ≡ joined items → First most bytes
    go [] few each spelt = absurd (let none = ap length spelt in omega (arith, long, none))
    go (i ∷ is) few each spelt = record {
      rest = joined is;
      begins = record { item = i; is = each.0; spelt = spelt };
      some = omega (arith, few);
      later = record { items = is; few = omega (arith, few); each = each.1; spelt = refl };
    }

pub none_allowed : (most : ℕ) (bytes : List ℕ) → most ≡ 0 → 1 ≤ length bytes → IsTrue false ↔ AreAtMost most bytes
none_allowed most bytes none long = is_not (AreAtMost most bytes) (λ are. let some = (first_item most bytes long are).some in omega (arith, none, some))

module _ (most : ℕ) (bytes : List ℕ) (some : 1 ≤ most) where
  -- items that may stand behind one of this form may follow it
  onward : (P : List ℕ → Type 0) → ((item : List ℕ) → P item → IsItem item) → (found : Option (List ℕ)) → IsWhatFollows P bytes found → AreSomeAtMost (most - 1) found → AreAtMost most bytes
  onward P of None follows are = absurd are
  onward P of (Some rest) follows are = record {
    items = follows.0.item ∷ are.items;
    few = let few = are.few in omega (arith, few, some);
    each = (of follows.0.item follows.0.is, are.each);
    spelt = follows.0.spelt ∙ ap (λ (l : List ℕ). follows.0.item ++ l) are.spelt;
  }

  back : (P : List ℕ → Type 0) (found : Option (List ℕ)) → IsWhatFollows P bytes found → (rest : List ℕ) → Begins P bytes rest → AreAtMost (most - 1) rest → AreSomeAtMost (most - 1) found
  back P None follows rest begins are = absurd (follows rest begins)
  back P (Some r) follows rest begins are = subst (λ (l : List ℕ). AreAtMost (most - 1) l) (follows.1 rest begins) are

  pub by_number : (numbers : Option (List ℕ)) → IsWhatFollows IsRowPart bytes numbers → (b : Bool) → b ≡ true → IsTrue b ↔ AreSomeAtMost (most - 1) numbers → IsTrue true ↔ AreAtMost most bytes
  by_number numbers follow b is tie = (λ h. onward IsRowPart (λ item p. inl p) numbers follow (tie.0 is), λ are. refl)

  pub by_text : (numbers texts : Option (List ℕ)) → IsWhatFollows IsRowPart bytes numbers → IsWhatFollows IsSubText bytes texts → 1 ≤ length bytes
      → (a b : Bool) → a ≡ false → IsTrue a ↔ AreSomeAtMost (most - 1) numbers → IsTrue b ↔ AreSomeAtMost (most - 1) texts → IsTrue b ↔ AreAtMost most bytes
  by_text numbers texts numbers_follow texts_follow long a b none first second = (
    λ h. onward IsSubText (λ item p. inr p) texts texts_follow (second.0 h),
    λ are. let f = first_item most bytes long are in go f.rest f.begins.item f.begins.is f.begins.spelt f.later,
  )
    where
      go : (rest item : List ℕ) → IsItem item → bytes ≡ item ++ rest → AreAtMost (most - 1) rest → IsTrue b
      go rest item (inl number) spelt later =
          let wrong : false ≡ true = sym none ∙ first.1 (back IsRowPart numbers numbers_follow rest (record { item = item; is = number; spelt = spelt }) later) in
          absurd (cc)
      go rest item (inr text) spelt later = second.1 (back IsSubText texts texts_follow rest (record { item = item; is = text; spelt = spelt }) later)

-- ---- the values of a sub-index

pub plain_values : (sub : ℕ) (values : List ℕ) → sub ≡ 0 → IsTrue (length values == 0) ↔ AreSubValues sub values
plain_values zero values is = (λ h. empty values (eqb-true (length values) 0 h), λ none. eq-eqb (length values) 0 (ap length none))
plain_values (suc sub) values is = absurd (omega (arith, is))

item_some : (item : List ℕ) → IsItem item → 1 ≤ length item
item_some item (inl number) = let eight = eight_long item number in omega (arith, eight)
item_some item (inr text) = let long = ap length text.spelt in omega (arith, long)

items_of : (sub : ℕ) (values : List ℕ) → 1 ≤ sub → AreSubValues sub values → AreItems sub_column_limit values
items_of zero values some are = absurd (omega (arith, some))
items_of (suc sub) values some are = are

some_bytes : (most : ℕ) (bytes : List ℕ) → AreItems most bytes → 1 ≤ length bytes
some_bytes most bytes are = go are.items are.some are.each are.spelt
  where
    go : (items : List (List ℕ)) → 1 ≤ length items → EachIs IsItem items → bytes ≡ joined items → 1 ≤ length bytes
    go [] some each spelt = absurd (omega (arith, some))
    go (i ∷ is) some each spelt =
        let first = item_some i each.0 in
        let long = ap length spelt in
        let whole = length-append i (joined is) in
        omega (arith, first, long, whole)

pub no_values : (sub : ℕ) (values : List ℕ) → 1 ≤ sub → length values ≡ 0 → IsTrue false ↔ AreSubValues sub values
no_values sub values some none = is_not (AreSubValues sub values) (λ are. let long = some_bytes sub_column_limit values (items_of sub values some are) in omega (arith, none, long))

pub some_values : (sub : ℕ) (values : List ℕ) (b : Bool) → 1 ≤ sub → 1 ≤ length values → IsTrue b ↔ AreAtMost sub_column_limit values → IsTrue b ↔ AreSubValues sub values
some_values sub values b some long tie = (
  λ h. let are = tie.0 h in with_columns sub values some (record { items = are.items; some = least are.items are.spelt; few = are.few; each = are.each; spelt = are.spelt }),
  λ are. let is = items_of sub values some are in tie.1 (record { items = is.items; few = is.few; each = is.each; spelt = is.spelt }),
)
  where
    least : (items : List (List ℕ)) → values ≡ joined items → 1 ≤ length items
    least [] spelt = absurd (let none = ap length spelt in omega (arith, long, none))
    least (i ∷ is) spelt = omega arith

-- ---- entries

-- the parts that were read, against those of any spelling
pub is_word : (part rest word behind values row : List ℕ) (sub : ℕ) (b : Bool) → part ≡ sub ∷ rest → BeginsCounted rest (Some (word, behind)) → length word ≤ 255 → SplitsLastEight behind (Some (values, row))
    → IsTrue b ↔ ((sub ≤ sub_index_limit) × (1 ≤ length word) × IsRowPart row × AreSubValues sub values) → IsTrue b ↔ IsWordPart part
is_word part rest word behind values row sub b first second short last tie = (there, back)
  where
    there : IsTrue b → IsWordPart part
    there h =
        let t = tie.0 h in
        record {
          sub = sub;
          word = word;
          values = values;
          row = t.2.0;
          few = t.0;
          token = record { some = t.1; short = short };
          are = t.3;
          is_row = t.2.1;
          spelt = first ∙ ap (λ (l : List ℕ). sub ∷ l) (second ∙ ap (λ (l : List ℕ). length word ∷ (word ++ l)) (last.0 ∙ ap (λ (l : List ℕ). values ++ l) t.2.2));
        }

    back : IsWordPart part → IsTrue b
    back is =
        let r = row_bytes is.row in
        let heads = cons_parts sub is.sub rest (length is.word ∷ (is.word ++ (is.values ++ r))) (sym first ∙ is.spelt) in
        let words = counted_apart word is.word behind (is.values ++ r) (sym second ∙ heads.1) in
        let whole = ap length (sym last.0 ∙ words.1) in
        let one = length-append values row in
        let other = length-append is.values r in
        let ends = append_parts values is.values row r (omega (arith, whole, one, other, last.1, length-row_bytes is.row)) (sym last.0 ∙ words.1) in
        let some : 1 ≤ length word = subst (λ (l : List ℕ). 1 ≤ length l) (sym words.0) is.token.some in
        let few : sub ≤ sub_index_limit = subst (λ (n : ℕ). n ≤ sub_index_limit) (sym heads.0) is.few in
        tie.1 (few, some, (is.row, is.is_row, ends.1), subst (λ (v : List ℕ). AreSubValues sub v) (sym ends.0) (subst (λ (n : ℕ). AreSubValues n is.values) (sym heads.0) is.are))

pub no_word : (part rest : List ℕ) (sub : ℕ) → part ≡ sub ∷ rest → BeginsCounted rest None → IsTrue false ↔ IsWordPart part
no_word part rest sub first none = is_not (IsWordPart part) (λ is.
    none is.word (is.values ++ row_bytes is.row) (cons_parts sub is.sub rest (length is.word ∷ (is.word ++ (is.values ++ row_bytes is.row))) (sym first ∙ is.spelt)).1)

pub no_row : (part rest word behind : List ℕ) (sub : ℕ) → part ≡ sub ∷ rest → BeginsCounted rest (Some (word, behind)) → SplitsLastEight behind None → IsTrue false ↔ IsWordPart part
no_row part rest word behind sub first second few = is_not (IsWordPart part) (λ is.
    let r = row_bytes is.row in
    let heads = cons_parts sub is.sub rest (length is.word ∷ (is.word ++ (is.values ++ r))) (sym first ∙ is.spelt) in
    let words = counted_apart word is.word behind (is.values ++ r) (sym second ∙ heads.1) in
    let whole = ap length words.1 in
    omega (arith, whole, length-append is.values r, length-row_bytes is.row, few))

pub no_part : (part : List ℕ) → length part ≡ 0 → IsTrue false ↔ IsWordPart part
no_part part none = is_not (IsWordPart part) (λ is. let long = ap length is.spelt in omega (arith, none, long))

-- the entry of a row has no value
pub with_value : (part value : List ℕ) → 1 ≤ length value → IsTrue false ↔ IsCatalogueShape kind.Catalogue part value
with_value part value some = is_not (IsCatalogueShape kind.Catalogue part value) (λ shape. let none = ap length shape.1.1 in omega (arith, some, none))

pub without_value : (part value : List ℕ) (b : Bool) → length value ≡ 0 → IsTrue b ↔ IsWordPart part → IsTrue b ↔ IsCatalogueShape kind.Catalogue part value
without_value part value b none tie = (
  λ h. let is = tie.0 h in ((is.sub, (is.word, is.values, (is.row, is.few, is.token, is.is_row, is.spelt))), (is, empty value none)),
  λ shape. tie.1 shape.1.0,
)

pub is_entry : (part value : List ℕ) (x : Catalogue) → SpellsCatalogue (Some value) (Some x) → IsTrue (length part == 0) ↔ IsCatalogueShape kind.Indexes part value
is_entry part value x is = (
  λ none. (empty part (eqb-true (length part) 0 none), record { catalogue = x; spellable = is.0; spelt = same is.1 }),
  λ shape. eq-eqb (length part) 0 (ap length shape.0),
)
  where
    same : {a b : List ℕ} → Some a ≡ Some b → a ≡ b
    same e = cc

pub no_entry : (part value : List ℕ) → SpellsCatalogue (Some value) None → IsTrue false ↔ IsCatalogueShape kind.Indexes part value
no_entry part value none = is_not (IsCatalogueShape kind.Indexes part value) (λ shape. none shape.1.catalogue shape.1.spellable (ap Some shape.1.spelt))
