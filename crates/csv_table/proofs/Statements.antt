-- The statements of a table: their lexemes, and what these are.
use Rattle.std.proofs.Common.{◌≡◌, ◌<◌, ◌≤◌, ◌^◌, ℕ, Bool, true, false, List, [], ◌∷◌, ◌++◌, Some, None, Option, length, map, append_assoc, append-nil, refl, sym, ap, ◌∙◌, subst, inl, inr, rules, arith}
use Rattle.std.specs.Prelude.{◌↔◌, ◌==◌, ◌&&◌, ◌+◌, ◌*◌, ◌-◌, nat_lt, not, codes, IsUtf8, pos}
use Rattle.std.specs.Char.{is_ascii_digit}
use Rattle.std.specs.Fmt.{decimal}
use Rattle.std.specs.List.{list_all, fold, AllByRecursion}
use Rattle.std.specs.Str.{chars}
use Rattle.std.specs.Bool.{if◌then◌else◌}
use Rattle.std.proofs.lemmas.Bool.{lt-ltb, and_from, and_parts}
use Rattle.std.proofs.lemmas.Fmt.{digits_decimal, digits_value-decimal, decimal_nonempty}
use Rattle.std.proofs.lemmas.Str.{chars-append, IsUtf8-append}
use Rattle.std.proofs.lemmas.Str.Parse.{IsNumeralModel, numerals_by_fold}
use Rattle.ct_base.specs.Names.{is_name_byte}
use Rattle.st_cut.specs.Cut.{first_statement}
use Rattle.ct_base.specs.Characters.{is_first}
use Rattle.st_parse.specs.Numbers.{number, negated, positive, value}
use Rattle.st_parse.specs.Lexemes.{lexemes}
use Rattle.st_parse.specs.Lists.{AreListed, AreEnclosed}
use Rattle.st_parse.specs.Values.{IsSigned, IsOperand}
use Rattle.st_parse.specs.Creating.{IsColumn as IsColumnSpelt, IsSortText}
use Rattle.st_parse.specs.Grammar.{IsStatement, Found, read, read_lexemes, statement_read, statement_of}
use Rattle.st_parse.specs.Writing.{White, IsDigits, IsText, joins, starts}
use Rattle.st_parse.specs.declared.lexemes.Keyword.TheVariants.{Create as CREATE, Table as TABLE, Insert as INSERT, Into as INTO, Values as VALUES, Number as NUMBER, Varchar2 as VARCHAR2, Clob as CLOB, Primary as PRIMARY, Key as KEY}
use Rattle.st_parse.specs.declared.lexemes.Lexeme.{Lexeme}
use Rattle.st_parse.specs.declared.lexemes.Lexeme.TheVariants.{Word, Name, Text as TextLexeme, Number as NumberLexeme, Sign}
use Rattle.st_parse.specs.declared.lexemes.Symbol.TheVariants.{Open, Close, Comma}
use Rattle.st_parse.specs.declared.statements.Whole.{Whole}
use Rattle.st_parse.specs.declared.statements.Whole.TheVariants.{Fits, Beyond}
use Rattle.st_parse.specs.declared.statements.Operand.TheVariants.{Number as NumberValue}
use Rattle.st_parse.specs.declared.statements.Statement.{Statement}
use Rattle.csv_table.specs.declared.tables.Sort.{Sort}
use Rattle.csv_table.specs.declared.tables.Sort.TheVariants.{Number, Text, Long}
use Rattle.csv_table.specs.declared.tables.Column.{Column}
use Rattle.csv_table.specs.declared.tables.Row.{Row}
use Rattle.csv_table.specs.declared.tables.Table.{Table}
use Rattle.csv_table.specs.Tables.{AreValues, IsColumn, IsPlainName, IsRow, IsSort, IsValue, IsWritable, varchar2_limit}
use Rattle.csv_table.specs.Wholes.{are_digits, below_zero, fits, is_whole, signed, whole}
use Rattle.csv_table.specs.Scripts.{column_read, creates, inserts, key_read, operand, operands, sort_read}
use Rattle.csv_table.specs.Spelling.{column_text, create_text, insert_text, list_end, sort_text, value_text, value_texts}
use Rattle.csv_table.proofs.Quoting.{lacks, uncut_before}
use Rattle.csv_table.proofs.Items.{IsItem, Spelt, all_append, are_ascii, ascii-before, ascii-chars, ascii-utf8, ascii_item, digit_below, ends_item, apart, name-ascii, name-lacks, name_written, put, put_apart, sign_lexemes, spelt_whole, text_item, whole_item, whole_lexemes}

-- ---- the lists of a statement

-- further items, each behind a comma, and the end of the list
abbrev pub list_lexemes : List (List Lexeme) → List Lexeme
list_lexemes [] = Sign Close ∷ []
list_lexemes (item ∷ items) = Sign Comma ∷ (item ++ list_lexemes items)

abbrev pub AreItems : List (List ℕ) → List (List Lexeme) → Type 0
AreItems [] [] = Unit {0}
AreItems [] (ls ∷ lss) = ⊥
AreItems (w ∷ ws) [] = ⊥
AreItems (w ∷ ws) (ls ∷ lss) = IsItem w ls × AreItems ws lss

-- these bytes are these lexemes, to the end
pub record IsEnd (bytes : List ℕ) (ls : List Lexeme) : Type 0 where
  pub utf8 : IsUtf8 bytes
  pub uncut : first_statement false bytes ≡ None
  pub text : IsText ls (chars bytes)

-- the same text
texted : (ls : List Lexeme) (a b : List ℕ) → a ≡ b → IsText ls b → IsText ls a
texted ls a b e is = subst (λ (cs : List ℕ). IsText ls cs) (sym e) is

blank : (ls : List Lexeme) (text : List ℕ) → IsText ls text → IsText ls (32 ∷ text)
blank [] text (gap, is) = (White 32 ∷ gap, (text, refl, refl, is))
blank (l ∷ ls) text (gap, (w, rest, is, written, apart, more)) = (White 32 ∷ gap, (w, rest, (text, refl, refl, is), written, apart, more))

list-starts : (ws : List (List ℕ)) → starts ends_item (chars (list_end ws)) ≡ true
list-starts [] = ap (starts ends_item) (ascii-chars (codes ")") refl)
list-starts (w ∷ ws) = ap (starts ends_item) (ascii-before (codes ", ") (w ++ list_end ws) refl)

-- an item, and what follows it to the end
item_then : (w rest : List ℕ) (ls more : List Lexeme) → IsItem w ls → starts ends_item (chars rest) ≡ true → IsEnd rest more → IsEnd (w ++ rest) (ls ++ more)
item_then w rest ls more item ends is = record {
  utf8 = IsUtf8-append w rest item.utf8 is.utf8;
  uncut = item.uncut rest is.uncut;
  text = texted (ls ++ more) (chars (w ++ rest)) (chars w ++ chars rest) (chars-append w rest item.utf8) (item.text (chars rest) more ends is.text);
}

list_is : (ws : List (List ℕ)) (lss : List (List Lexeme)) → AreItems ws lss → IsEnd (list_end ws) (list_lexemes lss)
list_is [] [] are = record {
  utf8 = ascii-utf8 (codes ")") refl;
  uncut = refl;
  text = texted (Sign Close ∷ []) (chars (codes ")")) (codes ")") (ascii-chars (codes ")") refl) (put (Sign Close) [] (codes ")") [] refl refl ([], refl));
}
list_is [] (ls ∷ lss) are = absurd are
list_is (w ∷ ws) [] are = absurd are
list_is (w ∷ ws) (ls ∷ lss) are =
    let rest = list_is ws lss are.1 in
    let next : IsEnd (w ++ list_end ws) (ls ++ list_lexemes lss) = item_then w (list_end ws) ls (list_lexemes lss) are.0 (list-starts ws) rest in
    record {
      utf8 = IsUtf8-append (codes ", ") (w ++ list_end ws) (ascii-utf8 (codes ", ") refl) next.utf8;
      uncut = uncut_before (codes ", ") (w ++ list_end ws) refl next.uncut;
      text = texted (Sign Comma ∷ (ls ++ list_lexemes lss)) (chars (codes ", " ++ (w ++ list_end ws))) (codes ", " ++ chars (w ++ list_end ws)) (ascii-before (codes ", ") (w ++ list_end ws) refl)
          (put (Sign Comma) (ls ++ list_lexemes lss) (codes ",") (32 ∷ chars (w ++ list_end ws)) refl refl (blank (ls ++ list_lexemes lss) (chars (w ++ list_end ws)) next.text));
    }

-- a name between fixed words, and what follows
headed : (verb words body : List ℕ) (vs os ls : List Lexeme) (name : List ℕ) → are_ascii verb ≡ true → lacks 59 verb ≡ true → are_ascii words ≡ true → lacks 59 words ≡ true
    → ((rest : List ℕ) (more : List Lexeme) → IsText more rest → IsText (vs ++ more) (verb ++ rest))
    → ((rest : List ℕ) (more : List Lexeme) → IsText more rest → IsText (os ++ more) (32 ∷ (words ++ rest)))
    → IsPlainName name → IsEnd body ls → IsEnd (verb ++ (name ++ (32 ∷ (words ++ body)))) (vs ++ Name name ∷ (os ++ ls))
headed verb words body vs os ls name va vl wa wl v o named is =
    let a : List ℕ = 32 ∷ (words ++ body) in
    let space : chars a ≡ 32 ∷ (words ++ chars body) = ascii-before (32 ∷ words) body wa in
    let named_chars : chars (name ++ a) ≡ name ++ (32 ∷ (words ++ chars body)) = ascii-before name a (name-ascii name named.spelt) ∙ ap (λ (cs : List ℕ). name ++ cs) space in
    let all_chars : chars (verb ++ (name ++ a)) ≡ verb ++ (name ++ (32 ∷ (words ++ chars body))) = ascii-before verb (name ++ a) va ∙ ap (λ (cs : List ℕ). verb ++ cs) named_chars in
    record {
      utf8 = IsUtf8-append verb (name ++ a) (ascii-utf8 verb va) (IsUtf8-append name a (ascii-utf8 name (name-ascii name named.spelt))
          (IsUtf8-append (32 ∷ words) body (ascii-utf8 (32 ∷ words) wa) is.utf8));
      uncut = uncut_before verb (name ++ a) vl (uncut_before name a (name-lacks name named.spelt) (uncut_before (32 ∷ words) body wl is.uncut));
      text = texted (vs ++ Name name ∷ (os ++ ls)) (chars (verb ++ (name ++ a))) (verb ++ (name ++ (32 ∷ (words ++ chars body)))) all_chars
          (v (name ++ (32 ∷ (words ++ chars body))) (Name name ∷ (os ++ ls))
          (put (Name name) (os ++ ls) name (32 ∷ (words ++ chars body)) (name_written name named) refl (o (chars body) ls is.text)));
    }

-- ---- columns

never : (p : ℕ → Bool) → ((c : ℕ) → p c ≡ false) → (cs : List ℕ) → starts p cs ≡ false
never p fails [] = refl
never p fails (c ∷ cs) = fails c

numerals : IsNumeralModel (λ ds. list_all is_ascii_digit ds ≡ true) (fold (λ n d. n * 10 + (d - 48)) 0)
numerals = numerals_by_fold _ (search rules) (λ n ds. fold (λ n d. n * 10 + (d - 48)) n ds) (record { empty = λ n. refl; more = λ n c cs within. refl })

decimal-digits : (n : ℕ) → n < 2 ^ 64 → list_all is_ascii_digit (decimal n) ≡ true
decimal-digits n small = digits_decimal numerals n small

are_some_digits : (ds : List ℕ) → list_all is_ascii_digit ds ≡ true → 0 < length ds → IsDigits ds
are_some_digits [] all some = absurd (omega arith)
are_some_digits (d ∷ ds) all some = all

decimal-is : (n : ℕ) → n < 2 ^ 64 → IsDigits (decimal n)
decimal-is n small = are_some_digits (decimal n) (decimal-digits n small) (decimal_nonempty n small)

decimal-number : (n : ℕ) → n ≤ varchar2_limit → number (decimal n) ≡ Fits (pos n)
decimal-number n small =
    let same : value (decimal n) ≡ n = digits_value-decimal numerals n (omega (arith, small)) in
    ap positive same ∙ ap (λ (b : Bool). if b then Fits (pos n) else Beyond) (lt-ltb n (2 ^ 63) (omega (arith, small)))

abbrev pub sort_lexemes : Sort → List Lexeme
sort_lexemes Number = Word NUMBER ∷ []
sort_lexemes (Text n) = Word VARCHAR2 ∷ Sign Open ∷ NumberLexeme (decimal n) ∷ Sign Close ∷ []
sort_lexemes Long = Word CLOB ∷ []

abbrev pub column_lexemes : Column → List Lexeme
column_lexemes c = Name c.name ∷ sort_lexemes c.sort

sort_bytes : (s : Sort) → IsSort s → (p : ℕ → Bool) → ((b : ℕ) → is_ascii_digit b ≡ true → p b ≡ true) → p 32 ≡ true
    → list_all p (codes "NUMBER") ≡ true → list_all p (codes "VARCHAR2(") ≡ true → list_all p (codes ")") ≡ true → list_all p (codes "CLOB") ≡ true
    → list_all p (32 ∷ sort_text s) ≡ true
sort_bytes Number is p digit space number varchar2 close clob = and_from _ _ space number
sort_bytes (Text n) is p digit space number varchar2 close clob =
    and_from _ _ space (all_append p (codes "VARCHAR2(") (decimal n ++ codes ")") varchar2 (all_append p (decimal n) (codes ")") (weaker (decimal n) (decimal-digits n (omega (arith, is.1)))) close))
  where
    weaker : (ds : List ℕ) → list_all is_ascii_digit ds ≡ true → list_all p ds ≡ true
    weaker [] all = refl
    weaker (d ∷ ds) all = let q = and_parts (is_ascii_digit d) _ all in and_from _ _ (digit d q.0) (weaker ds q.1)
sort_bytes Long is p digit space number varchar2 close clob = and_from _ _ space clob

sort_written : (s : Sort) → IsSort s → (rest : List ℕ) (more : List Lexeme) → starts ends_item rest ≡ true → IsText more rest → IsText (sort_lexemes s ++ more) ((32 ∷ sort_text s) ++ rest)
sort_written Number is rest more ends next = put_apart (Word NUMBER) more (codes "NUMBER") rest (refl, refl, refl) (apart is_name_byte refl refl rest ends) next
sort_written (Text n) is rest more ends next =
    let tail : List ℕ = decimal n ++ (41 ∷ rest) in
    let same : (decimal n ++ codes ")") ++ rest ≡ tail = append_assoc (decimal n) (codes ")") rest in
    let small : n < 2 ^ 64 = omega (arith, is.1) in
    subst (λ (cs : List ℕ). IsText (sort_lexemes (Text n) ++ more) (32 ∷ (codes "VARCHAR2(" ++ cs))) (sym same)
    (put_apart (Word VARCHAR2) (Sign Open ∷ NumberLexeme (decimal n) ∷ Sign Close ∷ more) (codes "VARCHAR2") (40 ∷ tail) (refl, refl, refl) refl
    (put (Sign Open) (NumberLexeme (decimal n) ∷ Sign Close ∷ more) (codes "(") tail refl (never (joins (Sign Open)) (λ c. refl) tail)
    (put (NumberLexeme (decimal n)) (Sign Close ∷ more) (decimal n) (41 ∷ rest) (refl, decimal-is n small) refl
    (put (Sign Close) more (codes ")") rest refl (never (joins (Sign Close)) (λ c. refl) rest) next))))
sort_written Long is rest more ends next = put_apart (Word CLOB) more (codes "CLOB") rest (refl, refl, refl) (apart is_name_byte refl refl rest ends) next

-- a name, and words after it
named_item : (name words : List ℕ) (ls : List Lexeme) → IsPlainName name → are_ascii (32 ∷ words) ≡ true → lacks 59 (32 ∷ words) ≡ true
    → ((rest : List ℕ) (more : List Lexeme) → starts ends_item rest ≡ true → IsText more rest → IsText (ls ++ more) ((32 ∷ words) ++ rest))
    → IsItem (name ++ 32 ∷ words) (Name name ∷ ls)
named_item name words ls is ascii without text =
    ascii_item (name ++ 32 ∷ words) (Name name ∷ ls)
    (all_append (λ b. nat_lt b 128) name (32 ∷ words) (name-ascii name is.spelt) ascii)
    (all_append (λ b. not (b == 59)) name (32 ∷ words) (name-lacks name is.spelt) without)
    (λ rest more ends next. texted (Name name ∷ (ls ++ more)) ((name ++ 32 ∷ words) ++ rest) (name ++ ((32 ∷ words) ++ rest)) (append_assoc name (32 ∷ words) rest)
    (put (Name name) (ls ++ more) name ((32 ∷ words) ++ rest) (name_written name is) refl (text rest more ends next)))

column_item : (c : Column) → IsColumn c → IsItem (column_text c) (column_lexemes c)
column_item c is = named_item c.name (sort_text c.sort) (sort_lexemes c.sort) is.named
    (sort_bytes c.sort is.sorted (λ b. nat_lt b 128) (λ b digit. lt-ltb b 128 (digit_below b digit)) refl refl refl refl refl)
    (sort_bytes c.sort is.sorted (λ b. not (b == 59)) other refl refl refl refl refl)
    (sort_written c.sort is.sorted)
  where
    other : (b : ℕ) → is_ascii_digit b ≡ true → not (b == 59) ≡ true
    other b digit = grind arith

key_item : (name : List ℕ) → IsPlainName name → IsItem (name ++ codes " NUMBER PRIMARY KEY") (Name name ∷ Word NUMBER ∷ Word PRIMARY ∷ Word KEY ∷ [])
key_item name is = named_item name (codes "NUMBER PRIMARY KEY") (Word NUMBER ∷ Word PRIMARY ∷ Word KEY ∷ []) is refl refl
    (λ rest more ends next. put_apart (Word NUMBER) (Word PRIMARY ∷ Word KEY ∷ more) (codes "NUMBER") (codes " PRIMARY KEY" ++ rest) (refl, refl, refl) refl
    (put_apart (Word PRIMARY) (Word KEY ∷ more) (codes "PRIMARY") (codes " KEY" ++ rest) (refl, refl, refl) refl
    (put_apart (Word KEY) more (codes "KEY") rest (refl, refl, refl) (apart is_name_byte refl refl rest ends) next)))

columns_items : (cs : List Column) → AllByRecursion IsColumn cs → AreItems (map column_text cs) (map column_lexemes cs)
columns_items [] all = tt
columns_items (c ∷ cs) all = (column_item c all.0, columns_items cs all.1)

-- ---- values

abbrev pub value_lexemes : Sort → List ℕ → List Lexeme
value_lexemes Number field = whole_lexemes field
value_lexemes (Text n) field = TextLexeme field ∷ []
value_lexemes Long field = TextLexeme field ∷ []

abbrev pub values_lexemes : List Column → List (List ℕ) → List (List Lexeme)
values_lexemes [] fields = []
values_lexemes (c ∷ cs) [] = []
values_lexemes (c ∷ cs) (f ∷ fs) = value_lexemes c.sort f ∷ values_lexemes cs fs

value_item : (s : Sort) (field : List ℕ) → IsValue s field → IsItem (value_text s field) (value_lexemes s field)
value_item Number field is = whole_item field is
value_item (Text n) field is = text_item field is
value_item Long field is = text_item field is

values_items : (cs : List Column) (fs : List (List ℕ)) → AreValues cs fs → AreItems (value_texts cs fs) (values_lexemes cs fs)
values_items [] [] are = tt
values_items [] (f ∷ fs) are = absurd are
values_items (c ∷ cs) [] are = absurd are
values_items (c ∷ cs) (f ∷ fs) are = (value_item c.sort f are.0, values_items cs fs are.1)

-- ---- the lexemes of both statements

abbrev pub create_lexemes : Table → List Lexeme
create_lexemes t = Word CREATE ∷ Word TABLE ∷ Name t.name ∷ Sign Open ∷ ((Name t.key ∷ Word NUMBER ∷ Word PRIMARY ∷ Word KEY ∷ []) ++ list_lexemes (map column_lexemes t.columns))

abbrev pub insert_lexemes : List ℕ → List Column → Row → List Lexeme
insert_lexemes name columns row = Word INSERT ∷ Word INTO ∷ Name name ∷ Word VALUES ∷ Sign Open ∷ (whole_lexemes row.key ++ list_lexemes (values_lexemes columns row.values))

pub create_is : (t : Table) → IsWritable t → IsEnd (create_text t) (create_lexemes t)
create_is t is =
    let columns = list_is (map column_text t.columns) (map column_lexemes t.columns) (columns_items t.columns is.columns) in
    let same : (t.key ++ codes " NUMBER PRIMARY KEY") ++ list_end (map column_text t.columns) ≡ t.key ++ (codes " NUMBER PRIMARY KEY" ++ list_end (map column_text t.columns))
    = append_assoc t.key (codes " NUMBER PRIMARY KEY") (list_end (map column_text t.columns)) in
    let body = item_then (t.key ++ codes " NUMBER PRIMARY KEY") (list_end (map column_text t.columns)) (Name t.key ∷ Word NUMBER ∷ Word PRIMARY ∷ Word KEY ∷ [])
    (list_lexemes (map column_lexemes t.columns))
    (key_item t.key is.key) (list-starts (map column_text t.columns)) columns in
    headed (codes "CREATE TABLE ") (codes "(") (t.key ++ (codes " NUMBER PRIMARY KEY" ++ list_end (map column_text t.columns)))
    (Word CREATE ∷ Word TABLE ∷ []) (Sign Open ∷ []) ((Name t.key ∷ Word NUMBER ∷ Word PRIMARY ∷ Word KEY ∷ []) ++ list_lexemes (map column_lexemes t.columns)) t.name refl refl refl refl
    (λ rest more next. put (Word CREATE) (Word TABLE ∷ more) (codes "CREATE") (codes " TABLE " ++ rest) (refl, refl, refl) refl
    (put_apart (Word TABLE) more (codes "TABLE") (32 ∷ rest) (refl, refl, refl) refl (blank more rest next)))
    (λ rest more next. put_apart (Sign Open) more (codes "(") rest refl (never (joins (Sign Open)) (λ c. refl) rest) next)
    is.name (subst (λ (b : List ℕ). IsEnd b ((Name t.key ∷ Word NUMBER ∷ Word PRIMARY ∷ Word KEY ∷ []) ++ list_lexemes (map column_lexemes t.columns))) same body)

pub insert_is : (name : List ℕ) (columns : List Column) (row : Row) → IsPlainName name → IsRow columns row → IsEnd (insert_text name columns row) (insert_lexemes name columns row)
insert_is name columns row named is =
    let values = list_is (value_texts columns row.values) (values_lexemes columns row.values) (values_items columns row.values is.values) in
    headed (codes "INSERT INTO ") (codes "VALUES (") (row.key ++ list_end (value_texts columns row.values))
    (Word INSERT ∷ Word INTO ∷ []) (Word VALUES ∷ Sign Open ∷ []) (whole_lexemes row.key ++ list_lexemes (values_lexemes columns row.values)) name refl refl refl refl
    (λ rest more next. put (Word INSERT) (Word INTO ∷ more) (codes "INSERT") (codes " INTO " ++ rest) (refl, refl, refl) refl
    (put_apart (Word INTO) more (codes "INTO") (32 ∷ rest) (refl, refl, refl) refl (blank more rest next)))
    (λ rest more next. put_apart (Word VALUES) (Sign Open ∷ more) (codes "VALUES") (32 ∷ (codes "(" ++ rest)) (refl, refl, refl) refl
    (put_apart (Sign Open) more (codes "(") rest refl (never (joins (Sign Open)) (λ c. refl) rest) next))
    named (item_then row.key (list_end (value_texts columns row.values)) (whole_lexemes row.key) (list_lexemes (values_lexemes columns row.values))
    (whole_item row.key is.key) (list-starts (value_texts columns row.values)) values)

-- ---- what the lexemes are

-- each of these lists of lexemes is its value
abbrev pub AreEach : {A : Type 0} → (List Lexeme → A → Type 0) → List (List Lexeme) → List A → Type 0
AreEach Is [] [] = Unit {0}
AreEach Is [] (a ∷ more) = ⊥
AreEach Is (ls ∷ lss) [] = ⊥
AreEach Is (ls ∷ lss) (a ∷ more) = Is ls a × AreEach Is lss more

listed : {A : Type 0} (Is : List Lexeme → A → Type 0) (prefix : List Lexeme) (a : A) (lss : List (List Lexeme)) (more : List A) → Is prefix a → AreEach Is lss more
    → (list : List Lexeme) × AreListed Is list (a ∷ more) × (prefix ++ list_lexemes lss ≡ list ++ Sign Close ∷ [])
listed Is prefix a [] [] is are = (prefix, is, refl)
listed Is prefix a [] (b ∷ bs) is are = absurd are
listed Is prefix a (ls ∷ lss) [] is are = absurd are
listed Is prefix a (ls ∷ lss) (b ∷ bs) is are =
    let rest = listed Is ls b lss bs are.0 are.1 in (
      prefix ++ Sign Comma ∷ rest.0,
      (prefix, rest.0, refl, is, rest.1),
      ap (λ (ms : List Lexeme). prefix ++ Sign Comma ∷ ms) rest.2 ∙ sym (append_assoc prefix (Sign Comma ∷ rest.0) (Sign Close ∷ [])),
    )

enclosed : {A : Type 0} (Is : List Lexeme → A → Type 0) (prefix : List Lexeme) (a : A) (lss : List (List Lexeme)) (more : List A) → Is prefix a → AreEach Is lss more
    → AreEnclosed Is (Sign Open ∷ (prefix ++ list_lexemes lss)) (a ∷ more)
enclosed Is prefix a lss more is are = let l = listed Is prefix a lss more is are in (l.0, l.1, ap (λ (ms : List Lexeme). Sign Open ∷ ms) l.2)

sort_is : (s : Sort) → IsSort s → IsSortText (sort_lexemes s) (sort_read s)
sort_is Number is = refl
sort_is (Text n) is = (decimal n, sym (decimal-number n is.1), refl)
sort_is Long is = refl

columns_are : (cs : List Column) → AllByRecursion IsColumn cs → AreEach IsColumnSpelt (map column_lexemes cs) (map column_read cs)
columns_are [] all = tt
columns_are (c ∷ cs) all = ((sort_lexemes c.sort, sort_is c.sort all.0.sorted, ap (λ (ls : List Lexeme). Name c.name ∷ ls) (sym (append-nil (sort_lexemes c.sort)))), columns_are cs all.1)

below_is : (b : Bool) (n : Whole) → fits (if b then n else Beyond) ≡ true → (if b then n else Beyond) ≡ n
below_is true n fit = refl
below_is false n fit = cc

whole_is : (field : List ℕ) → is_whole field ≡ true → IsSigned (whole_lexemes field) (whole field)
whole_is field is = by_spelling (spelt_whole field is)
  where
    by_spelling : Spelt field → IsSigned (whole_lexemes field) (whole field)
    by_spelling (inl (are, e)) =
        subst (λ (o : Option (List ℕ)). IsSigned (sign_lexemes o field) (signed o field)) (sym e)
        (field, inl (ap (λ (b : Bool). if b then number field else Beyond) are, refl))
    by_spelling (inr (ds, same, are, e)) =
        let fit : fits (below_zero ds) ≡ true = subst (λ (o : Option (List ℕ)). fits (signed o field) ≡ true) e is in
        subst (λ (o : Option (List ℕ)). IsSigned (sign_lexemes o field) (signed o field)) (sym e)
        (ds, inr (below_is (are_digits ds && not (is_first 48 ds)) (negated ds) fit, refl))

operand_is : (s : Sort) (field : List ℕ) → IsValue s field → IsOperand (value_lexemes s field) (operand s field)
operand_is Number field is = whole_is field is
operand_is (Text n) field is = refl
operand_is Long field is = refl

operands_are : (cs : List Column) (fs : List (List ℕ)) → AreValues cs fs → AreEach IsOperand (values_lexemes cs fs) (operands cs fs)
operands_are [] [] are = tt
operands_are [] (f ∷ fs) are = absurd are
operands_are (c ∷ cs) [] are = absurd are
operands_are (c ∷ cs) (f ∷ fs) are = (operand_is c.sort f are.0, operands_are cs fs are.1)

create_statement : (t : Table) → IsWritable t → IsStatement (create_lexemes t) (creates t)
create_statement t is = (
  _,
  enclosed IsColumnSpelt (Name t.key ∷ Word NUMBER ∷ Word PRIMARY ∷ Word KEY ∷ []) (key_read t.key) (map column_lexemes t.columns) (map column_read t.columns)
      (Word NUMBER ∷ [], refl, refl) (columns_are t.columns is.columns),
  refl,
)

insert_statement : (name : List ℕ) (columns : List Column) (row : Row) → IsRow columns row → IsStatement (insert_lexemes name columns row) (inserts name columns row)
insert_statement name columns row is = (
  [],
  _,
  refl,
  enclosed IsOperand (whole_lexemes row.key) (NumberValue (whole row.key)) (values_lexemes columns row.values) (operands columns row.values)
      (whole_is row.key is.key) (operands_are columns row.values is.values),
  refl,
)

-- ---- and what the texts are read as

module _ (written : (ls : List Lexeme) (text : List ℕ) → IsText ls text ↔ (lexemes text ≡ Some ls)) (known : (ls : List Lexeme) (s : Statement) → IsStatement ls s ↔ (statement_of ls ≡ Some s)) where
  read_as : (bytes : List ℕ) (l : Lexeme) (ls : List Lexeme) (s : Statement) → IsEnd bytes (l ∷ ls) → IsStatement (l ∷ ls) s → read (chars bytes) ≡ Found s
  read_as bytes l ls s end is =
      ap read_lexemes ((written (l ∷ ls) (chars bytes)).0 end.text) ∙ ap statement_read ((known (l ∷ ls) s).0 is)

  pub create_read : (t : Table) → IsWritable t → read (chars (create_text t)) ≡ Found (creates t)
  create_read t is = read_as (create_text t) _ _ (creates t) (create_is t is) (create_statement t is)

  pub insert_read : (name : List ℕ) (columns : List Column) (row : Row) → IsPlainName name → IsRow columns row → read (chars (insert_text name columns row)) ≡ Found (inserts name columns row)
  insert_read name columns row named is = read_as (insert_text name columns row) _ _ (inserts name columns row) (insert_is name columns row named is) (insert_statement name columns row is)
