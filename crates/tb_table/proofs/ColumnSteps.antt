-- The steps of reading columns.
use Rattle.std.proofs.Common.{◌≡◌, ℕ, ◌+◌, ◌^◌, ◌<◌, ◌≤◌, List, [], ◌∷◌, ◌++◌, length, take, drop, Option, Some, None, refl, sym, ap, subst, ◌∙◌, arith, append_assoc, append-nil, length-append, length-drop, add_assoc}
use Rattle.std.specs.Prelude.{IfNone, IfSome}
use Rattle.std.specs.List.{flat_map}
use Rattle.std.proofs.lemmas.List.{length-take, drop-drop, drop_at, take_at, drop_all, take-append-drop}
use Rattle.std.proofs.lemmas.Grind.{flat_map-append}
use Rattle.ct_base.specs.Names.{kept_name}
use Rattle.ct_base.specs.laws.Names.{name_length, kept_name-name, kept_some}
use Rattle.ct_bytes.specs.Varints.{varint, text_bytes, IsVarintAt, IsTextAt}
use Rattle.ct_bytes.specs.laws.Varints.{varint_apart, text_at_one}
use Rattle.tb_table.specs.declared.columns.Sort.{Sort}
use Rattle.tb_table.specs.declared.columns.Column.{Column}
use Rattle.tb_table.specs.Spelling.{sort_size, column_bytes, columns_bytes}
use Rattle.tb_table.specs.Readings.{IsSpellable, EachSpellable, AreSpellable, sort_bytes, IsColumnAt}
use Rattle.tb_table.specs.laws.Spelling.{each_column_apart}

-- ---- sorts

-- three bytes don't stand where fewer do
pub sort_short : (bytes : List ℕ) (at : ℕ) (s : Sort) → length bytes < at + 3 → take 3 (drop at bytes) ≡ sort_bytes s → ⊥
sort_short bytes at s short e = let l = simp (length-take, length-drop) at (ap length e) in omega (arith, l)

-- where three do, they are within the bytes
pub sort_within : (bytes : List ℕ) (at : ℕ) (s : Sort) → take 3 (drop at bytes) ≡ sort_bytes s → at + 3 ≤ length bytes
sort_within bytes at s e = let l = simp (length-take, length-drop) at (ap length e) in omega (arith, l)

-- ---- one column

pub column_made : (bytes : List ℕ) (at : ℕ) (text name : List ℕ) (start : ℕ) (s : Sort) → IsTextAt bytes at text start → kept_name text ≡ Some name → sort_size s < 2 ^ 16 → take 3 (drop start bytes) ≡ sort_bytes s
    → IsColumnAt bytes at (record { name = name; sort = s }) (start + 3)
column_made bytes at text name start s there kept fits is =
    let k = kept_some text name kept in
    rw (sym k.0) (record {
      spellable = record { name = k.1; size = fits };
      spelt =
          there.spelt ∙ ap (λ x. text_bytes text ++ x) (sym (take-append-drop 3 (drop start bytes)))
          ∙ ap (λ x. text_bytes text ++ (x ++ drop 3 (drop start bytes))) is
          ∙ ap (λ x. text_bytes text ++ (sort_bytes s ++ x)) (drop-drop 3 start bytes)
          ∙ sym (append_assoc (text_bytes text) (sort_bytes s) (drop (start + 3) bytes));
      end =
          let whole = length-append (text_bytes text) (sort_bytes s) in
          let prefix = length-append (varint (length text)) text in
          omega (arith, there.end, whole, prefix);
    })

-- what a column is made of
record Parts (bytes : List ℕ) (at : ℕ) (c : Column) : Type 0 where
  text : IsTextAt bytes at c.name (at + length (text_bytes c.name))
  sort : take 3 (drop (at + length (text_bytes c.name)) bytes) ≡ sort_bytes c.sort

parts_of : (bytes : List ℕ) (at : ℕ) (c : Column) (next : ℕ) → IsColumnAt bytes at c next → Parts bytes at c
parts_of bytes at c next is = record {
  text = record {
    small = let l = name_length c.name is.spellable.name in omega arith;
    spelt = prefix ∙ ap (λ x. text_bytes c.name ++ x) (sym end);
    end = ap (λ n. at + n) (length-append (varint (length c.name)) c.name) ∙ sym (add_assoc at (length (varint (length c.name))) (length c.name));
  };
  sort = ap (take 3) end ∙ take_at (sort_bytes c.sort) (drop next bytes) 3 refl;
}
  where
    prefix : drop at bytes ≡ text_bytes c.name ++ (sort_bytes c.sort ++ drop next bytes)
    prefix = is.spelt ∙ append_assoc (text_bytes c.name) (sort_bytes c.sort) (drop next bytes)

    end : drop (at + length (text_bytes c.name)) bytes ≡ sort_bytes c.sort ++ drop next bytes
    end =
        sym (drop-drop (length (text_bytes c.name)) at bytes) ∙ ap (drop (length (text_bytes c.name))) prefix
        ∙ drop_at (text_bytes c.name) (sort_bytes c.sort ++ drop next bytes) (length (text_bytes c.name)) refl

pub no_text : (bytes : List ℕ) (at : ℕ) → ((text : List ℕ) (next : ℕ) → IsTextAt bytes at text next → ⊥) → (c : Column) (next : ℕ) → IsColumnAt bytes at c next → ⊥
no_text bytes at none c next is = none c.name (at + length (text_bytes c.name)) (parts_of bytes at c next is).text

pub no_name : (bytes : List ℕ) (at : ℕ) (text : List ℕ) (start : ℕ) → IsTextAt bytes at text start → kept_name text ≡ None → (c : Column) (next : ℕ) → IsColumnAt bytes at c next → ⊥
no_name bytes at text start there none c next is =
    let same = text_at_one bytes at text start c.name (at + length (text_bytes c.name)) there (parts_of bytes at c next is).text in
    let found : None ≡ Some c.name = sym none ∙ ap kept_name same.0 ∙ kept_name-name c.name is.spellable.name in
    cc

pub no_sort : (bytes : List ℕ) (at : ℕ) (text : List ℕ) (start : ℕ) → IsTextAt bytes at text start → ((s : Sort) → sort_size s < 2 ^ 16 → take 3 (drop start bytes) ≡ sort_bytes s → ⊥) → (c : Column) (next : ℕ) → IsColumnAt bytes at c next → ⊥
no_sort bytes at text start there none c next is =
    let parts = parts_of bytes at c next is in
    let same = text_at_one bytes at text start c.name (at + length (text_bytes c.name)) there parts.text in
    none c.sort is.spellable.size (ap (λ n. take 3 (drop n bytes)) same.1 ∙ parts.sort)

-- ---- columns in a row

-- From `start` on these columns were read, up to `at`.
pub record AreRead (bytes : List ℕ) (start at : ℕ) (cs : List Column) : Type 0 where
  pub each : EachSpellable cs
  pub made : drop start bytes ≡ flat_map column_bytes cs ++ drop at bytes
  pub within : at ≤ length bytes

pub none_read : (bytes : List ℕ) (start : ℕ) → start ≤ length bytes → AreRead bytes start start []
none_read bytes start within = record { each = tt; made = refl; within = within }

one_more : (cs : List Column) (c : Column) → EachSpellable cs → IsSpellable c → EachSpellable (cs ++ c ∷ [])
one_more [] c each one = (one, tt)
one_more (d ∷ cs) c each one = (each.0, one_more cs c each.1 one)

pub more_read : (bytes : List ℕ) (start at : ℕ) (cs : List Column) (c : Column) (next : ℕ) → AreRead bytes start at cs → IsColumnAt bytes at c next → next ≤ length bytes → AreRead bytes start next (cs ++ c ∷ [])
more_read bytes start at cs c next read is within = record {
  each = one_more cs c read.each is.spellable;
  made =
      read.made ∙ ap (λ x. flat_map column_bytes cs ++ x) is.spelt
      ∙ sym (append_assoc (flat_map column_bytes cs) (column_bytes c) (drop next bytes))
      ∙ ap (λ x. flat_map column_bytes cs ++ x ++ drop next bytes) (sym (append-nil (column_bytes c)))
      ∙ ap (λ x. x ++ drop next bytes) (sym (flat_map-append column_bytes cs (c ∷ [])));
  within = within;
}

-- the columns that all of the bytes spell
counted : (bytes : List ℕ) (count start : ℕ) (ds : List Column) → IsVarintAt bytes 0 count start → Some bytes ≡ Some (columns_bytes ds) → (length ds ≡ count) × (flat_map column_bytes ds ≡ drop start bytes)
counted bytes count start ds there e =
    let whole : bytes ≡ columns_bytes ds = cc in
    varint_apart (length ds) count (flat_map column_bytes ds) (drop start bytes) (sym whole ∙ there.spelt)

-- after fewer columns than there are stands another
next_column : (cs ds : List Column) (x : List ℕ) → EachSpellable cs → EachSpellable ds → length cs < length ds → flat_map column_bytes cs ++ x ≡ flat_map column_bytes ds
    → (d : Column) × ((rest : List ℕ) × IsSpellable d × (x ≡ column_bytes d ++ rest))
next_column [] [] x f g l e = absurd (omega arith)
next_column [] (d ∷ ds) x f g l e = (d, (flat_map column_bytes ds, g.0, e))
next_column (c ∷ cs) [] x f g l e = absurd (omega arith)
next_column (c ∷ cs) (d ∷ ds) x f g l e =
    let head = each_column_apart (c ∷ []) (d ∷ []) (flat_map column_bytes cs ++ x) (flat_map column_bytes ds) (f.0, tt) (g.0, tt) refl (ap (λ y. y ++ (flat_map column_bytes cs ++ x)) (append-nil (column_bytes c)) ∙ sym (append_assoc (column_bytes c) (flat_map column_bytes cs) x) ∙ e ∙ ap (λ y. y ++ flat_map column_bytes ds) (sym (append-nil (column_bytes d)))) in
    next_column cs ds x f.1 g.1 (omega arith) head.1

pub stuck : (bytes : List ℕ) (count start at : ℕ) (cs : List Column) → IsVarintAt bytes 0 count start → AreRead bytes start at cs → length cs < count → ((c : Column) (next : ℕ) → IsColumnAt bytes at c next → ⊥)
    → (ds : List Column) → AreSpellable ds → Some bytes ≡ Some (columns_bytes ds) → ⊥
stuck bytes count start at cs there read fewer none ds are e =
    let h = counted bytes count start ds there e in
    let n = next_column cs ds (drop at bytes) read.each are.each (omega (arith, h.0)) (sym read.made ∙ sym h.1) in
    none n.0 (at + length (column_bytes n.0)) (record {
      spellable = n.1.1;
      spelt = n.1.2 ∙ ap (λ x. column_bytes n.0 ++ x) (sym (sym (drop-drop (length (column_bytes n.0)) at bytes) ∙ ap (drop (length (column_bytes n.0))) n.1.2 ∙ drop_at (column_bytes n.0) n.1.0 (length (column_bytes n.0)) refl));
      end = refl;
    })

pub all_read : (bytes : List ℕ) (count start at : ℕ) (cs : List Column) → IsVarintAt bytes 0 count start → AreRead bytes start at cs → length cs ≡ count → at ≡ length bytes → AreSpellable cs × (Some bytes ≡ Some (columns_bytes cs))
all_read bytes count start at cs there read all end = (
  record { each = read.each; few = let l = there.small in omega arith },
  ap Some (there.spelt ∙ ap (λ x. varint count ++ x) (read.made ∙ ap (λ x. flat_map column_bytes cs ++ x) (drop_all at bytes (omega arith)) ∙ append-nil (flat_map column_bytes cs)) ∙ ap (λ n. varint n ++ flat_map column_bytes cs) (sym all)),
)

pub some_left : (bytes : List ℕ) (count start at : ℕ) (cs : List Column) → IsVarintAt bytes 0 count start → AreRead bytes start at cs → length cs ≡ count → (at ≡ length bytes → ⊥)
    → (ds : List Column) → AreSpellable ds → Some bytes ≡ Some (columns_bytes ds) → ⊥
some_left bytes count start at cs there read all more ds are e =
    let h = counted bytes count start ds there e in
    let rest = each_column_apart cs ds (drop at bytes) [] read.each are.each (all ∙ sym h.0) (sym read.made ∙ sym h.1 ∙ sym (append-nil (flat_map column_bytes ds))) in
    let none = sym (length-drop at bytes) ∙ ap length rest.1 in
    more (let within = read.within in omega (arith, none))

-- no varint, no columns
pub no_count : (bytes : List ℕ) → ((n next : ℕ) → IsVarintAt bytes 0 n next → ⊥) → (ds : List Column) → AreSpellable ds → Some bytes ≡ Some (columns_bytes ds) → ⊥
no_count bytes none ds are e =
    let whole : bytes ≡ columns_bytes ds = cc in
    none (length ds) (length (varint (length ds))) (record {
      small = are.few;
      spelt = whole ∙ ap (λ x. varint (length ds) ++ x) (sym (ap (drop (length (varint (length ds)))) whole ∙ drop_at (varint (length ds)) (flat_map column_bytes ds) (length (varint (length ds))) refl));
      end = omega arith;
    })

-- what is known of an answer, where it is None, and where it is something
pub from_none : {X : Type 0} (o : Option X) (P : Type 0) → o ≡ None → IfNone o P → P
from_none None P is h = h
from_none (Some x) P is h = cc

pub from_some : {X : Type 0} (o : Option X) (P : X → Type 0) (x : X) → o ≡ Some x → IfSome o P → P x
from_some None P x is h = cc
from_some (Some y) P x is h = let e : y ≡ x = cc in subst P e h
