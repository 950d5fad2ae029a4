-- The steps of reading an entry.
use Rattle.std.proofs.Common.{◌≡◌, ℕ, suc, ◌+◌, ◌<◌, Bool, true, false, List, [], ◌∷◌, ◌++◌, length, drop, get_or, Option, Some, None, sym, ap, subst, ◌∙◌, arith, append_assoc, length-append, add-one}
use Rattle.std.specs.Prelude.{◌==◌, ◌↔◌, IsTrue, Decides}
use Rattle.std.specs.Str.{bytes_eq}
use Rattle.std.proofs.Math.Seq.{drop-cons}
use Rattle.std.proofs.lemmas.Bool.{eqb-true, eq-eqb, false≢true}
use Rattle.std.proofs.lemmas.Slice.Eq.{bytes_eq-Decides}
use Rattle.std.proofs.lemmas.Option.{same_Some}
use Rattle.ct_base.specs.Names.{IsName, kept_name}
use Rattle.ct_base.specs.laws.Names.{name_length, kept_name-name}
use Rattle.ct_base.specs.laws.Lists.{cons_parts}
use Rattle.ct_bytes.specs.Varints.{varint, text_bytes, IsTextAt}
use Rattle.ct_bytes.specs.laws.Varints.{text_placed, text_apart}
use Rattle.ct_entry.specs.Keys.{counted_bytes}
use Rattle.ct_entry.specs.Listings.{owner_of}
use Rattle.ct_entry.specs.laws.Owners.{owner_of-counted_bytes, owner_some}
use Rattle.tb_table.specs.declared.columns.Target.{Target}
use Rattle.db_names.specs.declared.heads.IndexKind.{IndexKind}
use Rattle.db_names.specs.declared.heads.IndexHead.{IndexHead}
use Rattle.db_names.specs.Heads.{index_code, IsHead, HasHead, SpellsHead}
use Rattle.db_names.specs.laws.Heads.{has_one}
use Rattle.db_names.specs.Parts.{HasHeadParts, NameOn, IsPairOf}

-- ---- the parts of a head

-- the text of the parts stands where it is looked for
pub text_stands : (value : List ℕ) (code : ℕ) (table : List ℕ) (column : ℕ) → HasHeadParts value code table column → IsTextAt value 1 table (1 + length (text_bytes table))
text_stands value code table column has =
    subst (λ (v : List ℕ). IsTextAt v 1 table (1 + length (text_bytes table)))
    (sym (has.whole ∙ ap (λ l. code ∷ l) (append_assoc (text_bytes table) (column ∷ []) has.rest)))
    (text_placed (code ∷ []) (column ∷ has.rest) table has.small)

-- and a byte after it
pub column_stands : (value : List ℕ) (code : ℕ) (table : List ℕ) (column : ℕ) → HasHeadParts value code table column → 1 + length (text_bytes table) < length value
column_stands value code table column has =
    let l = simp length-append at (ap length has.whole) in
    let prefix = length-append (varint (length table)) table in
    omega (arith, l, prefix)

pub parts_made : (value : List ℕ) (code : ℕ) (text : List ℕ) (at column : ℕ) → 0 < length value → get_or value 0 0 ≡ code → IsTextAt value 1 text at → at < length value → get_or value at 0 ≡ column → HasHeadParts value code text column
parts_made value code text at column some first there enough last = record {
  small = there.small;
  rest = drop (at + 1) value;
  whole =
      drop-cons value 0 0 some ∙ ap (λ n. n ∷ drop 1 value) first
      ∙ ap (λ l. code ∷ l) (there.spelt ∙ ap (λ l. text_bytes text ++ l) (drop-cons value at 0 enough ∙ rw (add-one) (ap (λ n. n ∷ drop (suc at) value) last)) ∙ sym (append_assoc (text_bytes text) (column ∷ []) (drop (at + 1) value)));
}

-- the bytes begin with one head, however it is written
same_prefix : (c d : ℕ) (t u : List ℕ) (m n : ℕ) (x y : List ℕ) → (c ∷ text_bytes t ++ m ∷ []) ++ x ≡ (d ∷ text_bytes u ++ n ∷ []) ++ y → (c ≡ d) × (t ≡ u) × (m ≡ n)
same_prefix c d t u m n x y e =
    let code = cons_parts _ _ _ _ e in
    let table = text_apart t u (m ∷ x) (n ∷ y) (sym (append_assoc (text_bytes t) (m ∷ []) x) ∙ code.1 ∙ append_assoc (text_bytes u) (n ∷ []) y) in
    (code.0, table.0, (cons_parts _ _ _ _ table.1).0)

-- ---- heads

-- a head against the parts that were read
pub head_parts : (value : List ℕ) (code : ℕ) (text : List ℕ) (column : ℕ) (h : IndexHead) → HasHeadParts value code text column → HasHead (Some value) h → (code ≡ index_code h.kind) × (text ≡ h.target.table) × (column ≡ h.target.column)
head_parts value code text column h has is =
    same_prefix code (index_code h.kind) text h.target.table column h.target.column has.rest is.rest (sym has.whole ∙ same_Some _ _ is.whole)

pub no_parts : (value : List ℕ) → ((code : ℕ) (table : List ℕ) (column : ℕ) → HasHeadParts value code table column → ⊥) → (h : IndexHead) → IsName h.target.table → HasHead (Some value) h → ⊥
no_parts value none h name has =
    none (index_code h.kind) h.target.table h.target.column (record { small = let l = name_length h.target.table name in omega (arith, l); rest = has.rest; whole = same_Some _ _ has.whole })

pub no_name : (value : List ℕ) (code : ℕ) (text : List ℕ) (column : ℕ) → HasHeadParts value code text column → kept_name text ≡ None → (h : IndexHead) → IsHead h → HasHead (Some value) h → ⊥
no_name value code text column has none h is head =
    let wrong : None ≡ Some h.target.table = sym none ∙ ap kept_name (head_parts value code text column h has head).1 ∙ kept_name-name h.target.table is.table in
    cc

-- ---- whether it is the head that is looked for

pub on_made : (value : List ℕ) (code : ℕ) (text : List ℕ) (column : ℕ) (kind : IndexKind) (target : Target) → HasHeadParts value code text column → IsName target.table → column < 256 → code ≡ index_code kind → text ≡ target.table → column ≡ target.column
    → SpellsHead (Some value) (Some (record { kind = kind; target = target }))
on_made value code text column kind target has name few c t n = (
  record { table = name; column = omega (arith, few, n) },
  record {
    rest = has.rest;
    whole =
        ap Some
        (has.whole ∙ ap (λ d. (d ∷ text_bytes text ++ column ∷ []) ++ has.rest) c ∙ ap (λ u. (index_code kind ∷ text_bytes u ++ column ∷ []) ++ has.rest) t
        ∙ ap (λ m. (index_code kind ∷ text_bytes target.table ++ m ∷ []) ++ has.rest) n);
  },
)

-- the first two parts are those that are looked for
abbrev pub AreFirst : ℕ → List ℕ → IndexKind → Target → Type 0
AreFirst code text kind target = (code ≡ index_code kind) × (text ≡ target.table)

pub first_then : (code : ℕ) (text wanted : List ℕ) (kind : IndexKind) (target : Target) (r : Bool) → code ≡ index_code kind → wanted ≡ target.table → r ≡ bytes_eq text wanted → Decides r (AreFirst code text kind target)
first_then code text wanted kind target r same table is = (
  λ e. (same, (bytes_eq-Decides text wanted).0 (sym is ∙ e) ∙ table),
  λ p. is ∙ (bytes_eq-Decides text wanted).1 (p.1 ∙ sym table),
)

pub first_else : (code d : ℕ) (text : List ℕ) (kind : IndexKind) (target : Target) (r : Bool) → d ≡ index_code kind → (code ≡ d → ⊥) → r ≡ (code == d) → Decides r (AreFirst code text kind target)
first_else code d text kind target r is other test = (λ e. absurd (other (eqb-true code d (sym test ∙ e))), λ p. absurd (other (p.0 ∙ sym is)))

pub last_then : (value : List ℕ) (code : ℕ) (text : List ℕ) (column : ℕ) (kind : IndexKind) (target : Target) (r : Bool) → HasHeadParts value code text column → IsName target.table → column < 256 → Decides r (AreFirst code text kind target) → r ≡ true
    → IsTrue (column == target.column) ↔ SpellsHead (Some value) (Some (record { kind = kind; target = target }))
last_then value code text column kind target r has name few decides is = (
  λ e. let first = decides.0 is in on_made value code text column kind target has name few first.0 first.1 (eqb-true column target.column e),
  λ head. eq-eqb column target.column (head_parts value code text column (record { kind = kind; target = target }) has head.1).2,
)

pub last_else : (value : List ℕ) (code : ℕ) (text : List ℕ) (column : ℕ) (kind : IndexKind) (target : Target) (r : Bool) → HasHeadParts value code text column → Decides r (AreFirst code text kind target) → r ≡ false
    → IsTrue r ↔ SpellsHead (Some value) (Some (record { kind = kind; target = target }))
last_else value code text column kind target r has decides is = (
  λ e. absurd (false≢true (sym is ∙ e)),
  λ head. let p = head_parts value code text column (record { kind = kind; target = target }) has head.1 in decides.1 (p.0, p.1),
)

-- ---- the names in keys

-- no name is spelt where none is read
no_owner : (q u : List ℕ) → owner_of q ≡ None → IsName u → q ≡ counted_bytes u → ⊥
no_owner q u none is e = let wrong : None ≡ Some u = sym none ∙ ap owner_of e ∙ owner_of-counted_bytes u is in cc

pub named_on : (h : IndexHead) (q v : List ℕ) (r : Option (List ℕ)) → r ≡ owner_of q → SpellsHead (Some v) (Some h) → NameOn h (q, v) r
named_on h q v None is has = λ i e. no_owner q i (sym is) e.name e.spelt
named_on h q v (Some u) is has = let o = owner_some q u (sym is) in record { name = o.1; spelt = o.0; head = has }

-- ---- pairs

pub pair_unnamed : (t q v : List ℕ) → owner_of q ≡ None → (p : List ℕ × IndexHead) → IsPairOf t (q, v) p → ⊥
pair_unnamed t q v none p is = no_owner q p.0 none is.entry.name is.entry.spelt

pub pair_elsewhere : (t q v : List ℕ) (h : IndexHead) → SpellsHead (Some v) (Some h) → (h.target.table ≡ t → ⊥) → (p : List ℕ × IndexHead) → IsPairOf t (q, v) p → ⊥
pair_elsewhere t q v h spelt other p is = other (ap (λ (x : IndexHead). x.target.table) (has_one (Some v) h p.1 spelt.1 is.entry.head.1) ∙ is.table)
