-- Why a statement is refused, and the line that says so; and the reply of a query without a line.
use Rattle.std.specs.Prelude.{ℕ, ℤ, pos, List, ◌++◌, codes, ◌≡◌, refl}
use Rattle.std.specs.Fmt.{signed_decimal, digits}
use Rattle.db_cond.specs.Lines.{printed_text}

-- the cause of a refusal, with what its line shows
pub data Refusal : Type 0 where
  NotUnderstood : Refusal
  UnknownName : List ℕ → Refusal
  ExistsAlready : List ℕ → Refusal
  WrongValues : Refusal
  KeyExists : ℤ → Refusal
  ValueTooLong : Refusal
  StatementTooLong : Refusal
  -- at this place of a query text, counted from 1: what breaks the grammar, what isn't in the profile, a number out of its range,
  -- and a word that EQUIV joins and that isn't one token
  QuerySyntax : ℕ → Refusal
  NotInProfile : ℕ → Refusal
  QueryNumber : ℕ → Refusal
  NotOneWord : ℕ → Refusal
  UnknownSection : List ℕ → Refusal
  FieldInside : List ℕ → Refusal
  UnknownThesaurus : List ℕ → Refusal
  TooManyTerms : Refusal
  QueryTooLarge : Refusal
  OutOfRange : Refusal
  NoIndexOfKind : Refusal
  BadValue : Refusal
  LimitReached : Refusal
  -- of a structured query
  InNoSubIndex : List ℕ → Refusal

-- no statement of the grammar
abbrev pub not_understood : List ℕ
not_understood = codes "E10: statement not understood\n"

abbrev pub value_too_long : List ℕ
value_too_long = codes "E16: value too long\n"

abbrev pub statement_too_long : List ℕ
statement_too_long = codes "E19: statement too long\n"

abbrev pub store_full : List ℕ
store_full = codes "E80: store full\n"

abbrev pub out_of_memory : List ℕ
out_of_memory = codes "E90: out of memory\n"

-- the line of a refusal
abbrev pub refusal_line : Refusal → List ℕ
refusal_line NotUnderstood = not_understood
refusal_line (UnknownName name) = codes "E11: unknown name " ++ printed_text name ++ codes "\n"
refusal_line (ExistsAlready name) = codes "E12: " ++ printed_text name ++ codes " exists already\n"
refusal_line WrongValues = codes "E13: wrong type or number of values\n"
refusal_line (KeyExists key) = codes "E14: key " ++ signed_decimal key ++ codes " exists\n"
refusal_line ValueTooLong = value_too_long
refusal_line StatementTooLong = statement_too_long
refusal_line (QuerySyntax place) = codes "E20: query syntax at " ++ signed_decimal (pos place) ++ codes "\n"
refusal_line (NotInProfile place) = codes "E21: operator not in profile at " ++ signed_decimal (pos place) ++ codes "\n"
refusal_line (QueryNumber place) = codes "E22: number out of range at " ++ signed_decimal (pos place) ++ codes "\n"
refusal_line (UnknownSection name) = codes "E23: unknown section " ++ printed_text name ++ codes "\n"
refusal_line (FieldInside name) = codes "E24: field " ++ printed_text name ++ codes " inside WITHIN\n"
refusal_line (UnknownThesaurus name) = codes "E25: unknown thesaurus " ++ printed_text name ++ codes "\n"
refusal_line TooManyTerms = codes "E28: too many expanded terms\n"
refusal_line QueryTooLarge = codes "E26: query too large\n"
refusal_line (NotOneWord place) = codes "E29: not one word at " ++ signed_decimal (pos place) ++ codes "\n"
refusal_line OutOfRange = codes "E22: number out of range\n"
refusal_line NoIndexOfKind = codes "E27: no index of that kind\n"
refusal_line BadValue = codes "E30: bad attribute or value\n"
refusal_line LimitReached = codes "E31: limit reached\n"
refusal_line (InNoSubIndex name) = codes "E33: column " ++ printed_text name ++ codes " in no sub-index\n"

abbrev pub no_rows : List ℕ
no_rows = codes "no rows selected\n"

-- computed examples
unknown : refusal_line (UnknownName (codes "nope")) ≡ codes "E11: unknown name nope\n"
unknown = refl

there : refusal_line (ExistsAlready (codes "docs")) ≡ codes "E12: docs exists already\n"
there = refl

key : refusal_line (KeyExists (pos 1)) ≡ codes "E14: key 1 exists\n"
unfolding digits
key = refl

field : refusal_line (FieldInside (codes "t")) ≡ codes "E24: field t inside WITHIN\n"
field = refl

no_sub_index : refusal_line (InNoSubIndex (codes "shop")) ≡ codes "E33: column shop in no sub-index\n"
no_sub_index = refl

place : refusal_line (NotInProfile 1) ≡ codes "E21: operator not in profile at 1\n"
unfolding digits
place = refl
