-- What clap's rows have when one part more is given.
use Rattle.std.proofs.Common.{◌≡◌, ◌||◌, Bool, true, false, cond, List, [], ◌∷◌, ◌++◌, Option, Some, None, refl, sym, ap, ◌∙◌, subst, true≢false, append-nil}
use Rattle.std.specs.Prelude.{find, option_and_then, slice_get, is_some}
use Rattle.std.specs.Str.{bytes_eq}
use Rattle.std.specs.List.{list_any}
use Rattle.std.specs.Option.{option_map, option_map_or}
use Rattle.clap.specs.Walk.{Row, Rule, Text, at_row, first_of, has_row, more_values, reading_by, settled_rows, used, used_by_id, with_values, without}
use Rattle.clap.specs.Faults.{settle_fault, use_fault}
use Rattle.clap.specs.declared.builder.value_parser.Reading.{Reading}
use Rattle.clap.specs.declared.parser.matches.ValueSource.TheVariants.{CommandLine}
use Rattle.clap.specs.declared.error.kind.ErrorKind.TheVariants as kind
use Rattle.db_arguments.specs.Arguments.{Part, File, Limit, Degree, Rows}
use Rattle.db_arguments.specs.Gathering.{Values, with_text}
use Rattle.db_arguments.proofs.Form.{by_id, form, id, nothing_skipped, rule}

-- the row of a part with this text
abbrev pub new_row : Text → Reading → Text → Row
new_row name how text = record { id = name; values = text ∷ []; count = None; source = Some CommandLine; reading = how }

-- a row is added at the end, where none has its id
added : (name : Text) (change : Row → List Row) (missing rows : List Row) → has_row name rows ≡ false → at_row name change missing rows ≡ rows ++ missing
added name change missing [] none = refl
added name change missing (r ∷ rs) none = go (bytes_eq r.id name) none (added name change missing rs)
  where
    go : (same : Bool) → (same || list_any (λ (x : Row). bytes_eq x.id name) rs) ≡ false → (has_row name rs ≡ false → at_row name change missing rs ≡ rs ++ missing)
        → cond same (change r ++ rs) (r ∷ at_row name change missing rs) ≡ r ∷ (rs ++ missing)
    go true both more = absurd (true≢false both)
    go false both more = ap (λ (l : List Row). r ∷ l) (more both)

abbrev no_rows : Row → List Row
no_rows r = []

row_added : (name : Text) (how : Reading) (text : Text) (rows : List Row) → has_row name rows ≡ false
    → with_values name how CommandLine (text ∷ []) (without name rows) ≡ rows ++ new_row name how text ∷ []
row_added name how text rows none =
    ap (with_values name how CommandLine (text ∷ [])) (added name no_rows [] rows none ∙ append-nil rows)
    ∙ added name (more_values CommandLine (text ∷ [])) (new_row name how text ∷ []) rows none

-- a use of a part that has none yet
use_adds : (part : Part) (text : Text) (rows : List Row) → has_row (id part) rows ≡ false → used (rule part) (text ∷ []) rows ≡ rows ++ new_row (id part) (reading_by (rule part)) text ∷ []
use_adds File text rows none = row_added (id File) (reading_by (rule File)) text rows none
use_adds Limit text rows none = row_added (id Limit) (reading_by (rule Limit)) text rows none
use_adds Degree text rows none = row_added (id Degree) (reading_by (rule Degree)) text rows none
use_adds Rows text rows none = row_added (id Rows) (reading_by (rule Rows)) text rows none

-- ---- what rows have

find_at_end : (p : Row → Bool) (rows : List Row) (r : Row) → find p (rows ++ r ∷ []) ≡ cond (list_any p rows) (find p rows) (cond (p r) (Some r) None)
find_at_end p [] r = refl
find_at_end p (s ∷ ss) r = go (p s) (find_at_end p ss r)
  where
    go : (b : Bool) → find p (ss ++ r ∷ []) ≡ cond (list_any p ss) (find p ss) (cond (p r) (Some r) None)
        → cond b (Some s) (find p (ss ++ r ∷ [])) ≡ cond (b || list_any p ss) (cond b (Some s) (find p ss)) (cond (p r) (Some r) None)
    go true more = refl
    go false more = more

any_at_end : (p : Row → Bool) (rows : List Row) (r : Row) → list_any p (rows ++ r ∷ []) ≡ (list_any p rows || p r)
any_at_end p [] r = go (p r)
  where
    go : (b : Bool) → (b || false) ≡ b
    go true = refl
    go false = refl
any_at_end p (s ∷ ss) r = go (p s) (any_at_end p ss r)
  where
    go : (b : Bool) → list_any p (ss ++ r ∷ []) ≡ (list_any p ss || p r) → (b || list_any p (ss ++ r ∷ [])) ≡ ((b || list_any p ss) || p r)
    go true more = refl
    go false more = more

-- the text of a row
abbrev text_in : Option Row → Option Text
text_in found = option_and_then (λ (r : Row). slice_get r.values 0) found

-- The rows have this text under the id, or no row.
pub record Has (name : Text) (given : Option Text) (rows : List Row) : Type 0 where
  pub first : first_of name rows ≡ given
  pub there : has_row name rows ≡ is_some given

has_new : (name : Text) (how : Reading) (text : Text) (rows : List Row) → bytes_eq name name ≡ true → Has name None rows → Has name (Some text) (rows ++ new_row name how text ∷ [])
has_new name how text rows same has =
    let r = new_row name how text in
    record {
      first = ap text_in (find_at_end (λ (x : Row). bytes_eq x.id name) rows r) ∙ rw (has.there, same) refl;
      there = any_at_end (λ (x : Row). bytes_eq x.id name) rows r ∙ rw (has.there, same) refl;
    }

picks : (b : Bool) (found : Option Row) (given : Option Text) → text_in found ≡ given → b ≡ is_some given → text_in (cond b found None) ≡ given
picks true found given first there = first
picks false found None first there = refl
picks false found (Some text) first there = absurd (true≢false (sym there))

or_false : (b : Bool) → (b || false) ≡ b
or_false true = refl
or_false false = refl

has_old : (name other : Text) (how : Reading) (text : Text) (given : Option Text) (rows : List Row) → bytes_eq other name ≡ false → Has name given rows → Has name given (rows ++ new_row other how text ∷ [])
has_old name other how text given rows apart has =
    let r = new_row other how text in
    let p = λ (x : Row). bytes_eq x.id name in
    record {
      first = ap text_in (find_at_end p rows r) ∙ ap (λ (b : Bool). text_in (cond (list_any p rows) (find p rows) (cond b (Some r) None))) apart ∙ picks (list_any p rows) (find p rows) given has.first has.there;
      there = any_at_end p rows r ∙ ap (λ (b : Bool). list_any p rows || b) apart ∙ or_false (list_any p rows) ∙ has.there;
    }

-- the rows have what was given
abbrev pub RowsHave : List Row → Values → Type 0
RowsHave rows v = (part : Part) → Has (id part) (v part) rows

use_has : (part : Part) (text : Text) (rows : List Row) (v : Values) → RowsHave rows v → v part ≡ None → (other : Part)
    → Has (id other) (with_text v part text other) (rows ++ new_row (id part) (reading_by (rule part)) text ∷ [])
use_has File text rows v have none File = has_new (id File) _ text rows refl (rw none at (have File))
use_has File text rows v have none Limit = has_old (id Limit) (id File) _ text (v Limit) rows refl (have Limit)
use_has File text rows v have none Degree = has_old (id Degree) (id File) _ text (v Degree) rows refl (have Degree)
use_has File text rows v have none Rows = has_old (id Rows) (id File) _ text (v Rows) rows refl (have Rows)
use_has Limit text rows v have none File = has_old (id File) (id Limit) _ text (v File) rows refl (have File)
use_has Degree text rows v have none File = has_old (id File) (id Degree) _ text (v File) rows refl (have File)
use_has Limit text rows v have none Limit = has_new (id Limit) _ text rows refl (rw none at (have Limit))
use_has Degree text rows v have none Degree = has_new (id Degree) _ text rows refl (rw none at (have Degree))
use_has Limit text rows v have none Rows = has_old (id Rows) (id Limit) _ text (v Rows) rows refl (have Rows)
use_has Degree text rows v have none Rows = has_old (id Rows) (id Degree) _ text (v Rows) rows refl (have Rows)
use_has Limit text rows v have none Degree = has_old (id Degree) (id Limit) _ text (v Degree) rows refl (have Degree)
use_has Rows text rows v have none File = has_old (id File) (id Rows) _ text (v File) rows refl (have File)
use_has Rows text rows v have none Limit = has_old (id Limit) (id Rows) _ text (v Limit) rows refl (have Limit)
use_has Rows text rows v have none Degree = has_old (id Degree) (id Rows) _ text (v Degree) rows refl (have Degree)
use_has Degree text rows v have none Limit = has_old (id Limit) (id Degree) _ text (v Limit) rows refl (have Limit)
use_has Rows text rows v have none Rows = has_new (id Rows) _ text rows refl (rw none at (have Rows))

no_row : (part : Part) (rows : List Row) (v : Values) → RowsHave rows v → v part ≡ None → has_row (id part) rows ≡ false
no_row part rows v have none = (have part).there ∙ ap (λ (o : Option Text). is_some o) none

pub used_have : (part : Part) (text : Text) (rows : List Row) (v : Values) → RowsHave rows v → v part ≡ None → RowsHave (used (rule part) (text ∷ []) rows) (with_text v part text)
used_have part text rows v have none other =
    subst (Has (id other) (with_text v part text other)) (sym (use_adds part text rows (no_row part rows v have none))) (use_has part text rows v have none other)

-- ---- the fault of a use

pub first_use : (part : Part) (text : Text) (rows : List Row) (v : Values) → RowsHave rows v → v part ≡ None → use_fault false (rule part) (text ∷ []) rows ≡ []
first_use File text rows v have none = rw (no_row File rows v have none) refl
first_use Limit text rows v have none = rw (no_row Limit rows v have none) refl
first_use Degree text rows v have none = rw (no_row Degree rows v have none) refl
first_use Rows text rows v have none = rw (no_row Rows rows v have none) refl

has_row_by : (part : Part) (rows : List Row) (v : Values) (text : Text) → RowsHave rows v → v part ≡ Some text → has_row (id part) rows ≡ true
has_row_by part rows v text have some = (have part).there ∙ ap (λ (o : Option Text). is_some o) some

pub second_use : (part : Part) (text other : Text) (rows : List Row) (v : Values) → RowsHave rows v → v part ≡ Some other → use_fault false (rule part) (text ∷ []) rows ≡ kind.ArgumentConflict ∷ []
second_use File text other rows v have some = rw (has_row_by File rows v other have some) refl
second_use Limit text other rows v have some = rw (has_row_by Limit rows v other have some) refl
second_use Degree text other rows v have some = rw (has_row_by Degree rows v other have some) refl
second_use Rows text other rows v have some = rw (has_row_by Rows rows v other have some) refl

pub no_value_used : (part : Part) (rows : List Row) → use_fault false (rule part) [] rows ≡ kind.InvalidValue ∷ []
no_value_used File rows = refl
no_value_used Limit rows = refl
no_value_used Degree rows = refl
no_value_used Rows rows = refl

-- ---- what waits to be used

-- a part with its text
abbrev pub Waits : Type 0
Waits = Option (Part × Text)

abbrev pub pending_of : Waits → Option (Text × List Text)
pending_of waits = option_map (λ (w : Part × Text). (id w.0, w.1 ∷ [])) waits

-- Rows and what waits have what was given.
abbrev pub Rest : Values → List Row → Waits → Type 0
Rest v rows None = RowsHave rows v
Rest v rows (Some (part, text)) = (u : Values) × RowsHave rows u × (u part ≡ None) × (v ≡ with_text u part text)

pub settle_fault_is : (part : Part) (values : List Text) (rows : List Row) → settle_fault form false (nothing_skipped rows (Some (id part, values))) ≡ use_fault false (rule part) values rows
settle_fault_is part values rows = ap (λ (o : Option Rule). option_map_or (λ (a : Rule). use_fault false a values rows) o []) (by_id part)

pub rest_settles : (v : Values) (rows : List Row) (waits : Waits) → Rest v rows waits → settle_fault form false (nothing_skipped rows (pending_of waits)) ≡ []
rest_settles v rows None rest = refl
rest_settles v rows (Some (part, text)) rest = settle_fault_is part (text ∷ []) rows ∙ first_use part text rows rest.0 rest.1 rest.2

-- the rows once what waits was used
abbrev pub settled_in : List Row → Option (Text × List Text) → List Row
settled_in rows pending = settled_rows form pending rows

pub rest_rows : (v : Values) (rows : List Row) (waits : Waits) → Rest v rows waits → RowsHave (settled_in rows (pending_of waits)) v
rest_rows v rows None rest = rest
rest_rows v rows (Some (part, text)) rest =
    let is : settled_in rows (Some (id part, text ∷ [])) ≡ used (rule part) (text ∷ []) rows = ap (λ (o : Option Rule). used_by_id o (text ∷ []) rows) (by_id part) in
    λ other. subst (λ (u : Values). Has (id other) (u other) (settled_in rows (Some (id part, text ∷ [])))) (sym rest.3)
    (subst (Has (id other) (with_text rest.0 part text other)) (sym is) (used_have part text rows rest.0 rest.1 rest.2 other))
