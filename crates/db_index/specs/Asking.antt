-- What the PARAMETERS of CREATE INDEX ask for.
use Rattle.std.specs.Prelude.{ℕ, ◌≡◌, nat_le, Bool, true, false, List, [], ◌∷◌, Option, Some, None, codes, refl}
use Rattle.std.specs.Bool.{if◌then◌else◌}
use Rattle.std.specs.List.{flat_map, list_all}
use Rattle.std.specs.Option.{option_and_then, option_or}
use Rattle.std.specs.Str.{chars}
use lib.Utf8.{encode}
use Rattle.ct_entry.specs.Keys.{same_list}
use Rattle.tb_table.specs.declared.columns.Sort.{Sort}
use Rattle.tb_table.specs.declared.columns.Sort.TheVariants.{Number, Varchar2, Clob}
use Rattle.tb_table.specs.declared.columns.Column.{Column}
use Rattle.tb_table.specs.Tables.{docs_columns}
use Rattle.tx_tags.specs.Groups.{no_sections}
use Rattle.tx_settings.specs.declared.preferences.Prefs.{Prefs}
use Rattle.tx_settings.specs.Attributes.{can_be_set}
use Rattle.tx_settings.specs.Defaults.{default_prefs}
use Rattle.tx_sets.specs.Sets.{are_sub_indexes}
use Rattle.tx_prefs.specs.declared.kinds.PrefKind.TheVariants.{Lexer, SectionGroup, IndexSet}
use Rattle.tx_prefs.specs.declared.requests.Request.{Request}
use Rattle.tx_prefs.specs.Preferences.{Preferences}
use Rattle.tx_prefs.specs.Requests.{asks_only, name_for, request, requests_of, requested_parameters, unknown_in}
use Rattle.tx_prefs.specs.Copies.{copied, meant}
use Rattle.cat_index.specs.Filings.{sub_text_limit}
use Rattle.db_state.specs.Columns.{first_unknown}
use Rattle.db_index.specs.declared.kinds.BuiltKind.{BuiltKind}
use Rattle.db_index.specs.declared.kinds.BuiltKind.TheVariants.{Context, Catalogue, Rules}
use Rattle.db_index.specs.declared.asking.Wanted.{Wanted}
use Rattle.db_index.specs.declared.asking.Asked.{Asked}
use Rattle.db_index.specs.Kinds.{requests_taken}

-- ---- the text

abbrev pub taken_by : BuiltKind → List Request → Option (List Request)
taken_by kind rs = if asks_only (requests_taken kind) rs then Some rs else None

-- the requests of PARAMETERS: none where the statement has no such text, and None where it isn't of the form that this kind of index takes
abbrev pub requests_in : BuiltKind → Option (List ℕ) → Option (List Request)
requests_in kind None = Some []
requests_in kind (Some text) = option_and_then (taken_by kind) (requests_of text)

-- ---- what it means now

-- the preferences, and the sub-indexes of the index set: no other than the plain one where none is named
abbrev pub as_wanted : Prefs → List (List (List ℕ)) → Wanted
as_wanted prefs subs = record { prefs = prefs; subs = subs }

abbrev pub wanted_of : Option Prefs → Option (List (List (List ℕ))) → Option Wanted
wanted_of None subs = None
wanted_of (Some prefs) None = None
wanted_of (Some prefs) (Some subs) = Some (as_wanted prefs subs)

abbrev pub subs_meant : Preferences → List Request → Option (List (List (List ℕ)))
subs_meant ps rs = meant ps.sets [] (name_for IndexSet rs)

abbrev pub wanted_by : Preferences → List Request → Option Wanted
wanted_by ps rs = wanted_of (copied ps (requested_parameters rs)) (subs_meant ps rs)

abbrev pub wanted_in : Preferences → Option (List Request) → Option Wanted
wanted_in ps requests = option_and_then (wanted_by ps) requests

-- ---- names that aren't there

-- the columns of sub-indexes, in their order
abbrev pub columns_named : List (List (List ℕ)) → List (List ℕ)
columns_named subs = flat_map (λ names. names) subs

-- the first of them that the table doesn't have
abbrev pub unknown_column : List Column → Option Wanted → Option (List ℕ)
unknown_column cs None = None
unknown_column cs (Some w) = first_unknown (columns_named w.subs) cs

-- The first name that isn't there: those that stand in the text come before the columns of the set, which stand elsewhere.
abbrev pub first_unknown_name : Preferences → List Column → Option (List Request) → Option (List ℕ)
first_unknown_name ps cs requests = option_or (option_and_then (unknown_in ps) requests) (unknown_column cs (wanted_in ps requests))

-- ---- columns that a sub-index may have

-- one of numbers, or of texts of at most 100 bytes
abbrev pub is_sub_sort : Sort → Bool
is_sub_sort Number = true
is_sub_sort (Varchar2 size) = nat_le size sub_text_limit
is_sub_sort Clob = false

abbrev pub is_sub_column : List Column → List ℕ → Bool
is_sub_column [] name = false
is_sub_column (c ∷ cs) name = if same_list name c.name then is_sub_sort c.sort else is_sub_column cs name

abbrev pub are_sub_columns : List Column → List (List (List ℕ)) → Bool
are_sub_columns cs subs = list_all (list_all (is_sub_column cs)) subs

-- what is wanted, where each of its sub-indexes may be in an index on a table with these columns
abbrev pub fitting : List Column → Option Wanted → Option Wanted
fitting cs None = None
fitting cs (Some w) = if are_sub_columns cs w.subs then Some w else None

-- ---- what functions give

-- What PARAMETERS asks for, of an index on a table with these columns.
pub record AsksForIndex (ps : Preferences) (cs : List Column) (requests : Option (List Request)) (asked : Asked) : Type 0 where
  pub unknown : asked.unknown ≡ first_unknown_name ps cs requests
  pub wanted : asked.wanted ≡ wanted_in ps requests

-- Whatever the store is, the options can be set, and the sub-indexes are within the limits.
pub record CanBeCreated (w : Wanted) : Type 0 where
  pub set : can_be_set w.prefs.lexer ≡ true
  pub subs : are_sub_indexes w.subs ≡ true

-- a catalogue knows no sections
abbrev pub SectionsFit : BuiltKind → Wanted → Type 0
SectionsFit Context w = Unit {0}
SectionsFit Catalogue w = w.prefs.group ≡ no_sections
SectionsFit Rules w = Unit {0}

-- ---- computed examples

-- where nothing is asked for, an index reads by the defaults, and a catalogue has no sub-index but the plain one
by_the_defaults : (kind : BuiltKind) (ps : Preferences) → wanted_in ps (requests_in kind None) ≡ Some (as_wanted default_prefs [])
by_the_defaults kind ps = refl

-- a section group in a catalogue, or an index set in a CONTEXT index, is of no form, and names nothing
no_group_in_a_catalogue : (ps : Preferences) (cs : List Column) → first_unknown_name ps cs (requests_in Catalogue (Some (codes "section group nope"))) ≡ None
unfolding chars encode
no_group_in_a_catalogue ps cs = refl

no_set_elsewhere : requests_in Context (Some (codes "index set s")) ≡ None
unfolding chars encode
no_set_elsewhere = refl

a_set_in_a_catalogue : requests_in Catalogue (Some (codes "index set s lexer lx")) ≡ Some (request IndexSet (Some (codes "s")) ∷ request Lexer (Some (codes "lx")) ∷ [])
unfolding chars encode
a_set_in_a_catalogue = refl

a_group_elsewhere : requests_in Context (Some (codes "section group g")) ≡ Some (request SectionGroup (Some (codes "g")) ∷ [])
unfolding chars encode
a_group_elsewhere = refl

-- rules may name sections
a_group_for_rules : requests_in Rules (Some (codes "section group g")) ≡ Some (request SectionGroup (Some (codes "g")) ∷ [])
unfolding chars encode
a_group_for_rules = refl

-- of the columns id, body and price
a_missing_column : unknown_column docs_columns (Some (as_wanted default_prefs ((codes "price" ∷ []) ∷ (codes "id" ∷ codes "kind" ∷ []) ∷ (codes "nope" ∷ []) ∷ []))) ≡ Some (codes "kind")
a_missing_column = refl

both_there : fitting docs_columns (Some (as_wanted default_prefs ((codes "price" ∷ codes "id" ∷ []) ∷ []))) ≡ Some (as_wanted default_prefs ((codes "price" ∷ codes "id" ∷ []) ∷ []))
both_there = refl

no_clob : fitting docs_columns (Some (as_wanted default_prefs ((codes "price" ∷ []) ∷ (codes "body" ∷ []) ∷ []))) ≡ None
no_clob = refl

a_hundred_bytes : is_sub_sort (Varchar2 100) ≡ true
a_hundred_bytes = refl

one_too_many : is_sub_sort (Varchar2 101) ≡ false
one_too_many = refl
