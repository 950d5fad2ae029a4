-- What SELECT of a view does: CTX_USER_PENDING shows the rows that wait for a synchronisation, and CTX_USER_INDEX_ERRORS the rules that are faulty.
use Rattle.std.specs.Prelude.{ℕ, ℤ, pos, ◌≡◌, Bool, true, false, not, ◌&&◌, List, [], ◌∷◌, ◌++◌, length, map, Option, Some, None, codes, bytes_eq, refl}
use Rattle.std.specs.Bool.{if◌then◌else◌}
use Rattle.std.specs.List.{filter_map, flat_map}
use Rattle.std.specs.FinMap.{entries, from_sorted, entries-from_sorted}
use Rattle.std.specs.Fmt.{digits}
use Rattle.std.specs.Ordering.{nat_cmp, int_cmp}
use Rattle.std.specs.Cmp.Lexicographic.{slice_cmp}
use Rattle.ct_base.specs.declared.lists.Value.{Value}
use Rattle.ct_base.specs.declared.lists.Value.TheVariants.{Number, Text}
use Rattle.ct_entry.specs.Maps.{Names}
use Rattle.ct_entry.specs.Listings.{keys_where}
use Rattle.st_parse.specs.declared.statements.OrderItem.{OrderItem}
use Rattle.st_parse.specs.declared.statements.Pred.{Pred}
use Rattle.st_parse.specs.declared.statements.Pred.TheVariants.{Cond as CondPred}
use Rattle.st_parse.specs.declared.statements.SelectList.{SelectList}
use Rattle.st_parse.specs.declared.statements.SelectList.TheVariants.{Star, CountAll, Items}
use Rattle.ix_docmap.specs.Marks.{Mark, Pending, Settled}
use Rattle.tx_settings.specs.Defaults.{default_prefs}
use Rattle.ix_context.specs.Indexes.{no_part, in_queue}
use Rattle.rule_index.specs.Outcomes.{Taken, Faulty}
use Rattle.rule_index.specs.RuleIndexes.{RuleMark, fault_of_mark, faulty, with_fault}
use Rattle.ix_indexes.specs.Indexes.{Body, Index, pending_rows}
use Rattle.db_cond.specs.Faults.{WrongValues}
use Rattle.db_cond.specs.Lines.{line}
use Rattle.db_state.specs.States.{StoreState}
use Rattle.db_state.specs.Effects.{Effect, Does, Refused, refuse}
use Rattle.db_state.specs.Lines.{lines_or_none}
use Rattle.db_select.specs.declared.views.View.{View}
use Rattle.db_select.specs.declared.views.View.TheVariants.{Waiting, Errors}
use Rattle.db_select.specs.Ordering.{down_by}
use Rattle.db_select.specs.Predicates.{below_seven}
use Rattle.db_select.specs.Choosing.{Selection, selection}
use Rattle.std.proofs.Common.{inl, inr, ap, ◌∙◌}

-- ---- the rows

-- What a view shows of a row: its key, and of a faulty rule the text of its fault.
abbrev pub without_fault : ℤ → ℤ × Option (List ℕ)
without_fault r = (r, None)

abbrev pub with_its_fault : ℤ × List ℕ → ℤ × Option (List ℕ)
with_its_fault e = (e.0, Some e.1)

-- the faulty rules of an index, in order of their keys; one of another kind has none
abbrev pub faulty_in : Body → List (ℤ × List ℕ)
faulty_in (inl c) = []
faulty_in (inr (inl b)) = []
faulty_in (inr (inr b)) = faulty b

-- what is shown of an index, in order of the keys: the rows that wait, or the faulty rules
abbrev pub rows_shown : View → Index → List (ℤ × Option (List ℕ))
rows_shown Waiting x = map without_fault (pending_rows x)
rows_shown Errors x = map with_its_fault (faulty_in x.body)

-- ---- their lines

abbrev pub fault_part : Option (List ℕ) → List Value
fault_part None = []
fault_part (Some text) = Text text ∷ []

-- the line of a row of the index of this name
abbrev pub view_line : List ℕ → ℤ × Option (List ℕ) → List Value
view_line i row = Text i ∷ Number row.0 ∷ fault_part row.1

abbrev pub lines_of : View → List ℕ × Index → List (List Value)
lines_of view e = map (view_line e.0) (rows_shown view e.1)

-- THE LINES OF A VIEW, in order of the names of indexes and of keys
abbrev pub view_lines : View → Names Index → List (List Value)
view_lines view xs = flat_map (lines_of view) (entries xs)

-- ---- the statement

-- what is only looked at, by its name
abbrev pub view_named : List ℕ → Option View
view_named name =
    if bytes_eq name (codes "ctx_user_pending") then Some Waiting
    else (if bytes_eq name (codes "ctx_user_index_errors") then Some Errors else None)

-- it is asked for `*` or COUNT(*)
abbrev pub is_view_list : SelectList → Bool
is_view_list Star = true
is_view_list CountAll = true
is_view_list (Items items) = false

-- in no order of its own
abbrev pub is_unordered : List OrderItem → Bool
is_unordered [] = true
is_unordered (o ∷ orders) = false

-- and without a predicate
abbrev pub is_bare : List Pred → List OrderItem → Bool
is_bare [] orders = is_unordered orders
is_bare (pred ∷ preds) orders = false

-- all its lines are asked for, or their number
abbrev pub is_whole : Selection → List Pred → Bool
is_whole want preds = is_view_list want.list && is_bare preds want.orders

-- the lines, or one line with their number, also where it is 0
abbrev pub view_reply : SelectList → List (List Value) → List ℕ
view_reply Star lines = lines_or_none lines
view_reply CountAll lines = line (Number (pos (length lines)) ∷ [])
view_reply (Items items) lines = lines_or_none lines

-- A list of items is refused before, so the reply to it is never reached.
abbrev pub select_view : StoreState → View → Selection → List Pred → Effect
select_view m view want preds = refuse (not (is_whole want preds)) WrongValues (Does m (view_reply want.list (view_lines view m.indexes)))

-- ---- computed examples: an index of two settled rows and the row 3, which waits

abbrev three_marks : List (ℤ × Mark (Unit {0}))
three_marks = (pos 1, Settled tt) ∷ (pos 2, Settled tt) ∷ (pos 3, Pending) ∷ []

abbrev one_waits : Index
one_waits = record { table = codes "docs"; column = 1; prefs = default_prefs; body = inl (record { part = no_part; marks = from_sorted three_marks }) }

its_row : pending_rows one_waits ≡ pos 3 ∷ []
its_row = ap (λ (es : List (ℤ × Mark (Unit {0}))). keys_where in_queue es) (entries-from_sorted int_cmp three_marks tt)

its_line : lines_of Waiting (codes "di", one_waits) ≡ view_line (codes "di") (pos 3, None) ∷ []
its_line = ap (λ (rows : List ℤ). map (view_line (codes "di")) (map without_fault rows)) its_row

-- two such indexes, in order of their names, of which the shorter is the greater
abbrev two_entries : List (List ℕ × Index)
two_entries = (codes "aai", one_waits) ∷ (codes "di", one_waits) ∷ []

both_lines : view_lines Waiting (from_sorted two_entries) ≡ view_line (codes "aai") (pos 3, None) ∷ view_line (codes "di") (pos 3, None) ∷ []
both_lines =
    ap (flat_map (lines_of Waiting)) (entries-from_sorted (slice_cmp nat_cmp) two_entries tt)
    ∙ ap (λ (rows : List ℤ). map (view_line (codes "aai")) (map without_fault rows) ++ (map (view_line (codes "di")) (map without_fault rows) ++ [])) its_row

-- a rule index with a faulty rule and one that waits
abbrev a_fault : List ℕ
a_fault = codes "E20: query syntax at 3"

abbrev rule_marks : List (ℤ × RuleMark)
rule_marks = (pos 1, Settled (Taken None)) ∷ (pos 3, Settled (Faulty a_fault)) ∷ (pos 4, Pending) ∷ []

abbrev its_rules : Index
its_rules = record { table = codes "rules"; column = 1; prefs = default_prefs; body = inr (inr (record { marks = from_sorted rule_marks })) }

its_errors : lines_of Errors (codes "ri", its_rules) ≡ view_line (codes "ri") (pos 3, Some a_fault) ∷ []
its_errors =
    ap (λ (es : List (ℤ × RuleMark)). map (view_line (codes "ri")) (map with_its_fault (filter_map (λ (e : ℤ × RuleMark). with_fault e.0 (fault_of_mark e.1)) es)))
    (entries-from_sorted int_cmp rule_marks tt)

no_error_of_another_kind : lines_of Errors (codes "di", one_waits) ≡ []
no_error_of_another_kind = refl

error_as_text : view_reply Star (view_line (codes "ri") (pos 3, Some a_fault) ∷ []) ≡ codes "ri|3|E20: query syntax at 3\n"
unfolding digits
error_as_text = refl

as_text : view_reply Star (view_line (codes "aai") (pos 3, None) ∷ view_line (codes "di") (pos 3, None) ∷ []) ≡ codes "aai|3\ndi|3\n"
unfolding digits
as_text = refl

as_number : view_reply CountAll (view_line (codes "aai") (pos 3, None) ∷ view_line (codes "di") (pos 3, None) ∷ []) ≡ codes "2\n"
unfolding digits
as_number = refl

none_waits : view_reply Star [] ≡ codes "no rows selected\n"
none_waits = refl

the_errors : view_named (codes "ctx_user_index_errors") ≡ Some Errors
the_errors = refl

no_view : view_named (codes "ctx_user") ≡ None
no_view = refl

with_a_predicate : (m : StoreState) (view : View) → select_view m view (selection Star []) (CondPred (below_seven (codes "id")) ∷ []) ≡ Refused WrongValues
with_a_predicate m view = refl

of_a_list : (m : StoreState) (view : View) → select_view m view (selection (Items []) []) [] ≡ Refused WrongValues
of_a_list m view = refl

in_an_order : (m : StoreState) (view : View) → select_view m view (selection CountAll (down_by (codes "id") ∷ [])) [] ≡ Refused WrongValues
in_an_order m view = refl
