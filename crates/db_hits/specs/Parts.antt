-- What the parts of a descriptor print of the rows that a query finds. These are given by their keys with their scores, in the order of the keys.
use Rattle.std.specs.Prelude.{ℕ, ℤ, pos, ◌≡◌, Bool, true, cond, List, [], ◌∷◌, ◌++◌, length, Option, Some, codes, refl}
use Rattle.std.specs.List.{cons_option, filter_map, flat_map}
use Rattle.std.specs.Fmt.{digits}
use Rattle.std.specs.FinMap.{get}
use Rattle.std.specs.Option.{option_cmp}
use Rattle.std.specs.declared.cmp.Ordering.{Ordering}
use Rattle.std.specs.declared.cmp.Ordering.TheVariants.{Greater}
use Rattle.std.specs.Ordering.{int_cmp, is_lt, nat_cmp, ordering_then}
use Rattle.ct_base.specs.declared.lists.Value.{Value}
use Rattle.ct_base.specs.declared.lists.Value.TheVariants.{Number, Text}
use Rattle.tb_table.specs.Tables.{Table}
use Rattle.rs_result.specs.declared.descriptors.HitKey.{HitKey}
use Rattle.rs_result.specs.declared.descriptors.HitKey.TheVariants.{Score, Column}
use Rattle.rs_result.specs.declared.descriptors.ResultPart.{ResultPart}
use Rattle.rs_result.specs.declared.descriptors.ResultPart.TheVariants.{Count, Hits, Group}
use Rattle.rs_result.specs.Comparing.{turned, value_cmp}
use Rattle.rs_result.specs.Counts.{Counted, value_counts}
use Rattle.rs_result.specs.Orders.{cut}
use Rattle.rs_result.specs.Sorting.{sorted_by}
use Rattle.db_cond.specs.Faults.{no_rows}
use Rattle.db_cond.specs.Lines.{line}
use Rattle.db_rows.specs.Values.{value_of_column, values_behind_key}

-- the value of a hit in a column
abbrev pub hit_value : Table → List ℕ → ℤ × ℕ → Option Value
hit_value x name h = value_of_column x.columns h.0 (values_behind_key (get x.rows h.0)) name

-- ---- the order of hits

-- two hits by a key; one without a value in its column is less than one with a value
abbrev pub by_key : Table → HitKey → ℤ × ℕ → ℤ × ℕ → Ordering
by_key x (Score down) a b = turned down (nat_cmp a.1 b.1)
by_key x (Column name down) a b = turned down (option_cmp value_cmp (hit_value x name a) (hit_value x name b))

-- by several, the first first; and where all tie, by the keys of the rows
abbrev pub by_keys : Table → List HitKey → ℤ × ℕ → ℤ × ℕ → Ordering
by_keys x [] a b = int_cmp a.0 b.0
by_keys x (key ∷ keys) a b = ordering_then (by_key x key a b) (by_keys x keys a b)

-- HITS IN THE ORDER ASKED FOR
abbrev pub ordered_hits : Table → List HitKey → List (ℤ × ℕ) → List (ℤ × ℕ)
ordered_hits x keys hs = sorted_by (by_keys x keys) hs

-- ---- counts of values

-- HOW MANY HITS HAVE EACH VALUE of a column, in the order of the values
abbrev pub counts_in : Table → List ℕ → List (ℤ × ℕ) → List Counted
counts_in x name hs = value_counts (filter_map (hit_value x name) hs)

-- ---- lines

abbrev pub count_line : ℕ → List ℕ
count_line n = codes "count=" ++ line (Number (pos n) ∷ [])

abbrev pub hit_line : ℤ × ℕ → List ℕ
hit_line h = codes "hit|" ++ line (Number h.0 ∷ Number (pos h.1) ∷ [])

abbrev pub group_line : Counted → List ℕ
group_line c = codes "group|" ++ line (c.0 ∷ Number (pos c.1) ∷ [])

-- how many hits there are; those from one number to another in the order asked for; or how many of them have each value of a column
abbrev pub part_text : Table → List (ℤ × ℕ) → ResultPart → List ℕ
part_text x hs Count = count_line (length hs)
part_text x hs (Hits first last keys) = flat_map hit_line (cut first last (ordered_hits x keys hs))
part_text x hs (Group name) = flat_map group_line (counts_in x name hs)

-- a text of lines, or that there is none
abbrev pub text_or_none : List ℕ → List ℕ
text_or_none [] = no_rows
text_or_none (b ∷ bs) = b ∷ bs

-- WHAT A RESULT SET PRINTS: its parts in their order
abbrev pub result_text : Table → List ResultPart → List (ℤ × ℕ) → List ℕ
result_text x parts hs = text_or_none (flat_map (part_text x hs) parts)

-- ---- computed examples: three hits with the scores 9, 18 and 9, and with the prices 5, 5 and 7
abbrev three : List (ℤ × ℕ)
three = (pos 1, 9) ∷ (pos 2, 18) ∷ (pos 3, 9) ∷ []

abbrev price_is : Table → ℤ × ℕ → ℕ → Type 0
price_is x h n = hit_value x (codes "price") h ≡ Some (Number (pos n))

counted : (x : Table) → part_text x three Count ≡ codes "count=3\n"
unfolding digits
counted x = refl

-- `hits 1 to 2 order by score desc`: the first of the two that tie has the lesser key
best_two : (x : Table) → part_text x three (Hits 1 2 (Score true ∷ [])) ≡ codes "hit|2|18\nhit|1|9\n"
unfolding digits
best_two x = refl

by_their_keys : (x : Table) → part_text x three (Hits 2 9 []) ≡ codes "hit|2|18\nhit|3|9\n"
unfolding digits
by_their_keys x = refl

by_price : (x : Table) → price_is x (pos 1, 9) 5 → price_is x (pos 2, 18) 5 → price_is x (pos 3, 9) 7 → part_text x three (Group (codes "price")) ≡ codes "group|5|2\ngroup|7|1\n"
unfolding digits
by_price x one two last = λ i. flat_map group_line (value_counts (cons_option (one i) (cons_option (two i) (cons_option (last i) []))))

-- `hits 1 to 1 order by price desc` of the first and the last
dearest : (x : Table) → price_is x (pos 1, 9) 5 → price_is x (pos 3, 9) 7 → part_text x ((pos 1, 9) ∷ (pos 3, 9) ∷ []) (Hits 1 1 (Column (codes "price") true ∷ [])) ≡ codes "hit|3|9\n"
unfolding digits
dearest x one last = λ i. flat_map hit_line (cut 1 1 (both (is_lt (ordering_then (turned true (option_cmp value_cmp (last i) (one i))) Greater))))
  where
    -- the two, where the last is less than the first by the key, and where it isn't
    both : Bool → List (ℤ × ℕ)
    both later = cond later ((pos 3, 9) ∷ (pos 1, 9) ∷ []) ((pos 1, 9) ∷ (pos 3, 9) ∷ [])

group_of_texts : group_line (Text (codes "a|b"), 2) ≡ codes "group|a\\|b|2\n"
unfolding digits
group_of_texts = refl

nothing_found : (x : Table) → result_text x (Hits 1 2 [] ∷ Group (codes "price") ∷ []) [] ≡ codes "no rows selected\n"
nothing_found x = refl

none_counted : (x : Table) → result_text x (Count ∷ []) [] ≡ codes "count=0\n"
unfolding digits
none_counted x = refl
