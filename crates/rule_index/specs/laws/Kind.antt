-- Rule indexes keep the laws of kinds of indexes.
use Rattle.std.specs.Prelude.{ℕ, ℤ, ◌≡◌, Bool, true, false, cond, List, [], ◌∷◌, ◌++◌, Option, Some, None, is_some, refl}
use Rattle.std.specs.Bool.{if◌then◌else◌}
use Rattle.std.specs.List.{list_any}
use Rattle.std.specs.Option.{option_map}
use Rattle.std.specs.Ordering.{int_eq}
use Rattle.std.specs.Str.{chars, is_utf8}
use Rattle.std.specs.FinMap.{get, contains_key-keys, same_map, int_cmp-IsAntisymmetric}
use lib.Utf8.{encode}
use Rattle.std.proofs.Common.{sym, ap, subst, ◌∙◌, append_assoc}
use Rattle.std.proofs.lemmas.Cmp.{int_cmp_total}
use Rattle.std.proofs.lemmas.List.{append_cancel_left}
use Rattle.std.proofs.lemmas.Option.{same_Some}
use Rattle.ct_base.specs.declared.lists.Value.{Value}
use Rattle.ct_base.specs.laws.Lists.{cons_parts}
use Rattle.ct_base.specs.laws.Options.{some_value}
use Rattle.ct_bytes.specs.Varints.{text_bytes}
use Rattle.ct_entry.specs.declared.kinds.Kind.TheVariants as kind
use Rattle.ct_entry.specs.Keys.{Key, key, row_part, anchor_part, same_key, IsRow}
use Rattle.ct_entry.specs.Changes.{told, view}
use Rattle.ct_entry.specs.laws.Changes.{told-append}
use Rattle.ct_entry.specs.laws.Keys.{key_same}
use Rattle.ct_entry.specs.laws.Maps.{get_row-insert, get_row-remove}
use Rattle.ct_entry.specs.laws.Parts.{int_from_eq}
use Rattle.tb_table.specs.Tables.{Table}
use Rattle.tb_table.specs.Rules.{IsTable}
use Rattle.tx_settings.specs.declared.preferences.Prefs.{Prefs}
use Rattle.tx_settings.specs.PrefsBytes.{prefs_bytes, IsPrefs}
use Rattle.tx_settings.specs.laws.MadeAgain.{prefs_apart}
use Rattle.db_names.specs.declared.heads.IndexHead.{IndexHead}
use Rattle.db_names.specs.declared.heads.IndexKind.TheVariants.{Rules}
use Rattle.db_names.specs.Heads.{index_head_bytes}
use Rattle.db_names.specs.laws.Heads.{head_apart}
use Rattle.ix_kinds.specs.Rows.{RowChange, ChangesBy, row_keys_of}
use Rattle.ix_kinds.specs.Indextypes.{synced_index}
use Rattle.ix_kinds.specs.Standing.{no_place, index_entry, HasNoEntries}
use Rattle.ix_kinds.specs.IndextypeLaws.{by_row, StandsAlone, Untidies, RowsChange, Synchronises, Creates, TellsOne, IndextypeLaws}
use Rattle.ix_kinds.specs.laws.NeverTidy.{never_tidy}
use Rattle.ix_docmap.specs.Changes.{queue_changes, unqueue_changes}
use Rattle.ix_docmap.specs.Marks.{Pending, Settled}
use Rattle.q_tree.specs.ReducedQueries.{Reduced}
use Rattle.q_parse.specs.Faults.{Verdict, TooLarge, Found, Fault}
use Rattle.q_parse.specs.Verdicts.{verdict}
use Rattle.q_reduce.specs.Reducing.{Context, reduced}
use Rattle.q_reduce.specs.Faults.{Fault as ReductionFault, faults}
use Rattle.q_stored.specs.Storing.{is_stored, stored_bytes}
use Rattle.rule_index.specs.Outcomes.{Outcome, Taken, Faulty, NamedThesauri, kept, kept_fault, is_stored_fault, limit_reached, too_large, place_fault, reduction_fault, context, outcome_of_reduction, outcome_of_verdict, outcome_seen}
use Rattle.rule_index.specs.RuleIndexes.{RuleBody, RuleIndex, RuleMark, mark_of, rule_text, row_outcome, rules_after, all_settled, new_rules, settled, waiting}
use Rattle.q_stored.specs.Decoding.{stored_query}
use Rattle.rule_index.specs.Spelling.{no_number, rest_bytes, told_bytes, rules_bytes, rules_entry, query_value, fault_value, queue_value, query_anchors, mark_anchors, entry_anchors, anchors_at}
use Rattle.rule_index.specs.Standing.{IsOutcome, IsRuleMark, AreRules, MarksStand}
use Rattle.rule_index.specs.Changes.{rule_changes, set_changes, gone_changes, lost_changes, settle_each_changes, entry_change}
use Rattle.rule_index.specs.Kind.{rule_indexes}
use Rattle.q_stored.specs.laws.Decoding.{stored_read}
use Rattle.rule_index.specs.laws.Own.{is_part, wider, not_own, row_on, settled_on, come_on}
use Rattle.rule_index.specs.laws.Marks.{with_mark, own_row, others_told, same_marks, new_stands, set_stands, gone_stands, settled_marks, synced_stands}
use Rattle.rule_index.specs.laws.Created.{no_marks, new_mark, created_stands}

-- ---- its rules

pub limit_is : is_stored_fault limit_reached ≡ true
unfolding is_utf8 encode chars
limit_is = refl

-- what becomes of a rule keeps the rule of outcomes
kept_is : (q : Option Reduced) → IsOutcome (kept q)
kept_is q = go (is_stored q) refl
  where
    go : (b : Bool) → is_stored q ≡ b → IsOutcome (if b then Taken q else Faulty limit_reached)
    go true h = h
    go false h = limit_is

fault_is : (text : List ℕ) → IsOutcome (kept_fault text)
fault_is text = go (is_stored_fault text) refl
  where
    go : (b : Bool) → is_stored_fault text ≡ b → IsOutcome (if b then Faulty text else Faulty limit_reached)
    go true h = h
    go false h = limit_is

reduction_is : (fs : List ReductionFault) (q : Option Reduced) → IsOutcome (outcome_of_reduction fs q)
reduction_is [] q = kept_is q
reduction_is (f ∷ fs) q = fault_is (reduction_fault f)

verdict_is : (x : Context) (v : Verdict) → IsOutcome (outcome_of_verdict x v)
verdict_is x TooLarge = fault_is too_large
verdict_is x (Fault why place) = fault_is (place_fault why place)
verdict_is x (Found t) = reduction_is (faults x false t) (reduced x t)

pub seen_is : (thesauri : NamedThesauri) (p : Prefs) (text : Option (List ℕ)) → IsOutcome (outcome_seen thesauri p text)
seen_is thesauri p None = verdict_is (context thesauri p) (verdict (chars []))
seen_is thesauri p (Some text) = verdict_is (context thesauri p) (verdict (chars text))

-- a row with a mark has a key
pub mark_is_row : (t : Table) (x : RuleIndex) → IsTable t → AreRules t x → (r : ℤ) → is_some (mark_of x r) ≡ true → IsRow r
mark_is_row t x is_t is r marked = let there = some_value (get t.rows r) (sym (is.marks r) ∙ marked) in is_t.keys r there.0 there.1

-- ---- its entry

-- is what its head and the rest are, and no place
pub entry_is : (x : RuleIndex) → rules_entry x ≡ index_entry rule_indexes x no_place
entry_is x =
    sym (append_assoc (3 ∷ text_bytes x.table) (x.column ∷ []) (rest_bytes x.prefs))
    ∙ ap (λ (l : List ℕ). index_head_bytes Rules x.table x.column ++ (0 ∷ l)) (sym (append_assoc (prefs_bytes x.prefs) no_number no_place))

abbrev pub head_of : RuleIndex → IndexHead
head_of x = record { kind = Rules; target = record { table = x.table; column = x.column } }

-- What an entry says, of two.
pub record SameParts (x y : RuleIndex) : Type 0 where
  pub head : head_of x ≡ head_of y
  pub prefs : x.prefs ≡ y.prefs

pub parts_one : (x y : RuleIndex) (p q : List ℕ) → IsPrefs x.prefs → IsPrefs y.prefs → index_entry rule_indexes x p ≡ index_entry rule_indexes y q → SameParts x y
parts_one x y p q x_prefs y_prefs e =
    let x_rest : List ℕ = told_bytes x.prefs ++ p in
    let y_rest : List ℕ = told_bytes y.prefs ++ q in
    let head = head_apart (head_of x) (head_of y) x_rest y_rest e in
    let head_is : index_head_bytes Rules x.table x.column ≡ index_head_bytes Rules y.table y.column = ap (λ (h : IndexHead). index_head_bytes Rules h.target.table h.target.column) head in
    let rest = append_cancel_left (index_head_bytes Rules y.table y.column) x_rest y_rest (ap (λ (l : List ℕ). l ++ x_rest) (sym head_is) ∙ e) in
    let spelt = sym (append_assoc (prefs_bytes x.prefs) no_number p) ∙ (cons_parts _ _ _ _ rest).1 ∙ append_assoc (prefs_bytes y.prefs) no_number q in
    record { head = head; prefs = (prefs_apart x.prefs y.prefs (no_number ++ p) (no_number ++ q) x_prefs y_prefs spelt).0 }

-- ---- a row changes

-- whether a row has a mark then
marks_after : (r : ℤ) (old new : Option (List Value)) (b : RuleBody) (s : ℤ)
    → (int_eq s r ≡ true → is_some (get b.marks s) ≡ is_some old) → is_some (get (rules_after r old new b).marks s) ≡ cond (int_eq s r) (is_some new) (is_some (get b.marks s))
marks_after r None None b s was = go (int_eq s r) was
  where
    go : (t : Bool) → (t ≡ true → is_some (get b.marks s) ≡ false) → is_some (get b.marks s) ≡ cond t false (is_some (get b.marks s))
    go true was = was refl
    go false was = refl
marks_after r None (Some new) b s was = ap is_some (get_row-insert b.marks r Pending s) ∙ some_put (int_eq s r) (get b.marks s)
  where
    some_put : (t : Bool) (o : Option RuleMark) → is_some (cond t (Some Pending) o) ≡ cond t true (is_some o)
    some_put true o = refl
    some_put false o = refl
marks_after r (Some old) (Some new) b s was = ap is_some (get_row-insert b.marks r Pending s) ∙ some_put (int_eq s r) (get b.marks s)
  where
    some_put : (t : Bool) (o : Option RuleMark) → is_some (cond t (Some Pending) o) ≡ cond t true (is_some o)
    some_put true o = refl
    some_put false o = refl
marks_after r (Some old) None b s was = ap is_some (get_row-remove b.marks r s) ∙ some_gone (int_eq s r) (get b.marks s)
  where
    some_gone : (t : Bool) (o : Option RuleMark) → is_some (cond t None o) ≡ cond t false (is_some o)
    some_gone true o = refl
    some_gone false o = refl

-- each mark is one that was there, or waits
each_after : (r : ℤ) (old new : Option (List Value)) (b : RuleBody) → ((s : ℤ) (m : RuleMark) → get b.marks s ≡ Some m → IsRuleMark m)
    → (s : ℤ) (m : RuleMark) → get (rules_after r old new b).marks s ≡ Some m → IsRuleMark m
each_after r None None b each s m is = each s m is
each_after r None (Some new) b each s m is = put_is (int_eq s r) (sym (get_row-insert b.marks r Pending s) ∙ is)
  where
    put_is : (t : Bool) → cond t (Some Pending) (get b.marks s) ≡ Some m → IsRuleMark m
    put_is true e = subst IsRuleMark (same_Some _ _ e) tt
    put_is false e = each s m e
each_after r (Some old) (Some new) b each s m is = put_is (int_eq s r) (sym (get_row-insert b.marks r Pending s) ∙ is)
  where
    put_is : (t : Bool) → cond t (Some Pending) (get b.marks s) ≡ Some m → IsRuleMark m
    put_is true e = subst IsRuleMark (same_Some _ _ e) tt
    put_is false e = each s m e
each_after r (Some old) None b each s m is = gone_is (int_eq s r) (sym (get_row-remove b.marks r s) ∙ is)
  where
    gone_is : (t : Bool) → cond t None (get b.marks s) ≡ Some m → IsRuleMark m
    gone_is true e = cc
    gone_is false e = each s m e

row_is : (t u : Table) (x : RuleIndex) (c : RowChange) (n : ℕ) → ChangesBy c t u → AreRules t x → AreRules u (by_row rule_indexes c n x)
row_is t u x c n by is = record {
  marks = λ s. marks_after c.row c.old c.new x.body s (λ same. is.marks s ∙ ap (λ (z : ℤ). is_some (get t.rows z)) (int_from_eq s c.row same) ∙ ap is_some by.old) ∙ at s (int_eq s c.row) refl;
  each = each_after c.row c.old c.new x.body is.each;
}
  where
    at : (s : ℤ) (b : Bool) → int_eq s c.row ≡ b → cond b (is_some c.new) (is_some (mark_of x s)) ≡ is_some (get u.rows s)
    at s true same = sym (ap (λ (z : ℤ). is_some (get u.rows z)) (int_from_eq s c.row same) ∙ ap is_some by.new)
    at s false other = is.marks s ∙ ap is_some (sym (by.others s other))

-- the entry of a row tells under which keys its rule was filed
pub anchors_tell : (m : Option RuleMark) → ((k : RuleMark) → m ≡ Some k → IsRuleMark k) → entry_anchors (query_value m) ≡ mark_anchors m
anchors_tell None is = refl
anchors_tell (Some Pending) is = refl
anchors_tell (Some (Settled (Faulty text))) is = refl
anchors_tell (Some (Settled (Taken q))) is = ap query_anchors (stored_read (stored_bytes q) q (record { rules = is (Settled (Taken q)) refl; spelt = refl }))

pub anchors_are : (f : Key → Option (List ℕ)) (i : List ℕ) (x : RuleIndex) (r : ℤ) → IsRow r → ((k : RuleMark) → mark_of x r ≡ Some k → IsRuleMark k) → MarksStand f i (mark_of x)
    → anchors_at f i r ≡ mark_anchors (mark_of x r)
anchors_are f i x r row is stand = ap entry_anchors (stand.rules.queries r row) ∙ anchors_tell (mark_of x r) is

-- a row without a mark has none
no_mark : (o : Option RuleMark) → is_some o ≡ false → o ≡ None
no_mark None h = refl
no_mark (Some m) h = cc

row_stands : (f : Key → Option (List ℕ)) (i : List ℕ) (x : RuleIndex) (t u : Table) (r : ℤ) (old new : Option (List Value)) → IsTable t → IsTable u → get t.rows r ≡ old → get u.rows r ≡ new → AreRules t x → MarksStand f i (mark_of x)
    → MarksStand (view (rule_changes i r old new (anchors_at f i r)) f) i (get (rules_after r old new x.body).marks)
row_stands f i x t u r None None is_t is_u was now is stand = stand
row_stands f i x t u r None (Some new) is_t is_u was now is stand =
    same_marks (view (queue_changes i r) f) i (with_mark r (Some Pending) (mark_of x)) (get (rules_after r None (Some new) x.body).marks) (λ s. sym (get_row-insert x.body.marks r Pending s))
    (new_stands f i (mark_of x) r (is_u.keys r new now) (no_mark (mark_of x r) (is.marks r ∙ ap is_some was)) stand)
row_stands f i x t u r (Some old) (Some new) is_t is_u was now is stand =
    let row = is_t.keys r old was in
    subst (λ (anchors : List (List ℕ)). MarksStand (view (set_changes i r anchors) f) i (get (rules_after r (Some old) (Some new) x.body).marks)) (sym (anchors_are f i x r row (is.each r) stand))
    (same_marks (view (set_changes i r (mark_anchors (mark_of x r))) f) i (with_mark r (Some Pending) (mark_of x)) (get (rules_after r (Some old) (Some new) x.body).marks) (λ s. sym (get_row-insert x.body.marks r Pending s))
    (set_stands f i (mark_of x) r row stand))
row_stands f i x t u r (Some old) None is_t is_u was now is stand =
    let row = is_t.keys r old was in
    subst (λ (anchors : List (List ℕ)). MarksStand (view (gone_changes i r anchors) f) i (get (rules_after r (Some old) None x.body).marks)) (sym (anchors_are f i x r row (is.each r) stand))
    (same_marks (view (gone_changes i r (mark_anchors (mark_of x r))) f) i (with_mark r None (mark_of x)) (get (rules_after r (Some old) None x.body).marks) (λ s. sym (get_row-remove x.body.marks r s))
    (gone_stands f i (mark_of x) r row stand))

-- the changes of a row leave the entry of another rule
lost_others : (i : List ℕ) (r s : ℤ) (anchors : List (List ℕ)) (old : Option (List ℕ)) → IsRow r → IsRow s → int_eq s r ≡ false → told (lost_changes i r anchors) (key kind.Rules i (row_part s)) old ≡ old
lost_others i r s anchors old row fits apart =
    others_told None i r anchors kind.Rules (row_part s) (λ b. refl) (cond (same_key (key kind.Rules i (row_part s)) (key kind.Rules i (row_part r))) None old)
    ∙ ap (λ (b : Bool). cond b None old) (own_row kind.Rules i s r fits row ∙ apart)

row_others : (i : List ℕ) (r s : ℤ) (before after : Option (List Value)) (anchors : List (List ℕ)) (old : Option (List ℕ)) → IsRow r → IsRow s → int_eq s r ≡ false
    → told (rule_changes i r before after anchors) (key kind.Rules i (row_part s)) old ≡ old
row_others i r s None None anchors old row fits apart = refl
row_others i r s None (Some new) anchors old row fits apart = refl
row_others i r s (Some b) (Some new) anchors old row fits apart = told-append (lost_changes i r anchors) (queue_changes i r) (key kind.Rules i (row_part s)) old ∙ lost_others i r s anchors old row fits apart
row_others i r s (Some b) None anchors old row fits apart = told-append (lost_changes i r anchors) (unqueue_changes i r) (key kind.Rules i (row_part s)) old ∙ lost_others i r s anchors old row fits apart

-- ---- a synchronisation

some_settled : (outcome : ℤ → Outcome) (s : ℤ) (o : Option RuleMark) → is_some (option_map (settled outcome s) o) ≡ is_some o
some_settled outcome s None = refl
some_settled outcome s (Some m) = refl

settled_is : (outcome : ℤ → Outcome) → ((r : ℤ) → IsOutcome (outcome r)) → (s : ℤ) (o : Option RuleMark) (m : RuleMark) → ((k : RuleMark) → o ≡ Some k → IsRuleMark k) → option_map (settled outcome s) o ≡ Some m → IsRuleMark m
settled_is outcome are s None m is e = cc
settled_is outcome are s (Some Pending) m is e = subst IsRuleMark (same_Some _ _ e) (are s)
settled_is outcome are s (Some (Settled o)) m is e = subst IsRuleMark (same_Some _ _ e) (is (Settled o) refl)

synced_is : (outcome : ℤ → Outcome) → ((r : ℤ) → IsOutcome (outcome r)) → (t : Table) (x y : RuleIndex) → y.body ≡ all_settled outcome x.body → AreRules t x → AreRules t y
synced_is outcome are t x y same is = record {
  marks = λ r. ap (λ (b : RuleBody). is_some (get b.marks r)) same ∙ ap is_some (sym (settled_marks x.body outcome r)) ∙ some_settled outcome r (mark_of x r) ∙ is.marks r;
  each = λ r m there. settled_is outcome are r (mark_of x r) m (is.each r) (settled_marks x.body outcome r ∙ sym (ap (λ (b : RuleBody). get b.marks r) same) ∙ there);
}

-- ---- a new index

some_if : (b : Bool) (m : RuleMark) → is_some (cond b (Some m) None) ≡ b
some_if true m = refl
some_if false m = refl

new_is : (outcome : ℤ → Outcome) (are : (r : ℤ) → IsOutcome (outcome r)) (b : Bool) (s : ℤ) (m : RuleMark) → cond b (Some (Settled (outcome s))) None ≡ Some m → IsRuleMark m
new_is outcome are true s m e = subst IsRuleMark (same_Some _ _ e) (are s)
new_is outcome are false s m e = cc

pub keys_are_rows : (t : Table) → IsTable t → (s : ℤ) → list_any (int_eq s) (row_keys_of t) ≡ true → IsRow s
keys_are_rows t is s there = let vs = some_value (get t.rows s) (contains_key-keys t.rows s ∙ there) in is.keys s vs.0 vs.1

-- no entry of rows is there behind the new one of the index
none_stand : (f : Key → Option (List ℕ)) (i e : List ℕ) → HasNoEntries rule_indexes f i → MarksStand (view ((key kind.Indexes i [], Some e) ∷ []) f) i no_marks
none_stand f i e none = record {
  rules = record {
    queries = λ r row. none (key kind.Rules i (row_part r)) refl refl;
    anchors = λ a r short row. none (key kind.Anchors i (anchor_part a r)) refl refl;
    faults = λ r row. none (key kind.RuleFaults i (row_part r)) refl refl;
  };
  waits = record { queue = λ r row. none (key kind.Pending i (row_part r)) refl refl };
}

-- ---- what the entries tell

-- of a row, by what it has of each kind
one_mark : (o p : Option RuleMark) → ((k : RuleMark) → o ≡ Some k → IsRuleMark k) → ((k : RuleMark) → p ≡ Some k → IsRuleMark k) → queue_value o ≡ queue_value p → query_value o ≡ query_value p → fault_value o ≡ fault_value p → o ≡ p
one_mark None None is are queue query fault = refl
one_mark None (Some Pending) is are queue query fault = cc
one_mark None (Some (Settled (Taken q))) is are queue query fault = cc
one_mark None (Some (Settled (Faulty text))) is are queue query fault = cc
one_mark (Some Pending) None is are queue query fault = cc
one_mark (Some Pending) (Some Pending) is are queue query fault = refl
one_mark (Some Pending) (Some (Settled o)) is are queue query fault = cc
one_mark (Some (Settled (Taken p))) None is are queue query fault = cc
one_mark (Some (Settled (Taken p))) (Some Pending) is are queue query fault = cc
one_mark (Some (Settled (Taken p))) (Some (Settled (Taken q))) is are queue query fault =
    ap (λ (x : Option Reduced). Some (Settled (Taken x)))
    (sym (stored_read (stored_bytes p) p (record { rules = is (Settled (Taken p)) refl; spelt = refl }))
    ∙ ap stored_query (same_Some _ _ query)
    ∙ stored_read (stored_bytes q) q (record { rules = are (Settled (Taken q)) refl; spelt = refl }))
one_mark (Some (Settled (Taken p))) (Some (Settled (Faulty text))) is are queue query fault = cc
one_mark (Some (Settled (Faulty a))) None is are queue query fault = cc
one_mark (Some (Settled (Faulty a))) (Some Pending) is are queue query fault = cc
one_mark (Some (Settled (Faulty a))) (Some (Settled (Taken q))) is are queue query fault = cc
one_mark (Some (Settled (Faulty a))) (Some (Settled (Faulty b))) is are queue query fault = ap (λ (text : List ℕ). Some (Settled (Faulty text))) (same_Some _ _ fault)

module _ (f : Key → Option (List ℕ)) (i : List ℕ) (x y : RuleIndex) (t u : Table) (is_t : IsTable t) (is_u : IsTable u) (x_is : AreRules t x) (y_is : AreRules u y) (x_stands : MarksStand f i (mark_of x)) (y_stands : MarksStand f i (mark_of y)) where
  one_of_row : (r : ℤ) → mark_of x r ≡ mark_of y r
  one_of_row r = go (mark_of x r) (mark_of y r) refl refl
    where
      of_row : IsRow r → mark_of x r ≡ mark_of y r
      of_row row =
          one_mark (mark_of x r) (mark_of y r) (x_is.each r) (y_is.each r)
          (sym (x_stands.waits.queue r row) ∙ y_stands.waits.queue r row)
          (sym (x_stands.rules.queries r row) ∙ y_stands.rules.queries r row)
          (sym (x_stands.rules.faults r row) ∙ y_stands.rules.faults r row)

      go : (o p : Option RuleMark) → mark_of x r ≡ o → mark_of y r ≡ p → mark_of x r ≡ mark_of y r
      go None None e d = e ∙ sym d
      go None (Some m) e d = of_row (mark_is_row u y is_u y_is r (ap is_some d))
      go (Some m) p e d = of_row (mark_is_row t x is_t x_is r (ap is_some e))

  same_index : IsPrefs x.prefs → IsPrefs y.prefs → (p q : List ℕ) → index_entry rule_indexes x p ≡ index_entry rule_indexes y q → x ≡ y
  same_index x_prefs y_prefs p q entry =
      let parts = parts_one x y p q x_prefs y_prefs entry in
      let marks = same_map int_cmp_total int_cmp-IsAntisymmetric x.body.marks y.body.marks one_of_row in
      λ j. record { table = (parts.head j).target.table; column = (parts.head j).target.column; prefs = parts.prefs j; body = record { marks = marks j } }

-- ---- the laws

rules_alone : StandsAlone rule_indexes
rules_alone = record {
  part = λ b k. is_part k;
  agree = λ f g i x t same stands. record {
    rules = record {
      queries = λ r row. same (key kind.Rules i (row_part r)) refl refl ∙ stands.rules.queries r row;
      anchors = λ a r short row. same (key kind.Anchors i (anchor_part a r)) refl refl ∙ stands.rules.anchors a r short row;
      faults = λ r row. same (key kind.RuleFaults i (row_part r)) refl refl ∙ stands.rules.faults r row;
    };
    waits = record { queue = λ r row. same (key kind.Pending i (row_part r)) refl refl ∙ stands.waits.queue r row };
  };
  alike = λ f i x t u alike is stands. stands;
  is_alike = λ x t u alike is. record { marks = λ r. is.marks r ∙ sym (alike.rows r); each = is.each };
}

-- one is never tidy
rules_untidy : Untidies rule_indexes
rules_untidy = never_tidy rule_indexes (λ b. refl) (λ b. refl)

rules_rows : RowsChange rule_indexes
rules_rows = record {
  same = λ c n x. record { kind = refl; own = λ k. refl; looks = λ column. refl; resumes = λ place resumes. resumes };
  loose = λ c n b untidy. refl;
  own = λ f i x columns c.
      let its = row_on i c.row c.old c.new (anchors_at f i c.row) in record { on = its.on; of = wider (rule_changes i c.row c.old c.new (anchors_at f i c.row)) its.of };
  entry = λ f i x columns c n place keeps.
      not_own (rule_changes i c.row c.old c.new (anchors_at f i c.row)) (row_on i c.row c.old c.new (anchors_at f i c.row)).of i (Some (index_entry rule_indexes x place));
  is = λ t u x c n is_t is_u by is. row_is t u x c n by is;
  stands = λ f i x t u c n is_t is_u by cost is stand. row_stands f i x t u c.row c.old c.new is_t is_u by.old by.new is stand;
  read_agree = λ f g i x r same. ap entry_anchors (same (key kind.Rules i (row_part r)) refl refl);
  changes_same = λ f i x columns c d n. refl;
  apart = λ f i x columns c r row is_row apart. ap entry_anchors (row_others i c.row r c.old c.new (anchors_at f i c.row) (f (key kind.Rules i (row_part r))) row is_row apart);
}

rules_sync : Synchronises rule_indexes
rules_sync = record {
  same = λ d t x. record { kind = refl; own = λ k. refl; looks = λ column. refl; resumes = λ place resumes. resumes };
  own = λ d t i x place.
      let changes = settle_each_changes i (row_outcome d t x.column x.prefs) (waiting x.body) in
      let its = settled_on i (row_outcome d t x.column x.prefs) (waiting x.body) in record { on = its.on; of = wider changes its.of };
  entry = λ d t i x place.
      not_own (settle_each_changes i (row_outcome d t x.column x.prefs) (waiting x.body)) (settled_on i (row_outcome d t x.column x.prefs) (waiting x.body)).of i (Some (index_entry rule_indexes x place));
  is = λ d t x is_t prefs can is. synced_is (row_outcome d t x.column x.prefs) (λ r. seen_is d x.prefs (rule_text t x.column r)) t x (synced_index rule_indexes d t x) refl is;
  stands = λ f d t i x place is_t prefs can is stand. synced_stands f i (row_outcome d t x.column x.prefs) x.body (mark_is_row t x is_t is) stand;
}

rules_create : Creates rule_indexes
rules_create = record {
  on = λ a d t i target p. (refl, (come_on i (row_outcome d t target.column p) (row_keys_of t)).on);
  of = λ a d t i target p. (refl, wider _ (come_on i (row_outcome d t target.column p) (row_keys_of t)).of);
  entry = λ a d t i target p. (
    no_place,
    refl,
    λ old.
        not_own _ (come_on i (row_outcome d t target.column p) (row_keys_of t)).of i (told (entry_change i target.table target.column p ∷ []) (key kind.Indexes i []) old)
        ∙ ap (λ (b : Bool). cond b (entry_change i target.table target.column p).1 old) (key_same (key kind.Indexes i []))
        ∙ ap Some (entry_is (record { table = target.table; column = target.column; prefs = p; body = new_rules (row_outcome d t target.column p) (row_keys_of t) })),
  );
  is = λ a d t target p is texts prefs asks can.
      let outcome = row_outcome d t target.column p in
      record {
        marks = λ r. ap is_some (new_mark outcome (row_keys_of t) r) ∙ some_if (list_any (int_eq r) (row_keys_of t)) (Settled (outcome r)) ∙ sym (contains_key-keys t.rows r);
        each = λ r m there. new_is outcome (λ s. seen_is d p (rule_text t target.column s)) (list_any (int_eq r) (row_keys_of t)) r m (sym (new_mark outcome (row_keys_of t) r) ∙ there);
      };
  stands = λ f a d t i target p is texts prefs asks can none.
      created_stands (view (entry_change i target.table target.column p ∷ []) f) i (row_outcome d t target.column p) (row_keys_of t) (keys_are_rows t is) (none_stand f i (rules_bytes target.table target.column p) none);
}

rules_tell : TellsOne rule_indexes
rules_tell = record { one = λ f i x y t u is_t is_u x_is y_is x_prefs y_prefs same p q x_resumes y_resumes entry x_stands y_stands. same_index f i x y t u is_t is_u x_is y_is x_stands y_stands x_prefs y_prefs p q entry }

-- RULE INDEXES GIVE WHAT A KIND OF INDEXES HAS TO GIVE.
pub rules_laws : IndextypeLaws rule_indexes
rules_laws = record { alone = rules_alone; untidies = rules_untidy; rows = rules_rows; syncs = rules_sync; creates = rules_create; one = rules_tell }
