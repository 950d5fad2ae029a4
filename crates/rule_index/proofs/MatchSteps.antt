-- Steps of telling which rules hold of a document.
use Rattle.std.proofs.Common.{ℕ, ℤ, ◌≡◌, Bool, true, false, cond, List, [], ◌∷◌, ◌++◌, length, map, Option, Some, None, refl, sym, ap, ◌∙◌, arith, append_assoc, append-nil}
use Rattle.std.specs.Prelude.{◌||◌, ◌&&◌, not, nat_le, filter}
use Rattle.std.specs.Bool.{if◌then◌else◌}
use Rattle.std.specs.List.{AllByRecursion, cons_option, list_all, list_any}
use Rattle.std.specs.List.Sorted.{IsPermutation}
use Rattle.std.specs.FinMap.{entries}
use Rattle.std.proofs.lemmas.Bool.{and_from, le-leb}
use Rattle.std.proofs.lemmas.List.{map-append}
use Rattle.std.proofs.lemmas.List.Sorted.{list_any-IsPermutation}
use Rattle.ct_base.specs.Limits.{token_limit}
use Rattle.ct_base.specs.declared.numbers.RowKey.{RowKey}
use Rattle.ct_keep.specs.Content.{Content}
use Rattle.ct_entry.specs.declared.kinds.Kind.TheVariants as kind
use Rattle.ct_entry.specs.Keys.{key, row_part, IsRow, at}
use Rattle.ct_entry.specs.Maps.{Rows}
use Rattle.tb_table.specs.Tables.{Tables}
use Rattle.tx_document.specs.declared.views.WordView.{WordView}
use Rattle.tx_document.specs.declared.views.DocView.{DocView}
use Rattle.tx_document.specs.Promises.{IsKey}
use Rattle.ix_docmap.specs.Marks.{Pending, Settled}
use Rattle.q_tree.specs.Soundness.{is_key}
use Rattle.q_tree.specs.Scores.{DocPostings}
use Rattle.q_tree.specs.ReducedQueries.{Reduced}
use Rattle.q_stored.specs.Anchoring.{document_keys}
use Rattle.rule_index.specs.Outcomes.{Taken, Faulty}
use Rattle.rule_index.specs.RuleIndexes.{RuleIndex, RuleMark, mark_of}
use Rattle.rule_index.specs.Readings.{HasQuery}
use Rattle.rule_index.specs.Sees.{HoldsRules}
use Rattle.rule_index.specs.Matching.{AreFiled, doc_words, filed, is_filed_under, looked_for, query_holds, row_holds, some_holds}
use Rattle.rule_index.specs.laws.Matching.{AreShortKeys, rows_are_filed}
use Rattle.rule_index.specs.laws.Reading.{mark_query, query_read}

-- ---- the keys of a document

keys_are_short : (ws : List WordView) → AllByRecursion (λ (w : WordView). IsKey w.key) ws → AreShortKeys (document_keys (doc_words ws))
keys_are_short [] all = tt
keys_are_short (w ∷ ws) all = go w.key all.0 (keys_are_short ws all.1)
  where
    go : (o : Option (List ℕ)) → IsKey o → AreShortKeys (document_keys (doc_words ws)) → AreShortKeys (cons_option o (document_keys (doc_words ws)))
    go None is rest = rest
    go (Some k) is rest = (is.1, rest)

-- each is a key
keys_are_keys : (ws : List WordView) → AllByRecursion (λ (w : WordView). IsKey w.key) ws → list_all is_key (document_keys (doc_words ws)) ≡ true
keys_are_keys [] all = refl
keys_are_keys (w ∷ ws) all = go w.key all.0 (keys_are_keys ws all.1)
  where
    go : (o : Option (List ℕ)) → IsKey o → list_all is_key (document_keys (doc_words ws)) ≡ true → list_all is_key (cons_option o (document_keys (doc_words ws))) ≡ true
    go None is rest = rest
    go (Some k) is rest = and_from (is_key k) (list_all is_key (document_keys (doc_words ws))) (and_from (nat_le 1 (length k)) (nat_le (length k) token_limit) (le-leb _ _ is.0) (le-leb _ _ is.1)) rest

-- in another order too
none_fails : (p : List ℕ → Bool) (xs : List (List ℕ)) → list_all p xs ≡ not (list_any (λ x. not (p x)) xs)
none_fails p [] = refl
none_fails p (x ∷ xs) = go (p x) (none_fails p xs)
  where
    go : (b : Bool) → list_all p xs ≡ not (list_any (λ x. not (p x)) xs) → (b && list_all p xs) ≡ not (not b || list_any (λ x. not (p x)) xs)
    go true rest = rest
    go false rest = refl

pub sorted_keys : (d : DocView) (sorted : List (List ℕ)) → AllByRecursion (λ (w : WordView). IsKey w.key) d.words → IsPermutation (document_keys (doc_words d.words)) sorted → list_all is_key sorted ≡ true
sorted_keys d sorted keys moved =
    none_fails is_key sorted
    ∙ ap not (sym (list_any-IsPermutation (λ k. not (is_key k)) (document_keys (doc_words d.words)) sorted moved))
    ∙ sym (none_fails is_key (document_keys (doc_words d.words)))
    ∙ keys_are_keys d.words keys

pub looked_for_short : (d : DocView) → AllByRecursion (λ (w : WordView). IsKey w.key) d.words → AreShortKeys (looked_for d)
looked_for_short d all = (omega arith, keys_are_short d.words all)

-- the rows that are filed under the sorted keys of a document are the rules that are looked at
pub sorted_filed : (m : Content) (ts : Tables) (i : List ℕ) (x : RuleIndex) (d : DocView) (sorted : List (List ℕ)) (rows : Rows (Unit {0})) → HoldsRules m ts i x → AllByRecursion (λ (w : WordView). IsKey w.key) d.words
    → IsPermutation (document_keys (doc_words d.words)) sorted → AreFiled i m ([] ∷ sorted) rows → map (λ e. e.0) (entries rows) ≡ filed x (looked_for d)
sorted_filed m ts i x d sorted rows holds keys moved found =
    rows_are_filed m ts i x (looked_for d) rows holds (looked_for_short d keys)
    (λ r. found r ∙ ap (λ (b : Bool). is_filed_under i m r [] || b) (sym (list_any-IsPermutation (is_filed_under i m r) (document_keys (doc_words d.words)) sorted moved)))

-- ---- rules that hold

-- what the entry of a rule tells is what its mark says
pub held_read : (m : Content) (ts : Tables) (i : List ℕ) (x : RuleIndex) (r : ℤ) (d : DocPostings) (found : Option Reduced) (b : Bool) → HoldsRules m ts i x → IsRow r
    → HasQuery (at m (key kind.Rules i (row_part r))) found → b ≡ query_holds d found → b ≡ row_holds x d r
held_read m ts i x r d found b holds row has is =
    is
    ∙ ap (query_holds d) (query_read (mark_of x r) (at m (key kind.Rules i (row_part r))) found (holds.rules.each r) (holds.stands.rules.queries r row) has)
    ∙ said (mark_of x r)
  where
    said : (o : Option RuleMark) → query_holds d (mark_query o) ≡ some_holds d o
    said None = refl
    said (Some Pending) = refl
    said (Some (Settled (Faulty text))) = refl
    said (Some (Settled (Taken q))) = refl

-- the next row was added, if its rule holds
pub held_next : (h : ℤ → Bool) (row : RowKey) (rest later : List RowKey) (old new : List RowKey) (b : Bool) (whole : List ℤ) → rest ≡ row ∷ later → b ≡ h row.0 → new ≡ old ++ (if b then row ∷ [] else [])
    → map (λ (k : RowKey). k.0) old ++ filter h (map (λ (k : RowKey). k.0) rest) ≡ whole → map (λ (k : RowKey). k.0) new ++ filter h (map (λ (k : RowKey). k.0) later) ≡ whole
held_next h row rest later old new b whole are is added all =
    ap (λ (l : List RowKey). map (λ (k : RowKey). k.0) l ++ filter h (map (λ (k : RowKey). k.0) later)) added
    ∙ go b is
    ∙ sym (ap (λ (l : List RowKey). map (λ (k : RowKey). k.0) old ++ filter h (map (λ (k : RowKey). k.0) l)) are)
    ∙ all
  where
    keys : List RowKey → List ℤ
    keys l = map (λ (k : RowKey). k.0) l

    one : (c : Bool) → map (λ (k : RowKey). k.0) (old ++ (if c then row ∷ [] else [])) ≡ keys old ++ (if c then row.0 ∷ [] else [])
    one true = map-append (λ (k : RowKey). k.0) old (row ∷ [])
    one false = map-append (λ (k : RowKey). k.0) old []

    go : (c : Bool) → c ≡ h row.0 → keys (old ++ (if c then row ∷ [] else [])) ++ filter h (keys later) ≡ keys old ++ filter h (row.0 ∷ keys later)
    go true e =
        ap (λ (l : List ℤ). l ++ filter h (keys later)) (one true) ∙ append_assoc (keys old) (row.0 ∷ []) (filter h (keys later))
        ∙ ap (λ (t : Bool). keys old ++ cond t (row.0 ∷ filter h (keys later)) (filter h (keys later))) e
    go false e =
        ap (λ (l : List ℤ). l ++ filter h (keys later)) (one false ∙ append-nil (keys old))
        ∙ ap (λ (t : Bool). keys old ++ cond t (row.0 ∷ filter h (keys later)) (filter h (keys later))) e

-- all of them were asked
pub held_end : (h : ℤ → Bool) (rest held : List RowKey) (whole : List ℤ) → length rest ≡ 0 → map (λ (k : RowKey). k.0) held ++ filter h (map (λ (k : RowKey). k.0) rest) ≡ whole → map (λ (k : RowKey). k.0) held ≡ whole
held_end h [] held whole none all = sym (append-nil (map (λ (k : RowKey). k.0) held)) ∙ all
held_end h (k ∷ ks) held whole none all = absurd (omega (arith, none))
