-- A rule that holds of a document is filed under one of its keys, or everywhere.
use Rattle.std.specs.Prelude.{ℕ, ◌≡◌, Bool, true, false, ◌&&◌, ◌||◌, bytes_eq, List, [], ◌∷◌, Some, None, refl}
use Rattle.std.specs.List.{list_any}
use Rattle.std.proofs.Common.{ap, ◌∙◌}
use Rattle.std.proofs.lemmas.Bool.{and_parts, ltb-true}
use Rattle.std.proofs.lemmas.Slice.Eq.{bytes_eq-Decides}
use Rattle.ct_entry.specs.Keys.{same_list}
use Rattle.ct_entry.specs.laws.Keys.{list_same}
use Rattle.tx_document.specs.declared.views.DocView.{DocView}
use Rattle.ix_docmap.specs.Marks.{Pending, Settled}
use Rattle.q_tree.specs.Slots.{has_key}
use Rattle.q_tree.specs.Soundness.{is_sound}
use Rattle.q_tree.specs.Scores.{whole_score}
use Rattle.q_stored.specs.Storing.{is_written, query_fits}
use Rattle.q_stored.specs.Anchoring.{AnchorKeys, anchors, document_keys, is_found}
use Rattle.q_stored.specs.laws.Anchors.{anchors_find}
use Rattle.rule_index.specs.Outcomes.{Taken, Faulty}
use Rattle.rule_index.specs.RuleIndexes.{RuleMark}
use Rattle.rule_index.specs.Spelling.{filed_under, is_one_of}
use Rattle.rule_index.specs.Standing.{IsRuleMark}
use Rattle.rule_index.specs.Matching.{doc_words, doc_sections, document_postings, is_filed, looked_for, mark_holds}
use Rattle.rule_index.specs.laws.Marks.{or_left, or_right}

any_more : {X : Type 0} (p q : X → Bool) (xs : List X) → ((x : X) → p x ≡ true → q x ≡ true) → list_any p xs ≡ true → list_any q xs ≡ true
any_more p q [] h k = k
any_more p q (x ∷ xs) h k = go (p x) refl k (λ j. any_more p q xs h j)
  where
    go : (b : Bool) → p x ≡ b → (b || list_any p xs) ≡ true → (list_any p xs ≡ true → list_any q xs ≡ true) → (q x || list_any q xs) ≡ true
    go true e k rest = or_left (q x) (list_any q xs) (h x e)
    go false e k rest = or_right (q x) (list_any q xs) (rest k)

-- one of the keys, as one of the anchors
one_of : (keys : List (List ℕ)) (a : List ℕ) (as' : List (List ℕ)) → has_key keys a ≡ true → list_any (is_one_of (a ∷ as')) keys ≡ true
one_of keys a as' h =
    any_more (λ k. bytes_eq k a) (is_one_of (a ∷ as')) keys
    (λ k e. or_left (same_list k a) (is_one_of as' k) (ap (λ (x : List ℕ). same_list x a) ((bytes_eq-Decides k a).0 e) ∙ list_same a)) h

-- an anchor among the keys, as a key among the anchors
swapped : (keys anchored : List (List ℕ)) → list_any (has_key keys) anchored ≡ true → list_any (is_one_of anchored) keys ≡ true
swapped keys [] h = cc
swapped keys (a ∷ as') h = go (has_key keys a) refl h (λ k. swapped keys as' k)
  where
    go : (b : Bool) → has_key keys a ≡ b → (b || list_any (has_key keys) as') ≡ true → (list_any (has_key keys) as' ≡ true → list_any (is_one_of as') keys ≡ true) → list_any (is_one_of (a ∷ as')) keys ≡ true
    go true e k rest = one_of keys a as' e
    go false e k rest = any_more (is_one_of as') (is_one_of (a ∷ as')) keys (λ x t. or_right (same_list x a) (is_one_of as' x) t) (rest k)

filed_where_found : (a : AnchorKeys) (keys : List (List ℕ)) → is_found a keys ≡ true → list_any (is_one_of (filed_under a)) ([] ∷ keys) ≡ true
filed_where_found None keys h = refl
filed_where_found (Some anchored) keys h = or_right (is_one_of anchored []) (list_any (is_one_of anchored) keys) (swapped keys anchored h)

pub held_are_filed : (d : DocView) (m : RuleMark) → IsRuleMark m → mark_holds (document_postings d) m ≡ true → is_filed (looked_for d) m ≡ true
held_are_filed d Pending is holds = cc
held_are_filed d (Settled (Faulty text)) is holds = cc
held_are_filed d (Settled (Taken None)) is holds = cc
held_are_filed d (Settled (Taken (Some q))) is holds =
    let sound = (and_parts (is_sound q) (is_written q && query_fits q) is).0 in
    filed_where_found (anchors q) (document_keys (doc_words d.words)) (anchors_find q (doc_words d.words) (doc_sections d.sections) sound (ltb-true 0 (whole_score q (document_postings d)) holds))
