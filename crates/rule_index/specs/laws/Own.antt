-- The changes of rows are on the index's own entries.
use Rattle.std.specs.Prelude.{ℕ, ℤ, ◌≡◌, true, ◌||◌, List, [], ◌∷◌, ◌++◌, map, Option, Some, None, refl}
use Rattle.ct_base.specs.declared.lists.Value.{Value}
use Rattle.ct_entry.specs.declared.kinds.Kind.{Kind}
use Rattle.ct_entry.specs.declared.kinds.Kind.TheVariants as kind
use Rattle.ct_entry.specs.Keys.{Key, key, anchor_part}
use Rattle.ct_entry.specs.Changes.{told, AllOf, AllOn}
use Rattle.ct_entry.specs.laws.Changes.{told_frame, all-append, all_on-append}
use Rattle.ix_kinds.specs.Standing.{is_of_part, is_entry}
use Rattle.ix_docmap.specs.Changes.{queue_changes, unqueue_changes}
use Rattle.rule_index.specs.Outcomes.{Outcome, Taken, Faulty}
use Rattle.rule_index.specs.Spelling.{query_anchors}
use Rattle.rule_index.specs.Changes.{outcome_changes, come_changes, settle_changes, settle_each_changes, lost_changes, rule_changes}
use Rattle.rule_index.specs.Kind.{is_rule_kind}

-- on one owner's entries of rows
pub record OnRules (i : List ℕ) (ws : List (Key × Option (List ℕ))) : Type 0 where
  pub on : AllOn i ws
  pub of : AllOf is_rule_kind ws

none_on : (i : List ℕ) → OnRules i []
none_on i = record { on = tt; of = tt }

one_more : (i : List ℕ) (k : Kind) (p : List ℕ) (v : Option (List ℕ)) (ws : List (Key × Option (List ℕ))) → is_rule_kind k ≡ true → OnRules i ws → OnRules i ((key k i p, v) ∷ ws)
one_more i k p v ws is rest = record { on = (refl, rest.on); of = (is, rest.of) }

both_on : (i : List ℕ) (xs ys : List (Key × Option (List ℕ))) → OnRules i xs → OnRules i ys → OnRules i (xs ++ ys)
both_on i xs ys a b = record { on = all_on-append i xs ys a.on b.on; of = all-append is_rule_kind xs ys a.of b.of }

-- one value under each anchor
anchors_on : (i : List ℕ) (r : ℤ) (v : Option (List ℕ)) (anchors : List (List ℕ)) → OnRules i (map (λ a. (key kind.Anchors i (anchor_part a r), v)) anchors)
anchors_on i r v [] = none_on i
anchors_on i r v (a ∷ as') = one_more i kind.Anchors (anchor_part a r) v (map (λ a. (key kind.Anchors i (anchor_part a r), v)) as') refl (anchors_on i r v as')

outcome_on : (i : List ℕ) (r : ℤ) (o : Outcome) → OnRules i (outcome_changes i r o)
outcome_on i r (Taken q) = let rest = anchors_on i r (Some []) (query_anchors q) in record { on = (refl, rest.on); of = (refl, rest.of) }
outcome_on i r (Faulty text) = record { on = (refl, tt); of = (refl, tt) }

queue_on : (i : List ℕ) (r : ℤ) → OnRules i (queue_changes i r)
queue_on i r = record { on = (refl, tt); of = (refl, tt) }

unqueue_on : (i : List ℕ) (r : ℤ) → OnRules i (unqueue_changes i r)
unqueue_on i r = record { on = (refl, tt); of = (refl, tt) }

lost_on : (i : List ℕ) (r : ℤ) (anchors : List (List ℕ)) → OnRules i (lost_changes i r anchors)
lost_on i r anchors = let rest = anchors_on i r None anchors in record { on = (refl, (refl, rest.on)); of = (refl, (refl, rest.of)) }

-- ---- those of statements

pub row_on : (i : List ℕ) (r : ℤ) (old new : Option (List Value)) (anchors : List (List ℕ)) → OnRules i (rule_changes i r old new anchors)
row_on i r None None anchors = none_on i
row_on i r None (Some new) anchors = queue_on i r
row_on i r (Some old) (Some new) anchors = both_on i (lost_changes i r anchors) (queue_changes i r) (lost_on i r anchors) (queue_on i r)
row_on i r (Some old) None anchors = both_on i (lost_changes i r anchors) (unqueue_changes i r) (lost_on i r anchors) (unqueue_on i r)

pub settled_on : (i : List ℕ) (outcome : ℤ → Outcome) (rows : List ℤ) → OnRules i (settle_each_changes i outcome rows)
settled_on i outcome [] = none_on i
settled_on i outcome (r ∷ rs) =
    both_on i (settle_changes i outcome r) (settle_each_changes i outcome rs)
    (both_on i (unqueue_changes i r) (outcome_changes i r (outcome r)) (unqueue_on i r) (outcome_on i r (outcome r))) (settled_on i outcome rs)

pub come_on : (i : List ℕ) (outcome : ℤ → Outcome) (rows : List ℤ) → OnRules i (come_changes i outcome rows)
come_on i outcome [] = none_on i
come_on i outcome (r ∷ rs) = both_on i (outcome_changes i r (outcome r)) (come_changes i outcome rs) (outcome_on i r (outcome r)) (come_on i outcome rs)

-- ---- which are of an index, beside its own

pub is_part : (k : Kind) → is_rule_kind k ≡ true → is_of_part k ≡ true
is_part kind.Pending h = refl
is_part kind.Rules h = refl
is_part kind.Anchors h = refl
is_part kind.RuleFaults h = refl
is_part k h = cc

is_its : (k : Kind) → is_rule_kind k ≡ true → (is_entry k || is_rule_kind k) ≡ true
is_its kind.Pending h = refl
is_its kind.Rules h = refl
is_its kind.Anchors h = refl
is_its kind.RuleFaults h = refl
is_its k h = cc

pub wider : (ws : List (Key × Option (List ℕ))) → AllOf is_rule_kind ws → AllOf (λ k. is_entry k || is_rule_kind k) ws
wider [] all = tt
wider (w ∷ ws) all = (is_its w.0.kind all.0, wider ws all.1)

-- they leave the index's own entry
pub not_own : (ws : List (Key × Option (List ℕ))) → AllOf is_rule_kind ws → (i : List ℕ) (old : Option (List ℕ)) → told ws (key kind.Indexes i []) old ≡ old
not_own ws all i old = told_frame is_rule_kind ws (key kind.Indexes i []) old all refl
