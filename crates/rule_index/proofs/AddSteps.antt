-- Steps of the calls that add changes.
use Rattle.std.proofs.Common.{◌≡◌, ℕ, ℤ, false, List, [], ◌∷◌, ◌++◌, map, Option, None, refl, ap, ◌∙◌, sym, append_assoc}
use Rattle.ct_base.specs.declared.numbers.RowKey.{RowKey}
use Rattle.ct_entry.specs.declared.kinds.Kind.TheVariants as kind
use Rattle.ct_entry.specs.Keys.{Key, key, bytes, row_part, anchor_part}
use Rattle.ct_entry.specs.Changes.{spell}
use Rattle.ct_entry.specs.Each.{each}
use Rattle.ct_entry.specs.laws.Changes.{spell-append}
use Rattle.ct_entry.specs.Removals.{OnlyRemoves}
use Rattle.ix_docmap.specs.Changes.{unqueue_changes}
use Rattle.rule_index.specs.Changes.{filing_change, gone_changes, lost_changes}

abbrev pub Changes : Type 0
Changes = List (List ℕ × Option (List ℕ))

-- what was added for one of several, of which the rest is still to be added
pub next_added : (changes : ℤ → List (Key × Option (List ℕ))) (row : RowKey) (rows later : List RowKey) (old mid whole : Changes) → rows ≡ row ∷ later → mid ≡ old ++ spell (changes row.0)
    → old ++ spell (each changes (map (λ (r : RowKey). r.0) rows)) ≡ whole → mid ++ spell (each changes (map (λ (r : RowKey). r.0) later)) ≡ whole
next_added changes row rows later old mid whole are added all =
    ap (λ (c : Changes). c ++ spell (each changes (map (λ (r : RowKey). r.0) later))) added
    ∙ append_assoc old (spell (changes row.0)) (spell (each changes (map (λ (r : RowKey). r.0) later)))
    ∙ ap (λ (c : Changes). old ++ c) (sym (spell-append (changes row.0) (each changes (map (λ (r : RowKey). r.0) later))))
    ∙ ap (λ (rs : List RowKey). old ++ spell (each changes (map (λ (r : RowKey). r.0) rs))) (sym are)
    ∙ all

-- a batch that began empty and got these changes was appended
pub appended : (changes : List (Key × Option (List ℕ))) (batch none all new : Changes) → none ≡ [] → all ≡ none ++ spell changes → new ≡ batch ++ all → new ≡ batch ++ spell changes
appended changes batch none all new empty is last = last ∙ ap (λ (c : Changes). batch ++ c) (is ∙ ap (λ (c : Changes). c ++ spell changes) empty)

-- these changes were added behind others
pub added_behind : (first second : List (Key × Option (List ℕ))) (none mid all : Changes) → mid ≡ none ++ spell first → all ≡ mid ++ spell second → all ≡ none ++ spell (first ++ second)
added_behind first second none mid all one two =
    two ∙ ap (λ (c : Changes). c ++ spell second) one ∙ append_assoc none (spell first) (spell second) ∙ ap (λ (c : Changes). none ++ c) (sym (spell-append first second))

-- a rule was lost, and then its row waits or goes
pub lost_then : (i : List ℕ) (r : ℤ) (found anchors : List (List ℕ)) (more : List (Key × Option (List ℕ))) (batch none lost all new : Changes)
    → none ≡ [] → lost ≡ none ++ spell (lost_changes i r found) → found ≡ anchors → all ≡ lost ++ spell more → new ≡ batch ++ all
    → new ≡ batch ++ spell (lost_changes i r anchors ++ more)
lost_then i r found anchors more batch none lost all new empty is same then_more last =
    appended (lost_changes i r anchors ++ more) batch none all new empty
    (added_behind (lost_changes i r anchors) more none lost all (is ∙ ap (λ (a : List (List ℕ)). none ++ spell (lost_changes i r a)) same) then_more) last

-- whatever was found, what is added of a row that goes only takes entries away
abbrev filed_keys : List ℕ → ℤ → List (List ℕ) → List (List ℕ)
filed_keys i r anchors = map (λ a. bytes (key kind.Anchors i (anchor_part a r))) anchors

abbrev gone_keys : List ℕ → ℤ → List (List ℕ) → List (List ℕ)
gone_keys i r anchors = bytes (key kind.Rules i (row_part r)) ∷ bytes (key kind.RuleFaults i (row_part r)) ∷ (filed_keys i r anchors ++ bytes (key kind.Pending i (row_part r)) ∷ [])

unfiled : (i : List ℕ) (r : ℤ) (anchors : List (List ℕ)) → spell (map (filing_change false i r) anchors ++ unqueue_changes i r) ≡ map (λ k. (k, None)) (filed_keys i r anchors ++ bytes (key kind.Pending i (row_part r)) ∷ [])
unfiled i r [] = refl
unfiled i r (a ∷ as') = ap (λ (c : Changes). (bytes (key kind.Anchors i (anchor_part a r)), None) ∷ c) (unfiled i r as')

pub gone_removes : (i : List ℕ) (r : ℤ) (anchors : List (List ℕ)) (old new : Changes) → new ≡ old ++ spell (gone_changes i r anchors) → OnlyRemoves old new
gone_removes i r anchors old new is = record {
  keys = gone_keys i r anchors;
  is =
      is
      ∙ ap (λ (c : Changes). old ++ (bytes (key kind.Rules i (row_part r)), None) ∷ (bytes (key kind.RuleFaults i (row_part r)), None) ∷ c) (unfiled i r anchors);
}
