-- Steps of gathering postings, and of putting what was gathered.
use Rattle.std.proofs.Common.{◌≡◌, ℕ, ℤ, ◌+◌, ◌-◌, ◌≤◌, ◌<◌, ◌^◌, List, ◌++◌, length, map, Option, sym, ap, ◌∙◌, append_assoc, arith}
use Rattle.std.proofs.lemmas.List.{length-map}
use Rattle.ct_base.specs.declared.numbers.RowKey.{RowKey}
use Rattle.ct_entry.specs.Keys.{Key}
use Rattle.ct_entry.specs.Changes.{spell}
use Rattle.ct_entry.specs.laws.Changes.{spell-append}
use Rattle.tx_settings.specs.declared.preferences.Prefs.{Prefs}
use Rattle.ix_context.specs.Documents.{postings_by}
use Rattle.ix_context.specs.Changes.{postings_changes}
use Rattle.ix_context.specs.Gathering.{IndexRowsView, texts_gathered, gathering_changes}
use Rattle.ix_context.specs.laws.Gathered.{gathered_postings}

-- changes were added, and others behind them
pub added_both : (old mid new : List (List ℕ × Option (List ℕ))) (xs ys zs : List (Key × Option (List ℕ))) → mid ≡ old ++ spell xs → new ≡ mid ++ spell ys → ys ≡ zs → new ≡ old ++ spell (xs ++ zs)
added_both old mid new xs ys zs first second same =
    second ∙ ap (λ (ws : List (List ℕ × Option (List ℕ))). ws ++ spell ys) first ∙ append_assoc old (spell xs) (spell ys)
    ∙ ap (λ (ws : List (List ℕ × Option (List ℕ))). old ++ ws) (sym (spell-append xs ys))
    ∙ ap (λ (ws : List (Key × Option (List ℕ))). old ++ spell (xs ++ ws)) same

-- what was gathered of these rows is put as their postings
pub gathered_from : (p : Prefs) (text : ℤ → Option (List ℕ)) (i : List ℕ) (first : ℕ) (rows : List RowKey) (g : IndexRowsView) → 1 ≤ first → first + length rows < 2 ^ 32
    → g ≡ texts_gathered p text first (map (λ (r : RowKey). r.0) rows) → gathering_changes i g ≡ postings_changes i (postings_by p text) first (map (λ (r : RowKey). r.0) rows)
gathered_from p text i first rows g some room gathers =
    let keys = map (λ (r : RowKey). r.0) rows in
    let given = first - 1 in
    let is : given + 1 ≡ first = omega (arith, some) in
    let count = length-map rows (λ (r : RowKey). r.0) in
    ap (gathering_changes i) (gathers ∙ ap (λ (n : ℕ). texts_gathered p text n keys) (sym is))
    ∙ gathered_postings p text i given keys (omega (arith, room, count, is))
    ∙ ap (λ (n : ℕ). postings_changes i (postings_by p text) n keys) is
