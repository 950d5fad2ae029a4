-- The steps of a scan: what was found, what is left under the prefix, and what its look-ups add to the counts.
use Rattle.std.specs.Prelude.{ℕ, ◌≡◌, ◌+◌, ◌≤◌, Bool, true, false, List, [], ◌∷◌, ◌++◌, length, drop, Option, Some, None, refl}
use Rattle.std.proofs.Common.{cond, sym, ap, subst, ◌∙◌, arith, append-nil, append_assoc}
use Rattle.std.specs.FinMap.{entries}
use Rattle.std.specs.Option.{option_map}
use Rattle.ct_keep.specs.Content.{Content, begins_with, entries_above, entries_under, first_entry}
use Rattle.ct_keep.specs.KeeperViews.{Counts}
use Rattle.ct_keep.specs.laws.Rising.{Entry, beginning, first_then, none_then, stops}
use Rattle.ct_keep.specs.Tail.{cut, tail, left_under, rest_under}
use Rattle.ct_keep.specs.laws.Tail.{entries-tail, prefix_and_rest}
use Rattle.ct_keep.specs.Looks.{look, plus, no_looks, looks, next_looks, scan_looks, RisesBy}

-- A scan of the prefix has come to this key: what it found and what is left are all, and so with the counts.
pub record Scanning (p k : List ℕ) (m : Content) (found : List Entry) (old now : Counts) : Type 0 where
  pub entries : found ++ cut (length p) (left_under p k m) ≡ cut (length p) (entries_under p m)
  pub texts : now.texts + (looks p k (entries_above k m)).texts ≤ old.texts + (scan_looks p m).texts
  pub rows : now.rows + (looks p k (entries_above k m)).rows ≤ old.rows + (scan_looks p m).rows
  pub rules : now.rules + (looks p k (entries_above k m)).rules ≤ old.rules + (scan_looks p m).rules

pub scanning_none : (p : List ℕ) (m : Content) (old : Counts) → Scanning p p m [] old old
scanning_none p m old = record { entries = refl; texts = omega arith; rows = omega arith; rules = omega arith }

-- the entry that a step hands out
abbrev Stepped : List ℕ → List ℕ → Content → Entry → Type 0
Stepped p k m f = (e : Entry) × (begins_with p e.0 ≡ true) × (f ≡ (drop (length p) e.0, e.1)) × (entries_above k m ≡ e ∷ entries_above e.0 m)

stepped : (p k : List ℕ) (m : Content) (f : Entry) → Some f ≡ rest_under p (first_entry (entries_above k m)) → Stepped p k m f
stepped p k m f is = go (first_entry (entries_above k m)) refl is
  where
    at : (e : Entry) (b : Bool) → begins_with p e.0 ≡ b → Some e ≡ first_entry (entries_above k m) → ◌≡◌ {A = Option Entry} (Some f) (cond b (Some (drop (length p) e.0, e.1)) None) → Stepped p k m f
    at e true b first is = let one : f ≡ (drop (length p) e.0, e.1) = cc in (e, b, one, first_then m k e first)
    at e false b first is = cc

    go : (o : Option Entry) → o ≡ first_entry (entries_above k m) → Some f ≡ rest_under p o → Stepped p k m f
    go None first is = cc
    go (Some e) first is = at e (begins_with p e.0) refl first is

-- where it hands out none, nothing is left
none_left : (p k : List ℕ) (m : Content) → begins_with p k ≡ true → None ≡ rest_under p (first_entry (entries_above k m)) → left_under p k m ≡ []
none_left p k m pk is = go (first_entry (entries_above k m)) refl is
  where
    at : (e : Entry) (b : Bool) → begins_with p e.0 ≡ b → Some e ≡ first_entry (entries_above k m) → ◌≡◌ {A = Option Entry} None (cond b (Some (drop (length p) e.0, e.1)) None) → left_under p k m ≡ []
    at e true b first is = cc
    at e false b first is = stops m p k e pk first b

    go : (o : Option Entry) → o ≡ first_entry (entries_above k m) → None ≡ rest_under p o → left_under p k m ≡ []
    go None first is = ap (beginning p) (none_then m k first)
    go (Some e) first is = at e (begins_with p e.0) refl first is

-- what the next look-up adds is a part of what all add
next_le : (p k : List ℕ) (m : Content) → RisesBy (looks p k (entries_above k m)) no_looks (next_looks k m)
next_le p k m = go (entries_above k m)
  where
    go : (es : List Entry) → RisesBy (looks p k es) no_looks (look k (option_map (λ e. e.0) (first_entry es)))
    go [] = record { texts = omega arith; rows = omega arith; rules = omega arith }
    go (e ∷ es) = record { texts = omega arith; rows = omega arith; rules = omega arith }

module _ (p k : List ℕ) (m : Content) (found : List Entry) (old now new : Counts) (scanning : Scanning p k m found old now) where
  -- the look-up handed out an entry under the prefix
  stepped_on : (e : Entry) → begins_with p e.0 ≡ true → entries_above k m ≡ e ∷ entries_above e.0 m → RisesBy (next_looks k m) now new → Scanning p e.0 m (found ++ (drop (length p) e.0, e.1) ∷ []) old new
  stepped_on e b above added =
      let rest = looks p e.0 (entries_above e.0 m) in
      let all : looks p k (entries_above k m) ≡ plus (look k (Some e.0)) rest = ap (looks p k) above ∙ ap (λ (t : Bool). plus (look k (Some e.0)) (cond t rest no_looks)) b in
      let next : next_looks k m ≡ look k (Some e.0) = ap (λ (es : List Entry). look k (option_map (λ e. e.0) (first_entry es))) above in
      let rises = subst (λ (c : Counts). RisesBy c now new) next added in
      record {
        entries =
            append_assoc found ((drop (length p) e.0, e.1) ∷ []) (cut (length p) (left_under p e.0 m))
            ∙ ap (λ (t : Bool). found ++ cut (length p) (cond t (e ∷ left_under p e.0 m) (left_under p e.0 m))) (sym b)
            ∙ ap (λ (es : List Entry). found ++ cut (length p) (beginning p es)) (sym above) ∙ scanning.entries;
        texts = omega (arith, scanning.texts, rises.texts, ap (λ (c : Counts). c.texts) all);
        rows = omega (arith, scanning.rows, rises.rows, ap (λ (c : Counts). c.rows) all);
        rules = omega (arith, scanning.rules, rises.rules, ap (λ (c : Counts). c.rules) all);
      }

  pub scanning_more : (f : Entry) (k' : List ℕ) → Some f ≡ rest_under p (first_entry (entries_above k m)) → k' ≡ p ++ f.0 → RisesBy (next_looks k m) now new → Scanning p k' m (found ++ f ∷ []) old new
  scanning_more f k' is key added =
      let s = stepped p k m f is in
      let at : k' ≡ s.0.0 = key ∙ ap (λ (g : Entry). p ++ g.0) s.2 ∙ prefix_and_rest p s.0.0 s.1 in
      subst (λ (l : List ℕ). Scanning p l m (found ++ f ∷ []) old new) (sym at)
      (subst (λ (g : Entry). Scanning p s.0.0 m (found ++ g ∷ []) old new) (sym s.2) (stepped_on s.0 s.1 s.3 added))

  -- it handed out none
  pub scanning_ends : None ≡ rest_under p (first_entry (entries_above k m)) → begins_with p k ≡ true → found ≡ entries (tail p m)
  scanning_ends is pk = sym (append-nil found) ∙ ap (λ (es : List Entry). found ++ cut (length p) es) (sym (none_left p k m pk is)) ∙ scanning.entries ∙ sym (entries-tail p m)

  -- however it went
  pub scanning_rises : RisesBy (next_looks k m) now new → RisesBy (scan_looks p m) old new
  scanning_rises rises = let next = next_le p k m in record {
    texts = omega (arith, rises.texts, next.texts, scanning.texts);
    rows = omega (arith, rises.rows, next.rows, scanning.rows);
    rules = omega (arith, rises.rules, next.rules, scanning.rules);
  }

-- no look-up followed
pub scanning_short : (p k : List ℕ) (m : Content) (found : List Entry) (old now : Counts) → Scanning p k m found old now → RisesBy (scan_looks p m) old now
scanning_short p k m found old now scanning = record { texts = omega (arith, scanning.texts); rows = omega (arith, scanning.rows); rules = omega (arith, scanning.rules) }
