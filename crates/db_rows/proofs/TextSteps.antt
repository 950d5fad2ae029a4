-- Each text of a row is read once, and only those that are shown are kept.
use Rattle.std.proofs.Common.{◌≡◌, ◌<◌, ◌≤◌, ◌+◌, ℕ, suc, Bool, true, false, cond, eqb, eqb-true, eq-eqb, List, [], ◌∷◌, ◌++◌, length, get_or, Option, Some, None, refl, sym, ap, ◌∙◌, arith, append_assoc, append-nil}
use Rattle.std.specs.Prelude.{◌&&◌, ◌||◌, filter, is_none}
use Rattle.std.specs.List.{list_all, list_any}
use Rattle.std.specs.Map.{lookup}
use Rattle.std.proofs.lemmas.Bool.{and_from}
use Rattle.ct_base.specs.declared.lists.Value.{Value}
use Rattle.ct_keep.specs.KeeperViews.{Counts}
use Rattle.ct_keep.specs.Looks.{no_looks, RisesBy}
use Rattle.st_parse.specs.declared.statements.Cond.{Cond}
use Rattle.tb_table.specs.declared.columns.Column.{Column}
use Rattle.db_rows.specs.Checking.{cond_column}
use Rattle.db_rows.specs.Reading.{IsReadOf, one_text}
use Rattle.db_rows.specs.Sources.{source_of}
use Rattle.db_rows.specs.Texts.{KeepsTexts, RisesLeaving, conds_among, is_unread, reads_among, texts_alone, texts_among, texts_left, unread}
use Rattle.db_rows.specs.laws.Texts.{all_at, either_first, either_second, fewer_pass}
use Rattle.db_rows.specs.declared.reading.RowRead.{RowRead}
use Rattle.db_rows.proofs.LookSteps.{known_now}

-- ---- a text that is read

module _ (now before : ℕ → Bool) (p : ℕ) (ps : List ℕ) where
  fewer_here : (a b : Bool) → a ≡ false → b ≡ true → length (filter now ps) ≤ length (filter before ps)
      → length (cond a (p ∷ filter now ps) (filter now ps)) + 1 ≤ length (cond b (p ∷ filter before ps) (filter before ps))
  fewer_here true b read was rest = absurd (cc)
  fewer_here false true read was rest = omega (arith, rest)
  fewer_here false false read was rest = absurd (cc)

  fewer_later : (a b : Bool) → (a ≡ true → b ≡ true) → length (filter now ps) + 1 ≤ length (filter before ps)
      → length (cond a (p ∷ filter now ps) (filter now ps)) + 1 ≤ length (cond b (p ∷ filter before ps) (filter before ps))
  fewer_later true true one rest = omega (arith, rest)
  fewer_later true false one rest = let wrong : false ≡ true = one refl in absurd (cc)
  fewer_later false true one rest = omega (arith, rest)
  fewer_later false false one rest = rest

module _ (column : ℕ) (text : Option (List ℕ)) where
  -- what wasn't read after it wasn't before
  unread_before : (texts : List (ℕ × Option (List ℕ))) (c : ℕ) → is_unread (texts ++ (column, text) ∷ []) c ≡ true → is_unread texts c ≡ true
  unread_before [] c h = refl
  unread_before (x ∷ xs) c h = go (eqb c x.0) h (unread_before xs c)
    where
      go : (b : Bool) → is_none (cond b (Some x.1) (lookup (λ place. eqb c place) (xs ++ (column, text) ∷ []))) ≡ true
          → (is_unread (xs ++ (column, text) ∷ []) c ≡ true → is_unread xs c ≡ true) → is_none (cond b (Some x.1) (lookup (λ place. eqb c place) xs)) ≡ true
      go true h rest = h
      go false h rest = rest h

  -- where it was one of these columns' texts that weren't read, so many are fewer now
  one_fewer : (texts : List (ℕ × Option (List ℕ))) → lookup (λ place. eqb column place) texts ≡ None → (places : List ℕ) → list_any (λ place. eqb column place) places ≡ true
      → unread places (texts ++ (column, text) ∷ []) + 1 ≤ unread places texts
  one_fewer texts none [] among = cc
  one_fewer texts none (p ∷ ps) among = go (eqb column p) refl among (one_fewer texts none ps)
    where
      go : (b : Bool) → eqb column p ≡ b → (b || list_any (λ place. eqb column place) ps) ≡ true
          → (list_any (λ place. eqb column place) ps ≡ true → unread ps (texts ++ (column, text) ∷ []) + 1 ≤ unread ps texts)
          → unread (p ∷ ps) (texts ++ (column, text) ∷ []) + 1 ≤ unread (p ∷ ps) texts
      go true at among rest =
          let same : column ≡ p = eqb-true column p at in
          fewer_here (is_unread (texts ++ (column, text) ∷ [])) (is_unread texts) p ps (is_unread (texts ++ (column, text) ∷ []) p) (is_unread texts p)
          (ap (is_unread (texts ++ (column, text) ∷ [])) (sym same) ∙ ap is_none (known_now texts column text none))
          (ap (is_unread texts) (sym same) ∙ ap is_none none)
          (fewer_pass (is_unread (texts ++ (column, text) ∷ [])) (is_unread texts) (unread_before texts) ps)
      go false at among rest =
          fewer_later (is_unread (texts ++ (column, text) ∷ [])) (is_unread texts) p ps (is_unread (texts ++ (column, text) ∷ []) p) (is_unread texts p) (unread_before texts p) (rest among)

-- it was read, by one look-up
pub once_read : (places : List ℕ) (column : ℕ) (text : Option (List ℕ)) (texts now : List (ℕ × Option (List ℕ))) (old new : Counts) → now ≡ texts ++ (column, text) ∷ []
    → list_any (λ place. eqb column place) places ≡ true → lookup (λ place. eqb column place) texts ≡ None → RisesBy one_text old new
    → RisesLeaving (texts_alone (unread places texts)) (unread places now) old new
once_read places column text texts now old new pushed among none rises =
    let left = ap (λ (ts : List (ℕ × Option (List ℕ))). unread places ts) pushed in
    let fewer = one_fewer column text texts none places among in
    record { texts = omega (arith, rises.texts, left, fewer); rows = rises.rows; rules = rises.rules }

-- it couldn't be read, or kept
pub once_failed : (places : List ℕ) (column : ℕ) (texts : List (ℕ × Option (List ℕ))) (old new : Counts)
    → list_any (λ place. eqb column place) places ≡ true → lookup (λ place. eqb column place) texts ≡ None → RisesBy one_text old new
    → RisesLeaving (texts_alone (unread places texts)) 0 old new
once_failed places column texts old new among none rises =
    let fewer = one_fewer column None texts none places among in
    record { texts = omega (arith, rises.texts, fewer); rows = rises.rows; rules = rises.rules }

-- no text was read
pub none_read : (n left : ℕ) (old new : Counts) → left ≤ n → RisesBy no_looks old new → RisesLeaving (texts_alone n) left old new
none_read n left old new few rises = record { texts = omega (arith, rises.texts, few); rows = rises.rows; rules = rises.rules }

-- one of the conditions
pub cond_at : (places : List ℕ) (columns : List Column) (conds : List Cond) (i : ℕ) (c : Cond) → i < length conds → c ≡ get_or conds i c → conds_among places columns conds ≡ true
    → reads_among places (source_of (cond_column c) columns) ≡ true
cond_at places columns conds i c within at among = all_at (λ (d : Cond). reads_among places (source_of (cond_column d) columns)) conds i c within at among

-- ---- what is kept

module _ {X : Type 0} (p : X → Bool) where
  -- what is kept so far, with what is kept of the rest, is what is kept of all
  pub kept_more : (whole old rest kept next : List X) (x : X) (stays : Bool) → kept ++ filter p old ≡ whole → old ≡ x ∷ rest → stays ≡ p x → next ≡ kept ++ cond stays (x ∷ []) []
      → next ++ filter p rest ≡ whole
  kept_more whole old rest kept next x stays before is tested pushed =
      ap (λ (l : List X). l ++ filter p rest) pushed
      ∙ go stays
      ∙ ap (λ (b : Bool). kept ++ cond b (x ∷ filter p rest) (filter p rest)) tested
      ∙ ap (λ (l : List X). kept ++ filter p l) (sym is)
      ∙ before
    where
      go : (b : Bool) → (kept ++ cond b (x ∷ []) []) ++ filter p rest ≡ kept ++ cond b (x ∷ filter p rest) (filter p rest)
      go true = append_assoc kept (x ∷ []) (filter p rest)
      go false = ap (λ (l : List X). l ++ filter p rest) (append-nil kept)

  pub kept_all : (whole rest kept : List X) → kept ++ filter p rest ≡ whole → rest ≡ [] → kept ≡ whole
  kept_all whole rest kept so_far none = sym (append-nil kept) ∙ ap (λ (l : List X). kept ++ filter p l) (sym none) ∙ so_far

-- a text is looked up among those that are kept as among all, where it is of one of these columns
module _ (columns : List ℕ) where
  abbrev pub stays : ℕ → Bool
  stays column = list_any (λ other. eqb column other) columns

  kept_lookup : (texts : List (ℕ × Option (List ℕ))) (c : ℕ)
      → lookup (λ place. eqb c place) (texts_among columns texts) ≡ cond (stays c) (lookup (λ place. eqb c place) texts) None
  kept_lookup [] c = go (stays c)
    where
      go : (b : Bool) → ◌≡◌ {A = Option (Option (List ℕ))} None (cond b None None)
      go true = refl
      go false = refl
  kept_lookup (x ∷ xs) c = go (eqb c x.0) refl (stays x.0) refl (kept_lookup xs c)
    where
      go : (a : Bool) → eqb c x.0 ≡ a → (b : Bool) → stays x.0 ≡ b
          → lookup (λ place. eqb c place) (texts_among columns xs) ≡ cond (stays c) (lookup (λ place. eqb c place) xs) None
          → lookup (λ place. eqb c place) (cond b (x ∷ texts_among columns xs) (texts_among columns xs)) ≡ cond (stays c) (cond a (Some x.1) (lookup (λ place. eqb c place) xs)) None
      go true at true kept later =
          ap (λ (t : Bool). cond t (Some x.1) (lookup (λ place. eqb c place) (texts_among columns xs))) at
          ∙ sym (ap (λ (t : Bool). cond t (Some x.1) None) (ap stays (eqb-true c x.0 at) ∙ kept))
      go true at false kept later =
          let gone : stays c ≡ false = ap stays (eqb-true c x.0 at) ∙ kept in
          later
          ∙ ap (λ (t : Bool). cond t (lookup (λ place. eqb c place) xs) None) gone
          ∙ sym (ap (λ (t : Bool). cond t (Some x.1) None) gone)
      go false other true kept later = ap (λ (t : Bool). cond t (Some x.1) (lookup (λ place. eqb c place) (texts_among columns xs))) other ∙ later
      go false other false kept later = later

  from_kept : (b : Bool) (o : Option (Option (List ℕ))) (text : Option (List ℕ)) → cond b o None ≡ Some text → o ≡ Some text
  from_kept true o text is = is
  from_kept false o text is = absurd (cc)

  -- what is kept is the row's
  pub keeps_own : (vs : List Value) (old new : RowRead) → KeepsTexts columns old new → IsReadOf vs old → IsReadOf vs new
  keeps_own vs old new keeps own = record {
    numbers = rw keeps.numbers own.numbers;
    texts = λ c text found. own.texts c text (from_kept (stays c) _ text (sym (kept_lookup old.texts.items c) ∙ sym (ap (lookup (λ place. eqb c place)) keeps.texts) ∙ found));
  }

  same_unread : (texts : List (ℕ × Option (List ℕ))) (cs : List ℕ) → list_all stays cs ≡ true → unread cs (texts_among columns texts) ≡ unread cs texts
  same_unread texts [] each = refl
  same_unread texts (c ∷ cs) each = go (stays c) refl each (same_unread texts cs)
    where
      one : (t : Bool) (some all : List ℕ) → length some ≡ length all → length (cond t (c ∷ some) some) ≡ length (cond t (c ∷ all) all)
      one true some all same = ap suc same
      one false some all same = same

      go : (b : Bool) → stays c ≡ b → (b && list_all stays cs) ≡ true → (list_all stays cs ≡ true → unread cs (texts_among columns texts) ≡ unread cs texts)
          → unread (c ∷ cs) (texts_among columns texts) ≡ unread (c ∷ cs) texts
      go true stay each rest =
          let some = filter (is_unread (texts_among columns texts)) cs in
          let here : is_unread (texts_among columns texts) c ≡ is_unread texts c = ap is_none (kept_lookup texts c ∙ ap (λ (t : Bool). cond t (lookup (λ place. eqb c place) texts) None) stay) in
          ap (λ (t : Bool). length (cond t (c ∷ some) some)) here ∙ one (is_unread texts c) some (filter (is_unread texts) cs) (rest each)
      go false gone each rest = absurd (cc)

  each_in : (cs : List ℕ) → ((c : ℕ) → list_any (λ other. eqb c other) cs ≡ true → stays c ≡ true) → list_all stays cs ≡ true
  each_in [] stay = refl
  each_in (c ∷ cs) stay =
      and_from _ _ (stay c (either_first (eqb c c) _ (eq-eqb c c refl)))
      (each_in cs (λ d is. stay d (either_second (eqb d c) _ is)))

  each_stays : list_all stays columns ≡ true
  each_stays = each_in columns (λ c is. is)

  -- of these columns as many texts are left
  pub keeps_left : (old new : RowRead) → KeepsTexts columns old new → texts_left columns new ≡ texts_left columns old
  keeps_left old new keeps = ap (λ (ts : List (ℕ × Option (List ℕ))). unread columns ts) keeps.texts ∙ same_unread old.texts.items columns each_stays
