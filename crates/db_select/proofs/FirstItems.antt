-- The items of an order without those that name what one before them names.
use Rattle.std.proofs.Common.{◌≡◌, ℕ, Bool, true, false, cond, List, [], ◌∷◌, ◌++◌, refl, sym, ap, ◌∙◌, append_assoc}
use Rattle.std.specs.Prelude.{◌==◌, ◌&&◌, ◌||◌, not, filter}
use Rattle.std.specs.List.{list_any}
use Rattle.std.proofs.lemmas.Bool.{and_parts, eqb-true}
use Rattle.ct_entry.specs.Keys.{same_list}
use Rattle.st_parse.specs.declared.statements.Item.{Item}
use Rattle.st_parse.specs.declared.statements.Item.TheVariants.{Column as ColumnItem, Score}
use Rattle.st_parse.specs.declared.statements.OrderItem.{OrderItem}
use Rattle.db_select.specs.Choosing.{first_items, is_repeated, same_item}
use Rattle.db_select.proofs.AskedLaws.{filter_both}

-- ---- what names the same

list_is : (xs ys : List ℕ) → same_list xs ys ≡ true → xs ≡ ys
list_is [] [] same = refl
list_is [] (y ∷ ys) same = cc
list_is (x ∷ xs) [] same = cc
list_is (x ∷ xs) (y ∷ ys) same =
    let both = and_parts (x == y) (same_list xs ys) same in
    λ i. eqb-true x y both.0 i ∷ list_is xs ys both.1 i

alike : (a b c : Item) → same_item b c ≡ true → same_item a b ≡ same_item a c
alike (ColumnItem a) (ColumnItem b) (ColumnItem c) same = ap (same_list a) (list_is b c same)
alike (Score a) (ColumnItem b) (ColumnItem c) same = refl
alike (ColumnItem a) (Score b) (Score c) same = refl
alike (Score a) (Score b) (Score c) same = refl
alike a (ColumnItem b) (Score c) same = cc
alike a (Score b) (ColumnItem c) same = cc

repeated_alike : (out : List OrderItem) (o p : OrderItem) → same_item o.item p.item ≡ true → is_repeated out o ≡ is_repeated out p
repeated_alike out o p same = λ i. list_any (λ (q : OrderItem). alike q.item o.item p.item same i) out

-- ---- one item more

repeated_behind : (out : List OrderItem) (o p : OrderItem) → is_repeated (out ++ o ∷ []) p ≡ (is_repeated out p || same_item o.item p.item)
repeated_behind [] o p = or_false (same_item o.item p.item)
  where
    or_false : (b : Bool) → (b || false) ≡ b
    or_false true = refl
    or_false false = refl
repeated_behind (q ∷ out) o p = go (same_item q.item p.item) (repeated_behind out o p)
  where
    go : (b : Bool) → is_repeated (out ++ o ∷ []) p ≡ (is_repeated out p || same_item o.item p.item)
        → (b || is_repeated (out ++ o ∷ []) p) ≡ ((b || is_repeated out p) || same_item o.item p.item)
    go true rest = refl
    go false rest = rest

-- those of the others that none of these names, nor one before them
abbrev pub still_first : List OrderItem → List OrderItem → List OrderItem
still_first out orders = filter (λ p. not (is_repeated out p)) (first_items orders)

module _ (out rest : List OrderItem) (o : OrderItem) where
  abbrev behind : List OrderItem
  behind = filter (λ p. not (is_repeated out p)) (filter (λ p. not (same_item o.item p.item)) (first_items rest))

  both : (p : OrderItem) → (not (same_item o.item p.item) && not (is_repeated out p)) ≡ not (is_repeated (out ++ o ∷ []) p)
  both p = go (same_item o.item p.item) (is_repeated out p) ∙ ap not (sym (repeated_behind out o p))
    where
      go : (a b : Bool) → (not a && not b) ≡ not (b || a)
      go true true = refl
      go true false = refl
      go false true = refl
      go false false = refl

  -- it is put behind them
  pub item_put : is_repeated out o ≡ false → out ++ still_first out (o ∷ rest) ≡ (out ++ o ∷ []) ++ still_first (out ++ o ∷ []) rest
  item_put new =
      ap (λ (b : Bool). out ++ cond (not b) (o ∷ behind) behind) new
      ∙ sym (append_assoc out (o ∷ []) behind)
      ∙ ap (λ (l : List OrderItem). (out ++ o ∷ []) ++ l)
      (sym (filter_both (λ (p : OrderItem). not (same_item o.item p.item)) (λ (p : OrderItem). not (is_repeated out p)) (first_items rest))
      ∙ λ i. filter (λ (p : OrderItem). both p i) (first_items rest))

  each_passed : is_repeated out o ≡ true → (p : OrderItem) → (not (same_item o.item p.item) && not (is_repeated out p)) ≡ not (is_repeated out p)
  each_passed there p = go (same_item o.item p.item) refl
    where
      go : (b : Bool) → same_item o.item p.item ≡ b → (not b && not (is_repeated out p)) ≡ not (is_repeated out p)
      go true same = sym (ap not (sym (repeated_alike out o p same) ∙ there))
      go false same = refl

  -- it is passed over
  pub item_passed : is_repeated out o ≡ true → still_first out (o ∷ rest) ≡ still_first out rest
  item_passed there =
      ap (λ (b : Bool). cond (not b) (o ∷ behind) behind) there
      ∙ sym (filter_both (λ (p : OrderItem). not (same_item o.item p.item)) (λ (p : OrderItem). not (is_repeated out p)) (first_items rest))
      ∙ λ i. filter (λ (p : OrderItem). each_passed there p i) (first_items rest)

-- ---- the loop

all_first : (xs : List OrderItem) → filter (λ p. not (is_repeated [] p)) xs ≡ xs
all_first [] = refl
all_first (x ∷ xs) = ap (λ (l : List OrderItem). x ∷ l) (all_first xs)

pub none_yet : (out orders : List OrderItem) → out ≡ [] → out ++ still_first out orders ≡ first_items orders
none_yet out orders none = ap (λ (l : List OrderItem). l ++ still_first l orders) none ∙ all_first (first_items orders)

-- one that was put, and one that was passed over; what is left are `rest`
pub one_put : (out more left rest : List OrderItem) (o : OrderItem) (whole : List OrderItem) → left ≡ o ∷ rest → is_repeated out o ≡ false → more ≡ out ++ o ∷ []
    → out ++ still_first out left ≡ whole → more ++ still_first more rest ≡ whole
one_put out more left rest o whole is new pushed before =
    ap (λ (l : List OrderItem). l ++ still_first l rest) pushed ∙ sym (item_put out rest o new) ∙ ap (λ (l : List OrderItem). out ++ still_first out l) (sym is) ∙ before

pub one_passed : (out left rest : List OrderItem) (o : OrderItem) (whole : List OrderItem) → left ≡ o ∷ rest → is_repeated out o ≡ true
    → out ++ still_first out left ≡ whole → out ++ still_first out rest ≡ whole
one_passed out left rest o whole is there before =
    ap (λ (l : List OrderItem). out ++ l) (sym (item_passed out rest o there)) ∙ ap (λ (l : List OrderItem). out ++ still_first out l) (sym is) ∙ before
