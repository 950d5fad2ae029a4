-- A batch, read item by item.
use Rattle.std.specs.Prelude.{nat_eq, Bool, true, false, IsErr, IfOk, Result, Ok, Err, None}
use Rattle.std.specs.Cmp.Lexicographic.{pointwise, same_text}
use Rattle.std.proofs.lemmas.Bool.{false≢true}
use Rattle.std.proofs.Common.{◌≡◌, ◌≢◌, ℕ, zero, suc, ◌+◌, ◌-◌, ◌*◌, ◌≤◌, ◌<◌, List, [], ◌∷◌, ◌++◌, length, take, drop, Option, Some, refl, sym, ap, subst, ◌∙◌, arith, length-drop, length-append}
use Rattle.std.proofs.lemmas.List.{length-take-le}
use Rattle.pg_journal.specs.Pages.{page, number_in, Numbered, Has, AreBetween, put_on, homes_in, IsRoot}
use Rattle.pg_journal.proofs.Pages.{has_between}
use Rattle.ct_base.specs.Zeros.{zeros}
use Rattle.ct_base.specs.laws.Lists.{same_as_itself}
use Rattle.pg_journal.specs.Recovered.{batch_page, batch_count, number_pages, filling, table, numbered_at, batch_in, gate, IsOpen, IsOpened}
use Rattle.pg_journal.specs.Looking.{IsRead, ArePagesOr, IsBatchOr, IsFilledOr, AreZeros, IsRootOr, IsOpenedOr}

pub table_more : (f : ℕ → Numbered) (i n : ℕ) → table f i (n + 1) ≡ table f i n ++ f (i + n) ∷ []
table_more f i zero = let e : i ≡ i + 0 = omega arith in ap (λ (k : ℕ). f k ∷ []) e
table_more f i (suc n) =
    let e : suc n + 1 ≡ suc (n + 1) = omega arith in
    let at : suc i + n ≡ i + suc n = omega arith in
    ap (λ (k : ℕ). table f i k) e ∙ ap (λ (l : List Numbered). f i ∷ l) (table_more f (suc i) n) ∙ ap (λ (k : ℕ). f i ∷ (table f (suc i) n ++ f k ∷ [])) at

pub read_none : (image : List ℕ) (count : ℕ) → IsRead image count 2 0 []
read_none image count = record {
  is = refl;
  onward = λ rest between. let e : rest ≡ 0 + rest = omega arith in subst (λ (n : ℕ). AreBetween 2 (batch_page image) (table (numbered_at image) 0 n)) e between;
  back = λ rest sum between. let e : count ≡ rest = omega (arith, sum) in subst (λ (n : ℕ). AreBetween 2 (batch_page image) (table (numbered_at image) 0 n)) e between;
}

pub read_step : (image : List ℕ) (count low i n : ℕ) (items : List Numbered) (bytes : List ℕ) → IsRead image count low i items → i < count → low ≤ n → n < batch_page image
    → n ≡ number_in image (4096 * batch_page image + 4 * i) → bytes ≡ page image (batch_page image + number_pages (batch_count image) + i) → length bytes ≡ 4096
    → IsRead image count (n + 1) (i + 1) (items ++ (n, bytes) ∷ [])
read_step image count low i n items bytes r less least below number_is page_is long =
    let item : (n, bytes) ≡ numbered_at image i = ap (λ (m : ℕ). (m, bytes)) number_is ∙ ap (λ (l : List ℕ). (number_in image (4096 * batch_page image + 4 * i), l)) page_is in
    let up : i + 1 ≡ suc i = omega arith in
    let one : n + 1 ≡ suc (numbered_at image i).0 = omega (arith, number_is) in
    record {
      is =
          ap (λ (w : Numbered). items ++ w ∷ []) item ∙ ap (λ (l : List Numbered). l ++ numbered_at image i ∷ []) r.is
          ∙ sym (table_more (numbered_at image) 0 i ∙ ap (λ (k : ℕ). table (numbered_at image) 0 i ++ numbered_at image k ∷ []) (omega arith));
      onward = λ rest between.
          let e : i + suc rest ≡ i + 1 + rest = omega arith in
          subst (λ (k : ℕ). AreBetween 2 (batch_page image) (table (numbered_at image) 0 k)) e
          (r.onward (suc rest) (
            omega (arith, least, number_is),
            omega (arith, below, number_is),
            ap (λ (w : Numbered). length w.1) (sym item) ∙ long,
            subst (λ (k : ℕ). AreBetween k (batch_page image) (table (numbered_at image) (suc i) rest)) one (subst (λ (k : ℕ). AreBetween (n + 1) (batch_page image) (table (numbered_at image) k rest)) up between),
          ));
      back = λ rest sum between.
          subst (λ (k : ℕ). AreBetween (n + 1) (batch_page image) (table (numbered_at image) k rest)) (sym up)
          (subst (λ (k : ℕ). AreBetween k (batch_page image) (table (numbered_at image) (suc i) rest)) (sym one) (r.back (suc rest) (omega (arith, sum)) between).3);
    }

pub read_all : (image : List ℕ) (count low i : ℕ) (ps : List Numbered) → IsRead image count low i ps → i ≡ count → count ≡ batch_count image → ArePagesOr (Some ps) image
read_all image count low i ps r done is =
    let e : i + 0 ≡ batch_count image = omega (arith, done, is) in
    (subst (λ (k : ℕ). AreBetween 2 (batch_page image) (table (numbered_at image) 0 k)) e (r.onward 0 tt), sym (r.is ∙ ap (λ (k : ℕ). table (numbered_at image) 0 k) (done ∙ is)))

module _ (image : List ℕ) (count low i n : ℕ) (items : List Numbered) (r : IsRead image count low i items) (less : i < count) (is : count ≡ batch_count image) (number_is : n ≡ number_in image (4096 * batch_page image + 4 * i)) where
  here : AreBetween 2 (batch_page image) (batch_in image) → AreBetween low (batch_page image) (table (numbered_at image) i (suc (count - suc i)))
  here between = r.back (suc (count - suc i)) (omega (arith, less)) (subst (λ (k : ℕ). AreBetween 2 (batch_page image) (table (numbered_at image) 0 k)) (sym is) between)

  pub too_low : n < low → AreBetween 2 (batch_page image) (batch_in image) → ⊥
  too_low under between = omega (arith, under, number_is, (here between).0)

  pub too_high : batch_page image ≤ n → AreBetween 2 (batch_page image) (batch_in image) → ⊥
  too_high over between = omega (arith, over, number_is, (here between).1)

pub page_long : (place count i : ℕ) (image : List ℕ) → 4096 * (place + number_pages count + count) ≤ length image → i < count → length (page image (place + number_pages count + i)) ≡ 4096
page_long place count i image inside less = length-take-le 4096 (drop (4096 * (place + number_pages count + i)) image) (omega (arith, inside, less, length-drop (4096 * (place + number_pages count + i)) image))

-- ---- the zeros behind the numbers

pub ok_of_err : {T E : Type 0} (r : Result T E) (P : T → Type 0) → IsErr r → IfOk r P
ok_of_err (Ok x) P err = absurd (false≢true err)
ok_of_err (Err e) P err = tt

pub are_zeros : (r : Bool) (bytes zs : List ℕ) (n : ℕ) → r ≡ pointwise nat_eq bytes zs → zs ≡ zeros n → AreZeros r n bytes
are_zeros true bytes zs n eq none = same_text bytes zs eq ∙ none
are_zeros false bytes zs n eq none = λ is. false≢true (eq ∙ ap (pointwise nat_eq bytes) (none ∙ sym is) ∙ same_as_itself bytes)

pub is_filled : (r : Bool) (image : List ℕ) (place count : ℕ) → AreZeros r (filling count) (take (filling count) (drop (4096 * place + 4 * count) image)) → place ≡ batch_page image → count ≡ batch_count image → IsFilledOr r image
is_filled true image place count is at counted =
    subst (λ (n : ℕ). take (filling n) (drop (4096 * batch_page image + 4 * n) image) ≡ zeros (filling n)) counted
    (subst (λ (p : ℕ). take (filling count) (drop (4096 * p + 4 * count) image) ≡ zeros (filling count)) at is)
is_filled false image place count is at counted =
    subst (λ (n : ℕ). take (filling n) (drop (4096 * batch_page image + 4 * n) image) ≢ zeros (filling n)) counted
    (subst (λ (p : ℕ). take (filling count) (drop (4096 * p + 4 * count) image) ≢ zeros (filling count)) at is)

-- ---- the whole batch

pub not_filled : (r : Bool) (image : List ℕ) → IsFilledOr r image → r ≡ false → IsOpen image → ⊥
not_filled r image filled is open_ = subst (λ (b : Bool). IsFilledOr b image) is filled open_.filling

pub found_batch : (found : Option (List Numbered)) (r : Bool) (image : List ℕ) (place count size : ℕ) → gate image ≡ 1 → place ≡ batch_page image → count ≡ batch_count image → size ≡ length image → count ≢ 0
    → 4096 * (place + number_pages count + count) ≤ size → IsFilledOr r image → r ≡ true → ArePagesOr found image → IsBatchOr found image
found_batch (Some pages) r image place count size open_ at counted sized some inside filled is p = (
  record {
    gate = open_;
    some = omega (arith, some, counted);
    inside = subst (λ (n : ℕ). 4096 * (batch_page image + number_pages n + n) ≤ length image) counted
        (subst (λ (q : ℕ). 4096 * (q + number_pages count + count) ≤ length image) at (omega (arith, inside, sized)));
    numbers = p.0;
    filling = subst (λ (b : Bool). IsFilledOr b image) is filled;
  },
  p.1,
)
found_batch None r image place count size open_ at counted sized some inside filled is p = λ o. p o.numbers

-- ---- a store whose gate is open

pub no_batch : (found : Option (List Numbered)) (image : List ℕ) → IsBatchOr found image → found ≡ None → (pages : List (List ℕ)) → IsOpened image pages → ⊥
no_batch None image is none pages opened = is opened.is_open
no_batch (Some ws) image is none pages opened = absurd (cc none)

pub batch_of : (found : Option (List Numbered)) (ws : List Numbered) (image : List ℕ) → IsBatchOr found image → found ≡ Some ws → IsBatchOr (Some ws) image
batch_of found ws image is some = subst (λ (o : Option (List Numbered)). IsBatchOr o image) some is

-- what its root tells
module _ (ws : List Numbered) (image root : List ℕ) (batch : IsBatchOr (Some ws) image) (put : (end : ℕ) → AreBetween 2 end ws → root ≡ put_on ws (page image) 2) where
  root_is : root ≡ put_on ws (page image) 2
  root_is = put (batch_page image) (subst (λ (l : List Numbered). AreBetween 2 (batch_page image) l) batch.1 batch.0.numbers)

  moved : (pages : List (List ℕ)) → IsOpened image pages → IsRoot root × (homes_in root ≤ batch_page image)
  moved pages opened =
      let e : put_on (batch_in image) (page image) 2 ≡ root = ap (λ (l : List Numbered). put_on l (page image) 2) batch.1 ∙ sym root_is in
      (subst IsRoot e opened.root, omega (arith, ap (λ (l : List ℕ). homes_in l) e, opened.inside))

  pub no_root : (found : Option ℕ) → IsRootOr found root → found ≡ None → (pages : List (List ℕ)) → IsOpened image pages → ⊥
  no_root None not none pages opened = not (moved pages opened).0
  no_root (Some h) not none pages opened = absurd (cc none)

  root_of : (found : Option ℕ) (h : ℕ) → IsRootOr found root → found ≡ Some h → IsRoot root × (h ≡ homes_in root)
  root_of found h r some = subst (λ (x : Option ℕ). IsRootOr x root) some r

  pub root_too_far : (found : Option ℕ) (h place : ℕ) → IsRootOr found root → found ≡ Some h → place ≡ batch_page image → place < h → (pages : List (List ℕ)) → IsOpened image pages → ⊥
  root_too_far found h place r some at far pages opened = let count = (root_of found h r some).1 in omega (arith, far, count, at, (moved pages opened).1)

  pub found_opened : (found : Option ℕ) (h place : ℕ) → IsRootOr found root → found ≡ Some h → place ≡ batch_page image → h ≤ place → IsOpenedOr (Some (ws, h)) image
  found_opened found h place r some at near =
      let is = root_of found h r some in
      (batch.0, batch.1, subst IsRoot root_is is.0, is.1 ∙ ap (λ (l : List ℕ). homes_in l) root_is, omega (arith, near, at))

-- ---- one page more in the batch

pub between_last : (low end : ℕ) (ws : List Numbered) (w : Numbered) → AreBetween low end ws → low ≤ w.0 → end ≤ w.0 → length w.1 ≡ 4096 → AreBetween low (w.0 + 1) (ws ++ w ∷ [])
between_last low end [] w between least above long = (least, omega arith, long, tt)
between_last low end (v ∷ vs) w between least above long = (between.0, omega (arith, between.1, above), between.2, between_last (suc v.0) end vs w between.3 (omega (arith, between.1, above)) above long)

pub none_above : (low end : ℕ) (ws : List Numbered) (n : ℕ) → AreBetween low end ws → end ≤ n → Has ws n → ⊥
none_above low end ws n between above has = let b = has_between low end ws n between has in omega (arith, b.1, above)

pub count_last : (ws : List Numbered) (w : Numbered) → length (ws ++ w ∷ []) ≡ length ws + 1
count_last ws w = length-append ws (w ∷ [])
