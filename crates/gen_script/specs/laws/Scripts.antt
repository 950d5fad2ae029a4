-- What holds of the statements of scripts.
use Rattle.std.specs.Prelude.{ℕ, ◌≡◌, ◌+◌, zero, suc, List, [], ◌∷◌, ◌++◌, length, map, refl}
use Rattle.std.proofs.Common.{ap, arith, append-nil, append_assoc, length-append, sym, ◌∙◌}
use Rattle.std.specs.List.{range_with_len}
use Rattle.gen_script.specs.Scripts.{all_ended, ended, script}
use Rattle.gen_script.specs.Statements.{insert_of, optimize, queries, setup, statements, sync}

-- all of them are the first ones and then the others
pub all_ended-append : (ss ts : List (List ℕ)) → all_ended (ss ++ ts) ≡ all_ended ss ++ all_ended ts
all_ended-append [] ts = refl
all_ended-append (s ∷ ss) ts = ap (λ x. ended s ++ x) (all_ended-append ss ts) ∙ sym (append_assoc (ended s) (all_ended ss) (all_ended ts))

module _ (f : ℕ → List ℕ) where
  pub each_length : (a n : ℕ) → length (map f (range_with_len a n)) ≡ n
  each_length a zero = refl
  each_length a (suc n) = ap suc (each_length (a + 1) n)

  -- one number more
  each_more : (a n : ℕ) → map f (range_with_len a (suc n)) ≡ map f (range_with_len a n) ++ f (a + n) ∷ []
  each_more a zero = let e : a ≡ a + 0 = omega arith in ap (λ (k : ℕ). f k ∷ []) e
  each_more a (suc n) =
      let e : (a + 1) + n ≡ a + suc n = omega arith in
      ap (λ (x : List (List ℕ)). f a ∷ x) (each_more (a + 1) n) ∙ ap (λ (k : ℕ). f a ∷ (map f (range_with_len (a + 1) n) ++ f k ∷ [])) e

  -- what was put for the first n numbers, with what is put for the next
  pub put_more : (out old more : List ℕ) (a n k : ℕ) → k ≡ a + n → out ≡ old ++ all_ended (map f (range_with_len a n)) → more ≡ out ++ ended (f k)
      → more ≡ old ++ all_ended (map f (range_with_len a (n + 1)))
  put_more out old more a n k next so push =
      let done = all_ended (map f (range_with_len a n)) in
      let e : suc n ≡ n + 1 = omega arith in
      push ∙ ap (λ (x : List ℕ). x ++ ended (f k)) so ∙ append_assoc old done (ended (f k))
      ∙ ap (λ (x : List ℕ). old ++ (done ++ x)) (sym (append-nil (ended (f k))) ∙ ap (λ (j : ℕ). ended (f j) ++ []) next)
      ∙ ap (λ (x : List ℕ). old ++ x) (sym (all_ended-append (map f (range_with_len a n)) (f (a + n) ∷ [])))
      ∙ ap (λ (x : List (List ℕ)). old ++ all_ended x) (sym (each_more a n))
      ∙ ap (λ (j : ℕ). old ++ all_ended (map f (range_with_len a j))) e

abbrev first_round : List (List ℕ)
first_round = sync ∷ queries

abbrev second_round : List (List ℕ)
second_round = optimize ∷ queries

pub statement_count : (n : ℕ) → length (statements n) ≡ n + 22
statement_count n =
    let rows = map insert_of (range_with_len 1 n) in
    let begin : length (setup ++ rows) ≡ 4 + length rows = length-append setup rows in
    let then_first : length (setup ++ rows ++ first_round) ≡ length (setup ++ rows) + 9 = length-append (setup ++ rows) first_round in
    let then_second : length (statements n) ≡ length (setup ++ rows ++ first_round) + 9 = length-append (setup ++ rows ++ first_round) second_round in
    then_second ∙ (let r = each_length insert_of 1 n in omega (arith, then_first, begin, r))

-- the parts of a script, one after the other
pub parts_put : (begin rows sync round full a b c d e whole : List ℕ) → a ≡ begin → b ≡ a ++ rows → c ≡ b ++ sync → d ≡ c ++ round → e ≡ d ++ full → whole ≡ e ++ round
    → whole ≡ ((begin ++ rows) ++ (sync ++ round)) ++ (full ++ round)
parts_put begin rows sync round full a b c d e whole p q r s t u =
    let synced = s ∙ ap (λ (x : List ℕ). x ++ round) (r ∙ ap (λ (x : List ℕ). x ++ sync) (q ∙ ap (λ (x : List ℕ). x ++ rows) p)) ∙ append_assoc (begin ++ rows) sync round in
    u ∙ ap (λ (x : List ℕ). x ++ round) (t ∙ ap (λ (x : List ℕ). x ++ full) synced) ∙ append_assoc ((begin ++ rows) ++ (sync ++ round)) full round

pub script_parts : (n : ℕ) → ((all_ended setup ++ all_ended (map insert_of (range_with_len 1 n))) ++ (ended sync ++ all_ended queries)) ++ (ended optimize ++ all_ended queries) ≡ script n
script_parts n =
    let rows = map insert_of (range_with_len 1 n) in
    sym (all_ended-append (setup ++ rows ++ first_round) second_round
    ∙ ap (λ (x : List ℕ). x ++ all_ended second_round) (all_ended-append (setup ++ rows) first_round ∙ ap (λ (x : List ℕ). x ++ all_ended first_round) (all_ended-append setup rows)))
