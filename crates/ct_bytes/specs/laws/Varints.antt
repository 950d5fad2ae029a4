-- What holds of every varint and of every text after its length.
use Rattle.std.proofs.Common.{◌≡◌, ℕ, zero, suc, ◌+◌, ◌-◌, ◌/◌, ◌%◌, ◌<◌, ◌≤◌, List, [], ◌∷◌, ◌++◌, length, take, drop, refl, sym, ap, ◌∙◌, inl, inr, add_assoc, append_assoc, length-append, length-drop, arith}
use Rattle.std.proofs.lemmas.Bool.{lt-ltb, le-ltb, cases_lt}
use Rattle.std.proofs.lemmas.List.{drop-drop, drop_at, take-append-drop}
use Rattle.ct_base.specs.laws.Lists.{cons_parts, append_parts}
use Rattle.ct_bytes.specs.Promises.{NoVarintBeginsAnother, PlacesHaveOneVarint, VarintsAreReadBack, NoTextBeginsAnother, PlacesHaveOneText, TextsAreReadBack}
use Rattle.ct_bytes.specs.Varints.{varint, varint_in, text_bytes, IsVarintAt, IsTextAt}

-- ---- varints

-- a number below 128 is its last byte, and any other has the low seven bits first
pub varint_last : (more n : ℕ) → n < 128 → varint_in more n ≡ n ∷ []
varint_last zero n small = refl
varint_last (suc more) n small = rw (lt-ltb n 128 small) refl

pub varint_more : (more n : ℕ) → 128 ≤ n → varint_in (suc more) n ≡ (128 + n % 128) ∷ varint_in more (n / 128)
varint_more more n large = rw (le-ltb n 128 large) refl

-- the same bytes, by what each number is known to spell
spelt_as : (a b x y r s : List ℕ) → a ≡ x → b ≡ y → a ++ r ≡ b ++ s → x ++ r ≡ y ++ s
spelt_as a b x y r s p q e = cc

pub varint_in_apart : (more m n : ℕ) (r s : List ℕ) → varint_in more m ++ r ≡ varint_in more n ++ s → (m ≡ n) × (r ≡ s)
varint_in_apart zero m n r s e = cons_parts m n r s e
varint_in_apart (suc more) m n r s e = elim (cases_lt m 128) [
  | inl m_last ↦ elim (cases_lt n 128) [
    | inl n_last ↦ cons_parts m n r s (spelt_as _ _ _ _ r s (varint_last (suc more) m m_last) (varint_last (suc more) n n_last) e)
    | inr n_more ↦ absurd (let h = cons_parts _ _ _ _ (spelt_as _ _ _ _ r s (varint_last (suc more) m m_last) (varint_more more n n_more) e) in omega (arith, h.0))
  ]
  | inr m_more ↦ elim (cases_lt n 128) [
    | inl n_last ↦ absurd (let h = cons_parts _ _ _ _ (spelt_as _ _ _ _ r s (varint_more more m m_more) (varint_last (suc more) n n_last) e) in omega (arith, h.0))
    | inr n_more ↦
        let h = cons_parts _ _ _ _ (spelt_as _ _ _ _ r s (varint_more more m m_more) (varint_more more n n_more) e) in
        let t = varint_in_apart more (m / 128) (n / 128) r s h.1 in
        (omega (arith, h.0, t.0), t.1)
  ]
]

pub varint_apart : NoVarintBeginsAnother
unfolding varint
varint_apart m n r s e = varint_in_apart 4 m n r s e

varint_in_length : (more n : ℕ) → length (varint_in more n) ≤ suc more
varint_in_length zero n = omega arith
varint_in_length (suc more) n = elim (cases_lt n 128) [
  | inl last ↦ rw (varint_last (suc more) n last) (omega arith)
  | inr large ↦ rw (varint_more more n large) (let rest = varint_in_length more (n / 128) in omega arith)
]

pub varint_length : (n : ℕ) → length (varint n) ≤ 5
unfolding varint
varint_length n = varint_in_length 4 n

varint_in_some : (more n : ℕ) → 0 < length (varint_in more n)
varint_in_some zero n = omega arith
varint_in_some (suc more) n = elim (cases_lt n 128) [
  | inl last ↦ rw (varint_last (suc more) n last) (omega arith)
  | inr large ↦ rw (varint_more more n large) (omega arith)
]

pub varint_some : (n : ℕ) → 0 < length (varint n)
unfolding varint
varint_some n = varint_in_some 4 n

-- a varint stands within the bytes
pub varint_within : (bytes : List ℕ) (at n next : ℕ) → IsVarintAt bytes at n next → (at < next) × (next ≤ length bytes)
varint_within bytes at n next is =
    let long : length bytes - at ≡ length (varint n) + (length bytes - next) = sym (length-drop at bytes) ∙ ap length is.spelt ∙ length-append (varint n) (drop next bytes) ∙ ap (λ k. length (varint n) + k) (length-drop next bytes) in
    (omega (arith, is.end, varint_some n), omega (arith, is.end, varint_some n, long))

pub varint_at_one : PlacesHaveOneVarint
varint_at_one bytes at m i n j first second =
    let same = varint_apart m n (drop i bytes) (drop j bytes) (sym first.spelt ∙ second.spelt) in
    (same.0, first.end ∙ ap (λ k. at + length (varint k)) same.0 ∙ sym second.end)

pub varint_placed : VarintsAreReadBack
varint_placed prefix rest n small = record {
  small = small;
  spelt =
      ap (drop (length prefix)) (append_assoc prefix (varint n) rest) ∙ drop_at prefix (varint n ++ rest) (length prefix) refl ∙
      ap (λ x. varint n ++ x) (sym (drop_at (prefix ++ varint n) rest (length prefix + length (varint n)) (length-append prefix (varint n))));
  end = refl;
}

-- ---- texts

pub text_apart : NoTextBeginsAnother
text_apart a b r s e =
    let parts = varint_apart (length a) (length b) (a ++ r) (b ++ s) (sym (append_assoc (varint (length a)) a r) ∙ e ∙ append_assoc (varint (length b)) b s) in
    append_parts a b r s parts.0 parts.1

-- a text's length is the varint that stands there
pub text_length_at : (bytes : List ℕ) (at : ℕ) (text : List ℕ) (next : ℕ) → IsTextAt bytes at text next → IsVarintAt bytes at (length text) (at + length (varint (length text)))
text_length_at bytes at text next is = record {
  small = is.small;
  spelt = is.spelt ∙ append_assoc (varint (length text)) text (drop next bytes) ∙ ap (λ x. varint (length text) ++ x) (sym end);
  end = refl;
}
  where
    end : drop (at + length (varint (length text))) bytes ≡ text ++ drop next bytes
    end =
        sym (drop-drop (length (varint (length text))) at bytes) ∙
        ap (drop (length (varint (length text)))) (is.spelt ∙ append_assoc (varint (length text)) text (drop next bytes)) ∙
        drop_at (varint (length text)) (text ++ drop next bytes) (length (varint (length text))) refl

pub text_within : (bytes : List ℕ) (at : ℕ) (text : List ℕ) (next : ℕ) → IsTextAt bytes at text next → (at < next) × (next ≤ length bytes)
text_within bytes at text next is =
    let long : length bytes - at ≡ length (varint (length text)) + length text + (length bytes - next) =
    sym (length-drop at bytes) ∙ ap length is.spelt ∙ length-append (varint (length text) ++ text) (drop next bytes) ∙
    ap (λ k. k + length (drop next bytes)) (length-append (varint (length text)) text) ∙
    ap (λ k. length (varint (length text)) + length text + k) (length-drop next bytes) in
    let some = varint_some (length text) in
    (omega (arith, is.end, some), omega (arith, is.end, some, long))

pub text_at_one : PlacesHaveOneText
text_at_one bytes at a i b j first second =
    let same = text_apart a b (drop i bytes) (drop j bytes) (sym first.spelt ∙ second.spelt) in
    (same.0, first.end ∙ ap (λ (x : List ℕ). at + length (varint (length x)) + length x) same.0 ∙ sym second.end)

pub text_placed : TextsAreReadBack
text_placed prefix rest text small = record {
  small = small;
  spelt =
      ap (drop (length prefix)) (append_assoc prefix (text_bytes text) rest) ∙ drop_at prefix (text_bytes text ++ rest) (length prefix) refl ∙
      ap (λ x. text_bytes text ++ x) (sym (drop_at (prefix ++ text_bytes text) rest (length prefix + length (text_bytes text)) (length-append prefix (text_bytes text))));
  end = ap (λ k. length prefix + k) (length-append (varint (length text)) text) ∙ sym (add_assoc (length prefix) (length (varint (length text))) (length text));
}

-- a length, and so many bytes after it
pub text_from_parts : (bytes : List ℕ) (at : ℕ) (text : List ℕ) (len start : ℕ) → IsVarintAt bytes at len start → length text ≡ len → text ≡ take len (drop start bytes) → IsTextAt bytes at text (start + len)
text_from_parts bytes at text len start is long spelt = record {
  small = rw long is.small;
  spelt =
      is.spelt ∙ ap (λ x. varint len ++ x) rest ∙ sym (append_assoc (varint len) text (drop (start + len) bytes)) ∙
      ap (λ k. varint k ++ text ++ drop (start + len) bytes) (sym long);
  end = ap (λ k. k + len) is.end ∙ ap (λ k. at + length (varint k) + k) (sym long);
}
  where
    rest : drop start bytes ≡ text ++ drop (start + len) bytes
    rest =
        sym (take-append-drop len (drop start bytes)) ∙ ap (λ x. x ++ drop len (drop start bytes)) (sym spelt) ∙
        ap (λ x. text ++ x) (drop-drop len start bytes)
