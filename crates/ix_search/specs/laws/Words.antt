-- The positions of keys among the words of a text.
use Rattle.std.proofs.Common.{ℕ, ◌≡◌, ◌+◌, ◌<◌, ◌&&◌, ◌||◌, ◌==◌, eqb, bytes_eq, Bool, true, false, cond, List, [], ◌∷◌, length, Option, Some, None, refl, sym, ap, ◌∙◌, arith, eqb-true, eq-eqb}
use Rattle.std.specs.List.{list_any}
use Rattle.std.specs.Str.{chars, encode_utf8_all}
use Rattle.std.proofs.lemmas.Slice.Eq.{bytes_eq-Decides}
use Rattle.ct_base.specs.laws.Bools.{same_tests}
use Rattle.ix_spans.specs.Occurrences.{has_number}
use Rattle.tx_lexer.specs.declared.tokens.Token.{Token}
use Rattle.tx_lexer.specs.Tokens.{tokens, rules}
use Rattle.tx_tags.specs.Tags.{tags_in, blanked}
use Rattle.tx_document.specs.declared.views.WordView.{WordView}
use Rattle.tx_document.specs.Documents.{Extent, extents, words_from}
use Rattle.tx_document.specs.Entries.{is_at, positions_of}
use Rattle.q_tree.specs.Documents.{is_word_at, WordsRise}
use Rattle.ix_search.specs.Texts.{doc_word, doc_words}
use Rattle.ix_search.specs.Promises.{WordsOfTextsRise}

-- ---- tests turned around

pub number_turned : (a b : ℕ) → eqb a b ≡ eqb b a
number_turned a b = same_tests (eqb a b) (eqb b a) (λ h. eq-eqb b a (sym (eqb-true a b h))) (λ h. eq-eqb a b (sym (eqb-true b a h)))

pub bytes_turned : (a b : List ℕ) → bytes_eq a b ≡ bytes_eq b a
bytes_turned a b = same_tests (bytes_eq a b) (bytes_eq b a) (λ h. (bytes_eq-Decides b a).1 (sym ((bytes_eq-Decides a b).0 h))) (λ h. (bytes_eq-Decides a b).1 (sym ((bytes_eq-Decides b a).0 h)))

any_turned : (s : ℕ) (ns : List ℕ) → list_any (λ n. s == n) ns ≡ list_any (λ n. eqb n s) ns
any_turned s [] = refl
any_turned s (n ∷ ns) = ap (λ t. t || list_any (λ n. s == n) ns) (number_turned s n) ∙ ap (λ t. eqb n s || t) (any_turned s ns)

and_false : (x : Bool) → false ≡ (x && false)
and_false true = refl
and_false false = refl

three_turned : (a b c : Bool) → ((a && b) && c) ≡ ((c && b) && a)
three_turned true true true = refl
three_turned true true false = refl
three_turned true false true = refl
three_turned true false false = refl
three_turned false true true = refl
three_turned false true false = refl
three_turned false false true = refl
three_turned false false false = refl

-- ---- where a key stands, by the words

abbrev word_with : ℕ → Option (List ℕ) → List ℕ → ℕ → ℕ → WordView
word_with position key streams start end = record { position = position; key = key; streams = streams; start = start; end = end }

word_at : (s : ℕ) (t : List ℕ) (n position : ℕ) (key : Option (List ℕ)) (streams : List ℕ) (start end : ℕ)
    → (is_at s t (word_with position key streams start end) && eqb position n) ≡ is_word_at s t n (doc_word (word_with position key streams start end))
word_at s t n position None streams start end = and_false (eqb position n && list_any (λ x. eqb x s) streams)
word_at s t n position (Some k) streams start end =
    ap (λ b. (b && list_any (λ x. s == x) streams) && eqb position n) (bytes_turned t k)
    ∙ ap (λ b. (bytes_eq k t && b) && eqb position n) (any_turned s streams)
    ∙ three_turned (bytes_eq k t) (list_any (λ x. eqb x s) streams) (eqb position n)

-- the positions of a key in a stream are those of the words that have it there
pub positions_stand : (s : ℕ) (t : List ℕ) (ws : List WordView) (n : ℕ) → has_number (positions_of s t ws) n ≡ list_any (is_word_at s t n) (doc_words ws)
positions_stand s t [] n = refl
positions_stand s t (w ∷ ws) n =
    go (is_at s t w)
    ∙ ap (λ b. b || has_number (positions_of s t ws) n) (word_at s t n w.position w.key w.streams w.start w.end)
    ∙ ap (λ b. is_word_at s t n (doc_word w) || b) (positions_stand s t ws n)
  where
    go : (b : Bool) → has_number (cond b (w.position ∷ positions_of s t ws) (positions_of s t ws)) n ≡ ((b && eqb w.position n) || has_number (positions_of s t ws) n)
    go true = refl
    go false = refl

-- ---- positions rise

rise_from : (stop : List (List ℕ)) (es : List Extent) (before n : ℕ) (ts : List Token) → before < n → WordsRise before (doc_words (words_from stop es n ts))
rise_from stop es before n [] less = tt
rise_from stop es before n (t ∷ ts) less = (less, rise_from stop es n (n + 1) ts (omega arith))

pub words_rise : WordsOfTextsRise
words_rise p text = rise_from p.stop (extents (tags_in p.group (chars text)) (length (encode_utf8_all (chars text))) p.group.sections) 0 1 (tokens (rules p.lexer) (blanked p.group (chars text))) (omega arith)
