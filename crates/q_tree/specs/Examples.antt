-- The scores of whole queries on small documents, worked out by hand.
use Rattle.std.specs.Prelude.{ℕ, ◌≡◌, ◌+◌, List, [], ◌∷◌, map, Some, true, false, codes, refl}
use Rattle.std.specs.Str.{chars}
use lib.Utf8.{encode}
use lib.ListN.{replicate}
use Rattle.ct_base.specs.declared.numbers.Pair.{Pair}
use Rattle.q_tree.specs.declared.flats.PatternBit.TheVariants.{Chars, Many}
use Rattle.q_tree.specs.declared.flats.Slot.{Slot}
use Rattle.q_tree.specs.declared.flats.Slot.TheVariants.{Any, Takes}
use Rattle.q_tree.specs.declared.flats.Place.TheVariants.{Zone, Field, Sentence, Paragraph}
use Rattle.q_tree.specs.declared.flats.SumStep.TheVariants.{Number, Discrete, Occurrence, Plus, Minus as Less, Times}
use Rattle.q_tree.specs.declared.queries.Op.TheVariants.{Or, And, Not, Minus}
use Rattle.q_tree.specs.ReducedQueries.{Reduced, Term, Both, Weight, Above, Near, Within, Define}
use Rattle.q_tree.specs.Scores.{DocPostings, whole_score}
use Rattle.q_tree.specs.Documents.{DocWord, postings_of_words, postings_of_entries}

-- ---- documents of the main stream, and terms

-- a word of a key
abbrev word : ℕ → List ℕ → DocWord
word position key = record { position = position; key = Some key; streams = 0 ∷ [] }

-- the words of these keys, from a position on
abbrev words_from : ℕ → List (List ℕ) → List DocWord
words_from p [] = []
words_from p (k ∷ ks) = word p k ∷ words_from (p + 1) ks

-- the document of these keys
abbrev text : List (List ℕ) → DocPostings
text keys = postings_of_words (words_from 1 keys) []

abbrev pair : ℕ → ℕ → Pair
pair first last = record { first = first; last = last }

-- what takes one key
abbrev only : List ℕ → Slot
only key = Takes (key ∷ []) []

-- the term of these keys one after the other
abbrev phrase : List (List ℕ) → List (List Slot)
phrase keys = map only keys ∷ []

-- the query of one key
abbrev key : List ℕ → Reduced
key k = Term (phrase (k ∷ []))

-- ---- words, phrases and operators: `quick fox quick`

abbrev quick : Reduced
quick = key (codes "quick")

abbrev fox : Reduced
fox = key (codes "fox")

abbrev slow : Reduced
slow = key (codes "slow")

abbrev fox_text : DocPostings
fox_text = text (codes "quick" ∷ codes "fox" ∷ codes "quick" ∷ [])

-- the same by its entries
abbrev fox_entries : DocPostings
fox_entries = postings_of_entries (
    record { stream = 0; token = codes "fox"; places = pair 2 2 ∷ [] }
    ∷ record { stream = 0; token = codes "quick"; places = pair 1 1 ∷ pair 3 3 ∷ [] } ∷ [])

-- quick
twice : whole_score (quick) fox_text ≡ 2
unfolding encode chars
twice = refl

twice_by_entries : whole_score (quick) fox_entries ≡ 2
unfolding encode chars
twice_by_entries = refl

-- slow
nowhere : whole_score (slow) fox_text ≡ 0
unfolding encode chars
nowhere = refl

-- quick fox
once_as_phrase : whole_score (Term (phrase (codes "quick" ∷ codes "fox" ∷ []))) fox_text ≡ 1
unfolding encode chars
once_as_phrase = refl

-- a term of the phrases `quick fox` and `quick`
greatest_of_phrases : whole_score (Term (map only (codes "quick" ∷ codes "fox" ∷ []) ∷ map only (codes "quick" ∷ []) ∷ [])) fox_text ≡ 2
unfolding encode chars
greatest_of_phrases = refl

-- quick AND fox
the_lesser : whole_score (Both And quick fox) fox_text ≡ 1
unfolding encode chars
the_lesser = refl

-- quick OR fox
the_greater : whole_score (Both Or quick fox) fox_text ≡ 2
unfolding encode chars
the_greater = refl

-- slow OR fox
one_side : whole_score (Both Or slow fox) fox_text ≡ 1
unfolding encode chars
one_side = refl

-- quick NOT slow, and quick NOT fox
kept : whole_score (Both Not quick slow) fox_text ≡ 2
unfolding encode chars
kept = refl

not_kept : whole_score (Both Not quick fox) fox_text ≡ 0
unfolding encode chars
not_kept = refl

-- fox MINUS quick, and quick MINUS fox
none_left : whole_score (Both Minus fox quick) fox_text ≡ 0
unfolding encode chars
none_left = refl

one_left : whole_score (Both Minus quick fox) fox_text ≡ 1
unfolding encode chars
one_left = refl

-- quick > 1, quick > 2, and quick > 1 AND fox
above_1 : whole_score (Above 1 quick) fox_text ≡ 2
unfolding encode chars
above_1 = refl

not_above_2 : whole_score (Above 2 quick) fox_text ≡ 0
unfolding encode chars
not_above_2 = refl

above_1_and_fox : whole_score (Both And (Above 1 quick) fox) fox_text ≡ 1
unfolding encode chars
above_1_and_fox = refl

-- ---- weights: `quick` 101 times, and once

abbrev quick_101_times : DocPostings
quick_101_times = text (replicate 101 (codes "quick"))

abbrev quick_once : DocPostings
quick_once = text (codes "quick" ∷ [])

at_most_100 : whole_score (quick) quick_101_times ≡ 100
unfolding encode chars
at_most_100 = refl

-- quick*0.1
a_tenth_of_100 : whole_score (Weight 1 quick) quick_101_times ≡ 10
unfolding encode chars
a_tenth_of_100 = refl

a_tenth_of_1 : whole_score (Weight 1 quick) quick_once ≡ 1
unfolding encode chars
a_tenth_of_1 = refl

-- ---- DEFINESCORE

-- DEFINESCORE(quick, OCCURRENCE * 10 + 5)
score_25 : whole_score (Define (phrase (codes "quick" ∷ [])) (Occurrence ∷ Number 10 ∷ Times ∷ Number 5 ∷ Plus ∷ [])) fox_text ≡ 25
unfolding encode chars
score_25 = refl

-- DEFINESCORE(quick, DISCRETE)
score_100 : whole_score (Define (phrase (codes "quick" ∷ [])) (Discrete ∷ [])) fox_text ≡ 100
unfolding encode chars
score_100 = refl

-- DEFINESCORE(quick, 0 - 5)
score_1 : whole_score (Define (phrase (codes "quick" ∷ [])) (Number 0 ∷ Number 5 ∷ Less ∷ [])) fox_text ≡ 1
unfolding encode chars
score_1 = refl

-- DEFINESCORE(slow, DISCRETE)
score_0 : whole_score (Define (phrase (codes "slow" ∷ [])) (Discrete ∷ [])) fox_text ≡ 0
unfolding encode chars
score_0 = refl

-- DEFINESCORE((quick OR quick), OCCURRENCE)
equal_occurrences_once : whole_score (Define (map only (codes "quick" ∷ []) ∷ map only (codes "quick" ∷ []) ∷ []) (Occurrence ∷ [])) fox_text ≡ 2
unfolding encode chars
equal_occurrences_once = refl

-- ---- stopwords: `jack is big`, where `is` is one

abbrev jack_is_big : Reduced
jack_is_big = Term ((only (codes "jack") ∷ Any ∷ only (codes "big") ∷ []) ∷ [])

any_word_between : whole_score (jack_is_big) (text (codes "jack" ∷ codes "grew" ∷ codes "big" ∷ [])) ≡ 1
unfolding encode chars
any_word_between = refl

no_word_between : whole_score (jack_is_big) (text (codes "jack" ∷ codes "big" ∷ [])) ≡ 0
unfolding encode chars
no_word_between = refl

-- ---- several keys, and patterns

-- `web-site` is a phrase of two words
web_site : whole_score (Term (phrase (codes "web" ∷ codes "site" ∷ []))) (text (codes "web" ∷ codes "site" ∷ [])) ≡ 1
unfolding encode chars
web_site = refl

-- shop = web site
shop_or_web : whole_score (Term ((Takes (codes "shop" ∷ codes "web" ∷ []) [] ∷ only (codes "site") ∷ []) ∷ [])) (text (codes "web" ∷ codes "site" ∷ [])) ≡ 1
unfolding encode chars
shop_or_web = refl

-- caf%
caf_many : whole_score (Term ((Takes [] ((Chars (codes "caf") ∷ Many ∷ []) ∷ []) ∷ []) ∷ [])) (text (codes "cafe" ∷ codes "cafe" ∷ codes "bar" ∷ [])) ≡ 2
unfolding encode chars
caf_many = refl

-- %
each_word : whole_score (Term ((Takes [] ((Many ∷ []) ∷ []) ∷ []) ∷ [])) (text (codes "cafe" ∷ codes "cafe" ∷ codes "bar" ∷ [])) ≡ 3
unfolding encode chars
each_word = refl

-- ---- nearness: `a b`

abbrev a_b : DocPostings
a_b = text (codes "a" ∷ codes "b" ∷ [])

abbrev near : List ℕ → List ℕ → List (List (List Slot))
near j k = phrase (j ∷ []) ∷ phrase (k ∷ []) ∷ []

-- NEAR((a,b),0), NEAR((a,b),1), NEAR((b,a),1,TRUE) and a ; b
too_far : whole_score (Near (near (codes "a") (codes "b")) 0 false) a_b ≡ 0
unfolding encode chars
too_far = refl

one_apart : whole_score (Near (near (codes "a") (codes "b")) 1 false) a_b ≡ 100
unfolding encode chars
one_apart = refl

not_in_order : whole_score (Near (near (codes "b") (codes "a")) 1 true) a_b ≡ 0
unfolding encode chars
not_in_order = refl

in_order : whole_score (Near (near (codes "a") (codes "b")) 1 true) a_b ≡ 100
unfolding encode chars
in_order = refl

a_chain : whole_score (Near (near (codes "a") (codes "b")) 100 false) a_b ≡ 100
unfolding encode chars
a_chain = refl

-- one occurrence may serve two operands
one_for_both : whole_score (Near (near (codes "a") (codes "a")) 0 false) a_b ≡ 100
unfolding encode chars
one_for_both = refl

not_for_both_in_order : whole_score (Near (near (codes "a") (codes "a")) 0 true) a_b ≡ 0
unfolding encode chars
not_for_both_in_order = refl

-- ---- sentences: `a. b` and `a b.`

abbrev in_sentences : List Pair → DocPostings
in_sentences ps = postings_of_words (words_from 1 (codes "a" ∷ codes "b" ∷ [])) (map (λ p. record { name = codes "sentence"; pair = p }) ps)

-- (a AND b) WITHIN SENTENCE
two_sentences : whole_score (Within Sentence (Both And (key (codes "a")) (key (codes "b")))) (in_sentences (pair 1 1 ∷ pair 2 2 ∷ [])) ≡ 0
unfolding encode chars
two_sentences = refl

one_sentence : whole_score (Within Sentence (Both And (key (codes "a")) (key (codes "b")))) (in_sentences (pair 1 2 ∷ [])) ≡ 1
unfolding encode chars
one_sentence = refl

-- (a NOT b) WITHIN SENTENCE: in one of them, though both are in the document
a_sentence_without_b : whole_score (Within Sentence (Both Not (key (codes "a")) (key (codes "b")))) (in_sentences (pair 1 1 ∷ pair 2 2 ∷ [])) ≡ 1
unfolding encode chars
a_sentence_without_b = refl

-- a WITHIN PARAGRAPH
no_paragraph : whole_score (Within Paragraph (key (codes "a"))) (in_sentences (pair 1 2 ∷ [])) ≡ 0
unfolding encode chars
no_paragraph = refl

-- ---- zones and fields

-- `<T>alpha</T> <Q>one <P>beta</P></Q>`: alpha is in the field of the stream 1 alone, one and beta in the main stream; q is 2 to 3, and p 3 to 3
abbrev tagged : DocPostings
tagged = postings_of_words
    (record { position = 1; key = Some (codes "alpha"); streams = 1 ∷ [] } ∷ word 2 (codes "one") ∷ word 3 (codes "beta") ∷ [])
    (record { name = codes "p"; pair = pair 3 3 } ∷ record { name = codes "q"; pair = pair 2 3 } ∷ [])

-- alpha, and alpha WITHIN t
hidden : whole_score (key (codes "alpha")) tagged ≡ 0
unfolding encode chars
hidden = refl

in_its_field : whole_score (Within (Field 1) (key (codes "alpha"))) tagged ≡ 1
unfolding encode chars
in_its_field = refl

-- (beta WITHIN p) WITHIN q, and (one WITHIN p) WITHIN q
beta_in_p_in_q : whole_score (Within (Zone (codes "q")) (Within (Zone (codes "p")) (key (codes "beta")))) tagged ≡ 1
unfolding encode chars
beta_in_p_in_q = refl

one_not_in_p : whole_score (Within (Zone (codes "q")) (Within (Zone (codes "p")) (key (codes "one")))) tagged ≡ 0
unfolding encode chars
one_not_in_p = refl

-- (beta WITHIN q) WITHIN p: q reaches out of p
q_not_in_p : whole_score (Within (Zone (codes "p")) (Within (Zone (codes "q")) (key (codes "beta")))) tagged ≡ 0
unfolding encode chars
q_not_in_p = refl
