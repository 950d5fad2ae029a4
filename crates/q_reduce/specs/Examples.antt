-- Queries, and what they are reduced to.
use Rattle.std.specs.Prelude.{ℕ, ◌≡◌, true, false, List, [], ◌∷◌, Some, None, codes, refl}
use Rattle.std.specs.List.{list_all}
use Rattle.std.specs.Str.{chars}
use lib.Utf8.{encode}
use Rattle.ucd_category.proofs.Computing.{ucd_category}
use Rattle.caseless.proofs.Computing.{caseless}
use Rattle.tx_chars.specs.Keys.{key_text}
use Rattle.tx_lexer.specs.Tokens.{default_options}
use Rattle.tx_tags.specs.Groups.{zones}
use Rattle.q_tree.specs.declared.flats.PatternBit.TheVariants.{Chars as PatternChars, Many as PatternMany}
use Rattle.q_tree.specs.declared.flats.Slot.{Slot}
use Rattle.q_tree.specs.declared.flats.Slot.TheVariants.{Any, Takes}
use Rattle.q_tree.specs.declared.flats.Place.TheVariants.{Field}
use Rattle.q_tree.specs.declared.queries.WordBit.TheVariants.{Chars, Many}
use Rattle.q_tree.specs.declared.queries.Word.{Word}
use Rattle.q_tree.specs.declared.queries.Leaf.{Leaf}
use Rattle.q_tree.specs.declared.queries.Leaf.TheVariants.{Phrase, Thes}
use Rattle.q_tree.specs.declared.queries.Op.TheVariants.{And, Not}
use Rattle.q_tree.specs.declared.queries.Relation.TheVariants.{Broader, Syn}
use Rattle.th_graph.specs.Pairs.{stated_pair}
use Rattle.th_graph.specs.Expansions.{expansion, terms_within}
use Rattle.q_tree.specs.Trees.{Single, Both, Weight, Near, Within}
use Rattle.q_tree.specs.ReducedQueries.{Term, Within as ReducedWithin}
use Rattle.q_reduce.specs.Reducing.{Context, trimmed, reduced}
use Rattle.q_reduce.specs.Promises.{slot_keys, query_words, has_only_stopwords}
use Rattle.q_reduce.specs.Faults.{faults, NoSection, FieldInside, NoThesaurus, ManyTokens}

-- an index with the stopword `is` and the zones p and q and the field t; in the thesaurus `th` an animal is broader than a dog, and a dog
-- than an animal, and a guide dog is a dog
abbrev its : Context
its = record { lexer = default_options; stop = codes "is" ∷ []; group = zones; thesauri = (codes "th", stated_pair Broader (codes "dog") (codes "animal") ∷ stated_pair Broader (codes "animal") (codes "dog") ∷ stated_pair Syn (codes "guide dog") (codes "dog") ∷ []) ∷ [] }

abbrev word : ℕ → List ℕ → Word
word place text = record { place = place; bits = Chars text ∷ [] }

abbrev leaf : ℕ → List ℕ → Leaf
leaf place text = Phrase ((word place text ∷ []) ∷ [])

abbrev key : List ℕ → Slot
key k = Takes (k ∷ []) []

-- `BT(dog,5,th)`, `SYN(dog,th)` and `SYN(dog)`
broader_terms : reduced its (Single (Thes Broader (word 4 (codes "dog") ∷ []) 5 (codes "th"))) ≡ Some (Term ((key (codes "animal") ∷ []) ∷ (key (codes "dog") ∷ []) ∷ []))
unfolding encode chars caseless ucd_category key_text expansion terms_within
broader_terms = refl

synonyms : reduced its (Single (Thes Syn (word 5 (codes "Dog") ∷ []) 1 (codes "th"))) ≡ Some (Term ((key (codes "dog") ∷ []) ∷ (key (codes "guide") ∷ key (codes "dog") ∷ []) ∷ []))
unfolding encode chars caseless ucd_category key_text expansion terms_within
synonyms = refl

no_thesaurus : faults its false (Single (Thes Syn (word 5 (codes "dog") ∷ []) 1 (codes "default"))) ≡ NoThesaurus (codes "default") ∷ []
no_thesaurus = refl

-- `jack is big`
jack_is_big : reduced its (Single (Phrase ((word 1 (codes "jack") ∷ []) ∷ (word 6 (codes "is") ∷ []) ∷ (word 9 (codes "big") ∷ []) ∷ [])))
    ≡ Some (Term ((key (codes "jack") ∷ Any ∷ key (codes "big") ∷ []) ∷ []))
unfolding encode chars caseless ucd_category key_text
jack_is_big = refl

-- `is jack`: the stopword in front is dropped
is_jack : reduced its (Single (Phrase ((word 1 (codes "is") ∷ []) ∷ (word 4 (codes "jack") ∷ []) ∷ []))) ≡ Some (Term ((key (codes "jack") ∷ []) ∷ []))
unfolding encode chars caseless ucd_category key_text
is_jack = refl

-- `is`, and `is NOT jack`
is_alone : reduced its (Single (leaf 1 (codes "is"))) ≡ None
unfolding encode chars caseless ucd_category key_text
is_alone = refl

is_not_jack : reduced its (Both Not (Single (leaf 1 (codes "is"))) (Single (leaf 8 (codes "jack")))) ≡ None
unfolding encode chars caseless ucd_category key_text
is_not_jack = refl

-- `jack AND is`
jack_and_is : reduced its (Both And (Single (leaf 1 (codes "jack"))) (Single (leaf 10 (codes "is")))) ≡ Some (Term ((key (codes "jack") ∷ []) ∷ []))
unfolding encode chars caseless ucd_category key_text
jack_and_is = refl

-- `web\-site`: a word of two tokens is two slots
web_site : reduced its (Single (leaf 1 (codes "web-site"))) ≡ Some (Term ((key (codes "web") ∷ key (codes "site") ∷ []) ∷ []))
unfolding encode chars caseless ucd_category key_text
web_site = refl

-- `shop = web = is`: keys in rising order, without the stopword
equiv : reduced its (Single (Phrase ((word 1 (codes "web") ∷ word 7 (codes "shop") ∷ word 14 (codes "is") ∷ []) ∷ []))) ≡ Some (Term ((Takes (codes "shop" ∷ codes "web" ∷ []) [] ∷ []) ∷ []))
unfolding encode chars caseless ucd_category key_text
equiv = refl

-- `web\-site = shop`: two tokens at the place 1
two_tokens : faults its false (Single (Phrase ((word 1 (codes "web-site") ∷ word 13 (codes "shop") ∷ []) ∷ []))) ≡ ManyTokens 1 ∷ []
unfolding encode chars caseless ucd_category key_text
two_tokens = refl

-- `Caf%`
a_pattern : reduced its (Single (Phrase ((record { place = 1; bits = Chars (codes "Caf") ∷ Many ∷ [] } ∷ []) ∷ []))) ≡ Some (Term ((Takes [] ((PatternChars (codes "caf") ∷ PatternMany ∷ []) ∷ []) ∷ []) ∷ []))
unfolding encode chars caseless ucd_category key_text
a_pattern = refl

-- `alpha WITHIN t`, and `alpha WITHIN z`
in_a_field : reduced its (Within (codes "t") (Single (leaf 1 (codes "alpha")))) ≡ Some (ReducedWithin (Field 1) (Term ((key (codes "alpha") ∷ []) ∷ [])))
unfolding encode chars caseless ucd_category key_text
in_a_field = refl

no_section : faults its false (Within (codes "z") (Single (leaf 1 (codes "alpha")))) ≡ NoSection (codes "z") ∷ []
unfolding encode chars caseless ucd_category key_text
no_section = refl

-- `(alpha WITHIN t) WITHIN z`: the field inside stands first in the text
field_inside : faults its false (Within (codes "z") (Within (codes "t") (Single (leaf 2 (codes "alpha"))))) ≡ FieldInside (codes "t") ∷ NoSection (codes "z") ∷ []
unfolding encode chars caseless ucd_category key_text
field_inside = refl

-- `NEAR((is, jack))` is `jack`
one_operand_left : reduced its (Near ((leaf 7 (codes "is") ∷ []) ∷ (leaf 11 (codes "jack") ∷ []) ∷ []) 100 false) ≡ Some (Term ((key (codes "jack") ∷ []) ∷ []))
unfolding encode chars caseless ucd_category key_text
one_operand_left = refl

-- ---- what the laws speak of

-- the words of `shop = web = is`, where `is` is a stopword
keys_of_equiv : slot_keys its (word 1 (codes "web") ∷ word 7 (codes "shop") ∷ word 14 (codes "is") ∷ []) ≡ codes "shop" ∷ codes "web" ∷ []
unfolding encode chars caseless ucd_category key_text
keys_of_equiv = refl

-- `is NOT is` has no other word
stopwords_alone : list_all (has_only_stopwords its) (query_words (Both Not (Single (leaf 1 (codes "is"))) (Single (leaf 8 (codes "is"))))) ≡ true
unfolding encode chars caseless ucd_category key_text
stopwords_alone = refl

trimmed_slots : trimmed (Any ∷ key (codes "jack") ∷ Any ∷ key (codes "big") ∷ Any ∷ Any ∷ []) ≡ key (codes "jack") ∷ Any ∷ key (codes "big") ∷ []
trimmed_slots = refl

-- ---- words that are no tokens, and stopwords between others

-- `jack {} big`: a word without a token is no place of the phrase
no_token : reduced its (Single (Phrase ((word 1 (codes "jack") ∷ []) ∷ (record { place = 6; bits = [] } ∷ []) ∷ (word 9 (codes "big") ∷ []) ∷ [])))
    ≡ Some (Term ((key (codes "jack") ∷ key (codes "big") ∷ []) ∷ []))
unfolding encode chars caseless ucd_category key_text
no_token = refl

-- `{} = a`
no_token_joined : faults its false (Single (Phrase ((record { place = 1; bits = [] } ∷ word 6 (codes "a") ∷ []) ∷ []))) ≡ ManyTokens 1 ∷ []
unfolding encode chars caseless ucd_category key_text
no_token_joined = refl

-- `jack is = is big`: a slot of stopwords alone takes any word
stopwords_joined : reduced its (Single (Phrase ((word 1 (codes "jack") ∷ []) ∷ (word 6 (codes "is") ∷ word 11 (codes "is") ∷ []) ∷ (word 14 (codes "big") ∷ []) ∷ [])))
    ≡ Some (Term ((key (codes "jack") ∷ Any ∷ key (codes "big") ∷ []) ∷ []))
unfolding encode chars caseless ucd_category key_text
stopwords_joined = refl

-- `is = ja%`: the pattern alone
pattern_joined : reduced its (Single (Phrase ((word 1 (codes "is") ∷ record { place = 6; bits = Chars (codes "ja") ∷ Many ∷ [] } ∷ []) ∷ [])))
    ≡ Some (Term ((Takes [] ((PatternChars (codes "ja") ∷ PatternMany ∷ []) ∷ []) ∷ []) ∷ []))
unfolding encode chars caseless ucd_category key_text
pattern_joined = refl

-- `\-%` where `-` is a skipjoin: the run has no key, and the wildcard is left
empty_run : reduced (record its { lexer = record default_options { skipjoins = codes "-" } }) (Single (Phrase ((record { place = 1; bits = Chars (codes "-") ∷ Many ∷ [] } ∷ []) ∷ [])))
    ≡ Some (Term ((Takes [] ((PatternMany ∷ []) ∷ []) ∷ []) ∷ []))
unfolding encode chars caseless ucd_category key_text
empty_run = refl

-- ---- faults of parts that come to nothing, and nothing under operators

-- `is WITHIN z`
fault_of_nothing : faults its false (Within (codes "z") (Single (leaf 1 (codes "is")))) ≡ NoSection (codes "z") ∷ []
unfolding encode chars caseless ucd_category key_text
fault_of_nothing = refl

-- `is * 2`
weight_of_nothing : reduced its (Weight 20 (Single (leaf 1 (codes "is")))) ≡ None
unfolding encode chars caseless ucd_category key_text
weight_of_nothing = refl

-- `jack NOT is`
jack_not_is : reduced its (Both Not (Single (leaf 1 (codes "jack"))) (Single (leaf 10 (codes "is")))) ≡ Some (Term ((key (codes "jack") ∷ []) ∷ []))
unfolding encode chars caseless ucd_category key_text
jack_not_is = refl

-- `jack WITHIN sentence`, of a group without sentences
no_sentences : faults its false (Within (codes "sentence") (Single (leaf 1 (codes "jack")))) ≡ NoSection (codes "sentence") ∷ []
unfolding encode chars caseless ucd_category key_text
no_sentences = refl
