-- The rules that thesauri keep in every state.
use Rattle.std.specs.Prelude.{ℕ, ◌≡◌, ◌≤◌, Bool, true, false, not, ◌&&◌, ◌||◌, nat_le, List, [], length, Some, IsSome, codes, refl}
use Rattle.std.specs.FinMap.{get, entries}
use Rattle.std.specs.Str.{chars, is_utf8}
use lib.Utf8.{encode}
use Rattle.ct_base.specs.Limits.{token_limit}
use Rattle.ct_base.specs.Names.{IsName}
use Rattle.q_tree.specs.declared.queries.Relation.TheVariants.{Broader, Syn}
use Rattle.th_graph.specs.declared.pairs.PairKind.{PairKind}
use Rattle.th_graph.specs.declared.pairs.PairKind.TheVariants.{Synonyms, ToPreferred}
use Rattle.th_graph.specs.declared.pairs.TermPair.{TermPair}
use Rattle.th_graph.specs.Rising.{is_less}
use Rattle.th_graph.specs.Pairs.{term_pair, stated_pair, same_kind}
use Rattle.th_graph.specs.Relating.{pair_limit}
use Rattle.th_store.specs.Thesauri.{PairSet, Thesauri}

-- how many thesauri there are at most
abbrev pub thesaurus_limit : ℕ
thesaurus_limit = 256

-- a term has 1 to 255 bytes, which are UTF-8
abbrev pub is_term_text : List ℕ → Bool
is_term_text t = nat_le 1 (length t) && (nat_le (length t) token_limit && is_utf8 t)

-- of synonyms the lesser stands first; other pairs may stand in any order
abbrev pub has_lesser_first : PairKind → List ℕ → List ℕ → Bool
has_lesser_first kind first second = not (same_kind kind Synonyms) || not (is_less second first)

-- a pair of terms, in order
abbrev pub is_pair : TermPair → Bool
is_pair p = is_term_text p.first && (is_term_text p.second && has_lesser_first p.kind p.first p.second)

-- THE RULES OF A THESAURUS: each of its pairs is one of terms, in order; there are at most 10,000; and no term has two preferred terms.
pub record IsThesaurus (ps : PairSet) : Type 0 where
  pub each : (p : TermPair) (x : Unit {0}) → get ps p ≡ Some x → is_pair p ≡ true
  pub few : length (entries ps) ≤ pair_limit
  pub one : (a b c : List ℕ) → IsSome (get ps (term_pair ToPreferred a b)) → IsSome (get ps (term_pair ToPreferred a c)) → b ≡ c

-- THE RULES OF ALL: each has a name that is one, and keeps its rules; and there are at most 256.
pub record AreThesauri (ts : Thesauri) : Type 0 where
  pub names : (name : List ℕ) (ps : PairSet) → get ts name ≡ Some ps → IsName name
  pub each : (name : List ℕ) (ps : PairSet) → get ts name ≡ Some ps → IsThesaurus ps
  pub few : length (entries ts) ≤ thesaurus_limit

-- computed examples
two_terms : is_pair (stated_pair Syn (codes "hound") (codes "dog")) ≡ true
unfolding chars is_utf8 encode
two_terms = refl

not_in_order : is_pair (term_pair Synonyms (codes "hound") (codes "dog")) ≡ false
unfolding chars is_utf8 encode
not_in_order = refl

no_term : is_pair (stated_pair Broader (codes "dog") []) ≡ false
unfolding chars is_utf8 encode
no_term = refl
