-- Which entries of thesauri are well shaped, each by itself.
use Rattle.std.specs.Prelude.{ℕ, ◌≡◌, true, List, [], codes, refl}
use Rattle.std.specs.Str.{chars, is_utf8}
use lib.Utf8.{encode}
use Rattle.ct_entry.specs.declared.kinds.Kind.{Kind}
use Rattle.ct_entry.specs.declared.kinds.Kind.TheVariants.{Thesauri, Relations, Tables}
use Rattle.ct_entry.specs.Keys.{Key, key, IsPart}
use Rattle.q_tree.specs.declared.queries.Relation.TheVariants.{Syn}
use Rattle.th_graph.specs.declared.pairs.TermPair.{TermPair}
use Rattle.th_graph.specs.Pairs.{stated_pair}
use Rattle.th_store.specs.Thesauri.{pair_part}
use Rattle.th_store.specs.Rules.{is_pair}
use Rattle.th_store.specs.Spelling.{pair_key}

-- a rest of a key that spells a pair of terms, in order
abbrev pub IsPairPart : List ℕ → Type 0
IsPairPart part = (p : TermPair) × (is_pair p ≡ true) × (part ≡ pair_part p)

-- the entries of each kind, by the rest of the key and the value; those of other kinds aren't of thesauri
abbrev pub IsThesaurusValue : Kind → List ℕ → List ℕ → Type 0
IsThesaurusValue Thesauri part value = value ≡ []
IsThesaurusValue Relations part value = IsPairPart part × (value ≡ [])
IsThesaurusValue kind part value = ⊥

-- the same of a key and its value
abbrev pub HasThesaurusValue : Key → List ℕ → Type 0
HasThesaurusValue k value = IsThesaurusValue k.kind k.part value

-- WELL SHAPED, whatever the owner: keys of the kind may have this rest, and an entry under it this value
pub record IsThesaurusShape (kind : Kind) (part value : List ℕ) : Type 0 where
  pub rest : IsPart kind part
  pub has : IsThesaurusValue kind part value

-- computed examples
of_synonyms : HasThesaurusValue (pair_key (codes "th") (stated_pair Syn (codes "hound") (codes "dog"))) []
unfolding chars is_utf8 encode
of_synonyms = ((stated_pair Syn (codes "hound") (codes "dog"), refl, refl), refl)

no_table : HasThesaurusValue (key Tables (codes "t") []) [] → ⊥
no_table is = is
