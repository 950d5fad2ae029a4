-- What the functions of `src/laws.rt` promise of documents and of their entries.
use Rattle.std.specs.Prelude.{ℕ, ◌≡◌, ◌+◌, ◌*◌, ◌<◌, ◌≤◌, ◌^◌, ◌⊎◌, List, [], ◌∷◌, length, map, Option, Some, None, codes, refl, true}
use Rattle.std.proofs.Common.{arith, inl}
use Rattle.std.specs.List.{AllByRecursion}
use Rattle.std.specs.declared.cmp.Ordering.TheVariants.{Less}
use Rattle.std.specs.Str.{chars}
use Rattle.std.specs.FinMap.{get}
use Rattle.ct_base.specs.Limits.{token_limit, stream_limit}
use Rattle.ct_base.specs.Names.{IsName}
use Rattle.ct_base.specs.declared.numbers.Pair.{Pair}
use Rattle.tx_settings.specs.declared.preferences.Prefs.{Prefs}
use Rattle.tx_document.specs.declared.views.WordView.{WordView}
use Rattle.tx_document.specs.declared.views.SectionView.{SectionView}
use Rattle.tx_document.specs.declared.views.DocView.{DocView}
use Rattle.tx_document.specs.Documents.{document, instance, pair, section_cmp}
use Rattle.tx_document.specs.Entries.{places_of, places_under, place_map, positions_of, section_stream}
use Rattle.tx_settings.specs.PrefsBytes.{IsPrefs, is_named_group}

-- ---- documents

-- numbers, each above the one before it, and the first above `before`
abbrev pub NumbersRise : ℕ → List ℕ → Type 0
NumbersRise before [] = Unit {0}
NumbersRise before (n ∷ ns) = (before < n) × NumbersRise n ns

-- streams, each above the one before it, the first at least `least` and the last at most 64
abbrev pub StreamsRise : ℕ → List ℕ → Type 0
StreamsRise least [] = Unit {0}
StreamsRise least (s ∷ ss) = (least ≤ s) × (s ≤ stream_limit) × StreamsRise (s + 1) ss

-- a key of 1 to 255 bytes, where there is one
abbrev pub IsKey : Option (List ℕ) → Type 0
IsKey None = Unit {0}
IsKey (Some key) = (1 ≤ length key) × (length key ≤ token_limit)

-- words apart from each other: none is empty, the first starts at `least` or behind it, and each other at the end of the one before it or behind it
abbrev pub AreApart : ℕ → List WordView → Type 0
AreApart least [] = Unit {0}
AreApart least (w ∷ ws) = (least ≤ w.start) × (w.start < w.end) × AreApart w.end ws

-- an instance of a section with a name, in a document of so many words
pub record IsInstance (count : ℕ) (i : SectionView) : Type 0 where
  pub named : IsName i.section
  pub some : 1 ≤ i.first
  pub forward : i.first ≤ i.last
  pub within : i.last ≤ count

-- instances, each less than all behind it; so each stands once
abbrev pub InstancesRise : List SectionView → Type 0
InstancesRise [] = Unit {0}
InstancesRise (i ∷ is) = AllByRecursion (λ (j : SectionView). section_cmp i j ≡ Less) is × InstancesRise is

-- THE RULES OF DOCUMENTS. The positions of words are at least 1 and rise, the streams of each word rise, its key has 1 to 255 bytes, and the words stand apart in the text; each section lies within the words, and the sections rise.
pub record IsDocView (d : DocView) : Type 0 where
  pub positions : NumbersRise 0 (map (λ (w : WordView). w.position) d.words)
  pub streams : AllByRecursion (λ (w : WordView). StreamsRise 0 w.streams) d.words
  pub keys : AllByRecursion (λ (w : WordView). IsKey w.key) d.words
  pub places : AreApart 0 d.words
  pub instances : AllByRecursion (IsInstance (length d.words)) d.sections
  pub once : InstancesRise d.sections

-- Each document keeps them.
abbrev pub DocumentsKeepRules : Type 0
DocumentsKeepRules = (p : Prefs) (text : List ℕ) → is_named_group p.group ≡ true → IsDocView (document p text)

-- ---- places as entries have them

-- positions, each above the one before it and the first above `before`, and below 2 ^ 32
abbrev pub PositionsRise : ℕ → List ℕ → Type 0
PositionsRise before [] = Unit {0}
PositionsRise before (p ∷ ps) = (before < p) × (p < 2 ^ 32) × PositionsRise p ps

-- the second pair has a greater first, or the same first and a greater last
abbrev pub Follows : Pair → Pair → Type 0
Follows a b = (a.first < b.first) ⊎ ((a.first ≡ b.first) × (a.last < b.last))

-- pairs, each after the one before it, the first of each at least 1 and at most its last, which is below 2 ^ 32
abbrev pub PairsRise : Pair → List Pair → Type 0
PairsRise before [] = Unit {0}
PairsRise before (p ∷ ps) = Follows before p × (1 ≤ p.first) × (p.first ≤ p.last) × (p.last < 2 ^ 32) × PairsRise p ps

-- a position p as the pair (p, p)
abbrev pub as_pairs : List ℕ → List Pair
as_pairs ps = map (λ p. pair p p) ps

-- A key in a stream, and the positions where it stands.
pub record IsWordEntry (name : List ℕ) (places : List Pair) : Type 0 where
  pub stream : ℕ
  pub token : List ℕ
  pub named : name ≡ stream ∷ token
  pub main_or_field : stream ≤ stream_limit
  pub some : 1 ≤ length token
  pub short : length token ≤ token_limit
  pub positions : List ℕ
  pub are : places ≡ as_pairs positions
  pub anywhere : 1 ≤ length positions
  pub rise : PositionsRise 0 positions

-- A section, and the pairs of positions between which it stands.
pub record IsSectionEntry (name : List ℕ) (places : List Pair) : Type 0 where
  pub section : List ℕ
  pub named : name ≡ section_stream ∷ section
  pub is_name : IsName section
  pub anywhere : 1 ≤ length places
  pub few : length places < 2 ^ 32
  pub rise : PairsRise (pair 0 0) places

-- ---- the laws

-- what stands under a name, where anything does
abbrev pub if_any : List Pair → Option (List Pair)
if_any [] = None
if_any (p ∷ ps) = Some (p ∷ ps)

-- Each name has the places that a scan finds.
abbrev pub PlacesAreFound : Type 0
PlacesAreFound = (p : Prefs) (text name : List ℕ) → get (place_map (places_of (document p (chars text)))) name ≡ if_any (places_under name (places_of (document p (chars text))))

-- The places of a key in a stream are the positions of the words that have it there.
abbrev pub PlacesArePositions : Type 0
PlacesArePositions =
    (p : Prefs) (text : List ℕ) (stream : ℕ) (key : List ℕ) → stream ≤ stream_limit
    → places_under (stream ∷ key) (places_of (document p (chars text))) ≡ as_pairs (positions_of stream key (document p (chars text)).words)

-- What stands anywhere in a document is a key in a stream, or a section; and its places rise.
abbrev pub EntriesAreOrdered : Type 0
EntriesAreOrdered =
    (p : Prefs) (text : List ℕ) → IsPrefs p → length text ≤ 2 ^ 24
    → (name : List ℕ) (places : List Pair) → get (place_map (places_of (document p (chars text)))) name ≡ Some places
    → IsWordEntry name places ⊎ IsSectionEntry name places

-- Nothing stands at more places than this.
abbrev pub PlacesAreFew : Type 0
PlacesAreFew =
    (p : Prefs) (text name : List ℕ) → IsPrefs p → length text ≤ 2 ^ 24
    → length (places_under name (places_of (document p (chars text)))) ≤ 9 * length text + 2

-- computed examples

-- `a` in the main stream and the third field, a stopword behind it, and the sentence of both
two_words : IsDocView (record {
  words = record { position = 1; key = Some (codes "a"); streams = 0 ∷ 3 ∷ []; start = 0; end = 1 } ∷ record { position = 2; key = None; streams = 0 ∷ []; start = 2; end = 4 } ∷ [];
  sections = instance (codes "sentence") 1 2 ∷ [];
})
two_words = record {
  positions = (omega arith, (omega arith, tt));
  streams = ((omega arith, omega arith, (omega arith, omega arith, tt)), ((omega arith, omega arith, tt), tt));
  keys = ((omega arith, omega arith), (tt, tt));
  places = (omega arith, omega arith, (omega arith, omega arith, tt));
  instances = (record { named = record { spelt = refl; lower = refl }; some = omega arith; forward = omega arith; within = omega arith }, tt);
  once = (tt, tt);
}

abbrev twice : List Pair
twice = pair 1 1 ∷ pair 3 3 ∷ []

a_word : IsWordEntry (0 ∷ codes "a") twice
a_word = record {
  stream = 0;
  token = codes "a";
  named = refl;
  main_or_field = omega arith;
  some = omega arith;
  short = omega arith;
  positions = 1 ∷ 3 ∷ [];
  are = refl;
  anywhere = omega arith;
  rise = (omega arith, omega arith, (omega arith, omega arith, tt));
}

a_section : IsSectionEntry (255 ∷ codes "sentence") (pair 1 3 ∷ [])
a_section = record {
  section = codes "sentence";
  named = refl;
  is_name = record { spelt = refl; lower = refl };
  anywhere = omega arith;
  few = omega arith;
  rise = (inl (omega arith), omega arith, omega arith, omega arith, tt);
}
