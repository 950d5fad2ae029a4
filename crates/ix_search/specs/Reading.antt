-- What is read of an index for a query.
use Rattle.std.specs.Prelude.{ℕ, ◌≡◌, ◌≤◌, List, [], ◌∷◌, ◌++◌, map, refl}
use Rattle.ct_base.specs.Limits.{stream_limit}
use Rattle.ct_base.specs.Names.{IsName}
use Rattle.ct_keep.specs.Content.{Content}
use Rattle.ct_entry.specs.declared.kinds.Kind.TheVariants as kind
use Rattle.ct_entry.specs.Keys.{IsToken}
use Rattle.ct_entry.specs.Lists.{EachIs}
use Rattle.ct_entry.specs.Listings.{owner_entries}
use Rattle.ix_posting.specs.Rows.{WordDocument, SpanDocument}
use Rattle.ix_rows.specs.SpanRows.{section_term}
use Rattle.ix_posting.specs.Forms.{pair_form}
use Rattle.q_tree.specs.declared.flats.PatternBit.{PatternBit}
use Rattle.q_tree.specs.declared.flats.Slot.TheVariants.{Any}
use Rattle.q_tree.specs.ReducedQueries.{Reduced}
use Rattle.ix_cursor.specs.declared.reading.SlotFeed.{SlotFeed}
use Rattle.ix_cursor.specs.declared.reading.SectionFeed.{SectionFeed}
use Rattle.ix_cursor.specs.declared.reading.Feeds.{Feeds}
use Rattle.ix_search.specs.declared.wanting.Wanted.{Wanted}
use Rattle.ix_search.specs.Parts.{keys_of, patterns_of}
use Rattle.ix_search.specs.Wanting.{with_slots, with_names}
use Rattle.ix_rows.specs.Taking.{Hold}
use Rattle.ix_tokens.specs.Tokens.{KeyRows, HoldsKey, HoldsStream, AreMatchingRows}

-- rows of each section; those of each token are in `Tokens.antt` of `ix_tokens`
abbrev pub NameRows : Type 0
NameRows = List ℕ → List (List SpanDocument)

-- the content holds these rows of each token in each stream
abbrev pub HoldsTokens : Content → List ℕ → KeyRows → Type 0
HoldsTokens m i held = (stream : ℕ) → stream ≤ stream_limit → HoldsStream m i stream held

-- of a section
abbrev pub HoldsName : Content → List ℕ → NameRows → List ℕ → Type 0
HoldsName m i held name = IsName name → Hold pair_form (owner_entries kind.Spans i (section_term name) m) (held name)

-- ---- what is read

-- the rows of the tokens that some patterns take, pattern by pattern
abbrev pub AreRowsOfPatterns : KeyRows → ℕ → List (List PatternBit) → List (List (List WordDocument)) → Type 0
AreRowsOfPatterns held stream [] all = all ≡ []
AreRowsOfPatterns held stream (p ∷ ps) all = (first : List (List (List WordDocument))) × (rest : List (List (List WordDocument))) × (all ≡ first ++ rest) × AreMatchingRows held stream p first × AreRowsOfPatterns held stream ps rest

-- WHAT IS READ OF A SLOT in its stream: the rows of each of its keys, and each row of the tokens that its patterns take.
pub record IsSlotFeed (held : KeyRows) (w : Wanted) (f : SlotFeed) : Type 0 where
  pub stream : f.stream ≡ w.stream
  pub slot : f.slot ≡ w.slot
  pub by_patterns : List (List (List WordDocument))
  pub tokens : f.tokens ≡ map (held w.stream) (keys_of w.slot) ++ by_patterns
  pub are : AreRowsOfPatterns held w.stream (patterns_of w.slot) by_patterns

-- of each of some slots
abbrev pub AreSlotFeeds : KeyRows → List Wanted → List SlotFeed → Type 0
AreSlotFeeds held [] [] = Unit {0}
AreSlotFeeds held [] (f ∷ fs) = ⊥
AreSlotFeeds held (w ∷ ws) [] = ⊥
AreSlotFeeds held (w ∷ ws) (f ∷ fs) = IsSlotFeed held w f × AreSlotFeeds held ws fs

-- of a section
abbrev pub section_feed : NameRows → List ℕ → SectionFeed
section_feed held name = record { section = name; rows = held name }

-- the slots and sections of a query
abbrev pub wanted_slots : Reduced → List Wanted
wanted_slots f = with_slots f 0 []

abbrev pub section_names : Reduced → List (List ℕ)
section_names f = with_names f []

-- WHAT IS READ FOR A QUERY, by the rows that there are
pub record AreFeedsOf (words : KeyRows) (spans : NameRows) (q : Reduced) (feeds : Feeds) : Type 0 where
  pub slots : AreSlotFeeds words (wanted_slots q) feeds.slots
  pub sections : feeds.sections ≡ map (section_feed spans) (section_names q)

-- ---- what was read, by the rows that the content holds

-- of each of some keys in a stream
abbrev pub AreRowsOfKeys : Content → List ℕ → ℕ → List (List ℕ) → List (List (List WordDocument)) → Type 0
AreRowsOfKeys m i stream keys rows = (held : List ℕ → List (List WordDocument)) → EachIs (λ key. HoldsKey m i stream key (held key)) keys → rows ≡ map held keys

-- of the tokens that some patterns take in a stream
abbrev pub AreRowsInStream : Content → List ℕ → ℕ → List (List PatternBit) → List (List (List WordDocument)) → Type 0
AreRowsInStream m i stream patterns rows = (held : KeyRows) → HoldsStream m i stream held → AreRowsOfPatterns held stream patterns rows

-- keys of 1 to 255 bytes, in a stream that there is
pub record CanBeRead (w : Wanted) : Type 0 where
  pub stream : w.stream ≤ stream_limit
  pub keys : EachIs IsToken (keys_of w.slot)

-- of each of some slots
abbrev pub AreFeedsOfSlots : Content → List ℕ → List Wanted → List SlotFeed → Type 0
AreFeedsOfSlots m i slots feeds = (held : KeyRows) → HoldsTokens m i held → EachIs CanBeRead slots → AreSlotFeeds held slots feeds

-- of each of some sections
abbrev pub AreFeedsOfSections : Content → List ℕ → List (List ℕ) → List SectionFeed → Type 0
AreFeedsOfSections m i names feeds = (held : NameRows) → EachIs (HoldsName m i held) names → feeds ≡ map (section_feed held) names

-- and of a query
abbrev pub AreFeedsOfQuery : Content → List ℕ → Reduced → Feeds → Type 0
AreFeedsOfQuery m i q feeds =
    (words : KeyRows) (spans : NameRows) → HoldsTokens m i words → EachIs CanBeRead (wanted_slots q) → EachIs (HoldsName m i spans) (section_names q) → AreFeedsOf words spans q feeds

-- computed example: of a slot that takes any word nothing is read
of_any_word : (held : KeyRows) → IsSlotFeed held (record { stream = 0; slot = Any }) (record { stream = 0; slot = Any; tokens = [] })
of_any_word held = record { stream = refl; slot = refl; by_patterns = []; tokens = refl; are = refl }
