-- The byte of each kind of entry.
use Rattle.std.specs.Prelude.{ℕ, ◌≡◌, [], ◌∷◌, map, refl}
use Rattle.ct_entry.specs.declared.kinds.Kind.{Kind}
use Rattle.ct_entry.specs.declared.kinds.Kind.TheVariants.{Tables, RowNumbers, RowTexts, Preferences, Stoplists, SectionGroups, IndexSets, Thesauri, Relations, Indexes, DocumentRows, RowDocuments, Pending, Postings, Spans, Catalogue, Rules, Anchors, RuleFaults}

abbrev pub code : Kind → ℕ
code Tables = 0x01
code RowNumbers = 0x02
code RowTexts = 0x03
code Preferences = 0x10
code Stoplists = 0x11
code SectionGroups = 0x12
code IndexSets = 0x13
code Thesauri = 0x14
code Relations = 0x15
code Indexes = 0x20
code DocumentRows = 0x21
code RowDocuments = 0x22
code Pending = 0x23
code Postings = 0x24
code Spans = 0x25
code Catalogue = 0x28
code Rules = 0x2a
code Anchors = 0x2b
code RuleFaults = 0x2c

-- computed examples
of_tables : map code (Tables ∷ RowNumbers ∷ RowTexts ∷ []) ≡ 0x01 ∷ 0x02 ∷ 0x03 ∷ []
of_tables = refl

of_preferences : map code (Preferences ∷ Stoplists ∷ SectionGroups ∷ IndexSets ∷ Thesauri ∷ Relations ∷ []) ≡ 0x10 ∷ 0x11 ∷ 0x12 ∷ 0x13 ∷ 0x14 ∷ 0x15 ∷ []
of_preferences = refl

of_indexes : map code (Indexes ∷ DocumentRows ∷ RowDocuments ∷ Pending ∷ Postings ∷ Spans ∷ []) ≡ 0x20 ∷ 0x21 ∷ 0x22 ∷ 0x23 ∷ 0x24 ∷ 0x25 ∷ []
of_indexes = refl

of_catalogues_and_rules : map code (Catalogue ∷ Rules ∷ Anchors ∷ RuleFaults ∷ []) ≡ 0x28 ∷ 0x2a ∷ 0x2b ∷ 0x2c ∷ []
of_catalogues_and_rules = refl
