-- The kinds of indexes that CREATE INDEX makes.
use Rattle.std.specs.Prelude.{◌≡◌, false, List, [], ◌∷◌, Some, codes, refl}
use Rattle.st_parse.specs.declared.statements.IndexKind.{IndexKind as StatementKind}
use Rattle.st_parse.specs.declared.statements.IndexKind.TheVariants as asked
use Rattle.db_names.specs.declared.heads.IndexKind.{IndexKind}
use Rattle.db_names.specs.declared.heads.IndexKind.TheVariants as kept
use Rattle.tx_prefs.specs.declared.kinds.PrefKind.{PrefKind}
use Rattle.tx_prefs.specs.declared.kinds.PrefKind.TheVariants.{Lexer, Stoplist, SectionGroup, IndexSet}
use Rattle.tx_prefs.specs.Requests.{asks_only, request}
use Rattle.db_index.specs.declared.kinds.BuiltKind.{BuiltKind}
use Rattle.db_index.specs.declared.kinds.BuiltKind.TheVariants.{Context, Catalogue, Rules}

-- the kind that a statement asks for
abbrev pub built_kind : StatementKind → BuiltKind
built_kind asked.Context = Context
built_kind asked.Ctxcat = Catalogue
built_kind asked.Ctxrule = Rules

-- the kind that such an index has
abbrev pub index_kind : BuiltKind → IndexKind
index_kind Context = kept.Context
index_kind Catalogue = kept.Catalogue
index_kind Rules = kept.Rules

-- the kinds of requests that its PARAMETERS may have
abbrev pub requests_taken : BuiltKind → List PrefKind
requests_taken Context = Lexer ∷ Stoplist ∷ SectionGroup ∷ []
requests_taken Catalogue = Lexer ∷ Stoplist ∷ IndexSet ∷ []
requests_taken Rules = Lexer ∷ Stoplist ∷ SectionGroup ∷ []

-- computed examples
of_rules : index_kind (built_kind asked.Ctxrule) ≡ kept.Rules
of_rules = refl

no_set_for_rules : asks_only (requests_taken Rules) (request IndexSet (Some (codes "s")) ∷ []) ≡ false
no_set_for_rules = refl
