use Rattle.std.proofs.Common.{◌≡◌, ◌⊎◌, inl, inr}
use Rattle.ix_kinds.specs.Sums.{either}
use Rattle.ix_kinds.specs.laws.Sums.{either_laws}
use Rattle.db_names.specs.declared.heads.IndexKind.{IndexKind}
use Rattle.db_names.specs.declared.heads.IndexKind.TheVariants.{Context, Catalogue, Rules}
use Rattle.ix_context.specs.Indexes.{ContextIndex}
use Rattle.ix_context.specs.Contexts.{context}
use Rattle.ix_context.specs.laws.ContextCreates.{context_laws}
use Rattle.cat_index.specs.Catalogues.{CatalogueBody}
use Rattle.cat_index.specs.Kind.{catalogue}
use Rattle.cat_index.specs.laws.Kind.{catalogue_laws}
use Rattle.ix_indexes.specs.Indexes.{Defined}
use Rattle.test_kinds.specs.RowLists.{row_lists}
use Rattle.test_kinds.specs.laws.RowLists.{lists_keep}
use Rattle.test_kinds.proofs.laws.kinds_with_row_lists_keep_the_laws.Goals as goal

others_differ : (b : CatalogueBody) (l : Unit {0}) → (catalogue {D = Defined}).kind b ≡ (row_lists {D = Defined}).kind l → ⊥
others_differ b l e = let wrong : ◌≡◌ {A = IndexKind} Catalogue Rules = e in cc

differ : (b : ContextIndex) (c : CatalogueBody ⊎ Unit {0}) → (context {D = Defined}).kind b ≡ (either (catalogue {D = Defined}) row_lists).kind c → ⊥
differ b (inl c) e = let wrong : ◌≡◌ {A = IndexKind} Context Catalogue = e in cc
differ b (inr l) e = let wrong : ◌≡◌ {A = IndexKind} Context Rules = e in cc

pub returns : goal.returns
returns c = either_laws context (either (catalogue {D = Defined}) row_lists) context_laws (either_laws catalogue row_lists catalogue_laws lists_keep others_differ) differ
