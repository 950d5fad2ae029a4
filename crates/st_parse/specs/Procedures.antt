-- The procedures that a statement may call, by the names of their packages and their own.
use Rattle.std.specs.Prelude.{ℕ, ◌≡◌, ◌&&◌, List, [], ◌∷◌, bytes_eq, Option, Some, None, codes, refl}
use Rattle.std.specs.Bool.{if◌then◌else◌}
use Rattle.st_parse.specs.declared.procedures.Definition.{Definition}
use Rattle.st_parse.specs.declared.procedures.Definition.TheVariants.{CreatePreference, SetAttribute, CreateStoplist, AddStopword, CreateSectionGroup, AddZoneSection, AddFieldSection, AddSpecialSection, CreateIndexSet, AddIndex}
use Rattle.st_parse.specs.declared.procedures.ThesaurusCall.{ThesaurusCall}
use Rattle.st_parse.specs.declared.procedures.ThesaurusCall.TheVariants.{CreateThesaurus, CreateRelation}
use Rattle.st_parse.specs.declared.procedures.Procedure.{Procedure}
use Rattle.st_parse.specs.declared.procedures.Procedure.TheVariants.{PolicyTokens, SyncIndex, OptimizeIndex, ResultSet, Define, Thesaurus}

abbrev pub definition_name : Definition → List ℕ
definition_name CreatePreference = codes "create_preference"
definition_name SetAttribute = codes "set_attribute"
definition_name CreateStoplist = codes "create_stoplist"
definition_name AddStopword = codes "add_stopword"
definition_name CreateSectionGroup = codes "create_section_group"
definition_name AddZoneSection = codes "add_zone_section"
definition_name AddFieldSection = codes "add_field_section"
definition_name AddSpecialSection = codes "add_special_section"
definition_name CreateIndexSet = codes "create_index_set"
definition_name AddIndex = codes "add_index"

abbrev pub thesaurus_call_name : ThesaurusCall → List ℕ
thesaurus_call_name CreateThesaurus = codes "create_thesaurus"
thesaurus_call_name CreateRelation = codes "create_relation"

abbrev pub procedure_package : Procedure → List ℕ
procedure_package PolicyTokens = codes "ctx_doc"
procedure_package SyncIndex = codes "ctx_ddl"
procedure_package OptimizeIndex = codes "ctx_ddl"
procedure_package ResultSet = codes "ctx_query"
procedure_package (Define definition) = codes "ctx_ddl"
procedure_package (Thesaurus call) = codes "ctx_thes"

abbrev pub procedure_name : Procedure → List ℕ
procedure_name PolicyTokens = codes "policy_tokens"
procedure_name SyncIndex = codes "sync_index"
procedure_name OptimizeIndex = codes "optimize_index"
procedure_name ResultSet = codes "result_set"
procedure_name (Define definition) = definition_name definition
procedure_name (Thesaurus call) = thesaurus_call_name call

abbrev pub all_procedures : List Procedure
all_procedures =
    PolicyTokens ∷ SyncIndex ∷ OptimizeIndex ∷ ResultSet ∷ Define CreatePreference ∷ Define SetAttribute ∷ Define CreateStoplist ∷ Define AddStopword ∷ Define CreateSectionGroup
    ∷ Define AddZoneSection ∷ Define AddFieldSection ∷ Define AddSpecialSection ∷ Define CreateIndexSet ∷ Define AddIndex ∷ Thesaurus CreateThesaurus ∷ Thesaurus CreateRelation ∷ []

-- the first of some that has these names
abbrev pub procedure_among : List ℕ → List ℕ → List Procedure → Option Procedure
procedure_among pack name [] = None
procedure_among pack name (p ∷ ps) = if bytes_eq (procedure_package p) pack && bytes_eq (procedure_name p) name then Some p else procedure_among pack name ps

-- the procedure of these names, which are given in lower case
abbrev pub procedure_named : List ℕ → List ℕ → Option Procedure
procedure_named pack name = procedure_among pack name all_procedures

-- computed examples
a_definition : procedure_named (codes "ctx_ddl") (codes "add_stopword") ≡ Some (Define AddStopword)
a_definition = refl

a_sub_index : procedure_named (codes "ctx_ddl") (codes "add_index") ≡ Some (Define AddIndex)
a_sub_index = refl

a_relation : procedure_named (codes "ctx_thes") (codes "create_relation") ≡ Some (Thesaurus CreateRelation)
a_relation = refl

an_optimisation : procedure_named (codes "ctx_ddl") (codes "optimize_index") ≡ Some OptimizeIndex
an_optimisation = refl

a_result_set : procedure_named (codes "ctx_query") (codes "result_set") ≡ Some ResultSet
a_result_set = refl

of_another_package : procedure_named (codes "ctx_doc") (codes "add_stopword") ≡ None
of_another_package = refl
