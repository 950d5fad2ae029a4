-- Steps of reading what PARAMETERS asks for.
use Rattle.std.proofs.Common.{◌≡◌, ℕ, Bool, true, false, cond, List, [], ◌∷◌, ◌++◌, Option, Some, None, refl, sym, ap, subst, ◌∙◌}
use Rattle.std.specs.Prelude.{IfSome, is_some}
use Rattle.std.specs.List.{list_all}
use Rattle.std.specs.Option.{option_map, option_and_then}
use Rattle.std.specs.FinMap.{get}
use Rattle.std.proofs.lemmas.Bool.{and_parts}
use Rattle.ct_base.specs.Names.{is_kept}
use Rattle.ct_entry.specs.Maps.{Names}
use Rattle.tb_table.specs.declared.columns.Column.{Column}
use Rattle.tb_table.specs.Rules.{has_column}
use Rattle.tx_tags.specs.Groups.{SectionGroup, no_sections}
use Rattle.tx_settings.specs.declared.preferences.Prefs.{Prefs}
use Rattle.tx_settings.specs.declared.attributes.Setting.{Setting}
use Rattle.tx_settings.specs.Attributes.{can_be_set}
use Rattle.tx_sets.specs.Sets.{are_sub_indexes, is_index_set}
use Rattle.tx_prefs.specs.declared.kinds.PrefKind.{PrefKind}
use Rattle.tx_prefs.specs.declared.kinds.PrefKind.TheVariants.{Lexer, Stoplist, SectionGroup as GroupKind, IndexSet}
use Rattle.tx_prefs.specs.declared.requests.Request.{Request}
use Rattle.tx_prefs.specs.Preferences.{Preferences}
use Rattle.tx_prefs.specs.Requests.{asks_only, is_kind_among, is_of, name_for, requested_parameters, requests_of}
use Rattle.tx_prefs.specs.Copies.{copied, meant, prefs_of}
use Rattle.tx_prefs.specs.Rules.{AreNamed}
use Rattle.db_state.specs.Columns.{first_unknown}
use Rattle.db_index.specs.declared.kinds.BuiltKind.{BuiltKind}
use Rattle.db_index.specs.declared.kinds.BuiltKind.TheVariants.{Context, Catalogue, Rules}
use Rattle.db_index.specs.declared.asking.Wanted.{Wanted}
use Rattle.db_index.specs.Kinds.{requests_taken}
use Rattle.db_index.specs.Asking.{AsksForIndex, CanBeCreated, SectionsFit, columns_named, first_unknown_name, requests_in, taken_by, subs_meant, as_wanted, wanted_by, wanted_in, wanted_of}

-- ---- columns that the table doesn't have

-- where there is none among the first names, the first is among the others, and else it is that one
pub unknown_later : (xs ys : List (List ℕ)) (cs : List Column) → first_unknown xs cs ≡ None → first_unknown (xs ++ ys) cs ≡ first_unknown ys cs
unknown_later [] ys cs none = refl
unknown_later (x ∷ xs) ys cs none = go (has_column x cs) none (unknown_later xs ys cs)
  where
    go : (b : Bool) → cond b (first_unknown xs cs) (Some x) ≡ None → (first_unknown xs cs ≡ None → first_unknown (xs ++ ys) cs ≡ first_unknown ys cs) → cond b (first_unknown (xs ++ ys) cs) (Some x) ≡ first_unknown ys cs
    go true none rest = rest none
    go false none rest = cc

pub unknown_here : (xs ys : List (List ℕ)) (cs : List Column) (name : List ℕ) → first_unknown xs cs ≡ Some name → first_unknown (xs ++ ys) cs ≡ Some name
unknown_here [] ys cs name is = cc
unknown_here (x ∷ xs) ys cs name is = go (has_column x cs) is (unknown_here xs ys cs name)
  where
    go : (b : Bool) → cond b (first_unknown xs cs) (Some x) ≡ Some name → (first_unknown xs cs ≡ Some name → first_unknown (xs ++ ys) cs ≡ Some name) → cond b (first_unknown (xs ++ ys) cs) (Some x) ≡ Some name
    go true is rest = rest is
    go false is rest = is

-- of the columns of sub-indexes, by what was found among those of the first
module _ {X : Type 0} (f : X → List ℕ) (o : Option X) (cs : List Column) (rest later : List (List (List ℕ))) (names : List (List ℕ)) (is : rest ≡ names ∷ later) (found : option_map f o ≡ first_unknown names cs) where
  parted : first_unknown (columns_named rest) cs ≡ first_unknown (names ++ columns_named later) cs
  parted = ap (λ (l : List (List (List ℕ))). first_unknown (columns_named l) cs) is

  pub set_here : is_some o ≡ true → option_map f o ≡ first_unknown (columns_named rest) cs
  set_here some = go o found some
    where
      go : (p : Option X) → option_map f p ≡ first_unknown names cs → is_some p ≡ true → option_map f p ≡ first_unknown (columns_named rest) cs
      go None e h = cc
      go (Some x) e h = sym (parted ∙ unknown_here names (columns_named later) cs (f x) (sym e))

  pub set_later : is_some o ≡ false → first_unknown (columns_named later) cs ≡ first_unknown (columns_named rest) cs
  set_later none = go o found none
    where
      go : (p : Option X) → option_map f p ≡ first_unknown names cs → is_some p ≡ false → first_unknown (columns_named later) cs ≡ first_unknown (columns_named rest) cs
      go None e h = sym (parted ∙ unknown_later names (columns_named later) cs (sym e))
      go (Some x) e h = cc

-- ---- index sets

-- what the name means is what it has
pub meant_is : (xs : Names (List (List (List ℕ)))) (name : Option (List ℕ)) (i : List ℕ) (o : Option (List (List (List ℕ)))) → name ≡ Some i → o ≡ get xs i → o ≡ meant xs [] name
meant_is xs name i o is has = has ∙ ap (meant xs []) (sym is)

-- those of a store are within the limits
pub set_within : (xs : Names (List (List (List ℕ)))) (i : List ℕ) (set : List (List (List ℕ))) → AreNamed is_index_set xs → Some set ≡ get xs i → are_sub_indexes set ≡ true
set_within xs i set are is = (and_parts (are_sub_indexes set) (list_all (list_all is_kept) set) (are.each i set (sym is))).0

-- ---- what is wanted

pub same_wanted : (p q : Option Prefs) (s t : Option (List (List (List ℕ)))) → p ≡ q → s ≡ t → wanted_of p s ≡ wanted_of q t
same_wanted p q s t a b = λ j. wanted_of (a j) (b j)

pub none_taken : (kind : BuiltKind) (text : List ℕ) (rs : List Request) (taken : Bool) → Some rs ≡ requests_of text → taken ≡ asks_only (requests_taken kind) rs → taken ≡ false → requests_in kind (Some text) ≡ None
none_taken kind text rs taken read is given = ap (option_and_then (taken_by kind)) (sym read) ∙ ap (λ (b : Bool). cond b (Some rs) None) (sym is ∙ given)

pub all_taken : (kind : BuiltKind) (text : List ℕ) (rs : List Request) (taken : Bool) → Some rs ≡ requests_of text → taken ≡ asks_only (requests_taken kind) rs → taken ≡ true → requests_in kind (Some text) ≡ Some rs
all_taken kind text rs taken read is given = ap (option_and_then (taken_by kind)) (sym read) ∙ ap (λ (b : Bool). cond b (Some rs) None) (sym is ∙ given)

pub none_read : (kind : BuiltKind) (text : List ℕ) → None ≡ requests_of text → requests_in kind (Some text) ≡ None
none_read kind text read = ap (option_and_then (taken_by kind)) (sym read)

-- where there are no requests, nothing is asked for
pub nothing_asked : (ps : Preferences) (cs : List Column) (requests : Option (List Request)) → requests ≡ None → AsksForIndex ps cs requests (record { unknown = None; wanted = None })
nothing_asked ps cs requests none = record { unknown = ap (first_unknown_name ps cs) (sym none); wanted = ap (wanted_in ps) (sym none) }

-- what is wanted can be created, where its parts can
pub can_be : (p : Option Prefs) (s : Option (List (List (List ℕ)))) (w : Option Wanted) → w ≡ wanted_of p s → IfSome p (λ prefs. can_be_set prefs.lexer ≡ true) → IfSome s (λ subs. are_sub_indexes subs ≡ true)
    → IfSome w CanBeCreated
can_be None s w is set subs = subst (λ (o : Option Wanted). IfSome o CanBeCreated) (sym is) tt
can_be (Some p) None w is set subs = subst (λ (o : Option Wanted). IfSome o CanBeCreated) (sym is) tt
can_be (Some p) (Some s) w is set subs = subst (λ (o : Option Wanted). IfSome o CanBeCreated) (sym is) (record { set = set; subs = subs })

-- ---- a catalogue asks for no sections

no_group_asked : (rs : List Request) → asks_only (requests_taken Catalogue) rs ≡ true → name_for GroupKind rs ≡ None
no_group_asked [] only = refl
no_group_asked (r ∷ rs) only =
    let both = and_parts (is_kind_among r.kind (requests_taken Catalogue)) (asks_only (requests_taken Catalogue) rs) only in
    ap (λ (b : Bool). cond b r.name (name_for GroupKind rs)) (go r.kind both.0) ∙ no_group_asked rs both.1
  where
    go : (k : PrefKind) → is_kind_among k (requests_taken Catalogue) ≡ true → is_of GroupKind k ≡ false
    go Lexer h = refl
    go Stoplist h = refl
    go GroupKind h = cc
    go IndexSet h = refl

-- so what is copied has none
group_of : (settings : Option (List Setting)) (words : Option (List (List ℕ))) (group : Option SectionGroup) (p : Prefs) → group ≡ Some no_sections
    → option_and_then (λ (s : List Setting). option_and_then (λ (w : List (List ℕ)). option_map (prefs_of s w) group) words) settings ≡ Some p → p.group ≡ no_sections
group_of None words group p none is = cc
group_of (Some s) None group p none is = cc
group_of (Some s) (Some w) None p none is = cc
group_of (Some s) (Some w) (Some g) p none is =
    let made : prefs_of s w g ≡ p = cc in
    let same : g ≡ no_sections = cc in
    sym (ap (λ (q : Prefs). q.group) made) ∙ same

copied_group : (ps : Preferences) (rs : List Request) (p : Prefs) → asks_only (requests_taken Catalogue) rs ≡ true → copied ps (requested_parameters rs) ≡ Some p → p.group ≡ no_sections
copied_group ps rs p only is = group_of (meant ps.lexers [] (name_for Lexer rs)) (meant ps.stoplists [] (name_for Stoplist rs)) (meant ps.groups no_sections (name_for GroupKind rs)) p (ap (meant ps.groups no_sections) (no_group_asked rs only)) is

-- the preferences of what is wanted were copied
prefs_copied : (p : Option Prefs) (s : Option (List (List (List ℕ)))) (w : Wanted) → wanted_of p s ≡ Some w → p ≡ Some w.prefs
prefs_copied None s w is = cc
prefs_copied (Some p) None w is = cc
prefs_copied (Some p) (Some s) w is = let made : as_wanted p s ≡ w = cc in ap Some (ap (λ (v : Wanted). v.prefs) made)

sections_by : (kind : BuiltKind) (ps : Preferences) (rs : List Request) (w : Wanted) → asks_only (requests_taken kind) rs ≡ true → wanted_by ps rs ≡ Some w → SectionsFit kind w
sections_by Context ps rs w only is = tt
sections_by Rules ps rs w only is = tt
sections_by Catalogue ps rs w only is = copied_group ps rs w.prefs only (prefs_copied (copied ps (requested_parameters rs)) (subs_meant ps rs) w is)

-- what is wanted of a kind has the sections that the kind may have
pub sections_fit : (kind : BuiltKind) (ps : Preferences) (parameters : Option (List ℕ)) (found : Option Wanted) → found ≡ wanted_in ps (requests_in kind parameters) → IfSome found (SectionsFit kind)
sections_fit kind ps parameters None is = tt
sections_fit kind ps None (Some w) is = sections_by kind ps [] w refl (sym is)
sections_fit kind ps (Some text) (Some w) is = go (requests_of text) (sym is)
  where
    taken : (rs : List Request) (b : Bool) → asks_only (requests_taken kind) rs ≡ b → wanted_in ps (cond b (Some rs) None) ≡ Some w → SectionsFit kind w
    taken rs true only is = sections_by kind ps rs w only is
    taken rs false only is = cc

    go : (o : Option (List Request)) → wanted_in ps (option_and_then (taken_by kind) o) ≡ Some w → SectionsFit kind w
    go None is = cc
    go (Some rs) is = taken rs (asks_only (requests_taken kind) rs) refl is
