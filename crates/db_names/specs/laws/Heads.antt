-- What holds of the heads of all indexes: an entry has one, and what is read of the entries of indexes are their heads.
use Rattle.std.proofs.Common.{◌≡◌, ℕ, Bool, true, false, cond, List, [], ◌∷◌, ◌++◌, Option, Some, None, refl, sym, ap, subst, ◌∙◌, append_assoc}
use Rattle.std.specs.Prelude.{◌↔◌}
use Rattle.std.specs.List.{All, Contains}
use Rattle.std.specs.Map.{lookup}
use Rattle.std.specs.FinMap.{get, entries, get-entries}
use Rattle.std.proofs.lemmas.List.Elements.{All-weaker, All-contains_itself}
use Rattle.std.proofs.lemmas.Map.Entries.{option_filter}
use Rattle.std.proofs.lemmas.Option.{same_Some}
use Rattle.ct_base.specs.laws.Lists.{cons_parts}
use Rattle.db_names.specs.Promises.{EntriesHaveOneHead, HeadsAreRead, IndexesOnAreRead, is_on_table, head_of, heads_of, IndexesOfAreRead}
use Rattle.ct_bytes.specs.Varints.{text_bytes}
use Rattle.ct_bytes.specs.laws.Varints.{text_apart}
use Rattle.ct_keep.specs.laws.RisingKeys.{rises, entries_rise}
use Rattle.ct_entry.specs.declared.kinds.Kind.TheVariants as entry
use Rattle.ct_entry.specs.Keys.{Key, key, same_list}
use Rattle.ct_entry.specs.Maps.{Names}
use Rattle.ct_entry.specs.laws.Keys.{list_from_same, list_same}
use Rattle.ct_entry.specs.Listings.{key_order, in_key_order}
use Rattle.ct_entry.specs.laws.Owners.{key_order_total, get-in_key_order}
use Rattle.db_names.specs.declared.heads.IndexKind.{IndexKind}
use Rattle.db_names.specs.declared.heads.IndexKind.TheVariants.{Context, Catalogue, Rules}
use Rattle.db_names.specs.declared.heads.IndexHead.{IndexHead}
use Rattle.db_names.specs.Heads.{index_code, index_head_bytes, HasHead, SpellsHead, HasHeadOrNone, HeadsStand}
use Rattle.db_names.specs.Findings.{IsIndexWith, AreIndexesOf}
use Rattle.db_names.specs.laws.Pairs.{lookup-find, find-filter, rises_filter, same_pairs, pair_at, contains_at}

-- ---- one head

pub kind_one : (a b : IndexKind) → index_code a ≡ index_code b → a ≡ b
kind_one Context Context e = refl
kind_one Context Catalogue e = cc
kind_one Context Rules e = cc
kind_one Catalogue Context e = cc
kind_one Catalogue Catalogue e = refl
kind_one Catalogue Rules e = cc
kind_one Rules Context e = cc
kind_one Rules Catalogue e = cc
kind_one Rules Rules e = refl

pub head_apart : (g h : IndexHead) (x y : List ℕ) → index_head_bytes g.kind g.target.table g.target.column ++ x ≡ index_head_bytes h.kind h.target.table h.target.column ++ y → g ≡ h
head_apart g h x y e =
    let c = cons_parts _ _ _ _ e in
    let t = text_apart g.target.table h.target.table (g.target.column ∷ x) (h.target.column ∷ y)
    (sym (append_assoc (text_bytes g.target.table) (g.target.column ∷ []) x) ∙ c.1 ∙ append_assoc (text_bytes h.target.table) (h.target.column ∷ []) y) in
    let kind : g.kind ≡ h.kind = kind_one g.kind h.kind c.0 in
    let column = cons_parts _ _ _ _ t.1 in
    λ i. record { kind = kind i; target = record { table = t.0 i; column = column.0 i } }

pub has_one : (e : Option (List ℕ)) (g h : IndexHead) → HasHead e g → HasHead e h → g ≡ h
has_one e g h x y = head_apart g h x.rest y.rest (same_Some _ _ (sym x.whole ∙ y.whole))

pub head_one : EntriesHaveOneHead
head_one e None None x y = refl
head_one e None (Some b) x y = absurd (x b y.0 y.1)
head_one e (Some a) None x y = absurd (y a x.0 x.1)
head_one e (Some a) (Some b) x y = ap Some (has_one e a b x.1 y.1)

-- ---- what is read

pub head_read : HeadsAreRead
head_read f hs stand i found is = head_one (f (key entry.Indexes i [])) found (get hs i) is (go (get hs i) refl (stand.heads i))
  where
    go : (o : Option IndexHead) → get hs i ≡ o → HasHeadOrNone (f (key entry.Indexes i [])) o → SpellsHead (f (key entry.Indexes i [])) o
    go None here none = λ h is has. let wrong : None ≡ Some (index_head_bytes h.kind h.target.table h.target.column ++ has.rest) = sym none ∙ has.whole in cc
    go (Some h) here has = (stand.each i h here, has)

-- an index is one of those for which the entries stand, and the other way round
pub index_read : (f : Key → Option (List ℕ)) (hs : Names IndexHead) → HeadsStand f hs → (i : List ℕ) (h : IndexHead) → IsIndexWith f i h → get hs i ≡ Some h
index_read f hs stand i h is = sym (head_read f hs stand i (Some h) is.entry)

pub index_stands : (f : Key → Option (List ℕ)) (hs : Names IndexHead) → HeadsStand f hs → (i : List ℕ) (h : IndexHead) → get hs i ≡ Some h → IsIndexWith f i h
index_stands f hs stand i h here = record {
  name = stand.names i h here;
  entry = (stand.each i h here, subst (HasHeadOrNone (f (key entry.Indexes i []))) here (stand.heads i));
}

pub index_on_read : IndexesOnAreRead
index_on_read f hs stand target kind None none = λ i here. none i (index_stands f hs stand i (record { kind = kind; target = target }) here)
index_on_read f hs stand target kind (Some i) is = index_read f hs stand i (record { kind = kind; target = target }) is

-- what is found at a name is the head of the index, where it is on the table
pub found_at : (f : Key → Option (List ℕ)) (hs : Names IndexHead) → HeadsStand f hs → (t : List ℕ) (found : List (List ℕ × IndexHead)) → AreIndexesOf f t found → (i : List ℕ) → lookup (same_list i) found ≡ head_of t (get hs i)
found_at f hs stand t found are i = go (get hs i) refl (lookup (same_list i) found) refl
  where
    go : (o : Option IndexHead) → get hs i ≡ o → (r : Option IndexHead) → lookup (same_list i) found ≡ r → r ≡ head_of t o
    go None here None at = refl
    go None here (Some h) at = let wrong : None ≡ Some h = sym here ∙ index_read f hs stand i h ((are.each i h).0 at).0 in cc
    go (Some h) here None at = on_table (is_on_table t h) refl
      where
        on_table : (b : Bool) → is_on_table t h ≡ b → None ≡ cond b (Some h) None
        on_table true is = let wrong : None ≡ Some h = sym at ∙ (are.each i h).1 (index_stands f hs stand i h here, list_from_same h.target.table t is) in cc
        on_table false is = refl
    go (Some h) here (Some g) at =
        let p = (are.each i g).0 at in
        let same : Some h ≡ Some g = sym here ∙ index_read f hs stand i g p.0 in
        let here_too : is_on_table t h ≡ true = subst (λ (x : IndexHead). is_on_table t x ≡ true) (sym (same_Some _ _ same)) (subst (λ (u : List ℕ). same_list g.target.table u ≡ true) p.1 (list_same g.target.table)) in
        sym same ∙ sym (ap (λ (b : Bool). cond b (Some h) None) here_too)

-- what the indexes on a table have at a name
pub heads_at : (t : List ℕ) (hs : Names IndexHead) (i : List ℕ) → lookup (same_list i) (heads_of t hs) ≡ head_of t (get hs i)
heads_at t hs i =
    lookup-find i (heads_of t hs)
    ∙ find-filter key_order key_order_total (is_on_table t) (entries (in_key_order hs)) i (entries_rise key_order (in_key_order hs))
    ∙ ap (head_of t) (sym (get-entries (in_key_order hs) i) ∙ get-in_key_order hs i)

pub heads_rise : (t : List ℕ) (hs : Names IndexHead) → rises key_order (heads_of t hs) ≡ true
heads_rise t hs = rises_filter key_order (λ e. is_on_table t e.1) (entries (in_key_order hs)) (entries_rise key_order (in_key_order hs))

pub indexes_of_read : IndexesOfAreRead
indexes_of_read f hs stand t found are = same_pairs found (heads_of t hs) are.rising (heads_rise t hs) (λ i. found_at f hs stand t found are i ∙ sym (heads_at t hs i))

-- ---- the pairs of a list

-- a pair is in the list exactly where it is an index on the table
pub found_pairs : (f : Key → Option (List ℕ)) (t : List ℕ) (found : List (List ℕ × IndexHead)) → AreIndexesOf f t found → (i : List ℕ) (h : IndexHead) → Contains found (i, h) ↔ (IsIndexWith f i h × (h.target.table ≡ t))
found_pairs f t found are i h = (λ there. (are.each i h).0 (pair_at found (i, h) are.rising there), λ is. contains_at found i h ((are.each i h).1 is))

passed : (t : List ℕ) (o : Option IndexHead) (h : IndexHead) → option_filter (is_on_table t) o ≡ Some h → (o ≡ Some h) × (h.target.table ≡ t)
passed t None h is = cc
passed t (Some g) h is = go (is_on_table t g) refl is
  where
    go : (b : Bool) → is_on_table t g ≡ b → cond b (Some g) None ≡ Some h → (Some g ≡ Some h) × (h.target.table ≡ t)
    go true on same = let one : g ≡ h = same_Some _ _ same in (same, subst (λ (x : IndexHead). x.target.table ≡ t) one (list_from_same g.target.table t on))
    go false off same = cc

-- each of the indexes on a table is one of all, and on it
pub heads_each : (t : List ℕ) (hs : Names IndexHead) → All (λ e. (get hs e.0 ≡ Some e.1) × (e.1.target.table ≡ t)) (heads_of t hs)
heads_each t hs =
    All-weaker (Contains (heads_of t hs)) (λ e. (get hs e.0 ≡ Some e.1) × (e.1.target.table ≡ t))
    (λ e there. passed t (get hs e.0) e.1 (sym (heads_at t hs e.0) ∙ pair_at (heads_of t hs) e (heads_rise t hs) there))
    (heads_of t hs) (All-contains_itself (heads_of t hs))
