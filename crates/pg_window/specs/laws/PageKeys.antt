-- The keys that stand on pages, and the values that they have there.
use Rattle.std.specs.Prelude.{Bool, true, false, cond}
use Rattle.std.proofs.Common.{◌≡◌, ⊎_elim, ℕ, zero, suc, ◌<◌, ◌≤◌, List, [], ◌∷◌, length, get_or, Option, Some, None, refl, sym, ap, subst, ◌∙◌, arith, append-nil}
use Rattle.std.specs.Bool.{if◌then◌else◌}
use Rattle.std.specs.Option.{option_or, unwrap_or}
use Rattle.std.specs.FinMap.{get, get-empty}
use Rattle.std.specs.Ordering.{nat_cmp}
use Rattle.std.specs.Cmp.Lexicographic.{slice_cmp}
use Rattle.std.proofs.lemmas.Bool.{cases_lt}
use Rattle.std.proofs.lemmas.List.{get_or_past}
use Rattle.ct_keep.specs.Content.{after}
use Rattle.ct_keep.specs.laws.Content.{last_change, get-after, same, same_itself, same_keys}
use Rattle.pg_map.specs.Done.{HasKeyAt}
use Rattle.pg_map.specs.Holding.{Placed, StandsFor, bytes_of}
use Rattle.pg_map.specs.Kinds.{Kind, Free, Slotted, Long, strings_of, IsStringItem, Entry}
use Rattle.pg_map.specs.Loose.{values_under, held, AreValues, Stand}
use Rattle.pg_map.specs.MapReading.{puts, nothing}
use Rattle.pg_map.specs.PageStrings.{string_key}
use Rattle.pg_map.specs.laws.Holding.{stands_key, each-left, each-right}
use Rattle.pg_map.specs.laws.PageStrings.{item_key}
use Rattle.pg_map.specs.laws.Standing.{Items}
use Rattle.pg_window.specs.laws.Parts.{PageParts, all_placed, AreParts, placed_values, part_at}

-- ---- keys on pages

-- No string of these has the key.
NoKey : List (List ℕ) → List ℕ → Type 0
NoKey ss key = (number : ℕ) → number < length ss → string_key (get_or ss number []) ≡ key → ⊥

no_value : (ks : List Kind) (key : List ℕ) (ps : List Placed) → Items ps → Stand ks ps → NoKey (bytes_of ps) key → placed_values key ps ≡ []
unfolding NoKey
no_value ks key [] items stand none = refl
no_value ks key (p ∷ ps) items stand none = of (same key p.entry.0) refl (no_value ks key ps items.1 stand.1 (λ number less. none (suc number) (omega (arith, less))))
  where
    of : (b : Bool) → same key p.entry.0 ≡ b → placed_values key ps ≡ [] → cond b (p.entry.1 ∷ placed_values key ps) (placed_values key ps) ≡ []
    of true eq rest = absurd (none 0 (omega arith) (item_key p.item items.0 ∙ sym (stands_key ks p.item p.entry p.chain stand.0) ∙ sym (same_keys key p.entry.0 eq)))
    of false eq rest = rest

a_value : (ks : List Kind) (ps : List Placed) (number : ℕ) (key : List ℕ) → Items ps → Stand ks ps → number < length (bytes_of ps) → string_key (get_or (bytes_of ps) number []) ≡ key → placed_values key ps ≡ [] → ⊥
a_value ks [] number key items stand less is none = omega (arith, less)
a_value ks (p ∷ ps) zero key items stand less is none = of (same key p.entry.0) refl none
  where
    here_ : key ≡ p.entry.0
    here_ = sym is ∙ item_key p.item items.0 ∙ sym (stands_key ks p.item p.entry p.chain stand.0)

    of : (b : Bool) → same key p.entry.0 ≡ b → cond b (p.entry.1 ∷ placed_values key ps) (placed_values key ps) ≡ [] → ⊥
    of true eq x = cc x
    of false eq x = cc (sym eq ∙ ap (λ (k : List ℕ). same k p.entry.0) here_ ∙ same_itself p.entry.0)
a_value ks (p ∷ ps) (suc number) key items stand less is none = a_value ks ps number key items.1 stand.1 (omega (arith, less)) is (of (same key p.entry.0) none)
  where
    of : (b : Bool) → cond b (p.entry.1 ∷ placed_values key ps) (placed_values key ps) ≡ [] → placed_values key ps ≡ []
    of true x = absurd (cc x)
    of false x = x

-- the placed strings of one page
pub record OnPage (ks : List Kind) (ps : List Placed) : Type 0 where
  pub items : Items ps
  pub stand : Stand ks ps

pub on_page : (ks : List Kind) (ps : PageParts) (at : ℕ) → Items (all_placed ps) → Stand ks (all_placed ps) → OnPage ks (get_or ps at [])
on_page ks [] at items stand = record { items = tt; stand = tt }
on_page ks (p ∷ ps) zero items stand = record {
  items = each-left (λ (q : Placed). IsStringItem q.item) p (all_placed ps) items;
  stand = each-left (λ (q : Placed). StandsFor ks q.item q.entry q.chain) p (all_placed ps) stand;
}
on_page ks (p ∷ ps) (suc at) items stand =
    on_page ks ps at (each-right (λ (q : Placed). IsStringItem q.item) p (all_placed ps) items) (each-right (λ (q : Placed). StandsFor ks q.item q.entry q.chain) p (all_placed ps) stand)

-- a place with a page that has strings is one of a page
within_of : (ks : List Kind) (at : ℕ) (ss : List (List ℕ)) → get_or ks at Free ≡ Slotted ss → at < length ks
within_of ks at ss is = ⊎_elim (λ less. less) (λ past. absurd (cc (sym (get_or_past ks at Free past) ∙ is))) (cases_lt at (length ks))

key_by_strings : (ks : List Kind) (at number : ℕ) (key : List ℕ) → (k : Kind) → get_or ks at Free ≡ k → number < length (strings_of (k ∷ [])) → string_key (get_or (strings_of (k ∷ [])) number []) ≡ key → HasKeyAt ks at key
key_by_strings ks at number key Free kind less is = absurd (omega (arith, less))
key_by_strings ks at number key (Slotted ss) kind less is = record {
  within = within_of ks at ss kind;
  strings = ss;
  number = number;
  kind = kind;
  is = record { within = subst (λ (l : List (List ℕ)). number < length l) (append-nil ss) less; is = subst (λ (l : List (List ℕ)). string_key (get_or l number []) ≡ key) (append-nil ss) is };
}
key_by_strings ks at number key (Long next bytes) kind less is = absurd (omega (arith, less))

pub no_key_no_value : (ks ls : List Kind) (ps : PageParts) (at : ℕ) (key : List ℕ) → AreParts ks ps → Items (all_placed ps) → Stand ls (all_placed ps) → (HasKeyAt ks at key → ⊥) → placed_values key (get_or ps at []) ≡ []
unfolding NoKey
no_key_no_value ks ls ps at key are items stand none =
    let o = on_page ls ps at items stand in
    no_value ls key (get_or ps at []) o.items o.stand
    (λ number less is. none (key_by_strings ks at number key (get_or ks at Free) refl (subst (λ (l : List (List ℕ)). number < length l) (sym (part_at ks ps at are)) less) (ap (λ (l : List (List ℕ)). string_key (get_or l number [])) (part_at ks ps at are) ∙ is)))

pub key_has_value : (ks ls : List Kind) (ps : PageParts) (at : ℕ) (key : List ℕ) → AreParts ks ps → Items (all_placed ps) → Stand ls (all_placed ps) → HasKeyAt ks at key → placed_values key (get_or ps at []) ≡ [] → ⊥
key_has_value ks ls ps at key are items stand has none =
    let o = on_page ls ps at items stand in
    let bytes : bytes_of (get_or ps at []) ≡ has.strings = sym (part_at ks ps at are) ∙ ap (λ (k : Kind). strings_of (k ∷ [])) has.kind ∙ append-nil has.strings in
    a_value ls (get_or ps at []) has.number key o.items o.stand (subst (λ (l : List (List ℕ)). has.number < length l) (sym bytes) has.is.within) (ap (λ (l : List (List ℕ)). string_key (get_or l has.number [])) bytes ∙ has.is.is) none

-- ---- a map of some entries

no_put : (key : List ℕ) (es : List Entry) → values_under key es ≡ [] → last_change key (puts es) ≡ None
no_put key [] none = refl
no_put key (e ∷ es) none = of (same key e.0) none (λ rest. no_put key es rest)
  where
    of : (b : Bool) → cond b (e.1 ∷ values_under key es) (values_under key es) ≡ [] → (values_under key es ≡ [] → last_change key (puts es) ≡ None) → option_or (last_change key (puts es)) (if b then Some (Some e.1) else None) ≡ None
    of true x more = absurd (cc x)
    of false x more = ap (λ (o : Option (Option (List ℕ))). option_or o None) (more x)

one_put : (key v : List ℕ) (es : List Entry) → values_under key es ≡ v ∷ [] → last_change key (puts es) ≡ Some (Some v)
one_put key v [] one = absurd (cc one)
one_put key v (e ∷ es) one = of (same key e.0) one (λ rest. one_put key v es rest)
  where
    of : (b : Bool) → cond b (e.1 ∷ values_under key es) (values_under key es) ≡ v ∷ [] → (values_under key es ≡ v ∷ [] → last_change key (puts es) ≡ Some (Some v)) → option_or (last_change key (puts es)) (if b then Some (Some e.1) else None) ≡ Some (Some v)
    of true x more = ap (λ (o : Option (Option (List ℕ))). option_or o (Some (Some e.1))) (no_put key es (cc x)) ∙ ap (λ (w : List ℕ). Some (Some w)) (cc x)
    of false x more = ap (λ (o : Option (Option (List ℕ))). option_or o None) (more x)

pub map_of : (es : List Entry) → ((key : List ℕ) → length (values_under key es) ≤ 1) → AreValues es (after (puts es) nothing)
map_of es few = record { are = λ key. of key (values_under key es) refl (few key) }
  where
    of : (key : List ℕ) (vs : List (List ℕ)) → values_under key es ≡ vs → length (values_under key es) ≤ 1 → values_under key es ≡ held (get (after (puts es) nothing) key)
    of key [] is less = is ∙ sym (ap held (get-after (puts es) nothing key ∙ ap (λ (o : Option (Option (List ℕ))). unwrap_or o (get nothing key)) (no_put key es is) ∙ get-empty (slice_cmp nat_cmp) key))
    of key (v ∷ []) is less = is ∙ sym (ap held (get-after (puts es) nothing key ∙ ap (λ (o : Option (Option (List ℕ))). unwrap_or o (get nothing key)) (one_put key v es is)))
    of key (v ∷ w ∷ vs) is less = absurd (let l = ap (λ (x : List (List ℕ)). length x) is in omega (arith, l, less))

pub held_few : (o : Option (List ℕ)) → length (held o) ≤ 1
held_few None = omega arith
held_few (Some v) = omega arith

pub held_one : (o p : Option (List ℕ)) → held o ≡ held p → o ≡ p
held_one None None is = refl
held_one None (Some v) is = absurd (cc is)
held_one (Some v) None is = absurd (cc is)
held_one (Some v) (Some w) is = cc is
