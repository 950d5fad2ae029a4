-- Laws of the map that pages hold.
use Rattle.std.proofs.Common.{◌≤◌, ◌≡◌, ◌≢◌, ◌⊎◌, inl, inr, ⊎_elim, ℕ, zero, suc, ◌-◌, List, [], ◌∷◌, ◌++◌, get_or, Option, Some, None, refl, sym, ap, subst, ◌∙◌, append_assoc}
use Rattle.std.proofs.lemmas.List.{map-append}
use Rattle.std.specs.Option.{unwrap_or}
use Rattle.std.specs.List.{Contains, AllPairs}
use Rattle.std.specs.FinMap.{get}
use Rattle.ct_keep.specs.Content.{Content, Change, after}
use Rattle.ct_keep.specs.laws.Content.{last_change, get-after}
use Rattle.pg_map.specs.Kinds.{Each, Kind, Free, Slotted, Long, strings_of, StringItem, Short, Far, item_bytes, IsStringItem, key_in_item, Entry}
use Rattle.pg_map.specs.Holding.{kind_of_page, IsChain, Placed, StandsFor, times, one_if_long, AreEntries, IsLayout, chains_of, bytes_of, entries_of}

-- ---- entries after changes

-- From the one list of entries the changes lead to the other.
pub record ArePut (es es1 : List Entry) (ws : List Change) : Type 0 where
  pub each : (e : Entry) → Contains es1 e → (last_change e.0 ws ≡ Some (Some e.1)) ⊎ ((last_change e.0 ws ≡ None) × Contains es e)
  pub kept : (e : Entry) → Contains es e → last_change e.0 ws ≡ None → Contains es1 e
  pub put : (key value : List ℕ) → last_change key ws ≡ Some (Some value) → Contains es1 (key, value)
  pub apart : AllPairs (λ (a b : Entry). a.0 ≢ b.0) es1

pub entries_after : (es es1 : List Entry) (ws : List Change) (m : Content) → AreEntries es m → ArePut es es1 ws → AreEntries es1 (after ws m)
entries_after es es1 ws m old put = record {
  each = λ e has. ⊎_elim
      (λ is. get-after ws m e.0 ∙ ap (λ (o : Option (Option (List ℕ))). unwrap_or o (get m e.0)) is)
      (λ (none, was). get-after ws m e.0 ∙ ap (λ (o : Option (Option (List ℕ))). unwrap_or o (get m e.0)) none ∙ old.each e was) (put.each e has);
  all = λ key value is. found key value (last_change key ws) refl (sym (get-after ws m key) ∙ is);
  apart = put.apart;
}
  where
    found : (key value : List ℕ) (o : Option (Option (List ℕ))) → last_change key ws ≡ o → unwrap_or (last_change key ws) (get m key) ≡ Some value → Contains es1 (key, value)
    found key value None change is = put.kept (key, value) (old.all key value (sym (ap (λ (o : Option (Option (List ℕ))). unwrap_or o (get m key)) change) ∙ is)) change
    found key value (Some None) change is = absurd (cc (sym (ap (λ (o : Option (Option (List ℕ))). unwrap_or o (get m key)) change) ∙ is))
    found key value (Some (Some x)) change is = put.put key value (change ∙ ap (λ (o : Option (List ℕ)). Some o) (sym (ap (λ (o : Option (Option (List ℕ))). unwrap_or o (get m key)) change) ∙ is))

-- ---- long pages that stay

pub long_parts : (n k : ℕ) (b c : List ℕ) → Long n b ≡ Long k c → (n ≡ k) × (b ≡ c)
long_parts n k b c is = (cc is, cc is)

pub record KeepsLong (ks ls : List Kind) : Type 0 where
  pub kept : (i next : ℕ) (bytes : List ℕ) → kind_of_page ks i ≡ Long next bytes → kind_of_page ls i ≡ Long next bytes

pub chain_kept : (ks ls : List Kind) (first : ℕ) (is value : List ℕ) → KeepsLong ks ls → IsChain ks first is value → IsChain ls first is value
chain_kept ks ls first [] value keeps chain = chain
chain_kept ks ls first (i ∷ is) value keeps (at, least, next, bytes, rest, kind, parts, more) = (at, least, next, bytes, rest, keeps.kept i next bytes kind, parts, chain_kept ks ls next is rest keeps more)

pub stands_kept : (ks ls : List Kind) (item : StringItem) (e : Entry) (chain : List ℕ) → KeepsLong ks ls → StandsFor ks item e chain → StandsFor ls item e chain
stands_kept ks ls (Short key value) e chain keeps stands = stands
stands_kept ks ls (Far key count first) e chain keeps stands = (stands.0, stands.1, chain_kept ks ls first chain e.1 keeps stands.2)

-- ---- an item and its entry

pub stands_key : (ks : List Kind) (item : StringItem) (e : Entry) (chain : List ℕ) → StandsFor ks item e chain → e.0 ≡ key_in_item item
stands_key ks (Short key value) e chain stands = ap (λ (e : Entry). e.0) stands.0
stands_key ks (Far key count first) e chain stands = stands.0

-- ---- one page is changed

pub strings-append : (ks ls : List Kind) → strings_of (ks ++ ls) ≡ strings_of ks ++ strings_of ls
strings-append [] ls = refl
strings-append (Free ∷ ks) ls = strings-append ks ls
strings-append (Slotted ss ∷ ks) ls = ap (λ (l : List (List ℕ)). ss ++ l) (strings-append ks ls) ∙ sym (append_assoc ss (strings_of ks) (strings_of ls))
strings-append (Long next bytes ∷ ks) ls = strings-append ks ls

-- the kinds of pages before it and behind it
abbrev pub with_strings : List Kind → List (List ℕ) → List Kind → List Kind
with_strings ks ss ls = ks ++ Slotted ss ∷ ls

at_page : (ks ls : List Kind) (ss tt1 : List (List ℕ)) (n : ℕ) (d : Kind) → (get_or (with_strings ks ss ls) n d ≡ get_or (with_strings ks tt1 ls) n d) ⊎ ((get_or (with_strings ks ss ls) n d ≡ Slotted ss) × (get_or (with_strings ks tt1 ls) n d ≡ Slotted tt1))
at_page [] ls ss tt1 zero d = inr (refl, refl)
at_page [] ls ss tt1 (suc n) d = inl refl
at_page (k ∷ ks) ls ss tt1 zero d = inl refl
at_page (k ∷ ks) ls ss tt1 (suc n) d = at_page ks ls ss tt1 n d

pub page_keeps_long : (ks ls : List Kind) (ss tt1 : List (List ℕ)) → KeepsLong (with_strings ks ss ls) (with_strings ks tt1 ls)
page_keeps_long ks ls ss tt1 = record {
  kept = λ i next bytes is. ⊎_elim (λ same. sym same ∙ is) (λ (was, now). absurd (slotted_is_not_long ss next bytes (sym was ∙ is))) (at_page ks ls ss tt1 (i - 3) Free);
}
  where
    slotted_is_not_long : (us : List (List ℕ)) (next : ℕ) (bytes : List ℕ) → Slotted us ≡ Long next bytes → ⊥
    slotted_is_not_long us next bytes is = cc is

pub page_same_long : (ks ls : List Kind) (ss tt1 : List (List ℕ)) (i : ℕ) → one_if_long (kind_of_page (with_strings ks ss ls) i) ≡ one_if_long (kind_of_page (with_strings ks tt1 ls) i)
page_same_long ks ls ss tt1 i = ⊎_elim (λ same. ap one_if_long same) (λ (was, now). ap one_if_long was ∙ sym (ap one_if_long now)) (at_page ks ls ss tt1 (i - 3) Free)

-- an item of the first form, with the entry that it spells
pub record IsShort (p : Placed) : Type 0 where
  pub key : List ℕ
  pub value : List ℕ
  pub item : p.item ≡ Short key value
  pub entry : p.entry ≡ (key, value)
  pub chain : p.chain ≡ []

chains-short : (ps vs : List Placed) → Each IsShort ps → chains_of (ps ++ vs) ≡ chains_of vs
chains-short [] vs short = refl
chains-short (p ∷ ps) vs short = ap (λ (l : List ℕ). l ++ chains_of (ps ++ vs)) (short.0).chain ∙ chains-short ps vs short.1

chains-between : (us ps qs vs : List Placed) → Each IsShort ps → Each IsShort qs → chains_of (us ++ (ps ++ vs)) ≡ chains_of (us ++ (qs ++ vs))
chains-between [] ps qs vs short too = chains-short ps vs short ∙ sym (chains-short qs vs too)
chains-between (u ∷ us) ps qs vs short too = ap (λ (l : List ℕ). u.chain ++ l) (chains-between us ps qs vs short too)

pub each-append : {X : Type 0} (P : X → Type 0) (us vs : List X) → Each P us → Each P vs → Each P (us ++ vs)
each-append P [] vs a b = b
each-append P (u ∷ us) vs a b = (a.0, each-append P us vs a.1 b)

pub each-left : {X : Type 0} (P : X → Type 0) (us vs : List X) → Each P (us ++ vs) → Each P us
each-left P [] vs a = tt
each-left P (u ∷ us) vs a = (a.0, each-left P us vs a.1)

pub each-right : {X : Type 0} (P : X → Type 0) (us vs : List X) → Each P (us ++ vs) → Each P vs
each-right P [] vs a = a
each-right P (u ∷ us) vs a = each-right P us vs a.1

each-weaker : {X : Type 0} (P Q : X → Type 0) (us : List X) → ((x : X) → P x → Q x) → Each P us → Each Q us
each-weaker P Q [] f a = tt
each-weaker P Q (u ∷ us) f a = (f u a.0, each-weaker P Q us f a.1)

pub bytes-append : (us vs : List Placed) → bytes_of (us ++ vs) ≡ bytes_of us ++ bytes_of vs
bytes-append us vs = map-append (λ (p : Placed). item_bytes p.item) us vs

short_stands : (kinds : List Kind) (p : Placed) → IsShort p → StandsFor kinds p.item p.entry p.chain
short_stands kinds p s = subst (λ (i : StringItem). StandsFor kinds i p.entry p.chain) (sym s.item) (s.entry, s.chain)

-- The central law. One slotted page of entries of the first form gets other strings of that form, and by the changes the entries of all pages come from
-- those before. Then the pages hold the map after the changes.
module _ (ks ls : List Kind) (ss ss1 : List (List ℕ)) (m : Content) (ws : List Change) (us ps qs vs : List Placed) where
  pub layout_page : (l : IsLayout (with_strings ks ss ls) m) → l.placed ≡ us ++ (ps ++ vs) → strings_of ks ≡ bytes_of us → strings_of ls ≡ bytes_of vs → ss1 ≡ bytes_of qs → Each IsShort ps → Each IsShort qs
      → Each (λ (p : Placed). IsStringItem p.item) qs → ArePut (entries_of (us ++ (ps ++ vs))) (entries_of (us ++ (qs ++ vs))) ws → IsLayout (with_strings ks ss1 ls) (after ws m)
  layout_page l split before behind new short too good put =
      let items = subst (Each (λ (p : Placed). IsStringItem p.item)) split l.items in
      let stand = subst (Each (λ (p : Placed). StandsFor (with_strings ks ss ls) p.item p.entry p.chain)) split l.stand in
      let still : (p : Placed) → StandsFor (with_strings ks ss ls) p.item p.entry p.chain → StandsFor (with_strings ks ss1 ls) p.item p.entry p.chain =
      λ p. stands_kept (with_strings ks ss ls) (with_strings ks ss1 ls) p.item p.entry p.chain (page_keeps_long ks ls ss ss1) in
      let S : Placed → Type 0 = λ p. StandsFor (with_strings ks ss ls) p.item p.entry p.chain in
      let T : Placed → Type 0 = λ p. StandsFor (with_strings ks ss1 ls) p.item p.entry p.chain in
      let G : Placed → Type 0 = λ p. IsStringItem p.item in
      record {
        placed = us ++ (qs ++ vs);
        strings =
            strings-append ks (Slotted ss1 ∷ ls) ∙ ap (λ (x : List (List ℕ)). x ++ (ss1 ++ strings_of ls)) before ∙ ap (λ (x : List (List ℕ)). bytes_of us ++ (x ++ strings_of ls)) new
            ∙ ap (λ (x : List (List ℕ)). bytes_of us ++ (bytes_of qs ++ x)) behind ∙ ap (λ (x : List (List ℕ)). bytes_of us ++ x) (sym (bytes-append qs vs)) ∙ sym (bytes-append us (qs ++ vs));
        items = each-append G us (qs ++ vs) (each-left G us (ps ++ vs) items) (each-append G qs vs good (each-right G ps vs (each-right G us (ps ++ vs) items)));
        stand = each-append T us (qs ++ vs) (each-weaker S T us still (each-left S us (ps ++ vs) stand))
            (each-append T qs vs (each-weaker IsShort T qs (short_stands (with_strings ks ss1 ls)) too) (each-weaker S T vs still (each-right S ps vs (each-right S us (ps ++ vs) stand))));
        long = λ i least.
            ap (times i) (sym (chains-between us ps qs vs short too)) ∙ ap (λ (x : List Placed). times i (chains_of x)) (sym split) ∙ l.long i least ∙ page_same_long ks ls ss ss1 i;
        entries = entries_after (entries_of (us ++ (ps ++ vs))) (entries_of (us ++ (qs ++ vs))) ws m (subst (λ (x : List Placed). AreEntries (entries_of x) m) split l.entries) put;
      }

-- The same for any change, of several pages and of long values: new kinds whose strings are those of new items, which stand over the new long pages, and
-- entries that the changes lead to.
pub layout_change : (ks ls : List Kind) (m : Content) (ws : List Change) (l : IsLayout ks m) (qs : List Placed) → strings_of ls ≡ bytes_of qs → Each (λ (p : Placed). IsStringItem p.item) qs
    → Each (λ (p : Placed). StandsFor ls p.item p.entry p.chain) qs → ((i : ℕ) → 3 ≤ i → times i (chains_of qs) ≡ one_if_long (kind_of_page ls i)) → ArePut (entries_of l.placed) (entries_of qs) ws → IsLayout ls (after ws m)
layout_change ks ls m ws l qs strings items stand long put = record {
  placed = qs;
  strings = strings;
  items = items;
  stand = stand;
  long = long;
  entries = entries_after (entries_of l.placed) (entries_of qs) ws m l.entries put;
}
