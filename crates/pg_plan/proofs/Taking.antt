-- An entry is taken off its page, and one is put on a page.
use Rattle.std.specs.Prelude.{Bool, true, false, cond, nat_lt}
use Rattle.std.proofs.lemmas.Bool.{ltb-false}
use Rattle.std.proofs.lemmas.List.{length-set, get_or-set_same, set-set}
use Rattle.std.proofs.Common.{◌≤◌, ◌<◌, ◌≡◌, ℕ, suc, ◌+◌, ◌-◌, ◌*◌, List, [], ◌∷◌, ◌++◌, length, get_or, set, take, drop, Option, None, Some, refl, sym, ap, subst, ◌∙◌, append_assoc, length-append, arith}
use Rattle.std.specs.FinMap.{get}
use Rattle.ct_keep.specs.Content.{Content, set_to}
use Rattle.pg_batch.specs.BatchPages.{entry_pages, long_pages}
use Rattle.pg_page.specs.Pages.{taken, Fits, free}
use Rattle.pg_page.specs.laws.Pages.{taken-push}
use Rattle.pg_page.specs.laws.Reading.{at_slot}
use Rattle.pg_map.specs.Kinds.{Each, Kind, Free, Slotted, strings_of, StringItem, Short, Far, item_bytes, IsStringItem, key_in_item, page_of, count_of}
use Rattle.pg_map.specs.Holding.{Placed, one_if_long, bytes_of}
use Rattle.pg_map.specs.laws.Holding.{strings-append}
use Rattle.pg_plan.specs.laws.LooseSteps.{parted, with_kind, tail_is}
use Rattle.pg_plan.specs.Planned.{HasRoom, HasChain, IsTaking}
use Rattle.pg_map.specs.Done.{IsPlanned, IsDone}
use Rattle.pg_plan.specs.laws.Planned.{split_at, taken_at, exchanged_at}
use Rattle.pg_map.specs.PageStrings.{string_key}
use Rattle.pg_plan.proofs.Copying.{cut_at, rest_fits, without_fits}
use Rattle.pg_map.specs.laws.PageStrings.{item_key}

-- ---- room

pub record Opened (k : Kind) (ss : List (List ℕ)) : Type 0 where
  pub was : strings_of (k ∷ []) ≡ ss
  pub short : one_if_long k ≡ 0

pub has_room : (kinds : List Kind) (at : ℕ) (string : List ℕ) (ss page : List (List ℕ)) → at < length kinds → Opened (get_or kinds at Free) ss → page ≡ ss ++ string ∷ [] → (free ss < length string + 4 → ⊥) → HasRoom kinds at string page
has_room kinds at string ss page within o is room = record {
  within = within;
  strings = ss;
  was = o.was;
  short = o.short;
  is = is;
  fits = subst Fits (sym is) (fits_end (room_left (4088 - (4 * length ss + taken ss)) (length string) room));
}
  where
    room_left : (a b : ℕ) → (a < b + 4 → ⊥) → b + 4 ≤ a
    room_left a b no_ = omega (arith, no_)

    fits_end : length string + 4 ≤ 4088 - (4 * length ss + taken ss) → Fits (ss ++ string ∷ [])
    fits_end e = omega (arith, e, taken-push ss string, length-append ss (string ∷ []))

-- ---- taking

-- a string of a page as the item that it is
pub record IsItemAt (s : List ℕ) : Type 0 where
  pub item : StringItem
  pub good : IsStringItem item
  pub is : s ≡ item_bytes item

first_item : (ps : List Placed) (s : List ℕ) (more : List (List ℕ)) → Each (λ (p : Placed). IsStringItem p.item) ps → bytes_of ps ≡ s ∷ more → IsItemAt s
first_item [] s more good is = absurd (cc is)
first_item (p ∷ ps) s more good is = record { item = p.item; good = good.0; is = sym (tail_is (item_bytes p.item) (bytes_of ps) s more is).0 }

right_items : (us vs : List Placed) → Each (λ (p : Placed). IsStringItem p.item) (us ++ vs) → Each (λ (p : Placed). IsStringItem p.item) vs
right_items [] vs all = all
right_items (u ∷ us) vs all = right_items us vs all.1

pub item_at : (kinds : List Kind) (m : Content) (at : ℕ) (ss : List (List ℕ)) (i : ℕ) → IsDone kinds m → at < length kinds → get_or kinds at Free ≡ Slotted ss → i < length ss → IsItemAt (get_or ss i [])
item_at kinds m at ss i done within kind less =
    let s = split_at kinds at within in
    let split : kinds ≡ with_kind s.before (Slotted ss) s.behind = s.is ∙ ap (λ (k : Kind). with_kind s.before k s.behind) kind in
    let strings : bytes_of done.is.placed ≡ (strings_of s.before ++ take i ss) ++ get_or ss i [] ∷ (drop (suc i) ss ++ strings_of s.behind) =
    sym done.is.strings ∙ ap strings_of split ∙ strings-append s.before (Slotted ss ∷ s.behind) ∙ ap (λ (x : List (List ℕ)). strings_of s.before ++ (x ++ strings_of s.behind)) (at_slot ss i less)
    ∙ ap (λ (x : List (List ℕ)). strings_of s.before ++ x) (append_assoc (take i ss) (get_or ss i [] ∷ drop (suc i) ss) (strings_of s.behind))
    ∙ sym (append_assoc (strings_of s.before) (take i ss) (get_or ss i [] ∷ (drop (suc i) ss ++ strings_of s.behind))) in
    let r = parted done.is.placed (strings_of s.before ++ take i ss) (get_or ss i [] ∷ (drop (suc i) ss ++ strings_of s.behind)) strings in
    first_item r.vs (get_or ss i []) (drop (suc i) ss ++ strings_of s.behind) (right_items r.us r.vs (subst (Each (λ (p : Placed). IsStringItem p.item)) r.is done.is.items)) r.behind_is

-- the page with an entry's string, and the long ones that its item names, are those of the entry
pub far_pages : (k n : ℕ) (value : List ℕ) (far : Bool) → nat_lt 4084 (3 + k + length value) ≡ far → 4084 < 3 + k + n → n ≤ length value → 1 + long_pages n ≤ 1 + cond far (long_pages (length value)) 0
far_pages k n value true is long most = omega (arith, most)
far_pages k n value false is long most = let e = ltb-false 4084 (3 + k + length value) is in omega (arith, e, long, most)

item_pages : (item : StringItem) (key value : List ℕ) → IsStringItem item → key_in_item item ≡ key → count_of item ≤ length value → 1 + long_pages (count_of item) ≤ entry_pages key (Some value)
item_pages (Short k v) key value good is most = omega arith
item_pages (Far k n first) key value good is most = let e = ap (λ (l : List ℕ). length l) is in let long = good.3 in far_pages (length key) n value (nat_lt 4084 (3 + length key + length value)) refl (omega (arith, e, long)) most

-- what is left of the pages, and the chain that is to be freed
pub record Takes (kinds : List Kind) (m : Content) (key : List ℕ) (first count : ℕ) : Type 0 where
  pub value : List ℕ
  pub chain : HasChain kinds (set_to key None m) first value
  pub long : length value ≡ count
  pub pages : 1 + long_pages count ≤ entry_pages key (get m key)

pub takes : (kinds news : List Kind) (m : Content) (at : ℕ) (key : List ℕ) (rest : List (List ℕ)) (first count : ℕ) → IsDone kinds m → IsTaking kinds at key rest first count → news ≡ set kinds at (Slotted rest) → Takes news m key first count
takes kinds news m at key rest first count done t put =
    let i = item_at kinds m at t.strings t.number done t.within t.kind t.key_is.within in
    let two = t.far i.item i.good i.is in
    let key_is : key_in_item i.item ≡ key = sym (item_key i.item i.good) ∙ ap string_key (sym i.is) ∙ t.key_is.is in
    let c = cut_at t.strings t.number t.key_is.within in
    let before = take t.number t.strings in
    let held : List Kind = set kinds at (Slotted (before ++ (c.mid ++ c.last))) in
    let cut : get_or kinds at Free ≡ Slotted (before ++ item_bytes i.item ∷ (c.mid ++ c.last)) =
    t.kind ∙ ap Slotted c.was ∙ ap (λ (s : List ℕ). Slotted (before ++ s ∷ (c.mid ++ c.last))) i.is in
    let r = taken_at kinds at m before (c.mid ++ c.last) i.item done t.within cut i.good (rest_fits t.strings before (c.mid ++ c.last) (get_or t.strings t.number []) t.fits c.was) in
    let turned : IsPlanned (set held at (Slotted (before ++ (c.last ++ c.mid)))) (set_to (key_in_item i.item) None m) (page_of i.item) r.loose r.rest =
    exchanged_at held at (set_to (key_in_item i.item) None m) (page_of i.item) r.loose r.rest before c.mid c.last r.is (let e = length-set kinds at (Slotted (before ++ (c.mid ++ c.last))) in let w = t.within in omega (arith, e, w))
    (get_or-set_same kinds at (Slotted (before ++ (c.mid ++ c.last))) Free t.within) (subst Fits c.now (without_fits t.strings t.number t.key_is.within t.fits)) in
    let left : set held at (Slotted (before ++ (c.last ++ c.mid))) ≡ news = set-set kinds at (Slotted (before ++ (c.mid ++ c.last))) (Slotted (before ++ (c.last ++ c.mid)))
    ∙ ap (λ (x : List (List ℕ)). set kinds at (Slotted x)) (sym c.now ∙ sym t.rest_is) ∙ sym put in
    record {
      value = r.rest;
      chain = record {
        loose = r.loose;
        is = subst (λ (l : List Kind). IsPlanned l (set_to key None m) first r.loose r.rest) left
            (subst (λ (k : List ℕ). IsPlanned (set held at (Slotted (before ++ (c.last ++ c.mid)))) (set_to k None m) first r.loose r.rest) key_is
            (subst (λ (n : ℕ). IsPlanned (set held at (Slotted (before ++ (c.last ++ c.mid)))) (set_to (key_in_item i.item) None m) n r.loose r.rest) (sym two.0) turned));
      };
      long = r.count ∙ sym two.1;
      pages = subst (λ (n : ℕ). 1 + long_pages n ≤ entry_pages key (get m key)) (sym two.1) (subst (λ (o : Option (List ℕ)). 1 + long_pages (count_of i.item) ≤ entry_pages key o) (sym (ap (get m) (sym key_is) ∙ r.has)) (item_pages i.item key r.entry.1 i.good key_is r.most));
    }
