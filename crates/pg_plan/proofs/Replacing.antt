-- An entry is put in the slot of the old one of its key.
use Rattle.std.proofs.lemmas.List.{length-set, get_or-set_same, get_or-set_other, set-set, set_split}
use Rattle.std.specs.Prelude.{Bool, true, false}
use Rattle.std.proofs.Common.{◌≤◌, ◌<◌, ◌≡◌, ◌≢◌, ◌==◌, ◌⊎◌, inl, ⊎_elim, ℕ, suc, ◌+◌, List, [], ◌∷◌, ◌++◌, length, get_or, set, take, drop, Option, Some, None, refl, sym, ap, subst, ◌∙◌, append_assoc, append-nil, length-append, arith}
use Rattle.ct_keep.specs.Content.{Content, set_to}
use Rattle.pg_page.specs.Pages.{Fits}
use Rattle.pg_page.specs.laws.Reading.{at_slot, taken-append}
use Rattle.pg_map.specs.Kinds.{Kind, Free, Slotted, strings_of, Short, item_bytes, key_in_item, page_of}
use Rattle.pg_map.specs.Holding.{one_if_long}
use Rattle.pg_map.specs.PageStrings.{string_key}
use Rattle.pg_map.specs.laws.PageStrings.{item_key}
use Rattle.pg_map.specs.Done.{IsDone, HasKeyAt}
use Rattle.pg_batch.specs.BatchPages.{entry_pages}
use Rattle.pg_plan.specs.Drafts.{Drafted}
use Rattle.pg_plan.specs.FreePlaces.{NeedsPages}
use Rattle.pg_plan.specs.PlanSteps.{MakesChange}
use Rattle.pg_plan.specs.Planned.{IsPut, IsReplacing, KeepsSlot}
use Rattle.pg_plan.specs.laws.Planned.{taken_at, exchanged_at, ended}
use Rattle.pg_plan.proofs.Copying.{rest_fits}
use Rattle.pg_plan.proofs.Taking.{item_at}
use Rattle.pg_plan.proofs.Changing.{short_done, gone_none, put_over}
use Rattle.pg_plan.proofs.Stepping.{slotted_within, has_key_by, at_set, one_slotted, key_there, short_pages, fills_there}

-- the page without the old string, and the map without the entry
pub record Loses (kinds : List Kind) (m : Content) (at : ℕ) (key : List ℕ) (us vs : List (List ℕ)) : Type 0 where
  pub done : IsDone (set kinds at (Slotted (us ++ vs))) (set_to key None m)

loses : (kinds : List Kind) (m : Content) (at : ℕ) (key string : List ℕ) (page : List (List ℕ)) → IsDone kinds m → (t : IsReplacing kinds at key string page) → Loses kinds m at key (take t.number t.strings) (drop (suc t.number) t.strings)
loses kinds m at key string page done t =
    let i = item_at kinds m at t.strings t.number done t.within t.kind t.key_is.within in
    let us = take t.number t.strings in
    let vs = drop (suc t.number) t.strings in
    let cut = at_slot t.strings t.number t.key_is.within in
    let key_is : key_in_item i.item ≡ key = sym (item_key i.item i.good) ∙ ap string_key (sym i.is) ∙ t.key_is.is in
    let kind : get_or kinds at Free ≡ Slotted (us ++ item_bytes i.item ∷ vs) = t.kind ∙ ap Slotted cut ∙ ap (λ (s : List ℕ). Slotted (us ++ s ∷ vs)) i.is in
    let r = taken_at kinds at m us vs i.item done t.within kind i.good (rest_fits t.strings us vs (get_or t.strings t.number []) t.was cut) in
    record {
      done = subst (λ (k : List ℕ). IsDone (set kinds at (Slotted (us ++ vs))) (set_to k None m)) key_is
          (ended (set kinds at (Slotted (us ++ vs))) (set_to (key_in_item i.item) None m) (page_of i.item) r.loose r.rest r.is (r.count ∙ t.near i.item i.good i.is));
    }

-- the strings with the new one at the end have room where they have it with the new one in the slot
end_fits : (us vs : List (List ℕ)) (s : List ℕ) → Fits (us ++ s ∷ vs) → Fits ((us ++ vs) ++ s ∷ [])
end_fits us vs s fits = omega (
  arith,
  fits,
  taken-append us (s ∷ vs),
  length-append us (s ∷ vs),
  taken-append us vs,
  length-append us vs,
  taken-append (us ++ vs) (s ∷ []),
  length-append (us ++ vs) (s ∷ []),
)

replaced_done : (kinds : List Kind) (m : Content) (at : ℕ) (key value : List ℕ) (page : List (List ℕ)) → IsDone kinds m → IsReplacing kinds at key (item_bytes (Short key value)) page → 3 + length key + length value ≤ 4084
    → IsDone (set kinds at (Slotted page)) (set_to key (Some value) m)
replaced_done kinds m at key value page done t short =
    let us = take t.number t.strings in
    let vs = drop (suc t.number) t.strings in
    let string = item_bytes (Short key value) in
    let now : page ≡ us ++ string ∷ vs = t.page_is ∙ set_split t.strings t.number string t.key_is.within in
    let fits : Fits (us ++ string ∷ vs) = subst Fits now t.fits in
    let mid : List Kind = set kinds at (Slotted (us ++ vs)) in
    let within : at < length mid = let e = length-set kinds at (Slotted (us ++ vs)) in let w = t.within in omega (arith, e, w) in
    let end : List Kind = set mid at (Slotted ((us ++ vs) ++ string ∷ [])) in
    let put : IsPut mid end string at = record {
      base = mid;
      strings = us ++ vs;
      roomier = inl refl;
      within = within;
      was = ap (λ (k : Kind). strings_of (k ∷ [])) (get_or-set_same kinds at (Slotted (us ++ vs)) Free t.within) ∙ append-nil (us ++ vs);
      short = ap one_if_long (get_or-set_same kinds at (Slotted (us ++ vs)) Free t.within);
      fits = end_fits us vs string fits;
      now = refl;
    } in
    let laid : IsDone end (set_to key (Some value) m) = subst (IsDone end) (put_over m key value)
    (short_done mid end (set_to key None m) key value at (loses kinds m at key string page done t).done put short (gone_none m key)) in
    let ended_is : get_or end at Free ≡ Slotted (us ++ (vs ++ string ∷ [])) = get_or-set_same mid at (Slotted ((us ++ vs) ++ string ∷ [])) Free within ∙ ap Slotted (append_assoc us vs (string ∷ [])) in
    let turned : IsDone (set end at (Slotted (us ++ string ∷ vs))) (set_to key (Some value) m) =
    exchanged_at end at (set_to key (Some value) m) 0 [] [] us vs (string ∷ []) laid (let e = length-set mid at (Slotted ((us ++ vs) ++ string ∷ [])) in omega (arith, e, within)) ended_is fits in
    subst (λ (l : List Kind). IsDone l (set_to key (Some value) m))
    (set-set mid at (Slotted ((us ++ vs) ++ string ∷ [])) (Slotted (us ++ string ∷ vs)) ∙ set-set kinds at (Slotted (us ++ vs)) (Slotted (us ++ string ∷ vs)) ∙ ap (λ (ss : List (List ℕ)). set kinds at (Slotted ss)) (sym now)) turned

-- the keys of a page of which one string was replaced
module _ (kinds : List Kind) (m : Content) (at : ℕ) (key value : List ℕ) (page : List (List ℕ)) (done : IsDone kinds m) (t : IsReplacing kinds at key (item_bytes (Short key value)) page) (short : 3 + length key + length value ≤ 4084) where
  other_key : (a : ℕ) (q : List ℕ) → q ≢ key → (has : HasKeyAt (set kinds at (Slotted page)) a q) → has.strings ≡ page → a ≡ at → HasKeyAt kinds a q
  other_key a q apart has strings here_ = of (has.number == t.number) (λ e. grind (arith, e)) (λ e. grind (arith, e))
    where
      now : has.strings ≡ set t.strings t.number (item_bytes (Short key value))
      now = strings ∙ t.page_is

      within : has.number < length t.strings
      within = let w = has.is.within in let z = ap (λ (l : List (List ℕ)). length l) now in let e = length-set t.strings t.number (item_bytes (Short key value)) in omega (arith, w, z, e)

      kind : get_or kinds a Free ≡ Slotted t.strings
      kind = ap (λ (n : ℕ). get_or kinds n Free) here_ ∙ t.kind

      of : (b : Bool) → (b ≡ true → has.number ≡ t.number) → (b ≡ false → has.number ≢ t.number) → HasKeyAt kinds a q
      of true yes_ no_ =
          let string_is : get_or has.strings has.number [] ≡ item_bytes (Short key value) =
          ap (λ (l : List (List ℕ)). get_or l has.number []) now ∙ ap (λ (n : ℕ). get_or (set t.strings t.number (item_bytes (Short key value))) n []) (yes_ refl)
          ∙ get_or-set_same t.strings t.number (item_bytes (Short key value)) [] t.key_is.within in
          absurd (apart (sym has.is.is ∙ ap string_key string_is ∙ item_key (Short key value) (omega (arith, short), short)))
      of false yes_ no_ = record {
        within = slotted_within kinds a t.strings kind;
        strings = t.strings;
        number = has.number;
        kind = kind;
        is = record {
          within = within;
          is = ap string_key (sym (ap (λ (l : List (List ℕ)). get_or l has.number []) now ∙ get_or-set_other t.strings t.number has.number (item_bytes (Short key value)) [] (no_ refl))) ∙ has.is.is;
        };
      }

  pub replaced_made : MakesChange kinds (set kinds at (Slotted page)) m key (Some value) at
  replaced_made = record {
    done = replaced_done kinds m at key value page done t short;
    others = λ a q apart has. ⊎_elim (λ (e, f). other_key a q apart has (one_slotted has.strings page (sym has.kind ∙ e)) f) (λ e. has_key_by (set kinds at (Slotted page)) kinds a q e has) (at_set kinds at a (Slotted page));
    here = λ a has. ⊎_elim (λ (e, f). f) (λ e. elsewhere a (has_key_by (set kinds at (Slotted page)) kinds a key e has) (at_set kinds at a (Slotted (take t.number t.strings ++ drop (suc t.number) t.strings)))) (at_set kinds at a (Slotted page));
  }
    where
      elsewhere : (a : ℕ) → HasKeyAt kinds a key → ((get_or (set kinds at (Slotted (take t.number t.strings ++ drop (suc t.number) t.strings))) a Free ≡ Slotted (take t.number t.strings ++ drop (suc t.number) t.strings)) × (a ≡ at))
          ⊎ (get_or (set kinds at (Slotted (take t.number t.strings ++ drop (suc t.number) t.strings))) a Free ≡ get_or kinds a Free) → a ≡ at
      elsewhere a has which = ⊎_elim (λ (e, f). f)
          (λ e. absurd (key_there (set kinds at (Slotted (take t.number t.strings ++ drop (suc t.number) t.strings))) (set_to key None m) a key (loses kinds m at key (item_bytes (Short key value)) page done t).done
          (has_key_by kinds (set kinds at (Slotted (take t.number t.strings ++ drop (suc t.number) t.strings))) a key (sym e) has) (gone_none m key))) which

-- ---- a change

pub kept_made : (old new : List Kind) (m : Content) (at : ℕ) (key : List ℕ) (value : Option (List ℕ)) (page : List (List ℕ)) → IsDone old m → KeepsSlot old at key value page → new ≡ set old at (Slotted page) → MakesChange old new m key value at
kept_made old new m at key value page done k is =
    subst (λ (o : Option (List ℕ)). MakesChange old new m key o at) (sym k.some) (subst (λ (l : List Kind). MakesChange old l m key (Some k.bytes) at) (sym is) (replaced_made old m at key k.bytes page done k.is k.short))

-- an entry in its slot takes one page
pub kept_pages : (kinds : List Kind) (at : ℕ) (key : List ℕ) (value : Option (List ℕ)) (page : List (List ℕ)) → KeepsSlot kinds at key value page → entry_pages key value ≡ 1
kept_pages kinds at key value page k = ap (entry_pages key) k.some ∙ short_pages key k.bytes k.short

pub kept_needs : (old new : Drafted) (at : ℕ) (key : List ℕ) (value : Option (List ℕ)) (page : List (List ℕ)) → KeepsSlot old.now at key value page → new.now ≡ set old.now at (Slotted page) → length new.touched ≤ length old.touched + 1 → NeedsPages old.now new.now (entry_pages key value)
kept_needs old new at key value page k is touches = subst (NeedsPages old.now new.now) (sym (kept_pages old.now at key value page k)) (fills_there old new at (Slotted page) is touches).needs

pub kept_touches : (kinds : List Kind) (at : ℕ) (key : List ℕ) (value : Option (List ℕ)) (page : List (List ℕ)) (new old more : ℕ) → KeepsSlot kinds at key value page → new ≤ old + 1 → new ≤ old + (more + entry_pages key value)
kept_touches kinds at key value page new old more k less = let e = kept_pages kinds at key value page k in omega (arith, e, less)
