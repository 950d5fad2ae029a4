-- One page of a draft more.
use Rattle.std.proofs.Common.{◌≤◌, ◌<◌, ◌≡◌, ◌≢◌, Bool, true, false, ◌==◌, length-append, ℕ, zero, suc, ◌+◌, ◌-◌, List, [], ◌∷◌, ◌++◌, length, get_or, set, take, Option, Some, None, ⊎_elim, refl, sym, ap, subst, ◌∙◌, arith}
use Rattle.std.specs.List.{Contains, slice_get}
use Rattle.std.specs.Option.{option_map}
use Rattle.std.proofs.lemmas.Option.{slice_get-map}
use Rattle.std.proofs.lemmas.Bool.{cases_lt}
use Rattle.std.proofs.lemmas.List.Elements.{Contains-append_left, Contains-push}
use Rattle.std.proofs.lemmas.List.{length-map}
use Rattle.pg_map.specs.Kinds.{Each, Kind, Free}
use Rattle.pg_window.specs.declared.sheets.Sheet.{Sheet}
use Rattle.pg_window.specs.declared.sheets.Sheet.TheVariants.{Free as FreeSheet}
use Rattle.pg_window.specs.Sheets.{sheet_kind, sheet_kinds, is_away}
use Rattle.pg_plan.specs.declared.drafts.Note.{Note}
use Rattle.pg_window.specs.Windows.{away_of}
use Rattle.pg_plan.specs.Drafts.{sheet_kept, undone, touched_by, shown, Drafted, with_free_page, with_page, with_touched, EndsWith, SeesNone}
use Rattle.pg_plan.specs.DraftFields.{draft_of, IsDraftOf}
use Rattle.pg_plan.specs.laws.Away.{away_kind}

pub length-kinds : (sheets : List Sheet) → length (sheet_kinds sheets) ≡ length sheets
length-kinds sheets = length-map sheets sheet_kind

pub kinds_set : (xs : List Sheet) (at : ℕ) (x : Sheet) → sheet_kinds (set xs at x) ≡ set (sheet_kinds xs) at (sheet_kind x)
kinds_set [] at x = refl
kinds_set (y ∷ xs) zero x = refl
kinds_set (y ∷ xs) (suc at) x = ap (λ (l : List Kind). sheet_kind y ∷ l) (kinds_set xs at x)

pub aways_set : (xs : List Sheet) (at : ℕ) (x : Sheet) → away_of (set xs at x) ≡ set (away_of xs) at (is_away x)
aways_set [] at x = refl
aways_set (y ∷ xs) zero x = refl
aways_set (y ∷ xs) (suc at) x = ap (λ (l : List Bool). is_away y ∷ l) (aways_set xs at x)

kinds-push : (xs : List Sheet) (x : Sheet) → sheet_kinds (xs ++ x ∷ []) ≡ sheet_kinds xs ++ sheet_kind x ∷ []
kinds-push [] x = refl
kinds-push (y ∷ xs) x = ap (λ (l : List Kind). sheet_kind y ∷ l) (kinds-push xs x)

away_of-push : (xs : List Sheet) (x : Sheet) → away_of (xs ++ x ∷ []) ≡ away_of xs ++ is_away x ∷ []
away_of-push [] x = refl
away_of-push (y ∷ xs) x = ap (λ (l : List Bool). is_away y ∷ l) (away_of-push xs x)

pub undone-push : (ns : List Note) (n : Note) (xs : List Sheet) → undone (ns ++ n ∷ []) xs ≡ undone ns (set xs n.at (sheet_kept n.old))
undone-push [] n xs = refl
undone-push (o ∷ ns) n xs = ap (λ (l : List Sheet). set l o.at (sheet_kept o.old)) (undone-push ns n xs)

set_back : (xs : List Sheet) (at : ℕ) (old new : Sheet) → at < length xs → old ≡ get_or xs at FreeSheet → set (set xs at new) at old ≡ xs
set_back [] at old new within is = refl
set_back (x ∷ xs) zero old new within is = ap (λ (y : Sheet). y ∷ xs) is
set_back (x ∷ xs) (suc at) old new within is = ap (λ (l : List Sheet). x ∷ l) (set_back xs at old new (omega (arith, within)) is)

-- ---- the first so many pages

take_set : (xs : List Sheet) (b at : ℕ) (x : Sheet) → b ≤ at → take b (set xs at x) ≡ take b xs
take_set xs zero at x behind = refl
take_set [] (suc b) at x behind = refl
take_set (y ∷ xs) (suc b) zero x behind = absurd (omega (arith, behind))
take_set (y ∷ xs) (suc b) (suc at) x behind = ap (λ (l : List Sheet). y ∷ l) (take_set xs b at x (omega (arith, behind)))

-- the first pages after a change are those after it over the first pages
set_take : (xs : List Sheet) (b at : ℕ) (x : Sheet) → take b (set xs at x) ≡ set (take b xs) at x
set_take xs zero at x = refl
set_take [] (suc b) at x = refl
set_take (y ∷ xs) (suc b) zero x = refl
set_take (y ∷ xs) (suc b) (suc at) x = ap (λ (l : List Sheet). y ∷ l) (set_take xs b at x)

undone_take : (ns : List Note) (xs : List Sheet) (b : ℕ) → take b (undone ns xs) ≡ undone ns (take b xs)
undone_take [] xs b = refl
undone_take (n ∷ ns) xs b = set_take (undone ns xs) b n.at (sheet_kept n.old) ∙ ap (λ (l : List Sheet). set l n.at (sheet_kept n.old)) (undone_take ns xs b)

-- a page that was there is put back, and one behind the first so many doesn't matter
first_back : (xs : List Sheet) (b at : ℕ) (old new : Sheet) → at < length xs → (at < b → old ≡ get_or xs at FreeSheet) → take b (set (set xs at new) at old) ≡ take b xs
first_back xs b at old new within kept = ⊎_elim
    (λ front. ap (take b) (set_back xs at old new within (kept front)))
    (λ behind. take_set (set xs at new) b at old behind ∙ take_set xs b at new behind) (cases_lt at b)

touched-push : (ns : List Note) (n : Note) → touched_by (ns ++ n ∷ []) ≡ touched_by ns ++ n.at ∷ []
touched-push [] n = refl
touched-push (o ∷ ns) n = ap (λ (l : List ℕ). o.at ∷ l) (touched-push ns n)

pub set_view : (sheets sheets1 : List Sheet) (notes notes1 : List Note) (b at : ℕ) (old : Option Sheet) (new : Sheet) (d : Drafted) → draft_of sheets notes b ≡ d → sheets1 ≡ set sheets at new
    → (at < b → sheet_kept old ≡ get_or sheets at FreeSheet) → at < length sheets → notes1 ≡ notes ++ record { at = at; old = old } ∷ []
    → draft_of sheets1 notes1 b ≡ with_touched (with_page d at new) at
set_view sheets sheets1 notes notes1 b at old new d is put kept within note =
    let n : Note = record { at = at; old = old } in
    let olds : List Sheet = take b (undone notes sheets) in
    let now : sheet_kinds sheets1 ≡ set (sheet_kinds sheets) at (sheet_kind new) = ap sheet_kinds put ∙ kinds_set sheets at new in
    let away : away_of sheets1 ≡ set (away_of sheets) at (is_away new) = ap away_of put ∙ aways_set sheets at new in
    let again : take b (set sheets1 at (sheet_kept old)) ≡ take b sheets = ap (λ (l : List Sheet). take b (set l at (sheet_kept old))) put ∙ first_back sheets b at (sheet_kept old) new within kept in
    let before : take b (undone notes1 sheets1) ≡ olds =
    ap (λ (l : List Note). take b (undone l sheets1)) note ∙ ap (take b) (undone-push notes n sheets1) ∙ undone_take notes (set sheets1 at (sheet_kept old)) b ∙ ap (undone notes) again ∙ sym (undone_take notes sheets b) in
    let touched : touched_by notes1 ≡ touched_by notes ++ at ∷ [] = ap touched_by note ∙ touched-push notes n in
    ap (λ (l : List Sheet). record { before = shown l; now = sheet_kinds sheets1; away = away_of sheets1; touched = touched_by notes1 }) before
    ∙ ap (λ (l : List Kind). record { before = shown olds; now = l; away = away_of sheets1; touched = touched_by notes1 }) now
    ∙ ap (λ (l : List Bool). record { before = shown olds; now = set (sheet_kinds sheets) at (sheet_kind new); away = l; touched = touched_by notes1 }) away
    ∙ ap (λ (l : List ℕ). record { before = shown olds; now = set (sheet_kinds sheets) at (sheet_kind new); away = set (away_of sheets) at (is_away new); touched = l }) touched
    ∙ ap (λ (x : Drafted). with_touched (with_page x at new) at) is

-- ---- the page that was noted last is changed again

set_twice : (xs : List Sheet) (at : ℕ) (x y : Sheet) → set (set xs at x) at y ≡ set xs at y
set_twice [] at x y = refl
set_twice (z ∷ xs) zero x y = refl
set_twice (z ∷ xs) (suc at) x y = ap (λ (l : List Sheet). z ∷ l) (set_twice xs at x y)

undone_last : (notes : List Note) (xs : List Sheet) (at : ℕ) (x : Sheet) (first : List ℕ) → touched_by notes ≡ first ++ at ∷ [] → undone notes (set xs at x) ≡ undone notes xs
undone_last [] xs at x [] is = cc
undone_last [] xs at x (f ∷ fs) is = cc
undone_last (n ∷ []) xs at x [] is =
    let here : n.at ≡ at = cc in
    ap (λ (i : ℕ). set (set xs at x) i (sheet_kept n.old)) here ∙ set_twice xs at x (sheet_kept n.old) ∙ ap (λ (i : ℕ). set xs i (sheet_kept n.old)) (sym here)
undone_last (n ∷ []) xs at x (f ∷ []) is = let no : [] ≡ at ∷ [] = cc in cc
undone_last (n ∷ []) xs at x (f ∷ g ∷ fs) is = let no : [] ≡ g ∷ (fs ++ at ∷ []) = cc in cc
undone_last (n ∷ m ∷ ns) xs at x [] is = let no : touched_by (m ∷ ns) ≡ [] = cc in cc
undone_last (n ∷ m ∷ ns) xs at x (f ∷ fs) is =
    let rest : touched_by (m ∷ ns) ≡ fs ++ at ∷ [] = cc in
    ap (λ (l : List Sheet). set l n.at (sheet_kept n.old)) (undone_last (m ∷ ns) xs at x fs rest)

pub again_view : (sheets sheets1 : List Sheet) (notes : List Note) (b at : ℕ) (new : Sheet) (d : Drafted) → draft_of sheets notes b ≡ d → sheets1 ≡ set sheets at new → EndsWith d.touched at
    → draft_of sheets1 notes b ≡ with_page d at new
again_view sheets sheets1 notes b at new d is put last =
    let now : sheet_kinds sheets1 ≡ set (sheet_kinds sheets) at (sheet_kind new) = ap sheet_kinds put ∙ kinds_set sheets at new in
    let away : away_of sheets1 ≡ set (away_of sheets) at (is_away new) = ap away_of put ∙ aways_set sheets at new in
    let before : undone notes sheets1 ≡ undone notes sheets = ap (undone notes) put ∙ undone_last notes sheets at new last.first (ap (λ (x : Drafted). x.touched) is ∙ last.is) in
    let olds : List Sheet = take b (undone notes sheets) in
    ap (λ (l : List Sheet). record { before = shown (take b l); now = sheet_kinds sheets1; away = away_of sheets1; touched = touched_by notes }) before
    ∙ ap (λ (l : List Kind). record { before = shown olds; now = l; away = away_of sheets1; touched = touched_by notes }) now
    ∙ ap (λ (l : List Bool). record { before = shown olds; now = set (sheet_kinds sheets) at (sheet_kind new); away = l; touched = touched_by notes }) away
    ∙ ap (λ (x : Drafted). with_page x at new) is

-- the place that the last note has
pub last_at : (ns : List Note) (at : ℕ) → EndsWith (touched_by ns) at → option_map {T = Note} {U = ℕ} (λ n. n.at) (slice_get ns (length ns - 1)) ≡ Some at
last_at ns at ends = sym (slice_get-map (λ (n : Note). n.at) ns (length ns - 1)) ∙ ap (λ (l : List ℕ). slice_get l (length ns - 1)) ends.is ∙ ap (slice_get (ends.first ++ at ∷ [])) number ∙ of ends.first
  where
    number : length ns - 1 ≡ length ends.first
    number = let e = length-map ns (λ (n : Note). n.at) in let f = ap (λ (l : List ℕ). length l) ends.is in let g = length-append ends.first (at ∷ []) in omega (arith, e, f, g)

    of : (first : List ℕ) → slice_get (first ++ at ∷ []) (length first) ≡ Some at
    of [] = refl
    of (x ∷ first) = of first

pub no_last : (ns : List Note) (at : ℕ) → slice_get ns (length ns - 1) ≡ None → EndsWith (touched_by ns) at → ⊥
no_last ns at none ends = let e = sym (ap (option_map {T = Note} {U = ℕ} (λ n. n.at)) none) ∙ last_at ns at ends in cc e

pub other_last : (ns : List Note) (n : Note) (at : ℕ) → slice_get ns (length ns - 1) ≡ Some n → (n.at ≡ at → ⊥) → EndsWith (touched_by ns) at → ⊥
other_last ns n at some other ends = let e : Some n.at ≡ Some at = sym (ap (option_map {T = Note} {U = ℕ} (λ n. n.at)) some) ∙ last_at ns at ends in other (cc e)

-- ---- one note more

each_note : (ns : List Note) (a b : ℕ) → a ≤ b → Each (λ (n : Note). n.at < a) ns → Each (λ (n : Note). n.at < b) ns
each_note [] a b less all = tt
each_note (n ∷ ns) a b less all = (let e = all.0 in omega (arith, e, less), each_note ns a b less all.1)

note_more : (ns : List Note) (n : Note) (a : ℕ) → n.at < a → Each (λ (n : Note). n.at < a) ns → Each (λ (n : Note). n.at < a) (ns ++ n ∷ [])
note_more [] n a less all = (less, tt)
note_more (o ∷ ns) n a less all = (all.0, note_more ns n a less all.1)

length-set1 : (xs : List Sheet) (at : ℕ) (x : Sheet) → length (set xs at x) ≡ length xs
length-set1 [] at x = refl
length-set1 (y ∷ xs) zero x = refl
length-set1 (y ∷ xs) (suc at) x = ap suc (length-set1 xs at x)

pub draft_set : (sheets sheets1 : List Sheet) (notes notes1 : List Note) (b at : ℕ) (old : Option Sheet) (new : Sheet) → IsDraftOf sheets notes b → sheets1 ≡ set sheets at new → at < length sheets
    → notes1 ≡ notes ++ record { at = at; old = old } ∷ [] → IsDraftOf sheets1 notes1 b
draft_set sheets sheets1 notes notes1 b at old new is put within note =
    let n : Note = record { at = at; old = old } in
    let count : length sheets1 ≡ length sheets = ap (λ (l : List Sheet). length l) put ∙ length-set1 sheets at new in
    record {
      within = subst (Each (λ (n : Note). n.at < length sheets1)) (sym note) (note_more notes n (length sheets1) (omega (arith, count, within)) (each_note notes (length sheets) (length sheets1) (omega (arith, count)) is.within));
      grown = let e = is.grown in omega (arith, count, e);
      new = λ i low high. subst (λ (l : List ℕ). Contains l i) (sym (ap touched_by note ∙ touched-push notes n)) (Contains-append_left (touched_by notes) (at ∷ []) i (is.new i low (omega (arith, high, count))));
    }

pub at_within : (sheets : List Sheet) (notes : List Note) (b at : ℕ) (d : Drafted) → draft_of sheets notes b ≡ d → at < length d.now → at < length sheets
at_within sheets notes b at d is within = let e : length (sheet_kinds sheets) ≡ length d.now = ap (λ (x : Drafted). length x.now) is in omega (arith, e, within, length-kinds sheets)

pub sees_none : (sheets : List Sheet) (notes : List Note) (b : ℕ) (d : Drafted) → draft_of sheets notes b ≡ d → SeesNone d
sees_none sheets notes b d is = subst SeesNone is (record { count = length-map sheets is_away ∙ sym (length-map sheets sheet_kind); kind = λ at away. away_kind sheets at away })

pub length-undone : (ns : List Note) (xs : List Sheet) → length (undone ns xs) ≡ length xs
length-undone [] xs = refl
length-undone (n ∷ ns) xs = length-set1 (undone ns xs) n.at (sheet_kept n.old) ∙ length-undone ns xs

set-front : (xs : List Sheet) (y x : Sheet) (at : ℕ) → at < length xs → set (xs ++ y ∷ []) at x ≡ set xs at x ++ y ∷ []
set-front [] y x at within = absurd (omega (arith, within))
set-front (z ∷ xs) y x zero within = refl
set-front (z ∷ xs) y x (suc at) within = ap (λ (l : List Sheet). z ∷ l) (set-front xs y x at (omega (arith, within)))

undone-end : (ns : List Note) (xs : List Sheet) (x : Sheet) → Each (λ (n : Note). n.at < length xs) ns → undone ns (xs ++ x ∷ []) ≡ undone ns xs ++ x ∷ []
undone-end [] xs x within = refl
undone-end (n ∷ ns) xs x within =
    ap (λ (l : List Sheet). set l n.at (sheet_kept n.old)) (undone-end ns xs x within.1) ∙ set-front (undone ns xs) x (sheet_kept n.old) n.at (let e = within.0 in omega (arith, e, length-undone ns xs))

set_end : (xs : List Sheet) (x : Sheet) → set (xs ++ x ∷ []) (length xs) x ≡ xs ++ x ∷ []
set_end [] x = refl
set_end (y ∷ xs) x = ap (λ (l : List Sheet). y ∷ l) (set_end xs x)

take_front : (xs : List Sheet) (x : Sheet) (n : ℕ) → n ≤ length xs → take n (xs ++ x ∷ []) ≡ take n xs
take_front xs x zero within = refl
take_front [] x (suc n) within = absurd (omega (arith, within))
take_front (y ∷ xs) x (suc n) within = ap (λ (l : List Sheet). y ∷ l) (take_front xs x n (omega (arith, within)))

pub grow_view : (sheets sheets1 : List Sheet) (notes notes1 : List Note) (b at : ℕ) (d : Drafted) → IsDraftOf sheets notes b → draft_of sheets notes b ≡ d → sheets1 ≡ sheets ++ FreeSheet ∷ [] → at ≡ length sheets
    → notes1 ≡ notes ++ record { at = at; old = None } ∷ [] → draft_of sheets1 notes1 b ≡ with_free_page d
grow_view sheets sheets1 notes notes1 b at d good is put where_ note =
    let n : Note = record { at = at; old = None } in
    let olds : List Sheet = take b (undone notes sheets) in
    let now : sheet_kinds sheets1 ≡ sheet_kinds sheets ++ Free ∷ [] = ap sheet_kinds put ∙ kinds-push sheets FreeSheet in
    let away : away_of sheets1 ≡ away_of sheets ++ false ∷ [] = ap away_of put ∙ away_of-push sheets FreeSheet in
    let before : undone notes1 sheets1 ≡ undone notes sheets ++ FreeSheet ∷ [] =
    ap (λ (l : List Note). undone l sheets1) note ∙ undone-push notes n sheets1 ∙ ap (λ (l : List Sheet). undone notes (set l at FreeSheet)) put
    ∙ ap (λ (i : ℕ). undone notes (set (sheets ++ FreeSheet ∷ []) i FreeSheet)) where_ ∙ ap (undone notes) (set_end sheets FreeSheet) ∙ undone-end notes sheets FreeSheet good.within in
    let first : take b (undone notes1 sheets1) ≡ olds = ap (take b) before ∙ take_front (undone notes sheets) FreeSheet b (let e = good.grown in omega (arith, e, length-undone notes sheets)) in
    let touched : touched_by notes1 ≡ touched_by notes ++ length (sheet_kinds sheets) ∷ [] =
    ap touched_by note ∙ touched-push notes n ∙ ap (λ (i : ℕ). touched_by notes ++ i ∷ []) (where_ ∙ sym (length-kinds sheets)) in
    ap (λ (l : List Sheet). record { before = shown l; now = sheet_kinds sheets1; away = away_of sheets1; touched = touched_by notes1 }) first
    ∙ ap (λ (l : List Kind). record { before = shown olds; now = l; away = away_of sheets1; touched = touched_by notes1 }) now
    ∙ ap (λ (l : List Bool). record { before = shown olds; now = sheet_kinds sheets ++ Free ∷ []; away = l; touched = touched_by notes1 }) away
    ∙ ap (λ (l : List ℕ). record { before = shown olds; now = sheet_kinds sheets ++ Free ∷ []; away = away_of sheets ++ false ∷ []; touched = l }) touched
    ∙ ap with_free_page is

pub draft_grown : (sheets sheets1 : List Sheet) (notes notes1 : List Note) (b at : ℕ) → IsDraftOf sheets notes b → sheets1 ≡ sheets ++ FreeSheet ∷ [] → at ≡ length sheets → notes1 ≡ notes ++ record { at = at; old = None } ∷ [] → IsDraftOf sheets1 notes1 b
draft_grown sheets sheets1 notes notes1 b at is put where_ note =
    let n : Note = record { at = at; old = None } in
    let count : length sheets1 ≡ length sheets + 1 = ap (λ (l : List Sheet). length l) put ∙ length-append sheets (FreeSheet ∷ []) in
    let touched : touched_by notes1 ≡ touched_by notes ++ at ∷ [] = ap touched_by note ∙ touched-push notes n in
    record {
      within = subst (Each (λ (n : Note). n.at < length sheets1)) (sym note) (note_more notes n (length sheets1) (omega (arith, count, where_)) (each_note notes (length sheets) (length sheets1) (omega (arith, count)) is.within));
      grown = let e = is.grown in omega (arith, count, e);
      new = λ i low high. subst (λ (l : List ℕ). Contains l i) (sym touched) (of i (i == at) (λ e. grind (arith, e)) (λ e. grind (arith, e)) low (omega (arith, high, count)));
    }
  where
    of : (i : ℕ) (t : Bool) → (t ≡ true → i ≡ at) → (t ≡ false → i ≢ at) → b ≤ i → i < length sheets + 1 → Contains (touched_by notes ++ at ∷ []) i
    of i true yes_ no_ low high = subst (λ (j : ℕ). Contains (touched_by notes ++ at ∷ []) j) (sym (yes_ refl)) (Contains-push (touched_by notes) at)
    of i false yes_ no_ low high = Contains-append_left (touched_by notes) (at ∷ []) i (is.new i low (let e = no_ refl in omega (arith, high, where_, e)))

-- ---- undoing

within_front : (ns : List Note) (n : Note) (a : ℕ) → Each (λ (n : Note). n.at < a) (ns ++ n ∷ []) → (n.at < a) × Each (λ (n : Note). n.at < a) ns
within_front [] n a all = (all.0, tt)
within_front (o ∷ ns) n a all = let r = within_front ns n a all.1 in (r.0, (all.0, r.1))

pub record Undoes (sheets sheets1 : List Sheet) (notes notes1 : List Note) : Type 0 where
  pub within : Each (λ (n : Note). n.at < length sheets1) notes1
  pub same_ : undone notes1 sheets1 ≡ undone notes sheets

pub undoes_step : (sheets xs ys : List Sheet) (notes ns ms : List Note) (n : Note) (old : Sheet) → Undoes sheets xs notes ns → ns ≡ ms ++ n ∷ [] → old ≡ sheet_kept n.old → ys ≡ set xs n.at old → Undoes sheets ys notes ms
undoes_step sheets xs ys notes ns ms n old is last kept put =
    let count : length ys ≡ length xs = ap (λ (l : List Sheet). length l) put ∙ length-set1 xs n.at old in
    record {
      within = each_note ms (length xs) (length ys) (omega (arith, count)) (within_front ms n (length xs) (subst (Each (λ (n : Note). n.at < length xs)) last is.within)).1;
      same_ = ap (λ (l : List Sheet). undone ms l) (put ∙ ap (set xs n.at) kept) ∙ sym (undone-push ms n xs) ∙ sym (ap (λ (l : List Note). undone l xs) last) ∙ is.same_;
    }

pub undoes_within : (sheets xs : List Sheet) (notes ns ms : List Note) (n : Note) → Undoes sheets xs notes ns → ns ≡ ms ++ n ∷ [] → n.at < length xs
undoes_within sheets xs notes ns ms n is last = (within_front ms n (length xs) (subst (Each (λ (n : Note). n.at < length xs)) last is.within)).0
