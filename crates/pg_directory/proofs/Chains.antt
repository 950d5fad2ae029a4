-- A value, as its long pages are taken by their notes.
use Rattle.std.specs.Prelude.{Bool, true, false, cond, map}
use Rattle.std.proofs.Common.{◌≡◌, ◌≢◌, ℕ, zero, suc, ◌+◌, ◌-◌, ◌<◌, ◌≤◌, List, [], ◌∷◌, ◌++◌, length, length-append, get_or, set, Some, None, refl, sym, ap, subst, ◌∙◌, arith}
use Rattle.std.proofs.lemmas.List.{length-map}
use Rattle.pg_map.specs.ChainReading.{taken_times}
use Rattle.pg_map.specs.Holding.{kind_of_page}
use Rattle.pg_map.specs.Kinds.{Each, Kind, Free, Slotted, Long, IsKind}
use Rattle.pg_map.specs.laws.ValueReads.{Walks, walks_none, walks_more, walks_stuck, walks_over, walks_on, walks_all}
use Rattle.pg_map.specs.laws.MapReading.{kind_is}
use Rattle.pg_directory.specs.declared.noting.PageNote.{PageNote}
use Rattle.pg_directory.specs.Noting.{long_in, note_of, IsNotedOr, IsChainOr}
use Rattle.pg_directory.specs.Trees.{StorePage, Plain, Directory, kind_of}
use Rattle.pg_directory.proofs.LongValues.{kind_at}

-- ---- one page

-- the note of a long page is that of such a kind
pub record IsLongNote (p : StorePage) (next used : ℕ) : Type 0 where
  pub bytes : List ℕ
  pub kind : kind_of p ≡ Long next bytes
  pub long : length bytes ≡ used

pub long_note : (p : StorePage) (next used : ℕ) → Some (next, used) ≡ long_in (note_of p) → IsLongNote p next used
long_note (Plain Free) next used is = absurd (cc is)
long_note (Plain (Slotted ss)) next used is = absurd (cc is)
long_note (Plain (Long n bytes)) next used is =
    let same : (next, used) ≡ (n, length bytes) = cc is in
    record { bytes = bytes; kind = ap (λ (x : ℕ × ℕ). Long x.0 bytes) (sym same); long = sym (ap (λ (x : ℕ × ℕ). x.1) same) }
long_note (Directory d) next used is = absurd (cc is)

note_there : (pages : List StorePage) (n : ℕ) (d : PageNote) → n < length (map note_of pages) → get_or (map note_of pages) n d ≡ note_of (get_or pages n (Plain Free))
note_there [] n d less = absurd (omega (arith, less))
note_there (p ∷ pages) zero d less = refl
note_there (p ∷ pages) (suc n) d less = note_there pages n d (omega (arith, less))

module _ (pages : List StorePage) (notes : List PageNote) (are : notes ≡ map note_of pages) (old : List Bool) (page at : ℕ) (low : 3 ≤ page) (place : at ≡ page - 3) where
  abbrev own : StorePage
  own = get_or pages at (Plain Free)

  kind_here : kind_of_page (map kind_of pages) page ≡ kind_of own
  kind_here = ap (λ (n : ℕ). get_or (map kind_of pages) n Free) (sym place) ∙ kind_at pages at

  note_here : (d : PageNote) → at < length notes → get_or notes at d ≡ note_of own
  note_here d less = ap (λ (l : List PageNote). get_or l at d) are ∙ note_there pages at d (subst (λ (l : List PageNote). at < length l) are less)

  pub noted_taken : (new : List Bool) (next used : ℕ) (d : PageNote) → at < length notes → length old ≡ length notes → get_or old at false ≡ false → Some (next, used) ≡ long_in (get_or notes at d) → new ≡ set old at true → IsNotedOr (Some (next, used)) (map kind_of pages) page old new
  noted_taken new next used d less long free is set_ =
      let l = long_note own next used (is ∙ ap long_in (note_here d less)) in (
        l.bytes,
        l.long,
        λ before. record {
          low = low;
          bytes = l.bytes;
          kind = kind_here ∙ l.kind;
          first = ap (λ (n : ℕ). cond (get_or old n false) 1 0) (sym place) ∙ ap (λ (b : Bool). cond b 1 0) free;
          within = omega (arith, less, long, place);
          taken = set_ ∙ ap (λ (n : ℕ). set old n true) place;
          value = refl;
        },
      )

  -- the kind of a page that is there
  pub not_long : (next : ℕ) (bytes : List ℕ) (d : PageNote) → at < length notes → None ≡ long_in (get_or notes at d) → kind_of_page (map kind_of pages) page ≡ Long next bytes → ⊥
  not_long next bytes d less none kind = of own (none ∙ ap long_in (note_here d less)) (sym kind_here ∙ kind)
    where
      of : (p : StorePage) → None ≡ long_in (note_of p) → kind_of p ≡ Long next bytes → ⊥
      of (Plain Free) is k = cc k
      of (Plain (Slotted ss)) is k = cc k
      of (Plain (Long n b)) is k = cc is
      of (Directory d) is k = cc k

  pub was_taken : (next : ℕ) (bytes : List ℕ) → get_or old at false ≡ true → taken_times old page ≡ 0 → ⊥
  was_taken next bytes is none =
      let one : taken_times old page ≡ 1 = ap (λ (n : ℕ). cond (get_or old n false) 1 0) (sym place) ∙ ap (λ (b : Bool). cond b 1 0) is in
      omega (arith, one, none)

  pub none_there : (next : ℕ) (bytes : List ℕ) → length notes ≤ at → kind_of_page (map kind_of pages) page ≡ Long next bytes → ⊥
  none_there next bytes past kind = of pages at (let l = ap (λ (x : List PageNote). length x) are ∙ length-map pages note_of in omega (arith, l, past)) (sym (kind_at pages at) ∙ ap (λ (n : ℕ). get_or (map kind_of pages) n Free) place ∙ kind)
    where
      kind_long : Kind → ℕ
      kind_long Free = 0
      kind_long (Slotted ss) = 0
      kind_long (Long n b) = 1

      of : (ps : List StorePage) (n : ℕ) → length ps ≤ n → kind_of (get_or ps n (Plain Free)) ≡ Long next bytes → ⊥
      of [] n least is = let e = ap kind_long is in omega (arith, e)
      of (p ∷ ps) zero least is = omega (arith, least)
      of (p ∷ ps) (suc n) least is = of ps n (omega (arith, least)) is

-- ---- a value

-- Pages were taken from the first one on, with so many bytes of a value.
pub record IsPartTaken (kinds : List Kind) (first : ℕ) (old new : List Bool) (page done : ℕ) : Type 0 where
  pub value : List ℕ
  pub long : length value ≡ done
  pub walks : Walks kinds first old new page value

pub none_taken : (kinds : List Kind) (first : ℕ) (old : List Bool) → IsPartTaken kinds first old old first 0
none_taken kinds first old = record { value = []; long = refl; walks = walks_none kinds first old }

module _ (kinds : List Kind) (first : ℕ) (old mid : List Bool) (page done count : ℕ) (part : IsPartTaken kinds first old mid page done) where
  pub more_taken : (new : List Bool) (found : ℕ × ℕ) (now : ℕ) → IsNotedOr (Some found) kinds page mid new → now ≡ done + found.1 → IsPartTaken kinds first old new found.0 now
  more_taken new found now (bytes, long, takes) is = record {
    value = part.value ++ bytes;
    long = omega (arith, is, long, part.long, length-append part.value bytes);
    walks = walks_more kinds first old mid new page found.0 part.value (part.value ++ bytes) part.walks (takes part.value);
  }

  pub stuck : (new after : List Bool) → done < count → IsNotedOr None kinds page mid new → IsChainOr false kinds old after first count
  stuck new after less none pages value chain long may =
      walks_stuck kinds first old mid new page count part.value part.value part.walks (let l = part.long in omega (arith, l, less)) none pages value chain long may

  -- a page that is there has a byte
  pub some_bytes : (new : List Bool) (found : ℕ × ℕ) → Each IsKind kinds → IsNotedOr (Some found) kinds page mid new → found.1 ≡ 0 → ⊥
  some_bytes new found are (bytes, long, takes) none =
      let k : IsKind (Long found.0 (takes []).bytes) = subst IsKind (takes []).kind (kind_is kinds (page - 3) are) in
      let some = k.1 in
      let e = ap (λ (l : List ℕ). length l) (takes []).value in
      omega (arith, some, e, long, none)

  pub over : (after : List Bool) → count < done → IsChainOr false kinds old after first count
  over after more pages value chain long may = walks_over kinds first old mid page count part.value part.walks (let l = part.long in omega (arith, l, more)) pages value chain long may

  pub goes_on : (after : List Bool) → Each IsKind kinds → count ≤ done → page ≢ 0 → IsChainOr false kinds old after first count
  goes_on after are all more pages value chain long may = walks_on kinds first old mid page count part.value are part.walks (let l = part.long in omega (arith, l, all)) more pages value chain long may

  pub whole : done ≡ count → page ≡ 0 → IsChainOr true kinds old mid first count
  whole all ends = (part.value, walks_all kinds first old mid page count part.value part.walks (part.long ∙ all) ends)

-- a chain ends where it names no further page
pub ends : (kinds : List Kind) (first : ℕ) (old new : List Bool) (page done count : ℕ) (r : Bool) → Each IsKind kinds → IsPartTaken kinds first old new page done → done ≡ count → (r ≡ true → page ≡ 0) → (r ≡ false → page ≢ 0) → IsChainOr r kinds old new first count
ends kinds first old new page done count true are part all yes_ no_ = whole kinds first old new page done count part all (yes_ refl)
ends kinds first old new page done count false are part all yes_ no_ = goes_on kinds first old new page done count part new are (omega (arith, all)) (no_ refl)
