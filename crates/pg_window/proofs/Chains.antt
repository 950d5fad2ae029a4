-- The long pages of values, brought into memory one after the other.
use Rattle.std.specs.Prelude.{map}
use Rattle.std.proofs.Common.{◌≡◌, ⊎_elim, ℕ, ◌+◌, ◌-◌, ◌<◌, ◌≤◌, List, [], ◌∷◌, ◌++◌, length, get_or, take, refl, sym, ap, subst, ◌∙◌, arith, append_assoc, append-nil, length-append}
use Rattle.std.proofs.lemmas.Bool.{cases_lt}
use Rattle.std.proofs.lemmas.List.{get_or_past, get_or-map, length-map, take_more}
use Rattle.pg_map.specs.Holding.{kind_of_page, IsChain, Placed, StandsFor, chains_of, bytes_of}
use Rattle.pg_map.specs.Kinds.{Each, Kind, Free, Long, IsKind, StringItem, Short, Far, item_bytes, IsStringItem, page_of, count_of}
use Rattle.pg_map.specs.Loose.{Stand}
use Rattle.pg_map.specs.laws.MapReading.{kind_is}
use Rattle.pg_map.specs.laws.Standing.{Items}
use Rattle.pg_directory.specs.Trees.{StorePage, Plain, Directory, IsPage, kind_of}
use Rattle.pg_directory.specs.laws.Holding.{kinds_are}
use Rattle.pg_directory.specs.laws.Pages.{each_at}
use Rattle.pg_window.specs.declared.sheets.Sheet.{Sheet}
use Rattle.pg_window.specs.Loading.{AddsLongs, SheetsShow}
use Rattle.pg_window.specs.laws.Parts.{chains-append}
use Rattle.pg_window.proofs.Loaded.{adds_none, adds_then}

-- Of a value's long pages the first came into memory; what is left is to have the other bytes.
pub record IsOnChain (pages : List StorePage) (old now : List Sheet) (chain : List ℕ) (number done count : ℕ) : Type 0 where
  pub front : List ℕ
  pub left : List ℕ
  pub rest : List ℕ
  pub is : chain ≡ front ++ left
  pub left_is : IsChain (map kind_of pages) number left rest
  pub long : done + length rest ≡ count
  pub adds : AddsLongs pages old now front

pub chain_begins : (pages : List StorePage) (sheets : List Sheet) (chain value : List ℕ) (first count : ℕ) → SheetsShow pages sheets → IsChain (map kind_of pages) first chain value → length value ≡ count → IsOnChain pages sheets sheets chain first 0 count
chain_begins pages sheets chain value first count shows is long = record { front = []; left = chain; rest = value; is = refl; left_is = is; long = omega (arith, long); adds = adds_none pages sheets shows }

-- The next page of a value that isn't whole yet.
pub record HasNext (pages : List StorePage) (old now : List Sheet) (chain : List ℕ) (number done count : ℕ) : Type 0 where
  pub next : ℕ
  pub used : List ℕ
  pub low : 3 ≤ number
  pub kind : kind_of_page (map kind_of pages) number ≡ Long next used
  pub on : (later : List Sheet) → AddsLongs pages now later (number ∷ []) → IsOnChain pages old later chain next (done + length used) count

pub next_on_chain : (pages : List StorePage) (old now : List Sheet) (chain : List ℕ) (number done count : ℕ) → IsOnChain pages old now chain number done count → done < count → HasNext pages old now chain number done count
next_on_chain pages old now chain number done count c less = of c.left refl
  where
    of : (left : List ℕ) → c.left ≡ left → HasNext pages old now chain number done count
    of [] none =
        let end : IsChain (map kind_of pages) number [] c.rest = subst (λ (l : List ℕ). IsChain (map kind_of pages) number l c.rest) none c.left_is in
        let e = ap (λ (l : List ℕ). length l) end.1 in
        let l = c.long in
        absurd (omega (arith, e, l, less))
    of (i ∷ is) some = step (subst (λ (l : List ℕ). IsChain (map kind_of pages) number l c.rest) some c.left_is)
      where
        step : IsChain (map kind_of pages) number (i ∷ is) c.rest → HasNext pages old now chain number done count
        step (at, least, next, bytes, rest, kind, parts, more) = record {
          next = next;
          used = bytes;
          low = subst (λ (n : ℕ). 3 ≤ n) at least;
          kind = ap (kind_of_page (map kind_of pages)) (sym at) ∙ kind;
          on = λ later adds. record {
            front = c.front ++ number ∷ [];
            left = is;
            rest = rest;
            is = c.is ∙ ap (λ (l : List ℕ). c.front ++ l) some ∙ ap (λ (n : ℕ). c.front ++ n ∷ is) at ∙ sym (append_assoc c.front (number ∷ []) is);
            left_is = more;
            long = let e = ap (λ (l : List ℕ). length l) parts in let l = c.long in omega (arith, e, l, length-append bytes rest);
            adds = adds_then pages old now later c.front (number ∷ []) c.adds adds;
          };
        }

pub chain_whole : (pages : List StorePage) (old now : List Sheet) (chain : List ℕ) (number done count : ℕ) → Each IsPage pages → IsOnChain pages old now chain number done count → count ≤ done → AddsLongs pages old now chain
chain_whole pages old now chain number done count are c all = of c.left refl
  where
    of : (left : List ℕ) → c.left ≡ left → AddsLongs pages old now chain
    of [] none = subst (λ (l : List ℕ). AddsLongs pages old now l) (sym (c.is ∙ ap (λ (l : List ℕ). c.front ++ l) none ∙ append-nil c.front)) c.adds
    of (i ∷ is) some = step (subst (λ (l : List ℕ). IsChain (map kind_of pages) number l c.rest) some c.left_is)
      where
        step : IsChain (map kind_of pages) number (i ∷ is) c.rest → AddsLongs pages old now chain
        step (at, least, next, bytes, rest, kind, parts, more) =
            let k : IsKind (Long next bytes) = subst IsKind kind (kind_is (map kind_of pages) (i - 3) (kinds_are pages are)) in
            let byte = k.1 in
            let e = ap (λ (l : List ℕ). length l) parts in
            let l = c.long in
            absurd (omega (arith, e, l, byte, all, length-append bytes rest))

-- a page of this kind, which is none of the directory
pub long_page : (pages : List StorePage) (number next : ℕ) (used : List ℕ) → Each IsPage pages → kind_of_page (map kind_of pages) number ≡ Long next used → (number - 3 < length pages) × (get_or pages (number - 3) (Plain Free) ≡ Plain (Long next used)) × IsKind (Long next used)
long_page pages number next used are kind = ⊎_elim
    (λ less. (less, plain (get_or pages (number - 3) (Plain Free)) (sym (get_or-map kind_of pages (number - 3) (Plain Free) Free less) ∙ kind), subst IsKind kind (kind_is (map kind_of pages) (number - 3) (kinds_are pages are))))
    (λ past. absurd (no_page (sym (get_or_past (map kind_of pages) (number - 3) Free (let l = length-map pages kind_of in omega (arith, l, past))) ∙ kind)))
    (cases_lt (number - 3) (length pages))
  where
    no_page : Free ≡ Long next used → ⊥
    no_page is = cc is

    plain : (p : StorePage) → kind_of p ≡ Long next used → p ≡ Plain (Long next used)
    plain (Plain k) is = ap Plain is
    plain (Directory d) is = absurd (no_page is)

-- ---- the values of a page's entries

pub no_placed : Placed
no_placed = record { item = Short [] []; entry = ([], []); chain = [] }

-- the value of one string's entry
pub value_of : (P : List ℕ → Type 0) (ks : List Kind) (string : List ℕ) (first count : ℕ) → ((item : StringItem) → IsStringItem item → string ≡ item_bytes item → (first ≡ page_of item) × (count ≡ count_of item))
    → ((chain value : List ℕ) → IsChain ks first chain value → length value ≡ count → P chain) → ((key value : List ℕ) → string ≡ item_bytes (Short key value) → ⊥)
    → (p : Placed) → IsStringItem p.item → StandsFor ks p.item p.entry p.chain → string ≡ item_bytes p.item → P p.chain
value_of P ks string first count far_is each not_short p good stands is = of p.item good stands is
  where
    of : (item : StringItem) → IsStringItem item → StandsFor ks item p.entry p.chain → string ≡ item_bytes item → P p.chain
    of (Short key value) good_ stands_ is_ = absurd (not_short key value is_)
    of (Far key n f) good_ stands_ is_ =
        let far = far_is (Far key n f) good_ is_ in
        each p.chain p.entry.1 (subst (λ (k : ℕ). IsChain ks k p.chain p.entry.1) (sym far.0) stands_.2) (stands_.1 ∙ sym far.1)

pub no_value_of : (pages : List StorePage) (sheets : List Sheet) (string : List ℕ) → ((key : List ℕ) (count first : ℕ) → string ≡ item_bytes (Far key count first) → ⊥) → SheetsShow pages sheets
    → (p : Placed) → StandsFor (map kind_of pages) p.item p.entry p.chain → string ≡ item_bytes p.item → AddsLongs pages sheets sheets p.chain
no_value_of pages sheets string not_far shows p stands is = of p.item stands is
  where
    of : (item : StringItem) → StandsFor (map kind_of pages) item p.entry p.chain → string ≡ item_bytes item → AddsLongs pages sheets sheets p.chain
    of (Short key value) stands_ is_ = subst (λ (l : List ℕ). AddsLongs pages sheets sheets l) (sym stands_.1) (adds_none pages sheets shows)
    of (Far key n f) stands_ is_ = absurd (not_far key n f is_)

-- one entry more
pub record IsPlaced (pages : List StorePage) (ps : List Placed) (i : ℕ) (string : List ℕ) (p : Placed) : Type 0 where
  pub good : IsStringItem p.item
  pub stands : StandsFor (map kind_of pages) p.item p.entry p.chain
  pub is : string ≡ item_bytes p.item

pub placed_at : (pages : List StorePage) (ps : List Placed) (ss : List (List ℕ)) (i : ℕ) (string : List ℕ) → Items ps → Stand (map kind_of pages) ps → ss ≡ bytes_of ps → i < length ss → string ≡ get_or ss i [] → IsPlaced pages ps i string (get_or ps i no_placed)
placed_at pages ps ss i string items stand bytes less is =
    let within : i < length ps = let e = ap (λ (l : List (List ℕ)). length l) bytes in let l = length-map ps (λ (p : Placed). item_bytes p.item) in omega (arith, e, l, less) in
    record {
      good = each_at (λ (p : Placed). IsStringItem p.item) ps i no_placed items within;
      stands = each_at (λ (p : Placed). StandsFor (map kind_of pages) p.item p.entry p.chain) ps i no_placed stand within;
      is = is ∙ ap (λ (l : List (List ℕ)). get_or l i []) bytes ∙ get_or-map (λ (p : Placed). item_bytes p.item) ps i no_placed [] within;
    }

pub value_more : (pages : List StorePage) (old now later : List Sheet) (ps : List Placed) (ss : List (List ℕ)) (i : ℕ) → ss ≡ bytes_of ps → i < length ss → AddsLongs pages old now (chains_of (take i ps)) → AddsLongs pages now later (get_or ps i no_placed).chain
    → AddsLongs pages old later (chains_of (take (i + 1) ps))
value_more pages old now later ps ss i bytes less a b =
    let within : i < length ps = let e = ap (λ (l : List (List ℕ)). length l) bytes in let l = length-map ps (λ (p : Placed). item_bytes p.item) in omega (arith, e, l, less) in
    let p = get_or ps i no_placed in
    let all : chains_of (take (i + 1) ps) ≡ chains_of (take i ps) ++ p.chain =
    ap chains_of (take_more ps i no_placed within) ∙ chains-append (take i ps) (p ∷ []) ∙ ap (λ (l : List ℕ). chains_of (take i ps) ++ l) (append-nil p.chain) in
    subst (λ (l : List ℕ). AddsLongs pages old later l) (sym all) (adds_then pages old now later (chains_of (take i ps)) p.chain a b)
