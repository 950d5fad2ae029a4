-- Values on long pages, read one page after the other.
use Rattle.std.proofs.Common.{◌≡◌, ℕ, zero, suc, ◌+◌, ◌-◌, ◌≤◌, ◌<◌, List, [], ◌∷◌, ◌++◌, length, take, drop, get_or, refl, sym, ap, subst, ◌∙◌, arith, append_assoc, append-nil, length-append}
use Rattle.std.specs.Prelude.{map}
use Rattle.std.proofs.lemmas.List.{take_at}
use Rattle.std.proofs.lemmas.Nat.{from_be_bytes-to_be_bytes_2, from_be_bytes-to_be_bytes_4}
use Rattle.ct_base.specs.Zeros.{zeros}
use Rattle.pg_journal.specs.Pages.{number_in}
use Rattle.pg_page.specs.Pages.{number_at}
use Rattle.pg_map.specs.Kinds.{Each, Free, Long, bytes_of_kind, IsKind}
use Rattle.pg_map.specs.Holding.{kind_of_page, IsChain, one_if_long}
use Rattle.pg_directory.specs.Trees.{StorePage, Plain, Directory, IsPage, kind_of, page_at}
use Rattle.pg_directory.proofs.Strings.{there, page_good}

pub long_next : (next : ℕ) (bytes page : List ℕ) → IsKind (Long next bytes) → page ≡ bytes_of_kind (Long next bytes) → number_in page 1 ≡ next
unfolding bytes_of_kind
long_next next bytes page good is = ap (λ (l : List ℕ). number_in l 1) is ∙ from_be_bytes-to_be_bytes_4 next good.0

pub long_used : (next : ℕ) (bytes page : List ℕ) → IsKind (Long next bytes) → page ≡ bytes_of_kind (Long next bytes) → number_at page 5 ≡ length bytes
unfolding bytes_of_kind
long_used next bytes page good is = ap (λ (l : List ℕ). number_at l 5) is ∙ from_be_bytes-to_be_bytes_2 (length bytes) (omega (arith, good.2))

pub long_bytes : (next : ℕ) (bytes page : List ℕ) → page ≡ bytes_of_kind (Long next bytes) → take (length bytes) (drop 8 page) ≡ bytes
unfolding bytes_of_kind
long_bytes next bytes page is = ap (λ (l : List ℕ). take (length bytes) (drop 8 l)) is ∙ take_at bytes (zeros (4088 - length bytes)) (length bytes) refl

-- A long page is one of the pages.
pub record IsLongPage (pages : List StorePage) (number next : ℕ) (bytes : List ℕ) : Type 0 where
  pub at : page_at pages number ≡ Plain (Long next bytes)
  pub good : IsKind (Long next bytes)
  pub within : number < 3 + length pages

pub kind_at : (pages : List StorePage) (n : ℕ) → get_or (map kind_of pages) n Free ≡ kind_of (get_or pages n (Plain Free))
kind_at [] n = refl
kind_at (p ∷ pages) zero = refl
kind_at (p ∷ pages) (suc n) = kind_at pages n

pub long_page : (pages : List StorePage) (number next : ℕ) (bytes : List ℕ) → Each IsPage pages → 3 ≤ number → kind_of_page (map kind_of pages) number ≡ Long next bytes → IsLongPage pages number next bytes
long_page pages number next bytes are low kind = of (page_at pages number) refl
  where
    here : kind_of (page_at pages number) ≡ Long next bytes
    here = sym (kind_at pages (number - 3)) ∙ kind

    some : (page_at pages number ≡ Plain Free → ⊥)
    some free = let e : 0 ≡ 1 = ap (λ (p : StorePage). one_if_long (kind_of p)) (sym free) ∙ ap one_if_long here in omega (arith, e)

    of : (p : StorePage) → page_at pages number ≡ p → IsLongPage pages number next bytes
    of (Plain k) is =
        let same : k ≡ Long next bytes = ap kind_of (sym is) ∙ here in
        let at : page_at pages number ≡ Plain (Long next bytes) = is ∙ ap Plain same in
        let less = there pages (number - 3) some in
        record { at = at; good = subst IsPage at (page_good pages number are); within = omega (arith, less, low) }
    of (Directory d) is = let e : 0 ≡ 1 = ap one_if_long (ap kind_of (sym is) ∙ here) in absurd (omega (arith, e))

-- So much of a value was read; the rest stands on pages from this one on.
pub record IsPartRead (pages : List StorePage) (number : ℕ) (done value : List ℕ) : Type 0 where
  pub rest : List ℕ
  pub chain : List ℕ
  pub parts : value ≡ done ++ rest
  pub is : IsChain (map kind_of pages) number chain rest

pub none_read : (pages : List StorePage) (number : ℕ) (chain value done : List ℕ) → done ≡ [] → IsChain (map kind_of pages) number chain value → IsPartRead pages number done value
none_read pages number chain value done none is = record { rest = value; chain = chain; parts = ap (λ (l : List ℕ). l ++ value) (sym none); is = is }

-- where there is more, the next page is a long one
pub record HasNext (pages : List StorePage) (number : ℕ) (done value : List ℕ) : Type 0 where
  pub low : 3 ≤ number
  pub next : ℕ
  pub bytes : List ℕ
  pub kind : kind_of_page (map kind_of pages) number ≡ Long next bytes
  pub on : IsPartRead pages next (done ++ bytes) value

pub next_page : (pages : List StorePage) (number : ℕ) (done value : List ℕ) → IsPartRead pages number done value → length done < length value → HasNext pages number done value
next_page pages number done value p less = of p.chain p.rest p.parts p.is
  where
    of : (chain rest : List ℕ) → value ≡ done ++ rest → IsChain (map kind_of pages) number chain rest → HasNext pages number done value
    of [] rest parts is = absurd (let e = ap (λ (l : List ℕ). length l) (parts ∙ ap (λ (l : List ℕ). done ++ l) is.1 ∙ append-nil done) in omega (arith, e, less))
    of (i ∷ more) rest parts (here, low, next, bytes, later, kind, split, chain) =
        record {
          low = subst (λ (n : ℕ). 3 ≤ n) here low;
          next = next;
          bytes = bytes;
          kind = ap (kind_of_page (map kind_of pages)) (sym here) ∙ kind;
          on = record { rest = later; chain = more; parts = parts ∙ ap (λ (l : List ℕ). done ++ l) split ∙ sym (append_assoc done bytes later); is = chain };
        }

pub all_read : (pages : List StorePage) (number : ℕ) (done value : List ℕ) → IsPartRead pages number done value → length value ≤ length done → done ≡ value
all_read pages number done value p most = of p.rest p.parts
  where
    of : (rest : List ℕ) → value ≡ done ++ rest → done ≡ value
    of [] parts = sym (parts ∙ append-nil done)
    of (r ∷ rest) parts = absurd (let e = ap (λ (l : List ℕ). length l) parts in omega (arith, e, most, length-append done (r ∷ rest)))
