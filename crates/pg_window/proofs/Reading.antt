-- Pages, read back from their bytes.
use Rattle.std.proofs.Common.{◌≡◌, ℕ, List, Option, Some, Vec, Global, ap, subst, ◌∙◌}
use Rattle.std.specs.Option.{option_map}
use Rattle.pg_journal.specs.Pages.{Numbered}
use Rattle.pg_cache.specs.Caches.{bytes_at}
use Rattle.pg_map.specs.Kinds.{Long, IsKind, bytes_of_kind}
use Rattle.pg_map.specs.SheetReading.{IsSheetOr}
use Rattle.pg_map.specs.Sheets.{sheet_kind}
use Rattle.pg_map.specs.declared.sheets.Sheet.{Sheet}
use Rattle.pg_map.specs.declared.sheets.Sheet.TheVariants.{Long as LongSheet}
use Rattle.pg_map.specs.laws.Holding.{long_parts}
use Rattle.pg_map.specs.laws.OneMap.{one_kind}
use Rattle.pg_directory.specs.Keeping.{IsKeptPage}

pub long_read : (o : Option Sheet) (s : Sheet) (bytes : List ℕ) (n : ℕ) (v : Vec ℕ Global) (next : ℕ) (used : List ℕ) → IsSheetOr (option_map sheet_kind o) bytes → o ≡ Some s → s ≡ LongSheet n v → IsKind (Long next used) → bytes ≡ bytes_of_kind (Long next used) → (n ≡ next) × (v.items ≡ used)
long_read o s bytes n v next used read some is good bytes_are =
    let k : IsSheetOr (option_map sheet_kind (Some (LongSheet n v))) bytes = subst (λ (x : Option Sheet). IsSheetOr (option_map sheet_kind x) bytes) (some ∙ ap (λ (x : Sheet). Some x) is) read in
    long_parts n next v.items used (one_kind (Long n v.items) (Long next used) k.0 good (k.1 ∙ bytes_are))

pub long_kind : (o : Option Sheet) (s : Sheet) (bytes : List ℕ) (n : ℕ) (v : Vec ℕ Global) → IsSheetOr (option_map sheet_kind o) bytes → o ≡ Some s → s ≡ LongSheet n v → IsKind (Long n v.items)
long_kind o s bytes n v read some is =
    let k : IsSheetOr (option_map sheet_kind (Some (LongSheet n v))) bytes = subst (λ (x : Option Sheet). IsSheetOr (option_map sheet_kind x) bytes) (some ∙ ap (λ (x : Sheet). Some x) is) read in
    k.0

-- the bytes of the page that was found
pub kept_given : (cache : List Numbered) (bytes : List ℕ) {found : Option ℕ} {at : ℕ} {page : List ℕ} → IsKeptPage found cache bytes → found ≡ Some at → page ≡ bytes_at cache at → page ≡ bytes
kept_given cache bytes kept is lent = lent ∙ subst (λ (o : Option ℕ). IsKeptPage o cache bytes) is kept
