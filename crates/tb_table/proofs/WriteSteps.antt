-- Columns and numbers that are written one after the other.
use Rattle.std.proofs.Common.{◌≡◌, ℕ, ℤ, pos, ◌+◌, ◌<◌, List, [], ◌∷◌, ◌++◌, length, take, get_or, sym, ap, subst, ◌∙◌, append_assoc, append-nil, FitsSigned, w64}
use Rattle.std.specs.List.{All, flat_map}
use Rattle.std.proofs.lemmas.Grind.{flat_map-append}
use Rattle.std.proofs.lemmas.List.{take_more}
use Rattle.std.proofs.lemmas.List.Elements.{All-more}
use Rattle.ct_bytes.specs.RowKeys.{row_bytes}
use Rattle.tb_table.specs.declared.columns.Column.{Column}
use Rattle.tb_table.specs.Spelling.{row_numbers_bytes}
use Rattle.tb_table.specs.Readings.{IsSpellable}

-- the bytes of one item more
pub piece_more : {X : Type 0} (f : X → List ℕ) (xs : List X) (i : ℕ) (x : X) → i < length xs → x ≡ get_or xs i x → flat_map f (take (i + 1) xs) ≡ flat_map f (take i xs) ++ f x
piece_more f xs i x less is =
    ap (flat_map f) (take_more xs i x less) ∙ flat_map-append f (take i xs) (get_or xs i x ∷ []) ∙ ap (λ (l : List ℕ). flat_map f (take i xs) ++ l) (append-nil (f (get_or xs i x)) ∙ ap f (sym is))

pub column_written : (f : Column → List ℕ) (cs : List Column) (i : ℕ) (c : Column) (count bytes new : List ℕ) → bytes ≡ count ++ flat_map f (take i cs) → i < length cs → c ≡ get_or cs i c → new ≡ bytes ++ f c → new ≡ count ++ flat_map f (take (i + 1) cs)
column_written f cs i c count bytes new so_far less is written =
    written
    ∙ ap (λ (l : List ℕ). l ++ f c) so_far
    ∙ append_assoc count (flat_map f (take i cs)) (f c)
    ∙ ap (λ (l : List ℕ). count ++ l) (sym (piece_more f cs i c less is))

pub column_more : (cs : List Column) (i : ℕ) (c : Column) → All IsSpellable (take i cs) → i < length cs → c ≡ get_or cs i c → IsSpellable c → All IsSpellable (take (i + 1) cs)
column_more cs i c so_far less is one = All-more IsSpellable cs i c less so_far (subst IsSpellable is one)

pub number_written : (zs : List ℤ) (i : ℕ) (bytes new eight : List ℕ) → bytes ≡ row_numbers_bytes (take i zs) → i < length zs → eight ≡ row_bytes (get_or zs i (pos 0)) → new ≡ bytes ++ eight → new ≡ row_numbers_bytes (take (i + 1) zs)
number_written zs i bytes new eight so_far less is written =
    written
    ∙ (λ j. so_far j ++ is j)
    ∙ sym (ap (flat_map row_bytes) (take_more zs i (pos 0) less) ∙ flat_map-append row_bytes (take i zs) (get_or zs i (pos 0) ∷ []) ∙ ap (λ (l : List ℕ). row_numbers_bytes (take i zs) ++ l) (append-nil (row_bytes (get_or zs i (pos 0)))))

pub number_more : (zs : List ℤ) (i : ℕ) → All (FitsSigned w64) (take i zs) → i < length zs → FitsSigned w64 (get_or zs i (pos 0)) → All (FitsSigned w64) (take (i + 1) zs)
number_more zs i so_far less one = All-more (FitsSigned w64) zs i (pos 0) less so_far one
