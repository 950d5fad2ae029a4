-- Birth, write by write.
use Rattle.std.proofs.Common.{◌≡◌, ◌≢◌, inl, inr, ℕ, suc, ◌+◌, ◌-◌, ◌≤◌, List, [], ◌∷◌, ◌++◌, length, take, drop, Some, Result, Ok, refl, sym, ap, subst, ◌∙◌, arith, append_assoc, append-nil, length-append}
use Rattle.std.specs.Prelude.{codes}
use Rattle.std.specs.Option.{option_map}
use Rattle.std.proofs.lemmas.List.{length-replicate, take_at, drop_at, take_all, drop_all, get_or_at}
use Rattle.std.proofs.lemmas.Bool.{cases_eq}
use Rattle.std.specs.Int.{to_be_bytes, w32}
use Rattle.ct_site.specs.declared.outside.Failed.{Failed}
use Rattle.ct_site.specs.Images.{written, Torn}
use Rattle.ct_site.specs.Pieces.{written_piece, torn_piece, length-written, IsPiece}
use Rattle.ct_site.specs.Disks.{DiskView, IsSettled, Leaves}
use Rattle.pg_journal.specs.Pages.{page, homes_in, top_in, root_page}
use Rattle.ct_base.specs.Zeros.{zeros}
use Rattle.pg_journal.specs.Recovered.{IsUnborn, IsRecovered, gate, mark, first_pages}
use Rattle.pg_journal.specs.Births.{born, IsCleared}
use Rattle.pg_journal.specs.Standing.{IsShut, DiskStands}
use Rattle.pg_journal.specs.laws.PageRuns.{root_homes, root_top, length-root}
use Rattle.ct_site.specs.Writing.{Writes}
use Rattle.ct_site.specs.laws.Writing.{writes_keep}
use Rattle.ct_site.specs.laws.Ranges.{torn_before}
use Rattle.pg_journal.proofs.PageRanges.{byte_same}
use Rattle.ct_base.specs.laws.Zeros.{zeros-add}

pub length-mark : length mark ≡ 4095
unfolding mark
length-mark = omega (arith, length-append (codes "CTXSTORE") (zeros 4087), length-replicate {A = ℕ} 4087 0)

pub length-born : length born ≡ 12287
unfolding born
length-born = omega (arith, length-append mark (zeros 4096 ++ root_page 3 0), length-append (zeros 4096) (root_page 3 0), length-replicate {A = ℕ} 4096 0, length-mark, length-root 3 0)

-- ---- the bytes

-- two pieces, put among zeros
pieces_among : (m r : List ℕ) (p q : ℕ) → length m ≡ 8 → length r ≡ 8 → written (8 + p) r (written 0 m (zeros (8 + (p + (8 + q))))) ≡ m ++ (zeros p ++ (r ++ zeros q))
pieces_among m r p q eight eight_too =
    let parts : zeros (8 + (p + (8 + q))) ≡ [] ++ (zeros 8 ++ zeros (p + (8 + q))) = zeros-add 8 (p + (8 + q)) in
    let more : zeros (p + (8 + q)) ≡ zeros p ++ (zeros 8 ++ zeros q) = zeros-add p (8 + q) ∙ ap (λ (l : List ℕ). zeros p ++ l) (zeros-add 8 q) in
    let long : length (m ++ zeros p) ≡ 8 + p = omega (arith, length-append m (zeros p), length-replicate {A = ℕ} p 0, eight) in
    ap (λ (l : List ℕ). written (8 + p) r l)
    (ap (λ (l : List ℕ). written 0 m l) parts ∙ written_piece [] (zeros 8) m (zeros (p + (8 + q))) 0 refl (eight ∙ sym (length-replicate {A = ℕ} 8 0))
    ∙ ap (λ (l : List ℕ). m ++ l) more ∙ sym (append_assoc m (zeros p) (zeros 8 ++ zeros q)))
    ∙ written_piece (m ++ zeros p) (zeros 8) r (zeros q) (8 + p) long (eight_too ∙ sym (length-replicate {A = ℕ} 8 0))
    ∙ append_assoc m (zeros p) (r ++ zeros q)

pub born_is : (b0 b1 b2 : List ℕ) → b0 ≡ zeros 12287 → b1 ≡ written 0 (codes "CTXSTORE") b0 → b2 ≡ written 8191 (4 ∷ 0 ∷ 0 ∷ 0 ∷ 0 ∷ 0 ∷ 0 ∷ 3 ∷ []) b1 → b2 ≡ born
unfolding born mark root_page
born_is b0 b1 b2 is first second =
    second ∙ ap (λ (l : List ℕ). written 8191 (4 ∷ 0 ∷ 0 ∷ 0 ∷ 0 ∷ 0 ∷ 0 ∷ 3 ∷ []) l) (first ∙ ap (λ (l : List ℕ). written 0 (codes "CTXSTORE") l) is)
    ∙ pieces_among (codes "CTXSTORE") (4 ∷ 0 ∷ 0 ∷ 0 ∷ 0 ∷ 0 ∷ 0 ∷ 3 ∷ []) 8183 4088 refl refl
    ∙ ap (λ (l : List ℕ). codes "CTXSTORE" ++ l) (ap (λ (l : List ℕ). l ++ (4 ∷ 0 ∷ 0 ∷ 0 ∷ 0 ∷ 0 ∷ 0 ∷ 3 ∷ zeros 4088)) (zeros-add 4087 4096) ∙ append_assoc (zeros 4087) (zeros 4096) (4 ∷ 0 ∷ 0 ∷ 0 ∷ 0 ∷ 0 ∷ 0 ∷ 3 ∷ zeros 4088))
    ∙ sym (append_assoc (codes "CTXSTORE") (zeros 4087) (zeros 4096 ++ (4 ∷ 0 ∷ 0 ∷ 0 ∷ 0 ∷ 0 ∷ 0 ∷ 3 ∷ zeros 4088)))

-- eight bytes, put before zeros
pub head_among : (m : List ℕ) (n : ℕ) → length m ≡ 8 → written 0 m (zeros (8 + n)) ≡ m ++ zeros n
head_among m n eight =
    ap (λ (l : List ℕ). written 0 m l) (zeros-add 8 n) ∙ written_piece [] (zeros 8) m (zeros n) 0 refl (eight ∙ sym (length-replicate {A = ℕ} 8 0))

pub root_is : (h t : ℕ) (b0 b1 b2 b3 bytes more : List ℕ) → b0 ≡ zeros (1 + (3 + (4 + 4088))) → b1 ≡ written 0 (4 ∷ []) b0 → bytes ≡ to_be_bytes w32 h → b2 ≡ written 4 bytes b1 → more ≡ to_be_bytes w32 t → b3 ≡ written 8 more b2 → b3 ≡ root_page h t
unfolding root_page
root_is h t b0 b1 b2 b3 bytes more is first be second be_too third =
    let one : b1 ≡ (4 ∷ []) ++ zeros (3 + (4 + 4088)) =
    first ∙ ap (λ (l : List ℕ). written 0 (4 ∷ []) l) (is ∙ zeros-add 1 (3 + (4 + 4088))) ∙ written_piece [] (zeros 1) (4 ∷ []) (zeros (3 + (4 + 4088))) 0 refl refl in
    let two : b1 ≡ (4 ∷ 0 ∷ 0 ∷ 0 ∷ []) ++ (zeros 4 ++ zeros 4088) = one ∙ ap (λ (l : List ℕ). 4 ∷ l) (zeros-add 3 (4 + 4088) ∙ ap (λ (l : List ℕ). zeros 3 ++ l) (zeros-add 4 4088)) in
    let three : b2 ≡ ((4 ∷ 0 ∷ 0 ∷ 0 ∷ []) ++ to_be_bytes w32 h) ++ (zeros 4 ++ zeros 4084) =
    second ∙ ap (λ (l : List ℕ). written 4 l b1) be ∙ ap (λ (l : List ℕ). written 4 (to_be_bytes w32 h) l) two ∙ written_piece (4 ∷ 0 ∷ 0 ∷ 0 ∷ []) (zeros 4) (to_be_bytes w32 h) (zeros 4088) 4 refl refl
    ∙ ap (λ (l : List ℕ). 4 ∷ 0 ∷ 0 ∷ 0 ∷ (to_be_bytes w32 h ++ l)) (zeros-add 4 4084) in
    third ∙ ap (λ (l : List ℕ). written 8 l b2) be_too ∙ ap (λ (l : List ℕ). written 8 (to_be_bytes w32 t) l) three ∙ written_piece ((4 ∷ 0 ∷ 0 ∷ 0 ∷ []) ++ to_be_bytes w32 h) (zeros 4) (to_be_bytes w32 t) (zeros 4084) 8 refl refl

-- ---- a store that was just born, but for its first byte

gate_of_born : (b : ℕ) → gate (b ∷ born) ≡ 0
unfolding born
gate_of_born b =
    let e : 4096 ≡ suc 4095 = refl in
    get_or_at (b ∷ mark) 0 (zeros 4095 ++ root_page 3 0) 0 4096 (omega (arith, length-mark))

root_of_born : (b : ℕ) → page (b ∷ born) 2 ≡ root_page 3 0
unfolding born
root_of_born b =
    let prefix : length ((b ∷ mark) ++ zeros 4096) ≡ 8192 = omega (arith, length-append (b ∷ mark) (zeros 4096), length-mark, length-replicate {A = ℕ} 4096 0) in
    ap (λ (l : List ℕ). take 4096 (drop 8192 l)) (sym (append_assoc (b ∷ mark) (zeros 4096) (root_page 3 0)))
    ∙ ap (λ (l : List ℕ). take 4096 l) (drop_at ((b ∷ mark) ++ zeros 4096) (root_page 3 0) 8192 prefix)
    ∙ take_all 4096 (root_page 3 0) (omega (arith, length-root 3 0))

mark_of_born : (b : ℕ) → take 4095 (drop 1 (b ∷ born)) ≡ mark
unfolding born
mark_of_born b = take_at mark (zeros 4096 ++ root_page 3 0) 4095 length-mark

pub born_shut : (b : ℕ) → b ≢ 0 → IsShut 3 first_pages (b ∷ born)
born_shut b some =
    let root = root_of_born b in
    let top : top_in (page (b ∷ born) 2) ≡ 0 = ap (λ (l : List ℕ). top_in l) root ∙ root_top 3 0 (omega arith) in
    let homes : homes_in (page (b ∷ born) 2) ≡ 3 = ap (λ (l : List ℕ). homes_in l) root ∙ root_homes 3 0 (omega arith) in
    record {
      store = record { born = (omega (arith, length-born), inl some); mark = mark_of_born b; whole = omega (arith, length-born) };
      closed = record {
        gate = λ is. omega (arith, is, gate_of_born b);
        root = record { is = root ∙ ap (λ (h : ℕ). root_page h 0) (sym homes) ∙ ap (root_page (homes_in (page (b ∷ born) 2))) (sym top); least = omega (arith, homes); most = omega (arith, homes) };
        inside = omega (arith, homes, length-born);
        are = ap (λ (l : List ℕ). l ∷ []) (sym root) ∙ ap (λ (n : ℕ). Rattle.pg_journal.specs.Pages.pages_from (page (b ∷ born)) 2 (n - 2)) (sym homes);
      };
      count = sym homes;
    }

pub born_recovers : (b : ℕ) → IsRecovered (b ∷ born) first_pages
born_recovers b = elim (cases_eq b 0) [
  | inl none ↦ inl (inr (none, omega (arith, length-born)), refl)
  | inr some ↦ inr ((born_shut b some).store, inl (born_shut b some).closed)
]

-- ---- the writes

pub unborn_first : (x y : List ℕ) → length x ≤ 1 → Torn 0 1 x y → length y ≤ 1
unborn_first x y short torn = omega (arith, torn.no_longer, short)

pub cleared_torn : (n : ℕ) (x y : List ℕ) → n ≤ 12287 → IsCleared x → Torn 1 n x y → IsCleared y
cleared_torn n x y few c torn = record {
  some = omega (arith, c.some, torn.no_shorter);
  first = byte_same 0 x y (torn_before 1 n 0 (0 + 1) x y torn (omega arith)) ∙ c.first;
  most = omega (arith, torn.no_longer, c.most, few);
}

pub cleared_unborn : (x : List ℕ) → IsCleared x → IsUnborn x
cleared_unborn x c = inr (c.first, c.most)

pub cleared_written : (x : List ℕ) → length x ≤ 1 → IsCleared (written 0 (0 ∷ []) x)
cleared_written x short = let long = length-written 0 (0 ∷ []) x (omega arith) in record { some = omega (arith, long); first = refl; most = omega (arith, long, short) }

pub born_written : (x : List ℕ) → IsCleared x → written 1 born x ≡ 0 ∷ born
born_written [] c = absurd (omega (arith, c.some))
born_written (b ∷ xs) c =
    ap (λ (l : List ℕ). (b ∷ []) ++ born ++ l) (drop_all (1 + length born) (b ∷ xs) (omega (arith, c.most, length-born)))
    ∙ append-nil (b ∷ born) ∙ ap (λ (n : ℕ). n ∷ born) c.first

pub birth_torn : (b : ℕ) (y : List ℕ) → Torn 0 1 (b ∷ born) y → IsRecovered y first_pages
birth_torn b y torn = of (torn_piece [] (b ∷ []) born y 0 1 refl refl torn)
  where
    of : IsPiece [] (b ∷ []) born y → IsRecovered y first_pages
    of t = one t.piece t.sized t.is
      where
        one : (piece : List ℕ) → length piece ≡ 1 → y ≡ piece ++ born → IsRecovered y first_pages
        one [] sized is = absurd (omega (arith, sized))
        one (g ∷ []) sized is = subst (λ (l : List ℕ). IsRecovered l first_pages) (sym is) (born_recovers g)
        one (g ∷ h ∷ more) sized is = absurd (omega (arith, sized))

-- ---- a write and a sync

pub record IsTold (x : List ℕ) (d : DiskView) : Type 0 where
  pub is : d.image ≡ Some x

pub given : (at : ℕ) (bytes image : List ℕ) (old d : DiskView) → IsSettled old image → Writes at bytes old d (Ok tt) → IsTold (written at bytes image) d
given at bytes image old d settled writes = record { is = writes.written ∙ ap (option_map (written at bytes)) settled.told }

pub settled_after : (x : List ℕ) (d new : DiskView) → IsTold x d → new.image ≡ d.image → ((left : List ℕ) → new.may_leave left → left ≡ x) → IsSettled new x
settled_after x d new told same durable = record { told = same ∙ told.is; only = durable }

pub keep_from : (P : List ℕ → Type 0) (at : ℕ) (bytes image : List ℕ) (old new : DiskView) (result : Result (Unit {0}) Failed) → IsSettled old image → P image → Writes at bytes old new result
    → ((x y : List ℕ) → P x → Torn at (length bytes) x y → P y) → Leaves old new P
keep_from P at bytes image old new result settled here writes step = writes_keep P at bytes old new result writes step (λ x left. subst P (sym (settled.only x left)) here)

pub short_unborn : (old new : DiskView) → Leaves old new (λ x. length x ≤ 1) → Leaves old new IsUnborn
short_unborn old new leaves = Rattle.ct_site.specs.Disks.leaves_more old new _ _ leaves (λ x short. inl short)

pub cleared_all_unborn : (old new : DiskView) → Leaves old new IsCleared → Leaves old new IsUnborn
cleared_all_unborn old new leaves = Rattle.ct_site.specs.Disks.leaves_more old new _ _ leaves cleared_unborn

pub recovered_unborn : (old new : DiskView) → Leaves old new IsUnborn → Leaves old new (λ x. IsRecovered x first_pages)
recovered_unborn old new leaves = Rattle.ct_site.specs.Disks.leaves_more old new _ _ leaves (λ x unborn. inl (unborn, refl))

pub birth_leaves : (bytes : List ℕ) (old new : DiskView) (result : Result (Unit {0}) Failed) → length bytes ≡ 1 → IsSettled old (0 ∷ born) → Writes 0 bytes old new result → Leaves old new (λ x. IsRecovered x first_pages)
birth_leaves bytes old new result one settled writes = Rattle.ct_site.specs.Disks.leaves_more old new _ _ writes.leaves
    (λ x cut. birth_torn 0 x (subst (λ (n : ℕ). Torn 0 n (0 ∷ born) x) one (subst (λ (l : List ℕ). Torn 0 (length bytes) l x) (settled.only cut.before cut.left) cut.torn)))

pub bear_stands : (new : DiskView) → IsSettled new (1 ∷ born) → DiskStands new 3 first_pages
bear_stands new settled = record { image = 1 ∷ born; settled = settled; shut = born_shut 1 (omega arith) }

pub born_given : (bytes image : List ℕ) (d : DiskView) → bytes ≡ born → IsCleared image → IsTold (written 1 bytes image) d → IsTold (0 ∷ born) d
born_given bytes image d is cleared told = record { is = told.is ∙ ap (λ (l : List ℕ). Some (written 1 l image)) is ∙ ap Some (born_written image cleared) }

-- all of birth
pub borne : (old d1 d2 new : DiskView) → Leaves old d1 IsUnborn → Leaves d1 d2 IsUnborn → Leaves d2 new (λ x. IsRecovered x first_pages) → Leaves old new (λ x. IsRecovered x first_pages)
borne old d1 d2 new first second third =
    Rattle.ct_site.specs.Disks.leaves_then old d2 new _ (recovered_unborn old d2 (Rattle.ct_site.specs.Disks.leaves_then old d1 d2 _ first second)) third
