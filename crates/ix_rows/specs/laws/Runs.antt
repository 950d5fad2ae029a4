-- What holds of documents that come to one term, one behind the other.
use Rattle.std.specs.Prelude.{ℕ, ◌≡◌, ◌+◌, ◌≤◌, ◌==◌, Bool, true, false, cond, List, [], ◌∷◌, ◌++◌, length, take, drop, Option, Some, refl}
use Rattle.std.specs.FinMap.{get, insert, same_map, slice_cmp-IsAntisymmetric, nat_cmp-IsAntisymmetric}
use Rattle.std.proofs.Common.{sym, ap, ◌∙◌, arith}
use Rattle.std.proofs.lemmas.Bool.{eqb-true}
use Rattle.std.proofs.lemmas.Cmp.{nat_list_cmp_total}
use Rattle.std.proofs.lemmas.List.{take-append-le, drop-append-le, length-drop, nil_from_length}
use Rattle.std.proofs.Math.Seq.{take-length}
use Rattle.ct_entry.specs.Keys.{same_list}
use Rattle.ct_entry.specs.laws.Keys.{list_same}
use Rattle.ct_entry.specs.laws.Maps.{get_name-insert}
use Rattle.ix_rows.specs.declared.runs.RunDocument.{RunDocument}
use Rattle.ix_rows.specs.Growing.{Growing, with_grown_document}
use Rattle.ix_rows.specs.RowMaps.{TermRowsView, or_nothing, growing_at, with_posting}
use Rattle.ix_rows.specs.Runs.{run_len, run_documents, grown_run, with_run}

-- ---- their bytes

pub rest_len : (d : RunDocument) (ds : List RunDocument) (bytes : List ℕ) → length bytes ≡ run_len (d ∷ ds) → length (drop d.len bytes) ≡ run_len ds
rest_len d ds bytes long = omega (arith, length-drop d.len bytes, long)

pub run_len-push : (ds : List RunDocument) (d : RunDocument) → run_len (ds ++ d ∷ []) ≡ run_len ds + d.len
run_len-push [] d = omega arith
run_len-push (x ∷ ds) d = omega (arith, run_len-push ds d)

pub length-run_documents : (ds : List RunDocument) (bytes : List ℕ) → length (run_documents ds bytes) ≡ length ds
length-run_documents [] bytes = refl
length-run_documents (d ∷ ds) bytes = omega (arith, length-run_documents ds (drop d.len bytes))

-- a document more
pub run_documents-push : (ds : List RunDocument) (bytes places : List ℕ) (d : RunDocument) → length bytes ≡ run_len ds → d.len ≡ length places
    → run_documents (ds ++ d ∷ []) (bytes ++ places) ≡ run_documents ds bytes ++ (d.document, places) ∷ []
run_documents-push [] bytes places d long is =
    ap (λ (bs : List ℕ). (d.document, take d.len (bs ++ places)) ∷ []) (nil_from_length bytes long)
    ∙ ap (λ (n : ℕ). (d.document, take n places) ∷ []) is
    ∙ ap (λ (l : List ℕ). (d.document, l) ∷ []) (take-length places)
run_documents-push (x ∷ ds) bytes places d long is =
    let le : x.len ≤ length bytes = omega (arith, long) in
    ap (λ (l : List ℕ). (x.document, l) ∷ run_documents (ds ++ d ∷ []) (drop x.len (bytes ++ places))) (take-append-le x.len bytes places le)
    ∙ ap (λ (rest : List ℕ). (x.document, take x.len bytes) ∷ run_documents (ds ++ d ∷ []) rest) (drop-append-le x.len bytes places le)
    ∙ ap (λ (l : List (ℕ × List ℕ)). (x.document, take x.len bytes) ∷ l) (run_documents-push ds (drop x.len bytes) places d (rest_len x ds bytes long) is)

-- ---- the rows of their term

-- a run without documents, and a document more
pub with_run-push : (m : TermRowsView) (t : List ℕ) (xs : List (ℕ × List ℕ)) (d : ℕ) (places : List ℕ) → with_run m t (xs ++ (d, places) ∷ []) ≡ with_posting (with_run m t xs) t d places
with_run-push m t [] d places = refl
with_run-push m t (x ∷ xs) d places = with_run-push (with_posting m t x.0 x.1) t xs d places

-- rows that were put come last
twice : (m : TermRowsView) (t : List ℕ) (g h : Growing) → insert (insert m t g) t h ≡ insert m t h
twice m t g h = same_map nat_list_cmp_total (slice_cmp-IsAntisymmetric nat_cmp-IsAntisymmetric) (insert (insert m t g) t h) (insert m t h) (λ q.
    get_name-insert (insert m t g) t h q
    ∙ ap (cond (same_list q t) (Some h)) (get_name-insert m t g q)
    ∙ once (same_list q t) (get m q)
    ∙ sym (get_name-insert m t h q))
  where
    once : (b : Bool) (o : Option Growing) → cond b (Some h) (cond b (Some g) o) ≡ cond b (Some h) o
    once true o = refl
    once false o = refl

put_there : (m : TermRowsView) (t : List ℕ) (g : Growing) → growing_at (insert m t g) t ≡ g
put_there m t g = ap or_nothing (get_name-insert m t g t ∙ ap (λ (b : Bool). cond b (Some g) (get m t)) (list_same t))

grown_there : (m : TermRowsView) (t : List ℕ) (g : Growing) (xs : List (ℕ × List ℕ)) → with_run (insert m t g) t xs ≡ insert m t (grown_run g xs)
grown_there m t g [] = refl
grown_there m t g (x ∷ xs) =
    ap (λ (h : Growing). with_run (insert (insert m t g) t (with_grown_document h x.0 x.1)) t xs) (put_there m t g)
    ∙ ap (λ (n : TermRowsView). with_run n t xs) (twice m t g (with_grown_document g x.0 x.1))
    ∙ grown_there m t (with_grown_document g x.0 x.1) xs

-- A RUN is put by one look-up of its term
pub run_comes : (m : TermRowsView) (t : List ℕ) (xs : List (ℕ × List ℕ)) → (length xs == 0) ≡ false → with_run m t xs ≡ insert m t (grown_run (growing_at m t) xs)
run_comes m t [] some = cc
run_comes m t (x ∷ xs) some = grown_there m t (with_grown_document (growing_at m t) x.0 x.1) xs

pub no_run : (xs : List (ℕ × List ℕ)) → (length xs == 0) ≡ true → xs ≡ []
no_run [] none = refl
no_run (x ∷ xs) none = absurd (omega (arith, eqb-true (length (x ∷ xs)) 0 none))
