use Rattle.std.proofs.Common.{◌≡◌, ◌+◌, ◌++◌, ◌∷◌, [], ℕ, List, length, refl, ap, sym, ◌∙◌}
use Rattle.std.proofs.lemmas.List.{length-append}
use Rattle.ix_rows.specs.declared.runs.RunDocument.{RunDocument}
use Rattle.ix_rows.specs.Runs.{run_len, run_documents}
use Rattle.ix_rows.specs.laws.Runs.{run_len-push, run_documents-push}
use Rattle.ix_rows.proofs.runs.Run.push.Goals as goal

pub invariant_of-self-2 : goal.invariant_of-self-2
invariant_of-self-2 c =
    let ds = c.self.inside.documents.items in
    let one : RunDocument = record { document = c.args.document; len = length c.args.places.now } in
    let bytes : c.extend_from_slice.new.self.items ≡ c.self.inside.bytes.items ++ c.args.places.now = c.in_ok-extend_from_slice.ensures.items in
    let documents : c.push_reserved.new.self.items ≡ ds ++ one ∷ [] = c.push_reserved.ensures.items ∙ ap (λ (l : List RunDocument). l ++ one ∷ []) c.reserve.ensures.items in
    let long : length c.self.inside.bytes.items ≡ run_len ds = c.self.invariant in
    ap (λ (l : List ℕ). length l) bytes
    ∙ length-append c.self.inside.bytes.items c.args.places.now
    ∙ ap (λ (n : ℕ). n + length c.args.places.now) long
    ∙ sym (run_len-push ds one)
    ∙ ap run_len (sym documents)

pub returns : goal.returns
returns c =
    let ds = c.self.inside.documents.items in
    let one : RunDocument = record { document = c.args.document; len = length c.args.places.now } in
    let bytes : c.extend_from_slice.new.self.items ≡ c.self.inside.bytes.items ++ c.args.places.now = c.in_ok-extend_from_slice.ensures.items in
    let documents : c.push_reserved.new.self.items ≡ ds ++ one ∷ [] = c.push_reserved.ensures.items ∙ ap (λ (l : List RunDocument). l ++ one ∷ []) c.reserve.ensures.items in
    ap (λ (l : List ℕ). run_documents c.push_reserved.new.self.items l) bytes
    ∙ ap (λ (l : List RunDocument). run_documents l (c.self.inside.bytes.items ++ c.args.places.now)) documents
    ∙ run_documents-push ds c.self.inside.bytes.items c.args.places.now one c.self.invariant refl
    ∙ ap (λ (xs : List (ℕ × List ℕ)). xs ++ (c.args.document, c.args.places.now) ∷ []) c.self.view_is
