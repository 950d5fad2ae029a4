use Rattle.std.proofs.Common.{◌≡◌, ℕ, ◌<◌, ◌≤◌, ◌^◌, ◌++◌, List, length, sym, ap, subst, ◌∙◌, rules, arith}
use Rattle.ix_posting.specs.Forms.{counted_bytes}
use Rattle.ix_rows.specs.RowMaps.{with_posting}
use Rattle.ix_repack.specs.Putting.{AreJoined}
use Rattle.ix_repack.specs.laws.Putting.{place_bytes_limit, fits_alone, joined_one}
use Rattle.ix_repack.proofs.joining.join_document.Goals as goal

pub returns-clause-grown : goal.returns-clause-grown
returns-clause-grown g c = λ are.
    let form = g.P.Place.form in
    let x = c.args.document.now in
    let t = c.args.term.now in
    let spelt : c.put_places.new.out.items ≡ counted_bytes form x.places =
    c.in_ok-put_places.ensures ∙ ap (λ (l : List ℕ). l ++ counted_bytes form c.as_slice.result.now) c.clear.ensures.items ∙ ap (counted_bytes form) c.as_slice.ensures
    in
    let long = ap (λ (l : List ℕ). length l) spelt in
    let few : length (counted_bytes form x.places) ≤ place_bytes_limit = omega (arith, long, c.len.ensures, c.if-len-gt-PLACE_BYTES_LIMIT.false) in
    let small : x.document < 2 ^ 32 = search rules in
    subst (AreJoined form t) (sym (c.in_ok-put.ensures ∙ ap (with_posting c.args.out.now t x.document) (c.deref.ensures.value ∙ spelt)))
    (joined_one form t c.args.out.now x (fits_alone form x c.requires.places few) small are)
