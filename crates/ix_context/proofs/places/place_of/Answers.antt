use Rattle.std.proofs.Common.{◌≡◌, ◌≤◌, length, sym, ◌∙◌, arith}
use Rattle.std.proofs.lemmas.Bool.{eqb-true}
use Rattle.ix_context.proofs.PlaceSteps.{no_place_of, no_name_of, some_text, start_of, word_of, section_of}
use Rattle.ix_context.proofs.places.place_of.Goals as goal

pub returns-in_default : goal.returns-in_default
returns-in_default c =
    no_place_of c.args.stream c.args.text.now (λ zero long. omega arith) (λ low token. omega arith) (λ mark named. no_name_of c.args.text.now (sym c.in_ok-name.ensures ∙ c.in_default.is) named)

pub returns-then-stream-eq-SECTION_MARK : goal.returns-then-stream-eq-SECTION_MARK
returns-then-stream-eq-SECTION_MARK c = section_of c.args.stream c.args.text.now c.in-Some.name (omega arith) (sym c.in_ok-name.ensures ∙ c.in-Some.is)

pub returns-then-stream-eq0 : goal.returns-then-stream-eq0
returns-then-stream-eq0 c = start_of c.args.stream c.args.text.now (omega arith) (sym c.is_empty.ensures ∙ c.if-is_empty.true)

pub returns-then-is_empty : goal.returns-then-is_empty
returns-then-is_empty c =
    let long : length c.args.text.now ≡ 0 = eqb-true (length c.args.text.now) 0 (sym c.is_empty.ensures ∙ c.if-is_empty.true) in
    no_place_of c.args.stream c.args.text.now (λ zero none. omega arith) (λ low token. omega arith) (λ mark named. omega arith)

pub returns-then-stream-gt-STREAM_LIMIT : goal.returns-then-stream-gt-STREAM_LIMIT
returns-then-stream-gt-STREAM_LIMIT c =
    let some : 1 ≤ length c.args.text.now = some_text c.args.text.now (sym c.is_empty.ensures ∙ c.if-is_empty.false) in
    no_place_of c.args.stream c.args.text.now (λ zero none. omega arith) (λ low token. omega arith) (λ mark named. omega arith)

pub returns-then-text-gt-TOKEN_LIMIT : goal.returns-then-text-gt-TOKEN_LIMIT
returns-then-text-gt-TOKEN_LIMIT c =
    let some : 1 ≤ length c.args.text.now = some_text c.args.text.now (sym c.is_empty.ensures ∙ c.if-is_empty.false) in
    no_place_of c.args.stream c.args.text.now (λ zero none. omega arith) (λ low token. omega arith) (λ mark named. omega arith)

pub returns : goal.returns
returns c =
    word_of c.args.stream c.args.text.now c.of-token.result (omega arith) (sym c.is_empty.ensures ∙ c.if-is_empty.false) (omega arith) (c.of-token.ensures ∙ c.in_ok-from_slice.ensures.items)
