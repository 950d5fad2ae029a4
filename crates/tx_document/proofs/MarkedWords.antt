-- The words by the fields that have them are the words by their spans.
use Rattle.std.proofs.Common.{◌≡◌, ℕ, zero, suc, ◌+◌, Bool, true, false, cond, List, [], ◌∷◌, ◌++◌, length, get_or, drop, map, refl, sym, ap, ◌∙◌, arith}
use Rattle.std.specs.Prelude.{◌==◌, ◌&&◌, ◌||◌}
use Rattle.std.proofs.lemmas.Bool.{eqb-true}
use Rattle.tx_lexer.specs.declared.tokens.Token.{Token}
use Rattle.tx_tags.specs.declared.groups.SectionKind.{SectionKind}
use Rattle.tx_tags.specs.declared.groups.SectionKind.TheVariants.{Zone, Field, VisibleField}
use Rattle.tx_tags.specs.declared.pairing.Span.{Span}
use Rattle.tx_tags.specs.Groups.{is_field}
use Rattle.tx_document.specs.declared.fields.Field.{Field as MarkedField}
use Rattle.tx_document.specs.declared.views.WordView.{WordView}
use Rattle.tx_document.specs.Documents.{Extent, hides, is_in, is_hidden, field_streams, streams_of, word_of, words_from}
use Rattle.tx_document.specs.Ranges.{marked_field, marked_fields, is_hidden_at, field_streams_at, streams_at, words_at}

-- the token at a place has the mark that is made of it
mark_at : (f : Token → Bool) (all : List Token) (i : ℕ) (t : Token) (ts : List Token) → drop i all ≡ t ∷ ts → get_or (map f all) i false ≡ f t
mark_at f [] zero t ts is = cc
mark_at f [] (suc i) t ts is = cc
mark_at f (u ∷ all) zero t ts is = let same : u ≡ t = cc in ap f same
mark_at f (u ∷ all) (suc i) t ts is = mark_at f all i t ts is

drop_more : (all : List Token) (i : ℕ) (t : Token) (ts : List Token) → drop i all ≡ t ∷ ts → drop (suc i) all ≡ ts
drop_more [] zero t ts is = cc
drop_more [] (suc i) t ts is = cc
drop_more (u ∷ all) zero t ts is = cc
drop_more (u ∷ all) (suc i) t ts is = drop_more all i t ts is

abbrev marked_as : List Token → ℕ → Extent → List MarkedField
marked_as all n e = record { stream = n; hides = hides e.kind; marks = map (λ (t : Token). is_in t e.spans) all } ∷ []

-- only fields hide
zones_show : (kind : SectionKind) → is_field kind ≡ false → hides kind ≡ false
zones_show Zone is = refl
zones_show Field is = cc
zones_show VisibleField is = cc

no_span : (t : Token) (spans : List Span) → (length spans == 0) ≡ true → is_in t spans ≡ false
no_span t [] is = refl
no_span t (s ∷ ss) is = absurd (omega (arith, eqb-true (length (s ∷ ss)) 0 is))

module _ (all : List Token) (i : ℕ) (t : Token) (ts : List Token) (here : drop i all ≡ t ∷ ts) where
  has_it : (e : Extent) → get_or (map (λ (u : Token). is_in u e.spans) all) i false ≡ is_in t e.spans
  has_it e = mark_at (λ (u : Token). is_in u e.spans) all i t ts here

  field_at : (n : ℕ) (e : Extent) (rest : List MarkedField) → field_streams_at i (marked_field all n e ++ rest) ≡ cond (is_in t e.spans) (n ∷ []) [] ++ field_streams_at i rest
  field_at n e rest = go (length e.spans == 0) refl
    where
      go : (b : Bool) → (length e.spans == 0) ≡ b → field_streams_at i (cond b [] (marked_as all n e) ++ rest) ≡ cond (is_in t e.spans) (n ∷ []) [] ++ field_streams_at i rest
      go true none = ap (λ (b : Bool). cond b (n ∷ []) [] ++ field_streams_at i rest) (sym (no_span t e.spans none))
      go false some = ap (λ (b : Bool). cond b (n ∷ []) [] ++ field_streams_at i rest) (has_it e)

  streams_are : (n : ℕ) (es : List Extent) → field_streams_at i (marked_fields all n es) ≡ field_streams t n es
  streams_are n [] = refl
  streams_are n (e ∷ es) = go (is_field e.kind) (streams_are (n + 1) es) (streams_are n es)
    where
      go : (b : Bool) → field_streams_at i (marked_fields all (n + 1) es) ≡ field_streams t (n + 1) es → field_streams_at i (marked_fields all n es) ≡ field_streams t n es
          → field_streams_at i (cond b (marked_field all n e ++ marked_fields all (n + 1) es) (marked_fields all n es)) ≡ cond b (cond (is_in t e.spans) (n ∷ []) [] ++ field_streams t (n + 1) es) (field_streams t n es)
      go true next same = field_at n e (marked_fields all (n + 1) es) ∙ ap (λ (l : List ℕ). cond (is_in t e.spans) (n ∷ []) [] ++ l) next
      go false next same = same

  hidden_by : (n : ℕ) (e : Extent) (rest : List MarkedField) → is_hidden_at i (marked_field all n e ++ rest) ≡ ((hides e.kind && is_in t e.spans) || is_hidden_at i rest)
  hidden_by n e rest = go (length e.spans == 0) refl
    where
      never : (b : Bool) → is_hidden_at i rest ≡ ((b && false) || is_hidden_at i rest)
      never true = refl
      never false = refl

      go : (b : Bool) → (length e.spans == 0) ≡ b → is_hidden_at i (cond b [] (marked_as all n e) ++ rest) ≡ ((hides e.kind && is_in t e.spans) || is_hidden_at i rest)
      go true none = never (hides e.kind) ∙ ap (λ (b : Bool). (hides e.kind && b) || is_hidden_at i rest) (sym (no_span t e.spans none))
      go false some = ap (λ (b : Bool). (hides e.kind && b) || is_hidden_at i rest) (has_it e)

  hidden_are : (n : ℕ) (es : List Extent) → is_hidden_at i (marked_fields all n es) ≡ is_hidden t es
  hidden_are n [] = refl
  hidden_are n (e ∷ es) = go (is_field e.kind) refl (hidden_are (n + 1) es) (hidden_are n es)
    where
      go : (b : Bool) → is_field e.kind ≡ b → is_hidden_at i (marked_fields all (n + 1) es) ≡ is_hidden t es → is_hidden_at i (marked_fields all n es) ≡ is_hidden t es
          → is_hidden_at i (cond b (marked_field all n e ++ marked_fields all (n + 1) es) (marked_fields all n es)) ≡ ((hides e.kind && is_in t e.spans) || is_hidden t es)
      go true is next same = hidden_by n e (marked_fields all (n + 1) es) ∙ ap (λ (b : Bool). (hides e.kind && is_in t e.spans) || b) next
      go false is next same = same ∙ ap (λ (b : Bool). (b && is_in t e.spans) || is_hidden t es) (sym (zones_show e.kind is))

  streams_at-of : (es : List Extent) → streams_at i (marked_fields all 1 es) ≡ streams_of t es
  streams_at-of es = ap (λ (b : Bool). cond b [] (0 ∷ []) ++ field_streams_at i (marked_fields all 1 es)) (hidden_are 1 es) ∙ ap (λ (l : List ℕ). cond (is_hidden t es) [] (0 ∷ []) ++ l) (streams_are 1 es)

words_are_from : (stop : List (List ℕ)) (es : List Extent) (all : List Token) (i : ℕ) (ts : List Token) → drop i all ≡ ts → words_at stop (marked_fields all 1 es) i ts ≡ words_from stop es (i + 1) ts
words_are_from stop es all i [] here = refl
words_are_from stop es all i (t ∷ ts) here =
    let streams : streams_at i (marked_fields all 1 es) ≡ streams_of t es = streams_at-of all i t ts here es in
    let next : drop (i + 1) all ≡ ts = let same : i + 1 ≡ suc i = omega arith in ap (λ n. drop n all) same ∙ drop_more all i t ts here in
    let rest = words_are_from stop es all (i + 1) ts next in
    ap (λ (s : List ℕ). record (word_of stop es (i + 1) t) { streams = s } ∷ words_at stop (marked_fields all 1 es) (i + 1) ts) streams
    ∙ ap (λ (l : List WordView). word_of stop es (i + 1) t ∷ l) rest

pub words_are : (stop : List (List ℕ)) (es : List Extent) (ts : List Token) → words_at stop (marked_fields ts 1 es) 0 ts ≡ words_from stop es 1 ts
words_are stop es ts = words_are_from stop es ts 0 ts refl
