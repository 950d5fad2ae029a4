-- Which closing tag closes which opening one, and what they enclose.
use Rattle.std.specs.Prelude.{ℕ, ◌≡◌, ◌+◌, ◌==◌, not, ◌&&◌, List, [], ◌∷◌, ◌++◌, Option, Some, None, codes, refl}
use Rattle.std.specs.Bool.{if◌then◌else◌}
use Rattle.tx_tags.specs.declared.tags.TagView.{TagView}
use Rattle.tx_tags.specs.declared.pairing.Span.{Span}
use Rattle.tx_tags.specs.Groups.{zones}
use Rattle.tx_tags.specs.Tags.{tags_in}

-- Of these tags, the first closing one with the number `k` before which as many with that number open as close, counted from `opened` and `closed` on.
abbrev pub closer : ℕ → ℕ → ℕ → List TagView → Option TagView
closer k opened closed [] = None
closer k opened closed (t ∷ ts) =
    if t.tag == k then
    (if t.closing then (if opened == closed then Some t else closer k opened (closed + 1) ts)
    else closer k (opened + 1) closed ts)
    else closer k opened closed ts

-- where an instance ends: where its closing tag begins, or at the end of the text
abbrev pub stop_at : ℕ → Option TagView → ℕ
stop_at end None = end
stop_at end (Some t) = t.start

abbrev pub span : ℕ → ℕ → Span
span start end = record { start = start; end = end }

-- what a tag opens, if it opens: from behind it up to the tag that closes it
abbrev pub opened_by : ℕ → ℕ → TagView → List TagView → List Span
opened_by k end t ts = if (t.tag == k) && not t.closing then span t.end (stop_at end (closer k 0 0 ts)) ∷ [] else []

-- what the tags with the number `k` enclose in a text that ends at `end`, the last opening tag first
abbrev pub spans : ℕ → ℕ → List TagView → List Span
spans k end [] = []
spans k end (t ∷ ts) = spans k end ts ++ opened_by k end t ts

-- what the tags with these names enclose, of which the first has the number `k`
abbrev pub spans_from : List TagView → ℕ → ℕ → List (List ℕ) → List Span
spans_from tags end k [] = []
spans_from tags end k (name ∷ names) = spans k end tags ++ spans_from tags end (k + 1) names

-- computed examples: a text whose last tag is never closed, so that it encloses nothing up to the end
nested : spans 0 31 (tags_in zones (codes "<P>a<p>b</P></x><Q></P>c</P><P>"))
    ≡ span 31 31 ∷ span 7 8 ∷ span 3 19 ∷ []
nested = refl

-- tags of other names don't count, and a closing tag that closes nothing is passed over
crossed : spans 1 25 (tags_in zones (codes "</q><q>a<p>b</q>c</p></q>")) ≡ span 7 12 ∷ []
crossed = refl
