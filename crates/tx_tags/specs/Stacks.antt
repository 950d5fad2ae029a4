-- How `spans` is computed from the last tag to the first: the closing tags that wait for an opening one before them are a stack.
use Rattle.std.specs.Prelude.{ℕ, ◌≡◌, ◌==◌, ◌++◌, List, [], ◌∷◌, get_or, reverse, codes, refl}
use Rattle.std.specs.Bool.{if◌then◌else◌}
use Rattle.tx_tags.specs.declared.tags.TagView.{TagView}
use Rattle.tx_tags.specs.declared.pairing.Span.{Span}
use Rattle.tx_tags.specs.declared.pairing.Pairing.{Pairing}
use Rattle.tx_tags.specs.Groups.{zones}
use Rattle.tx_tags.specs.Tags.{tags_in}
use Rattle.tx_tags.specs.Pairs.{span, spans}

abbrev pub behind_first : List ℕ → List ℕ
behind_first [] = []
behind_first (x ∷ xs) = xs

-- what a tag of the number makes of the starts of those that wait
abbrev pub waiting_with : TagView → List ℕ → List ℕ
waiting_with t cs = if t.closing then t.start ∷ cs else behind_first cs

-- the starts of the closing tags with the number `k` that close none of these, the first one first
abbrev pub waiting : ℕ → List TagView → List ℕ
waiting k [] = []
waiting k (t ∷ ts) = if t.tag == k then waiting_with t (waiting k ts) else waiting k ts

-- what a tag of the number opens, where these wait
abbrev pub opened_with : ℕ → TagView → List ℕ → List Span
opened_with end t cs = if t.closing then [] else span t.end (get_or cs 0 end) ∷ []

-- The stack and what was found so far, the last that waits first, are those of these tags.
pub record IsPairing (k end : ℕ) (ts : List TagView) (p : Pairing) : Type 0 where
  pub waiting : reverse p.waiting.items ≡ waiting k ts
  pub spans : p.spans.items ≡ spans k end ts

-- what it found
abbrev pub found_of : Pairing → List Span
found_of p = p.spans.items

-- those that have taken no tags
abbrev pub IsEmpty : Pairing → Type 0
IsEmpty p = (p.spans.items ≡ []) × (p.waiting.items ≡ [])

-- what a tag of the number does to them
pub record Takes (end : ℕ) (t : TagView) (old new : Pairing) : Type 0 where
  pub waiting : reverse new.waiting.items ≡ waiting_with t (reverse old.waiting.items)
  pub spans : new.spans.items ≡ old.spans.items ++ opened_with end t (reverse old.waiting.items)

-- a computed example: of two closing tags before which nothing opens, the first one is found first
two_wait : waiting 0 (tags_in zones (codes "a</p><p>b</p></p>")) ≡ 1 ∷ 13 ∷ []
two_wait = refl
