-- What the laws of tags say.
use Rattle.std.specs.Prelude.{ℕ, ◌≡◌, ◌+◌, ◌==◌, true, not, ◌&&◌, List, [], ◌∷◌, ◌++◌, Some, None, refl, codes}
use Rattle.std.specs.Bool.{if◌then◌else◌}
use Rattle.tx_tags.specs.declared.tags.TagView.{TagView}
use Rattle.tx_tags.specs.Groups.{zones}
use Rattle.tx_tags.specs.Tags.{tags_in}
use Rattle.tx_tags.specs.Pairs.{closer}

-- how many tags with the number `k` among these open, and how many close
abbrev pub opening_in : ℕ → List TagView → ℕ
opening_in k [] = 0
opening_in k (t ∷ ts) = if (t.tag == k) && not t.closing then opening_in k ts + 1 else opening_in k ts

abbrev pub closing_in : ℕ → List TagView → ℕ
closing_in k [] = 0
closing_in k (t ∷ ts) = if (t.tag == k) && t.closing then closing_in k ts + 1 else closing_in k ts

-- This tag closes, where these stand before it, behind `opened` others that open and `closed` that close.
pub record Closes (k opened closed : ℕ) (before : List TagView) (t : TagView) : Type 0 where
  pub named : (t.tag == k) ≡ true
  pub closing : t.closing ≡ true
  pub balanced : opened + opening_in k before ≡ closed + closing_in k before

-- It closes, and none before it does.
pub record IsFirstCloser (k opened closed : ℕ) (ts : List TagView) (t : TagView) : Type 0 where
  pub before : List TagView
  pub after : List TagView
  pub split : ts ≡ before ++ t ∷ after
  pub closes : Closes k opened closed before t
  pub first : (front : List TagView) (u : TagView) (rest : List TagView) → before ≡ front ++ u ∷ rest → Closes k opened closed front u → ⊥

-- ---- the laws

-- The tag that closes is the first closing one between which and the opening one as many of its number open as close.
abbrev pub ClosersAreFirst : Type 0
ClosersAreFirst = (k : ℕ) (ts : List TagView) (t : TagView) → closer k 0 0 ts ≡ Some t → IsFirstCloser k 0 0 ts t

-- Where no tag closes, there is no such one.
abbrev pub NoneCloses : Type 0
NoneCloses = (k : ℕ) (ts : List TagView) → closer k 0 0 ts ≡ None → (front : List TagView) (t : TagView) (rest : List TagView) → ts ≡ front ++ t ∷ rest → Closes k 0 0 front t → ⊥

-- computed examples: of these tags, two open and one closes
two_open : opening_in 0 (tags_in zones (codes "<p><q></p><p></q>")) ≡ 2
two_open = refl

one_closes : closing_in 0 (tags_in zones (codes "<p><q></p><p></q>")) ≡ 1
one_closes = refl
