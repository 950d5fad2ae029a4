-- What calls that read promise.
use Rattle.std.specs.Prelude.{ℕ, ◌≡◌, Bool, true, List, [], ◌∷◌, length, Option, MatchOption, refl}
use Rattle.std.specs.List.{flat_map, list_all}
use Rattle.std.proofs.Common.{◌≤◌, arith}
use Rattle.tx_settings.specs.PrefsBytes.{IsSpeltAt}
use Rattle.q_stored.specs.declared.heads.Head.{Head}
use Rattle.q_stored.specs.declared.heads.Head.TheVariants.{Weight}
use Rattle.q_stored.specs.QueryBytes.{order_byte, head_spelling, head_tag, head_body, is_written_head}
use Rattle.q_stored.specs.Storing.{node_limit}

abbrev pub byte_spelling : ℕ → List ℕ
byte_spelling b = b ∷ []

abbrev pub order_spelling : Bool → List ℕ
order_spelling ordered = order_byte ordered ∷ []

-- Something that keeps a rule and has this tag stands with what follows the tag from `at` on, and `next` is the place behind it.
pub record BodyStands {X : Type 0} (rule : X → Bool) (tag : X → ℕ) (body : X → List ℕ) (t : ℕ) (bytes : List ℕ) (at : ℕ) (x : X) (next : ℕ) : Type 0 where
  pub rules : rule x ≡ true
  pub tagged : tag x ≡ t
  pub spelt : IsSpeltAt bytes at (body x) next

-- What was read behind a tag, with the place behind it; or None where nothing with this tag that keeps the rule stands there.
abbrev pub ReadsBody : {X : Type 0} → (X → Bool) → (X → ℕ) → (X → List ℕ) → ℕ → List ℕ → ℕ → Option (X × ℕ) → Type 0
ReadsBody {X} rule tag body t bytes at found =
    MatchOption found ((x : X) (next : ℕ) → BodyStands rule tag body t bytes at x next → ⊥) (λ r. BodyStands rule tag body t bytes at r.0 r.1)

-- The bytes are those of these heads, which are no more than a stored query has nodes.
pub record AreHeads (bytes : List ℕ) (heads : List Head) : Type 0 where
  pub few : length heads ≤ node_limit
  pub rules : list_all is_written_head heads ≡ true
  pub spelt : flat_map head_spelling heads ≡ bytes

-- ---- computed examples

-- a weight of 10 tenths, behind its tag
a_weight : BodyStands is_written_head head_tag head_body 6 (6 ∷ 10 ∷ 1 ∷ []) 1 (Weight 10) 2
a_weight = record { rules = refl; tagged = refl; spelt = record { spelt = refl; next_is = refl; within = omega arith } }

one_head : AreHeads (6 ∷ 10 ∷ []) (Weight 10 ∷ [])
one_head = record { few = omega arith; rules = refl; spelt = refl }
