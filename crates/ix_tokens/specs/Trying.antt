-- What is known of the token that was tried last.
use Rattle.std.specs.Prelude.{ℕ, ◌≡◌, ◌++◌, Bool, true, List, [], ◌∷◌, Option, None, Some, Vec, IfSome, bytes_eq, codes, refl}
use Rattle.std.specs.Bool.{if◌then◌else◌}
use Rattle.std.specs.Str.{chars, is_utf8}
use Rattle.std.proofs.Common.{subst, sym}
use lib.Utf8.{encode}
use Rattle.std.specs.declared.alloc.Global.{Global}
use Rattle.q_tree.specs.declared.flats.PatternBit.{PatternBit}
use Rattle.q_tree.specs.declared.flats.PatternBit.TheVariants.{Chars, Many}
use Rattle.ix_tokens.specs.declared.taking.Tried.{Tried}
use Rattle.ix_tokens.specs.Scanned.{is_matched}

-- If a token was tried, it is known whether the literal and the bytes that followed it have the pattern.
abbrev pub IsTried : List PatternBit → List ℕ → Tried → Type 0
IsTried p literal t = IfSome t.known (λ is. is ≡ is_matched p (literal ++ t.more.items))

-- what is known of the literal followed by these bytes
abbrev pub known_of : Tried → List ℕ → Option Bool
known_of t more = if bytes_eq t.more.items more then t.known else None

-- ---- computed examples

none_tried : (p : List PatternBit) (literal : List ℕ) (more : Vec ℕ Global) → IsTried p literal (record { more = more; known = None })
none_tried p literal more = tt

-- `cafe` was tried, and has the pattern `caf%`
cafe_tried : (more : Vec ℕ Global) → more.items ≡ codes "e" → IsTried (Chars (codes "caf") ∷ Many ∷ []) (codes "caf") (record { more = more; known = Some true })
unfolding is_utf8 chars encode
cafe_tried more is = subst (λ (bytes : List ℕ). true ≡ is_matched (Chars (codes "caf") ∷ Many ∷ []) (codes "caf" ++ bytes)) (sym is) refl
