-- Bytes that are a text.
use Rattle.std.proofs.Common.{◌≡◌, ℕ, Bool, true, false, List, Result, Ok, Err, Bor, refl}
use Rattle.std.specs.Result.{MatchResult, result_ok}
use Rattle.std.specs.Str.{IsUtf8}
use Rattle.std.proofs.lemmas.Str.{IsUtf8-from_is_utf8, is_utf8-from_IsUtf8}
use Rattle.db_engine.specs.Steps.{is_utf8_text}
use Rattle.db_console.specs.Responses.{IsTextOf}

no_text : (bytes : List ℕ) → ¬ (IsUtf8 bytes) → is_utf8_text bytes ≡ false
no_text bytes none = go (is_utf8_text bytes) refl
  where
    go : (b : Bool) → is_utf8_text bytes ≡ b → is_utf8_text bytes ≡ false
    go true e = absurd (none (IsUtf8-from_is_utf8 bytes e))
    go false e = e

pub text_given : {E : Type 0} (bytes : List ℕ) (r : Result (Bor (List ℕ)) E) (Q : E → Type 0) → MatchResult r (λ s. (s.now ≡ bytes) × IsUtf8 bytes) (λ e. ¬ (IsUtf8 bytes) × Q e)
    → IsTextOf (result_ok r) bytes
text_given bytes (Ok s) Q p = (is_utf8-from_IsUtf8 bytes p.1, p.0)
text_given bytes (Err e) Q p = no_text bytes p.0
