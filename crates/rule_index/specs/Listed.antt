-- The faults of rules that entries list.
use Rattle.std.specs.Prelude.{ℕ, ℤ, pos, ◌≡◌, List, [], ◌∷◌, map, Option, Some, None, codes, refl}
use Rattle.std.specs.Bool.{if◌then◌else◌}
use Rattle.std.specs.List.{filter_map}
use Rattle.std.specs.Option.{option_and_then, option_map}
use Rattle.std.specs.Str.{is_utf8, chars}
use lib.Utf8.{encode}
use Rattle.ct_bytes.specs.RowKeys.{row_bytes}
use Rattle.ct_keep.specs.Content.{Content}
use Rattle.ct_entry.specs.declared.kinds.Kind.TheVariants as kind
use Rattle.ct_entry.specs.Listings.{owner_entries, row_of}
use Rattle.rule_index.specs.declared.listing.RuleError.{RuleError}

-- the text that bytes are, where they are UTF-8
abbrev pub text_in : List ℕ → Option (List ℕ)
text_in bytes = if is_utf8 bytes then Some bytes else None

-- the row and the text of an entry
abbrev pub error_of : List ℕ × List ℕ → Option (ℤ × List ℕ)
error_of e = option_and_then (λ r. option_map (λ text. (r, text)) (text_in e.1)) (row_of e.0)

abbrev pub errors_of : List (List ℕ × List ℕ) → List (ℤ × List ℕ)
errors_of es = filter_map error_of es

-- those of an index, in order
abbrev pub errors_under : List ℕ → Content → List (ℤ × List ℕ)
errors_under i m = errors_of (owner_entries kind.RuleFaults i [] m)

-- the same as the code has them
abbrev pub listed_errors : List RuleError → List (ℤ × List ℕ)
listed_errors es = map {B = ℤ × List ℕ} (λ e. (e.key.0, e.fault)) es

-- computed example
an_error : errors_of ((row_bytes (pos 3), codes "E26: query too large") ∷ []) ≡ (pos 3, codes "E26: query too large") ∷ []
unfolding row_bytes is_utf8 chars encode
an_error = refl
