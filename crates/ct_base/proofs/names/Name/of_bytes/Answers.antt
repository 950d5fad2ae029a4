use Rattle.std.proofs.Common.{◌≡◌, ℕ, List, map, true, Some, sym, ◌∙◌, ap}
use Rattle.std.specs.Char.{to_ascii_lowercase}
use Rattle.ct_base.specs.Names.{is_kept, kept_name}
use Rattle.ct_base.specs.laws.Names.{kept_is_name, kept_name-name}
use Rattle.ct_base.proofs.Spelling.{lower_is_name}
use Rattle.ct_base.proofs.names.Name.of_bytes.Goals as goal

found : (text bytes : List ℕ) → text ≡ map to_ascii_lowercase bytes → is_kept bytes ≡ true → Some text ≡ kept_name bytes
found text bytes is kept = let name = kept_is_name bytes kept in ap Some (is ∙ name.lower) ∙ sym (kept_name-name bytes name)

pub invariant_of-result : goal.invariant_of-result
invariant_of-result c = let kept : is_kept c.args.bytes.now ≡ true = sym c.is_kept.ensures ∙ c.if-not-is_kept.false in rw c.in_ok-text.ensures (lower_is_name c.args.bytes.now (kept_is_name c.args.bytes.now kept).spelt)

pub returns : goal.returns
returns c = found _ c.args.bytes.now c.in_ok-text.ensures (sym c.is_kept.ensures ∙ c.if-not-is_kept.false)
