use Rattle.std.specs.Prelude.{map}
use Rattle.std.specs.Option.{option_map}
use Rattle.std.proofs.Common.{ℕ, List, ◌≡◌, Some, Vec, Global, refl, sym, ap, ◌∙◌, arith}
use Rattle.ct_keep.specs.laws.Rising.{Entry}
use Rattle.pg_map.specs.PageStrings.{string_key}
use Rattle.pg_directory.specs.Trees.{kind_of}
use Rattle.pg_directory.specs.Listing.{entry_at}
use Rattle.pg_directory.specs.laws.Listing.{has_entry, has_item}
use Rattle.pg_directory.proofs.Fetched.{given_value, missing_value, value_far, value_short}
use Rattle.pg_directory.proofs.PageReads.{holds_then}
use Rattle.pg_directory.proofs.Steps.{page_given, page_missing}
use Rattle.pg_directory.proofs.Strings.{string_of, string_read}
use Rattle.pg_directory.proofs.fetching.read_entry.Goals as goal

pub returns-in_default-found-clause-entry : goal.returns-in_default-found-clause-entry
returns-in_default-found-clause-entry g c = λ top pages m holds layout has.
    let s = string_of pages c.args.at holds.are has in
    absurd (page_missing c.in-Ok.found _ _ (c.in-Ok.ensures.page top pages holds has.low (omega (arith, s.within, holds.count))) c.in_default-found.is)

pub returns-in_default-string_in-clause-entry : goal.returns-in_default-string_in-clause-entry
returns-in_default-string_in-clause-entry g c = λ top pages m holds layout has.
    let s = string_of pages c.args.at holds.are has in
    absurd (c.in_default-string_in.ensures.none refl s.strings s.fits (page_given c.in-Ok.found _ _ _ c.page.result.now (c.in-Ok.ensures.page top pages holds has.low (omega (arith, s.within, holds.count))) c.in-Some.is c.page.ensures ∙ s.at) s.less)

pub returns-then-is_short-clause-entry : goal.returns-then-is_short-clause-entry
returns-then-is_short-clause-entry g c = λ top pages m holds layout has.
    let s = string_of pages c.args.at holds.are has in
    let own = string_read pages c.args.at c.page.result.now c.in-Some-string_in.string.now holds.are has
    (page_given c.in-Ok.found _ _ _ c.page.result.now (c.in-Ok.ensures.page top pages holds has.low (omega (arith, s.within, holds.count))) c.in-Some.is c.page.ensures) c.in-Some-string_in.ensures.string in
    let h = has_entry pages m holds.are layout c.args.at has in
    let i = has_item pages m holds.are layout c.args.at has in
    let key : c.in-Ok-from_slice.key.items ≡ (entry_at pages c.args.at).0 = c.in-Ok-from_slice.ensures.items ∙ c.key_of.ensures ∙ ap string_key own ∙ sym h.key in
    let value : c.in-Ok-from_slice-2.value.items ≡ i.entry.1 =
    value_short (map kind_of pages) c.in-Some-string_in.string.now c.in-Ok-from_slice-2.value.items c.is_short.result c.if-is_short.true c.is_short.ensures.far
    (λ k v good is. c.in-Ok-from_slice-2.ensures.items ∙ c.behind_key.ensures k v good is) i.item i.entry i.chain i.good i.stands (own ∙ i.is) in
    ap Some (ap (λ (k : List ℕ). (k, c.in-Ok-from_slice-2.value.items)) key ∙ ap (λ (v : List ℕ). ((entry_at pages c.args.at).0, v)) (value ∙ sym (ap (λ (e : Entry). e.1) i.read)))

pub returns-in-Ok-Some-clause-entry : goal.returns-in-Ok-Some-clause-entry
returns-in-Ok-Some-clause-entry g c = λ top pages m holds layout has.
    let s = string_of pages c.args.at holds.are has in
    let own = string_read pages c.args.at c.page.result.now c.in-Some-string_in.string.now holds.are has
    (page_given c.in-Ok.found _ _ _ c.page.result.now (c.in-Ok.ensures.page top pages holds has.low (omega (arith, s.within, holds.count))) c.in-Some.is c.page.ensures) c.in-Some-string_in.ensures.string in
    let h = has_entry pages m holds.are layout c.args.at has in
    let i = has_item pages m holds.are layout c.args.at has in
    let key : c.in-Ok-from_slice.key.items ≡ (entry_at pages c.args.at).0 = c.in-Ok-from_slice.ensures.items ∙ c.key_of.ensures ∙ ap string_key own ∙ sym h.key in
    let value : c.in-Ok-Some.value.items ≡ i.entry.1 = given_value c.in-Ok-Some.field-0 c.in-Ok-Some.value i.entry.1
    (value_far (λ (v : List ℕ). option_map {T = Vec ℕ Global} {U = List ℕ} (λ x. x.items) c.in-Ok-Some.field-0 ≡ Some v) (map kind_of pages) c.in-Some-string_in.string.now c.is_short.result c.far_in-first.result.0 c.far_in-first.result.1
    c.if-is_short.false c.is_short.ensures.short c.far_in-first.ensures (λ chains value. c.in-Ok-Some.ensures.value top pages chains value (holds_then _ _ _ _ pages c.in-Ok.ensures.same holds)) i.item i.entry i.chain i.good i.stands (own ∙ i.is)) c.in-Ok-Some.field-0-is in
    ap Some (ap (λ (k : List ℕ). (k, c.in-Ok-Some.value.items)) key ∙ ap (λ (v : List ℕ). ((entry_at pages c.args.at).0, v)) (value ∙ sym (ap (λ (e : Entry). e.1) i.read)))

pub returns-in-Ok-None-clause-entry : goal.returns-in-Ok-None-clause-entry
returns-in-Ok-None-clause-entry g c = λ top pages m holds layout has.
    let s = string_of pages c.args.at holds.are has in
    let own = string_read pages c.args.at c.page.result.now c.in-Some-string_in.string.now holds.are has
    (page_given c.in-Ok.found _ _ _ c.page.result.now (c.in-Ok.ensures.page top pages holds has.low (omega (arith, s.within, holds.count))) c.in-Some.is c.page.ensures) c.in-Some-string_in.ensures.string in
    let i = has_item pages m holds.are layout c.args.at has in
    absurd (missing_value c.in-Ok-None.field-0 i.entry.1 (value_far (λ (v : List ℕ). option_map {T = Vec ℕ Global} {U = List ℕ} (λ x. x.items) c.in-Ok-None.field-0 ≡ Some v) (map kind_of pages) c.in-Some-string_in.string.now c.is_short.result c.far_in-first.result.0 c.far_in-first.result.1
    c.if-is_short.false c.is_short.ensures.short c.far_in-first.ensures (λ chains value. c.in-Ok-None.ensures.value top pages chains value (holds_then _ _ _ _ pages c.in-Ok.ensures.same holds)) i.item i.entry i.chain i.good i.stands (own ∙ i.is)) c.in-Ok-None.field-0-is)
