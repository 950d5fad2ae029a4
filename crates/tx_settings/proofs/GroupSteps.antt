-- The steps of reading groups.
use Rattle.std.proofs.Common.{◌≡◌, ℕ, ◌+◌, ◌^◌, ◌<◌, ◌≤◌, Bool, true, false, List, ◌∷◌, length, drop, drop-cons, add-one, get_or, Some, None, refl, sym, ap, ◌∙◌, subst, arith}
use Rattle.std.specs.Prelude.{nat_lt}
use Rattle.std.specs.List.{list_all}
use Rattle.std.proofs.lemmas.Bool.{and_parts, and_from, lt-ltb, both_ways}
use Rattle.ct_base.specs.Names.{is_kept, kept_name}
use Rattle.ct_base.specs.laws.Names.{kept_is_name, kept_name-name, kept_some, name_is_kept, name_length}
use Rattle.ct_bytes.specs.Varints.{IsTextAt, text_bytes}
use Rattle.ct_bytes.specs.laws.Varints.{text_apart}
use Rattle.tx_tags.specs.declared.groups.SectionKind.{SectionKind}
use Rattle.tx_tags.specs.declared.groups.SectionKind.TheVariants.{Zone, Field, VisibleField}
use Rattle.tx_tags.specs.declared.groups.Section.{Section}
use Rattle.tx_tags.specs.Groups.{SectionGroup, is_group}
use Rattle.tx_settings.specs.declared.group_reading.Head.{Head}
use Rattle.tx_settings.specs.PrefsBytes.{IsSpeltAt, NoneStands, Stands, always, are_listed, are_words, flag_byte, group_bytes, head_bytes, is_named_group, is_section, is_short, kind_byte, kind_bytes, listed, null_byte, section_bytes, words_bytes}
use Rattle.tx_settings.specs.PrefsPromises.{NoneBegins}
use Rattle.tx_settings.specs.laws.Apart.{one_kind, one_null, one_paragraph, one_sentence, section_apart, listed_apart}
use Rattle.tx_settings.specs.laws.Kept.{sections_are_read, weaker}
use Rattle.tx_settings.specs.laws.Standing.{IsBoth, begins_at, both_stand, no_first, no_second, parts_are, text_stands}
use Rattle.tx_settings.proofs.WordSteps.{no_such_text, no_text}

-- ---- names

short_name : (name : List ℕ) → is_kept name ≡ true → is_short name ≡ true
short_name name h = let most = (name_length name (kept_is_name name h)).1 in lt-ltb (length name) (2 ^ 32) (omega (arith, most))

pub no_name_text : (bytes : List ℕ) (at : ℕ) → ((text : List ℕ) (next : ℕ) → IsTextAt bytes at text next → ⊥) → NoneStands is_kept text_bytes bytes at
no_name_text bytes at none = no_text is_kept short_name bytes at none

pub not_kept : (bytes : List ℕ) (at : ℕ) (text : List ℕ) (next : ℕ) → IsTextAt bytes at text next → next ≤ length bytes → kept_name text ≡ None → NoneStands is_kept text_bytes bytes at
not_kept bytes at text next is within none =
    no_such_text is_kept bytes at text next is within (λ h. let found : None ≡ Some text = sym none ∙ kept_name-name text (kept_is_name text h) in cc)

pub name_stands : (bytes : List ℕ) (at : ℕ) (text name : List ℕ) (next : ℕ) → IsTextAt bytes at text next → next ≤ length bytes → kept_name text ≡ Some name → Stands is_kept text_bytes bytes at name next
name_stands bytes at text name next is within kept =
    let k = kept_some text name kept in
    subst (λ (n : List ℕ). Stands is_kept text_bytes bytes at n next) k.0 (record { rules = name_is_kept text k.1; spelt = text_stands bytes at text next is within })

-- ---- kinds, each a byte

next_byte : (bytes : List ℕ) (at d : ℕ) → at < length bytes → drop at bytes ≡ get_or bytes at d ∷ drop (at + 1) bytes
next_byte bytes at d less = drop-cons bytes at d less ∙ ap (λ n. get_or bytes at d ∷ drop n bytes) (sym (add-one at))

pub kind_apart : NoneBegins kind_bytes
kind_apart k l r s e = (one_kind k l cc, cc)

pub kind_stands : (bytes : List ℕ) (at : ℕ) (k : SectionKind) (next : ℕ) → at < length bytes → kind_byte k ≡ get_or bytes at 0 → next ≡ at + 1 → Stands always kind_bytes bytes at k next
kind_stands bytes at k next less is end = record {
  rules = refl;
  spelt = subst (λ (n : ℕ). IsSpeltAt bytes at (kind_bytes k) n) (sym end) (begins_at bytes at (kind_bytes k) (drop (at + 1) bytes) (omega (arith, less)) (next_byte bytes at 0 less ∙ ap (λ (b : ℕ). b ∷ drop (at + 1) bytes) (sym is)));
}

pub no_kind_byte : (bytes : List ℕ) (at : ℕ) → length bytes ≤ at → NoneStands always kind_bytes bytes at
no_kind_byte bytes at short k next stands = let a = stands.spelt.next_is in let b = stands.spelt.within in omega (arith, short, a, b)

kind_at : (bytes : List ℕ) (at : ℕ) (k : SectionKind) (next : ℕ) → Stands always kind_bytes bytes at k next → get_or bytes at 0 ≡ kind_byte k
kind_at bytes at k next stands =
    let less : at < length bytes = (let a = stands.spelt.next_is in let b = stands.spelt.within in omega (arith, a, b)) in
    let e = sym (next_byte bytes at 0 less) ∙ stands.spelt.spelt in
    cc

kind_cases : (k : SectionKind) → (kind_byte k ≡ 1 → ⊥) → (kind_byte k ≡ 2 → ⊥) → (kind_byte k ≡ 3 → ⊥) → ⊥
kind_cases Zone a b c = a refl
kind_cases Field a b c = b refl
kind_cases VisibleField a b c = c refl

pub no_kind : (bytes : List ℕ) (at byte : ℕ) → byte ≡ get_or bytes at 0 → (byte ≡ 1 → ⊥) → (byte ≡ 2 → ⊥) → (byte ≡ 3 → ⊥) → NoneStands always kind_bytes bytes at
no_kind bytes at byte is a b c k next stands =
    let e = is ∙ kind_at bytes at k next stands in
    kind_cases k (λ h. a (e ∙ h)) (λ h. b (e ∙ h)) (λ h. c (e ∙ h))

-- ---- the first two bytes

pub head_apart : NoneBegins head_bytes
head_apart a b r s e =
    let is_null : null_byte a.is_null ≡ null_byte b.is_null = cc in
    let flags : flag_byte a.sentence a.paragraph ≡ flag_byte b.sentence b.paragraph = cc in
    let n = one_null a.is_null b.is_null is_null in
    let t = one_sentence a.sentence a.paragraph b.sentence b.paragraph flags in
    let p = one_paragraph a.sentence a.paragraph b.sentence b.paragraph flags in
    (λ i. record { is_null = n i; sentence = t i; paragraph = p i }, cc)

pub head_stands : (bytes : List ℕ) (at : ℕ) (h : Head) → at + 1 < length bytes → null_byte h.is_null ≡ get_or bytes at 0 → flag_byte h.sentence h.paragraph ≡ get_or bytes (at + 1) 0 → Stands always head_bytes bytes at h (at + 2)
head_stands bytes at h less null flags = record {
  rules = refl;
  spelt =
      let first : at < length bytes = omega (arith, less) in
      begins_at bytes at (head_bytes h) (drop (at + 1 + 1) bytes) (omega (arith, less))
      (next_byte bytes at 0 first ∙ ap (λ (x : List ℕ). get_or bytes at 0 ∷ x) (next_byte bytes (at + 1) 0 less)
      ∙ (λ i. sym null i ∷ sym flags i ∷ drop (at + 1 + 1) bytes));
}

record Two (bytes : List ℕ) (at : ℕ) (h : Head) : Type 0 where
  less : at + 1 < length bytes
  null : get_or bytes at 0 ≡ null_byte h.is_null
  flags : get_or bytes (at + 1) 0 ≡ flag_byte h.sentence h.paragraph

two_at : (bytes : List ℕ) (at : ℕ) (h : Head) (next : ℕ) → Stands always head_bytes bytes at h next → Two bytes at h
two_at bytes at h next stands =
    let less : at + 1 < length bytes = (let a = stands.spelt.next_is in let b = stands.spelt.within in omega (arith, a, b)) in
    let first : at < length bytes = omega (arith, less) in
    let e = ap (λ (x : List ℕ). get_or bytes at 0 ∷ x) (sym (next_byte bytes (at + 1) 0 less)) ∙ sym (next_byte bytes at 0 first) ∙ stands.spelt.spelt in
    record { less = less; null = cc; flags = cc }

pub no_two_bytes : (bytes : List ℕ) (at : ℕ) → length bytes ≤ at + 1 → NoneStands always head_bytes bytes at
no_two_bytes bytes at short h next stands = let less = (two_at bytes at h next stands).less in omega (arith, short, less)

null_small : (b : Bool) → (1 ≤ null_byte b) × (null_byte b ≤ 2)
null_small true = (omega arith, omega arith)
null_small false = (omega arith, omega arith)

flag_small : (a b : Bool) → flag_byte a b ≤ 3
flag_small true true = omega arith
flag_small true false = omega arith
flag_small false true = omega arith
flag_small false false = omega arith

pub null_is_some : (bytes : List ℕ) (at null : ℕ) → null ≡ get_or bytes at 0 → null ≡ 0 → NoneStands always head_bytes bytes at
null_is_some bytes at null is none h next stands =
    let e = (two_at bytes at h next stands).null in
    let most = (null_small h.is_null).0 in
    omega (arith, is, none, e, most)

pub null_is_large : (bytes : List ℕ) (at null : ℕ) → null ≡ get_or bytes at 0 → 2 < null → NoneStands always head_bytes bytes at
null_is_large bytes at null is large h next stands =
    let e = (two_at bytes at h next stands).null in
    let most = (null_small h.is_null).1 in
    omega (arith, is, large, e, most)

pub flags_are_large : (bytes : List ℕ) (at flags : ℕ) → flags ≡ get_or bytes (at + 1) 0 → 3 < flags → NoneStands always head_bytes bytes at
flags_are_large bytes at flags is large h next stands =
    let e = (two_at bytes at h next stands).flags in
    let most = flag_small h.sentence h.paragraph in
    omega (arith, is, large, e, most)

-- ---- one section

-- what stands behind its name
abbrev pub Behind : Type 0
Behind = SectionKind × List (List ℕ)

abbrev pub behind_rule : Behind → Bool
behind_rule b = are_words b.1

abbrev pub behind_bytes : Behind → List ℕ
behind_bytes b = kind_byte b.0 ∷ words_bytes b.1

behind_is_both : IsBoth always kind_bytes are_words words_bytes behind_rule behind_bytes (λ (b : Behind). b.0) (λ (b : Behind). b.1)
behind_is_both = record { bytes = λ b. refl; first = λ b h. refl; second = λ b h. h }

abbrev behind : Section → Behind
behind s = (s.kind, s.tags)

section_is_both : IsBoth is_kept text_bytes behind_rule behind_bytes is_section section_bytes (λ (s : Section). s.name) behind
section_is_both = record {
  bytes = λ s. refl;
  first = λ s h. (and_parts (is_kept s.name) (are_words s.tags) h).0;
  second = λ s h. (and_parts (is_kept s.name) (are_words s.tags) h).1;
}

module _ (bytes : List ℕ) (at : ℕ) where
  pub no_section_name : NoneStands is_kept text_bytes bytes at → NoneStands is_section section_bytes bytes at
  no_section_name none = no_first is_kept text_bytes behind_rule behind_bytes is_section section_bytes (λ (s : Section). s.name) behind section_is_both bytes at none

  pub no_section_kind : (name : List ℕ) (kind_place : ℕ) → Stands is_kept text_bytes bytes at name kind_place → NoneStands always kind_bytes bytes kind_place → NoneStands is_section section_bytes bytes at
  no_section_kind name kind_place named none =
      no_second is_kept text_bytes behind_rule behind_bytes is_section section_bytes (λ (s : Section). s.name) behind section_is_both text_apart bytes at name kind_place named
      (no_first always kind_bytes are_words words_bytes behind_rule behind_bytes (λ (b : Behind). b.0) (λ (b : Behind). b.1) behind_is_both bytes kind_place none)

  pub no_section_tags : (name : List ℕ) (kind_place : ℕ) (kind : SectionKind) (tags_place : ℕ) → Stands is_kept text_bytes bytes at name kind_place → Stands always kind_bytes bytes kind_place kind tags_place → NoneStands are_words words_bytes bytes tags_place → NoneStands is_section section_bytes bytes at
  no_section_tags name kind_place kind tags_place named kinded none =
      no_second is_kept text_bytes behind_rule behind_bytes is_section section_bytes (λ (s : Section). s.name) behind section_is_both text_apart bytes at name kind_place named
      (no_second always kind_bytes are_words words_bytes behind_rule behind_bytes (λ (b : Behind). b.0) (λ (b : Behind). b.1) behind_is_both kind_apart bytes kind_place kind tags_place kinded none)

  pub section_stands : (s : Section) (kind_place tags_place next : ℕ) → Stands is_kept text_bytes bytes at s.name kind_place → Stands always kind_bytes bytes kind_place s.kind tags_place → Stands are_words words_bytes bytes tags_place s.tags next → Stands is_section section_bytes bytes at s next
  section_stands s kind_place tags_place next named kinded tagged =
      both_stand is_kept text_bytes behind_rule behind_bytes is_section section_bytes (λ (s : Section). s.name) behind section_is_both bytes at s kind_place next
      (and_from (is_kept s.name) (are_words s.tags) named.rules tagged.rules) named
      (both_stand always kind_bytes are_words words_bytes behind_rule behind_bytes (λ (b : Behind). b.0) (λ (b : Behind). b.1) behind_is_both bytes kind_place (behind s) tags_place next tagged.rules kinded tagged)

-- ---- groups

abbrev head_of : SectionGroup → Head
head_of g = record { is_null = g.is_null; sentence = g.sentence; paragraph = g.paragraph }

abbrev pub made_of : Head → List Section → SectionGroup
made_of h ss = record { is_null = h.is_null; sections = ss; sentence = h.sentence; paragraph = h.paragraph }

group_is_both : IsBoth always head_bytes (are_listed is_section) (listed section_bytes) is_named_group group_bytes head_of (λ (g : SectionGroup). g.sections)
group_is_both = record { bytes = λ g. refl; first = λ g h. refl; second = λ g h. sections_are_read g h }

names_kept : (ss : List Section) → are_listed is_section ss ≡ true → list_all (λ (s : Section). is_kept s.name) ss ≡ true
names_kept ss h = weaker is_section (λ (s : Section). is_kept s.name) ss (λ s h. (and_parts (is_kept s.name) (are_words s.tags) h).0) (and_parts (nat_lt (length ss) (2 ^ 32)) (list_all is_section ss) h).1

module _ (bytes : List ℕ) (at : ℕ) where
  pub no_group_head : NoneStands always head_bytes bytes at → NoneStands is_named_group group_bytes bytes at
  no_group_head none = no_first always head_bytes (are_listed is_section) (listed section_bytes) is_named_group group_bytes head_of (λ (g : SectionGroup). g.sections) group_is_both bytes at none

  pub no_group_sections : (h : Head) (start : ℕ) → Stands always head_bytes bytes at h start → NoneStands (are_listed is_section) (listed section_bytes) bytes start → NoneStands is_named_group group_bytes bytes at
  no_group_sections h start headed none =
      no_second always head_bytes (are_listed is_section) (listed section_bytes) is_named_group group_bytes head_of (λ (g : SectionGroup). g.sections) group_is_both head_apart bytes at h start headed none

  pub no_group : (h : Head) (start : ℕ) (ss : List Section) (next : ℕ) → Stands always head_bytes bytes at h start → Stands (are_listed is_section) (listed section_bytes) bytes start ss next → is_group (made_of h ss) ≡ false → NoneStands is_named_group group_bytes bytes at
  no_group h start ss next headed there not g end stands =
      let parts = parts_are always head_bytes (are_listed is_section) (listed section_bytes) is_named_group group_bytes head_of (λ (g : SectionGroup). g.sections) group_is_both head_apart (listed_apart section_bytes section_apart) bytes at h start ss next headed there g end stands in
      let same : made_of h ss ≡ g = λ i. made_of (parts.0 i) (parts.1 i) in
      both_ways (is_group (made_of h ss)) not (ap is_group same ∙ (and_parts (is_group g) (list_all (λ (s : Section). is_kept s.name) g.sections) stands.rules).0)

  pub group_stands : (h : Head) (start : ℕ) (ss : List Section) (next : ℕ) (g : SectionGroup) → Stands always head_bytes bytes at h start → Stands (are_listed is_section) (listed section_bytes) bytes start ss next → g ≡ made_of h ss → is_group g ≡ true → Stands is_named_group group_bytes bytes at g next
  group_stands h start ss next g headed there is rules =
      subst (λ (g : SectionGroup). Stands is_named_group group_bytes bytes at g next) (sym is)
      (both_stand always head_bytes (are_listed is_section) (listed section_bytes) is_named_group group_bytes head_of (λ (g : SectionGroup). g.sections) group_is_both bytes at (made_of h ss) start next
      (and_from (is_group (made_of h ss)) (list_all (λ (s : Section). is_kept s.name) ss) (ap is_group (sym is) ∙ rules) (names_kept ss there.rules)) headed there)
