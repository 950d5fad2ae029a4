-- No spelling of settings, words, groups and preferences begins another.
use Rattle.std.specs.Prelude.{ℕ, ◌≡◌, ◌==◌, ◌%◌, Bool, true, false, nat_le, List, [], ◌∷◌, ◌++◌, length, Some, refl}
use Rattle.std.specs.Bool.{if◌then◌else◌}
use Rattle.std.specs.List.{flat_map}
use Rattle.std.proofs.Common.{arith, sym, ap, ◌∙◌, append_assoc}
use Rattle.ct_base.specs.laws.Lists.{cons_parts}
use Rattle.ct_bytes.specs.Varints.{text_bytes}
use Rattle.ct_bytes.specs.laws.Varints.{varint_apart, text_apart}
use Rattle.tx_tags.specs.declared.groups.SectionKind.{SectionKind}
use Rattle.tx_tags.specs.declared.groups.SectionKind.TheVariants.{Zone, Field, VisibleField}
use Rattle.tx_settings.specs.declared.attributes.Attribute.{Attribute}
use Rattle.tx_settings.specs.declared.attributes.Attribute.TheVariants.{BaseLetter, Endjoins, IndexText, IndexThemes, MixedCase, Numgroup, Numjoin, Printjoins, Punctuations, Skipjoins, Startjoins}
use Rattle.tx_settings.specs.Attributes.{attribute_name, attribute_named}
use Rattle.tx_settings.specs.PrefsBytes.{flag_byte, null_byte, kind_byte, listed, section_bytes, setting_bytes}
use Rattle.tx_settings.specs.PrefsPromises.{NoneBegins, NoSettingsBeginOthers, NoWordsBeginOthers, NoGroupBeginsAnother}

-- ---- one thing after another

pub pair_apart : (a b x y r s : List ℕ) → a ++ x ++ r ≡ b ++ y ++ s → a ++ (x ++ r) ≡ b ++ (y ++ s)
pair_apart a b x y r s e = sym (append_assoc a x r) ∙ e ∙ append_assoc b y s

module _ {X : Type 0} (item : X → List ℕ) (one : NoneBegins item) where
  pub each_apart : (xs ys : List X) (r s : List ℕ) → length xs ≡ length ys → flat_map item xs ++ r ≡ flat_map item ys ++ s → (xs ≡ ys) × (r ≡ s)
  each_apart [] [] r s l e = (refl, e)
  each_apart [] (y ∷ ys) r s l e = absurd (omega (arith, l))
  each_apart (x ∷ xs) [] r s l e = absurd (omega (arith, l))
  each_apart (x ∷ xs) (y ∷ ys) r s l e =
      let head = one x y (flat_map item xs ++ r) (flat_map item ys ++ s) (pair_apart (item x) (item y) (flat_map item xs) (flat_map item ys) r s e) in
      let rest = each_apart xs ys r s (omega (arith, l)) head.1 in
      (λ i. head.0 i ∷ rest.0 i, rest.1)

  pub listed_apart : NoneBegins (listed item)
  listed_apart xs ys r s e =
      let count = varint_apart (length xs) (length ys) (flat_map item xs ++ r) (flat_map item ys ++ s) (pair_apart _ _ (flat_map item xs) (flat_map item ys) r s e) in
      each_apart xs ys r s count.0 count.1

-- ---- settings and words

named_again : (a : Attribute) → attribute_named (attribute_name a) ≡ Some a
named_again BaseLetter = refl
named_again Endjoins = refl
named_again IndexText = refl
named_again IndexThemes = refl
named_again MixedCase = refl
named_again Numgroup = refl
named_again Numjoin = refl
named_again Printjoins = refl
named_again Punctuations = refl
named_again Skipjoins = refl
named_again Startjoins = refl

pub one_attribute : (a b : Attribute) → attribute_name a ≡ attribute_name b → a ≡ b
one_attribute a b e =
    let same : Some a ≡ Some b = sym (named_again a) ∙ ap attribute_named e ∙ named_again b in
    cc

pub setting_apart : NoneBegins setting_bytes
setting_apart a b r s e =
    let names = text_apart (attribute_name a.attribute) (attribute_name b.attribute) (text_bytes a.value ++ r) (text_bytes b.value ++ s)
    (pair_apart (text_bytes (attribute_name a.attribute)) (text_bytes (attribute_name b.attribute)) (text_bytes a.value) (text_bytes b.value) r s e) in
    let values = text_apart a.value b.value r s names.1 in
    let attribute = one_attribute a.attribute b.attribute names.0 in
    (λ i. record { attribute = attribute i; value = values.0 i }, values.1)

pub settings_apart : NoSettingsBeginOthers
settings_apart = listed_apart setting_bytes setting_apart

pub words_apart : NoWordsBeginOthers
words_apart = listed_apart text_bytes text_apart

-- ---- groups

kind_of_byte : ℕ → SectionKind
kind_of_byte b = if b == 1 then Zone else (if b == 2 then Field else VisibleField)

kind_again : (k : SectionKind) → kind_of_byte (kind_byte k) ≡ k
unfolding kind_of_byte
kind_again Zone = refl
kind_again Field = refl
kind_again VisibleField = refl

pub one_kind : (k l : SectionKind) → kind_byte k ≡ kind_byte l → k ≡ l
one_kind k l e = sym (kind_again k) ∙ ap kind_of_byte e ∙ kind_again l

pub section_apart : NoneBegins section_bytes
section_apart a b r s e =
    let names = text_apart a.name b.name (kind_byte a.kind ∷ listed text_bytes a.tags ++ r) (kind_byte b.kind ∷ listed text_bytes b.tags ++ s)
    (pair_apart (text_bytes a.name) (text_bytes b.name) (kind_byte a.kind ∷ listed text_bytes a.tags) (kind_byte b.kind ∷ listed text_bytes b.tags) r s e) in
    let kinds = cons_parts (kind_byte a.kind) (kind_byte b.kind) (listed text_bytes a.tags ++ r) (listed text_bytes b.tags ++ s) names.1 in
    let tags = words_apart a.tags b.tags r s kinds.1 in
    let kind = one_kind a.kind b.kind kinds.0 in
    (λ i. record { name = names.0 i; kind = kind i; tags = tags.0 i }, tags.1)

-- the first two bytes of a group
null_again : (b : Bool) → (null_byte b == 2) ≡ b
null_again true = refl
null_again false = refl

sentence_again : (a b : Bool) → (flag_byte a b % 2 == 1) ≡ a
sentence_again true true = refl
sentence_again true false = refl
sentence_again false true = refl
sentence_again false false = refl

paragraph_again : (a b : Bool) → nat_le 2 (flag_byte a b) ≡ b
paragraph_again true true = refl
paragraph_again true false = refl
paragraph_again false true = refl
paragraph_again false false = refl

pub one_null : (a b : Bool) → null_byte a ≡ null_byte b → a ≡ b
one_null a b e = sym (null_again a) ∙ ap (λ n. n == 2) e ∙ null_again b

pub one_sentence : (a b c d : Bool) → flag_byte a b ≡ flag_byte c d → a ≡ c
one_sentence a b c d e = sym (sentence_again a b) ∙ ap (λ n. n % 2 == 1) e ∙ sentence_again c d

pub one_paragraph : (a b c d : Bool) → flag_byte a b ≡ flag_byte c d → b ≡ d
one_paragraph a b c d e = sym (paragraph_again a b) ∙ ap (nat_le 2) e ∙ paragraph_again c d

pub group_apart : NoGroupBeginsAnother
group_apart a b r s e =
    let first = cons_parts _ _ _ _ e in
    let second = cons_parts _ _ _ _ first.1 in
    let sections = listed_apart section_bytes section_apart a.sections b.sections r s second.1 in
    let is_null = one_null a.is_null b.is_null first.0 in
    let sentence = one_sentence a.sentence a.paragraph b.sentence b.paragraph second.0 in
    let paragraph = one_paragraph a.sentence a.paragraph b.sentence b.paragraph second.0 in
    (λ i. record { is_null = is_null i; sections = sections.0 i; sentence = sentence i; paragraph = paragraph i }, sections.1)
