-- What a setting and a tag leave as it is.
use Rattle.std.proofs.Common.{◌≡◌, ℕ, ◌<◌, Bool, true, false, cond, List, [], ◌∷◌, ◌++◌, Option, Some, None, refl, sym, ap, ◌∙◌, arith}
use Rattle.std.specs.Prelude.{◌==◌, nat_lt, bytes_eq}
use Rattle.std.specs.Bool.{if◌then◌else◌}
use Rattle.std.proofs.lemmas.Bool.{ltb-true, eqb-true, eq-eqb, false≢true}
use Rattle.std.proofs.lemmas.Slice.Eq.{bytes_eq-Decides}
use Rattle.tx_tags.specs.declared.groups.SectionKind.{SectionKind}
use Rattle.tx_tags.specs.declared.groups.Section.{Section}
use Rattle.tx_tags.specs.Groups.{with_tag, kind_of}
use Rattle.tx_settings.specs.declared.attributes.Attribute.{Attribute}
use Rattle.tx_settings.specs.declared.attributes.Setting.{Setting}
use Rattle.tx_settings.specs.PrefsBytes.{attribute_place}
use Rattle.tx_prefs.specs.Preferences.{with_setting}
use Rattle.tx_prefs.specs.Promises.{value_of, tags_of, kind_with}

-- ---- settings

-- of three attributes: the first is less than the second, and which of them is the third one
first_less : (s t : Setting) (rest others : Option (List ℕ)) (new its : Bool) (p q : ℕ) → p < q → (p ≡ q → ⊥) → rest ≡ cond new (Some s.value) others
    → ((its ≡ true) → (new ≡ true) → ⊥) → cond its (Some t.value) rest ≡ cond new (Some s.value) (cond its (Some t.value) others)
first_less s t rest others true true p q less apart is both = absurd (both refl refl)
first_less s t rest others false true p q less apart is both = refl
first_less s t rest others new false p q less apart is both = is

last_value-step : (s t : Setting) (rest others : Option (List ℕ)) (less same new its : Bool) (p q a : ℕ) → nat_lt p q ≡ less → (p == q) ≡ same → (q == a) ≡ new → (p == a) ≡ its
    → rest ≡ cond new (Some s.value) others
    → cond less (cond its (Some t.value) rest) (cond same (cond new (Some s.value) others) (cond new (Some s.value) (cond its (Some t.value) others))) ≡ cond new (Some s.value) (cond its (Some t.value) others)
last_value-step s t rest others true same new its p q a less_is same_is new_is its_is is =
    first_less s t rest others new its p q (ltb-true p q less_is) (λ e. let l = ltb-true p q less_is in omega (arith, e, l)) is
    (λ i n. let l = ltb-true p q less_is in let e = eqb-true p a (its_is ∙ i) in let f = eqb-true q a (new_is ∙ n) in omega (arith, e, f, l))
last_value-step s t rest others false true true its p q a less_is same_is new_is its_is is = refl
last_value-step s t rest others false true false true p q a less_is same_is new_is its_is is =
    let e = eqb-true p q same_is in let f = eqb-true p a its_is in let g : q ≡ a = sym e ∙ f in absurd (false≢true (sym new_is ∙ eq-eqb q a g))
last_value-step s t rest others false true false false p q a less_is same_is new_is its_is is = refl
last_value-step s t rest others false false new its p q a less_is same_is new_is its_is is = refl

-- a test may be carried into what follows of it
value_of-cond : (a : Attribute) (b : Bool) (xs ys : List Setting) → value_of a (cond b xs ys) ≡ cond b (value_of a xs) (value_of a ys)
value_of-cond a true xs ys = refl
value_of-cond a false xs ys = refl

pub last_value : (s : Setting) (ss : List Setting) (a : Attribute) → value_of a (with_setting s ss) ≡ (if attribute_place s.attribute == attribute_place a then Some s.value else value_of a ss)
last_value s [] a = refl
last_value s (t ∷ ts) a =
    let p = attribute_place t.attribute in let q = attribute_place s.attribute in let r = attribute_place a in
    value_of-cond a (nat_lt p q) (t ∷ with_setting s ts) (cond (p == q) (s ∷ ts) (s ∷ t ∷ ts))
    ∙ ap (λ (o : Option (List ℕ)). cond (nat_lt p q) (value_of a (t ∷ with_setting s ts)) o) (value_of-cond a (p == q) (s ∷ ts) (s ∷ t ∷ ts))
    ∙ last_value-step s t (value_of a (with_setting s ts)) (value_of a ts) (nat_lt p q) (p == q) (q == r) (p == r) p q r refl refl refl refl (last_value s ts a)

-- ---- sections

same_name : (a b c : List ℕ) → bytes_eq a b ≡ true → bytes_eq b c ≡ bytes_eq a c
same_name a b c same = ap (λ (x : List ℕ). bytes_eq x c) (sym ((bytes_eq-Decides a b).0 same))

other_name : (a b c : List ℕ) → bytes_eq a b ≡ false → bytes_eq b c ≡ true → bytes_eq a c ≡ true → ⊥
other_name a b c apart b_is a_is =
    false≢true (sym apart ∙ (bytes_eq-Decides a b).1 ((bytes_eq-Decides a c).0 a_is ∙ sym ((bytes_eq-Decides b c).0 b_is)))

pub tags_join : (name : List ℕ) (kind : SectionKind) (tag : List ℕ) (ss : List Section) (other : List ℕ) → tags_of other (with_tag name kind tag ss) ≡ (if bytes_eq name other then tags_of other ss ++ tag ∷ [] else tags_of other ss)
tags_join name kind tag [] other = refl
tags_join name kind tag (s ∷ ss) other = go (bytes_eq s.name name) refl (tags_join name kind tag ss other)
  where
    there : (b : Bool) → cond b (s.tags ++ tag ∷ []) (tags_of other ss) ≡ cond b (cond b s.tags (tags_of other ss) ++ tag ∷ []) (cond b s.tags (tags_of other ss))
    there true = refl
    there false = refl

    behind : (its new : Bool) (more : List (List ℕ)) → (its ≡ true → new ≡ true → ⊥) → more ≡ cond new (tags_of other ss ++ tag ∷ []) (tags_of other ss)
        → cond its s.tags more ≡ cond new (cond its s.tags (tags_of other ss) ++ tag ∷ []) (cond its s.tags (tags_of other ss))
    behind true true more both is = absurd (both refl refl)
    behind true false more both is = refl
    behind false new more both is = is

    go : (b : Bool) → bytes_eq s.name name ≡ b → tags_of other (with_tag name kind tag ss) ≡ (if bytes_eq name other then tags_of other ss ++ tag ∷ [] else tags_of other ss)
        → tags_of other (cond b (record s { tags = s.tags ++ tag ∷ [] } ∷ ss) (s ∷ with_tag name kind tag ss)) ≡ (if bytes_eq name other then tags_of other (s ∷ ss) ++ tag ∷ [] else tags_of other (s ∷ ss))
    go true same rest = there (bytes_eq s.name other) ∙ ap (λ (b : Bool). cond b (tags_of other (s ∷ ss) ++ tag ∷ []) (tags_of other (s ∷ ss))) (sym (same_name s.name name other same))
    go false apart rest = behind (bytes_eq s.name other) (bytes_eq name other) (tags_of other (with_tag name kind tag ss)) (λ its new. other_name s.name name other apart new its) rest

pub kinds_stay : (name : List ℕ) (kind : SectionKind) (tag : List ℕ) (ss : List Section) (other : List ℕ) → kind_of other (with_tag name kind tag ss) ≡ kind_with name kind other (kind_of other ss)
kinds_stay name kind tag [] other = refl
kinds_stay name kind tag (s ∷ ss) other = go (bytes_eq s.name name) refl (kinds_stay name kind tag ss other)
  where
    there : (its : Bool) → bytes_eq name other ≡ its → cond its (Some s.kind) (kind_of other ss) ≡ kind_with name kind other (cond its (Some s.kind) (kind_of other ss))
    there true is = refl
    there false is = none (kind_of other ss)
      where
        none : (o : Option SectionKind) → o ≡ kind_with name kind other o
        none (Some k) = refl
        none None = sym (ap (λ (b : Bool). cond b (Some kind) None) is)

    behind : (its : Bool) (more : Option SectionKind) → more ≡ kind_with name kind other (kind_of other ss) → cond its (Some s.kind) more ≡ kind_with name kind other (cond its (Some s.kind) (kind_of other ss))
    behind true more is = refl
    behind false more is = is

    go : (b : Bool) → bytes_eq s.name name ≡ b → kind_of other (with_tag name kind tag ss) ≡ kind_with name kind other (kind_of other ss)
        → kind_of other (cond b (record s { tags = s.tags ++ tag ∷ [] } ∷ ss) (s ∷ with_tag name kind tag ss)) ≡ kind_with name kind other (kind_of other (s ∷ ss))
    go true same rest = there (bytes_eq s.name other) (same_name s.name name other same)
    go false apart rest = behind (bytes_eq s.name other) (kind_of other (with_tag name kind tag ss)) rest
