-- Options can be set exactly where their settings are taken.
use Rattle.std.specs.Prelude.{ℕ, ◌≡◌, ◌+◌, ◌≤◌, Bool, true, false, ◌&&◌, nat_le, nat_lt, List, [], ◌∷◌, ◌++◌, length, bytes_eq, Option, Some, None, codes, refl}
use Rattle.std.specs.Bool.{if◌then◌else◌}
use Rattle.std.specs.List.{insert, list_all}
use Rattle.std.specs.Str.{all_scalars, chars, encode_utf8_all}
use Rattle.std.proofs.Common.{add-one, ap, arith, sym, subst, ◌∙◌}
use Rattle.std.proofs.lemmas.Bool.{and_parts, and_from, leb-true, le-leb}
use Rattle.std.proofs.lemmas.List.Edits.{length-insert}
use Rattle.std.proofs.lemmas.List.Folds.{list_all-append}
use Rattle.std.proofs.lemmas.Str.{chars-encodes}
use Rattle.ucd_category.proofs.Computing.{ucd_category}
use Rattle.caseless.proofs.Computing.{caseless}
use Rattle.ct_base.specs.Characters.{first}
use Rattle.tx_lexer.specs.CharSets.{has, place_of, rises, set_of, with_all, with_char}
use Rattle.tx_lexer.specs.declared.options.LexerOptions.{LexerOptions}
use Rattle.tx_lexer.specs.Tokens.{default_options}
use Rattle.tx_settings.specs.declared.attributes.Attribute.{Attribute}
use Rattle.tx_settings.specs.declared.attributes.Attribute.TheVariants.{BaseLetter, Endjoins, IndexText, IndexThemes, MixedCase, Numgroup, Numjoin, Printjoins, Punctuations, Skipjoins, Startjoins}
use Rattle.tx_settings.specs.declared.attributes.Setting.{Setting}
use Rattle.tx_settings.specs.Attributes.{are_signs, are_taken, can_be_set, char_setting, char_text, flag_setting, is_sign, is_sign_set, options_with, set_limit, set_setting, takes_value, with_value}
use Rattle.tx_settings.specs.PrefsBytes.{is_set}
use Rattle.tx_settings.specs.PrefsPromises.{DefaultsCanBeSet, SetOptionsAreTaken, TakenOptionsCanBeSet}
use Rattle.tx_settings.specs.laws.MadeAgain.{parts_of}

-- ---- the set of some characters

put_length : (t : Bool) (c : ℕ) (set : List ℕ) → length (if t then set else insert set (place_of c set) c) ≤ length set + 1
put_length true c set = omega arith
put_length false c set = let e = length-insert set (place_of c set) c (place_within c set) in omega (arith, e)
  where
    place_within : (c : ℕ) (set : List ℕ) → place_of c set ≤ length set
    place_within c [] = omega arith
    place_within c (d ∷ ds) = step (nat_lt d c) (place_within c ds)
      where
        step : (t : Bool) → place_of c ds ≤ length ds → (if t then place_of c ds + 1 else 0) ≤ length (d ∷ ds)
        step true h = omega (arith, h)
        step false h = omega arith

all_length : (set cs : List ℕ) → length (with_all set cs) ≤ length set + length cs
all_length set [] = omega arith
all_length set (c ∷ cs) =
    let one = put_length (has set c) c set in
    let rest = all_length (with_char c set) cs in
    omega (arith, one, rest)

-- what each of them keeps
module _ (test : ℕ → Bool) where
  inserted : (c : ℕ) (set : List ℕ) → test c ≡ true → list_all test set ≡ true → list_all test (insert set (place_of c set) c) ≡ true
  inserted c [] h all = and_from (test c) true h refl
  inserted c (d ∷ ds) h all =
      let p = and_parts (test d) (list_all test ds) all in
      step (nat_lt d c) p.0 (inserted c ds h p.1)
    where
      step : (t : Bool) → test d ≡ true → list_all test (insert ds (place_of c ds) c) ≡ true → list_all test (insert (d ∷ ds) (if t then place_of c ds + 1 else 0) c) ≡ true
      step true first rest = ap (λ n. list_all test (insert (d ∷ ds) n c)) (add-one (place_of c ds)) ∙ and_from (test d) (list_all test (insert ds (place_of c ds) c)) first rest
      step false first rest = and_from (test c) (list_all test (d ∷ ds)) h all

  put_each : (t : Bool) (c : ℕ) (set : List ℕ) → test c ≡ true → list_all test set ≡ true → list_all test (if t then set else insert set (place_of c set) c) ≡ true
  put_each true c set h all = all
  put_each false c set h all = inserted c set h all

  all_each : (set cs : List ℕ) → list_all test set ≡ true → list_all test cs ≡ true → list_all test (with_all set cs) ≡ true
  all_each set [] all h = all
  all_each set (c ∷ cs) all h =
      let p = and_parts (test c) (list_all test cs) h in
      all_each (with_char c set) cs (put_each (has set c) c set p.0 all) p.1

  first_each : (cs : List ℕ) → list_all test cs ≡ true → list_all test (char_text (first cs)) ≡ true
  first_each [] h = refl
  first_each (c ∷ cs) h = and_from (test c) true (and_parts (test c) (list_all test cs) h).0 refl

-- ---- what taken settings make

signed_set : (value : List ℕ) → are_signs set_limit value ≡ true → is_sign_set (set_of (chars value)) ≡ true
signed_set value h =
    let p = and_parts (nat_le (length (chars value)) set_limit) (list_all is_sign (chars value)) h in
    let few = leb-true (length (chars value)) set_limit p.0 in
    let long = all_length [] (chars value) in
    and_from (nat_le (length (set_of (chars value))) set_limit) (list_all is_sign (set_of (chars value)))
    (le-leb (length (set_of (chars value))) set_limit (omega (arith, few, long)))
    (all_each is_sign [] (chars value) refl p.1)

signed_first : (value : List ℕ) → are_signs 1 value ≡ true → list_all is_sign (char_text (first (chars value))) ≡ true
signed_first value h = first_each is_sign (chars value) (and_parts (nat_le (length (chars value)) 1) (list_all is_sign (chars value)) h).1

-- the tests of options, one by one
pub record AreSigned (o : LexerOptions) : Type 0 where
  pub printjoins : is_sign_set o.printjoins ≡ true
  pub skipjoins : is_sign_set o.skipjoins ≡ true
  pub startjoins : is_sign_set o.startjoins ≡ true
  pub endjoins : is_sign_set o.endjoins ≡ true
  pub punctuations : is_sign_set o.punctuations ≡ true
  pub numjoin : list_all is_sign (char_text o.numjoin) ≡ true
  pub numgroup : list_all is_sign (char_text o.numgroup) ≡ true

pub signed_parts : (o : LexerOptions) → can_be_set o ≡ true → AreSigned o
signed_parts o h =
    let a = and_parts (is_sign_set o.printjoins) _ h in
    let b = and_parts (is_sign_set o.skipjoins) _ a.1 in
    let c = and_parts (is_sign_set o.startjoins) _ b.1 in
    let d = and_parts (is_sign_set o.endjoins) _ c.1 in
    let e = and_parts (is_sign_set o.punctuations) _ d.1 in
    let f = and_parts (list_all is_sign (char_text o.numjoin)) _ e.1 in
    record { printjoins = a.0; skipjoins = b.0; startjoins = c.0; endjoins = d.0; punctuations = e.0; numjoin = f.0; numgroup = f.1 }

with_signed : (a : Attribute) (value : List ℕ) (o : LexerOptions) → takes_value a value ≡ true → AreSigned o → AreSigned (with_value a value o)
with_signed BaseLetter value o h s = record { printjoins = s.printjoins; skipjoins = s.skipjoins; startjoins = s.startjoins; endjoins = s.endjoins; punctuations = s.punctuations; numjoin = s.numjoin; numgroup = s.numgroup }
with_signed Endjoins value o h s = record { printjoins = s.printjoins; skipjoins = s.skipjoins; startjoins = s.startjoins; endjoins = signed_set value h; punctuations = s.punctuations; numjoin = s.numjoin; numgroup = s.numgroup }
with_signed IndexText value o h s = s
with_signed IndexThemes value o h s = s
with_signed MixedCase value o h s = record { printjoins = s.printjoins; skipjoins = s.skipjoins; startjoins = s.startjoins; endjoins = s.endjoins; punctuations = s.punctuations; numjoin = s.numjoin; numgroup = s.numgroup }
with_signed Numgroup value o h s = record { printjoins = s.printjoins; skipjoins = s.skipjoins; startjoins = s.startjoins; endjoins = s.endjoins; punctuations = s.punctuations; numjoin = s.numjoin; numgroup = signed_first value h }
with_signed Numjoin value o h s = record { printjoins = s.printjoins; skipjoins = s.skipjoins; startjoins = s.startjoins; endjoins = s.endjoins; punctuations = s.punctuations; numjoin = signed_first value h; numgroup = s.numgroup }
with_signed Printjoins value o h s = record { printjoins = signed_set value h; skipjoins = s.skipjoins; startjoins = s.startjoins; endjoins = s.endjoins; punctuations = s.punctuations; numjoin = s.numjoin; numgroup = s.numgroup }
with_signed Punctuations value o h s = record { printjoins = s.printjoins; skipjoins = s.skipjoins; startjoins = s.startjoins; endjoins = s.endjoins; punctuations = signed_set value h; numjoin = s.numjoin; numgroup = s.numgroup }
with_signed Skipjoins value o h s = record { printjoins = s.printjoins; skipjoins = signed_set value h; startjoins = s.startjoins; endjoins = s.endjoins; punctuations = s.punctuations; numjoin = s.numjoin; numgroup = s.numgroup }
with_signed Startjoins value o h s = record { printjoins = s.printjoins; skipjoins = s.skipjoins; startjoins = signed_set value h; endjoins = s.endjoins; punctuations = s.punctuations; numjoin = s.numjoin; numgroup = s.numgroup }

options_signed : (o : LexerOptions) (ss : List Setting) → are_taken ss ≡ true → AreSigned o → AreSigned (options_with o ss)
options_signed o [] h s = s
options_signed o (t ∷ ts) h s =
    let p = and_parts (takes_value t.attribute t.value) (are_taken ts) h in
    options_signed (with_value t.attribute t.value o) ts p.1 (with_signed t.attribute t.value o p.0 s)

pub defaults_can_be_set : DefaultsCanBeSet
unfolding caseless ucd_category
defaults_can_be_set = refl

pub taken_options_can_be_set : TakenOptionsCanBeSet
taken_options_can_be_set ss h =
    let s = options_signed default_options ss h (signed_parts default_options defaults_can_be_set) in
    and_from _ _ s.printjoins (and_from _ _ s.skipjoins (and_from _ _ s.startjoins (and_from _ _ s.endjoins (and_from _ _ s.punctuations (and_from _ _ s.numjoin s.numgroup)))))

-- ---- the settings of options that can be set

signs_text : (limit : ℕ) (set : List ℕ) → all_scalars set ≡ true → nat_le (length set) limit ≡ true → list_all is_sign set ≡ true → are_signs limit (encode_utf8_all set) ≡ true
signs_text limit set scalars few signs =
    subst (λ (cs : List ℕ). (nat_le (length cs) limit && list_all is_sign cs) ≡ true) (sym (chars-encodes set scalars))
    (and_from (nat_le (length set) limit) (list_all is_sign set) few signs)

set_text : (set : List ℕ) → is_set set ≡ true → is_sign_set set ≡ true → are_signs set_limit (encode_utf8_all set) ≡ true
set_text set h signs =
    let p = and_parts (rises set) (all_scalars set) h in
    let q = and_parts (nat_le (length set) set_limit) (list_all is_sign set) signs in
    signs_text set_limit set p.1 q.0 q.1

one_text : (c : Option ℕ) → all_scalars (char_text c) ≡ true → list_all is_sign (char_text c) ≡ true → are_signs 1 (encode_utf8_all (char_text c)) ≡ true
one_text None h signs = signs_text 1 [] h refl signs
one_text (Some c) h signs = signs_text 1 (c ∷ []) h refl signs

set_taken : (a : Attribute) (default set : List ℕ) → takes_value a (encode_utf8_all set) ≡ true → are_taken (set_setting a default set) ≡ true
set_taken a default set h = go (bytes_eq set default) refl
  where
    go : (t : Bool) → bytes_eq set default ≡ t → are_taken (set_setting a default set) ≡ true
    go true e = rw e refl
    go false e = rw e (and_from (takes_value a (encode_utf8_all set)) true h refl)

flag_taken : (a : Attribute) (flag : Bool) → takes_value a (codes "YES") ≡ true → are_taken (flag_setting a flag) ≡ true
flag_taken a true h = and_from (takes_value a (codes "YES")) true h refl
flag_taken a false h = refl

both_taken : (ss ts : List Setting) → are_taken ss ≡ true → are_taken ts ≡ true → are_taken (ss ++ ts) ≡ true
both_taken ss ts f g = list_all-append (λ (s : Setting). takes_value s.attribute s.value) ss ts ∙ and_from _ _ f g

pub set_options_are_taken : SetOptionsAreTaken
set_options_are_taken o are can =
    let d = default_options in
    let p = parts_of o are in
    let s = signed_parts o can in
    both_taken (flag_setting BaseLetter o.base_letter) _ (flag_taken BaseLetter o.base_letter refl)
    (both_taken (set_setting Endjoins d.endjoins o.endjoins) _ (set_taken Endjoins d.endjoins o.endjoins (set_text o.endjoins p.endjoins s.endjoins))
    (both_taken (flag_setting MixedCase o.mixed_case) _ (flag_taken MixedCase o.mixed_case refl)
    (both_taken (char_setting Numgroup d.numgroup o.numgroup) _ (set_taken Numgroup (char_text d.numgroup) (char_text o.numgroup) (one_text o.numgroup p.numgroup s.numgroup))
    (both_taken (char_setting Numjoin d.numjoin o.numjoin) _ (set_taken Numjoin (char_text d.numjoin) (char_text o.numjoin) (one_text o.numjoin p.numjoin s.numjoin))
    (both_taken (set_setting Printjoins d.printjoins o.printjoins) _ (set_taken Printjoins d.printjoins o.printjoins (set_text o.printjoins p.printjoins s.printjoins))
    (both_taken (set_setting Punctuations d.punctuations o.punctuations) _ (set_taken Punctuations d.punctuations o.punctuations (set_text o.punctuations p.punctuations s.punctuations))
    (both_taken (set_setting Skipjoins d.skipjoins o.skipjoins) _ (set_taken Skipjoins d.skipjoins o.skipjoins (set_text o.skipjoins p.skipjoins s.skipjoins))
    (set_taken Startjoins d.startjoins o.startjoins (set_text o.startjoins p.startjoins s.startjoins)))))))))
