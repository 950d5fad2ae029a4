-- The settings of options make these options, and so no spelling of preferences begins another.
use Rattle.std.specs.Prelude.{ℕ, ◌≡◌, ◌<◌, ◌==◌, Bool, true, false, List, [], ◌∷◌, ◌++◌, length, bytes_eq, Option, Some, None, codes, refl}
use Rattle.std.specs.Str.{all_scalars, chars, encode_utf8_all}
use Rattle.std.proofs.Common.{arith, sym, ap, ◌∙◌, append_assoc}
use Rattle.std.proofs.lemmas.Bool.{and_parts, ltb-true, lt-ltb, ne_eqb}
use Rattle.std.proofs.lemmas.List.Edits.{insert_end}
use Rattle.std.proofs.lemmas.Str.{chars-encodes}
use Rattle.std.proofs.lemmas.Slice.Eq.{bytes_eq-Decides}
use Rattle.ct_base.specs.Characters.{first}
use Rattle.tx_lexer.specs.CharSets.{above, has, place_of, rises, set_of, with_all, with_char}
use Rattle.tx_lexer.specs.declared.options.LexerOptions.{LexerOptions}
use Rattle.tx_lexer.specs.Tokens.{default_options}
use Rattle.tx_settings.specs.declared.attributes.Attribute.{Attribute}
use Rattle.tx_settings.specs.declared.attributes.Attribute.TheVariants.{BaseLetter, Endjoins, MixedCase, Numgroup, Numjoin, Printjoins, Punctuations, Skipjoins, Startjoins}
use Rattle.tx_settings.specs.declared.attributes.Setting.{Setting}
use Rattle.tx_settings.specs.Attributes.{char_setting, char_text, flag_setting, options_of, options_with, set_setting, settings_of, with_value}
use Rattle.tx_settings.specs.PrefsBytes.{are_options, group_bytes, is_set, settings_bytes, words_bytes}
use Rattle.tx_settings.specs.PrefsPromises.{NoPrefsBeginOthers, OptionsAreMadeAgain}
use Rattle.tx_settings.specs.laws.Apart.{group_apart, pair_apart, settings_apart, words_apart}

-- ---- the set of characters that rise is these characters

-- each is less
abbrev AllBelow : ℕ → List ℕ → Type 0
AllBelow c [] = Unit {0}
AllBelow c (d ∷ ds) = (d < c) × AllBelow c ds

below_more : (c d : ℕ) (ds : List ℕ) → c < d → AllBelow c ds → AllBelow d (ds ++ c ∷ [])
below_more c d [] less all = (less, tt)
below_more c d (e ∷ es) less all = (let h = all.0 in omega arith, below_more c d es less all.1)

has_not : (c : ℕ) (ds : List ℕ) → AllBelow c ds → has ds c ≡ false
has_not c [] all = refl
has_not c (d ∷ ds) all =
    let other : (d == c) ≡ false = ne_eqb d c (λ e. let h = all.0 in omega arith) in
    let rest : has ds c ≡ false = has_not c ds all.1 in
    rw (other, rest) refl

place_behind : (c : ℕ) (ds : List ℕ) → AllBelow c ds → place_of c ds ≡ length ds
place_behind c [] all = refl
place_behind c (d ∷ ds) all =
    let rest : place_of c ds ≡ length ds = place_behind c ds all.1 in
    rw (lt-ltb d c all.0, rest) (omega arith)

put_behind : (c : ℕ) (ds : List ℕ) → AllBelow c ds → with_char c ds ≡ ds ++ c ∷ []
put_behind c ds all = rw (has_not c ds all, place_behind c ds all) (insert_end ds c)

put_all : (c : ℕ) (cs done : List ℕ) → AllBelow c done → above c cs ≡ true → with_all done (c ∷ cs) ≡ done ++ c ∷ cs
put_all c [] done all h = put_behind c done all
put_all c (d ∷ cs) done all h =
    let p = and_parts _ (above d cs) h in
    ap (λ (done : List ℕ). with_all done (d ∷ cs)) (put_behind c done all)
    ∙ put_all d cs (done ++ c ∷ []) (below_more c d done (ltb-true c d p.0) all) p.1
    ∙ append_assoc done (c ∷ []) (d ∷ cs)

pub set_again : (set : List ℕ) → rises set ≡ true → set_of set ≡ set
set_again [] h = refl
set_again (c ∷ cs) h = put_all c cs [] tt h

-- ---- one setting

pub text_set : (set : List ℕ) → is_set set ≡ true → set_of (chars (encode_utf8_all set)) ≡ set
text_set set h =
    let p = and_parts (rises set) (all_scalars set) h in
    ap set_of (chars-encodes set p.1) ∙ set_again set p.0

-- a set: the options are made by its field, which had the default
set_step : (made : List ℕ → LexerOptions) (a : Attribute) (default set : List ℕ) → ((value : List ℕ) → with_value a value (made default) ≡ made (set_of (chars value))) → is_set set ≡ true
    → options_with (made default) (set_setting a default set) ≡ made set
set_step made a default set is h = go (bytes_eq set default) refl
  where
    go : (t : Bool) → bytes_eq set default ≡ t → options_with (made default) (set_setting a default set) ≡ made set
    go true e = rw e (ap made (sym ((bytes_eq-Decides set default).0 e)))
    go false e = rw e (is (encode_utf8_all set) ∙ ap made (text_set set h))

char_step : (made : Option ℕ → LexerOptions) (a : Attribute) (default c : Option ℕ) → ((value : List ℕ) → with_value a value (made default) ≡ made (first (chars value))) → all_scalars (char_text c) ≡ true
    → options_with (made default) (char_setting a default c) ≡ made c
char_step made a default c is h = go (bytes_eq (char_text c) (char_text default)) refl
  where
    first_again : (c : Option ℕ) → first (char_text c) ≡ c
    first_again None = refl
    first_again (Some x) = refl

    go : (t : Bool) → bytes_eq (char_text c) (char_text default) ≡ t → options_with (made default) (char_setting a default c) ≡ made c
    go true e = rw e (ap made (sym (first_again default) ∙ ap first (sym ((bytes_eq-Decides (char_text c) (char_text default)).0 e)) ∙ first_again c))
    go false e = rw e (is (encode_utf8_all (char_text c)) ∙ ap (λ (t : List ℕ). made (first t)) (chars-encodes (char_text c) h) ∙ ap made (first_again c))

flag_step : (made : Bool → LexerOptions) (a : Attribute) (flag : Bool) → with_value a (codes "YES") (made false) ≡ made true → options_with (made false) (flag_setting a flag) ≡ made flag
flag_step made a true is = is
flag_step made a false is = refl

-- ---- all of them

options_with-append : (o : LexerOptions) (ss ts : List Setting) → options_with o (ss ++ ts) ≡ options_with (options_with o ss) ts
options_with-append o [] ts = refl
options_with-append o (s ∷ ss) ts = options_with-append (with_value s.attribute s.value o) ss ts

then_more : (o p : LexerOptions) (ss ts : List Setting) → options_with o ss ≡ p → options_with o (ss ++ ts) ≡ options_with p ts
then_more o p ss ts e = options_with-append o ss ts ∙ ap (λ (o : LexerOptions). options_with o ts) e

set_then : (made : List ℕ → LexerOptions) (a : Attribute) (default set : List ℕ) (rest : List Setting) → ((value : List ℕ) → with_value a value (made default) ≡ made (set_of (chars value))) → is_set set ≡ true
    → options_with (made default) (set_setting a default set ++ rest) ≡ options_with (made set) rest
set_then made a default set rest is h = then_more (made default) (made set) (set_setting a default set) rest (set_step made a default set is h)

char_then : (made : Option ℕ → LexerOptions) (a : Attribute) (default c : Option ℕ) (rest : List Setting) → ((value : List ℕ) → with_value a value (made default) ≡ made (first (chars value))) → all_scalars (char_text c) ≡ true
    → options_with (made default) (char_setting a default c ++ rest) ≡ options_with (made c) rest
char_then made a default c rest is h = then_more (made default) (made c) (char_setting a default c) rest (char_step made a default c is h)

flag_then : (made : Bool → LexerOptions) (a : Attribute) (flag : Bool) (rest : List Setting) → with_value a (codes "YES") (made false) ≡ made true → options_with (made false) (flag_setting a flag ++ rest) ≡ options_with (made flag) rest
flag_then made a flag rest is = then_more (made false) (made flag) (flag_setting a flag) rest (flag_step made a flag is)

-- what options are
pub record Parts (o : LexerOptions) : Type 0 where
  pub printjoins : is_set o.printjoins ≡ true
  pub skipjoins : is_set o.skipjoins ≡ true
  pub startjoins : is_set o.startjoins ≡ true
  pub endjoins : is_set o.endjoins ≡ true
  pub punctuations : is_set o.punctuations ≡ true
  pub numjoin : all_scalars (char_text o.numjoin) ≡ true
  pub numgroup : all_scalars (char_text o.numgroup) ≡ true

pub parts_of : (o : LexerOptions) → are_options o ≡ true → Parts o
parts_of o h =
    let a = and_parts (is_set o.printjoins) _ h in
    let b = and_parts (is_set o.skipjoins) _ a.1 in
    let c = and_parts (is_set o.startjoins) _ b.1 in
    let d = and_parts (is_set o.endjoins) _ c.1 in
    let e = and_parts (is_set o.punctuations) _ d.1 in
    let f = and_parts (all_scalars (char_text o.numjoin)) _ e.1 in
    record { printjoins = a.0; skipjoins = b.0; startjoins = c.0; endjoins = d.0; punctuations = e.0; numjoin = f.0; numgroup = f.1 }

-- options by their fields, in the order of the attributes
abbrev made : Bool → List ℕ → Bool → Option ℕ → Option ℕ → List ℕ → List ℕ → List ℕ → List ℕ → LexerOptions
made base end mixed group join print closing skip start = record {
  printjoins = print;
  skipjoins = skip;
  startjoins = start;
  endjoins = end;
  punctuations = closing;
  numjoin = join;
  numgroup = group;
  base_letter = base;
  mixed_case = mixed;
}

pub made_again : OptionsAreMadeAgain
made_again o h =
    let d = default_options in
    let p = parts_of o h in
    let starts = set_setting Startjoins d.startjoins o.startjoins in
    let skips = set_setting Skipjoins d.skipjoins o.skipjoins ++ starts in
    let closings = set_setting Punctuations d.punctuations o.punctuations ++ skips in
    let prints = set_setting Printjoins d.printjoins o.printjoins ++ closings in
    let joins = char_setting Numjoin d.numjoin o.numjoin ++ prints in
    let groups = char_setting Numgroup d.numgroup o.numgroup ++ joins in
    let mixed = flag_setting MixedCase o.mixed_case ++ groups in
    let ends = set_setting Endjoins d.endjoins o.endjoins ++ mixed in
    flag_then (λ x. made x d.endjoins false d.numgroup d.numjoin d.printjoins d.punctuations d.skipjoins d.startjoins) BaseLetter o.base_letter ends refl
    ∙ set_then (λ x. made o.base_letter x false d.numgroup d.numjoin d.printjoins d.punctuations d.skipjoins d.startjoins) Endjoins d.endjoins o.endjoins mixed (λ v. refl) p.endjoins
    ∙ flag_then (λ x. made o.base_letter o.endjoins x d.numgroup d.numjoin d.printjoins d.punctuations d.skipjoins d.startjoins) MixedCase o.mixed_case groups refl
    ∙ char_then (λ x. made o.base_letter o.endjoins o.mixed_case x d.numjoin d.printjoins d.punctuations d.skipjoins d.startjoins) Numgroup d.numgroup o.numgroup joins (λ v. refl) p.numgroup
    ∙ char_then (λ x. made o.base_letter o.endjoins o.mixed_case o.numgroup x d.printjoins d.punctuations d.skipjoins d.startjoins) Numjoin d.numjoin o.numjoin prints (λ v. refl) p.numjoin
    ∙ set_then (λ x. made o.base_letter o.endjoins o.mixed_case o.numgroup o.numjoin x d.punctuations d.skipjoins d.startjoins) Printjoins d.printjoins o.printjoins closings (λ v. refl) p.printjoins
    ∙ set_then (λ x. made o.base_letter o.endjoins o.mixed_case o.numgroup o.numjoin o.printjoins x d.skipjoins d.startjoins) Punctuations d.punctuations o.punctuations skips (λ v. refl) p.punctuations
    ∙ set_then (λ x. made o.base_letter o.endjoins o.mixed_case o.numgroup o.numjoin o.printjoins o.punctuations x d.startjoins) Skipjoins d.skipjoins o.skipjoins starts (λ v. refl) p.skipjoins
    ∙ set_step (λ x. made o.base_letter o.endjoins o.mixed_case o.numgroup o.numjoin o.printjoins o.punctuations o.skipjoins x) Startjoins d.startjoins o.startjoins (λ v. refl) p.startjoins

-- ---- preferences

pub prefs_apart : NoPrefsBeginOthers
prefs_apart p q r s f g e =
    let options = settings_apart (settings_of p.lexer) (settings_of q.lexer) (words_bytes p.stop ++ group_bytes p.group ++ r) (words_bytes q.stop ++ group_bytes q.group ++ s)
    (pair_apart (settings_bytes (settings_of p.lexer)) (settings_bytes (settings_of q.lexer)) (words_bytes p.stop ++ group_bytes p.group) (words_bytes q.stop ++ group_bytes q.group) r s e) in
    let words = words_apart p.stop q.stop (group_bytes p.group ++ r) (group_bytes q.group ++ s) (pair_apart (words_bytes p.stop) (words_bytes q.stop) (group_bytes p.group) (group_bytes q.group) r s options.1) in
    let group = group_apart p.group q.group r s words.1 in
    let lexer : p.lexer ≡ q.lexer = sym (made_again p.lexer f.lexer) ∙ ap options_of options.0 ∙ made_again q.lexer g.lexer in
    (λ i. record { lexer = lexer i; stop = words.0 i; group = group.0 i }, group.1)
