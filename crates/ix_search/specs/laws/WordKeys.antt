-- The keys of a text's words are texts of 1 to 255 bytes.
use Rattle.std.proofs.Common.{ℕ, zero, suc, ◌≡◌, ◌+◌, ◌-◌, ◌<◌, ◌≤◌, ◌==◌, Bool, true, false, cond, List, [], ◌∷◌, ◌++◌, length, Option, Some, None, refl, arith}
use Rattle.std.specs.Prelude.{replicate}
use Rattle.std.specs.List.{AllByRecursion}
use Rattle.std.specs.Char.{len_utf8}
use Rattle.std.specs.Str.{chars, encode_utf8_all, IsUtf8, all_scalars}
use lib.Utf8.{scalar, low_scalar}
use Rattle.std.proofs.lemmas.Bool.{and_parts, and_from}
use Rattle.std.proofs.lemmas.List.Elements.{recursion_from_All}
use Rattle.std.proofs.lemmas.Str.{scalars-chars}
use Rattle.ct_base.specs.Limits.{token_limit}
use Rattle.ct_entry.specs.Keys.{IsToken}
use Rattle.tx_chars.specs.laws.KeyLimit.{limit as key_limit}
use Rattle.tx_chars.specs.laws.ScalarKeys.{keys_are_utf8}
use Rattle.tx_lexer.specs.declared.roles.Role.{Role}
use Rattle.tx_lexer.specs.declared.roles.Role.TheVariants.{Out, Core, Number, Skip, Start, End}
use Rattle.tx_lexer.specs.declared.tokens.Token.{Token}
use Rattle.tx_lexer.specs.laws.TokenKeys.{some_keys, limit}
use Rattle.tx_lexer.specs.Tokens.{Rules, Place, places, is_cut, uncut, stop_of, own, run_text, after_of, token, keyed, tokens_after, tokens, rules}
use Rattle.tx_tags.specs.Tags.{GroupTag, tags_in, tag_at, left_at, kept_or_blank, blanked_from, blanked, group_tags}
use Rattle.tx_stop.specs.StopKeys.{is_stop}
use Rattle.tx_settings.specs.declared.preferences.Prefs.{Prefs}
use Rattle.tx_document.specs.Documents.{Extent, extents, words_from, document}
use Rattle.q_tree.specs.Documents.{DocWord}
use Rattle.ix_search.specs.Texts.{doc_words}

-- ---- tags become blanks

blanks_scalars : (n : ℕ) → all_scalars (replicate n 32) ≡ true
blanks_scalars zero = refl
blanks_scalars (suc n) = and_from (scalar 32) (all_scalars (replicate n 32)) (low_scalar 32 (omega arith)) (blanks_scalars n)

both_scalars : (xs ys : List ℕ) → all_scalars xs ≡ true → all_scalars ys ≡ true → all_scalars (xs ++ ys) ≡ true
both_scalars [] ys f g = g
both_scalars (x ∷ xs) ys f g = let p = and_parts (scalar x) (all_scalars xs) f in and_from (scalar x) (all_scalars (xs ++ ys)) p.0 (both_scalars xs ys p.1 g)

kept_scalars : (left c : ℕ) → scalar c ≡ true → all_scalars (kept_or_blank left c) ≡ true
kept_scalars left c h = go (left == 0)
  where
    go : (b : Bool) → all_scalars (cond b (c ∷ []) (replicate (len_utf8 c) 32)) ≡ true
    go true = and_from (scalar c) true h refl
    go false = blanks_scalars (len_utf8 c)

blanked_scalars : (ts : List GroupTag) (place left : ℕ) (cs : List ℕ) → all_scalars cs ≡ true → all_scalars (blanked_from ts place left cs) ≡ true
blanked_scalars ts place left [] h = refl
blanked_scalars ts place left (c ∷ cs) h =
    let p = and_parts (scalar c) (all_scalars cs) h in
    let now = left_at (tag_at ts place (c ∷ cs)) left in
    both_scalars (kept_or_blank now c) (blanked_from ts (place + len_utf8 c) (now - 1) cs) (kept_scalars now c p.0) (blanked_scalars ts (place + len_utf8 c) (now - 1) cs p.1)

-- ---- runs have the characters of the text

abbrev IsScalarPlace : Place → Type 0
IsScalarPlace p = scalar p.char ≡ true

places_scalars : (r : Rules) (before : Option ℕ) (byte : ℕ) (cs : List ℕ) → all_scalars cs ≡ true → AllByRecursion IsScalarPlace (places r before byte cs)
places_scalars r before byte [] h = tt
places_scalars r before byte (c ∷ cs) h = let p = and_parts (scalar c) (all_scalars cs) h in (p.0, places_scalars r (Some c) (byte + len_utf8 c) cs p.1)

uncut_scalars : (role : Role) (ps : List Place) → AllByRecursion IsScalarPlace ps → AllByRecursion IsScalarPlace (uncut role ps)
uncut_scalars role [] all = tt
uncut_scalars role (p ∷ ps) all = go (is_cut role p.role) (uncut_scalars p.role ps all.1)
  where
    go : (b : Bool) → AllByRecursion IsScalarPlace (uncut p.role ps) → AllByRecursion IsScalarPlace (cond b [] (p ∷ uncut p.role ps))
    go true rest = tt
    go false rest = (all.0, rest)

own_scalars : (role : Role) (c : ℕ) → scalar c ≡ true → all_scalars (own role c) ≡ true
own_scalars Skip c h = refl
own_scalars Out c h = and_from (scalar c) true h refl
own_scalars Core c h = and_from (scalar c) true h refl
own_scalars Number c h = and_from (scalar c) true h refl
own_scalars Start c h = and_from (scalar c) true h refl
own_scalars End c h = and_from (scalar c) true h refl

run_scalars : (ps : List Place) → AllByRecursion IsScalarPlace ps → all_scalars (run_text ps) ≡ true
run_scalars [] all = refl
run_scalars (p ∷ ps) all = both_scalars (own p.role p.char) (run_text ps) (own_scalars p.role p.char all.0) (run_scalars ps all.1)

-- ---- keys of runs

abbrev HasTextKey : Token → Type 0
HasTextKey t = IsUtf8 t.key

all_both : (xs ys : List Token) → AllByRecursion HasTextKey xs → AllByRecursion HasTextKey ys → AllByRecursion HasTextKey (xs ++ ys)
all_both [] ys f g = g
all_both (x ∷ xs) ys f g = (f.0, all_both xs ys f.1 g)

module _ (r : Rules) (keys : (cs : List ℕ) → all_scalars cs ≡ true → IsUtf8 (r.key cs)) where
  keyed_text : (key : List ℕ) (start stop : ℕ) (after : List ℕ) → IsUtf8 key → AllByRecursion HasTextKey (keyed r key start stop after)
  keyed_text [] start stop after h = tt
  keyed_text (b ∷ bs) start stop after h = (h, tt)

  token_text : (role : Role) (text : List ℕ) (start stop : ℕ) (after : List ℕ) → all_scalars text ≡ true → AllByRecursion HasTextKey (token r role text start stop after)
  token_text Out text start stop after h = tt
  token_text Core text start stop after h = keyed_text (r.key text) start stop after (keys text h)
  token_text Number text start stop after h = keyed_text (r.key text) start stop after (keys text h)
  token_text Skip text start stop after h = keyed_text (r.key text) start stop after (keys text h)
  token_text Start text start stop after h = keyed_text (r.key text) start stop after (keys text h)
  token_text End text start stop after h = keyed_text (r.key text) start stop after (keys text h)

  tokens_text : (role : Role) (ps : List Place) → AllByRecursion IsScalarPlace ps → AllByRecursion HasTextKey (tokens_after r role ps)
  tokens_text role [] all = tt
  tokens_text role (p ∷ ps) all =
      let run : List Place = p ∷ uncut p.role ps in
      all_both _ (tokens_after r p.role ps)
      (either (is_cut role p.role) (token r p.role (run_text run) p.byte (stop_of 0 run) (after_of [] run))
      (token_text p.role (run_text run) p.byte (stop_of 0 run) (after_of [] run) (run_scalars run (all.0, uncut_scalars p.role ps all.1))))
      (tokens_text p.role ps all.1)
    where
      either : (b : Bool) (ts : List Token) → AllByRecursion HasTextKey ts → AllByRecursion HasTextKey (cond b ts [])
      either true ts h = h
      either false ts h = tt

-- ---- keys of words

-- a text of 1 to 255 bytes, where there is a key
abbrev pub IsWordKey : Option (List ℕ) → Type 0
IsWordKey None = Unit {0}
IsWordKey (Some key) = IsToken key × IsUtf8 key

abbrev pub HaveKeys : List DocWord → Type 0
HaveKeys ws = AllByRecursion (λ (w : DocWord). IsWordKey w.key) ws

keys_from : (stop : List (List ℕ)) (es : List Extent) (n : ℕ) (ts : List Token) → AllByRecursion (λ (t : Token). 0 < length t.key) ts → AllByRecursion (λ (t : Token). length t.key ≤ token_limit) ts → AllByRecursion HasTextKey ts
    → HaveKeys (doc_words (words_from stop es n ts))
keys_from stop es n [] some short text = tt
keys_from stop es n (t ∷ ts) some short text = (go (is_stop stop t.key) some.0 short.0, keys_from stop es (n + 1) ts some.1 short.1 text.1)
  where
    go : (b : Bool) → 0 < length t.key → length t.key ≤ token_limit → IsWordKey (cond b None (Some t.key))
    go true more few = tt
    go false more few = (record { some = omega (arith, more); short = few }, text.0)

pub word_keys : (p : Prefs) (text : List ℕ) → IsUtf8 text → HaveKeys (doc_words (document p (chars text)).words)
word_keys p text h =
    let cs = blanked p.group (chars text) in
    let r = rules p.lexer in
    let ts = tokens r cs in
    keys_from p.stop (extents (tags_in p.group (chars text)) (length (encode_utf8_all (chars text))) p.group.sections) 1 ts
    (recursion_from_All (λ (t : Token). 0 < length t.key) ts (some_keys r cs))
    (recursion_from_All (λ (t : Token). length t.key ≤ token_limit) ts (limit r token_limit (key_limit p.lexer.base_letter p.lexer.mixed_case) cs))
    (tokens_text r (λ word all. keys_are_utf8 p.lexer.base_letter p.lexer.mixed_case word all) Out (places r None 0 cs) (places_scalars r None 0 cs (blanked_scalars (group_tags p.group.sections) 0 0 (chars text) (scalars-chars text h))))
