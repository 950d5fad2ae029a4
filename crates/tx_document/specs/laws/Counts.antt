-- How many tokens, tags and instances a text has at most.
use Rattle.std.proofs.Common.{◌≡◌, ℕ, zero, suc, ◌+◌, ◌-◌, ◌*◌, ◌^◌, ◌<◌, ◌≤◌, Bool, true, false, cond, List, [], ◌∷◌, ◌++◌, length, Option, Some, None, refl, ap, arith}
use Rattle.std.specs.Prelude.{◌&&◌, not, nat_le, nat_lt, ◌==◌, option_to_list, flat_map, replicate}
use Rattle.std.specs.List.{insert}
use Rattle.std.specs.Ordering.{is_lt}
use Rattle.std.specs.Char.{len_utf8}
use Rattle.std.specs.Str.{chars, chars_after, continuation_len, lead_bits}
use Rattle.std.proofs.lemmas.Bool.{eqb-true, leb-true, leb-false}
use Rattle.std.proofs.lemmas.List.{length-append, length-replicate}
use Rattle.std.proofs.lemmas.List.Edits.{length-insert}
use Rattle.std.proofs.lemmas.Str.{len_utf8_bounds}
use Rattle.ct_base.specs.declared.numbers.Pair.{Pair}
use Rattle.tx_lexer.specs.declared.roles.Role.{Role}
use Rattle.tx_lexer.specs.declared.roles.Role.TheVariants.{Out, Core, Number, Skip, Start, End}
use Rattle.tx_lexer.specs.declared.tokens.Token.{Token}
use Rattle.tx_lexer.specs.Tokens.{Rules, Place, places, keyed, token, tokens_after, tokens, uncut, run_text, stop_of, after_of, is_cut}
use Rattle.tx_tags.specs.declared.groups.Section.{Section}
use Rattle.tx_tags.specs.declared.tags.TagView.{TagView}
use Rattle.tx_tags.specs.declared.pairing.Span.{Span}
use Rattle.tx_tags.specs.Groups.{SectionGroup, is_zone}
use Rattle.tx_tags.specs.Tags.{GroupTag, group_tags, tag_at, tags_from, tags_in, left_at, kept_or_blank, blanked_from, blanked}
use Rattle.tx_tags.specs.Pairs.{spans, spans_from, span, stop_at, closer}
use Rattle.tx_document.specs.declared.endings.Ending.{Ending}
use Rattle.tx_document.specs.declared.endings.Ending.TheVariants.{Sentence, Paragraph}
use Rattle.tx_document.specs.declared.views.SectionView.{SectionView}
use Rattle.tx_document.specs.Documents.{Extent, extents_from, extents, ends, runs_from, runs_if, instance, section_name, zone_instances, instance_of, reach_of, positions_in, instances, rising, has_instance, instance_place, section_cmp}

-- ---- characters and tokens

few_after : (n c : ℕ) (bs : List ℕ) → length (chars_after n c bs) ≤ length bs + 1
few_after zero c [] = omega arith
few_after zero c (b ∷ bs) = let rest = few_after (continuation_len b) (lead_bits b) bs in omega arith
few_after (suc n) c [] = omega arith
few_after (suc n) c (b ∷ bs) = let rest = few_after n (c * 64 + (b - 128)) bs in omega arith

-- a text has no more characters than bytes
pub few_chars : (bs : List ℕ) → length (chars bs) ≤ length bs
unfolding chars
few_chars [] = omega arith
few_chars (b ∷ bs) = let rest = few_after (continuation_len b) (lead_bits b) bs in omega arith

few_kept : (left c : ℕ) → length (kept_or_blank left c) ≤ 4
few_kept left c = go (left == 0) (len_utf8_bounds c).1
  where
    go : (b : Bool) → len_utf8 c ≤ 4 → length (cond b (c ∷ []) (replicate (len_utf8 c) 32)) ≤ 4
    go true le = omega arith
    go false le = omega (arith, length-replicate {A = ℕ} (len_utf8 c) 32, le)

few_blanked_from : (ts : List GroupTag) (place left : ℕ) (cs : List ℕ) → length (blanked_from ts place left cs) ≤ 4 * length cs
few_blanked_from ts place left [] = omega arith
few_blanked_from ts place left (c ∷ cs) =
    let now = left_at (tag_at ts place (c ∷ cs)) left in
    let here = few_kept now c in
    let rest = few_blanked_from ts (place + len_utf8 c) (now - 1) cs in
    simp length-append (omega (arith, here, rest))

few_keyed : (r : Rules) (key : List ℕ) (start stop : ℕ) (after : List ℕ) → length (keyed r key start stop after) ≤ 1
few_keyed r [] start stop after = omega arith
few_keyed r (b ∷ bs) start stop after = omega arith

few_token : (r : Rules) (role : Role) (text : List ℕ) (start stop : ℕ) (after : List ℕ) → length (token r role text start stop after) ≤ 1
few_token r Out text start stop after = omega arith
few_token r Core text start stop after = few_keyed r (r.key text) start stop after
few_token r Number text start stop after = few_keyed r (r.key text) start stop after
few_token r Skip text start stop after = few_keyed r (r.key text) start stop after
few_token r Start text start stop after = few_keyed r (r.key text) start stop after
few_token r End text start stop after = few_keyed r (r.key text) start stop after

few_where : (b : Bool) (ts : List Token) → length ts ≤ 1 → length (cond b ts []) ≤ 1
few_where true ts few = few
few_where false ts few = omega arith

few_tokens_after : (r : Rules) (role : Role) (ps : List Place) → length (tokens_after r role ps) ≤ length ps
few_tokens_after r role [] = omega arith
few_tokens_after r role (p ∷ ps) =
    let run = p ∷ uncut p.role ps in
    let here : List Token = token r p.role (run_text run) p.byte (stop_of 0 run) (after_of [] run) in
    let one = few_where (is_cut role p.role) here (few_token r p.role (run_text run) p.byte (stop_of 0 run) (after_of [] run)) in
    let rest = few_tokens_after r p.role ps in
    simp length-append (omega (arith, one, rest))

length-places : (r : Rules) (before : Option ℕ) (byte : ℕ) (cs : List ℕ) → length (places r before byte cs) ≡ length cs
length-places r before byte [] = refl
length-places r before byte (c ∷ cs) = ap suc (length-places r (Some c) (byte + len_utf8 c) cs)

-- a text without its tags has at most four tokens for each byte of it
pub few_tokens : (r : Rules) (g : SectionGroup) (text : List ℕ) → length (tokens r (blanked g (chars text))) ≤ 4 * length text
few_tokens r g text =
    let cs = blanked g (chars text) in
    let tokens = few_tokens_after r Out (places r None 0 cs) in
    let same = length-places r None 0 cs in
    let blank = few_blanked_from (group_tags g.sections) 0 0 (chars text) in
    let few = few_chars text in
    omega (arith, tokens, same, blank, few)

-- ---- tags and what they enclose

few_tags_from : (ts : List GroupTag) (place : ℕ) (cs : List ℕ) → length (tags_from ts place cs) ≤ length cs
few_tags_from ts place [] = omega arith
few_tags_from ts place (c ∷ cs) = go (tag_at ts place (c ∷ cs)) (few_tags_from ts (place + len_utf8 c) cs)
  where
    go : (o : Option TagView) → length (tags_from ts (place + len_utf8 c) cs) ≤ length cs → length (option_to_list o ++ tags_from ts (place + len_utf8 c) cs) ≤ length (c ∷ cs)
    go None rest = omega arith
    go (Some t) rest = omega arith

-- how many of these tags have this number or a greater one
abbrev above : ℕ → List TagView → ℕ
above k [] = 0
above k (t ∷ ts) = cond (nat_le k t.tag) (suc (above k ts)) (above k ts)

few_above : (k : ℕ) (ts : List TagView) → above k ts ≤ length ts
few_above k [] = omega arith
few_above k (t ∷ ts) = go (nat_le k t.tag) (few_above k ts)
  where
    go : (b : Bool) → above k ts ≤ length ts → cond b (suc (above k ts)) (above k ts) ≤ suc (length ts)
    go true rest = omega arith
    go false rest = omega arith

few_spans : (k end : ℕ) (ts : List TagView) → length (spans k end ts) + above (k + 1) ts ≤ above k ts
few_spans k end [] = omega arith
few_spans k end (t ∷ ts) =
    simp length-append (go (t.tag == k) (not t.closing) (nat_le (k + 1) t.tag) (nat_le k t.tag) refl refl refl (few_spans k end ts))
  where
    go : (a b c d : Bool) → (t.tag == k) ≡ a → nat_le (k + 1) t.tag ≡ c → nat_le k t.tag ≡ d → length (spans k end ts) + above (k + 1) ts ≤ above k ts
        → length (spans k end ts) + length (cond (a && b) (span t.end (stop_at end (closer k 0 0 ts)) ∷ []) []) + cond c (suc (above (k + 1) ts)) (above (k + 1) ts) ≤ cond d (suc (above k ts)) (above k ts)
    go true b true d is more least rest = absurd (omega (arith, eqb-true t.tag k is, leb-true (k + 1) t.tag more))
    go true b false false is more least rest = absurd (omega (arith, eqb-true t.tag k is, leb-false k t.tag least))
    go true true false true is more least rest = omega arith
    go true false false true is more least rest = omega arith
    go false b true true is more least rest = omega arith
    go false b true false is more least rest = absurd (omega (arith, leb-true (k + 1) t.tag more, leb-false k t.tag least))
    go false b false true is more least rest = omega arith
    go false b false false is more least rest = omega arith

few_spans_from : (tags : List TagView) (end k : ℕ) (names : List (List ℕ)) → length (spans_from tags end k names) + above (k + length names) tags ≤ above k tags
few_spans_from tags end k [] = let same : above (k + 0) tags ≡ above k tags = ap (λ (n : ℕ). above n tags) (omega arith) in omega (arith, same)
few_spans_from tags end k (name ∷ names) =
    let here = few_spans k end tags in
    let rest = few_spans_from tags end (k + 1) names in
    let same : above (k + suc (length names)) tags ≡ above (k + 1 + length names) tags = ap (λ (n : ℕ). above n tags) (omega arith) in
    simp length-append (omega (arith, here, rest, same))

-- how many spans there are in all
abbrev span_count : List Extent → ℕ
span_count [] = 0
span_count (e ∷ es) = length e.spans + span_count es

few_section_spans : (tags : List TagView) (end k : ℕ) (ss : List Section) → span_count (extents_from tags end k ss) ≤ above k tags
few_section_spans tags end k [] = omega arith
few_section_spans tags end k (s ∷ ss) =
    let here = few_spans_from tags end k s.tags in
    let rest = few_section_spans tags end (k + length s.tags) ss in
    omega (arith, here, rest)

-- ---- instances

few_instance : (section : List ℕ) (o : Option Pair) → length (instance_of section o) ≤ 1
few_instance section None = omega arith
few_instance section (Some r) = omega arith

few_each : (ts : List Token) (section : List ℕ) (ss : List Span) → length (flat_map (λ (span : Span). instance_of section (reach_of (positions_in span 1 ts))) ss) ≤ length ss
few_each ts section [] = omega arith
few_each ts section (s ∷ ss) =
    let here = few_instance section (reach_of (positions_in s 1 ts)) in
    let rest = few_each ts section ss in
    simp length-append (omega (arith, here, rest))

few_zone : (ts : List Token) (e : Extent) → length (zone_instances ts e) ≤ length e.spans
few_zone ts e = go (is_zone e.kind) (few_each ts e.section e.spans)
  where
    go : (b : Bool) → length (flat_map (λ (span : Span). instance_of e.section (reach_of (positions_in span 1 ts))) e.spans) ≤ length e.spans
        → length (cond b (flat_map (λ (span : Span). instance_of e.section (reach_of (positions_in span 1 ts))) e.spans) []) ≤ length e.spans
    go true few = few
    go false few = omega arith

few_zones : (ts : List Token) (es : List Extent) → length (flat_map (zone_instances ts) es) ≤ span_count es
few_zones ts [] = omega arith
few_zones ts (e ∷ es) = let here = few_zone ts e in let rest = few_zones ts es in simp length-append (omega (arith, here, rest))

few_runs : (ending : Ending) (first position : ℕ) (ts : List Token) → length (runs_from ending first position ts) ≤ length ts + 1
few_runs ending first position [] = go (nat_lt first position)
  where
    go : (b : Bool) → length (cond b (instance (section_name ending) first (position - 1) ∷ []) []) ≤ 1
    go true = omega arith
    go false = omega arith
few_runs ending first position (t ∷ ts) = go (ends ending t) (few_runs ending (position + 1) (position + 1) ts) (few_runs ending first (position + 1) ts)
  where
    go : (b : Bool) → length (runs_from ending (position + 1) (position + 1) ts) ≤ length ts + 1 → length (runs_from ending first (position + 1) ts) ≤ length ts + 1
        → length (cond b (instance (section_name ending) first position ∷ runs_from ending (position + 1) (position + 1) ts) (runs_from ending first (position + 1) ts)) ≤ suc (length ts) + 1
    go true last more = omega arith
    go false last more = omega arith

few_runs_if : (b : Bool) (ending : Ending) (ts : List Token) → length (runs_if b ending ts) ≤ length ts + 1
few_runs_if true ending ts = few_runs ending 1 1 ts
few_runs_if false ending ts = omega arith

place_within : (i : SectionView) (is : List SectionView) → instance_place i is ≤ length is
place_within i [] = omega arith
place_within i (j ∷ js) = go (is_lt (section_cmp j i)) (place_within i js)
  where
    go : (b : Bool) → instance_place i js ≤ length js → cond b (instance_place i js + 1) 0 ≤ suc (length js)
    go true rest = omega arith
    go false rest = omega arith

few_rising : (is : List SectionView) → length (rising is) ≤ length is
few_rising [] = omega arith
few_rising (i ∷ is) = go (has_instance i (rising is)) (few_rising is)
  where
    go : (b : Bool) → length (rising is) ≤ length is → length (cond b (rising is) (insert (rising is) (instance_place i (rising is)) i)) ≤ suc (length is)
    go true rest = omega arith
    go false rest = let more = length-insert (rising is) (instance_place i (rising is)) i (place_within i (rising is)) in omega (arith, more, rest)

-- how many instances a text has at most: each tag begins one span, and each token ends a sentence and a paragraph
pub instances_few : (r : Rules) (g : SectionGroup) (end : ℕ) (text : List ℕ)
    → length (rising (instances g (extents (tags_in g (chars text)) end g.sections) (tokens r (blanked g (chars text))))) ≤ 9 * length text + 2
instances_few r g end text =
    let es : List Extent = extents (tags_in g (chars text)) end g.sections in
    let ts = tokens r (blanked g (chars text)) in
    let all = few_rising (instances g es ts) in
    let zones = few_zones ts es in
    let found = few_section_spans (tags_in g (chars text)) end 0 g.sections in
    let numbered = few_above 0 (tags_in g (chars text)) in
    let tags = few_tags_from (group_tags g.sections) 0 (chars text) in
    let some = few_chars text in
    let words = few_tokens r g text in
    let sentences = few_runs_if g.sentence Sentence ts in
    let paragraphs = few_runs_if g.paragraph Paragraph ts in
    let parts : length (instances g es ts) ≡ length (flat_map (zone_instances ts) es) + (length (runs_if g.sentence Sentence ts) + length (runs_if g.paragraph Paragraph ts)) = simp length-append in
    omega (arith, all, zones, found, numbered, tags, some, words, sentences, paragraphs, parts)

-- a text of at most 2 ^ 24 bytes has fewer than 2 ^ 32 instances
pub few_instances : (r : Rules) (g : SectionGroup) (end : ℕ) (text : List ℕ) → length text ≤ 2 ^ 24
    → length (rising (instances g (extents (tags_in g (chars text)) end g.sections) (tokens r (blanked g (chars text))))) < 2 ^ 32
few_instances r g end text short = let few = instances_few r g end text in omega (arith, few, short)
