-- Each document keeps the rules of documents.
use Rattle.std.proofs.Common.{ℕ, ◌+◌, ◌<◌, ◌≤◌, List, [], ◌∷◌, length, map, sym, subst, arith}
use Rattle.std.specs.List.{AllByRecursion, list_all}
use Rattle.std.specs.Str.{encode_utf8_all}
use Rattle.std.proofs.lemmas.Bool.{and_parts}
use Rattle.std.proofs.lemmas.List.Elements.{recursion_from_All}
use Rattle.ct_base.specs.Limits.{stream_limit, token_limit}
use Rattle.ct_base.specs.Names.{is_kept}
use Rattle.tx_chars.specs.laws.KeyLimit.{limit as key_limit}
use Rattle.tx_lexer.specs.declared.tokens.Token.{Token}
use Rattle.tx_lexer.specs.Tokens.{AreInOrder, Rules, rules, tokens}
use Rattle.tx_lexer.specs.laws.TokenKeys.{some_keys, limit}
use Rattle.tx_tags.specs.declared.groups.Section.{Section}
use Rattle.tx_tags.specs.Groups.{is_group}
use Rattle.tx_tags.specs.Tags.{blanked, tags_in}
use Rattle.tx_document.specs.declared.views.WordView.{WordView}
use Rattle.tx_document.specs.Documents.{Extent, extents, instances, rising, words_from}
use Rattle.tx_document.specs.Fields.{fields}
use Rattle.tx_document.specs.Promises.{AreApart, DocumentsKeepRules, IsInstance, NumbersRise, StreamsRise}
use Rattle.tx_document.specs.laws.Streams.{Between, fields_of_sections}
use Rattle.tx_document.specs.laws.Found.{Streams, words_streams}
use Rattle.tx_document.specs.laws.Instances.{all_rising, extents_named, instances_are, rising_rises}
use Rattle.tx_document.specs.laws.Ordered.{few_fields, words_keys}
use Rattle.tx_document.specs.laws.Few.{words_are_tokens}

positions_rise : (stop : List (List ℕ)) (es : List Extent) (before n : ℕ) (ts : List Token) → before < n → NumbersRise before (map (λ (w : WordView). w.position) (words_from stop es n ts))
positions_rise stop es before n [] less = tt
positions_rise stop es before n (t ∷ ts) less = (less, positions_rise stop es n (n + 1) ts (omega arith))

words_apart : (stop : List (List ℕ)) (es : List Extent) (n least most : ℕ) (ts : List Token) → AreInOrder least most ts → AreApart least (words_from stop es n ts)
words_apart stop es n least most [] order = tt
words_apart stop es n least most (t ∷ ts) order = (order.0, order.1, words_apart stop es (n + 1) t.end most ts order.3)

streams_rise : (least most : ℕ) (ns : List ℕ) → most ≤ stream_limit → Between least (1 + most) ns → StreamsRise least ns
streams_rise least most [] few b = tt
streams_rise least most (n ∷ ns) few b = (b.0, omega (arith, b.1, few), streams_rise (n + 1) most ns few b.2)

all_streams_rise : (most : ℕ) (ws : List WordView) → most ≤ stream_limit → AllByRecursion (Streams (1 + most)) ws → AllByRecursion (λ (w : WordView). StreamsRise 0 w.streams) ws
all_streams_rise most [] few all = tt
all_streams_rise most (w ∷ ws) few all = (streams_rise 0 most w.streams few all.0, all_streams_rise most ws few all.1)

-- what the lexer promises of all tokens
abbrev pub TokensAreInOrder : Type 0
TokensAreInOrder = (r : Rules) (text : List ℕ) → AreInOrder 0 (length (encode_utf8_all text)) (tokens r text)

pub documents_keep_rules : TokensAreInOrder → DocumentsKeepRules
documents_keep_rules order p text named =
    let r = rules p.lexer in
    let cs = blanked p.group text in
    let tags = tags_in p.group text in
    let end = length (encode_utf8_all text) in
    let es = extents tags end p.group.sections in
    let ts = tokens r cs in
    let parts = and_parts (is_group p.group) (list_all (λ (s : Section). is_kept s.name) p.group.sections) named in
    let some = recursion_from_All (λ (t : Token). 0 < length t.key) ts (some_keys r cs) in
    let short = recursion_from_All (λ (t : Token). length t.key ≤ token_limit) ts (limit r token_limit (key_limit p.lexer.base_letter p.lexer.mixed_case) cs) in
    let few : fields es ≤ stream_limit = (let same = fields_of_sections tags end 0 p.group.sections in let le = few_fields p.group parts.0 in omega (arith, same, le)) in
    let are = all_rising (IsInstance (length ts)) (instances p.group es ts) (instances_are p.group es ts (extents_named tags end 0 p.group.sections parts.1)) in
    record {
      positions = positions_rise p.stop es 0 1 ts (omega arith);
      streams = all_streams_rise (fields es) (words_from p.stop es 1 ts) few (words_streams p.stop es 1 ts);
      keys = words_keys p.stop es 1 ts some short;
      places = words_apart p.stop es 1 0 (length (encode_utf8_all cs)) ts (order r cs);
      instances = subst (λ (n : ℕ). AllByRecursion (IsInstance n) (rising (instances p.group es ts))) (sym (words_are_tokens p.stop es 1 ts)) are;
      once = rising_rises (instances p.group es ts);
    }
