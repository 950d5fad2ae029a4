-- What stands under each name of a document's places.
use Rattle.std.proofs.Common.{◌≡◌, ℕ, ◌+◌, ◌<◌, ◌≤◌, Bool, true, false, cond, List, [], ◌∷◌, ◌++◌, length, map, Option, Some, None, refl, sym, ap, ◌∙◌, arith}
use Rattle.std.specs.Prelude.{◌&&◌, ◌||◌, ◌==◌, bytes_eq}
use Rattle.std.specs.List.{AllByRecursion, flat_map, list_any}
use Rattle.std.specs.Str.{chars, encode_utf8_all}
use Rattle.std.specs.Ordering.{nat_cmp}
use Rattle.std.specs.Cmp.Lexicographic.{slice_cmp}
use Rattle.std.specs.FinMap.{get, find, get-from_entries}
use Rattle.std.proofs.lemmas.Bool.{eqb-true}
use Rattle.std.proofs.lemmas.Cmp.{nat_list_cmp_total}
use Rattle.std.proofs.lemmas.Map.Text.{is_eq-slice_cmp}
use Rattle.std.proofs.lemmas.Slice.Eq.{bytes_eq-Decides}
use Rattle.ct_base.specs.declared.numbers.Pair.{Pair}
use Rattle.ct_base.specs.Limits.{stream_limit}
use Rattle.tx_lexer.specs.declared.tokens.Token.{Token}
use Rattle.tx_lexer.specs.Tokens.{tokens, rules}
use Rattle.tx_tags.specs.Tags.{tags_in, blanked}
use Rattle.tx_document.specs.declared.views.WordView.{WordView}
use Rattle.tx_document.specs.declared.views.SectionView.{SectionView}
use Rattle.tx_document.specs.Documents.{Extent, document, extents, pair, words_from}
use Rattle.tx_document.specs.Entries.{DocumentPlace, places_of, places_under, place_map, positions_of, section_stream, section_place, word_places, is_at}
use Rattle.tx_document.specs.Promises.{if_any, as_pairs, PlacesAreFound, PlacesArePositions}
use Rattle.tx_document.specs.Fields.{fields}
use Rattle.tx_document.specs.laws.Streams.{Between, streams_between}

-- ---- each name has what a scan finds

-- this, where there is a place
abbrev where_any : List Pair → Option (List Pair) → Option (List Pair)
where_any [] o = None
where_any (p ∷ ps) o = o

any_places : (ps : List Pair) → where_any ps (Some ps) ≡ if_any ps
any_places [] = refl
any_places (p ∷ ps) = refl

-- of places, each with what f gives its name, those of a name stand where it has some
find_place : (f : List ℕ → List Pair) (name : List ℕ) (xs : List DocumentPlace)
    → find (slice_cmp nat_cmp) name (map {B = List ℕ × List Pair} (λ x. (x.0, f x.0)) xs) ≡ where_any (places_under name xs) (Some (f name))
find_place f name [] = refl
find_place f name (x ∷ xs) =
    ap (λ (b : Bool). cond b (Some (f x.0)) (find (slice_cmp nat_cmp) name (map {B = List ℕ × List Pair} (λ y. (y.0, f y.0)) xs))) (is_eq-slice_cmp name x.0)
    ∙ here (bytes_eq name x.0) refl (find_place f name xs)
  where
    here : (b : Bool) → bytes_eq name x.0 ≡ b
        → find (slice_cmp nat_cmp) name (map {B = List ℕ × List Pair} (λ y. (y.0, f y.0)) xs) ≡ where_any (places_under name xs) (Some (f name))
        → cond b (Some (f x.0)) (find (slice_cmp nat_cmp) name (map {B = List ℕ × List Pair} (λ y. (y.0, f y.0)) xs)) ≡ where_any (cond b (x.1 ∷ places_under name xs) (places_under name xs)) (Some (f name))
    here true is rest = ap (λ (k : List ℕ). Some (f k)) (sym ((bytes_eq-Decides name x.0).0 is))
    here false is rest = rest

pub get-place_map : (xs : List DocumentPlace) (name : List ℕ) → get (place_map xs) name ≡ if_any (places_under name xs)
get-place_map xs name =
    get-from_entries nat_list_cmp_total (map {B = List ℕ × List Pair} (λ x. (x.0, places_under x.0 xs)) xs) name
    ∙ find_place (λ n. places_under n xs) name xs
    ∙ any_places (places_under name xs)

pub places_are_found : PlacesAreFound
places_are_found p text name = get-place_map (places_of (document p (chars text))) name

-- ---- the places of words

pub places_under-append : (name : List ℕ) (xs ys : List DocumentPlace) → places_under name (xs ++ ys) ≡ places_under name xs ++ places_under name ys
places_under-append name [] ys = refl
places_under-append name (x ∷ xs) ys = go (bytes_eq name x.0) (places_under-append name xs ys)
  where
    go : (b : Bool) → places_under name (xs ++ ys) ≡ places_under name xs ++ places_under name ys
        → cond b (x.1 ∷ places_under name (xs ++ ys)) (places_under name (xs ++ ys)) ≡ cond b (x.1 ∷ places_under name xs) (places_under name xs) ++ places_under name ys
    go true rest = ap (λ (l : List Pair). x.1 ∷ l) rest
    go false rest = rest

-- no section stands under a key
no_section : (stream : ℕ) (key : List ℕ) (ss : List SectionView) → stream ≤ stream_limit → places_under (stream ∷ key) (map section_place ss) ≡ []
no_section stream key [] le = refl
no_section stream key (s ∷ ss) le = go (stream == section_stream) refl (no_section stream key ss le)
  where
    go : (b : Bool) → (stream == section_stream) ≡ b → places_under (stream ∷ key) (map section_place ss) ≡ []
        → cond (b && bytes_eq key s.section) (pair s.first s.last ∷ places_under (stream ∷ key) (map section_place ss)) (places_under (stream ∷ key) (map section_place ss)) ≡ []
    go true is rest = absurd (omega (arith, eqb-true stream section_stream is))
    go false is rest = rest

-- a place, or none
abbrev one_if : Bool → Pair → List Pair
one_if b p = cond b (p ∷ []) []

none_above : (stream least most : ℕ) (ns : List ℕ) → stream < least → Between least most ns → list_any (λ s. stream == s) ns ≡ false
none_above stream least most [] less b = refl
none_above stream least most (n ∷ ns) less b = go (stream == n) refl (none_above stream (n + 1) most ns (omega (arith, b.0)) b.2)
  where
    go : (t : Bool) → (stream == n) ≡ t → list_any (λ s. stream == s) ns ≡ false → (t || list_any (λ s. stream == s) ns) ≡ false
    go true is rest = absurd (omega (arith, eqb-true stream n is, b.0))
    go false is rest = rest

-- streams that rise have a key in a stream once at most
once : (stream : ℕ) (key k : List ℕ) (p : Pair) (least most : ℕ) (ns : List ℕ) → Between least most ns
    → places_under (stream ∷ key) (map {B = DocumentPlace} (λ s. (s ∷ k, p)) ns) ≡ one_if (bytes_eq key k && list_any (λ s. stream == s) ns) p
once stream key k p least most [] b = nothing (bytes_eq key k)
  where
    nothing : (t : Bool) → [] ≡ one_if (t && false) p
    nothing true = refl
    nothing false = refl
once stream key k p least most (n ∷ ns) b = go (stream == n) (bytes_eq key k) refl refl (once stream key k p (n + 1) most ns b.2)
  where
    go : (t u : Bool) → (stream == n) ≡ t → bytes_eq key k ≡ u → places_under (stream ∷ key) (map {B = DocumentPlace} (λ s. (s ∷ k, p)) ns) ≡ one_if (bytes_eq key k && list_any (λ s. stream == s) ns) p
        → cond (t && u) (p ∷ places_under (stream ∷ key) (map {B = DocumentPlace} (λ s. (s ∷ k, p)) ns)) (places_under (stream ∷ key) (map {B = DocumentPlace} (λ s. (s ∷ k, p)) ns)) ≡ one_if (u && (t || list_any (λ s. stream == s) ns)) p
    go true true is same rest =
        let above : stream < n + 1 = omega (arith, eqb-true stream n is) in
        ap (λ (l : List Pair). p ∷ l) (rest ∙ ap (λ (v : Bool). one_if (bytes_eq key k && v) p) (none_above stream (n + 1) most ns above b.2) ∙ ap (λ (v : Bool). one_if (v && false) p) same)
    go true false is same rest = rest ∙ ap (λ (v : Bool). one_if (v && list_any (λ s. stream == s) ns) p) same
    go false u is same rest = rest ∙ ap (λ (v : Bool). one_if (v && list_any (λ s. stream == s) ns) p) same

abbrev word_with : ℕ → Option (List ℕ) → List ℕ → ℕ → ℕ → WordView
word_with position key streams start end = record { position = position; key = key; streams = streams; start = start; end = end }

word_once : (stream : ℕ) (name : List ℕ) (position : ℕ) (key : Option (List ℕ)) (streams : List ℕ) (start end least most : ℕ) → Between least most streams
    → places_under (stream ∷ name) (word_places (word_with position key streams start end)) ≡ one_if (is_at stream name (word_with position key streams start end)) (pair position position)
word_once stream name position None streams start end least most b = refl
word_once stream name position (Some k) streams start end least most b = once stream name k (pair position position) least most streams b

-- the streams of words, which rise
abbrev pub Streams : ℕ → WordView → Type 0
Streams most w = Between 0 most w.streams

pub words_streams : (stop : List (List ℕ)) (es : List Extent) (n : ℕ) (ts : List Token) → AllByRecursion (Streams (1 + fields es)) (words_from stop es n ts)
words_streams stop es n [] = tt
words_streams stop es n (t ∷ ts) = (streams_between t es, words_streams stop es (n + 1) ts)

words_places : (stream : ℕ) (key : List ℕ) (most : ℕ) (ws : List WordView) → AllByRecursion (Streams most) ws → places_under (stream ∷ key) (flat_map word_places ws) ≡ as_pairs (positions_of stream key ws)
words_places stream key most [] all = refl
words_places stream key most (w ∷ ws) all =
    places_under-append (stream ∷ key) (word_places w) (flat_map word_places ws)
    ∙ ap (λ (l : List Pair). l ++ places_under (stream ∷ key) (flat_map word_places ws)) (word_once stream key w.position w.key w.streams w.start w.end 0 most all.0)
    ∙ go (is_at stream key w) (words_places stream key most ws all.1)
  where
    go : (b : Bool) → places_under (stream ∷ key) (flat_map word_places ws) ≡ as_pairs (positions_of stream key ws)
        → one_if b (pair w.position w.position) ++ places_under (stream ∷ key) (flat_map word_places ws) ≡ as_pairs (cond b (w.position ∷ positions_of stream key ws) (positions_of stream key ws))
    go true rest = ap (λ (l : List Pair). pair w.position w.position ∷ l) rest
    go false rest = rest

-- the places of a key, among words whose streams rise
pub key_places : (stream : ℕ) (key : List ℕ) (most : ℕ) (ws : List WordView) (ss : List SectionView) → stream ≤ stream_limit → AllByRecursion (Streams most) ws
    → places_under (stream ∷ key) (flat_map word_places ws ++ map section_place ss) ≡ as_pairs (positions_of stream key ws)
key_places stream key most ws ss le all =
    places_under-append (stream ∷ key) (flat_map word_places ws) (map section_place ss)
    ∙ ap (λ (l : List Pair). places_under (stream ∷ key) (flat_map word_places ws) ++ l) (no_section stream key ss le)
    ∙ append-none (places_under (stream ∷ key) (flat_map word_places ws))
    ∙ words_places stream key most ws all
  where
    append-none : (l : List Pair) → l ++ [] ≡ l
    append-none [] = refl
    append-none (p ∷ l) = ap (λ (r : List Pair). p ∷ r) (append-none l)

pub places_are_positions : PlacesArePositions
places_are_positions p text stream key le =
    let d = document p (chars text) in
    key_places stream key _ d.words d.sections le (words_streams p.stop (extents (tags_in p.group (chars text)) (length (encode_utf8_all (chars text))) p.group.sections) 1 (tokens (rules p.lexer) (blanked p.group (chars text))))
