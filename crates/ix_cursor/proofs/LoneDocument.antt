-- The entries of a document as the one document of a store.
use Rattle.std.proofs.Common.{ℕ, ◌≡◌, ◌≤◌, ◌<◌, ◌^◌, ◌⊎◌, inl, inr, ◌||◌, eqb, bytes_eq, nat_lt, Bool, true, false, cond, List, [], ◌∷◌, ◌++◌, length, refl, sym, ap, subst, ◌∙◌, ◌-◌, arith, eqb-true, append_assoc, append-nil}
use Rattle.std.specs.List.{filter, flat_map}
use Rattle.std.proofs.lemmas.Bool.{and_parts, ltb-true, lt-ltb}
use Rattle.std.proofs.lemmas.Slice.Eq.{bytes_eq-Decides}
use Rattle.ct_base.specs.laws.Bools.{or_twice}
use Rattle.ct_base.specs.declared.numbers.Pair.{Pair}
use Rattle.ix_posting.specs.Forms.{PlacesRise, Rise, pair_form, no_pair}
use Rattle.ix_posting.specs.Rows.{WordDocument}
use Rattle.ix_spans.specs.Occurrences.{has_number}
use Rattle.ix_spans.specs.Rising.{Rising}
use Rattle.ix_spans.specs.laws.Rising.{one_list}
use Rattle.tx_document.specs.declared.entries.Entry.{Entry}
use Rattle.q_tree.specs.declared.flats.Slot.{Slot}
use Rattle.q_tree.specs.Documents.{DocEntry, put_all, firsts, fits_entry, entry_positions, is_stored_section, stream_of_sections, entry_pairs}
use Rattle.q_tree.specs.laws.Postings.{has_put_all, put_all_rises, entry_positions_rise}
use Rattle.ix_lists.specs.Documents.{places_at}
use Rattle.ix_cursor.specs.Unions.{union_at}
use Rattle.ix_cursor.specs.Alone.{IsDocumentEntry, has_entry, doc_entry, doc_entries, of_document_1, rising_firsts}

-- ---- what a loop eats

module _ {X : Type 0} where
  pub none_left : (xs : List X) → length xs < 1 → xs ≡ []
  none_left [] few = refl
  none_left (x ∷ xs) few = absurd (omega (arith, few))

-- ---- where pairs begin

firsts_rise : (q : Pair) (before : ℕ) (ps : List Pair) → PlacesRise pair_form q ps → Rise before (rising_firsts before ps)
firsts_rise q before [] rise = tt
firsts_rise q before (p ∷ ps) rise = go (nat_lt before p.first) refl (firsts_rise p p.first ps rise.2) (firsts_rise p before ps rise.2)
  where
    go : (b : Bool) → nat_lt before p.first ≡ b → Rise p.first (rising_firsts p.first ps) → Rise before (rising_firsts before ps) → Rise before (cond b (p.first ∷ rising_firsts p.first ps) (rising_firsts before ps))
    go true is behind other =
        let place = rise.1 in
        let last = place.1 in
        let low = place.2 in
        (ltb-true before p.first is, omega (arith, last, low), behind)
    go false is behind other = other

few_firsts : (before : ℕ) (ps : List Pair) → length (rising_firsts before ps) ≤ length ps
few_firsts before [] = omega arith
few_firsts before (p ∷ ps) = go (nat_lt before p.first) (few_firsts p.first ps) (few_firsts before ps)
  where
    go : (b : Bool) → length (rising_firsts p.first ps) ≤ length ps → length (rising_firsts before ps) ≤ length ps → length (cond b (p.first ∷ rising_firsts p.first ps) (rising_firsts before ps)) ≤ length (p ∷ ps)
    go true one other = omega (arith, one)
    go false one other = omega (arith, other)

-- behind a pair, none is left out that isn't its first
same_members : (q : Pair) (ps : List Pair) → PlacesRise pair_form q ps → (n : ℕ) → has_number (q.first ∷ rising_firsts q.first ps) n ≡ has_number (q.first ∷ firsts ps) n
same_members q [] rise n = refl
same_members q (p ∷ ps) rise n = go (nat_lt q.first p.first) refl (same_members p ps rise.2 n)
  where
    one_first : nat_lt q.first p.first ≡ false → (q.first < p.first) ⊎ ((q.first ≡ p.first) × (q.last < p.last)) → q.first ≡ p.first
    one_first is (inl less) = let wrong : true ≡ false = sym (lt-ltb q.first p.first less) ∙ is in absurd (cc)
    one_first is (inr same) = same.0

    go : (b : Bool) → nat_lt q.first p.first ≡ b → has_number (p.first ∷ rising_firsts p.first ps) n ≡ has_number (p.first ∷ firsts ps) n
        → has_number (q.first ∷ cond b (p.first ∷ rising_firsts p.first ps) (rising_firsts q.first ps)) n ≡ has_number (q.first ∷ p.first ∷ firsts ps) n
    go true is behind = ap (λ (b : Bool). eqb q.first n || b) behind
    go false is behind =
        let same = one_first is rise.0 in
        ap (λ (k : ℕ). has_number (k ∷ rising_firsts k ps) n) same
        ∙ behind
        ∙ or_twice (eqb p.first n) (has_number (firsts ps) n)
        ∙ ap (λ (k : ℕ). eqb k n || (eqb p.first n || has_number (firsts ps) n)) (sym same)

all_members : (ps : List Pair) → PlacesRise pair_form no_pair ps → (n : ℕ) → has_number (rising_firsts 0 ps) n ≡ has_number (firsts ps) n
all_members [] rise n = refl
all_members (p ∷ ps) rise n =
    let some = rise.1.0 in
    ap (λ (b : Bool). has_number (cond b (p.first ∷ rising_firsts p.first ps) (rising_firsts 0 ps)) n) (lt-ltb 0 p.first (omega (arith, some)))
    ∙ same_members p ps rise.2 n

pub firsts_put : (ps : List Pair) (qs : List ℕ) → PlacesRise pair_form no_pair ps → Rising qs → put_all (rising_firsts 0 ps) qs ≡ put_all (firsts ps) qs
firsts_put ps qs rise up =
    one_list (put_all (rising_firsts 0 ps) qs) (put_all (firsts ps) qs) (put_all_rises (rising_firsts 0 ps) qs up) (put_all_rises (firsts ps) qs up) (λ n.
    has_put_all (rising_firsts 0 ps) qs n
    ∙ ap (λ (b : Bool). b || has_number qs n) (all_members ps rise n)
    ∙ sym (has_put_all (firsts ps) qs n))

some_firsts : (ps : List Pair) → 1 ≤ length ps → PlacesRise pair_form no_pair ps → 1 ≤ length (rising_firsts 0 ps)
some_firsts [] some rise = absurd (omega (arith, some))
some_firsts (p ∷ ps) some rise =
    let above = rise.1.0 in
    subst (λ (b : Bool). 1 ≤ length (cond b (p.first ∷ rising_firsts p.first ps) (rising_firsts 0 ps))) (sym (lt-ltb 0 p.first (omega (arith, above)))) (omega arith)

-- the places of a token may stand in a row
pub record ArePositions (ps : List ℕ) : Type 0 where
  pub some : 1 ≤ length ps
  pub few : length ps < 2 ^ 32
  pub rise : Rise 0 ps

pub positions_of_entry : (e : Entry) → IsDocumentEntry e → ArePositions (rising_firsts 0 e.places)
positions_of_entry e is =
    let less = few_firsts 0 e.places in
    let few = is.few in
    record { some = some_firsts e.places is.some is.rise; few = omega (arith, less, few); rise = firsts_rise no_pair 0 e.places is.rise }

-- ---- the tokens of a slot

-- The tokens were taken of all entries but those that are left.
abbrev pub TokensSoFar : ℕ → Slot → List Entry → List Entry → List (List WordDocument) → Type 0
TokensSoFar stream slot all rest tokens =
    (d : ℕ) (later : List (List WordDocument)) → union_at later d ≡ of_document_1 d (entry_positions stream slot (doc_entries rest)) → union_at (tokens ++ later) d ≡ of_document_1 d (entry_positions stream slot (doc_entries all))

module _ (stream : ℕ) (slot : Slot) (all : List Entry) where
  pub tokens_begin : (rest : List Entry) (tokens : List (List WordDocument)) → rest ≡ all → tokens ≡ [] → TokensSoFar stream slot all rest tokens
  tokens_begin rest tokens whole none d later is =
      ap (λ (ts : List (List WordDocument)). union_at (ts ++ later) d) none ∙ is ∙ ap (λ (es : List Entry). of_document_1 d (entry_positions stream slot (doc_entries es))) whole

  -- what stands in the document by an entry and those behind it
  token_first : (e : Entry) (more : List Entry) (d : ℕ) (later : List (List WordDocument)) → IsDocumentEntry e → fits_entry stream slot (doc_entry e) ≡ true → union_at later d ≡ of_document_1 d (entry_positions stream slot (doc_entries more))
      → union_at ((record { document = 1; places = rising_firsts 0 e.places } ∷ []) ∷ later) d ≡ of_document_1 d (entry_positions stream slot (doc_entries (e ∷ more)))
  token_first e more d later is fits behind =
      ap (put_all (cond (eqb 1 d) (rising_firsts 0 e.places) [])) behind
      ∙ go (eqb 1 d)
      ∙ ap (λ (b : Bool). of_document_1 d (cond b (put_all (firsts e.places) (entry_positions stream slot (doc_entries more))) (entry_positions stream slot (doc_entries more)))) (sym fits)
    where
      go : (b : Bool) → put_all (cond b (rising_firsts 0 e.places) []) (cond b (entry_positions stream slot (doc_entries more)) []) ≡ cond b (put_all (firsts e.places) (entry_positions stream slot (doc_entries more))) []
      go true = firsts_put e.places (entry_positions stream slot (doc_entries more)) is.rise (entry_positions_rise stream slot (doc_entries more))
      go false = refl

  pub tokens_put : (e : Entry) (rest more : List Entry) (tokens next : List (List WordDocument)) (token : List WordDocument) → rest ≡ e ∷ more → IsDocumentEntry e → fits_entry stream slot (doc_entry e) ≡ true
      → token ≡ record { document = 1; places = rising_firsts 0 e.places } ∷ [] → next ≡ tokens ++ token ∷ [] → TokensSoFar stream slot all rest tokens → TokensSoFar stream slot all more next
  tokens_put e rest more tokens next token whole is fits its grown far d later behind =
      ap (λ (ts : List (List WordDocument)). union_at (ts ++ later) d) grown
      ∙ ap (λ (ts : List (List WordDocument)). union_at ts d) (append_assoc tokens (token ∷ []) later)
      ∙ far d (token ∷ later) (
      ap (λ (t : List WordDocument). union_at (t ∷ later) d) its
      ∙ token_first e more d later is fits behind
      ∙ ap (λ (es : List Entry). of_document_1 d (entry_positions stream slot (doc_entries es))) (sym whole))

  pub tokens_passed : (e : Entry) (rest more : List Entry) (tokens : List (List WordDocument)) → rest ≡ e ∷ more → fits_entry stream slot (doc_entry e) ≡ false → TokensSoFar stream slot all rest tokens → TokensSoFar stream slot all more tokens
  tokens_passed e rest more tokens whole not far d later behind =
      far d later (
      behind
      ∙ ap (λ (b : Bool). of_document_1 d (cond b (put_all (firsts e.places) (entry_positions stream slot (doc_entries more))) (entry_positions stream slot (doc_entries more)))) (sym not)
      ∙ ap (λ (es : List Entry). of_document_1 d (entry_positions stream slot (doc_entries es))) (sym whole))

  pub tokens_end : (rest : List Entry) (tokens : List (List WordDocument)) → rest ≡ [] → TokensSoFar stream slot all rest tokens → (d : ℕ) → union_at tokens d ≡ of_document_1 d (entry_positions stream slot (doc_entries all))
  tokens_end rest tokens none far d =
      ap (λ (ts : List (List WordDocument)). union_at ts d) (sym (append-nil tokens))
      ∙ far d [] (go (eqb 1 d) ∙ ap (λ (es : List Entry). of_document_1 d (entry_positions stream slot (doc_entries es))) (sym none))
    where
      go : (b : Bool) → ◌≡◌ {A = List ℕ} [] (cond b [] [])
      go true = refl
      go false = refl

-- ---- a section

-- an entry that isn't there has no pairs
none_there : (name : List ℕ) (es : List Entry) → has_entry stream_of_sections name es ≡ false → entry_pairs name (doc_entries es) ≡ []
none_there name [] none = refl
none_there name (e ∷ es) none = go (is_stored_section name (doc_entry e)) none (none_there name es)
  where
    go : (b : Bool) → (b || has_entry stream_of_sections name es) ≡ false → (has_entry stream_of_sections name es ≡ false → entry_pairs name (doc_entries es) ≡ [])
        → flat_map (λ (x : DocEntry). x.places) (cond b (doc_entry e ∷ filter (is_stored_section name) (doc_entries es)) (filter (is_stored_section name) (doc_entries es))) ≡ []
    go true h rest = let wrong : true ≡ false = h in cc
    go false h rest = rest h

section_there : (name : List ℕ) (e : Entry) (more : List Entry) → is_stored_section name (doc_entry e) ≡ true → has_entry e.stream e.token more ≡ false → entry_pairs name (doc_entries (e ∷ more)) ≡ e.places
section_there name e more is alone =
    let parts = and_parts (eqb e.stream stream_of_sections) (bytes_eq e.token name) is in
    let stream = eqb-true e.stream stream_of_sections parts.0 in
    let token = (bytes_eq-Decides e.token name).0 parts.1 in
    let none : has_entry stream_of_sections name more ≡ false = subst (λ (s : ℕ). has_entry s name more ≡ false) stream (subst (λ (t : List ℕ). has_entry e.stream t more ≡ false) token alone) in
    ap (λ (b : Bool). flat_map (λ (x : DocEntry). x.places) (cond b (doc_entry e ∷ filter (is_stored_section name) (doc_entries more)) (filter (is_stored_section name) (doc_entries more)))) is
    ∙ ap (λ (ps : List Pair). e.places ++ ps) (none_there name more none)
    ∙ append-nil e.places

pub section_found : (name : List ℕ) (e : Entry) (rest more all : List Entry) (d : ℕ) → rest ≡ e ∷ more → entry_pairs name (doc_entries rest) ≡ entry_pairs name (doc_entries all) → is_stored_section name (doc_entry e) ≡ true
    → has_entry e.stream e.token more ≡ false → places_at (record { document = 1; places = e.places } ∷ []) d ≡ of_document_1 d (entry_pairs name (doc_entries all))
section_found name e rest more all d whole same is alone =
    ap (of_document_1 d) (sym (section_there name e more is alone) ∙ sym (ap (λ (es : List Entry). entry_pairs name (doc_entries es)) whole) ∙ same)

pub section_passed : (name : List ℕ) (e : Entry) (rest more all : List Entry) → rest ≡ e ∷ more → entry_pairs name (doc_entries rest) ≡ entry_pairs name (doc_entries all) → is_stored_section name (doc_entry e) ≡ false
    → entry_pairs name (doc_entries more) ≡ entry_pairs name (doc_entries all)
section_passed name e rest more all whole same not =
    sym (ap (λ (b : Bool). flat_map (λ (x : DocEntry). x.places) (cond b (doc_entry e ∷ filter (is_stored_section name) (doc_entries more)) (filter (is_stored_section name) (doc_entries more)))) not)
    ∙ sym (ap (λ (es : List Entry). entry_pairs name (doc_entries es)) whole)
    ∙ same

pub no_section : (name : List ℕ) (rest all : List Entry) (d : ℕ) → rest ≡ [] → entry_pairs name (doc_entries rest) ≡ entry_pairs name (doc_entries all) → [] ≡ of_document_1 d (entry_pairs name (doc_entries all))
no_section name rest all d none same = go (eqb 1 d) ∙ ap (of_document_1 d) (sym (ap (λ (es : List Entry). entry_pairs name (doc_entries es)) none) ∙ same)
  where
    go : (b : Bool) → ◌≡◌ {A = List Pair} [] (cond b [] [])
    go true = refl
    go false = refl
