-- Pages hold one map at most.
use Rattle.std.specs.Prelude.{map}
use Rattle.std.proofs.Common.{◌≡◌, ℕ, ◌-◌, ◌^◌, ◌≤◌, ◌<◌, List, [], ◌∷◌, ◌++◌, length, take, drop, get_or, Option, Some, None, refl, sym, ap, subst, ◌∙◌, arith}
use Rattle.std.proofs.lemmas.List.{take_at, drop_at}
use Rattle.std.proofs.lemmas.Nat.{from_be_bytes-to_be_bytes_2, from_be_bytes-to_be_bytes_4}
use Rattle.std.specs.Int.{to_be_bytes, from_be_bytes, w16, w32}
use Rattle.std.specs.FinMap.{get}
use Rattle.ct_keep.specs.Content.{Content}
use Rattle.ct_keep.specs.laws.Content.{same_content}
use Rattle.ct_base.specs.Zeros.{zeros}
use Rattle.pg_page.specs.laws.Reading.{one_page}
use Rattle.pg_map.specs.Kinds.{Each, Kind, Free, Slotted, Long, bytes_of_kind, IsKind, StringItem, Short, Far, item_bytes, IsStringItem, Entry}
use Rattle.pg_map.specs.Holding.{kind_of_page, IsChain, Placed, StandsFor, AreEntries, IsLayout, Holds}

-- ---- kinds

first_byte : List ℕ → ℕ
first_byte l = get_or l 0 0

long_next : (next : ℕ) (bytes : List ℕ) → next < 2 ^ 32 → from_be_bytes w32 (take 4 (drop 1 (bytes_of_kind (Long next bytes)))) ≡ next
unfolding bytes_of_kind
long_next next bytes small = from_be_bytes-to_be_bytes_4 next small

long_count : (next : ℕ) (bytes : List ℕ) → length bytes ≤ 4088 → from_be_bytes w16 (take 2 (drop 5 (bytes_of_kind (Long next bytes)))) ≡ length bytes
unfolding bytes_of_kind
long_count next bytes most = from_be_bytes-to_be_bytes_2 (length bytes) (omega (arith, most))

pub long_bytes : (next : ℕ) (bytes : List ℕ) → take (length bytes) (drop 8 (bytes_of_kind (Long next bytes))) ≡ bytes
unfolding bytes_of_kind
long_bytes next bytes = take_at bytes (zeros (4088 - length bytes)) (length bytes) refl

one_long : (n1 n2 : ℕ) (b1 b2 : List ℕ) → IsKind (Long n1 b1) → IsKind (Long n2 b2) → bytes_of_kind (Long n1 b1) ≡ bytes_of_kind (Long n2 b2) → Long n1 b1 ≡ Long n2 b2
one_long n1 n2 b1 b2 k1 k2 is =
    let next : n1 ≡ n2 = sym (long_next n1 b1 k1.0) ∙ ap (λ (l : List ℕ). from_be_bytes w32 (take 4 (drop 1 l))) is ∙ long_next n2 b2 k2.0 in
    let count : length b1 ≡ length b2 = sym (long_count n1 b1 k1.2) ∙ ap (λ (l : List ℕ). from_be_bytes w16 (take 2 (drop 5 l))) is ∙ long_count n2 b2 k2.2 in
    let bytes : b1 ≡ b2 = sym (long_bytes n1 b1) ∙ ap (λ (l : List ℕ). take (length b1) (drop 8 l)) is ∙ ap (λ (n : ℕ). take n (drop 8 (bytes_of_kind (Long n2 b2)))) count ∙ long_bytes n2 b2 in
    ap (λ (n : ℕ). Long n b1) next ∙ ap (Long n2) bytes

pub one_kind : (k l : Kind) → IsKind k → IsKind l → bytes_of_kind k ≡ bytes_of_kind l → k ≡ l
unfolding bytes_of_kind first_byte
one_kind Free Free a b is = refl
one_kind Free (Slotted ss) a b is = let e : 0 ≡ 1 = ap first_byte is in absurd (omega (arith, e))
one_kind Free (Long n bytes) a b is = let e : 0 ≡ 2 = ap first_byte is in absurd (omega (arith, e))
one_kind (Slotted ss) Free a b is = let e : 1 ≡ 0 = ap first_byte is in absurd (omega (arith, e))
one_kind (Slotted ss) (Slotted us) a b is = ap Slotted (one_page ss us a b is)
one_kind (Slotted ss) (Long n bytes) a b is = let e : 1 ≡ 2 = ap first_byte is in absurd (omega (arith, e))
one_kind (Long n bytes) Free a b is = let e : 2 ≡ 0 = ap first_byte is in absurd (omega (arith, e))
one_kind (Long n bytes) (Slotted ss) a b is = let e : 2 ≡ 1 = ap first_byte is in absurd (omega (arith, e))
one_kind (Long n1 b1) (Long n2 b2) a b is = one_long n1 n2 b1 b2 a b is

head_of : {X : Type 0} → X → List X → X
head_of d [] = d
head_of d (x ∷ xs) = x

tail_of : {X : Type 0} → List X → List X
tail_of [] = []
tail_of (x ∷ xs) = xs

pub one_list : {X Y : Type 0} (f : X → Y) (P : X → Type 0) (d : Y) → ((x y : X) → P x → P y → f x ≡ f y → x ≡ y) → (xs ys : List X) → Each P xs → Each P ys → map f xs ≡ map f ys → xs ≡ ys
unfolding head_of tail_of
one_list f P d one [] [] a b is = refl
one_list f P d one [] (y ∷ ys) a b is = absurd (cc is)
one_list f P d one (x ∷ xs) [] a b is = absurd (cc is)
one_list f P d one (x ∷ xs) (y ∷ ys) a b is =
    ap (λ z. z ∷ xs) (one x y a.0 b.0 (ap (head_of d) is)) ∙ ap (λ zs. y ∷ zs) (one_list f P d one xs ys a.1 b.1 (ap tail_of is))

-- ---- items

key_count : (a : ℕ) (key r : List ℕ) → length key < 2 ^ 16 → from_be_bytes w16 (take 2 (drop 1 (a ∷ (to_be_bytes w16 (length key) ++ (key ++ r))))) ≡ length key
key_count a key r small = from_be_bytes-to_be_bytes_2 (length key) small

-- what stands behind the first three bytes, in two parts
two_parts : (a b c d : List ℕ) → length a ≡ length c → a ++ b ≡ c ++ d → (a ≡ c) × (b ≡ d)
two_parts a b c d long is = (
  sym (take_at a b (length a) refl) ∙ ap (λ (l : List ℕ). take (length a) l) is ∙ take_at c d (length a) (sym long),
  sym (drop_at a b (length a) refl) ∙ ap (λ (l : List ℕ). drop (length a) l) is ∙ drop_at c d (length a) (sym long),
)

same_key : (a b : ℕ) (k1 k2 r1 r2 : List ℕ) → length k1 < 2 ^ 16 → length k2 < 2 ^ 16 → (a ∷ (to_be_bytes w16 (length k1) ++ (k1 ++ r1))) ≡ (b ∷ (to_be_bytes w16 (length k2) ++ (k2 ++ r2))) → (k1 ≡ k2) × (r1 ≡ r2)
same_key a b k1 k2 r1 r2 s1 s2 is =
    let count : length k1 ≡ length k2 = sym (key_count a k1 r1 s1) ∙ ap (λ (l : List ℕ). from_be_bytes w16 (take 2 (drop 1 l))) is ∙ key_count b k2 r2 s2 in
    two_parts k1 r1 k2 r2 count (ap (λ (l : List ℕ). drop 3 l) is)

pub one_item : (i j : StringItem) → IsStringItem i → IsStringItem j → item_bytes i ≡ item_bytes j → i ≡ j
unfolding first_byte
one_item (Short k1 v1) (Short k2 v2) a b is = let s = same_key 0 0 k1 k2 v1 v2 a.0 b.0 is in ap (λ (k : List ℕ). Short k v1) s.0 ∙ ap (Short k2) s.1
one_item (Short k1 v1) (Far k2 n p) a b is = let e : 0 ≡ 1 = ap first_byte is in absurd (omega (arith, e))
one_item (Far k1 n p) (Short k2 v2) a b is = let e : 1 ≡ 0 = ap first_byte is in absurd (omega (arith, e))
one_item (Far k1 n1 p1) (Far k2 n2 p2) a b is =
    let s = same_key 1 1 k1 k2 (to_be_bytes w32 n1 ++ to_be_bytes w32 p1) (to_be_bytes w32 n2 ++ to_be_bytes w32 p2) a.0 b.0 is in
    let count : n1 ≡ n2 = sym (from_be_bytes-to_be_bytes_4 n1 a.1) ∙ ap (λ (l : List ℕ). from_be_bytes w32 (take 4 l)) s.1 ∙ from_be_bytes-to_be_bytes_4 n2 b.1 in
    let first : p1 ≡ p2 = sym (from_be_bytes-to_be_bytes_4 p1 a.2) ∙ ap (λ (l : List ℕ). from_be_bytes w32 (drop 4 l)) s.1 ∙ from_be_bytes-to_be_bytes_4 p2 b.2 in
    ap (λ (k : List ℕ). Far k n1 p1) s.0 ∙ ap (λ (n : ℕ). Far k2 n p1) count ∙ ap (Far k2 n2) first

-- ---- values

next_of : Kind → ℕ
next_of Free = 0
next_of (Slotted ss) = 0
next_of (Long next bytes) = next

held_by : Kind → List ℕ
held_by Free = []
held_by (Slotted ss) = []
held_by (Long next bytes) = bytes

one_chain : (ks : List Kind) (first : ℕ) (is js v w : List ℕ) → IsChain ks first is v → IsChain ks first js w → v ≡ w
unfolding next_of held_by
one_chain ks first [] [] v w a b = a.1 ∙ sym b.1
one_chain ks first [] (j ∷ js) v w a b = absurd (omega (arith, a.0, b.0, b.1))
one_chain ks first (i ∷ is) [] v w a b = absurd (omega (arith, a.0, a.1, b.0))
one_chain ks first (i ∷ is) (j ∷ js) v w (ia, l1, n1, b1, r1, k1, p1, m1) (jb, l2, n2, b2, r2, k2, p2, m2) =
    let same : Long n1 b1 ≡ Long n2 b2 = sym k1 ∙ ap (kind_of_page ks) (ia ∙ sym jb) ∙ k2 in
    let next : n1 ≡ n2 = ap next_of same in
    let bytes : b1 ≡ b2 = ap held_by same in
    let rest : r1 ≡ r2 = one_chain ks n2 is js r1 r2 (subst (λ (n : ℕ). IsChain ks n is r1) next m1) m2 in
    p1 ∙ ap (λ (l : List ℕ). l ++ r1) bytes ∙ ap (λ (l : List ℕ). b2 ++ l) rest ∙ sym p2

pub one_entry : (ks : List Kind) (i : StringItem) (e f : Entry) (c d : List ℕ) → StandsFor ks i e c → StandsFor ks i f d → e ≡ f
one_entry ks (Short key value) e f c d a b = a.0 ∙ sym b.0
one_entry ks (Far key count first) e f c d a b =
    let values = one_chain ks first c d e.1 f.1 a.2 b.2 in
    ap (λ (k : List ℕ). (k, e.1)) (a.0 ∙ sym b.0) ∙ ap (λ (v : List ℕ). (f.0, v)) values

-- ---- all entries

items_of : List Placed → List StringItem
items_of ps = map (λ (p : Placed). p.item) ps

entries_same : (ks : List Kind) (ps qs : List Placed) → map (λ (p : Placed). p.item) ps ≡ map (λ (p : Placed). p.item) qs → Each (λ (p : Placed). StandsFor ks p.item p.entry p.chain) ps → Each (λ (p : Placed). StandsFor ks p.item p.entry p.chain) qs
    → map (λ (p : Placed). p.entry) ps ≡ map (λ (p : Placed). p.entry) qs
unfolding head_of tail_of
entries_same ks [] [] is a b = refl
entries_same ks [] (q ∷ qs) is a b = absurd (cc is)
entries_same ks (p ∷ ps) [] is a b = absurd (cc is)
entries_same ks (p ∷ ps) (q ∷ qs) is a b =
    let item : p.item ≡ q.item = ap (head_of (Short [] [])) is in
    let e : p.entry ≡ q.entry = one_entry ks q.item p.entry q.entry p.chain q.chain (subst (λ (i : StringItem). StandsFor ks i p.entry p.chain) item a.0) b.0 in
    ap (λ (x : Entry). x ∷ map (λ (p : Placed). p.entry) ps) e ∙ ap (λ (xs : List Entry). q.entry ∷ xs) (entries_same ks ps qs (ap tail_of is) a.1 b.1)

each_item : (ps : List Placed) → Each (λ (p : Placed). IsStringItem p.item) ps → Each IsStringItem (map (λ (p : Placed). p.item) ps)
each_item [] a = tt
each_item (p ∷ ps) a = (a.0, each_item ps a.1)

bytes_of_items : (ps : List Placed) → map (λ (p : Placed). item_bytes p.item) ps ≡ map item_bytes (map (λ (p : Placed). p.item) ps)
bytes_of_items [] = refl
bytes_of_items (p ∷ ps) = ap (λ (l : List (List ℕ)). item_bytes p.item ∷ l) (bytes_of_items ps)

pub one_content : (es : List Entry) (m n : Content) → AreEntries es m → AreEntries es n → m ≡ n
one_content es m n a b = same_content m n (λ q. of q (get m q) (get n q) refl refl)
  where
    of : (q : List ℕ) (x y : Option (List ℕ)) → get m q ≡ x → get n q ≡ y → get m q ≡ get n q
    of q None None mx ny = mx ∙ sym ny
    of q (Some v) y mx ny = mx ∙ sym (b.each (q, v) (a.all q v mx))
    of q None (Some v) mx ny = a.each (q, v) (b.all q v ny) ∙ sym ny

pub one_layout : (ks : List Kind) (m n : Content) → IsLayout ks m → IsLayout ks n → m ≡ n
one_layout ks m n a b =
    let bytes = sym (sym a.strings ∙ b.strings ∙ refl) in
    let items : map (λ (p : Placed). p.item) a.placed ≡ map (λ (p : Placed). p.item) b.placed =
    one_list item_bytes IsStringItem [] one_item _ _ (each_item a.placed a.items) (each_item b.placed b.items) (sym (bytes_of_items a.placed) ∙ sym a.strings ∙ b.strings ∙ bytes_of_items b.placed) in
    one_content (map (λ (p : Placed). p.entry) b.placed) m n (subst (λ (es : List Entry). AreEntries es m) (entries_same ks a.placed b.placed items a.stand b.stand) a.entries) b.entries

pub one_map : (pages : List (List ℕ)) (m n : Content) → Holds pages m → Holds pages n → m ≡ n
unfolding tail_of
one_map pages m n a b =
    let kinds : a.kinds ≡ b.kinds = one_list bytes_of_kind IsKind [] one_kind a.kinds b.kinds a.are b.are (ap tail_of (sym a.is ∙ b.is)) in
    one_layout b.kinds m n (subst (λ (ks : List Kind). IsLayout ks m) kinds a.layout) b.layout
