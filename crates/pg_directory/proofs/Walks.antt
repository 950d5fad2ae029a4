-- Entries of leaves, looked at one after the other.
use Rattle.std.proofs.Common.{◌≡◌, ◌⊎◌, inl, inr, ℕ, suc, ◌+◌, ◌≤◌, ◌<◌, Bool, true, false, nat_lt, List, [], ◌∷◌, ◌++◌, length, length-append, take, drop, drop-cons, take-suc, take-append-drop, get_or, Option, Some, None, refl, sym, ap, subst, ◌∙◌, append_assoc, append-nil, arith}
use Rattle.std.specs.Prelude.{IfSome}
use Rattle.std.proofs.lemmas.Bool.{false≢true, le-ltb}
use Rattle.std.proofs.lemmas.List.{drop_all}
use Rattle.pg_page.specs.Pages.{number_at}
use Rattle.pg_page.specs.laws.Reading.{count_of_page}
use Rattle.pg_journal.specs.Pages.{Numbered}
use Rattle.pg_map.specs.Kinds.{Each, Free, Slotted, Long, bytes_of_kind, strings_of}
use Rattle.pg_directory.specs.declared.entries.EntryAt.{EntryAt}
use Rattle.pg_directory.specs.declared.entries.Child.{Child}
use Rattle.pg_directory.specs.Pages.{Leaf, Inner, directory_bytes, no_entry, no_child}
use Rattle.pg_directory.specs.Telling.{IsTold}
use Rattle.pg_directory.specs.Trees.{StorePage, Plain, Directory, bytes_of_page, kind_of, IsPage, page_at, key_at, HasString, IsBelow, Rise}
use Rattle.pg_directory.specs.Keeping.{IsKeptPage}
use Rattle.pg_directory.specs.Levels.{AreLeaves}
use Rattle.pg_directory.specs.Walking.{AreInOrder, EndsWith, IsWalked, Passes, IsLeafOr, IsLeafOf, WalksLeaf, AreWalkedOr}
use Rattle.pg_directory.specs.laws.Holding.{one_store_page}
use Rattle.pg_directory.proofs.Orders.{below_trans, each_right, each_both, each_more, rise_before}
use Rattle.pg_directory.proofs.Steps.{page_missing}
use Rattle.pg_directory.proofs.Strings.{directory_there, directory_good, page_good}

-- ---- the strings of a page

first_byte : List ℕ → ℕ
first_byte l = get_or l 0 0

none_past : (slot : ℕ) → false ≡ nat_lt slot 0
none_past slot = sym (le-ltb slot 0 (omega arith))

-- a page that doesn't begin with 1 has no strings
pub no_strings : (p : StorePage) (page : List ℕ) (slot : ℕ) → IsPage p → page ≡ bytes_of_page p → (get_or page 0 0 ≡ 1 → ⊥) → false ≡ nat_lt slot (length (strings_of (kind_of p ∷ [])))
unfolding bytes_of_kind directory_bytes first_byte
no_strings (Plain Free) page slot good is other = none_past slot
no_strings (Plain (Slotted ss)) page slot good is other = absurd (other (ap first_byte is))
no_strings (Plain (Long next bytes)) page slot good is other = none_past slot
no_strings (Directory d) page slot good is other = none_past slot

pub so_many_strings : (p : StorePage) (page : List ℕ) (slot n : ℕ) → IsPage p → page ≡ bytes_of_page p → get_or page 0 0 ≡ 1 → n ≡ number_at page 2 → nat_lt slot n ≡ nat_lt slot (length (strings_of (kind_of p ∷ [])))
unfolding bytes_of_kind directory_bytes first_byte
so_many_strings (Plain Free) page slot n good is one count = let e = sym (ap first_byte is) ∙ one in absurd (omega (arith, e))
so_many_strings (Plain (Slotted ss)) page slot n good is one count = ap (nat_lt slot) (count ∙ ap (λ (l : List ℕ). number_at l 2) is ∙ count_of_page ss good ∙ ap (λ (l : List (List ℕ)). length l) (sym (append-nil ss)))
so_many_strings (Plain (Long next bytes)) page slot n good is one count = let e = sym (ap first_byte is) ∙ one in absurd (omega (arith, e))
so_many_strings (Directory (Leaf es)) page slot n good is one count = let e = sym (ap first_byte is) ∙ one in absurd (omega (arith, e))
so_many_strings (Directory (Inner level cs)) page slot n good is one count = let e = sym (ap first_byte is) ∙ one in absurd (omega (arith, e))

-- a count that was found is within the limit
pub some_within : (o : Option ℕ) (count limit : ℕ) → IfSome o (λ (n : ℕ). n ≤ limit) → o ≡ Some count → count ≤ limit
some_within o count limit within is = subst (λ (p : Option ℕ). IfSome p (λ (n : ℕ). n ≤ limit)) is within

-- ---- one entry more, in order

push_each : (key : EntryAt → List ℕ) (x y : EntryAt) (fs : List EntryAt) → IsBelow (key x) (key y) → Each (λ (f : EntryAt). IsBelow (key x) (key f)) fs → Each (λ (f : EntryAt). IsBelow (key x) (key f)) (fs ++ y ∷ [])
push_each key x y fs below each = each_both (λ (f : EntryAt). IsBelow (key x) (key f)) fs (y ∷ []) each (below, tt)

rise_push : (key : EntryAt → List ℕ) (xs : List EntryAt) (y : EntryAt) → Rise key xs → Each (λ (x : EntryAt). IsBelow (key x) (key y)) xs → Rise key (xs ++ y ∷ [])
rise_push key [] y rise each = (tt, tt)
rise_push key (x ∷ xs) y rise each = (push_each key x y xs each.0 rise.0, rise_push key xs y rise.1 each.1)

-- where the last of entries in order is below one, all are
all_below : (key : EntryAt → List ℕ) (front : List EntryAt) (last y : EntryAt) → Rise key (front ++ last ∷ []) → IsBelow (key last) (key y) → Each (λ (x : EntryAt). IsBelow (key x) (key y)) (front ++ last ∷ [])
all_below key front last y rise below =
    each_both (λ (x : EntryAt). IsBelow (key x) (key y)) front (last ∷ [])
    (each_more (λ (x : EntryAt). IsBelow (key x) (key last)) (λ (x : EntryAt). IsBelow (key x) (key y)) front (λ x less. below_trans (key x) (key last) (key y) less below) (rise_before key front last [] rise))
    (below, tt)

module _ (pages : List StorePage) where
  pub none_walked : (key : List ℕ) → IsWalked pages [] 0 key
  none_walked key = record { strings = tt; order = tt; count_is = refl; last = inl refl }

  -- the next entry was passed
  pub walked_on : (es : List EntryAt) (count next : ℕ) (at : EntryAt) (old new : List ℕ) (is_first : Bool) → IsWalked pages es count old → (count ≡ 0 → is_first ≡ true) → (is_first ≡ true → count ≡ 0) → next ≡ count + 1 → Passes true pages at is_first old new → IsWalked pages (es ++ at ∷ []) next new
  walked_on es count next at old new is_first w yes_ no_ more (has, above, key) = record {
    strings = each_both (HasString pages) es (at ∷ []) w.strings (has, tt);
    order = rise_push (key_at pages) es at w.order (of w.last is_first refl);
    count_is = omega (arith, more, w.count_is, length-append es (at ∷ []));
    last = inr (record { front = es; last = at; is = refl; key_is = key });
  }
    where
      of : (es ≡ []) ⊎ EndsWith pages es old → (t : Bool) → is_first ≡ t → Each (λ (x : EntryAt). IsBelow (key_at pages x) (key_at pages at)) es
      of (inl none) t is = subst (Each (λ (x : EntryAt). IsBelow (key_at pages x) (key_at pages at))) (sym none) tt
      of (inr e) true is =
          let some = ap (λ (l : List EntryAt). length l) e.is ∙ length-append e.front (e.last ∷ []) in
          let zero_count = no_ is in
          absurd (omega (arith, some, zero_count, w.count_is))
      of (inr e) false is =
          subst (Each (λ (x : EntryAt). IsBelow (key_at pages x) (key_at pages at))) (sym e.is)
          (all_below (key_at pages) e.front e.last at (subst (Rise (key_at pages)) e.is w.order) (subst (λ (k : List ℕ). IsBelow k (key_at pages at)) e.key_is (above is)))

  -- no entry can come there
  pub not_passed : (es more : List EntryAt) (count : ℕ) (at : EntryAt) (old new : List ℕ) (is_first : Bool) (limit : ℕ) → IsWalked pages es count old → (count ≡ 0 → is_first ≡ true) → Passes false pages at is_first old new → AreInOrder pages (es ++ at ∷ more) limit → ⊥
  not_passed es more count at old new is_first limit w yes_ no_ all = no_ (each_right (HasString pages) es (at ∷ more) all.strings).0 (λ other. of other w.last)
    where
      of : is_first ≡ false → (es ≡ []) ⊎ EndsWith pages es old → IsBelow old (key_at pages at)
      of other (inl none) = absurd (false≢true (sym other ∙ yes_ (w.count_is ∙ ap (λ (l : List EntryAt). length l) none)))
      of other (inr e) =
          let rise : Rise (key_at pages) ((e.front ++ e.last ∷ []) ++ at ∷ more) = subst (λ (l : List EntryAt). Rise (key_at pages) (l ++ at ∷ more)) e.is all.order in
          let each = rise_before (key_at pages) (e.front ++ e.last ∷ []) at more rise in
          subst (λ (k : List ℕ). IsBelow k (key_at pages at)) (sym e.key_is) (each_right (λ (x : EntryAt). IsBelow (key_at pages x) (key_at pages at)) e.front (e.last ∷ []) each).0

  pub past_limit : (es more : List EntryAt) (count : ℕ) (at : EntryAt) (key : List ℕ) (limit : ℕ) → IsWalked pages es count key → limit ≤ count → AreInOrder pages (es ++ at ∷ more) limit → ⊥
  past_limit es more count at key limit w many all = omega (arith, many, w.count_is, all.few, length-append es (at ∷ more))

  -- ---- a leaf

  abbrev items : StorePage → List EntryAt
  items (Plain k) = []
  items (Directory (Leaf es)) = es
  items (Directory (Inner level cs)) = []

  module _ (leaf : Child) (page : List ℕ) (are : Each IsPage pages) where
    pub leaf_there : (own : List EntryAt) → page ≡ bytes_of_page (page_at pages leaf.page) → IsTold page (Leaf own) → page_at pages leaf.page ≡ Directory (Leaf own)
    leaf_there own is told = one_store_page (page_at pages leaf.page) (Directory (Leaf own)) (page_good pages leaf.page are) told.good (sym is ∙ told.is)

    one_own : (own other : List EntryAt) → page_at pages leaf.page ≡ Directory (Leaf own) → page_at pages leaf.page ≡ Directory (Leaf other) → own ≡ other
    one_own own other a b = ap items (sym a ∙ b)

    pub leaf_missing : (o : Option ℕ) (cache : List Numbered) (done : List EntryAt) (limit : ℕ) (key : List ℕ) → (3 ≤ leaf.page → leaf.page < 3 + length pages → IsKeptPage o cache (bytes_of_page (page_at pages leaf.page))) → o ≡ None → WalksLeaf None pages leaf done limit key
    leaf_missing o cache done limit key there none own more is all = page_missing o cache _ (there is.0 (directory_there pages leaf.page (Leaf own) is.0 is.1)) none

    pub leaf_other : (done : List EntryAt) (limit : ℕ) (key : List ℕ) → page ≡ bytes_of_page (page_at pages leaf.page) → IsLeafOr false page leaf.least → WalksLeaf None pages leaf done limit key
    leaf_other done limit key is no_ own more child all = no_ own (directory_good pages leaf.page (Leaf own) are child.1) (is ∙ ap bytes_of_page child.1) child.2

    -- among the entries of a leaf
    module _ (own done : List EntryAt) (i count limit : ℕ) (key : List ℕ) (less : i < length own) (there : page_at pages leaf.page ≡ Directory (Leaf own)) (w : IsWalked pages (done ++ take i own) count key) where
      abbrev at : EntryAt
      at = get_or own i no_entry

      parts : (more : List EntryAt) → done ++ (own ++ more) ≡ (done ++ take i own) ++ at ∷ (drop (suc i) own ++ more)
      parts more =
          ap (λ (l : List EntryAt). done ++ (l ++ more)) (sym (take-append-drop i own) ∙ ap (λ (l : List EntryAt). take i own ++ l) (drop-cons own i no_entry less))
          ∙ ap (λ (l : List EntryAt). done ++ l) (append_assoc (take i own) (at ∷ drop (suc i) own) more)
          ∙ sym (append_assoc done (take i own) (at ∷ (drop (suc i) own ++ more)))

      in_parts : (mine more : List EntryAt) → IsLeafOf pages leaf mine → AreInOrder pages (done ++ (mine ++ more)) limit → AreInOrder pages ((done ++ take i own) ++ at ∷ (drop (suc i) own ++ more)) limit
      in_parts mine more is all = subst (λ (l : List EntryAt). AreInOrder pages l limit) (parts more) (subst (λ (l : List EntryAt). AreInOrder pages (done ++ (l ++ more)) limit) (one_own mine own is.1 there) all)

      pub leaf_full : (new : List ℕ) → limit ≤ count → WalksLeaf None pages leaf done limit new
      leaf_full new many mine more is all = past_limit (done ++ take i own) (drop (suc i) own ++ more) count at key limit w many (in_parts mine more is all)

      pub leaf_ends : (new : List ℕ) (is_first : Bool) (e : EntryAt) → e ≡ at → (count ≡ 0 → is_first ≡ true) → Passes false pages e is_first key new → WalksLeaf None pages leaf done limit new
      leaf_ends new is_first e same yes_ no_ mine more is all =
          not_passed (done ++ take i own) (drop (suc i) own ++ more) count at key new is_first limit w yes_ (subst (λ (x : EntryAt). Passes false pages x is_first key new) same no_) (in_parts mine more is all)

      pub leaf_on : (new : List ℕ) (is_first : Bool) (e : EntryAt) (next : ℕ) → e ≡ at → (count ≡ 0 → is_first ≡ true) → (is_first ≡ true → count ≡ 0) → next ≡ count + 1 → Passes true pages e is_first key new → IsWalked pages (done ++ take (i + 1) own) next new
      leaf_on new is_first e next same yes_ no_ more passed =
          let n : suc i ≡ i + 1 = omega arith in
          let list : (done ++ take i own) ++ at ∷ [] ≡ done ++ take (i + 1) own =
          append_assoc done (take i own) (at ∷ []) ∙ ap (λ (l : List EntryAt). done ++ l) (sym (take-suc own i no_entry less)) ∙ ap (λ (k : ℕ). done ++ take k own) n in
          subst (λ (l : List EntryAt). IsWalked pages l next new) list
          (walked_on (done ++ take i own) count next at key new is_first w yes_ no_ more (subst (λ (x : EntryAt). Passes true pages x is_first key new) same passed))

  -- ---- leaves

  pub record HasWalked (leaves rest : List Child) (count : ℕ) (key : List ℕ) : Type 0 where
    pub done : List EntryAt
    pub walked : IsWalked pages done count key
    pub onward : (more : List EntryAt) → AreLeaves pages rest more → AreLeaves pages leaves (done ++ more)
    pub back : (es : List EntryAt) → AreLeaves pages leaves es → (more : List EntryAt) × (es ≡ done ++ more) × AreLeaves pages rest more

  pub leaves_begun : (leaves : List Child) (key : List ℕ) → HasWalked leaves leaves 0 key
  leaves_begun leaves key = record { done = []; walked = none_walked key; onward = λ more are. are; back = λ es are. (es, refl, are) }

  module _ (leaves : List Child) (i : ℕ) (less : i < length leaves) (count : ℕ) (key : List ℕ) (h : HasWalked leaves (drop i leaves) count key) where
    abbrev here : Child
    here = get_or leaves i no_child

    rest_is : drop i leaves ≡ here ∷ drop (suc i) leaves
    rest_is = drop-cons leaves i no_child less

    pub leaves_on : (next : ℕ) (new : List ℕ) → WalksLeaf (Some next) pages here h.done next new → HasWalked leaves (drop (i + 1) leaves) next new
    leaves_on next new (own, (low, at, first), walked) =
        let n : suc i ≡ i + 1 = omega arith in
        subst (λ (k : ℕ). HasWalked leaves (drop k leaves) next new) n (record {
          done = h.done ++ own;
          walked = walked;
          onward = λ more are.
              subst (AreLeaves pages leaves) (sym (append_assoc h.done own more))
              (h.onward (own ++ more) (subst (λ (l : List Child). AreLeaves pages l (own ++ more)) (sym rest_is) (own, more, low, at, first, are, refl)));
          back = λ es are. behind es (h.back es are);
        })
      where
        behind : (es : List EntryAt) → (more : List EntryAt) × (es ≡ h.done ++ more) × AreLeaves pages (drop i leaves) more → (more : List EntryAt) × (es ≡ (h.done ++ own) ++ more) × AreLeaves pages (drop (suc i) leaves) more
        behind es (more, parts, are) = of (subst (λ (l : List Child). AreLeaves pages l more) rest_is are)
          where
            of : AreLeaves pages (here ∷ drop (suc i) leaves) more → (later : List EntryAt) × (es ≡ (h.done ++ own) ++ later) × AreLeaves pages (drop (suc i) leaves) later
            of (mine, later, l, a, f, others, joined_) = (
              later,
              parts ∙ ap (λ (l : List EntryAt). h.done ++ l) (joined_ ∙ ap (λ (l : List EntryAt). l ++ later) (ap items (sym a ∙ at))) ∙ sym (append_assoc h.done own later),
              others,
            )

    pub leaves_end : (limit : ℕ) (new : List ℕ) → WalksLeaf None pages here h.done limit new → AreWalkedOr None pages leaves limit
    leaves_end limit new no_ es are all = behind (h.back es are)
      where
        behind : (more : List EntryAt) × (es ≡ h.done ++ more) × AreLeaves pages (drop i leaves) more → ⊥
        behind (more, parts, rest) = of (subst (λ (l : List Child). AreLeaves pages l more) rest_is rest)
          where
            of : AreLeaves pages (here ∷ drop (suc i) leaves) more → ⊥
            of (mine, later, low, at, first, others, joined_) =
                no_ mine later (low, at, first) (subst (λ (l : List EntryAt). AreInOrder pages l limit) (parts ∙ ap (λ (l : List EntryAt). h.done ++ l) joined_) all)

  pub leaves_all : (leaves : List Child) (i count limit : ℕ) (key : List ℕ) → length leaves ≤ i → count ≤ limit → HasWalked leaves (drop i leaves) count key → AreWalkedOr (Some count) pages leaves limit
  leaves_all leaves i count limit key all most h = (
    h.done,
    subst (AreLeaves pages leaves) (append-nil h.done) (h.onward [] (subst (λ (l : List Child). AreLeaves pages l []) (sym (drop_all i leaves all)) refl)),
    record { strings = h.walked.strings; order = h.walked.order; few = let e = h.walked.count_is in omega (arith, e, most) },
    sym h.walked.count_is,
  )
