-- The list of places over a change of one leaf: its order, and the leaves that name it.
use Rattle.std.proofs.Common.{◌≡◌, ℕ, ◌≤◌, List, [], ◌∷◌, ◌++◌, Some, refl, sym, ap, subst, ◌∙◌, append_assoc}
use Rattle.std.proofs.lemmas.Cmp.{nat_list_cmp_total}
use Rattle.pg_map.specs.Kinds.{Each}
use Rattle.pg_map.specs.laws.Holding.{each-append, each-left, each-right}
use Rattle.pg_directory.specs.declared.entries.Child.{Child}
use Rattle.pg_directory.specs.declared.entries.EntryAt.{EntryAt}
use Rattle.pg_directory.specs.Levels.{AreLeaves, pages_of}
use Rattle.pg_directory.specs.Pages.{Leaf}
use Rattle.pg_directory.specs.Trees.{StorePage, Directory, page_at, IsBelow, Rise, first_of}

-- ---- the order of the places

each_above : (key : EntryAt → List ℕ) (a b : EntryAt) (es : List EntryAt) → IsBelow (key a) (key b) → Each (λ (f : EntryAt). IsBelow (key b) (key f)) es → Each (λ (f : EntryAt). IsBelow (key a) (key f)) es
each_above key a b [] less each = tt
each_above key a b (e ∷ es) less each = (nat_list_cmp_total.trans (key a) (key b) (key e) less each.0, each_above key a b es less each.1)

module _ (key : EntryAt → List ℕ) where
  -- an entry comes between those below it and those above it
  pub rise_put : (xs ys : List EntryAt) (e : EntryAt) → Rise key (xs ++ ys) → Each (λ (x : EntryAt). IsBelow (key x) (key e)) xs → Each (λ (y : EntryAt). IsBelow (key e) (key y)) ys → Rise key (xs ++ e ∷ ys)
  rise_put [] ys e rise low high = (high, rise)
  rise_put (x ∷ xs) ys e rise low high = (
    each-append (λ (f : EntryAt). IsBelow (key x) (key f)) xs (e ∷ ys) (each-left (λ (f : EntryAt). IsBelow (key x) (key f)) xs ys rise.0) (low.0, each-right (λ (f : EntryAt). IsBelow (key x) (key f)) xs ys rise.0),
    rise_put xs ys e rise.1 low.1 high,
  )

  -- one of them goes
  pub rise_take : (xs ys : List EntryAt) (e : EntryAt) → Rise key (xs ++ e ∷ ys) → Rise key (xs ++ ys)
  rise_take [] ys e rise = rise.1
  rise_take (x ∷ xs) ys e rise =
      let b = each-right (λ (f : EntryAt). IsBelow (key x) (key f)) xs (e ∷ ys) rise.0 in
      (each-append (λ (f : EntryAt). IsBelow (key x) (key f)) xs ys (each-left (λ (f : EntryAt). IsBelow (key x) (key f)) xs (e ∷ ys) rise.0) b.1, rise_take xs ys e rise.1)

  -- another place stands for one of them, whose entry has the same key
  pub rise_move : (xs ys : List EntryAt) (d e : EntryAt) → key e ≡ key d → Rise key (xs ++ d ∷ ys) → Rise key (xs ++ e ∷ ys)
  rise_move [] ys d e same rise = (subst (λ (k : List ℕ). Each (λ (y : EntryAt). IsBelow k (key y)) ys) (sym same) rise.0, rise.1)
  rise_move (x ∷ xs) ys d e same rise =
      let b = each-right (λ (f : EntryAt). IsBelow (key x) (key f)) xs (d ∷ ys) rise.0 in (
        each-append (λ (f : EntryAt). IsBelow (key x) (key f)) xs (e ∷ ys) (each-left (λ (f : EntryAt). IsBelow (key x) (key f)) xs (d ∷ ys) rise.0) (subst (IsBelow (key x)) (sym same) b.0, b.1),
        rise_move xs ys d e same rise.1,
      )

-- keys that are the same wherever they are looked at rise there too
pub rise_as : (key own : EntryAt → List ℕ) (es : List EntryAt) → Each (λ (e : EntryAt). own e ≡ key e) es → Rise key es → Rise own es
rise_as key own [] same rise = tt
rise_as key own (e ∷ es) same rise = (below es same.1 rise.0, rise_as key own es same.1 rise.1)
  where
    below : (fs : List EntryAt) → Each (λ (f : EntryAt). own f ≡ key f) fs → Each (λ (f : EntryAt). IsBelow (key e) (key f)) fs → Each (λ (f : EntryAt). IsBelow (own e) (own f)) fs
    below [] is less = tt
    below (f ∷ fs) is less = (subst (λ (k : List ℕ). IsBelow k (own f)) (sym same.0) (subst (IsBelow (key e)) (sym is.0) less.0), below fs is.1 less.1)

-- ---- the leaves

-- Leaves, and further ones behind them.
pub record AreLeavesOf (pages : List StorePage) (cs ds : List Child) (es : List EntryAt) : Type 0 where
  pub front : List EntryAt
  pub behind : List EntryAt
  pub first : AreLeaves pages cs front
  pub second : AreLeaves pages ds behind
  pub is : es ≡ front ++ behind

pub leaves_apart : (pages : List StorePage) (cs ds : List Child) (es : List EntryAt) → AreLeaves pages (cs ++ ds) es → AreLeavesOf pages cs ds es
leaves_apart pages [] ds es are = record { front = []; behind = es; first = refl; second = are; is = refl }
leaves_apart pages (c ∷ cs) ds es (own, later, low, at, first, more, is) =
    let r = leaves_apart pages cs ds later more in
    record { front = own ++ r.front; behind = r.behind; first = (own, r.front, low, at, first, r.first, refl); second = r.second; is = is ∙ ap (λ (l : List EntryAt). own ++ l) r.is ∙ sym (append_assoc own r.front r.behind) }

pub leaves_joined : (pages : List StorePage) (cs ds : List Child) (es fs : List EntryAt) → AreLeaves pages cs es → AreLeaves pages ds fs → AreLeaves pages (cs ++ ds) (es ++ fs)
leaves_joined pages [] ds es fs first second = subst (λ (l : List EntryAt). AreLeaves pages ds (l ++ fs)) (sym first) second
leaves_joined pages (c ∷ cs) ds es fs (own, later, low, at, least, more, is) second =
    (own, later ++ fs, low, at, least, leaves_joined pages cs ds later fs more second, ap (λ (l : List EntryAt). l ++ fs) is ∙ append_assoc own later fs)

-- leaves whose pages stay are leaves still
pub leaves_stay : (pages next : List StorePage) (cs : List Child) (es : List EntryAt) → Each (λ (n : ℕ). page_at next n ≡ page_at pages n) (pages_of cs) → AreLeaves pages cs es → AreLeaves next cs es
leaves_stay pages next [] es same are = are
leaves_stay pages next (c ∷ cs) es same (own, later, low, at, first, more, is) = (own, later, low, same.0 ∙ at, first, leaves_stay pages next cs later same.1 more, is)

-- One leaf among others names other entries then.
module _ (pages next : List StorePage) (cs ds : List Child) (c : Child) (es : List EntryAt) (are : AreLeaves pages (cs ++ c ∷ ds) es)
    (before : Each (λ (n : ℕ). page_at next n ≡ page_at pages n) (pages_of cs)) (behind : Each (λ (n : ℕ). page_at next n ≡ page_at pages n) (pages_of ds)) where
  -- The entries in three parts: those of the leaves before it, its own, and those behind.
  pub record IsLeafAmong : Type 0 where
    pub front : List EntryAt
    pub own : List EntryAt
    pub later : List EntryAt
    pub at : page_at pages c.page ≡ Directory (Leaf own)
    pub is : es ≡ front ++ (own ++ later)
    pub changed : (now : Child) (named : List EntryAt) → 3 ≤ now.page → page_at next now.page ≡ Directory (Leaf named) → first_of named ≡ Some now.least → AreLeaves next (cs ++ now ∷ ds) (front ++ (named ++ later))
    pub parted : (now more : Child) (named others : List EntryAt) → 3 ≤ now.page → 3 ≤ more.page → page_at next now.page ≡ Directory (Leaf named) → page_at next more.page ≡ Directory (Leaf others)
        → first_of named ≡ Some now.least → first_of others ≡ Some more.least → AreLeaves next (cs ++ now ∷ more ∷ ds) (front ++ ((named ++ others) ++ later))
    pub gone : AreLeaves next (cs ++ ds) (front ++ later)

  pub leaf_among : IsLeafAmong
  leaf_among = of (leaves_apart pages cs (c ∷ ds) es are)
    where
      of : AreLeavesOf pages cs (c ∷ ds) es → IsLeafAmong
      of r = the r.second
        where
          the : AreLeaves pages (c ∷ ds) r.behind → IsLeafAmong
          the (own, later, low, at, first, more, is) =
              let kept = leaves_stay pages next cs r.front before r.first in
              let rest = leaves_stay pages next ds later behind more in
              record {
                front = r.front;
                own = own;
                later = later;
                at = at;
                is = r.is ∙ ap (λ (l : List EntryAt). r.front ++ l) is;
                changed = λ now named high stands least. leaves_joined next cs (now ∷ ds) r.front (named ++ later) kept (named, later, high, stands, least, rest, refl);
                parted = λ now next_one named others high above stands also least lowest.
                    leaves_joined next cs (now ∷ next_one ∷ ds) r.front ((named ++ others) ++ later) kept
                    (named, others ++ later, high, stands, least, (others, later, above, also, lowest, rest, refl), append_assoc named others later);
                gone = leaves_joined next cs ds r.front later kept rest;
              }

-- ---- computed example: keys of one byte, the slots of the entries
module _ (page : ℕ) where
  abbrev slot_key : EntryAt → List ℕ
  slot_key e = e.slot ∷ []

  one_between : Rise slot_key (record { page = page; slot = 1 } ∷ record { page = page; slot = 5 } ∷ []) → Rise slot_key (record { page = page; slot = 1 } ∷ record { page = page; slot = 3 } ∷ record { page = page; slot = 5 } ∷ [])
  one_between rise = rise_put slot_key (record { page = page; slot = 1 } ∷ []) (record { page = page; slot = 5 } ∷ []) (record { page = page; slot = 3 }) rise (refl, tt) (refl, tt)
