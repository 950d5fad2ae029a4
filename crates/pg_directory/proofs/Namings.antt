-- The places that leaves name, one after the other.
use Rattle.std.proofs.Common.{◌≡◌, ℕ, suc, ◌+◌, ◌≤◌, ◌<◌, List, [], ◌∷◌, ◌++◌, length, take, take-suc, drop, drop-cons, get_or, refl, sym, ap, subst, ◌∙◌, append_assoc, append-nil, arith}
use Rattle.std.proofs.lemmas.List.{drop_all}
use Rattle.pg_map.specs.Kinds.{Each}
use Rattle.pg_directory.specs.declared.entries.EntryAt.{EntryAt}
use Rattle.pg_directory.specs.declared.entries.Child.{Child}
use Rattle.pg_directory.specs.Pages.{Leaf, IsDirectoryPage, no_entry, no_child}
use Rattle.pg_directory.specs.Trees.{StorePage, Directory, IsPage, page_at}
use Rattle.pg_directory.specs.Levels.{AreLeaves}
use Rattle.pg_directory.proofs.Strings.{directory_good}

-- ---- one leaf

pub one_named : (es : List EntryAt) (i : ℕ) (e : EntryAt) (old mid new : List EntryAt) → i < length es → e ≡ get_or es i no_entry → mid ≡ old ++ take i es → new ≡ mid ++ e ∷ [] → new ≡ old ++ take (i + 1) es
one_named es i e old mid new less is before put =
    let n : suc i ≡ i + 1 = omega arith in
    put ∙ ap (λ (l : List EntryAt). l ++ e ∷ []) before ∙ append_assoc old (take i es) (e ∷ []) ∙ ap (λ (x : EntryAt). old ++ (take i es ++ x ∷ [])) is
    ∙ ap (λ (l : List EntryAt). old ++ l) (sym (take-suc es i no_entry less)) ∙ ap (λ (k : ℕ). old ++ take k es) n

-- ---- leaves

-- The first of the places were read; the leaves that are left name the others.
pub record HasNamed (pages : List StorePage) (rest : List Child) (es places : List EntryAt) : Type 0 where
  pub more : List EntryAt
  pub parts : es ≡ places ++ more
  pub are : AreLeaves pages rest more

pub none_named_yet : (pages : List StorePage) (leaves : List Child) (es places : List EntryAt) → places ≡ [] → AreLeaves pages leaves es → HasNamed pages leaves es places
none_named_yet pages leaves es places none are = subst (HasNamed pages leaves es) (sym none) (record { more = es; parts = refl; are = are })

-- the leaf that is next
pub record IsNext (pages : List StorePage) (c : Child) (rest : List Child) (es places : List EntryAt) : Type 0 where
  pub own : List EntryAt
  pub low : 3 ≤ c.page
  pub at : page_at pages c.page ≡ Directory (Leaf own)
  pub good : IsDirectoryPage (Leaf own)
  pub on : (now : List EntryAt) → now ≡ places ++ own → HasNamed pages rest es now

pub next_leaf : (pages : List StorePage) (pages_are : Each IsPage pages) (leaves : List Child) (i : ℕ) (es places : List EntryAt) → i < length leaves → HasNamed pages (drop i leaves) es places → IsNext pages (get_or leaves i no_child) (drop (i + 1) leaves) es places
next_leaf pages pages_are leaves i es places less h = of (subst (λ (l : List Child). AreLeaves pages l h.more) (drop-cons leaves i no_child less) h.are)
  where
    of : AreLeaves pages (get_or leaves i no_child ∷ drop (suc i) leaves) h.more → IsNext pages (get_or leaves i no_child) (drop (i + 1) leaves) es places
    of (own, later, low, at, first, more, is) =
        let n : suc i ≡ i + 1 = omega arith in
        record {
          own = own;
          low = low;
          at = at;
          good = directory_good pages (get_or leaves i no_child).page (Leaf own) pages_are at;
          on = λ now put. record {
            more = later;
            parts = h.parts ∙ ap (λ (l : List EntryAt). places ++ l) is ∙ sym (append_assoc places own later) ∙ ap (λ (l : List EntryAt). l ++ later) (sym put);
            are = subst (λ (k : ℕ). AreLeaves pages (drop k leaves) later) n more;
          };
        }

pub all_named_now : (pages : List StorePage) (leaves : List Child) (i : ℕ) (es places : List EntryAt) → length leaves ≤ i → HasNamed pages (drop i leaves) es places → places ≡ es
all_named_now pages leaves i es places all h =
    let none : h.more ≡ [] = subst (λ (l : List Child). AreLeaves pages l h.more) (drop_all i leaves all) h.are in
    sym (h.parts ∙ ap (λ (l : List EntryAt). places ++ l) none ∙ append-nil places)
