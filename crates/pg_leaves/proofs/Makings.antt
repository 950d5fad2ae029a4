-- Leaves that are made of places.
use Rattle.std.proofs.Common.{◌≡◌, ◌≤◌, ◌<◌, ◌+◌, ℕ, List, [], ◌∷◌, ◌++◌, length, take, drop, get_or, refl, sym, ap, subst, ◌∙◌, append_assoc, append-nil, arith}
use Rattle.std.proofs.lemmas.List.{take-append-drop, take_more}
use Rattle.pg_directory.specs.declared.entries.EntryAt.{EntryAt}
use Rattle.pg_leaves.specs.declared.parting.LeafNow.{LeafNow}
use Rattle.pg_leaves.specs.declared.parting.LeafNow.TheVariants.{Kept, Made}
use Rattle.pg_leaves.specs.Relisting.{made_count, one_if_made, AreMadeOf, AreMadeBehind}

made-append : (ls ms : List LeafNow) (es fs : List EntryAt) → AreMadeOf ls es → AreMadeOf ms fs → AreMadeOf (ls ++ ms) (es ++ fs)
made-append [] ms es fs first second = subst (λ (l : List EntryAt). AreMadeOf ms (l ++ fs)) (sym first) second
made-append (Kept c ∷ ls) ms es fs first second = absurd first
made-append (Made v ∷ ls) ms es fs (later, some, most, more, is) second =
    (later ++ fs, some, most, made-append ls ms later fs more second, ap (λ (l : List EntryAt). l ++ fs) is ∙ append_assoc v.items later fs)

pub made_then : (old mid new : List LeafNow) (es fs : List EntryAt) → AreMadeBehind old es mid → AreMadeBehind mid fs new → AreMadeBehind old (es ++ fs) new
made_then old mid new es fs a b = record {
  more = a.more ++ b.more;
  are = made-append a.more b.more es fs a.are b.are;
  is = b.is ∙ ap (λ (l : List LeafNow). l ++ b.more) a.is ∙ append_assoc old a.more b.more;
}

-- Leaves of the first of these places were appended; the others are left.
pub record IsMaking (old new : List LeafNow) (all rest : List EntryAt) : Type 0 where
  pub front : List EntryAt
  pub made : AreMadeBehind old front new
  pub is : all ≡ front ++ rest

pub making_none : (old : List LeafNow) (all : List EntryAt) → IsMaking old old all all
making_none old all = record { front = []; made = record { more = []; are = refl; is = sym (append-nil old) }; is = refl }

pub making_more : (old mid new : List LeafNow) (all rest left : List EntryAt) (n : ℕ) → IsMaking old mid all rest → AreMadeBehind mid (take n rest) new → left ≡ drop n rest → IsMaking old new all left
making_more old mid new all rest left n m made behind = record {
  front = m.front ++ take n rest;
  made = made_then old mid new m.front (take n rest) m.made made;
  is = m.is ∙ ap (λ (l : List EntryAt). m.front ++ l) (sym (take-append-drop n rest)) ∙ sym (append_assoc m.front (take n rest) (drop n rest)) ∙ ap (λ (l : List EntryAt). (m.front ++ take n rest) ++ l) (sym behind);
}

pub making_all : (old new : List LeafNow) (all rest : List EntryAt) → IsMaking old new all rest → length rest ≤ 0 → AreMadeBehind old all new
making_all old new all [] m none = subst (λ (l : List EntryAt). AreMadeBehind old l new) (sym (m.is ∙ append-nil m.front)) m.made
making_all old new all (e ∷ rest) m none = absurd (omega (arith, none))

-- ---- how many are made anew

made_more : (ls : List LeafNow) (l : LeafNow) → made_count (ls ++ l ∷ []) ≡ made_count ls + one_if_made l
made_more [] (Kept c) = refl
made_more [] (Made v) = refl
made_more (Kept c ∷ ls) l = made_more ls l
made_more (Made v ∷ ls) l = let r = made_more ls l in omega (arith, r)

-- one leaf more is counted
pub count_more : (ls : List LeafNow) (i : ℕ) (l : LeafNow) → i < length ls → l ≡ get_or ls i l → made_count (take (i + 1) ls) ≡ made_count (take i ls) + one_if_made l
count_more ls i l less is = ap made_count (take_more ls i l less) ∙ made_more (take i ls) (get_or ls i l) ∙ ap (λ (m : LeafNow). made_count (take i ls) + one_if_made m) (sym is)
