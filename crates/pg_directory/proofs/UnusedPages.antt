-- The free pages of a store, by their notes.
use Rattle.std.specs.Prelude.{map}
use Rattle.std.proofs.Common.{◌≡◌, ℕ, suc, ◌+◌, ◌<◌, List, [], ◌∷◌, ◌++◌, length, get_or, sym, ap, ◌∙◌, append-nil, arith}
use Rattle.std.proofs.lemmas.List.{length-map}
use Rattle.pg_map.specs.Kinds.{Free, Slotted, Long}
use Rattle.pg_directory.specs.declared.noting.PageNote.{PageNote}
use Rattle.pg_directory.specs.declared.noting.PageNote.TheVariants.{Free as FreeNote, Slotted as SlottedNote, Long as LongNote, Directory as DirectoryNote}
use Rattle.pg_directory.specs.Noting.{note_of}
use Rattle.pg_directory.specs.Trees.{StorePage, Plain, Directory}
use Rattle.pg_directory.specs.Unused.{one_unused, unused_to}
use Rattle.pg_directory.proofs.ValuesTaken.{note_at}

pub not_unused : (p : StorePage) (note : PageNote) (at : ℕ) (old : List ℕ) → note ≡ note_of p → (note ≡ FreeNote → ⊥) → old ≡ old ++ one_unused p at
not_unused (Plain Free) note at old is other = absurd (other is)
not_unused (Plain (Slotted ss)) note at old is other = sym (append-nil old)
not_unused (Plain (Long next bytes)) note at old is other = sym (append-nil old)
not_unused (Directory d) note at old is other = sym (append-nil old)

one_free : PageNote → ℕ
one_free FreeNote = 1
one_free (SlottedNote n) = 0
one_free (LongNote next used) = 0
one_free DirectoryNote = 0

pub is_unused : (p : StorePage) (at : ℕ) (old new : List ℕ) → FreeNote ≡ note_of p → new ≡ old ++ at ∷ [] → new ≡ old ++ one_unused p at
unfolding one_free
is_unused (Plain Free) at old new is put = put
is_unused (Plain (Slotted ss)) at old new is put = absurd (let e = ap one_free is in omega (arith, e))
is_unused (Plain (Long next bytes)) at old new is put = absurd (let e = ap one_free is in omega (arith, e))
is_unused (Directory d) at old new is put = absurd (let e = ap one_free is in omega (arith, e))

pub next_unused : (pages : List StorePage) (notes : List PageNote) (at : ℕ) (d : PageNote) (before now : List ℕ) → notes ≡ map note_of pages → at < length notes → before ≡ unused_to pages at
    → ((p : StorePage) → get_or notes at d ≡ note_of p → now ≡ before ++ one_unused p at) → now ≡ unused_to pages (at + 1)
next_unused pages notes at d before now are less is put =
    let n : suc at ≡ at + 1 = omega arith in
    let long = ap (λ (l : List PageNote). length l) are ∙ length-map pages note_of in
    let note : get_or notes at d ≡ note_of (get_or pages at (Plain Free)) = ap (λ (l : List PageNote). get_or l at d) are ∙ note_at pages at d (omega (arith, less, long)) in
    put (get_or pages at (Plain Free)) note ∙ ap (λ (l : List ℕ). l ++ one_unused (get_or pages at (Plain Free)) at) is ∙ ap (unused_to pages) n
