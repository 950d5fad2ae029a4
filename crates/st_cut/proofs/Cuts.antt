-- What has been cut, and what one more byte does to what stands open.
use Rattle.std.proofs.Common.{ℕ, ◌≡◌, Bool, true, false, eqb, List, [], ◌∷◌, ◌++◌, Some, None, refl, sym, ap, ◌∙◌, subst, length, take, ◌<◌, arith}
use Rattle.st_cut.specs.Cut.{is_blank_byte, line_end, first_statement, Cuts}

-- what has been cut stays cut, whatever comes
pub line_end_goes_on : (w : Bool) (bs next more : List ℕ) → line_end false bs ≡ Some next → line_end w (bs ++ more) ≡ Some (next ++ more)
line_end_goes_on w [] next more h = cc
line_end_goes_on w (b ∷ bs) next more h = grind (arith, line_end_goes_on w bs next more)

-- a line in which an end comes later is no end yet
pub line_busy : (w : Bool) (bs more : List ℕ) (found : List ℕ × List ℕ) → line_end false bs ≡ None → first_statement false bs ≡ Some found
    → line_end w (bs ++ more) ≡ None
line_busy w [] more found e h = cc
line_busy w (b ∷ bs) more found e h = grind (arith, line_busy w bs more)

pub first_goes_on : (w : Bool) (bs more : List ℕ) (found : List ℕ × List ℕ) → first_statement false bs ≡ Some found
    → first_statement w (bs ++ more) ≡ Some (found.0, found.1 ++ more)
first_goes_on w [] more found h = cc
first_goes_on w (b ∷ bs) more found h = grind (arith, line_end_goes_on, line_busy, first_goes_on w bs more)

pub line_other : (bs : List ℕ) (b : ℕ) → line_end false bs ≡ None → eqb b 10 ≡ false → line_end false (bs ++ b ∷ []) ≡ None
line_other [] b h e = grind arith
line_other (c ∷ cs) b h e = grind (arith, line_other cs b)

-- a byte that is no newline ends nothing
pub open_other : (held : List ℕ) (b : ℕ) → first_statement false held ≡ None → eqb b 10 ≡ false → first_statement false (held ++ b ∷ []) ≡ None
open_other [] b h e = grind arith
open_other (c ∷ cs) b h e = grind (arith, line_other, open_other cs b)

-- a newline ends what would end if the script did
pub line_newline : (bs : List ℕ) → line_end false bs ≡ None → line_end false (bs ++ 10 ∷ []) ≡ line_end true bs
line_newline [] h = grind arith
line_newline (c ∷ cs) h = grind (arith, line_newline cs)

pub open_newline : (held : List ℕ) → first_statement false held ≡ None → first_statement false (held ++ 10 ∷ []) ≡ first_statement true held
open_newline [] h = grind arith
open_newline (c ∷ cs) h = grind (arith, line_newline, open_newline cs)

-- nothing stands after the end
pub line_last : (bs next : List ℕ) → line_end false bs ≡ None → line_end true bs ≡ Some next → next ≡ []
line_last [] next h e = grind arith
line_last (c ∷ cs) next h e = grind (arith, line_last cs)

pub open_last : (held : List ℕ) (found : List ℕ × List ℕ) → first_statement false held ≡ None → first_statement true held ≡ Some found → found.1 ≡ []
open_last [] found h e = cc
open_last (c ∷ cs) found h e = grind (arith, line_last, open_last cs)

-- a blank leaves the end where it is
pub line_blank : (bs : List ℕ) (b : ℕ) → line_end false bs ≡ None → is_blank_byte b ≡ true → line_end true (bs ++ b ∷ []) ≡ line_end true bs
line_blank [] b h e = grind arith
line_blank (c ∷ cs) b h e = grind (arith, line_blank cs b)

pub open_blank : (held : List ℕ) (b : ℕ) → first_statement false held ≡ None → is_blank_byte b ≡ true
    → first_statement true (held ++ b ∷ []) ≡ first_statement true held
open_blank [] b h e = grind arith
open_blank (c ∷ cs) b h e = grind (arith, line_blank, open_blank cs b)

-- any other byte puts the end off
pub line_byte : (bs : List ℕ) (b : ℕ) → line_end false bs ≡ None → is_blank_byte b ≡ false → eqb b 10 ≡ false → line_end true (bs ++ b ∷ []) ≡ None
line_byte [] b h e n = grind arith
line_byte (c ∷ cs) b h e n = grind (arith, line_byte cs b)

pub open_byte : (held : List ℕ) (b : ℕ) → first_statement false held ≡ None → is_blank_byte b ≡ false → eqb b 10 ≡ false → eqb b 59 ≡ false
    → first_statement true (held ++ b ∷ []) ≡ None
open_byte [] b h e n s = grind arith
open_byte (c ∷ cs) b h e n s = grind (arith, line_byte, open_byte cs b)

-- a `;` is an end
pub open_semicolon : (held : List ℕ) → first_statement false held ≡ None → first_statement true (held ++ 59 ∷ []) ≡ Some (held, [])
open_semicolon [] h = grind arith
open_semicolon (c ∷ cs) h = grind (arith, line_byte, open_semicolon cs)

-- a newline where nothing would end
pub line_newline_none : (bs : List ℕ) → line_end false bs ≡ None → line_end true bs ≡ None → line_end true (bs ++ 10 ∷ []) ≡ None
line_newline_none [] h e = grind arith
line_newline_none (c ∷ cs) h e = grind (arith, line_newline_none cs)

pub open_newline_none : (held : List ℕ) → first_statement false held ≡ None → first_statement true held ≡ None → first_statement true (held ++ 10 ∷ []) ≡ None
open_newline_none [] h e = grind arith
open_newline_none (c ∷ cs) h e = grind (arith, line_newline_none, open_newline_none cs)

-- the statement is the beginning of what stands
pub first_prefix : (w : Bool) (bs : List ℕ) (found : List ℕ × List ℕ) → first_statement w bs ≡ Some found → take (length found.0) bs ≡ found.0
first_prefix w [] found h = cc
first_prefix w (c ∷ cs) found h = grind (arith, first_prefix w cs)

pub first_short : (w : Bool) (bs : List ℕ) (found : List ℕ × List ℕ) → first_statement w bs ≡ Some found → length found.0 < length bs
first_short w [] found h = cc
first_short w (c ∷ cs) found h = grind (arith, first_short w cs)

-- what a cut leaves is open
pub cut_open : (w : Bool) (script : List ℕ) (ss : List (List ℕ)) (rest : List ℕ) → Cuts w script ss rest → first_statement w rest ≡ None
cut_open w script [] rest h = rw h.1 h.0
cut_open w script (s ∷ ss) rest h = cut_open w h.0 ss rest h.2

-- a cut goes on from what it left
pub cuts_go_on : (w : Bool) (a b : List ℕ) (ss ts : List (List ℕ)) (mid rest : List ℕ) → Cuts false a ss mid → Cuts w (mid ++ b) ts rest
    → Cuts w (a ++ b) (ss ++ ts) rest
cuts_go_on w a b [] ts mid rest h k = rw (sym h.1) k
cuts_go_on w a b (s ∷ ss) ts mid rest h k = (h.0 ++ b, first_goes_on w a b (s, h.0) h.1, cuts_go_on w h.0 b ss ts mid rest h.2 k)

-- the cut of a script is the only one
pub cut_once : (w : Bool) (script : List ℕ) (ss ts : List (List ℕ)) (x y : List ℕ) → Cuts w script ss x → Cuts w script ts y → (ss ≡ ts) × (x ≡ y)
cut_once w script [] [] x y h k = (refl, h.1 ∙ sym k.1)
cut_once w script [] (t ∷ ts) x y h k = cc (h.0, k.1)
cut_once w script (s ∷ ss) [] x y h k = cc (h.1, k.0)
cut_once w script (s ∷ ss) (t ∷ ts) x y h k =
    let e : (s, h.0) ≡ (t, k.0) = cc (h.1, k.1) in
    let n : h.0 ≡ k.0 = ap (λ (p : List ℕ × List ℕ). p.1) e in
    let m : s ≡ t = ap (λ (p : List ℕ × List ℕ). p.0) e in
    let r : (ss ≡ ts) × (x ≡ y) = cut_once w h.0 ss ts x y h.2 (subst (λ (n : List ℕ). Cuts w n ts y) (sym n) k.2) in (ap (λ x. x ∷ ss) m ∙ ap (λ xs. t ∷ xs) r.0, r.1)
