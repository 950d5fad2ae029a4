-- The cut of a whole script, byte by byte.
use Rattle.std.proofs.Common.{ℕ, zero, suc, ◌≡◌, ◌≤◌, ◌<◌, ◌+◌, Bool, true, false, List, [], ◌∷◌, ◌++◌, Option, Some, None, is_some, length, take, get_or, refl, sym, ap, ◌∙◌, subst, arith, append-nil, Vec, Global}
use Rattle.std.proofs.lemmas.Bool.{false≢true}
use Rattle.std.proofs.lemmas.List.{take_more, take_all}
use Rattle.st_cut.specs.Cut.{first_statement, line_end, Cuts, IsCut}
use Rattle.st_cut.specs.Seen.{Seen, StandsOpen, end_count, texts, Cutting}
use Rattle.st_cut.proofs.Cuts.{cut_once, cuts_go_on, first_short, open_newline, open_last}
use Rattle.st_cut.proofs.Standing.{stop_none}

line_shrinks : (w : Bool) (bs next : List ℕ) → line_end w bs ≡ Some next → length next ≤ length bs
line_shrinks true [] next h = grind arith
line_shrinks false [] next h = cc
line_shrinks w (c ∷ cs) next h = grind (arith, line_shrinks w cs)

first_shrinks : (w : Bool) (bs : List ℕ) (found : List ℕ × List ℕ) → first_statement w bs ≡ Some found → length found.1 ≤ length bs
first_shrinks w [] found h = cc
first_shrinks w (c ∷ cs) found h = grind (arith, line_shrinks, first_shrinks w cs)

pub cut_shrinks : (w : Bool) (script : List ℕ) (ss : List (List ℕ)) (rest : List ℕ) → Cuts w script ss rest → length rest ≤ length script
cut_shrinks w script [] rest h = rw h.1 (omega arith)
cut_shrinks w script (s ∷ ss) rest h =
    let a : length rest ≤ length h.0 = cut_shrinks w h.0 ss rest h.2 in
    let b : length h.0 ≤ length script = first_shrinks w script (s, h.0) h.1 in omega arith

ended_by : (limit : ℕ) (held : List ℕ) (o : Option (List ℕ × List ℕ)) → first_statement true held ≡ o → first_statement false held ≡ None
    → is_some (end_count limit o) ≡ true → (text : List ℕ) × (first_statement true held ≡ Some (text, []))
ended_by limit held None e h t = absurd (false≢true t)
ended_by limit held (Some found) e h t = (found.0, e ∙ ap (λ (n : List ℕ). Some (found.0, n)) (open_last held found h e))

pub ended_text : (limit : ℕ) (now : Seen) (held : List ℕ) → StandsOpen limit now held → is_some now.stop ≡ true
    → (text : List ℕ) × (first_statement true held ≡ Some (text, []))
ended_text limit now held s t = ended_by limit held (first_statement true held) refl s.opened (ap is_some (sym s.stop) ∙ t)

none_of : (o : Option ℕ) → is_some o ≡ false → o ≡ None
none_of None h = refl
none_of (Some x) h = absurd (false≢true (sym h))

pub no_text : (limit : ℕ) (now : Seen) (held : List ℕ) → StandsOpen limit now held → is_some now.stop ≡ false → first_statement true held ≡ None
no_text limit now held s t = stop_none limit (first_statement true held) (sym s.stop ∙ none_of now.stop t)

pub texts_append : (vs : List (Vec ℕ Global)) (v : Vec ℕ Global) → texts (vs ++ v ∷ []) ≡ texts vs ++ v.items ∷ []
texts_append [] v = refl
texts_append (w ∷ vs) v = ap (λ xs. w.items ∷ xs) (texts_append vs v)

-- the statement that ends is no longer than the script
pub text_fits : (limit : ℕ) (script : List ℕ) (items : List (List ℕ)) (cutter : Seen) (c : Cutting limit script items cutter) (text : List ℕ)
    → length script ≤ limit → first_statement true c.held ≡ Some (text, []) → length text ≤ limit
text_fits limit script items cutter c text h e =
    let a : length c.held ≤ length script = cut_shrinks false script items c.held c.cut in
    let b : length text < length c.held = first_short true c.held (text, []) e in omega arith

pub cutting_push : (limit : ℕ) (script : List ℕ) (items : List (List ℕ)) (before after : Seen) (b : ℕ)
    → ((limit : ℕ) (held : List ℕ) → StandsOpen limit before held → StandsOpen limit after (held ++ b ∷ []))
    → Cutting limit script items before → Cutting limit (script ++ b ∷ []) items after
cutting_push limit script items before after b push c =
    let s : StandsOpen limit after (c.held ++ b ∷ []) = push limit c.held c.stands in
    record {
      held = c.held ++ b ∷ [];
      cut = subst (λ (ss : List (List ℕ)). Cuts false (script ++ b ∷ []) ss (c.held ++ b ∷ [])) (append-nil items) (cuts_go_on false script (b ∷ []) items [] c.held (c.held ++ b ∷ []) c.cut (s.opened, refl));
      stands = s;
    }

pub cutting_text : (limit : ℕ) (script : List ℕ) (items : List (List ℕ)) (before after : Seen) (c : Cutting limit script items before) (text : List ℕ)
    → first_statement true c.held ≡ Some (text, []) → StandsOpen before.limit after []
    → Cutting limit (script ++ 10 ∷ []) (items ++ text ∷ []) after
cutting_text limit script items before after c text e n = record {
  held = [];
  cut = cuts_go_on false script (10 ∷ []) items (text ∷ []) c.held [] c.cut ([], open_newline c.held c.stands.opened ∙ e, (refl, refl));
  stands = subst (λ (x : ℕ). StandsOpen x after []) c.stands.limited n;
}

pub cut_last : (limit : ℕ) (script : List ℕ) (items : List (List ℕ)) (cutter : Seen) (c : Cutting limit script items cutter) (text : List ℕ)
    → first_statement true c.held ≡ Some (text, []) → IsCut script ((items ++ text ∷ []) ++ [] ∷ [])
cut_last limit script items cutter c text e = record {
  statements = items ++ text ∷ [];
  rest = [];
  cut = subst (λ (xs : List ℕ). Cuts true xs (items ++ text ∷ []) []) (append-nil script) (cuts_go_on true script [] items (text ∷ []) c.held [] c.cut (rw (append-nil c.held) ([], e, (refl, refl))));
  is = refl;
}

pub cut_rest : (limit : ℕ) (script : List ℕ) (items : List (List ℕ)) (cutter : Seen) (c : Cutting limit script items cutter)
    → first_statement true c.held ≡ None → IsCut script (items ++ c.held ∷ [])
cut_rest limit script items cutter c e = record {
  statements = items;
  rest = c.held;
  cut = subst (λ (xs : List ℕ). Cuts true xs items c.held) (append-nil script) (subst (λ (ss : List (List ℕ)). Cuts true (script ++ []) ss c.held) (append-nil items)
      (cuts_go_on true script [] items [] c.held c.held c.cut (rw (append-nil c.held) (e, refl))));
  is = refl;
}

pub cutting_more : (limit : ℕ) (script : List ℕ) (i : ℕ) (items : List (List ℕ)) (cutter : Seen) → i < length script
    → Cutting limit (take i script ++ get_or script i 0 ∷ []) items cutter → Cutting limit (take (i + 1) script) items cutter
cutting_more limit script i items cutter h c = rw (take_more script i 0 h) c

pub cutting_all : (limit : ℕ) (script : List ℕ) (i : ℕ) (items : List (List ℕ)) (cutter : Seen) → length script ≤ i
    → Cutting limit (take i script) items cutter → Cutting limit script items cutter
cutting_all limit script i items cutter h c = rw (take_all i script h) at c

-- ---- each script has one cut

statement_shrinks : (w : Bool) (bs : List ℕ) (found : List ℕ × List ℕ) → first_statement w bs ≡ Some found → length found.1 < length bs
statement_shrinks w [] found h = cc
statement_shrinks w (c ∷ cs) found h = grind (arith, line_shrinks, statement_shrinks w cs)

-- a script of at most n bytes has a cut, whole or as far as it has come
cut_within : (w : Bool) (n : ℕ) (script : List ℕ) → length script ≤ n → (o : Option (List ℕ × List ℕ)) → first_statement w script ≡ o
    → (ss : List (List ℕ)) × (rest : List ℕ) × Cuts w script ss rest
cut_within w n script h None e = ([], script, (e, refl))
cut_within w zero script h (Some found) e = absurd (omega (arith, statement_shrinks w script found e))
cut_within w (suc n) script h (Some found) e =
    let r : (ss : List (List ℕ)) × (rest : List ℕ) × Cuts w found.1 ss rest = cut_within w n found.1 (omega (arith, statement_shrinks w script found e)) (first_statement w found.1) refl in
    (found.0 ∷ r.0, r.1, (found.1, e, r.2))

pub some_cut : (w : Bool) (script : List ℕ) → (ss : List (List ℕ)) × (rest : List ℕ) × Cuts w script ss rest
some_cut w script = cut_within w (length script) script (omega arith) (first_statement w script) refl

pub whole_cut : (script : List ℕ) → (items : List (List ℕ)) × IsCut script items
whole_cut script =
    let c : (ss : List (List ℕ)) × (rest : List ℕ) × Cuts true script ss rest = some_cut true script in
    (c.0 ++ c.1 ∷ [], record { statements = c.0; rest = c.1; cut = c.2; is = refl })

pub whole_once : (script : List ℕ) (items others : List (List ℕ)) → IsCut script items → IsCut script others → items ≡ others
whole_once script items others x y =
    let r : (x.statements ≡ y.statements) × (x.rest ≡ y.rest) = cut_once true script x.statements y.statements x.rest y.rest x.cut y.cut in
    x.is ∙ rw (r.0, r.1) (sym y.is)
