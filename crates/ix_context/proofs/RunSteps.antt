-- Steps of gathering runs of postings of one term.
use Rattle.std.proofs.Common.{◌≡◌, ℕ, Bool, true, false, cond, List, [], ◌∷◌, ◌++◌, refl, sym, ap, ◌∙◌}
use Rattle.tx_document.specs.declared.entries.Entry.{Entry}
use Rattle.ix_posting.specs.Forms.{counted_bytes, number_form, pair_form}
use Rattle.ix_rows.specs.Firsts.{first_positions}
use Rattle.ix_rows.specs.RowMaps.{TermRowsView}
use Rattle.ix_rows.specs.SpanRows.{section_term}
use Rattle.ix_rows.specs.WordRows.{word_term}
use Rattle.ix_rows.specs.laws.Runs.{with_run-push}
use Rattle.ix_context.specs.Gathering.{IndexRowsView, with_entry, with_section_entry, with_word_entry}
use Rattle.ix_context.specs.GatheringPortions.{entry_places, entry_term, with_term_run}
use Rattle.ix_context.specs.Postings.{is_section_entry}

-- a run without documents leaves all rows
pub no_run : (g : IndexRowsView) (is_section : Bool) (t : List ℕ) → with_term_run g is_section t [] ≡ g
no_run g true t = refl
no_run g false t = refl

pub none_wait : (g : IndexRowsView) (is_section : Bool) (t : List ℕ) (xs : List (ℕ × List ℕ)) → xs ≡ [] → with_term_run g is_section t xs ≡ g
none_wait g is_section t xs none = ap (with_term_run g is_section t) none ∙ no_run g is_section t

-- one more document of the run's term is an entry more
entry_of_its_term : (g : IndexRowsView) (xs : List (ℕ × List ℕ)) (d : ℕ) (e : Entry)
    → with_term_run g (is_section_entry e) (entry_term e) (xs ++ (d, entry_places e) ∷ []) ≡ with_entry (with_term_run g (is_section_entry e) (entry_term e) xs) d e
entry_of_its_term g xs d e = go (is_section_entry e)
  where
    section : List ℕ
    section = section_term e.token

    word : List ℕ
    word = word_term e.stream e.token

    go : (b : Bool) → with_term_run g b (cond b section word) (xs ++ (d, cond b (counted_bytes pair_form e.places) (counted_bytes number_form (first_positions e.places))) ∷ [])
        ≡ cond b (with_section_entry (with_term_run g b (cond b section word) xs) d e) (with_word_entry (with_term_run g b (cond b section word) xs) d e)
    go true = ap (λ (m : TermRowsView). record g { sections = m }) (with_run-push g.sections section xs d (counted_bytes pair_form e.places))
    go false = ap (λ (m : TermRowsView). record g { words = m }) (with_run-push g.words word xs d (counted_bytes number_form (first_positions e.places)))

pub entry_waits : (g : IndexRowsView) (is_section : Bool) (t : List ℕ) (xs ys : List (ℕ × List ℕ)) (d : ℕ) (places : List ℕ) (e : Entry)
    → is_section ≡ is_section_entry e → t ≡ entry_term e → places ≡ entry_places e → ys ≡ xs ++ (d, places) ∷ []
    → with_term_run g is_section t ys ≡ with_entry (with_term_run g is_section t xs) d e
entry_waits g is_section t xs ys d places e kind term put more =
    ap (with_term_run g is_section t) (more ∙ ap (λ (l : List ℕ). xs ++ (d, l) ∷ []) put)
    ∙ its (xs ++ (d, entry_places e) ∷ [])
    ∙ entry_of_its_term g xs d e
    ∙ sym (ap (λ (h : IndexRowsView). with_entry h d e) (its xs))
  where
    its : (zs : List (ℕ × List ℕ)) → with_term_run g is_section t zs ≡ with_term_run g (is_section_entry e) (entry_term e) zs
    its zs = ap (λ (b : Bool). with_term_run g b t zs) kind ∙ ap (λ (u : List ℕ). with_term_run g (is_section_entry e) u zs) term
