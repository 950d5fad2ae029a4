-- Which rows entries spell, and what is taken of one entry.
use Rattle.std.proofs.Common.{zero, suc, ℕ, ◌≡◌, ◌<◌, inl, inr, List, [], ◌∷◌, ◌++◌, length, take, None, Some, refl, sym, ap, subst, ◌∙◌, arith, append_assoc, append-nil}
use Rattle.std.specs.FinMap.{get, entries, nat_cmp-IsAntisymmetric, slice_cmp-IsAntisymmetric}
use Rattle.std.proofs.lemmas.Cmp.{nat_list_cmp_total}
use Rattle.ct_keep.specs.Content.{Content}
use Rattle.ct_keep.specs.Tail.{tail}
use Rattle.ct_keep.specs.laws.Tail.{get-tail, get-tail_nil, tail-tail}
use Rattle.ct_entry.specs.declared.kinds.Kind.TheVariants as kind
use Rattle.ct_entry.specs.Keys.{prefix_of}
use Rattle.ct_entry.specs.Lists.{IsIn}
use Rattle.ct_entry.specs.Listings.{owner_entries}
use Rattle.ct_entry.specs.laws.MapEntries.{get_in, in_get}
use Rattle.ix_posting.specs.Forms.{number_form}
use Rattle.ix_posting.specs.Rows.{WordDocument, DocumentsRise, IsPostingRow, posting_bytes}
use Rattle.ix_rows.specs.Taking.{SpellRows, AreTaken}
use Rattle.ix_rows.specs.WordRows.{word_term}
use Rattle.ix_tokens.specs.Tokens.{tokens_prefix}
use Rattle.ix_tokens.specs.Scanned.{TokenEntry}

abbrev pub Spell : List TokenEntry → List (List WordDocument) → Type 0
Spell es rows = SpellRows number_form es rows

-- a row that is spelt by the value of an entry
pub record IsSpelt (row : List WordDocument) (e : TokenEntry) : Type 0 where
  pub rules : IsPostingRow row
  pub bytes : posting_bytes row ≡ e.1

pub row_of_entry : (es : List TokenEntry) (rows : List (List WordDocument)) → Spell es rows → (e : TokenEntry) → IsIn e es → (row : List WordDocument) × IsIn row rows × IsSpelt row e
row_of_entry [] rows spell e there = absurd there
row_of_entry (x ∷ es) [] spell e there = absurd spell
row_of_entry (x ∷ es) (row ∷ rows) spell e (inl is) = (row, inl refl, record { rules = spell.0; bytes = spell.1 ∙ sym (ap (λ (y : TokenEntry). y.1) is) })
row_of_entry (x ∷ es) (row ∷ rows) spell e (inr there) = let rest = row_of_entry es rows spell.2 e there in (rest.0, inr rest.1, rest.2)

pub entry_of_row : (es : List TokenEntry) (rows : List (List WordDocument)) → Spell es rows → (row : List WordDocument) → IsIn row rows → (e : TokenEntry) × IsIn e es × IsSpelt row e
entry_of_row [] [] spell row there = absurd there
entry_of_row [] (r ∷ rows) spell row there = absurd spell
entry_of_row (x ∷ es) [] spell row there = absurd there
entry_of_row (x ∷ es) (r ∷ rows) spell row (inl is) = (x, inl refl, record { rules = subst IsPostingRow (sym is) spell.0; bytes = ap posting_bytes is ∙ spell.1 })
entry_of_row (x ∷ es) (r ∷ rows) spell row (inr there) = let rest = entry_of_row es rows spell.2 row there in (rest.0, inr rest.1, rest.2)

-- what is taken of one entry is the row that its value spells
pub taken_alone : (e : TokenEntry) (rows : List (List WordDocument)) (row : List WordDocument) → AreTaken number_form (e ∷ []) rows → IsSpelt row e → rows ≡ row ∷ []
taken_alone e rows row taken is = taken.all (row ∷ []) (record { spell = (is.rules, is.bytes, tt); rise = subst (DocumentsRise number_form 0) (sym (append-nil row)) is.rules.rise })

-- ---- the same entry under a literal and under its token

abbrev under : List ℕ → ℕ → ℕ → List ℕ → List ℕ
under i s n literal = prefix_of kind.Postings i ++ tokens_prefix s n literal

same_key : (i : List ℕ) (s n : ℕ) (literal more : List ℕ) → n ≡ length (literal ++ more) → under i s n literal ++ more ≡ prefix_of kind.Postings i ++ word_term s (literal ++ more)
same_key i s n literal more size =
    append_assoc (prefix_of kind.Postings i) (tokens_prefix s n literal) more
    ∙ ap (λ (k : ℕ). prefix_of kind.Postings i ++ s ∷ k ∷ (literal ++ more)) size

at_token : (m : Content) (i : List ℕ) (s n : ℕ) (literal more : List ℕ) (x : ℕ) (ds : List ℕ) → n ≡ length (literal ++ more)
    → get (tail (under i s n literal) m) (more ++ x ∷ ds) ≡ get (tail (prefix_of kind.Postings i ++ word_term s (literal ++ more)) m) (x ∷ ds)
at_token m i s n literal more x ds size =
    sym (get-tail more (tail (under i s n literal) m) x ds)
    ∙ ap (λ (c : Content). get c (x ∷ ds)) (tail-tail (under i s n literal) more m)
    ∙ ap (λ (p : List ℕ). get (tail p m) (x ∷ ds)) (same_key i s n literal more size)

pub under_token : (m : Content) (i : List ℕ) (s n : ℕ) (literal more : List ℕ) (x : ℕ) (ds v : List ℕ) → n ≡ length (literal ++ more)
    → IsIn (more ++ x ∷ ds, v) (owner_entries kind.Postings i (tokens_prefix s n literal) m) → IsIn (x ∷ ds, v) (owner_entries kind.Postings i (word_term s (literal ++ more)) m)
under_token m i s n literal more x ds v size there =
    get_in (slice_cmp-IsAntisymmetric nat_cmp-IsAntisymmetric) (tail (prefix_of kind.Postings i ++ word_term s (literal ++ more)) m) (x ∷ ds) v
    (sym (at_token m i s n literal more x ds size) ∙ in_get nat_list_cmp_total (tail (under i s n literal) m) (more ++ x ∷ ds, v) there)

pub under_literal : (m : Content) (i : List ℕ) (s n : ℕ) (literal more : List ℕ) (x : ℕ) (ds v : List ℕ) → n ≡ length (literal ++ more)
    → IsIn (x ∷ ds, v) (owner_entries kind.Postings i (word_term s (literal ++ more)) m) → IsIn (more ++ x ∷ ds, v) (owner_entries kind.Postings i (tokens_prefix s n literal) m)
under_literal m i s n literal more x ds v size there =
    get_in (slice_cmp-IsAntisymmetric nat_cmp-IsAntisymmetric) (tail (under i s n literal) m) (more ++ x ∷ ds) v
    (at_token m i s n literal more x ds size ∙ in_get nat_list_cmp_total (tail (prefix_of kind.Postings i ++ word_term s (literal ++ more)) m) (x ∷ ds, v) there)

pub no_nil : (p : List ℕ) (m : Content) (v : List ℕ) → IsIn ([], v) (entries (tail p m)) → ⊥
no_nil p m v there = let wrong : None ≡ Some v = sym (get-tail_nil p m) ∙ in_get nat_list_cmp_total (tail p m) ([], v) there in cc

-- ---- a rest that is longer than so much

pub record IsParted (more : ℕ) (xs : List ℕ) : Type 0 where
  pub first : ℕ
  pub later : List ℕ
  pub whole : xs ≡ take more xs ++ first ∷ later
  pub long : length (take more xs) ≡ more

pub parted : (more : ℕ) (xs : List ℕ) → more < length xs → IsParted more xs
parted more [] less = absurd (omega (arith, less))
parted zero (x ∷ xs) less = record { first = x; later = xs; whole = refl; long = refl }
parted (suc more) (x ∷ xs) less =
    let rest = parted more xs (omega (arith, less)) in
    record { first = rest.first; later = rest.later; whole = ap (λ (l : List ℕ). x ∷ l) rest.whole; long = ap suc rest.long }
