-- What it makes of a CONTEXT index that it is tidy no more.
use Rattle.std.proofs.Common.{◌≡◌, ℕ, ℤ, ◌+◌, true, List, [], ◌∷◌, ◌++◌, length, Option, Some, None, refl, sym, ap, arith, length-append}
use Rattle.std.specs.Prelude.{is_some}
use Rattle.std.specs.Int.{to_be_bytes, w32}
use Rattle.std.specs.FinMap.{get, insert, remove}
use Rattle.ct_base.specs.declared.lists.Value.{Value}
use Rattle.tx_settings.specs.PrefsBytes.{prefs_bytes}
use Rattle.ix_kinds.specs.Indextypes.{IndexOf, untidied_index}
use Rattle.ix_kinds.specs.IndextypeLaws.{Untidies}
use Rattle.ix_rows.specs.Stores.{Tidiness}
use Rattle.ix_docmap.specs.Marks.{Pending}
use Rattle.ix_context.specs.Indexes.{Part, ContextIndex, texts_in}
use Rattle.ix_context.specs.Documents.{postings_by}
use Rattle.ix_context.specs.Places.{tidiness_byte}
use Rattle.ix_context.specs.Contexts.{context_rest, context_after, context_untidied, context}
use Rattle.ix_context.specs.laws.Bodies.{after_loss-untidied, untidy_is}
use Rattle.ix_context.specs.laws.Notes.{part_untidy}

-- the entry is as long as it was
pub rest_long : (x y : IndexOf ContextIndex) → x.prefs ≡ y.prefs → length (context_rest x) ≡ length (context_rest y)
rest_long x y prefs =
    let before = length-append (prefs_bytes x.prefs) (0 ∷ (to_be_bytes w32 (x.body.part.given + 1) ++ tidiness_byte x.body.part.tidiness ∷ [])) in
    let after = length-append (prefs_bytes y.prefs) (0 ∷ (to_be_bytes w32 (y.body.part.given + 1) ++ tidiness_byte y.body.part.tidiness ∷ [])) in
    let same : length (prefs_bytes x.prefs) ≡ length (prefs_bytes y.prefs) = ap (λ p. length (prefs_bytes p)) prefs in
    omega (arith, before, after, same)

-- a row that goes or changes makes it untidy itself
after_untidied : (r : ℤ) (old new : Option (List Value)) (cost : ℕ) (c : ContextIndex) → is_some old ≡ true → context_after r old new cost (context_untidied c) ≡ context_after r old new cost c
after_untidied r None new cost c lost = cc
after_untidied r (Some old) None cost c lost = ap (λ (p : Part). record { part = p; marks = remove c.marks r }) (after_loss-untidied (get c.marks r) cost c.part)
after_untidied r (Some old) (Some new) cost c lost = ap (λ (p : Part). record { part = p; marks = insert c.marks r Pending }) (after_loss-untidied (get c.marks r) cost c.part)

pub context_untidies : {D : Type 0} → Untidies (context {D = D})
context_untidies {D} = record {
  same = λ x. record { kind = refl; own = λ k. refl; looks = λ column. refl; resumes = λ place is. is };
  long = λ x. rest_long (untidied_index (context {D = D}) x) x refl;
  is = λ t x is. record { marks = is.marks; numbers = is.numbers };
  stands = λ f i x t stand. part_untidy f i (postings_by x.prefs (texts_in t x.column)) (get x.body.marks) x.body.part stand;
  loose = λ b. refl;
  unchanged = λ b loose. ap (λ (t : Tidiness). record b { part = record b.part { tidiness = t } }) (sym (untidy_is b.part.tidiness loose));
  after = λ c n b lost. after_untidied c.row c.old c.new n b lost;
  cost = λ i x vs. refl;
  changes = λ f i x columns c. refl;
}
