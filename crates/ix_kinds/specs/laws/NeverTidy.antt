-- Kinds of which no index is ever tidy have what is asked of indexes before a row is lost.
use Rattle.std.proofs.Common.{◌≡◌, List, ℕ, length, Option, false, refl, sym, ap, subst, ◌∙◌}
use Rattle.ct_entry.specs.Keys.{Key}
use Rattle.ix_kinds.specs.Indextypes.{IndexOf, Indextype, with_body, untidied_index}
use Rattle.ix_kinds.specs.IndextypeLaws.{SameKind, Untidies}

module _ {B A D R : Type 0} (K : Indextype B A D R) where
  pub never_tidy : ((b : B) → K.untidied b ≡ b) → ((b : B) → K.tidy b ≡ false) → Untidies K
  never_tidy same never = record {
    same = λ x. subst (SameKind K x) (sym (whole x)) (record { kind = refl; own = λ k. refl; looks = λ column. refl; resumes = λ place resumes. resumes });
    long = λ x. ap (λ (y : IndexOf B). length (K.rest y)) (whole x);
    is = λ t x is. subst (K.is t) (sym (whole x)) is;
    stands = λ f i x t stands. subst (λ (y : IndexOf B). K.stands f i y t) (sym (whole x)) stands;
    loose = λ b. ap K.tidy (same b) ∙ never b;
    unchanged = λ b untidy. same b;
    after = λ c n b lost. ap (K.after_row c n) (same b);
    cost = λ i x vs. ap (λ (y : IndexOf B). K.cost i y vs) (whole x);
    changes = λ f i x columns c. ap (λ (y : IndexOf B). K.row_changes i y columns c (K.read f i y c.row)) (whole x);
  }
    where
      whole : (x : IndexOf B) → untidied_index K x ≡ x
      whole x = ap (with_body x) (same x.body)
