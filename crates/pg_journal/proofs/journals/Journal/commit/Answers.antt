use Rattle.std.proofs.Common.{◌≡◌, ℕ, List, sym, subst}
use Rattle.ct_site.specs.Disks.{DiskView, Leaves}
use Rattle.pg_journal.specs.Pages.{Numbered}
use Rattle.pg_journal.specs.Standing.{IsEither, DiskStands}
use Rattle.pg_journal.proofs.journals.Journal.commit.Goals as goal

-- the same of the journal's own count
as_seen : (old new : DiskView) (homes seen : ℕ) (batch : List Numbered) → seen ≡ homes
    → ((ps : List (List ℕ)) → DiskStands old homes ps → Leaves old new (IsEither ps batch)) → (ps : List (List ℕ)) → DiskStands old seen ps → Leaves old new (IsEither ps batch)
as_seen old new homes seen batch one moments ps s = moments ps (subst (λ (n : ℕ). DiskStands old n ps) one s)

pub returns-in_err-commit_pages-clause-moments : goal.returns-in_err-commit_pages-clause-moments
returns-in_err-commit_pages-clause-moments g c = as_seen _ _ _ _ (g.B.ChangedPages.pages c.args.batch.now) (sym c.self.view_is) c.commit_pages.ensures.moments

pub returns-clause-moments : goal.returns-clause-moments
returns-clause-moments g c = as_seen _ _ _ _ (g.B.ChangedPages.pages c.args.batch.now) (sym c.self.view_is) c.commit_pages.ensures.moments
