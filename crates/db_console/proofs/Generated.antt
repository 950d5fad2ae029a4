-- What a run over a generated script leaves, and a run without memory for its arguments.
use Rattle.std.specs.Prelude.{◌++◌, length}
use Rattle.std.proofs.Common.{◌≡◌, ◌+◌, ℕ, suc, List, Some, refl, sym, ap, subst, inl, inr, ◌∙◌, arith, length-append}
use Rattle.ct_site.specs.FaultCounts.{rose_raised}
use Rattle.ct_site.specs.Disks.{Beside, DiskView, IsSettled, leaves_none}
use Rattle.pg_journal.specs.declared.faults.LoadFault.TheVariants.{Memory}
use Rattle.pg_journal.specs.laws.Recovered.{alike_itself}
use Rattle.pg_keeper.specs.Loading.{AlikeOrOneMap}
use Rattle.db_state.specs.Shapes.{IsStoreEntry}
use Rattle.gen_script.specs.Scripts.{script}
use Rattle.gen_script.specs.Summaries.{summary}
use Rattle.db_console.specs.Generating.{Generates, HasHits, IsGenerated}
use Rattle.db_console.specs.Limits.{script_limit}
use Rattle.db_console.specs.Stores.{CompletesRun, FailsToLoad, SiteFaultsBy}
use Rattle.db_console.specs.Table.{TellsPast}

-- the script, of which a copy was run, and then the line
pub generated : (rows hits : ℕ) (bytes given copy line put all : List ℕ) → bytes ≡ script rows → given ≡ bytes → copy ≡ given → HasHits copy hits → line ≡ summary rows hits → put ≡ line → all ≡ bytes ++ put
    → IsGenerated rows all
generated rows hits bytes given copy line put all is read copied has sums shown joined = record {
  hits = hits;
  has = subst (λ (x : List ℕ). HasHits x hits) (copied ∙ read ∙ is) has;
  is = joined ∙ ap (λ (x : List ℕ). bytes ++ x) (shown ∙ sums) ∙ ap (λ (x : List ℕ). x ++ summary rows hits) is;
}

-- nothing was done: there was no memory, and the file is as it was
pub nothing_done : (image : List ℕ) (disk : DiskView) → IsSettled disk image → FailsToLoad image disk disk 5
nothing_done image disk settled = (
  Memory,
  refl,
  record {
    beside = refl;
    leaves = leaves_none disk (AlikeOrOneMap IsStoreEntry image) (λ left is. inl (alike_itself image left (settled.only left is)));
    kept = λ read needless. record { settled = settled; leaves = leaves_none disk (λ left. left ≡ image) settled.only };
    refused = λ same shut. let wrong : ⊥ = cc in absurd wrong;
  },
)

pub no_faults : (disk : DiskView) → SiteFaultsBy 5 disk disk
no_faults disk = record { hear = refl; say = refl; disk = refl }

pub complete_without_memory : (old new : DiskView) → CompletesRun 5 old new
complete_without_memory old new = record { completes = λ script told short hear say quiet. inr refl }

-- nothing was taken from the script, and it isn't said that more came
untaken : (taken left : List ℕ) → Some (taken ++ left) ≡ Some left → length taken ≡ suc script_limit → ⊥
untaken taken left e long =
    let one : taken ++ left ≡ left = cc in
    let same_length = ap (λ (l : List ℕ). length l) one in
    omega (arith, same_length, length-append taken left, long)

pub past_unheard : (status : ℕ) (old new : Beside) → new.left ≡ old.left → (status ≡ 8 → ⊥) → TellsPast script_limit status old new
past_unheard status old new same other = record { tells = λ taken left was now. (λ is. absurd (other is), λ long. absurd (untaken taken left (sym was ∙ sym same ∙ now) long)) }

-- ---- by the status of a generated script

module _ (rows status : ℕ) (old new : DiskView) where
  pub generates_faults : Generates rows status old new → (status ≡ 5 → SiteFaultsBy 5 old new) → SiteFaultsBy status old new
  generates_faults (inl said) five = rw said.0 (record { hear = said.3.says.hear_faults; say = said.3.counts; disk = said.3.says.faults })
  generates_faults (inr (inl part)) five = rw part.0 (record { hear = part.3.says.says.hear_faults; say = part.3.says.counts; disk = part.3.says.says.faults })
  generates_faults (inr (inr is)) five = rw is (five is)

  pub generates_left : Generates rows status old new → (status ≡ 5 → new.beside ≡ old.beside) → new.beside.left ≡ old.beside.left
  generates_left (inl said) five = said.3.says.left
  generates_left (inr (inl part)) five = part.3.says.says.left
  generates_left (inr (inr is)) five = ap (λ (b : Beside). b.left) (five is)

  pub generates_never : (other : ℕ) → Generates rows status old new → (other ≡ 0 → ⊥) → (other ≡ 4 → ⊥) → (other ≡ 5 → ⊥) → status ≡ other → ⊥
  generates_never other (inl said) zero four five is = zero (sym is ∙ said.0)
  generates_never other (inr (inl part)) zero four five is = four (sym is ∙ part.0)
  generates_never other (inr (inr no_memory)) zero four five is = five (sym is ∙ no_memory)

  pub generates_completes : Generates rows status old new → CompletesRun status old new
  generates_completes (inl said) = record { completes = λ script told short hear say quiet. inl said.0 }
  generates_completes (inr (inl part)) = record { completes = λ script told short hear say quiet. absurd (say (rose_raised old.beside.say_faults new.beside.say_faults part.3.says.counts)) }
  generates_completes (inr (inr is)) = record { completes = λ script told short hear say quiet. inr is }
