-- What a disk in memory was like at each moment, from its first image and the calls that changed something.
use Rattle.std.specs.Prelude.{◌≡◌, ◌⊎◌, ℕ, ◌<◌, ◌≤◌, List, [], ◌∷◌, ◌++◌, length, take, codes, refl}
use Rattle.std.proofs.Common.{inl, inr, sym, ◌∙◌, ap, subst, arith, length-append, append-nil, append_assoc}
use Rattle.std.proofs.lemmas.Bool.{cases_lt}
use Rattle.std.proofs.lemmas.List.{take_all, take-append-le}
use Rattle.ct_base.specs.Moments.{Timeline, Passes, Grows}
use Rattle.ct_site.specs.Images.{written, Torn}

-- a call that changed something
pub data DiskChange : Type 0 where
  Wrote : ℕ → List ℕ → DiskChange
  Synced : DiskChange
  Said : List ℕ → DiskChange

-- between two calls: what a read gives, and what a crash may leave
pub record DiskState : Type 1 where
  pub image : List ℕ
  pub may_leave : List ℕ → Type 0

abbrev pub begun : List ℕ → DiskState
begun image = record { image = image; may_leave = λ x. x ≡ image }

-- One that might be left before, and was then torn by a write of so many bytes at this place.
pub record IsTorn (before : List ℕ → Type 0) (at n : ℕ) (x : List ℕ) : Type 0 where
  pub from : List ℕ
  pub left : before from
  pub torn : Torn at n from x

abbrev pub next : DiskState → DiskChange → DiskState
next s (Wrote at bytes) = record { image = written at bytes s.image; may_leave = λ x. (x ≡ written at bytes s.image) ⊎ IsTorn s.may_leave at (length bytes) x }
next s Synced = record { image = s.image; may_leave = λ x. x ≡ s.image }
next s (Said bytes) = s

abbrev pub disk_after : DiskState → List DiskChange → DiskState
disk_after s [] = s
disk_after s (c ∷ cs) = disk_after (next s c) cs

-- what was said in one call, and in all
abbrev pub said_in : DiskChange → List ℕ
said_in (Wrote at bytes) = []
said_in Synced = []
said_in (Said bytes) = bytes

abbrev pub said_by : List DiskChange → List ℕ
said_by [] = []
said_by (c ∷ cs) = said_in c ++ said_by cs

pub after-push : (s : DiskState) (cs : List DiskChange) (c : DiskChange) → disk_after s (cs ++ c ∷ []) ≡ next (disk_after s cs) c
after-push s [] c = refl
after-push s (d ∷ cs) c = after-push (next s d) cs c

pub said_by-push : (cs : List DiskChange) (c : DiskChange) → said_by (cs ++ c ∷ []) ≡ said_by cs ++ said_in c
said_by-push [] c = append-nil (said_in c)
said_by-push (d ∷ cs) c = ap (λ (l : List ℕ). said_in d ++ l) (said_by-push cs c) ∙ sym (append_assoc (said_in d) (said_by cs) (said_in c))

-- a crash may leave what a read gives
pub image_left : (s : DiskState) (cs : List DiskChange) → s.may_leave s.image → (disk_after s cs).may_leave (disk_after s cs).image
image_left s [] h = h
image_left s (Wrote at bytes ∷ cs) h = image_left (next s (Wrote at bytes)) cs (inl refl)
image_left s (Synced ∷ cs) h = image_left (next s Synced) cs refl
image_left s (Said bytes ∷ cs) h = image_left s cs h

-- One of the moments from t on: after so many calls.
pub record Moment (first : List ℕ) (log : List DiskChange) (t : ℕ) (image said : List ℕ) : Type 0 where
  pub count : ℕ
  pub from : t ≤ count
  pub to : count ≤ length log
  pub left : (disk_after (begun first) (take count log)).may_leave image
  pub told : said ≡ said_by (take count log)

abbrev pub timeline : List ℕ → List DiskChange → Timeline (List ℕ)
timeline first log = record { clock = length log; since = Moment first log }

-- ---- laws: the present is a moment, and since now the only one
pub moment_now : (first : List ℕ) (log : List DiskChange) (t : ℕ) (image said : List ℕ) → t ≤ length log → (disk_after (begun first) log).may_leave image → said ≡ said_by log → Moment first log t image said
moment_now first log t image said le left told =
    let all : take (length log) log ≡ log = take_all (length log) log (omega arith) in
    record {
      count = length log;
      from = le;
      to = omega arith;
      left = subst (λ (l : List DiskChange). (disk_after (begun first) l).may_leave image) (sym all) left;
      told = told ∙ ap said_by (sym all);
    }

pub left_now : (first : List ℕ) (log : List DiskChange) (image said : List ℕ) → Moment first log (length log) image said → (disk_after (begun first) log).may_leave image
left_now first log image said m = subst (λ (l : List DiskChange). (disk_after (begun first) l).may_leave image) (take_all m.count log m.from) m.left

pub said_now : (first : List ℕ) (log : List DiskChange) (image said : List ℕ) → Moment first log (length log) image said → said ≡ said_by log
said_now first log image said m = m.told ∙ ap said_by (take_all m.count log m.from)

-- ---- one call more
pub keeps_push : (first : List ℕ) (log : List DiskChange) (c : DiskChange) → Grows (timeline first log) (timeline first (log ++ c ∷ []))
keeps_push first log c = record {
  later = omega (arith, length-append log (c ∷ []));
  kept = λ t image said le m.
      let same : take m.count (log ++ c ∷ []) ≡ take m.count log = take-append-le m.count log (c ∷ []) m.to in
      record {
        count = m.count;
        from = m.from;
        to = omega (arith, m.to, length-append log (c ∷ []));
        left = subst (λ (l : List DiskChange). (disk_after (begun first) l).may_leave image) (sym same) m.left;
        told = m.told ∙ ap said_by (sym same);
      };
}

-- it adds the moments after it alone
pub passes_push : (first : List ℕ) (log : List DiskChange) (c : DiskChange) (P : List ℕ → List ℕ → Type 0)
    → ((image said : List ℕ) → (next (disk_after (begun first) log) c).may_leave image → said ≡ said_by log ++ said_in c → P image said)
    → Passes (timeline first log) (timeline first (log ++ c ∷ [])) P
passes_push first log c P here = record { adds = λ t image said m. of t image said m (cases_lt (length log) m.count) }
  where
    of : (t : ℕ) (image said : List ℕ) (m : Moment first (log ++ c ∷ []) t image said) → (length log < m.count) ⊎ (m.count ≤ length log) → Moment first log t image said ⊎ P image said
    of t image said m (inr le) =
        let same : take m.count (log ++ c ∷ []) ≡ take m.count log = take-append-le m.count log (c ∷ []) le in
        inl (record {
          count = m.count;
          from = m.from;
          to = le;
          left = subst (λ (l : List DiskChange). (disk_after (begun first) l).may_leave image) same m.left;
          told = m.told ∙ ap said_by same;
        })
    of t image said m (inl more) =
        let all : take m.count (log ++ c ∷ []) ≡ log ++ c ∷ [] = take_all m.count (log ++ c ∷ []) (omega (arith, more, length-append log (c ∷ []))) in
        let is : disk_after (begun first) (take m.count (log ++ c ∷ [])) ≡ next (disk_after (begun first) log) c = ap (disk_after (begun first)) all ∙ after-push (begun first) log c in
        inr (here image said (subst (λ (s : DiskState). s.may_leave image) is m.left) (m.told ∙ ap said_by all ∙ said_by-push log c))

-- ---- computed examples: of `abcd`, over which `XY` was written and not synced, and then `Z` at its end
abbrev example : List DiskChange
example = Wrote 1 (codes "XY") ∷ Said (codes "ok") ∷ Wrote 4 (codes "Z") ∷ []

reads_both : (disk_after (begun (codes "abcd")) example).image ≡ codes "aXYdZ"
reads_both = refl

leaves_the_first : (disk_after (begun (codes "abcd")) example).may_leave (codes "abcd")
leaves_the_first = inr (record {
  from = codes "abcd";
  left = inr (record { from = codes "abcd"; left = refl; torn = record { before = refl; after = refl; no_shorter = omega arith; no_longer = omega arith } });
  torn = record { before = refl; after = refl; no_shorter = omega arith; no_longer = omega arith };
})

leaves_the_last : (disk_after (begun (codes "abcd")) example).may_leave (codes "aXYdZ")
leaves_the_last = inl refl

said_in_all : said_by example ≡ codes "ok"
said_in_all = refl

synced_leaves_one : (x : List ℕ) → (disk_after (begun (codes "abcd")) (example ++ Synced ∷ [])).may_leave x → x ≡ codes "aXYdZ"
synced_leaves_one x is = is
