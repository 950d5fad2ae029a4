-- Laws of writes that count as one.
use Rattle.std.specs.Prelude.{◌≡◌, ℕ, ◌+◌, ◌-◌, ◌≤◌, List, [], ◌++◌, length, take, drop, Option, None, Some, Result, Ok, Err, OnOk, IsErr, refl}
use Rattle.std.specs.Option.{option_map}
use Rattle.std.proofs.Common.{sym, ap, subst, ◌∙◌, arith, append_assoc, append-nil, length-append, take-take, take-append-drop}
use Rattle.std.proofs.lemmas.List.{drop-drop, take_at, drop_at, length-take-le}
use Rattle.std.proofs.lemmas.Bool.{false≢true}
use Rattle.ct_site.specs.declared.outside.Failed.{Failed}
use Rattle.ct_site.specs.Images.{written, Torn}
use Rattle.ct_site.specs.Pieces.{torn_none, length-written}
use Rattle.ct_site.specs.Disks.{DiskView, FollowsBy, Leaves, leaves_more, leaves_none, leaves_then}
use Rattle.ct_site.specs.Lengths.{Lengthens, IsWithin}
use Rattle.ct_site.specs.Writing.{IsCutShort, Writes, Progress, DiskGives}
use Rattle.ct_site.specs.laws.Lengths.{grows_more, grows_same, grows_between}

pub torn_within : (at n p q : ℕ) (a b c : List ℕ) → at ≤ p → p + q ≤ at + n → Torn at n a b → Torn p q b c → Torn at n a c
torn_within at n p q a b c from to first second =
    let k = at + n - (p + q) in
    let sum : p + q + k ≡ at + n = omega arith in
    let prefix : (x : List ℕ) → take at (take p x) ≡ take at x = λ x. take-take at p x from in
    let back : (x : List ℕ) → drop k (drop (p + q) x) ≡ drop (at + n) x = λ x. drop-drop k (p + q) x ∙ ap (λ (m : ℕ). drop m x) sum in
    record {
      before = sym (prefix c) ∙ ap (λ (l : List ℕ). take at l) second.before ∙ prefix b ∙ first.before;
      after = sym (back c) ∙ ap (λ (l : List ℕ). drop k l) second.after ∙ back b ∙ first.after;
      no_shorter = omega (arith, first.no_shorter, second.no_shorter);
      no_longer = omega (arith, first.no_longer, second.no_longer);
    }

pub torn_more : (at n m : ℕ) (a b : List ℕ) → n ≤ m → Torn at n a b → Torn at m a b
torn_more at n m a b less torn = torn_within at m at n a a b (omega arith) (omega (arith, less)) (torn_none at m a) torn

-- two writes, one behind the other, are one
pub written_then : (at : ℕ) (a b x : List ℕ) → at ≤ length x → written (at + length a) b (written at a x) ≡ written at (a ++ b) x
written_then at a b x within =
    let prefix = length-take-le at x within in
    let long : length (take at x ++ a) ≡ at + length a = omega (arith, length-append (take at x) a, prefix) in
    let sum : at + length a + length b ≡ at + length (a ++ b) = omega (arith, length-append a b) in
    let kept : take (at + length a) (written at a x) ≡ take at x ++ a = take_at (take at x ++ a) (drop (at + length a) x) (at + length a) long in
    let rest : drop (at + length a + length b) (written at a x) ≡ drop (at + length (a ++ b)) x =
    sym (drop-drop (length b) (at + length a) (written at a x))
    ∙ ap (λ (l : List ℕ). drop (length b) l) (drop_at (take at x ++ a) (drop (at + length a) x) (at + length a) long)
    ∙ drop-drop (length b) (at + length a) x ∙ ap (λ (n : ℕ). drop n x) sum in
    ap (λ (l : List ℕ). l ++ b ++ drop (at + length a + length b) (written at a x)) kept
    ∙ ap (λ (l : List ℕ). take at x ++ a ++ b ++ l) rest
    ∙ ap (λ (l : List ℕ). l ++ drop (at + length (a ++ b)) x) (append_assoc (take at x) a b)

pub written_nothing : (at : ℕ) (x : List ℕ) → written at [] x ≡ x
written_nothing at x =
    let e : at + 0 ≡ at = omega arith in
    ap (λ (l : List ℕ). l ++ drop (at + 0) x) (append-nil (take at x)) ∙ ap (λ (n : ℕ). take at x ++ drop n x) e ∙ take-append-drop at x

pub writes_nothing : (at : ℕ) (disk : DiskView) → Writes at [] disk disk (Ok tt)
writes_nothing at disk = record {
  written = of disk.image;
  leaves = leaves_none disk _ (λ x left. record { before = x; left = left; torn = torn_none at 0 x });
  grows = grows_same (at + 0) disk disk refl;
}
  where
    of : (image : Option (List ℕ)) → image ≡ option_map (written at []) image
    of None = refl
    of (Some x) = ap Some (sym (written_nothing at x))

-- one write of a disk
pub writes_one : (at : ℕ) (bytes : List ℕ) (old new : DiskView) (result : Result (Unit {0}) Failed) → OnOk result (new.image ≡ option_map (written at bytes) old.image)
    → FollowsBy (Torn at (length bytes)) old.may_leave new.may_leave → Leaves old new new.may_leave → Lengthens (at + length bytes) old new → Writes at bytes old new result
writes_one at bytes old new result is crash leaves grows = record {
  written = is;
  leaves = leaves_more old new _ _ leaves (λ x left. let f = crash x left in record { before = f.0; left = f.1; torn = f.2 });
  grows = grows;
}

cut_prefix : (at : ℕ) (a b : List ℕ) (old : DiskView) (x : List ℕ) → IsCutShort at (length a) old x → IsCutShort at (length (a ++ b)) old x
cut_prefix at a b old x cut = record { before = cut.before; left = cut.left; torn = torn_more at (length a) (length (a ++ b)) cut.before x (omega (arith, length-append a b)) cut.torn }

cut_back : (at : ℕ) (a b : List ℕ) (old mid : DiskView) → ((x : List ℕ) → mid.may_leave x → IsCutShort at (length a) old x) → (x : List ℕ) → IsCutShort (at + length a) (length b) mid x → IsCutShort at (length (a ++ b)) old x
cut_back at a b old mid here x cut =
    let first = here cut.before cut.left in
    record {
      before = first.before;
      left = first.left;
      torn = torn_within at (length (a ++ b)) (at + length a) (length b) first.before cut.before x (omega arith) (omega (arith, length-append a b))
          (torn_more at (length a) (length (a ++ b)) first.before cut.before (omega (arith, length-append a b)) first.torn) cut.torn;
    }

-- some writes, and then some behind them
pub writes_then : (at next : ℕ) (a b : List ℕ) (old mid new : DiskView) (result : Result (Unit {0}) Failed) → IsWithin at old → next ≡ at + length a → Writes at a old mid (Ok tt) → Writes next b mid new result
    → Writes at (a ++ b) old new result
writes_then at next a b old mid new result within is first second = record {
  written = on_ok result (λ e. of old.image within.least first.written (e ∙ ap (λ (n : ℕ). option_map (written n b) mid.image) is)) second.written;
  leaves = leaves_then old mid new _ (leaves_more old mid _ _ first.leaves (cut_prefix at a b old))
      (leaves_more mid new _ _ second.leaves (λ x cut. cut_back at a b old mid first.leaves.now x (ap_cut x cut)));
  grows = record {
    bounds = λ image x told given.
        let long : at + length (a ++ b) ≡ next + length b = omega (arith, is, length-append a b) in
        grows_between (at + length (a ++ b)) old mid new image (written at a image) x
        (grows_more (at + length a) (at + length (a ++ b)) old mid (omega (arith, long, is)) first.grows)
        (grows_more (next + length b) (at + length (a ++ b)) mid new (omega (arith, long)) second.grows) told (first.written ∙ ap (option_map (written at a)) told) given;
  };
}
  where
    ap_cut : (x : List ℕ) → IsCutShort next (length b) mid x → IsCutShort (at + length a) (length b) mid x
    ap_cut x cut = record { before = cut.before; left = cut.left; torn = subst (λ (n : ℕ). Torn n (length b) cut.before x) is cut.torn }

    on_ok : {P Q : Type 0} (r : Result (Unit {0}) Failed) → (P → Q) → OnOk r P → OnOk r Q
    on_ok (Ok u) f p = f p
    on_ok (Err e) f p = p

    of : (was : Option (List ℕ)) → ((image : List ℕ) → was ≡ Some image → at ≤ length image) → mid.image ≡ option_map (written at a) was → new.image ≡ option_map (written (at + length a) b) mid.image
        → new.image ≡ option_map (written at (a ++ b)) was
    of None least one two = two ∙ ap (option_map (written (at + length a) b)) one
    of (Some x) least one two = two ∙ ap (option_map (written (at + length a) b)) one ∙ ap Some (written_then at a b x (least x refl))

-- some writes of which the last one failed are some of more bytes that failed
pub writes_failed : (at : ℕ) (a b : List ℕ) (old new : DiskView) (last all : Result (Unit {0}) Failed) → IsErr all → Writes at a old new last → Writes at (a ++ b) old new all
writes_failed at a b old new last (Ok u) err writes = absurd (false≢true err)
writes_failed at a b old new last (Err fault) err writes = record {
  written = tt;
  leaves = leaves_more old new _ _ writes.leaves (cut_prefix at a b old);
  grows = grows_more (at + length a) (at + length (a ++ b)) old new (omega (arith, length-append a b)) writes.grows;
}

-- behind what was written is within what a read gives then
pub within_then : (at : ℕ) (bytes : List ℕ) (old new : DiskView) → IsWithin at old → Writes at bytes old new (Ok tt) → IsWithin (at + length bytes) new
within_then at bytes old new within writes = record { least = of old.image within.least writes.written }
  where
    of : (was : Option (List ℕ)) → ((image : List ℕ) → was ≡ Some image → at ≤ length image) → new.image ≡ option_map (written at bytes) was → (image : List ℕ) → new.image ≡ Some image → at + length bytes ≤ length image
    of None least is image told = absurd (cc (told, is))
    of (Some x) least is image told =
        let same : image ≡ written at bytes x = cc (told, is) in
        omega (arith, ap (λ (l : List ℕ). length l) same, length-written at bytes x (least x refl))

-- ---- writing piece by piece

pub progress_none : (at : ℕ) (all : List ℕ) (disk : DiskView) → IsWithin at disk → Progress at at all all disk disk
progress_none at all disk within = record { done = []; is = refl; place = omega arith; here = within; within = within; writes = writes_nothing at disk }

pub progress_step : (at next then_ : ℕ) (all left a rest : List ℕ) (old mid new : DiskView) → left ≡ a ++ rest → then_ ≡ next + length a → Progress at next all left old mid → Writes next a mid new (Ok tt)
    → Progress at then_ all rest old new
progress_step at next then_ all left a rest old mid new parts is p w = record {
  done = p.done ++ a;
  is = append_assoc p.done a rest ∙ ap (λ (l : List ℕ). p.done ++ l) (sym parts) ∙ p.is;
  place = omega (arith, is, p.place, length-append p.done a);
  here = p.here;
  within = subst (λ (n : ℕ). IsWithin n new) (sym is) (within_then next a mid new p.within w);
  writes = writes_then at next p.done a old mid new (Ok tt) p.here p.place p.writes w;
}

pub progress_done : (at next : ℕ) (all rest : List ℕ) (old now : DiskView) → rest ≡ [] → Progress at next all rest old now → Writes at all old now (Ok tt)
progress_done at next all rest old now none p = subst (λ (l : List ℕ). Writes at l old now (Ok tt)) (sym (append-nil p.done) ∙ ap (λ (l : List ℕ). p.done ++ l) (sym none) ∙ p.is) p.writes

pub progress_failed : (at next : ℕ) (all left a rest : List ℕ) (old mid new : DiskView) (last end : Result (Unit {0}) Failed) → IsErr end → left ≡ a ++ rest → Progress at next all left old mid → Writes next a mid new last
    → Writes at all old new end
progress_failed at next all left a rest old mid new last end err parts p w =
    subst (λ (l : List ℕ). Writes at l old new end) (append_assoc p.done a rest ∙ ap (λ (l : List ℕ). p.done ++ l) (sym parts) ∙ p.is)
    (writes_failed at (p.done ++ a) rest old new last end err (writes_then at next p.done a old mid new last p.here p.place p.writes w))

-- the last piece, however it ends
pub progress_end : (at next : ℕ) (all left : List ℕ) (old mid new : DiskView) (result : Result (Unit {0}) Failed) → Progress at next all left old mid → Writes next left mid new result → Writes at all old new result
progress_end at next all left old mid new result p w = subst (λ (l : List ℕ). Writes at l old new result) p.is (writes_then at next p.done left old mid new result p.here p.place p.writes w)

-- ---- what holds of each image

pub gives_written : (P Q : List ℕ → Type 0) (at : ℕ) (bytes : List ℕ) (old new : DiskView) → DiskGives P old → Writes at bytes old new (Ok tt) → ((x : List ℕ) → P x → Q (written at bytes x)) → DiskGives Q new
gives_written P Q at bytes old new gives writes step = record {
  image = written at bytes gives.image;
  is = writes.written ∙ ap (option_map (written at bytes)) gives.is;
  has = step gives.image gives.has;
}

-- what a write keeps when it is cut short, it keeps at each moment
pub writes_keep : (P : List ℕ → Type 0) (at : ℕ) (bytes : List ℕ) (old new : DiskView) (result : Result (Unit {0}) Failed) → Writes at bytes old new result
    → ((x y : List ℕ) → P x → Torn at (length bytes) x y → P y) → ((x : List ℕ) → old.may_leave x → P x) → Leaves old new P
writes_keep P at bytes old new result writes step here =
    leaves_more old new _ _ writes.leaves (λ x cut. step cut.before x (here cut.before cut.left) cut.torn)

pub on_ok_always : {T E P : Type 0} (r : Result T E) → P → OnOk r P
on_ok_always (Ok x) p = p
on_ok_always (Err e) p = tt
