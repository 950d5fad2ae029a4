-- What each step of a commit that is under way keeps.
use Rattle.std.proofs.Common.{◌≡◌, ℕ, ◌+◌, ◌-◌, ◌^◌, ◌<◌, ◌≤◌, Bool, true, false, cond, List, [], Some, None, sym, ap, subst, ◌∙◌, arith}
use Rattle.std.specs.Prelude.{is_some}
use Rattle.std.specs.FinMap.{get, insert, remove, empty}
use Rattle.ct_keep.specs.declared.undo_logs.OldEntry.{OldEntry}
use Rattle.ct_keep.specs.declared.undo_logs.UndoLog.{UndoLog}
use Rattle.ct_keep.specs.Content.{Content, entry_weight, weight, value_weight}
use Rattle.ct_keep.specs.laws.Content.{weight-set_to}
use Rattle.ct_keep.specs.Transactions.{staying, IsTransaction}
use Rattle.ct_keep.specs.Undoing.{HaveEntries, replaced_last}
use Rattle.ct_keep.proofs.ContentLaws.{get-staying, staying-none, staying-put, staying-gone, value_weight-le}

pub course_begins : (held gone : Content) (log : UndoLog) (total : ℕ) → gone ≡ empty → log.replaced.items ≡ [] → total ≡ weight held → IsTransaction held gone log total
course_begins held gone log total no_gone none is = record {
  weighs = is ∙ ap weight (sym (staying-none held) ∙ ap (staying held) (sym no_gone));
  noted = subst (λ (ns : List OldEntry). HaveEntries (replaced_last ns) held) (sym none) tt;
}

-- what stands at a key, by what is held and what is to go
pub get-staying_gone : (held gone : Content) (key : List ℕ) → is_some (get gone key) ≡ true → get (staying held gone) key ≡ None
get-staying_gone held gone key is = get-staying held gone key ∙ ap (λ (b : Bool). cond b None (get held key)) is

pub get-staying_held : (held gone : Content) (key : List ℕ) → is_some (get gone key) ≡ false → get (staying held gone) key ≡ get held key
get-staying_held held gone key is = get-staying held gone key ∙ ap (λ (b : Bool). cond b None (get held key)) is

-- one change adds less than so much
pub heavier_by : (m : Content) (key value : List ℕ) (more : ℕ) → entry_weight (key, value) ≡ more → more < 2 ^ 64 → weight (insert m key value) ≤ weight m + 2 ^ 64
heavier_by m key value more is fits = omega (arith, weight-set_to key (Some value) m, is, fits)

-- a key got a value
pub course_put : (held held' gone gone' : Content) (log log' : UndoLog) (key value : List ℕ) (total less more : ℕ) → IsTransaction held gone log total
    → held' ≡ insert held key value → gone' ≡ remove gone key → HaveEntries (replaced_last log'.replaced.items) held'
    → less ≡ value_weight key (get (staying held gone) key) → more ≡ entry_weight (key, value) → IsTransaction held' gone' log' (total - less + more)
course_put held held' gone gone' log log' key value total less more course h g noted l m = record {
  weighs =
      let seen = staying held gone in
      let after_put : staying held' gone' ≡ insert seen key value = rw (h, g) (staying-put held gone key value) in
      omega (arith, course.weighs, weight-set_to key (Some value) seen, value_weight-le seen key, ap weight after_put, l, m);
  noted = noted;
}

-- an entry is to go
pub course_removed : (held gone gone' : Content) (log : UndoLog) (key mark : List ℕ) (total less : ℕ) → IsTransaction held gone log total
    → gone' ≡ insert gone key mark → less ≡ value_weight key (get (staying held gone) key) → IsTransaction held gone' log (total - less)
course_removed held gone gone' log key mark total less course g l = record {
  weighs =
      let seen = staying held gone in
      let after_removal : staying held gone' ≡ remove seen key = ap (staying held) g ∙ staying-gone held gone key mark in
      omega (arith, course.weighs, weight-set_to key None seen, value_weight-le seen key, ap weight after_removal, l);
  noted = course.noted;
}

pub no_heavier : (m : Content) (key : List ℕ) → weight (remove m key) ≤ weight m + 2 ^ 64
no_heavier m key = omega (arith, weight-set_to key None m)
