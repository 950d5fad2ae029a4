-- What a content holds after a commit.
use Rattle.std.proofs.Common.{◌≡◌, List, Result, Ok, Err}
use Rattle.std.specs.Result.{OnOk, OnErr}
use Rattle.ct_keep.specs.Content.{Content, Change, after}
use Rattle.ct_keep.specs.Changes.{AnyEntry, AreWell, HoldsEntries}
use Rattle.ct_keep.specs.laws.Changes.{holds_after}

pub holds_done : {T E : Type 0} (result : Result T E) (m next : Content) (changes ws : List Change) → HoldsEntries m → AreWell AnyEntry ws → changes ≡ ws → OnOk result (next ≡ after changes m) → OnErr result (next ≡ m) → HoldsEntries next
holds_done (Ok x) m next changes ws h a is ok err = rw (ok, is) (holds_after AnyEntry m ws h a)
holds_done (Err e) m next changes ws h a is ok err = rw err h
