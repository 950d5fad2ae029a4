use Rattle.std.proofs.Common.{◌<◌, ◌^◌, ℕ, List, length, sym, subst}
use Rattle.ix_context.specs.declared.places.Place.{Place}
use Rattle.ix_context.specs.Places.{IsPlace, place_bytes}
use Rattle.ix_context.proofs.PlaceSteps.{word_short}
use Rattle.ix_context.proofs.places.put_end.Goals as goal

pub put_text-requires : goal.put_text-requires
put_text-requires c =
    let short = word_short c.in-Word.stream c.in-Word.token (subst (λ (p : Place). IsPlace (place_bytes p)) c.in-Word.is c.requires) in
    subst (λ (l : List ℕ). length l < 2 ^ 32) (sym c.as_slice.ensures) short
