-- One step of the walk over the characters of a text.
use Rattle.std.proofs.Common.{◌≡◌, ◌+◌, ◌-◌, ℕ, List, ◌∷◌, ◌++◌, ◌∙◌, append_assoc, Option}
use Rattle.std.specs.Prelude.{option_to_list}
use Rattle.std.specs.Char.{len_utf8}
use Rattle.tx_tags.specs.declared.tags.TagView.{TagView}
use Rattle.tx_tags.specs.Tags.{GroupTag, tag_at, tags_from, left_at, kept_or_blank, blanked_from}

pub step-tags : (ts : List GroupTag) (old new all : List TagView) (place next c : ℕ) (text cs : List ℕ) (found : Option TagView)
    → text ≡ c ∷ cs → next ≡ place + len_utf8 c → found ≡ tag_at ts place text → new ≡ old ++ option_to_list found
    → old ++ tags_from ts place text ≡ all → new ++ tags_from ts next cs ≡ all
step-tags ts old new all place next c text cs found split goes its put so_far =
    rw (put, goes, its, split) (append_assoc old _ _ ∙ (rw split at so_far))

pub step-blanks : (ts : List GroupTag) (old new all : List ℕ) (place next left now after c : ℕ) (text cs : List ℕ) (found : Option TagView)
    → text ≡ c ∷ cs → next ≡ place + len_utf8 c → found ≡ tag_at ts place text → now ≡ left_at found left → after ≡ now - 1 → new ≡ old ++ kept_or_blank now c
    → old ++ blanked_from ts place left text ≡ all → new ++ blanked_from ts next after cs ≡ all
step-blanks ts old new all place next left now after c text cs found split goes its now_is after_is put so_far =
    rw (put, after_is, goes, now_is, its, split) (append_assoc old _ _ ∙ (rw split at so_far))
