use Rattle.std.proofs.Common.{List, map, ap, ◌∙◌}
use Rattle.std.specs.FinMap.{entries}
use Rattle.std.proofs.lemmas.Result.{IfOk-weaker}
use Rattle.tx_document.specs.declared.views.WordView.{WordView}
use Rattle.tx_document.specs.declared.views.SectionView.{SectionView}
use Rattle.tx_document.specs.Entries.{entry_of, section_place}
use Rattle.tx_document.specs.Places.{PlaceMap, with_places, with_word_places}
use Rattle.tx_document.proofs.PlaceLaws.{noted}
use Rattle.tx_document.proofs.views.DocView.entries.Goals as goal

pub returns : goal.returns
returns c =
    let words = c.in_ok-note_words.ensures ∙ ap (λ (ws : List WordView). with_word_places c.new-places.result ws) c.as_slice.ensures in
    let sections = c.in_ok-note_sections.ensures ∙ ap (λ (ss : List SectionView). with_places c.note_words.new.places (map section_place ss)) c.as_slice-2.ensures in
    let all = noted c.new-places.result c.note_words.new.places c.note_sections.new.places c.args.self.now.words (map section_place c.args.self.now.sections) c.new-places.ensures words sections in
    IfOk-weaker c.into_entries.result _ _ (λ v e. e ∙ ap (λ (m : PlaceMap). map entry_of (entries m)) all) c.into_entries.ensures
