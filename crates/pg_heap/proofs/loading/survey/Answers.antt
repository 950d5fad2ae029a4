use Rattle.std.proofs.Common.{ℕ, List, length, sym, ap, subst, ◌∙◌}
use Rattle.std.proofs.lemmas.List.{length-map}
use Rattle.ct_site.specs.laws.Calls.{same_then}
use Rattle.pg_change.specs.Resting.{IsResting}
use Rattle.pg_directory.specs.Noting.{note_of}
use Rattle.pg_directory.specs.OpenStore.{ArePlaces, NameAll}
use Rattle.pg_directory.specs.Unused.{unused_to}
use Rattle.pg_directory.specs.laws.OpenStore.{leaves_name, places_kept}
use Rattle.pg_directory.specs.declared.noting.PageNote.{PageNote}
use Rattle.pg_heap.proofs.Loadings.{holds_on}
use Rattle.pg_heap.proofs.loading.survey.Goals as goal

pub returns-clause-unused : goal.returns-clause-unused
returns-clause-unused g c = λ pages opened.
    let notes = c.deref.ensures.value ∙ opened.notes in
    c.in-Ok.ensures pages notes ∙ ap (unused_to pages) (ap (λ (l : List PageNote). length l) notes ∙ length-map pages note_of)

pub returns-clause-total : goal.returns-clause-total
returns-clause-total g c = λ pages opened holds.
    c.in-Ok-weigh.ensures.weight c.args.store.now.top pages opened.held (holds_on _ _ _ _ pages c.all_places.ensures.same holds) opened.layout
    (subst (ArePlaces pages) (sym c.deref-5.ensures.value) (c.in-Ok-all_places.ensures.places c.args.store.now.top pages holds
    (λ none. subst (ArePlaces pages) (sym c.deref-4.ensures.value) (places_kept c.args.store.now pages opened none))
    (λ some. subst (NameAll pages) (sym c.deref-3.ensures.value) (leaves_name c.args.store.now pages opened some))))

pub returns-clause-counted : goal.returns-clause-counted
returns-clause-counted g c = λ pages opened holds.
    c.in-Ok-count_owners.ensures.counts c.args.store.now.top pages opened.held (holds_on _ _ _ _ pages (same_then _ _ _ c.all_places.ensures.same c.weigh.ensures.same) holds) opened.layout
    (subst (ArePlaces pages) (sym c.deref-6.ensures.value) (c.in-Ok-all_places.ensures.places c.args.store.now.top pages holds
    (λ none. subst (ArePlaces pages) (sym c.deref-4.ensures.value) (places_kept c.args.store.now pages opened none))
    (λ some. subst (NameAll pages) (sym c.deref-3.ensures.value) (leaves_name c.args.store.now pages opened some))))

pub returns-clause-rests : goal.returns-clause-rests
returns-clause-rests g c =
    subst (λ (h : ℕ). IsResting c.in-Ok-sheets_at_rest.sheets.items h c.in-Ok.unused.items) c.homes.ensures.homes
    (subst (λ (f : List ℕ). IsResting c.in-Ok-sheets_at_rest.sheets.items c.homes.result f) c.deref-2.ensures.value c.in-Ok-sheets_at_rest.ensures)
