use Rattle.std.specs.Option.{option_map}
use Rattle.std.proofs.Common.{ℕ, List, [], ◌∷◌, sym, ap, ◌∙◌}
use Rattle.pg_map.specs.Kinds.{Slotted, strings_of}
use Rattle.pg_cache.specs.Caches.{bytes_at}
use Rattle.pg_window.specs.Sheets.{sheet_kind}
use Rattle.pg_change.specs.NotedEdits.{edit_map}
use Rattle.pg_change.proofs.DiskReads.{reads_yet, same_yet}
use Rattle.pg_change.proofs.Unmoved.{none_noted, no_strings, page_noted, found_behind, sheet_noted, within_cache}
use Rattle.pg_change.proofs.editing.note_sheet.Goals as goal

pub returns-in_default : goal.returns-in_default
returns-in_default g c = record {
  ordered = λ was. was;
  noted = λ top pages holds low. none_noted pages c.args.number (strings_of (sheet_kind c.args.sheet.now ∷ [])) (edit_map c.args.edits.now.entries) (no_strings c.args.sheet.now c.in_default.not-Slotted);
  cache = c.requires;
  same = same_yet _;
  full = λ is. absurd (cc is);
  reads = reads_yet _;
}

pub note_found-requires : goal.note_found-requires
note_found-requires g c = within_cache c.in-Ok.found c.args.number c.args.journal.now c.page_behind.new.cache c.in-Ok.ensures.behind

pub returns-clause-noted : goal.returns-clause-noted
returns-clause-noted g c = λ top pages holds low.
    let new = edit_map c.note_found.new.edits.entries in
    let ss = c.deref.result.now in
    let found = c.in-Ok.found in
    let cache = c.page_behind.new.cache in
    sheet_noted pages c.args.number ss (sheet_kind c.args.sheet.now) (edit_map c.args.edits.now.entries) new (ap sheet_kind c.in-Slotted.is ∙ ap (λ (l : List (List ℕ)). Slotted l) (sym c.deref.ensures))
    (page_noted pages c.args.number (option_map (bytes_at cache) found) ss (edit_map c.args.edits.now.entries) new holds.are low
    (found_behind pages c.args.number c.args.journal.now found cache holds.count c.in-Ok.ensures.behind (λ less. c.in-Ok.ensures.page top pages holds low less))
    c.in-Ok-note_found.ensures.noted)
