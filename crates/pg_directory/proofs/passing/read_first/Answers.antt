use Rattle.std.specs.Prelude.{map, Bool}
use Rattle.std.specs.Option.{option_map}
use Rattle.std.proofs.Common.{Option, subst, [], ◌∷◌}
use Rattle.pg_map.specs.Kinds.{strings_of}
use Rattle.pg_map.specs.SheetReading.{IsSheetOr}
use Rattle.pg_map.specs.Sheets.{sheet_kind}
use Rattle.pg_map.specs.declared.sheets.Sheet.{Sheet}
use Rattle.pg_directory.specs.FirstPass.{far_of, TakesStrings}
use Rattle.pg_directory.proofs.Firsts.{directory_first, none_first, strings_first, page_first}
use Rattle.pg_directory.proofs.passing.read_first.Goals as goal

pub returns-then-bytes-eq3 : goal.returns-then-bytes-eq3
returns-then-bytes-eq3 c = directory_first c.directory_note.result c.args.bytes.now (map far_of c.args.far.now.items) c.if-bytes-eq3.true c.directory_note.ensures

pub returns-in_default : goal.returns-in_default
returns-in_default c =
    none_first c.args.bytes.now (map far_of c.args.far.now.items) (map far_of c.args.far.now.items) c.if-bytes-eq3.false (subst (λ (o : Option Sheet). IsSheetOr (option_map sheet_kind o) c.args.bytes.now) c.in_default.is c.in_ok-sheet.ensures)

pub returns-then-not-branch : goal.returns-then-not-branch
returns-then-not-branch c =
    strings_first c.args.bytes.now (sheet_kind c.in-Some.sheet) (map far_of c.args.far.now.items) (map far_of c.take_sheet.new.far.items) c.if-bytes-eq3.false
    (subst (λ (o : Option Sheet). IsSheetOr (option_map sheet_kind o) c.args.bytes.now) c.in-Some.is c.in_ok-sheet.ensures)
    (subst (λ (b : Bool). TakesStrings b (strings_of (sheet_kind c.in-Some.sheet ∷ [])) (map far_of c.args.far.now.items) (map far_of c.take_sheet.new.far.items)) c.if-not-branch.true c.in_ok-take_sheet.ensures)

pub returns : goal.returns
returns c =
    page_first c.args.bytes.now (sheet_kind c.in-Some.sheet) c.note_of_sheet.result (map far_of c.args.far.now.items) (map far_of c.take_sheet.new.far.items)
    (subst (λ (o : Option Sheet). IsSheetOr (option_map sheet_kind o) c.args.bytes.now) c.in-Some.is c.in_ok-sheet.ensures) c.note_of_sheet.ensures
    (subst (λ (b : Bool). TakesStrings b (strings_of (sheet_kind c.in-Some.sheet ∷ [])) (map far_of c.args.far.now.items) (map far_of c.take_sheet.new.far.items)) c.if-not-branch.false c.in_ok-take_sheet.ensures)
