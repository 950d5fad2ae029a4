use Rattle.std.proofs.Common.{ℕ, refl, subst, inl, inr, map, arith}
use Rattle.std.specs.String.{string_bytes}
use Rattle.db_arguments.specs.Arguments.{AskForNothing, AsksFor, AsksForRows}
use Rattle.db_arguments.specs.laws.OneReading.{one_reading}
use Rattle.db_console.specs.Generating.{Generates}
use Rattle.db_console.specs.Stores.{RanOver}
use Rattle.db_console.proofs.Generated.{complete_without_memory, generates_completes, generates_faults, generates_left, generates_never, no_faults, nothing_done, past_unheard}
use Rattle.db_console.proofs.running.run.Goals as goal

-- ---- there was no memory for the arguments

pub returns-in_default-clause-table : goal.returns-in_default-clause-table
returns-in_default-clause-table g c = λ image m settled is well file limit asks. inr (inl refl, nothing_done image (g.S.Disk.disk c.args.site.now) settled)

pub returns-in_default-clause-foreign : goal.returns-in_default-clause-foreign
returns-in_default-clause-foreign g c = λ image settled none file limit asks. nothing_done image (g.S.Disk.disk c.args.site.now) settled

pub returns-in_default-clause-past : goal.returns-in_default-clause-past
returns-in_default-clause-past g c = λ other. past_unheard 5 (g.S.Disk.disk c.args.site.now).beside (g.S.Disk.disk c.args.site.now).beside refl (λ eight. omega (arith, eight))

pub returns-in_default-clause-complete : goal.returns-in_default-clause-complete
returns-in_default-clause-complete g c = λ other image m settled is well. complete_without_memory (g.S.Disk.disk c.args.site.now) (g.S.Disk.disk c.args.site.now)

-- ---- they ask for nothing

pub returns-in_default-read-clause-table : goal.returns-in_default-read-clause-table
returns-in_default-read-clause-table g c = λ image m settled is well file limit asks.
    let none : AskForNothing (map string_bytes c.args.arguments.now) = rw c.in_default-read.is at c.in-Ok.ensures.none in
    absurd (none.0 file limit asks)

pub returns-in_default-read-clause-foreign : goal.returns-in_default-read-clause-foreign
returns-in_default-read-clause-foreign g c = λ image settled no_store file limit asks.
    let none : AskForNothing (map string_bytes c.args.arguments.now) = rw c.in_default-read.is at c.in-Ok.ensures.none in
    absurd (none.0 file limit asks)

pub returns-in_default-read-clause-stores : goal.returns-in_default-read-clause-stores
returns-in_default-read-clause-stores g c = λ file limit asks.
    let none : AskForNothing (map string_bytes c.args.arguments.now) = rw c.in_default-read.is at c.in-Ok.ensures.none in
    absurd (none.0 file limit asks)

pub returns-in_default-read-clause-script : goal.returns-in_default-read-clause-script
returns-in_default-read-clause-script g c = λ rows asks.
    let none : AskForNothing (map string_bytes c.args.arguments.now) = rw c.in_default-read.is at c.in-Ok.ensures.none in
    absurd (none.1 rows asks)

-- ---- they ask for a store

pub returns-in-Over-clause-refused : goal.returns-in-Over-clause-refused
returns-in-Over-clause-refused g c = λ none.
    let asked : AsksFor (map string_bytes c.args.arguments.now) c.in-Over.store.file.now c.in-Over.store.limit = (c.in-Over.store.degree, rw (c.in-Some.is, c.in-Over.is) at c.in-Ok.ensures.some) in
    absurd (none.0 c.in-Over.store.file.now c.in-Over.store.limit asked)

pub returns-in-Over-clause-table : goal.returns-in-Over-clause-table
returns-in-Over-clause-table g c = λ image m settled is well file limit asks.
    let asked : AsksFor (map string_bytes c.args.arguments.now) c.in-Over.store.file.now c.in-Over.store.limit = (c.in-Over.store.degree, rw (c.in-Some.is, c.in-Over.is) at c.in-Ok.ensures.some) in
    subst (λ (n : ℕ). RanOver n image m (g.S.Disk.disk c.args.site.now) (g.S.Disk.disk c.serve_store.new.site) c.serve_store.result) (one_reading.one_store _ _ _ _ _ asked asks).1
    (c.serve_store.ensures.table image m settled is well)

pub returns-in-Over-clause-script : goal.returns-in-Over-clause-script
returns-in-Over-clause-script g c = λ rows asks.
    let asked : AsksFor (map string_bytes c.args.arguments.now) c.in-Over.store.file.now c.in-Over.store.limit = (c.in-Over.store.degree, rw (c.in-Some.is, c.in-Over.is) at c.in-Ok.ensures.some) in
    absurd (one_reading.not_both _ _ _ rows asked asks)

pub returns-in-Over-clause-unsaid : goal.returns-in-Over-clause-unsaid
returns-in-Over-clause-unsaid g c = λ rows asks.
    let asked : AsksFor (map string_bytes c.args.arguments.now) c.in-Over.store.file.now c.in-Over.store.limit = (c.in-Over.store.degree, rw (c.in-Some.is, c.in-Over.is) at c.in-Ok.ensures.some) in
    absurd (one_reading.not_both _ _ _ rows asked asks)

-- ---- they ask for a script

pub returns-in-Rows-clause-form : goal.returns-in-Rows-clause-form
returns-in-Rows-clause-form g c = λ two.
    absurd (generates_never c.in-Rows.rows c.say_generated.result (g.S.Disk.disk c.args.site.now) (g.S.Disk.disk c.say_generated.new.site) 2 c.say_generated.ensures.script (λ e. omega (arith, e)) (λ e. omega (arith, e)) (λ e. omega (arith, e)) two)

pub returns-in-Rows-clause-table : goal.returns-in-Rows-clause-table
returns-in-Rows-clause-table g c = λ image m settled is well file limit asks.
    let asked : AsksForRows (map string_bytes c.args.arguments.now) c.in-Rows.rows = rw (c.in-Some.is, c.in-Rows.is) at c.in-Ok.ensures.some in
    absurd (one_reading.not_both _ file limit _ asks asked)

pub returns-in-Rows-clause-foreign : goal.returns-in-Rows-clause-foreign
returns-in-Rows-clause-foreign g c = λ image settled none file limit asks.
    let asked : AsksForRows (map string_bytes c.args.arguments.now) c.in-Rows.rows = rw (c.in-Some.is, c.in-Rows.is) at c.in-Ok.ensures.some in
    absurd (one_reading.not_both _ file limit _ asks asked)

pub returns-in-Rows-clause-stores : goal.returns-in-Rows-clause-stores
returns-in-Rows-clause-stores g c = λ file limit asks.
    let asked : AsksForRows (map string_bytes c.args.arguments.now) c.in-Rows.rows = rw (c.in-Some.is, c.in-Rows.is) at c.in-Ok.ensures.some in
    absurd (one_reading.not_both _ file limit _ asks asked)

pub returns-in-Rows-clause-script : goal.returns-in-Rows-clause-script
returns-in-Rows-clause-script g c = λ rows asks.
    let asked : AsksForRows (map string_bytes c.args.arguments.now) c.in-Rows.rows = rw (c.in-Some.is, c.in-Rows.is) at c.in-Ok.ensures.some in
    subst (λ (n : ℕ). Generates n c.say_generated.result (g.S.Disk.disk c.args.site.now) (g.S.Disk.disk c.say_generated.new.site)) (one_reading.one_number _ _ _ asked asks) c.say_generated.ensures.script

pub returns-in-Rows-clause-faults : goal.returns-in-Rows-clause-faults
returns-in-Rows-clause-faults g c =
    generates_faults c.in-Rows.rows c.say_generated.result (g.S.Disk.disk c.args.site.now) (g.S.Disk.disk c.say_generated.new.site) c.say_generated.ensures.script
    (λ five. rw (c.say_generated.ensures.unsaid five) (no_faults (g.S.Disk.disk c.args.site.now)))

pub returns-in-Rows-clause-past : goal.returns-in-Rows-clause-past
returns-in-Rows-clause-past g c = λ other.
    past_unheard c.say_generated.result (g.S.Disk.disk c.args.site.now).beside (g.S.Disk.disk c.say_generated.new.site).beside
    (generates_left c.in-Rows.rows c.say_generated.result (g.S.Disk.disk c.args.site.now) (g.S.Disk.disk c.say_generated.new.site) c.say_generated.ensures.script (λ five. rw (c.say_generated.ensures.unsaid five) refl))
    (generates_never c.in-Rows.rows c.say_generated.result (g.S.Disk.disk c.args.site.now) (g.S.Disk.disk c.say_generated.new.site) 8 c.say_generated.ensures.script (λ e. omega (arith, e)) (λ e. omega (arith, e)) (λ e. omega (arith, e)))

pub returns-in-Rows-clause-complete : goal.returns-in-Rows-clause-complete
returns-in-Rows-clause-complete g c = λ other image m settled is well.
    generates_completes c.in-Rows.rows c.say_generated.result (g.S.Disk.disk c.args.site.now) (g.S.Disk.disk c.say_generated.new.site) c.say_generated.ensures.script
