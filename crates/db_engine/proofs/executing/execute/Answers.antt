use Rattle.std.proofs.Common.{Err, ap, Ok, refl, ◌∙◌}
use Rattle.db_engine.proofs.Answering.{answers_full, answers_memory, answers_step, rose}
use Rattle.db_looks.specs.laws.Composing.{over_memory, over_full}
use Rattle.db_state.specs.States.{StandsForState}
use Rattle.db_state.specs.laws.Returning.{kept_full, kept_memory, looks_none, returns_some, reads_memory}
use Rattle.ct_keep.specs.declared.keepers.KeepFault.TheVariants.{Memory, Disk, Full as NoRoom}
use Rattle.db_engine.specs.Executing.{done_line}
use Rattle.db_engine.proofs.Telling.{tells_text, text_not_full}
use Rattle.db_engine.proofs.executing.execute.Goals as goal

pub returns-in-Err-Full-clause-executes : goal.returns-in-Err-Full-clause-executes
returns-in-Err-Full-clause-executes g c = λ m k holds stands.
    answers_full m _ _ k _ _
    (c.in-Err-Full.ensures.may k holds (ap Err c.in-Err-Full.field-0-is))
    (rw c.in-Err-Full.field-0-is at c.in-Err-Full.ensures.serves.fulls)
    (rw c.in-Err-Full.field-0-is at (c.in-Err-Full.ensures.serves.gives (g.met.K.Keeper.settled c.args.keeper.now c.requires.ready) m k holds stands))

pub returns-in-Err-Disk-clause-executes : goal.returns-in-Err-Disk-clause-executes
returns-in-Err-Disk-clause-executes g c = λ m k holds stands.
    (rw c.in-Err-Disk.field-0-is at (c.in-Err-Disk.ensures.serves.gives (g.met.K.Keeper.settled c.args.keeper.now c.requires.ready) m k holds stands)).moves

-- ---- what it tells over any content

pub returns-in-Ok-clause-reads : goal.returns-in-Ok-clause-reads
returns-in-Ok-clause-reads g c =
    λ none. looks_none (done_line c.args.statement.now) (g.K.Keeper.view c.args.keeper.now) (g.K.Keeper.view c.reply_to.new.keeper) (Ok c.in-Ok.lines) none (c.in-Ok.ensures.serves.tells (g.met.K.Keeper.settled c.args.keeper.now c.requires.ready))

pub returns-in-Ok-clause-tells : goal.returns-in-Ok-clause-tells
returns-in-Ok-clause-tells g c =
    λ done has. tells_text done (g.K.Keeper.view c.args.keeper.now) (g.K.Keeper.view c.reply_to.new.keeper) c.in-Ok.lines c.of.result c.of.ensures (returns_some (done_line c.args.statement.now) done (g.K.Keeper.view c.args.keeper.now) (g.K.Keeper.view c.reply_to.new.keeper) (Ok c.in-Ok.lines) has (c.in-Ok.ensures.serves.tells (g.met.K.Keeper.settled c.args.keeper.now c.requires.ready)))

pub returns-in-Ok-clause-no_text : goal.returns-in-Ok-clause-no_text
returns-in-Ok-clause-no_text g c =
    λ done has full. text_not_full c.args.statement.now done (g.K.Keeper.view c.args.keeper.now) (g.K.Keeper.view c.reply_to.new.keeper) c.in-Ok.lines c.of.result has c.of.ensures
    (returns_some (done_line c.args.statement.now) done (g.K.Keeper.view c.args.keeper.now) (g.K.Keeper.view c.reply_to.new.keeper) (Ok c.in-Ok.lines) has (c.in-Ok.ensures.serves.tells (g.met.K.Keeper.settled c.args.keeper.now c.requires.ready))) full

pub returns-in-Ok-clause-fixed : goal.returns-in-Ok-clause-fixed
returns-in-Ok-clause-fixed g c =
    λ m fixed. c.of.ensures ∙ c.in-Ok.ensures.fixed m fixed

pub returns-in-Err-Memory-clause-reads : goal.returns-in-Err-Memory-clause-reads
returns-in-Err-Memory-clause-reads g c =
    λ none. reads_memory (g.K.Keeper.view c.args.keeper.now) (g.K.Keeper.view c.reply_to.new.keeper) (looks_none (done_line c.args.statement.now) (g.K.Keeper.view c.args.keeper.now) (g.K.Keeper.view c.reply_to.new.keeper) (Err Memory) none (rw c.in-Err-Memory.field-0-is at c.in-Err-Memory.ensures.serves.tells (g.met.K.Keeper.settled c.args.keeper.now c.requires.ready)))

pub returns-in-Err-Memory-clause-tells : goal.returns-in-Err-Memory-clause-tells
returns-in-Err-Memory-clause-tells g c =
    λ done has. returns_some (done_line c.args.statement.now) done (g.K.Keeper.view c.args.keeper.now) (g.K.Keeper.view c.reply_to.new.keeper) (Err Memory) has (rw c.in-Err-Memory.field-0-is at c.in-Err-Memory.ensures.serves.tells (g.met.K.Keeper.settled c.args.keeper.now c.requires.ready))

pub returns-in-Err-Full-clause-reads : goal.returns-in-Err-Full-clause-reads
returns-in-Err-Full-clause-reads g c =
    λ none. absurd ((looks_none (done_line c.args.statement.now) (g.K.Keeper.view c.args.keeper.now) (g.K.Keeper.view c.reply_to.new.keeper) (Err NoRoom) none (rw c.in-Err-Full.field-0-is at c.in-Err-Full.ensures.serves.tells (g.met.K.Keeper.settled c.args.keeper.now c.requires.ready))).not_full refl)

pub returns-in-Err-Full-clause-tells : goal.returns-in-Err-Full-clause-tells
returns-in-Err-Full-clause-tells g c = λ done has. record {
  stays = returns_some (done_line c.args.statement.now) done (g.K.Keeper.view c.args.keeper.now) (g.K.Keeper.view c.reply_to.new.keeper) (Err NoRoom) has
      (rw c.in-Err-Full.field-0-is at c.in-Err-Full.ensures.serves.tells (g.met.K.Keeper.settled c.args.keeper.now c.requires.ready));
  rose = rose _ _ (rw c.in-Err-Full.field-0-is at c.in-Err-Full.ensures.serves.fulls);
}

pub returns-in-Ok-clause-full : goal.returns-in-Ok-clause-full
returns-in-Ok-clause-full g c = c.in-Ok.ensures.serves.fulls

pub returns-in-Err-Memory-clause-full : goal.returns-in-Err-Memory-clause-full
returns-in-Err-Memory-clause-full g c = rw c.in-Err-Memory.field-0-is at c.in-Err-Memory.ensures.serves.fulls

pub returns-in-Err-Full-clause-full : goal.returns-in-Err-Full-clause-full
returns-in-Err-Full-clause-full g c = rw c.in-Err-Full.field-0-is at c.in-Err-Full.ensures.serves.fulls

pub returns-in-Err-Disk-clause-full : goal.returns-in-Err-Disk-clause-full
returns-in-Err-Disk-clause-full g c = rw c.in-Err-Disk.field-0-is at c.in-Err-Disk.ensures.serves.fulls

pub returns-in-Err-Disk-clause-reads : goal.returns-in-Err-Disk-clause-reads
returns-in-Err-Disk-clause-reads g c =
    λ none. looks_none (done_line c.args.statement.now) (g.K.Keeper.view c.args.keeper.now) (g.K.Keeper.view c.reply_to.new.keeper) (Err Disk) none (rw c.in-Err-Disk.field-0-is at c.in-Err-Disk.ensures.serves.tells (g.met.K.Keeper.settled c.args.keeper.now c.requires.ready))

pub returns-in-Err-Disk-clause-tells : goal.returns-in-Err-Disk-clause-tells
returns-in-Err-Disk-clause-tells g c =
    λ done has. returns_some (done_line c.args.statement.now) done (g.K.Keeper.view c.args.keeper.now) (g.K.Keeper.view c.reply_to.new.keeper) (Err Disk) has (rw c.in-Err-Disk.field-0-is at c.in-Err-Disk.ensures.serves.tells (g.met.K.Keeper.settled c.args.keeper.now c.requires.ready))

-- ---- what is kept

pub returns-in-Ok-clause-kept : goal.returns-in-Ok-clause-kept
returns-in-Ok-clause-kept g c = c.in-Ok.ensures.serves.kept

pub returns-in-Err-Memory-clause-kept : goal.returns-in-Err-Memory-clause-kept
returns-in-Err-Memory-clause-kept g c = kept_memory _ _ (rw c.in-Err-Memory.field-0-is at c.in-Err-Memory.ensures.serves.kept)

pub returns-in-Err-Full-clause-kept : goal.returns-in-Err-Full-clause-kept
returns-in-Err-Full-clause-kept g c = kept_full _ _ (rw c.in-Err-Full.field-0-is at c.in-Err-Full.ensures.serves.kept)

pub returns-in-Err-Disk-clause-kept : goal.returns-in-Err-Disk-clause-kept
returns-in-Err-Disk-clause-kept g c = rw c.in-Err-Disk.field-0-is at c.in-Err-Disk.ensures.serves.kept

pub returns-in-Ok-clause-executes : goal.returns-in-Ok-clause-executes
returns-in-Ok-clause-executes g c = λ m k holds stands. answers_step m _ _ k _ _ c.in-Ok.lines _ c.of.ensures (c.in-Ok.ensures.serves.gives (g.met.K.Keeper.settled c.args.keeper.now c.requires.ready) m k holds stands)

pub returns-in-Err-Memory-clause-executes : goal.returns-in-Err-Memory-clause-executes
returns-in-Err-Memory-clause-executes g c = λ m k holds stands.
    answers_memory m _ _ k _ _ (rw c.in-Err-Memory.field-0-is at (c.in-Err-Memory.ensures.serves.gives (g.met.K.Keeper.settled c.args.keeper.now c.requires.ready) m k holds stands))

-- ---- how many commits it made

pub returns-in-Ok-clause-once : goal.returns-in-Ok-clause-once
returns-in-Ok-clause-once g c = c.in-Ok.ensures.serves.once

pub returns-in-Err-Memory-clause-once : goal.returns-in-Err-Memory-clause-once
returns-in-Err-Memory-clause-once g c = c.in-Err-Memory.ensures.serves.once

pub returns-in-Err-Full-clause-once : goal.returns-in-Err-Full-clause-once
returns-in-Err-Full-clause-once g c = c.in-Err-Full.ensures.serves.once

pub returns-in-Err-Disk-clause-once : goal.returns-in-Err-Disk-clause-once
returns-in-Err-Disk-clause-once g c = c.in-Err-Disk.ensures.serves.once

-- ---- how much it looked up

pub returns-in-Ok-clause-looks : goal.returns-in-Ok-clause-looks
returns-in-Ok-clause-looks g c = c.in-Ok.ensures.looks

pub returns-in-Err-Memory-clause-looks : goal.returns-in-Err-Memory-clause-looks
returns-in-Err-Memory-clause-looks g c = over_memory StandsForState _ _ _ (rw c.in-Err-Memory.field-0-is at c.in-Err-Memory.ensures.looks)

pub returns-in-Err-Full-clause-looks : goal.returns-in-Err-Full-clause-looks
returns-in-Err-Full-clause-looks g c = over_full StandsForState _ _ _ (rw c.in-Err-Full.field-0-is at c.in-Err-Full.ensures.looks)

pub returns-in-Err-Disk-clause-looks : goal.returns-in-Err-Disk-clause-looks
returns-in-Err-Disk-clause-looks g c = rw c.in-Err-Disk.field-0-is at c.in-Err-Disk.ensures.looks
