-- The status of the program.
use Rattle.std.specs.Prelude.{ℕ, ◌≡◌, refl}
use Rattle.std_io.specs.declared.io.kind.ErrorKind.{ErrorKind}
use Rattle.std_io.specs.declared.io.kind.ErrorKind.TheVariants.{OutOfMemory, InvalidData}

-- where the arguments can't be had: 5 for want of memory, else 2
abbrev pub status_without : ErrorKind → ℕ
status_without OutOfMemory = 5
status_without kind = 2

-- computed examples
no_memory : status_without OutOfMemory ≡ 5
no_memory = refl

not_a_text : status_without InvalidData ≡ 2
not_a_text = refl
