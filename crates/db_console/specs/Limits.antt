-- The limits of a run, each with its constant of the same name in `src/running.rt`.
use Rattle.std.specs.Prelude.{ℕ, ◌≡◌, ◌*◌, ◌^◌, refl}

-- how many bytes a statement has at most, without its `;`
abbrev pub statement_limit : ℕ
statement_limit = 65536

-- how many bytes a script has at most
abbrev pub script_limit : ℕ
script_limit = 2 ^ 40

-- computed example: the longest statement is this part of the longest script
longest_statements : statement_limit * 2 ^ 24 ≡ script_limit
longest_statements = refl
