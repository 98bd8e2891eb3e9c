-- What every state and every memory that the code can hold is: registers are words, and bytes are bytes. PC is even from the start on.
use Rattle.std.specs.Prelude.{ℕ, ◌%◌, ◌^◌, ◌<◌, ◌≡◌, List, length, get_or}
use Rattle.registers.specs.Core.{CORE}
use Rattle.registers.specs.Registers.{pc}
use Rattle.registers.specs.declared.Registers.{Registers}

pub record Words (n : ℕ) (xs : List ℕ) : Type 0 where
  pub size : length xs ≡ n
  pub each : (k : ℕ) → get_or xs k 0 < 2 ^ 32

pub record Valid (r : Registers) : Type 0 where
  pub d : Words 16 r.d
  pub a : Words 16 r.a
  pub core : Words CORE r.core
  pub even : pc r % 2 ≡ 0

pub record Bytes (bytes : List ℕ) : Type 0 where
  pub each : (k : ℕ) → get_or bytes k 0 < 2 ^ 8
