-- The bytes of a deposit, whoever has them.
use Rattle.std.specs.Prelude.{ℕ, List}
use Rattle.code_memory.specs.declared.deposit.Held.{Held}
use Rattle.code_memory.specs.declared.deposit.Held.TheVariants.{Owned, Shared}

abbrev pub bytes_of : Held → List ℕ
bytes_of (Owned bytes) = bytes
bytes_of (Shared bytes) = bytes
