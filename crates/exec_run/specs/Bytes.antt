-- Several bytes of a memory at once.
use Rattle.std.specs.Prelude.{ℕ, zero, suc, Option, Some, None, ◌+◌, List, [], ◌∷◌}
use Rattle.rv_hart.specs.Map.{Map, byte_of}

-- a byte before others, where all of them are mapped
abbrev pub before : Option ℕ → Option (List ℕ) → Option (List ℕ)
before (Some byte) (Some bytes) = Some (byte ∷ bytes)
before (Some byte) None = None
before None rest = None

-- the `count` bytes from an address on, where all of them are mapped
unfoldable pub bytes_from : Map → ℕ → ℕ → Option (List ℕ)
bytes_from map at zero = Some []
bytes_from map at (suc count) = before (byte_of map at) (bytes_from map (at + 1) count)
