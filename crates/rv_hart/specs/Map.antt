-- Memory as the hart sees it: a map from addresses to bytes (RISC-V unprivileged manual, "Memory").
use Rattle.std.specs.Prelude.{ℕ, zero, suc, Option, Some, None, ◌+◌, ◌*◌, ◌/◌, ◌%◌, ◌^◌, ◌==◌, nat_lt, if◌then◌else◌}

-- the byte at each address that is mapped
abbrev pub Map : Type 0
Map = ℕ → Option ℕ

-- the byte at an address; from 2 ^ 64 on nothing is mapped
abbrev pub byte_of : Map → ℕ → Option ℕ
byte_of map at = if nat_lt at (2 ^ 64) then map at else None

-- a low byte, and the number that the bytes above it make
abbrev pub joined : Option ℕ → Option ℕ → Option ℕ
joined (Some low) (Some high) = Some (low + 2 ^ 8 * high)
joined (Some low) None = None
joined None high = None

-- the number that `width` bytes from `at` on make, the lowest first, where all of them are mapped
unfoldable pub read : Map → ℕ → ℕ → Option ℕ
read map at zero = Some 0
read map at (suc width) = joined (byte_of map at) (read map (at + 1) width)

-- the map with a byte changed
abbrev pub with_byte : Map → ℕ → ℕ → Map
with_byte map at byte = λ other. if other == at then Some byte else map other

-- the map with the `width` low bytes of the value from `at` on, the lowest first
unfoldable pub stored : Map → ℕ → ℕ → ℕ → Map
stored map at zero value = map
stored map at (suc width) value = stored (with_byte map at (value % 2 ^ 8)) (at + 1) width (value / 2 ^ 8)
