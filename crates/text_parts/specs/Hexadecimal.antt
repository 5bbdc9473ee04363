-- Texts in lower-case hexadecimal.
use Rattle.std.specs.Prelude.{ℕ, false, List}
use Rattle.std.specs.Fmt.{digits}
use Rattle.hex.specs.Hex.{encode_lower}

-- an address, or a word: without leading zeros
abbrev pub hex : ℕ → List ℕ
hex n = digits 16 false n

-- bytes: two digits for each, its high half first
abbrev pub hex_bytes : List ℕ → List ℕ
hex_bytes bytes = encode_lower bytes
