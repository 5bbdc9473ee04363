-- What every statement keeps that a line says, and the room that it needs.
use Rattle.std.specs.Prelude.{◌≡◌, ℕ, ◌*◌, ◌<◌, ◌≤◌, ◌⊎◌, true, length, ⊤}
use Rattle.std.specs.List.{list_all}
use Rattle.asm_lines.specs.declared.statement.Statement.{Statement}
use Rattle.asm_lines.specs.declared.statement.Statement.TheVariants as statement
use Rattle.asm_lines.specs.Directives.{item_fits}
use Rattle.asm_text.specs.Known.{Known}
use Rattle.asm_text.specs.Refusals.{takes_bytes, has_room, takes_padding, padding}

abbrev pub IsWidth : ℕ → Type 0
IsWidth width = (width ≡ 1) ⊎ (width ≡ 2) ⊎ (width ≡ 4) ⊎ (width ≡ 8)

-- items have 1, 2, 4 or 8 bytes that they fit, and alignments are small
abbrev pub Bounded : Statement → Type 0
Bounded (statement.Values width items) = IsWidth width × (list_all (item_fits width) items ≡ true)
Bounded (statement.Align align) = (0 < align) × (align ≤ 4096)
Bounded _ = ⊤

-- the current section takes the bytes
abbrev pub HasRoom : Statement → Known → Type 0
HasRoom (statement.Values width items) k = takes_bytes (width * length items) k ≡ true
HasRoom (statement.Ascii bytes) k = takes_bytes (length bytes) k ≡ true
HasRoom (statement.Zero n) k = has_room n k ≡ true
HasRoom (statement.Align align) k = takes_padding (padding align k) k ≡ true
HasRoom (statement.Code insn fixup) k = takes_bytes 4 k ≡ true
HasRoom (statement.Call first second symbol) k = takes_bytes 8 k ≡ true
HasRoom _ k = ⊤
