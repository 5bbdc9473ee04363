-- What the types of a section's fields say of them.
use Rattle.std.specs.Prelude.{◌≡◌, ℕ, ◌≤◌, ◌==◌, length, All, if◌then◌else◌}
use Rattle.elf_read.specs.Gabi.{sht_nobits}
use Rattle.elf_read.specs.declared.object.Section.{Section}
use Rattle.elf_write.specs.Canonical.{HoldsReloc}

-- a section is small and has the bytes that its size says, and its relocations name some of so many symbols
pub record Typed (symbols : ℕ) (s : Section) : Type 0 where
  pub small : s.size ≤ 0x1000000
  pub bytes_are : length s.bytes ≡ (if s.kind == sht_nobits then 0 else s.size)
  pub relocs_in : All (HoldsReloc symbols) s.relocs
