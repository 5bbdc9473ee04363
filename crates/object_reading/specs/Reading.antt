-- What is written is read.
use Rattle.std.specs.Prelude.{◌≡◌, ◌<◌, ◌^◌, length, Ok}
use Rattle.elf_read.specs.declared.object.ElfObject.{ElfObject}
use Rattle.elf_read.specs.Object.{object_of}
use Rattle.elf_write.specs.Canonical.{Canonical}
use Rattle.elf_write.specs.Files.{file_bytes}

-- A canonical object is what the bytes of its file are, where these are fewer than 4 GiB.
abbrev pub WrittenIsRead : Type 0
WrittenIsRead = (o : ElfObject) → Canonical o → length (file_bytes o) < 2 ^ 32 → object_of (file_bytes o) ≡ Ok o
