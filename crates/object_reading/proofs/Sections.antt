-- A section of a file is read from its entry of the section table.
use Rattle.std.proofs.Common.{◌≡◌, ℕ, suc, ◌+◌, ◌*◌, ◌<◌, refl, arith}
use Rattle.std.proofs.lemmas.Bool.{lt-ltb, ne_eqb}
use Rattle.elf_read.specs.File.{File, section, section_header}
use Rattle.elf_write.specs.Parts.{Part}
use Rattle.object_reading.specs.Places.{SectionIs}
use Rattle.object_reading.proofs.Entries.{HeaderIs}

section_there : (f : File) (k : ℕ) → suc k < f.count → section f (suc k) ≡ section_header f.bytes (f.table + 64 * suc k)
unfolding section
section_there f k lt = rw (ne_eqb (suc k) 0 (λ e. omega arith), lt-ltb (suc k) f.count lt) refl

pub section_from : (f : File) (k name offset : ℕ) (p : Part) → suc k < f.count → HeaderIs f.bytes (f.table + 64 * suc k) name offset p → SectionIs f (suc k) name offset p
section_from f k name offset p lt h =
    let e = section_there f k lt in
    record {
      name_is = rw e h.name_is;
      kind_is = rw e h.kind_is;
      flags_are = rw e h.flags_are;
      offset_is = rw e h.offset_is;
      size_is = rw e h.size_is;
      link_is = rw e h.link_is;
      info_is = rw e h.info_is;
      align_is = rw e h.align_is;
      entry_is = rw e h.entry_is;
    }
