-- The file header: its fields are those that were written.
use Rattle.std.proofs.Common.{◌≡◌, ℕ, ◌+◌, ◌^◌, ◌<◌, ◌≤◌, List, [], ◌∷◌, length, get_or, slice_index, refl, sym, ap, subst, ◌∙◌, append_assoc, length-append, zero-add, arith}
use Rattle.std.proofs.lemmas.List.{append-nil}
use Rattle.orc_words.specs.Numbers.{number_at}
use Rattle.orc_words.proofs.Numbers.{number_at-same}
use Rattle.elf_read.specs.File.{field, file_header}
use Rattle.elf_read.specs.Gabi.{elf_magic, elfclass64, elfdata2lsb, et_rel, em_riscv}
use Rattle.elf_write.specs.Bytes.{number_bytes}
use Rattle.elf_write.specs.Files.{kind_bytes, table_bytes, file_header_bytes}
use Rattle.object_reading.specs.Places.{Stands}
use Rattle.object_reading.proofs.Standing.{stands_left, stands_right, stands_moved, stands_byte}
use Rattle.object_reading.proofs.Numbers.{numbers_bytes, length-numbers_bytes, field_in, field_first}

field_of : {bytes xs : List ℕ} (k w : ℕ) → Stands bytes 0 xs → k + w ≤ length xs → field bytes k w ≡ field xs k w
field_of {bytes} {xs} k w s inside =
    number_at-same w (slice_index bytes) (slice_index xs) k (λ j lt. ap (λ (m : ℕ). get_or bytes m 0) (sym (zero-add (k + j))) ∙ stands_byte s (k + j) (omega arith))

length-kind_bytes : length kind_bytes ≡ 40
unfolding number_bytes
length-kind_bytes = refl

magic_written : field kind_bytes 0 4 ≡ elf_magic
unfolding number_bytes number_at
magic_written = refl

class_written : field kind_bytes 4 1 ≡ elfclass64
unfolding number_bytes number_at
class_written = refl

encoding_written : field kind_bytes 5 1 ≡ elfdata2lsb
unfolding number_bytes number_at
encoding_written = refl

kind_written : field kind_bytes 16 2 ≡ et_rel
unfolding number_bytes number_at
kind_written = refl

machine_written : field kind_bytes 18 2 ≡ em_riscv
unfolding number_bytes number_at
machine_written = refl

pub record HeadIs (bytes : List ℕ) (table last : ℕ) : Type 0 where
  pub magic_is : (file_header bytes).magic ≡ elf_magic
  pub class_is : (file_header bytes).class ≡ elfclass64
  pub encoding_is : (file_header bytes).encoding ≡ elfdata2lsb
  pub kind_is : (file_header bytes).kind ≡ et_rel
  pub machine_is : (file_header bytes).machine ≡ em_riscv
  pub table_is : (file_header bytes).table ≡ table
  pub flags_are : (file_header bytes).flags ≡ 0
  pub entry_is : (file_header bytes).entry_size ≡ 64
  pub count_is : (file_header bytes).count ≡ last + 1
  pub names_are : (file_header bytes).names ≡ last

table_row : ℕ → ℕ → List (ℕ × ℕ)
table_row table last = (8, table) ∷ (4, 0) ∷ (2, 64) ∷ (2, 0) ∷ (2, 0) ∷ (2, 64) ∷ (2, last + 1) ∷ (2, last) ∷ []

table_is : (table last : ℕ) → table_bytes table last ≡ numbers_bytes (table_row table last)
unfolding table_row
table_is table last = simp (append_assoc, append-nil)

pub length-file_header_bytes : (table last : ℕ) → length (file_header_bytes table last) ≡ 64
unfolding table_row
length-file_header_bytes table last =
    let len : length (table_bytes table last) ≡ 24 = ap length (table_is table last) ∙ length-numbers_bytes (table_row table last) in
    length-append kind_bytes (table_bytes table last) ∙ (λ i. length-kind_bytes i + len i)

pub file_header-written : {bytes : List ℕ} (table last : ℕ) → table < 2 ^ 64 → last + 1 < 2 ^ 16 → Stands bytes 0 (file_header_bytes table last) → HeadIs bytes table last
unfolding file_header table_row
file_header-written {bytes} table last table_in last_in s =
    let kind = stands_left kind_bytes (table_bytes table last) s in
    let ps : List (ℕ × ℕ) = table_row table last in
    let there : Stands bytes 40 (numbers_bytes ps) =
    subst (λ l. Stands bytes 40 l) (table_is table last) (stands_moved 40 (stands_right kind_bytes (table_bytes table last) s) (omega (arith, length-kind_bytes))) in
    record {
      magic_is = field_of 0 4 kind (omega (arith, length-kind_bytes)) ∙ magic_written;
      class_is = field_of 4 1 kind (omega (arith, length-kind_bytes)) ∙ class_written;
      encoding_is = field_of 5 1 kind (omega (arith, length-kind_bytes)) ∙ encoding_written;
      kind_is = field_of 16 2 kind (omega (arith, length-kind_bytes)) ∙ kind_written;
      machine_is = field_of 18 2 kind (omega (arith, length-kind_bytes)) ∙ machine_written;
      table_is = field_first ps (omega arith) there table_in;
      flags_are = field_in ps 1 (omega arith) there (omega arith);
      entry_is = field_in ps 5 (omega arith) there (omega arith);
      count_is = field_in ps 6 (omega arith) there last_in;
      names_are = field_in ps 7 (omega arith) there (omega arith);
    }
