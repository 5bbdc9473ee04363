-- What is written is read.
use Rattle.std.proofs.Common.{◌≡◌, ℕ, ◌+◌, ◌*◌, ◌^◌, ◌<◌, ◌≤◌, true, false, ◌==◌, nat_le, List, length, None, Ok, refl, arith}
use Rattle.std.proofs.lemmas.Bool.{le-leb, lt-leb, ne_eqb}
use Rattle.elf_read.specs.declared.object.ElfObject.{ElfObject}
use Rattle.elf_read.specs.Choice.{first_below}
use Rattle.elf_read.specs.File.{File, file_of, file_header, lies_in}
use Rattle.elf_read.specs.Sections.{header_refusal, table_refusal, opening_refusal, section_refusal, name_refusal, overlap_refusal}
use Rattle.elf_read.specs.Symbols.{symbol_refusal, relocs_refusal, symbol_count}
use Rattle.elf_read.specs.Object.{refusal_of, object_of, object_in, unless}
use Rattle.elf_write.specs.Bytes.{filled}
use Rattle.elf_write.specs.Files.{file_bytes}
use Rattle.elf_write.specs.Canonical.{Canonical}
use Rattle.object_reading.specs.Reading.{WrittenIsRead}
use Rattle.object_reading.proofs.Head.{HeadIs}
use Rattle.object_reading.proofs.Written.{all_written}
use Rattle.object_reading.specs.Places.{all_parts, section_names}
use Rattle.object_reading.proofs.Fits.{head_is, parts_of_file, parts_are_held}
use Rattle.object_reading.proofs.Tests.{none_below, neither}
use Rattle.object_reading.proofs.InFile.{InFile, kind_test, names_at}
use Rattle.object_reading.proofs.SymbolTable.{symbols_read}
use Rattle.object_reading.proofs.ReadSections.{sections_read}
use Rattle.object_reading.proofs.SectionChecks.{sections_none, names_none}
use Rattle.object_reading.proofs.Overlaps.{overlaps_none}
use Rattle.object_reading.proofs.SymbolChecks.{symbols_none, relocs_none}

-- ---- the header and the section table

head_none : (bytes : List ℕ) (table last : ℕ) → HeadIs bytes table last → 64 ≤ length bytes → header_refusal bytes ≡ None
unfolding header_refusal
head_none bytes table last h long =
    let inside : lies_in bytes 0 64 ≡ true = le-leb 64 (length bytes) long in
    rw (inside, h.magic_is, h.class_is, h.encoding_is, h.kind_is, h.machine_is, h.flags_are) refl

table_none : (o : ElfObject) (f : File) (w : InFile o f) (entry_size : ℕ) → entry_size ≡ 64 → table_refusal f entry_size ≡ None
unfolding table_refusal
table_none o f w entry_size e =
    let some : (f.count == 0) ≡ false = ne_eqb f.count 0 (λ e. omega (arith, e, w.holds.count_is)) in
    let own : (f.names == 0xffff) ≡ false = ne_eqb f.names 0xffff (λ e. omega (arith, e, w.holds.names_are, w.parts_of.length_is, w.parts_of.number_is, w.canonical.few_sections)) in
    let last : nat_le f.count f.names ≡ false = lt-leb f.count f.names (omega (arith, w.holds.count_is, w.holds.names_are)) in
    let inside : lies_in f.bytes f.table (64 * f.count) ≡ true = le-leb (f.table + 64 * f.count) (length f.bytes) w.holds.inside in
    let kind = kind_test (names_at o f w) 3 true refl in
    rw (e, some, own, last, inside, kind) refl

opening_none : (o : ElfObject) (bytes : List ℕ) (table last : ℕ) → InFile o (file_of bytes) → HeadIs bytes table last → 64 ≤ length bytes → opening_refusal bytes ≡ None
unfolding opening_refusal
opening_none o bytes table last w h long = neither _ _ (head_none bytes table last h long) (table_none o (file_of bytes) w (file_header bytes).entry_size h.entry_is)

-- ---- the whole file

nothing_refused : (o : ElfObject) (bytes : List ℕ) → InFile o (file_of bytes) → opening_refusal bytes ≡ None → refusal_of bytes ≡ None
unfolding refusal_of
nothing_refused o bytes w opening =
    let f : File = file_of bytes in
    let e1 : first_below f.count (section_refusal f) ≡ None = none_below f.count (section_refusal f) (sections_none o f w) in
    let e2 : first_below f.count (name_refusal f) ≡ None = none_below f.count (name_refusal f) (names_none o f w) in
    let e3 : first_below f.count (overlap_refusal f) ≡ None = none_below f.count (overlap_refusal f) (overlaps_none o f w) in
    let e4 : first_below (symbol_count f) (symbol_refusal f) ≡ None = none_below (symbol_count f) (symbol_refusal f) (symbols_none o f w) in
    let e5 : first_below f.count (relocs_refusal f) ≡ None = none_below f.count (relocs_refusal f) (relocs_none o f w) in
    neither _ _ opening (neither _ _ e1 (neither _ _ e2 (neither _ _ e3 (neither _ _ e4 e5))))

object_read : (o : ElfObject) (f : File) → InFile o f → object_in f ≡ o
unfolding object_in
object_read o f w = λ i. record { sections = sections_read o f w i; symbols = symbols_read o f w i }

all_read : (o : ElfObject) (bytes : List ℕ) → InFile o (file_of bytes) → opening_refusal bytes ≡ None → object_of bytes ≡ Ok o
unfolding object_of
all_read o bytes w opening = (λ i. unless (nothing_refused o bytes w opening i) (object_read o (file_of bytes) w i))

-- the file header is there
header_there : (o : ElfObject) (bytes : List ℕ) → InFile o (file_of bytes) → 64 ≤ length bytes
unfolding file_of
header_there o bytes w = omega (arith, w.holds.below 0 (omega (arith, w.parts_of.length_is)), w.holds.above 0, w.holds.inside)

in_file : (o : ElfObject) → Canonical o → length (file_bytes o) < 2 ^ 32 → InFile o (file_of (file_bytes o))
unfolding file_of
in_file o c small = record { parts = all_parts o; names = section_names o; canonical = c; holds = parts_are_held o c small; parts_of = parts_of_file o; small = small }

pub written_is_read : WrittenIsRead
written_is_read o c small =
    let w = in_file o c small in
    let head = head_is o c small in
    all_read o (file_bytes o) w (opening_none o (file_bytes o) (64 + length (filled (all_written (all_parts o)).bytes)) (length (all_parts o)) w head (header_there o (file_bytes o) w))
