-- The object of a function that counts down: it calls the next of its ring with one less, and at zero answers its own number modulo 256.
use Rattle.std.specs.Prelude.{ℕ, ◌+◌, ◌*◌, ◌%◌, ◌^◌, ◌==◌, pos, List, [], ◌∷◌, ◌++◌, map, codes, if◌then◌else◌}
use Rattle.std.specs.List.{range_with_len}
use Rattle.std.specs.Fmt.{decimal}
use Rattle.elf_read.specs.Symbols.{symbol_zero}
use Rattle.elf_read.specs.declared.object.ElfObject.{ElfObject}
use Rattle.elf_read.specs.declared.object.Reloc.{Reloc}
use Rattle.elf_read.specs.declared.object.Section.{Section}
use Rattle.elf_read.specs.declared.object.SymPlace.TheVariants.{In, Undef}
use Rattle.elf_read.specs.declared.object.Symbol.{Symbol}
use Rattle.elf_write.specs.Bytes.{number_bytes}
use Rattle.generated_objects.specs.Rings.{next}

-- `f`, and the function's number
abbrev pub function_name : ℕ → List ℕ
function_name k = codes "f" ++ decimal k

-- addi a0, zero, number
abbrev pub load_number : ℕ → ℕ
load_number number = number * 2 ^ 20 + 0x513

-- beq a0, zero, +16; addi a0, a0, -1; the two words of a tail call; addi a0, zero, k mod 256; ret
abbrev pub code : ℕ → List ℕ
code k =
    number_bytes 4 0x00050863
    ++ number_bytes 4 0xFFF50513
    ++ number_bytes 4 0x00000317
    ++ number_bytes 4 0x00030067
    ++ number_bytes 4 (load_number (k % 256))
    ++ number_bytes 4 0x00008067

-- R_RISCV_CALL_PLT by a symbol, of the tail call's words
abbrev pub call_of : ℕ → Reloc
call_of symbol = record { at = 8; kind = 19; symbol = symbol; addend = pos 0 }

-- `.text`: SHT_PROGBITS, SHF_ALLOC and SHF_EXECINSTR
abbrev pub text_section : ℕ → ℕ → Section
text_section symbol k = record { name = codes ".text"; kind = 1; flags = 6; align = 4; size = 24; bytes = code k; relocs = call_of symbol ∷ [] }

-- a global symbol of no type, at the start of the section
abbrev pub defined : ℕ → Symbol
defined k = record { name = function_name k; bind = 1; kind = 0; vis = 0; place = In 0; value = 0; size = 0 }

-- and one of another object
abbrev pub undefined : ℕ → Symbol
undefined k = record { name = function_name k; bind = 1; kind = 0; vis = 0; place = Undef; value = 0; size = 0 }

-- a function that is alone in its ring calls itself
abbrev pub lone_object : ℕ → ElfObject
lone_object k = record { sections = text_section 1 k ∷ []; symbols = symbol_zero ∷ defined k ∷ [] }

-- any other calls one of another object
abbrev pub linked_object : ℕ → ℕ → ElfObject
linked_object callee k = record { sections = text_section 2 k ∷ []; symbols = symbol_zero ∷ defined k ∷ undefined callee ∷ [] }

abbrev pub object_calling : ℕ → ℕ → ElfObject
object_calling callee k = if callee == k then lone_object k else linked_object callee k

-- the object of function k, of so many in all
abbrev pub generated_object : ℕ → ℕ → ElfObject
generated_object n k = object_calling (next n k) k

-- The texts of a session of so many objects, in the order of their numbers: its four dylibs, and the functions.
abbrev pub session_names : ℕ → List (List ℕ)
session_names n = codes "j0" ∷ codes "j1" ∷ codes "j2" ∷ codes "j3" ∷ map function_name (range_with_len 0 n)
