-- Numbers of the standard (System V gABI, "ELF Header", "Section Header", "Symbol Table"; of the
-- machine: RISC-V ELF psABI, "File Header").
use Rattle.std.specs.Prelude.{ℕ}

-- the four bytes 7f 45 4c 46
abbrev pub elf_magic : ℕ
elf_magic = 0x464c457f

abbrev pub elfclass64 : ℕ
elfclass64 = 2

abbrev pub elfdata2lsb : ℕ
elfdata2lsb = 1

abbrev pub et_rel : ℕ
et_rel = 1

abbrev pub em_riscv : ℕ
em_riscv = 243

-- types of sections
abbrev pub sht_progbits : ℕ
sht_progbits = 1

abbrev pub sht_symtab : ℕ
sht_symtab = 2

abbrev pub sht_strtab : ℕ
sht_strtab = 3

abbrev pub sht_rela : ℕ
sht_rela = 4

abbrev pub sht_note : ℕ
sht_note = 7

abbrev pub sht_nobits : ℕ
sht_nobits = 8

abbrev pub sht_rel : ℕ
sht_rel = 9

abbrev pub sht_init_array : ℕ
sht_init_array = 14

abbrev pub sht_fini_array : ℕ
sht_fini_array = 15

abbrev pub sht_preinit_array : ℕ
sht_preinit_array = 16

abbrev pub sht_group : ℕ
sht_group = 17

-- flags of sections, by the number of their bit
abbrev pub shf_alloc : ℕ
shf_alloc = 1

abbrev pub shf_tls : ℕ
shf_tls = 10

abbrev pub shf_compressed : ℕ
shf_compressed = 11

-- section numbers with a meaning of their own
abbrev pub shn_undef : ℕ
shn_undef = 0

abbrev pub shn_abs : ℕ
shn_abs = 0xfff1

abbrev pub shn_common : ℕ
shn_common = 0xfff2

abbrev pub shn_xindex : ℕ
shn_xindex = 0xffff

-- a binding
abbrev pub stb_local : ℕ
stb_local = 0

abbrev pub stb_weak : ℕ
stb_weak = 2
