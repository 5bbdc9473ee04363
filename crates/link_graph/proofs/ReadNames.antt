-- The names of an object that is read are no longer than a name may be.
use Rattle.std.proofs.Common.{◌≡◌, ℕ, suc, ◌≤◌, Bool, true, false, cond, ◌==◌, nat_lt, List, [], length, take, drop, Option, Some, None, unwrap_or, option_map, Ok, refl, arith}
use Rattle.std.specs.List.{position_or_len}
use Rattle.std.proofs.lemmas.Bool.{ltb-true}
use Rattle.std.proofs.lemmas.List.{length-take}
use Rattle.list_laws.proofs.Each.{all_mapped}
use Rattle.elf_read.specs.declared.error.ElfError.{ElfError}
use Rattle.elf_read.specs.declared.object.ElfObject.{ElfObject}
use Rattle.elf_read.specs.declared.object.Symbol.{Symbol}
use Rattle.elf_read.specs.File.{File, file_of, section, contents}
use Rattle.elf_read.specs.Object.{object_of, object_in, refusal_of, unless}
use Rattle.elf_read.specs.Sections.{text_in, symtab}
use Rattle.elf_read.specs.Symbols.{name_of, symbol_name, symbol_in, symbol_zero, symbol_count, numbers, entry}
use Rattle.link_graph.specs.Read.{IsRead, HasShortNames}

-- a text that is cut before a place is no longer than that
cut_short : (test : Bool) (m most : ℕ) (bytes : List ℕ) → (test ≡ true → m ≤ most) → length (unwrap_or (option_map (λ n. take n bytes) (cond test (Some m) None)) []) ≤ most
cut_short true m most bytes h = let le = h refl in omega (arith, length-take m bytes, le)
cut_short false m most bytes h = omega arith

text_short : (bytes : List ℕ) (most : ℕ) → length bytes ≤ suc most → length (unwrap_or (text_in bytes) []) ≤ most
unfolding text_in
text_short bytes most h =
    let n = position_or_len (λ b. b == 0) bytes in
    cut_short (nat_lt n (length bytes)) n most bytes (λ t. let lt = ltb-true n (length bytes) t in omega arith)

name_short : (f : File) (j : ℕ) → length (unwrap_or (name_of f (entry f j)) []) ≤ 4096
unfolding name_of
name_short f j =
    let rest = drop (entry f j).name (contents f.bytes (section f (symtab f).link)) in
    text_short (take 4097 rest) 4096 (omega (arith, length-take 4097 rest))

either_short : (test : Bool) (a b : Symbol) → length a.name ≤ 4096 → length b.name ≤ 4096 → length (cond test a b).name ≤ 4096
either_short true a b x y = x
either_short false a b x y = y

symbol_short : (f : File) (j : ℕ) → length (symbol_in f j).name ≤ 4096
unfolding symbol_in symbol_name
symbol_short f j = either_short (j == 0) symbol_zero _ (omega arith) (name_short f j)

object_from_ok : (refusal : Option ElfError) (x o : ElfObject) → unless refusal x ≡ Ok o → x ≡ o
object_from_ok None x o h = cc
object_from_ok (Some e) x o h = absurd cc

object_short : (f : File) → HasShortNames (object_in f).symbols
unfolding object_in
object_short f = all_mapped (λ (s : Symbol). length s.name ≤ 4096) (symbol_in f) (symbol_short f) (numbers (symbol_count f))

pub object_is : (bytes : List ℕ) (o : ElfObject) → object_of bytes ≡ Ok o → object_in (file_of bytes) ≡ o
unfolding object_of
object_is bytes o h = object_from_ok (refusal_of bytes) (object_in (file_of bytes)) o h

pub names_are_short : (o : ElfObject) → IsRead o → HasShortNames o.symbols
names_are_short o r = rw (← object_is r.bytes o r.read) (object_short (file_of r.bytes))
