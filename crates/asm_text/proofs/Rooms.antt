-- A statement that fits has room, also after the line's label.
use Rattle.std.proofs.Common.{◌≡◌, ℕ, ◌+◌, ◌*◌, ◌≤◌, ◌&&◌, not, nat_le, Bool, true, false, List, length, Option, Some, None, if◌then◌else◌, refl, ◌∙◌, ap, arith}
use Rattle.std.proofs.lemmas.Bool.{le-leb}
use Rattle.std.proofs.lemmas.Bool.Decides.{nat_tests}
use Rattle.asm_state.specs.Sections.{is_bss, largest}
use Rattle.asm_lines.specs.declared.statement.AsmWhy.TheVariants as why
use Rattle.asm_lines.specs.declared.statement.Statement.{Statement}
use Rattle.asm_lines.specs.declared.statement.Statement.TheVariants as statement
use Rattle.asm_text.specs.Bounds.{HasRoom}
use Rattle.asm_text.specs.Known.{Known, kind_here, size_here}
use Rattle.asm_text.specs.Refusals.{fits, refusal, takes_name, takes_bytes, has_room, takes_padding, padding, misfit}

mul_next : (width left : ℕ) → width * (left + 1) ≡ width * left + width
mul_next width left = grind arith

-- what room is
pub takes_parts : (n : ℕ) (k : Known) → takes_bytes n k ≡ true → (is_bss (kind_here k) ≡ false) × (size_here k + n ≤ largest)
takes_parts n k h = parts (is_bss (kind_here k)) h
  where
    parts : (bss : Bool) → not bss && nat_le (size_here k + n) largest ≡ true → (bss ≡ false) × (size_here k + n ≤ largest)
    parts true e = absurd cc
    parts false e = (refl, grind (arith, nat_tests))

pub takes_from : (n : ℕ) (k : Known) → is_bss (kind_here k) ≡ false → size_here k + n ≤ largest → takes_bytes n k ≡ true
takes_from n k other room = rw other (le-leb (size_here k + n) largest room)

-- one item less
pub takes_next : (width left : ℕ) (k m : Known) → takes_bytes (width * (left + 1)) k ≡ true → kind_here m ≡ kind_here k → size_here m ≡ size_here k + width → takes_bytes (width * left) m ≡ true
takes_next width left k m h kind size =
    let parts = takes_parts (width * (left + 1)) k h in
    takes_from (width * left) m (ap is_bss kind ∙ parts.0) (omega (arith, size, parts.1, mul_next width left))

pub takes_one : (width left : ℕ) (k : Known) → takes_bytes (width * (left + 1)) k ≡ true → takes_bytes width k ≡ true
takes_one width left k h =
    let parts = takes_parts (width * (left + 1)) k h in
    takes_from width k parts.0 (omega (arith, parts.1, mul_next width left))

-- the two have the same room
pub record Alike (k m : Known) : Type 0 where
  pub kind : kind_here m ≡ kind_here k
  pub size : size_here m ≡ size_here k
  pub relax : m.relax ≡ k.relax

padding_alike : (align : ℕ) (k m : Known) → Alike k m → padding align m ≡ padding align k
unfolding padding
padding_alike align k m same = rw (same.kind, same.size, same.relax) refl

bytes_alike : (n : ℕ) (k m : Known) → Alike k m → takes_bytes n m ≡ takes_bytes n k
bytes_alike n k m same = rw (same.kind, same.size) refl

room_alike : (n : ℕ) (k m : Known) → Alike k m → has_room n m ≡ has_room n k
room_alike n k m same = rw same.size refl

takes_alike : (n : ℕ) (k m : Known) → Alike k m → takes_padding n m ≡ takes_padding n k
takes_alike n k m same = rw (same.kind, same.size) refl

pub room_after : (s : Statement) (k m : Known) → fits s k ≡ true → Alike k m → HasRoom s m
unfolding fits
room_after (statement.Values width items) k m fit same = bytes_alike (width * length items) k m same ∙ fit
room_after (statement.Ascii bytes) k m fit same = bytes_alike (length bytes) k m same ∙ fit
room_after (statement.Zero n) k m fit same = room_alike n k m same ∙ fit
room_after (statement.Align align) k m fit same =
    takes_alike (padding align m) k m same ∙ ap (λ n. takes_padding n k) (padding_alike align k m same) ∙ fit
room_after (statement.Code insn fixup) k m fit same = bytes_alike 4 k m same ∙ fit
room_after (statement.Call first second symbol) k m fit same = bytes_alike 8 k m same ∙ fit
room_after statement.Nothing k m fit same = tt
room_after (statement.Section name kind) k m fit same = tt
room_after (statement.Global symbol) k m fit same = tt
room_after (statement.Weak symbol) k m fit same = tt
room_after (statement.Hidden symbol) k m fit same = tt
room_after (statement.Common symbol size align) k m fit same = tt
room_after (statement.Relax relax) k m fit same = tt

-- a statement that isn't refused fits
pub not_refused : (label : Option (List ℕ)) (s : Statement) (k : Known) → refusal label s k ≡ None → fits s k ≡ true
unfolding refusal
not_refused label s k none = by_test (takes_name label s k) (fits s k) none
  where
    by_test : (taken fit : Bool) → (if taken then Some why.Name else if fit then None else Some (misfit s k)) ≡ None → fit ≡ true
    by_test true fit e = absurd cc
    by_test false true e = refl
    by_test false false e = absurd cc
