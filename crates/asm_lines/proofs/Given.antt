-- A word is an instruction of a form where it makes one of some operands, and so of any.
use Rattle.std.proofs.Common.{◌≡◌, ℕ, ℤ, List, Option, Some, None, refl}
use Rattle.std.specs.Prelude.{is_some}
use Rattle.rv_insn.specs.declared.insn.Insn.{Insn}
use Rattle.asm_lines.specs.Insns.{given2, given3, lookup, is_op, op_insn_of, op_insns, is_op_32, op_32_insn_of, op_32_insns, is_imm, imm_insn_of, imm_insns, is_shift, shift_insn_of, shift_insns, is_shift_32, shift_32_insn_of, shift_32_insns, is_load, load_insn_of, load_insns, is_store, store_insn_of, store_insns, is_branch, branch_insn_of, branch_insns, is_upper, upper_insn_of, upper_insns}

given_three : {C : Type 0} (make : Option (ℕ → ℕ → C → Insn)) (a b : ℕ) (c : C) → is_some (given3 make a b c) ≡ is_some make
given_three None a b c = refl
given_three (Some f) a b c = refl

given_two : {C : Type 0} (make : Option (ℕ → C → Insn)) (a : ℕ) (c : C) → is_some (given2 make a c) ≡ is_some make
given_two None a c = refl
given_two (Some f) a c = refl

pub op_made : (word : List ℕ) (a b : ℕ) (c : ℕ) → is_some (op_insn_of word a b c) ≡ is_op word
unfolding is_op op_insn_of
op_made word a b c = given_three (lookup word op_insns) a b c

pub op_32_made : (word : List ℕ) (a b : ℕ) (c : ℕ) → is_some (op_32_insn_of word a b c) ≡ is_op_32 word
unfolding is_op_32 op_32_insn_of
op_32_made word a b c = given_three (lookup word op_32_insns) a b c

pub imm_made : (word : List ℕ) (a b : ℕ) (c : ℤ) → is_some (imm_insn_of word a b c) ≡ is_imm word
unfolding is_imm imm_insn_of
imm_made word a b c = given_three (lookup word imm_insns) a b c

pub shift_made : (word : List ℕ) (a b : ℕ) (c : ℤ) → is_some (shift_insn_of word a b c) ≡ is_shift word
unfolding is_shift shift_insn_of
shift_made word a b c = given_three (lookup word shift_insns) a b c

pub shift_32_made : (word : List ℕ) (a b : ℕ) (c : ℤ) → is_some (shift_32_insn_of word a b c) ≡ is_shift_32 word
unfolding is_shift_32 shift_32_insn_of
shift_32_made word a b c = given_three (lookup word shift_32_insns) a b c

pub load_made : (word : List ℕ) (a b : ℕ) (c : ℤ) → is_some (load_insn_of word a b c) ≡ is_load word
unfolding is_load load_insn_of
load_made word a b c = given_three (lookup word load_insns) a b c

pub store_made : (word : List ℕ) (a b : ℕ) (c : ℤ) → is_some (store_insn_of word a b c) ≡ is_store word
unfolding is_store store_insn_of
store_made word a b c = given_three (lookup word store_insns) a b c

pub branch_made : (word : List ℕ) (a b : ℕ) (c : ℤ) → is_some (branch_insn_of word a b c) ≡ is_branch word
unfolding is_branch branch_insn_of
branch_made word a b c = given_three (lookup word branch_insns) a b c

pub upper_made : (word : List ℕ) (a : ℕ) (c : ℤ) → is_some (upper_insn_of word a c) ≡ is_upper word
unfolding is_upper upper_insn_of
upper_made word a c = given_two (lookup word upper_insns) a c
