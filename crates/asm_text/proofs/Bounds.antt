-- What every statement keeps that a line says.
use Rattle.std.proofs.Common.{rules, ◌≡◌, ℕ, ◌<◌, ◌≤◌, Bool, true, false, List, [], ◌∷◌, ℤ, pos, negsuc, Option, Some, None, if◌then◌else◌, inl, inr, refl, arith}
use Rattle.std.specs.Prelude.{Result, Ok, Err}
use Rattle.std.specs.List.{list_all}
use Rattle.std.proofs.lemmas.Bool.Decides.{nat_tests}
use Rattle.rv_insn.specs.declared.insn.Insn.{Insn}
use Rattle.asm_lines.specs.declared.statement.AsmWhy.{AsmWhy}
use Rattle.asm_lines.specs.declared.statement.AsmWhy.TheVariants as why
use Rattle.asm_lines.specs.declared.statement.Fixup.{Fixup}
use Rattle.asm_lines.specs.declared.statement.SectionKind.{SectionKind}
use Rattle.asm_lines.specs.declared.statement.Item.{Item}
use Rattle.asm_lines.specs.declared.statement.Statement.{Statement}
use Rattle.asm_lines.specs.declared.statement.Statement.TheVariants as statement
use Rattle.asm_lines.specs.Directives as directives
use Rattle.asm_lines.specs.Instructions as instructions
use Rattle.asm_lines.specs.Lines.{statement_of_line, statement_from}
use Rattle.asm_lines.specs.Statements.{needed, checked, going_on, is_alignment, magnitude}
use Rattle.asm_lines.specs.Words.{statement_text, code_of, first_word, operands_text}
use Rattle.asm_text.specs.Bounds.{IsWidth, Bounded}

-- what a reader gives is bounded
record Good (r : Result Statement AsmWhy) : Type 0 where
  is : (s : Statement) → r ≡ Ok s → Bounded s

bad : (why : AsmWhy) → Good (Err why)
bad why = record { is = λ s e. absurd (cc e) }

fine : (s : Statement) → Bounded s → Good (Ok s)
fine s bounds = record { is = λ t e. let same : s ≡ t = cc e in rw same at bounds }

good_needed : {A : Type 0} (o : Option A) (next : A → Result Statement AsmWhy) → ((a : A) → Good (next a)) → Good (needed o next)
good_needed None next h = bad _
good_needed (Some a) next h = h a

good_tested : (t : Bool) (why : AsmWhy) (next : Result Statement AsmWhy) → (t ≡ true → Good next) → Good (checked t why next)
good_tested true why next h = h refl
good_tested false why next h = bad why

good_checked : (t : Bool) (why : AsmWhy) (next : Result Statement AsmWhy) → Good next → Good (checked t why next)
good_checked t why next h = good_tested t why next (λ is. h)

good_going : {A : Type 0} (r : Result A AsmWhy) (next : A → Result Statement AsmWhy) → ((a : A) → Good (next a)) → Good (going_on r next)
good_going (Err why) next h = bad why
good_going (Ok a) next h = h a

good_if : (t : Bool) (x y : Result Statement AsmWhy) → Good x → Good y → Good (if t then x else y)
good_if true x y hx hy = hx
good_if false x y hx hy = hy

good_worded : (o : Option Insn) (fixup : Option Fixup) → Good (instructions.worded o fixup)
good_worded None fixup = bad _
good_worded (Some insn) fixup = fine _ tt

ruleset goods = (good_needed, good_going, good_worded, good_checked, good_if, fine, bad)

-- ---- instructions

good_three : (make : ℕ → ℕ → ℕ → Option Insn) (text : List ℕ) → Good (instructions.three_registers_statement make text)
unfolding instructions.three_registers_statement
good_three make text = search (rules, goods)

good_immediate : (make : ℕ → ℕ → ℤ → Option Insn) (text : List ℕ) → Good (instructions.immediate_statement make text)
unfolding instructions.immediate_statement
good_immediate make text = search (rules, goods)

good_shift : (bits : ℕ) (make : ℕ → ℕ → ℤ → Option Insn) (text : List ℕ) → Good (instructions.shift_statement bits make text)
unfolding instructions.shift_statement
good_shift bits make text = search (rules, goods)

good_load : (make : ℕ → ℕ → ℤ → Option Insn) (text : List ℕ) → Good (instructions.load_statement make text)
unfolding instructions.load_statement
good_load make text = search (rules, goods)

good_store : (make : ℕ → ℕ → ℤ → Option Insn) (text : List ℕ) → Good (instructions.store_statement make text)
unfolding instructions.store_statement
good_store make text = search (rules, goods)

good_branch : (make : ℕ → ℕ → ℤ → Option Insn) (text : List ℕ) → Good (instructions.branch_statement make text)
unfolding instructions.branch_statement
good_branch make text = search (rules, goods)

good_upper : (make : ℕ → ℤ → Option Insn) (text : List ℕ) → Good (instructions.upper_statement make text)
unfolding instructions.upper_statement
good_upper make text = search (rules, goods)

good_call : (way link : ℕ) (text : List ℕ) → Good (instructions.call_statement way link text)
unfolding instructions.call_statement
good_call way link text = search (rules, goods)

good_jal : (text : List ℕ) → Good (instructions.jal_statement text)
unfolding instructions.jal_statement
good_jal text = search (rules, goods)

good_jalr : (text : List ℕ) → Good (instructions.jalr_statement text)
unfolding instructions.jalr_statement
good_jalr text = search (rules, goods)

good_fence : (text : List ℕ) → Good (instructions.fence_statement text)
unfolding instructions.fence_statement
good_fence text = search (rules, goods)

good_mv : (text : List ℕ) → Good (instructions.mv_statement text)
unfolding instructions.mv_statement
good_mv text = search (rules, goods)

good_j : (text : List ℕ) → Good (instructions.j_statement text)
unfolding instructions.j_statement
good_j text = search (rules, goods)

good_word : {A : Type 0} (o : Option A) (next : A → Result Statement AsmWhy) → ((a : A) → Good (next a)) → Good (instructions.needed_word o next)
good_word None next h = bad _
good_word (Some a) next h = h a

good_bare : (word text : List ℕ) → Good (instructions.bare_statement word text)
unfolding instructions.bare_statement
good_bare word text = search (rules, goods, good_word)

good_pseudo : (word text : List ℕ) → Good (instructions.pseudo_statement word text)
unfolding instructions.pseudo_statement
good_pseudo word text = search (rules, goods, good_jal, good_jalr, good_fence, good_mv, good_j, good_call, good_bare)

good_instruction : (word text : List ℕ) → Good (instructions.instruction_of word text)
unfolding instructions.instruction_of
good_instruction word text = search (rules, goods, good_three, good_immediate, good_shift, good_load, good_store, good_branch, good_upper, good_pseudo)

-- ---- directives

small_align : (n : ℤ) → is_alignment n ≡ true → (0 < magnitude n) × (magnitude n ≤ 4096)
small_align (negsuc n) is = absurd cc
small_align (pos n) is = grind (arith, nat_tests)

good_alignment : (n : ℤ) → Good (checked (is_alignment n) why.Number (Ok (statement.Align (magnitude n))))
good_alignment n = good_tested (is_alignment n) why.Number (Ok (statement.Align (magnitude n))) (λ is. fine (statement.Align (magnitude n)) (small_align n is))

good_align : (text : List ℕ) → Good (directives.align_statement text)
unfolding directives.align_statement
good_align text = search (rules, good_needed, good_alignment)

good_zero : (text : List ℕ) → Good (directives.zero_statement text)
unfolding directives.zero_statement
good_zero text = search (rules, goods)

good_common : (text : List ℕ) → Good (directives.common_statement text)
unfolding directives.common_statement
good_common text = search (rules, goods)

good_option : (text : List ℕ) → Good (directives.option_statement text)
unfolding directives.option_statement
good_option text = search (rules, goods)

good_size : (word text : List ℕ) → Good (directives.size_directive word text)
unfolding directives.size_directive
good_size word text = search (rules, goods, good_zero, good_align, good_common, good_option, good_instruction)

good_symbol : (word text : List ℕ) → Good (directives.symbol_directive word text)
unfolding directives.symbol_directive
good_symbol word text = search (rules, goods, good_size)

good_allowed : (name : List ℕ) (o : Option SectionKind) → Good (directives.allowed_section name o)
good_allowed name None = bad _
good_allowed name (Some kind) = fine _ tt

good_named : (text : List ℕ) → Good (directives.section_statement text)
unfolding directives.section_statement
good_named text = search (rules, goods, good_allowed)

good_bare_section : (name : List ℕ) (kind : SectionKind) (text : List ℕ) → Good (directives.bare_section name kind text)
unfolding directives.bare_section
good_bare_section name kind [] = fine _ tt
good_bare_section name kind (b ∷ bs) = bad _

good_section : (word text : List ℕ) → Good (directives.section_directive word text)
unfolding directives.section_directive
good_section word text = search (rules, goods, good_bare_section, good_named, good_symbol)

good_items : (width : ℕ) (items : List Item) → IsWidth width → Good (checked (list_all (directives.item_fits width) items) why.Number (checked (list_all directives.item_short items) why.Name (Ok (statement.Values width items))))
good_items width items is =
    good_tested (list_all (directives.item_fits width) items) why.Number (checked (list_all directives.item_short items) why.Name (Ok (statement.Values width items)))
    (λ fit. good_checked (list_all directives.item_short items) why.Name (Ok (statement.Values width items)) (fine (statement.Values width items) (is, fit)))

good_values : (width : ℕ) (text : List ℕ) → IsWidth width → Good (directives.values_statement width text)
unfolding directives.values_statement
good_values width [] is = bad _
good_values width (b ∷ bs) is = search (rules, good_needed, good_items)

good_ascii : (text : List ℕ) → Good (directives.ascii_statement text)
unfolding directives.ascii_statement
good_ascii text = search (rules, goods)

good_statement : (word text : List ℕ) → Good (directives.worded_statement word text)
unfolding directives.worded_statement
good_statement word text =
    let one = good_values 1 text (inl refl) in
    let two = good_values 2 text (inr (inl refl)) in
    let four = good_values 4 text (inr (inr (inl refl))) in
    let eight = good_values 8 text (inr (inr (inr refl))) in
    search (rules, good_if, one, two, four, eight, good_ascii, good_section)

good_from : (text : List ℕ) → Good (statement_from text)
good_from [] = fine _ tt
good_from (b ∷ bs) = good_statement (first_word (b ∷ bs)) (operands_text (b ∷ bs))

good_line : (line : List ℕ) → Good (statement_of_line line)
unfolding statement_of_line
good_line line = good_from (statement_text (code_of line))

pub bounded : (line : List ℕ) (s : Statement) → statement_of_line line ≡ Ok s → Bounded s
bounded line s is = (good_line line).is s is
