-- What the statements of a line name: symbols that are symbols, sections whose names have no zero byte, and
-- alignments that are small powers of two.
use Rattle.std.proofs.Common.{rules, ◌≡◌, ℕ, zero, suc, ◌+◌, ◌<◌, ◌≤◌, Bool, true, false, List, [], ◌∷◌, ◌++◌, length, get_or, take, drop, ℤ, pos, negsuc, Option, Some, None, if◌then◌else◌, refl, sym, ◌∙◌, arith}
use Rattle.std.specs.Prelude.{Result, Ok, Err, ⊤, ◌==◌, ◌&&◌, ◌||◌, not, nat_le, nat_lt, option_and_then, codes}
use Rattle.std.specs.List.{list_all, list_any, position_or_len}
use Rattle.std.specs.Str.{bytes_eq}
use Rattle.std.proofs.lemmas.List.{take-append-drop, drop_more, get_or-drop, length-drop}
use Rattle.std.proofs.lemmas.List.Sums.{passes_at_first}
use Rattle.std.proofs.lemmas.Slice.Eq.{bytes_eq-Decides}
use Rattle.std.proofs.lemmas.Bool.Decides.{nat_tests}
use Rattle.rv_insn.specs.declared.insn.Insn.{Insn}
use Rattle.elf_read.specs.Sections.{is_small_power}
use Rattle.asm_lines.specs.declared.statement.AsmWhy.{AsmWhy}
use Rattle.asm_lines.specs.declared.statement.AsmWhy.TheVariants as why
use Rattle.asm_lines.specs.declared.statement.Fixup.{Fixup}
use Rattle.asm_lines.specs.declared.statement.SectionKind.{SectionKind}
use Rattle.asm_lines.specs.declared.statement.Item.{Item}
use Rattle.asm_lines.specs.declared.statement.Item.TheVariants as item
use Rattle.asm_lines.specs.declared.statement.Statement.{Statement}
use Rattle.asm_lines.specs.declared.statement.Statement.TheVariants as statement
use Rattle.asm_lines.specs.declared.values.Part.{Part}
use Rattle.asm_lines.specs.declared.values.Part.TheVariants as part
use Rattle.asm_lines.specs.declared.values.Reference.{Reference}
use Rattle.asm_lines.specs.declared.values.Operand.{Operand}
use Rattle.asm_lines.specs.declared.values.Operand.TheVariants as operand
use Rattle.asm_lines.specs.Directives as directives
use Rattle.asm_lines.specs.Insns as insns
use Rattle.asm_lines.specs.Instructions as instructions
use Rattle.asm_lines.specs.Numbers.{number_of}
use Rattle.asm_lines.specs.Pieces.{pieces_of, taking, ending}
use Rattle.asm_lines.specs.Registers.{register_of}
use Rattle.asm_lines.specs.Statements.{needed, checked, going_on, is_short, is_up_to, is_alignment, magnitude, fixup_of}
use Rattle.asm_lines.specs.Values as values
use Rattle.orc_words.specs.Bits.{fits_bits}
use Rattle.asm_lines.specs.Words.{before_blanks, after_blanks, is_symbol, is_symbol_byte, statement_text, code_of, first_word, operands_text}
use Rattle.asm_lines.specs.Lines.{statement_of_line, statement_from, label_of_line, label_from, label_text_of, checked_label}

abbrev pub IsName : List ℕ → Type 0
IsName s = (is_symbol s ≡ true) × (is_short s ≡ true)

-- ---- options and results of which something holds

abbrev Such : {A : Type 0} → (A → Type 0) → Option A → Type 0
Such P None = ⊤
Such P (Some a) = P a

abbrev Held : {A : Type 0} → (A → Type 0) → Result A AsmWhy → Type 0
Held P (Err because) = ⊤
Held P (Ok a) = P a

such_then : {A B : Type 0} (P : A → Type 0) (Q : B → Type 0) (o : Option A) (f : A → Option B) → Such P o → ((a : A) → P a → Such Q (f a)) → Such Q (option_and_then f o)
such_then P Q None f h next = tt
such_then P Q (Some a) f h next = next a h

such_if : {A : Type 0} (P : A → Type 0) (t : Bool) (o : Option A) → (t ≡ true → Such P o) → Such P (if t then o else None)
such_if P true o h = h refl
such_if P false o h = tt

such_either : {A : Type 0} (P : A → Type 0) (a b : Option A) → Such P a → Such P b → Such P (values.either a b)
such_either P (Some a) b ha hb = ha
such_either P None b ha hb = hb

such_taking : {A B : Type 0} (P : A → Type 0) (Q : B → Type 0) (f : List ℕ → Option A) (pieces : List (List ℕ)) (next : A → List (List ℕ) → Option B) → ((t : List ℕ) → Such P (f t)) → ((a : A) (more : List (List ℕ)) → P a → Such Q (next a more)) → Such Q (taking f pieces next)
such_taking P Q f [] next h k = tt
such_taking P Q f (piece ∷ pieces) next h k = such_then P Q (f piece) (λ a. next a pieces) (h piece) (λ a is. k a pieces is)

such_ending : {A : Type 0} (P : A → Type 0) (a : A) (pieces : List (List ℕ)) → P a → Such P (ending a pieces)
such_ending P a [] h = h
such_ending P a (piece ∷ pieces) h = tt

anything : {A : Type 0} (o : Option A) → Such (λ a. ⊤) o
anything None = tt
anything (Some a) = tt

held_needed : {A B : Type 0} (P : A → Type 0) (Q : B → Type 0) (o : Option A) (next : A → Result B AsmWhy) → Such P o → ((a : A) → P a → Held Q (next a)) → Held Q (needed o next)
held_needed P Q None next h k = tt
held_needed P Q (Some a) next h k = k a h

held_checked : {B : Type 0} (Q : B → Type 0) (t : Bool) (because : AsmWhy) (next : Result B AsmWhy) → (t ≡ true → Held Q next) → Held Q (checked t because next)
held_checked Q true because next h = h refl
held_checked Q false because next h = tt

held_going : {A B : Type 0} (P : A → Type 0) (Q : B → Type 0) (r : Result A AsmWhy) (next : A → Result B AsmWhy) → Held P r → ((a : A) → P a → Held Q (next a)) → Held Q (going_on r next)
held_going P Q (Err because) next h k = tt
held_going P Q (Ok a) next h k = k a h

held_if : {B : Type 0} (Q : B → Type 0) (t : Bool) (x y : Result B AsmWhy) → Held Q x → Held Q y → Held Q (if t then x else y)
held_if Q true x y hx hy = hx
held_if Q false x y hx hy = hy

whatever : {A : Type 0} (r : Result A AsmWhy) → Held (λ a. ⊤) r
whatever (Err because) = tt
whatever (Ok a) = tt

-- ---- references

abbrev Refers : Reference → Type 0
Refers r = is_symbol r.symbol ≡ true

refers_label : (text : List ℕ) → Such Refers (values.label_of text)
refers_label text = such_if Refers (is_symbol text) (Some (record { symbol = text; addend = pos 0 })) (λ is. is)

refers_to : (symbol : List ℕ) (o : Option ℤ) → is_symbol symbol ≡ true → Such Refers (values.referring symbol o)
refers_to symbol None is = tt
refers_to symbol (Some n) is = is

refers_sum : (text : List ℕ) → Such Refers (values.sum_of text)
unfolding values.sum_of
refers_sum text = let n = values.sign_at 43 text in
    such_if Refers (is_symbol (take n text)) (values.referring (take n text) (number_of (drop (n + 1) text))) (λ is. refers_to (take n text) (number_of (drop (n + 1) text)) is)

refers_difference : (text : List ℕ) → Such Refers (values.difference_of text)
unfolding values.difference_of
refers_difference text = let n = values.sign_at 45 text in
    such_if Refers (is_symbol (take n text)) (values.referring (take n text) (values.opposite_of (number_of (drop (n + 1) text)))) (λ is. refers_to (take n text) (values.opposite_of (number_of (drop (n + 1) text))) is)

refers_reference : (text : List ℕ) → Such Refers (values.reference_of text)
unfolding values.reference_of
refers_reference text = such_either Refers (values.label_of text) (values.sum_of text) (refers_label text) (refers_sum text)

refers_part : (p : Part) (inner : List ℕ) → Such Refers (values.part_reference p inner)
refers_part part.PcrelLo inner = refers_label inner
refers_part part.Hi inner = refers_reference inner
refers_part part.Lo inner = refers_reference inner
refers_part part.PcrelHi inner = refers_reference inner
refers_part part.GotPcrelHi inner = refers_reference inner

-- ---- operands

abbrev Operates : Operand → Type 0
Operates (operand.Number n) = ⊤
Operates (operand.Address p r) = Refers r

operates_addressed : (p : Part) (o : Option Reference) → Such Refers o → Such Operates (values.addressed p o)
operates_addressed p None h = tt
operates_addressed p (Some r) h = h

operates_part : (text : List ℕ) → Such Operates (values.part_of text)
unfolding values.part_of
operates_part text =
    let n = position_or_len (λ b. b == 40) text in
    let part = values.part_named (before_blanks (take n text)) in
    let enclosed = values.enclosed (drop n text) in
    such_then (λ (p : Part). ⊤) Operates part (λ p. option_and_then (λ inner. values.addressed p (values.part_reference p inner)) enclosed) (anything part) (λ p _.
    such_then (λ (inner : List ℕ). ⊤) Operates enclosed (λ inner. values.addressed p (values.part_reference p inner)) (anything enclosed) (λ inner _.
    operates_addressed p (values.part_reference p inner) (refers_part p inner)))

operates_numbered : (o : Option ℤ) → Such Operates (values.numbered o)
operates_numbered None = tt
operates_numbered (Some n) = tt

such_cond : {A : Type 0} (P : A → Type 0) (t : Bool) (x y : Option A) → (t ≡ true → Such P x) → Such P y → Such P (if t then x else y)
such_cond P true x y hx hy = hx refl
such_cond P false x y hx hy = hy

operates : (text : List ℕ) → Such Operates (values.operand_of text)
unfolding values.operand_of
operates [] = tt
operates (b ∷ bs) = such_cond Operates (b == 37) (values.part_of bs) (values.numbered (number_of (b ∷ bs))) (λ _. operates_part bs) (operates_numbered (number_of (b ∷ bs)))

operates_only : (allowed : Part → Bool) (o : Operand) → Operates o → Such Operates (values.only allowed o)
operates_only allowed (operand.Number n) h = tt
operates_only allowed (operand.Address p r) h = such_if Operates (allowed p) (Some (operand.Address p r)) (λ _. h)

operates_low : (text : List ℕ) → Such Operates (values.low_of text)
unfolding values.low_of
operates_low text = such_then Operates Operates (values.operand_of text) (values.only values.is_low) (operates text) (λ o h. operates_only values.is_low o h)

operates_high : (text : List ℕ) → Such Operates (values.high_of text)
unfolding values.high_of
operates_high text = such_then Operates Operates (values.operand_of text) (values.only (λ p. not (values.is_low p))) (operates text) (λ o h. operates_only (λ p. not (values.is_low p)) o h)

operates_based : (text : List ℕ) → Such (λ p. Operates p.0) (values.based_of text)
unfolding values.based_of
operates_based text =
    let n = values.base_at text in
    let low = values.low_of (before_blanks (take n text)) in
    let enclosed = values.enclosed (after_blanks (drop n text)) in
    such_then Operates (λ (p : Operand × ℕ). Operates p.0) low (λ low. option_and_then (λ inner. option_and_then (λ base. Some (low, base)) (register_of inner)) enclosed) (operates_low (before_blanks (take n text))) (λ low h.
    such_then (λ (inner : List ℕ). ⊤) (λ (p : Operand × ℕ). Operates p.0) enclosed (λ inner. option_and_then (λ base. Some (low, base)) (register_of inner)) (anything enclosed) (λ inner _.
    such_then (λ (base : ℕ). ⊤) (λ (p : Operand × ℕ). Operates p.0) (register_of inner) (λ base. Some (low, base)) (anything (register_of inner)) (λ base _. h)))

-- ---- relocations

fixes : (kind : ℕ) (r : Reference) → Refers r → Held (λ f. IsName f.symbol) (fixup_of kind r)
fixes kind r h =
    let made : Result Fixup AsmWhy = Ok (record { kind = kind; symbol = r.symbol; addend = r.addend }) in
    held_checked (λ (f : Fixup). IsName f.symbol) (fits_bits 64 r.addend) why.Number (checked (is_short r.symbol) why.Name made) (λ _.
    held_checked (λ (f : Fixup). IsName f.symbol) (is_short r.symbol) why.Name made (λ short. (h, short)))

abbrev pub Fixes : Option Fixup → Type 0
Fixes None = ⊤
Fixes (Some f) = IsName f.symbol

fixes_low : (store : Bool) (o : Operand) → Operates o → Held (λ v. Fixes v.1) (instructions.low_value store o)
unfolding instructions.low_value
fixes_low store (operand.Number n) h = held_going (λ a. ⊤) (λ v. Fixes v.1) (instructions.low_number n) _ (whatever _) (λ imm _. tt)
fixes_low store (operand.Address p r) h = held_going (λ f. IsName f.symbol) (λ v. Fixes v.1) (fixup_of (instructions.low_kind store p) r) _ (fixes (instructions.low_kind store p) r h) (λ f is. is)

fixes_high : (o : Operand) → Operates o → Held (λ v. Fixes v.1) (instructions.high_value o)
unfolding instructions.high_value
fixes_high (operand.Number n) h = held_going (λ a. ⊤) (λ v. Fixes v.1) (instructions.high_number n) _ (whatever _) (λ imm _. tt)
fixes_high (operand.Address p r) h = held_going (λ f. IsName f.symbol) (λ v. Fixes v.1) (fixup_of (instructions.high_kind p) r) _ (fixes (instructions.high_kind p) r h) (λ f is. is)

-- ---- statements

abbrev pub Itemized : List Item → Type 0
Itemized [] = ⊤
Itemized (item.Number n ∷ items) = Itemized items
Itemized (item.Address r ∷ items) = IsName r.symbol × Itemized items

abbrev pub NoZero : List ℕ → Type 0
NoZero name = list_any (λ b. b == 0) name ≡ false

abbrev pub Fine : Statement → Type 0
Fine (statement.Section name kind) = NoZero name
Fine (statement.Global symbol) = IsName symbol
Fine (statement.Weak symbol) = IsName symbol
Fine (statement.Hidden symbol) = IsName symbol
Fine (statement.Values width items) = Itemized items
Fine (statement.Align align) = is_small_power align ≡ true
Fine (statement.Common symbol size align) = IsName symbol × (size ≤ 0x1000000) × (is_small_power align ≡ true)
Fine (statement.Code insn fixup) = Fixes fixup
Fine (statement.Call first second symbol) = IsName symbol
Fine statement.Nothing = ⊤
Fine (statement.Ascii bytes) = ⊤
Fine (statement.Zero n) = ⊤
Fine (statement.Relax relax) = ⊤

fine_worded : (o : Option Insn) (fixup : Option Fixup) → Fixes fixup → Held Fine (instructions.worded o fixup)
fine_worded None fixup h = tt
fine_worded (Some insn) fixup h = h

-- ---- instructions

-- two registers and what f reads, and one
such_two : {A : Type 0} (P : A → Type 0) (f : List ℕ → Option A) → ((t : List ℕ) → Such P (f t)) → (pieces : List (List ℕ)) → Such (λ p. P p.2) (instructions.two_registers_and f pieces)
unfolding instructions.two_registers_and
such_two P f h pieces =
    such_taking (λ a. ⊤) (λ p. P p.2) register_of pieces _ (λ t. anything _)
    (λ r ps _. such_taking (λ a. ⊤) (λ p. P p.2) register_of ps _ (λ t. anything _)
    (λ s qs _. such_taking P (λ p. P p.2) f qs _ h (λ a rest is. such_ending (λ p. P p.2) (r, s, a) rest is)))

such_one : {A : Type 0} (P : A → Type 0) (f : List ℕ → Option A) → ((t : List ℕ) → Such P (f t)) → (pieces : List (List ℕ)) → Such (λ p. P p.1) (instructions.register_and f pieces)
unfolding instructions.register_and
such_one P f h pieces =
    such_taking (λ a. ⊤) (λ p. P p.1) register_of pieces _ (λ t. anything _)
    (λ r ps _. such_taking P (λ p. P p.1) f ps _ h (λ a rest is. such_ending (λ p. P p.1) (r, a) rest is))

fine_three : (make : ℕ → ℕ → ℕ → Option Insn) (text : List ℕ) → Held Fine (instructions.three_registers_statement make text)
unfolding instructions.three_registers_statement
fine_three make text = held_needed (λ (p : ℕ × ℕ × ℕ). ⊤) Fine (instructions.three_registers (pieces_of text)) _ (anything (instructions.three_registers (pieces_of text))) (λ p _. fine_worded (make p.0 p.1 p.2) None tt)

fine_immediate : (make : ℕ → ℕ → ℤ → Option Insn) (text : List ℕ) → Held Fine (instructions.immediate_statement make text)
unfolding instructions.immediate_statement
fine_immediate make text =
    held_needed (λ (p : ℕ × ℕ × Operand). Operates p.2) Fine _ _ (such_two Operates values.low_of operates_low (pieces_of text))
    (λ p h. held_going (λ v. Fixes v.1) Fine (instructions.low_value false p.2) _ (fixes_low false p.2 h) (λ v is. fine_worded (make p.0 p.1 v.0) v.1 is))

fine_shift : (bits : ℕ) (make : ℕ → ℕ → ℤ → Option Insn) (text : List ℕ) → Held Fine (instructions.shift_statement bits make text)
unfolding instructions.shift_statement
fine_shift bits make text =
    held_needed (λ (p : ℕ × ℕ × ℤ). ⊤) Fine (instructions.two_registers_and number_of (pieces_of text)) _ (anything (instructions.two_registers_and number_of (pieces_of text))) (λ p _.
    held_going (λ (amount : ℤ). ⊤) Fine (instructions.amount_number bits p.2) _ (whatever (instructions.amount_number bits p.2)) (λ amount _. fine_worded (make p.0 p.1 amount) None tt))

fine_load : (make : ℕ → ℕ → ℤ → Option Insn) (text : List ℕ) → Held Fine (instructions.load_statement make text)
unfolding instructions.load_statement
fine_load make text =
    held_needed (λ (p : ℕ × (Operand × ℕ)). Operates p.1.0) Fine _ _ (such_one (λ q. Operates q.0) values.based_of operates_based (pieces_of text))
    (λ p h. held_going (λ v. Fixes v.1) Fine (instructions.low_value false p.1.0) _ (fixes_low false p.1.0 h) (λ v is. fine_worded (make p.0 p.1.1 v.0) v.1 is))

fine_store : (make : ℕ → ℕ → ℤ → Option Insn) (text : List ℕ) → Held Fine (instructions.store_statement make text)
unfolding instructions.store_statement
fine_store make text =
    held_needed (λ (p : ℕ × (Operand × ℕ)). Operates p.1.0) Fine _ _ (such_one (λ q. Operates q.0) values.based_of operates_based (pieces_of text))
    (λ p h. held_going (λ v. Fixes v.1) Fine (instructions.low_value true p.1.0) _ (fixes_low true p.1.0 h) (λ v is. fine_worded (make p.1.1 p.0 v.0) v.1 is))

fine_branch : (make : ℕ → ℕ → ℤ → Option Insn) (text : List ℕ) → Held Fine (instructions.branch_statement make text)
unfolding instructions.branch_statement
fine_branch make text =
    held_needed (λ (p : ℕ × ℕ × Reference). Refers p.2) Fine _ _ (such_two Refers values.label_of refers_label (pieces_of text))
    (λ p h. held_going (λ f. IsName f.symbol) Fine (fixup_of 16 p.2) _ (fixes 16 p.2 h) (λ f is. fine_worded (make p.0 p.1 (pos 0)) (Some f) is))

fine_upper : (make : ℕ → ℤ → Option Insn) (text : List ℕ) → Held Fine (instructions.upper_statement make text)
unfolding instructions.upper_statement
fine_upper make text =
    held_needed (λ (p : ℕ × Operand). Operates p.1) Fine _ _ (such_one Operates values.high_of operates_high (pieces_of text))
    (λ p h. held_going (λ v. Fixes v.1) Fine (instructions.high_value p.1) _ (fixes_high p.1 h) (λ v is. fine_worded (make p.0 v.0) v.1 is))

fine_jal : (text : List ℕ) → Held Fine (instructions.jal_statement text)
unfolding instructions.jal_statement
fine_jal text =
    held_needed (λ (p : ℕ × Reference). Refers p.1) Fine _ _ (such_one Refers values.label_of refers_label (pieces_of text))
    (λ p h. held_going (λ f. IsName f.symbol) Fine (fixup_of 17 p.1) _ (fixes 17 p.1 h) (λ f is. is))

operates_turned : (o : Option (ℕ × (Operand × ℕ))) → Such (λ p. Operates p.1.0) o → Such (λ p. Operates p.2) (instructions.turned o)
operates_turned None h = tt
operates_turned (Some p) h = h

fine_jalr : (text : List ℕ) → Held Fine (instructions.jalr_statement text)
unfolding instructions.jalr_statement instructions.jalr_operands
fine_jalr text =
    held_needed (λ (p : ℕ × ℕ × Operand). Operates p.2) Fine (instructions.jalr_operands (pieces_of text)) _
    (such_either (λ (p : ℕ × ℕ × Operand). Operates p.2) (instructions.turned (instructions.register_and values.based_of (pieces_of text))) (instructions.two_registers_and values.low_of (pieces_of text)) (operates_turned _ (such_one (λ q. Operates q.0) values.based_of operates_based (pieces_of text))) (such_two Operates values.low_of operates_low (pieces_of text)))
    (λ p h. held_going (λ v. Fixes v.1) Fine (instructions.low_value false p.2) _ (fixes_low false p.2 h) (λ v is. is))

fine_fence : (text : List ℕ) → Held Fine (instructions.fence_statement text)
unfolding instructions.fence_statement
fine_fence text = held_needed (λ (p : ℕ × ℕ). ⊤) Fine (instructions.fence_operands (pieces_of text)) _ (anything (instructions.fence_operands (pieces_of text))) (λ p _. tt)

fine_mv : (text : List ℕ) → Held Fine (instructions.mv_statement text)
unfolding instructions.mv_statement
fine_mv text = held_needed (λ (p : ℕ × ℕ). ⊤) Fine (instructions.two_registers (pieces_of text)) _ (anything (instructions.two_registers (pieces_of text))) (λ p _. tt)

refers_one : (pieces : List (List ℕ)) → Such Refers (instructions.one_label pieces)
unfolding instructions.one_label
refers_one pieces = such_taking Refers Refers values.label_of pieces _ refers_label (λ r rest is. such_ending Refers r rest is)

fine_j : (text : List ℕ) → Held Fine (instructions.j_statement text)
unfolding instructions.j_statement
fine_j text =
    held_needed Refers Fine _ _ (refers_one (pieces_of text))
    (λ r h. held_going (λ f. IsName f.symbol) Fine (fixup_of 17 r) _ (fixes 17 r h) (λ f is. is))

fine_call : (way link : ℕ) (text : List ℕ) → Held Fine (instructions.call_statement way link text)
unfolding instructions.call_statement
fine_call way link text =
    held_needed Refers Fine _ _ (refers_one (pieces_of text)) (λ r h. held_checked Fine (is_short r.symbol) why.Name _ (λ short. (h, short)))

held_word : {A : Type 0} (Q : Statement → Type 0) (o : Option A) (next : A → Result Statement AsmWhy) → ((a : A) → Held Q (next a)) → Held Q (instructions.needed_word o next)
held_word Q None next h = tt
held_word Q (Some a) next h = h a

fine_bare : (word text : List ℕ) → Held Fine (instructions.bare_statement word text)
unfolding instructions.bare_statement
fine_bare word text =
    held_word Fine (instructions.bare_insn word) _ (λ insn. held_needed (λ (i : Insn). ⊤) Fine (ending insn (pieces_of text)) _ (anything (ending insn (pieces_of text))) (λ i _. tt))

fine_pseudo : (word text : List ℕ) → Held Fine (instructions.pseudo_statement word text)
unfolding instructions.pseudo_statement
fine_pseudo word text =
    held_if Fine (bytes_eq word (codes "jal")) _ _ (fine_jal text)
    (held_if Fine (bytes_eq word (codes "jalr")) _ _ (fine_jalr text)
    (held_if Fine (bytes_eq word (codes "fence")) _ _ (fine_fence text)
    (held_if Fine (bytes_eq word (codes "mv")) _ _ (fine_mv text)
    (held_if Fine (bytes_eq word (codes "j")) _ _ (fine_j text)
    (held_if Fine (bytes_eq word (codes "call")) _ _ (fine_call 1 1 text)
    (held_if Fine (bytes_eq word (codes "tail")) _ _ (fine_call 6 0 text) (fine_bare word text)))))))

fine_instruction : (word text : List ℕ) → Held Fine (instructions.instruction_of word text)
unfolding instructions.instruction_of
fine_instruction word text =
    held_if Fine (insns.is_op word) _ _ (fine_three _ text)
    (held_if Fine (insns.is_op_32 word) _ _ (fine_three _ text)
    (held_if Fine (insns.is_imm word) _ _ (fine_immediate _ text)
    (held_if Fine (insns.is_shift word) _ _ (fine_shift 6 _ text)
    (held_if Fine (insns.is_shift_32 word) _ _ (fine_shift 5 _ text)
    (held_if Fine (insns.is_load word) _ _ (fine_load _ text)
    (held_if Fine (insns.is_store word) _ _ (fine_store _ text)
    (held_if Fine (insns.is_branch word) _ _ (fine_branch _ text)
    (held_if Fine (insns.is_upper word) _ _ (fine_upper _ text) (fine_pseudo word text)))))))))

-- ---- directives

abbrev Symbolic : Item → Type 0
Symbolic (item.Number n) = ⊤
Symbolic (item.Address r) = Refers r

symbolic_number : (o : Option ℤ) → Such Symbolic (directives.number_item o)
symbolic_number None = tt
symbolic_number (Some n) = tt

symbolic_address : (o : Option Reference) → Such Refers o → Such Symbolic (directives.address_item o)
symbolic_address None h = tt
symbolic_address (Some r) h = h

symbolic_item : (width : ℕ) (text : List ℕ) → Such Symbolic (directives.item_of width text)
unfolding directives.item_of directives.address_of
symbolic_item width text =
    such_either Symbolic _ _ (symbolic_number (number_of text))
    (such_if Symbolic _ _ (λ _. symbolic_address _ (such_either Refers _ _ (refers_reference text) (refers_difference text))))

abbrev AllSymbolic : List Item → Type 0
AllSymbolic [] = ⊤
AllSymbolic (i ∷ items) = Symbolic i × AllSymbolic items

symbolic_joined : (o : Option Item) (items : Option (List Item)) → Such Symbolic o → Such AllSymbolic items → Such AllSymbolic (directives.joined o items)
symbolic_joined None items h k = tt
symbolic_joined (Some i) None h k = tt
symbolic_joined (Some i) (Some items) h k = (h, k)

symbolic_items : (width : ℕ) (pieces : List (List ℕ)) → Such AllSymbolic (directives.items_of width pieces)
symbolic_items width [] = tt
symbolic_items width (piece ∷ pieces) = symbolic_joined (directives.item_of width piece) (directives.items_of width pieces) (symbolic_item width piece) (symbolic_items width pieces)

pub and_left : (a b : Bool) → (a && b) ≡ true → a ≡ true
and_left true b h = refl
and_left false b h = h

pub and_right : (a b : Bool) → (a && b) ≡ true → b ≡ true
and_right true b h = h
and_right false b h = absurd (cc h)

itemized : (items : List Item) → AllSymbolic items → list_all directives.item_short items ≡ true → Itemized items
itemized [] h k = tt
itemized (item.Number n ∷ items) h k = itemized items h.1 (and_right true (list_all directives.item_short items) k)
itemized (item.Address r ∷ items) h k =
    ((h.0, and_left (is_short r.symbol) (list_all directives.item_short items) k), itemized items h.1 (and_right (is_short r.symbol) (list_all directives.item_short items) k))

fine_values : (width : ℕ) (text : List ℕ) → Held Fine (directives.values_statement width text)
unfolding directives.values_statement
fine_values width [] = tt
fine_values width (b ∷ bs) =
    held_needed AllSymbolic Fine _ _ (symbolic_items width (pieces_of (b ∷ bs)))
    (λ items h.
    held_checked Fine (list_all (directives.item_fits width) items) why.Number (checked (list_all directives.item_short items) why.Name (Ok (statement.Values width items))) (λ _.
    held_checked Fine (list_all directives.item_short items) why.Name (Ok (statement.Values width items)) (λ short. itemized items h short)))

fine_ascii : (text : List ℕ) → Held Fine (directives.ascii_statement text)
unfolding directives.ascii_statement
fine_ascii text = held_needed (λ (bytes : List ℕ). ⊤) Fine (directives.string_of text) _ (anything (directives.string_of text)) (λ bytes _. tt)

fine_zero : (text : List ℕ) → Held Fine (directives.zero_statement text)
unfolding directives.zero_statement
fine_zero text =
    held_needed (λ (n : ℤ). ⊤) Fine (number_of text) _ (anything (number_of text)) (λ n _. held_checked Fine (is_up_to directives.largest_size n) why.Number (Ok (statement.Zero (magnitude n))) (λ _. tt))

-- the alignments are the small powers of two
small_power : (n : ℤ) → is_alignment n ≡ true → is_small_power (magnitude n) ≡ true
unfolding is_small_power
small_power (negsuc n) h = absurd (cc h)
small_power (pos n) h = grind (arith, nat_tests, h)

fine_align : (text : List ℕ) → Held Fine (directives.align_statement text)
unfolding directives.align_statement
fine_align text =
    held_needed (λ (n : ℤ). ⊤) Fine (number_of text) _ (anything (number_of text)) (λ n _. held_checked Fine (is_alignment n) why.Number (Ok (statement.Align (magnitude n))) (λ is. small_power n is))

up_to : (limit : ℕ) (n : ℤ) → is_up_to limit n ≡ true → magnitude n ≤ limit
up_to limit (negsuc n) h = absurd (cc h)
up_to limit (pos n) h = grind (arith, nat_tests, h)

such_symbol : (text : List ℕ) → Such (λ s. is_symbol s ≡ true) (directives.symbol_of text)
such_symbol text = such_if (λ s. is_symbol s ≡ true) (is_symbol text) (Some text) (λ is. is)

such_common : (pieces : List (List ℕ)) → Such (λ p. is_symbol p.0 ≡ true) (directives.common_operands pieces)
unfolding directives.common_operands
such_common pieces =
    such_taking (λ s. is_symbol s ≡ true) (λ p. is_symbol p.0 ≡ true) directives.symbol_of pieces _ such_symbol
    (λ s ps is. such_taking (λ a. ⊤) (λ p. is_symbol p.0 ≡ true) number_of ps _ (λ t. anything _)
    (λ size qs _. such_taking (λ a. ⊤) (λ p. is_symbol p.0 ≡ true) number_of qs _ (λ t. anything _)
    (λ align rest _. such_ending (λ p. is_symbol p.0 ≡ true) (s, size, align) rest is)))

fine_common : (text : List ℕ) → Held Fine (directives.common_statement text)
unfolding directives.common_statement
fine_common text =
    held_needed (λ (p : List ℕ × ℤ × ℤ). is_symbol p.0 ≡ true) Fine (directives.common_operands (pieces_of text)) _ (such_common (pieces_of text)) (λ p is.
    let small = is_up_to directives.largest_size p.1 in
    let made : Result Statement AsmWhy = Ok (statement.Common p.0 (magnitude p.1) (magnitude p.2)) in
    held_checked Fine (small && is_alignment p.2) why.Number (checked (is_short p.0) why.Name made) (λ fit.
    held_checked Fine (is_short p.0) why.Name made (λ short.
    ((is, short), up_to directives.largest_size p.1 (and_left small (is_alignment p.2) fit), small_power p.2 (and_right small (is_alignment p.2) fit)))))

fine_option : (text : List ℕ) → Held Fine (directives.option_statement text)
unfolding directives.option_statement
fine_option text =
    let off = if bytes_eq text (codes "norelax") then Ok (statement.Relax false) else Err why.Operands in
    held_if Fine (bytes_eq text (codes "relax")) (Ok (statement.Relax true)) off tt (held_if Fine (bytes_eq text (codes "norelax")) (Ok (statement.Relax false)) (Err why.Operands) tt tt)

fine_size : (word text : List ℕ) → Held Fine (directives.size_directive word text)
unfolding directives.size_directive
fine_size word text =
    held_if Fine (bytes_eq word (codes ".zero")) _ _ (fine_zero text)
    (held_if Fine (bytes_eq word (codes ".balign")) _ _ (fine_align text) (held_if Fine (bytes_eq word (codes ".comm")) _ _ (fine_common text) (held_if Fine (bytes_eq word (codes ".option")) _ _ (fine_option text) (fine_instruction word text))))

named_operand : (text : List ℕ) → Held IsName (directives.symbol_operand text)
unfolding directives.symbol_operand
named_operand text = held_tested IsName (is_symbol text) _ _ (λ is. held_checked IsName (is_short text) why.Name _ (λ short. (is, short))) tt where
  held_tested : {B : Type 0} (Q : B → Type 0) (t : Bool) (x y : Result B AsmWhy) → (t ≡ true → Held Q x) → Held Q y → Held Q (if t then x else y)
  held_tested Q true x y hx hy = hx refl
  held_tested Q false x y hx hy = hy

fine_symbol : (word text : List ℕ) → Held Fine (directives.symbol_directive word text)
unfolding directives.symbol_directive
fine_symbol word text =
    held_if Fine (bytes_eq word (codes ".globl")) _ _ (held_going IsName Fine (directives.symbol_operand text) _ (named_operand text) (λ s h. h))
    (held_if Fine (bytes_eq word (codes ".weak")) _ _ (held_going IsName Fine (directives.symbol_operand text) _ (named_operand text) (λ s h. h))
    (held_if Fine (bytes_eq word (codes ".hidden")) _ _ (held_going IsName Fine (directives.symbol_operand text) _ (named_operand text) (λ s h. h)) (fine_size word text)))

-- ---- sections

no_zero_append : (xs ys : List ℕ) → NoZero xs → NoZero ys → NoZero (xs ++ ys)
no_zero_append [] ys hx hy = hy
no_zero_append (x ∷ xs) ys hx hy = any_or (x == 0) (list_any (λ b. b == 0) xs) (list_any (λ b. b == 0) (xs ++ ys)) hx (no_zero_append xs ys) hy where
  any_or : (t u v : Bool) → (t || u) ≡ false → (u ≡ false → list_any (λ b. b == 0) ys ≡ false → v ≡ false) → list_any (λ b. b == 0) ys ≡ false → (t || v) ≡ false
  any_or true u v h k hy = absurd (cc h)
  any_or false u v h k hy = k h hy

pub nonzero : (n : ℕ) → (suc n == 0) ≡ false
nonzero n = grind (arith, nat_tests)

-- what bytes of symbols are made of has no zero byte
pub symbol_bytes_no_zero : (bytes : List ℕ) → list_all is_symbol_byte bytes ≡ true → NoZero bytes
symbol_bytes_no_zero [] h = refl
symbol_bytes_no_zero (b ∷ bs) h = none (b == 0) (list_any (λ b. b == 0) bs) (byte b (and_left (is_symbol_byte b) (list_all is_symbol_byte bs) h)) (symbol_bytes_no_zero bs (and_right (is_symbol_byte b) (list_all is_symbol_byte bs) h)) where
  byte : (b : ℕ) → is_symbol_byte b ≡ true → (b == 0) ≡ false
  byte zero h = absurd (cc h)
  byte (suc n) h = nonzero n

  none : (t u : Bool) → t ≡ false → u ≡ false → (t || u) ≡ false
  none true u h k = h
  none false u h k = k

known_no_zero : (name known : List ℕ) → NoZero known → bytes_eq name known ≡ true → NoZero name
known_no_zero name known h eq = let same : name ≡ known = (bytes_eq-Decides name known).0 (search (rules, eq)) in rw same h

section_no_zero : (name : List ℕ) → Such (λ (k : SectionKind). NoZero name) (directives.section_kind name)
unfolding directives.section_kind
section_no_zero name =
    such_cond (λ (k : SectionKind). NoZero name) (bytes_eq name (codes ".text")) _ _ (known_no_zero name (codes ".text") refl)
    (such_cond (λ (k : SectionKind). NoZero name) (bytes_eq name (codes ".data")) _ _ (known_no_zero name (codes ".data") refl)
    (such_cond (λ (k : SectionKind). NoZero name) (bytes_eq name (codes ".bss")) _ _ (known_no_zero name (codes ".bss") refl)
    (such_cond (λ (k : SectionKind). NoZero name) (bytes_eq name (codes ".rodata")) _ _ (known_no_zero name (codes ".rodata") refl)
    (such_cond (λ (k : SectionKind). NoZero name) (bytes_eq name (codes ".eh_frame")) _ _ (known_no_zero name (codes ".eh_frame") refl) tt))))

-- the parts of a name before and after its second dot
dotted : (name : List ℕ) (n : ℕ) → n < length name → get_or name n 0 ≡ 46 → NoZero (take n name) → NoZero (drop (n + 1) name) → NoZero name
dotted name n lt dot before after =
    let rest : NoZero (get_or name n 0 ∷ drop (n + 1) name) = rw dot after in
    let parts : take n name ++ drop n name ≡ name = take-append-drop n name in
    let whole = no_zero_append (take n name) (drop n name) before (rw (drop_more name n 0 lt) rest) in
    rw parts at whole

dot_at : (name : List ℕ) → directives.second_dot name + 1 < length name → get_or name (directives.second_dot name) 0 ≡ 46
dot_at name lt =
    let inside : position_or_len (λ b. b == 46) (drop 1 name) < length (drop 1 name) = omega (arith, lt, length-drop 1 name) in
    let dot = passes_at_first (λ b. b == 46) (drop 1 name) 0 inside in
    sym (get_or-drop 1 name (position_or_len (λ b. b == 46) (drop 1 name)) 0) ∙ grind (arith, nat_tests, dot)

kind_no_zero : (name : List ℕ) → Such (λ (k : SectionKind). NoZero name) (directives.kind_of_name name)
unfolding directives.kind_of_name
kind_no_zero name = let n = directives.second_dot name in
    such_cond (λ (k : SectionKind). NoZero name) (nat_le (length name) n) (directives.section_kind name) _ (λ _. section_no_zero name)
    (such_if (λ (k : SectionKind). NoZero name) _ (directives.section_kind (take n name)) (λ both.
    let lt : n + 1 < length name = grind (arith, nat_tests, and_left (nat_lt (n + 1) (length name)) _ both) in
    let after = symbol_bytes_no_zero (drop (n + 1) name) (and_right (nat_lt (n + 1) (length name)) _ both) in
    such_weaker _ _ _ (λ k before. dotted name n (omega (arith, lt)) (dot_at name lt) before after) (section_no_zero (take n name)))) where
      such_weaker : {A : Type 0} (P Q : A → Type 0) (o : Option A) → ((a : A) → P a → Q a) → Such P o → Such Q o
      such_weaker P Q None f h = tt
      such_weaker P Q (Some a) f h = f a h

fine_allowed : (name : List ℕ) (o : Option SectionKind) → Such (λ (k : SectionKind). NoZero name) o → Held Fine (directives.allowed_section name o)
fine_allowed name None h = tt
fine_allowed name (Some kind) h = h

fine_named : (text : List ℕ) → Held Fine (directives.section_statement text)
unfolding directives.section_statement
fine_named text = held_if Fine (directives.is_section_word text) (directives.allowed_section text (directives.kind_of_name text)) (Err why.Operands) (fine_allowed text (directives.kind_of_name text) (kind_no_zero text)) tt

fine_bare_section : (name : List ℕ) (kind : SectionKind) (text : List ℕ) → NoZero name → Held Fine (directives.bare_section name kind text)
unfolding directives.bare_section
fine_bare_section name kind [] h = h
fine_bare_section name kind (b ∷ bs) h = tt

fine_section : (word text : List ℕ) → Held Fine (directives.section_directive word text)
unfolding directives.section_directive
fine_section word text =
    held_if Fine (bytes_eq word (codes ".text")) _ _ (fine_bare_section (codes ".text") _ text refl)
    (held_if Fine (bytes_eq word (codes ".data")) _ _ (fine_bare_section (codes ".data") _ text refl)
    (held_if Fine (bytes_eq word (codes ".bss")) _ _ (fine_bare_section (codes ".bss") _ text refl) (held_if Fine (bytes_eq word (codes ".section")) _ _ (fine_named text) (fine_symbol word text))))

-- ---- lines

fine_statement : (word text : List ℕ) → Held Fine (directives.worded_statement word text)
unfolding directives.worded_statement
fine_statement word text =
    held_if Fine (bytes_eq word (codes ".byte")) _ _ (fine_values 1 text)
    (held_if Fine (bytes_eq word (codes ".half")) _ _ (fine_values 2 text)
    (held_if Fine (bytes_eq word (codes ".word")) _ _ (fine_values 4 text)
    (held_if Fine (bytes_eq word (codes ".dword")) _ _ (fine_values 8 text) (held_if Fine (bytes_eq word (codes ".ascii")) _ _ (fine_ascii text) (fine_section word text)))))

fine_from : (text : List ℕ) → Held Fine (statement_from text)
fine_from [] = tt
fine_from (b ∷ bs) = fine_statement (first_word (b ∷ bs)) (operands_text (b ∷ bs))

fine_line : (line : List ℕ) → Held Fine (statement_of_line line)
unfolding statement_of_line
fine_line line = fine_from (statement_text (code_of line))

pub fine : (line : List ℕ) (s : Statement) → statement_of_line line ≡ Ok s → Fine s
fine line s is = let held = fine_line line in rw is at held

-- the name of a label
abbrev pub Labels : Option (List ℕ) → Type 0
Labels None = ⊤
Labels (Some name) = IsName name

named_label : (text : List ℕ) → Held Labels (checked_label text)
named_label text = tested (is_symbol text) (is_short text) refl refl where
  tested : (t u : Bool) → is_symbol text ≡ t → is_short text ≡ u → Held Labels (if t && u then Ok (Some text) else Err why.Label)
  tested true true h k = (h, k)
  tested true false h k = tt
  tested false u h k = tt

named_from : (o : Option (List ℕ)) → Held Labels (label_from o)
named_from None = tt
named_from (Some text) = named_label text

pub labels : (line : List ℕ) (label : Option (List ℕ)) → label_of_line line ≡ Ok label → Labels label
unfolding label_of_line
labels line label is = let held = named_from (label_text_of (code_of line)) in rw is at held
