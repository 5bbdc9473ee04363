-- A text has one object at most.
use Rattle.std.proofs.Common.{◌≡◌, ℕ, Bool, true, false, List, [], ◌∷◌, length, get_or, sym, ap, ◌∙◌, subst, arith}
use Rattle.std.specs.Prelude.{slice_index}
use Rattle.std.proofs.lemmas.Grind.{same_number_lists}
use Rattle.std.proofs.lemmas.List.{same_lists}
use Rattle.std.proofs.lemmas.Option.{slice_get-get_or}
use Rattle.orc_words.specs.Numbers.{with_number}
use Rattle.rv_insn.specs.declared.insn.Insn.{Insn}
use Rattle.rv_insn.proofs.OneWord.{one_word}
use Rattle.elf_read.specs.declared.object.ElfObject.{ElfObject}
use Rattle.elf_read.specs.declared.object.Section.{Section}
use Rattle.asm_state.specs.declared.section.Code.{Code}
use Rattle.asm_state.specs.Sections.{Made, is_bss}
use Rattle.asm_state.specs.Symbols.{Symbols}
use Rattle.asm_text.specs.Known.{Known}
use Rattle.asm_text.specs.Texts.{reading}
use Rattle.rv_asm.specs.Branches.{filled}
use Rattle.rv_asm.specs.Objects.{HaveOneObject, IsObject, known}
use Rattle.rv_asm.specs.Sections.{AreSections, Encoded, HoldsIf, IsContents, IsSection, IsWord, made_at, name_at}

one_word_of : (i : Insn) (v w : ℕ) → IsWord i v → IsWord i w → v ≡ w
one_word_of i v w f g = one_word i v w f.0 g.0 f.1 g.1

one_encoding : (s : Symbols) (section : ℕ) (cs : List Code) (before one other : ℕ → ℕ) → Encoded s section cs before one → Encoded s section cs before other → one ≡ other
one_encoding s section [] before one other p q = p ∙ sym q
one_encoding s section (c ∷ cs) before one other (v, (f, p)) (w, (g, q)) =
    let same = one_word_of (filled s section c) v w f g in
    one_encoding s section cs (with_number 4 c.at w before) one other (subst (λ (x : ℕ). Encoded s section cs (with_number 4 c.at x before) one) same p) q

-- bytes at the same places are the same
same_bytes : (xs ys : List ℕ) → length xs ≡ length ys → slice_index xs ≡ slice_index ys → xs ≡ ys
same_bytes xs ys sized e = same_number_lists xs ys sized (λ k lt. ap (λ (f : ℕ → ℕ). f k) e)

one_content : (s : Symbols) (section : ℕ) (m : Made) (one other : List ℕ) → IsContents s section m one → IsContents s section m other → one ≡ other
one_content s section m one other p q =
    same_bytes one other (p.sized ∙ sym q.sized) (one_encoding s section m.code (slice_index m.bytes) (slice_index one) (slice_index other) p.encoded q.encoded)

one_holding : (bss : Bool) (s : Symbols) (section : ℕ) (m : Made) (one other : List ℕ) → HoldsIf bss s section m one → HoldsIf bss s section m other → one ≡ other
one_holding true s section m one other p q = p ∙ sym q
one_holding false s section m one other p q = one_content s section m one other p q

-- sections with the same fields are the same
same_section : (a b : Section) → a.name ≡ b.name → a.kind ≡ b.kind → a.flags ≡ b.flags → a.align ≡ b.align → a.size ≡ b.size → a.bytes ≡ b.bytes → a.relocs ≡ b.relocs → a ≡ b
same_section a b name kind flags align size bytes relocs =
    ap (λ x. record { name = x; kind = a.kind; flags = a.flags; align = a.align; size = a.size; bytes = a.bytes; relocs = a.relocs }) name
    ∙ ap (λ x. record { name = b.name; kind = x; flags = a.flags; align = a.align; size = a.size; bytes = a.bytes; relocs = a.relocs }) kind
    ∙ ap (λ x. record { name = b.name; kind = b.kind; flags = x; align = a.align; size = a.size; bytes = a.bytes; relocs = a.relocs }) flags
    ∙ ap (λ x. record { name = b.name; kind = b.kind; flags = b.flags; align = x; size = a.size; bytes = a.bytes; relocs = a.relocs }) align
    ∙ ap (λ x. record { name = b.name; kind = b.kind; flags = b.flags; align = b.align; size = x; bytes = a.bytes; relocs = a.relocs }) size
    ∙ ap (λ x. record { name = b.name; kind = b.kind; flags = b.flags; align = b.align; size = b.size; bytes = x; relocs = a.relocs }) bytes
    ∙ ap (λ x. record { name = b.name; kind = b.kind; flags = b.flags; align = b.align; size = b.size; bytes = b.bytes; relocs = x }) relocs

one_section : (s : Symbols) (section : ℕ) (name : List ℕ) (m : Made) (a b : Section) → IsSection s section name m a → IsSection s section name m b → a ≡ b
one_section s section name m a b p q = same_section a b
    (p.name_is ∙ sym q.name_is) (p.kind_is ∙ sym q.kind_is) (p.flags_are ∙ sym q.flags_are) (p.align_is ∙ sym q.align_is) (p.size_is ∙ sym q.size_is)
    (one_holding (is_bss m.kind) s section m a.bytes b.bytes p.bytes_are q.bytes_are) (p.relocs_are ∙ sym q.relocs_are)

same_sections : (k : Known) (a b : List Section) → AreSections k a → AreSections k b → a ≡ b
same_sections k a b p q =
    let sized : length a ≡ length b = p.count ∙ sym q.count in
    same_lists a b sized (λ n d lt. one_section k.symbols n (name_at k n) (made_at k n) (get_or a n d) (get_or b n d)
    (p.each n (get_or a n d) (slice_get-get_or a n d lt)) (q.each n (get_or b n d) (slice_get-get_or b n d (omega (arith, sized, lt)))))

same_object : (a b : ElfObject) → a.sections ≡ b.sections → a.symbols ≡ b.symbols → a ≡ b
same_object a b sections symbols = ap (λ x. record { sections = x; symbols = a.symbols }) sections ∙ ap (λ x. record { sections = b.sections; symbols = x }) symbols

of_known : (k : Known) (a b : ElfObject) → IsObject k a → IsObject k b → a ≡ b
of_known k a b p q = same_object a b (same_sections k a.sections b.sections p.sections_are q.sections_are) (p.symbols_are ∙ sym q.symbols_are)

pub one_object : HaveOneObject
one_object text one other p q = of_known (known (reading text)) one other p.1 q.1
