-- The object of a text is canonical.
use Rattle.std.proofs.Common.{◌≡◌, ℕ, zero, suc, ◌+◌, ◌<◌, ◌≤◌, ◌^◌, Bool, true, false, eqb, List, [], ◌∷◌, ◌++◌, length, get_or, drop, map, Some, if◌then◌else◌, refl, ◌∙◌, ap, arith}
use Rattle.std.specs.Prelude.{◌≢◌, ◌==◌, ◌||◌, not, nat_lt, slice_get}
use Rattle.std.specs.Str.{bytes_eq}
use Rattle.std.specs.List.{All, AllByRecursion, IsDistinct, filter, list_all, list_any, range_with_len}
use Rattle.std.proofs.lemmas.Bool.Decides.{nat_tests}
use Rattle.std.proofs.lemmas.List.{append-nil, map-append}
use Rattle.std.proofs.lemmas.List.Elements.{All-map, All-weaker, filter_passes, filter-append}
use Rattle.std.proofs.lemmas.Map.Keys.{apart_from_distinct}
use Rattle.std.proofs.lemmas.Bool.{or_from}
use Rattle.orc_words.specs.Bits.{bits_at}
use Rattle.elf_read.specs.declared.object.ElfObject.{ElfObject}
use Rattle.elf_read.specs.declared.object.Section.{Section}
use Rattle.elf_read.specs.declared.object.Symbol.{Symbol}
use Rattle.elf_read.specs.Sections.{is_placed_kind, is_small_power}
use Rattle.elf_read.specs.Symbols.{is_bad_name, symbol_zero}
use Rattle.elf_write.specs.Canonical.{Canonical, HoldsSection, HoldsSymbol, IsText, Lies, size_at, others}
use Rattle.elf_write.specs.Files.{symtab_number, is_filled}
use Rattle.elf_write.specs.Tables as table
use Rattle.asm_lines.specs.declared.statement.SectionKind.{SectionKind}
use Rattle.asm_lines.specs.declared.statement.SectionKind.TheVariants.{Text, Data, Bss, ReadOnly}
use Rattle.asm_lines.specs.Words.{is_symbol, is_symbol_byte, is_digit}
use Rattle.asm_state.specs.declared.marks.Definition.{Definition}
use Rattle.asm_state.specs.declared.marks.Definition.TheVariants as definition
use Rattle.asm_state.specs.declared.marks.Marks.{Marks}
use Rattle.asm_state.specs.Sections.{Made, fresh}
use Rattle.asm_state.specs.Symbols.{Symbols, marks_at, mentioned}
use Rattle.asm_text.specs.Known.{Known}
use Rattle.rv_asm.specs.Objects.{IsObject}
use Rattle.rv_asm.specs.Sections.{AreSections, IsSection, section_type, flags_of, made_at, name_at}
use Rattle.rv_asm.specs.Symbols.{is_local, is_label, is_local_mark, locals, others_below, order, bind_of, kind_of, vis_of, place_of, value_of, size_of, entry_of, symbol_of, symbol_table}
use Rattle.rv_asm.specs.Typed.{Typed}
use Rattle.rv_asm.proofs.Named.{IsName, nonzero, and_left, and_right, symbol_bytes_no_zero}
use Rattle.rv_asm.proofs.SoundSections as sound
use Rattle.rv_asm.proofs.SoundSymbols.{Defines, SoundSymbols}
use Rattle.rv_asm.proofs.SoundTexts.{SoundKnown}

-- ---- names

byte_good : (b : ℕ) → is_symbol_byte b ≡ true → (nat_lt b 0x21 || b == 0x7f) ≡ false
byte_good b h = grind (arith, nat_tests, h)

bytes_good : (bs : List ℕ) → list_all is_symbol_byte bs ≡ true → list_any (λ b. nat_lt b 0x21 || b == 0x7f) bs ≡ false
bytes_good [] h = refl
bytes_good (b ∷ bs) h = or_from (nat_lt b 0x21 || b == 0x7f) (list_any (λ b. nat_lt b 0x21 || b == 0x7f) bs) (byte_good b (and_left (is_symbol_byte b) (list_all is_symbol_byte bs) h)) (bytes_good bs (and_right (is_symbol_byte b) (list_all is_symbol_byte bs) h))

name_good : (name : List ℕ) → is_symbol name ≡ true → is_bad_name name ≡ false
unfolding is_symbol is_bad_name
name_good [] h = absurd (cc h)
name_good (b ∷ bs) h = or_from (length (b ∷ bs) == 0) (list_any (λ b. nat_lt b 0x21 || b == 0x7f) (b ∷ bs)) (nonzero (length bs)) (bytes_good (b ∷ bs) (and_right (not (is_digit b)) (list_all is_symbol_byte (b ∷ bs)) h))

name_text : (name : List ℕ) → is_symbol name ≡ true → IsText name
unfolding is_symbol
name_text [] h = absurd (cc h)
name_text (b ∷ bs) h = symbol_bytes_no_zero (b ∷ bs) (and_right (not (is_digit b)) (list_all is_symbol_byte (b ∷ bs)) h)

-- ---- sections

placed : (kind : SectionKind) → is_placed_kind (section_type kind) ≡ true
placed Text = refl
placed Data = refl
placed Bss = refl
placed ReadOnly = refl

small_flags : (kind : SectionKind) → flags_of kind < 2 ^ 64
small_flags Text = omega arith
small_flags Data = omega arith
small_flags Bss = omega arith
small_flags ReadOnly = omega arith

allocated : (kind : SectionKind) → bits_at 1 1 (flags_of kind) ≡ 1
unfolding bits_at
allocated Text = refl
allocated Data = refl
allocated Bss = refl
allocated ReadOnly = refl

no_tls : (kind : SectionKind) → bits_at 10 1 (flags_of kind) ≡ 0
unfolding bits_at
no_tls Text = refl
no_tls Data = refl
no_tls Bss = refl
no_tls ReadOnly = refl

not_compressed : (kind : SectionKind) → bits_at 11 1 (flags_of kind) ≡ 0
unfolding bits_at
not_compressed Text = refl
not_compressed Data = refl
not_compressed Bss = refl
not_compressed ReadOnly = refl

get_some : {A : Type 0} (xs : List A) (i : ℕ) (d : A) → i < length xs → slice_get xs i ≡ Some (get_or xs i d)
get_some [] i d lt = absurd (omega (arith, lt))
get_some (x ∷ xs) zero d lt = refl
get_some (x ∷ xs) (suc i) d lt = get_some xs i d (omega (arith, lt))

section_holds : (k : Known) (symbols n : ℕ) (s : Section) → SoundKnown k → n < length k.sections.made → IsSection k.symbols n (name_at k n) (made_at k n) s → Typed symbols s → HoldsSection symbols s
section_holds k symbols n s known lt is typed = let kind = (made_at k n).kind in record {
  named = rw is.name_is (known.sections.named n [] (omega (arith, lt, known.sections.there)));
  kind_in = rw is.kind_is (placed kind);
  flags_in = rw is.flags_are (small_flags kind);
  allocated = rw is.flags_are (allocated kind);
  no_tls = rw is.flags_are (no_tls kind);
  not_compressed = rw is.flags_are (not_compressed kind);
  aligned = rw is.align_is (known.sections.aligns n (fresh Text 4) lt);
  size_in = omega (arith, typed.small);
  bytes_are = typed.bytes_are;
  relocs_in = typed.relocs_in;
}

sections_hold : (k : Known) (symbols : ℕ) (sections : List Section) → SoundKnown k → AreSections k sections → All (Typed symbols) sections → All (HoldsSection symbols) sections
sections_hold k symbols sections known are typed n d lt =
    section_holds k symbols n (get_or sections n d) known (omega (arith, lt, are.count)) (are.each n (get_or sections n d) (get_some sections n d lt)) (typed n d lt)

-- the sizes of sections are those of the text's
record Sized (made : List Made) (sections : List Section) : Type 0 where
  count : length sections ≡ length made
  few : length made ≤ 16384
  sizes : (n : ℕ) → n < length made → size_at sections n ≡ sound.size_at made n
  small : (n : ℕ) → n < length made → sound.size_at made n ≤ 0x1000000

abbrev no_section : Section
no_section = record { name = []; kind = 0; flags = 0; align = 1; size = 0; bytes = []; relocs = [] }

sized : (k : Known) (symbols : ℕ) (sections : List Section) → SoundKnown k → AreSections k sections → All (Typed symbols) sections → Sized k.sections.made sections
sized k symbols sections known are typed = record {
  count = are.count;
  few = omega (arith, known.sections.there, known.sections.few);
  sizes = λ n lt. same n (omega (arith, lt, are.count));
  small = λ n lt. omega (arith, same n (omega (arith, lt, are.count)), (typed n no_section (omega (arith, lt, are.count))).small);
} where
  same : (n : ℕ) → n < length sections → size_at sections n ≡ sound.size_at k.sections.made n
  same n lt = (are.each n (get_or sections n no_section) (get_some sections n no_section lt)).size_is

-- ---- symbols

bind_small : (m : Marks) → bind_of m ≤ 2
bind_small m = chosen m.weak (is_local_mark m) where
  chosen : (t u : Bool) → (if t then 2 else if u then 0 else 1) ≤ 2
  chosen true u = omega arith
  chosen false true = omega arith
  chosen false false = omega arith

kind_small : (d : Definition) → kind_of d < 16
kind_small definition.Nowhere = omega arith
kind_small (definition.Label section offset) = omega arith
kind_small (definition.Common size align) = omega arith

vis_small : (m : Marks) → vis_of m < 4
vis_small m = chosen m.hidden where
  chosen : (t : Bool) → (if t then 2 else 0) < 4
  chosen true = omega arith
  chosen false = omega arith

power_small : (n : ℕ) → is_small_power n ≡ true → n ≤ 4096
unfolding is_small_power
power_small n h = grind (arith, nat_tests, h)

value_small : (made : List Made) (sections : List Section) (d : Definition) → Sized made sections → Defines made d → value_of d < 2 ^ 64
value_small made sections definition.Nowhere fit h = omega arith
value_small made sections (definition.Label section offset) fit h = omega (arith, h.1, fit.small section h.0)
value_small made sections (definition.Common size align) fit h = omega (arith, power_small align h.1)

size_small : (made : List Made) (d : Definition) → Defines made d → size_of d < 2 ^ 64
size_small made definition.Nowhere h = omega arith
size_small made (definition.Label section offset) h = omega arith
size_small made (definition.Common size align) h = omega (arith, h.0)

-- a symbol that is not local
abbrev binding : Bool → Bool → ℕ
binding t u = if t then 2 else if u then 0 else 1

global_bind : (m : Marks) → is_local_mark m ≡ false → bind_of m ≢ 0
global_bind m h = chosen m.weak (is_local_mark m) h where
  chosen : (t u : Bool) → u ≡ false → binding t u ≢ 0
  chosen true u h = λ e. absurd (omega (arith, e))
  chosen false true h = absurd (cc h)
  chosen false false h = λ e. absurd (omega (arith, e))

lies_as : (made : List Made) (sections : List Section) (m : Marks) (d : Definition) → m.definition ≡ d → Sized made sections → Defines made d → Lies sections (bind_of m) (value_of d) (size_of d) (place_of d)
lies_as made sections m definition.Nowhere is fit h = global_bind m (rw is refl)
lies_as made sections m (definition.Label section offset) is fit h =
    (omega (arith, h.0, fit.count), omega (arith, h.1, fit.sizes section h.0), (λ e. absurd (omega (arith, e, h.0, fit.few))), (λ e. absurd (omega (arith, e, h.0, fit.few))))
lies_as made sections m (definition.Common size align) is fit h = (global_bind m (rw is refl), h.1, omega (arith, h.0))

entry_holds : (made : List Made) (sections : List Section) (name : List ℕ) (m : Marks) → Sized made sections → IsName name → Defines made m.definition → HoldsSymbol sections (entry_of name m)
entry_holds made sections name m fit is h = record {
  named = name_text name is.0;
  short = grind (arith, nat_tests, is.1);
  bind_in = bind_small m;
  kind_in = kind_small m.definition;
  vis_in = vis_small m;
  value_in = value_small made sections m.definition fit h;
  size_in = size_small made m.definition h;
  lies = lies_as made sections m m.definition refl fit h;
  visible = λ other. name_good name is.0;
}

symbol_holds : (made : List Made) (sections : List Section) (s : Symbols) (n : ℕ) → SoundSymbols made s → Sized made sections → n < length s.names → HoldsSymbol sections (symbol_of s n)
unfolding symbol_of
symbol_holds made sections s n known fit lt =
    entry_holds made sections (get_or s.names n []) (marks_at n s) fit (known.named n [] lt) (known.defined n mentioned (omega (arith, lt, known.there)))

-- ---- the order of symbols

filter_all : {A : Type 0} (p : A → Bool) (xs : List A) → ((i : ℕ) (d : A) → i < length xs → p (get_or xs i d) ≡ true) → filter p xs ≡ xs
filter_all p [] h = refl
filter_all {A = A} p (x ∷ xs) h = chosen (p x) (filter p xs) (h zero x (omega arith)) (filter_all p xs (λ i d lt. h (suc i) d (omega (arith, lt)))) where
  chosen : (t : Bool) (kept : List A) → t ≡ true → kept ≡ xs → (if t then x ∷ kept else kept) ≡ x ∷ xs
  chosen true kept is same = ap (λ ys. x ∷ ys) same
  chosen false kept is same = absurd (cc is)

filter_none : {A : Type 0} (p : A → Bool) (xs : List A) → ((i : ℕ) (d : A) → i < length xs → p (get_or xs i d) ≡ false) → filter p xs ≡ []
filter_none p [] h = refl
filter_none {A = A} p (x ∷ xs) h = chosen (p x) (filter p xs) (h zero x (omega arith)) (filter_none p xs (λ i d lt. h (suc i) d (omega (arith, lt)))) where
  chosen : (t : Bool) (kept : List A) → t ≡ false → kept ≡ [] → (if t then x ∷ kept else kept) ≡ []
  chosen true kept is none = absurd (cc is)
  chosen false kept is none = none

not_true : (t : Bool) → t ≡ true → not t ≡ false
not_true true h = refl
not_true false h = absurd (cc h)

not_false : (t : Bool) → t ≡ false → not t ≡ true
not_false true h = absurd (cc h)
not_false false h = refl

-- those that pass, and then those that don't
first_passing : {A : Type 0} (p : A → Bool) (xs ys : List A) → All (λ x. p x ≡ true) xs → All (λ y. p y ≡ false) ys → filter p (xs ++ ys) ≡ xs
first_passing p xs ys hx hy = filter-append p xs ys ∙ rw (filter_all p xs hx, filter_none p ys hy) (append-nil xs)

then_failing : {A : Type 0} (p : A → Bool) (xs ys : List A) → All (λ x. p x ≡ true) xs → All (λ y. p y ≡ false) ys → filter (λ x. not (p x)) (xs ++ ys) ≡ ys
then_failing p xs ys hx hy =
    filter-append (λ x. not (p x)) xs ys
    ∙ rw (filter_none (λ x. not (p x)) xs (λ i d lt. not_true (p (get_or xs i d)) (hx i d lt)), filter_all (λ x. not (p x)) ys (λ i d lt. not_false (p (get_or ys i d)) (hy i d lt))) refl

not_either : (g w : Bool) → not (g || w) ≡ true → w ≡ false
not_either true w h = absurd (cc h)
not_either false true h = absurd (cc h)
not_either false false h = refl

weak_not_local : (m : Marks) → is_local_mark m ≡ true → m.weak ≡ false
weak_not_local m h = not_either m.global m.weak (and_right (is_label m.definition) (not (m.global || m.weak)) h)

local_entry : (s : Symbols) (n : ℕ) → is_local s n ≡ true → table.is_local (symbol_of s n) ≡ true
unfolding is_local symbol_of
local_entry s n h = let m = marks_at n s in chosen m.weak (is_local_mark m) (weak_not_local m h) h where
  chosen : (t u : Bool) → t ≡ false → u ≡ true → eqb (if t then 2 else if u then 0 else 1) 0 ≡ true
  chosen true u h k = absurd (cc h)
  chosen false true h k = refl
  chosen false false h k = absurd (cc k)

other_entry : (s : Symbols) (n : ℕ) → not (is_local s n) ≡ true → table.is_local (symbol_of s n) ≡ false
unfolding is_local symbol_of
other_entry s n h = let m = marks_at n s in chosen m.weak (is_local_mark m) h where
  chosen : (t u : Bool) → not u ≡ true → eqb (if t then 2 else if u then 0 else 1) 0 ≡ false
  chosen true u h = refl
  chosen false true h = absurd (cc h)
  chosen false false h = refl

locals_pass : (s : Symbols) → All (λ (e : Symbol). table.is_local e ≡ true) (map (symbol_of s) (locals s))
locals_pass s =
    All-map (λ (e : Symbol). table.is_local e ≡ true) (symbol_of s) (locals s)
    (All-weaker (λ n. is_local s n ≡ true) (λ n. table.is_local (symbol_of s n) ≡ true) (local_entry s) (locals s) (filter_passes (is_local s) s.labels))

others_fail : (s : Symbols) → All (λ (e : Symbol). table.is_local e ≡ false) (map (symbol_of s) (others_below s (length s.names)))
others_fail s =
    All-map (λ (e : Symbol). table.is_local e ≡ false) (symbol_of s) (others_below s (length s.names))
    (All-weaker (λ n. not (is_local s n) ≡ true) (λ n. table.is_local (symbol_of s n) ≡ false) (other_entry s) (others_below s (length s.names)) (filter_passes (λ n. not (is_local s n)) (range_with_len 0 (length s.names))))

-- the entries after entry 0: the local ones, and then the others
entries_are : (s : Symbols) → map (symbol_of s) (order s) ≡ map (symbol_of s) (locals s) ++ map (symbol_of s) (others_below s (length s.names))
unfolding order
entries_are s = map-append (symbol_of s) (locals s) (others_below s (length s.names))

table_is : (s : Symbols) → symbol_table s ≡ symbol_zero ∷ (map (symbol_of s) (locals s) ++ map (symbol_of s) (others_below s (length s.names)))
unfolding symbol_table
table_is s = ap (λ es. symbol_zero ∷ es) (entries_are s)

others_are : (s : Symbols) → others (symbol_table s) ≡ map (symbol_of s) (others_below s (length s.names))
others_are s = ap others (table_is s) ∙ then_failing table.is_local (map (symbol_of s) (locals s)) (map (symbol_of s) (others_below s (length s.names))) (locals_pass s) (others_fail s)

locals_are : (s : Symbols) → filter table.is_local (symbol_table s) ≡ symbol_zero ∷ map (symbol_of s) (locals s)
locals_are s =
    ap (filter table.is_local) (table_is s)
    ∙ ap (λ es. symbol_zero ∷ es) (first_passing table.is_local (map (symbol_of s) (locals s)) (map (symbol_of s) (others_below s (length s.names))) (locals_pass s) (others_fail s))

locals_first : (s : Symbols) → symbol_table s ≡ filter table.is_local (symbol_table s) ++ others (symbol_table s)
locals_first s = rw (locals_are s, others_are s) (table_is s)

-- ---- the names of symbols

apart : (names : List (List ℕ)) (p : ℕ → Bool) (a b n : ℕ) → a < b → b + n ≤ length names → IsDistinct bytes_eq names → AllByRecursion (λ y. bytes_eq (get_or names a []) y ≡ false) (map (λ k. get_or names k []) (filter p (range_with_len b n)))
apart names p a b zero lt fit distinct = tt
apart names p a b (suc n) lt fit distinct = chosen (p b) (filter p (range_with_len (b + 1) n)) (apart names p a (b + 1) n (omega (arith, lt)) (omega (arith, fit)) distinct) where
  chosen : (t : Bool) (kept : List ℕ) → AllByRecursion (λ y. bytes_eq (get_or names a []) y ≡ false) (map (λ k. get_or names k []) kept) → AllByRecursion (λ y. bytes_eq (get_or names a []) y ≡ false) (map (λ k. get_or names k []) (if t then b ∷ kept else kept))
  chosen true kept rest = (apart_from_distinct bytes_eq names a b [] distinct lt (omega (arith, fit)), rest)
  chosen false kept rest = rest

distinct_at : (names : List (List ℕ)) (p : ℕ → Bool) (a n : ℕ) → a + n ≤ length names → IsDistinct bytes_eq names → IsDistinct bytes_eq (map (λ k. get_or names k []) (filter p (range_with_len a n)))
unfolding IsDistinct
distinct_at names p a zero fit distinct = tt
distinct_at names p a (suc n) fit distinct = chosen (p a) (distinct_at names p (a + 1) n (omega (arith, fit)) distinct) where
  chosen : (t : Bool) → IsDistinct bytes_eq (map (λ k. get_or names k []) (filter p (range_with_len (a + 1) n))) → IsDistinct bytes_eq (map (λ k. get_or names k []) (if t then a ∷ filter p (range_with_len (a + 1) n) else filter p (range_with_len (a + 1) n)))
  chosen true rest = (apart names p a (a + 1) n (omega arith) (omega (arith, fit)) distinct, rest)
  chosen false rest = rest

names_of : (s : Symbols) (ns : List ℕ) → map (λ (e : Symbol). e.name) (map (symbol_of s) ns) ≡ map (λ k. get_or s.names k []) ns
unfolding symbol_of
names_of s [] = refl
names_of s (n ∷ ns) = ap (λ es. get_or s.names n [] ∷ es) (names_of s ns)

names_distinct : (s : Symbols) → IsDistinct bytes_eq s.names → IsDistinct bytes_eq (map (λ (e : Symbol). e.name) (others (symbol_table s)))
names_distinct s distinct =
    rw (others_are s, names_of s (others_below s (length s.names))) (distinct_at s.names (λ n. not (is_local s n)) 0 (length s.names) (omega arith) distinct)

-- ---- the object

filter_few : {A : Type 0} (p : A → Bool) (xs : List A) → length (filter p xs) ≤ length xs
filter_few p [] = omega arith
filter_few {A = A} p (x ∷ xs) = chosen (p x) (filter p xs) (filter_few p xs) where
  chosen : (t : Bool) (kept : List A) → length kept ≤ length xs → length (if t then x ∷ kept else kept) ≤ suc (length xs)
  chosen true kept few = omega (arith, few)
  chosen false kept few = omega (arith, few)

sections_few : (o : ElfObject) → length o.sections ≤ 16384 → symtab_number o + 2 < 0xffff
unfolding symtab_number
sections_few o few = omega (arith, few, filter_few (λ (s : Section). is_filled s.relocs) o.sections)

symbols_hold : (made : List Made) (sections : List Section) (s : Symbols) → SoundSymbols made s → Sized made sections → All (λ n. n < length s.names) (order s) → All (HoldsSymbol sections) (drop 1 (symbol_table s))
unfolding symbol_table
symbols_hold made sections s known fit inside =
    All-map (HoldsSymbol sections) (symbol_of s) (order s) (All-weaker (λ n. n < length s.names) (λ n. HoldsSymbol sections (symbol_of s n)) (λ n lt. symbol_holds made sections s n known fit lt) (order s) inside)

pub canonical : (k : Known) (o : ElfObject) → SoundKnown k → IsObject k o → All (λ n. n < length k.symbols.names) (order k.symbols) → All (Typed (length o.symbols)) o.sections → Canonical o
canonical k o known is inside typed =
    let s = k.symbols in
    let fit = sized k (length o.symbols) o.sections known is.sections_are typed in
    record {
      sections_in = sections_hold k (length o.symbols) o.sections known is.sections_are typed;
      first = ap (λ es. slice_get es 0) (is.symbols_are ∙ table_is s);
      symbols_in = rw is.symbols_are (symbols_hold k.sections.made o.sections s known.symbols fit inside);
      locals_first = rw is.symbols_are (locals_first s);
      distinct = rw is.symbols_are (names_distinct s known.symbols.distinct);
      few_sections = sections_few o (omega (arith, fit.count, fit.few));
    }
