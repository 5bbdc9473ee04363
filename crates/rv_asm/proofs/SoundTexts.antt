-- What is known of a text whatever its lines say.
use Rattle.std.proofs.Common.{◌≡◌, ℕ, ◌+◌, ◌/◌, ◌≤◌, Bool, true, false, List, [], ◌∷◌, ◌++◌, length, Option, Some, None, if◌then◌else◌, ℤ, pos, refl, ap, arith}
use Rattle.std.specs.Prelude.{⊤, Result, Ok, Err, nat_lt, ◌||◌, ◌==◌, replicate, codes}
use Rattle.std.specs.List.{repeat}
use Rattle.std.proofs.lemmas.List.{get_or_default, length_push}
use Rattle.rv_insn.specs.declared.insn.Insn.{Insn}
use Rattle.elf_read.specs.Sections.{is_small_power}
use Rattle.asm_lines.specs.declared.statement.AsmWhy.{AsmWhy}
use Rattle.asm_lines.specs.declared.statement.Fixup.{Fixup}
use Rattle.asm_lines.specs.declared.statement.Item.{Item}
use Rattle.asm_lines.specs.declared.statement.Item.TheVariants as item
use Rattle.asm_lines.specs.declared.statement.SectionKind.TheVariants.{Text}
use Rattle.asm_lines.specs.declared.statement.Statement.{Statement}
use Rattle.asm_lines.specs.declared.statement.Statement.TheVariants as statement
use Rattle.asm_lines.specs.Lines.{label_of_line, statement_of_line}
use Rattle.asm_state.specs.declared.section.Target.{Target}
use Rattle.asm_state.specs.Sections.{Made, Sections, fresh, is_bss, with_bytes, with_zeros, with_code, with_patch, in_current, IsCurrent, opened_at, opened, current, current_number, aligned}
use Rattle.asm_state.specs.Names.{has}
use Rattle.asm_text.specs.declared.reading.BadLine.{BadLine}
use Rattle.asm_text.specs.Known.{Known, nothing_known}
use Rattle.asm_text.specs.Refusals.{padding, fits, takes_section, refusal, label_refusal}
use Rattle.asm_text.specs.Said as said
use Rattle.asm_text.specs.Texts as texts
use Rattle.asm_text.proofs.Rooms.{not_refused}
use Rattle.rv_asm.proofs.Named.{IsName, Fine, Fixes, Itemized, Labels, fine, labels}
use Rattle.rv_asm.proofs.SoundSections.{SoundSections, Adds, sound_none, sound_entered, grows_entered, opening, sound_in_current, grows_in_current, sound_aligned}
use Rattle.rv_asm.proofs.SoundSymbols.{SoundSymbols, symbols_none, symbols_more, symbols_mentioning, symbols_remarked, symbols_common, symbols_labelled, keeps_global, keeps_weak, keeps_hidden}

pub record SoundKnown (k : Known) : Type 0 where
  pub sections : SoundSections k.sections
  pub symbols : SoundSymbols k.sections.made k.symbols

nothing_sound : SoundKnown nothing_known
nothing_sound = record { sections = sound_none; symbols = symbols_none [] }

-- ---- changes of the current section

adds_bytes : (bytes : List ℕ) → Adds (with_bytes bytes)
adds_bytes bytes = record { align = λ m. refl; size = λ m. omega arith }

adds_zeros : (n : ℕ) → Adds (with_zeros n)
adds_zeros n = record { align = λ m. align m (is_bss m.kind); size = λ m. size m (is_bss m.kind) } where
  align : (m : Made) (t : Bool) → (if t then record m { size = m.size + n } else with_bytes (replicate n 0) m).align ≡ m.align
  align m true = refl
  align m false = refl

  size : (m : Made) (t : Bool) → m.size ≤ (if t then record m { size = m.size + n } else with_bytes (replicate n 0) m).size
  size m true = omega arith
  size m false = omega arith

adds_code : (insn : Insn) (target : Option Target) → Adds (with_code insn target)
adds_code insn target = record { align = λ m. refl; size = λ m. omega arith }

adds_patch : (kind : ℕ) (symbol : Option ℕ) (addend : ℤ) (fills : Bool) → Adds (with_patch kind symbol addend fills)
adds_patch kind symbol addend fills = record { align = λ m. refl; size = λ m. omega arith }

here_sound : (f : Made → Made) (k : Known) → Adds f → SoundKnown k → SoundKnown (said.here f k)
here_sound f k adds sound = record {
  sections = sound_in_current f k.sections sound.sections adds;
  symbols = symbols_more k.sections.made (in_current f k.sections).made k.symbols (grows_in_current f k.sections sound.sections adds) sound.symbols;
}

mentioned_sound : (name : List ℕ) (k : Known) → IsName name → SoundKnown k → SoundKnown (said.mentioned name k)
mentioned_sound name k is sound = record { sections = sound.sections; symbols = symbols_mentioning k.sections.made name k.symbols sound.symbols is }

against_sound : (kind : ℕ) (name : List ℕ) (addend : ℤ) (fills : Bool) (k : Known) → IsName name → SoundKnown k → SoundKnown (said.against kind name addend fills k)
unfolding said.against
against_sound kind name addend fills k is sound =
    here_sound (with_patch kind (Some (said.number_here name (said.mentioned name k))) addend fills) (said.mentioned name k) (adds_patch kind (Some (said.number_here name (said.mentioned name k))) addend fills) (mentioned_sound name k is sound)

-- ---- labels

label_sound : (label : Option (List ℕ)) (k : Known) → Labels label → SoundKnown k → SoundKnown (said.labelled_line label k)
unfolding said.labelled_line
label_sound None k is sound = sound
label_sound (Some name) k is sound =
    let at = opening k.sections sound.sections in
    let s = opened k.sections in
    record {
      sections = at.0;
      symbols = symbols_labelled s.made (current_number s) (current s).size name k.symbols (symbols_more k.sections.made s.made k.symbols at.1 sound.symbols) is at.2
          (omega (arith, ap (λ (m : Made). m.size) (get_or_default s.made (current_number s) (fresh Text 4) (fresh Text s.text_align) at.2)));
    }

-- ---- statements

item_sound : (width : ℕ) (i : Item) (k : Known) → Itemized (i ∷ []) → SoundKnown k → SoundKnown (said.with_item width i k)
unfolding said.with_item
item_sound width (item.Number n) k is sound = here_sound (said.with_number width n) k (adds_bytes (said.number_bytes width n)) sound
item_sound width (item.Address r) k is sound =
    here_sound (with_zeros width) (said.against (said.address_kind width) r.symbol r.addend false k) (adds_zeros width) (against_sound (said.address_kind width) r.symbol r.addend false k is.0 sound)

items_sound : (width : ℕ) (items : List Item) (k : Known) → Itemized items → SoundKnown k → SoundKnown (said.with_items width items k)
items_sound width [] k is sound = sound
items_sound width (item.Number n ∷ items) k is sound = items_sound width items (said.with_item width (item.Number n) k) is (item_sound width (item.Number n) k tt sound)
items_sound width (item.Address r ∷ items) k is sound =
    items_sound width items (said.with_item width (item.Address r) k) is.1 (item_sound width (item.Address r) k (is.0, tt) sound)

ascii_sound : (bytes : List ℕ) (k : Known) → SoundKnown k → SoundKnown (said.with_ascii bytes k)
ascii_sound [] k sound = sound
ascii_sound (b ∷ bs) k sound = here_sound (with_bytes (b ∷ bs)) k (adds_bytes (b ∷ bs)) sound

gap_sound : (n : ℕ) (k : Known) → SoundKnown k → SoundKnown (said.with_gap n k)
gap_sound n k sound = chosen (n == 0) where
  chosen : (t : Bool) → SoundKnown (if t then k else said.here (with_zeros n) k)
  chosen true = sound
  chosen false = here_sound (with_zeros n) k (adds_zeros n) sound

padded_sound : (n : ℕ) (k : Known) → SoundKnown k → SoundKnown (said.padded n k)
unfolding said.padded
padded_sound n k sound = chosen (n == 0) where
  marked : (t : Bool) → SoundKnown (if t then said.here (with_patch 43 None (pos n) false) k else k)
  marked true = here_sound (with_patch 43 None (pos n) false) k (adds_patch 43 None (pos n) false) sound
  marked false = sound

  filled : (t : Bool) (m : Known) → SoundKnown m → SoundKnown (said.here (if t then with_bytes (repeat (n / 4) said.nop) else with_zeros n) m)
  filled true m h = here_sound (with_bytes (repeat (n / 4) said.nop)) m (adds_bytes (repeat (n / 4) said.nop)) h
  filled false m h = here_sound (with_zeros n) m (adds_zeros n) h

  chosen : (t : Bool) → SoundKnown (if t then k else said.here (said.padding_bytes n k) (said.marked_padding n k))
  chosen true = sound
  chosen false = filled _ (said.marked_padding n k) (marked _)

aligned_sound : (align : ℕ) (k : Known) → is_small_power align ≡ true → SoundKnown k → SoundKnown (said.aligned_to align k)
aligned_sound align k small sound =
    let more = sound_aligned align k.sections sound.sections small in
    record { sections = more.0; symbols = symbols_more k.sections.made (aligned align k.sections).made k.symbols more.1 sound.symbols }

insn_sound : (line : ℕ) (insn : Insn) (fixup : Option Fixup) (k : Known) → Fixes fixup → SoundKnown k → SoundKnown (said.with_insn line insn fixup k)
unfolding said.with_insn
insn_sound line insn None k is sound = here_sound (with_code insn None) k (adds_code insn None) sound
insn_sound line insn (Some f) k is sound =
    here_sound _ _ (adds_code insn _) (against_sound f.kind f.symbol f.addend _ k is sound)

call_sound : (first second : Insn) (symbol : List ℕ) (k : Known) → IsName symbol → SoundKnown k → SoundKnown (said.with_call first second symbol k)
unfolding said.with_call
call_sound first second symbol k is sound =
    here_sound (with_code second None) _ (adds_code second None) (here_sound (with_code first None) _ (adds_code first None) (against_sound 19 symbol (pos 0) false k is sound))

-- there may be one more section
abbrev SectionRoom : Statement → Known → Type 0
SectionRoom (statement.Section name kind) k = takes_section name k ≡ true
SectionRoom _ k = ⊤

stated_sound : (line : ℕ) (s : Statement) (k : Known) → Fine s → SectionRoom s k → SoundKnown k → SoundKnown (said.stated line s k)
unfolding said.stated
stated_sound line statement.Nothing k is fit sound = sound
stated_sound line (statement.Section name kind) k is fit sound = record {
  sections = sound_entered name kind k.sections sound.sections is fit;
  symbols = symbols_more k.sections.made _ k.symbols (grows_entered name kind k.sections) sound.symbols;
}
stated_sound line (statement.Global symbol) k is fit sound = record { sections = sound.sections; symbols = symbols_remarked k.sections.made _ symbol k.symbols keeps_global sound.symbols is }
stated_sound line (statement.Weak symbol) k is fit sound = record { sections = sound.sections; symbols = symbols_remarked k.sections.made _ symbol k.symbols keeps_weak sound.symbols is }
stated_sound line (statement.Hidden symbol) k is fit sound = record { sections = sound.sections; symbols = symbols_remarked k.sections.made _ symbol k.symbols keeps_hidden sound.symbols is }
stated_sound line (statement.Common symbol size align) k is fit sound = record { sections = sound.sections; symbols = symbols_common k.sections.made size align symbol k.symbols sound.symbols is.0 is.1 is.2 }
stated_sound line (statement.Relax relax) k is fit sound = record { sections = sound.sections; symbols = sound.symbols }
stated_sound line (statement.Values width items) k is fit sound = items_sound width items k is sound
stated_sound line (statement.Ascii bytes) k is fit sound = ascii_sound bytes k sound
stated_sound line (statement.Zero n) k is fit sound = gap_sound n k sound
stated_sound line (statement.Align align) k is fit sound = aligned_sound align _ is (padded_sound (padding align k) k sound)
stated_sound line (statement.Code insn fixup) k is fit sound = insn_sound line insn fixup k is sound
stated_sound line (statement.Call first second symbol) k is fit sound = call_sound first second symbol k is sound

-- ---- lines

room_of : (s : Statement) (k : Known) → fits s k ≡ true → SectionRoom s k
unfolding fits
room_of (statement.Section name kind) k fit = fit
room_of statement.Nothing k fit = tt
room_of (statement.Global symbol) k fit = tt
room_of (statement.Weak symbol) k fit = tt
room_of (statement.Hidden symbol) k fit = tt
room_of (statement.Common symbol size align) k fit = tt
room_of (statement.Relax relax) k fit = tt
room_of (statement.Values width items) k fit = tt
room_of (statement.Ascii bytes) k fit = tt
room_of (statement.Zero n) k fit = tt
room_of (statement.Align align) k fit = tt
room_of (statement.Code insn fixup) k fit = tt
room_of (statement.Call first second symbol) k fit = tt

or_true : (b : Bool) → (b || true) ≡ true
or_true true = refl
or_true false = refl

-- the mention of `.text` by a label is the first of all
opened_room : (name : List ℕ) (c : Option ℕ) (s : Sections) → IsCurrent s c → (has name s.names || nat_lt (length s.names) 16384) ≡ true → (has name (opened_at c s).names || nat_lt (length (opened_at c s).names) 16384) ≡ true
opened_room name (Some n) s inside room = room
opened_room name None s none room =
    let one : length (s.names ++ codes ".text" ∷ []) ≡ 1 = omega (arith, length_push s.names (codes ".text"), ap length none) in
    rw one (or_true (has name (s.names ++ codes ".text" ∷ [])))

takes_labelled : (name : List ℕ) (label : Option (List ℕ)) (k : Known) → SoundKnown k → takes_section name k ≡ true → takes_section name (said.labelled_line label k) ≡ true
unfolding said.labelled_line opened
takes_labelled name None k sound room = room
takes_labelled name (Some l) k sound room = opened_room name k.sections.current k.sections sound.sections.current_in room

room_labelled : (s : Statement) (label : Option (List ℕ)) (k : Known) → SoundKnown k → SectionRoom s k → SectionRoom s (said.labelled_line label k)
room_labelled (statement.Section name kind) label k sound room = takes_labelled name label k sound room
room_labelled statement.Nothing label k sound room = tt
room_labelled (statement.Global symbol) label k sound room = tt
room_labelled (statement.Weak symbol) label k sound room = tt
room_labelled (statement.Hidden symbol) label k sound room = tt
room_labelled (statement.Common symbol size align) label k sound room = tt
room_labelled (statement.Relax relax) label k sound room = tt
room_labelled (statement.Values width items) label k sound room = tt
room_labelled (statement.Ascii bytes) label k sound room = tt
room_labelled (statement.Zero n) label k sound room = tt
room_labelled (statement.Align align) label k sound room = tt
room_labelled (statement.Code insn fixup) label k sound room = tt
room_labelled (statement.Call first second symbol) label k sound room = tt

unless_sound : (o : Option AsmWhy) (k : Known) (next : Known × Option AsmWhy) → SoundKnown k → (o ≡ None → SoundKnown next.0) → SoundKnown (texts.unless o k next).0
unless_sound None k next sound h = h refl
unless_sound (Some because) k next sound h = sound

going_sound : {A : Type 0} (r : Result A AsmWhy) (k : Known) (next : A → Known × Option AsmWhy) → SoundKnown k → ((a : A) → r ≡ Ok a → SoundKnown (next a).0) → SoundKnown (texts.going_on r k next).0
going_sound (Ok a) k next sound h = h a refl
going_sound (Err because) k next sound h = sound

statement_sound : (line : ℕ) (label : Option (List ℕ)) (s : Statement) (k : Known) → Labels label → Fine s → SoundKnown k → SoundKnown (texts.statement_read line label s k).0
statement_sound line label s k named is sound =
    unless_sound (refusal label s k) k (said.line_said line label s k, None) sound
    (λ free. stated_sound line s (said.labelled_line label k) is (room_labelled s label k sound (room_of s k (not_refused label s k free))) (label_sound label k named sound))

line_sound : (line : ℕ) (text : List ℕ) (k : Known) → SoundKnown k → SoundKnown (texts.line_read line text k).0
unfolding texts.line_read
line_sound line text k sound =
    going_sound (label_of_line text) k _ sound (λ label is.
    unless_sound (label_refusal label k) k _ sound (λ new.
    going_sound (statement_of_line text) k _ sound (λ s said_so. statement_sound line label s k (labels text label is) (fine text s said_so) sound)))

-- ---- texts

on_sound : (line : ℕ) (p : Known × Option AsmWhy) (next : Known → Known × Option BadLine) → SoundKnown p.0 → ((k : Known) → SoundKnown k → SoundKnown (next k).0) → SoundKnown (texts.read_on line p next).0
on_sound line (k, None) next sound h = h k sound
on_sound line (k, Some because) next sound h = sound

from_sound : (line : ℕ) (k : Known) (lines : List (List ℕ)) → SoundKnown k → SoundKnown (texts.read_from line k lines).0
from_sound line k [] sound = sound
from_sound line k (text ∷ more) sound =
    on_sound (line + 1) (texts.line_read (line + 1) text k) _ (line_sound (line + 1) text k sound) (λ m h. from_sound (line + 1) m more h)

pub text_sound : (text : List ℕ) → SoundKnown (texts.reading text).0
unfolding texts.reading
text_sound text = from_sound 0 nothing_known (texts.lines_of text) nothing_sound
