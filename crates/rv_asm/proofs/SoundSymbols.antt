-- What the symbols of a text keep: each is a symbol, no two have one name, and what is defined lies in a
-- section or has a size and an alignment that a common symbol may have.
use Rattle.std.proofs.Common.{◌≡◌, ℕ, ◌<◌, ◌≤◌, Bool, true, false, List, length, if◌then◌else◌, refl, sym, ◌∙◌, inl, inr, arith}
use Rattle.std.specs.Prelude.{⊤}
use Rattle.std.specs.Str.{bytes_eq}
use Rattle.std.specs.List.{All, IsDistinct}
use Rattle.std.specs.Cmp.Lexicographic.{nat_list_eq_equiv}
use Rattle.std.proofs.lemmas.List.{get_or_past, length-set, length_push}
use Rattle.std.proofs.lemmas.List.Elements.{All-push, All-set, All-nil, All-weaker}
use Rattle.std.proofs.lemmas.Map.Keys.{IsDistinct-push}
use Rattle.std.proofs.lemmas.Bool.{cases_lt}
use Rattle.elf_read.specs.Sections.{is_small_power}
use Rattle.asm_state.specs.declared.marks.Definition.{Definition}
use Rattle.asm_state.specs.declared.marks.Definition.TheVariants as definition
use Rattle.asm_state.specs.declared.marks.Marks.{Marks}
use Rattle.asm_state.specs.Names.{has, number_of}
use Rattle.asm_state.specs.Sections.{Made}
use Rattle.asm_state.specs.Symbols.{Symbols, no_symbols, mentioned, added, mentioning, marks_at, with_marks, remarked, as_global, as_weak, as_hidden, as_defined, with_label, labelled}
use Rattle.rv_asm.proofs.Named.{IsName}
use Rattle.rv_asm.proofs.SoundSections.{Grows, size_at}

-- ---- definitions

abbrev pub Defines : List Made → Definition → Type 0
Defines made definition.Nowhere = ⊤
Defines made (definition.Label section offset) = (section < length made) × (offset ≤ size_at made section)
Defines made (definition.Common size align) = (size ≤ 0x1000000) × (is_small_power align ≡ true)

defines_more : (made more : List Made) → Grows made more → (d : Definition) → Defines made d → Defines more d
defines_more made more grows definition.Nowhere h = tt
defines_more made more grows (definition.Label section offset) h = (omega (arith, h.0, grows.longer), omega (arith, h.1, grows.sizes section h.0))
defines_more made more grows (definition.Common size align) h = h

pub record SoundSymbols (made : List Made) (s : Symbols) : Type 0 where
  pub there : length s.names ≡ length s.marks
  pub named : All IsName s.names
  pub distinct : IsDistinct bytes_eq s.names
  pub defined : All (λ (m : Marks). Defines made m.definition) s.marks

pub symbols_none : (made : List Made) → SoundSymbols made no_symbols
unfolding IsDistinct
symbols_none made = record { there = refl; named = All-nil IsName; distinct = tt; defined = All-nil (λ (m : Marks). Defines made m.definition) }

pub symbols_more : (made more : List Made) (s : Symbols) → Grows made more → SoundSymbols made s → SoundSymbols more s
symbols_more made more s grows sound = record {
  there = sound.there;
  named = sound.named;
  distinct = sound.distinct;
  defined = All-weaker (λ (m : Marks). Defines made m.definition) (λ (m : Marks). Defines more m.definition) (λ m. defines_more made more grows m.definition) s.marks sound.defined;
}

-- ---- mentions

pub symbols_mentioning : (made : List Made) (name : List ℕ) (s : Symbols) → SoundSymbols made s → IsName name → SoundSymbols made (mentioning name s)
unfolding mentioning
symbols_mentioning made name s sound is = chosen (has name s.names) refl where
  chosen : (t : Bool) → has name s.names ≡ t → SoundSymbols made (if t then s else added name s)
  chosen true there = sound
  chosen false new = record {
    there = omega (arith, sound.there, length_push s.names name, length_push s.marks mentioned);
    named = All-push IsName s.names name sound.named is;
    distinct = IsDistinct-push nat_list_eq_equiv s.names name sound.distinct new;
    defined = All-push (λ (m : Marks). Defines made m.definition) s.marks mentioned sound.defined tt;
  }

-- what is said of a symbol, also of one that isn't there
defined_at : (made : List Made) (n : ℕ) (s : Symbols) → SoundSymbols made s → Defines made (marks_at n s).definition
defined_at made n s sound = elim (cases_lt n (length s.marks)) [
  | inl lt ↦ sound.defined n mentioned lt
  | inr past ↦ rw (get_or_past s.marks n mentioned past) tt
]

remarked_sound : (made : List Made) (n : ℕ) (m : Marks) (s : Symbols) → SoundSymbols made s → Defines made m.definition → SoundSymbols made (with_marks n m s)
remarked_sound made n m s sound is = record {
  there = sound.there ∙ sym (length-set s.marks n m);
  named = sound.named;
  distinct = sound.distinct;
  defined = All-set (λ (m : Marks). Defines made m.definition) s.marks n m is sound.defined;
}

-- a change that leaves the definition
pub record Keeps (f : Marks → Marks) : Type 0 where
  pub definition : (m : Marks) → (f m).definition ≡ m.definition

pub symbols_remarked : (made : List Made) (f : Marks → Marks) (name : List ℕ) (s : Symbols) → Keeps f → SoundSymbols made s → IsName name → SoundSymbols made (remarked f name s)
unfolding remarked
symbols_remarked made f name s keeps sound is =
    let m = mentioning name s in
    let mine = symbols_mentioning made name s sound is in
    let n = number_of name m.names in
    remarked_sound made n (f (marks_at n m)) m mine (rw (keeps.definition (marks_at n m)) (defined_at made n m mine))

pub symbols_common : (made : List Made) (size align : ℕ) (name : List ℕ) (s : Symbols) → SoundSymbols made s → IsName name → size ≤ 0x1000000 → is_small_power align ≡ true → SoundSymbols made (remarked (as_defined (definition.Common size align)) name s)
unfolding remarked
symbols_common made size align name s sound is fit power =
    let m = mentioning name s in
    let n = number_of name m.names in
    remarked_sound made n (as_defined (definition.Common size align) (marks_at n m)) m (symbols_mentioning made name s sound is) (fit, power)

pub symbols_labelled : (made : List Made) (section offset : ℕ) (name : List ℕ) (s : Symbols) → SoundSymbols made s → IsName name → section < length made → offset ≤ size_at made section → SoundSymbols made (labelled name section offset s)
unfolding labelled
symbols_labelled made section offset name s sound is lt inside =
    let m = mentioning name s in
    let n = number_of name m.names in
    let mine = symbols_mentioning made name s sound is in
    let more : SoundSymbols made (with_label n m) = record { there = mine.there; named = mine.named; distinct = mine.distinct; defined = mine.defined } in
    remarked_sound made n (as_defined (definition.Label section offset) (marks_at n (with_label n m))) (with_label n m) more (lt, inside)

pub keeps_global : Keeps as_global
keeps_global = record { definition = λ m. refl }

pub keeps_weak : Keeps as_weak
keeps_weak = record { definition = λ m. refl }

pub keeps_hidden : Keeps as_hidden
keeps_hidden = record { definition = λ m. refl }
