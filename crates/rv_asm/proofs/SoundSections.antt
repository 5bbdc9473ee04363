-- What the sections of a text keep: names without zero bytes, few of them, and alignments that are small
-- powers of two. Sections only grow.
use Rattle.std.proofs.Common.{◌≡◌, ℕ, ◌<◌, ◌≤◌, max, Bool, true, false, List, [], ◌∷◌, length, get_or, set, Option, Some, None, if◌then◌else◌, refl, sym, ◌∙◌, ap, inl, inr, ◌⊎◌, arith}
use Rattle.std.specs.Prelude.{nat_lt, ◌||◌, unwrap_or, position, codes}
use Rattle.std.specs.Str.{bytes_eq}
use Rattle.std.specs.List.{All}
use Rattle.std.proofs.lemmas.Bool.{cases_eq}
use Rattle.std.proofs.lemmas.Bool.Decides.{nat_tests}
use Rattle.std.proofs.lemmas.List.{get_or-set_same, get_or-set_other, get_or_append_left, length-set, length_push, get_or_default}
use Rattle.std.proofs.lemmas.List.Elements.{All-push, All-set, All-nil}
use Rattle.std.proofs.lemmas.List.Quantifiers.{position-Some}
use Rattle.elf_read.specs.Sections.{is_small_power}
use Rattle.asm_lines.specs.declared.statement.SectionKind.{SectionKind}
use Rattle.asm_lines.specs.declared.statement.SectionKind.TheVariants.{Text, Data, Bss, ReadOnly}
use Rattle.asm_state.specs.Names.{has, number_of}
use Rattle.asm_state.specs.Sections.{Made, Sections, IsCurrent, no_sections, fresh, first_align, align_of, begun, entered, opened_at, opened, current_number, current, changed, in_current, raised, raised_at, aligned}
use Rattle.rv_asm.proofs.Named.{NoZero}

pub record SoundSections (s : Sections) : Type 0 where
  pub there : length s.names ≡ length s.made
  pub current_in : IsCurrent s s.current
  pub few : length s.names ≤ 16384
  pub named : All NoZero s.names
  pub aligns : All (λ (m : Made). is_small_power m.align ≡ true) s.made
  pub text_align : is_small_power s.text_align ≡ true

-- the size of a section that may not be there
abbrev pub size_at : List Made → ℕ → ℕ
size_at made n = (get_or made n (fresh Text 4)).size

-- more sections, none of them smaller
pub record Grows (made more : List Made) : Type 0 where
  pub longer : length made ≤ length more
  pub sizes : (n : ℕ) → n < length made → size_at made n ≤ size_at more n

pub grows_same : (made : List Made) → Grows made made
grows_same made = record { longer = omega arith; sizes = λ n lt. omega arith }

pub grows_then : (a b c : List Made) → Grows a b → Grows b c → Grows a c
grows_then a b c ab bc = record {
  longer = omega (arith, ab.longer, bc.longer);
  sizes = λ n lt. omega (arith, ab.sizes n lt, bc.sizes n (omega (arith, lt, ab.longer)));
}

pub sound_none : SoundSections no_sections
unfolding is_small_power
sound_none = record { there = refl; current_in = refl; few = omega arith; named = All-nil NoZero; aligns = All-nil (λ (m : Made). is_small_power m.align ≡ true); text_align = refl }

-- ---- new sections

first_small : (kind : SectionKind) → is_small_power (first_align kind) ≡ true
unfolding is_small_power
first_small Text = refl
first_small Data = refl
first_small Bss = refl
first_small ReadOnly = refl

align_small : (name : List ℕ) (kind : SectionKind) (s : Sections) → is_small_power s.text_align ≡ true → is_small_power (align_of name kind s) ≡ true
align_small name kind s h = chosen (bytes_eq name (codes ".text")) where
  chosen : (t : Bool) → is_small_power (if t then s.text_align else first_align kind) ≡ true
  chosen true = h
  chosen false = first_small kind

pub sound_begun : (name : List ℕ) (kind : SectionKind) (s : Sections) → SoundSections s → NoZero name → length s.names < 16384 → SoundSections (begun name kind s)
sound_begun name kind s sound text room = record {
  there = omega (arith, sound.there, length_push s.names name, length_push s.made (fresh kind (align_of name kind s)));
  current_in = omega (arith, length_push s.names name);
  few = omega (arith, room, length_push s.names name);
  named = All-push NoZero s.names name sound.named text;
  aligns = All-push (λ (m : Made). is_small_power m.align ≡ true) s.made (fresh kind (align_of name kind s)) sound.aligns (align_small name kind s sound.text_align);
  text_align = sound.text_align;
}

pub grows_begun : (name : List ℕ) (kind : SectionKind) (s : Sections) → Grows s.made (begun name kind s).made
grows_begun name kind s = record {
  longer = omega (arith, length_push s.made (fresh kind (align_of name kind s)));
  sizes = λ n lt. omega (arith, ap (λ (m : Made). m.size) (get_or_append_left s.made (fresh kind (align_of name kind s) ∷ []) (fresh Text 4) n lt));
}

number_in : (name : List ℕ) (names : List (List ℕ)) (o : Option ℕ) → position (bytes_eq name) names ≡ o → has name names ≡ true → unwrap_or o 0 < length names
number_in name names (Some n) is h = (position-Some (bytes_eq name) names n [] is).0
number_in name [] None is h = absurd (cc h)
number_in name (x ∷ xs) None is h = omega arith

number_inside : (name : List ℕ) (names : List (List ℕ)) → has name names ≡ true → number_of name names < length names
number_inside name names h = number_in name names (position (bytes_eq name) names) refl h

pub sound_entered : (name : List ℕ) (kind : SectionKind) (s : Sections) → SoundSections s → NoZero name → (has name s.names || nat_lt (length s.names) 16384) ≡ true → SoundSections (entered name kind s)
unfolding entered
sound_entered name kind s sound text room = chosen (has name s.names) refl where
  chosen : (t : Bool) → has name s.names ≡ t → SoundSections (if t then record s { current = Some (number_of name s.names) } else begun name kind s)
  chosen true is = record { there = sound.there; current_in = number_inside name s.names is; few = sound.few; named = sound.named; aligns = sound.aligns; text_align = sound.text_align }
  chosen false is = sound_begun name kind s sound text (let less : nat_lt (length s.names) 16384 ≡ true = rw is at room in grind (arith, nat_tests, less))

pub grows_entered : (name : List ℕ) (kind : SectionKind) (s : Sections) → Grows s.made (entered name kind s).made
unfolding entered
grows_entered name kind s = chosen (has name s.names) where
  chosen : (t : Bool) → Grows s.made (if t then record s { current = Some (number_of name s.names) } else begun name kind s).made
  chosen true = grows_same s.made
  chosen false = grows_begun name kind s

-- ---- the current section

opened_by : (c : Option ℕ) (s : Sections) → s.current ≡ c → IsCurrent s c → SoundSections s → SoundSections (opened_at c s) × Grows s.made (opened_at c s).made × (current_number (opened_at c s) < length (opened_at c s).made)
opened_by None s is none sound =
    let empty : length s.names ≡ 0 = ap length none in
    (sound_begun (codes ".text") Text s sound refl (omega (arith, empty)), grows_begun (codes ".text") Text s, omega (arith, sound.there, length_push s.made (fresh Text (align_of (codes ".text") Text s))))
opened_by (Some n) s is inside sound = (sound, grows_same s.made, rw (is, ← sound.there) inside)

pub opening : (s : Sections) → SoundSections s → SoundSections (opened s) × Grows s.made (opened s).made × (current_number (opened s) < length (opened s).made)
unfolding opened
opening s sound = opened_by s.current s refl sound.current_in sound

-- a change that leaves a section's alignment and takes no bytes
pub record Adds (f : Made → Made) : Type 0 where
  pub align : (m : Made) → (f m).align ≡ m.align
  pub size : (m : Made) → m.size ≤ (f m).size

set_sizes : (made : List Made) (n k : ℕ) (m : Made) → n < length made → (get_or made n (fresh Text 4)).size ≤ m.size → size_at made k ≤ size_at (set made n m) k
set_sizes made n k m lt more = elim (cases_eq k n) [
  | inl same ↦ rw same (omega (arith, more, ap (λ (x : Made). x.size) (get_or-set_same made n m (fresh Text 4) lt)))
  | inr other ↦ omega (arith, ap (λ (m : Made). m.size) (get_or-set_other made n k m (fresh Text 4) other))
]

sound_changed : (f : Made → Made) (s : Sections) → SoundSections s → current_number s < length s.made → is_small_power (f (current s)).align ≡ true → SoundSections (changed f s)
sound_changed f s sound lt small = record {
  there = sound.there ∙ sym (length-set s.made (current_number s) (f (current s)));
  current_in = sound.current_in;
  few = sound.few;
  named = sound.named;
  aligns = All-set (λ (m : Made). is_small_power m.align ≡ true) s.made (current_number s) (f (current s)) small sound.aligns;
  text_align = sound.text_align;
}

grows_changed : (f : Made → Made) (s : Sections) → current_number s < length s.made → ((m : Made) → m.size ≤ (f m).size) → Grows s.made (changed f s).made
grows_changed f s lt more = record {
  longer = omega (arith, length-set s.made (current_number s) (f (current s)));
  sizes = λ k h. set_sizes s.made (current_number s) k (f (current s)) lt (omega (arith, more (current s), ap (λ (m : Made). m.size) (get_or_default s.made (current_number s) (fresh Text 4) (fresh Text s.text_align) lt)));
}

pub sound_in_current : (f : Made → Made) (s : Sections) → SoundSections s → Adds f → SoundSections (in_current f s)
unfolding in_current
sound_in_current f s sound adds =
    let at = opening s sound in
    sound_changed f (opened s) at.0 at.2 (ap is_small_power (adds.align (current (opened s))) ∙ at.0.aligns (current_number (opened s)) (fresh Text (opened s).text_align) at.2)

pub grows_in_current : (f : Made → Made) (s : Sections) → SoundSections s → Adds f → Grows s.made (in_current f s).made
unfolding in_current
grows_in_current f s sound adds =
    let at = opening s sound in
    grows_then s.made (opened s).made (changed f (opened s)).made at.1 (grows_changed f (opened s) at.2 adds.size)

-- ---- alignments

max_small : (a b : ℕ) → is_small_power a ≡ true → is_small_power b ≡ true → is_small_power (max a b) ≡ true
max_small a b ha hb = chosen (max a b) (either a b) where
  either : (a b : ℕ) → (max a b ≡ a) ⊎ (max a b ≡ b)
  either a b = grind arith

  chosen : (m : ℕ) → (m ≡ a) ⊎ (m ≡ b) → is_small_power m ≡ true
  chosen m (inl is) = ap is_small_power is ∙ ha
  chosen m (inr is) = ap is_small_power is ∙ hb

raised_sound : (align : ℕ) (c : Option ℕ) (s : Sections) → s.current ≡ c → IsCurrent s c → SoundSections s → is_small_power align ≡ true → SoundSections (raised_at c align s) × Grows s.made (raised_at c align s).made
raised_sound align None s is none sound small =
    (record { there = sound.there; current_in = sound.current_in; few = sound.few; named = sound.named; aligns = sound.aligns; text_align = max_small align s.text_align small sound.text_align }, grows_same s.made)
raised_sound align (Some n) s is inside sound small =
    let lt : current_number s < length s.made = rw (is, ← sound.there) inside in
    (sound_changed (raised align) s sound lt (max_small align (current s).align small (sound.aligns (current_number s) (fresh Text s.text_align) lt)), grows_changed (raised align) s lt (λ m. omega arith))

pub sound_aligned : (align : ℕ) (s : Sections) → SoundSections s → is_small_power align ≡ true → SoundSections (aligned align s) × Grows s.made (aligned align s).made
unfolding aligned
sound_aligned align s sound small = raised_sound align s.current s refl sound.current_in sound small
