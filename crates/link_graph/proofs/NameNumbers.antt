-- The number of a name, and which names have one.
use Rattle.std.proofs.Common.{◌≡◌, true, false, ℕ, zero, suc, ◌+◌, ◌<◌, List, [], ◌∷◌, length, get_or, Some, refl, sym, ap, subst, ◌∙◌, inl, inr, arith}
use Rattle.std.specs.Prelude.{slice_get, Contains, IsTrue, ◌⊎◌, ◌++◌}
use Rattle.std.specs.List.{position_from}
use Rattle.std.specs.Str.{bytes_eq}
use Rattle.std.specs.Cmp.Lexicographic.{nat_list_eq_equiv, same_text}
use Rattle.std.proofs.lemmas.Bool.{cases_Bool, cases_lt}
use Rattle.std.proofs.lemmas.List.Elements.{Contains-push_cases}
use Rattle.std.proofs.lemmas.Option.{none-some, same_Some, slice_get_within, slice_get-get_or}
use Rattle.std.proofs.lemmas.List.{get_or_default}
use Rattle.elf_read.specs.declared.object.Symbol.{Symbol}
use Rattle.orc_ids.specs.declared.ids.NameId.{NameId}
use Rattle.link_graph.specs.Object.{name_number, is_global}
use Rattle.link_graph.specs.Read.{AddsNamesOf}
use Rattle.orc_names.specs.Numbers.{IsNumberOf, KeepsNumbers}

-- the first place of a text, where it has only one
position_there : (text : List ℕ) (i n : ℕ) (names : List (List ℕ)) → slice_get names n ≡ Some text → ((m : ℕ) → slice_get names m ≡ Some text → m ≡ n) → position_from (bytes_eq text) i names ≡ Some (i + n)
position_there text i n [] h only = absurd (none-some text h)
position_there text i zero (x ∷ xs) h only = rw (same_Some x text h, nat_list_eq_equiv.refl text) (ap Some (omega arith))
position_there text i (suc n) (x ∷ xs) h only = elim (cases_Bool (bytes_eq text x)) [
  | inl t ↦ absurd (let first = only 0 (ap Some (sym (same_text text x (sym t)))) in omega arith)
  | inr f ↦ rw f (position_there text (i + 1) n xs h (λ m there. let later = only (suc m) there in omega arith) ∙ ap Some (omega arith))
]

pub position-found : (names : List (List ℕ)) (text : List ℕ) (n : ℕ) → IsNumberOf names text n → position_from (bytes_eq text) 0 names ≡ Some n
position-found names text n is = position_there text 0 n names is.there is.only ∙ ap Some zero_less
  where
    zero_less : 0 + n ≡ n
    zero_less = omega arith

-- what a table answers to a text that has this number
pub number_there : (names : List (List ℕ)) (text : List ℕ) (name : NameId) → IsNumberOf names text name.0 → name_number names text ≡ Some name
number_there names text name is = rw (position-found names text name.0 is) refl

pub text_there : (names : List (List ℕ)) (text : List ℕ) (number : ℕ) → IsNumberOf names text number → Contains names text
text_there names text number is = (number, is.given, same_Some (get_or names number text) text (sym (slice_get-get_or names number text is.given) ∙ is.there))

-- what a table has, it keeps
pub kept : (old new : List (List ℕ)) (text : List ℕ) → KeepsNumbers old new → Contains old text → Contains new text
kept old new text keeps c =
    let there : slice_get old c.0 ≡ Some text = slice_get-get_or old c.0 text c.1 ∙ ap Some c.2 in
    let later : slice_get new c.0 ≡ Some text = keeps c.0 text there in
    let within = slice_get_within new c.0 text later in
    (c.0, within, same_Some (get_or new c.0 text) text (sym (slice_get-get_or new c.0 text within) ∙ later))

pub keeps_all : (a b c : List (List ℕ)) → KeepsNumbers a b → KeepsNumbers b c → KeepsNumbers a c
keeps_all a b c first second number text there = second number text (first number text there)

-- each of the first symbols that isn't local has its name in the table
abbrev pub AreFirstNamed : List (List ℕ) → List Symbol → ℕ → Type 0
AreFirstNamed names symbols n = (k : ℕ) (d : Symbol) → k < n → IsTrue (is_global (get_or symbols k d)) → Contains names (get_or symbols k d).name

-- one more symbol
pub one_more_named : (old new : List (List ℕ)) (symbols : List Symbol) (n : ℕ) (s : Symbol) → KeepsNumbers old new → n < length symbols → s ≡ get_or symbols n s → (IsTrue (is_global s) → Contains new s.name) → AreFirstNamed old symbols n → AreFirstNamed new symbols (n + 1)
one_more_named old new symbols n s keeps within is here before k d lt global = elim (cases_lt k n) [
  | inl below ↦ kept old new (get_or symbols k d).name keeps (before k d below global)
  | inr above ↦ (
      let same : k ≡ n = omega arith in
      let item : get_or symbols k d ≡ s = ap (λ i. get_or symbols i d) same ∙ get_or_default symbols n d s within ∙ sym is in
      subst (λ (x : Symbol). Contains new x.name) (sym item) (here (subst (λ (x : Symbol). IsTrue (is_global x)) item global)))
]

-- ---- no other text is added

known_later : (x text : List ℕ) (xs : List (List ℕ)) (k : ℕ) → k < length (x ∷ xs) → get_or (x ∷ xs) k text ≡ text → (x ≡ text) ⊎ Contains xs text
known_later x text xs zero lt is = inl is
known_later x text xs (suc k) lt is = inr (k, omega arith, is)

known_or_not : (names : List (List ℕ)) (text : List ℕ) → Contains names text ⊎ (Contains names text → ⊥)
known_or_not [] text = inr (λ c. let lt = c.1 in absurd (omega arith))
known_or_not (x ∷ xs) text = elim (cases_Bool (bytes_eq text x)) [
  | inl t ↦ inl (0, omega arith, sym (same_text text x (sym t)))
  | inr f ↦ elim (known_or_not xs text) [
    | inl c ↦ inl (suc c.0, (let lt = c.1 in omega arith), c.2)
    | inr none ↦ inr (λ c. elim (known_later x text xs c.0 c.1 c.2) [
      | inl is ↦ absurd (let same : bytes_eq text text ≡ false = subst (λ (y : List ℕ). bytes_eq text y ≡ false) is f in let here = nat_list_eq_equiv.refl text in cc)
      | inr later ↦ none later
    ])
  ]
]

-- a text that was known adds nothing, and any other itself
pub adds_one : (old new : List (List ℕ)) (text : List ℕ) → (Contains old text → new ≡ old) → ((Contains old text → ⊥) → new ≡ old ++ text ∷ []) → (other : List ℕ) → Contains new other → Contains old other ⊎ (text ≡ other)
adds_one old new text known added other c = elim (known_or_not old text) [
  | inl there ↦ inl (subst (λ (ns : List (List ℕ)). Contains ns other) (known there) c)
  | inr none ↦ Contains-push_cases old text other (subst (λ (ns : List (List ℕ)). Contains ns other) (added none) c)
]

pub adds_none : (old new : List (List ℕ)) (symbols : List Symbol) → new ≡ old → AddsNamesOf symbols old new
adds_none old new symbols same text c = inl (subst (λ (ns : List (List ℕ)). Contains ns text) same c)

-- one text more, at most: the name of a symbol that isn't local
abbrev pub AddsNameOf : Symbol → List (List ℕ) → List (List ℕ) → Type 0
AddsNameOf s old new = (text : List ℕ) → Contains new text → Contains old text ⊎ (IsTrue (is_global s) × (s.name ≡ text))

pub adds_own : (old new : List (List ℕ)) (s : Symbol) → is_global s ≡ true → ((text : List ℕ) → Contains new text → Contains old text ⊎ (s.name ≡ text)) → AddsNameOf s old new
adds_own old new s is one text c = elim (one text c) [
  | inl earlier ↦ inl earlier
  | inr same ↦ inr (is, same)
]

-- one more symbol's name
pub adds_name_of : (old mid new : List (List ℕ)) (symbols : List Symbol) (i : ℕ) (s : Symbol) → AddsNamesOf symbols old mid → i < length symbols → s ≡ get_or symbols i s → AddsNameOf s mid new → AddsNamesOf symbols old new
adds_name_of old mid new symbols i s before within is one text c = elim (one text c) [
  | inl earlier ↦ before text earlier
  | inr own ↦ inr (s, (i, within, sym is), own.0, own.1)
]
