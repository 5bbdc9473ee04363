-- The current section, once it is mentioned or changed.
use Rattle.std.proofs.Common.{◌≡◌, ℕ, ◌<◌, List, [], ◌∷◌, ◌++◌, length, get_or, Option, Some, None, refl, sym, ◌∙◌, ap, arith}
use Rattle.std.proofs.lemmas.List.{get_or-set_same}
use Rattle.asm_lines.specs.declared.statement.SectionKind.TheVariants.{Text}
use Rattle.asm_state.specs.Sections.{Made, Sections, IsBook, IsCurrent, fresh, opened_at, opened, changed, current, current_number, number_at}

pub changed_here : (f : Made → Made) (s : Sections) → current_number s < length s.made → current (changed f s) ≡ f (current s)
changed_here f s h = get_or-set_same s.made (current_number s) (f (current s)) (fresh Text s.text_align) h

-- before the first mention there is none
first_here : (names : List (List ℕ)) (made : List Made) (m : Made) → names ≡ [] → length names ≡ length made → get_or (made ++ m ∷ []) (length names) m ≡ get_or made 0 m
first_here names [] m none same = rw none refl
first_here names (x ∷ xs) m none same = absurd (omega (arith, ap length none, same))

mentioned_at : (s : Sections) (c : Option ℕ) → s.current ≡ c → IsCurrent s c → length s.names ≡ length s.made → current (opened_at c s) ≡ current s
mentioned_at s None is none same = first_here s.names s.made (fresh Text s.text_align) none same ∙ ap (λ c. get_or s.made (number_at c) (fresh Text s.text_align)) (sym is)
mentioned_at s (Some n) is inside same = refl

-- its mention leaves it
pub mentioned_here : (s : Sections) → IsBook s → current (opened s) ≡ current s
unfolding opened
mentioned_here s book = mentioned_at s s.current refl book.current_in book.there
