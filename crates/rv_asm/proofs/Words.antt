-- The words of instructions, one at a time.
use Rattle.std.proofs.Common.{◌≡◌, ℕ, zero, suc, ◌+◌, ◌<◌, ◌≤◌, List, [], ◌∷◌, ◌++◌, length, get_or, take, None, ap, ◌∙◌, arith, add-zero}
use Rattle.std.proofs.lemmas.List.{take_more, take_all}
use Rattle.orc_words.specs.Numbers.{with_number}
use Rattle.asm_state.specs.declared.section.Code.{Code}
use Rattle.asm_state.specs.Sections.{StandIn}
use Rattle.asm_state.specs.Symbols.{Symbols}
use Rattle.rv_asm.specs.Branches.{filled, far_line, first_far_in, first_far_from}
use Rattle.rv_asm.specs.Sections.{Encoded, IsWord}
use Rattle.rv_asm.proofs.Firsts.{lesser_left, lesser_right}
use Rattle.asm_state.specs.Sections.{Made}

pub encoded_more : (s : Symbols) (section : ℕ) (cs : List Code) (c : Code) (word : ℕ) (before between after : ℕ → ℕ) → Encoded s section cs before between → IsWord (filled s section c) word → after ≡ with_number 4 c.at word between → Encoded s section (cs ++ c ∷ []) before after
encoded_more s section [] c word before between after so_far fits is = (word, (fits, is ∙ ap (with_number 4 c.at word) so_far))
encoded_more s section (x ∷ cs) c word before between after (w, (f, so_far)) fits is =
    (w, (f, encoded_more s section cs c word (with_number 4 x.at w before) between after so_far fits is))

-- each instruction stands inside
pub stands_inside : (from to : ℕ) (cs : List Code) (i : ℕ) (d : Code) → StandIn from cs to → i < length cs → (get_or cs i d).at + 4 ≤ to
stands_inside from to [] i d stand lt = absurd (omega (arith, lt))
stands_inside from to (c ∷ cs) zero d stand lt = starts_below (c.at + 4) to cs stand.1 where
  starts_below : (from to : ℕ) (cs : List Code) → StandIn from cs to → from ≤ to
  starts_below from to [] stand = stand
  starts_below from to (c ∷ cs) stand = omega (arith, stand.0, starts_below (c.at + 4) to cs stand.1)
stands_inside from to (c ∷ cs) (suc i) d stand lt = stands_inside (c.at + 4) to cs i d stand.1 (omega (arith, lt))

-- none of the branches is far
pub near_at : (s : Symbols) (section : ℕ) (cs : List Code) (i : ℕ) (d : Code) → first_far_in s section cs ≡ None → i < length cs → far_line s section (get_or cs i d) ≡ None
near_at s section [] i d near lt = absurd (omega (arith, lt))
near_at s section (c ∷ cs) zero d near lt = lesser_left (far_line s section c) (first_far_in s section cs) near
near_at s section (c ∷ cs) (suc i) d near lt = near_at s section cs i d (lesser_right (far_line s section c) (first_far_in s section cs) near) (omega (arith, lt))

pub near_in : (s : Symbols) (section : ℕ) (ms : List Made) (i : ℕ) (d : Made) → first_far_from s section ms ≡ None → i < length ms → first_far_in s (section + i) (get_or ms i d).code ≡ None
near_in s section [] i d near lt = absurd (omega (arith, lt))
near_in s section (m ∷ ms) zero d near lt = rw (add-zero section) (lesser_left (first_far_in s section m.code) (first_far_from s (section + 1) ms) near)
near_in s section (m ∷ ms) (suc i) d near lt =
    rw (shift section i) (near_in s (section + 1) ms i d (lesser_right (first_far_in s section m.code) (first_far_from s (section + 1) ms) near) (omega (arith, lt))) where
      shift : (section i : ℕ) → section + suc i ≡ section + 1 + i
      shift section i = omega arith

pub stands_at : (to now : ℕ) (cs : List Code) (i : ℕ) (d : Code) → now ≡ to → StandIn 0 cs to → i < length cs → (get_or cs i d).at + 4 ≤ now
stands_at to now cs i d is stand lt = omega (arith, is, stands_inside 0 to cs i d stand lt)

pub put_more : (s : Symbols) (section : ℕ) (cs : List Code) (i : ℕ) (d : Code) (before now new : ℕ → ℕ) → i < length cs → Encoded s section (take i cs) before now → (word : ℕ) × IsWord (filled s section (get_or cs i d)) word × (new ≡ with_number 4 (get_or cs i d).at word now) → Encoded s section (take (i + 1) cs) before new
put_more s section cs i d before now new lt so_far (word, fits, is) =
    rw (take_more cs i d lt) (encoded_more s section (take i cs) (get_or cs i d) word before now new so_far fits is)

pub put_all : (s : Symbols) (section : ℕ) (cs : List Code) (i : ℕ) (before now : ℕ → ℕ) → length cs ≤ i → Encoded s section (take i cs) before now → Encoded s section cs before now
put_all s section cs i before now done so_far = let all = take_all i cs done in rw all at so_far
