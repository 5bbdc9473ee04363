-- The parts with relocations: one for each section that has some, in the order of sections.
use Rattle.std.proofs.Common.{◌≡◌, ℕ, zero, suc, ◌+◌, ◌<◌, Bool, true, false, cond, List, [], ◌∷◌, ◌++◌, length, get_or, take, refl, sym, ap, ◌∙◌, arith}
use Rattle.elf_read.specs.declared.object.Reloc.{Reloc}
use Rattle.elf_read.specs.declared.object.Section.{Section}
use Rattle.elf_write.specs.Parts.{Part, rela_part, rela_part_of, rela_parts}
use Rattle.elf_write.specs.Files.{is_filled, rela_count}
use Rattle.object_reading.specs.Places.{part}

abbrev pub no_sec : Section
no_sec = record { name = []; kind = 0; flags = 0; align = 1; size = 0; bytes = []; relocs = [] }

abbrev pub sec : List Section → ℕ → Section
sec ss k = get_or ss k no_sec

-- how many sections before one have relocations
abbrev pub rank : List Section → ℕ → ℕ
rank ss q = rela_count (take q ss)

one_or_none : (symtab number : ℕ) (s : Section) (rs : List Reloc) → rela_part_of symtab number s rs ≡ cond (is_filled rs) (rela_part symtab number s ∷ []) []
one_or_none symtab number s [] = refl
one_or_none symtab number s (r ∷ rs) = refl

abbrev has_relocs : Section → Bool
has_relocs s = is_filled s.relocs

first_parts : (symtab number : ℕ) (s : Section) (ss : List Section) (b : Bool) → has_relocs s ≡ b → rela_parts symtab number (s ∷ ss) ≡ cond b (rela_part symtab number s ∷ []) [] ++ rela_parts symtab (number + 1) ss
first_parts symtab number s ss b e = ap (λ l. l ++ rela_parts symtab (number + 1) ss) (one_or_none symtab number s s.relocs ∙ ap (λ t. cond t (rela_part symtab number s ∷ []) []) e)

first_count : (s : Section) (ss : List Section) (b : Bool) → has_relocs s ≡ b → rela_count (s ∷ ss) ≡ cond b 1 0 + rela_count ss
first_count s ss true e = rw e (omega arith)
first_count s ss false e = rw e (omega arith)

same_length : (b : Bool) (p : Part) (ps : List Part) (n m : ℕ) → length ps ≡ n → m ≡ cond b 1 0 + n → length (cond b (p ∷ []) [] ++ ps) ≡ m
same_length true p ps n m e e' = omega arith
same_length false p ps n m e e' = omega arith

pub length-rela_parts : (symtab number : ℕ) (ss : List Section) → length (rela_parts symtab number ss) ≡ rela_count ss
length-rela_parts symtab number [] = refl
length-rela_parts symtab number (s ∷ ss) =
    ap length (first_parts symtab number s ss (has_relocs s) refl)
    ∙ same_length (has_relocs s) (rela_part symtab number s) (rela_parts symtab (number + 1) ss) (rela_count ss) (rela_count (s ∷ ss)) (length-rela_parts symtab (number + 1) ss) (first_count s ss (has_relocs s) refl)

-- ---- the section of a part

pub record FromSection (symtab number : ℕ) (ss : List Section) (j : ℕ) : Type 0 where
  pub at : ℕ
  pub below : at < length ss
  pub filled : is_filled (sec ss at).relocs ≡ true
  pub is : part (rela_parts symtab number ss) j ≡ rela_part symtab (number + at) (sec ss at)
  pub rank_is : j ≡ rank ss at

module _ (symtab number : ℕ) (s : Section) (ss : List Section) where
  later : (j j' : ℕ) (b : Bool) → has_relocs s ≡ b → j ≡ cond b 1 0 + j' → part (cond b (rela_part symtab number s ∷ []) [] ++ rela_parts symtab (number + 1) ss) j ≡ part (rela_parts symtab (number + 1) ss) j' →
      FromSection symtab (number + 1) ss j' → FromSection symtab number (s ∷ ss) j
  later j j' b e place there from = record {
    at = suc from.at;
    below = omega (arith, from.below);
    filled = from.filled;
    is = ap (λ l. part l j) (first_parts symtab number s ss b e) ∙ there ∙ from.is ∙ ap (λ n. rela_part symtab n (sec ss from.at)) (omega arith);
    rank_is = place ∙ ap (λ n. cond b 1 0 + n) from.rank_is ∙ sym (first_count s (take from.at ss) b e);
  }

  from_first : (b : Bool) → has_relocs s ≡ b → ((j : ℕ) → j < rela_count ss → FromSection symtab (number + 1) ss j) → (j : ℕ) → j < cond b 1 0 + rela_count ss → FromSection symtab number (s ∷ ss) j
  from_first true e rest zero lt = record {
    at = 0;
    below = omega arith;
    filled = e;
    is = ap (λ l. part l 0) (first_parts symtab number s ss true e) ∙ ap (λ n. rela_part symtab n s) (omega arith);
    rank_is = refl;
  }
  from_first true e rest (suc j) lt = later (suc j) j true e (omega arith) refl (rest j (omega arith))
  from_first false e rest j lt = later j j false e (omega arith) refl (rest j (omega arith))

pub from_section : (symtab number : ℕ) (ss : List Section) (j : ℕ) → j < rela_count ss → FromSection symtab number ss j
from_section symtab number [] j lt = absurd (omega arith)
from_section symtab number (s ∷ ss) j lt = from_first symtab number s ss (has_relocs s) refl (λ i lt'. from_section symtab (number + 1) ss i lt') j (omega (arith, first_count s ss (has_relocs s) refl))

-- ---- the part of a section

module _ (symtab number : ℕ) (s : Section) (ss : List Section) (q : ℕ) where
  next_rank : (b : Bool) → has_relocs s ≡ b → rank (s ∷ ss) (suc q) ≡ cond b 1 0 + rank ss q
  next_rank b e = first_count s (take q ss) b e

  next_part : (b : Bool) (r : ℕ) → part (cond b (rela_part symtab number s ∷ []) [] ++ rela_parts symtab (number + 1) ss) (cond b 1 0 + r) ≡ part (rela_parts symtab (number + 1) ss) r
  next_part true r = let e : 1 + r ≡ suc r = omega arith in ap (λ (k : ℕ). part (rela_part symtab number s ∷ rela_parts symtab (number + 1) ss) k) e
  next_part false r = let e : 0 + r ≡ r = omega arith in ap (λ (k : ℕ). part (rela_parts symtab (number + 1) ss) k) e

pub rank_in : (ss : List Section) (q : ℕ) → q < length ss → is_filled (sec ss q).relocs ≡ true → rank ss q < rela_count ss
rank_in [] q lt e = absurd (omega arith)
rank_in (s ∷ ss) zero lt e = omega (arith, first_count s ss true e)
rank_in (s ∷ ss) (suc q) lt e =
    let ih = rank_in ss q (omega arith) e in
    omega (arith, ih, first_count s ss (has_relocs s) refl, first_count s (take q ss) (has_relocs s) refl)

pub part_of_section : (symtab number : ℕ) (ss : List Section) (q : ℕ) → q < length ss → is_filled (sec ss q).relocs ≡ true → part (rela_parts symtab number ss) (rank ss q) ≡ rela_part symtab (number + q) (sec ss q)
part_of_section symtab number [] q lt e = absurd (omega arith)
part_of_section symtab number (s ∷ ss) zero lt e = ap (λ l. part l 0) (first_parts symtab number s ss true e) ∙ ap (λ n. rela_part symtab n s) (omega arith)
part_of_section symtab number (s ∷ ss) (suc q) lt e =
    (λ i. part (first_parts symtab number s ss (has_relocs s) refl i) (next_rank symtab number s ss q (has_relocs s) refl i))
    ∙ next_part symtab number s ss q (has_relocs s) (rank ss q)
    ∙ part_of_section symtab (number + 1) ss q (omega arith) e
    ∙ ap (λ n. rela_part symtab n (sec ss q)) (omega arith)
