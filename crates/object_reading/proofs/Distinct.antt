-- Two symbols that others may see have names of their own.
use Rattle.std.proofs.Common.{◌≡◌, ℕ, zero, suc, ◌<◌, Bool, true, false, cond, not, List, [], ◌∷◌, length, map, sym, ◌∙◌, arith}
use Rattle.std.specs.List.{IsDistinct, AllByRecursion}
use Rattle.std.specs.Str.{bytes_eq}
use Rattle.std.proofs.lemmas.Bool.{both_ways, false≢true}
use Rattle.std.proofs.lemmas.Slice.Eq.{bytes_eq-Decides}
use Rattle.elf_read.specs.declared.object.Symbol.{Symbol}
use Rattle.elf_write.specs.Canonical.{others}
use Rattle.elf_write.specs.Tables.{is_local}
use Rattle.object_reading.proofs.Tables.{sym_at}

abbrev pub names_of : List Symbol → List (List ℕ)
names_of ss = map (λ (s : Symbol). s.name) ss

abbrev is_seen : Symbol → Bool
is_seen s = not (is_local s)

tail_distinct : (b : Bool) (s : Symbol) (ss : List Symbol) → IsDistinct bytes_eq (names_of (cond b (s ∷ ss) ss)) → IsDistinct bytes_eq (names_of ss)
unfolding IsDistinct
tail_distinct true s ss d = d.1
tail_distinct false s ss d = d

head_apart : (b : Bool) (s : Symbol) (ss : List Symbol) → b ≡ true → IsDistinct bytes_eq (names_of (cond b (s ∷ ss) ss)) → AllByRecursion (λ y. bytes_eq s.name y ≡ false) (names_of ss)
unfolding IsDistinct
head_apart true s ss e d = d.0
head_apart false s ss e d = absurd (false≢true e)

rest_of : (P : List ℕ → Type 0) (b : Bool) (s : Symbol) (ss : List Symbol) → AllByRecursion P (names_of (cond b (s ∷ ss) ss)) → AllByRecursion P (names_of ss)
rest_of P true s ss a = a.1
rest_of P false s ss a = a

first_of_seen : (P : List ℕ → Type 0) (b : Bool) (s : Symbol) (ss : List Symbol) → b ≡ true → AllByRecursion P (names_of (cond b (s ∷ ss) ss)) → P s.name
first_of_seen P true s ss e a = a.0
first_of_seen P false s ss e a = absurd (false≢true e)

seen_at : (P : List ℕ → Type 0) (ss : List Symbol) (j : ℕ) → AllByRecursion P (names_of (others ss)) → j < length ss → is_seen (sym_at ss j) ≡ true → P (sym_at ss j).name
seen_at P [] j a lt e = absurd (omega arith)
seen_at P (s ∷ ss) zero a lt e = first_of_seen P (is_seen s) s (others ss) e a
seen_at P (s ∷ ss) (suc j) a lt e = seen_at P ss j (rest_of P (is_seen s) s (others ss) a) (omega arith) e

names_apart : (ss : List Symbol) (k j : ℕ) → IsDistinct bytes_eq (names_of (others ss)) → k < j → j < length ss → is_seen (sym_at ss k) ≡ true → is_seen (sym_at ss j) ≡ true → bytes_eq (sym_at ss k).name (sym_at ss j).name ≡ false
names_apart [] k j d lt lt' e e' = absurd (omega arith)
names_apart (s ∷ ss) k zero d lt lt' e e' = absurd (omega arith)
names_apart (s ∷ ss) zero (suc j) d lt lt' e e' = seen_at (λ y. bytes_eq s.name y ≡ false) ss j (head_apart (is_seen s) s (others ss) e d) (omega arith) e'
names_apart (s ∷ ss) (suc k) (suc j) d lt lt' e e' = names_apart ss k j (tail_distinct (is_seen s) s (others ss) d) (omega arith) (omega arith) e e'

-- the later name isn't the earlier one
pub not_taken : (ss : List Symbol) (k j : ℕ) → IsDistinct bytes_eq (names_of (others ss)) → k < j → j < length ss → is_seen (sym_at ss k) ≡ true → is_seen (sym_at ss j) ≡ true → bytes_eq (sym_at ss j).name (sym_at ss k).name ≡ true → ⊥
not_taken ss k j d lt lt' e e' t =
    let same : (sym_at ss j).name ≡ (sym_at ss k).name = (bytes_eq-Decides (sym_at ss j).name (sym_at ss k).name).0 t in
    let turned : bytes_eq (sym_at ss j).name (sym_at ss k).name ≡ bytes_eq (sym_at ss k).name (sym_at ss j).name = λ i. bytes_eq (same i) (sym same i) in
    both_ways _ (names_apart ss k j d lt lt' e e') (sym turned ∙ t)
