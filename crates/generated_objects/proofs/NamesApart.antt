-- The names of functions: letters and digits alone, and each function has its own.
use Rattle.std.proofs.Common.{◌≡◌, ℕ, zero, suc, ◌+◌, ◌<◌, ◌≤◌, ◌^◌, ◌⊎◌, inl, inr, Bool, true, false, List, [], ◌∷◌, ◌++◌, length, drop, map, Option, Some, refl, sym, ap, ◌∙◌, subst, arith}
use Rattle.std.specs.Prelude.{◌%◌, ◌==◌, ◌||◌, cond, nat_lt, option_map}
use Rattle.std.specs.Fmt.{decimal}
use Rattle.std.specs.List.{AllByRecursion, list_any, position_from, range_with_len}
use Rattle.std.specs.Str.{bytes_eq}
use Rattle.std.proofs.Math.Nat.{mod-lt}
use Rattle.std.proofs.lemmas.Bool.{cases_eq, false_from_ne_true, ne_eqb, or_from}
use Rattle.std.proofs.lemmas.Bool.Decides.{nat_tests}
use Rattle.std.proofs.lemmas.Fmt.{decimal_by_steps, decimal_injective, length-decimal-le}
use Rattle.std.proofs.lemmas.Slice.Eq.{bytes_eq-Decides}
use Rattle.elf_read.specs.Symbols.{is_bad_name}
use Rattle.elf_write.specs.Canonical.{IsText}
use Rattle.link_graph.specs.Object.{name_number}
use Rattle.generated_objects.specs.Graphs.{function_number}
use Rattle.generated_objects.specs.Objects.{function_name, session_names}

-- ---- digits

abbrev IsDigit : ℕ → Type 0
IsDigit b = (48 ≤ b) × (b ≤ 57)

abbrev AreDigits : List ℕ → Type 0
AreDigits bs = AllByRecursion IsDigit bs

one_more : (bs : List ℕ) (b : ℕ) → AreDigits bs → IsDigit b → AreDigits (bs ++ b ∷ [])
one_more [] b all is = (is, tt)
one_more (c ∷ cs) b all is = (all.0, one_more cs b all.1 is)

digits : (n : ℕ) → n < 2 ^ 64 → AreDigits (decimal n)
digits n fits = decimal_by_steps (λ m ds. AreDigits ds) (λ m lt. (((omega arith), (omega (arith, lt))), tt)) (λ m ds ge all. one_more ds (48 + m % 10) all (last m)) n fits
  where
    last : (m : ℕ) → IsDigit (48 + m % 10)
    last m = let lt : m % 10 < 10 = mod-lt m (omega arith) in (omega arith, omega (arith, lt))

none_of : (test : ℕ → Bool) → ((b : ℕ) → IsDigit b → test b ≡ false) → (bs : List ℕ) → AreDigits bs → list_any test bs ≡ false
none_of test no_digit [] all = refl
none_of test no_digit (b ∷ bs) all = or_from (test b) (list_any test bs) (no_digit b all.0) (none_of test no_digit bs all.1)

-- ---- names

not_zero : (b : ℕ) → IsDigit b → (b == 0) ≡ false
not_zero b is = let low = is.0 in ne_eqb b 0 (λ e. omega (arith, low, e))

pub name_text : (k : ℕ) → k < 2 ^ 64 → IsText (function_name k)
name_text k fits = or_from false (list_any (λ b. b == 0) (decimal k)) refl (none_of (λ b. b == 0) not_zero (decimal k) (digits k fits))

printable : (b : ℕ) → IsDigit b → (nat_lt b 0x21 || b == 0x7f) ≡ false
printable b is = let low = is.0 in let high = is.1 in grind (arith, nat_tests, low, high)

nonzero : (n : ℕ) → (suc n == 0) ≡ false
nonzero n = ne_eqb (suc n) 0 (λ e. omega (arith, e))

pub name_good : (k : ℕ) → k < 2 ^ 64 → is_bad_name (function_name k) ≡ false
unfolding is_bad_name
name_good k fits = or_from (length (function_name k) == 0) (list_any (λ b. nat_lt b 0x21 || b == 0x7f) (function_name k)) (nonzero (length (decimal k)))
    (or_from false (list_any (λ b. nat_lt b 0x21 || b == 0x7f) (decimal k)) refl (none_of (λ b. nat_lt b 0x21 || b == 0x7f) printable (decimal k) (digits k fits)))

pub name_short : (k : ℕ) → k < 2 ^ 64 → length (function_name k) ≤ 4096
name_short k fits =
    let short = length-decimal-le 20 k (omega arith) (omega (arith, fits)) fits in
    let is : length (function_name k) ≡ suc (length (decimal k)) = refl in
    omega (arith, short, is)

pub names_apart : (j k : ℕ) → j < 2 ^ 64 → k < 2 ^ 64 → (j ≡ k → ⊥) → bytes_eq (function_name j) (function_name k) ≡ false
names_apart j k low high apart = false_from_ne_true (bytes_eq (function_name j) (function_name k)) (λ e. apart (decimal_injective j k low high (ap (drop 1) ((bytes_eq-Decides (function_name j) (function_name k)).0 e))))

same_name : (k : ℕ) → bytes_eq (function_name k) (function_name k) ≡ true
same_name k = (bytes_eq-Decides (function_name k) (function_name k)).1 refl

-- ---- their numbers

stands : (n a i t j : ℕ) → a ≤ t → t < a + n → a + n ≤ 2 ^ 64 → j + a ≡ i + t → position_from (bytes_eq (function_name t)) i (map function_name (range_with_len a n)) ≡ Some j
stands zero a i t j low high fits e = absurd (omega (arith, low, high))
stands (suc n) a i t j low high fits e = split (cases_eq a t) (λ apart. stands n (a + 1) (i + 1) t j (omega (arith, low, apart)) (omega (arith, high)) (omega (arith, fits)) (omega (arith, e)))
  where
    rest : Option ℕ
    rest = position_from (bytes_eq (function_name t)) (i + 1) (map function_name (range_with_len (a + 1) n))

    split : (a ≡ t) ⊎ (a ≡ t → ⊥) → ((a ≡ t → ⊥) → rest ≡ Some j) → position_from (bytes_eq (function_name t)) i (map function_name (range_with_len a (suc n))) ≡ Some j
    split (inl same) later = ap (λ b. cond b (Some i) rest) (subst (λ s. bytes_eq (function_name t) (function_name s) ≡ true) (sym same) (same_name t)) ∙ ap Some (omega (arith, e, same))
    split (inr apart) later = ap (λ b. cond b (Some i) rest) (names_apart t a (omega (arith, high, fits)) (omega (arith, low, high, fits)) (λ same. apart (sym same))) ∙ later apart

-- the dylibs' names come first
pub function_stands : (n k : ℕ) → k < n → n < 2 ^ 31 → name_number (session_names n) (function_name k) ≡ Some (function_number k)
function_stands n k below few = ap (option_map (λ m. record { 0 = m })) (stands n 0 4 k (4 + k) (omega arith) (omega (arith, below)) (omega (arith, few)) (omega arith))
