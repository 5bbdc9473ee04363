-- The first of several checks that fails, and what holds of some number below another.
use Rattle.std.specs.Prelude.{◌≡◌, ℕ, zero, suc, Bool, false, ◌||◌, Option, Some, None, Result, Ok, Err, if◌then◌else◌}
use Rattle.elf_read.specs.declared.error.ElfError.{ElfError}
use Rattle.elf_read.specs.declared.error.ElfError.TheVariants.{NoMemory}

-- this value where the test holds
abbrev pub when : {A : Type 0} → Bool → A → Option A
when test x = if test then Some x else None

-- the first of two that is there
infixr 10 ◌otherwise◌
abbrev pub ◌otherwise◌ : {A : Type 0} → Option A → Option A → Option A
(Some x) otherwise next = Some x
None otherwise next = next

-- the first that is there of f 0 to f (n - 1)
unfoldable pub first_below : {A : Type 0} → ℕ → (ℕ → Option A) → Option A
first_below zero f = None
first_below (suc n) f = first_below n f otherwise f n

-- whether one of the numbers below n passes
unfoldable pub any_below : ℕ → (ℕ → Bool) → Bool
any_below zero p = false
any_below (suc n) p = any_below n p || p n

-- what a check answers: nothing, or the refusal that there is
abbrev pub Agrees : {T : Type 0} → Result T ElfError → Option ElfError → Type 0
Agrees (Ok x) refusal = refusal ≡ None
Agrees (Err e) refusal = refusal ≡ Some e

-- the same, where memory may run out
abbrev pub Refuses : ElfError → Option ElfError → Type 0
Refuses NoMemory refusal = Unit {0}
Refuses e refusal = refusal ≡ Some e

abbrev pub AgreesIfRoom : {T : Type 0} → Result T ElfError → Option ElfError → Type 0
AgreesIfRoom (Ok x) refusal = refusal ≡ None
AgreesIfRoom (Err e) refusal = Refuses e refusal
