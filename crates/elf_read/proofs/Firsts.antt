-- A loop that goes up through numbers: what is first below a number, and whether one below it passes.
use Rattle.std.proofs.Common.{◌≡◌, ℕ, zero, suc, ◌+◌, ◌<◌, Bool, true, false, ◌||◌, Option, Some, None, refl, inl, inr, add-one, arith}
use Rattle.std.proofs.lemmas.Bool.{cases_lt}
use Rattle.elf_read.specs.declared.error.ElfError.{ElfError}
use Rattle.elf_read.specs.declared.error.ElfError.TheVariants.{Short, BadMagic, NotClass64, NotLittle, NotRelocatable, NotRiscv, BadFlags, BadTable, BadSymbol, BadLink, Overlap, NotBuilt, NoMemory}
use Rattle.elf_read.specs.Choice.{Refuses, when, ◌otherwise◌, first_below, any_below}

pub otherwise-parts : {A : Type 0} (a b : Option A) → (a otherwise b) ≡ None → (a ≡ None) × (b ≡ None)
otherwise-parts None b h = (refl, h)
otherwise-parts (Some x) b h = absurd cc

pub when-none : {A : Type 0} (test : Bool) (x : A) → when test x ≡ None → test ≡ false
when-none true x h = absurd cc
when-none false x h = refl

-- one more number
pub first_below-next : {A : Type 0} (i : ℕ) (f : ℕ → Option A) → first_below (i + 1) f ≡ (first_below i f otherwise f i)
unfolding first_below
first_below-next i f = rw add-one refl

pub first_below-more : {A : Type 0} (i : ℕ) (f : ℕ → Option A) → first_below i f ≡ None → f i ≡ None → first_below (i + 1) f ≡ None
first_below-more i f before here = rw (first_below-next i f, before) here

-- what is found at a number, where nothing stood below it
pub first_below-found : {A : Type 0} (n i : ℕ) (f : ℕ → Option A) (x : A) → first_below i f ≡ None → f i ≡ Some x → i < n → first_below n f ≡ Some x
unfolding first_below
first_below-found zero i f x before here lt = absurd (omega arith)
first_below-found (suc n) i f x before here lt =
    elim (cases_lt i n) [
      | inl below ↦ rw (first_below-found n i f x before here below) refl
      | inr above ↦ (let same : i ≡ n = omega arith in rw (← same, before) here)
    ]

pub any_below-next : (i : ℕ) (p : ℕ → Bool) → any_below (i + 1) p ≡ (any_below i p || p i)
unfolding any_below
any_below-next i p = rw add-one refl

pub any_below-more : (i : ℕ) (p : ℕ → Bool) → any_below i p ≡ false → p i ≡ false → any_below (i + 1) p ≡ false
any_below-more i p before here = rw (any_below-next i p, before) here

or-true : (a : Bool) → (a || true) ≡ true
or-true true = refl
or-true false = refl

pub any_below-found : (n i : ℕ) (p : ℕ → Bool) → p i ≡ true → i < n → any_below n p ≡ true
unfolding any_below
any_below-found zero i p here lt = absurd (omega arith)
any_below-found (suc n) i p here lt =
    elim (cases_lt i n) [
      | inl below ↦ rw (any_below-found n i p here below) refl
      | inr above ↦ (let same : i ≡ n = omega arith in rw (← same, here) (or-true (any_below i p)))
    ]

-- what holds of each where nothing is found
pub first_below-at : {A : Type 0} (n i : ℕ) (f : ℕ → Option A) → first_below n f ≡ None → i < n → f i ≡ None
unfolding first_below
first_below-at zero i f none lt = absurd (omega arith)
first_below-at (suc n) i f none lt =
    let parts = otherwise-parts (first_below n f) (f n) none in
    elim (cases_lt i n) [
      | inl below ↦ first_below-at n i f parts.0 below
      | inr above ↦ (let same : i ≡ n = omega arith in rw same parts.1)
    ]

-- a refusal of one number is that of all below n, where nothing below it is refused
pub refuses-found : (n i : ℕ) (f : ℕ → Option ElfError) (e : ElfError) → first_below i f ≡ None → Refuses e (f i) → i < n → Refuses e (first_below n f)
refuses-found n i f NoMemory before here lt = tt
refuses-found n i f (Short p) before here lt = first_below-found n i f (Short p) before here lt
refuses-found n i f BadMagic before here lt = first_below-found n i f BadMagic before here lt
refuses-found n i f NotClass64 before here lt = first_below-found n i f NotClass64 before here lt
refuses-found n i f NotLittle before here lt = first_below-found n i f NotLittle before here lt
refuses-found n i f NotRelocatable before here lt = first_below-found n i f NotRelocatable before here lt
refuses-found n i f NotRiscv before here lt = first_below-found n i f NotRiscv before here lt
refuses-found n i f (BadFlags p) before here lt = first_below-found n i f (BadFlags p) before here lt
refuses-found n i f (BadTable p) before here lt = first_below-found n i f (BadTable p) before here lt
refuses-found n i f (BadSymbol p) before here lt = first_below-found n i f (BadSymbol p) before here lt
refuses-found n i f (BadLink p) before here lt = first_below-found n i f (BadLink p) before here lt
refuses-found n i f (Overlap p) before here lt = first_below-found n i f (Overlap p) before here lt
refuses-found n i f (NotBuilt p) before here lt = first_below-found n i f (NotBuilt p) before here lt
