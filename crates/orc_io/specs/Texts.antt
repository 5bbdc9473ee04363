-- What the loops over a source and a sink say of a text.
use Rattle.std.specs.Prelude.{◌≡◌, ℕ, ◌+◌, ◌<◌, List, length, take, Option, ⊤}
use Rattle.std.specs.Io.KnownBytes.{Appends, Consumes}
use Rattle.orc_io.specs.declared.errors.ReadError.{ReadError}
use Rattle.orc_io.specs.declared.errors.ReadError.TheVariants.{TooLong, Failed, NoMemory}

-- some bytes of the text's front were appended, and not all of it
abbrev pub AppendsPartOf : Option (List ℕ) → Option (List ℕ) → List ℕ → Type 0
AppendsPartOf old new text = (done : ℕ) × (done < length text) × Appends old new (take done text)

-- `TooLong` has one byte more than the limit, and just these were taken of what was left
abbrev pub HasLongerFront : ℕ → Option (List ℕ) → Option (List ℕ) → ReadError → Type 0
HasLongerFront limit old new (TooLong front) = (length front ≡ limit + 1) × Consumes old new front
HasLongerFront limit old new Failed = ⊤
HasLongerFront limit old new NoMemory = ⊤

-- no bytes are handed back
abbrev pub HasNoFront : ReadError → Type 0
HasNoFront (TooLong front) = ⊥
HasNoFront Failed = ⊤
HasNoFront NoMemory = ⊤
