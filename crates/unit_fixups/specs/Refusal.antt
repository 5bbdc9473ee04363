-- What a refusal says.
use Rattle.std.specs.Prelude.{◌≡◌, ℕ, ℤ, Option, Some, ⊤}
use Rattle.orc_ids.specs.declared.place.Place.{Place}
use Rattle.unit_fixups.specs.declared.apply.FixError.{FixError}
use Rattle.unit_fixups.specs.declared.apply.FixError.TheVariants.{OutOfRange, NoMemory}

-- a refusal names the refused edge; want of memory says nothing of it
abbrev pub Refuses : FixError → Option (Place × ℕ × ℤ) → Type 0
Refuses (OutOfRange place kind v) edge = edge ≡ Some (place, kind, v)
Refuses NoMemory edge = ⊤
