-- What holds of every such object.
use Rattle.std.specs.Prelude.{ℕ, ◌<◌, ◌^◌}
use Rattle.elf_write.specs.Canonical.{Canonical}
use Rattle.generated_objects.specs.Objects.{generated_object}

abbrev pub AreCanonical : Type 0
AreCanonical = (n k : ℕ) → k < n → n < 2 ^ 64 → Canonical (generated_object n k)
