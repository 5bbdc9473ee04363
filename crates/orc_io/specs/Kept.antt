-- What a sink that never fails has kept.
use Rattle.std.specs.Prelude.{◌≡◌, ℕ, List, ◌++◌, Option, None, Some, IfSome, IsSomeAnd, if◌then◌else◌}
use Rattle.orc_io.specs.declared.memory.sure_sink.SureSink.{SureSink}

-- all that was written, or none once memory did not suffice to keep it
abbrev pub kept_bytes : SureSink → Option (List ℕ)
kept_bytes sink = if sink.whole then Some sink.kept.items else None

-- what is still kept was kept before, and has grown by these bytes
abbrev pub GrowsWhileKept : Option (List ℕ) → Option (List ℕ) → List ℕ → Type 0
GrowsWhileKept old new bytes = IfSome new (λ now. IsSomeAnd old (λ before. now ≡ before ++ bytes))
