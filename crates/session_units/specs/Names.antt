-- Names of absolute symbols.
use Rattle.std.specs.Prelude.{◌≢◌, ℕ, List}
use Rattle.std.specs.List.{AllPairs}
use Rattle.orc_ids.specs.declared.ids.NameId.{NameId}

-- no name is there twice
abbrev pub NamesDiffer : List (NameId × ℕ) → Type 0
NamesDiffer symbols = AllPairs (λ (p q : NameId × ℕ). p.0 ≢ q.0) symbols
