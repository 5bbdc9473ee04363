-- What a binding says of an address.
use Rattle.std.specs.Prelude.{ℕ, Option, option_map}
use Rattle.orc_ids.specs.declared.ids.InstId.{InstId}

abbrev pub bound_address : Option (InstId × ℕ) → Option ℕ
bound_address found = option_map (λ p. p.1) found
