-- The places of edges, and the edges that stand there.
use Rattle.std.specs.Prelude.{ℕ, ℤ, List, ◌++◌, codes}
use Rattle.std.specs.Fmt.{decimal, signed_decimal}
use Rattle.orc_ids.specs.declared.place.Place.{Place}

-- a block, and an offset in it
abbrev pub place_text : Place → List ℕ
place_text place = decimal place.block ++ codes " " ++ decimal place.offset

-- an edge's place, kind and value
abbrev pub edge_text : Place → ℕ → ℤ → List ℕ
edge_text place kind value = place_text place ++ codes " " ++ decimal kind ++ codes " " ++ signed_decimal value
