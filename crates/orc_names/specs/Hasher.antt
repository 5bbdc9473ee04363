-- What hashes the texts.
use Rattle.std.specs.Hash.DefaultHasher.{initial}
use Rattle.std.specs.declared.hash.DefaultHasher.{DefaultHasher}
use Rattle.std.specs.RandomState as seeded
use Rattle.orc_names.specs.declared.hasher.NameHasher.{NameHasher}
use Rattle.orc_names.specs.declared.hasher.NameHasher.TheVariants.{Seeded, Fixed}

-- the state that each text's hash begins with
abbrev pub initial_hasher : NameHasher → DefaultHasher
initial_hasher (Seeded state) = seeded.initial_hasher state
initial_hasher Fixed = initial
