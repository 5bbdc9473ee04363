-- The alignments of the tables are powers of two.
use Rattle.std.proofs.Common.{refl}
use Rattle.std.specs.Int.{IsPowerOfTwo}

pub byte : IsPowerOfTwo 1
byte = (0, refl)

pub sixteen : IsPowerOfTwo 16
sixteen = (4, refl)

pub page : IsPowerOfTwo 4096
page = (12, refl)
