-- The FILE words, by what a parse gives of them.
use Rattle.std.proofs.Common.{◌≡◌, ℕ, List, [], codes, ap, Option, unwrap_or}
use Rattle.clap.specs.Words.{Row, all_of}
use Rattle.command_line.specs.Words.{files_in}

-- some files that were given, or none
pub files_given : (rows : List Row) (o : Option (List (List ℕ))) → o ≡ all_of (codes "files") rows → unwrap_or o [] ≡ files_in rows
files_given rows o is = ap (λ (p : Option (List (List ℕ))). unwrap_or p []) is
