-- How some files were read: each once, in order, and none after one whose read was a fault.
use Rattle.std.specs.Prelude.{◌≡◌, ℕ, ◌+◌, ◌≤◌, Bool, true, false, List, [], ◌∷◌, ◌++◌, map, take, slice_get, Some}
use Rattle.orc_io.specs.Causes.{Rose}
use Rattle.object_files.specs.declared.error.LoadError.{LoadError}
use Rattle.object_files.specs.declared.error.LoadError.TheVariants.{Fault, TooLong, Refused, NoMemory}

-- what was made of files so far: the reads, each with its name and whether it was a fault, and the count of faults
pub record Use : Type 0 where
  pub reads : List (List ℕ × Bool)
  pub faults : ℕ

abbrev pub use_of : List (List ℕ × Bool) → ℕ → Use
use_of reads faults = record { reads = reads; faults = faults }

-- these files were read in order, and nothing else; no read was a fault
pub record AreReadIn (files : List (List ℕ)) (old new : Use) : Type 0 where
  pub reads : new.reads ≡ old.reads ++ map (λ name. (name, false)) files
  pub quiet : new.faults ≡ old.faults

-- and then this one, which was a fault, the only one
pub record IsFaultAfter (files : List (List ℕ)) (name : List ℕ) (old new : Use) : Type 0 where
  pub reads : new.reads ≡ old.reads ++ (map (λ other. (other, false)) files ++ (name, true) ∷ [])
  pub rose : Rose old.faults new.faults
  pub once : new.faults ≤ old.faults + 1

-- which were read where a load has stopped so: those up to the file that it names; where memory ran out, some first ones
abbrev pub AreReadUntil : List (List ℕ) → Use → Use → LoadError → Type 0
AreReadUntil files old new (Fault k) = (name : List ℕ) × (slice_get files k ≡ Some name) × IsFaultAfter (take k files) name old new
AreReadUntil files old new (TooLong k) = AreReadIn (take (k + 1) files) old new
AreReadUntil files old new (Refused k why) = AreReadIn (take (k + 1) files) old new
AreReadUntil files old new NoMemory = (n : ℕ) × AreReadIn (take n files) old new
