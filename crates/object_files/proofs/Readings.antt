-- The files that were read so far: none at first, one more with each file, and those up to the one that stops the load.
use Rattle.std.proofs.Common.{◌≡◌, ℕ, zero, suc, ◌+◌, ◌≤◌, Bool, true, false, List, [], ◌∷◌, ◌++◌, map, take, Some, refl, sym, ap, subst, ◌∙◌, arith}
use Rattle.std.specs.Prelude.{slice_get, Result, Ok, Err, IfErr}
use Rattle.std.proofs.lemmas.List.{append_assoc, append-nil, map-append}
use Rattle.std.proofs.lemmas.Option.{none-some, same_Some}
use Rattle.orc_io.specs.Causes.{Rose}
use Rattle.object_files.specs.Reads.{Use, AreReadIn, IsFaultAfter, AreReadUntil}
use Rattle.object_files.specs.Steps.{IsReadFor, IsStoppedAt}
use Rattle.object_files.specs.Files.{Told}
use Rattle.object_files.specs.declared.error.LoadError.{LoadError}
use Rattle.object_files.specs.declared.error.LoadError.TheVariants.{Fault, TooLong, Refused, NoMemory}

-- a read that was no fault
abbrev sound : List ℕ → List ℕ × Bool
sound name = (name, false)

pub none_read : (at : Use) → AreReadIn [] at at
none_read at = record { reads = sym (append-nil at.reads); quiet = refl }

pub one_more_read : (files : List (List ℕ)) (name : List ℕ) (a b c : Use) → AreReadIn files a b → AreReadIn (name ∷ []) b c → AreReadIn (files ++ name ∷ []) a c
one_more_read files name a b c before next = record {
  reads = next.reads ∙ (ap (λ rs. rs ++ sound name ∷ []) before.reads
      ∙ (append_assoc a.reads (map sound files) (sound name ∷ []) ∙ ap (λ rs. a.reads ++ rs) (sym (map-append sound files (name ∷ [])))));
  quiet = next.quiet ∙ before.quiet;
}

one_more_fault : (files : List (List ℕ)) (name : List ℕ) (a b c : Use) → AreReadIn files a b → IsFaultAfter [] name b c → IsFaultAfter files name a c
one_more_fault files name a b c before next = record {
  reads = next.reads ∙ (ap (λ rs. rs ++ (name, true) ∷ []) before.reads ∙ append_assoc a.reads (map sound files) ((name, true) ∷ []));
  rose = subst (λ n. Rose n c.faults) before.quiet next.rose;
  once = subst (λ n. c.faults ≤ n + 1) before.quiet next.once;
}

-- the first files, with the one at the next place
pub take_next : (files : List (List ℕ)) (k : ℕ) (name : List ℕ) → slice_get files k ≡ Some name → take (k + 1) files ≡ take k files ++ name ∷ []
take_next [] k name here = absurd (none-some name here)
take_next (file ∷ files) zero name here = ap (λ x. x ∷ []) (same_Some file name here)
take_next (file ∷ files) (suc k) name here = ap (λ n. take n (file ∷ files)) next ∙ ap (λ xs. file ∷ xs) (take_next files k name here)
  where
    next : suc k + 1 ≡ suc (k + 1)
    next = omega arith

pub next_read : (files : List (List ℕ)) (k : ℕ) (name : List ℕ) (a b c : Use) → slice_get files k ≡ Some name → AreReadIn (take k files) a b → AreReadIn (name ∷ []) b c → AreReadIn (take (k + 1) files) a c
next_read files k name a b c here before next = subst (λ xs. AreReadIn xs a c) (sym (take_next files k name here)) (one_more_read (take k files) name a b c before next)

stopped_at : (told : Told) (faults now size : ℕ) (files : List (List ℕ)) (k : ℕ) (name : List ℕ) (a b c : Use) (e : LoadError) → slice_get files k ≡ Some name → AreReadIn (take k files) a b →
    IsStoppedAt told faults now k size name e → IsReadFor name b c e → AreReadUntil files a c e
stopped_at told faults now size files k name a b c (Fault n) here before at read =
    (name, subst (λ m. slice_get files m ≡ Some name) (sym at.0) here, subst (λ m. IsFaultAfter (take m files) name a c) (sym at.0) (one_more_fault (take k files) name a b c before read))
stopped_at told faults now size files k name a b c (TooLong n) here before at read = subst (λ m. AreReadIn (take (m + 1) files) a c) (sym at.0) (next_read files k name a b c here before read)
stopped_at told faults now size files k name a b c (Refused n why) here before at read = subst (λ m. AreReadIn (take (m + 1) files) a c) (sym at.0) (next_read files k name a b c here before read)
stopped_at told faults now size files k name a b c NoMemory here before at read = (k + 1, next_read files k name a b c here before read)

-- an answer that the next file stops the load
pub stops_reading : {X : Type 0} (told : Told) (faults now size : ℕ) (files : List (List ℕ)) (number k : ℕ) (name : List ℕ) (a b c : Use) (r : Result X LoadError) → number ≡ k → slice_get files k ≡ Some name → AreReadIn (take k files) a b →
    IfErr r (λ e. IsStoppedAt told faults now number size name e) → IfErr r (λ e. IsReadFor name b c e) → IfErr r (λ e. AreReadUntil files a c e)
stops_reading told faults now size files number k name a b c (Ok x) is here before at read = tt
stops_reading told faults now size files number k name a b c (Err e) is here before at read =
    stopped_at told faults now size files k name a b c e here before (subst (λ n. IsStoppedAt told faults now n size name e) is at) read

-- want of memory stops it after any file
pub memory_stops_reading : {X : Type 0} (files : List (List ℕ)) (n : ℕ) (a b : Use) (r : Result X LoadError) → AreReadIn (take n files) a b → IfErr r (λ e. e ≡ NoMemory) → IfErr r (λ e. AreReadUntil files a b e)
memory_stops_reading files n a b (Ok x) read h = tt
memory_stops_reading files n a b (Err e) read h = subst (λ e. AreReadUntil files a b e) (sym h) (n, read)
