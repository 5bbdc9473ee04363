-- What is asked for is within the limits.
use Rattle.std.proofs.Common.{◌≡◌, ℕ, ◌≤◌, ◌^◌, true, List, ◌∷◌, [], length, Option, Some, None, Ok, Err, Result, refl, inl, inr, subst, codes, arith, IfOk}
use Rattle.std.proofs.lemmas.Bool.{cases_Bool}
use Rattle.std.proofs.lemmas.Bool.Decides.{nat_tests}
use Rattle.command_line.specs.declared.error.CommandError.{CommandError}
use Rattle.command_line.specs.declared.error.UsageKind.TheVariants.{BadWords}
use Rattle.command_line.specs.declared.command.Command.{Command}
use Rattle.command_line.specs.declared.name.CommandName.{CommandName}
use Rattle.command_line.specs.declared.name.CommandName.TheVariants as by_name
use Rattle.command_line.specs.Numbers.{at_most, from_one, number_of, number_or}
use Rattle.clap.specs.Words.{Row, first_of}
use Rattle.command_line.specs.Words.{Asked, Run, Session, Assembly, Generation, KeepsLimits, assembly_app, assembly_by, assembly_of, assembly_with, asked_of, command_named, command_of, entry_in, files_in, fits_run, fuel_in, generation_app, generation_by, generation_from, generation_of, generation_with, is_up_to, matched, named_command, objects_of, own_command, run_app, run_by, run_of, run_with, session_app, session_by, session_of, session_with, workers_in}

at_most_is_small : (most n : ℕ) (number : Option ℕ) → at_most most number ≡ Some n → n ≤ most
at_most_is_small most n (Some m) h = grind (arith, nat_tests)
at_most_is_small most n None h = absurd cc

number_is_small : (usual most n : ℕ) (value : Option (List ℕ)) → usual ≤ most → number_or usual most value ≡ Some n → n ≤ most
number_is_small usual most n (Some text) small h = at_most_is_small most n (number_of text) h
number_is_small usual most n None small h = grind arith

fuel_is_small : (rows : List Row) (n : ℕ) → fuel_in rows ≡ Some n → n ≤ 2 ^ 40
fuel_is_small rows n h = number_is_small 1000000 (2 ^ 40) n (first_of (codes "fuel") rows) (omega arith) h

workers_are_few : (rows : List Row) (n : ℕ) → workers_in rows ≡ Some n → n ≤ 16
workers_are_few rows n h = number_is_small 0 16 n (first_of (codes "workers") rows) (omega arith) h

run_with_within : (files : List (List ℕ)) (entry : List ℕ) (fuel workers : Option ℕ) (asked : Asked) → is_up_to 1024 (length files) ≡ true → is_up_to 4096 (length entry) ≡ true →
    ((n : ℕ) → fuel ≡ Some n → n ≤ 2 ^ 40) → ((n : ℕ) → workers ≡ Some n → n ≤ 16) → run_with files entry fuel workers ≡ Ok asked → KeepsLimits asked
run_with_within files entry (Some fuel) (Some workers) asked some_files some_name small few h =
    let run : Asked = Run (record { files = files; entry = entry; fuel = fuel; workers = workers }) in
    let same : run ≡ asked = cc in
    subst KeepsLimits same (record {
      some_file = grind (arith, nat_tests);
      few_files = grind (arith, nat_tests);
      some_name = grind (arith, nat_tests);
      short_name = grind (arith, nat_tests);
      fuel = small fuel refl;
      workers = few workers refl;
    })
run_with_within files entry (Some fuel) None asked _ _ _ _ h = absurd cc
run_with_within files entry None workers asked _ _ _ _ h = absurd cc

session_with_within : (workers : Option ℕ) (asked : Asked) → ((n : ℕ) → workers ≡ Some n → n ≤ 16) → session_with workers ≡ Ok asked → KeepsLimits asked
session_with_within (Some workers) asked few h = let same : Session workers ≡ asked = cc in subst KeepsLimits same (few workers refl)
session_with_within None asked few h = absurd cc

run_by_within : (rows : Option (List Row)) (asked : Asked) → run_by rows ≡ Ok asked → KeepsLimits asked
run_by_within (Some rows) asked h = elim (cases_Bool (fits_run (files_in rows) (entry_in rows))) [
  | inl fits ↦ run_with_within (files_in rows) (entry_in rows) (fuel_in rows) (workers_in rows) asked (grind arith) (grind arith) (fuel_is_small rows) (workers_are_few rows) (rw fits at h)
  | inr other ↦ absurd (let bad : Err BadWords ≡ Ok asked = rw other at h in cc)
]
run_by_within None asked h = absurd cc

session_by_within : (rows : Option (List Row)) (asked : Asked) → session_by rows ≡ Ok asked → KeepsLimits asked
session_by_within (Some rows) asked h = session_with_within (workers_in rows) asked (workers_are_few rows) h
session_by_within None asked h = absurd cc

assembly_with_within : (file : Option (List ℕ)) (asked : Asked) → assembly_with file ≡ Ok asked → KeepsLimits asked
assembly_with_within (Some file) asked h = let same : Assembly file ≡ asked = cc in subst KeepsLimits same tt
assembly_with_within None asked h = absurd cc

assembly_by_within : (rows : Option (List Row)) (asked : Asked) → assembly_by rows ≡ Ok asked → KeepsLimits asked
assembly_by_within (Some rows) asked h = assembly_with_within (first_of (codes "file") rows) asked h
assembly_by_within None asked h = absurd cc

from_one_within : (most n : ℕ) (number : Option ℕ) → from_one (at_most most number) ≡ Some n → (1 ≤ n) × (n ≤ most)
from_one_within most n (Some m) h = grind (arith, nat_tests)
from_one_within most n None h = absurd cc

generation_with_within : (objects : Option ℕ) (asked : Asked) → ((n : ℕ) → objects ≡ Some n → (1 ≤ n) × (n ≤ 4096)) → generation_with objects ≡ Ok asked → KeepsLimits asked
generation_with_within (Some objects) asked fits h = let same : Generation objects ≡ asked = cc in subst KeepsLimits same (fits objects refl)
generation_with_within None asked fits h = absurd cc

generation_from_within : (text : Option (List ℕ)) (asked : Asked) → generation_from text ≡ Ok asked → KeepsLimits asked
generation_from_within (Some text) asked h = generation_with_within (objects_of text) asked (λ n. from_one_within 4096 n (number_of text)) h
generation_from_within None asked h = absurd cc

generation_by_within : (rows : Option (List Row)) (asked : Asked) → generation_by rows ≡ Ok asked → KeepsLimits asked
generation_by_within (Some rows) asked h = generation_from_within (first_of (codes "objects") rows) asked h
generation_by_within None asked h = absurd cc

run_within : (words : List (List ℕ)) (asked : Asked) → run_of words ≡ Ok asked → KeepsLimits asked
run_within words asked h = run_by_within (matched run_app words) asked h

session_within : (words : List (List ℕ)) (asked : Asked) → session_of words ≡ Ok asked → KeepsLimits asked
session_within words asked h = session_by_within (matched session_app words) asked h

assembly_within : (words : List (List ℕ)) (asked : Asked) → assembly_of words ≡ Ok asked → KeepsLimits asked
assembly_within words asked h = assembly_by_within (matched assembly_app words) asked h

generation_within : (words : List (List ℕ)) (asked : Asked) → generation_of words ≡ Ok asked → KeepsLimits asked
generation_within words asked h = generation_by_within (matched generation_app words) asked h

named_within : (name : Option CommandName) (words : List (List ℕ)) (asked : Asked) → named_command name words ≡ Ok asked → KeepsLimits asked
named_within (Some by_name.Run) words asked h = run_within words asked h
named_within (Some by_name.Session) words asked h = session_within words asked h
named_within (Some by_name.As) words asked h = assembly_within words asked h
named_within (Some by_name.Gen) words asked h = generation_within words asked h
named_within None words asked h = absurd cc

own_within : (words : List (List ℕ)) (asked : Asked) → own_command words ≡ Ok asked → KeepsLimits asked
own_within [] asked h = absurd cc
own_within (name ∷ words) asked h = named_within (command_named name) (name ∷ words) asked h

-- What a command line asks for is within the limits.
pub command_within : (words : List (List ℕ)) (asked : Asked) → command_of words ≡ Ok asked → KeepsLimits asked
command_within [] asked h = absurd cc
command_within (_ ∷ words) asked h = own_within words asked h

-- What is read of a command's words is within the limits.
pub run_answer_within : (words : List (List ℕ)) (answer : Result Command CommandError) → IfOk answer (λ command. run_of words ≡ Ok (asked_of command)) → IfOk answer (λ command. KeepsLimits (asked_of command))
run_answer_within words (Ok command) read = run_within words (asked_of command) read
run_answer_within words (Err e) read = tt

pub session_answer_within : (words : List (List ℕ)) (answer : Result Command CommandError) → IfOk answer (λ command. session_of words ≡ Ok (asked_of command)) → IfOk answer (λ command. KeepsLimits (asked_of command))
session_answer_within words (Ok command) read = session_within words (asked_of command) read
session_answer_within words (Err e) read = tt

pub assembly_answer_within : (words : List (List ℕ)) (answer : Result Command CommandError) → IfOk answer (λ command. assembly_of words ≡ Ok (asked_of command)) → IfOk answer (λ command. KeepsLimits (asked_of command))
assembly_answer_within words (Ok command) read = assembly_within words (asked_of command) read
assembly_answer_within words (Err e) read = tt

pub generation_answer_within : (words : List (List ℕ)) (answer : Result Command CommandError) → IfOk answer (λ command. generation_of words ≡ Ok (asked_of command)) → IfOk answer (λ command. KeepsLimits (asked_of command))
generation_answer_within words (Ok command) read = generation_within words (asked_of command) read
generation_answer_within words (Err e) read = tt
