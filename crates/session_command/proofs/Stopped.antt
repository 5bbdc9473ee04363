-- What is found where a script isn't loaded.
use Rattle.std.proofs.Common.{ℕ, ◌≡◌, inl, inr, List, [], length, map, Option, Result, Ok, Err, IfErr, ◌∙◌}
use Rattle.orc_ids.specs.declared.lookup.Outcome.{Outcome}
use Rattle.notifiers.specs.declared.notes.Noted.{Noted}
use Rattle.notifiers.specs.declared.notes.Noted.TheVariants.{Unfired}
use Rattle.object_files.specs.Files.{Told}
use Rattle.session_script.specs.declared.script.Script.{Script}
use Rattle.answers.specs.declared.answer.Answer.{Answer}
use Rattle.session_command.specs.Found as found
use Rattle.session_command.specs.Found.{IsFound, refused, unread, in_source, in_script, wanting}
use Rattle.session_command.specs.Reads.{IsSourceEndFor, IsSourceReadFor}
use Rattle.session_command.specs.Texts.{IsScriptOn, counted}
use Rattle.session_command.proofs.ReadingLemmas.{end_of_file, end_of_unasked, source_of_file}
use Rattle.session_command.specs.Loading.{HasStoppedAt, HasStoppedIn, in_files, unasked}
use Rattle.session_command.specs.declared.command.Loaded.{Loaded}

pub stopped_in_files : (left : Option (List ℕ)) (notes first read : ℕ) (told : Told) (before after : ℕ) (script : Script) (r : Result Loaded Answer) →
    IsScriptOn left notes script → IfErr r (HasStoppedAt told before after script) → IfErr r (HasStoppedIn left notes first read told before after)
stopped_in_files left notes first read told before after script (Ok loaded) on stopped = tt
stopped_in_files left notes first read told before after script (Err answer) on stopped = in_files script on stopped

pub silent_found : {N : Type 0} (heard : N → Option Outcome) (number : N → ℕ) (jmax workers : ℕ) (handed : List N) (left : Option (List ℕ)) (first read : ℕ) (told : Told) (before after : ℕ) (why answer : Answer) (output : List ℕ) (back : List (Noted N)) →
    HasStoppedIn left (counted (length handed)) first read told before after why → answer ≡ why → output ≡ [] → back ≡ map Unfired handed → IsFound heard number jmax workers handed left first read told before after answer output back
silent_found heard number jmax workers handed left first read told before after why answer output back (unasked (unread (inl p))) a o b = in_source p.0 (a ∙ p.1) o b
silent_found heard number jmax workers handed left first read told before after why answer output back (unasked (unread (inr e))) a o b = wanting (a ∙ e) o
silent_found heard number jmax workers handed left first read told before after why answer output back (unasked (refused line cause is e)) a o b = in_script line cause is (a ∙ e) o b
silent_found heard number jmax workers handed left first read told before after why answer output back (in_files script on s) a o b = found.in_files script s.error on s.stopped (a ∙ s.answers) o b

-- the source was read before a file that isn't taken in
pub source_of_script : (first read : ℕ) (told : Told) (before after : ℕ) (script : Script) (r : Result Loaded Answer) → read ≡ first → IfErr r (HasStoppedAt told before after script) → IfErr r (IsSourceReadFor first read)
source_of_script first read told before after script (Ok loaded) same stopped = tt
source_of_script first read told before after script (Err answer) same stopped = source_of_file first read answer stopped.error stopped.answers same

-- nothing is said of what is left of a source without a session
pub end_of_stopped : (left after : Option (List ℕ)) (notes first read : ℕ) (told : Told) (before now : ℕ) (answer : Answer) → HasStoppedIn left notes first read told before now answer → IsSourceEndFor after answer
end_of_stopped left after notes first read told before now answer (unasked u) = end_of_unasked left after notes first read answer u
end_of_stopped left after notes first read told before now answer (in_files script on s) = end_of_file after answer s.error s.answers
