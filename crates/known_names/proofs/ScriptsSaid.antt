-- The lines of a script say names of its table.
use Rattle.std.proofs.Common.{◌≡◌, ℕ, ◌+◌, Bool, true, false, if◌then◌else◌, List, [], ◌∷◌, ◌&&◌, not, length, All, inl, inr, refl, subst}
use Rattle.std.specs.Prelude.{Ok, Err, Result, codes, nat_le}
use Rattle.std.specs.List.{list_any}
use Rattle.std.specs.Str.{bytes_eq}
use Rattle.std.proofs.lemmas.Bool.{cases_Bool}
use Rattle.std.proofs.lemmas.List.Elements.{All-nil, All-push}
use Rattle.session_script.specs.declared.error.ScriptError.{ScriptError}
use Rattle.session_script.specs.declared.limits.TheConstants.{LINE_LIMIT, SIZE_LIMIT}
use Rattle.session_script.specs.declared.script.Script.{Script}
use Rattle.session_script.specs.Client.{client_word, call_line}
use Rattle.session_script.specs.Known.{Known, nothing_known, clients_of}
use Rattle.session_script.specs.Scripts.{worded_line, line_in, numbered_line, lines_from, script_of_known, finished}
use Rattle.session_script.specs.Setup.{setup_word, setup_line}
use Rattle.session_script.specs.Words.{space, parts, lines_of, text_of_line, is_skipped, is_barred, is_spaced}
use Rattle.session_script.proofs.Checks.{passed, good_line}
use Rattle.known_names.specs.Said.{KnownSetup, KnownCall, SaysItsNames}
use Rattle.known_names.specs.ScriptLaws.{ScriptSaysItsNames}
use Rattle.known_names.proofs.SaidSoFar.{SaysSoFar}
use Rattle.known_names.proofs.SetupSaid.{setup_line_said}
use Rattle.known_names.proofs.CallsSaid.{client_line_said, call_line_said}

-- a line of the setup, or of a client where one was begun
either_said : (k new : Known) (begun : Bool) (first : List ℕ) (operands : List (List ℕ)) → SaysSoFar k → (if begun then call_line k (client_word first) operands else setup_line k (setup_word first) operands) ≡ Ok new → SaysSoFar new
either_said k new true first operands said read = call_line_said k new (client_word first) operands said read
either_said k new false first operands said read = setup_line_said k new (setup_word first) operands said read

worded_said : (k new : Known) (words : List (List ℕ)) → SaysSoFar k → worded_line k words ≡ Ok new → SaysSoFar new
worded_said k new [] said read = absurd cc
worded_said k new (first ∷ operands) said read = elim (cases_Bool (bytes_eq first (codes "client"))) [
  | inl t ↦ client_line_said k new operands said (rw t at read)
  | inr f ↦ either_said k new k.begun first operands said (rw f at read)
]

line_said : (k new : Known) (text : List ℕ) → SaysSoFar k → line_in k text ≡ Ok new → SaysSoFar new
line_said k new text said read = elim (cases_Bool (is_skipped text)) [
  | inl t ↦
      let same : k ≡ new = cc (rw t at read) in
      subst SaysSoFar same said
  | inr f ↦
      let spaced = passed (not (list_any is_barred text) && is_spaced (parts space text)) _ _ new (rw f at read) in
      worded_said k new (parts space text) said spaced.1
]

numbered_said : (k new : Known) (number size : ℕ) (text : List ℕ) → SaysSoFar k → numbered_line k number size text ≡ Ok new → SaysSoFar new
numbered_said k new number size text said read =
    let room = passed (nat_le number LINE_LIMIT && nat_le size SIZE_LIMIT) _ _ new read in
    line_said k new text said room.1

lines_said : (k last : Known) (number size : ℕ) (lines : List (List ℕ)) → SaysSoFar k → lines_from k number size lines ≡ Ok last → SaysSoFar last
lines_said k last number size [] said read =
    let same : k ≡ last = cc in
    subst SaysSoFar same said
lines_said k last number size (line ∷ lines) said read =
    let first = good_line (number + 1) (numbered_line k (number + 1) (size + length line) (text_of_line line)) _ last read in
    lines_said first.0 last (number + 1) (size + length line) lines
    (numbered_said k first.0 (number + 1) (size + length line) (text_of_line line) said first.1) first.2

nothing_said : (notes : ℕ) → SaysSoFar (nothing_known notes)
nothing_said notes = record {
  setup = All-nil (KnownSetup []);
  earlier = All-nil (All (KnownCall []));
  current = All-nil (KnownCall []);
  dylibs = λ some. some;
  files = λ some. some;
}

clients_said : (k : Known) → SaysSoFar k → All (All (KnownCall k.names)) (clients_of k)
clients_said k said = elim (cases_Bool k.begun) [
  | inl t ↦ rw t (All-push (All (KnownCall k.names)) k.earlier k.current said.earlier said.current)
  | inr f ↦ rw f (All-nil (All (KnownCall k.names)))
]

script_said : (k : Known) → SaysSoFar k → SaysItsNames (script_of_known k)
script_said k said = record { setup = said.setup; clients = clients_said k said; named = said.files }

finished_said : (read : Result Known ScriptError) (script : Script) → ((k : Known) → read ≡ Ok k → SaysSoFar k) → finished read ≡ Ok script → SaysItsNames script
finished_said (Ok k) script said done =
    let made : script_of_known k ≡ script = cc done in
    subst SaysItsNames made (script_said k (said k refl))
finished_said (Err error) script said done = absurd cc

pub says_its_names : ScriptSaysItsNames
says_its_names notes bytes script read = finished_said (lines_from (nothing_known notes) 0 0 (lines_of bytes)) script (λ k. lines_said (nothing_known notes) k 0 0 (lines_of bytes) (nothing_said notes)) read
