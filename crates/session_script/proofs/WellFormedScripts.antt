-- A script that was read is well formed.
use Rattle.std.proofs.Common.{◌≡◌, ℕ, ◌+◌, ◌≤◌, Bool, true, false, if◌then◌else◌, List, [], ◌∷◌, ◌&&◌, not, length, inl, inr, refl, sym, ◌∙◌, ap, subst, arith, length-take}
use Rattle.std.specs.Prelude.{Ok, Err, Result, nat_le}
use Rattle.std.specs.List.{list_any, position_or_len, range_with_len}
use Rattle.std.specs.Str.{bytes_eq}
use Rattle.std.specs.Prelude.{codes}
use Rattle.std.proofs.lemmas.Bool.{cases_Bool, and_parts, leb-true}
use Rattle.std.proofs.lemmas.List.Elements.{All-nil}
use Rattle.std.proofs.lemmas.List.FromFn.{length-range_with_len}
use Rattle.session_script.specs.declared.error.ScriptError.{ScriptError}
use Rattle.session_script.specs.declared.limits.TheConstants.{LINE_LIMIT, SIZE_LIMIT}
use Rattle.session_script.specs.declared.script.Script.{Script}
use Rattle.session_script.specs.declared.script.SetupLine.TheVariants as setup
use Rattle.session_script.specs.Client.{client_word, call_line}
use Rattle.session_script.specs.Known.{Known, nothing_known, clients_of}
use Rattle.session_script.specs.Scripts.{worded_line, line_in, numbered_line, lines_from, script_of_known, finished, script_of}
use Rattle.session_script.specs.Setup.{setup_word, setup_line}
use Rattle.session_script.specs.Texts.{has}
use Rattle.session_script.specs.WellFormed.{IsSetupLine, IsWellFormed, notes_of}
use Rattle.session_script.specs.Words.{is_byte, newline, space, parts, lines_of, text_of_line, is_skipped, is_barred, is_spaced}
use Rattle.session_script.proofs.CallsKept.{client_kept, call_kept}
use Rattle.session_script.proofs.Checks.{passed, good_line}
use Rattle.session_script.proofs.DylibsKept.{dylibs_differ, dylibs_few}
use Rattle.session_script.proofs.ScriptSoFar.{IsGoodSoFar}
use Rattle.session_script.proofs.SetupKept.{setup_kept}
use Rattle.session_script.proofs.WordSizes.{size_of, size_of_words}

-- a line of the setup, or of a client where one was begun
either_kept : (notes : ℕ) (k new : Known) (begun : Bool) (first : List ℕ) (operands : List (List ℕ)) → size_of operands ≤ SIZE_LIMIT → k.begun ≡ begun → IsGoodSoFar notes k → (if begun then call_line k (client_word first) operands else setup_line k (setup_word first) operands) ≡ Ok new → IsGoodSoFar notes new
either_kept notes k new true first operands size begun good read = call_kept notes k new (client_word first) operands begun good read
either_kept notes k new false first operands size begun good read = setup_kept notes k new (setup_word first) operands size good read

worded_kept : (notes : ℕ) (k new : Known) (words : List (List ℕ)) → size_of words ≤ SIZE_LIMIT + 1 → IsGoodSoFar notes k → worded_line k words ≡ Ok new → IsGoodSoFar notes new
worded_kept notes k new [] size good read = absurd cc
worded_kept notes k new (first ∷ operands) size good read = elim (cases_Bool (bytes_eq first (codes "client"))) [
  | inl t ↦ client_kept notes k new operands good (rw t at read)
  | inr f ↦ either_kept notes k new k.begun first operands (omega arith) refl good (rw f at read)
]

line_kept : (notes : ℕ) (k new : Known) (text : List ℕ) → length text ≤ SIZE_LIMIT → IsGoodSoFar notes k → line_in k text ≡ Ok new → IsGoodSoFar notes new
line_kept notes k new text size good read = elim (cases_Bool (is_skipped text)) [
  | inl t ↦
      let same : k ≡ new = cc (rw t at read) in
      subst (IsGoodSoFar notes) same good
  | inr f ↦
      let spaced = passed (not (list_any is_barred text) && is_spaced (parts space text)) _ _ new (rw f at read) in
      worded_kept notes k new (parts space text) (omega (arith, size_of_words space text)) good spaced.1
]

numbered_kept : (notes : ℕ) (k new : Known) (number size : ℕ) (text : List ℕ) → length text ≤ size → IsGoodSoFar notes k → numbered_line k number size text ≡ Ok new → IsGoodSoFar notes new
numbered_kept notes k new number size text within good read =
    let room = passed (nat_le number LINE_LIMIT && nat_le size SIZE_LIMIT) _ _ new read in
    let few = and_parts (nat_le number LINE_LIMIT) (nat_le size SIZE_LIMIT) room.0 in
    line_kept notes k new text (omega (arith, leb-true size SIZE_LIMIT few.1)) good room.1

lines_kept : (notes : ℕ) (k last : Known) (number size : ℕ) (lines : List (List ℕ)) → IsGoodSoFar notes k → lines_from k number size lines ≡ Ok last → IsGoodSoFar notes last
lines_kept notes k last number size [] good read =
    let same : k ≡ last = cc in
    subst (IsGoodSoFar notes) same good
lines_kept notes k last number size (line ∷ lines) good read =
    let first = good_line (number + 1) (numbered_line k (number + 1) (size + length line) (text_of_line line)) _ last read in
    let within : length (text_of_line line) ≤ size + length line = omega (arith, length-take (position_or_len (is_byte newline) line) line) in
    lines_kept notes first.0 last (number + 1) (size + length line) lines
    (numbered_kept notes k first.0 (number + 1) (size + length line) (text_of_line line) within good first.1) first.2

nothing_good : (notes : ℕ) → IsGoodSoFar notes (nothing_known notes)
nothing_good notes = record {
  setup = All-nil (IsSetupLine 0);
  dylibs = record {
    numbers = refl;
    there = All-nil (λ d. has d [] ≡ true);
    differ = λ i j d less below. absurd (omega arith);
    few = omega arith;
    sources = λ k line at. absurd cc;
  };
  clients = record {
    lines = λ k d less. absurd (omega arith);
    few = omega arith;
    watched = refl;
    enough = omega arith;
  };
  noted = refl;
  unbegun = λ _. refl;
}

good_script : (notes : ℕ) (k : Known) → IsGoodSoFar notes k → IsWellFormed notes (script_of_known k)
good_script notes k good =
    let count : length (notes_of (clients_of k)) ≡ k.watches = ap length good.clients.watched ∙ length-range_with_len 0 k.watches in
    record {
      setup = good.setup;
      dylibs = dylibs_differ k.names k.dylibs k.setup good.dylibs;
      few_dylibs = dylibs_few k.names k.dylibs k.setup good.dylibs;
      sources = λ at alias. good.dylibs.sources at (setup.Alias alias);
      clients = good.clients.lines;
      few_clients = good.clients.few;
      watches = good.clients.watched ∙ ap (range_with_len 0) (sym count);
      few_watches = omega (arith, count, good.clients.enough, good.noted);
    }

finished_good : (notes : ℕ) (read : Result Known ScriptError) (script : Script) → ((k : Known) → read ≡ Ok k → IsGoodSoFar notes k) → finished read ≡ Ok script → IsWellFormed notes script
finished_good notes (Ok k) script good done =
    let made : script_of_known k ≡ script = cc done in
    subst (IsWellFormed notes) made (good_script notes k (good k refl))
finished_good notes (Err error) script good done = absurd cc

pub well_formed : (notes : ℕ) (bytes : List ℕ) (script : Script) → script_of notes bytes ≡ Ok script → IsWellFormed notes script
well_formed notes bytes script read = finished_good notes (lines_from (nothing_known notes) 0 0 (lines_of bytes)) script (λ k. lines_kept notes (nothing_known notes) k 0 0 (lines_of bytes) (nothing_good notes)) read
