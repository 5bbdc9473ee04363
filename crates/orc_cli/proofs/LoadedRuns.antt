-- The session of a program that was loaded.
use Rattle.std.proofs.Common.{◌≡◌, ℕ, List, length, map, Some, ◌∙◌, arith, None, Result, Ok, Err}
use Rattle.std.specs.Prelude.{slice_get, IfOk}
use Rattle.std.specs.List.{All}
use Rattle.std.proofs.lemmas.Option.{slice_get_within}
use Rattle.list_laws.proofs.Each.{all_unmapped}
use Rattle.orc_ids.specs.declared.ids.NameId.{NameId}
use Rattle.orc_names.specs.Numbers.{IsNumberOf, IsTable, KeepsNumbers}
use Rattle.orc_names.proofs.Places.{number-from_place}
use Rattle.session_model.specs.Meaning.{Meaning}
use Rattle.session_model.specs.declared.entry.Entry.{Entry}
use Rattle.session_units.specs.Units.{meaning_of}
use Rattle.session_units.specs.declared.unit.ObjectUnit.{ObjectUnit}
use Rattle.closure_laws.proofs.Declared.{row_below}
use Rattle.journal_text.specs.Journal.{AreKnown, text_of_history}
use Rattle.known_names.specs.Laws.{HasKnownNames}
use Rattle.command_line.specs.Words.{Request}
use Rattle.object_files.specs.Files.{AreNumbered, Told, distinct}
use Rattle.run_laws.specs.Ended.{Ended, IsRun}
use Rattle.run_laws.specs.declared.linked.Linked.{Linked}
use Rattle.run_answers.specs.Answered.{HasSession}
use Rattle.run_answers.specs.Sessions.{AreOfWords, IsAnswerOf, IsFileOf, IsWordOf}
use Rattle.answers.specs.declared.answer.Answer.{Answer}
use Rattle.run_answers.proofs.Words.{of_all_words, plain_units}
use Rattle.known_names.proofs.LoadedUnits.{loaded_known}
use Rattle.orc_cli.specs.Loading.{AreShared, IsLoaded}
use Rattle.orc_cli.specs.declared.loading.Loaded.{Loaded}
use Rattle.orc_cli.specs.declared.running.Found.{Found}
use Rattle.orc_cli.proofs.RunNames.{run_is_known}

-- a text that stood in a table has its number in a later one
pub later_number : (old new : List (List ℕ)) (text : List ℕ) (n : ℕ) → KeepsNumbers old new → IsTable new → slice_get old n ≡ Some text → IsNumberOf new text n
later_number old new text n keeps table there = number-from_place new text n table.distinct (keeps n text there)

-- the number of a word is that of its file
pub word_file : (words : List (List ℕ)) (files : List ℕ) (word file : ℕ) → AreNumbered (distinct words) words files → slice_get files word ≡ Some file → IsFileOf words word file
word_file words files word file numbered e =
    let below = slice_get_within files word file e in
    let name = row_below words word (omega (arith, below, numbered.all)) in
    (name.0, name.1, numbered.are word file e ∙ name.1)

pub of_words : (words : List (List ℕ)) (file_units : List Meaning) (files : List ℕ) (units : List Meaning) → AreNumbered (distinct words) words files → AreShared file_units files units → AreOfWords words file_units units
of_words words file_units files units numbered shared = record {
  count = shared.count ∙ numbered.all;
  each = λ word unit e.
      let below = slice_get_within units word unit e in
      let file = row_below files word (omega (arith, below, shared.count)) in
      (file.0, word_file words files word file.0 numbered file.1, shared.each word file.0 unit file.1 e);
}

-- a definition that was refused is that of a word
pub is_word : (jmax : ℕ) (main entry : NameId) (units : List Meaning) (h setup later : List (Entry Meaning)) (files : List ℕ) (end : Linked) → length units ≡ length files → Ended jmax main entry units h setup later end → IsWordOf files end
is_word jmax main entry units h setup later files end same (Ended.InDefinition k refused none) = let below = slice_get_within units k refused.unit refused.there in omega (arith, below, same)
is_word jmax main entry units h setup later files end same (Ended.InSetUp n st to at few none cause) = tt
is_word jmax main entry units h setup later files end same (Ended.InLookup st set_up stopped cause) = tt
is_word jmax main entry units h setup later files end same (Ended.NotThere before n c set_up calls looks is) = tt
is_word jmax main entry units h setup later files end same (Ended.NotReady before n c at i set_up calls looks is) = tt
is_word jmax main entry units h setup later files end same (Ended.IsReady before m n at address c copy i ranges set_up calls looks is image memory) = tt

module _ (told : Told) (run : Request) (l : Loaded) (loaded : IsLoaded told run l) where
  abbrev units : List Meaning
  units = map meaning_of l.program.units.items

  words_units : AreOfWords run.files loaded.file_units units
  words_units = of_words run.files loaded.file_units l.files.items units loaded.numbered loaded.shared

  -- no unit is an alias
  pub no_source : All (λ (u : ObjectUnit). (meaning_of u).source ≡ None) l.program.units.items
  no_source = all_unmapped (λ (m : Meaning). m.source ≡ None) meaning_of l.program.units.items (plain_units told run.files l.names loaded.file_units units loaded.loaded words_units)

  module _ (jmax : ℕ) (h : List (Entry Meaning)) (end : Linked) (is_run : IsRun jmax run.workers l.program.main l.program.entry (map meaning_of l.program.units.items) h end) where
    pub names_known : AreKnown l.names h
    names_known = run_is_known l.names jmax run.workers l.program.main l.program.entry units h end is_run loaded.main_is.given loaded.entry_is.given
        (of_all_words (HasKnownNames l.names) run.files loaded.file_units units words_units (loaded_known told (distinct run.files) l.names loaded.file_units loaded.loaded (omega (arith, loaded.main_is.given))))

    pub refused_word : IsWordOf l.files.items end
    refused_word = is_word jmax l.program.main l.program.entry units h is_run.setup is_run.later l.files.items end loaded.shared.count is_run.ended

    has_session : (answer : Answer) (output journal : List ℕ) → IsAnswerOf run h end answer output → journal ≡ text_of_history l.names h → HasSession jmax told run answer output journal
    has_session answer output journal answers text = record {
      names = l.names;
      history = h;
      end = end;
      session = record {
        file_units = loaded.file_units;
        loaded = loaded.loaded;
        units = units;
        of_words = words_units;
        main = l.program.main;
        main_is = loaded.main_is;
        entry = l.program.entry;
        entry_is = loaded.entry_is;
        is_run = is_run;
      };
      answers = answers;
      text = text;
    }

    pub concluded : {E : Type 0} (r : Result Found E) → IfOk r (λ f. f.journal ≡ text_of_history l.names h) → IfOk r (λ f. IsAnswerOf run h end f.answer f.output) → IfOk r (λ f. HasSession jmax told run f.answer f.output f.journal)
    concluded (Ok f) text answers = has_session f.answer f.output f.journal answers text
    concluded (Err e) text answers = tt
