-- What the session of a script that was loaded is.
use Rattle.std.proofs.Common.{◌≡◌, ◌≢◌, ℕ, ◌+◌, ◌++◌, List, length, map, Option, Result, Ok, Err, IfOk, sym, subst, ap, ◌∙◌}
use Rattle.orc_ids.specs.declared.lookup.Outcome.{Outcome}
use Rattle.orc_ids.specs.declared.lookup.Wanted.{Wanted}
use Rattle.session_model.specs.Meaning.{Meaning}
use Rattle.session_model.specs.State.{plain_history}
use Rattle.session_model.specs.declared.entry.Entry.{Entry}
use Rattle.journal_text.specs.Journal.{AreKnown, text_of_history}
use Rattle.result_text.specs.Known.{AreKnownEnds}
use Rattle.result_text.specs.Results.{text_of_ends}
use Rattle.object_files.specs.Files.{Told}
use Rattle.notifiers.specs.Heard.{AllHaveHeard, AreInOrder}
use Rattle.notifiers.specs.declared.notes.Noted.{Noted}
use Rattle.session_script.specs.declared.script.ClientLine.{ClientLine}
use Rattle.session_script.specs.declared.script.Script.{Script}
use Rattle.session_units.specs.Units.{meaning_of}
use Rattle.session_units.specs.declared.unit.ObjectUnit.{ObjectUnit}
use Rattle.script_model.specs.Plans.{script_of}
use Rattle.script_model.specs.declared.calls.Plan.{Plan}
use Rattle.script_model.specs.Scripts.{IsScriptRun}
use Rattle.script_model.specs.declared.line_end.LineEnd.{LineEnd}
use Rattle.script_model.specs.declared.line_end.ScriptEnd.{ScriptEnd}
use Rattle.script_plan.specs.Asked.{asked_script}
use Rattle.script_session.specs.Leaving.{AreNotified}
use Rattle.script_session.specs.declared.session.Notified.{Notified}
use Rattle.answers.specs.declared.answer.Answer.{Answer}
use Rattle.answers.specs.declared.answer.Answer.TheVariants.{NoMemory}
use Rattle.session_command.specs.Ends.{session_answer}
use Rattle.session_command.specs.Found.{HasSession}
use Rattle.session_command.specs.Texts.{IsSession, counted, wanted_by, wanted_by_all}
use Rattle.session_command.proofs.NamedSessions.{session_names_known}
use Rattle.session_command.specs.Loading.{IsLoaded}
use Rattle.session_command.specs.Places.{ArePut}
use Rattle.session_command.specs.declared.command.Loaded.{Loaded}
use Rattle.session_command.specs.declared.command.SessionFound.{SessionFound}
use Rattle.session_command.proofs.AllTold.{all_were_told, were_told}
use Rattle.session_command.proofs.Placing.{are_back}

module _ {N : Type 0} (heard : N → Option Outcome) (number : N → ℕ) (jmax workers : ℕ) (handed : List N) (loaded : Loaded) (plan : Plan ObjectUnit N) (journal : List (Entry ObjectUnit)) (end : ScriptEnd) (notified : Notified N) where
  abbrev pub History : List (Entry Meaning)
  History = plain_history meaning_of journal

  abbrev pub Ends : List (List LineEnd)
  Ends = map (λ c. c.items) end.clients.items

  -- what was found of the session that was run
  pub record WasRun (wanted : List (List (List Wanted))) (answer : Answer) (output : List ℕ) (back : List (Noted N)) : Type 0 where
    pub asked : script_of meaning_of plan ≡ asked_script (map meaning_of loaded.units.items) loaded.script
    pub run : IsScriptRun jmax workers (script_of meaning_of plan) end.set_up Ends History
    pub notified_are : AreNotified heard number (length plan.clients.items + workers) History notified
    pub wanted_are : wanted ≡ map (map wanted_by) loaded.script.clients
    pub answers : answer ≡ session_answer History end.set_up Ends
    pub text : output ≡ text_of_history loaded.script.names History ++ text_of_ends loaded.script.names wanted Ends
    pub put : ArePut heard (length handed) notified.told.items back
    pub all : answer ≢ NoMemory → length back ≡ length handed
    pub in_order : length back ≡ length handed → AreInOrder number back

  -- the plan is the script's, and this is the history of its run
  abbrev WasAsked : Type 0
  WasAsked = script_of meaning_of plan ≡ asked_script (map meaning_of loaded.units.items) loaded.script

  abbrev HasRun : Type 0
  HasRun = IsScriptRun jmax workers (script_of meaning_of plan) end.set_up Ends History

  is_session : (left : Option (List ℕ)) (told : Told) (is : IsLoaded left (counted (length handed)) told loaded) → WasAsked → HasRun → IsSession jmax workers told is.asked loaded.script.names History end.set_up Ends
  is_session left told is asked run = record {
    units = map meaning_of loaded.units.items;
    loaded = is.has.units;
    named = is.has.named;
    run = subst (λ s. IsScriptRun jmax workers s end.set_up Ends History) (subst (λ (s : Script). script_of meaning_of plan ≡ asked_script (map meaning_of loaded.units.items) s) is.has.script asked) run;
  }

  wanted_as_asked : (left : Option (List ℕ)) (told : Told) (is : IsLoaded left (counted (length handed)) told loaded) → map (map wanted_by) loaded.script.clients ≡ wanted_by_all is.asked
  wanted_as_asked left told is = ap (λ (s : Script). map (map wanted_by) s.clients) is.has.script

  module _ (left : Option (List ℕ)) (told : Told) (is : IsLoaded left (counted (length handed)) told loaded) (asked : WasAsked) (run : HasRun) where
    known : AreKnown loaded.script.names History × AreKnownEnds loaded.script.names (wanted_by_all is.asked) Ends
    known = session_names_known jmax workers (counted (length handed)) is.is.bytes told is.asked loaded.script.names History end.set_up Ends is.is.is (is_session left told is asked run)

    -- the names of the journal, and those of the lines and their ends, are names of the table
    pub journal_known : (entries : List (Entry ObjectUnit)) → entries ≡ journal → AreKnown loaded.script.names (plain_history meaning_of entries)
    journal_known entries same = subst (λ es. AreKnown loaded.script.names (plain_history meaning_of es)) (sym same) known.0

    pub ends_known : (wanted : List (List (List Wanted))) (clients : List (List ClientLine)) (ends : List (List LineEnd)) → wanted ≡ map (map wanted_by) clients → clients ≡ loaded.script.clients → ends ≡ Ends → AreKnownEnds loaded.script.names wanted ends
    ends_known wanted clients ends wanted_are clients_are ends_are =
        subst (λ w. AreKnownEnds loaded.script.names w ends) (sym (wanted_are ∙ (ap (map (map wanted_by)) clients_are ∙ wanted_as_asked left told is)))
        (subst (λ e. AreKnownEnds loaded.script.names (wanted_by_all is.asked) e) (sym ends_are) known.1)

  has_session : (left : Option (List ℕ)) (told : Told) → IsLoaded left (counted (length handed)) told loaded → (wanted : List (List (List Wanted))) (answer : Answer) (output : List ℕ) (back : List (Noted N)) →
      WasRun wanted answer output back → HasSession heard number jmax workers handed left told answer output back
  has_session left told is wanted answer output back w = record {
    script = is.asked;
    asked = is.is;
    names = loaded.script.names;
    history = History;
    stopped = end.set_up;
    ends = Ends;
    session = is_session left told is w.asked w.run;
    answers = w.answers;
    text = w.text ∙ ap (λ l. text_of_history loaded.script.names History ++ text_of_ends loaded.script.names l Ends) (w.wanted_are ∙ wanted_as_asked left told is);
    notes = λ quiet. are_back heard number History (length handed) notified.told.items back w.put
        (were_told meaning_of heard number jmax workers plan end.set_up Ends History w.run notified w.notified_are)
        (all_were_told meaning_of heard number jmax workers plan end.set_up Ends History w.run notified w.notified_are)
        (w.all quiet) (w.in_order (w.all quiet));
  }

  pub session_found : {E : Type 0} (r : Result (SessionFound N) E) (wanted : List (List (List Wanted))) (answer : Answer) (output : List ℕ) (back : List (Noted N)) →
      IfOk r (λ f. f.answer ≡ answer) → IfOk r (λ f. f.output ≡ output) → IfOk r (λ f. f.notes ≡ back) → IfOk r (λ f. answer ≢ NoMemory → length back ≡ length handed) →
      ((answer ≢ NoMemory → length back ≡ length handed) → WasRun wanted answer output back) →
      (left : Option (List ℕ)) (told : Told) → IsLoaded left (counted (length handed)) told loaded → IfOk r (λ f. HasSession heard number jmax workers handed left told f.answer f.output f.notes)
  session_found (Ok f) wanted answer output back a o n all w left told is =
      let s = has_session left told is wanted answer output back (w all) in
      subst (λ x. HasSession heard number jmax workers handed left told x f.output f.notes) (sym a)
      (subst (λ x. HasSession heard number jmax workers handed left told answer x f.notes) (sym o) (subst (λ x. HasSession heard number jmax workers handed left told answer output x) (sym n) s))
  session_found (Err e) wanted answer output back a o n all w left told is = tt

-- what came back has heard what it says
pub heard_kept : {N E : Type 0} (heard : N → Option Outcome) (r : Result (SessionFound N) E) (back : List (Noted N)) → IfOk r (λ f. f.notes ≡ back) → AllHaveHeard heard back → IfOk r (λ f. AllHaveHeard heard f.notes)
heard_kept heard (Ok f) back is all = subst (AllHaveHeard heard) (sym is) all
heard_kept heard (Err e) back is all = tt
