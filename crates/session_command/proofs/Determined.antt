-- What source and files hold determines what is found, where they tell it and nothing fails.
use Rattle.std.proofs.Common.{◌≡◌, ℕ, ◌+◌, ◌⊎◌, inl, inr, List, length, take, Option, Some, Ok, Err, refl, sym, ◌∙◌, ap, subst}
use Rattle.orc_ids.specs.declared.lookup.Outcome.{Outcome}
use Rattle.session_model.specs.Meaning.{Meaning}
use Rattle.object_files.specs.Files.{AreLoaded, HasStopped}
use Rattle.object_files.specs.declared.error.LoadError.{LoadError}
use Rattle.session_script.specs.Scripts.{script_of}
use Rattle.session_script.specs.declared.error.ScriptError.TheVariants.{BadLine}
use Rattle.session_script.specs.declared.error.ScriptWhy.{ScriptWhy}
use Rattle.session_script.specs.declared.limits.TheConstants.{SIZE_LIMIT}
use Rattle.session_script.specs.declared.script.Script.{Script}
use Rattle.answers.specs.Files.{IsOfContents, file_answer}
use Rattle.answers.specs.declared.answer.Answer.{Answer}
use Rattle.answers.specs.declared.answer.Answer.TheVariants.{ScriptRefused}
use Rattle.answers.proofs.Stops.{file_cases, loaded_never_stops, stops_so}
use Rattle.session_command.specs.Clauses.{Call, Finds, HasFault, HasReadFault, IsAsked, IsOfSession}
use Rattle.session_command.specs.Found.{IsRefusedOn, in_source, in_script, in_files, in_session, wanting}
use Rattle.session_command.specs.Texts.{AreRead, counted}
use Rattle.session_command.proofs.Causes.{session_as}

module _ {N : Type 0} (heard : N → Option Outcome) (number : N → ℕ) (jmax : ℕ) (c : Call N) (bytes : List ℕ) (told : c.source_before.bytes ≡ Some bytes) where
  -- what is read of the source
  abbrev Read : List ℕ
  Read = take (SIZE_LIMIT + 1) bytes

  read_so : (read : List ℕ) → AreRead c.source_before.bytes read → read ≡ Read
  read_so read are = subst (λ left. AreRead left read) told are

  script_so : (script : Script) → IsAsked c script → script_of (counted (length c.handed)) Read ≡ Ok script
  script_so script on = subst (λ text. script_of (counted (length c.handed)) text ≡ Ok script) (read_so on.bytes on.read) on.is

  refused_so : (line : ℕ) (why : ScriptWhy) → IsRefusedOn c.source_before.bytes (counted (length c.handed)) line why → script_of (counted (length c.handed)) Read ≡ Err (BadLine line why)
  refused_so line why on = subst (λ text. script_of (counted (length c.handed)) text ≡ Err (BadLine line why)) (read_so on.bytes on.read) on.is

  -- it is a script or has a bad line, and only one of each
  one_script : (s t : Script) → script_of (counted (length c.handed)) Read ≡ Ok s → script_of (counted (length c.handed)) Read ≡ Ok t → s ≡ t
  one_script s t p q = cc

  one_line : (l m : ℕ) (v w : ScriptWhy) → script_of (counted (length c.handed)) Read ≡ Err (BadLine l v) → script_of (counted (length c.handed)) Read ≡ Err (BadLine m w) → ScriptRefused l v ≡ ScriptRefused m w
  one_line l m v w p q = cc

  never_both : {P : Type 0} (script : Script) (line : ℕ) (why : ScriptWhy) → script_of (counted (length c.handed)) Read ≡ Ok script → script_of (counted (length c.handed)) Read ≡ Err (BadLine line why) → P
  never_both script line why p q = absurd cc

  -- the script has a bad line
  pub refused_found : (line : ℕ) (why : ScriptWhy) (f : Answer) (output : List ℕ) → script_of (counted (length c.handed)) Read ≡ Err (BadLine line why) → Finds heard number jmax c f output → (f ≡ ScriptRefused line why) ⊎ HasReadFault f
  refused_found line why f output is (in_source rose e o b) = inr (inl e)
  refused_found line why f output is (in_script l w refused e o b) = inl (e ∙ one_line l line w why (refused_so l w refused) is)
  refused_found line why f output is (in_files script d asked stopped e o b) = never_both script line why (script_so script asked) is
  refused_found line why f output is (in_session s) = never_both s.script line why (script_so s.script s.asked) is
  refused_found line why f output is (wanting e o) = inr (inr (inr e))

  -- the bytes are a script, and the files tell what they hold
  module _ (script : Script) (is : script_of (counted (length c.handed)) Read ≡ Ok script) (contents : List ℕ → Option (List ℕ)) (files_told : c.told ≡ Some contents) where
    stopped_so : (before after : ℕ) (other : Script) (e : LoadError) → IsAsked c other → HasStopped c.told before after other.files e → HasStopped (Some contents) before after script.files e
    stopped_so before after other e asked stopped = subst (λ x. HasStopped x before after script.files e) files_told (subst (λ (s : Script). HasStopped c.told before after s.files e) (one_script other script (script_so other asked) is) stopped)

    loaded_so : (other : Script) (names : List (List ℕ)) (units : List Meaning) → IsAsked c other → AreLoaded c.told other.files names units → AreLoaded (Some contents) script.files names units
    loaded_so other names units asked loaded = subst (λ x. AreLoaded x script.files names units) files_told (subst (λ (s : Script). AreLoaded c.told s.files names units) (one_script other script (script_so other asked) is) loaded)

    -- one of its files isn't taken in
    pub stopped_found : (e : LoadError) (f : Answer) (output : List ℕ) → IsOfContents e → HasStopped c.told 0 0 script.files e → Finds heard number jmax c f output → (f ≡ file_answer e) ⊎ HasFault f
    stopped_found e f output of stopped (in_source rose q o b) = inr (inr (inl q))
    stopped_found e f output of stopped (in_script line why refused q o b) = never_both script line why is (refused_so line why refused)
    stopped_found e f output of stopped (in_files other d asked there q o b) = file_cases d f q
        (λ by. inl (q ∙ ap file_answer (stops_so contents script.files c.faults_before c.faults_after 0 0 d e by of (stopped_so c.faults_before c.faults_after other d asked there) (subst (λ x. HasStopped x 0 0 script.files e) files_told stopped))))
        (λ k p. inr (inl (k, p)))
        (λ p. inr (inr (inr (inr p))))
    stopped_found e f output of stopped (in_session s) = loaded_never_stops contents script.files s.names s.session.units 0 0 e of (subst (λ x. HasStopped x 0 0 script.files e) files_told stopped) (loaded_so s.script s.names s.session.units s.asked s.session.loaded)
    stopped_found e f output of stopped (wanting q o) = inr (inr (inr (inr q)))

    -- all of its files are objects
    pub loaded_found : (names : List (List ℕ)) (units : List Meaning) (f : Answer) (output : List ℕ) → AreLoaded c.told script.files names units → Finds heard number jmax c f output → IsOfSession f ⊎ HasFault f
    loaded_found names units f output loaded (in_source rose q o b) = inr (inr (inl q))
    loaded_found names units f output loaded (in_script line why refused q o b) = never_both script line why is (refused_so line why refused)
    loaded_found names units f output loaded (in_files other d asked there q o b) = file_cases d f q
        (λ by. loaded_never_stops contents script.files names units c.faults_before c.faults_after d by (stopped_so c.faults_before c.faults_after other d asked there) (subst (λ x. AreLoaded x script.files names units) files_told loaded))
        (λ k p. inr (inl (k, p)))
        (λ p. inr (inr (inr (inr p))))
    loaded_found names units f output loaded (in_session s) = subst (λ x. IsOfSession x ⊎ HasFault x) (sym s.answers) (session_as (λ x. IsOfSession x ⊎ HasFault x) (inl (inl refl)) (λ len. inl (inr (len, refl))) (inr (inr (inr (inr refl)))) s.history s.stopped s.ends)
    loaded_found names units f output loaded (wanting q o) = inr (inr (inr (inr q)))
