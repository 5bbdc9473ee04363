-- The names of a script's session are those of its table.
use Rattle.std.proofs.Common.{◌≡◌, ℕ, zero, suc, ◌+◌, ◌-◌, ◌<◌, ◌≤◌, List, [], Option, Some, length, map, take, All, ◌⊎◌, inl, inr, sym, ap, ◌∙◌, subst, arith}
use Rattle.std.specs.Prelude.{slice_get}
use Rattle.std.specs.Bool.{⊤}
use Rattle.std.specs.List.{AllByRecursion}
use Rattle.std.proofs.lemmas.Bool.{cases_lt}
use Rattle.std.proofs.lemmas.List.Elements.{All-from_recursion, All-map, All-weaker, recursion_from_All}
use Rattle.std.proofs.lemmas.Option.{get_or_from_slice_get, slice_get-get_or, slice_get_within}
use Rattle.orc_ids.specs.declared.lookup.Stop.{Stop}
use Rattle.orc_names.specs.Numbers.{KeepsNumbers}
use Rattle.closure_laws.proofs.Declared.{row_below}
use Rattle.session_laws.proofs.Declared.{mapped_parts}
use Rattle.session_laws.specs.Entries.{entries}
use Rattle.session_model.specs.Calls.{numbered_calls}
use Rattle.session_model.specs.Meaning.{Meaning}
use Rattle.session_model.specs.declared.entry.Entry.{Entry}
use Rattle.journal_text.specs.Journal.{AreKnown, KnownEntry}
use Rattle.journal_text.specs.Replies.{KnownReply}
use Rattle.known_names.specs.Laws.{HasKnownNames}
use Rattle.object_files.specs.Files.{AreLoaded, Told}
use Rattle.session_script.specs.declared.script.Script.{Script}
use Rattle.script_model.specs.Asking.{Line}
use Rattle.script_plan.specs.Asked.{asked_events, asked_line, asked_script}
use Rattle.script_plan.specs.Counts.{no_units}
use Rattle.script_model.specs.Scripts.{InSetUp, IsScriptRun, Went, Whole}
use Rattle.script_model.specs.declared.line_end.LineEnd.{LineEnd}
use Rattle.run_laws.proofs.Seats.{calls_past}
use Rattle.run_laws.proofs.Sums.{each_call}
use Rattle.result_text.specs.Known.{AreAsked, AreKnownEnds, KnownEnd}
use Rattle.session_command.specs.Texts.{IsSession, wanted_by, wanted_by_all}
use Rattle.known_names.specs.Said.{KnownCall, KnownSetup, SaysItsNames}
use Rattle.known_names.proofs.SaidSoFar.{call_stays, setup_stays}
use Rattle.known_names.proofs.ScriptsSaid.{says_its_names}
use Rattle.known_names.specs.Speaking.{Speaks}
use Rattle.known_names.proofs.LoadedUnits.{loaded_known}
use Rattle.known_names.proofs.Seats.{IsNamed, IsNamedEntry, each_taken, of_events, setup_speaks, spoken_known}
use Rattle.known_names.proofs.Speaking.{jobs_speak}
use Rattle.session_command.specs.NameLaws.{SessionSaysItsNames}
use Rattle.session_command.proofs.Asked.{IsNamedLine, events_named, lines_named, wanted_known}
use Rattle.session_command.proofs.Lines.{ends_known, lines_speak, skipped_known}

-- a table that keeps the numbers of another has as many names at least
as_long : (old new : List (List ℕ)) → KeepsNumbers old new → length old ≤ length new
as_long old new keeps = split (cases_lt 0 (length old))
  where
    split : (0 < length old) ⊎ (length old ≤ 0) → length old ≤ length new
    split (inl some) =
        let last = row_below old (length old - 1) (omega (arith, some)) in
        let below = slice_get_within new (length old - 1) last.0 (keeps (length old - 1) last.0 last.1) in
        omega (arith, below, some)
    split (inr none) = omega (arith, none)

-- The units of the script's files

units_known : (told : Told) (files old names : List (List ℕ)) (units : List Meaning) → (0 < length files → 0 < length old) → length old ≤ length names → AreLoaded told files names units → All (HasKnownNames names) units
units_known told files old names units named more loaded = split (cases_lt 0 (length files))
  where
    split : (0 < length files) ⊎ (length files ≤ 0) → All (HasKnownNames names) units
    split (inl some) = loaded_known told files names units loaded (let given = named some in omega (arith, given, more))
    split (inr none) = λ k d below. absurd (omega (arith, below, none, loaded.count))

module _ (jmax workers : ℕ) (told : Told) (script : Script) (names : List (List ℕ)) (h : List (Entry Meaning)) (stopped : Option Stop) (ends : List (List LineEnd)) (said : SaysItsNames script) (session : IsSession jmax workers told script names h stopped ends) where
  run : IsScriptRun jmax workers (asked_script session.units script) stopped ends h
  run = session.run

  more : length script.names ≤ length names
  more = as_long script.names names session.named

  known : All (HasKnownNames names) session.units
  known = units_known told script.files script.names names session.units said.named more session.loaded

  setup_known : All (KnownSetup names) script.setup
  setup_known = All-weaker (KnownSetup script.names) (KnownSetup names) (λ line. setup_stays script.names names line more) script.setup said.setup

  clients_known : All (All (KnownCall names)) script.clients
  clients_known = All-weaker (All (KnownCall script.names)) (All (KnownCall names)) (All-weaker (KnownCall script.names) (KnownCall names) (λ line. call_stays script.names names line more)) script.clients said.clients

  -- Seat 0

  events : AllByRecursion (IsNamed names) (asked_events session.units script.setup)
  events = events_named names session.units known no_units script.setup (recursion_from_All (KnownSetup names) script.setup setup_known)

  setup_named : (o : Option Stop) → Went jmax (asked_script session.units script) ends h run.setup run.later o → AllByRecursion (IsNamedEntry names) run.setup
  setup_named o (Whole called ran) = of_events names run.setup (asked_events session.units script.setup) called events
  setup_named o (InSetUp n st few called none cause nobody) = of_events names run.setup (take n (asked_events session.units script.setup)) called (each_taken (IsNamed names) n (asked_events session.units script.setup) events)

  seated : All (λ (e : Entry Meaning). 0 < e.seat.0) run.later
  seated = All-weaker (λ (e : Entry Meaning). (0 < e.seat.0) × (e.seat.0 ≤ length (asked_script session.units script).clients + workers)) (λ (e : Entry Meaning). 0 < e.seat.0) (λ e p. p.0) run.later run.later_seats

  -- The seats of clients

  abbrev asked : List (List Line)
  asked = (asked_script session.units script).clients

  client_named : (k : ℕ) (lines : List Line) → slice_get asked k ≡ Some lines → AllByRecursion (IsNamedLine names) lines
  client_named k lines there =
      let p = mapped_parts (map (asked_line session.units)) script.clients k lines there in
      let below = slice_get_within script.clients k p.0 p.1 in
      let given : All (KnownCall names) p.0 = subst (All (KnownCall names)) (get_or_from_slice_get script.clients k p.0 [] p.1) (clients_known k [] below) in
      subst (AllByRecursion (IsNamedLine names)) (sym p.2) (lines_named names session.units known p.0 (recursion_from_All (KnownCall names) p.0 given))

  client_speaks : (o : Option Stop) → Went jmax (asked_script session.units script) ends h run.setup run.later o → (k : ℕ) → k < length asked → Speaks names ⊤ (entries (numbered_calls (1 + k) 1 h))
  client_speaks o (Whole called ran) k below =
      let lines = row_below asked k below in
      let its = row_below ends k (omega (arith, below, ran.count)) in
      lines_speak names h [] lines.0 its.0 (numbered_calls (1 + k) 1 h) (client_named k lines.0 lines.1) (ran.each k lines.0 its.0 lines.1 its.1)
  client_speaks o (InSetUp n st few called none cause nobody) k below =
      let past : numbered_calls (1 + k) 1 h ≡ [] = ap (numbered_calls (1 + k) 1) run.parts ∙ calls_past (1 + k) 1 run.setup run.later run.setup_seat (omega arith) ∙ ap (numbered_calls (1 + k) (1 + length run.setup)) none in
      subst (λ cs. Speaks names ⊤ (entries cs)) (sym past) tt

  -- All seats

  later_speaks : (k : ℕ) → Speaks names ⊤ (entries (numbered_calls (1 + k) 1 h))
  later_speaks k = split (cases_lt k (length asked))
    where
      split : (k < length asked) ⊎ (length asked ≤ k) → Speaks names ⊤ (entries (numbered_calls (1 + k) 1 h))
      split (inl below) = client_speaks stopped run.went k below
      split (inr past) = jobs_speak names h (numbered_calls (1 + k) 1 h) (run.workers_do (1 + k) (omega (arith, past)))

  seat_speaks : (s : ℕ) → Speaks names ⊤ (entries (numbered_calls s 1 h))
  seat_speaks zero = setup_speaks names h run.setup run.later run.parts (setup_named stopped run.went) seated
  seat_speaks (suc k) =
      let same : 1 + k ≡ suc k = omega arith in
      subst (λ s. Speaks names ⊤ (entries (numbered_calls s 1 h))) same (later_speaks k)

  history_known : AreKnown names h
  history_known = spoken_known names jmax h run.legal seat_speaks

  -- The ends

  replies : AllByRecursion (λ (e : Entry Meaning). KnownReply names e.reply) h
  replies = recursion_from_All (λ (e : Entry Meaning). KnownReply names e.reply) h (All-weaker (KnownEntry names) (λ (e : Entry Meaning). KnownReply names e.reply) (λ e p. p.1) h history_known)

  client_ends : (o : Option Stop) → Went jmax (asked_script session.units script) ends h run.setup run.later o → (k : ℕ) (its : List LineEnd) → slice_get ends k ≡ Some its → AllByRecursion (KnownEnd names) its
  client_ends o (Whole called ran) k its there =
      let below = slice_get_within ends k its there in
      let lines = row_below asked k (omega (arith, below, ran.count)) in
      ends_known names h [] lines.0 its (numbered_calls (1 + k) 1 h) (each_call (λ (e : Entry Meaning). KnownReply names e.reply) (1 + k) 1 h replies) (ran.each k lines.0 its lines.1 there)
  client_ends o (InSetUp n st few called none cause nobody) k its there =
      let below = slice_get_within ends k its there in
      let lines = row_below asked k (omega (arith, below, nobody.count)) in
      skipped_known names lines.0 its (nobody.each k lines.0 its lines.1 there)

  ends_are_known : AreKnownEnds names (wanted_by_all script) ends
  ends_are_known = record {
    asked = All-map (All (AreAsked names)) (map wanted_by) script.clients
        (All-weaker (All (KnownCall names)) (λ lines. All (AreAsked names) (map wanted_by lines))
        (λ lines all. All-map (AreAsked names) wanted_by lines (All-weaker (KnownCall names) (λ line. AreAsked names (wanted_by line)) (wanted_known names) lines all))
        script.clients clients_known);
    answered = λ k d below. All-from_recursion (KnownEnd names) _ (client_ends stopped run.went k _ (slice_get-get_or ends k d below));
  }

  pub both_known : AreKnown names h × AreKnownEnds names (wanted_by_all script) ends
  both_known = (history_known, ends_are_known)

pub session_names_known : SessionSaysItsNames
session_names_known jmax workers notes bytes told script names h stopped ends read session = both_known jmax workers told script names h stopped ends (says_its_names notes bytes script read) session
