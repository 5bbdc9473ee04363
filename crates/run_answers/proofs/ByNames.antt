-- The memory that a run copied has the statically linked program of its files, so a run that stays within that is the same.
use Rattle.std.proofs.Common.{◌≡◌, ℕ, suc, ◌+◌, ◌-◌, ◌<◌, ◌≤◌, Bool, true, false, ◌&&◌, ◌==◌, List, [], ◌∷◌, ◌++◌, length, slice_get, take, drop, refl, sym, ap, ap₂, ◌∙◌, subst, arith, Option, Some, None}
use Rattle.std.specs.Prelude.{option_map, if◌then◌else◌}
use Rattle.std.specs.List.{All}
use Rattle.std.specs.Option.{option_map_or}
use Rattle.std.proofs.Math.Seq.{take-append_seam}
use Rattle.std.proofs.lemmas.List.{take-take}
use Rattle.std.proofs.lemmas.List.Elements.{All-take}
use Rattle.std.proofs.lemmas.Option.{none-some, same_Some}
use Rattle.list_laws.proofs.Bools.{bool_same}
use Rattle.orc_ids.specs.declared.flags.SymFlags.{SymFlags}
use Rattle.orc_ids.specs.declared.ids.DylibId.{DylibId}
use Rattle.orc_ids.specs.declared.ids.InstId.{InstId}
use Rattle.orc_ids.specs.declared.ids.NameId.{NameId}
use Rattle.link_model.specs.declared.graph.LinkGraph.{LinkGraph}
use Rattle.code_memory.specs.Mapped.{byte_at}
use Rattle.code_memory.specs.declared.image.Segment.{Segment}
use Rattle.rv_hart.specs.Map.{Map}
use Rattle.exec_run.specs.declared.ran.RunEnd.{RunEnd}
use Rattle.exec_run.specs.Larger.{Agrees, Stays}
use Rattle.exec_run.specs.Run.{RunsTo, start}
use Rattle.exec_run.specs.Start.{with_stack}
use Rattle.exec_run.proofs.Runs.{runs_same}
use Rattle.exec_run.proofs.Wider.{runs_wider, stack_agrees}
use Rattle.session_model.specs.Change.{change_of, changed}
use Rattle.session_model.specs.History.{IsLegal}
use Rattle.session_model.specs.Match.{first_row, row_of}
use Rattle.session_model.specs.Meaning.{Meaning}
use Rattle.session_model.specs.Plain.{Plain, address_at, empty, phase_address}
use Rattle.session_model.specs.Reach.{IsReady}
use Rattle.session_model.specs.State.{state}
use Rattle.session_model.specs.declared.entry.Entry.{Entry}
use Rattle.session_model.specs.declared.rows.InstRow.{InstRow}
use Rattle.session_model.specs.declared.rows.Phase.{Phase}
use Rattle.session_model.specs.declared.rows.Row.{Row}
use Rattle.session_laws.proofs.Declared.{state_from_push, front_and_rest, front_legal, ready_stays_ready, settled_rows}
use Rattle.session_laws.specs.Readiness.{phase_at}
use Rattle.closure_laws.proofs.Declared.{OneMore, kept_along, SameRow, change_rows, run_same}
use Rattle.memory_laws.proofs.Objects.{names_are_defined}
use Rattle.memory_laws.specs.Objects.{IsProgram, keeps_names}
use Rattle.memory_laws.proofs.Linked.{linked_by_names}
use Rattle.memory_laws.proofs.Quieting.{front_parts, still_there}
use Rattle.memory_laws.specs.LinkLaws.{IsLinkedByNames, MemoryHoldsProgram}
use Rattle.memory_laws.specs.Programs.{HasAddresses, name_spot, spots_by_name}
use Rattle.static_links.specs.Links.{IsLinkedProgram, Spot}
use Rattle.run_laws.specs.Ended.{AreMemory}
use Rattle.run_answers.specs.ByNames.{members_at}
use Rattle.run_answers.proofs.Found.{EntryFound}

-- A program's history up to an entry

-- what it begins with, from its set-up on, is the program's, with the same set-up
abbrev front_program : (graphs : List LinkGraph) (h : List (Entry Meaning)) (p : IsProgram graphs h) (n : ℕ) → length p.setup ≤ n → IsProgram graphs (take n h)
front_program graphs h p n long = record {
  main = p.main;
  units = p.units;
  are = p.are;
  setup = p.setup;
  later = take (n - length p.setup) p.later;
  parts = front_parts graphs h p n long;
  events = p.events;
  done = p.done;
  quiet = All-take (λ (e : Entry Meaning). keeps_names e.event ≡ true) (n - length p.setup) p.later p.quiet;
}

-- The row of a name stays

-- each row keeps what it is of, and none comes back
abbrev RowsKept : List InstRow → List InstRow → Type 0
RowsKept rows new = (i : ℕ) (r : InstRow) → slice_get rows i ≡ Some r → (q : InstRow) × (slice_get new i ≡ Some q) × SameRow r q

same_trans : (r p q : InstRow) → SameRow r p → SameRow p q → SameRow r q
same_trans r p q s t = record { unit = t.unit ∙ s.unit; dylib = t.dylib ∙ s.dylib; offer = t.offer ∙ s.offer; name = t.name ∙ s.name; flags = t.flags ∙ s.flags; present = λ e. s.present (t.present e) }

rows_kept : (jmax : ℕ) (past more : List (Entry Meaning)) → IsLegal jmax (past ++ more) → RowsKept (state past).rows (state (past ++ more)).rows
rows_kept jmax past more l = kept_along jmax (λ g. RowsKept (state past).rows (state g).rows) step past more l
    (λ i r t. (r, t, record { unit = refl; dylib = refl; offer = refl; name = refl; flags = refl; present = λ e. e }))
  where
    step : (g : List (Entry Meaning)) (e : Entry Meaning) → OneMore jmax g e → RowsKept (state past).rows (state g).rows → RowsKept (state past).rows (state (g ++ e ∷ [])).rows
    step g e one old i r t =
        let p = old i r t in
        let m = state g in
        let c = change_of m e.seat.0 e.event e.reply in
        let q = change_rows m e.seat.0 c one.sound one.guard i p.0 p.1 in
        (q.0, ap (λ (n : Plain). slice_get n.rows i) (state_from_push empty g e) ∙ (ap (λ rows. slice_get rows i) (settled_rows (changed c m)) ∙ q.1), same_trans r p.0 q.0 p.2 (run_same m c i p.0 q.0 q.2))

-- the first row that passes is the same where each passes as before
first_same : (test : InstRow → Bool) (k : ℕ) (rows new : List InstRow) (row : Row) → ((i : ℕ) (r : InstRow) → slice_get rows i ≡ Some r → (q : InstRow) × (slice_get new i ≡ Some q) × (test q ≡ test r) × (q.flags ≡ r.flags)) → first_row test k rows ≡ Some row → first_row test k new ≡ Some row
first_same test k [] new row h e = absurd (none-some row e)
first_same test k (r ∷ rs) [] row h e = let p = h 0 r refl in absurd (none-some p.0 p.1)
first_same test k (r ∷ rs) (q ∷ qs) row h e = split (test r) refl (λ f. first_same test (k + 1) rs qs row (λ i s t. h (suc i) s t) f)
  where
    p : (x : InstRow) × (slice_get (q ∷ qs) 0 ≡ Some x) × (test x ≡ test r) × (x.flags ≡ r.flags)
    p = h 0 r refl

    is : q ≡ p.0
    is = same_Some q p.0 p.1

    test_is : test q ≡ test r
    test_is = ap test is ∙ p.2

    flags_are : q.flags ≡ r.flags
    flags_are = ap (λ (x : InstRow). x.flags) is ∙ p.3

    choose : Bool → SymFlags → Option Row → Option Row
    choose b flags rest = if b then Some (record { inst = record { 0 = k }; flags = flags }) else rest

    split : (b : Bool) → test r ≡ b → (first_row test (k + 1) rs ≡ Some row → first_row test (k + 1) qs ≡ Some row) → first_row test k (q ∷ qs) ≡ Some row
    split true b rest = ap (λ c. choose c q.flags (first_row test (k + 1) qs)) (test_is ∙ b) ∙ (ap (λ (f : SymFlags). choose true f (first_row test (k + 1) qs)) flags_are ∙ (ap (λ c. choose c r.flags (first_row test (k + 1) rs)) (sym b) ∙ e))
    split false b rest = ap (λ c. choose c q.flags (first_row test (k + 1) qs)) (test_is ∙ b) ∙ rest (ap (λ c. choose c r.flags (first_row test (k + 1) rs)) (sym b) ∙ e)

-- so the name that has a row after the set-up of a program has it still
row_stays : (jmax : ℕ) (h : List (Entry Meaning)) → IsLegal jmax h → (graphs : List LinkGraph) (p : IsProgram graphs h) (name : ℕ) (row : Row) → row_of (state p.setup).rows 0 name ≡ Some row → row_of (state h).rows 0 name ≡ Some row
row_stays jmax h l graphs p name row e = first_same test 0 (state p.setup).rows (state h).rows row each e
  where
    test : InstRow → Bool
    test r = r.present && r.dylib.0 == 0 && r.name.0 == name

    front : take (length p.setup) h ≡ p.setup
    front = ap (take (length p.setup)) p.parts ∙ take-append_seam p.setup p.later

    kept : RowsKept (state p.setup).rows (state h).rows
    kept = subst (λ g. RowsKept (state p.setup).rows (state g).rows) (sym p.parts) (rows_kept jmax p.setup p.later (subst (IsLegal jmax) p.parts l))

    each : (i : ℕ) (r : InstRow) → slice_get (state p.setup).rows i ≡ Some r → (q : InstRow) × (slice_get (state h).rows i ≡ Some q) × (test q ≡ test r) × (q.flags ≡ r.flags)
    each i r t =
        let q = kept i r t in
        let s = q.2 in
        (q.0, q.1, ap (λ b. b && q.0.dylib.0 == 0 && q.0.name.0 == name) (present q.0 q.1 s) ∙ ap₂ (λ (d : DylibId) (n : NameId). r.present && d.0 == 0 && n.0 == name) s.dylib s.name, s.flags)
      where
        present : (q : InstRow) → slice_get (state h).rows i ≡ Some q → SameRow r q → q.present ≡ r.present
        present q f s = bool_same q.present r.present s.present
            (λ b. let still = still_there jmax h l graphs p (length p.setup) (omega arith) i r (ap (λ g. slice_get (state g).rows i) front ∙ t) b in
            ap (λ (x : InstRow). x.present) (same_Some q still.row (sym f ∙ still.there)) ∙ still.present)

-- A run of the program

-- an instance with a phase has its address
same_address : (rows new : List InstRow) (i : ℕ) → phase_at new i ≡ phase_at rows i → address_at new i ≡ address_at rows i
same_address rows new i e = sym (by_phase (slice_get new i)) ∙ (ap (λ (o : Option Phase). option_map_or phase_address o None) e ∙ by_phase (slice_get rows i))
  where
    by_phase : (o : Option InstRow) → option_map_or phase_address (option_map (λ (r : InstRow). r.phase) o) None ≡ option_map_or (λ (r : InstRow). phase_address r.phase) o None
    by_phase None = refl
    by_phase (Some r) = refl

-- The entry is ready after n entries, when the memory was copied
record EntryStands (rows : List InstRow) (entry : NameId) (address : ℕ) : Type 0 where
  row : Row
  there : row_of rows 0 entry.0 ≡ Some row
  ready : IsReady rows row.inst.0
  has : address_at rows row.inst.0 ≡ Some address

module _ (holds : MemoryHoldsProgram) (jmax : ℕ) (h : List (Entry Meaning)) (legal : IsLegal jmax h) (graphs : List LinkGraph) (p : IsProgram graphs h) (addresses : All HasAddresses graphs)
    (entry : NameId) (m n : ℕ) (i : InstId) (address : ℕ) (found : EntryFound h p.setup entry m i address) (copied : m < n) where
  abbrev copied_history : List (Entry Meaning)
  copied_history = take n h

  front_is_legal : IsLegal jmax copied_history
  front_is_legal = front_legal jmax h n legal

  abbrev front_is_program : IsProgram graphs copied_history
  front_is_program = front_program graphs h p n (omega (arith, found.low, found.high, copied))

  stands : EntryStands (state copied_history).rows entry address
  stands = record {
    row = found.row;
    there = row_stays jmax copied_history front_is_legal graphs front_is_program entry.0 found.row found.there;
    ready = subst (λ (k : InstId). IsReady (state copied_history).rows k.0) (sym found.is) later.0;
    has = ap (λ (k : InstId). address_at (state copied_history).rows k.0) found.is ∙ (same_address (state (take found.at h)).rows (state copied_history).rows i.0 later.1 ∙ found.has);
  }
    where
      whole : copied_history ≡ take found.at h ++ drop found.at copied_history
      whole = front_and_rest found.at copied_history ∙ ap (λ g. g ++ drop found.at copied_history) (take-take found.at n h (omega (arith, found.high, copied)))

      later : IsReady (state copied_history).rows i.0 × (phase_at (state copied_history).rows i.0 ≡ phase_at (state (take found.at h)).rows i.0)
      later = subst (λ g. IsReady (state g).rows i.0 × (phase_at (state g).rows i.0 ≡ phase_at (state (take found.at h)).rows i.0)) (sym whole)
          (ready_stays_ready jmax (take found.at h) (drop found.at copied_history) (subst (IsLegal jmax) whole front_is_legal) i.0 found.ready)

  linked : IsLinkedByNames graphs (state copied_history)
  linked = linked_by_names names_are_defined jmax copied_history front_is_legal graphs front_is_program addresses

  spot_is : (name_spot graphs (members_at graphs copied_history) entry.0).address ≡ address
  spot_is = ap (λ (s : Spot). s.address) (linked.stands entry.0 address stands.row stands.there stands.has)

  -- a run of the program that stays within it is that of the memory
  pub program_agrees : (fuel : ℕ) (ranges : List Segment) → AreMemory (state copied_history) ranges → (end end' : RunEnd) (output output' : List ℕ) (program : Map) →
      IsLinkedProgram (members_at graphs copied_history) (spots_by_name graphs (members_at graphs copied_history)) (name_spot graphs (members_at graphs copied_history) entry.0).block program →
      Stays program (name_spot graphs (members_at graphs copied_history) entry.0).address [] fuel → RunsTo program (name_spot graphs (members_at graphs copied_history) entry.0).address [] fuel end output →
      RunsTo (byte_at ranges) address [] fuel end' output' → (end' ≡ end) × (output' ≡ output)
  program_agrees fuel ranges memory_is end end' output output' program is stays runs has = runs_same fuel (start (byte_at ranges) address []) end' end output' output has wider
    where
      agree : Agrees program (byte_at ranges)
      agree = record { same = λ at byte f. memory_is at ∙ holds jmax copied_history front_is_legal graphs front_is_program addresses entry.0 stands.row stands.there stands.ready program is at byte f }

      wider : RunsTo (byte_at ranges) address [] fuel end output
      wider = runs_wider fuel end output (start program address []) (with_stack (byte_at ranges)) (stack_agrees program (byte_at ranges) agree)
          (subst (λ a. Stays program a [] fuel) spot_is stays) (subst (λ a. RunsTo program a [] fuel end output) spot_is runs)
