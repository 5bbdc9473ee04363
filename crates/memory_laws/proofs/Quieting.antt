-- A program's history from its setup on: no query is older than the setup, and a present instance stays so.
use Rattle.std.proofs.Common.{◌≡◌, ℕ, ◌+◌, ◌-◌, ◌<◌, ◌≤◌, true, false, List, [], ◌∷◌, ◌++◌, length, take, drop, slice_get, ◌⊎◌, inl, inr, append_assoc, append-nil, arith, subst, sym, refl, ap, ◌∙◌, Some}
use Rattle.std.specs.List.{All}
use Rattle.std.proofs.Math.Seq.{take-append-add}
use Rattle.std.proofs.lemmas.List.{length-append}
use Rattle.std.proofs.lemmas.List.Elements.{All-nil, All-head, All-tail, All-drop}
use Rattle.std.proofs.lemmas.Option.{none-some}
use Rattle.link_model.specs.declared.graph.LinkGraph.{LinkGraph}
use Rattle.session_model.specs.Change.{change_of, changed}
use Rattle.session_model.specs.History.{IsLegal}
use Rattle.session_model.specs.Meaning.{Meaning}
use Rattle.session_model.specs.Plain.{Plain, empty}
use Rattle.session_model.specs.State.{state, after}
use Rattle.session_model.specs.declared.entry.Entry.{Entry}
use Rattle.session_model.specs.declared.rows.InstRow.{InstRow}
use Rattle.session_model.specs.declared.rows.Query.{Query}
use Rattle.session_laws.proofs.Declared.{prefixes_legal, state_from_push, after_query, query_cases, entries_are, front_and_rest, settled_rows}
use Rattle.closure_laws.proofs.Declared.{OneMore, one_more, kept_along, change_rows, run_same}
use Rattle.memory_laws.proofs.Staying.{keeps_change, run_present}
use Rattle.memory_laws.proofs.Waiting.{ask_comes_first}
use Rattle.memory_laws.specs.NameLaws.{is_ask}
use Rattle.memory_laws.specs.Objects.{IsProgram, keeps_names}

-- Beginnings

pub front_parts : (graphs : List LinkGraph) (h : List (Entry Meaning)) (p : IsProgram graphs h) (n : ℕ) → length p.setup ≤ n → take n h ≡ p.setup ++ take (n - length p.setup) p.later
front_parts graphs h p n long = ap (take n) p.parts ∙ (ap (λ k. take k (p.setup ++ p.later)) whole ∙ take-append-add p.setup p.later (n - length p.setup))
  where
    whole : n ≡ length p.setup + (n - length p.setup)
    whole = omega (arith, long)

-- Queries

-- the setup is a history of the program, in which nothing was asked for
setup_queries : (jmax : ℕ) (h : List (Entry Meaning)) → IsLegal jmax h → (graphs : List LinkGraph) (p : IsProgram graphs h) → (state p.setup).queries ≡ []
setup_queries jmax h l graphs p = (ask_comes_first jmax p.setup ((prefixes_legal jmax p.setup p.later).0 (subst (IsLegal jmax) p.parts l)) graphs alone (All-nil (λ (e : Entry Meaning). is_ask e.event ≡ false))).queries
  where
    alone : IsProgram graphs p.setup
    alone = record {
      main = p.main;
      units = p.units;
      are = p.are;
      setup = p.setup;
      later = [];
      parts = sym (append-nil p.setup);
      events = p.events;
      done = p.done;
      quiet = All-nil (λ (e : Entry Meaning). keeps_names e.event ≡ true);
    }

-- each query was asked after these many entries
abbrev AskedFrom : ℕ → Plain → Type 0
AskedFrom n m = (k : ℕ) (q : Query) → slice_get m.queries k ≡ Some q → n < q.asked

asked_more : (jmax n : ℕ) (h : List (Entry Meaning)) (e : Entry Meaning) → OneMore jmax h e → (n ≤ length h) × AskedFrom n (state h) → (n ≤ length (h ++ e ∷ [])) × AskedFrom n (state (h ++ e ∷ []))
asked_more jmax n h e one a = (omega (arith, a.0, length-append h (e ∷ [])), λ k q t. split k q (query_cases (state h) (after (state h) e).queries k q (after_query (state h) e) (ap (λ (m : Plain). slice_get m.queries k) (sym (state_from_push empty h e)) ∙ t)))
  where
    split : (k : ℕ) (q : Query) → (slice_get (state h).queries k ≡ Some q) ⊎ ((q.asked ≡ (state h).entries + 1) × ((after (state h) e).queries ≡ (state h).queries ++ q ∷ [])) → n < q.asked
    split k q (inl old) = a.1 k q old
    split k q (inr new) = omega (arith, a.0, new.0, entries_are h)

-- no query is older than the setup
pub asked_later : (jmax : ℕ) (h : List (Entry Meaning)) → IsLegal jmax h → (graphs : List LinkGraph) (p : IsProgram graphs h) (k : ℕ) (q : Query) → slice_get (state h).queries k ≡ Some q → length p.setup < q.asked
asked_later jmax h l graphs p k q t = (kept_along jmax (λ g. (length p.setup ≤ length g) × AskedFrom (length p.setup) (state g)) (asked_more jmax (length p.setup)) p.setup p.later (subst (IsLegal jmax) p.parts l) (omega arith, none)).1 k q (ap (λ g. slice_get (state g).queries k) (sym p.parts) ∙ t)
  where
    none : AskedFrom (length p.setup) (state p.setup)
    none j r e = absurd (none-some r (ap (λ qs. slice_get qs j) (sym (setup_queries jmax h l graphs p)) ∙ e))

-- Instances

-- a present instance of the unit and the offer that another one is of
pub record IsStill (rows : List InstRow) (i : ℕ) (r : InstRow) : Type 0 where
  pub row : InstRow
  pub there : slice_get rows i ≡ Some row
  pub present : row.present ≡ true
  pub unit : row.unit ≡ r.unit
  pub offer : row.offer ≡ r.offer

still_after : (jmax : ℕ) (h : List (Entry Meaning)) (e : Entry Meaning) (i : ℕ) (r : InstRow) → OneMore jmax h e → keeps_names e.event ≡ true → IsStill (state h).rows i r → IsStill (state (h ++ e ∷ [])).rows i r
still_after jmax h e i r one kept old =
    let m = state h in
    let c = change_of m e.seat.0 e.event e.reply in
    let q = change_rows m e.seat.0 c one.sound one.guard i old.row old.there in
    let same = run_same m c i old.row q.0 q.2 in
    record {
      row = q.0;
      there = ap (λ (n : Plain). slice_get n.rows i) (state_from_push empty h e) ∙ (ap (λ rows. slice_get rows i) (settled_rows (changed c m)) ∙ q.1);
      present = run_present m c i old.row q.0 (keeps_change m e.seat.0 e.event e.reply kept) q.2 old.present;
      unit = same.unit ∙ old.unit;
      offer = same.offer ∙ old.offer;
    }

still_along : (jmax : ℕ) (past es : List (Entry Meaning)) (i : ℕ) (r : InstRow) → IsLegal jmax (past ++ es) → All (λ (e : Entry Meaning). keeps_names e.event ≡ true) es → IsStill (state past).rows i r → IsStill (state (past ++ es)).rows i r
still_along jmax past [] i r l a old = subst (λ g. IsStill (state g).rows i r) (sym (append-nil past)) old
still_along jmax past (e ∷ es) i r l a old =
    let legal = subst (IsLegal jmax) (sym (append_assoc past (e ∷ []) es)) l in
    let one = one_more jmax past e ((prefixes_legal jmax (past ++ e ∷ []) es).0 legal) in
    subst (λ g. IsStill (state g).rows i r) (append_assoc past (e ∷ []) es)
    (still_along jmax (past ++ e ∷ []) es i r legal (All-tail (λ (f : Entry Meaning). keeps_names f.event ≡ true) e es a) (still_after jmax past e i r one (All-head (λ (f : Entry Meaning). keeps_names f.event ≡ true) e es a) old))

-- an instance that was present at a time from the setup on is so yet
pub still_there : (jmax : ℕ) (h : List (Entry Meaning)) → IsLegal jmax h → (graphs : List LinkGraph) (p : IsProgram graphs h) (n : ℕ) → length p.setup ≤ n → (i : ℕ) (r : InstRow) → slice_get (state (take n h)).rows i ≡ Some r → r.present ≡ true → IsStill (state h).rows i r
still_there jmax h l graphs p n long i r t present = subst (λ g. IsStill (state g).rows i r) (sym whole)
    (still_along jmax (take n h) rest i r (subst (IsLegal jmax) whole l) (All-drop (λ (e : Entry Meaning). keeps_names e.event ≡ true) (n - length p.setup) p.later p.quiet) (record { row = r; there = t; present = present; unit = refl; offer = refl }))
  where
    rest : List (Entry Meaning)
    rest = drop (n - length p.setup) p.later

    whole : h ≡ take n h ++ rest
    whole = p.parts ∙ (ap (λ es. p.setup ++ es) (front_and_rest (n - length p.setup) p.later)
        ∙ (sym (append_assoc p.setup (take (n - length p.setup) p.later) rest) ∙ ap (λ es. es ++ rest) (sym (front_parts graphs h p n long))))
