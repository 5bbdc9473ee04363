-- In a long journal no unit is given up for want of a place.
use Rattle.std.proofs.Common.{◌≡◌, ℕ, zero, suc, ◌+◌, ◌*◌, ◌<◌, ◌≤◌, true, List, [], ◌∷◌, ◌++◌, length, slice_get, All, ◌⊎◌, inl, inr, refl, sym, ap, ◌∙◌, subst, arith, append-nil, Some, None}
use Rattle.std.specs.Prelude.{is_some}
use Rattle.std.specs.List.{AllByRecursion}
use Rattle.std.proofs.lemmas.List.{length-append}
use Rattle.std.proofs.lemmas.List.Elements.{All-cons, All-nil, All-weaker}
use Rattle.std.proofs.lemmas.List.Sums.{count_by-le-length}
use Rattle.std.proofs.lemmas.Option.{same_Some}
use Rattle.orc_ids.specs.declared.ids.NameId.{NameId}
use Rattle.orc_ids.specs.declared.ids.UnitId.{UnitId}
use Rattle.session_model.specs.Answer.{Answers, HasCause}
use Rattle.session_model.specs.Calls.{Looks}
use Rattle.session_model.specs.History.{IsLegal}
use Rattle.session_model.specs.Meaning.{Meaning}
use Rattle.session_model.specs.Plain.{Plain, UnitRow, empty, kept}
use Rattle.session_model.specs.State.{after, state, state_from}
use Rattle.session_model.specs.declared.entry.Entry.{Entry}
use Rattle.session_model.specs.declared.entry.Event.TheVariants as event
use Rattle.session_model.specs.declared.entry.Reply.TheVariants as reply
use Rattle.session_model.specs.declared.entry.Why.TheVariants as why
use Rattle.session_laws.proofs.Declared.{prefixes_legal, call_cases, state_from_joined}
use Rattle.run_laws.specs.Ended.{Ended, IsRun, client_calls}
use Rattle.run_laws.specs.Runs.{IsRunBy, IsSetUp, lookup_of}
use Rattle.run_laws.specs.declared.linked.Linked.{Linked}
use Rattle.run_laws.proofs.Calm.{IsCall, after_many}
use Rattle.run_laws.proofs.Cutting.{cut_client}
use Rattle.run_laws.proofs.Costs.{each_front}
use Rattle.run_laws.proofs.Ready.{IsReady, set_up_ready, setup_length}
use Rattle.run_laws.proofs.Seats.{legal_at, same_head, same_tail}
use Rattle.run_laws.proofs.Short.{run_is_short}
use Rattle.one_log.specs.Beginnings.{EdgesAreTold}
use Rattle.one_log.specs.HistoryLaws.{OneHistoryWithPlaces}
use Rattle.one_log.proofs.One.{one_history}
use Rattle.one_log.proofs.Runs.{First, Stand, Then, not_setting, parts, stand}

-- calls make no unit
calls_many : (m : Plain) (es : List (Entry Meaning)) → AllByRecursion IsCall es → m.generators ≡ [] → length (state_from m es).units ≡ length m.units
calls_many m [] a none = refl
calls_many m (e ∷ es) a none = let one = after_many m e a.0 none in calls_many (after m e) es a.1 one.generators ∙ one.units

-- a list is its first elements, the one behind them, and the rest
split_at : {X : Type 0} (xs : List X) (n : ℕ) (x : X) → slice_get xs n ≡ Some x → (front : List X) × (rest : List X) × (xs ≡ front ++ x ∷ rest) × (length front ≡ n)
split_at [] n x e = absurd (cc)
split_at (y ∷ ys) zero x e = ([], ys, ap (λ z. z ∷ ys) (same_Some y x e), refl)
split_at (y ∷ ys) (suc n) x e = let p = split_at ys n x e in (y ∷ p.0, p.1, ap (λ l. y ∷ l) p.2, omega (arith, p.3))

-- a first part that is long enough begins with the other one
front_behind : {X : Type 0} (xs ys front rest : List X) → xs ++ ys ≡ front ++ rest → length xs ≤ length front → (more : List X) × (front ≡ xs ++ more) × (ys ≡ more ++ rest)
front_behind [] ys front rest e b = (front, refl, e)
front_behind (x ∷ xs) ys [] rest e b = absurd (omega (arith, b))
front_behind (x ∷ xs) ys (f ∷ front) rest e b =
    let p = front_behind xs ys front rest (same_tail x f (xs ++ ys) (front ++ rest) e) (omega (arith, b)) in
    (p.0, ap (λ l. f ∷ l) p.1 ∙ ap (λ z. z ∷ xs ++ p.0) (sym (same_head x f (xs ++ ys) (front ++ rest) e)), p.2)

module _ (jmax : ℕ) (main entry : NameId) (units : List Meaning) (h : List (Entry Meaning)) (end : Linked) (plain : All (λ (u : Meaning). u.source ≡ None) units) (run : IsRun jmax 0 main entry units h end) where
  by_seats : IsSetUp main units run.setup → IsRunBy jmax main units h run.setup run.later
  by_seats s = record {
    legal = run.legal;
    parts = run.parts;
    setup_seat = run.setup_seat;
    later_seats = All-weaker (λ (e : Entry Meaning). (0 < e.seat.0) × (e.seat.0 ≤ 1 + 0)) (λ (e : Entry Meaning). 0 < e.seat.0) (λ e p. p.0) run.later run.later_seats;
    set_up = s;
    plain_units = plain;
    workers_do = run.workers_do;
  }

  abbrev IsCopy : ℕ × Entry Meaning → Type 0
  IsCopy c = c.1.event ≡ event.Image

  short_by : IsSetUp main units run.setup → (looked copied : List (ℕ × Entry Meaning)) → client_calls h ≡ looked ++ copied → (rest : List (ℕ × Entry Meaning)) → Looks h (lookup_of entry) (looked ++ rest) → All IsCopy copied → length copied ≤ 1 → length run.later ≤ 3 + 12 * length units
  short_by s looked copied are rest looks copies few = run_is_short jmax main entry units h run.setup run.later (by_seats s) looked copied (record { calls = are; looks = record { rest = rest; would = looks }; copies = copies }) few

  whole_by : IsSetUp main units run.setup → (looked : List (ℕ × Entry Meaning)) → client_calls h ≡ looked → Looks h (lookup_of entry) looked → length run.later ≤ 3 + 12 * length units
  whole_by s looked are looks = short_by s looked [] (are ∙ sym (append-nil looked)) [] (subst (Looks h (lookup_of entry)) (sym (append-nil looked)) looks) (All-nil IsCopy) (omega arith)

  none_short : run.later ≡ [] → length run.later ≤ 3 + 12 * length units
  none_short none = omega (arith, ap length none)

  short : (last : Linked) → Ended jmax main entry units h run.setup run.later last → length run.later ≤ 3 + 12 * length units
  short last (Ended.InDefinition k r none) = none_short none
  short last (Ended.InSetUp n st first is few none cause) = none_short none
  short last (Ended.InLookup st s stopped cause) = let b = cut_client h entry (client_calls h) stopped in short_by s (client_calls h) [] (sym (append-nil (client_calls h))) b.rest b.would (All-nil IsCopy) (omega arith)
  short last (Ended.NotThere before n c s calls looks is) = whole_by s (before ++ (n, c) ∷ []) calls looks
  short last (Ended.NotReady before n c at i s calls looks is) = whole_by s (before ++ (n, c) ∷ []) calls looks
  short last (Ended.IsReady before m n at address c copy i ranges s calls looks is image memory) = short_by s (before ++ (m, c) ∷ []) ((n, copy) ∷ []) calls [] (subst (Looks h (lookup_of entry)) (sym (append-nil (before ++ (m, c) ∷ []))) looks)
      (All-cons IsCopy (n, copy) [] image (All-nil IsCopy)) (omega arith)

  -- behind the set-up there are no more units than were defined
  few_units : (past : List (Entry Meaning)) (e : Entry Meaning) (rest : List (Entry Meaning)) → h ≡ past ++ e ∷ rest → length run.setup ≤ length past → IsSetUp main units run.setup → length (state past).units ≤ length units
  few_units past e rest is b s = omega (arith, ready.few, ap (λ l. length (state l).units) behind.1, ap (λ (m : Plain). length m.units) (state_from_joined empty run.setup behind.0), calls_many (state run.setup) behind.0 calls ready.generators)
    where
      behind : (more : List (Entry Meaning)) × (past ≡ run.setup ++ more) × (run.later ≡ more ++ e ∷ rest)
      behind = front_behind run.setup run.later past (e ∷ rest) (sym run.parts ∙ is) b

      calls : AllByRecursion IsCall behind.0
      calls = each_front IsCall behind.0 (e ∷ rest) (subst (AllByRecursion IsCall) behind.2 (parts jmax main entry units h end run).calls)

      ready : IsReady (length units) (state run.setup)
      ready = set_up_ready jmax main units run.setup ((prefixes_legal jmax run.setup run.later).0 (subst (IsLegal jmax) run.parts run.legal)) s

  -- a fail for a full journal that was done
  full_at : (past : List (Entry Meaning)) (e : Entry Meaning) (rest : List (Entry Meaning)) (u : UnitId) → h ≡ past ++ e ∷ rest → e.event ≡ event.Fail u why.Full → e.reply ≡ reply.Failed → length past + kept (state past) ≡ jmax
  full_at past e rest u is v r = call_cases (state past) e.seat.0 u (λ x. true) (λ x. HasCause jmax past (state past) u.0 x why.Full × (reply.Failed ≡ reply.Failed)) reply.Failed
      (subst (λ q. Answers jmax past (state past) e.seat.0 (event.Fail u why.Full) q) r (subst (λ w. Answers jmax past (state past) e.seat.0 w e.reply) v (legal_at jmax past e rest (subst (IsLegal jmax) is run.legal)).answers))
      (λ x t gone f. absurd (cc))
      (λ f wrong. absurd (cc))
      (λ x t d s f p. p.0)

  told : 5 + 14 * length units < jmax → EdgesAreTold h
  told long n k t e u bound below there_t there takes is v r = absurd (by_whole (parts jmax main entry units h end run).whole)
    where
      at : (front : List (Entry Meaning)) × (rest : List (Entry Meaning)) × (h ≡ front ++ e ∷ rest) × (length front ≡ k)
      at = split_at h k e there

      behind : Stand jmax main entry units h end run n t → 2 + length units ≤ n
      behind (First set s b) = absurd (not_setting t set takes)
      behind (Then un s b) = b

      by_whole : (run.later ≡ []) ⊎ IsSetUp main units run.setup → ⊥
      by_whole (inl none) = omega (arith, behind (stand jmax main entry units h end run n t there_t), below, at.3, ap length at.2, length-append at.0 (e ∷ at.1), ap length run.parts, length-append run.setup run.later, ap length none, (parts jmax main entry units h end run).short)
      by_whole (inr s) =
          let count = setup_length main units run.setup s in
          let first = behind (stand jmax main entry units h end run n t there_t) in
          omega (
            arith,
            long,
            full_at at.0 e at.1 u at.2 v r,
            count_by-le-length (λ (x : UnitRow). is_some x.seat) (state at.0).units,
            few_units at.0 e at.1 at.2 (omega (arith, count, first, below, at.3)) s,
            short end run.ended,
            count,
            ap length run.parts,
            length-append run.setup run.later,
            ap length at.2,
            length-append at.0 (e ∷ at.1),
          )

pub one_history_with_places : OneHistoryWithPlaces
one_history_with_places jmax main entry units h g h_end g_end plain long h_run g_run h_spared g_spared = one_history jmax main entry units h g h_end g_end h_run g_run
    (λ stopped. (h_spared stopped, told jmax main entry units h h_end plain h_run long)) (λ stopped. (g_spared stopped, told jmax main entry units g g_end plain g_run long))
