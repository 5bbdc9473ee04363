-- What a script's session comes to, by how its set-up ended.
use Rattle.std.proofs.Common.{◌≡◌, ℕ, ◌+◌, List, [], ◌∷◌, length, map, refl, ap, subst, arith, All, Option, Some, None, slice_get}
use Rattle.std.proofs.lemmas.List.Elements.{All-nil}
use Rattle.orc_ids.specs.declared.lookup.Outcome.{Outcome}
use Rattle.orc_ids.specs.declared.lookup.Stop.{Stop}
use Rattle.session_model.specs.Calls.{numbered_calls}
use Rattle.session_model.specs.Meaning.{Meaning}
use Rattle.session_model.specs.State.{plain_history}
use Rattle.session_model.specs.declared.entry.Entry.{Entry}
use Rattle.session_model.specs.declared.entry.Event.{Event}
use Rattle.notifiers.specs.Notices.{AreHeard}
use Rattle.notifiers.specs.declared.notice.Notice.{Notice}
use Rattle.turn_lock.specs.Told.{Shows}
use Rattle.turn_lock.specs.Views.{first_view}
use Rattle.turn_lock.specs.declared.view.View.{View}
use Rattle.shared_session.specs.Home.{IsLawful, IsPosted, seat_of}
use Rattle.link_worker.specs.Does.{ToldAt}
use Rattle.link_worker.specs.First.{IsFirst}
use Rattle.script_model.specs.Plans.{event_of, line_of}
use Rattle.script_model.specs.declared.calls.ClientCall.{ClientCall}
use Rattle.script_model.specs.declared.calls.SetUpCall.{SetUpCall}
use Rattle.script_model.specs.Scripts.{IsScriptRun}
use Rattle.script_session.specs.Clients.{AreUnheard}
use Rattle.script_session.specs.Leaving.{WorkedBy}
use Rattle.script_session.specs.Members.{AreMembers, ends_of, told_of, unlodged_of}
use Rattle.script_session.specs.SetUps.{HasSetUp, IsAt}
use Rattle.script_session.specs.declared.members.Member.{Member}
use Rattle.script_session.proofs.ScriptRuns.{script, stopped_run, told_skipped, told_whole, unlodged_skipped, unlodged_whole, whole_run}
use Rattle.script_session.proofs.Setting.{still_calls}

-- seat 0 begins
pub at_first : {U : Type 0} (means : U → Meaning) (jmax seats : ℕ) → IsAt means jmax [] (first_view (seats, 0))
at_first means jmax seats = (record { number = refl; from = refl; to = refl; ended = refl; own = All-nil (λ e. e.seat.0 ≡ 0); mine = refl; lawful = record { legal = tt; places = tt } }, refl)

module _ {U N : Type 0} (means : U → Meaning) where
  pub all_lines : {X : Type 0} (items : X → List (ClientCall U N)) (xs : List X) → map (map (line_of means)) (map items xs) ≡ map (λ x. map (line_of means) (items x)) xs
  all_lines items [] = refl
  all_lines items (x ∷ xs) = ap (λ l. map (line_of means) (items x) ∷ l) (all_lines items xs)

module _ {U N : Type 0} (means : U → Meaning) (heard : N → Option Outcome) (numbers : N → ℕ) (jmax workers : ℕ) (calls : List (SetUpCall U)) (clients : List (List (ClientCall U N))) where
  abbrev events : List (Event Meaning)
  events = map (event_of means) calls

  -- seat 0 was alone so far
  pub first_of : (stopped : Option Stop) (v : View (Entry U)) → HasSetUp means jmax events v stopped → IsFirst means jmax v
  first_of None v at = at.0
  first_of (Some st) v (n, few, ((first, called), cause)) = first

  pub record CameTo {G : Type 0} (stopped : Option Stop) (log : List (Entry U)) (done : List (Member U N G)) : Type 0 where
    pub run : IsScriptRun jmax workers (script means heard numbers jmax workers events clients (still_calls means calls)) stopped (ends_of done) (plain_history means log)
    pub told : (k : ℕ) (fired : List (Notice N)) → slice_get (told_of done) k ≡ Some fired → ToldAt (plain_history means log) (numbered_calls (1 + k) 1 (plain_history means log)) fired × AreHeard heard fired
    pub unlodged : All (AreUnheard heard numbers) (unlodged_of done)
    pub count : length done ≡ length clients + workers

  pub came : {G : Type 0} (stopped : Option Stop) (v z : View (Entry U)) (log : List (Entry U)) (old done : List (Member U N G)) → HasSetUp means jmax events v stopped → v.seats ≡ 1 + length clients + workers → AreMembers clients workers old →
      WorkedBy means heard numbers jmax stopped v z old done → Shows seat_of (IsLawful means jmax) (IsPosted means) log z → CameTo stopped log done
  came None v z log old done at count are worked s = record {
    run = whole_run means heard numbers jmax workers events clients (still_calls means calls) v z log old done at count are worked s;
    told = told_whole means heard numbers jmax workers events clients (still_calls means calls) v z log old done at count are worked s;
    unlodged = unlodged_whole means heard numbers jmax workers events clients (still_calls means calls) v z log old done at count are worked s;
    count = omega (arith, worked.count, are.count);
  }
  came (Some st) v z log old done (n, few, ((first, called), cause)) count are (same, skipped) s =
      let shows : Shows seat_of (IsLawful means jmax) (IsPosted means) log v = subst (Shows seat_of (IsLawful means jmax) (IsPosted means) log) same s in
      record {
        run = stopped_run means heard numbers jmax workers events clients (still_calls means calls) v log st old done (n, few, ((first, called), cause)) are skipped shows;
        told = told_skipped means heard numbers jmax workers events clients (still_calls means calls) v log old done first shows skipped;
        unlodged = unlodged_skipped means heard numbers jmax workers events clients (still_calls means calls) old done skipped;
        count = omega (arith, skipped.count, are.count);
      }
