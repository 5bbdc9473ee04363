-- What the members of a script leave.
use Rattle.std.specs.Prelude.{◌≡◌, ◌≤◌, ◌+◌, ◌++◌, ℕ, List, [], length, map, slice_get, vec_capacity, All, Option, None, Some}
use Rattle.orc_ids.specs.declared.lookup.Outcome.{Outcome}
use Rattle.orc_ids.specs.declared.lookup.Stop.{Stop}
use Rattle.session_model.specs.Calls.{numbered_calls}
use Rattle.session_model.specs.Meaning.{Meaning}
use Rattle.session_model.specs.declared.entry.Entry.{Entry}
use Rattle.notifiers.specs.Notices.{AreHeard}
use Rattle.notifiers.specs.declared.notice.Notice.{Notice}
use Rattle.turn_lock.specs.declared.view.View.{View}
use Rattle.shared_session.specs.Home.{seat_of}
use Rattle.link_worker.specs.Does.{ToldAt}
use Rattle.crew.specs.Crew.{HaveWorked}
use Rattle.script_session.specs.Clients.{AreUnheard}
use Rattle.script_session.specs.Members.{AllSkipped, Serves, ends_of, told_of, unlodged_of}
use Rattle.script_session.specs.declared.members.Member.{Member}
use Rattle.script_session.specs.declared.session.Left.{Left}
use Rattle.script_session.specs.declared.session.Notified.{Notified}

-- there is room for what so many members leave
pub record HasRoom {N : Type 0} (members : ℕ) (left : Left N) : Type 0 where
  pub clients : length left.end.clients.items + members ≤ vec_capacity left.end.clients
  pub told : length left.notified.told.items + members ≤ vec_capacity left.notified.told
  pub unlodged : length left.notified.unlodged.items + members ≤ vec_capacity left.notified.unlodged

-- nobody has left anything yet
pub record IsNothing {N : Type 0} (left : Left N) : Type 0 where
  pub clients : left.end.clients.items ≡ []
  pub told : left.notified.told.items ≡ []
  pub unlodged : left.notified.unlodged.items ≡ []

-- Of each of so many seats behind the first, in order, who was told at its calls: just those whose queries settled there, each having
-- heard its own end. The notifiers that no query has have heard nothing.
pub record AreNotified {N : Type 0} (heard : N → Option Outcome) (number : N → ℕ) (members : ℕ) (h : List (Entry Meaning)) (notified : Notified N) : Type 0 where
  pub count : length notified.told.items ≡ members
  pub told : (k : ℕ) (fired : List (Notice N)) → slice_get notified.told.items k ≡ Some fired → ToldAt h (numbered_calls (1 + k) 1 h) fired × AreHeard heard fired
  pub unlodged : All (λ notes. AreUnheard heard number notes.items) notified.unlodged.items

module _ {N : Type 0} where
  -- what members leave was taken in, the last one's first
  pub record HasTaken {U G : Type 0} (old new : Left N) (members : List (Member U N G)) : Type 0 where
    pub set_up : new.end.set_up ≡ old.end.set_up
    pub clients : map (λ c. c.items) new.end.clients.items ≡ map (λ c. c.items) old.end.clients.items ++ ends_of members
    pub told : new.notified.told.items ≡ old.notified.told.items ++ told_of members
    pub unlodged : map (λ c. c.items) new.notified.unlodged.items ≡ map (λ c. c.items) old.notified.unlodged.items ++ unlodged_of members

module _ {U N : Type 0} (means : U → Meaning) (heard : N → Option Outcome) (number : N → ℕ) (jmax : ℕ) where
  -- all worked; or, where the set-up was stopped, nobody did
  abbrev pub WorkedBy : {G : Type 0} → Option Stop → View (Entry U) → View (Entry U) → List (Member U N G) → List (Member U N G) → Type 0
  WorkedBy None v w old new = HaveWorked seat_of (Serves means heard number jmax) v w old new
  WorkedBy (Some st) v w old new = (w ≡ v) × AllSkipped means heard number old new

  -- so, and what they left was taken in
  abbrev pub HaveLeft : {G : Type 0} → View (Entry U) → View (Entry U) → List (Member U N G) → Left N → Left N → Type 0
  HaveLeft {G} v w members old new = (done : List (Member U N G)) × WorkedBy old.end.set_up v w members done × HasTaken old new done
