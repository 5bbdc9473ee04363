-- The seat that sets a session up, while no other seat is there.
use Rattle.std.specs.Prelude.{◌≡◌, ℕ, [], All}
use Rattle.session_model.specs.Meaning.{Meaning}
use Rattle.session_model.specs.declared.entry.Entry.{Entry}
use Rattle.turn_lock.specs.declared.view.View.{View}
use Rattle.turn_lock.specs.Lists.{entries_of}
use Rattle.shared_session.specs.Home.{IsLawful, seat_of}

-- the one seat that is there has number 0, and spares all others; all that it has seen is its own
pub record IsFirst {U : Type 0} (means : U → Meaning) (jmax : ℕ) (v : View (Entry U)) : Type 0 where
  pub number : v.number ≡ 0
  pub from : v.spare_from ≡ 1
  pub to : v.spare_to ≡ v.seats
  pub ended : v.ended ≡ []
  pub own : All (λ (e : Entry U). e.seat.0 ≡ 0) v.seen
  pub mine : entries_of seat_of v.number v.seen ≡ v.mine
  pub lawful : IsLawful means jmax v.seen
