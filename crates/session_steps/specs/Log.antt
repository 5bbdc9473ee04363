-- What contracts see of a session.
use Rattle.std.specs.Prelude.{List, Option}
use Rattle.session_model.specs.declared.entry.Entry.{Entry}
use Rattle.session_steps.specs.declared.live.Live.{Live}
use Rattle.notifiers.specs.declared.notice.Unheard.{Unheard}

-- the entries so far, and the notifier of each query, until it is told or handed out
pub record Log (U N : Type 0) : Type 0 where
  pub journal : List (Entry U)
  pub armed : List (Option (Unheard N))

abbrev pub log_of : {U N : Type 0} → Live U N → Log U N
log_of c = record { journal = c.journal.items; armed = c.parts.book.armed }
