-- What a seat knows of its table's matches it knows after another line.
use Rattle.std.proofs.Common.{◌≡◌, ℕ, false, List, Option}
use Rattle.orc_ids.specs.declared.lookup.Outcome.{Outcome}
use Rattle.session_model.specs.Meaning.{Meaning}
use Rattle.session_model.specs.declared.entry.Entry.{Entry}
use Rattle.notifiers.specs.declared.notice.Notice.{Notice}
use Rattle.turn_lock.specs.declared.view.View.{View}
use Rattle.script_model.specs.Given.{Given}
use Rattle.script_model.specs.Asking.{Line}
use Rattle.script_model.specs.declared.line_end.LineEnd.{LineEnd}
use Rattle.script_session.specs.Clients.{HasDone}
use Rattle.script_session.specs.Lines.{is_stopped}
use Rattle.script_session.specs.Posts.{KnowsGiven}
use Rattle.script_session.proofs.ManyLines.{made_of}
use Rattle.script_session.proofs.Posting.{still_given}

pub known_after : {U N : Type 0} (means : U → Meaning) (heard : N → Option Outcome) (jmax : ℕ) (table : Given) (line : Line) (e : LineEnd) (v w : View (Entry U)) (a b : List (Notice N)) → is_stopped e ≡ false → HasDone means heard jmax table line e v w a b → KnowsGiven table v → KnowsGiven table w
known_after means heard jmax table line e v w a b isnt has known = still_given means table v w (made_of means heard jmax table line e v w a b isnt has).did.noted known
