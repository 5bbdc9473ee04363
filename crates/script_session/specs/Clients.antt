-- What a client's seat did, and who was told at its calls.
use Rattle.std.specs.Prelude.{◌≡◌, ◌≤◌, ℕ, Bool, true, false, List, [], ◌++◌, slice_get, vec_capacity, All, Option, None, Some}
use Rattle.orc_ids.specs.declared.lookup.Outcome.{Outcome}
use Rattle.orc_ids.specs.declared.lookup.Stop.{Stop}
use Rattle.session_model.specs.Meaning.{Meaning}
use Rattle.session_model.specs.declared.entry.Entry.{Entry}
use Rattle.notifiers.specs.declared.notice.Notice.{Notice}
use Rattle.turn_lock.specs.declared.view.View.{View}
use Rattle.shared_session.specs.Did.{Promise}
use Rattle.session_model.specs.Stopped.{IsStoppedBy}
use Rattle.link_worker.specs.Does.{Does}
use Rattle.link_worker.specs.Works.{WasStopped}
use Rattle.script_model.specs.Given.{Given}
use Rattle.script_model.specs.Asking.{Line}
use Rattle.script_model.specs.Lines.{AreLines, AreSkipped, CallsOf, IsLine}
use Rattle.script_model.specs.declared.line_end.LineEnd.{LineEnd}
use Rattle.script_model.specs.declared.line_end.LineEnd.TheVariants.{Stopped}
use Rattle.script_session.specs.Lines.{AreSame}
use Rattle.script_session.specs.declared.client.ClientEnd.{ClientEnd}

-- nothing yet, with room for so many lines
pub record IsEmpty {N : Type 0} (lines : ℕ) (client : ClientEnd N) : Type 0 where
  pub none : client.lines.items ≡ []
  pub room : lines ≤ vec_capacity client.lines
  pub none_unlodged : client.unlodged.items ≡ []
  pub unlodged_room : lines ≤ vec_capacity client.unlodged

-- notifiers that have heard nothing, each with the note of its number
abbrev pub AreUnheard : {N : Type 0} → (N → Option Outcome) → (N → ℕ) → List (ℕ × N) → Type 0
AreUnheard heard number notes = All (λ w. (heard w.1 ≡ None) × (number w.1 ≡ w.0)) notes

-- the calls of a line, which ended so; or those of one that was stopped
abbrev pub Makes : Given → Line → LineEnd → Promise
Makes given line end h cs = IsLine h given line end cs

abbrev pub Begins : Stop → Given → Line → Promise
Begins st given line h cs = IsStoppedBy st (CallsOf h given line) cs

-- the calls of lines, which ended so
abbrev pub MakesAll : List Line → List LineEnd → Promise
MakesAll lines ends h cs = AreLines h [] lines ends cs

-- the calls of some lines, after which others may go on; names are given these addresses then
abbrev pub Going : Given → List Line → List LineEnd → Promise
Going given done ends h cs = (lines : List Line) (es : List LineEnd) (later : List (ℕ × Entry Meaning)) → AreLines h given lines es later → AreLines h [] (done ++ lines) (ends ++ es) (cs ++ later)

-- the calls of some lines, of which one was stopped: others are skipped
abbrev pub Halted : List Line → List LineEnd → Promise
Halted done ends h cs = (lines : List Line) (es : List LineEnd) → AreSkipped lines es → AreLines h [] (done ++ lines) (ends ++ es) cs

module _ {U N : Type 0} (means : U → Meaning) (heard : N → Option Outcome) (jmax : ℕ) where
  -- the seat did a line, which ended so; names were given these addresses before
  abbrev pub HasDone : Given → Line → LineEnd → View (Entry U) → View (Entry U) → List (Notice N) → List (Notice N) → Type 0
  HasDone given line (Stopped st) v w old new = Does means heard v w old new (Begins st given line) × WasStopped means jmax v.seen w.seen st
  HasDone given line end v w old new = Does means heard v w old new (Makes given line end)

  -- the seat did some lines, and was stopped in one, or not; the table has the addresses that names were given
  pub record HasDoneSome (lines : List Line) (ends : List LineEnd) (stopped : Bool) (table : Given) (v w : View (Entry U)) (old new : List (Notice N)) : Type 0 where
    pub going : stopped ≡ false → (given : Given) × AreSame table given × Does means heard v w old new (Going given lines ends)
    pub halted : stopped ≡ true → Does means heard v w old new (Halted lines ends)
    pub causes : (i : ℕ) (st : Stop) → slice_get ends i ≡ Some (Stopped st) → WasStopped means jmax v.seen w.seen st

  -- the seat did a client's lines
  pub record HasDoneAll (lines : List Line) (ends : List LineEnd) (v w : View (Entry U)) (old new : List (Notice N)) : Type 0 where
    pub does : Does means heard v w old new (MakesAll lines ends)
    pub causes : (i : ℕ) (st : Stop) → slice_get ends i ≡ Some (Stopped st) → WasStopped means jmax v.seen w.seen st
