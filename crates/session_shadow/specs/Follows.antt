-- The plain session beside a session.
use Rattle.std.specs.Prelude.{◌≡◌, ◌<◌, ◌^◌, List, length}
use Rattle.session_model.specs.State.{plain_history}
use Rattle.session_model.specs.declared.entry.Entry.{Entry}
use Rattle.session_check.specs.Known.{Known, known_meaning}
use Rattle.session_check.specs.Replay.{LedTo}
use Rattle.session_plain.specs.Meant.{meant}
use Rattle.session_shadow.specs.declared.shadow.Shadow.{Shadow}

-- the entries led to it
pub record Follows (h : List (Entry Known)) (s : Shadow) : Type 0 where
  pub seen : s.seen ≡ length h
  pub few : length h < 2 ^ 32
  pub led : LedTo (plain_history known_meaning h) (meant known_meaning s.plain) s.ends.items

-- some entries did
abbrev pub IsShadow : Shadow → Type 0
IsShadow s = (h : List (Entry Known)) × Follows h s
