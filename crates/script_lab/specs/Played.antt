-- A journal that was played on a plain session.
use Rattle.std.specs.Prelude.{List}
use Rattle.session_check.specs.Replay.{LedTo}
use Rattle.session_model.specs.State.{plain_history}
use Rattle.session_model.specs.declared.entry.Entry.{Entry}
use Rattle.session_plain.specs.Meant.{meant}
use Rattle.script_lab.specs.Units.{lab_meaning}
use Rattle.script_lab.specs.declared.replay.Replay.{Replay}
use Rattle.script_lab.specs.declared.unit.LabUnit.{LabUnit}

-- these entries led to its session, and to these ends of its queries
abbrev pub IsPlayed : List (Entry LabUnit) → Replay → Type 0
IsPlayed h r = LedTo (plain_history lab_meaning h) (meant lab_meaning r.plain) r.ends.items
