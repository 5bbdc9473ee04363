-- Seats at work on posts.
use Rattle.std.specs.Prelude.{◌<◌, ◌≤◌}
use Rattle.turn_lock.specs.Handles.{turn_id, post_count, IsReady}
use Rattle.turn_lock.specs.declared.turn.Turn.{Turn}
use Rattle.turn_soak.specs.declared.words.Watcher.{Watcher}

-- it can begin on this turn: its posts are some of the turn's
abbrev pub IsAble : {T E : Type 0} → Turn T E → Watcher → Type 0
IsAble turn w = IsReady (turn_id turn) w.seat × (0 < w.posts) × (w.posts ≤ post_count turn)
