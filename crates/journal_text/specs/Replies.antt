-- The text of each reply.
use Rattle.std.specs.Prelude.{ℕ, List, ◌++◌, codes}
use Rattle.std.specs.Fmt.{decimal}
use Rattle.session_model.specs.declared.entry.Finishing.{Finishing}
use Rattle.session_model.specs.declared.entry.Finishing.TheVariants.{Bound, Lost}
use Rattle.session_model.specs.declared.entry.Reply.{Reply}
use Rattle.session_model.specs.declared.entry.Reply.TheVariants as reply
use Rattle.text_parts.specs.Hexadecimal.{hex}
use Rattle.journal_text.specs.Parts.{IsGiven, name_text, found_list_text, bound_list_text}

-- how a unit's link query ended
abbrev pub finishing_text : Finishing → List ℕ
finishing_text (Bound matches) = codes " bound" ++ bound_list_text matches
finishing_text (Lost i) = codes " lost i" ++ decimal i.0

-- `open` and `idle` make no entry, and have a text so that each reply has one
abbrev pub reply_text : List (List ℕ) → Reply → List ℕ
reply_text names (reply.NameTaken d) = codes "taken d" ++ decimal d.0
reply_text names reply.TooMany = codes "toomany"
reply_text names (reply.Made d) = codes "made d" ++ decimal d.0
reply_text names (reply.NoDylib d) = codes "nodylib d" ++ decimal d.0
reply_text names reply.Set = codes "set"
reply_text names (reply.TrackerGone t) = codes "gone t" ++ decimal t.0
reply_text names (reply.Generator g) = codes "generator g" ++ decimal g.0
reply_text names (reply.Duplicate name i) = codes "duplicate " ++ name_text names name ++ codes " i" ++ decimal i.0
reply_text names (reply.Defined u first count) = codes "defined u" ++ decimal u.0 ++ codes " i" ++ decimal first.0 ++ codes " " ++ decimal count
reply_text names (reply.NoGen g) = codes "nogen g" ++ decimal g.0
reply_text names (reply.Spent g) = codes "spent g" ++ decimal g.0
reply_text names (reply.Offer g) = codes "offer g" ++ decimal g.0
reply_text names (reply.InError i) = codes "inerror i" ++ decimal i.0
reply_text names (reply.Missing name) = codes "missing " ++ name_text names name
reply_text names (reply.AliasCycle i) = codes "aliascycle i" ++ decimal i.0
reply_text names (reply.Done q) = codes "done q" ++ decimal q.0
reply_text names (reply.Pending q) = codes "pending q" ++ decimal q.0
reply_text names (reply.Unknown q) = codes "unknown q" ++ decimal q.0
reply_text names reply.Open = codes "open"
reply_text names (reply.Found at matches) = codes "found " ++ decimal at ++ found_list_text matches
reply_text names (reply.Lost at i) = codes "failed " ++ decimal at ++ codes " i" ++ decimal i.0
reply_text names (reply.Idle held) = codes "idle " ++ decimal held
reply_text names (reply.Start u) = codes "start u" ++ decimal u.0
reply_text names (reply.Finish u end) = codes "finish u" ++ decimal u.0 ++ finishing_text end
reply_text names (reply.Defunct u) = codes "defunct u" ++ decimal u.0
reply_text names (reply.WrongPhase u) = codes "wrongphase u" ++ decimal u.0
reply_text names (reply.NoRoom need) = codes "noroom " ++ decimal need
reply_text names (reply.Placed base) = codes "placed " ++ hex base
reply_text names reply.Resolved = codes "resolved"
reply_text names (reply.BadDep i) = codes "baddep i" ++ decimal i.0
reply_text names reply.Emitted = codes "emitted"
reply_text names reply.Failed = codes "failed"
reply_text names (reply.Tracker t) = codes "tracker t" ++ decimal t.0
reply_text names reply.OtherDylib = codes "otherdylib"
reply_text names reply.Moved = codes "moved"
reply_text names reply.Removed = codes "removed"
reply_text names reply.Image = codes "image"

-- each name of a reply has a text
abbrev pub KnownReply : List (List ℕ) → Reply → Type 0
KnownReply names (reply.Duplicate name i) = IsGiven names name
KnownReply names (reply.Missing name) = IsGiven names name
KnownReply names _ = Unit {0}
