-- Which replies are left open.
use Rattle.std.specs.Prelude.{◌≡◌, ℕ, Bool, true, false, List}
use Rattle.session_model.specs.Meaning.{Meaning}
use Rattle.session_model.specs.State.{state}
use Rattle.session_model.specs.Answer.{Answers}
use Rattle.session_model.specs.declared.entry.Entry.{Entry}
use Rattle.session_model.specs.declared.entry.Event.{Event}
use Rattle.session_model.specs.declared.entry.Reply.{Reply}
use Rattle.session_model.specs.declared.entry.Reply.TheVariants as reply

abbrev pub is_placed : Reply → Bool
is_placed (reply.Placed base) = true
is_placed _ = false

-- An event has at most one right reply after a history, but for the base that a place chooses.
abbrev pub ReplyIsDetermined : Type 0
ReplyIsDetermined = (jmax : ℕ) (h : List (Entry Meaning)) (s : ℕ) (e : Event Meaning) (a b : Reply) → Answers jmax h (state h) s e a → Answers jmax h (state h) s e b → is_placed a ≡ false → is_placed b ≡ false → a ≡ b
