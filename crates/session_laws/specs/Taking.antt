-- A take always has an answer.
use Rattle.std.specs.Prelude.{◌≡◌, ℕ, List, ◌∷◌}
use Rattle.session_model.specs.Meaning.{Meaning}
use Rattle.session_model.specs.State.{state}
use Rattle.session_model.specs.History.{IsLegal}
use Rattle.session_model.specs.Answer.{Answers}
use Rattle.session_model.specs.declared.entry.Entry.{Entry}
use Rattle.session_model.specs.declared.entry.Event.TheVariants as event
use Rattle.session_model.specs.declared.entry.Reply.{Reply}
use Rattle.session_model.specs.declared.rows.Job.{Job}

-- Where a job is listed, a take has a right reply: the link query of a unit whose job Finish comes
-- first has its end.
abbrev pub TakeIsAnswered : Type 0
TakeIsAnswered = (jmax : ℕ) (h : List (Entry Meaning)) (s : ℕ) (j : Job) (js : List Job) → IsLegal jmax h → (state h).jobs ≡ j ∷ js → (r : Reply) × Answers jmax h (state h) s event.Take r
