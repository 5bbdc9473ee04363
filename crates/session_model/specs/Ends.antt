-- How a lookup ended: as its last call was answered.
use Rattle.std.specs.Prelude.{◌≡◌, ℕ, List, [], ◌∷◌, ◌++◌}
use Rattle.session_model.specs.Meaning.{Meaning}
use Rattle.session_model.specs.declared.entry.Entry.{Entry}
use Rattle.session_model.specs.declared.entry.Reply.{Reply}
use Rattle.session_model.specs.declared.entry.Reply.TheVariants as reply
use Rattle.session_model.specs.declared.look_end.LookEnd.{LookEnd}
use Rattle.session_model.specs.declared.look_end.LookEnd.TheVariants.{Found, Failed, InError, Missing, NoDylib, JournalFull, NoMemory}

-- the last call was answered so
pub record LastIs (cs : List (ℕ × Entry Meaning)) (r : Reply) : Type 0 where
  pub before : List (ℕ × Entry Meaning)
  pub number : ℕ
  pub entry : Entry Meaning
  pub are : cs ≡ before ++ (number, entry) ∷ []
  pub reply : entry.reply ≡ r

-- the lookup ended as its last call was answered; or it was stopped
abbrev pub EndsAs : LookEnd → List (ℕ × Entry Meaning) → Type 0
EndsAs (Found matches) cs = (at : ℕ) × LastIs cs (reply.Found at matches)
EndsAs (Failed i) cs = (at : ℕ) × LastIs cs (reply.Lost at i)
EndsAs (InError i) cs = LastIs cs (reply.InError i)
EndsAs (Missing name) cs = LastIs cs (reply.Missing name)
EndsAs (NoDylib d) cs = LastIs cs (reply.NoDylib d)
EndsAs (JournalFull len) cs = ⊥
EndsAs NoMemory cs = ⊥
