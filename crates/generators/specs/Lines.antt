-- The line of a name in a dylib: those who have joined it, first come first.
use Rattle.std.specs.Prelude.{◌≡◌, ℕ, zero, suc, ◌+◌, ◌≤◌, ◌&&◌, Bool, List, [], ◌∷◌, ◌++◌, nat_eq, unwrap_or, if◌then◌else◌}
use Rattle.std.specs.HashMap.{spare}
use Rattle.std.specs.Map.{lookup}
use Rattle.generators.specs.declared.lines.Line.{Line}
use Rattle.generators.specs.declared.lines.Lines.{Lines}

-- how many have joined a line, and who of them waits, in order
pub record Queue : Type 0 where
  pub joined : ℕ
  pub waiting : List ℕ

-- a line that nobody has joined
abbrev pub nobody : Queue
nobody = record { joined = 0; waiting = [] }

-- one more joins it, at its end
abbrev pub joined_by : ℕ → Queue → Queue
joined_by g q = record { joined = q.joined + 1; waiting = q.waiting ++ g ∷ [] }

-- those who wait, from the first on that isn't spent
abbrev pub from_unspent : (ℕ → Bool) → List ℕ → List ℕ
from_unspent spent [] = []
from_unspent spent (g ∷ gs) = if spent g then from_unspent spent gs else g ∷ gs

-- the spent ones at its head have left it
abbrev pub without_spent : (ℕ → Bool) → Queue → Queue
without_spent spent q = record q { waiting = from_unspent spent q.waiting }

-- How the lines are kept: a line by its name, and who joined it by the turn

abbrev pub same_line : ℕ × ℕ → ℕ × ℕ → Bool
same_line x y = nat_eq x.0 y.0 && nat_eq x.1 y.1

abbrev pub same_turn : ℕ × ℕ × ℕ → ℕ × ℕ × ℕ → Bool
same_turn x y = (nat_eq x.0 y.0 && nat_eq x.1 y.1) && nat_eq x.2 y.2

abbrev pub line_at : List ((ℕ × ℕ) × Line) → ℕ → ℕ → Line
line_at lines d name = unwrap_or (lookup (same_line (d, name)) lines) (record { first = 0; waiting = 0 })

abbrev pub turn_at : List ((ℕ × ℕ × ℕ) × ℕ) → ℕ → ℕ → ℕ → ℕ
turn_at turns d name k = unwrap_or (lookup (same_turn (d, name, k)) turns) 0

-- those of so many turns, from one on
abbrev pub turns_from : (ℕ → ℕ) → ℕ → ℕ → List ℕ
turns_from who k zero = []
turns_from who k (suc n) = who k ∷ turns_from who (k + 1) n

abbrev pub queue_in : List ((ℕ × ℕ × ℕ) × ℕ) → ℕ → ℕ → Line → Queue
queue_in turns d name x = record { joined = x.first + x.waiting; waiting = turns_from (turn_at turns d name) x.first x.waiting }

-- the line of a name in a dylib
abbrev pub queue_at : Lines → ℕ → ℕ → Queue
queue_at l d name = queue_in l.turns.entries d name (line_at l.lines.entries d name)

-- so many more may join
pub record HasRoom (n : ℕ) (l : Lines) : Type 0 where
  pub lines : n ≤ spare l.lines
  pub turns : n ≤ spare l.turns

-- each line of the dylib whose name passes is what f makes of it, and the others are as they were
abbrev pub ChangesLines : ℕ → (ℕ → Bool) → (Queue → Queue) → Lines → Lines → Type 0
ChangesLines d passes f old new = (e name : ℕ) → queue_at new e name ≡ (if nat_eq d e && passes name then f (queue_at old e name) else queue_at old e name)

-- each line is as it was
abbrev pub AreSameLines : Lines → Lines → Type 0
AreSameLines old new = (d name : ℕ) → queue_at new d name ≡ queue_at old d name

-- the line of the name is this one, and the others are as they were
abbrev pub PutsLine : ℕ → ℕ → Line → List ((ℕ × ℕ) × Line) → List ((ℕ × ℕ) × Line) → Type 0
PutsLine d name x old new = (e n : ℕ) → line_at new e n ≡ (if nat_eq d e && nat_eq name n then x else line_at old e n)

-- this one joined at the turn, and who joined at the others is as it was
abbrev pub PutsTurn : ℕ → ℕ → ℕ → ℕ → List ((ℕ × ℕ × ℕ) × ℕ) → List ((ℕ × ℕ × ℕ) × ℕ) → Type 0
PutsTurn d name k who old new = (e n j : ℕ) → turn_at new e n j ≡ (if (nat_eq d e && nat_eq name n) && nat_eq k j then who else turn_at old e n j)

-- those of so many turns of a name, from one on
abbrev pub waiting_from : List ((ℕ × ℕ × ℕ) × ℕ) → ℕ → ℕ → ℕ → ℕ → List ℕ
waiting_from turns d name k n = turns_from (turn_at turns d name) k n
