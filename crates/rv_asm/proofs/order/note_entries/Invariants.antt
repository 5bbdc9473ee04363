use Rattle.std.proofs.Common.{◌≡◌, ℕ, List, length, get_or, take}
use Rattle.rv_asm.specs.Symbols.{place_from}
use Rattle.rv_asm.proofs.order.note_entries.Given as goal

-- the numbers so far have their places
pub record Placed (entries numbers : List ℕ) (initial : ℕ) : Type 0 where
  pub len : length entries ≡ initial
  pub placed : (n : ℕ) → get_or entries n 0 ≡ place_from 1 n numbers

abbrev pub invariant-loop-i : goal.invariant-loop-i
invariant-loop-i l = Placed l.entries (take l.i l.numbers) (length l.fn.entries)
