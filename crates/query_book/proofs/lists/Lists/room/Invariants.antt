use Rattle.std.proofs.Common.{◌≡◌, ◌≤◌, ℕ, length, take}
use Rattle.query_book.specs.Counts.{list_at, total}
use Rattle.query_book.specs.Lists.{HasLists}
use Rattle.query_book.proofs.lists.Lists.room.Given as goal

abbrev pub invariant-loop-found : goal.invariant-loop-found
invariant-loop-found l = record {
  there : HasLists l.self.lists (take l.found-index l.matched);
  room : length l.matched ≤ l.self.spare;
  lists : (i : ℕ) → list_at l.self.lists i ≡ list_at l.fn.self.lists i;
  totals : (k : ℕ) → total k l.self.lists ≡ total k l.fn.self.lists;
}
