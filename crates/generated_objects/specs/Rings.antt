-- Functions in rings: each calls the next of its ring.
use Rattle.std.specs.Prelude.{ℕ, ◌+◌, ◌-◌, ◌%◌, ◌==◌, ◌||◌, if◌then◌else◌}

-- how many functions a ring has; the last ring may have fewer
abbrev pub RING : ℕ
RING = 7

-- the first of the ring of function k
abbrev pub first_of : ℕ → ℕ
first_of k = k - k % RING

-- the function after k, of so many in all; after the last of a ring comes its first
abbrev pub next : ℕ → ℕ → ℕ
next n k = if (k + 1) % RING == 0 || k + 1 == n then first_of k else k + 1
