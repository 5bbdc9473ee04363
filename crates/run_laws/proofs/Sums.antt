-- The entries of a history are the calls of its seats.
use Rattle.std.proofs.Common.{◌≡◌, ℕ, zero, suc, ◌+◌, ◌<◌, ◌≤◌, List, [], ◌∷◌, All, ◌⊎◌, inl, inr, refl, sym, ap, ◌∙◌, subst, arith}
use Rattle.std.specs.List.{AllByRecursion}
use Rattle.std.proofs.lemmas.Bool.{cases_eq, cases_lt}
use Rattle.std.proofs.lemmas.List.Elements.{All-head, All-tail}
use Rattle.session_model.specs.Calls.{numbered_calls}
use Rattle.session_model.specs.Meaning.{Meaning}
use Rattle.session_model.specs.declared.entry.Entry.{Entry}
use Rattle.session_laws.proofs.Declared.{call_first, call_skipped}
use Rattle.run_laws.proofs.Falling.{total}

-- over the seats below one
abbrev pub over_seats : (ℕ → ℕ) → ℕ → ℕ
over_seats g zero = 0
over_seats g (suc s) = g s + over_seats g s

-- what the calls of a seat come to
abbrev pub weighed : (Entry Meaning → ℕ) → ℕ → List (Entry Meaning) → ℕ → ℕ
weighed f n es s = total (λ (c : ℕ × Entry Meaning). f c.1) (numbered_calls s n es)

weighed_here : (f : Entry Meaning → ℕ) (n : ℕ) (e : Entry Meaning) (es : List (Entry Meaning)) (s : ℕ) → e.seat.0 ≡ s → weighed f n (e ∷ es) s ≡ f e + weighed f (n + 1) es s
weighed_here f n e es s is = ap (total (λ (c : ℕ × Entry Meaning). f c.1)) (call_first s n e es is)

weighed_elsewhere : (f : Entry Meaning → ℕ) (n : ℕ) (e : Entry Meaning) (es : List (Entry Meaning)) (s : ℕ) → (e.seat.0 ≡ s → ⊥) → weighed f n (e ∷ es) s ≡ weighed f (n + 1) es s
weighed_elsewhere f n e es s apart = ap (total (λ (c : ℕ × Entry Meaning). f c.1)) (call_skipped s n e es apart)

-- an entry counts once, where its seat is among them
seat_past : (f : Entry Meaning → ℕ) (n : ℕ) (e : Entry Meaning) (es : List (Entry Meaning)) (s : ℕ) → s ≤ e.seat.0 → over_seats (weighed f n (e ∷ es)) s ≡ over_seats (weighed f (n + 1) es) s
seat_past f n e es zero le = refl
seat_past f n e es (suc s) le = omega (arith, weighed_elsewhere f n e es s (λ is. omega (arith, is, le)), seat_past f n e es s (omega (arith, le)))

seat_within : (f : Entry Meaning → ℕ) (n : ℕ) (e : Entry Meaning) (es : List (Entry Meaning)) (s : ℕ) → e.seat.0 < s → over_seats (weighed f n (e ∷ es)) s ≡ f e + over_seats (weighed f (n + 1) es) s
seat_within f n e es zero lt = absurd (omega (arith, lt))
seat_within f n e es (suc s) lt = split (cases_eq e.seat.0 s) (λ less. seat_within f n e es s less)
  where
    split : (e.seat.0 ≡ s) ⊎ (e.seat.0 ≡ s → ⊥) → (e.seat.0 < s → over_seats (weighed f n (e ∷ es)) s ≡ f e + over_seats (weighed f (n + 1) es) s) → over_seats (weighed f n (e ∷ es)) (suc s) ≡ f e + over_seats (weighed f (n + 1) es) (suc s)
    split (inl is) before = omega (arith, weighed_here f n e es s is, seat_past f n e es s (omega (arith, is)))
    split (inr apart) before = let b = before (omega (arith, apart, lt)) in omega (arith, weighed_elsewhere f n e es s apart, b)

-- together they come to no more than the entries
pub seats_at_most : (f : Entry Meaning → ℕ) (n : ℕ) (es : List (Entry Meaning)) (s : ℕ) → over_seats (weighed f n es) s ≤ total f es
seats_at_most f n [] s = none s
  where
    none : (s : ℕ) → over_seats (weighed f n []) s ≤ 0
    none zero = omega arith
    none (suc k) = omega (arith, none k)
seats_at_most f n (e ∷ es) s = split (cases_lt e.seat.0 s) (seats_at_most f (n + 1) es s)
  where
    split : (e.seat.0 < s) ⊎ (s ≤ e.seat.0) → over_seats (weighed f (n + 1) es) s ≤ total f es → over_seats (weighed f n (e ∷ es)) s ≤ total f (e ∷ es)
    split (inl lt) rest = omega (arith, seat_within f n e es s lt, rest)
    split (inr ge) rest = omega (arith, seat_past f n e es s ge, rest)

-- a number above all seats
abbrev pub above : List (Entry Meaning) → ℕ
above [] = 0
above (e ∷ es) = e.seat.0 + 1 + above es

-- below such a number they come to as much
pub seats_at_least : (f : Entry Meaning → ℕ) (n : ℕ) (es : List (Entry Meaning)) (s : ℕ) → above es ≤ s → total f es ≤ over_seats (weighed f n es) s
seats_at_least f n [] s le = omega arith
seats_at_least f n (e ∷ es) s le = omega (arith, seat_within f n e es s (omega (arith, le)), seats_at_least f (n + 1) es s (omega (arith, le)))

-- Facts of the entries, and of the calls of each seat

-- a fact of each seat's calls is one of each entry
pub each_entry : (P : Entry Meaning → Type 0) (n : ℕ) (es : List (Entry Meaning)) → All (λ (e : Entry Meaning). 0 < e.seat.0) es → ((s : ℕ) → 0 < s → AllByRecursion (λ (c : ℕ × Entry Meaning). P c.1) (numbered_calls s n es)) → AllByRecursion P es
each_entry P n [] seated each = tt
each_entry P n (e ∷ es) seated each = (
  (subst Q (call_first e.seat.0 n e es refl) (each e.seat.0 (All-head (λ (d : Entry Meaning). 0 < d.seat.0) e es seated))).0,
  each_entry P (n + 1) es (All-tail (λ (d : Entry Meaning). 0 < d.seat.0) e es seated) (λ s b. others s (each s b) (cases_eq e.seat.0 s)),
)
  where
    Q : List (ℕ × Entry Meaning) → Type 0
    Q cs = AllByRecursion (λ (c : ℕ × Entry Meaning). P c.1) cs

    others : (s : ℕ) → Q (numbered_calls s n (e ∷ es)) → (e.seat.0 ≡ s) ⊎ (e.seat.0 ≡ s → ⊥) → Q (numbered_calls s (n + 1) es)
    others s a (inl is) = (subst Q (call_first s n e es is) a).1
    others s a (inr apart) = subst Q (call_skipped s n e es apart) a

-- and the other way round
pub each_call : (P : Entry Meaning → Type 0) (s n : ℕ) (es : List (Entry Meaning)) → AllByRecursion P es → AllByRecursion (λ (c : ℕ × Entry Meaning). P c.1) (numbered_calls s n es)
each_call P s n [] a = tt
each_call P s n (e ∷ es) a = split (cases_eq e.seat.0 s) (each_call P s (n + 1) es a.1)
  where
    Q : List (ℕ × Entry Meaning) → Type 0
    Q cs = AllByRecursion (λ (c : ℕ × Entry Meaning). P c.1) cs

    split : (e.seat.0 ≡ s) ⊎ (e.seat.0 ≡ s → ⊥) → Q (numbered_calls s (n + 1) es) → Q (numbered_calls s n (e ∷ es))
    split (inl is) rest = subst Q (sym (call_first s n e es is)) (a.0, rest)
    split (inr apart) rest = subst Q (sym (call_skipped s n e es apart)) rest

-- seat 0 has no call where each seat is another
pub no_calls : (n : ℕ) (es : List (Entry Meaning)) → All (λ (e : Entry Meaning). 0 < e.seat.0) es → numbered_calls 0 n es ≡ []
no_calls n [] seated = refl
no_calls n (e ∷ es) seated =
    let b = All-head (λ (d : Entry Meaning). 0 < d.seat.0) e es seated in
    call_skipped 0 n e es (λ is. omega (arith, is, b)) ∙ no_calls (n + 1) es (All-tail (λ (d : Entry Meaning). 0 < d.seat.0) e es seated)
