-- The calls of each seat in a history.
use Rattle.std.proofs.Common.{◌≡◌, ℕ, ◌+◌, ◌<◌, List, [], ◌∷◌, ◌++◌, length, All, ◌⊎◌, inl, inr, refl, sym, ap, ◌∙◌, arith, append_assoc, subst}
use Rattle.std.specs.List.{AllByRecursion}
use Rattle.std.proofs.lemmas.Bool.{cases_eq}
use Rattle.std.proofs.lemmas.List.Elements.{All-head, All-tail}
use Rattle.session_model.specs.Calls.{IsJob, numbered_calls}
use Rattle.session_model.specs.Meaning.{Meaning}
use Rattle.session_model.specs.History.{IsLegal}
use Rattle.session_model.specs.declared.entry.Entry.{Entry}
use Rattle.session_model.specs.declared.entry.Event.TheVariants as event
use Rattle.session_laws.proofs.Declared.{prefixes_legal, call_first, call_skipped}
use Rattle.closure_laws.proofs.Declared.{OneMore, one_more}
use Rattle.run_laws.specs.Runs.{AreJobs, NoJob, OneMore as AnotherJob}

-- Lists

pub same_head : {X : Type 0} (x y : X) (xs ys : List X) → x ∷ xs ≡ y ∷ ys → x ≡ y
same_head x y xs ys e = cc

pub same_tail : {X : Type 0} (x y : X) (xs ys : List X) → x ∷ xs ≡ y ∷ ys → xs ≡ ys
same_tail x y xs ys e = cc

pub not_empty : {X P : Type 0} (x : X) (xs : List X) → x ∷ xs ≡ [] → P
not_empty x xs e = absurd (cc)

-- a list with an element in it isn't empty
pub never_empty : {X P : Type 0} (xs : List X) (x : X) (ys : List X) → xs ++ x ∷ ys ≡ [] → P
never_empty [] x ys e = not_empty x ys e
never_empty (z ∷ zs) x ys e = not_empty z (zs ++ x ∷ ys) e

-- two lists that are the same have the same last element
pub same_last : {X : Type 0} (xs ys : List X) (x y : X) → xs ++ x ∷ [] ≡ ys ++ y ∷ [] → x ≡ y
same_last [] [] x y e = same_head x y [] [] e
same_last [] (b ∷ bs) x y e = never_empty bs y [] (sym (same_tail x b [] (bs ++ y ∷ []) e))
same_last (a ∷ rest) [] x y e = never_empty rest x [] (same_tail a y (rest ++ x ∷ []) [] e)
same_last (a ∷ rest) (b ∷ bs) x y e = same_last rest bs x y (same_tail a b (rest ++ x ∷ []) (bs ++ y ∷ []) e)

-- and the same elements before it
pub same_front : {X : Type 0} (xs ys : List X) (x y : X) → xs ++ x ∷ [] ≡ ys ++ y ∷ [] → xs ≡ ys
same_front [] [] x y e = refl
same_front [] (z ∷ zs) x y e = never_empty zs y [] (sym (same_tail x z [] (zs ++ y ∷ []) e))
same_front (z ∷ zs) [] x y e = never_empty zs x [] (same_tail z y (zs ++ x ∷ []) [] e)
same_front (z ∷ zs) (w ∷ ws) x y e = cons (same_head z w (zs ++ x ∷ []) (ws ++ y ∷ []) e) (same_front zs ws x y (same_tail z w (zs ++ x ∷ []) (ws ++ y ∷ []) e))
  where
    cons : z ≡ w → zs ≡ ws → z ∷ zs ≡ w ∷ ws
    cons a b = ap (λ c. c ∷ zs) a ∙ ap (λ l. w ∷ l) b

-- The calls of each seat

-- a fact of them all is one of each entry
pub each_seat : (P : Entry Meaning → Type 0) (n : ℕ) (es : List (Entry Meaning)) → ((s : ℕ) → AllByRecursion (λ (c : ℕ × Entry Meaning). P c.1) (numbered_calls s n es)) → AllByRecursion P es
each_seat P n [] each = tt
each_seat P n (e ∷ es) each = (
  (subst Q (call_first e.seat.0 n e es refl) (each e.seat.0)).0,
  each_seat P (n + 1) es (λ s. others s (each s) (cases_eq e.seat.0 s)),
)
  where
    Q : List (ℕ × Entry Meaning) → Type 0
    Q cs = AllByRecursion (λ (c : ℕ × Entry Meaning). P c.1) cs

    others : (s : ℕ) → Q (numbered_calls s n (e ∷ es)) → (e.seat.0 ≡ s) ⊎ (e.seat.0 ≡ s → ⊥) → Q (numbered_calls s (n + 1) es)
    others s a (inl is) = (subst Q (call_first s n e es is) a).1
    others s a (inr apart) = subst Q (call_skipped s n e es apart) a

-- The calls of one seat

-- entries of seat 0 are no calls of another seat
pub calls_past : (s n : ℕ) (xs ys : List (Entry Meaning)) → All (λ (e : Entry Meaning). e.seat.0 ≡ 0) xs → 0 < s → numbered_calls s n (xs ++ ys) ≡ numbered_calls s (n + length xs) ys
calls_past s n [] ys a b = ap (λ k. numbered_calls s k ys) (omega arith)
calls_past s n (x ∷ xs) ys a b =
    let zero_seat = All-head (λ (e : Entry Meaning). e.seat.0 ≡ 0) x xs a in
    call_skipped s n x (xs ++ ys) (λ is. omega (arith, is, zero_seat, b))
    ∙ (calls_past s (n + 1) xs ys (All-tail (λ (e : Entry Meaning). e.seat.0 ≡ 0) x xs a) b ∙ ap (λ k. numbered_calls s k ys) (omega arith))

-- the entry of a call stands in the history
pub record StandsIn (es : List (Entry Meaning)) (e : Entry Meaning) : Type 0 where
  pub past : List (Entry Meaning)
  pub rest : List (Entry Meaning)
  pub parts : es ≡ past ++ e ∷ rest

pub call_stands : (s n : ℕ) (es : List (Entry Meaning)) (before later : List (ℕ × Entry Meaning)) (c : ℕ × Entry Meaning) → numbered_calls s n es ≡ before ++ c ∷ later → StandsIn es c.1
call_stands s n [] before later c e = never_empty before c later (sym e)
call_stands s n (x ∷ xs) before later c e = by_seat (λ front f. call_stands s (n + 1) xs front later c f) (cases_eq x.seat.0 s)
  where
    Before : Type 0
    Before = (front : List (ℕ × Entry Meaning)) → numbered_calls s (n + 1) xs ≡ front ++ c ∷ later → StandsIn xs c.1

    on : StandsIn xs c.1 → StandsIn (x ∷ xs) c.1
    on p = record { past = x ∷ p.past; rest = p.rest; parts = ap (λ l. x ∷ l) p.parts }

    by_front : Before → (front : List (ℕ × Entry Meaning)) → (n, x) ∷ numbered_calls s (n + 1) xs ≡ front ++ c ∷ later → StandsIn (x ∷ xs) c.1
    by_front stands [] f = record { past = []; rest = xs; parts = ap (λ (d : ℕ × Entry Meaning). d.1 ∷ xs) (same_head (n, x) c (numbered_calls s (n + 1) xs) later f) }
    by_front stands (b ∷ bs) f = on (stands bs (same_tail (n, x) b (numbered_calls s (n + 1) xs) (bs ++ c ∷ later) f))

    by_seat : Before → (x.seat.0 ≡ s) ⊎ (x.seat.0 ≡ s → ⊥) → StandsIn (x ∷ xs) c.1
    by_seat stands (inl is) = by_front stands before (sym (call_first s n x xs is) ∙ e)
    by_seat stands (inr apart) = on (stands before (sym (call_skipped s n x xs apart) ∙ e))

-- the entry that stands in a legal history is a right one
pub legal_at : (jmax : ℕ) (past : List (Entry Meaning)) (e : Entry Meaning) (rest : List (Entry Meaning)) → IsLegal jmax (past ++ e ∷ rest) → OneMore jmax past e
legal_at jmax past e rest l = one_more jmax past e ((prefixes_legal jmax (past ++ e ∷ []) rest).0 (subst (IsLegal jmax) (sym (append_assoc past (e ∷ []) rest)) l))

-- jobs begin with a take
pub jobs_begin : (h : List (Entry Meaning)) (cs : List (ℕ × Entry Meaning)) → AreJobs h cs → (c : ℕ × Entry Meaning) (rest : List (ℕ × Entry Meaning)) → cs ≡ c ∷ rest → c.1.event ≡ event.Take
jobs_begin h cs NoJob c rest e = not_empty c rest (sym e)
jobs_begin h cs (AnotherJob [] job jobs is) c rest e = by_job job is e
  where
    by_job : (job : List (ℕ × Entry Meaning)) → IsJob h job → job ≡ c ∷ rest → c.1.event ≡ event.Take
    by_job [] is e = absurd is
    by_job (d ∷ ds) is e = ap (λ (f : ℕ × Entry Meaning). f.1.event) (sym (same_head d c ds rest e)) ∙ is.0
jobs_begin h cs (AnotherJob (b ∷ bs) job jobs is) c rest e = ap (λ (f : ℕ × Entry Meaning). f.1.event) (sym (same_head b c (bs ++ job) rest e)) ∙ jobs_begin h (b ∷ bs) jobs b bs refl
