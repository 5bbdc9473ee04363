-- Each take uses up a job, and a unit has two.
use Rattle.std.proofs.Common.{◌≡◌, ℕ, zero, suc, ◌+◌, ◌*◌, ◌<◌, ◌≤◌, Bool, true, false, List, [], ◌∷◌, ◌++◌, length, slice_get, ◌⊎◌, inl, inr, refl, sym, ap, ◌∙◌, subst, arith, Some, nat_lt}
use Rattle.std.specs.Bool.{if◌then◌else◌}
use Rattle.std.specs.List.{AllByRecursion}
use Rattle.std.proofs.lemmas.Bool.{cases_eq, cases_lt, lt-ltb, le-ltb}
use Rattle.std.proofs.lemmas.Option.{none-some, same_Some}
use Rattle.orc_ids.specs.declared.ids.UnitId.{UnitId}
use Rattle.session_model.specs.Answer.{Answers, AnswersFinish, AnswersTake}
use Rattle.session_model.specs.Change.{change_of, changed, finish_listed, finishing_unit, linked_unit, settled, started_unit, waits_for}
use Rattle.session_model.specs.History.{LegalFrom}
use Rattle.session_model.specs.Lists.{changed_at}
use Rattle.session_model.specs.Meaning.{Meaning}
use Rattle.session_model.specs.Plain.{Plain, UnitRow}
use Rattle.session_model.specs.Query.{is_met}
use Rattle.session_model.specs.State.{after, state_from}
use Rattle.session_model.specs.declared.change.Change.{Change}
use Rattle.session_model.specs.declared.change.Change.TheVariants.{Start, Finish}
use Rattle.session_model.specs.declared.entry.Entry.{Entry}
use Rattle.session_model.specs.declared.entry.Event.{Event}
use Rattle.session_model.specs.declared.entry.Event.TheVariants as event
use Rattle.session_model.specs.declared.entry.Finishing.{Finishing}
use Rattle.session_model.specs.declared.entry.Finishing.TheVariants as finishing
use Rattle.session_model.specs.declared.entry.Reply.{Reply}
use Rattle.session_model.specs.declared.entry.Reply.TheVariants as reply
use Rattle.session_model.specs.declared.rows.Job.{Job}
use Rattle.session_model.specs.declared.rows.Job.TheVariants as job
use Rattle.session_model.specs.declared.rows.Query.{Query}
use Rattle.session_laws.proofs.Declared.{waiting_parts, changed_elsewhere, changed_some, same_element, guard_of, sound_after, Guard, Rises, after_rises, finish_linked, start_listed, settling_keeps}
use Rattle.session_laws.specs.Sound.{IsSound}
use Rattle.session_laws.specs.Work.{rank}
use Rattle.run_laws.proofs.Calm.{IsCall, after_many}

-- Sums over lists

abbrev pub total : {X : Type 0} → (X → ℕ) → List X → ℕ
total f [] = 0
total f (x ∷ xs) = f x + total f xs

-- How many jobs of a unit are left, by its phase: its start, and its finish

abbrev below : ℕ → ℕ → ℕ
below n k = if nat_lt n k then 1 else 0

abbrev left_at : ℕ → ℕ
left_at n = below n 2 + below n 7

abbrev jobs_left : UnitRow → ℕ
jobs_left x = left_at (rank x.phase)

abbrev pub all_left : List UnitRow → ℕ
all_left units = total jobs_left units

below_one : (n k : ℕ) → below n k ≤ 1
below_one n k = split (nat_lt n k)
  where
    split : (b : Bool) → (if b then 1 else 0) ≤ 1
    split true = omega arith
    split false = omega arith

below_falls : (n m k : ℕ) → n ≤ m → below m k ≤ below n k
below_falls n m k le = split (cases_lt n k)
  where
    split : (n < k) ⊎ (k ≤ n) → below m k ≤ below n k
    split (inl lt) = subst (λ c. below m k ≤ (if c then 1 else 0)) (sym (lt-ltb n k lt)) (below_one m k)
    split (inr ge) = subst (λ c. (if c then 1 else 0) ≤ below n k) (sym (le-ltb m k (omega (arith, ge, le)))) (omega arith)

left_falls : (n m : ℕ) → n ≤ m → left_at m ≤ left_at n
left_falls n m le = omega (arith, below_falls n m 2 le, below_falls n m 7 le)

left_two : (n : ℕ) → left_at n ≤ 2
left_two n = omega (arith, below_one n 2, below_one n 7)

pub two_each : (units : List UnitRow) → all_left units ≤ 2 * length units
two_each [] = omega arith
two_each (x ∷ xs) = omega (arith, left_two (rank x.phase), two_each xs)

-- no unit has more left as its phase rises
first_rises : (x y : UnitRow) (xs ys : List UnitRow) → Rises (x ∷ xs) (y ∷ ys) → jobs_left y ≤ jobs_left x
first_rises x y xs ys r = let z = r 0 x refl in left_falls (rank x.phase) (rank y.phase) (subst (λ (w : UnitRow). rank x.phase ≤ rank w.phase) (sym (same_Some y z.0 z.1)) z.2)

pub left_rises : (xs ys : List UnitRow) → length ys ≡ length xs → Rises xs ys → all_left ys ≤ all_left xs
left_rises [] [] same r = omega arith
left_rises [] (y ∷ ys) same r = absurd (omega (arith, same))
left_rises (x ∷ xs) [] same r = absurd (omega (arith, same))
left_rises (x ∷ xs) (y ∷ ys) same r = omega (arith, first_rises x y xs ys r, left_rises xs ys (omega (arith, same)) (λ u z t. r (suc u) z t))

-- a unit has one job less than it had
record Uses (xs ys : List UnitRow) : Type 0 where
  number : ℕ
  old : UnitRow
  new : UnitRow
  was : slice_get xs number ≡ Some old
  is : slice_get ys number ≡ Some new
  less : jobs_left new + 1 ≤ jobs_left old

left_uses : (xs ys : List UnitRow) (u : ℕ) (x y : UnitRow) → length ys ≡ length xs → Rises xs ys → slice_get xs u ≡ Some x → slice_get ys u ≡ Some y → jobs_left y + 1 ≤ jobs_left x → all_left ys + 1 ≤ all_left xs
left_uses [] ys u x y same r a b less = absurd (none-some x a)
left_uses (v ∷ vs) [] u x y same r a b less = absurd (none-some y b)
left_uses (v ∷ vs) (w ∷ ws) zero x y same r a b less =
    let here : jobs_left w + 1 ≤ jobs_left v = subst (λ (z : UnitRow). jobs_left w + 1 ≤ jobs_left z) (sym (same_Some v x a)) (subst (λ (z : UnitRow). jobs_left z + 1 ≤ jobs_left x) (sym (same_Some w y b)) less) in
    omega (arith, here, left_rises vs ws (omega (arith, same)) (λ k z t. r (suc k) z t))
left_uses (v ∷ vs) (w ∷ ws) (suc u) x y same r a b less = omega (arith, first_rises v w vs ws r, left_uses vs ws u x y (omega (arith, same)) (λ k z t. r (suc k) z t) a b less)

-- A take

-- the unit is at that phase, or a later one
abbrev IsPast : ℕ → ℕ → Plain → Type 0
IsPast u n m = (y : UnitRow) × (slice_get m.units u ≡ Some y) × (n ≤ rank y.phase)

settled_past : (u n : ℕ) (m : Plain) → IsPast u n m → IsPast u n (settled m)
settled_past u n m p = settling_keeps (IsPast u n) step 0 m.queries m p
  where
    step : (v k : ℕ) (q : Query) (l : Plain) → IsPast u n l → waits_for l v k ≡ true → is_met l.rows q ≡ true → q.unit ≡ Some v → IsPast u n (finish_listed v l)
    step v k q l p w b e = split (cases_eq u v)
      where
        split : (u ≡ v) ⊎ (u ≡ v → ⊥) → IsPast u n (finish_listed v l)
        split (inl is) =
            let x = waiting_parts l v k w in
            let there = ap (slice_get l.units) is ∙ x.1 in
            let low : n ≤ rank x.0.phase = subst (λ (z : UnitRow). n ≤ rank z.phase) (same_element (slice_get l.units u) p.0 x.0 p.1 there) p.2 in
            let at : rank x.0.phase ≡ 5 = ap rank x.2 in
            (linked_unit x.0, ap (slice_get (changed_at v linked_unit l.units)) is ∙ changed_some v linked_unit l.units x.0 x.1, (omega (arith, low, at)))
        split (inr apart) = (p.0, changed_elsewhere v linked_unit l.units u apart ∙ p.1, p.2)

abbrev StartsOrFinishes : Reply → Type 0
StartsOrFinishes r = ((u : UnitId) × (r ≡ reply.Start u)) ⊎ ((u : UnitId) × (how : Finishing) × (r ≡ reply.Finish u how))

finish_is : (past : List (Entry Meaning)) (m : Plain) (u : ℕ) (r : Reply) → AnswersFinish past m u r → StartsOrFinishes r
finish_is past m u (reply.Finish v (finishing.Bound matches)) a = inr (v, finishing.Bound matches, refl)
finish_is past m u (reply.Finish v (finishing.Lost i)) a = inr (v, finishing.Lost i, refl)
finish_is past m u _ a = absurd a

take_is : (past : List (Entry Meaning)) (m : Plain) (jobs : List Job) (r : Reply) → AnswersTake past m jobs r → StartsOrFinishes r
take_is past m [] r a = absurd a
take_is past m (job.Start u ∷ js) r a = inl (u, a)
take_is past m (job.Finish u ∷ js) r a = finish_is past m u.0 r a

-- by a change of the unit alone
uses_by : (m : Plain) (e : Entry Meaning) (u k : ℕ) (f : UnitRow → UnitRow) (x : UnitRow) → slice_get m.units u ≡ Some x → slice_get (changed (change_of m e.seat.0 e.event e.reply) m).units u ≡ Some (f x) → k ≤ rank (f x).phase → left_at k + 1 ≤ jobs_left x → Uses m.units (after m e).units
uses_by m e u k f x was is past less =
    let p = settled_past u k (changed (change_of m e.seat.0 e.event e.reply) m) (f x, is, past) in
    record { number = u; old = x; new = p.0; was = was; is = p.1; less = omega (arith, left_falls k (rank p.0.phase) p.2, less) }

take_uses : (jmax : ℕ) (past : List (Entry Meaning)) (m : Plain) (e : Entry Meaning) → IsSound m → Answers jmax past m e.seat.0 e.event e.reply → e.event ≡ event.Take → Uses m.units (after m e).units
take_uses jmax past m e s a is = split (take_is past m m.jobs e.reply (subst (λ v. Answers jmax past m e.seat.0 v e.reply) is a))
  where
    c : Change Meaning
    c = change_of m e.seat.0 e.event e.reply

    change : (r : Reply) → e.reply ≡ r → c ≡ change_of m e.seat.0 event.Take r
    change r is_reply = ap (λ v. change_of m e.seat.0 v e.reply) is ∙ ap (change_of m e.seat.0 event.Take) is_reply

    guard : (d : Change Meaning) → c ≡ d → Guard m e.seat.0 d
    guard d f = subst (Guard m e.seat.0) f (guard_of jmax past m e.seat.0 e.event e.reply a)

    split : StartsOrFinishes e.reply → Uses m.units (after m e).units
    split (inl (u, r)) =
        let d = change (reply.Start u) r in
        let g = guard (Start (record { 0 = e.seat.0 }) u) d in
        let x = start_listed m u.0 g.1 s g.2 in
        uses_by m e u.0 2 (started_unit e.seat.0) x.0 x.1 (ap (λ (k : Change Meaning). slice_get (changed k m).units u.0) d ∙ changed_some u.0 (started_unit e.seat.0) m.units x.0 x.1) (omega arith)
        (subst (λ p. left_at 2 + 1 ≤ left_at (rank p)) (sym x.2) (omega arith))
    split (inr (u, how, r)) =
        let d = change (reply.Finish u how) r in
        let g = guard (Finish (record { 0 = e.seat.0 }) u how) d in
        let x = finish_linked m u.0 g.1 s g.2 in
        uses_by m e u.0 7 (finishing_unit e.seat.0 how) x.0 x.1 (ap (λ (k : Change Meaning). slice_get (changed k m).units u.0) d ∙ changed_some u.0 (finishing_unit e.seat.0 how) m.units x.0 x.1) (omega arith)
        (subst (λ p. left_at 7 + 1 ≤ left_at (rank p)) (sym x.2) (omega arith))

-- How many entries take

abbrev pub is_take : Event Meaning → ℕ
is_take event.Take = 1
is_take _ = 0

abbrev pub takes : Entry Meaning → ℕ
takes e = is_take e.event

take_or_not : (e : Event Meaning) → (e ≡ event.Take) ⊎ (is_take e ≡ 0)
take_or_not event.Take = inl refl
take_or_not _ = inr refl

entry_uses : (jmax : ℕ) (past : List (Entry Meaning)) (m : Plain) (e : Entry Meaning) → IsSound m → Answers jmax past m e.seat.0 e.event e.reply → length (after m e).units ≡ length m.units → takes e + all_left (after m e).units ≤ all_left m.units
entry_uses jmax past m e s a same = split (take_or_not e.event)
  where
    rises : Rises m.units (after m e).units
    rises = after_rises jmax past m e s a

    split : (e.event ≡ event.Take) ⊎ (is_take e.event ≡ 0) → takes e + all_left (after m e).units ≤ all_left m.units
    split (inl is) =
        let u = take_uses jmax past m e s a is in
        let one : takes e ≡ 1 = ap is_take is in
        omega (arith, one, left_uses m.units (after m e).units u.number u.old u.new same rises u.was u.is u.less)
    split (inr none) = omega (arith, none, left_rises m.units (after m e).units same rises)

-- among calls there are no more takes than there are jobs left
pub takes_within : (jmax : ℕ) (past : List (Entry Meaning)) (m : Plain) (es : List (Entry Meaning)) → LegalFrom jmax past m es → AllByRecursion IsCall es → m.generators ≡ [] → IsSound m → total takes es + all_left (state_from m es).units ≤ all_left m.units
takes_within jmax past m [] l calls none s = omega arith
takes_within jmax past m (e ∷ es) l calls none s =
    let many = after_many m e calls.0 none in
    omega (arith, entry_uses jmax past m e s l.0 many.units, takes_within jmax (past ++ e ∷ []) (after m e) es l.1 calls.1 many.generators (sound_after jmax past m e s l.0))
