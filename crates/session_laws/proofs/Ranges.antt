-- Placements lie apart, and live names stay.
use Rattle.std.proofs.Common.{◌≡◌, ℕ, zero, suc, ◌+◌, ◌≤◌, Bool, true, false, ◌==◌, filter_map, List, [], ◌∷◌, ◌++◌, length, slice_get, All, ◌⊎◌, inl, inr, subst, sym, refl, ap, ◌∙◌, arith, Option, Some, None, option_map}
use Rattle.std.specs.Prelude.{option_and_then}
use Rattle.std.specs.Bool.{if◌then◌else◌}
use Rattle.std.proofs.lemmas.List.Elements.{All-head, All-tail}
use Rattle.std.proofs.lemmas.Option.{none-some, same_Some, slice_get_past}
use Rattle.orc_ids.specs.declared.limits.TheConstants.{CODE_START, CODE_END}
use Rattle.orc_ids.specs.declared.place.Shape.{Shape}
use Rattle.session_model.specs.Lists.{changed_at}
use Rattle.session_model.specs.Answer.{Answers, Apart, IsFree}
use Rattle.session_model.specs.Meaning.{Meaning}
use Rattle.session_model.specs.Plain.{Plain, UnitRow, empty, is_alias, unit_shape, placement}
use Rattle.session_model.specs.Change.{change_of, changed, settled, new_unit, placed_unit, target_address, without_replaced}
use Rattle.session_model.specs.declared.rows.Verdict.{Verdict}
use Rattle.std.specs.List.{cons_option}
use Rattle.session_model.specs.State.{after, state, state_from}
use Rattle.session_model.specs.History.{LegalFrom}
use Rattle.session_model.specs.declared.change.Change.{Change}
use Rattle.session_model.specs.declared.change.Change.TheVariants.{Place, Resolve}
use Rattle.session_model.specs.declared.entry.Entry.{Entry}
use Rattle.session_model.specs.declared.rows.Range.{Range}
use Rattle.session_model.specs.declared.rows.UnitPhase.TheVariants as stage
use Rattle.orc_ids.specs.declared.ids.UnitId.{UnitId}
use Rattle.session_laws.proofs.Elements.{changed_cases, same_element}
use Rattle.session_laws.proofs.Guards.{guard_of}
use Rattle.session_laws.proofs.Invariant.{sound_after, empty_sound, legal_is_sound}
use Rattle.session_laws.proofs.Moving.{Moves, Stays, Loses, Claims, Starts, Finishes, Places, Resolves, Waits, Links, Emits, Fails, Goes, Changes, Leaves, Runs, Here, On, UnitsMove, change_moves, settled_run, Doing, Placing, Other, doing_of}
use Rattle.session_laws.proofs.Readying.{state_from_joined, legal_rest}
use Rattle.session_laws.proofs.Along.{prefixes_legal}
use Rattle.session_laws.proofs.Replies.{Guard}
use Rattle.session_laws.proofs.Rising.{after_rises}
use Rattle.session_laws.proofs.Settling.{chosen}
use Rattle.session_laws.specs.Placements.{AreApart, PlacementsLieApart, LiveNamesStay}
use Rattle.session_laws.specs.Sound.{IsSound}

-- Ranges

-- without a base there is no range
unplaced : (x : UnitRow) → x.base ≡ None → placement x ≡ None
unplaced x e = ap (λ o. option_and_then (λ base. option_map (λ (shape : Shape). record { base = base; need = shape.need }) (unit_shape x)) o) e

none_given : {P : Type 0} (x : UnitRow) (r : Range) → x.base ≡ None → placement x ≡ Some r → P
none_given x r b e = absurd (none-some r (sym (unplaced x b) ∙ e))

-- only a place gives a range
move_range : (doing : Doing) → (doing ≡ Placing → ⊥) → (m : Plain) (u : ℕ) (x y : UnitRow) (r : Range) → Moves doing m u x y → placement y ≡ Some r → placement x ≡ Some r
move_range doing n m u x _ r Stays e = e
move_range doing n m u x _ r (Loses vs p b) e = absurd (none-some r (sym (ap (λ o. option_and_then (λ base. option_map (λ (shape : Shape). record { base = base; need = shape.need }) (unit_shape (without_replaced m.rows vs u x))) o) b) ∙ e))
move_range doing n m u x _ r (Claims p) e = e
move_range doing n m u x _ r (Starts s p) e = e
move_range doing n m u x _ r (Finishes s how p) e = e
move_range doing n m u x _ r (Places base shape d p t f) e = absurd (n d)
move_range doing n m u x _ r (Resolves d c) e = by_alias (is_alias x) e
  where
    by_alias : (b : Bool) → option_and_then (λ base. option_map (λ (shape : Shape). record { base = base; need = shape.need }) (if b then None else x.meaning.shape x.live)) (if b then Some (target_address x) else x.base) ≡ Some r →
        option_and_then (λ base. option_map (λ (shape : Shape). record { base = base; need = shape.need }) (if b then None else x.meaning.shape x.live)) x.base ≡ Some r
    by_alias true e = absurd (none-some r e)
    by_alias false e = e
move_range doing n m u x _ r (Waits found c f) e = e
move_range doing n m u x _ r (Links p) e = e
move_range doing n m u x _ r (Emits groups c o) e = e
move_range doing n m u x _ r Fails e = absurd (none-some r e)
move_range doing n m u x _ r (Goes t g) e = absurd (none-some r (sym (ap (λ b. option_and_then (λ base. option_map (λ (shape : Shape). record { base = base; need = shape.need }) (unit_shape x)) (if b then None else x.base)) g) ∙ e))
move_range doing n m u x _ r (Changes t to) e = e
move_range doing n m u x _ r (Leaves s) e = e

run_range : (doing : Doing) → (doing ≡ Placing → ⊥) → (m : Plain) (u : ℕ) (x y : UnitRow) (r : Range) → Runs doing m u x y → placement y ≡ Some r → placement x ≡ Some r
run_range doing n m u x _ r Here e = e
run_range doing n m u x _ r (On y z a b) e = run_range doing n m u x y r a (move_range doing n m u y z r b e)

-- each range was there before
abbrev RangesBefore : List UnitRow → List UnitRow → Type 0
RangesBefore units new = (u : ℕ) (y : UnitRow) (r : Range) → slice_get new u ≡ Some y → placement y ≡ Some r → (x : UnitRow) × (slice_get units u ≡ Some x) × (placement x ≡ Some r)

ranges_before : (doing : Doing) → (doing ≡ Placing → ⊥) → (m : Plain) (new : List UnitRow) → UnitsMove doing m new → RangesBefore m.units new
ranges_before doing n m new f u y r t e = split (f u y t)
  where
    split : ((x : UnitRow) × (slice_get m.units u ≡ Some x) × Runs doing m u x y) ⊎ ((k : ℕ) × (v : Meaning) × (vs : List Verdict) × (y ≡ new_unit k v vs) × (u ≡ length m.units)) → (x : UnitRow) × (slice_get m.units u ≡ Some x) × (placement x ≡ Some r)
    split (inl p) = (p.0, p.1, run_range doing n m u p.0 y r p.2 e)
    split (inr p) = none_given y r (ap (λ (z : UnitRow). z.base) p.3) e

apart_before : (units new : List UnitRow) → RangesBefore units new → AreApart units → AreApart new
apart_before units new f a = record {
  inside = λ u y r t e. let p = f u y r t e in a.inside u p.0 r p.1 p.2;
  apart = λ u v x y r q s t n d e. let i = f u x r s d in let j = f v y q t e in a.apart u v i.0 j.0 r q i.1 j.1 n i.2 j.2;
}

-- Placing

-- what holds of all placements holds of a unit's
all_placed : (P : Range → Type 0) (units : List UnitRow) → All P (filter_map placement units) → (v : ℕ) (y : UnitRow) (q : Range) → slice_get units v ≡ Some y → placement y ≡ Some q → P q
all_placed P [] a v y q t e = absurd (none-some y t)
all_placed P (x ∷ xs) a v y q t e = split (placement x) refl a v t (λ b w s. all_placed P xs b w y q s e)
  where
    split : (o : Option Range) → placement x ≡ o → All P (cons_option o (filter_map placement xs)) → (v : ℕ) → slice_get (x ∷ xs) v ≡ Some y → (All P (filter_map placement xs) → (w : ℕ) → slice_get xs w ≡ Some y → P q) → P q
    split None is a zero t later = absurd (none-some q (sym is ∙ (ap placement (same_Some x y t) ∙ e)))
    split None is a (suc v) t later = later a v t
    split (Some r) is a zero t later = subst P (same_Some r q (sym is ∙ (ap placement (same_Some x y t) ∙ e))) (All-head P r (filter_map placement xs) a)
    split (Some r) is a (suc v) t later = later (All-tail P r (filter_map placement xs) a) v t

placed_range : (x : UnitRow) (base : ℕ) (shape : Shape) (r : Range) → unit_shape x ≡ Some shape → placement (placed_unit base x) ≡ Some r → record { base = base; need = shape.need } ≡ r
placed_range x base shape r e p = same_Some (record { base = base; need = shape.need }) r (sym (ap (λ o. option_map (λ (s : Shape). record { base = base; need = s.need }) o) e) ∙ p)

apart_placed : (units : List UnitRow) (u base : ℕ) (x : UnitRow) (shape : Shape) → slice_get units u ≡ Some x → unit_shape x ≡ Some shape → IsFree units shape base → AreApart units → AreApart (changed_at u (placed_unit base) units)
apart_placed units u base x shape t e free a = record { inside = inside; apart = apart }
  where
    -- the placed unit's range, or an old one
    cases : (v : ℕ) (y : UnitRow) (r : Range) → slice_get (changed_at u (placed_unit base) units) v ≡ Some y → placement y ≡ Some r → ((v ≡ u) × (record { base = base; need = shape.need } ≡ r)) ⊎ ((v ≡ u → ⊥) × (slice_get units v ≡ Some y))
    cases v y r s p = split (changed_cases u (placed_unit base) units v y s)
      where
        split : ((v ≡ u) × ((z : UnitRow) × (slice_get units v ≡ Some z) × (y ≡ placed_unit base z))) ⊎ ((v ≡ u → ⊥) × (slice_get units v ≡ Some y)) → ((v ≡ u) × (record { base = base; need = shape.need } ≡ r)) ⊎ ((v ≡ u → ⊥) × (slice_get units v ≡ Some y))
        split (inr q) = inr q
        split (inl q) = inl (q.0, placed_range x base shape r e (ap (λ (z : UnitRow). placement (placed_unit base z)) (same_element (slice_get units u) x q.1.0 t (ap (slice_get units) (sym q.0) ∙ q.1.1)) ∙ (ap placement (sym q.1.2) ∙ p)))

    inside : (v : ℕ) (y : UnitRow) (r : Range) → slice_get (changed_at u (placed_unit base) units) v ≡ Some y → placement y ≡ Some r → (CODE_START ≤ r.base) × (r.base + r.need ≤ CODE_END)
    inside v y r s p = split (cases v y r s p)
      where
        split : ((v ≡ u) × (record { base = base; need = shape.need } ≡ r)) ⊎ ((v ≡ u → ⊥) × (slice_get units v ≡ Some y)) → (CODE_START ≤ r.base) × (r.base + r.need ≤ CODE_END)
        split (inl q) = subst (λ (z : Range). (CODE_START ≤ z.base) × (z.base + z.need ≤ CODE_END)) q.1 (free.starts, free.ends)
        split (inr q) = a.inside v y r q.1 p

    turned : (r : Range) → Apart r base shape.need → Apart (record { base = base; need = shape.need }) r.base r.need
    turned r (inl b) = inr b
    turned r (inr b) = inl b

    apart : (v w : ℕ) (y z : UnitRow) (r q : Range) → slice_get (changed_at u (placed_unit base) units) v ≡ Some y → slice_get (changed_at u (placed_unit base) units) w ≡ Some z → (v ≡ w → ⊥) → placement y ≡ Some r → placement z ≡ Some q → Apart r q.base q.need
    apart v w y z r q s k n d f = split (cases v y r s d) (cases w z q k f)
      where
        split : ((v ≡ u) × (record { base = base; need = shape.need } ≡ r)) ⊎ ((v ≡ u → ⊥) × (slice_get units v ≡ Some y)) → ((w ≡ u) × (record { base = base; need = shape.need } ≡ q)) ⊎ ((w ≡ u → ⊥) × (slice_get units w ≡ Some z)) → Apart r q.base q.need
        split (inl i) (inl j) = absurd (n (i.0 ∙ sym j.0))
        split (inl i) (inr j) = subst (λ (g : Range). Apart g q.base q.need) i.1 (turned q (all_placed (λ g. Apart g base shape.need) units free.apart w z q j.1 f))
        split (inr i) (inl j) = subst (λ (g : Range). Apart r g.base g.need) j.1 (all_placed (λ g. Apart g base shape.need) units free.apart v y r i.1 d)
        split (inr i) (inr j) = a.apart v w y z r q i.1 j.1 n d f

-- Along a history

-- a place, or a change that gives no range
place_or : (c : Change Meaning) → ((u : UnitId) × (base : ℕ) × (c ≡ Place u base)) ⊎ (doing_of c ≡ Placing → ⊥)
place_or (Place u base) = inl (u, base, refl)
place_or (Resolve u) = inr (λ e. cc)
place_or _ = inr (λ e. cc)

changed_apart : (m : Plain) (s : ℕ) (c : Change Meaning) → IsSound m → Guard m s c → AreApart m.units → AreApart (changed c m).units
changed_apart m s c h g a = split (place_or c)
  where
    at_place : (u : UnitId) (base : ℕ) → Guard m s (Place u base) → AreApart (changed_at u.0 (placed_unit base) m.units)
    at_place u base g = apart_placed m.units u.0 base g.0 g.3.1.0 g.1 g.3.1.1 g.3.1.2 a

    split : ((u : UnitId) × (base : ℕ) × (c ≡ Place u base)) ⊎ (doing_of c ≡ Placing → ⊥) → AreApart (changed c m).units
    split (inl p) = subst (λ d. AreApart (changed d m).units) (sym p.2) (at_place p.0 p.1 (subst (Guard m s) p.2 g))
    split (inr n) = apart_before m.units (changed c m).units (ranges_before (doing_of c) n m (changed c m).units (change_moves m s c h g)) a

from_apart : (jmax : ℕ) (past : List (Entry Meaning)) (m : Plain) (h : List (Entry Meaning)) → IsSound m → LegalFrom jmax past m h → AreApart m.units → AreApart (state_from m h).units
from_apart jmax past m [] s l a = a
from_apart jmax past m (e ∷ es) s l a =
    let c = change_of m e.seat.0 e.event e.reply in
    let g = guard_of jmax past m e.seat.0 e.event e.reply l.0 in
    let n = changed c m in
    from_apart jmax (past ++ e ∷ []) (after m e) es (sound_after jmax past m e s l.0) l.1 (apart_before n.units (settled n).units (ranges_before Other (λ d. cc) n (settled n).units (λ u y t. inl (settled_run n u y t))) (changed_apart m e.seat.0 c s g a))

pub placements_lie_apart : PlacementsLieApart
placements_lie_apart jmax h l = from_apart jmax [] empty h empty_sound l (record { inside = λ u x r t e. absurd (none-some x t); apart = λ u v x y r q t s n d e. absurd (none-some x t) })

-- Live names

-- a unit that a lookup has asked for, and what it offers
pub record Asked (x y : UnitRow) : Type 0 where
  pub live : y.live ≡ x.live
  pub meaning : y.meaning ≡ x.meaning
  pub asked : y.phase ≡ stage.Unclaimed → ⊥

move_asked : (doing : Doing) (m : Plain) (u : ℕ) (x y : UnitRow) → (x.phase ≡ stage.Unclaimed → ⊥) → Moves doing m u x y → Asked x y
move_asked doing m u x _ n Stays = record { live = refl; meaning = refl; asked = n }
move_asked doing m u x _ n (Loses vs p b) = absurd (n p)
move_asked doing m u x _ n (Claims p) = absurd (n p)
move_asked doing m u x _ n (Starts s p) = record { live = refl; meaning = refl; asked = λ e. cc }
move_asked doing m u x _ n (Finishes s how p) = record { live = refl; meaning = refl; asked = λ e. cc }
move_asked doing m u x _ n (Places base shape b p t f) = record { live = refl; meaning = refl; asked = λ e. cc }
move_asked doing m u x _ n (Resolves d c) = record { live = refl; meaning = refl; asked = λ e. chosen (λ p. p ≡ stage.Unclaimed → ⊥) (is_alias x) x.phase stage.Linking (λ b. n) (λ b e. cc) e }
move_asked doing m u x _ n (Waits found c f) = record { live = refl; meaning = refl; asked = λ e. cc }
move_asked doing m u x _ n (Links p) = record { live = refl; meaning = refl; asked = λ e. cc }
move_asked doing m u x _ n (Emits groups c o) = record { live = refl; meaning = refl; asked = λ e. cc }
move_asked doing m u x _ n Fails = record { live = refl; meaning = refl; asked = λ e. cc }
move_asked doing m u x _ n (Goes t g) = record { live = refl; meaning = refl; asked = λ e. chosen (λ p. p ≡ stage.Unclaimed → ⊥) (x.tracker == t) stage.Defunct x.phase (λ b e. cc) (λ b. n) e }
move_asked doing m u x _ n (Changes t to) = record { live = refl; meaning = refl; asked = n }
move_asked doing m u x _ n (Leaves s) = record { live = refl; meaning = refl; asked = n }

run_asked : (doing : Doing) (m : Plain) (u : ℕ) (x y : UnitRow) → (x.phase ≡ stage.Unclaimed → ⊥) → Runs doing m u x y → Asked x y
run_asked doing m u x _ n Here = record { live = refl; meaning = refl; asked = n }
run_asked doing m u x _ n (On y z a b) =
    let p = run_asked doing m u x y n a in
    let q = move_asked doing m u y z p.asked b in
    record { live = q.live ∙ p.live; meaning = q.meaning ∙ p.meaning; asked = q.asked }

-- in one step
after_asked : (jmax : ℕ) (past : List (Entry Meaning)) (m : Plain) (e : Entry Meaning) (u : ℕ) (x y : UnitRow) → IsSound m → Answers jmax past m e.seat.0 e.event e.reply → slice_get m.units u ≡ Some x → (x.phase ≡ stage.Unclaimed → ⊥) → slice_get (after m e).units u ≡ Some y → Asked x y
after_asked jmax past m e u x y s a t n k = split (change_moves m e.seat.0 c s (guard_of jmax past m e.seat.0 e.event e.reply a) u now.0 now.1)
  where
    c : Change Meaning
    c = change_of m e.seat.0 e.event e.reply

    now : (z : UnitRow) × (slice_get (changed c m).units u ≡ Some z) × Runs Other (changed c m) u z y
    now = settled_run (changed c m) u y k

    split : ((z : UnitRow) × (slice_get m.units u ≡ Some z) × Runs (doing_of c) m u z now.0) ⊎ ((k : ℕ) × (v : Meaning) × (vs : List Verdict) × (now.0 ≡ new_unit k v vs) × (u ≡ length m.units)) → Asked x y
    split (inr p) = absurd (none-some x (sym (slice_get_past m.units u (omega (arith, p.4))) ∙ t))
    split (inl p) =
        let q = run_asked (doing_of c) m u x now.0 n (subst (λ z. Runs (doing_of c) m u z now.0) (same_element (slice_get m.units u) p.0 x p.1 t) p.2) in
        let r = run_asked Other (changed c m) u now.0 y q.asked now.2 in
        record { live = r.live ∙ q.live; meaning = r.meaning ∙ q.meaning; asked = r.asked }

from_asked : (jmax : ℕ) (past : List (Entry Meaning)) (m : Plain) (h : List (Entry Meaning)) (u : ℕ) (x : UnitRow) → IsSound m → LegalFrom jmax past m h → slice_get m.units u ≡ Some x → (x.phase ≡ stage.Unclaimed → ⊥) → (y : UnitRow) × (slice_get (state_from m h).units u ≡ Some y) × Asked x y
from_asked jmax past m [] u x s l t n = (x, t, record { live = refl; meaning = refl; asked = n })
from_asked jmax past m (e ∷ es) u x s l t n =
    let y = after_rises jmax past m e s l.0 u x t in
    let p = after_asked jmax past m e u x y.0 s l.0 t n y.1 in
    let z = from_asked jmax (past ++ e ∷ []) (after m e) es u y.0 (sound_after jmax past m e s l.0) l.1 y.1 p.asked in
    (z.0, z.1, record { live = z.2.live ∙ p.live; meaning = z.2.meaning ∙ p.meaning; asked = z.2.asked })

pub live_names_stay : LiveNamesStay
live_names_stay jmax h more l u x t n =
    let p = from_asked jmax h (state h) more u x (legal_is_sound jmax h ((prefixes_legal jmax h more).0 l)) (legal_rest jmax [] empty h more l) t n in
    (p.0, ap (λ m. slice_get m.units u) (state_from_joined empty h more) ∙ p.1, p.2.live, p.2.meaning)
