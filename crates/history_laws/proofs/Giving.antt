-- What other seats do gives a seat no unit.
use Rattle.std.proofs.Common.{◌≡◌, ℕ, true, false, ◌==◌, map, List, [], ◌∷◌, ◌++◌, length, slice_get, ◌⊎◌, inl, inr, subst, sym, ap, ◌∙◌, Option, Some, None}
use Rattle.std.specs.Prelude.{nat_eq}
use Rattle.std.specs.Bool.{⊤, if◌then◌else◌}
use Rattle.std.specs.Option.{option_map_or}
use Rattle.std.proofs.lemmas.Bool.{both_ways, cases_Bool}
use Rattle.std.proofs.lemmas.Option.{none-some, same_Some}
use Rattle.session_model.proofs.Phases.{defunct_stage}
use Rattle.orc_ids.specs.declared.ids.InstId.{InstId}
use Rattle.session_model.specs.Lists.{changed_at, numbered}
use Rattle.session_model.specs.Meaning.{Meaning}
use Rattle.session_model.specs.Plain.{Plain, UnitRow, GenRow, is_defunct, is_unsearched}
use Rattle.session_model.specs.Query.{is_met}
use Rattle.session_model.specs.Change.{change_of, changed, settled, finish_listed, waits_for, defined, spent, all_claimed, claimed_for, claimed, without_replaced, new_unit, listed_unit, started_unit, finishing_unit, placed_unit, resolved_unit, resolved_row, waiting_unit, linked_unit, done_unit, failed_unit, removed_unit, moved_unit, moved_generator, gone_tracker, let_go_unit}
use Rattle.session_model.specs.State.{state}
use Rattle.session_model.specs.Plain.{empty}
use Rattle.session_model.specs.History.{IsLegal}
use Rattle.session_model.specs.declared.change.Change.{Change}
use Rattle.session_model.specs.declared.change.Change.TheVariants.{Define, Generate, Ask, Start, Finish, Place, Resolve, Link, Emit, Fail, Move, Remove, LetGo}
use Rattle.session_model.specs.declared.entry.Entry.{Entry}
use Rattle.session_model.specs.declared.rows.InstRow.{InstRow}
use Rattle.session_model.specs.declared.rows.Query.{Query}
use Rattle.session_model.specs.declared.rows.UnitPhase.TheVariants as stage
use Rattle.session_model.specs.declared.rows.Verdict.{Verdict}
use Rattle.session_laws.specs.Holding.{AllOthers, IsKept, OwnSame}
use Rattle.session_laws.proofs.Declared.{state_from_push, changed_cases, mapped_parts, numbered_parts, pushed_cases, same_element, held_stays, Guard, defunct_stays, chosen, settling_keeps}
use Rattle.closure_laws.proofs.Declared.{OneMore}
use Rattle.history_laws.specs.Holders.{Holds, WasHeld, OthersGiveNone}
use Rattle.history_laws.proofs.Others.{others_along}

-- each unit that the seat holds now it held before
abbrev pub GivesNone : ℕ → List UnitRow → List UnitRow → Type 0
GivesNone s units new = (u : ℕ) (y : UnitRow) → slice_get new u ≡ Some y → y.seat ≡ Some s → (x : UnitRow) × (slice_get units u ≡ Some x) × (x.seat ≡ Some s)

pub none_same : (s : ℕ) (units : List UnitRow) → GivesNone s units units
none_same s units u y e k = (y, e, k)

pub none_again : (s : ℕ) (units new newer : List UnitRow) → GivesNone s units new → GivesNone s new newer → GivesNone s units newer
none_again s units new newer f g u y e k = let x = g u y e k in f u x.0 x.1 x.2

-- this change of a unit doesn't give it to the seat
abbrev SeatsNone : ℕ → (UnitRow → UnitRow) → Type 0
SeatsNone s f = (x : UnitRow) → (f x).seat ≡ Some s → x.seat ≡ Some s

none_mapped : (s : ℕ) (f : UnitRow → UnitRow) (units : List UnitRow) → SeatsNone s f → GivesNone s units (map f units)
none_mapped s f units none u y e k = let p = mapped_parts f units u y e in (p.0, p.1, none p.0 (ap (λ (z : UnitRow). z.seat) (sym p.2) ∙ k))

pub none_changed : (s v : ℕ) (f : UnitRow → UnitRow) (units : List UnitRow) → SeatsNone s f → GivesNone s units (changed_at v f units)
none_changed s v f units none u y e k = split (changed_cases v f units u y e)
  where
    split : ((u ≡ v) × ((x : UnitRow) × (slice_get units u ≡ Some x) × (y ≡ f x))) ⊎ ((u ≡ v → ⊥) × (slice_get units u ≡ Some y)) → (x : UnitRow) × (slice_get units u ≡ Some x) × (x.seat ≡ Some s)
    split (inl p) = (p.1.0, p.1.1, none p.1.0 (ap (λ (z : UnitRow). z.seat) (sym p.1.2) ∙ k))
    split (inr p) = (y, p.1, k)

none_defined : (s : ℕ) (m : Plain) (d t : ℕ) (v : Meaning) (vs : List Verdict) → GivesNone s m.units (defined d t v vs m).units
none_defined s m d t v vs u y e k = split (pushed_cases (numbered (without_replaced m.rows vs) 0 m.units) (new_unit t v vs) u y e)
  where
    split : (slice_get (numbered (without_replaced m.rows vs) 0 m.units) u ≡ Some y) ⊎ ((u ≡ length (numbered (without_replaced m.rows vs) 0 m.units)) × (y ≡ new_unit t v vs)) → (x : UnitRow) × (slice_get m.units u ≡ Some x) × (x.seat ≡ Some s)
    split (inl a) = let p = numbered_parts (without_replaced m.rows vs) m.units u y a in (p.0, p.1, ap (λ (z : UnitRow). z.seat) (sym p.2) ∙ k)
    split (inr a) = absurd (none-some s (ap (λ (z : UnitRow). z.seat) (sym a.1) ∙ k))

none_claimed : (s : ℕ) (i : InstId) (m : Plain) → GivesNone s m.units (claimed_for i m).units
none_claimed s i m = split (slice_get m.rows i.0)
  where
    split : (o : Option InstRow) → GivesNone s m.units (option_map_or (λ (r : InstRow). if is_unsearched r.phase then claimed r.unit.0 m else m) o m).units
    split None = none_same s m.units
    split (Some r) = chosen (λ n. GivesNone s m.units n.units) (is_unsearched r.phase) (claimed r.unit.0 m) m (λ b. none_changed s r.unit.0 listed_unit m.units (λ x k. k)) (λ b. none_same s m.units)

none_claims : (s : ℕ) (os : List (Option InstId)) (m : Plain) → GivesNone s m.units (all_claimed os m).units
none_claims s [] m = none_same s m.units
none_claims s (None ∷ os) m = none_claims s os m
none_claims s (Some i ∷ os) m = none_again s m.units (claimed_for i m).units (all_claimed os (claimed_for i m)).units (none_claimed s i m) (none_claims s os (claimed_for i m))

-- the change gives the seat no job
abbrev pub NoTake : ℕ → Change Meaning → Type 0
NoTake s (Start k u) = k.0 ≡ s → ⊥
NoTake s (Finish k u how) = k.0 ≡ s → ⊥
NoTake s _ = ⊤

-- only the seat that takes a job is given a unit
pub change_seats_none : (m : Plain) (s : ℕ) (c : Change Meaning) → NoTake s c → GivesNone s m.units (changed c m).units
change_seats_none m s (Define d k v found) untaken = none_defined s m d.0 k.0 v found
change_seats_none m s (Generate n found) untaken = split (slice_get m.generators n.0)
  where
    split : (o : Option GenRow) → GivesNone s m.units (option_map_or (λ x. spent n.0 (defined x.dylib x.tracker x.meaning found m)) o m).units
    split None = none_same s m.units
    split (Some x) = none_defined s m x.dylib x.tracker x.meaning found
change_seats_none m s (Ask found lev n) untaken = none_claims s found m
change_seats_none m s (Start k u) untaken = none_changed s u.0 (started_unit k.0) m.units (λ x is. absurd (untaken (same_Some k.0 s is)))
change_seats_none m s (Finish k u how) untaken = none_changed s u.0 (finishing_unit k.0 how) m.units (λ x is. absurd (untaken (same_Some k.0 s is)))
change_seats_none m s (Place u base) untaken = none_changed s u.0 (placed_unit base) m.units (λ x k. k)
change_seats_none m s (Resolve u) untaken = split (slice_get m.units u.0)
  where
    split : (o : Option UnitRow) → GivesNone s m.units (option_map_or (λ (x : UnitRow). record m { rows = map (resolved_row u.0 (resolved_unit x)) m.rows; units = changed_at u.0 resolved_unit m.units }) o m).units
    split None = none_same s m.units
    split (Some x) = none_changed s u.0 resolved_unit m.units (λ y k. k)
change_seats_none m s (Link u found) untaken = none_again s m.units (all_claimed found m).units (changed (Link u found) m).units (none_claims s found m)
    (none_changed s u.0 (waiting_unit (length m.queries)) (all_claimed found m).units (λ x k. absurd (none-some s k)))
change_seats_none m s (Emit u groups) untaken = none_changed s u.0 done_unit m.units (λ x k. absurd (none-some s k))
change_seats_none m s (Fail u) untaken = none_changed s u.0 failed_unit m.units (λ x k. absurd (none-some s k))
change_seats_none m s (Move k to) untaken = chosen (λ n. GivesNone s m.units n.units) (k.0 == to.0) m (record m { units = map (moved_unit k.0 to.0) m.units; generators = map (moved_generator k.0 to.0) m.generators; trackers = changed_at k.0 gone_tracker m.trackers })
    (λ b. none_same s m.units) (λ b. none_mapped s (moved_unit k.0 to.0) m.units (λ x e. e))
change_seats_none m s (Remove k) untaken = none_mapped s (removed_unit k.0) m.units (λ x e. e)
change_seats_none m s (LetGo k u) untaken = none_changed s u.0 (let_go_unit k.0) m.units
    (λ x. chosen (λ o. o ≡ Some s → x.seat ≡ Some s) (option_map_or (nat_eq k.0) x.seat false) None x.seat (λ b e. absurd (none-some s e)) (λ b e. e))
change_seats_none m s _ untaken = none_same s m.units

others_take_none : (m : Plain) (t s : ℕ) (c : Change Meaning) → (t ≡ s → ⊥) → Guard m t c → NoTake s c
others_take_none m t s (Start k u) apart g = λ e. apart (sym g.0 ∙ e)
others_take_none m t s (Finish k u how) apart g = λ e. apart (sym g.0 ∙ e)
others_take_none m t s _ apart g = tt

pub none_settled : (s : ℕ) (m : Plain) → GivesNone s m.units (settled m).units
none_settled s m = settling_keeps (λ n. GivesNone s m.units n.units) step 0 m.queries m (none_same s m.units)
  where
    step : (u k : ℕ) (q : Query) (n : Plain) → GivesNone s m.units n.units → waits_for n u k ≡ true → is_met n.rows q ≡ true → q.unit ≡ Some u → GivesNone s m.units (finish_listed u n).units
    step u k q n p w b e = none_again s m.units n.units (finish_listed u n).units p (none_changed s u linked_unit n.units (λ x f. f))

pub others_seat_none : (jmax s : ℕ) (h more : List (Entry Meaning)) → IsLegal jmax (h ++ more) → AllOthers s more → GivesNone s (state h).units (state (h ++ more)).units
others_seat_none jmax s h more l o = others_along jmax s (λ g. GivesNone s (state h).units (state g).units) step h more l o (none_same s (state h).units)
  where
    step : (g : List (Entry Meaning)) (e : Entry Meaning) → (e.seat.0 ≡ s → ⊥) → OneMore jmax g e → GivesNone s (state h).units (state g).units → GivesNone s (state h).units (state (g ++ e ∷ [])).units
    step g e apart one p =
        let n = changed (change_of (state g) e.seat.0 e.event e.reply) (state g) in
        let given = change_seats_none (state g) s (change_of (state g) e.seat.0 e.event e.reply) (others_take_none (state g) e.seat.0 s (change_of (state g) e.seat.0 e.event e.reply) apart one.guard) in
        subst (λ (m : Plain). GivesNone s (state h).units m.units) (sym (state_from_push empty g e))
        (none_again s (state h).units (state g).units (settled n).units p (none_again s (state g).units n.units (settled n).units given (none_settled s n)))

-- a unit that is here isn't gone
here_gone : (o : Option UnitRow) (x y : UnitRow) → o ≡ Some x → o ≡ Some y → x.phase ≡ stage.Defunct → is_defunct y.phase ≡ false → ⊥
here_gone o x y e f gone here = both_ways (is_defunct y.phase) here (ap (λ (z : UnitRow). is_defunct z.phase) (sym (same_element o x y e f)) ∙ ap is_defunct gone)

was_held : (m n : Plain) (s u : ℕ) (x y : UnitRow) → Holds m s u x → Holds n s u y → IsKept m n u x → WasHeld m n s u y
was_held m n s u x y a b k = split k.how
  where
    split : (k.unit.phase ≡ stage.Defunct) ⊎ ((k.unit ≡ record x { tracker = k.unit.tracker }) × OwnSame m.rows n.rows u) → WasHeld m n s u y
    split (inl d) = absurd (here_gone (slice_get n.units u) k.unit y k.there b.there d b.here)
    split (inr p) = record { unit = x; held = a; same = subst (λ (z : UnitRow). z ≡ record x { tracker = z.tracker }) (same_element (slice_get n.units u) k.unit y k.there b.there) p.0; own = p.1 }

pub others_give_none : OthersGiveNone
others_give_none jmax h more l s u y o b = split (cases_Bool (is_defunct x.0.phase))
  where
    x : (x : UnitRow) × (slice_get (state h).units u ≡ Some x) × (x.seat ≡ Some s)
    x = others_seat_none jmax s h more l o u y b.there b.seat

    split : (is_defunct x.0.phase ≡ true) ⊎ (is_defunct x.0.phase ≡ false) → WasHeld (state h) (state (h ++ more)) s u y
    split (inl d) = let z = defunct_stays jmax h more l u x.0 x.1 (defunct_stage x.0.phase d) in absurd (here_gone (slice_get (state (h ++ more)).units u) z.0 y z.1 b.there z.2 b.here)
    split (inr d) = was_held (state h) (state (h ++ more)) s u x.0 y (record { there = x.1; seat = x.2; here = d }) b (held_stays jmax h more l s u x.0 x.1 x.2 d o)
