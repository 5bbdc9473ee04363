-- Each instance has its unit's address.
use Rattle.std.proofs.Common.{◌≡◌, ℕ, ◌+◌, Bool, true, false, not, ◌&&◌, ◌==◌, map, List, [], ◌∷◌, ◌++◌, length, slice_get, ◌⊎◌, inl, inr, subst, sym, refl, ap, ◌∙◌, Option, Some, None, unwrap_or}
use Rattle.std.specs.Bool.{if◌then◌else◌}
use Rattle.std.specs.Option.{option_map_or}
use Rattle.std.proofs.lemmas.Bool.{both_ways, ne_eqb, and_parts, and_right}
use Rattle.std.proofs.lemmas.Option.{none-some, same_Some}
use Rattle.orc_ids.specs.declared.groups.Group.{Group}
use Rattle.orc_ids.specs.declared.ids.InstId.{InstId}
use Rattle.orc_ids.specs.declared.ids.UnitId.{UnitId}
use Rattle.session_model.specs.Lists.{numbered, changed_at}
use Rattle.session_model.specs.Answer.{can_emit}
use Rattle.session_model.specs.Meaning.{Meaning}
use Rattle.session_model.specs.Plain.{Plain, UnitRow, GenRow, empty, is_alias, is_failed, is_unsearched, is_owned, is_owned_at, phase_address}
use Rattle.session_model.specs.Reach.{is_hit}
use Rattle.session_model.specs.Change.{change_of, changed, settled, defined, spent, all_claimed, claimed_for, claimed, claimed_row, is_replaced, unreplaced_row, new_rows, new_unit, emitted_row, deps_in, hit_row, hits_failed, tracker_roots, removed, removed_row, is_unit_of, resolved_row, resolved_unit, moved_unit, moved_generator, gone_tracker}
use Rattle.session_model.specs.State.{after, state_from}
use Rattle.session_model.specs.History.{LegalFrom}
use Rattle.session_model.specs.declared.change.Change.{Change}
use Rattle.session_model.specs.declared.change.Change.TheVariants.{Nothing, MakeDylib, MakeTracker, SetOrder, Attach, Define, Generate, Spend, Ask, Start, Finish, Place, Resolve, Link, Emit, Fail, Move, Remove, LetGo}
use Rattle.session_model.specs.declared.entry.Entry.{Entry}
use Rattle.session_model.specs.declared.rows.InstRow.{InstRow}
use Rattle.session_model.specs.declared.rows.Phase.{Phase}
use Rattle.session_model.specs.declared.rows.Phase.TheVariants as phase
use Rattle.session_model.specs.declared.rows.UnitPhase.{UnitPhase}
use Rattle.session_model.specs.declared.rows.UnitPhase.TheVariants as stage
use Rattle.session_model.specs.declared.rows.Verdict.{Verdict}
use Rattle.session_laws.proofs.Changes.{owned_parts, owned_from}
use Rattle.session_laws.proofs.Defining.{new_rows_phase}
use Rattle.session_laws.proofs.Elements.{appended_cases, changed_cases, mapped_parts, numbered_parts, same_element}
use Rattle.session_laws.proofs.Guards.{guard_of}
use Rattle.session_laws.proofs.Invariant.{sound_after, sound_changed, empty_sound}
use Rattle.session_laws.proofs.Moving.{Moves, Stays, Loses, Claims, Starts, Finishes, Places, Resolves, Waits, Links, Emits, Fails, Goes, Changes, Leaves, Runs, Here, On, UnitsMove, Doing, Resolving, Other, doing_of, change_moves, settled_run}
use Rattle.session_laws.proofs.Replies.{Guard}
use Rattle.session_laws.proofs.RowStages.{stage_of, row_is, linkable, emittable, emitting_stage}
use Rattle.session_laws.proofs.Settling.{chosen, settled_rows}
use Rattle.session_laws.specs.Keeps.{AddressesFit, AddressesAreKept}
use Rattle.session_laws.specs.Sound.{IsSound, fits, row_stage, is_unbased, is_claimed, is_resolved}

-- Units

-- the phases at which no present instance has an address, reached by other steps than a resolve
abbrev is_off : UnitPhase → Bool
is_off stage.Placed = true
is_off stage.Failed = true
is_off stage.Defunct = true
is_off _ = false

-- its base and what it is stay, or no instance of it has an address
abbrev KeepsBase : UnitRow → UnitRow → Type 0
KeepsBase x y = ((y.base ≡ x.base) × (y.meaning ≡ x.meaning)) ⊎ (is_off y.phase ≡ true)

off_isnt : {P : Type 0} (x : UnitRow) (p : UnitPhase) → x.phase ≡ p → is_off p ≡ false → is_off x.phase ≡ true → P
off_isnt x p e f o = absurd (both_ways (is_off p) f (ap is_off (sym e) ∙ o))

move_base : (doing : Doing) → (doing ≡ Resolving → ⊥) → (m : Plain) (u : ℕ) (x y : UnitRow) → Moves doing m u x y → KeepsBase x y
move_base doing n m u x _ Stays = inl (refl, refl)
move_base doing n m u x _ (Loses vs p b) = inl (refl, refl)
move_base doing n m u x _ (Claims p) = inl (refl, refl)
move_base doing n m u x _ (Starts s p) = inl (refl, refl)
move_base doing n m u x _ (Finishes s how p) = inl (refl, refl)
move_base doing n m u x _ (Places base shape b p t f) = inr refl
move_base doing n m u x _ (Resolves d c) = absurd (n d)
move_base doing n m u x _ (Waits found c f) = inl (refl, refl)
move_base doing n m u x _ (Links p) = inl (refl, refl)
move_base doing n m u x _ (Emits groups c o) = inl (refl, refl)
move_base doing n m u x _ Fails = inr refl
move_base doing n m u x _ (Goes t g) = inr (ap (λ b. is_off (if b then stage.Defunct else x.phase)) g)
move_base doing n m u x _ (Changes t to) = inl (refl, refl)
move_base doing n m u x _ (Leaves s) = inl (refl, refl)

-- from such a phase no other one is come to
move_off : (doing : Doing) → (doing ≡ Resolving → ⊥) → (m : Plain) (u : ℕ) (x y : UnitRow) → is_off x.phase ≡ true → Moves doing m u x y → is_off y.phase ≡ true
move_off doing n m u x _ o Stays = o
move_off doing n m u x _ o (Loses vs p b) = o
move_off doing n m u x _ o (Claims p) = off_isnt x stage.Unclaimed p refl o
move_off doing n m u x _ o (Starts s p) = off_isnt x stage.Listed p refl o
move_off doing n m u x _ o (Finishes s how p) = off_isnt x stage.Linked p refl o
move_off doing n m u x _ o (Places base shape b p t f) = refl
move_off doing n m u x _ o (Resolves d c) = absurd (n d)
move_off doing n m u x _ o (Waits found c f) = unlinked (linkable x c)
  where
    unlinked : ((is_alias x ≡ true) × (x.phase ≡ stage.Started)) ⊎ ((is_alias x ≡ false) × (x.phase ≡ stage.Linking)) → false ≡ true
    unlinked (inl p) = off_isnt x stage.Started p.1 refl o
    unlinked (inr p) = off_isnt x stage.Linking p.1 refl o
move_off doing n m u x _ o (Links p) = off_isnt x stage.Waiting p refl o
move_off doing n m u x _ o (Emits groups c e) = off_isnt x stage.Finishing (emittable x c) refl o
move_off doing n m u x _ o Fails = refl
move_off doing n m u x _ o (Goes t g) = ap (λ b. is_off (if b then stage.Defunct else x.phase)) g
move_off doing n m u x _ o (Changes t to) = o
move_off doing n m u x _ o (Leaves s) = o

run_base : (doing : Doing) → (doing ≡ Resolving → ⊥) → (m : Plain) (u : ℕ) (x y : UnitRow) → Runs doing m u x y → KeepsBase x y
run_base doing n m u x _ Here = inl (refl, refl)
run_base doing n m u x _ (On y z a b) = split (run_base doing n m u x y a) (move_base doing n m u y z b)
  where
    split : KeepsBase x y → KeepsBase y z → KeepsBase x z
    split (inr o) k = inr (move_off doing n m u y z o b)
    split (inl p) (inl q) = inl (q.0 ∙ p.0, q.1 ∙ p.1)
    split (inl p) (inr o) = inr o

-- where an instance that fits has an address, the unit isn't at such a phase
addressed_on : (x : UnitRow) (p : Phase) (a : ℕ) → fits (row_stage x) p ≡ true → phase_address p ≡ Some a → is_off x.phase ≡ true → ⊥
addressed_on x p a f e o = by_phase (is_unbased x) x.phase f o
  where
    none : (q : Phase) → phase_address q ≡ Some a → is_failed q ≡ true → ⊥
    none phase.Failed e f = none-some a e
    none phase.Unsearched e f = both_ways false refl f
    none phase.Claimed e f = both_ways false refl f
    none (phase.Resolved b) e f = both_ways false refl f
    none (phase.Emitted b ds) e f = both_ways false refl f

    unclaimed : (q : Phase) → phase_address q ≡ Some a → is_claimed q ≡ true → ⊥
    unclaimed phase.Claimed e f = none-some a e
    unclaimed phase.Unsearched e f = both_ways false refl f
    unclaimed phase.Failed e f = both_ways false refl f
    unclaimed (phase.Resolved b) e f = both_ways false refl f
    unclaimed (phase.Emitted b ds) e f = both_ways false refl f

    by_phase : (b : Bool) (s : UnitPhase) → fits (stage_of b s) p ≡ true → is_off s ≡ true → ⊥
    by_phase true stage.Placed f o = unclaimed p e f
    by_phase false stage.Placed f o = unclaimed p e f
    by_phase true stage.Failed f o = none p e f
    by_phase false stage.Failed f o = none p e f
    by_phase true stage.Defunct f o = both_ways false refl f
    by_phase false stage.Defunct f o = both_ways false refl f
    by_phase b stage.Unclaimed f o = both_ways false refl o
    by_phase b stage.Listed f o = both_ways false refl o
    by_phase b stage.Started f o = both_ways false refl o
    by_phase b stage.Linking f o = both_ways false refl o
    by_phase b stage.Waiting f o = both_ways false refl o
    by_phase b stage.Linked f o = both_ways false refl o
    by_phase b stage.Finishing f o = both_ways false refl o
    by_phase b stage.Done f o = both_ways false refl o

-- Instances

-- what an instance was, where it keeps its address or has none
pub record WasRow (r q : InstRow) : Type 0 where
  pub unit : r.unit ≡ q.unit
  pub offer : r.offer ≡ q.offer
  pub present : q.present ≡ true → r.present ≡ true
  pub address : (phase_address q.phase ≡ None) ⊎ (phase_address q.phase ≡ phase_address r.phase)

-- each instance was there, or has no address
abbrev pub RowsWere : List InstRow → List InstRow → Type 0
RowsWere rows new = (i : ℕ) (q : InstRow) → slice_get new i ≡ Some q → ((r : InstRow) × (slice_get rows i ≡ Some r) × WasRow r q) ⊎ (phase_address q.phase ≡ None)

same_row : (r : InstRow) → WasRow r r
same_row r = record { unit = refl; offer = refl; present = λ e. e; address = inr refl }

were_same : (rows : List InstRow) → RowsWere rows rows
were_same rows i q e = inl (q, e, same_row q)

were_again : (rows new newer : List InstRow) → RowsWere rows new → RowsWere new newer → RowsWere rows newer
were_again rows new newer f g i q e = split (g i q e)
  where
    both : (r s q : InstRow) → WasRow r s → WasRow s q → WasRow r q
    both r s q a b = record { unit = a.unit ∙ b.unit; offer = a.offer ∙ b.offer; present = λ e. a.present (b.present e); address = kept a.address b.address }
      where
        kept : (phase_address s.phase ≡ None) ⊎ (phase_address s.phase ≡ phase_address r.phase) → (phase_address q.phase ≡ None) ⊎ (phase_address q.phase ≡ phase_address s.phase) → (phase_address q.phase ≡ None) ⊎ (phase_address q.phase ≡ phase_address r.phase)
        kept c (inl n) = inl n
        kept (inl n) (inr d) = inl (d ∙ n)
        kept (inr c) (inr d) = inr (d ∙ c)

    none : (s : InstRow) → phase_address s.phase ≡ None → WasRow s q → phase_address q.phase ≡ None
    none s n b = by_address b.address
      where
        by_address : (phase_address q.phase ≡ None) ⊎ (phase_address q.phase ≡ phase_address s.phase) → phase_address q.phase ≡ None
        by_address (inl c) = c
        by_address (inr d) = d ∙ n

    split : ((s : InstRow) × (slice_get new i ≡ Some s) × WasRow s q) ⊎ (phase_address q.phase ≡ None) → ((r : InstRow) × (slice_get rows i ≡ Some r) × WasRow r q) ⊎ (phase_address q.phase ≡ None)
    split (inr n) = inr n
    split (inl p) = before (f i p.0 p.1)
      where
        before : ((r : InstRow) × (slice_get rows i ≡ Some r) × WasRow r p.0) ⊎ (phase_address p.0.phase ≡ None) → ((r : InstRow) × (slice_get rows i ≡ Some r) × WasRow r q) ⊎ (phase_address q.phase ≡ None)
        before (inl a) = inl (a.0, a.1, both a.0 p.0 q a.2 p.2)
        before (inr n) = inr (none p.0 n p.2)

were_mapped : (rows : List InstRow) (f : InstRow → InstRow) → ((r : InstRow) → WasRow r (f r)) → RowsWere rows (map f rows)
were_mapped rows f same i q e = let p = mapped_parts f rows i q e in inl (p.0, p.1, subst (WasRow p.0) (sym p.2) (same p.0))

were_numbered : (rows : List InstRow) (f : ℕ → InstRow → InstRow) → ((i : ℕ) (r : InstRow) → slice_get rows i ≡ Some r → WasRow r (f i r)) → RowsWere rows (numbered f 0 rows)
were_numbered rows f same i q e = let p = numbered_parts f rows i q e in inl (p.0, p.1, subst (WasRow p.0) (sym p.2) (same i p.0 p.1))

-- a new phase without an address
rephased_row : (r : InstRow) (b : Bool) (p : Phase) → phase_address p ≡ None → WasRow r (record r { phase = if b then p else r.phase })
rephased_row r b p n = record { unit = refl; offer = refl; present = λ e. e; address = split b }
  where
    split : (b : Bool) → (phase_address (if b then p else r.phase) ≡ None) ⊎ (phase_address (if b then p else r.phase) ≡ phase_address r.phase)
    split true = inl n
    split false = inr refl

claim_were : (i : InstId) (m : Plain) → RowsWere m.rows (claimed_for i m).rows
claim_were i m = split (slice_get m.rows i.0)
  where
    split : (o : Option InstRow) → RowsWere m.rows (option_map_or (λ (r : InstRow). if is_unsearched r.phase then claimed r.unit.0 m else m) o m).rows
    split None = were_same m.rows
    split (Some r) = chosen (λ n. RowsWere m.rows n.rows) (is_unsearched r.phase) (claimed r.unit.0 m) m (λ b. were_mapped m.rows (claimed_row r.unit.0) (λ q. rephased_row q (is_owned r.unit.0 q && is_unsearched q.phase) phase.Claimed refl)) (λ b. were_same m.rows)

claims_were : (os : List (Option InstId)) (m : Plain) → RowsWere m.rows (all_claimed os m).rows
claims_were [] m = were_same m.rows
claims_were (None ∷ os) m = claims_were os m
claims_were (Some i ∷ os) m = were_again m.rows (claimed_for i m).rows (all_claimed os (claimed_for i m)).rows (claim_were i m) (claims_were os (claimed_for i m))

defined_were : (m : Plain) (d t : ℕ) (v : Meaning) (vs : List Verdict) → RowsWere m.rows (defined d t v vs m).rows
defined_were m d t v vs i q e = split (appended_cases (numbered (unreplaced_row vs) 0 m.rows) (new_rows d (length m.units) 0 v.offers vs) i q e)
  where
    split : (slice_get (numbered (unreplaced_row vs) 0 m.rows) i ≡ Some q) ⊎ ((j : ℕ) × (i ≡ length (numbered (unreplaced_row vs) 0 m.rows) + j) × (slice_get (new_rows d (length m.units) 0 v.offers vs) j ≡ Some q)) → ((r : InstRow) × (slice_get m.rows i ≡ Some r) × WasRow r q) ⊎ (phase_address q.phase ≡ None)
    split (inl a) = were_numbered m.rows (unreplaced_row vs) (λ j r s. record { unit = refl; offer = refl; present = λ p. (and_parts r.present (not (is_replaced vs j)) p).0; address = inr refl }) i q a
    split (inr a) = inr (ap phase_address (new_rows_phase d (length m.units) 0 v.offers vs a.0 q a.2))

-- an emission keeps the address that its instances have
emitted_were : (m : Plain) (u : ℕ) (groups : List Group) (x : UnitRow) → IsSound m → slice_get m.units u ≡ Some x → can_emit x ≡ true → RowsWere m.rows (numbered (emitted_row u groups) 0 m.rows)
emitted_were m u groups x s t c = were_numbered m.rows (emitted_row u groups) (λ i r e. record { unit = refl; offer = refl; present = λ p. p; address = split i r e (is_owned u r) refl })
  where
    resolved : (r : InstRow) → fits (row_stage x) r.phase ≡ true → is_resolved r.phase ≡ true
    resolved r f = subst (λ p. fits p r.phase ≡ true) (emitting_stage x c) f

    kept : (p : Phase) → is_resolved p ≡ true → Some (unwrap_or (phase_address p) 0) ≡ phase_address p
    kept (phase.Resolved a) e = refl
    kept phase.Unsearched e = absurd (both_ways false refl e)
    kept phase.Claimed e = absurd (both_ways false refl e)
    kept (phase.Emitted a ds) e = absurd (both_ways false refl e)
    kept phase.Failed e = absurd (both_ways false refl e)

    split : (i : ℕ) (r : InstRow) → slice_get m.rows i ≡ Some r → (b : Bool) → is_owned u r ≡ b →
        (phase_address (if b then phase.Emitted (unwrap_or (phase_address r.phase) 0) (deps_in groups i) else r.phase) ≡ None) ⊎ (phase_address (if b then phase.Emitted (unwrap_or (phase_address r.phase) 0) (deps_in groups i) else r.phase) ≡ phase_address r.phase)
    split i r e false o = inr refl
    split i r e true o = let p = owned_parts u r o in let y = (s.rows_fit i r e).here p.0 in
        inr (kept r.phase (resolved r (subst (λ (z : UnitRow). fits (row_stage z) r.phase ≡ true) (same_element (slice_get m.units u) y.0 x (sym (ap (slice_get m.units) p.1) ∙ y.1) t) y.2)))

change_were : (m : Plain) (s : ℕ) (c : Change Meaning) → IsSound m → Guard m s c → (doing_of c ≡ Resolving → ⊥) → RowsWere m.rows (changed c m).rows
change_were m s Nothing h g n = were_same m.rows
change_were m s (MakeDylib name) h g n = were_same m.rows
change_were m s (MakeTracker d) h g n = were_same m.rows
change_were m s (SetOrder d order) h g n = were_same m.rows
change_were m s (Attach d t u) h g n = were_same m.rows
change_were m s (Define d t u found) h g n = defined_were m d.0 t.0 u found
change_were m s (Generate k found) h g n = split (slice_get m.generators k.0)
  where
    split : (o : Option GenRow) → RowsWere m.rows (option_map_or (λ x. spent k.0 (defined x.dylib x.tracker x.meaning found m)) o m).rows
    split None = were_same m.rows
    split (Some x) = defined_were m x.dylib x.tracker x.meaning found
change_were m s (Spend k) h g n = were_same m.rows
change_were m s (Ask found lev o) h g n = claims_were found m
change_were m s (Start t u) h g n = were_same m.rows
change_were m s (Finish t u how) h g n = were_same m.rows
change_were m s (Place u base) h g n = were_same m.rows
change_were m s (Resolve u) h g n = absurd (n refl)
change_were m s (Link u found) h g n = claims_were found m
change_were m s (Emit u groups) h g n = emitted_were m u.0 groups g.0 h g.1 g.3.2
change_were m s (Fail u) h g n = were_numbered m.rows (hit_row (is_owned_at u.0 m.rows) m.rows) (λ i r e. rephased_row r (is_hit m.rows (is_owned_at u.0 m.rows) i) phase.Failed refl)
change_were m s (Move t to) h g n = chosen (λ k. RowsWere m.rows k.rows) (t.0 == to.0) m (record m { units = map (moved_unit t.0 to.0) m.units; generators = map (moved_generator t.0 to.0) m.generators; trackers = changed_at t.0 gone_tracker m.trackers })
    (λ b. were_same m.rows) (λ b. were_same m.rows)
change_were m s (Remove t) h g n = were_again m.rows (hits_failed (tracker_roots m t.0) m.rows) (removed t.0 m).rows
    (were_numbered m.rows (hit_row (tracker_roots m t.0) m.rows) (λ i r e. rephased_row r (is_hit m.rows (tracker_roots m t.0) i) phase.Failed refl))
    (were_mapped (hits_failed (tracker_roots m t.0) m.rows) (removed_row m t.0) (λ r. record { unit = refl; offer = refl; present = λ p. (and_parts r.present (not (is_unit_of m t.0 r.unit.0)) p).0; address = inr refl }))
change_were m s (LetGo t u) h g n = were_same m.rows

-- Both

fit_kept : (m n : Plain) (doing : Doing) → (doing ≡ Resolving → ⊥) → IsSound n → RowsWere m.rows n.rows → UnitsMove doing m n.units → AddressesFit m.rows m.units → AddressesFit n.rows n.units
fit_kept m n doing other s rows units old i q y e present t a address = by_row (rows i q e)
  where
    fit : fits (row_stage y) q.phase ≡ true
    fit = let z = (s.rows_fit i q e).here present in subst (λ (x : UnitRow). fits (row_stage x) q.phase ≡ true) (same_element (slice_get n.units q.unit.0) z.0 y z.1 t) z.2

    by_row : ((r : InstRow) × (slice_get m.rows i ≡ Some r) × WasRow r q) ⊎ (phase_address q.phase ≡ None) → a ≡ y.meaning.address q.offer (unwrap_or y.base 0)
    by_row (inr n) = absurd (none-some a (sym n ∙ address))
    by_row (inl p) = by_unit (units q.unit.0 y t)
      where
        was : phase_address p.0.phase ≡ Some a
        was = by_address p.2.address
          where
            by_address : (phase_address q.phase ≡ None) ⊎ (phase_address q.phase ≡ phase_address p.0.phase) → phase_address p.0.phase ≡ Some a
            by_address (inl n) = absurd (none-some a (sym n ∙ address))
            by_address (inr d) = sym d ∙ address

        by_base : (x : UnitRow) → slice_get m.units q.unit.0 ≡ Some x → KeepsBase x y → a ≡ y.meaning.address q.offer (unwrap_or y.base 0)
        by_base x k (inr o) = absurd (addressed_on y q.phase a fit address o)
        by_base x k (inl b) = old i p.0 x p.1 (p.2.present present) (ap (λ (v : UnitId). slice_get m.units v.0) p.2.unit ∙ k) a was
            ∙ (ap (λ o. x.meaning.address o (unwrap_or x.base 0)) p.2.offer ∙ (ap (λ o. x.meaning.address q.offer (unwrap_or o 0)) (sym b.0) ∙ ap (λ (v : Meaning). v.address q.offer (unwrap_or y.base 0)) (sym b.1)))

        by_unit : ((x : UnitRow) × (slice_get m.units q.unit.0 ≡ Some x) × Runs doing m q.unit.0 x y) ⊎ ((k : ℕ) × (v : Meaning) × (vs : List Verdict) × (y ≡ new_unit k v vs) × (q.unit.0 ≡ length m.units)) → a ≡ y.meaning.address q.offer (unwrap_or y.base 0)
        by_unit (inl z) = by_base z.0 z.1 (run_base doing other m q.unit.0 z.0 y z.2)
        by_unit (inr z) = absurd (unfit q.phase address (subst (λ (x : UnitRow). fits (row_stage x) q.phase ≡ true) z.3 fit))
          where
            unfit : (o : Phase) → phase_address o ≡ Some a → fits (row_stage (new_unit z.0 z.1 z.2)) o ≡ true → ⊥
            unfit o d f = unsearched o d (subst (λ r. fits r o ≡ true) (row_is (new_unit z.0 z.1 z.2) stage.Unclaimed refl refl) f)
              where
                unsearched : (o : Phase) → phase_address o ≡ Some a → is_unsearched o ≡ true → ⊥
                unsearched phase.Unsearched d f = none-some a d
                unsearched phase.Claimed d f = both_ways false refl f
                unsearched (phase.Resolved b) d f = both_ways false refl f
                unsearched (phase.Emitted b ds) d f = both_ways false refl f
                unsearched phase.Failed d f = both_ways false refl f

resolve_fit : (m : Plain) (u : ℕ) (x : UnitRow) → slice_get m.units u ≡ Some x → AddressesFit m.rows m.units → AddressesFit (map (resolved_row u (resolved_unit x)) m.rows) (changed_at u resolved_unit m.units)
resolve_fit m u x t old i q y e present k a address = by_unit (changed_cases u resolved_unit m.units q.unit.0 y k)
  where
    was : (r : InstRow) × (slice_get m.rows i ≡ Some r) × (q ≡ resolved_row u (resolved_unit x) r)
    was = mapped_parts (resolved_row u (resolved_unit x)) m.rows i q e

    r : InstRow
    r = was.0

    unit_is : r.unit ≡ q.unit
    unit_is = ap (λ (z : InstRow). z.unit) (sym was.2)

    offer_is : r.offer ≡ q.offer
    offer_is = ap (λ (z : InstRow). z.offer) (sym was.2)

    here : r.present ≡ true
    here = ap (λ (z : InstRow). z.present) (sym was.2) ∙ present

    at_phase : phase_address (resolved_row u (resolved_unit x) r).phase ≡ Some a
    at_phase = ap (λ (z : InstRow). phase_address z.phase) (sym was.2) ∙ address

    by_unit : ((q.unit.0 ≡ u) × ((z : UnitRow) × (slice_get m.units q.unit.0 ≡ Some z) × (y ≡ resolved_unit z))) ⊎ ((q.unit.0 ≡ u → ⊥) × (slice_get m.units q.unit.0 ≡ Some y)) → a ≡ y.meaning.address q.offer (unwrap_or y.base 0)
    by_unit (inl p) =
        let own = owned_from u r here (ap (λ (v : UnitId). v.0) unit_is ∙ p.0) in
        let same = same_element (slice_get m.units u) p.1.0 x (ap (slice_get m.units) (sym p.0) ∙ p.1.1) t in
        let is : y ≡ resolved_unit x = p.1.2 ∙ ap resolved_unit same in
        sym (same_Some (x.meaning.address r.offer (unwrap_or (resolved_unit x).base 0)) a (sym (ap (λ b. phase_address (if b then phase.Resolved (x.meaning.address r.offer (unwrap_or (resolved_unit x).base 0)) else r.phase)) own) ∙ at_phase))
        ∙ (ap (λ o. x.meaning.address o (unwrap_or (resolved_unit x).base 0)) offer_is ∙ ap (λ (z : UnitRow). z.meaning.address q.offer (unwrap_or z.base 0)) (sym is))
    by_unit (inr p) =
        let apart = and_right r.present (r.unit.0 == u) (ne_eqb r.unit.0 u (λ d. p.0 (ap (λ (v : UnitId). v.0) (sym unit_is) ∙ d))) in
        old i r y was.1 here (ap (λ (v : UnitId). slice_get m.units v.0) unit_is ∙ p.1) a (sym (ap (λ b. phase_address (if b then phase.Resolved (x.meaning.address r.offer (unwrap_or (resolved_unit x).base 0)) else r.phase)) apart) ∙ at_phase)
        ∙ ap (λ o. y.meaning.address o (unwrap_or y.base 0)) offer_is

-- Along a history

resolve_or : (c : Change Meaning) → ((u : UnitId) × (c ≡ Resolve u)) ⊎ (doing_of c ≡ Resolving → ⊥)
resolve_or (Resolve u) = inl (u, refl)
resolve_or (Place u base) = inr (λ e. cc)
resolve_or _ = inr (λ e. cc)

changed_fit : (m : Plain) (s : ℕ) (c : Change Meaning) → IsSound m → Guard m s c → AddressesFit m.rows m.units → AddressesFit (changed c m).rows (changed c m).units
changed_fit m s c h g a = split (resolve_or c)
  where
    at_resolve : (u : UnitId) → Guard m s (Resolve u) → AddressesFit (changed (Resolve u) m).rows (changed (Resolve u) m).units
    at_resolve u g = subst (λ o. AddressesFit (option_map_or (λ (x : UnitRow). record m { rows = map (resolved_row u.0 (resolved_unit x)) m.rows; units = changed_at u.0 resolved_unit m.units }) o m).rows (option_map_or (λ (x : UnitRow). record m { rows = map (resolved_row u.0 (resolved_unit x)) m.rows; units = changed_at u.0 resolved_unit m.units }) o m).units) (sym g.1)
        (resolve_fit m u.0 g.0 g.1 a)

    split : ((u : UnitId) × (c ≡ Resolve u)) ⊎ (doing_of c ≡ Resolving → ⊥) → AddressesFit (changed c m).rows (changed c m).units
    split (inl p) = subst (λ d. AddressesFit (changed d m).rows (changed d m).units) (sym p.1) (at_resolve p.0 (subst (Guard m s) p.1 g))
    split (inr n) = fit_kept m (changed c m) (doing_of c) n (sound_changed m s c h g) (change_were m s c h g n) (change_moves m s c h g) a

from_fit : (jmax : ℕ) (past : List (Entry Meaning)) (m : Plain) (h : List (Entry Meaning)) → IsSound m → LegalFrom jmax past m h → AddressesFit m.rows m.units → AddressesFit (state_from m h).rows (state_from m h).units
from_fit jmax past m [] s l a = a
from_fit jmax past m (e ∷ es) s l a =
    let c = change_of m e.seat.0 e.event e.reply in
    let g = guard_of jmax past m e.seat.0 e.event e.reply l.0 in
    let n = changed c m in
    let next = sound_after jmax past m e s l.0 in
    from_fit jmax (past ++ e ∷ []) (after m e) es next l.1
    (fit_kept n (settled n) Other (λ d. cc) next (λ i q t. inl (q, ap (λ rows. slice_get rows i) (sym (settled_rows n)) ∙ t, same_row q)) (λ u y t. inl (settled_run n u y t)) (changed_fit m e.seat.0 c s g a))

pub addresses_are_kept : AddressesAreKept
addresses_are_kept jmax h l = from_fit jmax [] empty h empty_sound l (λ i r x e. absurd (none-some r e))
