-- An alias that has an address is bound to one instance, which was present with that address.
use Rattle.std.proofs.Common.{◌≡◌, ℕ, Bool, true, false, not, ◌||◌, List, [], ◌∷◌, length, slice_get, take, ◌⊎◌, inl, inr, subst, sym, refl, ap, ◌∙◌, Option, Some, None, is_some, unwrap_or}
use Rattle.std.specs.Prelude.{is_none}
use Rattle.std.specs.Bool.{if◌then◌else◌}
use Rattle.std.proofs.lemmas.Bool.{and_from, and_parts, both_ways}
use Rattle.std.proofs.lemmas.Option.{none-some, same_Some}
use Rattle.list_laws.proofs.Lists.{first_place}
use Rattle.orc_ids.specs.declared.ids.InstId.{InstId}
use Rattle.orc_ids.specs.declared.lookup.Level.{Level}
use Rattle.orc_ids.specs.declared.lookup.Level.TheVariants as level
use Rattle.session_model.specs.Change.{changed, new_unit, settled}
use Rattle.session_model.specs.History.{IsLegal}
use Rattle.session_model.specs.Lists.{only_if, or_else}
use Rattle.session_model.specs.Meaning.{Bindings, IsAlias, Meaning}
use Rattle.session_model.specs.Memory.{is_done}
use Rattle.session_model.specs.Plain.{Plain, UnitRow, address_at, failed_at, is_alias, phase_address, present_at}
use Rattle.session_model.specs.Query.{addresses, all_at, at_level, first_lost, is_lost}
use Rattle.session_model.specs.State.{state}
use Rattle.session_model.specs.declared.entry.Entry.{Entry}
use Rattle.session_model.specs.declared.rows.InstRow.{InstRow}
use Rattle.session_model.specs.declared.rows.Phase.{Phase}
use Rattle.session_model.specs.declared.rows.Phase.TheVariants as phase
use Rattle.session_model.specs.declared.rows.UnitPhase.{UnitPhase}
use Rattle.session_model.specs.declared.rows.UnitPhase.TheVariants as stage
use Rattle.session_model.specs.declared.rows.Verdict.{Verdict}
use Rattle.session_laws.proofs.Declared.{addresses_are_kept, one_end, Moves, Stays, Loses, Claims, Starts, Finishes, Places, Resolves, Waits, Links, Emits, Fails, Goes, Changes, Leaves, Runs, Here, On, UnitsMove, change_moves, settled_run, Doing, Other, doing_of, ready_from_test, stage_of}
use Rattle.session_laws.specs.Sound.{fits, row_stage, until_based}
use Rattle.closure_laws.proofs.Declared.{FoundAt, bindings_are_ends, found_parts, kept_by_changes, some_there, instances_are_offered, aliases_stand, all_work}
use Rattle.closure_laws.specs.Aliases.{StandsAt}
use Rattle.closure_laws.specs.Bindings.{IsItsEnd}
use Rattle.memory_laws.proofs.Had.{HadAddress, ready_address}

-- An alias is never linked with an address of its own

abbrev is_linking : UnitPhase → Bool
is_linking stage.Linking = true
is_linking _ = false

abbrev IsUnlinking : UnitRow → Type 0
IsUnlinking x = is_alias x ≡ true → is_linking x.phase ≡ false

move_unlinking : (doing : Doing) (m : Plain) (u : ℕ) (x y : UnitRow) → IsUnlinking x → Moves doing m u x y → IsUnlinking y
move_unlinking doing m u x _ w Stays = w
move_unlinking doing m u x _ w (Loses vs p b) = λ a. w a
move_unlinking doing m u x _ w (Claims p) = λ a. refl
move_unlinking doing m u x _ w (Starts s p) = λ a. refl
move_unlinking doing m u x _ w (Finishes s how p) = λ a. refl
move_unlinking doing m u x _ w (Places base shape d p t f) = λ a. refl
move_unlinking doing m u x _ w (Resolves d c) = λ a. ap (λ b. is_linking (if b then x.phase else stage.Linking)) a ∙ w a
move_unlinking doing m u x _ w (Waits found c f) = λ a. refl
move_unlinking doing m u x _ w (Links p) = λ a. refl
move_unlinking doing m u x _ w (Emits groups c o) = λ a. refl
move_unlinking doing m u x _ w Fails = λ a. refl
move_unlinking doing m u x _ w (Goes t g) = λ a. ap (λ b. is_linking (if b then stage.Defunct else x.phase)) g
move_unlinking doing m u x _ w (Changes t to) = λ a. w a
move_unlinking doing m u x _ w (Leaves s) = λ a. w a

run_unlinking : (doing : Doing) (m : Plain) (u : ℕ) (x y : UnitRow) → IsUnlinking x → Runs doing m u x y → IsUnlinking y
run_unlinking doing m u x _ w Here = w
run_unlinking doing m u x _ w (On y z a b) = move_unlinking doing m u y z (run_unlinking doing m u x y w a) b

abbrev AllUnlinking : List UnitRow → Type 0
AllUnlinking units = (u : ℕ) (x : UnitRow) → slice_get units u ≡ Some x → IsUnlinking x

moves_unlinking : (doing : Doing) (m : Plain) (new : List UnitRow) → UnitsMove doing m new → AllUnlinking m.units → AllUnlinking new
moves_unlinking doing m new f w u y t = split (f u y t)
  where
    split : ((x : UnitRow) × (slice_get m.units u ≡ Some x) × Runs doing m u x y) ⊎ ((k : ℕ) × (v : Meaning) × (vs : List Verdict) × (y ≡ new_unit k v vs) × (u ≡ length m.units)) → IsUnlinking y
    split (inl p) = run_unlinking doing m u p.0 y (w u p.0 p.1) p.2
    split (inr p) = λ a. ap (λ (z : UnitRow). is_linking z.phase) p.3

all_unlinking : (jmax : ℕ) (h : List (Entry Meaning)) → IsLegal jmax h → AllUnlinking (state h).units
all_unlinking jmax h l = kept_by_changes (λ rows units queries. AllUnlinking units)
    (λ m s c sound g w. moves_unlinking (doing_of c) m (changed c m).units (change_moves m s c sound g) w)
    (λ m sound w. moves_unlinking Other m (settled m).units (λ u y t. inl (settled_run m u y t)) w)
    jmax [] h l (λ u x t. absurd (none-some x t))

-- Its base

-- while its unit has no base, an instance has an address at these phases alone
addressed_unbased : (s : UnitPhase) (p : Phase) (a : ℕ) → fits (until_based s) p ≡ true → phase_address p ≡ Some a → (is_linking s ≡ true) ⊎ (is_done s ≡ true)
addressed_unbased s phase.Unsearched a f e = absurd (none-some a e)
addressed_unbased s phase.Claimed a f e = absurd (none-some a e)
addressed_unbased s phase.Failed a f e = absurd (none-some a e)
addressed_unbased stage.Linking (phase.Resolved b) a f e = inl refl
addressed_unbased _ (phase.Resolved b) a f e = absurd (both_ways false refl f)
addressed_unbased stage.Done (phase.Emitted b ds) a f e = inr refl
addressed_unbased _ (phase.Emitted b ds) a f e = absurd (both_ways false refl f)

alias_based : (jmax : ℕ) (h : List (Entry Meaning)) → IsLegal jmax h → (i a : ℕ) (r : InstRow) (x : UnitRow) → slice_get (state h).units r.unit.0 ≡ Some x → is_alias x ≡ true → fits (row_stage x) r.phase ≡ true → phase_address r.phase ≡ Some a → (base : ℕ) × (x.base ≡ Some base)
alias_based jmax h l i a r x t alias fit address = split x.base refl
  where
    split : (o : Option ℕ) → x.base ≡ o → (base : ℕ) × (x.base ≡ Some base)
    split (Some base) e = (base, e)
    split None e = absurd (by_phase (addressed_unbased x.phase r.phase a (ap (λ b. fits (stage_of b x.phase) r.phase) (sym (and_from (is_alias x) (is_none x.base) alias (ap is_none e))) ∙ fit) address))
      where
        by_phase : (is_linking x.phase ≡ true) ⊎ (is_done x.phase ≡ true) → ⊥
        by_phase (inl linking) = both_ways (is_linking x.phase) (all_unlinking jmax h l r.unit.0 x t alias) linking
        by_phase (inr done) = both_ways (is_some x.base) (ap is_some e) ((all_work jmax h l r.unit.0 x t).alias done alias)

-- What it is bound to

pub target_bound : (jmax : ℕ) (h : List (Entry Meaning)) → IsLegal jmax h → (i a : ℕ) (r : InstRow) (x : UnitRow) → slice_get (state h).rows i ≡ Some r → r.present ≡ true → slice_get (state h).units r.unit.0 ≡ Some x → is_alias x ≡ true → IsAlias x.meaning → fits (row_stage x) r.phase ≡ true → phase_address r.phase ≡ Some a →
    (target : InstId) × (x.bound ≡ Some (Some (target, a) ∷ []))
target_bound jmax h l i a r x t present s alias form fit address = (stands.target, stands.bound ∙ ap (λ (n : ℕ). Some (Some (stands.target, n) ∷ [])) (sym at))
  where
    base : (base : ℕ) × (x.base ≡ Some base)
    base = alias_based jmax h l i a r x s alias fit address

    stands : StandsAt (state h).rows x base.0
    stands = aliases_stand jmax h l r.unit.0 base.0 x s alias form base.1

    first : r.offer ≡ 0
    first = first_place _ _ r.offer (ap (λ os. slice_get os r.offer) (sym form.offers) ∙ instances_are_offered jmax h l i r x t present s)

    at : a ≡ base.0
    at = addresses_are_kept jmax h l i r x t present s a address
        ∙ ap (λ (k : ℕ). x.meaning.address k (unwrap_or x.base 0)) first
        ∙ ap (λ o. x.meaning.address 0 (unwrap_or o 0)) base.1
        ∙ form.address base.0

-- Where that was

-- at any level an instance has an address
level_has : (rows : List InstRow) (lev : Level) (i : ℕ) → at_level rows lev i ≡ true → is_some (address_at rows i) ≡ true
level_has rows level.Resolved i e = e
level_has rows level.Ready i e = ap is_some (ready_address rows i (ready_from_test rows i e)).1

-- the first that was matched isn't lost
first_kept : (b : Bool) (i : InstId) (rest : Option InstId) → or_else (only_if b i) rest ≡ None → b ≡ false
first_kept true i rest e = absurd (none-some i (sym e))
first_kept false i rest e = refl

lost_not : (failed present : Bool) → failed || not present ≡ false → present ≡ true
lost_not false true e = refl
lost_not false false e = absurd (both_ways true e refl)
lost_not true p e = absurd (both_ways true e refl)

one_found : (rows : List InstRow) (lev : Level) (os : List (Option InstId)) (target : InstId) (a : ℕ) → ◌≡◌ {A = Bindings} (Some (target, a) ∷ []) (addresses rows os) → all_at rows lev os ≡ true → first_lost rows os ≡ None →
    (present_at rows target.0 ≡ true) × (address_at rows target.0 ≡ Some a)
one_found rows lev [] target a is all kept = absurd (none-some (Some (target, a)) (sym (ap (λ (b : Bindings). slice_get b 0) is)))
one_found rows lev (None ∷ os) target a is all kept = absurd (none-some (target, a) (sym (same_Some _ _ (ap (λ (b : Bindings). slice_get b 0) is))))
one_found rows lev (Some j ∷ os) target a is all kept = subst Holds (sym same) (present, address)
  where
    Holds : InstId × ℕ → Type 0
    Holds p = (present_at rows p.0.0 ≡ true) × (address_at rows p.0.0 ≡ Some p.1)

    same : ◌≡◌ {A = InstId × ℕ} (target, a) (j, unwrap_or (address_at rows j.0) 0)
    same = same_Some _ _ (same_Some _ _ (ap (λ (b : Bindings). slice_get b 0) is))

    present : present_at rows j.0 ≡ true
    present = lost_not (failed_at rows j.0) (present_at rows j.0) (first_kept (is_lost rows j.0) j (first_lost rows os) kept)

    has : (n : ℕ) × (address_at rows j.0 ≡ Some n)
    has = some_there (address_at rows j.0) (level_has rows lev j.0 (and_parts (at_level rows lev j.0) (all_at rows lev os) all).0)

    address : address_at rows j.0 ≡ Some (unwrap_or (address_at rows j.0) 0)
    address = has.1 ∙ ap Some (sym (ap (λ o. unwrap_or o 0) has.1))

pub target_had : (jmax : ℕ) (h : List (Entry Meaning)) → IsLegal jmax h → (u a : ℕ) (x : UnitRow) (target : InstId) → slice_get (state h).units u ≡ Some x → x.bound ≡ Some (Some (target, a) ∷ []) → HadAddress h target.0 a
target_had jmax h l u a x target t bound = record { at = its.at; here = its.ended.settles.here; present = was.0; address = was.1 }
  where
    b : Bindings
    b = Some (target, a) ∷ []

    its : IsItsEnd h x b
    its = bindings_are_ends jmax h l u x b t bound

    rows : List InstRow
    rows = (state (take its.at h)).rows

    found : FoundAt rows its.ended.query b
    found = found_parts rows its.ended.query b its.ended.settles.met its.ended.ends

    was : (present_at rows target.0 ≡ true) × (address_at rows target.0 ≡ Some a)
    was = one_found rows its.ended.query.level its.ended.query.matched target a found.are found.all (one_end jmax h its.number its.at its.ended.query l its.ended.there its.ended.settles found.all)
