-- An instance that has an address has one end, which stands at that address.
use Rattle.std.proofs.Common.{◌≡◌, ℕ, ◌+◌, ◌<◌, ◌≤◌, Bool, true, false, List, [], ◌∷◌, ◌++◌, length, slice_get, take, drop, arith, le_refl, ◌⊎◌, inl, inr, subst, sym, refl, ap, ◌∙◌, Option, Some, is_some}
use Rattle.std.proofs.lemmas.Bool.{both_ways, cases_order}
use Rattle.std.proofs.lemmas.List.{length-append, take-append-le, take_all}
use Rattle.std.proofs.lemmas.Option.{none-some, same_Some}
use Rattle.orc_ids.specs.declared.ids.InstId.{InstId}
use Rattle.orc_ids.specs.declared.ids.UnitId.{UnitId}
use Rattle.session_model.specs.Change.{change_of, changed}
use Rattle.session_model.specs.History.{IsLegal}
use Rattle.session_model.specs.Meaning.{Bindings, IsAlias, Meaning}
use Rattle.session_model.specs.Plain.{Plain, UnitRow, address_at, empty, is_alias, phase_address, present_at}
use Rattle.session_model.specs.State.{after, state}
use Rattle.session_model.specs.declared.change.Change.{Change}
use Rattle.session_model.specs.declared.entry.Entry.{Entry}
use Rattle.session_model.specs.declared.rows.InstRow.{InstRow}
use Rattle.session_laws.proofs.Declared.{state_from_push, same_element, front_and_rest, front_legal, test_is, legal_is_sound, settled_rows}
use Rattle.session_laws.specs.Sound.{fits, row_stage}
use Rattle.closure_laws.proofs.Declared.{BindsBy, HasFields, IsNew, after_fields, OneMore, kept_along, addresses_stay}
use Rattle.closure_laws.specs.Bindings.{IsAt}
use Rattle.memory_laws.specs.Closures.{Behind, IsEnd, IsOf, Itself}
use Rattle.memory_laws.specs.Ends.{AliasesHaveForm, EndsAreOne, EndsExist, EndsStandThere}
use Rattle.memory_laws.proofs.Had.{HadAddress, all_had, had_before, row_of_address}
use Rattle.memory_laws.proofs.Later.{IsLater, SameUnit, history_later, one_later}
use Rattle.memory_laws.proofs.Targets.{target_bound, target_had}

-- One end at most

of_same : (m : Plain) (i : ℕ) (x y : UnitRow) → IsOf m i x → IsOf m i y → x ≡ y
of_same m i x y a b =
    let row = same_element (slice_get m.rows i) a.row b.row a.there b.there in
    same_element (slice_get m.units b.row.unit.0) x y (ap (λ (r : InstRow). slice_get m.units r.unit.0) (sym row) ∙ a.is) b.is

-- the end of one that is no alias's is itself
plain_end : (m : Plain) (i end : ℕ) (x : UnitRow) → IsOf m i x → is_alias x ≡ false → IsEnd m i end → i ≡ end
plain_end m i end x of plain (Itself k y its other) = refl
plain_end m i end x of plain (Behind k last address y target its alias bound behind) = absurd (both_ways (is_alias x) plain (ap is_alias (of_same m k x y of its) ∙ alias))

-- an alias is bound to one instance
one_target : (a b : InstId) (n k : ℕ) → ◌≡◌ {A = Option Bindings} (Some (Some (a, n) ∷ [])) (Some (Some (b, k) ∷ [])) → a ≡ b
one_target a b n k e = ap (λ (p : InstId × ℕ). p.0) (same_Some (a, n) (b, k) (same_Some (Some (a, n)) (Some (b, k)) (ap (λ (c : Bindings). slice_get c 0) (same_Some _ _ e))))

-- that of an alias's is its target's
alias_end : (m : Plain) (i end address : ℕ) (x : UnitRow) (target : InstId) → IsOf m i x → is_alias x ≡ true → x.bound ≡ Some (Some (target, address) ∷ []) → IsEnd m i end → IsEnd m target.0 end
alias_end m i end address x target of alias bound (Itself k y its plain) = absurd (both_ways (is_alias y) plain (ap is_alias (of_same m k y x its of) ∙ alias))
alias_end m i end address x target of alias bound (Behind k last at y goal its too is behind) =
    let same : ◌≡◌ {A = Option Bindings} (Some (Some (goal, at) ∷ [])) (Some (Some (target, address) ∷ [])) = sym is ∙ ap (λ (z : UnitRow). z.bound) (of_same m k y x its of) ∙ bound in
    subst (λ (j : InstId). IsEnd m j.0 last) (one_target goal target at address same) behind

pub ends_are_one : EndsAreOne
ends_are_one m i a b (Itself k x of plain) other = plain_end m k b x of plain other
ends_are_one m i a b (Behind k end address x target of alias bound behind) other = ends_are_one m target.0 end b behind (alias_end m k b address x target of alias bound other)

-- An end stays one

same_alias : (x y : UnitRow) → SameUnit x y → is_alias y ≡ is_alias x
same_alias x y s = ap (λ (v : Meaning). is_some v.source) s.meaning

of_later : (m n : Plain) (i : ℕ) (x : UnitRow) → IsLater m n → IsOf m i x → (y : UnitRow) × IsOf n i y × SameUnit x y
of_later m n i x later of =
    let q = later.rows i of.row of.there in
    let y = later.units of.row.unit.0 x of.is in
    (y.0, record { row = q.0; there = q.1; is = ap (λ (u : UnitId). slice_get n.units u.0) q.2 ∙ y.1 }, y.2)

pub end_later : (m n : Plain) (i end : ℕ) → IsLater m n → IsEnd m i end → IsEnd n i end
end_later m n i end later (Itself k x of plain) = let y = of_later m n k x later of in Itself k y.0 y.1 (same_alias x y.0 y.2 ∙ plain)
end_later m n i end later (Behind k last address x target of alias bound behind) =
    let y = of_later m n k x later of in
    Behind k last address y.0 target y.1 (same_alias x y.0 y.2 ∙ alias) (y.2.bound (Some (target, address) ∷ []) bound) (end_later m n target.0 last later behind)

formed_before : (m n : Plain) → IsLater m n → AliasesHaveForm n.units → AliasesHaveForm m.units
formed_before m n later formed u x t alias = let y = later.units u x t in
    subst IsAlias y.2.meaning (formed u y.0 y.1 (same_alias x y.0 y.2 ∙ alias))

front_later : (jmax k : ℕ) (h : List (Entry Meaning)) → IsLegal jmax h → IsLater (state (take k h)) (state h)
front_later jmax k h l =
    let whole = front_and_rest k h in
    subst (λ g. IsLater (state (take k h)) (state g)) (sym whole) (history_later jmax (take k h) (drop k h) (subst (IsLegal jmax) whole l))

-- An end exists

-- a present instance with an address, and its unit
record IsGiven (m : Plain) (i a : ℕ) : Type 0 where
  row : InstRow
  there : slice_get m.rows i ≡ Some row
  present : row.present ≡ true
  address : phase_address row.phase ≡ Some a
  unit : UnitRow
  is : slice_get m.units row.unit.0 ≡ Some unit
  fit : fits (row_stage unit) row.phase ≡ true

given_at : (jmax : ℕ) (h : List (Entry Meaning)) → IsLegal jmax h → (i a : ℕ) → present_at (state h).rows i ≡ true → address_at (state h).rows i ≡ Some a → IsGiven (state h) i a
given_at jmax h l i a present address =
    let r = row_of_address (state h).rows i a address in
    let here = sym (test_is (λ (q : InstRow). q.present) (state h).rows i r.row r.there) ∙ present in
    let x = ((legal_is_sound jmax h l).rows_fit i r.row r.there).here here in
    record { row = r.row; there = r.there; present = here; address = r.address; unit = x.0; is = x.1; fit = x.2 }

given_of : (m : Plain) (i a : ℕ) (g : IsGiven m i a) → IsOf m i g.unit
given_of m i a g = record { row = g.row; there = g.there; is = g.is }

-- what an alias among them is bound to
given_target : (jmax : ℕ) (h : List (Entry Meaning)) → IsLegal jmax h → AliasesHaveForm (state h).units → (i a : ℕ) (g : IsGiven (state h) i a) → is_alias g.unit ≡ true → (target : InstId) × (g.unit.bound ≡ Some (Some (target, a) ∷ []))
given_target jmax h l formed i a g alias = target_bound jmax h l i a g.row g.unit g.there g.present g.is alias (formed g.row.unit.0 g.unit g.is alias) g.fit g.address

abbrev AnEnd : Plain → ℕ → Type 0
AnEnd m i = (end : ℕ) × IsEnd m i end

abbrev EndsHere : List (Entry Meaning) → Type 0
EndsHere h = AliasesHaveForm (state h).units → (i a : ℕ) → present_at (state h).rows i ≡ true → address_at (state h).rows i ≡ Some a → AnEnd (state h) i

-- so it is after each of the first entries
abbrev EndsBefore : List (Entry Meaning) → Type 0
EndsBefore h = (k : ℕ) → k ≤ length h → EndsHere (take k h)

-- an instance that was there has an end
had_end : (jmax : ℕ) (h : List (Entry Meaning)) → IsLegal jmax h → EndsBefore h → AliasesHaveForm (state h).units → (i a : ℕ) → HadAddress h i a → AnEnd (state h) i
had_end jmax h l all formed i a had =
    let later = front_later jmax had.at h l in
    let end = all had.at had.here (formed_before (state (take had.at h)) (state h) later formed) i a had.present had.address in
    (end.0, end_later (state (take had.at h)) (state h) i end.0 later end.1)

-- after one more entry
ends_after : (jmax : ℕ) (h : List (Entry Meaning)) (e : Entry Meaning) → OneMore jmax h e → EndsBefore h → EndsHere (h ++ e ∷ [])
ends_after jmax h e one all formed i a present address = split (is_alias g.unit) refl
  where
    m : Plain
    m = state h

    n : Plain
    n = state (h ++ e ∷ [])

    c : Change Meaning
    c = change_of m e.seat.0 e.event e.reply

    leads : n ≡ after m e
    leads = state_from_push empty h e

    later : IsLater m n
    later = one_later jmax h e one

    before : AliasesHaveForm m.units
    before = formed_before m n later formed

    on : (j : ℕ) → AnEnd m j → AnEnd n j
    on j end = (end.0, end_later m n j end.0 later end.1)

    g : IsGiven n i a
    g = given_at jmax (h ++ e ∷ []) one.legal i a present address

    -- a take of bindings leaves the instances as they are
    as_before : (u : ℕ) → BindsBy c u g.unit → AnEnd n i
    as_before u given =
        let rows : n.rows ≡ m.rows = ap (λ (k : Plain). k.rows) leads ∙ settled_rows (changed c m) ∙ ap (λ d. (changed d m).rows) given.3 in
        let whole = take_all (length h) h (le_refl (length h)) in
        let here : EndsHere h = subst EndsHere whole (all (length h) (le_refl (length h))) in
        on i (here before i a (ap (λ rs. present_at rs i) (sym rows) ∙ present) (ap (λ rs. address_at rs i) (sym rows) ∙ address))

    by_target : is_alias g.unit ≡ true → (target : InstId) × (g.unit.bound ≡ Some (Some (target, a) ∷ [])) → AnEnd n i
    by_target alias target = by_fields (after_fields m e g.row.unit.0 g.unit (ap (λ (k : Plain). slice_get k.units g.row.unit.0) (sym leads) ∙ g.is))
      where
        behind : AnEnd m target.0.0 → AnEnd n i
        behind end = (end.0, Behind i end.0 a g.unit target.0 (given_of n i a g) alias target.1 (on target.0.0 end).1)

        by_bound : (x : UnitRow) → slice_get m.units g.row.unit.0 ≡ Some x → (g.unit.bound ≡ x.bound) ⊎ BindsBy c g.row.unit.0 g.unit → AnEnd n i
        by_bound x t (inl same) = behind (had_end jmax h one.before all before target.0.0 a (target_had jmax h one.before g.row.unit.0 a x target.0 t (sym same ∙ target.1)))
        by_bound x t (inr given) = as_before g.row.unit.0 given

        by_fields : ((x : UnitRow) × (slice_get m.units g.row.unit.0 ≡ Some x) × HasFields m c g.row.unit.0 x g.unit) ⊎ IsNew m c g.row.unit.0 g.unit → AnEnd n i
        by_fields (inl p) = by_bound p.0 p.1 p.2.bound
        by_fields (inr p) = absurd (none-some (Some (target.0, a) ∷ []) (sym p.3 ∙ target.1))

    split : (b : Bool) → is_alias g.unit ≡ b → AnEnd n i
    split false plain = (i, Itself i g.unit (given_of n i a g) plain)
    split true alias = by_target alias (given_target jmax (h ++ e ∷ []) one.legal formed i a g alias)

one_more_ends : (jmax : ℕ) (h : List (Entry Meaning)) (e : Entry Meaning) → OneMore jmax h e → EndsBefore h → EndsBefore (h ++ e ∷ [])
one_more_ends jmax h e one all k le = split (cases_order k (length h + 1))
  where
    whole : length h + 1 ≤ k → EndsHere (take k (h ++ e ∷ []))
    whole ge = subst EndsHere (sym (take_all k (h ++ e ∷ []) (omega (arith, ge, length-append h (e ∷ []))))) (ends_after jmax h e one all)

    front : k ≤ length h → EndsHere (take k (h ++ e ∷ []))
    front lt = subst EndsHere (sym (take-append-le k h (e ∷ []) lt)) (all k lt)

    split : (k ≡ length h + 1) ⊎ ((k < length h + 1) ⊎ (length h + 1 < k)) → EndsHere (take k (h ++ e ∷ []))
    split (inl same) = whole (omega (arith, same))
    split (inr (inl lt)) = front (omega (arith, lt))
    split (inr (inr gt)) = whole (omega (arith, gt))

none_before : EndsBefore []
none_before k le formed i a present address = absurd (none-some a (sym (ap (λ g. address_at (state g).rows i) none) ∙ address))
  where
    none : ◌≡◌ {A = List (Entry Meaning)} (take k []) []
    none = take_all k [] (omega arith)

pub all_ends : (jmax : ℕ) (h : List (Entry Meaning)) → IsLegal jmax h → EndsBefore h
all_ends jmax h l = kept_along jmax EndsBefore (one_more_ends jmax) [] h l none_before

pub ends_exist : EndsExist
ends_exist jmax h l formed i a address = had_end jmax h l (all_ends jmax h l) formed i a (all_had jmax h l i a address)

-- Where it stands

pub stands_there : (jmax : ℕ) (h : List (Entry Meaning)) → IsLegal jmax h → AliasesHaveForm (state h).units → (i a end : ℕ) → HadAddress h i a → IsEnd (state h) i end → IsAt (state h).rows end a
stands_there jmax h l formed i a end had (Itself k x of plain) =
    let whole = front_and_rest had.at h in
    subst (λ g. IsAt (state g).rows k a) (sym whole) (addresses_stay jmax (take had.at h) (drop had.at h) (subst (IsLegal jmax) whole l) k a had.address)
stands_there jmax h l formed i a end had (Behind k last address x target of alias bound behind) = stands_there jmax h l formed target.0 a last there behind
  where
    past : List (Entry Meaning)
    past = take had.at h

    legal : IsLegal jmax past
    legal = front_legal jmax h had.at l

    later : IsLater (state past) (state h)
    later = front_later jmax had.at h l

    g : IsGiven (state past) k a
    g = given_at jmax past legal k a had.present had.address

    now : (y : UnitRow) × IsOf (state h) k y × SameUnit g.unit y
    now = of_later (state past) (state h) k g.unit later (given_of (state past) k a g)

    same : now.0 ≡ x
    same = of_same (state h) k now.0 x now.1 of

    was : is_alias g.unit ≡ true
    was = sym (same_alias g.unit now.0 now.2) ∙ ap is_alias same ∙ alias

    its : (goal : InstId) × (g.unit.bound ≡ Some (Some (goal, a) ∷ []))
    its = given_target jmax past legal (formed_before (state past) (state h) later formed) k a g was

    goal : its.0 ≡ target
    goal = one_target its.0 target a address (sym (now.2.bound (Some (its.0, a) ∷ []) its.1) ∙ ap (λ (z : UnitRow). z.bound) same ∙ bound)

    there : HadAddress h target.0 a
    there = subst (λ (j : InstId). HadAddress h j.0 a) goal (had_before h had.at its.0.0 a (target_had jmax past legal g.row.unit.0 a g.unit its.0 g.is its.1))

pub ends_stand_there : EndsStandThere
ends_stand_there jmax h l formed i a end address is = stands_there jmax h l formed i a end (all_had jmax h l i a address) is
