-- The bindings of a unit are the end of its link query.
use Rattle.std.proofs.Common.{◌≡◌, ℕ, zero, suc, Bool, true, false, ◌||◌, List, [], ◌∷◌, ◌++◌, slice_get, take, drop, ◌⊎◌, inl, inr, subst, sym, refl, ap, ◌∙◌, Option, Some, None, is_some, unwrap_or}
use Rattle.std.specs.Option.{option_map_or}
use Rattle.std.proofs.lemmas.Bool.{both_ways, and_parts}
use Rattle.std.proofs.lemmas.Option.{none-some, same_Some}
use Rattle.orc_ids.specs.declared.ids.InstId.{InstId}
use Rattle.orc_ids.specs.declared.ids.SeatNo.{SeatNo}
use Rattle.orc_ids.specs.declared.lookup.Level.{Level}
use Rattle.orc_ids.specs.declared.lookup.Level.TheVariants as level
use Rattle.session_model.specs.Answer.{can_link}
use Rattle.session_model.specs.Change.{change_of, bindings_of}
use Rattle.session_model.specs.History.{IsLegal}
use Rattle.session_model.specs.Meaning.{Meaning, Bindings}
use Rattle.session_model.specs.Plain.{Plain, UnitRow, empty, address_at, phase_address, is_emitted}
use Rattle.session_model.specs.Query.{ending, is_met, all_at, at_level, first_lost, addresses}
use Rattle.session_model.specs.State.{state}
use Rattle.session_model.specs.declared.change.Change.{Change}
use Rattle.session_model.specs.declared.change.Change.TheVariants.{Finish}
use Rattle.session_model.specs.declared.entry.Entry.{Entry}
use Rattle.session_model.specs.declared.entry.Finishing.{Finishing}
use Rattle.session_model.specs.declared.entry.Finishing.TheVariants as finishing
use Rattle.session_model.specs.declared.rows.Ending.TheVariants.{Found, Lost}
use Rattle.session_model.specs.declared.rows.InstRow.{InstRow}
use Rattle.session_model.specs.declared.rows.Phase.{Phase}
use Rattle.session_model.specs.declared.rows.Phase.TheVariants as phase
use Rattle.session_model.specs.declared.rows.Query.{Query}
use Rattle.session_laws.proofs.Declared.{state_from_push, same_element, end_stays, front_and_rest, test_parts, ready_from_test, ready_emitted, Guard}
use Rattle.closure_laws.proofs.Fields.{IsNew, link_isnt_finish, HasFields, LinksTo, BindsBy, after_fields}
use Rattle.closure_laws.proofs.Finishes.{bound_by_end}
use Rattle.closure_laws.proofs.Histories.{OneMore, kept_along}
use Rattle.closure_laws.proofs.Staying.{at_stays}
use Rattle.closure_laws.proofs.Working.{link_unbound, all_work}
use Rattle.closure_laws.specs.Bindings.{IsAt, IsItsEnd, BindingsAreEnds, BindingsAreMatches, BoundAddressesAreKept, instances}

-- each unit's bindings are an end
abbrev AllEnds : List (Entry Meaning) → Type 0
AllEnds h = (u : ℕ) (x : UnitRow) (b : Bindings) → slice_get (state h).units u ≡ Some x → x.bound ≡ Some b → IsItsEnd h x b

-- at one more entry
one_more_ends : (jmax : ℕ) (h : List (Entry Meaning)) (e : Entry Meaning) → OneMore jmax h e → AllEnds h → AllEnds (h ++ e ∷ [])
one_more_ends jmax h e one old u y b t bound = split (after_fields m e u y (ap (λ (n : Plain). slice_get n.units u) (sym (state_from_push empty h e)) ∙ t))
  where
    m : Plain
    m = state h

    c : Change Meaning
    c = change_of m e.seat.0 e.event e.reply

    -- bindings that were there stay an end of the same query
    kept : (x : UnitRow) → slice_get m.units u ≡ Some x → x.bound ≡ Some b → (y.query ≡ x.query) ⊎ LinksTo m c u y → IsItsEnd (h ++ e ∷ []) y b
    kept x s f (inl q) = let o = old u x b s f in
        record { number = o.number; its = q ∙ o.its; at = o.at; ended = end_stays h (e ∷ []) o.number o.at (Found b) o.ended }
    kept x s f (inr p) =
        let g = subst (Guard m e.seat.0) p.2 one.guard in
        let is = same_element (slice_get m.units u) g.0 x (ap (slice_get m.units) (sym p.3) ∙ g.1) s in
        absurd (none-some b (sym (link_unbound x (all_work jmax h one.before u x s) (ap can_link (sym is) ∙ g.3.0)) ∙ f))

    -- bindings that are handed out are the end
    given : (x : UnitRow) → slice_get m.units u ≡ Some x → (y.query ≡ x.query) ⊎ LinksTo m c u y → BindsBy c u y → IsItsEnd (h ++ e ∷ []) y b
    given x s q (t, v, how, is, there, so) = by_how how is (sym so ∙ bound)
      where
        same_query : (w : SeatNo) (how : Finishing) → c ≡ Finish w v how → (y.query ≡ x.query) ⊎ LinksTo m c u y → y.query ≡ x.query
        same_query w how is (inl q) = q
        same_query w how is (inr p) = link_isnt_finish c p.0 p.1 w v how p.2 is

        found : (w : SeatNo) → c ≡ Finish w v (finishing.Bound b) → IsItsEnd (h ++ e ∷ []) y b
        found w is =
            let a = bound_by_end jmax h m e.seat.0 e.event e.reply one.answers w v b is in
            let z = same_element (slice_get m.units u) a.unit x (ap (slice_get m.units) (sym there) ∙ a.there) s in
            record { number = a.query; its = same_query w (finishing.Bound b) is q ∙ (ap (λ (r : UnitRow). r.query) (sym z) ∙ a.its); at = a.at; ended = end_stays h (e ∷ []) a.query a.at (Found b) a.ended }

        by_how : (how : Finishing) → c ≡ Finish t v how → bindings_of how ≡ Some b → IsItsEnd (h ++ e ∷ []) y b
        by_how (finishing.Bound d) is f = found t (subst (λ k. c ≡ Finish t v (finishing.Bound k)) (same_Some d b f) is)
        by_how (finishing.Lost i) is f = absurd (none-some b f)

    split : ((x : UnitRow) × (slice_get m.units u ≡ Some x) × HasFields m c u x y) ⊎ IsNew m c u y → IsItsEnd (h ++ e ∷ []) y b
    split (inr p) = absurd (none-some b (sym p.3 ∙ bound))
    split (inl p) = by_bound p.2.bound
      where
        by_bound : (y.bound ≡ p.0.bound) ⊎ BindsBy c u y → IsItsEnd (h ++ e ∷ []) y b
        by_bound (inl f) = kept p.0 p.1 (sym f ∙ bound) p.2.query
        by_bound (inr f) = given p.0 p.1 p.2.query f

pub bindings_are_ends : BindingsAreEnds
bindings_are_ends jmax h l = kept_along jmax AllEnds (one_more_ends jmax) [] h l (λ u x b t. absurd (none-some x t))

-- What an end of found instances tells

-- each was at its level, and these are their addresses
pub record FoundAt (rows : List InstRow) (q : Query) (b : Bindings) : Type 0 where
  pub all : all_at rows q.level q.matched ≡ true
  pub are : b ≡ addresses rows q.matched

pub found_parts : (rows : List InstRow) (q : Query) (b : Bindings) → is_met rows q ≡ true → ending rows q ≡ Found b → FoundAt rows q b
found_parts rows q b met e = split (first_lost rows q.matched) met e
  where
    or_false : (a : Bool) → a || false ≡ true → a ≡ true
    or_false true f = refl
    or_false false f = f

    same_found : (c d : Bindings) → Found c ≡ Found d → c ≡ d
    same_found c d f = cc

    split : (o : Option InstId) → (all_at rows q.level q.matched || is_some o) ≡ true → option_map_or Lost o (Found (addresses rows q.matched)) ≡ Found b → FoundAt rows q b
    split None f g = record { all = or_false (all_at rows q.level q.matched) f; are = sym (same_found (addresses rows q.matched) b g) }
    split (Some i) f g = absurd (cc)

-- at any level an instance has an address
addressed : (rows : List InstRow) (lev : Level) (i : ℕ) → at_level rows lev i ≡ true → address_at rows i ≡ Some (unwrap_or (address_at rows i) 0)
addressed rows level.Resolved i e = there (address_at rows i) e
  where
    there : (o : Option ℕ) → is_some o ≡ true → o ≡ Some (unwrap_or o 0)
    there None e = absurd (both_ways false refl e)
    there (Some a) e = refl
addressed rows level.Ready i e = found (test_parts (λ (r : InstRow). is_emitted r.phase) rows i (ready_emitted rows i (ready_from_test rows i e)))
  where
    at_phase : (p : Phase) → is_emitted p ≡ true → phase_address p ≡ Some (unwrap_or (phase_address p) 0)
    at_phase (phase.Emitted a ds) e = refl
    at_phase phase.Unsearched e = absurd (both_ways false refl e)
    at_phase phase.Claimed e = absurd (both_ways false refl e)
    at_phase (phase.Resolved a) e = absurd (both_ways false refl e)
    at_phase phase.Failed e = absurd (both_ways false refl e)

    found : (r : InstRow) × (slice_get rows i ≡ Some r) × (is_emitted r.phase ≡ true) → address_at rows i ≡ Some (unwrap_or (address_at rows i) 0)
    found p = subst (λ o. option_map_or (λ (r : InstRow). phase_address r.phase) o None ≡ Some (unwrap_or (option_map_or (λ (r : InstRow). phase_address r.phase) o None) 0)) (sym p.1) (at_phase p.0.phase p.2)

-- what is found is at its address
bound_at : (rows : List InstRow) (lev : Level) (os : List (Option InstId)) (k : ℕ) (p : InstId × ℕ) → all_at rows lev os ≡ true → slice_get (addresses rows os) k ≡ Some (Some p) → address_at rows p.0.0 ≡ Some p.1
bound_at rows lev [] k p a e = absurd (none-some (Some p) e)
bound_at rows lev (None ∷ os) zero p a e = absurd (none-some p (same_Some None (Some p) e))
bound_at rows lev (Some j ∷ os) zero p a e =
    let found : InstId × ℕ = (j, unwrap_or (address_at rows j.0) 0) in
    subst (λ (r : InstId × ℕ). address_at rows r.0.0 ≡ Some r.1) (same_Some found p (same_Some (Some found) (Some p) e)) (addressed rows lev j.0 (and_parts (at_level rows lev j.0) (all_at rows lev os) a).0)
bound_at rows lev (None ∷ os) (suc k) p a e = bound_at rows lev os k p a e
bound_at rows lev (Some j ∷ os) (suc k) p a e = bound_at rows lev os k p (and_parts (at_level rows lev j.0) (all_at rows lev os) a).1 e

pub bound_addresses_are_kept : BoundAddressesAreKept
bound_addresses_are_kept jmax h l u x b t bound k i address there = subst (λ g. IsAt (state g).rows i.0 address) (sym whole) (at_stays jmax (take its.at h) (drop its.at h) (subst (IsLegal jmax) whole l) i.0 address (inl was))
  where
    its : IsItsEnd h x b
    its = bindings_are_ends jmax h l u x b t bound

    found : FoundAt (state (take its.at h)).rows its.ended.query b
    found = found_parts (state (take its.at h)).rows its.ended.query b its.ended.settles.met its.ended.ends

    whole : h ≡ take its.at h ++ drop its.at h
    whole = front_and_rest its.at h

    was : address_at (state (take its.at h)).rows i.0 ≡ Some address
    was = bound_at (state (take its.at h)).rows its.ended.query.level its.ended.query.matched k (i, address) found.all (ap (λ (d : Bindings). slice_get d k) (sym found.are) ∙ there)

-- the instances of bindings are the matches
instances_are : (rows : List InstRow) (os : List (Option InstId)) → instances (addresses rows os) ≡ os
instances_are rows [] = refl
instances_are rows (None ∷ os) = ap (λ l. None ∷ l) (instances_are rows os)
instances_are rows (Some i ∷ os) = ap (λ l. Some i ∷ l) (instances_are rows os)

-- what a unit is bound to, of the link query that it has
pub bound_found : (jmax : ℕ) (h : List (Entry Meaning)) → IsLegal jmax h → (u k : ℕ) (x : UnitRow) (b : Bindings) (q : Query) → slice_get (state h).units u ≡ Some x → x.bound ≡ Some b → x.query ≡ Some k → slice_get (state h).queries k ≡ Some q → (rows : List InstRow) × (b ≡ addresses rows q.matched)
bound_found jmax h l u k x b q t bound asks there =
    let its = bindings_are_ends jmax h l u x b t bound in
    let number = same_Some its.number k (sym its.its ∙ asks) in
    let is = same_element (slice_get (state h).queries k) its.ended.query q (ap (slice_get (state h).queries) (sym number) ∙ its.ended.there) there in
    let rows = (state (take its.at h)).rows in
    (rows, (found_parts rows its.ended.query b its.ended.settles.met its.ended.ends).are ∙ ap (λ (r : Query). addresses rows r.matched) is)

pub bindings_are_matches : BindingsAreMatches
bindings_are_matches jmax h l u k x b q t bound asks there = let p = bound_found jmax h l u k x b q t bound asks there in ap instances p.1 ∙ instances_are p.0 q.matched
