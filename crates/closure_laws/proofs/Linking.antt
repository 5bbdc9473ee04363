-- A unit looks its externals up and binds each of them, and has all once it is done.
use Rattle.std.proofs.Common.{◌≡◌, ℕ, ◌+◌, true, List, [], ◌∷◌, ◌++◌, length, slice_get, ◌⊎◌, inl, inr, subst, sym, refl, ap, ◌∙◌, Option, Some, None, is_some, option_map, unwrap_or}
use Rattle.std.proofs.Common.{take, le_refl, arith}
use Rattle.std.proofs.lemmas.List.{take-append-le, take_all, length-append}
use Rattle.std.proofs.lemmas.Bool.{both_ways, or_cases}
use Rattle.std.proofs.lemmas.Option.{none-some, same_Some}
use Rattle.orc_ids.specs.declared.ids.InstId.{InstId}
use Rattle.orc_ids.specs.declared.lookup.Level.TheVariants as level
use Rattle.orc_ids.specs.declared.lookup.Wanted.{Wanted}
use Rattle.session_model.specs.Change.{change_of, changed, linked, instance_of, link_order, link_matches}
use Rattle.session_model.specs.Match.{match_of}
use Rattle.session_model.specs.Meaning.{Meaning, Bindings}
use Rattle.session_model.specs.Memory.{is_done}
use Rattle.session_model.specs.Plain.{Plain, UnitRow, empty, is_alias, unit_shape, address_at}
use Rattle.session_model.specs.State.{state, after}
use Rattle.session_model.specs.declared.change.Change.{Change}
use Rattle.session_model.specs.declared.entry.Entry.{Entry}
use Rattle.session_model.specs.declared.rows.Query.{Query}
use Rattle.session_model.specs.declared.rows.UnitPhase.TheVariants as stage
use Rattle.session_laws.proofs.Declared.{state_from_push, same_element, mapped_length, mapped_some, pushed_last, after_query, query_kept, all_claimed_queries, entries_are, live_names_stay, Guard, linkable_held, settled_queries}
use Rattle.session_laws.specs.Sound.{is_held_phase}
use Rattle.closure_laws.proofs.Ends.{bindings_are_ends, bindings_are_matches, bound_found}
use Rattle.closure_laws.proofs.Fields.{IsNew, HasFields, LinksTo, after_fields}
use Rattle.closure_laws.proofs.Histories.{OneMore, kept_along}
use Rattle.closure_laws.proofs.Unrefused.{link_unrefused, passed_weak}
use Rattle.closure_laws.proofs.Working.{IsWorking, is_unclaimed, is_placed, all_work}
use Rattle.closure_laws.specs.Links.{LinkedAt, refused_link, LinksAreLookups, UnboundIsWeak}
use Rattle.closure_laws.specs.Bound.{external_count, LinksEach, DoneIsBound}

-- the link query of each unit is a lookup of its externals
abbrev AllLookups : List (Entry Meaning) → Type 0
AllLookups h = (u k : ℕ) (x : UnitRow) → slice_get (state h).units u ≡ Some x → x.query ≡ Some k → (q : Query) × (slice_get (state h).queries k ≡ Some q) × (n : ℕ) × LinkedAt h u x q n

-- the query that a link asks
abbrev link_query : Plain → ℕ → List (Option InstId) → Query
link_query m v found = record { asked = m.entries + 1; matched = found; level = level.Resolved; unit = Some v; note = None }

linked_last : (m : Plain) (v : ℕ) (found : List (Option InstId)) → slice_get (linked v found m).queries (length m.queries) ≡ Some (link_query m v found)
linked_last m v found = ap (λ qs. slice_get (qs ++ link_query m v found ∷ []) (length m.queries)) (all_claimed_queries found m) ∙ pushed_last m.queries (link_query m v found)

-- a lookup that was made stays one
linked_still : (h : List (Entry Meaning)) (e : Entry Meaning) (u n : ℕ) (x y : UnitRow) (q : Query) → (y.meaning ≡ x.meaning) × (y.live ≡ x.live) → LinkedAt h u x q n → LinkedAt (h ++ e ∷ []) u y q n
linked_still h e u n x y q s a = record {
  here = omega (arith, a.here, length-append h (e ∷ []));
  asked = a.asked;
  unit = a.unit;
  there = ap (λ m. slice_get m.units u) front ∙ a.there;
  same = (a.same.0 ∙ sym s.0, a.same.1 ∙ sym s.1);
  matched = a.matched ∙ ap (λ m. link_matches m a.unit) (sym front);
  passed = ap (λ m. refused_link m a.unit) front ∙ a.passed;
}
  where
    front : state (take n (h ++ e ∷ [])) ≡ state (take n h)
    front = ap state (take-append-le n h (e ∷ []) a.here)

one_more_lookups : (jmax : ℕ) (h : List (Entry Meaning)) (e : Entry Meaning) → OneMore jmax h e → AllLookups h → AllLookups (h ++ e ∷ [])
one_more_lookups jmax h e one old u k y t asks = split (after_fields m e u y (ap (λ (n : Plain). slice_get n.units u) (sym leads) ∙ t))
  where
    m : Plain
    m = state h

    c : Change Meaning
    c = change_of m e.seat.0 e.event e.reply

    leads : state (h ++ e ∷ []) ≡ after m e
    leads = state_from_push empty h e

    -- a unit that a lookup has asked for keeps its externals
    same : (x : UnitRow) → slice_get m.units u ≡ Some x → (x.phase ≡ stage.Unclaimed → ⊥) → (y.meaning ≡ x.meaning) × (y.live ≡ x.live)
    same x s n =
        let p = live_names_stay jmax h (e ∷ []) one.legal u x s n in
        let is = same_element (slice_get (state (h ++ e ∷ [])).units u) y p.0 t p.1 in
        (ap (λ (z : UnitRow). z.meaning) is ∙ p.3, ap (λ (z : UnitRow). z.live) is ∙ p.2)

    kept : (x : UnitRow) → slice_get m.units u ≡ Some x → x.query ≡ Some k → (q : Query) × (slice_get (state (h ++ e ∷ [])).queries k ≡ Some q) × (n : ℕ) × LinkedAt (h ++ e ∷ []) u y q n
    kept x s f =
        let p = old u k x s f in
        let asked : x.phase ≡ stage.Unclaimed → ⊥ = λ a. none-some k (sym ((all_work jmax h one.before u x s).unasked (ap is_unclaimed a)) ∙ f) in
        (p.0, ap (λ (n : Plain). slice_get n.queries k) leads ∙ query_kept m (after m e).queries k p.0 (after_query m e) p.1, p.2, linked_still h e u p.2 x y p.0 (same x s asked) p.3)

    made : (x : UnitRow) → slice_get m.units u ≡ Some x → LinksTo m c u y → (q : Query) × (slice_get (state (h ++ e ∷ [])).queries k ≡ Some q) × (n : ℕ) × LinkedAt (h ++ e ∷ []) u y q n
    made x s p =
        let g = subst (Guard m e.seat.0) p.2 one.guard in
        let is = same_element (slice_get m.units u) g.0 x (ap (slice_get m.units) (sym p.3) ∙ g.1) s in
        let r = link_unrefused jmax h m e.seat.0 e.event e.reply one.answers p.0 p.1 p.2 in
        let its = same_element (slice_get m.units u) r.unit x (ap (slice_get m.units) (sym p.3) ∙ r.there) s in
        let number : Some (length m.queries) ≡ Some k = sym p.4 ∙ asks in
        let linking : x.phase ≡ stage.Unclaimed → ⊥ = λ a. both_ways (is_held_phase x.phase) (ap is_held_phase a) (ap (λ (z : UnitRow). is_held_phase z.phase) (sym is) ∙ linkable_held g.0 g.3.0) in
        let front : state (take (length h) (h ++ e ∷ [])) ≡ m = ap state (take-append-le (length h) h (e ∷ []) (le_refl (length h)) ∙ take_all (length h) h (le_refl (length h))) in
        let names = same x s linking in (
          link_query m p.0.0 p.1,
          ap (λ (n : Plain). slice_get n.queries k) leads
              ∙ (ap (λ qs. slice_get qs k) (settled_queries (changed c m) ∙ ap (λ d. (changed d m).queries) p.2)
              ∙ (ap (slice_get (linked p.0.0 p.1 m).queries) (sym (same_Some (length m.queries) k number)) ∙ linked_last m p.0.0 p.1)),
          length h,
          record {
            here = omega (arith, length-append h (e ∷ []));
            asked = ap (λ (n : ℕ). n + 1) (entries_are h);
            unit = x;
            there = ap (λ (n : Plain). slice_get n.units u) front ∙ s;
            same = (sym names.0, sym names.1);
            matched = g.3.1 ∙ (ap (link_matches m) is ∙ ap (λ (n : Plain). link_matches n x) (sym front));
            passed = ap (λ (n : Plain). refused_link n x) front ∙ (ap (refused_link m) (sym its) ∙ r.passed);
          },
        )

    split : ((x : UnitRow) × (slice_get m.units u ≡ Some x) × HasFields m c u x y) ⊎ IsNew m c u y → (q : Query) × (slice_get (state (h ++ e ∷ [])).queries k ≡ Some q) × (n : ℕ) × LinkedAt (h ++ e ∷ []) u y q n
    split (inr p) = absurd (none-some k (sym p.2 ∙ asks))
    split (inl p) = by_query p.2.query
      where
        by_query : (y.query ≡ p.0.query) ⊎ LinksTo m c u y → (q : Query) × (slice_get (state (h ++ e ∷ [])).queries k ≡ Some q) × (n : ℕ) × LinkedAt (h ++ e ∷ []) u y q n
        by_query (inl f) = kept p.0 p.1 (sym f ∙ asks)
        by_query (inr f) = made p.0 p.1 f

pub links_are_lookups : LinksAreLookups
links_are_lookups jmax h l = kept_along jmax AllLookups (one_more_lookups jmax) [] h l (λ u k x t. absurd (none-some x t))

-- What follows

-- it matched one instance or none for each external
matched_each : (h : List (Entry Meaning)) (u n : ℕ) (x : UnitRow) (q : Query) → LinkedAt h u x q n → length q.matched ≡ external_count x
matched_each h u n x q a = let m = state (take n h) in
    ap length a.matched ∙ (mapped_length (λ (w : Wanted). instance_of (match_of m (link_order m a.unit) w.name.0)) (a.unit.meaning.externals a.unit.live)
    ∙ (ap (λ (v : Meaning). length (v.externals a.unit.live)) a.same.0 ∙ ap (λ l. length (x.meaning.externals l)) a.same.1))

-- and none for a weak one alone
none_weak : (h : List (Entry Meaning)) (u n k : ℕ) (x : UnitRow) (q : Query) (w : Wanted) → LinkedAt h u x q n → slice_get (x.meaning.externals x.live) k ≡ Some w → slice_get q.matched k ≡ Some None → w.weak ≡ true
none_weak h u n k x q w a t e = let m = state (take n h) in
    passed_weak m (link_order m a.unit) (a.unit.meaning.externals a.unit.live) a.passed k w
    (ap (λ (v : Meaning). slice_get (v.externals a.unit.live) k) a.same.0 ∙ (ap (λ l. slice_get (x.meaning.externals l) k) a.same.1 ∙ t))
    (ap (λ os. slice_get os k) (sym a.matched) ∙ e)

pub unbound_is_weak : UnboundIsWeak
unbound_is_weak jmax h l u k x b w t bound e f =
    let its = bindings_are_ends jmax h l u x b t bound in
    let q = links_are_lookups jmax h l u its.number x t its.its in
    let matches = bindings_are_matches jmax h l u its.number x b q.0 t bound its.its q.1 in
    none_weak h u q.2 k x q.0 w q.3 e (ap (λ os. slice_get os k) (sym matches) ∙ mapped_some (λ (o : Option (InstId × ℕ)). option_map (λ (p : InstId × ℕ). p.0) o) b k None f)

pub some_there : {X : Type 0} (o : Option X) → is_some o ≡ true → (x : X) × (o ≡ Some x)
some_there None e = absurd (cc)
some_there (Some x) e = (x, refl)

pub done_is_bound : DoneIsBound
done_is_bound jmax h l u x t = record { links = links; binds = binds; done = λ d. record { bound = bound d; base = λ w. base d (or_cases (is_some (unit_shape x)) (is_alias x) w) } }
  where
    works : IsWorking x
    works = all_work jmax h l u x t

    links : LinksEach (state h).queries x
    links k e = let q = links_are_lookups jmax h l u k x t e in (q.0, q.1, matched_each h u q.2 x q.0 q.3)

    binds : (b : Bindings) → x.bound ≡ Some b → length b ≡ external_count x
    binds b e =
        let its = bindings_are_ends jmax h l u x b t e in
        let q = links its.number its.its in
        let found = bound_found jmax h l u its.number x b q.0 t e its.its q.1 in
        ap length found.1 ∙ (mapped_length (λ (o : Option InstId). option_map (λ (i : InstId). (i, unwrap_or (address_at found.0 i.0) 0)) o) q.0.matched ∙ q.2)

    bound : x.phase ≡ stage.Done → (b : Bindings) × (x.bound ≡ Some b) × (length b ≡ external_count x)
    bound d = let p = some_there x.bound (works.bound (ap is_done d)) in (p.0, p.1, binds p.0 p.1)

    base : x.phase ≡ stage.Done → (is_some (unit_shape x) ≡ true) ⊎ (is_alias x ≡ true) → (n : ℕ) × (x.base ≡ Some n)
    base d (inl s) = some_there x.base (works.based (ap is_placed d) s)
    base d (inr a) = some_there x.base (works.alias (ap is_done d) a)
