-- Chains of waiting aliases end.
use Rattle.std.proofs.Common.{◌≤◌}
use Rattle.orc_ids.specs.declared.lookup.Level.TheVariants as level
use Rattle.session_model.specs.Answer.{can_link}
use Rattle.session_model.specs.declared.rows.Query.{Query}
use Rattle.session_laws.specs.Sound.{LinkQuery, is_held_phase}
use Rattle.session_laws.proofs.Elements.{changed_elsewhere, changed_some, pushed_last}
use Rattle.session_laws.proofs.Ending.{all_claimed_queries}
use Rattle.session_laws.proofs.Invariant.{sound_changed, empty_sound}
use Rattle.session_laws.proofs.Losing.{numbers_all}
use Rattle.session_laws.proofs.Replies.{GoodMatches}
use Rattle.session_laws.proofs.RowStages.{linkable_held}
use Rattle.session_laws.proofs.Settling.{settled_rows, settled_queries}
use Rattle.std.proofs.Common.{◌≡◌, ℕ, ◌+◌, Bool, true, false, ◌&&◌, ◌==◌, List, [], ◌∷◌, ◌++◌, length, slice_get, filter_map, Contains, ◌⊎◌, inl, inr, subst, sym, refl, ap, ◌∙◌, Option, Some, None, is_some, not-suc-le-zero}
use Rattle.std.specs.Prelude.{option_and_then}
use Rattle.std.specs.Bool.{if◌then◌else◌}
use Rattle.std.specs.List.{AllByRecursion}
use Rattle.std.specs.Option.{option_map_or}
use Rattle.std.proofs.lemmas.Bool.{both_ways, cases_Bool, eq-eqb, eqb-true, and_parts, and_from}
use Rattle.std.proofs.lemmas.Option.{none-some, same_Some, slice_get_past}
use Rattle.session_model.proofs.Phases.{waiting_stage}
use Rattle.list_laws.proofs.Each.{each_weaker}
use Rattle.orc_ids.specs.declared.ids.InstId.{InstId}
use Rattle.orc_ids.specs.declared.ids.UnitId.{UnitId}
use Rattle.graph_walks.specs.Walks as walks
use Rattle.graph_walks.specs.Walks.{IsBounded}
use Rattle.graph_walks.proofs.Paths.{walks_suffice, reaches_self, reaches_next}
use Rattle.session_model.specs.Lists.{only_if, first_some}
use Rattle.session_model.specs.Plain.{Plain, UnitRow, empty, is_alias, is_waiting}
use Rattle.session_model.specs.Chain.{chain_next, linked_to, matched_instances, is_of_unit, comes_to_unit}
use Rattle.session_model.specs.Answer.{alias_cycle}
use Rattle.session_model.specs.Change.{change_of, changed, settled, all_claimed, linked, link_matches, waiting_unit}
use Rattle.session_model.specs.State.{after, state_from}
use Rattle.session_model.specs.History.{LegalFrom}
use Rattle.session_model.specs.Meaning.{Meaning}
use Rattle.session_model.specs.declared.change.Change.{Change}
use Rattle.session_model.specs.declared.change.Change.TheVariants.{Link}
use Rattle.session_model.specs.declared.entry.Entry.{Entry}
use Rattle.session_model.specs.declared.entry.Reply.TheVariants as reply
use Rattle.session_model.specs.declared.rows.InstRow.{InstRow}
use Rattle.session_model.specs.declared.rows.UnitPhase.TheVariants as stage
use Rattle.session_laws.specs.Chains.{Ends, Stops, AllEnd, ChainsEnd, ComingIsTested}
use Rattle.session_laws.specs.Sound.{IsSound}
use Rattle.session_laws.proofs.Elements.{same_element}
use Rattle.session_laws.proofs.Ending.{new_query, query_kept}
use Rattle.session_laws.proofs.Guards.{guard_of}
use Rattle.session_laws.proofs.Invariant.{sound_after, good_here, claims_leave}
use Rattle.session_laws.proofs.Losing.{none_of_first}
use Rattle.session_laws.proofs.Origins.{RowsFrom, rows_from, claims_units}
use Rattle.session_laws.proofs.Replies.{Guard}
use Rattle.session_laws.proofs.Resting.{StaysBefore, WasSo, is_link, change_before, claims_before, settled_waits_before}

-- Walks that end

pub ends_fewer : (new old : ℕ → List ℕ) → ((i j : ℕ) → Contains (new i) j → Contains (old i) j) → (i : ℕ) → Ends old i → Ends new i
ends_fewer new old f _ (Stops i h) = Stops i (λ j c. ends_fewer new old f j (h j (f i j c)))

-- where some numbers get new followers, none of which came back to them
ends_avoiding : (new old : ℕ → List ℕ) (mine : ℕ → Bool) → ((i j : ℕ) → mine i ≡ false → Contains (new i) j → Contains (old i) j) → (i : ℕ) → ((k : ℕ) → mine k ≡ true → walks.Reaches old i k → ⊥) → Ends old i → Ends new i
ends_avoiding new old mine f _ n (Stops i h) = Stops i (λ j c. split j c (cases_Bool (mine i)) (λ b d m. ends_avoiding new old mine f j m (h j d)))
  where
    split : (j : ℕ) → Contains (new i) j → (mine i ≡ true) ⊎ (mine i ≡ false) → ((b : mine i ≡ false) → Contains (old i) j → ((k : ℕ) → mine k ≡ true → walks.Reaches old j k → ⊥) → Ends new j) → Ends new j
    split j c (inl t) later = absurd (n i t (reaches_self old i))
    split j c (inr b) later = let d = f i j b c in later b d (λ k t r. n k t (reaches_next old i j k d r))

pub ends_more : (new old : ℕ → List ℕ) (mine : ℕ → Bool) → ((i j : ℕ) → mine i ≡ false → Contains (new i) j → Contains (old i) j) →
    ((i j : ℕ) → mine i ≡ true → Contains (new i) j → (k : ℕ) → mine k ≡ true → walks.Reaches old j k → ⊥) → ((i : ℕ) → Ends old i) → (i : ℕ) → Ends old i → Ends new i
ends_more new old mine f free all _ (Stops i h) = Stops i (λ j c. split j c (cases_Bool (mine i)) (λ d. ends_more new old mine f free all j (h j d)))
  where
    split : (j : ℕ) → Contains (new i) j → (mine i ≡ true) ⊎ (mine i ≡ false) → (Contains (old i) j → Ends new j) → Ends new j
    split j c (inl t) later = ends_avoiding new old mine f j (free i j t c) (all j)
    split j c (inr b) later = later (f i j b c)

-- The next instance of a chain

pub record Follows (rows : List InstRow) (units : List UnitRow) (queries : List Query) (i j : ℕ) : Type 0 where
  pub row : InstRow
  pub here : slice_get rows i ≡ Some row
  pub unit : UnitRow
  pub there : slice_get units row.unit.0 ≡ Some unit
  pub alias : is_alias unit ≡ true
  pub waits : unit.phase ≡ stage.Waiting
  pub number : ℕ
  pub its : unit.query ≡ Some number
  pub query : Query
  pub asked : slice_get queries number ≡ Some query
  pub matched : Contains (matched_instances query.matched) j

none_in : (j : ℕ) → Contains [] j → ⊥
none_in j c = not-suc-le-zero c.1

pub follows_from : (rows : List InstRow) (units : List UnitRow) (queries : List Query) (i j : ℕ) → Contains (chain_next rows units queries i) j → Follows rows units queries i j
follows_from rows units queries i j = by_row (slice_get rows i) refl
  where
    by_query : (r : InstRow) (x : UnitRow) → slice_get rows i ≡ Some r → slice_get units r.unit.0 ≡ Some x → is_alias x ≡ true → x.phase ≡ stage.Waiting → (k : ℕ) → x.query ≡ Some k → (o : Option Query) → slice_get queries k ≡ o → Contains (option_map_or (λ (q : Query). matched_instances q.matched) o []) j → Follows rows units queries i j
    by_query r x e t a w k its None asked c = absurd (none_in j c)
    by_query r x e t a w k its (Some q) asked c = record { row = r; here = e; unit = x; there = t; alias = a; waits = w; number = k; its = its; query = q; asked = asked; matched = c }

    by_number : (r : InstRow) (x : UnitRow) → slice_get rows i ≡ Some r → slice_get units r.unit.0 ≡ Some x → is_alias x ≡ true → x.phase ≡ stage.Waiting → (o : Option ℕ) → x.query ≡ o → Contains (option_map_or (λ (q : Query). matched_instances q.matched) (option_and_then (slice_get queries) o) []) j → Follows rows units queries i j
    by_number r x e t a w None its c = absurd (none_in j c)
    by_number r x e t a w (Some k) its c = by_query r x e t a w k its (slice_get queries k) refl c

    by_test : (r : InstRow) (x : UnitRow) → slice_get rows i ≡ Some r → slice_get units r.unit.0 ≡ Some x → (b : Bool) → (is_alias x && is_waiting x.phase) ≡ b → Contains (if b then linked_to queries x else []) j → Follows rows units queries i j
    by_test r x e t true b c = let p = and_parts (is_alias x) (is_waiting x.phase) b in by_number r x e t p.0 (waiting_stage x.phase p.1) x.query refl c
    by_test r x e t false b c = absurd (none_in j c)

    by_unit : (r : InstRow) → slice_get rows i ≡ Some r → (o : Option UnitRow) → slice_get units r.unit.0 ≡ o → Contains (option_map_or (λ (x : UnitRow). if is_alias x && is_waiting x.phase then linked_to queries x else []) o []) j → Follows rows units queries i j
    by_unit r e None t c = absurd (none_in j c)
    by_unit r e (Some x) t c = by_test r x e t (is_alias x && is_waiting x.phase) refl c

    by_row : (o : Option InstRow) → slice_get rows i ≡ o → Contains (option_map_or (λ (x : UnitRow). if is_alias x && is_waiting x.phase then linked_to queries x else []) (option_and_then (λ (r : InstRow). slice_get units r.unit.0) o) []) j → Follows rows units queries i j
    by_row None e c = absurd (none_in j c)
    by_row (Some r) e c = by_unit r e (slice_get units r.unit.0) refl c

pub next_from : (rows : List InstRow) (units : List UnitRow) (queries : List Query) (i j : ℕ) → Follows rows units queries i j → Contains (chain_next rows units queries i) j
next_from rows units queries i j f = subst (λ o. Contains (option_map_or (λ (x : UnitRow). if is_alias x && is_waiting x.phase then linked_to queries x else []) (option_and_then (λ (r : InstRow). slice_get units r.unit.0) o) []) j) (sym f.here)
    (subst (λ o. Contains (option_map_or (λ (x : UnitRow). if is_alias x && is_waiting x.phase then linked_to queries x else []) o []) j) (sym f.there)
    (subst (λ b. Contains (if b then linked_to queries f.unit else []) j) (sym (and_from (is_alias f.unit) (is_waiting f.unit.phase) f.alias (ap is_waiting f.waits)))
    (subst (λ o. Contains (option_map_or (λ (q : Query). matched_instances q.matched) (option_and_then (slice_get queries) o) []) j) (sym f.its)
    (subst (λ o. Contains (option_map_or (λ (q : Query). matched_instances q.matched) o []) j) (sym f.asked) f.matched))))

-- nothing follows past the end of the list
chain_bounded : (m : Plain) → IsBounded (length m.rows) (chain_next m.rows m.units m.queries)
chain_bounded m i h = ap (λ o. option_map_or (λ (x : UnitRow). if is_alias x && is_waiting x.phase then linked_to m.queries x else []) (option_and_then (λ (r : InstRow). slice_get m.units r.unit.0) o) []) (slice_get_past m.rows i h)

pub coming_tested : ComingIsTested
coming_tested m u i = walks_suffice (length m.rows) (chain_next m.rows m.units m.queries) (is_of_unit u m.rows) i (chain_bounded m)

-- A change that lets no more units wait

-- what followed in the session before
follows_before : (m n : Plain) → IsSound m → RowsFrom m n.rows → StaysBefore stage.Waiting m.units n.units → ((k : ℕ) (q : Query) → slice_get m.queries k ≡ Some q → slice_get n.queries k ≡ Some q) → (i j : ℕ) → Follows n.rows n.units n.queries i j → Follows m.rows m.units m.queries i j
follows_before m n s rows units queries i j f = by_row (rows i f.row f.here)
  where
    was : WasSo stage.Waiting m.units f.row.unit.0 f.unit
    was = units f.row.unit.0 f.unit f.there f.waits

    by_row : ((r : InstRow) × (slice_get m.rows i ≡ Some r) × (r.unit ≡ f.row.unit)) ⊎ (length m.units ≤ f.row.unit.0) → Follows m.rows m.units m.queries i j
    by_row (inr b) = absurd (none-some was.unit (sym (slice_get_past m.units f.row.unit.0 b) ∙ was.there))
    by_row (inl p) = let l = (s.units_fit f.row.unit.0 was.unit was.there).waits was.phase_is in
        let number : l.number ≡ f.number = same_Some l.number f.number (sym l.its ∙ (was.query ∙ f.its)) in
        let same : l.query ≡ f.query = same_element (slice_get n.queries l.number) l.query f.query (queries l.number l.query l.there) (ap (slice_get n.queries) number ∙ f.asked) in
        record {
          row = p.0;
          here = p.1;
          unit = was.unit;
          there = ap (λ (v : UnitId). slice_get m.units v.0) p.2 ∙ was.there;
          alias = ap (λ (u : Meaning). is_some u.source) was.meaning ∙ f.alias;
          waits = was.phase_is;
          number = l.number;
          its = l.its;
          query = l.query;
          asked = l.there;
          matched = subst (λ (q : Query). Contains (matched_instances q.matched) j) (sym same) f.matched;
        }

fewer_end : (m n : Plain) → IsSound m → RowsFrom m n.rows → StaysBefore stage.Waiting m.units n.units → ((k : ℕ) (q : Query) → slice_get m.queries k ≡ Some q → slice_get n.queries k ≡ Some q) → AllEnd m → AllEnd n
fewer_end m n s rows units queries all i = ends_fewer (chain_next n.rows n.units n.queries) (chain_next m.rows m.units m.queries)
    (λ i j c. next_from m.rows m.units m.queries i j (follows_before m n s rows units queries i j (follows_from n.rows n.units n.queries i j c))) i (all i)

-- A link

-- an instance of the unit
mine_at : (u : ℕ) (rows : List InstRow) (i : ℕ) (r : InstRow) → slice_get rows i ≡ Some r → is_of_unit u rows i ≡ (r.unit.0 == u)
mine_at u rows i r e = ap (λ o. option_map_or (λ (x : InstRow). x.unit.0 == u) o false) e

-- what a list of matched instances holds comes from an element
matched_from : (Q : ℕ → Type 0) (os : List (Option InstId)) → AllByRecursion (λ (i : InstId). Q i.0) (filter_map (λ (o : Option InstId). o) os) → (j : ℕ) → Contains (matched_instances os) j → Q j
matched_from Q os a j c = numbers_all Q (filter_map (λ (o : Option InstId). o) os) j a c

linked_end : (m : Plain) (u : ℕ) (x : UnitRow) (found : List (Option InstId)) → IsSound m → slice_get m.units u ≡ Some x → can_link x ≡ true → found ≡ link_matches m x → alias_cycle m u x ≡ None → GoodMatches m found → AllEnd m → AllEnd (linked u found m)
linked_end m u x found s t c is uncycled good all i = ends_more next old mine other own all i (all i)
  where
    n : Plain
    n = linked u found m

    next : ℕ → List ℕ
    next = chain_next n.rows n.units n.queries

    old : ℕ → List ℕ
    old = chain_next m.rows m.units m.queries

    mine : ℕ → Bool
    mine = is_of_unit u m.rows

    query : Query
    query = record { asked = m.entries + 1; matched = found; level = level.Resolved; unit = Some u; note = None }

    there : slice_get (all_claimed found m).units u ≡ Some x
    there = claims_leave m u x found s t (λ e. both_ways (is_held_phase x.phase) (ap is_held_phase e) (linkable_held x c)) (good_here m found good)

    last : slice_get n.queries (length m.queries) ≡ Some query
    last = ap (λ (k : ℕ). slice_get n.queries k) (ap length (sym (all_claimed_queries found m))) ∙ pushed_last (all_claimed found m).queries query

    kept : (k : ℕ) (q : Query) → slice_get m.queries k ≡ Some q → slice_get n.queries k ≡ Some q
    kept k q e = query_kept m n.queries k q (new_query (Link (record { 0 = u }) found) m) e

    -- the units that waited before, but for this one
    before : (v : ℕ) (y : UnitRow) → slice_get n.units v ≡ Some y → y.phase ≡ stage.Waiting → (v ≡ u → ⊥) → WasSo stage.Waiting m.units v y
    before v y e w apart = claims_before stage.Waiting refl found m v y (sym (changed_elsewhere u (waiting_unit (length m.queries)) (all_claimed found m).units v apart) ∙ e) w

    other : (i j : ℕ) → mine i ≡ false → Contains (next i) j → Contains (old i) j
    other i j b d = by_row (claims_units found m i f.row f.here)
      where
        f : Follows n.rows n.units n.queries i j
        f = follows_from n.rows n.units n.queries i j d

        by_row : (r : InstRow) × (slice_get m.rows i ≡ Some r) × (r.unit ≡ f.row.unit) → Contains (old i) j
        by_row p = next_from m.rows m.units m.queries i j (record {
          row = p.0;
          here = p.1;
          unit = was.unit;
          there = ap (λ (v : UnitId). slice_get m.units v.0) p.2 ∙ was.there;
          alias = ap (λ (v : Meaning). is_some v.source) was.meaning ∙ f.alias;
          waits = was.phase_is;
          number = link.number;
          its = link.its;
          query = link.query;
          asked = link.there;
          matched = subst (λ (q : Query). Contains (matched_instances q.matched) j) (sym same) f.matched;
        })
          where
            apart : f.row.unit.0 ≡ u → ⊥
            apart e = both_ways (mine i) b (mine_at u m.rows i p.0 p.1 ∙ eq-eqb p.0.unit.0 u (ap (λ (v : UnitId). v.0) p.2 ∙ e))

            was : WasSo stage.Waiting m.units f.row.unit.0 f.unit
            was = before f.row.unit.0 f.unit f.there f.waits apart

            link : LinkQuery m.queries f.row.unit.0 was.unit
            link = (s.units_fit f.row.unit.0 was.unit was.there).waits was.phase_is

            number : link.number ≡ f.number
            number = same_Some link.number f.number (sym link.its ∙ (was.query ∙ f.its))

            same : link.query ≡ f.query
            same = same_element (slice_get n.queries link.number) link.query f.query (kept link.number link.query link.there) (ap (slice_get n.queries) number ∙ f.asked)

    own : (i j : ℕ) → mine i ≡ true → Contains (next i) j → (k : ℕ) → mine k ≡ true → walks.Reaches old j k → ⊥
    own i j b d k a r = both_ways (comes_to_unit m.rows m.units m.queries u j) (uncoming j member) ((coming_tested m u j).1 (k, r, a))
      where
        f : Follows n.rows n.units n.queries i j
        f = follows_from n.rows n.units n.queries i j d

        -- the instance's unit is this one
        at_unit : f.row.unit.0 ≡ u
        at_unit = by_row (claims_units found m i f.row f.here)
          where
            by_row : (q : InstRow) × (slice_get m.rows i ≡ Some q) × (q.unit ≡ f.row.unit) → f.row.unit.0 ≡ u
            by_row p = sym (ap (λ (v : UnitId). v.0) p.2) ∙ eqb-true p.0.unit.0 u (sym (mine_at u m.rows i p.0 p.1) ∙ b)

        unit_is : f.unit ≡ waiting_unit (length m.queries) x
        unit_is = same_element (slice_get n.units u) f.unit (waiting_unit (length m.queries) x) (sym (ap (slice_get n.units) at_unit) ∙ f.there) (changed_some u (waiting_unit (length m.queries)) (all_claimed found m).units x there)

        alias : is_alias x ≡ true
        alias = ap is_alias (sym unit_is) ∙ f.alias

        number : length m.queries ≡ f.number
        number = same_Some (length m.queries) f.number (ap (λ (y : UnitRow). y.query) (sym unit_is) ∙ f.its)

        query_is : query ≡ f.query
        query_is = same_element (slice_get n.queries f.number) query f.query (sym (ap (slice_get n.queries) number) ∙ last) f.asked

        member : Contains (matched_instances found) j
        member = subst (λ (q : Query). Contains (matched_instances q.matched) j) (sym query_is) f.matched

        listed : first_some (λ (l : InstId). only_if (comes_to_unit m.rows m.units m.queries u l.0) (reply.AliasCycle l)) (filter_map (λ (o : Option InstId). o) (link_matches m x)) ≡ None
        listed = subst (λ b. first_some (λ (l : InstId). only_if (comes_to_unit m.rows m.units m.queries u l.0) (reply.AliasCycle l)) (if b then filter_map (λ (o : Option InstId). o) (link_matches m x) else []) ≡ None) alias uncycled

        passed : (l : InstId) → only_if (comes_to_unit m.rows m.units m.queries u l.0) (reply.AliasCycle l) ≡ None → comes_to_unit m.rows m.units m.queries u l.0 ≡ false
        passed l e = by_test (comes_to_unit m.rows m.units m.queries u l.0) e
          where
            by_test : (b : Bool) → only_if b (reply.AliasCycle l) ≡ None → b ≡ false
            by_test true e = absurd (none-some (reply.AliasCycle l) (sym e))
            by_test false e = refl

        uncoming : (l : ℕ) → Contains (matched_instances found) l → comes_to_unit m.rows m.units m.queries u l ≡ false
        uncoming l c = matched_from (λ k. comes_to_unit m.rows m.units m.queries u k ≡ false) found
            (subst (λ os. AllByRecursion (λ (k : InstId). comes_to_unit m.rows m.units m.queries u k.0 ≡ false) (filter_map (λ (o : Option InstId). o) os)) (sym is)
            (each_weaker (λ (k : InstId). only_if (comes_to_unit m.rows m.units m.queries u k.0) (reply.AliasCycle k) ≡ None) (λ (k : InstId). comes_to_unit m.rows m.units m.queries u k.0 ≡ false) passed (filter_map (λ (o : Option InstId). o) (link_matches m x))
            (none_of_first (λ (k : InstId). only_if (comes_to_unit m.rows m.units m.queries u k.0) (reply.AliasCycle k)) (filter_map (λ (o : Option InstId). o) (link_matches m x)) listed))) l c

-- Along a history

link_parts : (c : Change Meaning) → is_link c ≡ true → (u : UnitId) × (found : List (Option InstId)) × (c ≡ Link u found)
link_parts (Link u found) e = (u, found, refl)
link_parts _ e = absurd (both_ways false refl e)

changed_end : (m : Plain) (s : ℕ) (c : Change Meaning) → IsSound m → Guard m s c → AllEnd m → AllEnd (changed c m)
changed_end m s c h g all = by_link (is_link c) refl
  where
    at_link : (u : UnitId) (found : List (Option InstId)) → Guard m s (Link u found) → AllEnd (linked u.0 found m)
    at_link u found g = linked_end m u.0 g.0 found h g.1 g.3.0 g.3.1 g.3.2 g.3.3 all

    by_link : (b : Bool) → is_link c ≡ b → AllEnd (changed c m)
    by_link false n = fewer_end m (changed c m) h (rows_from c m) (change_before stage.Waiting refl c (inl n) m) (λ k q e. query_kept m (changed c m).queries k q (new_query c m) e) all
    by_link true e = let p = link_parts c e in subst (λ d. AllEnd (changed d m)) (sym p.2) (at_link p.0 p.1 (subst (Guard m s) p.2 g))

settled_end : (m : Plain) → IsSound m → AllEnd m → AllEnd (settled m)
settled_end m s all = fewer_end m (settled m) s (λ i q e. inl (q, ap (λ rows. slice_get rows i) (sym (settled_rows m)) ∙ e, refl)) (settled_waits_before m) (λ k q e. ap (λ l. slice_get l k) (settled_queries m) ∙ e) all

from_end : (jmax : ℕ) (past : List (Entry Meaning)) (m : Plain) (h : List (Entry Meaning)) → IsSound m → LegalFrom jmax past m h → AllEnd m → AllEnd (state_from m h)
from_end jmax past m [] s l all = all
from_end jmax past m (e ∷ es) s l all =
    let c = change_of m e.seat.0 e.event e.reply in
    let g = guard_of jmax past m e.seat.0 e.event e.reply l.0 in
    from_end jmax (past ++ e ∷ []) (after m e) es (sound_after jmax past m e s l.0) l.1 (settled_end (changed c m) (sound_changed m e.seat.0 c s g) (changed_end m e.seat.0 c s g all))

pub chains_end : ChainsEnd
chains_end jmax h l = from_end jmax [] empty h empty_sound l (λ i. Stops i (λ j c. absurd (none_in j c)))
