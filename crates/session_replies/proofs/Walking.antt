-- A chain of aliases, step by step.
use Rattle.std.proofs.Common.{◌≡◌, ℕ, zero, suc, ◌+◌, ◌-◌, ◌<◌, ◌≤◌, ◌∙◌, Bool, true, false, ◌&&◌, ◌||◌, arith, ap, refl, sym, subst, List, [], ◌∷◌, length, filter_map, slice_get, Option, Some, None, is_some, option_map, option_and_then, option_to_list}
use Rattle.std.specs.Bool.{if◌then◌else◌}
use Rattle.std.specs.List.{list_any}
use Rattle.std.specs.Option.{option_map_or}
use Rattle.std.proofs.lemmas.Bool.{and_parts}
use Rattle.std.proofs.lemmas.List.{length-map}
use Rattle.std.proofs.lemmas.Option.{none-some, same_Some, option_and_then_some}
use Rattle.orc_ids.specs.declared.ids.InstId.{InstId}
use Rattle.orc_ids.specs.declared.ids.QueryId.{QueryId}
use Rattle.graph_walks.specs.Walks.{within}
use Rattle.graph_walks.proofs.Paths.{within_base, within_zero}
use Rattle.mat_unit.specs.Rows.{unit_row}
use Rattle.mat_unit.specs.declared.unit.Unit.{Unit as OneUnit}
use Rattle.session_model.specs.Answer.{alias_cycle}
use Rattle.session_model.specs.Chain.{chain_next, comes_to_unit, is_of_unit, linked_to, matched_instances}
use Rattle.session_model.specs.Change.{link_matches}
use Rattle.session_model.specs.Lists.{first_some, only_if, or_else}
use Rattle.session_model.specs.Meaning.{Meaning, IsLawful}
use Rattle.session_model.specs.Plain.{Plain, UnitRow, is_alias, is_waiting}
use Rattle.session_model.specs.declared.entry.Reply.{Reply}
use Rattle.session_model.specs.declared.entry.Reply.TheVariants.{AliasCycle}
use Rattle.session_model.specs.declared.rows.InstRow.{InstRow}
use Rattle.session_model.specs.declared.rows.Query.{Query}
use Rattle.closure_laws.proofs.Declared.{lawful_alias}
use Rattle.session_parts.specs.Parts.{kept_of}
use Rattle.session_parts.specs.Units.{tracker_at}
use Rattle.session_parts.specs.declared.parts.Parts.{Parts}
use Rattle.session_parts.proofs.Ties.{session_unit}
use Rattle.session_replies.specs.Chains.{target_of, awaited, unit_at, AreLinked, IsNext, IsOneAlias}

-- One external

pub one_external : (x : UnitRow) → IsLawful x.meaning → is_alias x ≡ true → IsOneAlias x
one_external x lawful alias = record { alias = alias; one = ap length ((lawful_alias x.meaning lawful alias).externals x.live) }

-- all that one external matched
one_matched : (P : List (Option InstId) → Type 0) (all : List (Option InstId)) → length all ≡ 1 → ((o : Option InstId) → P (o ∷ [])) → P all
one_matched P [] e h = absurd (omega (arith, e))
one_matched P (o ∷ []) e h = h o
one_matched P (o ∷ p ∷ os) e h = absurd (omega (arith, e))

target_followed : (all : List (Option InstId)) → length all ≡ 1 → matched_instances all ≡ option_to_list (option_map (λ (j : InstId). j.0) (target_of all))
target_followed all e = one_matched (λ os. matched_instances os ≡ option_to_list (option_map (λ (j : InstId). j.0) (target_of os))) all e one
  where
    one : (o : Option InstId) → matched_instances (o ∷ []) ≡ option_to_list (option_map (λ (j : InstId). j.0) (target_of (o ∷ [])))
    one None = refl
    one (Some j) = refl

-- The next instance

-- what follows an instance of the unit
abbrev pub following : List Query → UnitRow → List ℕ
following queries x = if is_alias x && is_waiting x.phase then linked_to queries x else []

-- the unit of an instance, as it is kept
abbrev pub kept_at : {U N : Type 0} → Parts U N → ℕ → Option (OneUnit U)
kept_at p i = unit_at p.graph.rows p.units.units i

-- the look-up of a unit by a row of the graph
pub looked_up : {U N : Type 0} (p : Parts U N) (i : ℕ) (rows : List InstRow) (o : Option (OneUnit U)) → o ≡ unit_at rows p.units.units i → rows ≡ p.graph.rows → o ≡ kept_at p i
looked_up p i rows o e is = e ∙ ap (λ rs. unit_at rs p.units.units i) is

row_follows : (m : Plain) (i : ℕ) (o : Option InstRow) → slice_get m.rows i ≡ o → chain_next m.rows m.units m.queries i ≡ option_map_or (following m.queries) (option_and_then (λ (r : InstRow). slice_get m.units r.unit.0) o) []
row_follows m i o e = ap (λ p. option_map_or (following m.queries) (option_and_then (λ (r : InstRow). slice_get m.units r.unit.0) p) []) e

-- the unit of an instance, in the session
pub record IsUnitAt {U : Type 0} (means : U → Meaning) (m : Plain) (i : ℕ) (y : OneUnit U) : Type 0 where
  pub number : ℕ
  pub there : slice_get m.units number ≡ Some (unit_row means (tracker_at m.units number) y)
  pub follows : chain_next m.rows m.units m.queries i ≡ following m.queries (unit_row means (tracker_at m.units number) y)

unit_known : {U N : Type 0} (means : U → Meaning) (p : Parts U N) (m : Plain) (i : InstId) (y : OneUnit U) → AreLinked means p m → Some y ≡ kept_at p i.0 → IsUnitAt means m i.0 y
unit_known {U} means p m i y l some = option_and_then_some (λ (r : InstRow). slice_get p.units.units r.unit.0) (slice_get p.graph.rows i.0) y (sym some) (λ r e f.
    let there = session_unit means (kept_of p) m r.unit.0 y l.parts.kept f in
    record {
      number = r.unit.0;
      there = there;
      follows = row_follows m i.0 (Some r) (ap (λ rows. slice_get rows i.0) (sym l.parts.kept.rows) ∙ e) ∙ ap (λ o. option_map_or (following m.queries) o []) there;
    })

-- the query of a unit that waits
abbrev waited : Bool → Option ℕ → Option QueryId
waited b query = if b then option_map (λ q. record { 0 = q }) query else None

-- the query that an alias waits for
awaits : {U : Type 0} (means : U → Meaning) (y : OneUnit U) (q : QueryId) → Some q ≡ awaited means y → ((is_some (means y.unit).source && is_waiting y.phase) ≡ true) × (y.query ≡ Some q.0)
awaits means y q some = split (is_some (means y.unit).source && is_waiting y.phase) y.query (sym some)
  where
    split : (b : Bool) (query : Option ℕ) → waited b query ≡ Some q → (b ≡ true) × (query ≡ Some q.0)
    split false query e = absurd (none-some q e)
    split true None e = absurd (none-some q e)
    split true (Some k) e = (refl, ap Some (ap (λ (z : QueryId). z.0) (same_Some (record { 0 = k }) q e)))

query_follows : (queries : List Query) (b : Bool) (query : Option ℕ) (k : ℕ) → b ≡ true → query ≡ Some k → (if b then option_map_or (λ (q : Query). matched_instances q.matched) (option_and_then (slice_get queries) query) [] else []) ≡ option_map_or (λ (q : Query). matched_instances q.matched) (slice_get queries k) []
query_follows queries b query k e f = ap (λ c. if c then option_map_or (λ (q : Query). matched_instances q.matched) (option_and_then (slice_get queries) query) [] else []) e ∙ ap (λ o. option_map_or (λ (q : Query). matched_instances q.matched) (option_and_then (slice_get queries) o) []) f

pub query_matched : {U N : Type 0} (means : U → Meaning) (p : Parts U N) (m : Plain) (i : InstId) (y : OneUnit U) (q : QueryId) (query : Query) → IsLawful (means y.unit) → AreLinked means p m → Some y ≡ kept_at p i.0 → Some q ≡ awaited means y → Some query ≡ slice_get p.book.queries q.0 → IsNext m i.0 (target_of query.matched)
query_matched means p m i y q query lawful l some its asked =
    let w = awaits means y q its in
    let known = unit_known means p m i y l some in
    let x = unit_row means (tracker_at m.units known.number) y in
    let there = ap (λ qs. slice_get qs q.0) (sym l.queries) ∙ sym asked in
    let linked = (l.bound known.number x known.there).links q.0 w.1 in
    let same = same_Some linked.0 query (sym linked.1 ∙ there) in
    let alias = (and_parts (is_some (means y.unit).source) (is_waiting y.phase) w.0).0 in
    known.follows ∙ (query_follows m.queries (is_some (means y.unit).source && is_waiting y.phase) y.query q.0 w.0 w.1
    ∙ (ap (λ o. option_map_or (λ (z : Query). matched_instances z.matched) o []) there
    ∙ target_followed query.matched (ap (λ (z : Query). length z.matched) (sym same) ∙ (linked.2 ∙ (one_external x lawful alias).one))))

-- Walks along one next instance each

ends_within : (n : ℕ) (next : ℕ → List ℕ) (test : ℕ → Bool) (i : ℕ) → test i ≡ false → next i ≡ [] → within n next test i ≡ false
unfolding within
ends_within zero next test i e none = e
ends_within (suc n) next test i e none = ap (λ b. b || list_any (within n next test) (next i)) e ∙ ap (list_any (within n next test)) none

goes_within : (n : ℕ) (next : ℕ → List ℕ) (test : ℕ → Bool) (i j : ℕ) → test i ≡ false → next i ≡ j ∷ [] → within (suc n) next test i ≡ within n next test j
unfolding within
goes_within n next test i j e one = ap (λ b. b || list_any (within n next test) (next i)) e ∙ (ap (list_any (within n next test)) one ∙ or_false (within n next test j))
  where
    or_false : (b : Bool) → (b || false) ≡ b
    or_false true = refl
    or_false false = refl

-- after k steps from an instance the chain is at another, and what is left of it comes to the unit if all of it does
abbrev pub ComesAlong : Plain → ℕ → ℕ → ℕ → ℕ → Type 0
ComesAlong m u k at from = within (length m.rows - k) (chain_next m.rows m.units m.queries) (is_of_unit u m.rows) at ≡ comes_to_unit m.rows m.units m.queries u from

-- the test of an instance in the rows of the graph
pub tested : (m : Plain) (u at : ℕ) (rows : List InstRow) (b c : Bool) → rows ≡ m.rows → b ≡ is_of_unit u rows at → b ≡ c → is_of_unit u m.rows at ≡ c
tested m u at rows b c is e f = ap (λ rs. is_of_unit u rs at) (sym is) ∙ (sym e ∙ f)

pub along_found : (m : Plain) (u k at from : ℕ) → is_of_unit u m.rows at ≡ true → ComesAlong m u k at from → true ≡ comes_to_unit m.rows m.units m.queries u from
along_found m u k at from e along = sym (within_base (length m.rows - k) (chain_next m.rows m.units m.queries) (is_of_unit u m.rows) at e) ∙ along

pub along_ends : (m : Plain) (u k at from : ℕ) → is_of_unit u m.rows at ≡ false → IsNext m at None → ComesAlong m u k at from → false ≡ comes_to_unit m.rows m.units m.queries u from
along_ends m u k at from e none along = sym (ends_within (length m.rows - k) (chain_next m.rows m.units m.queries) (is_of_unit u m.rows) at e none) ∙ along

pub along_next : (m : Plain) (u k at from : ℕ) (j : InstId) → k < length m.rows → is_of_unit u m.rows at ≡ false → IsNext m at (Some j) → ComesAlong m u k at from → ComesAlong m u (k + 1) j.0 from
along_next m u k at from j h e next along = sym (goes_within (length m.rows - (k + 1)) (chain_next m.rows m.units m.queries) (is_of_unit u m.rows) at j.0 e next)
    ∙ (ap (λ n. within n (chain_next m.rows m.units m.queries) (is_of_unit u m.rows) at) (omega (arith, h)) ∙ along)

last_here : (m : Plain) (u k at from : ℕ) → length m.rows ≤ k → ComesAlong m u k at from → is_of_unit u m.rows at ≡ comes_to_unit m.rows m.units m.queries u from
last_here m u k at from h along = sym (within_zero (chain_next m.rows m.units m.queries) (is_of_unit u m.rows) at)
    ∙ (ap (λ n. within n (chain_next m.rows m.units m.queries) (is_of_unit u m.rows) at) (omega (arith, h)) ∙ along)

pub along_last : (m : Plain) (u k at from : ℕ) (rows : List InstRow) (b : Bool) → rows ≡ m.rows → b ≡ is_of_unit u rows at → length rows ≤ k → ComesAlong m u k at from → b ≡ comes_to_unit m.rows m.units m.queries u from
along_last m u k at from rows b is e past along = e ∙ (ap (λ rs. is_of_unit u rs at) is ∙ last_here m u k at from (subst (λ rs. length rs ≤ k) is past) along)

-- The cycle of an alias

cycle_is : (m : Plain) (u : ℕ) (x : UnitRow) (found : List (Option InstId)) → IsOneAlias x → found ≡ link_matches m x →
    alias_cycle m u x ≡ option_and_then (λ (i : InstId). only_if (comes_to_unit m.rows m.units m.queries u i.0) (AliasCycle i)) (target_of found)
cycle_is m u x found one is = ap (λ b. first_some here (if b then filter_map (λ (o : Option InstId). o) (link_matches m x) else [])) one.alias
    ∙ (ap (λ os. first_some here (filter_map (λ (o : Option InstId). o) os)) (sym is)
    ∙ one_matched (λ os. first_some here (filter_map (λ (o : Option InstId). o) os) ≡ option_and_then here (target_of os)) found (ap length is ∙ (length-map (x.meaning.externals x.live) _ ∙ one.one)) single)
  where
    here : InstId → Option Reply
    here i = only_if (comes_to_unit m.rows m.units m.queries u i.0) (AliasCycle i)

    alone : (o : Option Reply) → or_else o None ≡ o
    alone None = refl
    alone (Some r) = refl

    single : (o : Option InstId) → first_some here (filter_map (λ (p : Option InstId). p) (o ∷ [])) ≡ option_and_then here (target_of (o ∷ []))
    single None = refl
    single (Some i) = alone (here i)

pub no_target : (m : Plain) (u : ℕ) (x : UnitRow) (found : List (Option InstId)) (i : Option InstId) → IsOneAlias x → found ≡ link_matches m x → i ≡ target_of found → i ≡ None → alias_cycle m u x ≡ None
no_target m u x found i one is e none = cycle_is m u x found one is ∙ ap (option_and_then (λ (j : InstId). only_if (comes_to_unit m.rows m.units m.queries u j.0) (AliasCycle j))) (sym e ∙ none)

pub its_target : (m : Plain) (u : ℕ) (x : UnitRow) (found : List (Option InstId)) (target : Option InstId) (i : InstId) (b c : Bool) → IsOneAlias x → found ≡ link_matches m x → target ≡ target_of found → target ≡ Some i → b ≡ comes_to_unit m.rows m.units m.queries u i.0 → b ≡ c → alias_cycle m u x ≡ only_if c (AliasCycle i)
its_target m u x found target i b c one is e some comes f = cycle_is m u x found one is
    ∙ (ap (option_and_then (λ (j : InstId). only_if (comes_to_unit m.rows m.units m.queries u j.0) (AliasCycle j))) (sym e ∙ some) ∙ ap (λ d. only_if d (AliasCycle i)) (sym comes ∙ f))
