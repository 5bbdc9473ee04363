-- What the marks of chains say of an alias.
use Rattle.std.proofs.Common.{◌≡◌, ℕ, Bool, true, false, List, [], ◌∷◌, map, length, refl, ap, subst, sym, ◌∙◌}
use Rattle.std.specs.Prelude.{slice_get, Some, None, Option, option_map, option_and_then, if◌then◌else◌, ◌&&◌}
use Rattle.std.specs.Option.{option_map_or}
use Rattle.std.proofs.lemmas.Option.{slice_get-map}
use Rattle.std.proofs.lemmas.List.{length-map}
use Rattle.orc_ids.specs.declared.ids.InstId.{InstId}
use Rattle.session_model.specs.Answer.{alias_cycle}
use Rattle.session_model.specs.Chain.{chain_next, comes_to_unit, is_of_unit, linked_to, matched_instances}
use Rattle.session_model.specs.Change.{link_matches}
use Rattle.session_model.specs.Lists.{first_some, only_if, or_else}
use Rattle.session_model.specs.Plain.{Plain, UnitRow, is_alias, is_waiting}
use Rattle.session_model.specs.declared.entry.Reply.{Reply}
use Rattle.session_model.specs.declared.entry.Reply.TheVariants.{AliasCycle}
use Rattle.session_model.specs.declared.rows.InstRow.{InstRow}
use Rattle.session_model.specs.declared.rows.Query.{Query}
use Rattle.session_plain.specs.Chains.{of_unit, instances_in, linked_list, followed_list, chain_list, marked_cycle, MarksChains}
use Rattle.session_plain.specs.Marks.{mark_at, numbers, edges_at, AreTests, AreWithin}
use Rattle.session_plain.proofs.MarkLemmas.{row_tests, within_along}

query_follows : (o : Option Query) → numbers (option_map_or (λ (q : Query). instances_in q.matched) o []) ≡ option_map_or (λ (q : Query). matched_instances q.matched) o []
query_follows None = refl
query_follows (Some q) = refl

unit_follows : (queries : List Query) (x : UnitRow) (b : Bool) → numbers (if b then linked_list queries x else []) ≡ (if b then linked_to queries x else [])
unit_follows queries x true = query_follows (option_and_then (slice_get queries) x.query)
unit_follows queries x false = refl

row_follows : (queries : List Query) (o : Option UnitRow) → numbers (option_map_or (followed_list queries) o []) ≡ option_map_or (λ (x : UnitRow). if is_alias x && is_waiting x.phase then linked_to queries x else []) o []
row_follows queries None = refl
row_follows queries (Some x) = unit_follows queries x (is_alias x && is_waiting x.phase)

chain_follows : (units : List UnitRow) (queries : List Query) (o : Option InstRow) → option_map_or numbers (option_map (chain_list units queries) o) [] ≡
    option_map_or (λ (x : UnitRow). if is_alias x && is_waiting x.phase then linked_to queries x else []) (option_and_then (λ (r : InstRow). slice_get units r.unit.0) o) []
chain_follows units queries None = refl
chain_follows units queries (Some r) = row_follows queries (slice_get units r.unit.0)

edges_are : (m : Plain) (edges : List (List InstId)) → edges ≡ map (chain_list m.units m.queries) m.rows → (i : ℕ) → edges_at edges i ≡ chain_next m.rows m.units m.queries i
edges_are m edges is i =
    ap (λ es. edges_at es i) is ∙ (ap (λ o. option_map_or numbers o []) (slice_get-map (chain_list m.units m.queries) m.rows i) ∙ chain_follows m.units m.queries (slice_get m.rows i))

pub chain_marked : (m : Plain) (u : ℕ) (edges : List (List InstId)) (firsts marks : List Bool) → edges ≡ map (chain_list m.units m.queries) m.rows → firsts ≡ map (of_unit u) m.rows →
    ((test : ℕ → Bool) → AreTests (length edges) test firsts false → AreWithin (length edges) (length edges) (edges_at edges) test marks false) → MarksChains m u marks
chain_marked m u edges firsts marks is owned spread = record { each = along.each }
  where
    long : length edges ≡ length m.rows
    long = ap length is ∙ length-map m.rows (chain_list m.units m.queries)

    within_edges : AreWithin (length edges) (length edges) (edges_at edges) (is_of_unit u m.rows) marks false
    within_edges = spread (is_of_unit u m.rows) (subst (λ n. AreTests n (is_of_unit u m.rows) firsts false) (sym long) (row_tests m.rows (of_unit u) firsts owned))

    along : AreWithin (length m.rows) (length m.rows) (chain_next m.rows m.units m.queries) (is_of_unit u m.rows) marks false
    along = within_along (length m.rows) (length m.rows) (edges_at edges) (chain_next m.rows m.units m.queries) (is_of_unit u m.rows) marks false (edges_are m edges is)
        (subst (λ n. AreWithin n n (edges_at edges) (is_of_unit u m.rows) marks false) long within_edges)

first_same : {X Y : Type 0} (f g : X → Option Y) (xs : List X) → ((x : X) → f x ≡ g x) → first_some f xs ≡ first_some g xs
first_same f g [] h = refl
first_same f g (x ∷ xs) h = ap (λ o. or_else o (first_some f xs)) (h x) ∙ ap (or_else (g x)) (first_same f g xs h)

pub cycle_marked : (m : Plain) (u : ℕ) (x : UnitRow) (marks : List Bool) (found : List InstId) (matched : List (Option InstId)) → is_alias x ≡ true → MarksChains m u marks → matched ≡ link_matches m x → found ≡ instances_in matched → marked_cycle marks found ≡ alias_cycle m u x
cycle_marked m u x marks found matched alias are is from =
    first_same (λ (i : InstId). only_if (mark_at marks false i.0) (AliasCycle i)) here found (λ i. ap (λ b. only_if b (AliasCycle i)) (are.each i.0))
    ∙ (ap (first_some here) (from ∙ ap instances_in is) ∙ sym (ap (λ b. first_some here (if b then instances_in (link_matches m x) else [])) alias))
  where
    here : InstId → Option Reply
    here i = only_if (comes_to_unit m.rows m.units m.queries u i.0) (AliasCycle i)

pub no_cycle : (m : Plain) (u : ℕ) (x : UnitRow) → is_alias x ≡ false → None ≡ alias_cycle m u x
no_cycle m u x e = sym (ap (λ b. first_some (λ (i : InstId). only_if (comes_to_unit m.rows m.units m.queries u i.0) (AliasCycle i)) (if b then instances_in (link_matches m x) else [])) e)
