-- Rows that are changed within the span of their unit.
use Rattle.std.proofs.Common.{◌≡◌, ℕ, ◌+◌, ◌≤◌, ◌==◌, map, List, ◌++◌, take, drop, arith, ap, ◌∙◌, unwrap_or, Option}
use Rattle.std.specs.Bool.{if◌then◌else◌}
use Rattle.std.proofs.lemmas.Bool.{and_left, ne_eqb}
use Rattle.list_laws.proofs.Bools.{and_kept}
use Rattle.session_model.proofs.Units.{not_owned}
use Rattle.orc_ids.specs.declared.groups.Group.{Group}
use Rattle.orc_ids.specs.declared.ids.InstId.{InstId}
use Rattle.session_model.specs.Lists.{numbered, first_some}
use Rattle.session_model.specs.Change.{claimed_row, emitted_row, deps_in}
use Rattle.session_model.specs.Plain.{is_owned, is_unsearched, phase_address}
use Rattle.session_model.specs.declared.rows.InstRow.{InstRow}
use Rattle.session_model.specs.declared.rows.Phase.TheVariants as phase
use Rattle.instances.specs.Groups.{group_deps, row_with}
use Rattle.instances.specs.Rows.{addressed_row}
use Rattle.instances.specs.Spans.{IsSpan}
use Rattle.instances.specs.Table.{removed_row}
use Rattle.instances.proofs.Lists.{none_below, none_above, none_numbered, all_numbered}

-- rows of other units stay
abbrev pub Leaves : ℕ → (InstRow → InstRow) → Type 0
Leaves u f = (r : InstRow) → (r.unit.0 ≡ u → ⊥) → f r ≡ r

pub claim_leaves : (u : ℕ) → Leaves u (claimed_row u)
claim_leaves u r n = ap (λ b. record r { phase = if b then phase.Claimed else r.phase }) (and_left (is_owned u r) (is_unsearched r.phase) (not_owned u r n))

pub address_leaves : (u : ℕ) (address : ℕ → ℕ) → Leaves u (addressed_row u address)
address_leaves u address r n = ap (λ b. record r { phase = if b then phase.Resolved (address r.offer) else r.phase }) (not_owned u r n)

pub removal_leaves : (u : ℕ) → Leaves u (removed_row u)
removal_leaves u r n = ap (λ b. record r { present = b }) (and_kept r.present (r.unit.0 == u) (ne_eqb r.unit.0 u n))

emission_leaves : (u : ℕ) (groups : List Group) (i : ℕ) → Leaves u (emitted_row u groups i)
emission_leaves u groups i r n = ap (λ b. record r { phase = if b then phase.Emitted (unwrap_or (phase_address r.phase) 0) (deps_in groups i) else r.phase }) (not_owned u r n)

pub span_init : (f : InstRow → InstRow) (rows : List InstRow) (u first count : ℕ) → Leaves u f → IsSpan rows u first count → rows ≡ map f (take first rows) ++ drop first rows
span_init f rows u first count leaves s = none_below f first rows (λ i r e b. leaves r (λ is. let p = (s.only i r e is).0 in absurd (omega (arith, p, b))))

pub span_done : (f : InstRow → InstRow) (rows now : List InstRow) (u first count i : ℕ) → Leaves u f → IsSpan rows u first count → first + count ≤ i → now ≡ map f (take i rows) ++ drop i rows → now ≡ map f rows
span_done f rows now u first count i leaves s past e = e ∙ none_above f i rows (λ j r at b. leaves r (λ is. let p = (s.only j r at is).1 in absurd (omega (arith, p, b, past))))

pub emitted_before : (rows : List InstRow) (u first count : ℕ) (groups : List Group) → IsSpan rows u first count → rows ≡ numbered (emitted_row u groups) 0 (take first rows) ++ drop first rows
emitted_before rows u first count groups s = none_numbered (emitted_row u groups) 0 first rows (λ j r b t. emission_leaves u groups (0 + j) r (λ is. let p = (s.only j r t is).0 in absurd (omega (arith, p, b))))

pub emitted_after : (rows : List InstRow) (u first count i : ℕ) (groups : List Group) → IsSpan rows u first count → first + count ≤ i → numbered (emitted_row u groups) 0 (take i rows) ++ drop i rows ≡ numbered (emitted_row u groups) 0 rows
emitted_after rows u first count i groups s past = all_numbered (emitted_row u groups) 0 i rows (λ j r b t. emission_leaves u groups (0 + j) r (λ is. let p = (s.only j r t is).1 in absurd (omega (arith, p, b, past))))

-- the dependencies in the table are those of the groups
pub emitted_by : (u i : ℕ) (groups : List Group) (deps : Option (List InstId)) (r : InstRow) → deps ≡ first_some (group_deps i) groups → row_with u deps r ≡ emitted_row u groups i r
emitted_by u i groups deps r e = ap (λ d. row_with u d r) e
