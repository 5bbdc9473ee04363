-- The units that are defined, one after the other.
use Rattle.std.proofs.Common.{◌≡◌, ◌≤◌, ℕ, zero, suc, ◌+◌, List, [], ◌∷◌, ◌++◌, length, Some, Result, Ok, Err, IfOk, refl, sym, ◌∙◌, ap, subst, arith, append-nil, append_assoc}
use Rattle.std.specs.Prelude.{slice_get}
use Rattle.std.proofs.lemmas.List.{length-append}
use Rattle.std.proofs.lemmas.Option.{same_Some}
use Rattle.orc_ids.specs.declared.ids.UnitName.TheVariants.{Object}
use Rattle.link_graph.specs.Checks.{graph_of_object}
use Rattle.link_model.specs.declared.graph.LinkGraph.{LinkGraph}
use Rattle.session_model.specs.Meaning.{Meaning}
use Rattle.session_model.specs.declared.entry.Event.{Event}
use Rattle.session_model.specs.declared.entry.Event.TheVariants as event
use Rattle.session_units.specs.Meaning.{graph_meaning}
use Rattle.session_units.specs.Units.{meaning_of}
use Rattle.session_units.specs.declared.unit.ObjectUnit.{ObjectUnit}
use Rattle.generated_objects.specs.Objects.{generated_object, session_names}
use Rattle.generated_session.specs.Runs.{IsUnit}
use Rattle.generated_session.specs.Scripts.{definitions, dylibs, home, tracker_of}
use Rattle.generated_session.specs.Plans.{Defines, IsOneMore, IsSetUp, defined, made, ordered}

-- what holds at each place holds at each of one more
at_end : {X : Type 0} (P : ℕ → X → Type 0) (xs : List X) (x : X) (j : ℕ) (y : X) → ((i : ℕ) (z : X) → slice_get xs i ≡ Some z → P i z) → P (length xs) x → slice_get (xs ++ x ∷ []) j ≡ Some y → P j y
at_end P [] x zero y each last at = subst (P 0) (same_Some x y at) last
at_end P [] x (suc j) y each last at = absurd cc
at_end P (w ∷ xs) x zero y each last at = each 0 y at
at_end P (w ∷ xs) x (suc j) y each last at = at_end (λ i z. P (suc i) z) xs x j y (λ i z. each (suc i) z) last at

-- a definition more, of the function of this number
defined_last : (k j : ℕ) (us : List Meaning) (u : Meaning) → j ≡ k + length us → definitions k (us ++ u ∷ []) ≡ definitions k us ++ defined j u
defined_last k j [] u e =
    let same : k ≡ j = omega (arith, e) in
    ap (λ (i : ℕ). defined i u) same
defined_last k j (v ∷ us) u e = ap (λ (es : List (Event Meaning)). event.Tracker (home k) ∷ event.Define (home k) (tracker_of k) v ∷ es) (defined_last (k + 1) j us u (omega (arith, e)))

pub none_defined : (n : ℕ) (events : List (Event Meaning)) → Defines n 0 events events
none_defined n events = record {
  units = [];
  are = record { whole = refl; each = λ k unit at. absurd cc };
  events = sym (append-nil events);
}

pub one_defined : (n k : ℕ) (old now new : List (Event Meaning)) → Defines n k old now → IsOneMore n k now new → Defines n (k + 1) old new
one_defined n k old now new so_far more =
    let units = so_far.units in
    let unit = more.0 in
    let last : List (Event Meaning) = defined k unit in
    let count = so_far.are.whole in
    let place : k ≡ 0 + length units = omega (arith, count) in
    record {
      units = units ++ unit ∷ [];
      are = record {
        whole = length-append units (unit ∷ []) ∙ ap (λ c. c + 1) count;
        each = λ j u at. at_end (IsUnit n) units unit j u so_far.are.each (subst (λ i. IsUnit n i unit) (sym count) more.1) at;
      };
      events = more.2 ∙ (ap (λ es. es ++ last) so_far.events ∙ (append_assoc old (definitions 0 units) last ∙ ap (λ es. old ++ es) (sym (defined_last 0 k units unit place))));
    }

-- so all functions are
pub all_defined : (n k : ℕ) (old new : List (Event Meaning)) → k ≤ n → n ≤ k → Defines n k old new → Defines n n old new
all_defined n k old new within over defines =
    let whole : k ≡ n = omega (arith, within, over) in
    subst (λ count. Defines n count old new) whole defines

pub whole_set_up : (n : ℕ) (start dylibs_made orders_set all : List (Event Meaning)) → start ≡ [] → dylibs_made ≡ start ++ made dylibs → orders_set ≡ dylibs_made ++ ordered dylibs dylibs → Defines n n orders_set all → IsSetUp n all
whole_set_up n start dylibs_made orders_set all none are_made are_set defines =
    (defines.units, defines.are, defines.events ∙ ap (λ (es : List (Event Meaning)). es ++ definitions 0 defines.units) (are_set ∙ ap (λ (es : List (Event Meaning)). es ++ ordered dylibs dylibs) (are_made ∙ ap (λ (es : List (Event Meaning)). es ++ made dylibs) none)))

-- the unit of the graph of a function
pub unit_is : {E : Type 0} (n k : ℕ) (g : LinkGraph) (unit : Result ObjectUnit E) → graph_of_object (session_names n) (generated_object n k) ≡ Ok g → IfOk unit (λ u. meaning_of u ≡ graph_meaning (Object k) g) → IfOk unit (λ u. IsUnit n k (meaning_of u))
unit_is n k g (Ok unit) is means = (g, is, means)
unit_is n k g (Err e) is means = tt
