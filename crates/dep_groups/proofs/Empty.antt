-- A frontier of nothing.
use Rattle.std.proofs.Common.{◌≡◌, ℕ, false, Some, None, [], length, Contains, ap, sym, subst, ◌∙◌, refl, arith}
use Rattle.std.specs.Prelude.{slice_get}
use Rattle.std.proofs.lemmas.Option.{none-some}
use Rattle.std.proofs.lemmas.Bool.{both_ways}
use Rattle.dep_groups.specs.declared.resolve.Core.{Core}
use Rattle.dep_groups.specs.Places.{place, is_set}
use Rattle.dep_groups.specs.Shape.{home_in, deps_in, deps_of, ready_in}
use Rattle.dep_groups.specs.Links.{linked_of, stop}
use Rattle.dep_groups.specs.Kept.{IsKept}
use Rattle.dep_groups.specs.declared.hits.Hits.{Hits}
use Rattle.dep_groups.specs.Hits.{IsWhole}
use Rattle.dep_groups.proofs.Tables.{unset_few}
use Rattle.dep_groups.proofs.Additions.{unlisted}

no_place : (k : ℕ) → place [] k ≡ None
unfolding place
no_place k = refl

pub no_flag : (k : ℕ) → is_set [] k ≡ false
unfolding is_set
no_flag k = refl

no_deps : (g : ℕ) → deps_of [] g ≡ []
unfolding deps_of
no_deps g = refl

pub record IsEmpty (core : Core) : Type 0 where
  pub homes : core.graph.homes.items ≡ []
  pub nodes : core.graph.nodes.items ≡ []
  pub firsts : core.graph.firsts.items ≡ []
  pub edges : core.graph.edges.items ≡ []
  pub ready : core.graph.ready.items ≡ []
  pub links : core.links.items ≡ []
  pub nexts : core.nexts.items ≡ []
  pub heads : core.heads.items ≡ []
  pub cursors : core.cursors.items ≡ []
  pub seen : core.trail.seen.items ≡ []
  pub order : core.trail.order.items ≡ []
  pub told : core.told.items ≡ []

module _ (core : Core) (e : IsEmpty core) where
  no_home : (i g : ℕ) → home_in core.graph i ≡ Some g → ⊥
  no_home i g is = none-some g (sym (ap (λ hs. place hs i) e.homes ∙ no_place i) ∙ is)

  not_ready : (i : ℕ) → ready_in core.graph i ≡ false
  not_ready i = ap (λ rs. is_set rs i) e.ready ∙ no_flag i

  no_link : (g d : ℕ) → place core.links.items g ≡ Some d → ⊥
  no_link g d is = none-some d (sym (ap (λ ls. place ls g) e.links ∙ no_place g) ∙ is)

  no_dep : (g d : ℕ) → Contains (deps_in core.graph g) d → ⊥
  no_dep g d named = omega (arith, (subst (λ ds. Contains ds d) (ap (λ ns. deps_of ns g) e.nodes ∙ no_deps g) named).1)

  pub kept_empty : IsKept core
  kept_empty = record {
    sound = record {
      sizes = record {
        links = ap length e.links ∙ sym (ap length e.nodes);
        nexts = ap length e.nexts ∙ sym (ap length e.nodes);
        heads = ap length e.heads ∙ sym (ap length e.homes);
        cursors = ap length e.cursors ∙ sym (ap length e.nodes);
        seen = ap length e.seen ∙ sym (ap length e.nodes);
        ready = ap length e.ready ∙ sym (ap length e.homes);
        few = omega (arith, ap length e.nodes);
        places_few = omega (arith, ap length e.homes);
      };
      wired = record { within = λ i g is. absurd (no_home i g is); deps = λ g d named. absurd (no_dep g d named) };
      members = λ i g is. absurd (no_home i g is);
      ready = record {
        emitted = λ i high. absurd (both_ways (ready_in core.graph i) (not_ready i) high);
        closed = λ i g d high is named. absurd (no_home i g is);
      };
      ends = record { each = λ i. stop tt (ap (linked_of (place core.links.items)) (ap (λ hs. place hs i) e.homes ∙ no_place i)) };
      leads = record { reached = λ i g d home is. absurd (no_home i g home); below = λ g d is. absurd (no_link g d is) };
      queued = record {
        only = λ d h is. absurd (none-some h (sym (ap (λ hs. place hs d) e.heads ∙ no_place d) ∙ is));
        all = λ g d is. absurd (no_link g d is);
      };
      cursors = record { passed = λ g n k d at below is. absurd (none-some n (ap (λ cs. slice_get cs g) (sym e.cursors) ∙ at)) };
      clear = record {
        unseen = λ g. ap (λ xs. is_set xs g) e.seen ∙ no_flag g;
        empty = e.order;
        room = omega (arith, ap length e.seen);
      };
      room = omega (arith, ap length e.told, core.told.ok.0, unset_few core.graph.ready.items, ap length e.ready);
    };
    indexed = record {
      complete = λ g d named. absurd (no_dep g d named);
      named = λ g d listed. absurd (unlisted core.graph.edges.items (place core.graph.firsts.items d) g (ap (λ fs. place fs d) e.firsts ∙ no_place d) listed);
      falls = λ k j x at next. absurd (none-some x (ap (λ es. slice_get es k) (sym e.edges) ∙ at));
      groups = λ k x at. absurd (none-some x (ap (λ es. slice_get es k) (sym e.edges) ∙ at));
      firsts = λ d k is. absurd (none-some k (sym (ap (λ fs. place fs d) e.firsts ∙ no_place d) ∙ is));
    };
    firsts = ap length e.firsts ∙ sym (ap length e.homes);
    held = λ i g is low. absurd (no_home i g is);
  }

  pub whole_empty : (hits : Hits) → hits.flags.items ≡ [] → IsWhole core hits
  whole_empty hits none = record {
    kept = kept_empty;
    resting = record { clear = λ i. ap (λ fs. is_set fs i) none ∙ no_flag i; room = omega (arith, ap length none) };
    covers = omega (arith, ap length e.homes);
  }
