-- What is hit isn't ready, so that what is kept stays right without it.
use Rattle.std.proofs.Common.{◌≡◌, ◌∙◌, ◌<◌, ℕ, Bool, true, Option, Some, List, length, Contains, Vec, Global, subst, sym, ap, arith}
use Rattle.std.specs.Vec.{with_items}
use Rattle.std.specs.Prelude.{slice_get}
use Rattle.std.proofs.lemmas.List.{with_items_is}
use Rattle.orc_ids.specs.declared.ids.InstId.{InstId}
use Rattle.dep_groups.specs.Places.{place, is_set}
use Rattle.dep_groups.specs.Marks.{IsTold}
use Rattle.dep_groups.proofs.Tables.{flag_within}
use Rattle.dep_groups.proofs.Spreads.{noted_at}
use Rattle.dep_groups.proofs.Failures.{home_cases, unmarked, reach_left, kept_without, failed_without}
use Rattle.dep_groups.proofs.fail.fail_all.Goals as goal

pub lower_all-requires-clause-within : goal.lower_all-requires-clause-within
lower_all-requires-clause-within c = λ k m is.
    let hits = c.find_hits.new.hits in
    let flagged = (c.find_hits.ensures.noted.tells.only k m (omega arith) (subst (λ (ms : List InstId). slice_get ms k ≡ Some m) c.deref-2.ensures.value is)).1 in
    subst (λ (fs : List Bool). m.0 < length fs) (sym c.deref_mut-2.ensures.value) (flag_within hits.flags.items m.0 flagged)

pub lower_all-requires-clause-known : goal.lower_all-requires-clause-known
lower_all-requires-clause-known c = λ i is.
    subst (λ (ms : List InstId). IsTold ms 0 (record { 0 = i })) (sym c.deref-2.ensures.value)
    (noted_at c.find_hits.new.hits c.find_hits.ensures.noted i (subst (λ (fs : List Bool). is_set fs i ≡ true) c.deref_mut-2.ensures.value is))

pub returns-clause-whole : goal.returns-clause-whole
returns-clause-whole c =
    let core = c.args.core.now in
    let hits = c.find_hits.new.hits in
    let f = c.find_hits.ensures in
    let homes : Vec (Option ℕ) Global = with_items core.graph.homes c.take_out.new.homes in
    let is : homes.items ≡ c.take_out.new.homes = with_items_is core.graph.homes c.take_out.new.homes (c.take_out.auto.homes ∙ c.deref_mut.ensures.len) in
    let count : length homes.items ≡ length core.graph.homes.items = ap length is ∙ c.take_out.auto.homes ∙ ap length c.deref_mut.ensures.value in
    let flags : Vec Bool Global = with_items hits.flags c.lower_all.new.flags in
    let low : flags.items ≡ c.lower_all.new.flags = with_items_is hits.flags c.lower_all.new.flags (c.lower_all.auto.flags ∙ c.deref_mut-2.ensures.len) in
    let places : length flags.items ≡ length c.args.hits.now.flags.items = ap length low ∙ c.lower_all.auto.flags ∙ ap length c.deref_mut-2.ensures.value ∙ f.places in
    let others = home_cases c.deref_mut.result.now c.take_out.new.homes core.graph.homes.items homes.items c.deref.result.now hits.order.items c.deref_mut.ensures.value is c.deref.ensures.value c.take_out.ensures.others in
    record {
      kept = kept_without core homes c.find_hits.new.trail
          (unmarked core c.args.roots.now hits.order.items homes.items c.requires.whole.kept.sound f.hits others)
          c.requires.whole.kept
          (reach_left core homes c.find_hits.new.trail c.args.roots.now hits.order.items f.hits others
          (λ m named. ap (λ (hs : List (Option ℕ)). place hs m.0) is ∙ c.take_out.ensures.out m (subst (λ (ms : List InstId). Contains ms m) (sym c.deref.ensures.value) named)))
          count f.clear f.groups;
      resting = record {
        clear = λ i. ap (λ (fs : List Bool). is_set fs i) low ∙ c.lower_all.ensures i;
        room = omega (arith, places, f.capacity, c.requires.whole.resting.room);
      };
      covers = omega (arith, count, places, c.requires.whole.covers);
    }

pub returns-clause-failed : goal.returns-clause-failed
returns-clause-failed c =
    let core = c.args.core.now in
    let hits = c.find_hits.new.hits in
    let homes : Vec (Option ℕ) Global = with_items core.graph.homes c.take_out.new.homes in
    let is : homes.items ≡ c.take_out.new.homes = with_items_is core.graph.homes c.take_out.new.homes (c.take_out.auto.homes ∙ c.deref_mut.ensures.len) in
    failed_without core homes c.find_hits.new.trail c.args.roots.now hits.order.items c.find_hits.ensures.hits
    (λ m named. ap (λ (hs : List (Option ℕ)). place hs m.0) is ∙ c.take_out.ensures.out m (subst (λ (ms : List InstId). Contains ms m) (sym c.deref.ensures.value) named))
    (home_cases c.deref_mut.result.now c.take_out.new.homes core.graph.homes.items homes.items c.deref.result.now hits.order.items c.deref_mut.ensures.value is c.deref.ensures.value c.take_out.ensures.others)
