-- What is kept stays as it is, and no flag is set any more.
use Rattle.std.proofs.Common.{◌≡◌, ◌<◌, ◌∙◌, ℕ, Bool, Option, Some, List, length, Vec, Global, subst, sym, ap, arith}
use Rattle.std.specs.Vec.{with_items}
use Rattle.std.proofs.lemmas.List.{with_items_is}
use Rattle.dep_groups.specs.Places.{place, is_set}
use Rattle.dep_groups.specs.Shape.{home_in}
use Rattle.dep_groups.specs.Search.{IsWired}
use Rattle.dep_groups.specs.Pending.{AreWithin}
use Rattle.dep_groups.proofs.Pendings.{within_flags, kept_cleared, counted_alone}
use Rattle.dep_groups.proofs.pending.count_pending.Goals as goal

pub count_from-requires-clause-group : goal.count_from-requires-clause-group
count_from-requires-clause-group c =
    let core = c.args.core.now in
    let s = c.requires.whole.kept.sound in
    let home : home_in core.graph c.args.instance.0 ≡ Some c.in-Some.group = ap (λ (hs : List (Option ℕ)). place hs c.args.instance.0) (sym c.deref.ensures.value) ∙ sym c.at.ensures ∙ c.in-Some.is in
    subst (λ n. c.in-Some.group < n) (sym s.sizes.seen) (s.wired.within c.args.instance.0 c.in-Some.group home)

pub count_from-requires-clause-wired : goal.count_from-requires-clause-wired
count_from-requires-clause-wired c =
    let s = c.requires.whole.kept.sound in
    subst (λ n. IsWired c.args.core.now.graph n) (sym s.sizes.seen) s.wired

pub count_from-requires-clause-within : goal.count_from-requires-clause-within
count_from-requires-clause-within c =
    let k = c.requires.whole.kept in
    subst (λ (fs : List Bool). AreWithin c.args.core.now.graph fs) (sym c.deref_mut.ensures.value) (within_flags c.args.core.now.graph c.args.hits.now.flags.items k.indexed k.firsts c.requires.whole.covers)

pub count_from-requires-clause-unflagged : goal.count_from-requires-clause-unflagged
count_from-requires-clause-unflagged c = λ i. ap (λ (fs : List Bool). is_set fs i) c.deref_mut.ensures.value ∙ c.requires.whole.resting.clear i

pub returns-in-Some-clause-whole : goal.returns-in-Some-clause-whole
returns-in-Some-clause-whole c =
    let core = c.args.core.now in
    let hits = c.args.hits.now in
    let e = c.count_from.ensures in
    let flags : Vec Bool Global = with_items hits.flags c.count_from.new.flags in
    let is : flags.items ≡ c.count_from.new.flags = with_items_is hits.flags c.count_from.new.flags (c.count_from.auto.flags ∙ c.deref_mut.ensures.len) in
    let places : length flags.items ≡ length hits.flags.items = ap length is ∙ c.count_from.auto.flags ∙ ap length c.deref_mut.ensures.value in
    record {
      kept = kept_cleared core c.count_from.new.trail c.requires.whole.kept e.clear e.groups;
      resting = record {
        clear = λ i. ap (λ (fs : List Bool). is_set fs i) is ∙ e.unflagged i;
        room = omega (arith, places, c.requires.whole.resting.room);
      };
      covers = omega (arith, places, c.requires.whole.covers);
    }

pub returns-in-Some-clause-counted : goal.returns-in-Some-clause-counted
returns-in-Some-clause-counted c = c.count_from.ensures.counted c.args.instance.0 (ap (λ (hs : List (Option ℕ)). place hs c.args.instance.0) (sym c.deref.ensures.value) ∙ sym c.at.ensures ∙ c.in-Some.is)

pub returns-in-None-clause-counted : goal.returns-in-None-clause-counted
returns-in-None-clause-counted c = counted_alone c.args.core.now.graph c.args.instance.0 (ap (λ (hs : List (Option ℕ)). place hs c.args.instance.0) (sym c.deref.ensures.value) ∙ sym c.at.ensures ∙ c.in-None.is)
