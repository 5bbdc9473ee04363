-- An emission as a whole.
use Rattle.std.proofs.Common.{◌≡◌, ℕ, true, Option, Some, None, inl, inr, ⊎_elim, ◌<◌, ◌≤◌, List, [], length, Result, Ok, Err, ap, sym, subst, ◌∙◌, refl, arith}
use Rattle.std.specs.Prelude.{OnOk}
use Rattle.orc_ids.specs.declared.groups.Group.{Group}
use Rattle.dep_groups.specs.declared.resolve.Core.{Core}
use Rattle.dep_groups.specs.Places.{is_set}
use Rattle.dep_groups.specs.Shape.{home_in, deps_of, ready_in, entry_of}
use Rattle.dep_groups.specs.Marks.{IsTold, Tells}
use Rattle.dep_groups.specs.Wake.{IsSameGraph}
use Rattle.dep_groups.specs.Adding.{AreNew, AreAdded}
use Rattle.dep_groups.specs.Prepare.{IsAlike}
use Rattle.dep_groups.specs.Emit.{IsEmitted}
use Rattle.dep_groups.specs.Kept.{IsKept, entries_in}
use Rattle.dep_groups.specs.Frontier.{Absent, Emitted, entry_at, AreAbsent, AreEmitted, IsNews}
use Rattle.dep_groups.proofs.Lists.{contains_at, at_contains}
use Rattle.dep_groups.proofs.Wakes.{same_home, same_deps}
use Rattle.dep_groups.proofs.Entries.{entry_here, entry_home}
use Rattle.dep_groups.proofs.Exact.{marked_ready, unmarked_unready, ready_marked}

pub on_ok : {T E : Type 0} (r : Result T E) {A B : Type 0} → (A → B) → OnOk r A → OnOk r B
on_ok (Ok x) f a = f a
on_ok (Err e) f a = a

-- the steps of an emission together
module _ (start ready_made added last : Core) (groups : List Group) where
  pub emitted : IsAlike start ready_made → AreAdded ready_made added groups 0 → IsSameGraph added.graph last.graph → ready_made.told.items ≡ [] → Tells added.graph.ready.items last.graph.ready.items added.told.items last.told.items → IsEmitted start last groups
  emitted a b s none t = record {
    each = λ k group m is named.
        let h = b.each k group m (omega arith) is named in
        record { group = h.group; home = same_home added.graph last.graph m.0 s ∙ h.home; deps_same = same_deps added.graph last.graph h.group s ∙ h.deps_same };
    others = λ i out. same_home added.graph last.graph i s ∙ b.others i (λ k group past is named. out k group is named) ∙ a.home i;
    deps = λ g less. same_deps added.graph last.graph g s ∙ b.deps g (subst (λ ns. g < length ns) (sym a.nodes) less) ∙ ap (λ ns. deps_of ns g) a.nodes;
    all = λ i high. ⊎_elim (λ (was : is_set added.graph.ready.items i ≡ true). inl (sym (ready_was i) ∙ was)) (λ (x : IsTold last.told.items (length added.told.items) (record { 0 = i })). inr (record { at = x.at; after = omega arith; is = x.is })) (t.all i high);
    stays = λ i was. t.stays i (ready_was i ∙ was);
    only = λ k m is. let o = t.only k m (past k) is in (sym (ready_was m.0) ∙ o.0, o.1);
    once = λ j k m x y. t.once j k m (past j) (past k) x y;
  }
    where
      ready_was : (i : ℕ) → is_set added.graph.ready.items i ≡ ready_in start.graph i
      ready_was i = ap (λ rs. is_set rs.items i) b.ready ∙ a.ready i

      past : (k : ℕ) → length added.told.items ≤ k
      past k = omega (arith, ap (λ ts. length ts.items) b.told, ap length none)

-- what a frontier is, before and after the emission of some groups
module _ (groups : List Group) where
  no_group : (core : Core) (i : ℕ) → entry_at (entries_in core) i ≡ Absent → home_in core.graph i ≡ None
  no_group core i absent = sort (home_in core.graph i) (sym (entry_here core.graph i) ∙ absent)
    where
      sort : (o : Option ℕ) → entry_of core.graph.nodes.items o ≡ Absent → o ≡ None
      sort None e = refl
      sort (Some g) e = absurd cc

  pub absent_new : (core : Core) → AreAbsent (entries_in core) groups → AreNew core.graph groups
  absent_new core absent = record { fresh = λ k group is m named. no_group core m.0 (absent m.0 (record { at = k; group = group; is = is; member = named })) }

  module _ (old new : Core) (kept : IsKept old) (after : IsKept new) (e : IsEmitted old new groups) where
    pub entries_emitted : AreEmitted groups (entries_in old) (entries_in new)
    entries_emitted = record {
      members = λ k group m is named.
          let h = e.each k group m is named in
          entry_home new.graph m.0 h.group h.home ∙ ap Emitted h.deps_same;
      others = λ i out. others i (e.others i (λ k group is named. out (record { at = k; group = group; is = is; member = named })));
    }
      where
        others : (i : ℕ) → home_in new.graph i ≡ home_in old.graph i → entry_at (entries_in new) i ≡ entry_at (entries_in old) i
        others i same = entry_here new.graph i ∙ ap (entry_of new.graph.nodes.items) same ∙ sort (home_in old.graph i) refl ∙ sym (entry_here old.graph i)
          where
            sort : (o : Option ℕ) → home_in old.graph i ≡ o → entry_of new.graph.nodes.items o ≡ entry_of old.graph.nodes.items o
            sort None at = refl
            sort (Some g) at = ap Emitted (e.deps g (kept.sound.wired.within i g at))

    pub news_told : IsNews (entries_in old) (entries_in new) new.told.items
    news_told = record {
      all = λ i now unready. ⊎_elim (λ (was : ready_in old.graph i ≡ true). absurd (unready (marked_ready old kept.sound i was)))
          (λ (t : IsTold new.told.items 0 (record { 0 = i })). at_contains new.told.items t.at (record { 0 = i }) t.is)
          (e.all i (ready_marked new after i now));
      only = λ m told. let k = contains_at new.told.items m told in let o = e.only k.0 m k.1 in (marked_ready new after.sound m.0 o.1, unmarked_unready old kept m.0 o.0);
      once = e.once;
    }
