-- What is marked is what is ready.
use Rattle.std.proofs.Common.{◌≡◌, ℕ, true, false, Option, Some, None, ◌⊎◌, inl, inr, ⊎_elim, ap, sym, subst, ◌∙◌, refl}
use Rattle.std.proofs.lemmas.Option.{same_Some, none-some}
use Rattle.std.proofs.lemmas.Bool.{both_ways, cases_Bool}
use Rattle.graph_walks.proofs.Paths.{closed_holds_reached, reaches_self, reach_is_transitive}
use Rattle.dep_groups.specs.declared.resolve.Core.{Core}
use Rattle.dep_groups.specs.Places.{place}
use Rattle.dep_groups.specs.Shape.{home_in, ready_in, entry_of}
use Rattle.dep_groups.specs.Links.{linked_of, step, Ends, stop, go}
use Rattle.dep_groups.specs.Core.{IsSound}
use Rattle.dep_groups.specs.Kept.{IsKept, entries_in}
use Rattle.dep_groups.specs.Frontier.{is_emitted, next_of, is_emitted_at, Reaches, IsReady}
use Rattle.dep_groups.proofs.Entries.{entry_here, entry_home, next_named}

module _ (core : Core) where
  pub marked_ready : IsSound core → (i : ℕ) → ready_in core.graph i ≡ true → IsReady (entries_in core) i
  marked_ready s i high = record {
    each = λ j r.
        let marked = closed_holds_reached (next_of (entries_in core)) (ready_in core.graph) (λ n k set named. let h = next_named core.graph n k named in s.ready.closed n h.0 k set h.1 h.2) i j high r in
        let h = s.ready.emitted j marked in
        ap is_emitted (entry_home core.graph j h.0 h.1);
  }

  -- an instance that is not emitted is reached
  record Unwaited (i : ℕ) : Type 0 where
    to : ℕ
    path : Reaches (entries_in core) i to
    absent : is_emitted_at (entries_in core) to ≡ false

  absent_reached : (i : ℕ) → home_in core.graph i ≡ None → Unwaited i
  absent_reached i e = record { to = i; path = reaches_self (next_of (entries_in core)) i; absent = ap is_emitted (entry_here core.graph i ∙ ap (entry_of core.graph.nodes.items) e) }

  linked_to : IsKept core → (i g j : ℕ) → home_in core.graph i ≡ Some g → ready_in core.graph i ≡ false → step (home_in core.graph) (place core.links.items) i ≡ Some j → (ready_in core.graph j ≡ false) × Reaches (entries_in core) i j
  linked_to k i g j e low s =
      let h = k.held i g e low in
      let same : h.to ≡ j = same_Some h.to j (sym (ap (linked_of (place core.links.items)) e ∙ h.link) ∙ s) in
      (subst (λ n. ready_in core.graph n ≡ false) same h.unready, subst (λ n. Reaches (entries_in core) i n) same (k.sound.leads.reached i g h.to e h.link))

  ends_not : IsKept core → (i g : ℕ) → home_in core.graph i ≡ Some g → ready_in core.graph i ≡ false → step (home_in core.graph) (place core.links.items) i ≡ None → ⊥
  ends_not k i g e low s = let h = k.held i g e low in none-some h.to (sym s ∙ ap (linked_of (place core.links.items)) e ∙ h.link)

  home_known : (i : ℕ) → (home_in core.graph i ≡ None) ⊎ ((g : ℕ) × (home_in core.graph i ≡ Some g))
  home_known i = known (home_in core.graph i)
    where
      known : (o : Option ℕ) → (o ≡ None) ⊎ ((g : ℕ) × (o ≡ Some g))
      known None = inl refl
      known (Some g) = inr (g, refl)

  waits : IsKept core → (i : ℕ) → Ends (step (home_in core.graph) (place core.links.items)) (λ k. Unit {0}) i → ready_in core.graph i ≡ false → Unwaited i
  waits k i (stop u s) low = ⊎_elim (λ (e : home_in core.graph i ≡ None). absent_reached i e) (λ (e : (g : ℕ) × (home_in core.graph i ≡ Some g)). absurd (ends_not k i e.0 e.1 low s)) (home_known i)
  waits k i (go {j = j} u s r) low = ⊎_elim (λ (e : home_in core.graph i ≡ None). absent_reached i e)
      (λ (e : (g : ℕ) × (home_in core.graph i ≡ Some g)).
      let l = linked_to k i e.0 j e.1 low s in
      let p = waits k j r l.0 in
      record { to = p.to; path = reach_is_transitive (next_of (entries_in core)) i j p.to l.1 p.path; absent = p.absent })
      (home_known i)

  pub unmarked_unready : IsKept core → (i : ℕ) → ready_in core.graph i ≡ false → IsReady (entries_in core) i → ⊥
  unmarked_unready k i low ready =
      let p = waits k i (k.sound.ends.each i) low in
      both_ways (is_emitted_at (entries_in core) p.to) p.absent (ready.each p.to p.path)

  pub ready_marked : IsKept core → (i : ℕ) → IsReady (entries_in core) i → ready_in core.graph i ≡ true
  ready_marked k i ready = ⊎_elim (λ (e : ready_in core.graph i ≡ true). e) (λ (e : ready_in core.graph i ≡ false). absurd (unmarked_unready k i e ready)) (cases_Bool (ready_in core.graph i))
