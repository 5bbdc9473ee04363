-- A search that comes to one more group.
use Rattle.std.proofs.Common.{◌≡◌, ◌≢◌, ℕ, Bool, true, false, Option, Some, cond, ◌⊎◌, inl, inr, ⊎_elim, ◌<◌, ◌≤◌, ◌==◌, if◌then◌else◌, List, [], ◌∷◌, ◌++◌, length, get_or, Contains, ap, sym, subst, ◌∙◌, refl, arith}
use Rattle.std.specs.Prelude.{slice_get, vec_len, vec_capacity, ◌+◌}
use Rattle.std.proofs.lemmas.Option.{same_Some, slice_get_within, slice_get_read, slice_get-get_or}
use Rattle.std.proofs.lemmas.Bool.{cases_lt}
use Rattle.std.proofs.lemmas.Bool.Decides.{eqb_tells}
use Rattle.graph_walks.proofs.Paths.{reach_is_transitive}
use Rattle.dep_groups.specs.declared.trail.Trail.{Trail}
use Rattle.dep_groups.specs.declared.graph.Graph.{Graph}
use Rattle.dep_groups.specs.Search.{IsVisit, IsSeen, IsMet, IsCome, IsTrail, IsMore, IsNamed, IsLooked, IsPassed, IsTrailOf, IsExhausted, IsWired, LinksLead}
use Rattle.dep_groups.specs.Shape.{home_in, deps_in, ready_in, entries_of}
use Rattle.dep_groups.specs.Frontier.{next_of}
use Rattle.dep_groups.specs.Places.{place, is_set}
use Rattle.dep_groups.proofs.Lists.{get_kept, get_last, get_push, contains_at}
use Rattle.dep_groups.proofs.Tables.{flag_within}
use Rattle.dep_groups.proofs.Entries.{one_on}

pub visit_kept : (order : List ℕ) (w k g : ℕ) → IsVisit order k g → IsVisit (order ++ w ∷ []) k g
visit_kept order w k g is = record { is = get_kept order (w ∷ []) k g is.is }

pub visit_last : (order : List ℕ) (w : ℕ) → IsVisit (order ++ w ∷ []) (length order) w
visit_last order w = record { is = get_last order w }

pub visit_push : (order : List ℕ) (w k g : ℕ) → IsVisit (order ++ w ∷ []) k g → IsVisit order k g ⊎ ((k ≡ length order) × (w ≡ g))
visit_push order w k g is = sort (get_push order w k g is.is)
  where
    sort : (slice_get order k ≡ Some g) ⊎ ((k ≡ length order) × (w ≡ g)) → IsVisit order k g ⊎ ((k ≡ length order) × (w ≡ g))
    sort (inl e) = inl (record { is = e })
    sort (inr e) = inr e

pub visit_below : (order : List ℕ) (k g : ℕ) → IsVisit order k g → k < length order
visit_below order k g is = slice_get_within order k g is.is

pub same_visit : (order : List ℕ) (k g h : ℕ) → IsVisit order k g → IsVisit order k h → g ≡ h
same_visit order k g h a b = same_Some g h (sym a.is ∙ b.is)

-- a flag that was raised
pub raised_here : (seen new : ℕ → Bool) (g : ℕ) → ((n : ℕ) → new n ≡ (if g == n then true else seen n)) → new g ≡ true
raised_here seen new g says = says g ∙ ⊎_elim (λ (e : ((g == g) ≡ true) × (g ≡ g)). ap (λ b. cond b true (seen g)) e.0) (λ (e : ((g == g) ≡ false) × (g ≢ g)). absurd (e.1 refl)) (eqb_tells g g)

pub raised_kept : (seen new : ℕ → Bool) (g : ℕ) → ((n : ℕ) → new n ≡ (if g == n then true else seen n)) → (n : ℕ) → seen n ≡ true → new n ≡ true
raised_kept seen new g says n was = says n ∙ ap (λ b. cond (g == n) true b) was ∙ both (g == n)
  where
    both : (b : Bool) → cond b true true ≡ true
    both true = refl
    both false = refl

pub raised_cases : (seen new : ℕ → Bool) (g : ℕ) → ((n : ℕ) → new n ≡ (if g == n then true else seen n)) → (n : ℕ) → new n ≡ true → (seen n ≡ true) ⊎ (g ≡ n)
raised_cases seen new g says n is =
    ⊎_elim (λ (e : ((g == n) ≡ true) × (g ≡ n)). inr e.1)
    (λ (e : ((g == n) ≡ false) × (g ≢ n)). inl (sym (ap (λ b. cond b true (seen n)) e.0) ∙ sym (says n) ∙ is))
    (eqb_tells g n)

module _ (graph : Graph) (seen new : ℕ → Bool) (order : List ℕ) (w : ℕ) (says : (n : ℕ) → new n ≡ (if w == n then true else seen n)) where
  pub trail_push : IsTrail graph seen order → (to : ℕ) → IsMet graph order to → home_in graph to ≡ Some w → IsTrail graph new (order ++ w ∷ [])
  trail_push old to met member = record {
    came = λ k g is. came k g (visit_push order w k g is);
    marked = λ k g is. marked k g (visit_push order w k g is);
    known = λ g is. known g (raised_cases seen new w says g is);
  }
    where
      came : (k g : ℕ) → IsVisit order k g ⊎ ((k ≡ length order) × (w ≡ g)) → IsCome graph (order ++ w ∷ []) g
      came k g (inl is) = let c = old.came k g is in record { first = c.first; is = visit_kept order w 0 c.first c.is; comes = c.comes }
      came k g (inr e) = record {
        first = met.first;
        is = visit_kept order w 0 met.first met.is;
        comes = λ i home. record { via = to; member = member ∙ ap Some e.1; reaches = met.reaches i home };
      }

      marked : (k g : ℕ) → IsVisit order k g ⊎ ((k ≡ length order) × (w ≡ g)) → new g ≡ true
      marked k g (inl is) = raised_kept seen new w says g (old.marked k g is)
      marked k g (inr e) = subst (λ n. new n ≡ true) e.1 (raised_here seen new w says)

      known : (g : ℕ) → (seen g ≡ true) ⊎ (w ≡ g) → IsSeen (order ++ w ∷ []) g
      known g (inl was) = let s = old.known g was in record { at = s.at; is = visit_kept order w s.at g s.is }
      known g (inr e) = record { at = length order; is = subst (λ n. IsVisit (order ++ w ∷ []) (length order) n) e (visit_last order w) }

-- what is met, from a group that was come to
pub met_named : (graph : Graph) (trail : Trail) (n from to : ℕ) → IsWired graph n → IsTrailOf graph trail → IsNamed graph trail from to → IsMet graph trail.order.items to
met_named graph trail n from to wired t named =
    let c = t.came from named.visit named.is in
    record {
      first = c.first;
      is = c.is;
      reaches = λ i home. let x = c.comes i home in reach_is_transitive (next_of (entries_of graph)) i x.via to x.reaches (one_on graph x.via named.visit to x.member named.named);
      below = wired.deps named.visit to named.named;
    }

pub met_linked : (graph : Graph) (links : List (Option ℕ)) (trail : Trail) (from g to : ℕ) → IsTrailOf graph trail → LinksLead graph links → IsVisit trail.order.items from g → place links g ≡ Some to → IsMet graph trail.order.items to
met_linked graph links trail from g to t leads is link =
    let c = t.came from g is in
    record {
      first = c.first;
      is = c.is;
      reaches = λ i home. let x = c.comes i home in reach_is_transitive (next_of (entries_of graph)) i x.via to x.reaches (leads.reached x.via g to x.member link);
      below = leads.below g to link;
    }

pub more_push : (old new : Trail) (w : ℕ) → new.order.items ≡ old.order.items ++ w ∷ [] → vec_len new.order ≡ vec_len old.order + 1 → ((n : ℕ) → is_set new.seen.items n ≡ (if w == n then true else is_set old.seen.items n)) → length new.seen.items ≡ length old.seen.items → vec_capacity new.order ≡ vec_capacity old.order → IsMore old new
more_push old new w is len says groups capacity = record {
  kept = λ k g a. subst (λ o. IsVisit o k g) (sym is) (visit_kept old.order.items w k g a);
  seen = raised_kept (is_set old.seen.items) (is_set new.seen.items) w says;
  longer = omega (arith, len);
  groups = groups;
  capacity = capacity;
}

pub more_none : (old : Trail) → IsMore old old
more_none old = record { kept = λ k g a. a; seen = λ g a. a; longer = omega arith; groups = refl; capacity = refl }

pub more_then : (a b c : Trail) → IsMore a b → IsMore b c → IsMore a c
more_then a b c p q = record {
  kept = λ k g is. q.kept k g (p.kept k g is);
  seen = λ g is. q.seen g (p.seen g is);
  longer = omega (arith, p.longer, q.longer);
  groups = q.groups ∙ p.groups;
  capacity = q.capacity ∙ p.capacity;
}

pub visit_there : (order : List ℕ) (k g : ℕ) → k < length order → g ≡ get_or order k g → IsVisit order k g
visit_there order k g less read = record { is = slice_get_read order (length order) k g refl less read }

-- what was found stays found
pub met_more : (graph : Graph) (old new : Trail) (to : ℕ) → IsMore old new → IsMet graph old.order.items to → IsMet graph new.order.items to
met_more graph old new to more m = record { first = m.first; is = more.kept 0 m.first m.is; reaches = m.reaches; below = m.below }

pub named_more : (graph : Graph) (old new : Trail) (from to : ℕ) → IsMore old new → IsNamed graph old from to → IsNamed graph new from to
named_more graph old new from to more n = record { visit = n.visit; is = more.kept from n.visit n.is; named = n.named }

pub looked_more : (graph : Graph) (old new : Trail) (to : ℕ) → IsMore old new → IsLooked graph old to → IsLooked graph new to
looked_more graph old new to more (inl e) = inl e
looked_more graph old new to more (inr e) = inr (e.0, e.1, more.seen e.0 e.2)

-- a visit that was there is the same
pub visit_was : (old new : Trail) (k g : ℕ) → IsMore old new → k < length old.order.items → IsVisit new.order.items k g → IsVisit old.order.items k g
visit_was old new k g more less is =
    let w : ℕ = get_or old.order.items k g in
    let was : IsVisit old.order.items k w = record { is = slice_get-get_or old.order.items k g less } in
    subst (λ n. IsVisit old.order.items k n) (same_visit new.order.items k w g (more.kept k w was) is) was

pub passed_more : (graph : Graph) (old new : Trail) (from start : ℕ) → from < length old.order.items → IsMore old new → IsPassed graph old from start → IsPassed graph new from start
passed_more graph old new from start less more p = record { passed = λ g k d is above at. looked_more graph old new d more (p.passed g k d (visit_was old new from g more less is) above at) }

pub passed_from : (graph : Graph) (old new : Trail) (from start g n : ℕ) (ds : List ℕ) → IsVisit old.order.items from g → IsMore old new → ds ≡ deps_in graph g → length ds ≤ n → ((k d : ℕ) → start ≤ k → k < n → slice_get ds k ≡ Some d → IsLooked graph new d) → IsPassed graph new from start
passed_from graph old new from start g n ds at more same all looked = record {
  passed = λ h k d is above here.
      let list : ds ≡ deps_in graph h = same ∙ ap (deps_in graph) (same_visit new.order.items from g h (more.kept from g at) is) in
      let there : slice_get ds k ≡ Some d = ap (λ xs. slice_get xs k) list ∙ here in
      looked k d above (omega (arith, slice_get_within ds k d there, all)) there;
}

pub group_within : (graph : Graph) (trail : Trail) (from g : ℕ) → IsTrailOf graph trail → IsVisit trail.order.items from g → g < length trail.seen.items
group_within graph trail from g t at = flag_within trail.seen.items g (t.marked from g at)

pub exhausted_next : (graph : Graph) (old new : Trail) (n start g : ℕ) → n < length old.order.items → IsMore old new → IsExhausted graph old n → IsPassed graph new n start → ((k d : ℕ) → k < start → slice_get (deps_in graph g) k ≡ Some d → ready_in graph d ≡ true) → IsVisit old.order.items n g → IsExhausted graph new (n + 1)
exhausted_next graph old new n start g less more past here before at = record { looked = λ k h d below is named. sort k h d is named (cases_lt k n) below }
  where
    this : (h d : ℕ) → IsVisit new.order.items n h → Contains (deps_in graph h) d → IsLooked graph new d
    this h d is named =
        let j = contains_at (deps_in graph h) d named in
        let group : h ≡ g = sym (same_visit new.order.items n g h (more.kept n g at) is) in
        ⊎_elim (λ (b : j.0 < start). inl (before j.0 d b (subst (λ m. slice_get (deps_in graph m) j.0 ≡ Some d) group j.1))) (λ (b : start ≤ j.0). here.passed h j.0 d is b j.1) (cases_lt j.0 start)

    sort : (k h d : ℕ) → IsVisit new.order.items k h → Contains (deps_in graph h) d → (k < n) ⊎ (n ≤ k) → k < n + 1 → IsLooked graph new d
    sort k h d is named (inl b) below = looked_more graph old new d more (past.looked k h d b (visit_was old new k h more (omega (arith, b, less)) is) named)
    sort k h d is named (inr b) below = let e : k ≡ n = omega (arith, b, below) in this h d (subst (λ m. IsVisit new.order.items m h) e is) named
