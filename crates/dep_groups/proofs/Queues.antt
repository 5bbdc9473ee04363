-- A group that enters or leaves a queue.
use Rattle.std.proofs.Common.{◌≡◌, ℕ, Option, Some, None, ◌⊎◌, inl, inr, ⊎_elim, ◌<◌, ◌==◌, if◌then◌else◌, cond, true, false, List, [], ◌∷◌, length, zero, suc, ap, sym, subst, ◌∙◌, refl, arith, ◌≢◌}
use Rattle.std.proofs.lemmas.Option.{same_Some, none-some}
use Rattle.std.proofs.lemmas.Bool.{cases_eq}
use Rattle.std.proofs.lemmas.Bool.Decides.{eqb_tells}
use Rattle.dep_groups.specs.declared.graph.Graph.{Graph}
use Rattle.dep_groups.specs.Places.{place}
use Rattle.dep_groups.specs.Shape.{home_in, entries_of}
use Rattle.dep_groups.specs.Search.{LinksLead}
use Rattle.dep_groups.specs.Frontier.{Reaches}
use Rattle.dep_groups.specs.Links.{linked_of, step, Ends, stop, go, Comes, here, later, AllEnd, IsQueued, AreQueued, IsAlone, IsFound, IsRelinked, linked_once, waiting}
use Rattle.dep_groups.proofs.Ways.{moved, written_here, written_other, all_end, all_sooner, away_alone, kept_at, comes_moved, no_circle, way_on, avoids, next_step}

module _ (links new : List (Option ℕ)) (g : ℕ) (content : Option ℕ) (says : (n : ℕ) → place new n ≡ (if g == n then content else place links n)) where
  pub relinked : IsRelinked links new g
  relinked = record { kept = λ n apart. written_other (place links) (place new) g content says n (λ same. apart (sym same)) }

-- a group enters
module _ (graph : Graph) (links new nexts after heads fronts : List (Option ℕ)) (g to : ℕ)
    (link : (n : ℕ) → place new n ≡ (if g == n then Some to else place links n))
    (next : (n : ℕ) → place after n ≡ (if g == n then place heads to else place nexts n))
    (head : (n : ℕ) → place fronts n ≡ (if to == n then Some g else place heads n)) where
  linked : place new g ≡ Some to
  linked = written_here (place links) (place new) g (Some to) link

  link_was : (n d : ℕ) → place new n ≡ Some d → (g ≡ n → ⊥) → place links n ≡ Some d
  link_was n d is apart = sym (written_other (place links) (place new) g (Some to) link n apart) ∙ is

  link_to : (n d : ℕ) → place new n ≡ Some d → g ≡ n → to ≡ d
  link_to n d is same = same_Some to d (sym linked ∙ subst (λ m. place new m ≡ Some d) (sym same) is)

  pub queued_entered : place links g ≡ None → AreQueued links nexts heads → AreQueued new after fronts
  queued_entered none q = record { only = λ d h is. only d h is (cases_eq to d); all = λ n d is. all n d is (cases_eq g n) }
    where
      other : (d n : ℕ) → place links n ≡ Some d → g ≡ n → ⊥
      other d n is same = none-some d (sym none ∙ subst (λ m. place links m ≡ Some d) (sym same) is)

      next_same : (d n : ℕ) → place links n ≡ Some d → place after n ≡ place nexts n
      next_same d n is = written_other (place nexts) (place after) g (place heads to) next n (other d n is)

      stays : (d b : ℕ) → Ends (place nexts) (λ n. place links n ≡ Some d) b → Ends (place after) (λ n. place new n ≡ Some d) b
      stays d b e = moved (place nexts) (place after) (λ n. place links n ≡ Some d) (λ n. place new n ≡ Some d) (next_same d) (λ n is. written_other (place links) (place new) g (Some to) link n (other d n is) ∙ is) b e

      next_here : place after g ≡ place heads to
      next_here = written_here (place nexts) (place after) g (place heads to) next

      mine : (o : Option ℕ) → place heads to ≡ o → Ends (place after) (λ n. place new n ≡ Some to) g
      mine None is = stop linked (next_here ∙ is)
      mine (Some b) is = go linked (next_here ∙ is) (stays to b (q.only to b is))

      only : (d h : ℕ) → place fronts d ≡ Some h → (to ≡ d) ⊎ (to ≡ d → ⊥) → Ends (place after) (λ n. place new n ≡ Some d) h
      only d h is (inl same) =
          let at : g ≡ h = same_Some g h (sym (written_here (place heads) (place fronts) to (Some g) head) ∙ subst (λ m. place fronts m ≡ Some h) (sym same) is) in
          subst (λ m. Ends (place after) (λ n. place new n ≡ Some m) h) same (subst (λ m. Ends (place after) (λ n. place new n ≡ Some to) m) at (mine (place heads to) refl))
      only d h is (inr apart) = stays d h (q.only d h (sym (written_other (place heads) (place fronts) to (Some g) head d apart) ∙ is))

      behind : (n d : ℕ) → IsQueued nexts heads d n → (to ≡ d) ⊎ (to ≡ d → ⊥) → IsQueued after fronts d n
      behind n d x (inl same) = record {
        head = g;
        is = subst (λ m. place fronts m ≡ Some g) same (written_here (place heads) (place fronts) to (Some g) head);
        way = later (next_here ∙ subst (λ m. place heads m ≡ Some x.head) (sym same) x.is) (comes_moved (place nexts) (place after) (λ m. place links m ≡ Some d) (next_same d) x.head n (q.only d x.head x.is) x.way);
      }
      behind n d x (inr apart) = record {
        head = x.head;
        is = written_other (place heads) (place fronts) to (Some g) head d apart ∙ x.is;
        way = comes_moved (place nexts) (place after) (λ m. place links m ≡ Some d) (next_same d) x.head n (q.only d x.head x.is) x.way;
      }

      all : (n d : ℕ) → place new n ≡ Some d → (g ≡ n) ⊎ (g ≡ n → ⊥) → IsQueued after fronts d n
      all n d is (inl same) = record { head = g; is = subst (λ m. place fronts m ≡ Some g) (link_to n d is same) (written_here (place heads) (place fronts) to (Some g) head); way = here same }
      all n d is (inr apart) = behind n d (q.all n d (link_was n d is apart)) (cases_eq to d)

  pub ends_entered : IsFound graph heads g to → AreQueued links nexts heads → AllEnd graph links → AllEnd graph new
  ends_entered found q ends = record { each = λ i. all_end (place links) (place new) g (Some to) link (home_in graph) to refl (target found.apart) i (ends.each i) }
    where
      target : (home_in graph to ≡ None) ⊎ IsAlone graph heads g to → Ends (step (home_in graph) (place links)) (λ i. home_in graph i ≡ Some g → ⊥) to
      target (inl absent) = stop (λ is. none-some g (sym absent ∙ is)) (ap (linked_of (place links)) absent)
      target (inr alone) = away_alone (home_in graph) (place links) g (λ n d is home. let x = q.all n d is in none-some x.head (sym (alone.unlinked d home) ∙ x.is)) to alone.other (ends.each to)

  pub leads_entered : IsFound graph heads g to → LinksLead graph links → LinksLead graph new
  leads_entered found leads = record {
    reached = λ i n d home is. ⊎_elim
        (λ (same : g ≡ n). subst (λ m. Reaches (entries_of graph) i m) (link_to n d is same) (found.reached i (home ∙ ap Some (sym same))))
        (λ (apart : g ≡ n → ⊥). leads.reached i n d home (link_was n d is apart)) (cases_eq g n);
    below = λ n d is. ⊎_elim
        (λ (same : g ≡ n). subst (λ m. m < length graph.homes.items) (link_to n d is same) found.below)
        (λ (apart : g ≡ n → ⊥). leads.below n d (link_was n d is apart)) (cases_eq g n);
  }

-- the group at a head leaves
module _ (graph : Graph) (links new nexts heads fronts : List (Option ℕ)) (g i : ℕ)
    (link : (n : ℕ) → place new n ≡ (if g == n then None else place links n))
    (head : (n : ℕ) → place fronts n ≡ (if i == n then place nexts g else place heads n)) where
  link_left : (n d : ℕ) → place new n ≡ Some d → (g ≡ n → ⊥) × (place links n ≡ Some d)
  link_left n d is = ⊎_elim
      (λ (same : g ≡ n). absurd (none-some d (sym (written_here (place links) (place new) g None link) ∙ subst (λ m. place new m ≡ Some d) (sym same) is)))
      (λ (apart : g ≡ n → ⊥). (apart, sym (written_other (place links) (place new) g None link n apart) ∙ is)) (cases_eq g n)

  module _ (first : place heads i ≡ Some g) (q : AreQueued links nexts heads) where
    way : Ends (place nexts) (λ n. place links n ≡ Some i) g
    way = q.only i g first

    pub link_head : place links g ≡ Some i
    link_head = kept_at (place nexts) (λ n. place links n ≡ Some i) g g way (here refl)

    pub queued_left : AreQueued new nexts fronts
    queued_left = record { only = λ d h is. only d h is (cases_eq i d); all = λ n d is. let was = link_left n d is in all n d was.0 (q.all n d was.1) (cases_eq i d) }
      where
        stays : (d h : ℕ) → Ends (place nexts) (λ n. place links n ≡ Some d) h → (Comes (place nexts) h g → ⊥) → Ends (place nexts) (λ n. place new n ≡ Some d) h
        stays d h e never = moved (place nexts) (place nexts) (λ n. (place links n ≡ Some d) × (g ≡ n → ⊥)) (λ n. place new n ≡ Some d) (λ n k. refl) (λ n k. written_other (place links) (place new) g None link n k.1 ∙ k.0) h (avoids (place nexts) (λ n. place links n ≡ Some d) g h e never)

        only : (d h : ℕ) → place fronts d ≡ Some h → (i ≡ d) ⊎ (i ≡ d → ⊥) → Ends (place nexts) (λ n. place new n ≡ Some d) h
        only d h is (inl same) =
            let on : place nexts g ≡ Some h = sym (written_here (place heads) (place fronts) i (place nexts g) head) ∙ subst (λ m. place fronts m ≡ Some h) (sym same) is in
            subst (λ m. Ends (place nexts) (λ n. place new n ≡ Some m) h) same
            (stays i h (way_on (place nexts) (λ n. place links n ≡ Some i) g h way on) (λ c. no_circle (place nexts) (λ n. place links n ≡ Some i) g h way on c))
        only d h is (inr apart) =
            let e = q.only d h (sym (written_other (place heads) (place fronts) i (place nexts g) head d apart) ∙ is) in
            stays d h e (λ c. apart (same_Some i d (sym link_head ∙ kept_at (place nexts) (λ n. place links n ≡ Some d) h g e c)))

        all : (n d : ℕ) → (g ≡ n → ⊥) → IsQueued nexts heads d n → (i ≡ d) ⊎ (i ≡ d → ⊥) → IsQueued nexts fronts d n
        all n d apart x (inl same) =
            let at : x.head ≡ g = same_Some x.head g (sym x.is ∙ subst (λ m. place heads m ≡ Some g) same first) in
            let s = next_step (place nexts) g n (subst (λ m. Comes (place nexts) m n) at x.way) apart in
            record { head = s.0; is = subst (λ m. place fronts m ≡ Some s.0) same (written_here (place heads) (place fronts) i (place nexts g) head ∙ s.1); way = s.2 }
        all n d apart x (inr other) = record { head = x.head; is = written_other (place heads) (place fronts) i (place nexts g) head d other ∙ x.is; way = x.way }

  pub ends_left : AllEnd graph links → AllEnd graph new
  ends_left ends = record { each = λ k. all_sooner (place links) (place new) g None link (home_in graph) refl k (ends.each k) }

  pub leads_left : LinksLead graph links → LinksLead graph new
  leads_left leads = record { reached = λ k n d home is. leads.reached k n d home (link_left n d is).1; below = λ n d is. leads.below n d (link_left n d is).1 }

-- one group fewer is linked to an instance
once_one : (i : ℕ) (o : Option ℕ) → o ≡ Some i → linked_once i o ≡ 1
once_one i o is = ap (linked_once i) is ∙ ⊎_elim (λ (e : ((i == i) ≡ true) × (i ≡ i)). ap (λ b. cond b 1 0) e.0) (λ (e : ((i == i) ≡ false) × (i ≢ i)). absurd (e.1 refl)) (eqb_tells i i)

once_none : (i : ℕ) (o : Option ℕ) → (o ≡ Some i → ⊥) → linked_once i o ≡ 0
once_none i None never = refl
once_none i (Some d) never = ⊎_elim (λ (e : ((d == i) ≡ true) × (d ≡ i)). absurd (never (ap Some e.1))) (λ (e : ((d == i) ≡ false) × (d ≢ i)). ap (λ b. cond b 1 0) e.0) (eqb_tells d i)

waiting_same : (i : ℕ) (xs ys : List (Option ℕ)) → length ys ≡ length xs → ((n : ℕ) → place ys n ≡ place xs n) → waiting i ys ≡ waiting i xs
unfolding place
waiting_same i [] [] len same = refl
waiting_same i [] (y ∷ ys) len same = absurd (omega (arith, len))
waiting_same i (x ∷ xs) [] len same = absurd (omega (arith, len))
waiting_same i (x ∷ xs) (y ∷ ys) len same = omega (arith, ap (linked_once i) (same 0), waiting_same i xs ys (omega (arith, len)) (λ n. same (suc n)))

pub waiting_less : (i g : ℕ) (xs ys : List (Option ℕ)) → length ys ≡ length xs → ((n : ℕ) → (n ≡ g → ⊥) → place ys n ≡ place xs n) → place xs g ≡ Some i → (place ys g ≡ Some i → ⊥) → waiting i ys < waiting i xs
unfolding place
waiting_less i g [] ys len same is not = absurd (none-some i is)
waiting_less i g (x ∷ xs) [] len same is not = absurd (omega (arith, len))
waiting_less i zero (x ∷ xs) (y ∷ ys) len same is not = omega (arith, once_one i x is, once_none i y not, waiting_same i xs ys (omega (arith, len)) (λ n. same (suc n) (λ e. absurd (omega (arith, e)))))
waiting_less i (suc g) (x ∷ xs) (y ∷ ys) len same is not = omega (arith, ap (linked_once i) (same 0 (λ e. absurd (omega (arith, e)))), waiting_less i g xs ys (omega (arith, len)) (λ n apart. same (suc n) (λ e. apart (omega (arith, e)))) is not)
