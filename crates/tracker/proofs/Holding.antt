-- The trees know who has each generator, through all that is done to the trackers.
use Rattle.std.proofs.Common.{◌≡◌, ℕ, zero, suc, ◌+◌, ◌^◌, ◌<◌, ◌≤◌, ◌⊎◌, inl, inr, Bool, true, false, List, [], ◌∷◌, ◌++◌, length, set, slice_get, Option, Some, None, refl, ap, sym, subst, ◌∙◌, arith}
use Rattle.std.specs.Option.{option_map_or}
use Rattle.std.specs.Prelude.{option_map, option_and_then, IfNone, IsSome, ◌==◌, ◌||◌}
use Rattle.std.specs.List.{list_any}
use Rattle.std.proofs.lemmas.Bool.{both_ways, cases_eq, eqb-true}
use Rattle.std.proofs.lemmas.Option.{none-some, same_Some, slice_get_within}
use Rattle.std.proofs.lemmas.List.{length_push}
use Rattle.list_laws.proofs.Lists.{pushed_last, front_some, set_elsewhere, pushed_cases, missing_past}
use Rattle.list_laws.proofs.Options.{same_element}
use Rattle.orc_ids.specs.declared.ids.DylibId.{DylibId}
use Rattle.orc_ids.specs.declared.ids.GenId.{GenId}
use Rattle.orc_ids.specs.declared.ids.TrackId.{TrackId}
use Rattle.orc_ids.specs.declared.limits.TheConstants.{TRACKER_LIMIT}
use Rattle.tracker.specs.declared.holders.Node.{Node}
use Rattle.tracker.specs.declared.holders.TheConstants.{HEIGHT}
use Rattle.tracker.specs.declared.owned.Owned.{Owned}
use Rattle.tracker.specs.Holders.{has_generator, tree_size, HasRoot, AreHeld, IsHomed, IsLonger, holder_of, climbed}
use Rattle.tracker.specs.Owners.{Owners, within, change_at, empty, owns_generator}
use Rattle.tracker.proofs.Sizes.{size_counts, size_grows}
use Rattle.tracker.proofs.Trees.{set_length, holder_is}

-- Trackers of which one changes

pub changed_there : (f : Owned → Owned) (os : List (Option Owned)) (k : ℕ) → within (slice_get (change_at k f os) k) ≡ option_map f (within (slice_get os k))
changed_there f [] k = refl
changed_there f (o ∷ os) zero = refl
changed_there f (o ∷ os) (suc k) = changed_there f os k

pub changed_elsewhere : (f : Owned → Owned) (os : List (Option Owned)) (k t : ℕ) → (t ≡ k → ⊥) → slice_get (change_at k f os) t ≡ slice_get os t
changed_elsewhere f [] k t apart = refl
changed_elsewhere f (o ∷ os) zero zero apart = absurd (apart refl)
changed_elsewhere f (o ∷ os) zero (suc t) apart = refl
changed_elsewhere f (o ∷ os) (suc k) zero apart = refl
changed_elsewhere f (o ∷ os) (suc k) (suc t) apart = changed_elsewhere f os k t (λ e. apart (ap suc e))

pub changed_length : (f : Owned → Owned) (os : List (Option Owned)) (k : ℕ) → length (change_at k f os) ≡ length os
changed_length f [] k = refl
changed_length f (o ∷ os) zero = refl
changed_length f (o ∷ os) (suc k) = ap suc (changed_length f os k)

pub gone_there : (os : List (Option Owned)) (k : ℕ) → within (slice_get (set os k None) k) ≡ None
gone_there [] k = refl
gone_there (o ∷ os) zero = refl
gone_there (o ∷ os) (suc k) = gone_there os k

-- what each tracker has now, one had before
HadAll : List (Option Owned) → List (Option Owned) → Type 0
HadAll old new = (t : ℕ) (o : Owned) → within (slice_get new t) ≡ Some o → (was : Owned) × (within (slice_get old t) ≡ Some was) × ((g : ℕ) → has_generator o g ≡ true → has_generator was g ≡ true)

pub held_less : (old new : List (Option Owned)) (nodes : List Node) (roots : List ℕ) (homes : List (Option ℕ)) → length new ≡ length old →
    ((t : ℕ) (o : Owned) → within (slice_get new t) ≡ Some o → (was : Owned) × (within (slice_get old t) ≡ Some was) × ((g : ℕ) → has_generator o g ≡ true → has_generator was g ≡ true)) → AreHeld old nodes roots homes → AreHeld new nodes roots homes
held_less old new nodes roots homes count had h = record {
  labels = h.labels;
  trees = h.trees;
  made = h.made ∙ sym count;
  few = h.few;
  rooted = λ t o e. h.rooted t (had t o e).0 (had t o e).1;
  homed = λ t g o e has. h.homed t g (had t o e).0 (had t o e).1 ((had t o e).2 g has);
}

-- a tracker has one more unit
pub held_unit : (os : List (Option Owned)) (k : ℕ) (f : Owned → Owned) (nodes : List Node) (roots : List ℕ) (homes : List (Option ℕ)) → ((o : Owned) → (f o).generators ≡ o.generators) → AreHeld os nodes roots homes → AreHeld (change_at k f os) nodes roots homes
held_unit os k f nodes roots homes same h = held_less os (change_at k f os) nodes roots homes (changed_length f os k) had h
  where
    there : (t : ℕ) (o : Owned) → (q : Option Owned) → within (slice_get os t) ≡ q → option_map f q ≡ Some o → (was : Owned) × (within (slice_get os t) ≡ Some was) × ((g : ℕ) → has_generator o g ≡ true → has_generator was g ≡ true)
    there t o None is e = absurd (none-some o e)
    there t o (Some was) is e = (was, is, λ g has. subst (λ (gs : List GenId). list_any (λ (h : GenId). h.0 == g) gs ≡ true) (sym (ap (λ (z : Owned). z.generators) (same_Some (f was) o e)) ∙ same was) has)

    had : (t : ℕ) (o : Owned) → within (slice_get (change_at k f os) t) ≡ Some o → (was : Owned) × (within (slice_get os t) ≡ Some was) × ((g : ℕ) → has_generator o g ≡ true → has_generator was g ≡ true)
    had t o e = split (cases_eq t k)
      where
        split : (t ≡ k) ⊎ (t ≡ k → ⊥) → (was : Owned) × (within (slice_get os t) ≡ Some was) × ((g : ℕ) → has_generator o g ≡ true → has_generator was g ≡ true)
        split (inl is) = there t o (within (slice_get os t)) refl (ap (λ n. option_map f (within (slice_get os n))) is ∙ (sym (changed_there f os k) ∙ (ap (λ n. within (slice_get (change_at k f os) n)) (sym is) ∙ e)))
        split (inr apart) = (o, ap within (sym (changed_elsewhere f os k t apart)) ∙ e, λ g has. has)

-- a tracker is gone
pub held_without : (os : List (Option Owned)) (k : ℕ) (nodes : List Node) (roots : List ℕ) (homes : List (Option ℕ)) → AreHeld os nodes roots homes → AreHeld (set os k None) nodes roots homes
held_without os k nodes roots homes h = held_less os (set os k None) nodes roots homes (set_length os k None) had h
  where
    had : (t : ℕ) (o : Owned) → within (slice_get (set os k None) t) ≡ Some o → (was : Owned) × (within (slice_get os t) ≡ Some was) × ((g : ℕ) → has_generator o g ≡ true → has_generator was g ≡ true)
    had t o e = split (cases_eq t k)
      where
        split : (t ≡ k) ⊎ (t ≡ k → ⊥) → (was : Owned) × (within (slice_get os t) ≡ Some was) × ((g : ℕ) → has_generator o g ≡ true → has_generator was g ≡ true)
        split (inl is) = absurd (none-some o (sym (ap (λ n. within (slice_get (set os k None) n)) is ∙ gone_there os k) ∙ e))
        split (inr apart) = (o, ap within (sym (set_elsewhere os k t None apart)) ∙ e, λ g has. has)

-- no tracker
pub held_none : AreHeld [] [] [] []
held_none = record {
  labels = [];
  trees = record { count = refl; rooted = refl; up = λ n p x e u. absurd (none-some x e); top = λ n x e u. absurd (none-some x e); low = λ n x e. absurd (none-some x e); many = λ n x e u. absurd (none-some x e) };
  made = refl;
  few = omega arith;
  rooted = λ t o e. absurd (none-some o e);
  homed = λ t g o e has. absurd (none-some o e);
}

-- one more tracker
pub held_tracker : (os : List (Option Owned)) (d : DylibId) (nodes : List Node) (roots : List ℕ) (homes : List (Option ℕ)) → length os < TRACKER_LIMIT → AreHeld os nodes roots homes →
    AreHeld (os ++ Some (empty d) ∷ []) (nodes ++ record { up = None; rank = 0; tracker = length os } ∷ []) (roots ++ length os ∷ []) homes
held_tracker os d nodes roots homes below h = record {
  labels = h.labels ++ length os ∷ [];
  trees = record {
    count = length_push h.labels (length os) ∙ (ap (λ n. n + 1) h.trees.count ∙ sym (length_push nodes new));
    rooted = length_push roots (length os) ∙ (ap (λ n. n + 1) h.trees.rooted ∙ sym (length_push nodes new));
    up = λ n p x e u. up n p x u (pushed_cases nodes new n x e);
    top = λ n x e u. top n x u (pushed_cases nodes new n x e);
    low = λ n x e. low n x (pushed_cases nodes new n x e);
    many = λ n x e u. many n x u (pushed_cases nodes new n x e);
  };
  made = length_push nodes new ∙ (ap (λ n. n + 1) h.made ∙ sym (length_push os (Some (empty d))));
  few = omega (arith, length_push nodes new, h.made, below);
  rooted = λ t o e. rooted t o e (within_cases t o e);
  homed = λ t g o e has. homed t g o has (within_cases t o e);
}
  where
    new : Node
    new = record { up = None; rank = 0; tracker = length os }

    labelled : (n : ℕ) (t : ℕ) → slice_get h.labels n ≡ Some t → slice_get (h.labels ++ length os ∷ []) n ≡ Some t
    labelled n t e = front_some h.labels (length os ∷ []) n t e

    last : (k : ℕ) → k ≡ length nodes → slice_get (h.labels ++ length os ∷ []) k ≡ Some (length os)
    last k is = ap (slice_get (h.labels ++ length os ∷ [])) (is ∙ sym h.trees.count) ∙ pushed_last h.labels (length os)

    last_root : (k : ℕ) → k ≡ length nodes → slice_get (roots ++ length os ∷ []) (length os) ≡ Some k
    last_root k is = ap (slice_get (roots ++ length os ∷ [])) (sym h.made ∙ sym h.trees.rooted) ∙ (pushed_last roots (length os) ∙ ap Some (sym h.made ∙ sym is))

    Labels : ℕ → ℕ → Type 0
    Labels n p = slice_get (h.labels ++ length os ∷ []) n ≡ slice_get (h.labels ++ length os ∷ []) p

    carried : (n p : ℕ) (x : Node) → slice_get nodes n ≡ Some x → (y : Node) → slice_get nodes p ≡ Some y → slice_get h.labels n ≡ slice_get h.labels p → Labels n p
    carried n p x e y f same = same_front (slice_get h.labels n) refl
      where
        same_front : (o : Option ℕ) → slice_get h.labels n ≡ o → Labels n p
        same_front (Some t) is = labelled n t is ∙ sym (labelled p t (sym same ∙ is))
        same_front None is = absurd (omega (arith, slice_get_within nodes n x e, missing_past h.labels n is, h.trees.count))

    up : (n p : ℕ) (x : Node) → x.up ≡ Some p → (slice_get nodes n ≡ Some x) ⊎ ((n ≡ length nodes) × (x ≡ new)) → (y : Node) × (slice_get (nodes ++ new ∷ []) p ≡ Some y) × (x.rank < y.rank) × Labels n p
    up n p x u (inl e) = let q = h.trees.up n p x e u in (q.0, front_some nodes (new ∷ []) p q.0 q.1, q.2, carried n p x e q.0 q.1 q.3)
    up n p x u (inr e) = absurd (none-some p (ap (λ (z : Node). z.up) (sym e.1) ∙ u))

    top : (n : ℕ) (x : Node) → x.up ≡ None → (slice_get nodes n ≡ Some x) ⊎ ((n ≡ length nodes) × (x ≡ new)) → (slice_get (h.labels ++ length os ∷ []) n ≡ Some x.tracker) × (slice_get (roots ++ length os ∷ []) x.tracker ≡ Some n)
    top n x u (inl e) = let q = h.trees.top n x e u in (labelled n x.tracker q.0, front_some roots (length os ∷ []) x.tracker n q.1)
    top n x u (inr e) = (last n e.0 ∙ sym (ap (λ (z : Node). Some z.tracker) e.1), ap (slice_get (roots ++ length os ∷ [])) (ap (λ (z : Node). z.tracker) e.1) ∙ last_root n e.0)

    low : (n : ℕ) (x : Node) → (slice_get nodes n ≡ Some x) ⊎ ((n ≡ length nodes) × (x ≡ new)) → x.rank < HEIGHT
    low n x (inl e) = h.trees.low n x e
    low n x (inr e) = subst (λ (z : Node). z.rank < HEIGHT) (sym e.1) (omega arith)

    many : (n : ℕ) (x : Node) → x.up ≡ None → (slice_get nodes n ≡ Some x) ⊎ ((n ≡ length nodes) × (x ≡ new)) → 2 ^ x.rank ≤ tree_size (h.labels ++ length os ∷ []) x.tracker
    many n x u (inl e) = omega (arith, h.trees.many n x e u, size_grows h.labels (length os) x.tracker)
    many n x u (inr e) = subst (λ (z : Node). 2 ^ z.rank ≤ tree_size (h.labels ++ length os ∷ []) z.tracker) (sym e.1) (size_counts h.labels (length os))

    within_cases : (t : ℕ) (o : Owned) → within (slice_get (os ++ Some (empty d) ∷ []) t) ≡ Some o → (within (slice_get os t) ≡ Some o) ⊎ ((t ≡ length os) × (empty d ≡ o))
    within_cases t o e = by (slice_get (os ++ Some (empty d) ∷ []) t) refl e
      where
        at : (q : Option Owned) → q ≡ Some o → (slice_get os t ≡ Some q) ⊎ ((t ≡ length os) × (q ≡ Some (empty d))) → (within (slice_get os t) ≡ Some o) ⊎ ((t ≡ length os) × (empty d ≡ o))
        at q f (inl p) = inl (ap within p ∙ f)
        at q f (inr p) = inr (p.0, same_Some (empty d) o (sym p.1 ∙ f))

        by : (z : Option (Option Owned)) → slice_get (os ++ Some (empty d) ∷ []) t ≡ z → within z ≡ Some o → (within (slice_get os t) ≡ Some o) ⊎ ((t ≡ length os) × (empty d ≡ o))
        by None is f = absurd (none-some o f)
        by (Some q) is f = at q f (pushed_cases os (Some (empty d)) t q is)

    rooted : (t : ℕ) (o : Owned) → within (slice_get (os ++ Some (empty d) ∷ []) t) ≡ Some o → (within (slice_get os t) ≡ Some o) ⊎ ((t ≡ length os) × (empty d ≡ o)) → HasRoot (nodes ++ new ∷ []) (roots ++ length os ∷ []) t
    rooted t o e (inl p) = let r = h.rooted t o p in record { root = r.root; node = r.node; root_is = front_some roots (length os ∷ []) t r.root r.root_is; node_is = front_some nodes (new ∷ []) r.root r.node r.node_is; top = r.top; its = r.its }
    rooted t o e (inr p) = record { root = length nodes; node = new; root_is = ap (slice_get (roots ++ length os ∷ [])) p.0 ∙ last_root (length nodes) refl; node_is = pushed_last nodes new; top = refl; its = sym p.0 }

    homed : (t g : ℕ) (o : Owned) → has_generator o g ≡ true → (within (slice_get os t) ≡ Some o) ⊎ ((t ≡ length os) × (empty d ≡ o)) → (n : ℕ) × (slice_get homes g ≡ Some (Some n)) × (slice_get (h.labels ++ length os ∷ []) n ≡ Some t)
    homed t g o has (inl p) = let q = h.homed t g o p has in (q.0, q.1, labelled q.0 t q.2)
    homed t g o has (inr p) = absurd (both_ways false refl (subst (λ (z : Owned). has_generator z g ≡ true) (sym p.1) has))

-- a tracker has one more generator
pub held_generator : (os : List (Option Owned)) (k g : ℕ) (id : GenId) (nodes : List Node) (roots : List ℕ) (homes new : List (Option ℕ)) → id.0 ≡ g → ((t : ℕ) (o : Owned) → within (slice_get os t) ≡ Some o → has_generator o g ≡ false) → IsHomed homes roots g k new → AreHeld os nodes roots homes →
    AreHeld (change_at k (λ o. record o { generators = o.generators ++ id ∷ [] }) os) nodes roots new
held_generator os k g id nodes roots homes new is fresh s h = record {
  labels = h.labels;
  trees = h.trees;
  made = h.made ∙ sym (changed_length f os k);
  few = h.few;
  rooted = λ t o e. rooted t o (cases_eq t k) e;
  homed = λ t j o e has. homed t j o has (cases_eq t k) e;
}
  where
    f : Owned → Owned
    f o = record o { generators = o.generators ++ id ∷ [] }

    at : (t : ℕ) → t ≡ k → within (slice_get (change_at k f os) t) ≡ option_map f (within (slice_get os k))
    at t same = ap (λ n. within (slice_get (change_at k f os) n)) same ∙ changed_there f os k

    rooted : (t : ℕ) (o : Owned) → (t ≡ k) ⊎ (t ≡ k → ⊥) → within (slice_get (change_at k f os) t) ≡ Some o → HasRoot nodes roots t
    rooted t o (inr apart) e = h.rooted t o (ap within (sym (changed_elsewhere f os k t apart)) ∙ e)
    rooted t o (inl same) e = by (within (slice_get os k)) refl (sym (at t same) ∙ e)
      where
        by : (q : Option Owned) → within (slice_get os k) ≡ q → option_map f q ≡ Some o → HasRoot nodes roots t
        by None z y = absurd (none-some o y)
        by (Some was) z y = h.rooted t was (ap (λ n. within (slice_get os n)) same ∙ z)

    older : (t j : ℕ) (o : Owned) → within (slice_get os t) ≡ Some o → has_generator o j ≡ true → (n : ℕ) × (slice_get new j ≡ Some (Some n)) × (slice_get h.labels n ≡ Some t)
    older t j o e has = let q = h.homed t j o e has in
        (q.0, s.others j q.0 (λ is_g. both_ways (has_generator o g) (fresh t o e) (subst (λ i. has_generator o i ≡ true) is_g has)) q.1, q.2)

    -- it is at the root of its tracker
    newest : (t j : ℕ) (was : Owned) → t ≡ k → within (slice_get os k) ≡ Some was → j ≡ g → (n : ℕ) × (slice_get new j ≡ Some (Some n)) × (slice_get h.labels n ≡ Some t)
    newest t j was same e j_is = let r = h.rooted k was e in
        (s.root, ap (slice_get new) j_is ∙ s.here, ap (slice_get h.labels) (same_element (slice_get roots k) s.root r.root s.root_is r.root_is) ∙ ((h.trees.top r.root r.node r.node_is r.top).0 ∙ ap Some (r.its ∙ sym same)))

    behind : (gs : List GenId) (j : ℕ) → list_any (λ (h : GenId). h.0 == j) (gs ++ id ∷ []) ≡ true → (list_any (λ (h : GenId). h.0 == j) gs ≡ true) ⊎ (j ≡ g)
    behind [] j has = one (id.0 == j) refl has
      where
        one : (b : Bool) → (id.0 == j) ≡ b → (b || false) ≡ true → (false ≡ true) ⊎ (j ≡ g)
        one true e w = inr (sym (eqb-true id.0 j e) ∙ is)
        one false e w = absurd (both_ways false refl w)
    behind (x ∷ gs) j has = one (x.0 == j) (behind gs j) has
      where
        one : (b : Bool) → (list_any (λ (h : GenId). h.0 == j) (gs ++ id ∷ []) ≡ true → (list_any (λ (h : GenId). h.0 == j) gs ≡ true) ⊎ (j ≡ g)) → (b || list_any (λ (h : GenId). h.0 == j) (gs ++ id ∷ [])) ≡ true → ((b || list_any (λ (h : GenId). h.0 == j) gs) ≡ true) ⊎ (j ≡ g)
        one true rest w = inl refl
        one false rest w = rest w

    homed : (t j : ℕ) (o : Owned) → has_generator o j ≡ true → (t ≡ k) ⊎ (t ≡ k → ⊥) → within (slice_get (change_at k f os) t) ≡ Some o → (n : ℕ) × (slice_get new j ≡ Some (Some n)) × (slice_get h.labels n ≡ Some t)
    homed t j o has (inr apart) e = older t j o (ap within (sym (changed_elsewhere f os k t apart)) ∙ e) has
    homed t j o has (inl same) e = by (within (slice_get os k)) refl (sym (at t same) ∙ e)
      where
        which : (was : Owned) → within (slice_get os k) ≡ Some was → (has_generator was j ≡ true) ⊎ (j ≡ g) → (n : ℕ) × (slice_get new j ≡ Some (Some n)) × (slice_get h.labels n ≡ Some t)
        which was z (inl w) = older t j was (ap (λ n. within (slice_get os n)) same ∙ z) w
        which was z (inr w) = newest t j was same z w

        by : (q : Option Owned) → within (slice_get os k) ≡ q → option_map f q ≡ Some o → (n : ℕ) × (slice_get new j ≡ Some (Some n)) × (slice_get h.labels n ≡ Some t)
        by None z y = absurd (none-some o y)
        by (Some was) z y = which was z (behind was.generators j (subst (λ (w : Owned). has_generator w j ≡ true) (sym (same_Some (f was) o y)) has))

-- more places for generators
pub held_longer : (os : List (Option Owned)) (nodes : List Node) (roots : List ℕ) (homes new : List (Option ℕ)) → IsLonger homes new → AreHeld os nodes roots homes → AreHeld os nodes roots new
held_longer os nodes roots homes new longer h = record { labels = h.labels; trees = h.trees; made = h.made; few = h.few; rooted = h.rooted; homed = λ t g o e has. let q = h.homed t g o e has in (q.0, longer g q.0 q.1, q.2) }

-- a home at the root of a tracker
pub homed_at : (homes mid : List (Option ℕ)) (roots : List ℕ) (g t root : ℕ) → slice_get roots t ≡ Some root → g < length mid → IsLonger homes mid → IsHomed homes roots g t (set mid g (Some root))
homed_at homes mid roots g t root root_is less longer = record {
  root = root;
  root_is = root_is;
  here = there mid g less;
  others = λ k n apart e. set_elsewhere mid g k (Some root) apart ∙ longer k n e;
}
  where
    there : (xs : List (Option ℕ)) (k : ℕ) → k < length xs → slice_get (set xs k (Some root)) k ≡ Some (Some root)
    there [] k l = absurd (omega (arith, l))
    there (x ∷ xs) zero l = refl
    there (x ∷ xs) (suc k) l = there xs k (omega (arith, l))

-- a tracker that is there has a root
pub root_below : (os : List (Option Owned)) (t : ℕ) (nodes : List Node) (roots : List ℕ) (homes : List (Option ℕ)) → IsSome (within (slice_get os t)) → AreHeld os nodes roots homes → t < length roots
root_below os t nodes roots homes there h = by (within (slice_get os t)) refl there
  where
    by : (q : Option Owned) → within (slice_get os t) ≡ q → IsSome q → t < length roots
    by None e w = absurd (both_ways false refl w)
    by (Some o) e w = let r = h.rooted t o e in slice_get_within roots t r.root r.root_is

-- none of those that are there has the generator
pub none_have : (m : Owners) (os : List (Option Owned)) (g : GenId) → m.tracks ≡ os → ((t : TrackId) → owns_generator m t g ≡ false) → (t : ℕ) (o : Owned) → within (slice_get os t) ≡ Some o → has_generator o g.0 ≡ false
none_have m os g seen none t o there =
    sym (ap (λ q. option_map_or (λ (o : Owned). list_any (λ (h : GenId). h.0 == g.0) o.generators) q false) (ap (λ ts. within (slice_get ts t)) seen ∙ there)) ∙ none (record { 0 = t })

-- whoever has the generator is found
pub owner_found : (m : Owners) (nodes : List Node) (roots : List ℕ) (homes : List (Option ℕ)) (t : TrackId) (g : GenId) → AreHeld m.tracks nodes roots homes → owns_generator m t g ≡ true → holder_of nodes homes g.0 ≡ Some t.0
owner_found m nodes roots homes t g h owns = by (within (slice_get m.tracks t.0)) refl owns
  where
    by : (q : Option Owned) → within (slice_get m.tracks t.0) ≡ q → option_map_or (λ (o : Owned). list_any (λ (i : GenId). i.0 == g.0) o.generators) q false ≡ true → holder_of nodes homes g.0 ≡ Some t.0
    by None e w = absurd (both_ways false refl w)
    by (Some o) e w = let q = h.homed t.0 g.0 o e w in
        ap (λ z. option_and_then (λ n. option_map (λ (x : Node). x.tracker) (slice_get nodes (climbed HEIGHT nodes n))) (option_and_then (λ o. o) z)) q.1
        ∙ holder_is nodes roots h.labels q.0 t.0 h.trees q.2

-- what holds anyway holds where there is none
pub whatever : {X P : Type 0} (o : Option X) → P → IfNone o P
whatever (Some x) p = tt
whatever None p = p

-- a generator that isn't found no tracker has
pub nobody_found : (m : Owners) (nodes : List Node) (roots : List ℕ) (homes : List (Option ℕ)) (g : GenId) → AreHeld m.tracks nodes roots homes → holder_of nodes homes g.0 ≡ None → (t : TrackId) → owns_generator m t g ≡ false
nobody_found m nodes roots homes g h none t = by (owns_generator m t g) refl
  where
    by : (b : Bool) → owns_generator m t g ≡ b → owns_generator m t g ≡ false
    by true e = absurd (none-some t.0 (sym none ∙ owner_found m nodes roots homes t g h e))
    by false e = e

pub held_as : {os os' : List (Option Owned)} {nodes nodes' : List Node} {roots roots' : List ℕ} {homes homes' : List (Option ℕ)} → os' ≡ os → nodes' ≡ nodes → roots' ≡ roots → homes' ≡ homes → AreHeld os nodes roots homes → AreHeld os' nodes' roots' homes'
held_as {os} {os'} {nodes} {nodes'} {roots} {roots'} {homes} {homes'} a b c d h = subst (λ x. AreHeld x nodes' roots' homes') (sym a) (subst (λ x. AreHeld os x roots' homes') (sym b) (subst (λ x. AreHeld os nodes x homes') (sym c) (subst (AreHeld os nodes roots) (sym d) h)))
