-- Two trees that become one, with all the generators of both.
use Rattle.std.proofs.Common.{◌≡◌, ℕ, ◌+◌, ◌^◌, ◌<◌, ◌≤◌, ◌⊎◌, inl, inr, Bool, true, false, List, [], ◌∷◌, ◌++◌, length, set, slice_get, Option, Some, None, refl, ap, sym, subst, ◌∙◌, arith}
use Rattle.std.specs.Bool.{if◌then◌else◌}
use Rattle.std.specs.Prelude.{option_and_then, option_map, map, nat_lt, ◌==◌, ◌||◌, IsSome, IfSome}
use Rattle.std.specs.List.{list_any}
use Rattle.std.proofs.lemmas.Bool.{both_ways, cases_eq, eqb-true, eq-eqb, ltb-true, ltb-false}
use Rattle.std.proofs.lemmas.Option.{none-some, same_Some, slice_get-map}
use Rattle.std.proofs.lemmas.List.{length-map}
use Rattle.list_laws.proofs.Lists.{set_elsewhere}
use Rattle.list_laws.proofs.Options.{same_element}
use Rattle.orc_ids.specs.declared.ids.GenId.{GenId}
use Rattle.tracker.specs.declared.holders.Hanging.{Hanging}
use Rattle.tracker.specs.declared.holders.Node.{Node}
use Rattle.tracker.specs.declared.holders.TheConstants.{HEIGHT}
use Rattle.tracker.specs.declared.owned.Owned.{Owned}
use Rattle.tracker.specs.Holders.{put, hanging, joined_nodes, has_generator, root_at, tree_size, CanJoin, IsJoined, AreTrees, HasRoot, AreHeld}
use Rattle.tracker.specs.Owners.{within, change_at, and_all_of}
use Rattle.tracker.proofs.Holding.{changed_there, changed_elsewhere, changed_length, gone_there}
use Rattle.tracker.proofs.Sizes.{doubled, few_are_low, relabel, sizes_fit, sizes_join, sizes_stay}
use Rattle.tracker.proofs.Trees.{set_there, set_length, put_is, hung_is}

-- one of two numbers
abbrev IsOf : ℕ → ℕ → ℕ → Type 0
IsOf a b n = (n ≡ a) ⊎ (n ≡ b)

-- the one and the other, either way round
abbrev IsBoth : ℕ → ℕ → ℕ → ℕ → Type 0
IsBoth a b m n = ((m ≡ a) × (n ≡ b)) ⊎ ((m ≡ b) × (n ≡ a))

-- what hangs where, whichever of the two was higher
record IsHung (nodes : List Node) (roots : List ℕ) (from to : ℕ) (new : List Node) (tops : List ℕ) : Type 0 where
  below : ℕ
  above : ℕ
  rank : ℕ
  x : Node
  z : Node
  x_is : slice_get nodes below ≡ Some x
  z_is : slice_get nodes above ≡ Some z
  x_top : x.up ≡ None
  z_top : z.up ≡ None
  both : IsBoth from to x.tracker z.tracker
  x_of : IsOf from to x.tracker
  z_of : IsOf from to z.tracker
  apart : above ≡ below → ⊥
  from_in : (r : ℕ) → slice_get roots from ≡ Some r → IsOf below above r
  to_in : (r : ℕ) → slice_get roots to ≡ Some r → IsOf below above r
  lower : x.rank < rank
  higher : z.rank ≤ rank
  size : 2 ^ rank ≤ 2 ^ x.rank + 2 ^ z.rank
  low : rank < HEIGHT
  at_below : slice_get new below ≡ Some (record x { up = Some above })
  at_above : slice_get new above ≡ Some (record { up = None; rank = rank; tracker = to })
  others : (n : ℕ) → (n ≡ below → ⊥) → (n ≡ above → ⊥) → slice_get new n ≡ slice_get nodes n
  tops_to : slice_get tops to ≡ Some above
  tops_other : (t : ℕ) → (t ≡ to → ⊥) → slice_get tops t ≡ slice_get roots t
  count : length new ≡ length nodes
  rooted : length tops ≡ length roots

-- a root of a tracker
record IsRootOf (nodes : List Node) (roots : List ℕ) (t r : ℕ) (x : Node) : Type 0 where
  root_is : slice_get roots t ≡ Some r
  node_is : slice_get nodes r ≡ Some x
  top : x.up ≡ None
  its : x.tracker ≡ t

is_root : (nodes : List Node) (roots : List ℕ) (t r : ℕ) (x : Node) → slice_get roots t ≡ Some r → slice_get nodes r ≡ Some x → HasRoot nodes roots t → IsRootOf nodes roots t r x
is_root nodes roots t r x e f h = record { root_is = e; node_is = f; top = ap (λ (w : Node). w.up) same ∙ h.top; its = ap (λ (w : Node). w.tracker) same ∙ h.its }
  where
    same : x ≡ h.node
    same = same_element (slice_get nodes r) x h.node f (ap (slice_get nodes) (same_element (slice_get roots t) r h.root e h.root_is) ∙ h.node_is)

hung_by : (nodes : List Node) (roots : List ℕ) (from to below above rank s t other : ℕ) (x z : Node) (new : List Node) (tops : List ℕ) → IsRootOf nodes roots s below x → IsRootOf nodes roots t above z → (s ≡ t → ⊥) → IsBoth from to s t → IsOf from to s → IsOf from to t →
    ((r : ℕ) → slice_get roots from ≡ Some r → IsOf below above r) → ((r : ℕ) → slice_get roots to ≡ Some r → IsOf below above r) → slice_get roots to ≡ Some other → x.rank < rank → z.rank ≤ rank → 2 ^ rank ≤ 2 ^ x.rank + 2 ^ z.rank → rank < HEIGHT →
    new ≡ joined_nodes (record { below = below; above = above; rank = rank }) to nodes → tops ≡ put to above roots → IsHung nodes roots from to new tops
hung_by nodes roots from to below above rank s t other x z new tops p q differ both s_of t_of from_in to_in there lower higher size low nodes_are tops_are = record {
  below = below;
  above = above;
  rank = rank;
  x = x;
  z = z;
  x_is = p.node_is;
  z_is = q.node_is;
  x_top = p.top;
  z_top = q.top;
  both = subst (λ i. IsBoth from to i z.tracker) (sym p.its) (subst (IsBoth from to s) (sym q.its) both);
  x_of = subst (IsOf from to) (sym p.its) s_of;
  z_of = subst (IsOf from to) (sym q.its) t_of;
  apart = apart;
  from_in = from_in;
  to_in = to_in;
  lower = lower;
  higher = higher;
  size = size;
  low = low;
  at_below = ap (λ ns. slice_get ns below) is ∙ (set_elsewhere (set nodes below hung) above below top (λ e. apart (sym e)) ∙ set_there nodes below hung x p.node_is);
  at_above = ap (λ ns. slice_get ns above) is ∙ set_there (set nodes below hung) above top z above_there;
  others = λ n a b. ap (λ ns. slice_get ns n) is ∙ (set_elsewhere (set nodes below hung) above n top b ∙ set_elsewhere nodes below n hung a);
  tops_to = ap (λ ts. slice_get ts to) tops_is ∙ set_there roots to above other there;
  tops_other = λ k a. ap (λ ts. slice_get ts k) tops_is ∙ set_elsewhere roots to k above a;
  count = ap length is ∙ (set_length (set nodes below hung) above top ∙ set_length nodes below hung);
  rooted = ap length tops_is ∙ set_length roots to above;
}
  where
    apart : above ≡ below → ⊥
    apart e = differ (sym p.its ∙ (ap (λ (w : Node). w.tracker) (same_element (slice_get nodes below) x z p.node_is (ap (slice_get nodes) (sym e) ∙ q.node_is)) ∙ q.its))

    hung : Node
    hung = record x { up = Some above }

    top : Node
    top = record { up = None; rank = rank; tracker = to }

    above_there : slice_get (set nodes below hung) above ≡ Some z
    above_there = set_elsewhere nodes below above hung apart ∙ q.node_is

    is : new ≡ set (set nodes below hung) above top
    is = nodes_are ∙ (ap (put above top) (hung_is nodes below above x p.node_is) ∙ put_is (set nodes below hung) above top z above_there)

    tops_is : tops ≡ set roots to above
    tops_is = tops_are ∙ put_is roots to above other there

hung_in : (nodes : List Node) (roots : List ℕ) (from to : ℕ) (new : List Node) (tops : List ℕ) → (from ≡ to → ⊥) → HasRoot nodes roots from → HasRoot nodes roots to → IsJoined nodes roots from to new tops → IsHung nodes roots from to new tops
hung_in nodes roots from to new tops differ has_from has_to j = split (nat_lt j.x.rank j.y.rank) (nat_lt j.y.rank j.x.rank) refl refl
  where
    p : IsRootOf nodes roots from j.a j.x
    p = is_root nodes roots from j.a j.x j.a_is j.x_is has_from

    q : IsRootOf nodes roots to j.b j.y
    q = is_root nodes roots to j.b j.y j.b_is j.y_is has_to

    from_a : (r : ℕ) → slice_get roots from ≡ Some r → r ≡ j.a
    from_a r e = same_element (slice_get roots from) r j.a e j.a_is

    to_b : (r : ℕ) → slice_get roots to ≡ Some r → r ≡ j.b
    to_b r e = same_element (slice_get roots to) r j.b e j.b_is

    choice : Bool → Bool → Hanging
    choice c d = if c then record { below = j.a; above = j.b; rank = j.y.rank } else (if d then record { below = j.b; above = j.a; rank = j.x.rank } else record { below = j.a; above = j.b; rank = j.x.rank + 1 })

    is : (c d : Bool) → nat_lt j.x.rank j.y.rank ≡ c → nat_lt j.y.rank j.x.rank ≡ d → hanging j.a j.x.rank j.b j.y.rank ≡ choice c d
    is c d e f = ap (λ k. choice k (nat_lt j.y.rank j.x.rank)) e ∙ ap (choice c) f

    a_below : (rank : ℕ) → j.x.rank < rank → j.y.rank ≤ rank → 2 ^ rank ≤ 2 ^ j.x.rank + 2 ^ j.y.rank → hanging j.a j.x.rank j.b j.y.rank ≡ record { below = j.a; above = j.b; rank = rank } → IsHung nodes roots from to new tops
    a_below rank lower higher size h = hung_by nodes roots from to j.a j.b rank from to j.b j.x j.y new tops p q differ (inl (refl, refl)) (inl refl) (inr refl) (λ r e. inl (from_a r e)) (λ r e. inr (to_b r e)) j.b_is lower higher size
        (subst (λ (k : Hanging). k.rank < HEIGHT) h j.low) (j.nodes_are ∙ ap (λ k. joined_nodes k to nodes) h) (j.tops_are ∙ ap (λ (k : Hanging). put to k.above roots) h)

    split : (c d : Bool) → nat_lt j.x.rank j.y.rank ≡ c → nat_lt j.y.rank j.x.rank ≡ d → IsHung nodes roots from to new tops
    split true d e f = a_below j.y.rank (ltb-true j.x.rank j.y.rank e) (omega arith) (omega arith) (is true d e f)
    split false true e f = let h = is false true e f in
        hung_by nodes roots from to j.b j.a j.x.rank to from j.b j.y j.x new tops q p (λ s. differ (sym s)) (inr (refl, refl)) (inr refl) (inl refl) (λ r e. inr (from_a r e)) (λ r e. inl (to_b r e)) j.b_is (ltb-true j.y.rank j.x.rank f) (omega arith) (omega arith)
        (subst (λ (k : Hanging). k.rank < HEIGHT) h j.low) (j.nodes_are ∙ ap (λ k. joined_nodes k to nodes) h) (j.tops_are ∙ ap (λ (k : Hanging). put to k.above roots) h)
    split false false e f =
        let same : j.x.rank ≡ j.y.rank = omega (arith, ltb-false j.x.rank j.y.rank e, ltb-false j.y.rank j.x.rank f) in
        a_below (j.x.rank + 1) (omega arith) (omega (arith, same)) (omega (arith, doubled j.x.rank, ap (λ n. 2 ^ n) same)) (is false false e f)

-- Labels

relabel_of : (from to t : ℕ) → IsOf from to t → relabel from to t ≡ to
relabel_of from to t (inl e) = ap (λ (b : Bool). if b then to else t) (eq-eqb t from e)
relabel_of from to t (inr e) = by (t == from)
  where
    by : (b : Bool) → (if b then to else t) ≡ to
    by true = refl
    by false = e

relabel_other : (from to t : ℕ) → (t ≡ from → ⊥) → relabel from to t ≡ t
relabel_other from to t apart = by (t == from) refl
  where
    by : (b : Bool) → (t == from) ≡ b → (if b then to else t) ≡ t
    by true e = absurd (apart (eqb-true t from e))
    by false e = refl

joined_trees : (nodes : List Node) (roots labels : List ℕ) (from to : ℕ) (new : List Node) (tops : List ℕ) → (from ≡ to → ⊥) → AreTrees nodes roots labels → IsHung nodes roots from to new tops → AreTrees new tops (map (relabel from to) labels)
joined_trees nodes roots labels from to new tops differ t h = record {
  count = length-map labels (relabel from to) ∙ (t.count ∙ sym h.count);
  rooted = h.rooted ∙ (t.rooted ∙ sym h.count);
  up = λ n p w e u. up n p w e u (cases_eq n h.below) (cases_eq n h.above);
  top = λ n w e u. top n w e u (cases_eq n h.below) (cases_eq n h.above);
  low = λ n w e. low n w e (cases_eq n h.below) (cases_eq n h.above);
  many = λ n w e u. many n w e u (cases_eq n h.below) (cases_eq n h.above);
}
  where
    f : ℕ → ℕ
    f = relabel from to

    label : (n k : ℕ) → slice_get labels n ≡ Some k → slice_get (map f labels) n ≡ Some (f k)
    label n k e = slice_get-map f labels n ∙ ap (option_map f) e

    same : (n p : ℕ) → slice_get labels n ≡ slice_get labels p → slice_get (map f labels) n ≡ slice_get (map f labels) p
    same n p e = slice_get-map f labels n ∙ (ap (option_map f) e ∙ sym (slice_get-map f labels p))

    below_label : slice_get (map f labels) h.below ≡ Some to
    below_label = label h.below h.x.tracker (t.top h.below h.x h.x_is h.x_top).0 ∙ ap Some (relabel_of from to h.x.tracker h.x_of)

    above_label : slice_get (map f labels) h.above ≡ Some to
    above_label = label h.above h.z.tracker (t.top h.above h.z h.z_is h.z_top).0 ∙ ap Some (relabel_of from to h.z.tracker h.z_of)

    hung : Node
    hung = record h.x { up = Some h.above }

    crowned : Node
    crowned = record { up = None; rank = h.rank; tracker = to }

    -- what is under a node is so yet
    carried : (n p : ℕ) (w y : Node) → slice_get nodes p ≡ Some y → w.rank < y.rank → slice_get labels n ≡ slice_get labels p → (p ≡ h.below) ⊎ (p ≡ h.below → ⊥) → (p ≡ h.above) ⊎ (p ≡ h.above → ⊥) → (y : Node) × (slice_get new p ≡ Some y) × (w.rank < y.rank) × (slice_get (map f labels) n ≡ slice_get (map f labels) p)
    carried n p w y e less l (inl is) b = (hung, ap (slice_get new) is ∙ h.at_below, subst (λ (v : Node). w.rank < v.rank) (same_element (slice_get nodes p) y h.x e (ap (slice_get nodes) is ∙ h.x_is)) less, same n p l)
    carried n p w y e less l (inr a) (inl is) = (crowned, ap (slice_get new) is ∙ h.at_above, omega (arith, less, h.higher, ap (λ (v : Node). v.rank) (same_element (slice_get nodes p) y h.z e (ap (slice_get nodes) is ∙ h.z_is))), same n p l)
    carried n p w y e less l (inr a) (inr b) = (y, h.others p a b ∙ e, less, same n p l)

    up : (n p : ℕ) (w : Node) → slice_get new n ≡ Some w → w.up ≡ Some p → (n ≡ h.below) ⊎ (n ≡ h.below → ⊥) → (n ≡ h.above) ⊎ (n ≡ h.above → ⊥) → (y : Node) × (slice_get new p ≡ Some y) × (w.rank < y.rank) × (slice_get (map f labels) n ≡ slice_get (map f labels) p)
    up n p w e u (inl is) b =
        let w_is = same_element (slice_get new n) hung w (ap (slice_get new) is ∙ h.at_below) e in
        let p_is = same_Some h.above p (ap (λ (v : Node). v.up) w_is ∙ u) in
        (crowned, ap (slice_get new) (sym p_is) ∙ h.at_above, omega (arith, h.lower, ap (λ (v : Node). v.rank) w_is), ap (slice_get (map f labels)) is ∙ (below_label ∙ (sym above_label ∙ ap (slice_get (map f labels)) p_is)))
    up n p w e u (inr a) (inl is) = absurd (none-some p (ap (λ (v : Node). v.up) (same_element (slice_get new n) crowned w (ap (slice_get new) is ∙ h.at_above) e) ∙ u))
    up n p w e u (inr a) (inr b) = let q = t.up n p w (sym (h.others n a b) ∙ e) u in carried n p w q.0 q.1 q.2 q.3 (cases_eq p h.below) (cases_eq p h.above)

    neither : (n r : ℕ) → (n ≡ h.below → ⊥) → (n ≡ h.above → ⊥) → IsOf h.below h.above n → ⊥
    neither n r a b (inl e) = a e
    neither n r a b (inr e) = b e

    top : (n : ℕ) (w : Node) → slice_get new n ≡ Some w → w.up ≡ None → (n ≡ h.below) ⊎ (n ≡ h.below → ⊥) → (n ≡ h.above) ⊎ (n ≡ h.above → ⊥) → (slice_get (map f labels) n ≡ Some w.tracker) × (slice_get tops w.tracker ≡ Some n)
    top n w e u (inl is) b = absurd (none-some h.above (sym u ∙ ap (λ (v : Node). v.up) (same_element (slice_get new n) w hung e (ap (slice_get new) is ∙ h.at_below))))
    top n w e u (inr a) (inl is) =
        let its = ap (λ (v : Node). v.tracker) (same_element (slice_get new n) crowned w (ap (slice_get new) is ∙ h.at_above) e) in
        (ap (slice_get (map f labels)) is ∙ (above_label ∙ ap Some its), ap (slice_get tops) (sym its) ∙ (h.tops_to ∙ ap Some (sym is)))
    top n w e u (inr a) (inr b) =
        let was = t.top n w (sym (h.others n a b) ∙ e) u in
        let not_from : w.tracker ≡ from → ⊥ = λ s. neither n n a b (h.from_in n (ap (slice_get roots) (sym s) ∙ was.1)) in
        let not_to : w.tracker ≡ to → ⊥ = λ s. neither n n a b (h.to_in n (ap (slice_get roots) (sym s) ∙ was.1)) in
        (label n w.tracker was.0 ∙ ap Some (relabel_other from to w.tracker not_from), h.tops_other w.tracker not_to ∙ was.1)

    low : (n : ℕ) (w : Node) → slice_get new n ≡ Some w → (n ≡ h.below) ⊎ (n ≡ h.below → ⊥) → (n ≡ h.above) ⊎ (n ≡ h.above → ⊥) → w.rank < HEIGHT
    low n w e (inl is) b = subst (λ (v : Node). v.rank < HEIGHT) (same_element (slice_get new n) hung w (ap (slice_get new) is ∙ h.at_below) e) (t.low h.below h.x h.x_is)
    low n w e (inr a) (inl is) = subst (λ (v : Node). v.rank < HEIGHT) (same_element (slice_get new n) crowned w (ap (slice_get new) is ∙ h.at_above) e) h.low
    low n w e (inr a) (inr b) = t.low n w (sym (h.others n a b) ∙ e)

    -- the nodes of both are under it
    crowned_many : IsBoth from to h.x.tracker h.z.tracker → 2 ^ h.rank ≤ tree_size (map f labels) to
    crowned_many (inl p) = omega (arith, h.size, t.many h.below h.x h.x_is h.x_top, t.many h.above h.z h.z_is h.z_top, ap (tree_size labels) p.0, ap (tree_size labels) p.1, sizes_join labels from to differ)
    crowned_many (inr p) = omega (arith, h.size, t.many h.below h.x h.x_is h.x_top, t.many h.above h.z h.z_is h.z_top, ap (tree_size labels) p.0, ap (tree_size labels) p.1, sizes_join labels from to differ)

    many : (n : ℕ) (w : Node) → slice_get new n ≡ Some w → w.up ≡ None → (n ≡ h.below) ⊎ (n ≡ h.below → ⊥) → (n ≡ h.above) ⊎ (n ≡ h.above → ⊥) → 2 ^ w.rank ≤ tree_size (map f labels) w.tracker
    many n w e u (inl is) b = absurd (none-some h.above (sym u ∙ ap (λ (v : Node). v.up) (same_element (slice_get new n) w hung e (ap (slice_get new) is ∙ h.at_below))))
    many n w e u (inr a) (inl is) = subst (λ (v : Node). 2 ^ v.rank ≤ tree_size (map f labels) v.tracker) (same_element (slice_get new n) crowned w (ap (slice_get new) is ∙ h.at_above) e) (crowned_many h.both)
    many n w e u (inr a) (inr b) =
        let there = sym (h.others n a b) ∙ e in
        let was = t.top n w there u in
        let not_from : w.tracker ≡ from → ⊥ = λ s. neither n n a b (h.from_in n (ap (slice_get roots) (sym s) ∙ was.1)) in
        let not_to : w.tracker ≡ to → ⊥ = λ s. neither n n a b (h.to_in n (ap (slice_get roots) (sym s) ∙ was.1)) in
        omega (arith, t.many n w there u, sizes_stay labels from to w.tracker not_from not_to)

-- two trackers that are there have trees, which one tree can hold
pub can_join : (os : List (Option Owned)) (from to : ℕ) (nodes : List Node) (roots : List ℕ) (homes : List (Option ℕ)) → (from ≡ to → ⊥) → IsSome (within (slice_get os from)) → IsSome (within (slice_get os to)) → AreHeld os nodes roots homes → CanJoin nodes roots from to
can_join os from to nodes roots homes differ p q held = by (within (slice_get os from)) (within (slice_get os to)) refl refl p q
  where
    rooted : (t : ℕ) (r : HasRoot nodes roots t) → root_at nodes roots t ≡ Some (r.root, r.node.rank)
    rooted t r = ap (option_and_then (λ n. option_map (λ (x : Node). (n, x.rank)) (slice_get nodes n))) r.root_is ∙ ap (option_map (λ (x : Node). (r.root, x.rank))) r.node_is

    fits : (r : HasRoot nodes roots from) (s : HasRoot nodes roots to) → 2 ^ r.node.rank + 2 ^ s.node.rank ≤ 65536
    fits r s =
        let a = held.trees.many r.root r.node r.node_is r.top in
        let b = held.trees.many s.root s.node s.node_is s.top in
        omega (arith, a, b, ap (tree_size held.labels) r.its, ap (tree_size held.labels) s.its, sizes_fit held.labels from to differ, held.trees.count, held.few)

    choice : (r : HasRoot nodes roots from) (s : HasRoot nodes roots to) → Bool → Bool → Hanging
    choice r s c d = if c then record { below = r.root; above = s.root; rank = s.node.rank } else (if d then record { below = s.root; above = r.root; rank = r.node.rank } else record { below = r.root; above = s.root; rank = r.node.rank + 1 })

    low : (r : HasRoot nodes roots from) (s : HasRoot nodes roots to) (c d : Bool) → nat_lt r.node.rank s.node.rank ≡ c → nat_lt s.node.rank r.node.rank ≡ d → (choice r s c d).rank < HEIGHT
    low r s true d e f = held.trees.low s.root s.node s.node_is
    low r s false true e f = held.trees.low r.root r.node r.node_is
    low r s false false e f =
        let same : r.node.rank ≡ s.node.rank = omega (arith, ltb-false r.node.rank s.node.rank e, ltb-false s.node.rank r.node.rank f) in
        few_are_low r.node.rank (omega (arith, fits r s, ap (λ n. 2 ^ n) same))

    by : (x y : Option Owned) → within (slice_get os from) ≡ x → within (slice_get os to) ≡ y → IsSome x → IsSome y → CanJoin nodes roots from to
    by None y e f a b = absurd (both_ways false refl a)
    by (Some more) None e f a b = absurd (both_ways false refl b)
    by (Some more) (Some into) e f a b =
        let r = held.rooted from more e in
        let s = held.rooted to into f in
        record {
          a = r.root;
          b = s.root;
          x = r.node.rank;
          y = s.node.rank;
          from_is = rooted from r;
          to_is = rooted to s;
          under = held.trees.low r.root r.node r.node_is;
          low = low r s (nat_lt r.node.rank s.node.rank) (nat_lt s.node.rank r.node.rank) refl refl;
        }

-- all that one tracker has is the other's
pub held_joined : (os : List (Option Owned)) (from to : ℕ) (more into : Owned) (nodes new : List Node) (roots tops : List ℕ) (homes : List (Option ℕ)) → (from ≡ to → ⊥) → within (slice_get os from) ≡ Some more → within (slice_get os to) ≡ Some into → IsJoined nodes roots from to new tops → AreHeld os nodes roots homes →
    AreHeld (change_at to (and_all_of more) (set os from None)) new tops homes
held_joined os from to more into nodes new roots tops homes differ from_is to_is j held = record {
  labels = map f held.labels;
  trees = joined_trees nodes roots held.labels from to new tops differ held.trees h;
  few = omega (arith, h.count, held.few);
  made = h.count ∙ (held.made ∙ (sym (set_length os from None) ∙ sym (changed_length (and_all_of more) (set os from None) to)));
  rooted = λ t o e. rooted t o (cases_eq t to) (cases_eq t from) e;
  homed = λ t g o e has. homed t g o has (cases_eq t to) (cases_eq t from) e;
}
  where
    f : ℕ → ℕ
    f = relabel from to

    h : IsHung nodes roots from to new tops
    h = hung_in nodes roots from to new tops differ (held.rooted from more from_is) (held.rooted to into to_is) j

    after : List (Option Owned)
    after = change_at to (and_all_of more) (set os from None)

    at_to : within (slice_get after to) ≡ Some (and_all_of more into)
    at_to = changed_there (and_all_of more) (set os from None) to ∙ ap (λ q. option_map (and_all_of more) (within q)) (set_elsewhere os from to None (λ e. differ (sym e))) ∙ ap (option_map (and_all_of more)) to_is

    at_other : (t : ℕ) → (t ≡ to → ⊥) → (t ≡ from → ⊥) → within (slice_get after t) ≡ within (slice_get os t)
    at_other t a b = ap within (changed_elsewhere (and_all_of more) (set os from None) to t a ∙ set_elsewhere os from t None b)

    at_from : (t : ℕ) → (t ≡ to → ⊥) → t ≡ from → within (slice_get after t) ≡ None
    at_from t a e = ap within (changed_elsewhere (and_all_of more) (set os from None) to t a) ∙ (ap (λ k. within (slice_get (set os from None) k)) e ∙ gone_there os from)

    rooted : (t : ℕ) (o : Owned) → (t ≡ to) ⊎ (t ≡ to → ⊥) → (t ≡ from) ⊎ (t ≡ from → ⊥) → within (slice_get after t) ≡ Some o → HasRoot new tops t
    rooted t o (inl is) b e = record { root = h.above; node = record { up = None; rank = h.rank; tracker = to }; root_is = ap (slice_get tops) is ∙ h.tops_to; node_is = h.at_above; top = refl; its = sym is }
    rooted t o (inr a) (inl is) e = absurd (none-some o (sym (at_from t a is) ∙ e))
    rooted t o (inr a) (inr b) e = let r = held.rooted t o (sym (at_other t a b) ∙ e) in
        record { root = r.root; node = r.node; root_is = h.tops_other t a ∙ r.root_is; node_is = h.others r.root (λ s. no_of (subst (IsOf from to) (ap (λ (v : Node). v.tracker) (same_element (slice_get nodes r.root) h.x r.node (ap (slice_get nodes) s ∙ h.x_is) r.node_is) ∙ r.its) h.x_of)) (λ s. no_of (subst (IsOf from to) (ap (λ (v : Node). v.tracker) (same_element (slice_get nodes r.root) h.z r.node (ap (slice_get nodes) s ∙ h.z_is) r.node_is) ∙ r.its) h.z_of)) ∙ r.node_is; top = r.top; its = r.its }
      where
        no_of : IsOf from to t → ⊥
        no_of (inl s) = b s
        no_of (inr s) = a s

    labelled : (t g k : ℕ) (o : Owned) → within (slice_get os k) ≡ Some o → has_generator o g ≡ true → f k ≡ t → (n : ℕ) × (slice_get homes g ≡ Some (Some n)) × (slice_get (map f held.labels) n ≡ Some t)
    labelled t g k o e has to_t = let q = held.homed k g o e has in (q.0, q.1, slice_get-map f held.labels q.0 ∙ (ap (option_map f) q.2 ∙ ap Some to_t))

    one_of : (gs hs : List GenId) (g : ℕ) → list_any (λ (i : GenId). i.0 == g) (gs ++ hs) ≡ true → (list_any (λ (i : GenId). i.0 == g) gs ≡ true) ⊎ (list_any (λ (i : GenId). i.0 == g) hs ≡ true)
    one_of [] hs g e = inr e
    one_of (i ∷ gs) hs g e = by (i.0 == g) (one_of gs hs g) e
      where
        by : (b : Bool) → (list_any (λ (i : GenId). i.0 == g) (gs ++ hs) ≡ true → (list_any (λ (i : GenId). i.0 == g) gs ≡ true) ⊎ (list_any (λ (i : GenId). i.0 == g) hs ≡ true)) → (b || list_any (λ (i : GenId). i.0 == g) (gs ++ hs)) ≡ true → ((b || list_any (λ (i : GenId). i.0 == g) gs) ≡ true) ⊎ (list_any (λ (i : GenId). i.0 == g) hs ≡ true)
        by true rest w = inl refl
        by false rest w = rest w

    homed : (t g : ℕ) (o : Owned) → has_generator o g ≡ true → (t ≡ to) ⊎ (t ≡ to → ⊥) → (t ≡ from) ⊎ (t ≡ from → ⊥) → within (slice_get after t) ≡ Some o → (n : ℕ) × (slice_get homes g ≡ Some (Some n)) × (slice_get (map f held.labels) n ≡ Some t)
    homed t g o has (inr a) (inl is) e = absurd (none-some o (sym (at_from t a is) ∙ e))
    homed t g o has (inr a) (inr b) e = labelled t g t o (sym (at_other t a b) ∙ e) has (relabel_other from to t b)
    homed t g o has (inl is) b e = which (one_of into.generators more.generators g (subst (λ (w : Owned). has_generator w g ≡ true) (sym (same_Some (and_all_of more into) o (sym (ap (λ k. within (slice_get after k)) is ∙ at_to) ∙ e))) has))
      where
        which : (has_generator into g ≡ true) ⊎ (has_generator more g ≡ true) → (n : ℕ) × (slice_get homes g ≡ Some (Some n)) × (slice_get (map f held.labels) n ≡ Some t)
        which (inl w) = labelled t g to into to_is w (relabel_of from to to (inr refl) ∙ sym is)
        which (inr w) = labelled t g from more from_is w (relabel_of from to from (inl refl) ∙ sym is)

pub held_merged : (os after : List (Option Owned)) (from to : ℕ) (nodes new : List Node) (roots tops : List ℕ) (homes : List (Option ℕ)) → (from ≡ to → ⊥) → IsSome (within (slice_get os from)) → IsSome (within (slice_get os to)) → IsJoined nodes roots from to new tops →
    IfSome (within (slice_get os from)) (λ more. after ≡ change_at to (and_all_of more) (set os from None)) → AreHeld os nodes roots homes → AreHeld after new tops homes
held_merged os after from to nodes new roots tops homes differ a b j is h = by (within (slice_get os from)) (within (slice_get os to)) refl refl a b is
  where
    by : (p q : Option Owned) → within (slice_get os from) ≡ p → within (slice_get os to) ≡ q → IsSome p → IsSome q → IfSome p (λ more. after ≡ change_at to (and_all_of more) (set os from None)) → AreHeld after new tops homes
    by None q e f x y z = absurd (both_ways false refl x)
    by (Some more) None e f x y z = absurd (both_ways false refl y)
    by (Some more) (Some into) e f x y z = subst (λ ts. AreHeld ts new tops homes) (sym z) (held_joined os from to more into nodes new roots tops homes differ e f j h)
