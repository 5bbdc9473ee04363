-- Groups in flat tables.
use Rattle.std.proofs.Common.{◌≡◌, ℕ, Some, None, ◌<◌, ◌≤◌, ◌+◌, ◌^◌, List, [], ◌∷◌, ◌++◌, length, get_or, drop, zero, suc, ap, sym, subst, ◌∙◌, refl, arith, length-append}
use Rattle.std.specs.Prelude.{slice_get}
use Rattle.std.specs.List.{between}
use Rattle.std.specs.Option.{option_map_or}
use Rattle.std.proofs.lemmas.List.{take-append-le, take_all, drop_at}
use Rattle.std.proofs.lemmas.Slice.{between_is}
use Rattle.std.proofs.lemmas.Option.{same_Some, none-some, slice_get_past, slice_get_within}
use Rattle.orc_ids.specs.declared.ids.InstId.{InstId}
use Rattle.dep_groups.specs.declared.nodes.End.{End}
use Rattle.dep_groups.specs.Nodes.{Node, origin, start_of, node_between, nodes_from, nodes_in, Rise, IsCut, AreFlat}
use Rattle.dep_groups.specs.Shape.{deps_of}
use Rattle.dep_groups.specs.Marks.{members_of}

between_kept : {X : Type 0} (xs ys : List X) (a b : ℕ) → b ≤ length xs → between a b (xs ++ ys) ≡ between a b xs
between_kept xs ys a b below = between_is (xs ++ ys) a b ∙ ap (drop a) (take-append-le b xs ys below) ∙ sym (between_is xs a b)

between_last : {X : Type 0} (xs ys : List X) (a b : ℕ) → a ≡ length xs → b ≡ length xs + length ys → between a b (xs ++ ys) ≡ ys
between_last xs ys a b from to = between_is (xs ++ ys) a b ∙ ap (drop a) (take_all b (xs ++ ys) (omega (arith, to, length-append xs ys))) ∙ drop_at xs ys a (sym from)

-- where the group number k begins, if the first one begins at a start
abbrev begin : End → List End → ℕ → End
begin start ends zero = start
begin start [] (suc k) = start
begin start (end ∷ ends) (suc k) = begin end ends k

begin_next : (end : End) (ends : List End) (k : ℕ) → k ≤ length ends → begin end ends k ≡ get_or (end ∷ ends) k origin
begin_next end ends zero within = refl
begin_next end [] (suc k) within = absurd (omega (arith, within))
begin_next end (e ∷ es) (suc k) within = begin_next e es k (omega (arith, within))

begin_is : (ends : List End) (k : ℕ) → k ≤ length ends → begin origin ends k ≡ start_of ends k
begin_is ends zero within = refl
begin_is [] (suc k) within = absurd (omega (arith, within))
begin_is (end ∷ ends) (suc k) within = begin_next end ends k (omega (arith, within))

-- the tables end behind every group
rise_from : (start : End) (ends : List End) (m d : ℕ) → Rise start ends m d → (start.members ≤ m) × (start.deps ≤ d)
rise_from start [] m d r = (omega (arith, r.0), omega (arith, r.1))
rise_from start (end ∷ ends) m d r = let e = rise_from end ends m d r.2 in (omega (arith, r.0, e.0), omega (arith, r.1, e.1))

rise_at : (start : End) (ends : List End) (m d k : ℕ) (end : End) → Rise start ends m d → slice_get ends k ≡ Some end → IsCut (begin start ends k) end m d
rise_at start [] m d k end r is = absurd (none-some end is)
rise_at start (e ∷ es) m d zero end r is =
    subst (λ (x : End). IsCut start x m d) (same_Some e end is)
    (let b = rise_from e es m d r.2 in record { members_rise = r.0; deps_rise = r.1; members_within = b.0; deps_within = b.1 })
rise_at start (e ∷ es) m d (suc k) end r is = rise_at e es m d k end r.2 is

pub cut_at : (ends : List End) (m d k : ℕ) (end : End) → Rise origin ends m d → slice_get ends k ≡ Some end → IsCut (start_of ends k) end m d
cut_at ends m d k end r is = subst (λ (x : End). IsCut x end m d) (begin_is ends k (let less = slice_get_within ends k end is in omega (arith, less))) (rise_at origin ends m d k end r is)

pub count : (members : List InstId) (deps : List ℕ) (start : End) (ends : List End) → length (nodes_from members deps start ends) ≡ length ends
count members deps start [] = refl
count members deps start (end ∷ ends) = ap suc (count members deps end ends)

-- what is read of a group
module _ (members : List InstId) (deps : List ℕ) where
  get_from : (start : End) (ends : List End) (k : ℕ) (end : End) → slice_get ends k ≡ Some end → slice_get (nodes_from members deps start ends) k ≡ Some (node_between members deps (begin start ends k) end)
  get_from start [] k end is = absurd (none-some end is)
  get_from start (e ∷ es) zero end is = ap (λ (x : End). Some (node_between members deps start x)) (same_Some e end is)
  get_from start (e ∷ es) (suc k) end is = get_from e es k end is

  get_node : (ends : List End) (k : ℕ) (end : End) → slice_get ends k ≡ Some end → slice_get (nodes_in members deps ends) k ≡ Some (node_between members deps (start_of ends k) end)
  get_node ends k end is = get_from origin ends k end is ∙ ap (λ (x : End). Some (node_between members deps x end)) (begin_is ends k (let less = slice_get_within ends k end is in omega (arith, less)))

  pub members_read : (ends : List End) (k : ℕ) (end : End) → slice_get ends k ≡ Some end → members_of (nodes_in members deps ends) k ≡ between (start_of ends k).members end.members members
  unfolding members_of
  members_read ends k end is = ap (λ o. option_map_or (λ (n : Node). n.members) o []) (get_node ends k end is)

  pub deps_read : (ends : List End) (k : ℕ) (end : End) → slice_get ends k ≡ Some end → deps_of (nodes_in members deps ends) k ≡ between (start_of ends k).deps end.deps deps
  unfolding deps_of
  deps_read ends k end is = ap (λ o. option_map_or (λ (n : Node). n.deps) o []) (get_node ends k end is)

  none_past : (ends : List End) (k : ℕ) → length ends ≤ k → slice_get (nodes_in members deps ends) k ≡ None
  none_past ends k past = slice_get_past (nodes_in members deps ends) k (omega (arith, past, count members deps origin ends))

  pub members_past : (ends : List End) (k : ℕ) → length ends ≤ k → members_of (nodes_in members deps ends) k ≡ []
  unfolding members_of
  members_past ends k past = ap (λ o. option_map_or (λ (n : Node). n.members) o []) (none_past ends k past)

  pub deps_past : (ends : List End) (k : ℕ) → length ends ≤ k → deps_of (nodes_in members deps ends) k ≡ []
  unfolding deps_of
  deps_past ends k past = ap (λ o. option_map_or (λ (n : Node). n.deps) o []) (none_past ends k past)

-- past the last group nothing lies
pub cut_none : (m d : ℕ) → IsCut origin origin m d
cut_none m d = record { members_rise = omega arith; deps_rise = omega arith; members_within = omega arith; deps_within = omega arith }

-- one group more
abbrev node : List InstId → List ℕ → Node
node members deps = record { members = members; deps = deps }

pub rise_push : (start : End) (ends : List End) (m d : ℕ) (end : End) → m ≤ end.members → d ≤ end.deps → Rise start ends m d → Rise start (ends ++ end ∷ []) end.members end.deps
rise_push start [] m d end more further r = (omega (arith, r.0, more), omega (arith, r.1, further), (refl, refl))
rise_push start (e ∷ es) m d end more further r = (r.0, r.1, rise_push e es m d end more further r.2)

module _ (members more : List InstId) (deps further : List ℕ) (end : End) (m : end.members ≡ length members + length more) (d : end.deps ≡ length deps + length further) where
  node_kept : (start stop : End) → stop.members ≤ length members → stop.deps ≤ length deps → node_between (members ++ more) (deps ++ further) start stop ≡ node_between members deps start stop
  node_kept start stop a b =
      ap (λ ms. node ms (between start.deps stop.deps (deps ++ further))) (between_kept members more start.members stop.members a)
      ∙ ap (λ ds. node (between start.members stop.members members) ds) (between_kept deps further start.deps stop.deps b)

  node_last : (start : End) → start.members ≡ length members → start.deps ≡ length deps → node_between (members ++ more) (deps ++ further) start end ≡ node more further
  node_last start a b =
      ap (λ ms. node ms (between start.deps end.deps (deps ++ further))) (between_last members more start.members end.members a m)
      ∙ ap (λ ds. node more ds) (between_last deps further start.deps end.deps b d)

  pub nodes_push : (start : End) (ends : List End) → Rise start ends (length members) (length deps) → nodes_from (members ++ more) (deps ++ further) start (ends ++ end ∷ []) ≡ nodes_from members deps start ends ++ record { members = more; deps = further } ∷ []
  nodes_push start [] r = ap (λ n. n ∷ []) (node_last start r.0 r.1)
  nodes_push start (e ∷ es) r =
      let b = rise_from e es (length members) (length deps) r.2 in
      ap (λ n. n ∷ nodes_from (members ++ more) (deps ++ further) e (es ++ end ∷ [])) (node_kept start e b.0 b.1)
      ∙ ap (λ ns. node_between members deps start e ∷ ns) (nodes_push e es r.2)

-- tables that are the same, and tables with nothing
pub flat_same : (ms was : List InstId) (ds old : List ℕ) (es before : List End) → ms ≡ was → ds ≡ old → es ≡ before → AreFlat was old before → AreFlat ms ds es
flat_same ms was ds old es before a b c f =
    subst (λ (xs : List InstId). AreFlat xs ds es) (sym a) (subst (λ (xs : List ℕ). AreFlat was xs es) (sym b) (subst (λ (xs : List End). AreFlat was old xs) (sym c) f))

pub nodes_same : (ms was : List InstId) (ds old : List ℕ) (es before : List End) → ms ≡ was → ds ≡ old → es ≡ before → nodes_in ms ds es ≡ nodes_in was old before
nodes_same ms was ds old es before a b c =
    ap (λ (xs : List InstId). nodes_in xs ds es) a ∙ ap (λ (xs : List ℕ). nodes_in was xs es) b ∙ ap (λ (xs : List End). nodes_in was old xs) c

pub flat_none : (ms : List InstId) (ds : List ℕ) (es : List End) → ms ≡ [] → ds ≡ [] → es ≡ [] → AreFlat ms ds es
flat_none ms ds es a b c = flat_same ms [] ds [] es [] a b c (record { rise = (refl, refl); members_few = omega arith; deps_few = omega arith })

-- the tables with one group more
module _ (ms new more : List InstId) (ds next further : List ℕ) (es last : List End) (end : End) (f : AreFlat ms ds es) (a : new ≡ ms ++ more) (b : next ≡ ds ++ further) (c : last ≡ es ++ end ∷ []) (m : end.members ≡ length new) (d : end.deps ≡ length next) where
  all_members : length new ≡ length ms + length more
  all_members = ap length a ∙ length-append ms more

  all_deps : length next ≡ length ds + length further
  all_deps = ap length b ∙ length-append ds further

  pub flat_push : length new < 2 ^ 32 → length next < 2 ^ 32 → AreFlat new next last
  flat_push few fewer = record {
    rise = subst (λ (xs : List End). Rise origin xs (length new) (length next)) (sym c)
        (subst (λ (n : ℕ). Rise origin (es ++ end ∷ []) n (length next)) m
        (subst (λ (n : ℕ). Rise origin (es ++ end ∷ []) end.members n) d
        (rise_push origin es (length ms) (length ds) end (omega (arith, m, all_members)) (omega (arith, d, all_deps)) f.rise)));
    members_few = few;
    deps_few = fewer;
  }

  pub items_push : nodes_in new next last ≡ nodes_in ms ds es ++ record { members = more; deps = further } ∷ []
  items_push = nodes_same new (ms ++ more) next (ds ++ further) last (es ++ end ∷ []) a b c ∙ nodes_push ms more ds further end (m ∙ all_members) (d ∙ all_deps) origin es f.rise
