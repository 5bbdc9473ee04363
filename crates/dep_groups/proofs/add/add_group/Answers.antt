use Rattle.std.proofs.Common.{◌≡◌, ◌∙◌, ◌<◌, ◌⊎◌, inl, inr, ⊎_elim, ◌∷◌, ◌++◌, [], ℕ, Option, List, Contains, subst, sym, ap, length, arith, length-append}
use Rattle.std.proofs.lemmas.List.{with_items_is, length-map}
use Rattle.orc_ids.specs.declared.ids.InstId.{InstId}
use Rattle.dep_groups.specs.Frontier.{numbers}
use Rattle.dep_groups.specs.Nodes.{Node, node_of}
use Rattle.dep_groups.specs.Places.{place}
use Rattle.dep_groups.specs.Shape.{deps_of}
use Rattle.dep_groups.specs.Wake.{IsListed}
use Rattle.dep_groups.proofs.Additions.{deps_here, indexed_added, named_added}
use Rattle.dep_groups.proofs.Needs.{numbers_below}
use Rattle.dep_groups.proofs.add.add_group.Goals as goal

-- what is read of a group that was pushed
read : (nodes all : List Node) (n : Node) (number : ℕ) (deps : List ℕ) → all ≡ nodes ++ n ∷ [] → number ≡ length nodes → deps ≡ deps_of all number → deps ≡ n.deps
read nodes all n number deps pushed last is = is ∙ ap (λ ns. deps_of ns number) pushed ∙ ap (deps_of (nodes ++ n ∷ [])) last ∙ deps_here nodes n

pub house-requires-clause-within : goal.house-requires-clause-within
house-requires-clause-within c = λ m named. subst (λ (hs : List (Option ℕ)). m.0 < length hs) (sym c.deref_mut.ensures.value) (c.requires.members m (subst (λ (ms : List InstId). Contains ms m) c.as_slice.ensures named))

pub list_all-requires-clause-within : goal.list_all-requires-clause-within
list_all-requires-clause-within c = λ d named.
    let same = read c.args.graph.now.nodes.items c.push-number.new.self.items (node_of c.args.group.now) c.push-number.result c.deps_of.result.now c.push-number.ensures.items c.push-number.ensures.number c.deps_of.ensures in
    subst (λ (fs : List (Option ℕ)). d < length fs) (sym c.deref_mut-2.ensures.value) (numbers_below c.args.group.now.deps _ d c.requires.deps (subst (λ (ds : List ℕ). Contains ds d) same named))

-- as many as the group's dependencies
count_read : (deps : List ℕ) (ids : List InstId) → deps ≡ numbers ids → length deps ≡ length ids
count_read deps ids same = ap length same ∙ length-map ids (λ (i : InstId). i.0)

pub list_all-requires-clause-room : goal.list_all-requires-clause-room
list_all-requires-clause-room c =
    let same = read c.args.graph.now.nodes.items c.push-number.new.self.items (node_of c.args.group.now) c.push-number.result c.deps_of.result.now c.push-number.ensures.items c.push-number.ensures.number c.deps_of.ensures in
    omega (arith, c.requires.edges, count_read c.deps_of.result.now c.args.group.now.deps same)

pub returns-clause-edges : goal.returns-clause-edges
returns-clause-edges c =
    let same = read c.args.graph.now.nodes.items c.push-number.new.self.items (node_of c.args.group.now) c.push-number.result c.deps_of.result.now c.push-number.ensures.items c.push-number.ensures.number c.deps_of.ensures in
    omega (arith, c.list_all.ensures.len, count_read c.deps_of.result.now c.args.group.now.deps same)

pub returns-clause-indexed : goal.returns-clause-indexed
returns-clause-indexed c =
    let old = c.args.graph.now in
    let n : Node = node_of c.args.group.now in
    let nodes = c.push-number.new.self.items in
    let count : c.push-number.result ≡ length old.nodes.items = c.push-number.ensures.number in
    let same = read old.nodes.items nodes n c.push-number.result c.deps_of.result.now c.push-number.ensures.items count c.deps_of.ensures in
    let is = with_items_is old.firsts c.list_all.new.firsts (c.list_all.auto.firsts ∙ c.deref_mut-2.ensures.len) in
    let e = c.list_all.ensures in
    let only : (d g : ℕ) → IsListed old.edges.items (place c.deref_mut-2.result.now d) g ⊎ (Contains c.deps_of.result.now d × (g ≡ c.push-number.result)) → IsListed old.edges.items (place old.firsts.items d) g ⊎ (Contains n.deps d × (g ≡ length old.nodes.items)) = λ d g x. ⊎_elim
    (λ (was : IsListed old.edges.items (place c.deref_mut-2.result.now d) g). inl (subst (λ (fs : List (Option ℕ)). IsListed old.edges.items (place fs d) g) c.deref_mut-2.ensures.value was))
    (λ (m : Contains c.deps_of.result.now d × (g ≡ c.push-number.result)). inr (subst (λ (ds : List ℕ). Contains ds d) same m.0, m.1 ∙ count)) x in
    record {
      complete = λ g d named. subst (λ (fs : List (Option ℕ)). IsListed c.list_all.new.edges.items (place fs d) g) (sym is)
          (indexed_added old.nodes.items n old.firsts.items c.list_all.new.firsts old.edges.items c.list_all.new.edges.items c.requires.indexed.complete
          (λ d named. subst (λ (n : ℕ). IsListed c.list_all.new.edges.items (place c.list_all.new.firsts d) n) count (e.listed d (subst (λ (ds : List ℕ). Contains ds d) (sym same) named)))
          (λ d g was. e.kept d g (subst (λ (fs : List (Option ℕ)). IsListed old.edges.items (place fs d) g) (sym c.deref_mut-2.ensures.value) was))
          g d (subst (λ (ns : List Node). Contains (deps_of ns g) d) c.push-number.ensures.items named));
      named = λ g d listed. subst (λ (ns : List Node). Contains (deps_of ns g) d) (sym c.push-number.ensures.items)
          (named_added old.nodes.items n old.firsts.items c.list_all.new.firsts old.edges.items c.list_all.new.edges.items c.requires.indexed.named
          (λ d g is. only d g (e.only d g is)) g d (subst (λ (fs : List (Option ℕ)). IsListed c.list_all.new.edges.items (place fs d) g) is listed));
      falls = e.falls.falls;
      groups = λ k f at. let less = e.falls.groups k f at in omega (arith, less, count, ap length c.push-number.ensures.items, length-append old.nodes.items (n ∷ []));
      firsts = λ d k at. e.falls.firsts_there d k (ap (λ (fs : List (Option ℕ)). place fs d) (sym is) ∙ at);
    }
