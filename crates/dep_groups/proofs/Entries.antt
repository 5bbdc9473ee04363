-- What a graph shows of an instance, and what follows it.
use Rattle.std.proofs.Common.{◌≡◌, ℕ, Option, Some, None, List, [], ◌∷◌, map, Contains, zero, suc, ap, sym, subst, ◌∙◌, refl, arith}
use Rattle.graph_walks.specs.Walks.{IsPath}
use Rattle.graph_walks.proofs.Paths.{reaches_self, reaches_next}
use Rattle.dep_groups.specs.declared.graph.Graph.{Graph}
use Rattle.dep_groups.specs.Nodes.{Node}
use Rattle.dep_groups.specs.Places.{place}
use Rattle.dep_groups.specs.Shape.{home_in, deps_in, entry_of, entries_of}
use Rattle.dep_groups.specs.Frontier.{Emitted, entry_at, deps_of_entry, next_of, Reaches}

pub entry_is : (nodes : List Node) (homes : List (Option ℕ)) (i : ℕ) → entry_at (map (entry_of nodes) homes) i ≡ entry_of nodes (place homes i)
unfolding place
entry_is nodes [] i = refl
entry_is nodes (x ∷ xs) zero = refl
entry_is nodes (x ∷ xs) (suc i) = entry_is nodes xs i

module _ (graph : Graph) where
  pub entry_here : (i : ℕ) → entry_at (entries_of graph) i ≡ entry_of graph.nodes.items (home_in graph i)
  entry_here i = entry_is graph.nodes.items graph.homes.items i

  pub entry_home : (i g : ℕ) → home_in graph i ≡ Some g → entry_at (entries_of graph) i ≡ Emitted (deps_in graph g)
  entry_home i g is = entry_here i ∙ ap (entry_of graph.nodes.items) is

  pub named_next : (i g d : ℕ) → home_in graph i ≡ Some g → Contains (deps_in graph g) d → Contains (next_of (entries_of graph) i) d
  named_next i g d is named = subst (λ e. Contains (deps_of_entry e) d) (sym (entry_home i g is)) named

  pub next_named : (i d : ℕ) → Contains (next_of (entries_of graph) i) d → (g : ℕ) × (home_in graph i ≡ Some g) × Contains (deps_in graph g) d
  next_named i d named = sort (home_in graph i) refl (subst (λ e. Contains (deps_of_entry e) d) (entry_here i) named)
    where
      sort : (o : Option ℕ) → home_in graph i ≡ o → Contains (deps_of_entry (entry_of graph.nodes.items o)) d → (g : ℕ) × (home_in graph i ≡ Some g) × Contains (deps_in graph g) d
      sort None e c = absurd (omega (arith, c.1))
      sort (Some g) e c = (g, e, c)

  pub one_on : (i g d : ℕ) → home_in graph i ≡ Some g → Contains (deps_in graph g) d → Reaches (entries_of graph) i d
  one_on i g d is named = reaches_next (next_of (entries_of graph)) i d d (named_next i g d is named) (reaches_self (next_of (entries_of graph)) d)

-- where groups are and depend as before, what was reached is reached
pub reach_kept : (old new : Graph) → ((i g : ℕ) → home_in old i ≡ Some g → home_in new i ≡ Some g) → ((i g d : ℕ) → home_in old i ≡ Some g → Contains (deps_in old g) d → Contains (deps_in new g) d) → (i j : ℕ) → Reaches (entries_of old) i j → Reaches (entries_of new) i j
reach_kept old new homes deps i j r = record { path = r.path; leads = along i r.path r.leads }
  where
    along : (i : ℕ) (p : List ℕ) → IsPath (next_of (entries_of old)) i p j → IsPath (next_of (entries_of new)) i p j
    along i [] e = e
    along i (k ∷ ks) e = let h = next_named old i k e.0 in (named_next new i h.0 k (homes i h.0 h.1) (deps i h.0 k h.1 h.2), along k ks e.1)
