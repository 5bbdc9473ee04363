-- What a graph offers and what it needs from others (JITLink: defined and external symbols).
use Rattle.std.specs.Prelude.{ℕ, ◌+◌, Bool, true, false, ◌&&◌, ◌==◌, not, List, [], ◌∷◌, if◌then◌else◌}
use Rattle.std.specs.List.{list_any}
use Rattle.link_model.specs.declared.graph.Edge.{Edge}
use Rattle.link_model.specs.declared.graph.GPlace.{GPlace}
use Rattle.link_model.specs.declared.graph.GPlace.TheVariants.{External}
use Rattle.link_model.specs.declared.graph.GSym.{GSym}
use Rattle.link_model.specs.declared.graph.LinkGraph.{LinkGraph}

abbrev pub is_defined : GPlace → Bool
is_defined (External weak) = false
is_defined _ = true

-- a unit offers its defined symbols that aren't local
abbrev pub is_offered : GSym → Bool
is_offered s = s.global && is_defined s.place

abbrev pub first_flag : List Bool → Bool
first_flag [] = false
first_flag (b ∷ bs) = b

abbrev pub other_flags : List Bool → List Bool
other_flags [] = []
other_flags (b ∷ bs) = bs

-- For each symbol whether the unit itself defines it: a local one where it is defined, an offered
-- one where it is live. `live` has a flag for each offered symbol.
abbrev pub own_symbols : List GSym → List Bool → List Bool
own_symbols [] live = []
own_symbols (s ∷ ss) live =
    if is_offered s then first_flag live ∷ own_symbols ss (other_flags live)
    else is_defined s.place ∷ own_symbols ss live

-- some edge refers to the symbol
abbrev pub is_referred : List Edge → ℕ → Bool
is_referred edges s = list_any (λ (e : Edge). e.target == s) edges

-- the numbers of the flags that pass, from k
abbrev pub numbers_where : (ℕ → Bool → Bool) → ℕ → List Bool → List ℕ
numbers_where test k [] = []
numbers_where test k (b ∷ bs) = if test k b then k ∷ numbers_where test (k + 1) bs else numbers_where test (k + 1) bs

-- the symbols that other units define and that some edge refers to, in symbol order
abbrev pub external_symbols : LinkGraph → List Bool → List ℕ
external_symbols g live = numbers_where (λ s own. not own && is_referred g.edges s) 0 (own_symbols g.symbols live)
