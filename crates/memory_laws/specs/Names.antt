-- What names stand for among the objects of a program (System V gABI, "Symbol Table"): the first strong definition, or
-- else the first that is weak or common.
use Rattle.std.specs.Prelude.{ℕ, ◌+◌, Bool, false, ◌&&◌, ◌==◌, List, [], ◌∷◌, Option, None, option_map, position, if◌then◌else◌}
use Rattle.std.specs.Option.{option_map_or}
use Rattle.link_model.specs.Graph.{is_offered}
use Rattle.link_model.specs.Offers.{name_of}
use Rattle.link_model.specs.declared.graph.GSym.{GSym}
use Rattle.link_model.specs.declared.graph.LinkGraph.{LinkGraph}
use Rattle.session_model.specs.Change.{is_strong}
use Rattle.session_model.specs.Lists.{or_else}

-- the symbol is a definition of the name
abbrev pub defines : ℕ → GSym → Bool
defines name s = is_offered s && (name_of s).0 == name

-- it is neither weak nor common
abbrev pub defines_strongly : ℕ → GSym → Bool
defines_strongly name s = defines name s && is_strong s.flags

-- the first symbol that passes, by the numbers of its object and its own; the first object has number k
abbrev pub first_symbol : (GSym → Bool) → ℕ → List LinkGraph → Option (ℕ × ℕ)
first_symbol test k [] = None
first_symbol test k (g ∷ gs) = or_else (option_map (λ s. (k, s)) (position test g.symbols)) (first_symbol test (k + 1) gs)

-- the definition of a name
abbrev pub definition : List LinkGraph → ℕ → Option (ℕ × ℕ)
definition graphs name = or_else (first_symbol (defines_strongly name) 0 graphs) (first_symbol (defines name) 0 graphs)

-- symbol s of object k is the definition of its name
abbrev pub is_definition : List LinkGraph → ℕ → ℕ → GSym → Bool
is_definition graphs k s symbol = option_map_or (λ (d : ℕ × ℕ). d.0 == k && d.1 == s) (definition graphs (name_of symbol).0) false

-- which of the names that an object offers are its own, the first symbol having number s
abbrev pub kept_from : List LinkGraph → ℕ → ℕ → List GSym → List Bool
kept_from graphs k s [] = []
kept_from graphs k s (symbol ∷ symbols) =
    if is_offered symbol then is_definition graphs k s symbol ∷ kept_from graphs k (s + 1) symbols
    else kept_from graphs k (s + 1) symbols

abbrev pub kept_names : List LinkGraph → ℕ → LinkGraph → List Bool
kept_names graphs k g = kept_from graphs k 0 g.symbols
