-- The link graph of such an object, with the numbers of names in it.
use Rattle.std.specs.Prelude.{ℕ, ◌+◌, ◌==◌, false, true, pos, [], ◌∷◌, Option, None, Some, if◌then◌else◌}
use Rattle.orc_ids.specs.declared.flags.SymFlags.{SymFlags}
use Rattle.orc_ids.specs.declared.ids.NameId.{NameId}
use Rattle.link_model.specs.declared.graph.Block.{Block}
use Rattle.link_model.specs.declared.graph.Edge.{Edge}
use Rattle.link_model.specs.declared.graph.GSym.{GSym}
use Rattle.link_model.specs.declared.graph.GPlace.{GPlace}
use Rattle.link_model.specs.declared.graph.GPlace.TheVariants.{Abs, In, External}
use Rattle.link_model.specs.declared.graph.LinkGraph.{LinkGraph}
use Rattle.generated_objects.specs.Objects.{code}

-- the number of a function's name: the four dylibs have the first ones
abbrev pub name_of : ℕ → ℕ
name_of k = 4 + k

-- exported, strong, and of no type
abbrev pub flags : SymFlags
flags = record { weak = false; common = false; exported = true; callable = false }

abbrev pub nameless : GSym
nameless = record { name = None; place = Abs 0; flags = flags; global = false }

abbrev pub named : Option NameId → GPlace → GSym
named name place = record { name = name; place = place; flags = flags; global = true }

abbrev pub function_number : ℕ → NameId
function_number k = record { 0 = name_of k }

abbrev pub code_block : ℕ → Block
code_block k = record { bytes = code k; size = 24; align = 4 }

abbrev pub call_edge : ℕ → Edge
call_edge symbol = record { block = 0; offset = 8; kind = 19; target = symbol; addend = pos 0 }

-- the graphs of the two kinds of objects, by the numbers of their names
abbrev pub lone_graph : Option NameId → ℕ → LinkGraph
lone_graph own k = record { blocks = code_block k ∷ []; symbols = nameless ∷ named own (In 0 0) ∷ []; edges = call_edge 1 ∷ [] }

abbrev pub linked_graph : Option NameId → Option NameId → ℕ → LinkGraph
linked_graph own other k = record { blocks = code_block k ∷ []; symbols = nameless ∷ named own (In 0 0) ∷ named other (External false) ∷ []; edges = call_edge 2 ∷ [] }

-- the graph of function k, which calls that one
abbrev pub graph_calling : ℕ → ℕ → LinkGraph
graph_calling callee k =
    if callee == k then lone_graph (Some (function_number k)) k else linked_graph (Some (function_number k)) (Some (function_number callee)) k
