use Rattle.std.proofs.Common.{rules}
use Rattle.link_graph.proofs.GraphFacts.{graph_sound, graph_sized, graph_offers}
use Rattle.link_graph.proofs.ReadNames.{names_are_short}
use Rattle.link_graph.proofs.Whole.{makes_error, makes_graph, graph_is}
use Rattle.link_graph.proofs.graph.graph_of.Goals as goal

pub returns-in_err-blocks-clause-exact : goal.returns-in_err-blocks-clause-exact
returns-in_err-blocks-clause-exact c = makes_error c.args.names.now c.args.o.now c.in_err-blocks.field-0.0 c.from_residual.result (search rules) c.in_err-blocks.ensures.refused

pub all_symbols-requires-clause-short : goal.all_symbols-requires-clause-short
all_symbols-requires-clause-short c = rw c.as_slice-2.ensures (names_are_short c.args.o.now c.requires)

pub returns-clause-exact : goal.returns-clause-exact
returns-clause-exact c =
    makes_graph c.all_symbols.new.names c.args.o.now _ c.in_ok-blocks.ensures.passed
    (graph_is c.all_symbols.new.names c.args.o.now c.from_vec.result c.from_vec-2.result c.from_vec-3.result (search rules) (search rules) (search rules))

pub returns-clause-sound : goal.returns-clause-sound
returns-clause-sound c =
    graph_sound c.all_symbols.new.names c.args.o.now _ c.requires c.in_ok-blocks.ensures.passed
    (graph_is c.all_symbols.new.names c.args.o.now c.from_vec.result c.from_vec-2.result c.from_vec-3.result (search rules) (search rules) (search rules))

pub returns-clause-sized : goal.returns-clause-sized
returns-clause-sized c =
    graph_sized c.all_symbols.new.names c.args.o.now _ c.requires c.in_ok-blocks.ensures.passed
    (graph_is c.all_symbols.new.names c.args.o.now c.from_vec.result c.from_vec-2.result c.from_vec-3.result (search rules) (search rules) (search rules))

pub returns-clause-offers : goal.returns-clause-offers
returns-clause-offers c =
    graph_offers c.all_symbols.new.names c.args.o.now _ c.requires (search rules)
    (graph_is c.all_symbols.new.names c.args.o.now c.from_vec.result c.from_vec-2.result c.from_vec-3.result (search rules) (search rules) (search rules))

pub returns-in_err-symbols-clause-only : goal.returns-in_err-symbols-clause-only
returns-in_err-symbols-clause-only c = rw c.as_slice-2.ensures at c.all_symbols.ensures.only

pub returns-clause-only : goal.returns-clause-only
returns-clause-only c = rw c.as_slice-2.ensures at c.all_symbols.ensures.only
