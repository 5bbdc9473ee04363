use Rattle.std.proofs.Common.{◌+◌, refl, sym, ◌∙◌, arith}
use Rattle.link_graph.proofs.LaterNames.{one_more_made}
use Rattle.link_graph.proofs.NameNumbers.{one_more_named, keeps_all, adds_name_of}
use Rattle.link_graph.proofs.symbols.all_symbols.Goals as goal
use Rattle.link_graph.proofs.symbols.all_symbols.Goals.{then-in_common, else-in_common}

pub returns-in_err-name-clause-only : goal.returns-in_err-name-clause-only
returns-in_err-name-clause-only c =
    adds_name_of c.args.names.now c.loop-s.names c.number_of.new.names c.args.symbols.now c.loop-s.s-index c.s-item.result c.loop-s.invariant.4 c.loop-s-test.true c.s-item.is c.number_of.ensures.only

pub returns-in_err-push-clause-only : goal.returns-in_err-push-clause-only
returns-in_err-push-clause-only c =
    adds_name_of c.args.names.now c.loop-s.names c.number_of.new.names c.args.symbols.now c.loop-s.s-index c.s-item.result c.loop-s.invariant.4 c.loop-s-test.true c.s-item.is c.number_of.ensures.only

pub loop-s-preserved : goal.loop-s-preserved
loop-s-preserved c = elim c.if-in_common.branch [
  | then-in_common w ↦
      rw w.common-is (
        omega arith,
        rw c.in_ok-push.ensures.items (
            one_more_made c.loop-s.names c.number_of.new.names c.args.cuts.now c.args.first_common c.loop-s.common (c.loop-s.common + 1) c.args.symbols.now c.loop-s.s-index c.s-item.result c.loop-s.made.items c.in_ok-name.name c.symbol_in_graph.result
            c.number_of.ensures.older c.loop-s-test.true c.s-item.is c.in_ok-name.ensures.number c.in_ok-name.ensures.named c.symbol_in_graph.ensures
            (rw (sym c.in_common.ensures ∙ w.if-in_common.true) refl)
            c.loop-s.invariant.1),
        keeps_all c.args.names.now c.loop-s.names c.number_of.new.names c.loop-s.invariant.2 c.number_of.ensures.older,
        one_more_named c.loop-s.names c.number_of.new.names c.args.symbols.now c.loop-s.s-index c.s-item.result c.number_of.ensures.older c.loop-s-test.true c.s-item.is
            c.in_ok-name.ensures.named
            c.loop-s.invariant.3,
        adds_name_of c.args.names.now c.loop-s.names c.number_of.new.names c.args.symbols.now c.loop-s.s-index c.s-item.result c.loop-s.invariant.4 c.loop-s-test.true c.s-item.is c.number_of.ensures.only,
      )
  | else-in_common w ↦
      rw w.common-is (
        omega arith,
        rw c.in_ok-push.ensures.items (
            one_more_made c.loop-s.names c.number_of.new.names c.args.cuts.now c.args.first_common c.loop-s.common c.loop-s.common c.args.symbols.now c.loop-s.s-index c.s-item.result c.loop-s.made.items c.in_ok-name.name c.symbol_in_graph.result
            c.number_of.ensures.older c.loop-s-test.true c.s-item.is c.in_ok-name.ensures.number c.in_ok-name.ensures.named c.symbol_in_graph.ensures
            (rw (sym c.in_common.ensures ∙ w.if-in_common.false) refl)
            c.loop-s.invariant.1),
        keeps_all c.args.names.now c.loop-s.names c.number_of.new.names c.loop-s.invariant.2 c.number_of.ensures.older,
        one_more_named c.loop-s.names c.number_of.new.names c.args.symbols.now c.loop-s.s-index c.s-item.result c.number_of.ensures.older c.loop-s-test.true c.s-item.is
            c.in_ok-name.ensures.named
            c.loop-s.invariant.3,
        adds_name_of c.args.names.now c.loop-s.names c.number_of.new.names c.args.symbols.now c.loop-s.s-index c.s-item.result c.loop-s.invariant.4 c.loop-s-test.true c.s-item.is c.number_of.ensures.only,
      )
]
