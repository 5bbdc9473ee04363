use Rattle.std.proofs.Common.{◌≡◌, false, Option, Some, None, sym, ◌∙◌, refl, arith}
use Rattle.std.specs.Prelude.{is_some}
use Rattle.link_graph.proofs.GraphFacts.{align_inside}
use Rattle.link_graph.proofs.relocs.section_refused.Goals as goal

nothing : {X : Type 0} (o : Option X) → false ≡ is_some o → o ≡ None
nothing None h = refl
nothing (Some x) h = absurd cc

pub end_after-end-requires : goal.end_after-end-requires
end_after-end-requires c = λ align.
    let none = sym c.reloc_refused-refused.ensures ∙ nothing c.reloc_refused-refused.result c.if-is_some.ensures in
    let inside = align_inside c.args.symbols.now c.args.block c.args.section.now c.args.cuts.now c.loop-r.end _ none align in
    omega arith
