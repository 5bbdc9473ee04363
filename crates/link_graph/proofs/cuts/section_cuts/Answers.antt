use Rattle.std.proofs.Common.{◌≡◌, ℕ, ◌+◌, ◌-◌, ◌<◌, ◌≤◌, true, List, [], ◌∷◌, ◌++◌, length, get_or, drop, Some, sym, ap, ◌∙◌, append_assoc, arith}
use Rattle.std.proofs.lemmas.Grind.{common_steps}
use Rattle.elf_read.specs.declared.object.Reloc.{Reloc}
use Rattle.link_graph.specs.Padding.{is_align, cut_of, cuts_from, cuts_of}
use Rattle.link_graph.specs.declared.cuts.Cut.{Cut}
use Rattle.link_graph.proofs.Deletions.{cuts_in_turn, cuts_met, in_turn_front, cuts_grow, cuts_pass, cut_bounds}
use Rattle.link_graph.proofs.cuts.section_cuts.Goals as goal
use Rattle.link_graph.proofs.cuts.section_cuts.Goals.{then-is_align+in-Some+in_ok-push, else-is_align}

pub invariant_of-result : goal.invariant_of-result
invariant_of-result c =
    in_turn_front c.loop-r.items.items (cuts_from c.args.section.now.size c.loop-r.end c.loop-r.before (drop c.loop-r.r-index c.args.section.now.relocs)) 0 0
    (rw c.loop-r.invariant.1 (cuts_in_turn c.args.section.now))

pub invariant_of-result-2 : goal.invariant_of-result-2
invariant_of-result-2 c =
    in_turn_front c.loop-r.items.items (cuts_from c.args.section.now.size c.loop-r.end c.loop-r.before (drop c.loop-r.r-index c.args.section.now.relocs)) 0 0
    (rw c.loop-r.invariant.1 (cuts_in_turn c.args.section.now))

-- one more cut
grown_step : (size end before k : ℕ) (d : Reloc) (cut : Cut) (rs : List Reloc) (xs cuts : List Cut) → k < length rs → is_align (get_or rs k d) ≡ true → Some cut ≡ cut_of size end before (get_or rs k d).at (get_or rs k d).addend → before ≤ end → xs ++ cuts_from size end before (drop k rs) ≡ cuts →
    (before + (cut.to - cut.from) ≤ cut.to) × ((xs ++ cut ∷ []) ++ cuts_from size cut.to (before + (cut.to - cut.from)) (drop (k + 1) rs) ≡ cuts)
grown_step size end before k d cut rs xs cuts lt align is le so_far =
    let bounds = cut_bounds size end before (get_or rs k d).at (get_or rs k d).addend cut is in (
      omega (arith, bounds.0, bounds.1),
      append_assoc xs (cut ∷ []) (cuts_from size cut.to (before + (cut.to - cut.from)) (drop (k + 1) rs)) ∙ ap (λ (cs : List Cut). xs ++ cs) (sym (cuts_grow size end before k d cut rs lt align is)) ∙ so_far,
    )

pub loop-r-preserved : goal.loop-r-preserved
loop-r-preserved c =
    let same = c.as_slice-r-items.ensures in
    elim c.if-is_align.branch [
      | then-is_align+in-Some+in_ok-push w ↦ (
          let made : Some w.in-Some.cut ≡ cut_of c.args.section.now.size c.loop-r.end c.loop-r.before (get_or c.as_slice-r-items.result.now c.loop-r.r-index _).at (get_or c.as_slice-r-items.result.now c.loop-r.r-index _).addend = w.in-Some.ensures in
          rw (w.items-is, w.end-is, w.before-is, w.in_ok-push.ensures.items)
          (grown_step c.args.section.now.size c.loop-r.end c.loop-r.before c.loop-r.r-index _ w.in-Some.cut c.args.section.now.relocs c.loop-r.items.items _ (rw same at c.loop-r-test.true) (rw same at (sym c.is_align.ensures ∙ w.if-is_align.true)) (rw same at made) c.loop-r.invariant.0 c.loop-r.invariant.1))
      | else-is_align w ↦ (
          rw (w.items-is, w.end-is, w.before-is) (
            c.loop-r.invariant.0,
            ap (λ (cs : List Cut). c.loop-r.items.items ++ cs) (sym (cuts_pass c.args.section.now.size c.loop-r.end c.loop-r.before c.loop-r.r-index _ c.args.section.now.relocs (rw same at c.loop-r-test.true) (rw same at (sym c.is_align.ensures ∙ w.if-is_align.false)))) ∙ c.loop-r.invariant.1,
          ))
    ]

pub returns-clause-met : goal.returns-clause-met
returns-clause-met c =
    let exact : c.loop-r.items.items ≡ cuts_of c.args.section.now = grind (arith, common_steps) in
    rw exact (cuts_met c.args.section.now)

pub returns-in_default-clause-met : goal.returns-in_default-clause-met
returns-in_default-clause-met c =
    let exact : c.loop-r.items.items ≡ cuts_of c.args.section.now = grind (arith, common_steps) in
    rw exact (cuts_met c.args.section.now)
