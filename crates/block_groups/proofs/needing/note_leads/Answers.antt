use Rattle.std.proofs.Common.{◌+◌, List, length, take, get_or, pos, sym, subst, ◌∙◌, arith}
use Rattle.std.proofs.lemmas.List.{get_or_default}
use Rattle.block_groups.specs.Groups.{leads_to}
use Rattle.link_model.specs.declared.graph.Edge.{Edge}
use Rattle.block_groups.specs.Keys.{AreKeyed}
use Rattle.block_groups.proofs.Keyed.{lead_there, keyed_next, keyed_past}
use Rattle.block_groups.proofs.needing.note_leads.Goals.{in-Some+in_ok-add, in_default}
use Rattle.block_groups.proofs.needing.note_leads.Goals as goal

abbrev no_edge : Edge
no_edge = record { block = 0; offset = 0; kind = 0; target = 0; addend = pos 0 }

pub add-requires : goal.add-requires
add-requires c =
    omega (arith, lead_there c.args.g.now c.args.live.now (get_or c.as_slice-e-items.result.now c.loop-e.e-index no_edge) c.in-Some.block c.requires.sound (sym c.lead.ensures ∙ c.in-Some.is), c.loop-e.invariant.whole)

pub loop-e-preserved : goal.loop-e-preserved
loop-e-preserved c =
    let es = c.as_slice-e-items.result.now in
    let i = c.loop-e.e-index in
    let n = length c.args.g.now.blocks in
    let key = leads_to c.args.g.now c.args.live.now in
    let e : Edge = get_or es i no_edge in
    let before = subst (λ (xs : List Edge). AreKeyed key (take i xs) n c.loop-e.lists) (sym c.as_slice-e-items.ensures) c.loop-e.invariant in
    subst (λ (xs : List Edge). AreKeyed key (take (i + 1) xs) n c.match-lead.lists) c.as_slice-e-items.ensures
    (elim c.match-lead.branch [
      | in-Some+in_ok-add w ↦ rw w.lists-is (keyed_next key es n i w.in-Some.block e c.loop-e.lists w.add.new.self c.loop-e-test.true (get_or_default es i no_edge e c.loop-e-test.true) (sym c.lead.ensures ∙ w.in-Some.is) w.in_ok-add.ensures before)
      | in_default w ↦ rw w.lists-is (keyed_past key es n i e c.loop-e.lists c.loop-e-test.true (get_or_default es i no_edge e c.loop-e-test.true) (sym c.lead.ensures ∙ w.in_default.is) before)
    ])
