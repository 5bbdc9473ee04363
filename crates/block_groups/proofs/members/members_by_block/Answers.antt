use Rattle.std.proofs.Common.{List, ap, sym, subst, ◌∙◌, arith}
use Rattle.std.specs.List.{All}
use Rattle.link_model.specs.Sound.{PlaceFits}
use Rattle.link_model.specs.declared.graph.GPlace.{GPlace}
use Rattle.link_model.specs.declared.graph.GSym.{GSym}
use Rattle.block_groups.specs.Members.{places_of}
use Rattle.block_groups.proofs.Instances.{places_fit}
use Rattle.block_groups.proofs.members.members_by_block.Goals as goal

pub overflow_add-len : goal.overflow_add-len
overflow_add-len c = omega (arith, c.len.ensures, c.requires.sized.blocks)

pub note_members-requires-clause-fit : goal.note_members-requires-clause-fit
note_members-requires-clause-fit c =
    subst (All (λ (p : GPlace). PlaceFits c.args.g.now p)) (sym (c.deref.ensures.value ∙ c.in_ok-places.ensures ∙ ap (λ (ss : List GSym). places_of ss c.args.owners.now) c.as_slice.ensures))
    (places_fit c.args.g.now c.args.g.now.symbols c.args.owners.now c.requires.sound.symbols)
