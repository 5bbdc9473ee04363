use Rattle.std.proofs.Common.{◌≡◌, ◌∙◌, inl, List, [], ap, sym}
use Rattle.std.specs.Prelude.{slice_get}
use Rattle.std.proofs.lemmas.Option.{none-some}
use Rattle.orc_ids.specs.declared.ids.InstId.{InstId}
use Rattle.dep_groups.proofs.Alike.{sound_alike, indexed_alike, held_alike}
use Rattle.dep_groups.proofs.Told.{tells_then, told_ready}
use Rattle.dep_groups.proofs.Wakes.{same_then}
use Rattle.dep_groups.proofs.Emissions.{emitted}
use Rattle.dep_groups.proofs.emit.emit_groups.Goals as goal

pub returns-in_err-prepare-clause-whole : goal.returns-in_err-prepare-clause-whole
returns-in_err-prepare-clause-whole c =
    let old = c.args.core.now in
    let new = c.prepare.new.core in
    let a = c.prepare.ensures.alike in
    let k = c.requires.whole.kept in
    record {
      kept = record { sound = sound_alike old new a k.sound; indexed = indexed_alike old new a k.indexed; firsts = c.prepare.ensures.firsts; held = held_alike old new a k.held };
      resting = c.prepare.ensures.resting;
      covers = c.prepare.ensures.covers;
    }

pub add_all-requires-clause-sound : goal.add_all-requires-clause-sound
add_all-requires-clause-sound c = sound_alike c.args.core.now c.prepare.new.core c.prepare.ensures.alike c.requires.whole.kept.sound

pub add_all-requires-clause-held : goal.add_all-requires-clause-held
add_all-requires-clause-held c = record { held = λ i g is low. inl (held_alike c.args.core.now c.prepare.new.core c.prepare.ensures.alike c.requires.whole.kept.held i g is low) }

pub returns-clause-emitted : goal.returns-clause-emitted
returns-clause-emitted c =
    let first = c.add_all.new.core in
    let mid = c.resolve_from.new.core in
    let last = c.wake_all.new.core in
    emitted c.args.core.now c.prepare.new.core first last c.args.groups.now c.prepare.ensures.alike c.add_all.ensures.added
    (same_then first.graph mid.graph last.graph c.resolve_from.ensures.graph c.wake_all.ensures.graph)
    c.in_ok-prepare.ensures.told
    (tells_then first.graph.ready.items mid.graph.ready.items last.graph.ready.items first.told.items mid.told.items last.told.items c.resolve_from.ensures.tells c.wake_all.ensures.tells)

pub wake_all-requires-clause-ready : goal.wake_all-requires-clause-ready
wake_all-requires-clause-ready c =
    let first = c.add_all.new.core in
    let mid = c.resolve_from.new.core in
    let none : first.told.items ≡ [] = ap (λ ts. ts.items) c.add_all.ensures.added.told ∙ c.in_ok-prepare.ensures.told in
    record { ready = told_ready first.graph.ready.items mid.graph.ready.items first.told.items mid.told.items c.resolve_from.ensures.tells (λ k m is. absurd (none-some m (ap (λ (ms : List InstId). slice_get ms k) (sym none) ∙ is))) }
