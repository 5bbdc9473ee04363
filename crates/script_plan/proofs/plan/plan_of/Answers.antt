-- The plan was made of the script, and what its watches have left of the notes is unused.
use Rattle.std.proofs.Common.{◌≡◌, ◌++◌, ◌∙◌, None, ap, map, subst, refl}
use Rattle.std.specs.Prelude.{IfOk}
use Rattle.std.specs.Vec.Iter.{into_iter_items}
use Rattle.std.proofs.lemmas.Iterator.{items_from_collect}
use Rattle.std.proofs.lemmas.Iterator.Adapters.{YieldsList-from_vec}
use Rattle.std.proofs.lemmas.List.{length-map}
use Rattle.std.proofs.lemmas.List.Elements.{All-map}
use Rattle.script_model.specs.declared.calls.Plan.{Plan}
use Rattle.session_units.specs.Units.{meaning_of}
use Rattle.session_units.specs.declared.unit.ObjectUnit.{ObjectUnit}
use Rattle.script_plan.specs.Asked.{asked_events, asked_line}
use Rattle.script_plan.specs.Notes.{watches_of}
use Rattle.script_plan.proofs.Plans.{IsMade, can_run, handed_out, unused_numbered, unused_unheard}
use Rattle.script_plan.proofs.plan.plan_of.Given as given
use Rattle.script_plan.proofs.plan.plan_of.Goals as goal

unused_is : (g : given.Over) (c : goal.In_ok-unused g) → c.in_ok-unused.unused.items ≡ into_iter_items c.plan_clients.new.notes
unused_is g c =
    let left = c.plan_clients.new.notes in
    subst (λ r. IfOk r (λ v. v.items ≡ into_iter_items left)) c.in_ok-unused.was
    (items_from_collect c.collect.result c.collect.ensures.ran (YieldsList-from_vec {s = left} (into_iter_items left) refl left.rest.ok.0))

abbrev plan : (g : given.Over) → goal.In_ok-unused g → Plan ObjectUnit g.row.N.Denot
plan g c = record { set_up = c.in_ok-set_up.set_up; clients = c.in_ok-clients.clients }

is_made : (g : given.Over) (c : goal.In_ok-unused g) → IsMade meaning_of (map meaning_of c.args.units.now) c.args.script.now c.args.notes.items c.in_ok-unused.unused.items (plan g c)
is_made g c = record {
  set_up = c.in_ok-set_up.ensures ∙ ap (asked_events (map meaning_of c.args.units.now)) c.as_slice.ensures;
  clients = c.in_ok-clients.ensures.asked ∙ ap (map (map (asked_line (map meaning_of c.args.units.now)))) c.as_slice-2.ensures;
  taken = ap (λ after. map (λ w. w.1) (watches_of (map (λ calls. calls.items) c.in_ok-clients.clients.items)) ++ after) (unused_is g c)
      ∙ c.in_ok-clients.ensures.taken ∙ c.into_iter-notes.ensures.rest;
}

pub returns-clause-can : goal.returns-clause-can
returns-clause-can g c none =
    can_run meaning_of (map meaning_of c.args.units.now) c.args.script.now c.args.notes.items c.in_ok-unused.unused.items (plan g c) c.requires.well (is_made g c)
    g.N.Notify.heard g.N.Notify.number c.requires.unheard c.requires.numbered (length-map c.args.units.now meaning_of ∙ c.requires.files)
    (All-map (λ unit. unit.source ≡ None) meaning_of c.args.units.now none)

pub returns-clause-notes : goal.returns-clause-notes
returns-clause-notes g c =
    handed_out meaning_of (map meaning_of c.args.units.now) c.args.script.now c.args.notes.items c.in_ok-unused.unused.items (plan g c) c.requires.well (is_made g c)

pub returns-clause-unheard : goal.returns-clause-unheard
returns-clause-unheard g c =
    unused_unheard meaning_of (map meaning_of c.args.units.now) c.args.script.now c.args.notes.items c.in_ok-unused.unused.items (plan g c) c.requires.well (is_made g c)
    g.N.Notify.heard g.N.Notify.number c.requires.unheard c.requires.numbered

pub returns-clause-numbered : goal.returns-clause-numbered
returns-clause-numbered g c =
    unused_numbered meaning_of (map meaning_of c.args.units.now) c.args.script.now c.args.notes.items c.in_ok-unused.unused.items (plan g c) c.requires.well (is_made g c)
    g.N.Notify.heard g.N.Notify.number c.requires.unheard c.requires.numbered
