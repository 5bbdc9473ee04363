use Rattle.session_model.specs.Meaning.{Meaning}
use Rattle.session_model.specs.State.{plain_entry}
use Rattle.session_model.specs.declared.entry.Entry.{Entry}
use Rattle.answers.specs.Memory.{gives_up}
use Rattle.answers.proofs.FirstOf.{found_any, found_no}
use Rattle.answers.proofs.memory.wanted_memory.Goals as goal

pub returns-then-gives_up : goal.returns-then-gives_up
returns-then-gives_up g c =
    let up = c.if-gives_up.true in
    let is = c.if-gives_up.ensures in
    found_any (λ (e : Entry Meaning). gives_up e.event) (plain_entry g.U.UnitKind.meaning) c.args.journal.now c.loop-entry.entry-index c.entry-item.result c.loop-entry.invariant c.loop-entry-test.true c.entry-item.is cc

pub returns : goal.returns
returns g c = found_no (λ (e : Entry Meaning). gives_up e.event) (plain_entry g.U.UnitKind.meaning) c.args.journal.now c.loop-entry.entry-index c.loop-entry.invariant c.loop-entry-test.false
