-- The session is that of the program that was loaded.
use Rattle.std.proofs.Common.{map, sym, subst, arith}
use Rattle.session_model.specs.State.{plain_history}
use Rattle.session_units.specs.Units.{meaning_of}
use Rattle.command_line.specs.Words.{request}
use Rattle.journal_text.specs.Journal.{AreKnown}
use Rattle.run_laws.specs.Ended.{IsRun}
use Rattle.run_answers.specs.Sessions.{IsWordOf}
use Rattle.orc_cli.proofs.LoadedRuns.{concluded, names_known, no_source, refused_word}
use Rattle.orc_cli.proofs.running.run_loaded.Goals as goal

pub link-requires-after_bounds : goal.link-requires-after_bounds
link-requires-after_bounds g c κs within = (omega arith, (c.requires.limit, (omega (arith, c.requires.few), no_source c.requires.loaded.0 (request c.args.words.now) c.args.loaded c.requires.loaded.1)))

pub conclude-found-requires-clause-known : goal.conclude-found-requires-clause-known
conclude-found-requires-clause-known g c =
    subst (λ h. AreKnown c.args.loaded.names (plain_history meaning_of h)) (sym c.journal.ensures.entries)
    (names_known c.requires.loaded.0 (request c.args.words.now) c.args.loaded c.requires.loaded.1 g.row.JMAX (plain_history meaning_of c.in_ok-end.field-0.session.journal) c.in_ok-end.field-0.end c.in_ok-end.ensures)

pub conclude-found-requires-clause-refused : goal.conclude-found-requires-clause-refused
conclude-found-requires-clause-refused g c =
    subst (λ files. IsWordOf files c.in_ok-end.field-0.end) (sym c.as_slice.ensures.value)
    (refused_word c.requires.loaded.0 (request c.args.words.now) c.args.loaded c.requires.loaded.1 g.row.JMAX (plain_history meaning_of c.in_ok-end.field-0.session.journal) c.in_ok-end.field-0.end c.in_ok-end.ensures)

pub returns : goal.returns
returns g c told loaded =
    concluded told (request c.args.words.now) c.args.loaded loaded g.row.JMAX (plain_history meaning_of c.journal.result.now) c.in_ok-end.field-0.end
    (subst (λ h. IsRun g.row.JMAX c.args.words.now.workers c.args.loaded.program.main c.args.loaded.program.entry (map meaning_of c.args.loaded.program.units.items) (plain_history meaning_of h) c.in_ok-end.field-0.end) (sym c.journal.ensures.entries) c.in_ok-end.ensures)
    c.conclude-found.result c.conclude-found.ensures.text c.conclude-found.ensures.answers
