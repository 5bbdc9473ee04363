use Rattle.std.proofs.Common.{map, refl}
use Rattle.clap.specs.Words.{app_of, fault_of}
use Rattle.command_line.specs.Answers.{rows_in}
use Rattle.command_line.proofs.Matched.{fault_free, refused, simple_part}
use Rattle.command_line.proofs.matching.matched.Goals as goal

pub returns-in-Ok-clause-read : goal.returns-in-Ok-clause-read
returns-in-Ok-clause-read g c =
    let rows = c.in-Ok.ensures.matches (simple_part (app_of c.args.command) c.requires) in
    fault_free (app_of c.args.command) (map g.S.AsStr.text c.args.words.now) (rows_in c.in-Ok.matches) (c.in-Ok.ensures.kinds c.requires) rows.0

pub returns-in-Err-clause-refused : goal.returns-in-Err-clause-refused
returns-in-Err-clause-refused g c =
    refused (app_of c.args.command) (map g.S.AsStr.text c.args.words.now) c.in-Err.error c.refusal_of.result (fault_of (app_of c.args.command) (map g.S.AsStr.text c.args.words.now)) refl (c.in-Err.ensures.kinds c.requires) c.refusal_of.ensures.memory c.refusal_of.ensures.words
