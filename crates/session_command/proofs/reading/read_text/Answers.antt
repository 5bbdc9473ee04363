use Rattle.std.proofs.Common.{arith, ◌≡◌, ◌+◌, length, subst}
use Rattle.orc_io.specs.Texts.{HasLongerFront}
use Rattle.std.specs.Io.KnownBytes.{Consumes}
use Rattle.session_script.specs.declared.limits.TheConstants.{SIZE_LIMIT}
use Rattle.session_command.proofs.TextsRead.{read_front, read_whole}
use Rattle.session_command.proofs.reading.read_text.Goals as goal

pub returns-in-Ok-clause-read : goal.returns-in-Ok-clause-read
returns-in-Ok-clause-read g c = read_whole (g.S.Source.left c.args.source.now) c.in-Ok.text c.in-Ok.ensures.whole c.in-Ok.ensures.within

pub returns-in-Err-TooLong-clause-read : goal.returns-in-Err-TooLong-clause-read
returns-in-Err-TooLong-clause-read g c =
    let long : (length c.in-Err-TooLong.front ≡ SIZE_LIMIT + 1) × Consumes (g.S.Source.left c.args.source.now) (g.S.Source.left c.read_source.new.source) c.in-Err-TooLong.front = subst (HasLongerFront SIZE_LIMIT (g.S.Source.left c.args.source.now) (g.S.Source.left c.read_source.new.source)) c.in-Err-TooLong.field-0-is c.in-Err-TooLong.ensures.too_long in
    read_front (g.S.Source.left c.args.source.now) (g.S.Source.left c.read_source.new.source) c.in-Err-TooLong.front long.0 long.1

pub returns-in-Ok-clause-end : goal.returns-in-Ok-clause-end
returns-in-Ok-clause-end g c few = c.in-Ok.ensures.end

pub returns-in-Err-TooLong-clause-end : goal.returns-in-Err-TooLong-clause-end
returns-in-Err-TooLong-clause-end g c few =
    let long : (length c.in-Err-TooLong.front ≡ SIZE_LIMIT + 1) × Consumes (g.S.Source.left c.args.source.now) (g.S.Source.left c.read_source.new.source) c.in-Err-TooLong.front = subst (HasLongerFront SIZE_LIMIT (g.S.Source.left c.args.source.now) (g.S.Source.left c.read_source.new.source)) c.in-Err-TooLong.field-0-is c.in-Err-TooLong.ensures.too_long in
    absurd (omega (arith, few, long.0))
