-- What the parts of the reader answer, in the words of command lines.
use Rattle.std.specs.Prelude.{◌≡◌, ⊤, List, Option, None, Result, Ok, Err}
use Rattle.clap.specs.Words.{Row, found_of, rows_of}
use Rattle.clap.specs.declared.parser.matches.ArgMatches.{ArgMatches}
use Rattle.command_line.specs.declared.error.UsageKind.{UsageKind}
use Rattle.command_line.specs.declared.error.UsageKind.TheVariants.{BadWords}
use Rattle.command_line.specs.declared.error.CommandError.{CommandError}
use Rattle.command_line.specs.declared.error.CommandError.TheVariants.{Usage, NoMemory}
use Rattle.command_line.specs.declared.command.Command.{Command}
use Rattle.command_line.specs.Words.{Asked, asked_of}

-- what is asked for, or why nothing is
abbrev pub asked_or : Result Command UsageKind → Result Asked UsageKind
asked_or (Ok command) = Ok (asked_of command)
asked_or (Err kind) = Err kind

-- words don't fit, unless memory ran out
abbrev pub Refuses : Option (List Row) → CommandError → Type 0
Refuses matched (Usage BadWords) = matched ≡ None
Refuses matched (Usage _) = ⊥
Refuses matched NoMemory = ⊤

-- the matches as rows
abbrev pub rows_in : ArgMatches → List Row
rows_in matches = rows_of (found_of matches)
