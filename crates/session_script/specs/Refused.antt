-- The reasons for which a line is refused.
use Rattle.std.specs.Prelude.{ℕ, List, codes}
use Rattle.session_script.specs.declared.error.ScriptWhy.{ScriptWhy}
use Rattle.session_script.specs.declared.error.ScriptWhy.TheVariants as why

abbrev pub why_word : ScriptWhy → List ℕ
why_word why.TooLong = codes "toolong"
why_word why.Bytes = codes "bytes"
why_word why.Word = codes "word"
why_word why.Count = codes "count"
why_word why.Name = codes "name"
why_word why.Number = codes "number"
why_word why.Order = codes "order"
why_word why.Taken = codes "taken"
why_word why.Unknown = codes "unknown"
why_word why.NoNote = codes "nonote"
why_word why.TooMany = codes "toomany"
