-- The parts of a definition's answer and change, by name.
use Rattle.std.specs.Prelude.{ℕ, Bool, ◌&&◌, ◌==◌, not, List, Option}
use Rattle.orc_ids.specs.declared.flags.SymFlags.{SymFlags}
use Rattle.orc_ids.specs.declared.ids.NameId.{NameId}
use Rattle.session_model.specs.Lists.{first_some}
use Rattle.session_model.specs.Meaning.{Meaning}
use Rattle.session_model.specs.Change.{verdict, is_replaced, loses_name}
use Rattle.session_model.specs.Answer.{clash}
use Rattle.session_model.specs.declared.entry.Reply.{Reply}
use Rattle.session_model.specs.declared.rows.InstRow.{InstRow}
use Rattle.session_model.specs.declared.rows.Verdict.{Verdict}

abbrev pub clash_of : List InstRow → ℕ → NameId × SymFlags → Option Reply
clash_of rows d offer = clash offer.0 (verdict rows d offer)

abbrev pub first_clash : List InstRow → ℕ → Meaning → Option Reply
first_clash rows d u = first_some (clash_of rows d) u.offers

-- the row is of this name of this unit, and replaced
abbrev pub lost_name : List Verdict → ℕ → ℕ → ℕ → InstRow → Bool
lost_name found u k i r = is_replaced found i && r.unit.0 == u && r.offer == k

abbrev pub left_flag : List InstRow → List Verdict → ℕ → ℕ → Bool → Bool
left_flag rows found u k flag = flag && not (loses_name rows found u k)
