-- The queries may cross threads where their notifiers may.
use denote.RattleType.{RattleType}
use denote.Param.Send.{IsSend, sendable}
use denote.Param.SendFields.{declared_send}
use Rattle.std.proofs.Crossing as heap
use Rattle.orc_io.specs.declared.notify.Notify.{Ghosts}
use Rattle.orc_ids.proofs.ids.UnitId.TheSendSync as unit
use Rattle.session_model.proofs.rows.Query.TheSendSync as query
use Rattle.notifiers.proofs.Crossing.{armed_send}
use Rattle.query_book.proofs.board.Board.TheSendSync as board
use Rattle.query_book.proofs.rows.State.TheSendSync as state
use Rattle.query_book.specs.contracts.book.Book as Book
use Rattle.query_book.specs.contracts.book.Book.TheInside as Inside
use Rattle.query_book.specs.contracts.rows.Rows as Rows
use Rattle.query_book.specs.contracts.rows.Rows.TheInside as Within

rows_within : (N : RattleType) (g : Ghosts N.Denot) → IsSend N → IsSend (Within.the_row N g)
rows_within N g s = let armed = armed_send N g s in declared_send (Within.the_type N g) (search (sendable, heap.crosses, query.the_send, state.the_send, unit.the_send) depth 20)

rows_send : (N : RattleType) (g : Ghosts N.Denot) → IsSend N → IsSend (Rows.the_row N g)
rows_send N g s = let within = rows_within N g s in search sendable depth 20

book_inside : (N : RattleType) (g : Ghosts N.Denot) → IsSend N → IsSend (Inside.the_row N g)
book_inside N g s = let rows = rows_send N g s in declared_send (Inside.the_type N g) (search (sendable, board.the_send) depth 20)

pub book_send : (N : RattleType) (g : Ghosts N.Denot) → IsSend N → IsSend (Book.the_row N g)
book_send N g s = let inside = book_inside N g s in search sendable depth 20
