-- The units are asked for in the session as it was, and the unit waits once its query is lodged.
use Rattle.session_parts.proofs.Asking.{link_stage}
use Rattle.session_parts.proofs.parts.Parts.link.Given as goal

abbrev pub ghost-claim_all : goal.ghost-claim_all
ghost-claim_all g a = g.m

abbrev pub ghost-wait : goal.ghost-wait
ghost-wait g a = link_stage g.m a.query.0 a.self.now.book.queries
