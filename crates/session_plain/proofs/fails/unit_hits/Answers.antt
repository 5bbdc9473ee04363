use Rattle.session_model.specs.Plain.{is_owned, is_owned_at}
use Rattle.session_plain.proofs.MarkLemmas.{hit_rows, row_tests}
use Rattle.session_plain.proofs.fails.unit_hits.Goals as goal

pub returns : goal.returns
returns c = hit_rows c.args.rows.now (is_owned_at c.args.u.0 c.args.rows.now) c.in_ok-waiting.waiting.items c.in_ok-roots.roots.items c.in_ok-hit.hit.items c.in_ok-waiting.ensures
    (row_tests c.args.rows.now (is_owned c.args.u.0) c.in_ok-roots.roots.items c.in_ok-roots.ensures)
    (λ t a. c.in_ok-hit.ensures t (rw c.deref.ensures.value a))
