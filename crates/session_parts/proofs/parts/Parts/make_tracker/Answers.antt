use Rattle.std.proofs.Common.{sym, subst}
use Rattle.session_model.specs.Change.{changed}
use Rattle.session_model.specs.declared.change.Change.TheVariants.{MakeTracker}
use Rattle.session_parts.specs.Parts.{kept_of}
use Rattle.session_parts.specs.Tied.{IsTied}
use Rattle.session_parts.proofs.Others.{tracker_made}
use Rattle.session_parts.proofs.Steps.{ok_map}
use Rattle.session_parts.proofs.parts.Parts.make_tracker.Goals as goal

pub returns-clause-ok : goal.returns-clause-ok
returns-clause-ok g c = let a = c.requires.1.1 in
    ok_map c.make.result (λ e. record { kept = subst (λ owners. IsTied g.U.UnitKind.meaning (record (kept_of c.args.self.now) { owners = owners }) (changed (MakeTracker c.args.d) g.m)) (sym e) (tracker_made g.U.UnitKind.meaning (kept_of c.args.self.now) g.m c.args.d a.kept); spans = a.spans }) c.make.ensures.ok
