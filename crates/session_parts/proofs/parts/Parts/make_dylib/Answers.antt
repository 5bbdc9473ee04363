use Rattle.session_parts.specs.Parts.{kept_of}
use Rattle.session_parts.proofs.Others.{dylib_made}
use Rattle.session_parts.proofs.Steps.{ok_map₂}
use Rattle.session_parts.proofs.parts.Parts.make_dylib.Goals as goal

pub returns-clause-ok : goal.returns-clause-ok
returns-clause-ok g c = let a = c.requires.1.1.0 in
    ok_map₂ c.make.result (λ ds ts. record { kept = dylib_made g.U.UnitKind.meaning (kept_of c.args.self.now) g.m c.args.name c.make.new.self a.kept c.requires.1.1.1.0 ds ts; spans = a.spans }) c.make.ensures.dylibs c.make.ensures.tables
