-- A refusal is that of the dylib's table.
use Rattle.std.proofs.Common.{◌≡◌, ◌∙◌, length, [], ap, arith, subst, IfErr}
use Rattle.jit_dylib.specs.Rows.{Rows, first_clash, IsRefusedBy}
use Rattle.jit_dylib.specs.Shelf.{Shelf, table_of}
use Rattle.jit_dylib.proofs.Places.{read_there}
use Rattle.jit_dylib.proofs.dylibs.Dylibs.define.Goals as goal

pub returns-clause-refused : goal.returns-clause-refused
returns-clause-refused c =
    let inside = c.self.inside in
    let there : c.index_mut.result.now ≡ table_of c.args.self.now c.args.d.0 =
    read_there inside.tables.items c.args.d.0 c.index_mut.result.now c.index_mut.result.now []
    (omega (arith, c.requires.there, ap (λ (s : Shelf). length s.dylibs) c.self.view_is, c.self.invariant.0)) c.index_mut.ensures.value
    ∙ ap (λ (s : Shelf). table_of s c.args.d.0) c.self.view_is in
    subst (λ (t : Rows). IfErr c.define.result (IsRefusedBy (first_clash c.args.rows.now t c.args.offers.now))) there c.define.ensures.refused
