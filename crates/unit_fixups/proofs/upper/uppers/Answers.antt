use Rattle.std.proofs.Common.{◌≡◌, ℕ, ◌-◌, List, drop, ap, ◌∙◌, arith, rules}
use Rattle.link_model.specs.declared.graph.Edge.{Edge}
use Rattle.unit_fixups.specs.Tables.{address_in, upper_value}
use Rattle.std.proofs.Math.Seq.{drop-length}
use Rattle.unit_fixups.proofs.Pairs.{upper_step}
use Rattle.unit_fixups.proofs.upper.uppers.Goals as goal

pub loop-k-init : goal.loop-k-init
loop-k-init c block offset = rw drop-length (search rules)

pub loop-k-preserved : goal.loop-k-preserved
loop-k-preserved c block offset =
    c.in_ok-note_upper.ensures block offset
    ∙ upper_step c.args.l.now c.args.base (address_in c.args.t.now) c.as_slice-edges.result.now (c.loop-k.k - 1) c.loop-k.k _ block offset _ (omega arith) (omega arith)
    (c.loop-k.invariant block offset)

pub returns : goal.returns
returns c block offset =
    let done : c.loop-k.k ≡ 0 = omega arith in
    c.loop-k.invariant block offset
    ∙ ap (λ (k : ℕ). upper_value c.args.l.now c.args.base (address_in c.args.t.now) (drop k c.as_slice-edges.result.now) block offset) done
    ∙ ap (λ (es : List Edge). upper_value c.args.l.now c.args.base (address_in c.args.t.now) es block offset) c.as_slice-edges.ensures
