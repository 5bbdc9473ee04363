-- The range's base and size tell whether it has the address.
use Rattle.std.proofs.Common.{◌≡◌, ◌∙◌, Some, true, false, length, ap, sym, arith}
use Rattle.std.specs.Prelude.{option_map}
use Rattle.list_laws.proofs.Lists.{some_below}
use Rattle.code_memory.specs.declared.image.Segment.{Segment}
use Rattle.exec_run.proofs.Regions.{has_is, is_in_base}
use Rattle.exec_run.proofs.find.has.Goals as goal

pub returns-then-at-start : goal.returns-then-at-start
returns-then-at-start c = (λ (e : false ≡ true). absurd cc, λ is. absurd (omega (arith, c.if-at-start.true, is_in_base c.args.ranges.now c.args.k c.args.at c.base-start.result is c.base-start.ensures)))

pub returns : goal.returns
returns c =
    let ss = c.args.ranges.now in
    let s = some_below ss c.args.k c.requires in
    let e : Some c.size.result ≡ Some (length s.0.bytes) = sym c.size.ensures ∙ ap (option_map (λ (s : Segment). length s.bytes)) s.1 in
    let long : c.size.result ≡ length s.0.bytes = cc in
    has_is ss c.args.k c.args.at c.base-start.result _ s.0.bytes c.requires c.base-start.ensures (ap (option_map (λ (s : Segment). s.bytes)) s.1) c.if-at-start.false long
