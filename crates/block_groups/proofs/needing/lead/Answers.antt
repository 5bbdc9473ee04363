use Rattle.std.proofs.Common.{List, Bool, false, length, get_or, ap, sym, ◌∙◌, cond, None, arith}
use Rattle.link_model.proofs.Symbols.{place_at, length_own}
use Rattle.link_model.specs.Graph.{own_symbols}
use Rattle.block_groups.specs.Groups.{block_of}
use Rattle.link_model.specs.Image.{place_of}
use Rattle.link_model.specs.declared.graph.GSym.{GSym}
use Rattle.block_groups.proofs.Keyed.{flag_at, lead_is}
use Rattle.block_groups.proofs.needing.lead.Goals as goal

pub bounds-owners-target : goal.bounds-owners-target
bounds-owners-target c = omega (arith, c.requires.there, ap (λ (bs : List Bool). length bs) c.requires.owners, length_own c.args.g.now.symbols c.args.live.now)

pub returns-then-leads_on : goal.returns-then-leads_on
returns-then-leads_on c =
    let target = c.args.e.now.target in
    let owns = ap (λ (bs : List Bool). get_or bs target false) c.requires.owners ∙ flag_at (own_symbols c.args.g.now.symbols c.args.live.now) target in
    c.block_of.ensures
    ∙ ap (λ (ss : List GSym). block_of (get_or ss target _).place) c.as_slice.ensures
    ∙ ap block_of (sym (place_at c.args.g.now.symbols target _ c.requires.there))
    ∙ sym (lead_is c.args.g.now c.args.live.now c.args.e.now _ c.leads_on.result c.leads_on.ensures owns ∙ ap (λ (t : Bool). cond t (block_of (place_of c.args.g.now target)) None) c.if-leads_on.true)

pub returns-else-leads_on : goal.returns-else-leads_on
returns-else-leads_on c =
    let target = c.args.e.now.target in
    let owns = ap (λ (bs : List Bool). get_or bs target false) c.requires.owners ∙ flag_at (own_symbols c.args.g.now.symbols c.args.live.now) target in
    sym (lead_is c.args.g.now c.args.live.now c.args.e.now _ c.leads_on.result c.leads_on.ensures owns ∙ ap (λ (t : Bool). cond t (block_of (place_of c.args.g.now target)) None) c.if-leads_on.false)
