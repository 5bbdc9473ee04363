use Rattle.std.proofs.Common.{◌∙◌, ap, sym, map}
use Rattle.session_model.specs.Change.{instance_of}
use Rattle.link_order.specs.declared.search.Find.{Find}
use Rattle.session_model.specs.Lists.{first_some}
use Rattle.link_order.specs.Finds.{offered_in, failed_in, missing_in}
use Rattle.link_order.proofs.Refusals.{offer_refuses, error_refuses, missing_refuses, none_refuses, instances_are}
use Rattle.link_order.proofs.matching.match_names.Goals as goal

pub returns-in-Some-clause-refused : goal.returns-in-Some-clause-refused
returns-in-Some-clause-refused g c = offer_refuses (g.R.RowSource.source c.args.rows.now) c.args.order.now c.args.wanted.now c.in-Ok.all.items c.in-Some.generator c.in-Ok.ensures
    (ap (first_some offered_in) (sym c.deref.ensures.value) ∙ (sym c.first_offer.ensures ∙ c.in-Some.is))

pub returns-in-Some-first_failed-clause-refused : goal.returns-in-Some-first_failed-clause-refused
returns-in-Some-first_failed-clause-refused g c = error_refuses (g.R.RowSource.source c.args.rows.now) c.args.order.now c.args.wanted.now c.in-Ok.all.items c.in-Some-first_failed.failed c.in-Ok.ensures
    (ap (first_some offered_in) (sym c.deref.ensures.value) ∙ sym c.in_default-first_offer.ensures)
    (ap (first_some (failed_in (g.R.RowSource.source c.args.rows.now))) (sym c.deref-2.ensures.value) ∙ (sym c.first_failed.ensures ∙ c.in-Some-first_failed.is))

pub returns-in-Some-first_unmatched-clause-refused : goal.returns-in-Some-first_unmatched-clause-refused
returns-in-Some-first_unmatched-clause-refused g c = missing_refuses (g.R.RowSource.source c.args.rows.now) c.args.order.now c.args.wanted.now c.in-Ok.all.items c.in-Some-first_unmatched.name c.in-Ok.ensures
    (ap (first_some offered_in) (sym c.deref.ensures.value) ∙ sym c.in_default-first_offer.ensures)
    (ap (first_some (failed_in (g.R.RowSource.source c.args.rows.now))) (sym c.deref-2.ensures.value) ∙ sym c.in_default-first_failed.ensures)
    (ap (first_some missing_in) (sym c.deref-3.ensures.value) ∙ (sym c.first_unmatched.ensures ∙ c.in-Some-first_unmatched.is))

pub returns-in-Ok-instances-clause-matched : goal.returns-in-Ok-instances-clause-matched
returns-in-Ok-instances-clause-matched g c = c.in-Ok-instances.ensures ∙ (ap (λ fs. map (λ (f : Find). instance_of f.found) fs) (c.deref-4.ensures.value ∙ c.in-Ok.ensures) ∙ instances_are (g.R.RowSource.source c.args.rows.now) c.args.order.now c.args.wanted.now)

pub returns-in-Ok-instances-clause-allowed : goal.returns-in-Ok-instances-clause-allowed
returns-in-Ok-instances-clause-allowed g c = none_refuses (g.R.RowSource.source c.args.rows.now) c.args.order.now c.args.wanted.now c.in-Ok.all.items c.in-Ok.ensures
    (ap (first_some offered_in) (sym c.deref.ensures.value) ∙ sym c.in_default-first_offer.ensures)
    (ap (first_some (failed_in (g.R.RowSource.source c.args.rows.now))) (sym c.deref-2.ensures.value) ∙ sym c.in_default-first_failed.ensures)
    (ap (first_some missing_in) (sym c.deref-3.ensures.value) ∙ sym c.in_default-first_unmatched.ensures)
