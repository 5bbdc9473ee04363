use Rattle.std.proofs.Common.{◌≡◌, ◌&&◌, ◌||◌, ℕ, List, ap, subst, ◌∙◌}
use Rattle.std.specs.Prelude.{nat_lt}
use Rattle.std.proofs.lemmas.Bool.{both_ways}
use Rattle.orc_ids.specs.declared.ids.InstId.{InstId}
use Rattle.session_model.specs.Reach.{is_hit}
use Rattle.instances.specs.Table.{AreChanged, is_among, failed_row}
use Rattle.instances.specs.Tied.{IsTied}
use Rattle.instances.proofs.Failures.{hits_are, hits_fail, failed_ties, failed_ready}
use Rattle.instances.proofs.Members.{contains_among}
use Rattle.instances.proofs.Readiness.{tested}
use Rattle.instances.proofs.failure.fail_hits.Goals as goal

pub fail-requires-clause-within : goal.fail-requires-clause-within
fail-requires-clause-within c = λ m in_it. c.requires.within m.0 (contains_among c.args.roots.now m in_it)

pub fail-requires-clause-unready : goal.fail-requires-clause-unready
fail-requires-clause-unready c = λ m in_it ready.
    both_ways _ (c.requires.unready m.0 (contains_among c.args.roots.now m in_it)) ((tested c.ready_is_tested.ensures c.args.instances.now.rows c.args.frontier.now.entries c.requires.tied m.0).1 ready)

step : (c : goal.After-add_all) → AreChanged (failed_row c.fail.new.self.hits) c.args.instances.now.rows c.fail-2.new.self.rows
step c = subst (λ (xs : List InstId). AreChanged (failed_row xs) c.args.instances.now.rows c.fail-2.new.self.rows) c.hits.ensures c.fail-2.ensures.rows

hits : (c : goal.After-add_all) (i : ℕ) → is_among c.fail.new.self.hits i ≡ is_hit c.args.instances.now.rows (is_among c.args.roots.now) i
hits c = hits_are c.hit_is_tested.ensures c.args.instances.now.rows c.args.frontier.now.entries c.args.roots.now c.fail.new.self.hits c.requires.tied c.fail.ensures.hits

tied : (c : goal.After-add_all) → IsTied c.fail-2.new.self.rows c.fail.new.self.entries
tied c = failed_ties c.args.instances.now.rows c.fail-2.new.self.rows c.args.frontier.now.entries c.fail.new.self.entries c.args.roots.now c.fail.new.self.hits c.requires.tied c.fail.ensures.hits c.fail.ensures.entries (step c)

pub returns-clause-rows : goal.returns-clause-rows
returns-clause-rows c = hits_fail c.args.instances.now.rows c.fail-2.new.self.rows (is_among c.args.roots.now) c.fail.new.self.hits (hits c) (step c)

pub returns-clause-tied : goal.returns-clause-tied
returns-clause-tied c = tied c

pub returns-clause-ready : goal.returns-clause-ready
returns-clause-ready c = failed_ready c.ready_is_tested.ensures c.args.instances.now.rows c.fail-2.new.self.rows c.args.frontier.now.entries c.fail.new.self.entries c.args.roots.now c.requires.tied (tied c) c.fail.ensures.entries

pub returns-clause-changed : goal.returns-clause-changed
returns-clause-changed c = λ i.
    c.add_all.ensures.added i
    ∙ ap (λ b. is_among c.args.changed.now.items i || (b && nat_lt i c.args.changed.now.places)) (ap (λ (xs : List InstId). is_among xs i) c.hits-2.ensures ∙ hits c i)
