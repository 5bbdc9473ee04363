-- A pass that sees the history again, or reads a post, is given no unit.
use Rattle.std.proofs.Common.{◌≡◌, ℕ, zero, suc, List, ◌++◌, sym, ap, subst, ◌∙◌}
use Rattle.session_model.specs.Meaning.{Meaning}
use Rattle.session_model.specs.State.{plain_history, state}
use Rattle.session_model.specs.declared.entry.Entry.{Entry}
use Rattle.turn_lock.specs.declared.view.View.{View}
use Rattle.turn_lock.specs.Lists.{entries_of}
use Rattle.turn_lock.specs.Told.{Reads}
use Rattle.turn_lock.specs.Views.{finds_post}
use Rattle.turn_lock.proofs.Entries.{none_since}
use Rattle.shared_session.specs.Carried.{all_others, joined, legal_joined}
use Rattle.shared_session.specs.Home.{IsLawful, seat_of}
use Rattle.materialization.specs.Rest.{HoldsNone}
use Rattle.materialization.specs.declared.stage.Stage.TheVariants as stage
use Rattle.materialization.proofs.Leaving.{others_leave_has}
use Rattle.link_worker.specs.Laws.{FreeLooks, FreeReads}
use Rattle.link_worker.specs.Works.{IsFree}

pub free_looks : {U : Type 0} (means : U → Meaning) → FreeLooks means
free_looks {U} means jmax v w is shows free =
    let more : List (Entry U) = shows.later.0 in
    let grown : w.seen ≡ v.seen ++ more = shows.later.1 in
    let others = none_since seat_of v.number v.mine v.seen more shows.own (ap (entries_of seat_of v.number) (sym grown) ∙ shows.accounts.mine) in
    let legal = legal_joined means jmax v.seen more (subst (IsLawful means jmax) grown shows.legal) in
    let kept : HoldsNone (state (plain_history means v.seen ++ plain_history means more)) v.number =
    others_leave_has jmax (plain_history means v.seen) (plain_history means more) legal v.number 0 (all_others means v.number more others) stage.Over free in
    subst (HoldsNone (state (plain_history means w.seen))) (sym (ap (λ (x : View (Entry U)). x.number) is))
    (subst (λ h. HoldsNone (state h) v.number) (sym (ap (plain_history means) grown ∙ joined means jmax v.seen more)) kept)

-- what it found there leaves what it has seen
found_free : {U : Type 0} (means : U → Meaning) (i word : ℕ) (v : View (Entry U)) → IsFree means v → IsFree means (finds_post i word v)
found_free means i zero v free = free
found_free means i (suc word) v free = free

pub free_reads : {U : Type 0} (means : U → Meaning) → FreeReads means
free_reads means jmax i word v w reads free = free_looks means jmax (finds_post i word v) w reads.0 reads.1 (found_free means i word v free)
