-- New seats begin without a unit.
use Rattle.std.proofs.Common.{◌≡◌, ℕ, ◌<◌, List, [], sym, subst, arith, All}
use Rattle.std.proofs.lemmas.List.Elements.{All-map}
use Rattle.std.proofs.lemmas.Option.{none-some}
use Rattle.list_laws.proofs.Each.{all_at}
use Rattle.session_model.specs.History.{IsLegal}
use Rattle.session_model.specs.Meaning.{Meaning}
use Rattle.session_model.specs.State.{plain_entry, plain_history, state}
use Rattle.session_model.specs.declared.entry.Entry.{Entry}
use Rattle.materialization.specs.Rest.{HoldsNone}
use Rattle.materialization.specs.declared.stage.Stage.TheVariants as stage
use Rattle.materialization.proofs.Leaving.{others_leave_has}
use Rattle.turn_lock.specs.declared.view.View.{View}
use Rattle.link_worker.specs.Works.{IsFree}
use Rattle.crew.specs.Crew.{MayBegin}
use Rattle.link_worker.specs.First.{IsFirst}

module _ {U : Type 0} (means : U → Meaning) where
  -- of a list of entries, as they are seen
  pub plain_all : (P : ℕ → Type 0) (es : List (Entry U)) → All (λ (e : Entry U). P e.seat.0) es → All (λ (e : Entry Meaning). P e.seat.0) (plain_history means es)
  plain_all P es all = All-map (λ (e : Entry Meaning). P e.seat.0) (plain_entry means) es all

-- entries of another seat give a seat no unit
pub new_is_free : {U : Type 0} (means : U → Meaning) (jmax : ℕ) (seen : List (Entry U)) (s : ℕ) → 0 < s → IsLegal jmax (plain_history means seen) → All (λ (e : Entry U). e.seat.0 ≡ 0) seen → HoldsNone (state (plain_history means seen)) s
new_is_free means jmax seen s some legal own =
    others_leave_has jmax [] (plain_history means seen) legal s 0
    (λ k e there its. let zeroth = all_at (λ (x : Entry Meaning). x.seat.0 ≡ 0) (plain_history means seen) k e (plain_all means (λ n. n ≡ 0) seen own) there in omega (arith, its, zeroth, some))
    stage.Over (λ u x there its. none-some x there)

module _ {U D : Type 0} (means : U → Meaning) (jmax : ℕ) where
  -- new seats can begin
  pub may_begin : (v : View (Entry U)) (duties : List D) → IsFirst means jmax v → MayBegin (λ d w. IsFree means w) v duties
  may_begin v duties f k d lt number w low high new =
      subst (λ l. HoldsNone (state (plain_history means l)) w.number) (sym new.seen_is)
      (subst (λ s. HoldsNone (state (plain_history means v.seen)) s) (sym new.number_is) (new_is_free means jmax v.seen number (omega (arith, low, f.from)) f.lawful.legal f.own))
