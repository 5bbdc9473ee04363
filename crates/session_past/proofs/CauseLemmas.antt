-- What such calls were last answered, one entry later.
use Rattle.std.proofs.Common.{◌≡◌, ℕ, zero, suc, ◌+◌, List, [], ◌∷◌, ◌++◌, take, map, slice_get, Option, Some, None, ◌⊎◌, inl, inr, ◌↔◌, IsTrue, refl, ap, ◌∙◌, add-one}
use Rattle.std.specs.Prelude.{Bool, ◌&&◌, not}
use Rattle.std.proofs.lemmas.Option.{same_Some, none-some}
use Rattle.session_model.proofs.Choices.{or_else_assoc}
use Rattle.session_model.specs.Lists.{or_else, only_if}
use Rattle.session_model.specs.Meaning.{Meaning}
use Rattle.session_model.specs.Answer.{last_reply, is_turned_away}
use Rattle.session_model.specs.State.{plain_entry, plain_history}
use Rattle.session_model.specs.declared.entry.Entry.{Entry}
use Rattle.session_model.specs.declared.entry.Event.{Event}
use Rattle.orc_ids.specs.declared.ids.InstId.{InstId}
use Rattle.session_model.specs.Plain.{Plain}
use Rattle.session_model.specs.Answer.{LinkEnded}
use Rattle.session_model.specs.State.{state}
use Rattle.session_model.specs.declared.rows.Ending.TheVariants.{Lost}
use Rattle.session_past.specs.Causes.{last_of}
use Rattle.session_past.specs.declared.ends.Settled.{Settled}
use Rattle.session_past.specs.Ends.{AreEnds}
use Rattle.session_past.specs.Taking.{link_end}
use Rattle.session_past.proofs.TakeLemmas.{link_ended, link_end_is}

or_none : {X : Type 0} (o : Option X) → o ≡ or_else o None
or_none None = refl
or_none (Some x) = refl

last_pushed : (test : Event Meaning → Bool) (es : List (Entry Meaning)) (e : Entry Meaning) → last_reply test (es ++ e ∷ []) ≡ last_of test (last_reply test es) e
last_pushed test [] e = or_none (only_if (test e.event && not (is_turned_away e.reply)) e.reply)
last_pushed test (f ∷ fs) e = ap (λ o. or_else o (only_if (test f.event && not (is_turned_away f.reply)) f.reply)) (last_pushed test fs e)
    ∙ or_else_assoc (only_if (test e.event && not (is_turned_away e.reply)) e.reply) (last_reply test fs) (only_if (test f.event && not (is_turned_away f.reply)) f.reply)

-- one more element of a mapped list
taken_suc : {X Y : Type 0} (f : X → Y) (xs : List X) (k : ℕ) (x : X) → slice_get xs k ≡ Some x → map f (take (suc k) xs) ≡ map f (take k xs) ++ f x ∷ []
taken_suc f [] k x e = absurd (none-some x e)
taken_suc f (y ∷ ys) zero x e = ap (λ z. f z ∷ []) (same_Some y x e)
taken_suc f (y ∷ ys) (suc k) x e = ap (λ zs. f y ∷ zs) (taken_suc f ys k x e)

pub taken_more : {X Y : Type 0} (f : X → Y) (xs : List X) (k : ℕ) (x : X) → slice_get xs k ≡ Some x → map f (take (k + 1) xs) ≡ map f (take k xs) ++ f x ∷ []
taken_more f xs k x e = ap (λ n. map f (take n xs)) (add-one k) ∙ taken_suc f xs k x e

pub last_more : {U : Type 0} (means : U → Meaning) (test : Event Meaning → Bool) (past : List (Entry U)) (k : ℕ) (e : Entry U) → slice_get past k ≡ Some e →
    last_reply test (plain_history means (take (k + 1) past)) ≡ last_of test (last_reply test (plain_history means (take k past))) (plain_entry means e)
last_more means test past k e there = ap (last_reply test) (taken_more (plain_entry means) past k e there) ∙ last_pushed test (plain_history means (take k past)) (plain_entry means e)

-- a link query that was lost, beside another cause that there isn't
pub lost_cause : (past : List (Entry Meaning)) (m : Plain) (ends : List (Option Settled)) (u : ℕ) (i : InstId) (b : Bool) (A B C : Type 0) → m ≡ state past → AreEnds past m ends → (A → ⊥) →
    IsTrue b ↔ B × C × (link_end m ends u ≡ Some (Lost i)) → IsTrue b ↔ A ⊎ (B × C × LinkEnded past m u (Lost i))
lost_cause past m ends u i b A B C is a none h = (λ t. let p = h.0 t in inr (p.0, p.1, link_ended past m ends u (Lost i) a p.2), back)
  where
    back : A ⊎ (B × C × LinkEnded past m u (Lost i)) → IsTrue b
    back (inl x) = absurd (none x)
    back (inr p) = h.1 (p.0, p.1, link_end_is past m ends u (Lost i) is a p.2)
