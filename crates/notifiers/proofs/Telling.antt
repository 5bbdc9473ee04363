-- Lists of notices that grow, and what their objects have heard.
use Rattle.std.proofs.Common.{◌≡◌, ℕ, suc, List, [], ◌∷◌, ◌++◌, Option, None, Some, All, sym, ap, ◌∙◌, subst, arith, append_assoc}
use Rattle.std.proofs.lemmas.List.{map-append}
use Rattle.std.proofs.lemmas.List.Elements.{All-head, All-push}
use Rattle.orc_ids.specs.declared.lookup.Outcome.{Outcome}
use Rattle.notifiers.specs.declared.notice.Notice.{Notice}
use Rattle.notifiers.specs.Notices.{AreUnheard, AreHeard, AreNumbered, outcomes, IsTold, Told}

all_rest : {X : Type 0} (P : X → Type 0) (x : X) (xs : List X) → All P (x ∷ xs) → All P xs
all_rest P x xs all = λ k d less. all (suc k) d (omega (arith, less))

-- the others, once the first is taken out
pub heard_rest : {N : Type 0} (heard : N → Option Outcome) (all rest : List (Notice N)) (n : Notice N) → all ≡ n ∷ rest → AreHeard heard all → AreHeard heard rest
heard_rest heard all rest n first h = all_rest (λ m. heard m.what ≡ Some m.outcome) n rest (subst (AreHeard heard) first h)

pub unheard_rest : {N : Type 0} (heard : N → Option Outcome) (all rest : List (Notice N)) (n : Notice N) → all ≡ n ∷ rest → AreUnheard heard all → AreUnheard heard rest
unheard_rest heard all rest n first h = all_rest (λ m. heard m.what ≡ None) n rest (subst (AreUnheard heard) first h)

pub numbered_rest : {N : Type 0} (number : N → ℕ) (all rest : List (Notice N)) (n : Notice N) → all ≡ n ∷ rest → AreNumbered number all → AreNumbered number rest
numbered_rest number all rest n first h = all_rest (λ m. number m.what ≡ m.note) n rest (subst (AreNumbered number) first h)

pub numbered_first : {N : Type 0} (number : N → ℕ) (all rest : List (Notice N)) (n : Notice N) → all ≡ n ∷ rest → AreNumbered number all → number n.what ≡ n.note
numbered_first number all rest n first h = All-head (λ m. number m.what ≡ m.note) n rest (subst (AreNumbered number) first h)

-- a notice whose object has the number of another one's is added
pub numbered_more : {N : Type 0} (number : N → ℕ) (old new : List (Notice N)) (n m : Notice N) → new ≡ old ++ m ∷ [] → AreNumbered number old → number n.what ≡ n.note → number m.what ≡ number n.what → m.note ≡ n.note → AreNumbered number new
numbered_more number old new n m more h is same note = subst (AreNumbered number) (sym more) (All-push (λ x. number x.what ≡ x.note) old m h (same ∙ is ∙ sym note))

outcomes-push : {N : Type 0} (a b : List (Notice N)) (m n : Notice N) → outcomes a ≡ outcomes b → m.note ≡ n.note → m.outcome ≡ n.outcome → outcomes (a ++ m ∷ []) ≡ outcomes (b ++ n ∷ [])
outcomes-push {N} a b m n same note outcome =
    let f : Notice N → ℕ × Outcome = λ x. (x.note, x.outcome) in
    let e : f m ≡ f n = cc in
    map-append f a (m ∷ []) ∙ ap (λ xs. xs ++ f m ∷ []) same ∙ ap (λ x. outcomes b ++ x ∷ []) e ∙ sym (map-append f b (n ∷ []))

told_push : {N : Type 0} (heard : N → Option Outcome) (fires old new : List (Notice N)) (n m : Notice N) → Told heard fires old new → IsTold heard n m → Told heard (fires ++ n ∷ []) old (new ++ m ∷ [])
told_push heard fires old new n m t h = record {
  told = t.told ++ m ∷ [];
  added = ap (λ xs. xs ++ m ∷ []) t.added ∙ append_assoc old t.told (m ∷ []);
  same = outcomes-push t.told fires m n t.same h.note h.outcome;
  heard_it = All-push (λ x. heard x.what ≡ Some x.outcome) t.told m t.heard_it h.heard_it;
}

-- the notices before some rest were told, and those of the rest are unheard
pub record IsTelling {N : Type 0} (heard : N → Option Outcome) (all rest old new : List (Notice N)) : Type 0 where
  pub taken : List (Notice N)
  pub parts : all ≡ taken ++ rest
  pub told : Told heard taken old new
  pub unheard : AreUnheard heard rest

pub telling_more : {N : Type 0} (heard : N → Option Outcome) (all from from' old new new' : List (Notice N)) (n m : Notice N) → IsTelling heard all from old new → from ≡ n ∷ from' → IsTold heard n m → new' ≡ new ++ m ∷ [] → IsTelling heard all from' old new'
telling_more heard all from from' old new new' n m t first h more = record {
  taken = t.taken ++ n ∷ [];
  parts = t.parts ∙ ap (λ xs. t.taken ++ xs) first ∙ sym (append_assoc t.taken (n ∷ []) from');
  told = subst (Told heard (t.taken ++ n ∷ []) old) (sym more) (told_push heard t.taken old new n m t.told h);
  unheard = unheard_rest heard from from' n first t.unheard;
}
