-- Who was told at the members' calls, and the notifiers that they leave.
use Rattle.std.proofs.Common.{◌≡◌, ℕ, suc, ◌+◌, ◌⊎◌, inl, inr, List, [], ◌∷◌, ◌++◌, length, append-nil, refl, sym, ap, ◌∙◌, arith, All, Some, slice_get}
use Rattle.std.proofs.lemmas.List.{append_assoc, length_push}
use Rattle.std.proofs.lemmas.List.Elements.{All-append, All-nil}
use Rattle.std.proofs.lemmas.Option.{none-some}
use Rattle.session_laws.proofs.Declared.{pushed_cases}
use Rattle.notifiers.specs.declared.notice.Notice.{Notice}
use Rattle.script_session.specs.Members.{told_of, unlodged_in, unlodged_of}
use Rattle.script_session.specs.declared.members.Member.{Member}

module _ {U N G : Type 0} where
  -- the last one's come first
  pub told_last : (ms : List (Member U N G)) (m : Member U N G) → told_of (ms ++ m ∷ []) ≡ m.fired ∷ told_of ms
  told_last [] m = refl
  told_last (x ∷ xs) m = ap (λ l. l ++ x.fired ∷ []) (told_last xs m)

  pub unlodged_last : (ms : List (Member U N G)) (m : Member U N G) → unlodged_of (ms ++ m ∷ []) ≡ unlodged_in m.role ++ unlodged_of ms
  unlodged_last [] m = sym (append-nil (unlodged_in m.role))
  unlodged_last (x ∷ xs) m = ap (λ l. l ++ unlodged_in x.role) (unlodged_last xs m) ∙ append_assoc (unlodged_in m.role) (unlodged_of xs) (unlodged_in x.role)

  -- a list for each member
  pub count_told : (ms : List (Member U N G)) → length (told_of ms) ≡ length ms
  count_told [] = refl
  count_told (m ∷ ms) = omega (arith, length_push (told_of ms) m.fired, count_told ms)

  -- whose notices they are
  pub record ToldIs (ms : List (Member U N G)) (k : ℕ) (fired : List (Notice N)) : Type 0 where
    pub place : ℕ
    pub member : Member U N G
    pub there : slice_get ms place ≡ Some member
    pub counts : place + k + 1 ≡ length ms
    pub is : fired ≡ member.fired

  pub told_at : (ms : List (Member U N G)) (k : ℕ) (fired : List (Notice N)) → slice_get (told_of ms) k ≡ Some fired → ToldIs ms k fired
  told_at [] k fired at = absurd (none-some fired at)
  told_at (m ∷ ms) k fired at = by (told_at ms k fired) (pushed_cases (told_of ms) m.fired k fired at)
    where
      by : (slice_get (told_of ms) k ≡ Some fired → ToldIs ms k fired) → (slice_get (told_of ms) k ≡ Some fired) ⊎ ((k ≡ length (told_of ms)) × (fired ≡ m.fired)) → ToldIs (m ∷ ms) k fired
      by before (inl old) = let t = before old in record { place = suc t.place; member = t.member; there = t.there; counts = omega (arith, t.counts); is = t.is }
      by before (inr (last, same)) = record { place = 0; member = m; there = refl; counts = omega (arith, last, count_told ms); is = same }

  -- what holds of each member's notifiers holds of all
  pub all_unlodged : (P : List (ℕ × N) → Type 0) (ms : List (Member U N G)) → ((k : ℕ) (m : Member U N G) → slice_get ms k ≡ Some m → All P (unlodged_in m.role)) → All P (unlodged_of ms)
  all_unlodged P [] each = All-nil P
  all_unlodged P (m ∷ ms) each = All-append P (unlodged_of ms) (unlodged_in m.role) (all_unlodged P ms (λ k x at. each (suc k) x at)) (each 0 m refl)
