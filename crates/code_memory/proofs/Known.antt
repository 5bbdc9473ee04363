-- The bases of the units, as a placement is added, filled or taken away.
use Rattle.std.proofs.Common.{◌≡◌, ℕ, Bool, true, false, Option, Some, None, List, [], ◌∷◌, ◌++◌, refl, ap, sym, ◌∙◌, cond, subst}
use Rattle.std.specs.Prelude.{find, option_map, nat_eq, ◌==◌}
use Rattle.std.specs.HashMap.{get}
use Rattle.std.proofs.lemmas.Bool.{eqb-true}
use Rattle.orc_ids.specs.declared.ids.UnitId.{UnitId}
use Rattle.code_memory.specs.declared.placement.Placement.{Placement}
use Rattle.code_memory.specs.Kept.{Bases, AreKnown}
use Rattle.code_memory.specs.Places.{is_of}
use Rattle.code_memory.proofs.LaidOut.{with}
use Rattle.code_memory.proofs.Units.{find-insert, find-owned}

abbrev base_of : Option Placement → Option ℕ
base_of o = option_map (λ (p : Placement). p.base) o

either : (b : Bool) (p : Placement) (o : Option Placement) → base_of (cond b (Some p) o) ≡ cond b (Some p.base) (base_of o)
either true p o = refl
either false p o = refl

pub known-insert : (bases next : Bases) (xs : List Placement) (p : Placement) (ys : List Placement) → AreKnown bases (xs ++ ys) → find (is_of p.unit) (xs ++ ys) ≡ None →
    ((u : ℕ) → get nat_eq next u ≡ cond (nat_eq p.unit.0 u) (Some p.base) (get nat_eq bases u)) → AreKnown next (xs ++ p ∷ ys)
known-insert bases next xs p ys known none added = record {
  at = λ u. added u.0 ∙ ap (cond (is_of u p) (Some p.base)) (known.at u) ∙ sym (ap base_of (find-insert u xs p ys none) ∙ either (is_of u p) p (find (is_of u) (xs ++ ys)));
}

removed : (b : Bool) (p : Placement) (o : Option Placement) → (b ≡ true → o ≡ None) → cond b None (base_of (cond b (Some p) o)) ≡ base_of o
removed true p o none = sym (ap base_of (none refl))
removed false p o none = refl

pub known-remove : (bases next : Bases) (xs : List Placement) (p : Placement) (ys : List Placement) → AreKnown bases (xs ++ p ∷ ys) → find (is_of p.unit) xs ≡ None → find (is_of p.unit) ys ≡ None →
    ((u : ℕ) → get nat_eq next u ≡ cond (nat_eq p.unit.0 u) None (get nat_eq bases u)) → AreKnown next (xs ++ ys)
known-remove bases next xs p ys known before after dropped = record {
  at = λ u.
      let none = find-owned p.unit xs p ys before after in
      let gone : is_of u p ≡ true → find (is_of u) (xs ++ ys) ≡ None = λ e. subst (λ k. find (λ (q : Placement). q.unit.0 == k) (xs ++ ys) ≡ None) (eqb-true p.unit.0 u.0 e) none in
      dropped u.0 ∙ ap (cond (is_of u p) None) (known.at u ∙ ap base_of (find-insert u xs p ys none)) ∙ removed (is_of u p) p (find (is_of u) (xs ++ ys)) gone;
}

same_bases : (v : UnitId) (xs : List Placement) (p : Placement) (bytes : Option (List ℕ)) (ys : List Placement) → base_of (find (is_of v) (xs ++ with p bytes ∷ ys)) ≡ base_of (find (is_of v) (xs ++ p ∷ ys))
same_bases v [] p bytes ys = either (is_of v p) (with p bytes) (find (is_of v) ys) ∙ sym (either (is_of v p) p (find (is_of v) ys))
same_bases v (x ∷ xs) p bytes ys =
    either (is_of v x) x (find (is_of v) (xs ++ with p bytes ∷ ys)) ∙ ap (cond (is_of v x) (Some x.base)) (same_bases v xs p bytes ys) ∙ sym (either (is_of v x) x (find (is_of v) (xs ++ p ∷ ys)))

pub known-set : (bases : Bases) (xs : List Placement) (p : Placement) (bytes : Option (List ℕ)) (ys : List Placement) → AreKnown bases (xs ++ p ∷ ys) → AreKnown bases (xs ++ with p bytes ∷ ys)
known-set bases xs p bytes ys known = record { at = λ u. known.at u ∙ sym (same_bases u xs p bytes ys) }
