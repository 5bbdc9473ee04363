-- What settling and claiming keep.
use Rattle.std.proofs.Common.{◌≡◌, ℕ, ◌+◌, Bool, true, false, ◌&&◌, List, [], ◌∷◌, refl, Option, Some, None}
use Rattle.std.specs.Bool.{if◌then◌else◌}
use Rattle.std.specs.Option.{option_map_or}
use Rattle.std.proofs.lemmas.Bool.{and_parts}
use Rattle.session_model.specs.Plain.{Plain}
use Rattle.session_model.specs.Query.{is_met}
use Rattle.session_model.specs.Change.{settled, settled_from, settled_one, finish_listed, waits_for}
use Rattle.session_model.specs.declared.rows.Query.{Query}

-- a choice by a test
pub chosen : {X : Type 0} (P : X → Type 0) (b : Bool) (x y : X) → (b ≡ true → P x) → (b ≡ false → P y) → P (if b then x else y)
chosen P true x y f g = f refl
chosen P false x y f g = g refl

-- what each listing of a Finish job keeps, settling keeps
pub settled_one_keeps : (P : Plain → Type 0) → ((u k : ℕ) (q : Query) (m : Plain) → P m → waits_for m u k ≡ true → is_met m.rows q ≡ true → q.unit ≡ Some u → P (finish_listed u m)) → (k : ℕ) (q : Query) (m : Plain) → P m → P (settled_one k q m)
settled_one_keeps P step k q m p = split q.unit refl
  where
    split : (o : Option ℕ) → q.unit ≡ o → P (option_map_or (λ u. if is_met m.rows q && waits_for m u k then finish_listed u m else m) o m)
    split None e = p
    split (Some u) e = chosen P (is_met m.rows q && waits_for m u k) (finish_listed u m) m
        (λ b. let parts = and_parts (is_met m.rows q) (waits_for m u k) b in step u k q m p parts.1 parts.0 e) (λ b. p)

pub settling_keeps : (P : Plain → Type 0) → ((u k : ℕ) (q : Query) (m : Plain) → P m → waits_for m u k ≡ true → is_met m.rows q ≡ true → q.unit ≡ Some u → P (finish_listed u m)) → (k : ℕ) (qs : List Query) (m : Plain) → P m → P (settled_from k qs m)
settling_keeps P step k [] m p = p
settling_keeps P step k (q ∷ qs) m p = settling_keeps P step (k + 1) qs (settled_one k q m) (settled_one_keeps P step k q m p)

pub settled_rows : (m : Plain) → (settled m).rows ≡ m.rows
settled_rows m = settling_keeps (λ n. n.rows ≡ m.rows) (λ u k q n p w b e. p) 0 m.queries m refl

pub settled_queries : (m : Plain) → (settled m).queries ≡ m.queries
settled_queries m = settling_keeps (λ n. n.queries ≡ m.queries) (λ u k q n p w b e. p) 0 m.queries m refl
