-- What the first of several reasons comes to.
use Rattle.std.proofs.Common.{◌≡◌, Bool, true, false, List, [], ◌∷◌, Option, Some, None, refl, ap, sym, subst, ◌∙◌}
use Rattle.std.specs.Prelude.{IfSome, IfNone, unwrap_or}
use Rattle.std.specs.Option.{option_or}
use Rattle.std.proofs.lemmas.Option.{none-some}
use Rattle.session_model.specs.Lists.{first_some, only_if, or_else}

pub if_some : {X : Type 0} (P : X → Type 0) (o : Option X) → ((x : X) → o ≡ Some x → P x) → IfSome o P
if_some P None f = tt
if_some P (Some x) f = f x refl

pub if_none : {X P : Type 0} (o : Option X) → (o ≡ None → P) → IfNone o P
if_none None f = f refl
if_none (Some x) f = tt

-- what holds of each of two holds of the first that is there
pub either : {X : Type 0} (P : X → Type 0) (a b : Option X) → IfSome a P → IfSome b P → IfSome (option_or a b) P
either P None b p q = q
either P (Some x) b p q = p

pub only : {X : Type 0} (P : X → Type 0) (b : Bool) (x : X) → P x → IfSome (only_if b x) P
only P true x p = p
only P false x p = tt

pub first : {X Y : Type 0} (P : Y → Type 0) (f : X → Option Y) → ((x : X) → IfSome (f x) P) → (xs : List X) → IfSome (first_some f xs) P
first P f p [] = tt
first {X} {Y} P f p (x ∷ xs) = split (f x) (p x) (first P f p xs)
  where
    split : (o : Option Y) → IfSome o P → IfSome (first_some f xs) P → IfSome (or_else o (first_some f xs)) P
    split None q rest = rest
    split (Some y) q rest = q

-- there is none of two
pub neither : {X : Type 0} (a b : Option X) → option_or a b ≡ None → (a ≡ None) × (b ≡ None)
neither None b e = (refl, e)
neither (Some x) b e = absurd (none-some x (sym e))

pub not_so : {X : Type 0} (b : Bool) (x : X) → only_if b x ≡ None → b ≡ false
not_so true x e = absurd (none-some x (sym e))
not_so false x e = refl

-- reasons that are tried in turn
pub in_turn : {X : Type 0} (a b : Option X) (last : X) → unwrap_or a (unwrap_or b last) ≡ unwrap_or (option_or a b) last
in_turn None b last = refl
in_turn (Some x) b last = refl

pub or_same : {X : Type 0} (a b c d : Option X) → a ≡ c → b ≡ d → option_or a b ≡ option_or c d
or_same a b c d p q = ap (λ o. option_or o b) p ∙ ap (option_or c) q

-- the first reason is the answer
pub is_answer : {X : Type 0} (o reason : Option X) (r last answer : X) → o ≡ reason → o ≡ Some r → answer ≡ unwrap_or reason last → r ≡ answer
is_answer o reason r last answer is here a = sym (a ∙ ap (λ q. unwrap_or q last) (sym is ∙ here))

-- and what holds of each reason holds of it
pub holds : {X : Type 0} (P : X → Type 0) (o reason : Option X) (r : X) → o ≡ reason → o ≡ Some r → IfSome reason P → P r
holds P o reason r is here p = subst (λ q. IfSome q P) (sym is ∙ here) p
