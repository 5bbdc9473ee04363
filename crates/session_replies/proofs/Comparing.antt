-- Sessions in which names match the same are searched alike.
use Rattle.std.proofs.Common.{◌≡◌, ℕ, ◌∙◌, ap, ap₂, refl, List, [], ◌∷◌, not, ◌&&◌, Option, Some, None}
use Rattle.std.specs.Prelude.{is_none}
use Rattle.orc_ids.specs.declared.lookup.OrderItem.{OrderItem}
use Rattle.orc_ids.specs.declared.lookup.Wanted.{Wanted}
use Rattle.session_model.specs.Answer.{refused_lookup, offer_of, error_of, missing_of}
use Rattle.session_model.specs.Change.{matched, instance_of}
use Rattle.session_model.specs.Lists.{or_else, first_some, only_if}
use Rattle.session_model.specs.Match.{match_of}
use Rattle.session_model.specs.Plain.{Plain, failed_at}
use Rattle.session_model.specs.declared.entry.Reply.TheVariants as reply
use Rattle.session_model.specs.declared.rows.Match.{Match}
use Rattle.session_model.specs.declared.rows.Match.TheVariants.{Instance, Offered}

pub first_same : {X Y : Type 0} (f g : X → Option Y) → ((x : X) → f x ≡ g x) → (xs : List X) → first_some f xs ≡ first_some g xs
first_same f g h [] = refl
first_same f g h (x ∷ xs) = ap₂ or_else (h x) (first_same f g h xs)

-- each name matches the same in the order
abbrev pub MatchSame : Plain → Plain → List OrderItem → Type 0
MatchSame a b order = (name : ℕ) → match_of a order name ≡ match_of b order name

-- the same instances failed
abbrev pub FailSame : Plain → Plain → Type 0
FailSame a b = (i : ℕ) → failed_at a.rows i ≡ failed_at b.rows i

pub matched_same : (a b : Plain) (order : List OrderItem) → MatchSame a b order → (wanted : List Wanted) → matched a order wanted ≡ matched b order wanted
matched_same a b order same [] = refl
matched_same a b order same (w ∷ ws) = ap₂ (λ o os. instance_of o ∷ os) (same w.name.0) (matched_same a b order same ws)

error_same : (a b : Plain) → FailSame a b → (o : Option Match) → error_of a o ≡ error_of b o
error_same a b fail None = refl
error_same a b fail (Some (Offered g)) = refl
error_same a b fail (Some (Instance i)) = ap (λ f. only_if f (reply.InError i)) (fail i.0)

pub refused_same : (a b : Plain) (order : List OrderItem) → MatchSame a b order → FailSame a b → (wanted : List Wanted) → refused_lookup a order wanted ≡ refused_lookup b order wanted
refused_same a b order same fail wanted = ap₂ or_else
    (first_same (λ (w : Wanted). offer_of (match_of a order w.name.0)) (λ (w : Wanted). offer_of (match_of b order w.name.0)) (λ w. ap offer_of (same w.name.0)) wanted)
    (ap₂ or_else
    (first_same (λ (w : Wanted). error_of a (match_of a order w.name.0)) (λ (w : Wanted). error_of b (match_of b order w.name.0)) (λ w. ap (error_of a) (same w.name.0) ∙ error_same a b fail (match_of b order w.name.0)) wanted)
    (first_same (missing_of a order) (missing_of b order) (λ w. ap (λ o. only_if (not w.weak && is_none o) (reply.Missing w.name)) (same w.name.0)) wanted))
