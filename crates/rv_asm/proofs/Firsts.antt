-- The first far branch, one instruction or one section at a time.
use Rattle.std.proofs.Common.{◌≡◌, ℕ, min, Option, Some, None, refl, ap, arith}
use Rattle.rv_asm.specs.Branches.{lesser}

min_assoc : (a b c : ℕ) → min (min a b) c ≡ min a (min b c)
min_assoc a b c = omega arith

pub lesser_assoc : (a b c : Option ℕ) → lesser (lesser a b) c ≡ lesser a (lesser b c)
lesser_assoc None b c = refl
lesser_assoc (Some a) None c = refl
lesser_assoc (Some a) (Some b) None = refl
lesser_assoc (Some a) (Some b) (Some c) = ap Some (min_assoc a b c)

pub lesser_none : (a : Option ℕ) → lesser a None ≡ a
lesser_none None = refl
lesser_none (Some a) = refl

-- nothing is the lesser only of nothing and nothing
pub lesser_left : (a b : Option ℕ) → lesser a b ≡ None → a ≡ None
lesser_left None b h = refl
lesser_left (Some a) None h = h
lesser_left (Some a) (Some b) h = absurd (cc h)

pub lesser_right : (a b : Option ℕ) → lesser a b ≡ None → b ≡ None
lesser_right None b h = h
lesser_right (Some a) None h = refl
lesser_right (Some a) (Some b) h = absurd (cc h)
