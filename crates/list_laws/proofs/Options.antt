-- When options are the same, and what is behind one that was mapped.
use Rattle.std.proofs.Common.{◌≡◌, Option, Some, None, option_map, is_some, unwrap_or, true, IsSome, refl, sym, ap, ◌∙◌}
use Rattle.std.proofs.lemmas.Bool.{both_ways, false≢true}
use Rattle.std.proofs.lemmas.Option.{none-some, same_Some}

pub same_element : {X : Type 0} (o : Option X) (x y : X) → o ≡ Some x → o ≡ Some y → x ≡ y
same_element o x y e f = same_Some x y (sym e ∙ f)

-- none isn't there
pub not_there : {X : Type 0} (o : Option X) → o ≡ None → is_some o ≡ true → ⊥
not_there o e t = both_ways (is_some o) (ap is_some e) t

-- two that are there and have the same value
pub same_option : {X : Type 0} (o p : Option X) (z : X) → IsSome o → IsSome p → unwrap_or o z ≡ unwrap_or p z → o ≡ p
same_option None p z some other e = absurd (false≢true some)
same_option (Some a) None z some other e = absurd (false≢true other)
same_option (Some a) (Some b) z some other e = ap Some e

pub map_parts : {X Y : Type 0} (f : X → Y) (o : Option X) (y : Y) → option_map f o ≡ Some y → (x : X) × (o ≡ Some x) × (y ≡ f x)
map_parts f None y h = absurd (none-some y h)
map_parts f (Some x) y h = (x, refl, sym (same_Some (f x) y h))
