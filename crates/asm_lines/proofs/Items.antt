-- Lists that are read one after the other, where each may be missing.
use Rattle.std.proofs.Common.{◌≡◌, ℕ, ◌+◌, ◌<◌, Bool, List, [], ◌∷◌, ◌++◌, length, drop, get_or, append_assoc, Option, Some, None, refl, ap, sym, add-one}
use Rattle.std.proofs.Math.Seq.{drop-cons}
use Rattle.asm_lines.specs.Directives.{joined, unescaped}

-- the rest of a list, after what was read
abbrev pub prefixed : {A : Type 0} → List A → Option (List A) → Option (List A)
prefixed xs None = None
prefixed xs (Some ys) = Some (xs ++ ys)

-- one more
pub prefixed-joined : {A : Type 0} (xs : List A) (y : A) (rest : Option (List A)) → prefixed xs (joined (Some y) rest) ≡ prefixed (xs ++ y ∷ []) rest
prefixed-joined xs y None = refl
prefixed-joined xs y (Some ys) = ap (λ zs. Some zs) (sym (append_assoc xs (y ∷ []) ys))

-- the byte at a place, and what is left after it
pub unescaped_at : (escaped : Bool) (text : List ℕ) (i : ℕ) → i < length text → unescaped escaped (drop i text) ≡ unescaped escaped (get_or text i 0 ∷ drop (i + 1) text)
unescaped_at escaped text i lt = rw (add-one, drop-cons text i 0 lt) refl
