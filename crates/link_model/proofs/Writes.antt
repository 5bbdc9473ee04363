-- Writes one after another, and bytes that are listed.
use Rattle.std.proofs.Common.{◌≡◌, ℕ, zero, suc, ◌+◌, List, [], ◌∷◌, ◌++◌, length, refl, ap}
use Rattle.link_model.specs.Image.{Write, written, all_written, listed}

pub written_append : (ws vs : List Write) (f : ℕ → ℕ) → all_written (ws ++ vs) f ≡ all_written vs (all_written ws f)
written_append [] vs f = refl
written_append (w ∷ ws) vs f = written_append ws vs (written w f)

pub listed_length : (at n : ℕ) (bytes : ℕ → ℕ) → length (listed at n bytes) ≡ n
listed_length at zero bytes = refl
listed_length at (suc n) bytes = ap suc (listed_length (at + 1) n bytes)
