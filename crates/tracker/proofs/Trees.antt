-- Lists of which one place changes, and steps up a tree.
use Rattle.std.proofs.Common.{◌≡◌, ℕ, zero, suc, ◌+◌, ◌<◌, ◌≤◌, ◌⊎◌, inl, inr, List, [], ◌∷◌, ◌++◌, length, set, slice_get, Option, Some, None, refl, ap, sym, ◌∙◌, arith}
use Rattle.std.specs.Prelude.{option_map, unwrap_or}
use Rattle.std.specs.Option.{option_map_or}
use Rattle.std.proofs.lemmas.Option.{none-some, slice_get_within}
use Rattle.list_laws.proofs.Lists.{front_some, missing_past}
use Rattle.list_laws.proofs.Options.{same_element}
use Rattle.tracker.specs.declared.holders.Node.{Node}
use Rattle.tracker.specs.declared.holders.TheConstants.{HEIGHT}
use Rattle.tracker.specs.Holders.{put, up_of, climbed, hung_under, AreTrees, IsLonger}

pub set_there : {X : Type 0} (xs : List X) (n : ℕ) (v w : X) → slice_get xs n ≡ Some w → slice_get (set xs n v) n ≡ Some v
set_there [] n v w e = absurd (none-some w e)
set_there (x ∷ xs) zero v w e = refl
set_there (x ∷ xs) (suc n) v w e = set_there xs n v w e

pub set_length : {X : Type 0} (xs : List X) (n : ℕ) (v : X) → length (set xs n v) ≡ length xs
set_length [] n v = refl
set_length (x ∷ xs) zero v = refl
set_length (x ∷ xs) (suc n) v = ap suc (set_length xs n v)

pub put_is : {X : Type 0} (xs : List X) (n : ℕ) (v w : X) → slice_get xs n ≡ Some w → put n v xs ≡ set xs n v
put_is {X} xs n v w e = ap (λ o. option_map_or (λ (x : X). set xs n v) o xs) e

pub hung_is : (nodes : List Node) (n above : ℕ) (x : Node) → slice_get nodes n ≡ Some x → hung_under n above nodes ≡ set nodes n (record x { up = Some above })
hung_is nodes n above x e = ap (λ o. option_map_or (λ (z : Node). set nodes n (record z { up = Some above })) o nodes) e

-- one more without a home
pub longer_push : (xs : List (Option ℕ)) → IsLonger xs (xs ++ None ∷ [])
longer_push xs g n e = front_some xs (None ∷ []) g (Some n) e

-- Steps up

-- the label stays
up_label : (nodes : List Node) (roots labels : List ℕ) (n : ℕ) → AreTrees nodes roots labels → slice_get labels (up_of nodes n) ≡ slice_get labels n
up_label nodes roots labels n t = split (slice_get nodes n) refl
  where
    by_up : (x : Node) → slice_get nodes n ≡ Some x → (o : Option ℕ) → x.up ≡ o → slice_get labels (unwrap_or o n) ≡ slice_get labels n
    by_up x e None u = refl
    by_up x e (Some p) u = sym (t.up n p x e u).3

    split : (o : Option Node) → slice_get nodes n ≡ o → slice_get labels (option_map_or (λ x. unwrap_or x.up n) o n) ≡ slice_get labels n
    split None e = refl
    split (Some x) e = by_up x e x.up refl

pub climbed_label : (k : ℕ) (nodes : List Node) (roots labels : List ℕ) (n : ℕ) → AreTrees nodes roots labels → slice_get labels (climbed k nodes n) ≡ slice_get labels n
unfolding climbed
climbed_label zero nodes roots labels n t = refl
climbed_label (suc k) nodes roots labels n t = up_label nodes roots labels (climbed k nodes n) t ∙ climbed_label k nodes roots labels n t

climbed_suc : (k : ℕ) (nodes : List Node) (n : ℕ) → climbed (suc k) nodes n ≡ up_of nodes (climbed k nodes n)
unfolding climbed
climbed_suc k nodes n = refl

pub climbed_none : (nodes : List Node) (n : ℕ) → n ≡ climbed 0 nodes n
unfolding climbed
climbed_none nodes n = refl

-- one step more
pub climbed_next : (k : ℕ) (nodes : List Node) (n : ℕ) → climbed (k + 1) nodes n ≡ up_of nodes (climbed k nodes n)
climbed_next k nodes n = let e : k + 1 ≡ suc k = omega arith in ap (λ j. climbed j nodes n) e ∙ climbed_suc k nodes n

-- at the top, or so high
abbrev IsHigh : ℕ → List Node → ℕ → Type 0
IsHigh k nodes n = (x : Node) → slice_get nodes n ≡ Some x → (x.up ≡ None) ⊎ (k ≤ x.rank)

up_high : (k : ℕ) (nodes : List Node) (roots labels : List ℕ) (n : ℕ) → AreTrees nodes roots labels → IsHigh k nodes n → IsHigh (suc k) nodes (up_of nodes n)
up_high k nodes roots labels n t high = split (slice_get nodes n) refl
  where
    by_up : (x : Node) → slice_get nodes n ≡ Some x → (o : Option ℕ) → x.up ≡ o → IsHigh (suc k) nodes (unwrap_or o n)
    by_up x e None u = λ z there. inl (ap (λ (w : Node). w.up) (same_element (slice_get nodes n) z x there e) ∙ u)
    by_up x e (Some p) u = λ z there. let q = t.up n p x e u in inr (rises z (same_element (slice_get nodes p) q.0 z q.1 there) (high x e))
      where
        rises : (z : Node) → (t.up n p x e u).0 ≡ z → (x.up ≡ None) ⊎ (k ≤ x.rank) → suc k ≤ z.rank
        rises z same (inl none) = absurd (none-some p (sym none ∙ u))
        rises z same (inr le) = omega (arith, le, (t.up n p x e u).2, ap (λ (w : Node). w.rank) same)

    split : (o : Option Node) → slice_get nodes n ≡ o → IsHigh (suc k) nodes (option_map_or (λ x. unwrap_or x.up n) o n)
    split None e = λ z there. absurd (none-some z (sym e ∙ there))
    split (Some x) e = by_up x e x.up refl

climbed_high : (k : ℕ) (nodes : List Node) (roots labels : List ℕ) (n : ℕ) → AreTrees nodes roots labels → IsHigh k nodes (climbed k nodes n)
unfolding climbed
climbed_high zero nodes roots labels n t = λ x e. inr (omega arith)
climbed_high (suc k) nodes roots labels n t = up_high k nodes roots labels (climbed k nodes n) t (climbed_high k nodes roots labels n t)

-- the root above has the label
pub holder_is : (nodes : List Node) (roots labels : List ℕ) (n t : ℕ) → AreTrees nodes roots labels → slice_get labels n ≡ Some t → option_map (λ (x : Node). x.tracker) (slice_get nodes (climbed HEIGHT nodes n)) ≡ Some t
holder_is nodes roots labels n t trees label = split (slice_get nodes (climbed HEIGHT nodes n)) refl
  where
    here : slice_get labels (climbed HEIGHT nodes n) ≡ Some t
    here = climbed_label HEIGHT nodes roots labels n trees ∙ label

    top : (x : Node) → slice_get nodes (climbed HEIGHT nodes n) ≡ Some x → (x.up ≡ None) ⊎ (HEIGHT ≤ x.rank) → Some x.tracker ≡ Some t
    top x e (inl none) = sym (trees.top (climbed HEIGHT nodes n) x e none).0 ∙ here
    top x e (inr le) = absurd (omega (arith, le, trees.low (climbed HEIGHT nodes n) x e))

    split : (o : Option Node) → slice_get nodes (climbed HEIGHT nodes n) ≡ o → option_map (λ (x : Node). x.tracker) o ≡ Some t
    split None e = absurd (past (climbed HEIGHT nodes n) e (slice_get_within labels (climbed HEIGHT nodes n) t here))
      where
        past : (k : ℕ) → slice_get nodes k ≡ None → k < length labels → ⊥
        past k f less = omega (arith, less, missing_past nodes k f, trees.count)
    split (Some x) e = top x e (climbed_high HEIGHT nodes roots labels n trees x e)
