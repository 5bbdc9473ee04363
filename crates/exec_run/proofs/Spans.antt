-- Several bytes at once: how they are read, cut and joined.
use Rattle.std.proofs.Common.{◌≡◌, ℕ, Option, Some, None, ◌+◌, ◌*◌, ◌^◌, ◌<◌, ◌≤◌, List, [], ◌∷◌, ◌++◌, length, take, drop, zero, suc, refl, ap, sym, ◌∙◌, arith}
use Rattle.std.specs.Prelude.{replicate, option_map}
use Rattle.rv_hart.specs.Map.{Map, byte_of, read, joined}
use Rattle.exec_run.specs.Bytes.{bytes_from, before}
use Rattle.exec_run.specs.Regions.{number_of}

-- what bytes that are all mapped begin with
pub record Begins (o : Option ℕ) (r : Option (List ℕ)) (bytes : List ℕ) : Type 0 where
  pub byte : ℕ
  pub others : List ℕ
  pub byte_is : o ≡ Some byte
  pub others_are : r ≡ Some others
  pub all : bytes ≡ byte ∷ others

before_some : (o : Option ℕ) (r : Option (List ℕ)) (bytes : List ℕ) → before o r ≡ Some bytes → Begins o r bytes
before_some (Some b) (Some bs) bytes h = record { byte = b; others = bs; byte_is = refl; others_are = refl; all = let e : b ∷ bs ≡ bytes = cc in sym e }
before_some (Some b) None bytes h = absurd cc
before_some None r bytes h = absurd cc

before_none : (o : Option ℕ) → before o None ≡ None
before_none (Some b) = refl
before_none None = refl

pub bytes_begin : (map : Map) (at n : ℕ) (bytes : List ℕ) → bytes_from map at (suc n) ≡ Some bytes → Begins (byte_of map at) (bytes_from map (at + 1) n) bytes
unfolding bytes_from
bytes_begin map at n bytes h = before_some (byte_of map at) (bytes_from map (at + 1) n) bytes h

bytes_zero : (map : Map) (at : ℕ) (bytes : List ℕ) → bytes_from map at zero ≡ Some bytes → bytes ≡ []
unfolding bytes_from
bytes_zero map at bytes h = let e : [] ≡ bytes = cc in sym e

bytes_suc : (map : Map) (at n : ℕ) → bytes_from map at (suc n) ≡ before (byte_of map at) (bytes_from map (at + 1) n)
unfolding bytes_from
bytes_suc map at n = refl

-- one more byte
pub bytes_more : (map : Map) (at k : ℕ) (bytes : List ℕ) (x : ℕ) → bytes_from map at k ≡ Some bytes → byte_of map (at + k) ≡ Some x → bytes_from map at (suc k) ≡ Some (bytes ++ x ∷ [])
unfolding bytes_from
bytes_more map at zero bytes x front more =
    let none = bytes_zero map at bytes front in
    let here : byte_of map at ≡ Some x = ap (byte_of map) (let e : at ≡ at + zero = omega arith in e) ∙ more in
    ap (λ o. before o (Some [])) here ∙ ap (λ bs. Some (bs ++ x ∷ [])) (sym none)
bytes_more map at (suc k) bytes x front more =
    let b = bytes_begin map at k bytes front in
    let later : bytes_from map (at + 1) (suc k) ≡ Some (b.others ++ x ∷ []) =
    bytes_more map (at + 1) k b.others x b.others_are (ap (byte_of map) (let e : at + 1 + k ≡ at + suc k = omega arith in e) ∙ more) in
    bytes_suc map at (suc k)
    ∙ ap (λ o. before o (bytes_from map (at + 1) (suc k))) b.byte_is
    ∙ ap (before (Some b.byte)) later
    ∙ ap (λ bs. Some (bs ++ x ∷ [])) (sym b.all)

-- one that isn't mapped
pub bytes_none : (map : Map) (at k n : ℕ) → k < n → byte_of map (at + k) ≡ None → bytes_from map at n ≡ None
bytes_none map at k zero less none = absurd (omega arith)
bytes_none map at zero (suc n) less none =
    bytes_suc map at n ∙ ap (λ o. before o (bytes_from map (at + 1) n)) (ap (byte_of map) (let e : at ≡ at + zero = omega arith in e) ∙ none)
bytes_none map at (suc k) (suc n) less none =
    bytes_suc map at n
    ∙ ap (before (byte_of map at)) (bytes_none map (at + 1) k n (omega arith) (ap (byte_of map) (let e : at + 1 + k ≡ at + suc k = omega arith in e) ∙ none))
    ∙ before_none (byte_of map at)

-- the number that is read is that of the bytes
joined_number : (o : Option ℕ) (r : Option (List ℕ)) → joined o (option_map number_of r) ≡ option_map number_of (before o r)
joined_number (Some b) (Some bs) = refl
joined_number (Some b) None = refl
joined_number None r = refl

pub read-bytes : (map : Map) (at n : ℕ) → read map at n ≡ option_map number_of (bytes_from map at n)
unfolding read bytes_from
read-bytes map at zero = refl
read-bytes map at (suc n) =
    ap (joined (byte_of map at)) (read-bytes map (at + 1) n) ∙ joined_number (byte_of map at) (bytes_from map (at + 1) n)

-- the first of the bytes
pub bytes_take : (map : Map) (at n k : ℕ) (bytes : List ℕ) → bytes_from map at n ≡ Some bytes → k ≤ n → bytes_from map at k ≡ Some (take k bytes)
unfolding bytes_from
bytes_take map at n zero bytes all less = refl
bytes_take map at zero (suc k) bytes all less = absurd (omega arith)
bytes_take map at (suc n) (suc k) bytes all less =
    let b = bytes_begin map at n bytes all in
    ap (λ o. before o (bytes_from map (at + 1) k)) b.byte_is
    ∙ ap (before (Some b.byte)) (bytes_take map (at + 1) n k b.others b.others_are (omega arith))
    ∙ ap (λ bs. Some (take (suc k) bs)) (sym b.all)

pub bytes_length : (map : Map) (at n : ℕ) (bytes : List ℕ) → bytes_from map at n ≡ Some bytes → length bytes ≡ n
bytes_length map at zero bytes all = ap length (bytes_zero map at bytes all)
bytes_length map at (suc n) bytes all =
    let b = bytes_begin map at n bytes all in
    ap length b.all ∙ ap suc (bytes_length map (at + 1) n b.others b.others_are)

-- bytes after others
before_map : (o : Option ℕ) (x : ℕ) (xs : List ℕ) (r : Option (List ℕ)) → o ≡ Some x → before o (option_map (λ ys. xs ++ ys) r) ≡ option_map (λ ys. (x ∷ xs) ++ ys) r
before_map o x xs r is = ap (λ p. before p (option_map (λ ys. xs ++ ys) r)) is ∙ some r
  where
    some : (r : Option (List ℕ)) → before (Some x) (option_map (λ ys. xs ++ ys) r) ≡ option_map (λ ys. (x ∷ xs) ++ ys) r
    some (Some ys) = refl
    some None = refl

map_same : (r : Option (List ℕ)) → r ≡ option_map (λ ys. [] ++ ys) r
map_same (Some ys) = refl
map_same None = refl

pub bytes_join : (map : Map) (at n k : ℕ) (bytes : List ℕ) → bytes_from map at n ≡ Some bytes → bytes_from map at (n + k) ≡ option_map (λ more. bytes ++ more) (bytes_from map (at + n) k)
bytes_join map at zero k bytes front =
    ap (bytes_from map at) (let e : zero + k ≡ k = omega arith in e)
    ∙ ap (λ a. bytes_from map a k) (let e : at ≡ at + zero = omega arith in e)
    ∙ map_same (bytes_from map (at + zero) k)
    ∙ ap (λ bs. option_map (λ more. bs ++ more) (bytes_from map (at + zero) k)) (sym (bytes_zero map at bytes front))
bytes_join map at (suc n) k bytes front =
    let b = bytes_begin map at n bytes front in
    ap (bytes_from map at) (let e : suc n + k ≡ suc (n + k) = omega arith in e)
    ∙ bytes_suc map at (n + k)
    ∙ ap (before (byte_of map at)) (bytes_join map (at + 1) n k b.others b.others_are ∙ ap (λ a. option_map (λ more. b.others ++ more) (bytes_from map a k)) (let e : at + 1 + n ≡ at + suc n = omega arith in e))
    ∙ before_map (byte_of map at) b.byte b.others (bytes_from map (at + suc n) k) b.byte_is
    ∙ ap (λ bs. option_map (λ more. bs ++ more) (bytes_from map (at + suc n) k)) (sym b.all)

-- zero bytes at the end make no difference to a number
number_zeros : (n : ℕ) → number_of (replicate n 0) ≡ 0
number_zeros zero = refl
number_zeros (suc n) = omega (arith, number_zeros n)

pub number_take : (bytes : List ℕ) (k n : ℕ) → drop k bytes ≡ replicate n 0 → number_of bytes ≡ number_of (take k bytes)
number_take bytes zero n zeros = ap number_of (let e : drop zero bytes ≡ replicate n 0 = zeros in e) ∙ number_zeros n
number_take [] (suc k) n zeros = refl
number_take (b ∷ bytes) (suc k) n zeros = ap (λ m. b + 2 ^ 8 * m) (number_take bytes k n zeros)
