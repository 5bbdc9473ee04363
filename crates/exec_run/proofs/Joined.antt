-- Bytes that are read range by range, and the memory of an image with its stack.
use Rattle.std.proofs.Common.{◌≡◌, ◌⊎◌, ⊎_elim, inl, inr, ℕ, true, false, Option, Some, None, ◌+◌, ◌-◌, ◌<◌, ◌≤◌, List, [], ◌∷◌, ◌++◌, length, take, zero, suc, refl, ap, sym, ◌∙◌, cond, arith, append_assoc}
use Rattle.std.specs.Prelude.{option_map, slice_get, nat_lt, is_some, IsSomeAnd, ◌&&◌}
use Rattle.std.proofs.Math.Dec.{leb}
use Rattle.std.proofs.lemmas.Bool.Decides.{leb_tells}
use Rattle.std.proofs.Math.Path.{fun_ext}
use Rattle.rv_hart.specs.Map.{Map, byte_of}
use Rattle.code_memory.specs.Mapped.{byte_at, AreSegments}
use Rattle.orc_ids.specs.declared.limits.TheConstants.{CODE_START, CODE_END}
use Rattle.code_memory.specs.declared.image.Segment.{Segment}
use Rattle.exec_run.specs.declared.host.TheConstants.{STACK_START, STACK_END}
use Rattle.exec_run.specs.Bytes.{bytes_from}
use Rattle.exec_run.specs.Regions.{AreRegions, AreZeros, IsRest}
use Rattle.exec_run.specs.Start.{with_stack}
use Rattle.exec_run.proofs.Regions.{Rise, end_of, in_range, before_first, after_first, wider}
use Rattle.exec_run.proofs.Spans.{bytes_none, bytes_take, bytes_join}
use Rattle.exec_run.proofs.Loads.{byte_none}

-- the bytes of a piece, and those after it
pub piece : (ss : List Segment) (at here left : ℕ) (rest : List ℕ) → IsRest ss at rest → here ≤ length rest → here ≤ left → bytes_from (byte_at ss) at left ≡ option_map (λ more. take here rest ++ more) (bytes_from (byte_at ss) (at + here) (left - here))
piece ss at here left rest is short less =
    ap (bytes_from (byte_at ss) at) (let e : left ≡ here + (left - here) = omega arith in e)
    ∙ bytes_join (byte_at ss) at here (left - here) (take here rest) (bytes_take (byte_at ss) at (length rest) here rest is.mapped short)

some_map : (o : Option (List ℕ)) (bytes : List ℕ) → is_some (option_map (λ more. bytes ++ more) o) ≡ is_some o
some_map (Some x) bytes = refl
some_map None bytes = refl

pub piece_some : (ss : List Segment) (at here left : ℕ) (rest : List ℕ) → IsRest ss at rest → here ≤ length rest → here ≤ left → is_some (bytes_from (byte_at ss) at left) ≡ is_some (bytes_from (byte_at ss) (at + here) (left - here))
piece_some ss at here left rest is short less =
    ap is_some (piece ss at here left rest is short less) ∙ some_map (bytes_from (byte_at ss) (at + here) (left - here)) (take here rest)

map_map : (o : Option (List ℕ)) (xs ys : List ℕ) → option_map (λ more. xs ++ more) (option_map (λ more. ys ++ more) o) ≡ option_map (λ more. (xs ++ ys) ++ more) o
map_map (Some x) xs ys = ap Some (sym (append_assoc xs ys x))
map_map None xs ys = refl

pub piece_added : (ss : List Segment) (at here left : ℕ) (rest output : List ℕ) → IsRest ss at rest → here ≤ length rest → here ≤ left →
    option_map (λ more. output ++ more) (bytes_from (byte_at ss) at left) ≡ option_map (λ more. (output ++ take here rest) ++ more) (bytes_from (byte_at ss) (at + here) (left - here))
piece_added ss at here left rest output is short less =
    ap (option_map (λ more. output ++ more)) (piece ss at here left rest is short less) ∙ map_map (bytes_from (byte_at ss) (at + here) (left - here)) output (take here rest)

pub none_left : (map : Map) (at left : ℕ) → 0 < left → map at ≡ None → bytes_from map at left ≡ None
none_left map at left some none =
    bytes_none map at 0 left some (ap (byte_of map) (let e : at + 0 ≡ at = omega arith in e) ∙ byte_none map at none)

pub all_done : (map : Map) (at left : ℕ) → left ≡ zero → bytes_from map at left ≡ Some []
unfolding bytes_from
all_done map at left none = ap (bytes_from map at) none

pub added_all : (o : Option (List ℕ)) (old new : List ℕ) → Some new ≡ option_map (λ all. old ++ all) o → IsSomeAnd o (λ all. new ≡ old ++ all)
added_all (Some all) old new e = cc
added_all None old new e = absurd cc

-- an image with a stack above it
stack_above : (low : ℕ) (ss : List Segment) (t : Segment) → Rise low ss CODE_END → CODE_END ≤ t.base → 0 < length t.bytes → end_of t ≤ STACK_END → Rise low (ss ++ t ∷ []) STACK_END
stack_above low [] t rise above some within = (omega arith, some, within)
stack_above low (s ∷ ss) t rise above some within = (rise.0, rise.1, stack_above (end_of s) ss t rise.2 above some within)

pub last_there : (ss : List Segment) (t : Segment) → slice_get (ss ++ t ∷ []) (length ss) ≡ Some t
last_there [] t = refl
last_there (s ∷ ss) t = last_there ss t

pub besides : (ss : List Segment) (t : Segment) (a : ℕ) → (a < t.base) ⊎ (end_of t ≤ a) → byte_at (ss ++ t ∷ []) a ≡ byte_at ss a
besides [] t a out = ⊎_elim (λ low. before_first t [] a low) (λ high. after_first t [] a high) out
besides (s ∷ ss) t a out =
    ap (λ b. cond (nat_lt a s.base) b (cond (nat_lt a (end_of s)) (slice_get s.bytes (a - s.base)) b)) (besides ss t a out)

pub with_stack_rises : (ss : List Segment) (t : Segment) → AreSegments ss → t.base ≡ STACK_START → length t.bytes ≡ STACK_END - STACK_START → AreRegions (ss ++ t ∷ [])
with_stack_rises ss t apart base long =
    wider CODE_START 0 (ss ++ t ∷ []) STACK_END STACK_END (omega arith) (omega arith) (stack_above CODE_START ss t apart (omega (arith, base)) (omega (arith, long)) (omega (arith, base, long)))

pub with_stack_is : (ss : List Segment) (t : Segment) → AreSegments ss → t.base ≡ STACK_START → AreZeros t.bytes (STACK_END - STACK_START) → byte_at (ss ++ t ∷ []) ≡ with_stack (byte_at ss)
with_stack_is ss t apart base zeros =
    fun_ext (λ a.
    ⊎_elim (λ (e : (leb STACK_START a ≡ true) × (STACK_START ≤ a)).
    ⊎_elim (λ (f : (leb (suc a) STACK_END ≡ true) × (suc a ≤ STACK_END)).
    let high : a < end_of t = omega (arith, f.1, base, zeros.long) in
    in_range 0 (ss ++ t ∷ []) STACK_END (length ss) t a (with_stack_rises ss t apart base zeros.long) (last_there ss t) (omega (arith, e.1, base)) high
    ∙ zeros.zero_at (a - t.base) (omega (arith, e.1, f.1, base))
    ∙ sym (ap (λ b. cond (b && nat_lt a STACK_END) (Some 0) (byte_at ss a)) e.0 ∙ ap (λ b. cond b (Some 0) (byte_at ss a)) f.0))
    (λ (f : (leb (suc a) STACK_END ≡ false) × (STACK_END < suc a)).
    besides ss t a (inr (omega (arith, f.1, base, zeros.long)))
    ∙ sym (ap (λ b. cond (b && nat_lt a STACK_END) (Some 0) (byte_at ss a)) e.0 ∙ ap (λ b. cond b (Some 0) (byte_at ss a)) f.0))
    (leb_tells (suc a) STACK_END))
    (λ (e : (leb STACK_START a ≡ false) × (a < STACK_START)).
    besides ss t a (inl (omega (arith, e.1, base)))
    ∙ sym (ap (λ b. cond (b && nat_lt a STACK_END) (Some 0) (byte_at ss a)) e.0))
    (leb_tells STACK_START a))
