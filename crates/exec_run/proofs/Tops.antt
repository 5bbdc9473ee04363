-- The ranges with the stack above them.
use Rattle.std.proofs.Common.{◌≡◌, ◌⊎◌, ⊎_elim, inl, inr, ◌↔◌, ℕ, Bool, true, false, Option, Some, None, ◌-◌, ◌<◌, ◌≤◌, List, [], ◌∷◌, ◌++◌, length, set, zero, suc, refl, ap, sym, ◌∙◌, arith}
use Rattle.std.specs.Prelude.{slice_get, IsTrue, IfSome, IfNone}
use Rattle.std.specs.Bool.{OnTrue, OnFalse}
use Rattle.std.proofs.Math.Dec.{leb}
use Rattle.std.proofs.lemmas.Bool.Decides.{leb_tells}
use Rattle.code_memory.specs.Mapped.{byte_at}
use Rattle.code_memory.specs.declared.image.Segment.{Segment}
use Rattle.exec_run.specs.declared.host.TheConstants.{STACK_START, STACK_END, STACK_SIZE}
use Rattle.exec_run.specs.Regions.{with_top, HasTop, AreRegions, AreZeros, IsFrom, IsPart, IsRest, IsPut, IsPutAt, IsSet, with_number}
use Rattle.exec_run.specs.Start.{with_stack}
use Rattle.exec_run.proofs.Joined.{last_there, besides, with_stack_rises, with_stack_is}
use Rattle.exec_run.proofs.Regions.{part_rest}

-- the stack as a range
abbrev pub top : List ℕ → Segment
top bytes = record { base = STACK_START; bytes = bytes }

low_get : (ss ts : List Segment) (k : ℕ) (s : Segment) → slice_get ss k ≡ Some s → slice_get (ss ++ ts) k ≡ Some s
low_get [] ts k s there = absurd cc
low_get (x ∷ ss) ts zero s there = there
low_get (x ∷ ss) ts (suc k) s there = low_get ss ts k s there

low_set : (ss ts : List Segment) (k : ℕ) (s t : Segment) → slice_get ss k ≡ Some s → set ss k t ++ ts ≡ set (ss ++ ts) k t
low_set [] ts k s t there = absurd cc
low_set (x ∷ ss) ts zero s t there = refl
low_set (x ∷ ss) ts (suc k) s t there = ap (λ xs. x ∷ xs) (low_set ss ts k s t there)

top_set : (ss : List Segment) (t u : Segment) → ss ++ u ∷ [] ≡ set (ss ++ t ∷ []) (length ss) u
top_set [] t u = refl
top_set (s ∷ ss) t u = ap (λ xs. s ∷ xs) (top_set ss t u)

pub top_rises : (ss : List Segment) (bytes : List ℕ) → HasTop ss bytes → AreRegions (with_top ss bytes)
top_rises ss bytes has = with_stack_rises ss (top bytes) has.apart refl has.long

pub top_starts : (ss : List Segment) (bytes : List ℕ) → HasTop ss bytes → AreZeros bytes STACK_SIZE → byte_at (with_top ss bytes) ≡ with_stack (byte_at ss)
top_starts ss bytes has zeros = with_stack_is ss (top bytes) has.apart refl zeros

-- what is read of a range, and of the stack
pub rest_low : (ss : List Segment) (bytes : List ℕ) (at : ℕ) (rest : List ℕ) → HasTop ss bytes → IsPart ss at rest → IsRest (with_top ss bytes) at rest
rest_low ss bytes at rest has part =
    part_rest (with_top ss bytes) at rest (top_rises ss bytes has)
    (record { range = part.range; segment = part.segment; there = low_get ss (top bytes ∷ []) part.range part.segment part.there; low = part.low; from = part.from })

pub rest_top : (ss : List Segment) (bytes : List ℕ) (at : ℕ) (rest : List ℕ) → HasTop ss bytes → STACK_START ≤ at → IsFrom bytes (at - STACK_START) rest → IsRest (with_top ss bytes) at rest
rest_top ss bytes at rest has low from =
    part_rest (with_top ss bytes) at rest (top_rises ss bytes has) (record { range = length ss; segment = top bytes; there = last_there ss (top bytes); low = low; from = from })

-- an address that isn't on the stack
pub off_stack : (b : Bool) (at : ℕ) → (IsTrue b ↔ ((STACK_START ≤ at) × (at < STACK_END))) → b ≡ false → (at < STACK_START) ⊎ (STACK_END ≤ at)
off_stack b at is outside =
    ⊎_elim (λ (e : (leb STACK_START at ≡ true) × (STACK_START ≤ at)).
    ⊎_elim (λ (f : (leb (suc at) STACK_END ≡ true) × (suc at ≤ STACK_END)). absurd (let yes : b ≡ true = is.1 (e.1, f.1) in let f' : false ≡ true = sym outside ∙ yes in cc))
    (λ (f : (leb (suc at) STACK_END ≡ false) × (STACK_END < suc at)). inr (omega (arith, f.1)))
    (leb_tells (suc at) STACK_END))
    (λ (e : (leb STACK_START at ≡ false) × (at < STACK_START)). inl e.1)
    (leb_tells STACK_START at)

pub none_low : (ss : List Segment) (bytes : List ℕ) (at : ℕ) → HasTop ss bytes → (at < STACK_START) ⊎ (STACK_END ≤ at) → byte_at ss at ≡ None → byte_at (with_top ss bytes) at ≡ None
none_low ss bytes at has off none =
    besides ss (top bytes) at (⊎_elim (λ (low : at < STACK_START). inl low) (λ (high : STACK_END ≤ at). inr (omega (arith, has.long))) off) ∙ none

-- what is written in a range, and on the stack
pub put_low : (old new : List Segment) (bytes : List ℕ) (k at width value : ℕ) → IsPut old new k at width value → IsPut (with_top old bytes) (with_top new bytes) k at width value
put_low old new bytes k at width value put = record {
  segment = put.segment;
  there = low_get old (top bytes ∷ []) k put.segment put.there;
  low = put.low;
  high = put.high;
  fits = put.fits;
  written = ap (λ ss. with_top ss bytes) put.written ∙ low_set old (top bytes ∷ []) k put.segment _ put.there;
}

pub set_low : (old new : List Segment) (bytes : List ℕ) (k at byte : ℕ) → IsSet old new k at byte → IsSet (with_top old bytes) (with_top new bytes) k at byte
set_low old new bytes k at byte set_in = record {
  segment = set_in.segment;
  there = low_get old (top bytes ∷ []) k set_in.segment set_in.there;
  low = set_in.low;
  high = set_in.high;
  written = ap (λ ss. with_top ss bytes) set_in.written ∙ low_set old (top bytes ∷ []) k set_in.segment _ set_in.there;
}

pub put_top : (ss : List Segment) (old new : List ℕ) (at width value : ℕ) → length old ≡ STACK_SIZE → STACK_START ≤ at → at < STACK_END → IsPutAt old new (at - STACK_START) width value → IsPut (with_top ss old) (with_top ss new) (length ss) at width value
put_top ss old new at width value long low high put = record {
  segment = top old;
  there = last_there ss (top old);
  low = low;
  high = omega arith;
  fits = put.fits;
  written = ap (with_top ss) put.written ∙ top_set ss (top old) (top (with_number old (at - STACK_START) width value));
}

pub set_top : (ss : List Segment) (old new : List ℕ) (at byte : ℕ) → length old ≡ STACK_SIZE → STACK_START ≤ at → at < STACK_END → new ≡ set old (at - STACK_START) byte → IsSet (with_top ss old) (with_top ss new) (length ss) at byte
set_top ss old new at byte long low high is = record {
  segment = top old;
  there = last_there ss (top old);
  low = low;
  high = omega arith;
  written = ap (with_top ss) is ∙ top_set ss (top old) (top (set old (at - STACK_START) byte));
}

-- what a call ensures, as a fact that follows from it
pub some_so : {T : Type 0} (o : Option T) (P Q : T → Type 0) → IfSome o P → ((x : T) → P x → Q x) → IfSome o Q
some_so None P Q h so = h
some_so (Some x) P Q h so = so x h

pub none_so : {T : Type 0} (o : Option T) (P Q : Type 0) → IfNone o P → (P → Q) → IfNone o Q
none_so None P Q h so = so h
none_so (Some x) P Q h so = h

pub true_so : (b : Bool) (P Q : Type 0) → OnTrue b P → (P → Q) → OnTrue b Q
true_so true P Q h so = so h
true_so false P Q h so = h

pub false_so : (b : Bool) (P Q : Type 0) → OnFalse b P → (P → Q) → OnFalse b Q
false_so true P Q h so = h
false_so false P Q h so = so h
